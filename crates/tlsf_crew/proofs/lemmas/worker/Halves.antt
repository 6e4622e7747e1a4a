-- A list that is cut in two, written at one place of each part and joined again is the list with these two places written.
use Rattle.tlsf_crew.proofs.Common.{◌≡◌, ℕ, ◌+◌, ◌-◌, ◌<◌, ◌≤◌, List, ◌++◌, Some, length, get_or, set, take, drop, ◌∙◌, arith, refl, slice_get, get_or_from_slice_get, set-append_left, set-append_right, take-append-drop, get_or-take, get_or-drop, length-take-le, length-set}

pub low_is : {X : Type 0} (ws low : List X) (k l : ℕ) (a d : X) → low ≡ take l ws → k < l → slice_get ws k ≡ Some a → get_or low k d ≡ a
low_is ws low k l a d e lt s = rw (e, get_or-take l ws k d lt) (get_or_from_slice_get ws k a d s)

pub high_is : {X : Type 0} (ws high : List X) (l : ℕ) (b d : X) → high ≡ drop l ws → slice_get ws l ≡ Some b → get_or high 0 d ≡ b
high_is ws high l b d e s = let z : l + 0 ≡ l = omega arith in rw (e, get_or-drop l ws 0 d, z) (get_or_from_slice_get ws l b d s)

parted : {X : Type 0} (ws t r : List X) (k l : ℕ) (x y : X) → t ++ r ≡ ws → length t ≡ l → k < l
    → set t k x ++ set r 0 y ≡ set (set ws k x) l y
parted ws t r k l x y e n lt =
    let m : k < length t = omega arith in
    let q : length (set t k x) ≡ l = length-set t k x ∙ n in
    let z : l - l ≡ 0 = omega arith in
    let le : l ≤ l = omega arith in
    rw (← e, set-append_left t r k x m, set-append_right (set t k x) r l l y q le, z) refl

pub low_first : {X : Type 0} (ws low high : List X) (k l : ℕ) (x y : X) → low ≡ take l ws → high ≡ drop l ws → k < l → l ≤ length ws
    → set low k x ++ set high 0 y ≡ set (set ws k x) l y
low_first ws low high k l x y e f lt le =
    rw (e, f) (parted ws (take l ws) (drop l ws) k l x y (take-append-drop l ws) (length-take-le l ws le) lt)

parted_2 : {X : Type 0} (ws t r : List X) (k l : ℕ) (x y : X) → t ++ r ≡ ws → length t ≡ l → k < l
    → set t k x ++ set r 0 y ≡ set (set ws l y) k x
parted_2 ws t r k l x y e n lt =
    let m : k < length t = omega arith in
    let z : l - l ≡ 0 = omega arith in
    let le : l ≤ l = omega arith in
    rw (← e, set-append_right t r l l y n le, z, set-append_left t (set r 0 y) k x m) refl

pub high_first : {X : Type 0} (ws low high : List X) (k l : ℕ) (x y : X) → low ≡ take l ws → high ≡ drop l ws → k < l → l ≤ length ws
    → set low k x ++ set high 0 y ≡ set (set ws l y) k x
high_first ws low high k l x y e f lt le =
    rw (e, f) (parted_2 ws (take l ws) (drop l ws) k l x y (take-append-drop l ws) (length-take-le l ws le) lt)
