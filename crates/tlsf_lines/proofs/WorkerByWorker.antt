-- The results for one worker after another.
use Rattle.tlsf_lines.proofs.Common.{◌≡◌, ◌+◌, ◌<◌, ◌++◌, ◌∷◌, [], ℕ, List, length, get_or, map, sym, ap, ◌∙◌, arith, range_with_len, get_or-map, map-append, get_or-map-range_with_len, map-range_with_len_more}
use Rattle.std.specs.declared.vec.Vec.{Vec}
use Rattle.std.specs.declared.alloc.Global.{Global}

-- a list more is that of the next worker
pub one_more : {B : Type 0} (f : ℕ → List B) (made : List (Vec B Global)) (more : Vec B Global) (w : ℕ)
    → map (λ v. v.items) made ≡ map f (range_with_len 0 w) → more.items ≡ f w
    → map (λ v. v.items) (made ++ more ∷ []) ≡ map f (range_with_len 0 (w + 1))
one_more f made more w so_far next =
    let start : 0 + w ≡ w = omega arith in
    map-append (λ v. v.items) made (more ∷ []) ∙ (ap (λ l. l ++ more.items ∷ []) so_far
    ∙ (ap (λ x. map f (range_with_len 0 w) ++ x ∷ []) next ∙ sym (map-range_with_len_more f 0 w w start)))

-- the list of a worker, of those that were made
pub items_at : {B : Type 0} (f : ℕ → List B) (made : List (Vec B Global)) (n w : ℕ) (d : Vec B Global) → map (λ v. v.items) made ≡ map f (range_with_len 0 n) → w < n → w < length made
    → (get_or made w d).items ≡ f w
items_at f made n w d all w_in w_made =
    let here : 0 + w ≡ w = omega arith in
    sym (get_or-map (λ v. v.items) made w d [] w_made) ∙ (ap (λ l. get_or l w []) all ∙ get_or-map-range_with_len f 0 n w w [] w_in here)

pub items_of : {B : Type 0} (made : List (Vec B Global)) (w : ℕ) (d : Vec B Global) → w < length made → (get_or made w d).items ≡ get_or (map (λ v. v.items) made) w []
items_of made w d w_made = sym (get_or-map (λ v. v.items) made w d [] w_made)
