-- Charts of heaps, one heap after another.
use Rattle.tlsf_picture.proofs.Common.{map-range_with_len_more, ◌≡◌, ℕ, ◌+◌, List, [], ◌∷◌, ◌++◌, length, sym, ap, ◌∙◌, subst, arith, AllZip, range_with_len, length-map-range_with_len, Trace, heap_points, point_at, points_of, IsLook, Point, level_in}
use mathlib.Core.List.{map-id}
use Rattle.tlsf_picture.specs.plots.Points.{longest_of}
use Rattle.tlsf_picture.specs.plots.Worst.{IsNamed}
use Rattle.tlsf_picture.specs.declared.plots.look.Look.{Look}
use Rattle.tlsf_picture.proofs.Maps.{push_both}

-- one more, of the next number
pub one_more : {B : Type 0} (R : ℕ → B → Type 0) (n : ℕ) (xs : List B) (x : B) → AllZip R (range_with_len 0 n) xs → R n x → AllZip R (range_with_len 0 (n + 1)) (xs ++ x ∷ [])
one_more R n xs x all one =
    let more : range_with_len 0 (n + 1) ≡ range_with_len 0 n ++ n ∷ [] = sym (map-id (range_with_len 0 (n + 1))) ∙ (map-range_with_len_more (λ k. k) 0 n n (omega arith) ∙ ap (λ (l : List ℕ). l ++ n ∷ []) (map-id (range_with_len 0 n))) in
    subst (λ (l : List ℕ). AllZip R l (xs ++ x ∷ [])) (sym more) (push_both R (range_with_len 0 n) xs n x all one)

-- the points of a heap, at the level that the header names
pub points_are : (trace : Trace) (sli j : ℕ) (points : List Point) → level_in trace.header ≡ sli → points ≡ points_of sli trace j → points ≡ heap_points trace j
points_are trace sli j points level is = is ∙ ap (λ (n : ℕ). points_of n trace j) (sym level)

-- there is one after each line and one after the end
pub many_points : (trace : Trace) (j : ℕ) → length (heap_points trace j) ≡ length trace.lines + 2
many_points trace j = length-map-range_with_len (point_at (level_in trace.header) trace j) 1 (length trace.lines + 2)

-- the line to look at among them
pub look_is : (trace : Trace) (j longest : ℕ) (points : List Point) (look : Look) → points ≡ heap_points trace j → IsLook longest points (length points) look
    → IsLook longest (heap_points trace j) (length trace.lines + 2) look
look_is trace j longest points look are is =
    subst (λ (n : ℕ). IsLook longest (heap_points trace j) n look) (many_points trace j) (subst (λ (ps : List Point). IsLook longest ps (length ps) look) are is)

-- for the longest request it is the one that is named
pub named_is : (trace : Trace) (j longest : ℕ) (points : List Point) (look : Look) → points ≡ heap_points trace j → longest ≡ longest_of j trace.lines → IsLook longest points (length points) look → IsNamed trace j look
named_is trace j longest points look are longest_is is = subst (λ (n : ℕ). IsLook n (heap_points trace j) (length trace.lines + 2) look) longest_is (look_is trace j longest points look are is)
