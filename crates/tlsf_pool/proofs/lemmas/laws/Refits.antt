-- A live block and those after it, once it is resized, by its three cases.
use Rattle.tlsf_pool.proofs.Common.{◌≡◌, ℕ, ◌+◌, ◌-◌, ◌<◌, ◌≤◌, ◌&&◌, Bool, true, false, cond, nat_le, nat_lt, List, [], ◌∷◌, ◌++◌, refl, arith, nat_tests, Block, Live, Free, first_free, past_free, fitted, refitted}

pub whether : {X : Type 0} (P : X → Type 0) (b : Bool) (x y : X) → (b ≡ true → P x) → (b ≡ false → P y) → P (cond b x y)
whether P true x y f g = f refl
whether P false x y f g = g refl

-- the block keeps its words; or it keeps n of its own and those of the free block after it. Or it has all of these
pub by_refit : (P : List Block → Type 0) (tick n len size serial : ℕ) (bytes : List ℕ) (after : List Block)
    → (n ≤ size → size < n + 4 → P (Live size serial (fitted bytes len) ∷ after))
    → (n + 4 ≤ size + first_free after → P (Live n serial (fitted bytes len) ∷ Free (size + first_free after - n) tick ∷ past_free after))
    → (size + first_free after < n + 4 → P (Live (size + first_free after) serial (fitted bytes len) ∷ past_free after))
    → P (refitted tick n len (Live size serial bytes) after)
by_refit P tick n len size serial bytes after if_kept if_cut if_all =
    let new = fitted bytes len in
    let room = size + first_free after in
    whether P (nat_le n size && nat_lt size (n + 4)) (Live size serial new ∷ after) _ (λ t. if_kept (grind (arith, nat_tests)) (grind (arith, nat_tests)))
    (λ _. whether (λ (l : List Block). P (l ++ past_free after)) (nat_le (n + 4) room) (Live n serial new ∷ Free (room - n) tick ∷ []) (Live room serial new ∷ [])
    (λ t. if_cut (grind (arith, nat_tests))) (λ t. if_all (grind (arith, nat_tests))))
