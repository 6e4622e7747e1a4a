-- The pieces of a text, one after another.
use Rattle.tlsf_diagnosis.proofs.Common.{◌≡◌, ℕ, zero, suc, ◌+◌, ◌≤◌, List, [], ◌∷◌, drop, length, refl, sym, add-one, arith, field, pieces_of}

-- there is none past the last
pub beyond : (pieces : List (List ℕ)) (i k : ℕ) → drop i pieces ≡ [] → i ≤ k → field pieces k ≡ []
beyond [] i k none le = refl
beyond (piece ∷ pieces) zero k none le = cc
beyond (piece ∷ pieces) (suc i) zero none le = absurd (omega (arith, le))
beyond (piece ∷ pieces) (suc i) (suc k) none le = beyond pieces i k none (omega (arith, le))

pub past : (pieces : List (List ℕ)) (i k : ℕ) (rest : List ℕ) → drop i pieces ≡ pieces_of rest → length rest ≡ 0 → i ≤ k → rest ≡ field pieces k
past pieces i k [] so_far empty le = sym (beyond pieces i k so_far le)
past pieces i k (x ∷ xs) so_far empty le = absurd (omega (arith, empty))

-- the first that is left
pub first_left : (pieces : List (List ℕ)) (k : ℕ) (piece : List ℕ) (more : List (List ℕ)) → drop k pieces ≡ piece ∷ more → piece ≡ field pieces k
first_left [] zero piece more left = cc
first_left [] (suc k) piece more left = cc
first_left (p ∷ ps) zero piece more left = cc
first_left (p ∷ ps) (suc k) piece more left = first_left ps k piece more left

one_fewer : (pieces : List (List ℕ)) (i : ℕ) (piece : List ℕ) (more : List (List ℕ)) → drop i pieces ≡ piece ∷ more → drop (suc i) pieces ≡ more
one_fewer [] zero piece more left = cc
one_fewer [] (suc i) piece more left = cc
one_fewer (p ∷ ps) zero piece more left = cc
one_fewer (p ∷ ps) (suc i) piece more left = one_fewer ps i piece more left

pub next_left : (pieces : List (List ℕ)) (i : ℕ) (piece : List ℕ) (more : List (List ℕ)) → drop i pieces ≡ piece ∷ more → drop (i + 1) pieces ≡ more
next_left pieces i piece more left = rw add-one (one_fewer pieces i piece more left)
