-- The first list that is short enough, where those before it were not.
use Rattle.tlsf_held.proofs.Common.{◌≡◌, ℕ, suc, ◌+◌, ◌-◌, ◌<◌, ◌≤◌, false, true, nat_le, List, length, refl, ap, ◌∙◌, arith, le-leb, lt-leb, first_few, Row}

pub first_step : (lists : ℕ → List Row) (at : ℕ) → at < 4 → 64 < length (lists at) → first_few lists at (4 - at) ≡ first_few lists (at + 1) (4 - (at + 1))
first_step lists at inside many =
    let left : 4 - at ≡ suc (4 - (at + 1)) = omega arith in
    let b : nat_le (length (lists at)) 64 ≡ false = lt-leb (length (lists at)) 64 many in
    ap (first_few lists at) left ∙ rw b refl

pub first_here : (lists : ℕ → List Row) (at : ℕ) → at < 4 → length (lists at) ≤ 64 → first_few lists at (4 - at) ≡ lists at
first_here lists at inside few =
    let left : 4 - at ≡ suc (4 - (at + 1)) = omega arith in
    let b : nat_le (length (lists at)) 64 ≡ true = le-leb (length (lists at)) 64 few in
    ap (first_few lists at) left ∙ rw b refl

pub first_last : (lists : ℕ → List Row) (at : ℕ) → at ≡ 4 → first_few lists at (4 - at) ≡ lists 4
first_last lists at is = ap (λ (n : ℕ). first_few lists n (4 - n)) is
