-- A trace begins with its first phase.
use Rattle.tlsf_lines.proofs.Common.{◌≡◌, ℕ, zero, suc, ◌<◌, true, false, List, [], ◌∷◌, length, get_or, take, drop, refl, arith, ap, ◌∙◌, is_call, in_first, phases_of, Line, Phase}

-- a call stands in the first phase
call_first : (line : Line) (lines : List Line) → is_call line ≡ true → phases_of (line ∷ lines) ≡ in_first line (phases_of lines)
call_first Phase lines call = cc
call_first line lines call = refl

-- the end of a phase ends the first
phase_first : (line : Line) (lines : List Line) → is_call line ≡ false → phases_of (line ∷ lines) ≡ [] ∷ phases_of lines
phase_first Phase lines call = refl
phase_first line lines call = cc

-- the first n lines are calls
abbrev pub AreCalls : List Line → ℕ → Type 0
AreCalls lines n = (k : ℕ) → k < n → is_call (get_or lines k Phase) ≡ true

drop_more : (lines : List Line) (n : ℕ) → drop (suc n) lines ≡ drop 1 (drop n lines)
drop_more [] zero = refl
drop_more [] (suc n) = refl
drop_more (x ∷ xs) zero = refl
drop_more (x ∷ xs) (suc n) = drop_more xs n

first_phase : (lines : List Line) (n : ℕ) → AreCalls lines n → n < length lines → is_call (get_or lines n Phase) ≡ false
    → phases_of lines ≡ take n lines ∷ phases_of (drop (suc n) lines)
first_phase [] n calls lt ends = absurd (omega arith)
first_phase (x ∷ xs) zero calls lt ends = phase_first x xs ends
first_phase (x ∷ xs) (suc n) calls lt ends =
    let rest = first_phase xs n (λ k below. calls (suc k) (omega arith)) (omega arith) ends in
    call_first x xs (calls 0 (omega arith)) ∙ ap (in_first x) rest

pub phase_at : (lines : List Line) (n : ℕ) → AreCalls lines n → n < length lines → is_call (get_or lines n Phase) ≡ false
    → phases_of lines ≡ take n lines ∷ phases_of (drop 1 (drop n lines))
phase_at lines n calls lt ends = first_phase lines n calls lt ends ∙ ap (λ l. take n lines ∷ phases_of l) (drop_more lines n)

pub only_phase : (lines : List Line) → AreCalls lines (length lines) → phases_of lines ≡ lines ∷ []
only_phase [] calls = refl
only_phase (x ∷ xs) calls =
    let rest = only_phase xs (λ k below. calls (suc k) (omega arith)) in
    call_first x xs (calls 0 (omega arith)) ∙ ap (in_first x) rest
