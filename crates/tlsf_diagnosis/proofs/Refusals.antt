-- The fields of a line, as a fault tells of them.
use Rattle.tlsf_diagnosis.proofs.Common.{◌≡◌, ℕ, Bool, true, false, is_some, List, drop, Option, Some, None, option_and_then, Ok, Err, refl, sym, subst, field, fields_in, values_in, kinds_of, line_from, keyword_of, keywords, judged_line, some_or, unless, Line, LineFault, is_line, is_shaped}
use Rattle.tlsf_lines.specs.Labels.{is_in_order}
use Rattle.tlsf_lines.specs.Trace.{◌>>=◌}
use Rattle.tlsf_lines.specs.Values.{Value}
use Rattle.tlsf_lines.specs.declared.line_fault.LineFault.TheVariants as fault
use Rattle.tlsf_lines.specs.declared.keyword.Keyword.{Keyword}

-- whether the fields have the shape of a line, and whether they are one, by the fault
abbrev pub Tells : Bool → Bool → LineFault → Type 0
Tells shaped whole fault.BadHeader = ⊥
Tells shaped whole fault.BadLine = shaped ≡ false
Tells shaped whole fault.BadNumber = (shaped ≡ true) × (whole ≡ false)
Tells shaped whole fault.LabelOrder = whole ≡ true

not_ordered : (line : Line) (ordered : Bool) (why : LineFault) → (unless ordered fault.LabelOrder >>= λ _. Ok line) ≡ Err why → why ≡ fault.LabelOrder
not_ordered line true why is = cc
not_ordered line false why is = cc

module _ (before : List Line) where
  by_line : (said : Option Line) (why : LineFault) → (some_or said fault.BadNumber >>= λ line. (unless (is_in_order before line) fault.LabelOrder >>= λ _. Ok line)) ≡ Err why
      → Tells true (is_some said) why
  by_line None fault.BadNumber refused = (refl, refl)
  by_line None why refused = cc
  by_line (Some line) why refused =
      subst (λ (w : LineFault). Tells true true w) (sym (not_ordered line (is_in_order before line) why refused)) refl

  by_values : (w : Keyword) (values : Option (List Value)) (why : LineFault) → (some_or values fault.BadLine >>= λ vs. (some_or (line_from w vs) fault.BadNumber
      >>= λ line. (unless (is_in_order before line) fault.LabelOrder >>= λ _. Ok line))) ≡ Err why
      → Tells (is_some values) (is_some (option_and_then (λ vs. line_from w vs) values)) why
  by_values w None fault.BadLine refused = refl
  by_values w None why refused = cc
  by_values w (Some vs) why refused = by_line (line_from w vs) why refused

  by_keyword : (workers : ℕ) (fields : List (List ℕ)) (w : Option Keyword) (why : LineFault)
      → (some_or w fault.BadLine >>= λ v. (some_or (values_in workers (kinds_of v) (drop 1 fields)) fault.BadLine
      >>= λ vs. (some_or (line_from v vs) fault.BadNumber >>= λ line. (unless (is_in_order before line) fault.LabelOrder >>= λ _. Ok line)))) ≡ Err why
      → Tells (is_some (option_and_then (λ v. values_in workers (kinds_of v) (drop 1 fields)) w))
      (is_some (option_and_then (λ v. option_and_then (λ vs. line_from v vs) (values_in workers (kinds_of v) (drop 1 fields))) w)) why
  by_keyword workers fields None fault.BadLine refused = refl
  by_keyword workers fields None why refused = cc
  by_keyword workers fields (Some w) why refused = by_values w (values_in workers (kinds_of w) (drop 1 fields)) why refused

  pub told : (workers : ℕ) (piece : List ℕ) (fields : List (List ℕ)) (why : LineFault) → fields_in piece ≡ Some fields → judged_line workers before piece ≡ Err why
      → Tells (is_shaped workers fields) (is_line workers fields) why
  unfolding judged_line
  told workers piece fields why are refused = by_keyword workers fields (keyword_of keywords (field fields 0)) why (rw are at refused)

-- ---- a line has its shape

of_values : (w : Keyword) (values : Option (List Value)) → is_some (option_and_then (λ vs. line_from w vs) values) ≡ true → is_some values ≡ true
of_values w None is = is
of_values w (Some vs) is = refl

of_keyword : (workers : ℕ) (fields : List (List ℕ)) (w : Option Keyword) → is_some (option_and_then (λ v. option_and_then (λ vs. line_from v vs) (values_in workers (kinds_of v) (drop 1 fields))) w) ≡ true
    → is_some (option_and_then (λ v. values_in workers (kinds_of v) (drop 1 fields)) w) ≡ true
of_keyword workers fields None is = is
of_keyword workers fields (Some w) is = of_values w (values_in workers (kinds_of w) (drop 1 fields)) is

pub line_is_shaped : (workers : ℕ) (fields : List (List ℕ)) → is_line workers fields ≡ true → is_shaped workers fields ≡ true
line_is_shaped workers fields is = of_keyword workers fields (keyword_of keywords (field fields 0)) is

-- so what has not its shape is none
by_value : (shaped whole : Bool) → (whole ≡ true → shaped ≡ true) → shaped ≡ false → whole ≡ false
by_value shaped true then not_shaped = let is = then refl in cc
by_value shaped false then not_shaped = refl

pub unshaped_is_no_line : (workers : ℕ) (fields : List (List ℕ)) → is_shaped workers fields ≡ false → is_line workers fields ≡ false
unshaped_is_no_line workers fields not_shaped = by_value (is_shaped workers fields) (is_line workers fields) (line_is_shaped workers fields) not_shaped
