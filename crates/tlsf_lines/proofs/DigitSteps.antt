-- The digits that a line of fields begins with, and what its first field says by them.
use Rattle.tlsf_lines.proofs.Common.{◌≡◌, ℕ, zero, suc, ◌+◌, ◌-◌, ◌<◌, ◌≤◌, eqb, true, false, Bool, ◌&&◌, List, [], ◌∷◌, length, get_or, take, drop, Some, None, Option, refl, arith, ◌∙◌, sym, ap, is_ascii_digit, onto_first, all_ascii_digits, and_parts, common_steps, slice_split-cons_no, slice_split-cons_yes, fields_of, first_by, digits_in, number_within, Value}
use Rattle.tlsf_lines.proofs.CutSteps.{NoSpaces, cut_at, not_cut}
use Rattle.tlsf_lines.proofs.LastField.{digit_is}

-- ---- all digits, or not

both : (b c : Bool) → b ≡ true → c ≡ true → (b && c) ≡ true
both true c b_is c_is = c_is
both false c b_is c_is = cc

not_first : (b c : Bool) → b ≡ false → (b && c) ≡ false
not_first true c bad = cc
not_first false c bad = refl

not_second : (b c : Bool) → c ≡ false → (b && c) ≡ false
not_second true c bad = bad
not_second false c bad = refl

-- one byte is no digit
not_all : (line : List ℕ) (n : ℕ) → n < length line → is_ascii_digit (get_or line n 0) ≡ false → all_ascii_digits line ≡ false
not_all [] n lt bad = absurd (omega arith)
not_all (x ∷ xs) zero lt bad = not_first (is_ascii_digit x) (all_ascii_digits xs) bad
not_all (x ∷ xs) (suc n) lt bad = not_second (is_ascii_digit x) (all_ascii_digits xs) (not_all xs n (omega arith) bad)

-- one digit more
pub one_more : (line : List ℕ) (n : ℕ) → n < length line → all_ascii_digits (take n line) ≡ true → is_ascii_digit (get_or line n 0) ≡ true
    → all_ascii_digits (take (suc n) line) ≡ true
one_more [] n lt all is = absurd (omega arith)
one_more (x ∷ xs) zero lt all is = both (is_ascii_digit x) true is refl
one_more (x ∷ xs) (suc n) lt all is =
    let parts = and_parts (is_ascii_digit x) (all_ascii_digits (take n xs)) all in
    both (is_ascii_digit x) (all_ascii_digits (take (suc n) xs)) parts.0 (one_more xs n (omega arith) parts.1 is)

-- digits are no spaces
no_space : (line : List ℕ) (n k : ℕ) → all_ascii_digits (take n line) ≡ true → k < n → eqb (get_or line k 0) 32 ≡ false
no_space line zero k all lt = absurd (omega arith)
no_space [] (suc n) k all lt = refl
no_space (x ∷ xs) (suc n) zero all lt = digit_is x (and_parts (is_ascii_digit x) (all_ascii_digits (take n xs)) all).0
no_space (x ∷ xs) (suc n) (suc k) all lt = no_space xs n k (and_parts (is_ascii_digit x) (all_ascii_digits (take n xs)) all).1 (omega arith)

-- ---- the first field

abbrev lead : List (List ℕ) → List ℕ
lead [] = []
lead (field ∷ fields) = field

lead_onto : (x : ℕ) (fields : List (List ℕ)) → lead (onto_first x fields) ≡ x ∷ lead fields
lead_onto x [] = refl
lead_onto x (field ∷ fields) = refl

lead_more : (x : ℕ) (xs : List ℕ) → eqb x 32 ≡ false → lead (fields_of (x ∷ xs)) ≡ x ∷ lead (fields_of xs)
lead_more x xs bad = ap lead (slice_split-cons_no (λ byte. eqb byte 32) x xs bad) ∙ lead_onto x (fields_of xs)

-- a byte behind the first digits that is neither a digit nor a space is in the same field
spoils : (line : List ℕ) (n : ℕ) → all_ascii_digits (take n line) ≡ true → n < length line → is_ascii_digit (get_or line n 0) ≡ false → eqb (get_or line n 0) 32 ≡ false
    → all_ascii_digits (lead (fields_of line)) ≡ false
spoils [] n all lt bad apart = absurd (omega arith)
spoils (x ∷ xs) zero all lt bad apart =
    ap all_ascii_digits (lead_more x xs apart) ∙ not_first (is_ascii_digit x) (all_ascii_digits (lead (fields_of xs))) bad
spoils (x ∷ xs) (suc n) all lt bad apart =
    let parts = and_parts (is_ascii_digit x) (all_ascii_digits (take n xs)) all in
    ap all_ascii_digits (lead_more x xs (digit_is x parts.0))
    ∙ not_second (is_ascii_digit x) (all_ascii_digits (lead (fields_of xs))) (spoils xs n parts.1 (omega arith) bad apart)

unsaid : (say : List ℕ → Option Value) (fields : List (List ℕ)) → say (lead fields) ≡ None → first_by say fields ≡ None
unsaid say [] none = refl
unsaid say (field ∷ fields) none = rw none refl

first_said : (say : List ℕ → Option Value) (fields rest : List (List ℕ)) (field : List ℕ) (value : Value) → fields ≡ field ∷ rest → say field ≡ Some value
    → first_by say fields ≡ Some (value, rest)
first_said say fields rest field value are is = rw (are, is) refl

-- ---- what it says

module _ (range : ℕ × ℕ) where
  none_by : (field : List ℕ) → all_ascii_digits field ≡ false → digits_in range field ≡ None
  none_by field bad = grind (arith, bad)

  some_by : (field : List ℕ) → 0 < length field → all_ascii_digits field ≡ true → digits_in range field ≡ Some (number_within range field)
  some_by field some all = grind (arith, all, some)

  pub no_field : (field : List ℕ) (n : ℕ) → n < length field → is_ascii_digit (get_or field n 0) ≡ false → digits_in range field ≡ None
  no_field field n lt bad = none_by field (not_all field n lt bad)

  pub field_said : (field : List ℕ) (n : ℕ) (value : Value) → all_ascii_digits (take n field) ≡ true → length field ≤ n → 0 < length field → value ≡ number_within range field
      → digits_in range field ≡ Some value
  field_said field n value all end some is =
      let same : take n field ≡ field = grind (arith, common_steps, end) in
      some_by field some (rw same at all) ∙ ap (λ v. Some v) (sym is)

  -- a byte in it is no digit
  pub no_number : (line : List ℕ) (n : ℕ) → all_ascii_digits (take n line) ≡ true → n < length line → is_ascii_digit (get_or line n 0) ≡ false → eqb (get_or line n 0) 32 ≡ false
      → first_by (λ f. digits_in range f) (fields_of line) ≡ None
  no_number line n all lt bad apart = unsaid (λ f. digits_in range f) (fields_of line) (none_by (lead (fields_of line)) (spoils line n all lt bad apart))

  by_space : (x : ℕ) (xs : List ℕ) → is_ascii_digit x ≡ false → (b : Bool) → eqb x 32 ≡ b → first_by (λ f. digits_in range f) (fields_of (x ∷ xs)) ≡ None
  by_space x xs bad true is =
      unsaid (λ f. digits_in range f) (fields_of (x ∷ xs)) (ap (λ f. digits_in range f) (ap lead (slice_split-cons_yes (λ byte. eqb byte 32) x xs is)))
  by_space x xs bad false is = no_number (x ∷ xs) 0 refl (omega arith) bad is

  -- it has no digit
  pub no_digit : (line : List ℕ) → (0 < length line → is_ascii_digit (get_or line 0 0) ≡ false) → first_by (λ f. digits_in range f) (fields_of line) ≡ None
  no_digit [] first = refl
  no_digit (x ∷ xs) first = by_space x xs (first (omega arith)) (eqb x 32) refl

  -- its digits are all there is
  pub whole : (line : List ℕ) (n : ℕ) (value : Value) → all_ascii_digits (take n line) ≡ true → 0 < n → n ≡ length line → value ≡ number_within range (take n line)
      → first_by (λ f. digits_in range f) (fields_of line) ≡ Some (value, [])
  whole line n value all some same is =
      let all_of : take n line ≡ line = grind (arith, common_steps, same) in
      let free : NoSpaces line (length line) = λ k lt. no_space line n k all (omega (arith, lt, same)) in
      let told : digits_in range line ≡ Some value = some_by line (omega (arith, some, same)) (rw all_of at all) ∙ ap (λ v. Some v) (sym (rw all_of at is)) in
      first_said (λ f. digits_in range f) (fields_of line) [] line value (not_cut line free) told

  -- a space stands after them
  pub up_to_space : (line : List ℕ) (n : ℕ) (value : Value) → all_ascii_digits (take n line) ≡ true → 0 < n → n < length line → get_or line n 0 ≡ 32 → value ≡ number_within range (take n line)
      → first_by (λ f. digits_in range f) (fields_of line) ≡ Some (value, fields_of (take (length line - (n + 1)) (drop (n + 1) line)))
  up_to_space line n value all some lt at is =
      let some_taken : 0 < length (take n line) = grind (arith, common_steps, some, lt) in
      let told : digits_in range (take n line) ≡ Some value = some_by (take n line) some_taken all ∙ ap (λ v. Some v) (sym is) in
      first_said (λ f. digits_in range f) (fields_of line) (fields_of (take (length line - (n + 1)) (drop (n + 1) line))) (take n line) value
      (cut_at line n (λ k below. no_space line n k all below) lt at) told
