-- The field of a line's fault.
use Rattle.tlsf_diagnosis.proofs.Common.{◌≡◌, ◌≢◌, ◌⊎◌, inl, inr, ℕ, zero, suc, ◌+◌, ◌-◌, ◌<◌, ◌==◌, count_by, Bool, true, false, cond, is_some, List, [], ◌∷◌, ◌++◌, length, take, drop, map, codes, slice_get, Option, Some, None, option_map, unwrap_or, Err, refl, sym, ap, subst, ◌∙◌, arith, MatchBool, fields_of, ◌>>=◌, fields_in, is_digits, value_in, values_in, number_of_value, kinds_of, line_from, keyword_of, keywords, judged_line, Line, LineFault, GoAstrayAt, HasFirstBadNumberAt, IsFieldOf, IsFirstBad, IsFirstWrong, IsWrongOrLast, is_line, is_shaped, kinds_of, passes, FindsWrong, IsFirstFailing, all_pass, passing_count, Kind}
use Rattle.hex.proofs.OnLiterals.{hex_on_literals}
use Rattle.tlsf_calls.specs.declared.chunk.Chunk.{Chunk}
use Rattle.tlsf_lines.specs.Payloads.{chunk_in}
use Rattle.tlsf_lines.specs.Values.{Value, Number, BadNumber, Bytes}
use Rattle.tlsf_lines.specs.declared.line_fault.LineFault.TheVariants as fault
use Rattle.tlsf_lines.specs.declared.keyword.Keyword.{Keyword}
use Rattle.tlsf_lines.specs.declared.keyword.Keyword.TheVariants as keyword
use Rattle.tlsf_lines.proofs.CutSteps.{fields_count}
use Rattle.tlsf_lines.proofs.LineJudged.{without_feed}
use Rattle.tlsf_diagnosis.specs.declared.judge.Judge.TheVariants as judge
use Rattle.tlsf_lines.specs.declared.kind.Kind.TheVariants.{Worker, Label, Payload}
use Rattle.tlsf_diagnosis.proofs.Astray.{astray_at, never}
use Rattle.tlsf_diagnosis.proofs.Refusals.{Tells, line_is_shaped, told, unshaped_is_no_line}
use Rattle.tlsf_diagnosis.proofs.PassingSteps.{front_passes, next_fails}

-- ---- shapes

abbrev pub shape : Kind → List ℕ → Bool
shape kind field = passes judge.Shape kind field

digits_shown : (b : Bool) (value : Value) → is_some (cond b (Some value) None) ≡ b
digits_shown true value = refl
digits_shown false value = refl

payload_shown : (chunk : Option Chunk) → is_some (option_map (λ c. Bytes c) chunk) ≡ is_some chunk
payload_shown None = refl
payload_shown (Some chunk) = refl

shape_told : (workers : ℕ) (kind : Kind) (field : List ℕ) → is_some (value_in workers kind field) ≡ shape kind field
shape_told workers Payload field = payload_shown (chunk_in field)
shape_told workers kind field = digits_shown (is_digits field) _

both : (value : Option Value) (values : Option (List Value)) → is_some (value >>= λ v. (values >>= λ vs. Some (v ∷ vs))) ≡ cond (is_some value) (is_some values) false
both None values = refl
both (Some v) None = refl
both (Some v) (Some vs) = refl

shapes_told : (workers : ℕ) (kinds : List Kind) (fields : List (List ℕ)) → is_some (values_in workers kinds fields) ≡ all_pass shape kinds fields
shapes_told workers [] [] = refl
shapes_told workers [] (field ∷ fields) = refl
shapes_told workers (kind ∷ kinds) [] = refl
shapes_told workers (kind ∷ kinds) (field ∷ fields) =
    both (value_in workers kind field) (values_in workers kinds fields)
    ∙ (ap (λ b. cond b (is_some (values_in workers kinds fields)) false) (shape_told workers kind field)
    ∙ ap (λ b. cond (shape kind field) b false) (shapes_told workers kinds fields))

-- a field of each kind
abbrev sample : Kind → List ℕ
sample Payload = codes "00"
sample _ = codes "1"

sample_passes : (kind : Kind) → shape kind (sample kind) ≡ true
unfolding hex_on_literals
sample_passes Worker = refl
sample_passes kind = refl

-- after a keyword a line has its shape where its fields pass
shaped_line : (workers : ℕ) (first : List ℕ) (w : Keyword) (fields : List (List ℕ)) → keyword_of keywords first ≡ Some w → is_shaped workers (first ∷ fields) ≡ all_pass shape (kinds_of w) fields
shaped_line workers first w fields is =
    rw is (shapes_told workers (kinds_of w) fields)

-- ---- a choice between two facts, by what is chosen

if_true : (b : Bool) (P Q : Type 0) → b ≡ true → P → MatchBool b P Q
if_true true P Q is p = p
if_true false P Q is p = cc

if_false : (b : Bool) (P Q : Type 0) → b ≡ false → Q → MatchBool b P Q
if_false true P Q is q = cc
if_false false P Q is q = q

chosen_true : (b : Bool) (P Q : Type 0) → b ≡ true → MatchBool b P Q → P
chosen_true true P Q is p = p
chosen_true false P Q is q = cc

chosen_false : (b : Bool) (P Q : Type 0) → b ≡ false → MatchBool b P Q → Q
chosen_false true P Q is p = cc
chosen_false false P Q is q = q

-- ---- a line that has not its shape

module _ (workers : ℕ) (fields : List (List ℕ)) where
  unshaped : (n : ℕ) → is_shaped workers fields ≡ false → GoAstrayAt (is_shaped workers) fields n → FindsWrong (is_line workers) (IsFirstWrong workers) fields (Some n)
  unshaped n not_shaped astray = (
    unshaped_is_no_line workers fields not_shaped,
    if_false (is_shaped workers fields) (HasFirstBadNumberAt workers fields n) (GoAstrayAt (is_shaped workers) fields n) not_shaped astray,
  )

module _ (workers : ℕ) (first : List ℕ) (fields : List (List ℕ)) where
  -- no keyword
  pub no_keyword : keyword_of keywords first ≡ None → FindsWrong (is_line workers) (IsFirstWrong workers) (first ∷ fields) (Some 1)
  no_keyword none =
      unshaped workers (first ∷ fields) 1 (rw none refl)
      (astray_at (is_shaped workers) (first ∷ fields) 0 1 refl (codes "phase" ∷ [], refl) (inl (never (is_shaped workers) (first ∷ []) (λ more. rw none refl))))

  -- a keyword, and fields after it that have not its shape
  module _ (w : Keyword) (is : keyword_of keywords first ≡ Some w) where
    astray_behind : (n m : ℕ) → m ≡ passing_count shape (kinds_of w) fields → all_pass shape (kinds_of w) fields ≡ false → n ≡ m + 2 → GoAstrayAt (is_shaped workers) (first ∷ fields) n
    astray_behind n m count fails at =
        let kinds = kinds_of w in
        let begun = shaped_line workers first w (take (passing_count shape kinds fields) fields ++ map sample (drop (passing_count shape kinds fields) kinds)) is
        ∙ front_passes shape sample sample_passes kinds fields in
        astray_at (is_shaped workers) (first ∷ fields) (suc (passing_count shape kinds fields)) n (omega (arith, count, at))
        (map sample (drop (passing_count shape kinds fields) kinds), begun)
        (elim (next_fails shape kinds fields fails) [
          | inl refused ↦ inl (never (is_shaped workers) (first ∷ take (suc (passing_count shape kinds fields)) fields)
              (λ more. shaped_line workers first w (take (suc (passing_count shape kinds fields)) fields ++ more) is ∙ refused more))
          | inr ends ↦ inr (ap (λ k. suc k) ends)
        ])

    pub no_shape : (m : ℕ) → IsFirstFailing shape (kinds_of w) fields (Some m) → FindsWrong (is_line workers) (IsFirstWrong workers) (first ∷ fields) (Some (m + 2))
    no_shape m fails =
        unshaped workers (first ∷ fields) (m + 2) (shaped_line workers first w fields is ∙ fails.0) (astray_behind (m + 2) m fails.1 fails.0 refl)

-- ---- numbers

abbrev pub good : ℕ → Kind → List ℕ → Bool
good workers kind field = passes (judge.Number workers) kind field

-- a value of its kind that is no bad number
abbrev is_good : Kind → Value → Bool
is_good Payload (Bytes bytes) = true
is_good Payload (Number n) = false
is_good Payload BadNumber = false
is_good kind (Number n) = true
is_good kind _ = false

-- a value passes and is good, or it doesn't and is a bad number
abbrev IsTold : Bool → Kind → Value → Type 0
IsTold passed kind value = ((passed ≡ true) × (is_good kind value ≡ true)) ⊎ ((passed ≡ false) × (value ≡ BadNumber))

number_told : (b within : Bool) (n : ℕ) (value : Value) → cond b (Some (cond within (Number n) BadNumber)) None ≡ Some value
    → IsTold (is_some (cond b (Some (cond within (Number n) BadNumber)) None >>= number_of_value)) Label value
number_told true true n (Number k) is = inl (refl, refl)
number_told true true n BadNumber is = cc
number_told true true n (Bytes bytes) is = cc
number_told true false n (Number k) is = cc
number_told true false n BadNumber is = inr (refl, refl)
number_told true false n (Bytes bytes) is = cc
number_told false within n value is = cc

payload_told : (chunk : Option Chunk) (value : Value) → option_map (λ c. Bytes c) chunk ≡ Some value → IsTold (is_some chunk) Payload value
payload_told None value is = cc
payload_told (Some chunk) (Bytes bytes) is = inl (refl, refl)
payload_told (Some chunk) (Number n) is = cc
payload_told (Some chunk) BadNumber is = cc

value_told : (workers : ℕ) (kind : Kind) (field : List ℕ) (value : Value) → value_in workers kind field ≡ Some value → IsTold (good workers kind field) kind value
value_told workers Payload field value is = payload_told (chunk_in field) value is
value_told workers kind field value is = number_told _ _ _ value is

-- the values are good, one for each kind
abbrev are_good : List Kind → List Value → Bool
are_good [] [] = true
are_good (kind ∷ kinds) (value ∷ values) = cond (is_good kind value) (are_good kinds values) false
are_good _ _ = false

-- the first bad value has this number, or all are good: by whether their fields pass
abbrev IsJudged : List Kind → List Value → ℕ → (passed : Bool) → Type 0
IsJudged kinds values i passed = (IsFirstBad values i × (passed ≡ false) × (are_good kinds values ≡ false)) ⊎ ((passed ≡ true) × (are_good kinds values ≡ true))

not_good : (kind : Kind) → is_good kind BadNumber ≡ false
not_good Worker = refl
not_good kind = refl

good_is : (kind : Kind) (value : Value) → is_good kind value ≡ true → value ≡ BadNumber → ⊥
good_is kind value is bad = let no = not_good kind in cc (ap (λ v. is_good kind v) bad)

same_value : (a b : Value) → Some a ≡ Some b → a ≡ b
same_value a b is = cc

one_later : (kind : Kind) (value : Value) (values : List Value) (i : ℕ) → is_good kind value ≡ true → IsFirstBad values i
    → (k : ℕ) → k < suc i → slice_get (value ∷ values) k ≢ Some BadNumber
one_later kind value values i is bad zero lt same = good_is kind value is (same_value value BadNumber same)
one_later kind value values i is bad (suc k) lt same = bad.before k (omega (arith, lt)) same

step : (kind : Kind) (kinds : List Kind) (value : Value) (values : List Value) (i : ℕ) (here passed : Bool) → IsTold here kind value
    → IsJudged kinds values i passed → IsJudged (kind ∷ kinds) (value ∷ values) (cond here (suc i) 0) (cond here passed false)
step kind kinds value values i true passed (inl is) (inl bad) = inl (record { here = bad.0.here; before = one_later kind value values i is.1 bad.0 }, bad.1, rw is.1 bad.2)
step kind kinds value values i true passed (inl is) (inr goods) = inr (goods.0, rw is.1 goods.1)
step kind kinds value values i true passed (inr is) rest = let no = is.0 in cc
step kind kinds value values i false passed (inl is) rest = let no = is.0 in cc
step kind kinds value values i false passed (inr is) rest =
    let no : is_good kind value ≡ false = ap (λ v. is_good kind v) is.1 ∙ not_good kind in
    inl (record { here = ap (λ (v : Value). Some v) is.1; before = λ k lt. absurd (omega (arith, lt)) }, refl, rw no refl)

-- the values of the first field and of those after it
parted : {P : Type 0} (first : Option Value) (rest : Option (List Value)) (values : List Value) → (first >>= λ v. (rest >>= λ vs. Some (v ∷ vs))) ≡ Some values
    → ((v : Value) (vs : List Value) → first ≡ Some v → rest ≡ Some vs → v ∷ vs ≡ values → P) → P
parted None rest values is then = cc
parted (Some v) None values is then = cc
parted (Some v) (Some vs) values is then = then v vs refl refl cc

judged_from : (kinds : List Kind) (i : ℕ) (passed : Bool) (made values : List Value) → made ≡ values → IsJudged kinds made i passed → IsJudged kinds values i passed
judged_from kinds i passed made values same is = subst (λ (vs : List Value). IsJudged kinds vs i passed) same is

values_judged : (workers : ℕ) (kinds : List Kind) (fields : List (List ℕ)) (values : List Value) → values_in workers kinds fields ≡ Some values
    → IsJudged kinds values (passing_count (λ k f. good workers k f) kinds fields) (all_pass (good workers) kinds fields)
values_judged workers [] [] values is = judged_from [] 0 true [] values (let same = is in cc) (inr (refl, refl))
values_judged workers [] (field ∷ fields) values is = cc
values_judged workers (kind ∷ kinds) [] values is = cc
values_judged workers (kind ∷ kinds) (field ∷ fields) values is =
    parted (value_in workers kind field) (values_in workers kinds fields) values is
    (λ v vs first rest same. judged_from (kind ∷ kinds) (passing_count (λ k f. good workers k f) (kind ∷ kinds) (field ∷ fields))
    (all_pass (good workers) (kind ∷ kinds) (field ∷ fields)) (v ∷ vs) values same
    (step kind kinds v vs (passing_count (λ k f. good workers k f) kinds fields) (good workers kind field) (all_pass (good workers) kinds fields)
    (value_told workers kind field v first) (values_judged workers kinds fields vs rest)))

-- values make a line exactly where all are good
made : (w : Keyword) (values : List Value) → is_some (line_from w values) ≡ are_good (kinds_of w) values
unfolding line_from
made keyword.Allocate (Number a ∷ Number b ∷ Number c ∷ []) = refl
made keyword.Release (Number a ∷ Number b ∷ []) = refl
made keyword.Write (Number a ∷ Number b ∷ Number c ∷ Bytes d ∷ []) = refl
made keyword.Read (Number a ∷ Number b ∷ Number c ∷ Number d ∷ []) = refl
made keyword.Resize (Number a ∷ Number b ∷ Number c ∷ []) = refl
made keyword.Drain (Number a ∷ Number b ∷ []) = refl
made keyword.Phase [] = refl
made w values = refl

-- ---- a line that has its shape

module _ (workers : ℕ) (first : List ℕ) (fields : List (List ℕ)) (w : Keyword) (is : keyword_of keywords first ≡ Some w) (shaped : all_pass shape (kinds_of w) fields ≡ true) where
  has_shape : is_shaped workers (first ∷ fields) ≡ true
  has_shape = shaped_line workers first w fields is ∙ shaped

  shown : (said : Option (List Value)) → values_in workers (kinds_of w) fields ≡ said → (values : List Value) × (values_in workers (kinds_of w) fields ≡ Some values)
  shown None say =
      let none : is_shaped workers (first ∷ fields) ≡ false = rw (is, say) refl in
      absurd (let some = has_shape in cc)
  shown (Some values) say = (values, say)

  module _ (values : List Value) (say : values_in workers (kinds_of w) fields ≡ Some values) where
    line_told : is_line workers (first ∷ fields) ≡ is_some (line_from w values)
    line_told = rw (is, say) refl

    judged : IsJudged (kinds_of w) values (passing_count (λ k f. good workers k f) (kinds_of w) fields) (all_pass (good workers) (kinds_of w) fields)
    judged = values_judged workers (kinds_of w) fields values say

    -- where not all numbers pass, one is bad
    bad_here : (m : ℕ) → IsFirstFailing (good workers) (kinds_of w) fields (Some m) → FindsWrong (is_line workers) (IsFirstWrong workers) (first ∷ fields) (Some (m + 2))
    bad_here m fails = elim judged [
      | inl bad ↦
          let behind : passing_count (λ k f. good workers k f) (kinds_of w) fields ≡ m + 2 - 2 = omega (arith, fails.1) in
          let found : HasFirstBadNumberAt workers (first ∷ fields) (m + 2) = record {
            keyword = w;
            values = values;
            keyword_is = is;
            say = say;
            first = subst (λ (i : ℕ). IsFirstBad values i) behind bad.0;
          } in (
            line_told ∙ (made w values ∙ bad.2),
            if_true (is_shaped workers (first ∷ fields)) (HasFirstBadNumberAt workers (first ∷ fields) (m + 2)) (GoAstrayAt (is_shaped workers) (first ∷ fields) (m + 2)) has_shape found,
          )
      | inr all ↦ absurd (let no = fails.0 in let yes = all.0 in cc)
    ]

    all_good : all_pass (good workers) (kinds_of w) fields ≡ true → is_line workers (first ∷ fields) ≡ true
    all_good all = elim judged [ inl bad ↦ absurd (let no = bad.1 in cc) | inr goods ↦ line_told ∙ (made w values ∙ goods.1) ]

  pub bad_number : (m : ℕ) → IsFirstFailing (good workers) (kinds_of w) fields (Some m) → FindsWrong (is_line workers) (IsFirstWrong workers) (first ∷ fields) (Some (m + 2))
  bad_number m fails = let say = shown (values_in workers (kinds_of w) fields) refl in bad_here say.0 say.1 m fails

  pub no_wrong : all_pass (good workers) (kinds_of w) fields ≡ true → FindsWrong (is_line workers) (IsFirstWrong workers) (first ∷ fields) None
  no_wrong all = let say = shown (values_in workers (kinds_of w) fields) refl in all_good say.0 say.1 all

-- ---- the field of a line as it stands

-- the first wrong field, or the last
pub wrong_or_last : (is_whole : List (List ℕ) → Bool) (IsWrong : List (List ℕ) → ℕ → Type 0) (fields : List (List ℕ)) (found : Option ℕ) (last : ℕ)
    → FindsWrong is_whole IsWrong fields found → last ≡ length fields → IsWrongOrLast is_whole IsWrong fields (unwrap_or found last)
wrong_or_last is_whole IsWrong fields None last whole at = if_true (is_whole fields) (last ≡ length fields) (IsWrong fields last) whole at
wrong_or_last is_whole IsWrong fields (Some n) last wrong at = if_false (is_whole fields) (n ≡ length fields) (IsWrong fields n) wrong.0 wrong.1

pub last_of : (piece : List ℕ) (last : ℕ) → last ≡ count_by (λ byte. byte == 32) piece + 1 → last ≡ length (fields_of piece)
last_of piece last at = at ∙ sym (fields_count piece)

module _ (workers : ℕ) (before : List Line) (piece : List ℕ) where
  by_fault : (why : LineFault) (fields : List (List ℕ)) (found : Option ℕ) → fields_in piece ≡ Some fields → FindsWrong (is_line workers) (IsFirstWrong workers) fields found
      → Tells (is_shaped workers fields) (is_line workers fields) why → IsFieldOf workers why piece (unwrap_or found 3)
  by_fault fault.BadHeader fields found are finds tells = absurd tells
  by_fault fault.BadLine fields None are finds tells = absurd (let shaped = line_is_shaped workers fields finds in cc)
  by_fault fault.BadLine fields (Some n) are finds tells =
      let astray = chosen_false (is_shaped workers fields) (HasFirstBadNumberAt workers fields n) (GoAstrayAt (is_shaped workers) fields n) tells finds.1 in
      rw are astray
  by_fault fault.BadNumber fields None are finds tells = absurd (let not_line = tells.1 in cc)
  by_fault fault.BadNumber fields (Some n) are finds tells =
      let bad = chosen_true (is_shaped workers fields) (HasFirstBadNumberAt workers fields n) (GoAstrayAt (is_shaped workers) fields n) tells.0 finds.1 in
      rw are bad
  by_fault fault.LabelOrder fields None are finds tells = refl
  by_fault fault.LabelOrder fields (Some n) are finds tells = absurd (let not_line = finds.0 in cc)

  -- one that ends with a line feed
  pub ended : (why : LineFault) (fields : List (List ℕ)) (found : Option ℕ) → fields_in piece ≡ Some fields → FindsWrong (is_line workers) (IsFirstWrong workers) fields found
      → judged_line workers before piece ≡ Err why → IsFieldOf workers why piece (unwrap_or found 3)
  ended why fields found are finds refused = by_fault why fields found are finds (told before workers piece fields why are refused)

  -- and one that doesn't
  pub unended : (why : LineFault) (found : Option ℕ) (last : ℕ) → fields_in piece ≡ None → FindsWrong (is_line workers) (IsFirstWrong workers) (fields_of piece) found
      → last ≡ count_by (λ byte. byte == 32) piece + 1 → judged_line workers before piece ≡ Err why → IsFieldOf workers why piece (unwrap_or found last)
  unended why found last none finds at refused =
      let bad = without_feed workers before piece none in
      let is : fault.BadLine ≡ why = cc in
      let field = wrong_or_last (is_line workers) (IsFirstWrong workers) (fields_of piece) found last finds (last_of piece last at) in
      let here : IsFieldOf workers fault.BadLine piece (unwrap_or found last) = rw none field in
      subst (λ (w : LineFault). IsFieldOf workers w piece (unwrap_or found last)) is here
