-- A line is judged by its parts: its first field, and what stands after it.
use Rattle.tlsf_lines.proofs.Common.{◌≡◌, ℕ, List, ◌∷◌, Option, Some, None, option_map, Result, Ok, Err, refl, ◌∙◌, ap, line_behind, fields_in, values_in, kinds_of, line_from, keyword_of, keywords, ◌>>=◌, judged_line, some_or, unless, Value, Line, LineFault, BadLine, BadNumber, LabelOrder}
use Rattle.tlsf_lines.specs.Labels.{is_in_order}
use Rattle.tlsf_lines.specs.declared.keyword.Keyword.{Keyword}

-- what comes of what the fields after a keyword say
abbrev pub judged : List Line → Option (Option Line) → Result Line LineFault
judged before None = Err BadLine
judged before (Some None) = Err BadNumber
judged before (Some (Some line)) = unless (is_in_order before line) LabelOrder >>= λ _. Ok line

judged_numbers : (before : List Line) (said : Option Line)
    → (some_or said BadNumber >>= λ line. (unless (is_in_order before line) LabelOrder >>= λ _. Ok line)) ≡ judged before (Some said)
judged_numbers before None = refl
judged_numbers before (Some line) = refl

judged_values : (before : List Line) (keyword : Keyword) (said : Option (List Value))
    → (some_or said BadLine >>= λ values. (some_or (line_from keyword values) BadNumber >>= λ line. (unless (is_in_order before line) LabelOrder >>= λ _. Ok line)))
    ≡ judged before (option_map (λ values. line_from keyword values) said)
judged_values before keyword None = refl
judged_values before keyword (Some values) = judged_numbers before (line_from keyword values)

module _ (workers : ℕ) (before : List Line) (piece : List ℕ) where
  -- the piece has no line feed
  pub without_feed : fields_in piece ≡ None → judged_line workers before piece ≡ Err BadLine
  unfolding judged_line
  without_feed none = rw none refl

  -- the first field is no keyword
  pub without_keyword : (first : List ℕ) (fields : List (List ℕ)) → fields_in piece ≡ Some (first ∷ fields) → keyword_of keywords first ≡ None
      → judged_line workers before piece ≡ Err BadLine
  unfolding judged_line
  without_keyword first fields are none = rw (are, none) refl

  -- the first field is a keyword
  pub with_keyword : (first : List ℕ) (fields : List (List ℕ)) (keyword : Keyword) (said : Option (Option Line)) → fields_in piece ≡ Some (first ∷ fields)
      → keyword_of keywords first ≡ Some keyword → line_behind workers keyword fields ≡ said → judged_line workers before piece ≡ judged before said
  unfolding judged_line
  with_keyword first fields keyword said are is behind =
      rw (are, is) (judged_values before keyword (values_in workers (kinds_of keyword) fields) ∙ ap (λ s. judged before s) behind)
