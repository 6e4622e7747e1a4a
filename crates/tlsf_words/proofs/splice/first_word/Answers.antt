use Rattle.tlsf_words.proofs.Common.{◌≡◌, ℕ, ◌<◌, get_or, take, length, w64, ap, ◌∙◌, inl, inr, arith, length-take-le, from_le_bytes, cases_lt, get_or-take, get_or_past, le_bytes_8}
use Rattle.tlsf_words.proofs.splice.first_word.Goals as goal

pub returns : goal.returns
returns c =
    let eight = take 8 c.args.bytes.now in
    let long : length eight ≡ 8 = length-take-le 8 c.args.bytes.now c.requires in
    let small : (i : ℕ) → get_or eight i 0 < 256 = λ i. elim (cases_lt i 8) [
      | inl h ↦ rw (get_or-take 8 c.args.bytes.now i 0 h) (omega (arith, c.type_inv.bytes i))
      | inr h ↦ rw (get_or_past eight i 0 (omega (arith, long))) (omega arith)
    ] in
    le_bytes_8 eight c.from_le_bytes.result long small (c.from_le_bytes.ensures ∙ ap (from_le_bytes w64) c.copy_from_slice.ensures.after)
