use Rattle.tlsf_words.proofs.Common.{◌≡◌, ◌+◌, ◌-◌, ◌*◌, ◌/◌, ◌%◌, length, get_or, ap, sym, refl, ◌∙◌, inl, inr, arith, length-take-le, cases_lt, get_or-take, length-between, get_or-between, byte_in}
use Rattle.tlsf_words.proofs.Bytes.{bytes_in_is}
use Rattle.tlsf_words.proofs.words.Words.write_few.Goals as goal

pub returns-clause-bytes : goal.returns-clause-bytes
returns-clause-bytes c =
    let start = c.args.start in
    let bytes = c.args.bytes.now in
    let first = c.min-first.result in
    sym (bytes_in_is _ start (length bytes) bytes refl (λ k h. sym (elim (cases_lt k first) [
      | inl low ↦
          let at : start + k ≡ 8 * (start / 8) + start % 8 + k = omega arith in
          c.write_edge-2.ensures.writes.changes.before (start + k) (omega (arith, c.min-first.ensures))
          ∙ ap (byte_in c.write_edge.new.self.words) at
          ∙ c.write_edge.ensures.bytes k (omega (arith, length-take-le first bytes (omega (arith, c.min-first.ensures))))
          ∙ get_or-take first bytes k 0 low
      | inr from ↦
          let at : start + k ≡ 8 * (start / 8 + 1) + 0 + (k - first) = omega (arith, c.min-first.ensures) in
          let entry : first + (k - first) ≡ k = omega arith in
          ap (byte_in c.write_edge-2.new.self.words) at
          ∙ c.write_edge-2.ensures.bytes (k - first) (omega (arith, length-between bytes first (length bytes) (omega arith)))
          ∙ get_or-between bytes first (length bytes) (k - first) 0 (omega arith)
          ∙ ap (λ i. get_or bytes i 0) entry
    ])))
