use Rattle.tlsf_words.proofs.Common.{◌≡◌, ◌+◌, ◌-◌, ◌*◌, ◌/◌, ◌%◌, length, get_or, ap, sym, refl, ◌∙◌, inl, inr, arith, cases_lt, get_or-between, byte_in}
use Rattle.tlsf_words.proofs.Bytes.{bytes_in_is}
use Rattle.tlsf_words.proofs.words.Words.write_run.Goals as goal

pub returns-clause-bytes : goal.returns-clause-bytes
returns-clause-bytes c =
    let start = c.args.start in
    let bytes = c.args.bytes.now in
    let head = c.of-run.result.head in
    let tail = c.of-run.result.tail in
    let is = c.of-run.ensures in
    sym (bytes_in_is _ start (length bytes) bytes refl (λ k h. sym (elim (cases_lt k head) [
      | inl low ↦
          let at : start + k ≡ 8 * (start / 8) + start % 8 + k = omega arith in
          c.write_whole.ensures.writes.changes.before (start + k) (omega (arith, is.head, is.first))
          ∙ c.write_tail.ensures.writes.changes.before (start + k) (omega (arith, is.head, is.first))
          ∙ ap (byte_in c.write_head.new.self.words) at
          ∙ c.write_head.ensures.bytes k (omega (arith, is.head)) (omega (arith, is.head))
      | inr from ↦ elim (cases_lt k tail) [
        | inl inner ↦
            let at : start + k ≡ 8 * c.of-run.result.first + (k - head) = omega (arith, is.head, is.first, is.whole, is.tail) in
            let entry : head + (k - head) ≡ k = omega arith in
            ap (byte_in c.write_whole.new.self.words) at
            ∙ c.write_whole.ensures.bytes (k - head) (omega (arith, is.tail))
            ∙ get_or-between bytes head tail (k - head) 0 (omega arith)
            ∙ ap (λ i. get_or bytes i 0) entry
        | inr behind ↦
            let at : start + k ≡ 8 * (c.of-run.result.first + c.of-run.result.whole) + (k - tail) = omega (arith, is.head, is.first, is.whole, is.tail) in
            let entry : length bytes - (length bytes - tail) + (k - tail) ≡ k = omega arith in
            c.write_whole.ensures.writes.changes.behind (start + k) (omega (arith, at))
            ∙ ap (byte_in c.write_tail.new.self.words) at
            ∙ c.write_tail.ensures.bytes (k - tail) (omega arith)
            ∙ ap (λ i. get_or bytes i 0) entry
      ]
    ])))
