use Rattle.tlsf_words.proofs.Common.{◌≡◌, ◌+◌, ◌-◌, ◌*◌, ◌/◌, ◌%◌, get_or, length, length-take, w64, ap, sym, ◌∙◌, inl, inr, arith, to_le_bytes, cases_lt, get_or-take, byte_in}
use Rattle.tlsf_words.proofs.Bytes.{byte_in-word, bytes_in-same}
use Rattle.tlsf_words.proofs.words.Words.copy_payload.Goals as goal

-- whole words alone
pub returns-then-rest-eq0-clause-bytes : goal.returns-then-rest-eq0-clause-bytes
returns-then-rest-eq0-clause-bytes c =
    bytes_in-same _ _ (8 * (c.args.from + 3) + 0) (8 * (c.args.to + 3) + 0) c.args.len (λ k h.
    let there : 8 * (c.args.to + 3) + 0 + k ≡ 8 * (c.args.to + 3) + k = omega arith in
    let here : 8 * (c.args.from + 3) + 0 + k ≡ 8 * (c.args.from + 3) + k = omega arith in
    rw (there, here) (c.copy_words.ensures.copied k (omega arith)))

-- and then a part of one
pub returns-clause-bytes : goal.returns-clause-bytes
returns-clause-bytes c =
    let source = c.args.from + 3 in
    let target = c.args.to + 3 in
    let whole = c.args.len / 8 in
    bytes_in-same _ _ (8 * source + 0) (8 * target + 0) c.args.len (λ k h. elim (cases_lt k (8 * whole)) [
      | inl low ↦
          let there : 8 * target + 0 + k ≡ 8 * target + k = omega arith in
          let here : 8 * source + 0 + k ≡ 8 * source + k = omega arith in
          rw (there, here) (c.write_piece.ensures.before (8 * target + k) (omega arith) ∙ c.copy_words-2.ensures.copied k low ∙ ap (λ words. byte_in words (8 * source + k)) c.read.ensures.reads.words)
      | inr past ↦
          let j = k - 8 * whole in
          let there : 8 * target + 0 + k ≡ 8 * (target + whole) + 0 + j = omega arith in
          ap (byte_in c.write_piece.new.self.words) there
          ∙ c.write_piece.ensures.bytes j (omega (arith, length-take (c.args.len % 8) c.to_le_bytes-last.result, ap length c.to_le_bytes-last.ensures))
          ∙ get_or-take (c.args.len % 8) c.to_le_bytes-last.result j 0 (omega arith)
          ∙ ap (λ bytes. get_or bytes j 0) (c.to_le_bytes-last.ensures ∙ ap (to_le_bytes w64) c.read.ensures.value)
          ∙ sym (byte_in-word c.args.self.now.words (source + whole) j (8 * source + 0 + k) (omega arith) (omega arith))
    ])
