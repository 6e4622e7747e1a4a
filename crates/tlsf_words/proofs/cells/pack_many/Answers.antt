use Rattle.tlsf_words.proofs.Common.{◌≡◌, ◌+◌, ◌-◌, ◌*◌, ◌/◌, length, get_or, drop, arith, ap, ◌∙◌, inl, inr, length-drop, length-take-le, cases_lt, get_or-take, get_or-drop}
use Rattle.tlsf_words.proofs.Bytes.{byte_in-append_left, byte_in-append_right}
use Rattle.tlsf_words.proofs.Touching.{within_then}
use Rattle.tlsf_words.proofs.cells.pack_many.Goals as goal

pub returns-clause-bytes : goal.returns-clause-bytes
returns-clause-bytes c k h =
    let n = length c.args.words.now / 4 * 4 in
    let fours : length c.pack_each.new.words ≡ n = omega (arith, c.pack_each.auto.words, c.split_at_mut-fours.ensures.front_len) in
    elim (cases_lt k (8 * n)) [
      | inl low ↦
          byte_in-append_left c.pack_each.new.words c.pack_few.new.words k (omega (arith, fours))
          ∙ c.pack_each.ensures.bytes k (omega (arith, length-take-le (8 * n) c.args.bytes.now (omega arith)))
          ∙ get_or-take (8 * n) c.args.bytes.now k 0 low
      | inr from ↦
          let at : 8 * n + (k - 8 * n) ≡ k = omega arith in
          byte_in-append_right c.pack_each.new.words c.pack_few.new.words n k fours from
          ∙ c.pack_few.ensures.bytes (k - 8 * n) (omega (arith, length-take-le (length c.args.bytes.now - 8 * n) (drop (8 * n) c.args.bytes.now) (omega (arith, length-drop (8 * n) c.args.bytes.now)), h, from))
          ∙ get_or-take (length c.args.bytes.now - 8 * n) (drop (8 * n) c.args.bytes.now) (k - 8 * n) 0 (omega arith)
          ∙ get_or-drop (8 * n) c.args.bytes.now (k - 8 * n) 0
          ∙ ap (λ i. get_or c.args.bytes.now i 0) at
    ]

pub returns-clause-tally : goal.returns-clause-tally
returns-clause-tally c = within_then _ _ _ c.pack_few.ensures.tally c.pack_each.ensures.tally (omega arith) (omega (arith, c.split_at_mut-fours.ensures.back_len)) (omega arith) (omega (arith, c.split_at_mut-fours.ensures.front_len)) (omega (arith, c.split_at_mut-fours.ensures.front_len, c.split_at_mut-fours.ensures.back_len))
