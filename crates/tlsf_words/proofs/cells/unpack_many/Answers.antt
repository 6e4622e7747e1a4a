use Rattle.tlsf_words.proofs.Common.{length-drop, length-take-le, ◌≡◌, ◌+◌, ◌-◌, ◌*◌, ◌/◌, length, take, drop, arith, ap, sym, ◌∙◌, inl, inr, cases_lt, get_or-take, get_or-drop, get_or_append_left, get_or-append_right, byte_in}
use Rattle.tlsf_words.proofs.Bytes.{byte_in-part, byte_in-same}
use Rattle.tlsf_words.proofs.Touching.{within_then}
use Rattle.tlsf_words.proofs.cells.unpack_many.Goals as goal

pub returns-clause-bytes : goal.returns-clause-bytes
returns-clause-bytes c k h =
    let n = length c.args.words.now / 4 * 4 in
    let fours : length c.unpack_each.new.out ≡ 8 * n = omega (arith, c.unpack_each.auto.out, c.split_at_mut-fours.ensures.front_len) in
    elim (cases_lt k (8 * n)) [
      | inl low ↦
          get_or_append_left c.unpack_each.new.out c.unpack_few.new.out 0 k (omega (arith, fours))
          ∙ c.unpack_each.ensures.bytes k (omega (arith, c.split_at_mut-fours.ensures.front_len))
          ∙ byte_in-same c.args.words.now (take n c.args.words.now) k (get_or-take n c.args.words.now (k / 8) 0 (omega arith))
      | inr from ↦
          let at : 8 * n + (k - 8 * n) ≡ k = omega arith in
          get_or-append_right c.unpack_each.new.out c.unpack_few.new.out (8 * n) k 0 fours from
          ∙ c.unpack_few.ensures.bytes (k - 8 * n) (omega (arith, c.split_at_mut-fours.ensures.back_len))
          ∙ sym (byte_in-part (take (length c.args.words.now - n) (drop n c.args.words.now)) c.args.words.now n (k - 8 * n) (sym (
          get_or-take (length c.args.words.now - n) (drop n c.args.words.now) ((k - 8 * n) / 8) 0 (omega (arith, c.requires)) ∙ get_or-drop n c.args.words.now ((k - 8 * n) / 8) 0)))
          ∙ ap (byte_in c.args.words.now) at
    ]

pub returns-clause-tally : goal.returns-clause-tally
returns-clause-tally c =
    let few : length (take (length c.args.words.now - length c.args.words.now / 4 * 4) (drop (length c.args.words.now / 4 * 4) c.args.words.now)) ≡ length c.args.words.now - length c.args.words.now / 4 * 4 =
    length-take-le _ _ (omega (arith, length-drop (length c.args.words.now / 4 * 4) c.args.words.now)) in
    let fours : length (take (length c.args.words.now / 4 * 4) c.args.words.now) ≡ length c.args.words.now / 4 * 4 = length-take-le _ _ (omega arith) in
    within_then _ _ _ c.unpack_few.ensures.tally c.unpack_each.ensures.tally (omega arith) (omega (arith, few)) (omega arith) (omega (arith, fours)) (omega (arith, few, fours))
