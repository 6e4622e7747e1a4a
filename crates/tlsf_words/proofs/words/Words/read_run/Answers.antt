use Rattle.tlsf_words.proofs.Common.{◌≡◌, ◌+◌, ◌-◌, ◌*◌, ◌/◌, ◌%◌, ◌++◌, get_or, take, drop, length, refl, ap, sym, ◌∙◌, inl, inr, arith, cases_lt, length-between, byte_in}
use Rattle.tlsf_words.proofs.Bytes.{bytes_in_is, with_piece, with_piece_is, length-with_piece, get_or-with_piece_before, get_or-with_piece_in, get_or-with_piece_behind}
use Rattle.tlsf_words.proofs.words.Words.read_run.Goals as goal

pub returns-clause-bytes : goal.returns-clause-bytes
returns-clause-bytes c =
    let start = c.args.start in
    let words = c.args.self.now.words in
    let out = c.args.out.now in
    let head = c.of-run.result.head in
    let tail = c.of-run.result.tail in
    let is = c.of-run.ensures in
    let one = c.read_tail.new.out in
    let whole = c.read_whole.new.out in
    let two = take head one ++ (whole ++ drop (tail - head) (drop head one)) in
    let long_head : length c.read_head.new.out ≡ length out = omega (arith, c.read_head.auto.out) in
    let long_one : length one ≡ length out = omega (arith, c.read_tail.auto.out, long_head) in
    let long_whole : tail - head ≡ length whole = omega (arith, c.read_whole.auto.out, length-between one head tail (omega (arith, long_one, is.head, is.whole, is.tail))) in
    let is_two : two ≡ with_piece one head whole = with_piece_is head (tail - head) one one whole whole refl refl long_whole in
    let long_two : length two ≡ length out = ap length is_two ∙ length-with_piece one head whole (omega (arith, long_one, long_whole, is.head, is.whole, is.tail)) ∙ long_one in
    bytes_in_is words start (length out) two long_two (λ k h. ap (λ bytes. get_or bytes k 0) is_two ∙ elim (cases_lt k head) [
      | inl low ↦
          let at : 8 * (start / 8) + start % 8 + k ≡ start + k = omega arith in
          get_or-with_piece_before one head whole k (omega (arith, long_one, is.head)) low
          ∙ c.read_tail.ensures.before k (omega (arith, long_head, low, is.head, is.whole, is.tail))
          ∙ c.read_head.ensures.bytes k (omega (arith, is.head)) (omega (arith, is.head))
          ∙ ap (byte_in words) at
      | inr from ↦ elim (cases_lt k tail) [
        | inl below ↦
            let at : 8 * c.of-run.result.first + (k - head) ≡ start + k = omega (arith, is.head, is.first) in
            get_or-with_piece_in one head whole k (omega (arith, long_one, is.head)) from (omega (arith, long_whole))
            ∙ c.read_whole.ensures.bytes (k - head) (omega (arith, is.tail))
            ∙ ap (byte_in c.read_tail.new.self.words) at
            ∙ ap (λ ws. byte_in ws (start + k)) (c.read_tail.ensures.reads.words ∙ c.read_head.ensures.reads.words)
        | inr behind ↦
            let entry : length c.read_head.new.out - (length c.read_head.new.out - tail) + (k - tail) ≡ k = omega (arith, long_head) in
            let at : 8 * (c.of-run.result.first + c.of-run.result.whole) + (k - tail) ≡ start + k = omega (arith, is.head, is.first, is.whole, is.tail) in
            get_or-with_piece_behind one head whole k (omega (arith, long_one, is.head)) (omega (arith, long_whole, behind, is.head, is.whole, is.tail))
            ∙ ap (λ i. get_or one i 0) (sym entry)
            ∙ c.read_tail.ensures.bytes (k - tail) (omega (arith, long_head))
            ∙ ap (byte_in c.read_head.new.self.words) at
            ∙ ap (λ ws. byte_in ws (start + k)) c.read_head.ensures.reads.words
      ]
    ])
