use Rattle.tlsf_words.proofs.Common.{◌≡◌, ◌+◌, ◌*◌, ◌/◌, ◌%◌, length, ap, ◌∙◌, arith, length-take-le, common_steps, byte_in}
use Rattle.tlsf_words.proofs.Bytes.{bytes_in_parts}
use Rattle.tlsf_words.proofs.words.Words.read_few.Goals as goal

pub returns-clause-bytes : goal.returns-clause-bytes
returns-clause-bytes c =
    let start = c.args.start in
    let out = c.args.out.now in
    let first = c.min-first.result in
    let long_head : first ≡ length c.read_edge.new.out = omega (arith, c.read_edge.auto.out, length-take-le first out (omega (arith, c.min-first.ensures))) in
    let long_tail : length out ≡ first + length c.read_edge-2.new.out = grind (arith, common_steps) in
    bytes_in_parts c.args.self.now.words out c.read_edge.new.out c.read_edge-2.new.out start first _
    long_head (grind (arith, common_steps)) (grind (arith, common_steps))
    (λ k h.
    let at : 8 * (start / 8) + start % 8 + k ≡ start + k = omega arith in
    c.read_edge.ensures.bytes k (omega arith) ∙ ap (byte_in c.args.self.now.words) at)
    (λ k h.
    let at : 8 * (start / 8 + 1) + 0 + k ≡ start + first + k = omega (arith, c.min-first.ensures, long_tail) in
    c.read_edge-2.ensures.bytes k (omega arith) ∙ ap (byte_in c.read_edge.new.self.words) at
    ∙ ap (λ ws. byte_in ws (start + first + k)) c.read_edge.ensures.reads.words)
