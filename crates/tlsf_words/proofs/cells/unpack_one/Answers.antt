use Rattle.std.proofs.Common.{ap, arith, refl, ◌∙◌, length, ◌≡◌, ◌+◌, ◌-◌, ◌*◌}
use Rattle.tlsf_words.proofs.Bytes.{unpacks_one, with_piece_is}
use Rattle.tlsf_words.proofs.Touching.{within_one}
use Rattle.tlsf_words.proofs.cells.unpack_one.Goals as goal

pub returns-clause-bytes : goal.returns-clause-bytes
returns-clause-bytes c =
    let are = c.copy_from_slice.ensures.after ∙ (rw c.read_at-word.ensures.value at c.to_le_bytes.ensures) in
    let count : 8 * c.args.i + 8 - 8 * c.args.i ≡ length c.copy_from_slice.new.self = omega (arith, ap length are) in
    rw (with_piece_is (8 * c.args.i) _ c.args.out.now c.args.out.now _ c.copy_from_slice.new.self refl refl count)
    (unpacks_one c.args.words.now c.args.out.now c.copy_from_slice.new.self c.args.i are (omega (arith, c.requires.run.whole, c.requires.inside)))

pub returns-clause-tally : goal.returns-clause-tally
returns-clause-tally c = within_one _ _ _ (c.args.from + c.args.i) _ _ refl (omega arith) (omega (arith, c.requires.inside)) c.read_at-word.ensures.tally
