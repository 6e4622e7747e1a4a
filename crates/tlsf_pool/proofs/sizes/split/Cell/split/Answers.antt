use Rattle.std.proofs.Common.{arith}
use Rattle.std.proofs.lemmas.Grind.{same_number_lists}
use Rattle.tlsf_pool.proofs.sizes.split.Cell.split.Goals as goal

pub returns : goal.returns
returns c =
    let lens = c.self.inside.lens in
    let same = same_number_lists c.loop-at.lens lens (omega arith) (λ k below. c.loop-at.invariant.same k (omega (arith, below))) in
    rw (c.from-2.ensures, c.from-3.ensures, same) c.self.view_is
