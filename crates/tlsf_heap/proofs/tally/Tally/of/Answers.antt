use Rattle.tlsf_heap.proofs.Common.{◌≡◌, ◌+◌, ap, arith, tally_of, Tally}
use Rattle.tlsf_heap.proofs.lemmas.blocks.Sums.{counts_apart}
use Rattle.tlsf_heap.proofs.lemmas.words.Tallies.{all_summed}
use Rattle.tlsf_heap.proofs.tally.Tally.of.Given.{Over}
use Rattle.tlsf_heap.proofs.tally.Tally.of.Goals as goal

summed : (g : Over) (c : goal.After-loop-at g) → c.loop-at.tally ≡ tally_of c.args.tick c.args.region.now.blocks
summed g c = all_summed c.requires.rooms c.loop-at.invariant.sums (omega (arith, c.loop-at-test.false, c.loop-at.invariant.all, c.requires.whole))

pub returns-clause-sums : goal.returns-clause-sums
returns-clause-sums g c = summed g c

pub returns-clause-reads : goal.returns-clause-reads
returns-clause-reads g c =
    let reads = c.loop-at.invariant.reads in
    record {
      words = reads.words;
      blocks = reads.blocks;
      lists = reads.lists;
      marked = reads.marked;
      stored = reads.stored;
      stays = reads.stays;
      touches = omega (arith, reads.touches, ap (λ (t : Tally). t.live_blocks + t.free_blocks) (summed g c), counts_apart c.args.region.now.blocks);
      rise = reads.rise;
    }

pub returns-clause-touched : goal.returns-clause-touched
returns-clause-touched g c = c.loop-at.invariant.leaves
