use Rattle.tlsf_heap.proofs.Common.{◌≡◌, ◌+◌, ◌*◌, ◌-◌, LeavesLive, OnlyReads, IsTallyUpTo}
use Rattle.tlsf_heap.proofs.tally.Tally.of.Given as goal

-- the region is as it was but for its touches, none of a payload, and the sums are those over the blocks so far
abbrev pub invariant-loop-at : goal.invariant-loop-at
invariant-loop-at g l = record {
  reads : OnlyReads l.fn.region l.region (2 * (l.tally.live_blocks + l.tally.free_blocks));
  all : l.words ≡ l.fn.region.words;
  sums : IsTallyUpTo l.tick l.fn.region.blocks l.at l.tally;
  leaves : LeavesLive l.fn.region.blocks l.fn.region.touched l.region.touched;
}

abbrev pub decreases-loop-at : goal.decreases-loop-at
decreases-loop-at g l = l.words - l.at
