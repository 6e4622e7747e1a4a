use Rattle.std.proofs.Common.{◌<◌, arith}
use Rattle.tlsf_crew.proofs.lemmas.lanes.LaneSlots.{in_yard}
use Rattle.tlsf_crew.proofs.lemmas.worker.Halves.{low_is, high_is, low_first, high_first}
use Rattle.tlsf_crew.proofs.lanes.pairs.settle_lane.Goals as goal

pub settle_pair-requires : goal.settle_pair-requires
settle_pair-requires g c = (
  omega arith,
  let r = in_yard c.args.workers.now c.args.i c.args.j c.requires.lane in
      rw (low_is c.args.workers.now c.split_at_mut-low.result.0.now c.args.i c.args.j r.0 c.index-low-i.result c.split_at_mut-low.ensures.front c.if-i-j.true r.2, high_is c.args.workers.now c.split_at_mut-low.result.1.now c.args.j r.1 c.index-high-0.result c.split_at_mut-low.ensures.back r.3) r.4,
)

pub settle_pair-requires-else-i-j : goal.settle_pair-requires-else-i-j
settle_pair-requires-else-i-j g c = (
  omega arith,
  let r = in_yard c.args.workers.now c.args.i c.args.j c.requires.lane in
      let lt : c.args.j < c.args.i = grind (arith) in
      rw (high_is c.args.workers.now c.split_at_mut-low-else-i-j.result.1.now c.args.i r.0 c.index-high-0-else-i-j.result c.split_at_mut-low-else-i-j.ensures.back r.2, low_is c.args.workers.now c.split_at_mut-low-else-i-j.result.0.now c.args.j c.args.i r.1 c.index-low-j.result c.split_at_mut-low-else-i-j.ensures.front lt r.3) r.4,
)

pub returns-then-i-j : goal.returns-then-i-j
returns-then-i-j g c =
    let r = in_yard c.args.workers.now c.args.i c.args.j c.requires.lane in
    let s = c.split_at_mut-low in
    record {
      a = r.0;
      b = r.1;
      v = c.settle_pair.new.poster;
      w = c.settle_pair.new.taker;
      a_is = r.2;
      b_is = r.3;
      after = low_first c.args.workers.now s.result.0.now s.result.1.now c.args.i c.args.j _ _ s.ensures.front s.ensures.back c.if-i-j.true (omega arith);
      settled =
          rw (
            ← low_is c.args.workers.now s.result.0.now c.args.i c.args.j r.0 c.index-low-i.result s.ensures.front c.if-i-j.true r.2,
            ← high_is c.args.workers.now s.result.1.now c.args.j r.1 c.index-high-0.result s.ensures.back r.3,
          ) c.settle_pair.ensures;
    }

pub returns-else-i-j : goal.returns-else-i-j
returns-else-i-j g c =
    let r = in_yard c.args.workers.now c.args.i c.args.j c.requires.lane in
    let s = c.split_at_mut-low-else-i-j in
    let lt : c.args.j < c.args.i = grind (arith) in
    record {
      a = r.0;
      b = r.1;
      v = c.settle_pair-else-i-j.new.poster;
      w = c.settle_pair-else-i-j.new.taker;
      a_is = r.2;
      b_is = r.3;
      after = high_first c.args.workers.now s.result.0.now s.result.1.now c.args.j c.args.i _ _ s.ensures.front s.ensures.back lt (omega arith);
      settled =
          rw (
            ← high_is c.args.workers.now s.result.1.now c.args.i r.0 c.index-high-0-else-i-j.result s.ensures.back r.2,
            ← low_is c.args.workers.now s.result.0.now c.args.j c.args.i r.1 c.index-low-j.result s.ensures.front lt r.3,
          ) c.settle_pair-else-i-j.ensures;
    }
