use Rattle.tlsf_c.proofs.Common.{◌≡◌, ◌-◌, ◌≤◌, true, ◌++◌, length, take, if◌then◌else◌, posts_sent, free_slots, IsLane, TakeEnd, posts_named}
use Rattle.tlsf_c.proofs.lane_calls.put_names.Given as goal

abbrev pub invariant-loop-count : goal.invariant-loop-count
invariant-loop-count l = record {
  lane : (t : TakeEnd) → IsLane l.fn.end t → IsLane l.end t;
  most : l.count ≤ length l.names;
  sent : posts_sent l.end ≡ posts_sent l.fn.end ++ posts_named (take l.count l.names);
  slots : free_slots l.end ≡ free_slots l.fn.end - l.count;
  full : l.is_full ≡ true → free_slots l.fn.end ≤ l.count;
}

abbrev pub decreases-loop-count : goal.decreases-loop-count
decreases-loop-count l = if l.is_full then 0 else length l.names - l.count
