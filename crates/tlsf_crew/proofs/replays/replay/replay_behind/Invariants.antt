use Rattle.tlsf_crew.proofs.Common.{◌≡◌, ◌≢◌, ◌+◌, ◌≤◌, ℕ, All, length, take, vec_len, vec_capacity, fold, IsYard, shown_in, world_of, after, resumed, replay_of}
use Rattle.tlsf_crew.proofs.replays.replay.replay_behind.Given as goal

abbrev pub invariant-loop-event : goal.invariant-loop-event
invariant-loop-event g l = record {
  yard : IsYard l.workers;
  count : length l.workers ≡ length l.fn.workers;
  made : vec_len l.made ≡ vec_len l.fn.made + l.event-index;
  made_room : vec_len l.fn.made + length l.events ≤ vec_capacity l.made;
  room : vec_capacity l.journal.entries ≡ l.room;
  others : (x : ℕ) → All (λ event. event.worker ≢ x) l.events → shown_in l.workers x ≡ shown_in l.fn.workers x;
  replayed : replay_of l.made.items l.journal.entries.items l.workers ≡ fold after (resumed (world_of l.fn.workers) l.fn.made.items) (take l.event-index l.events);
}
