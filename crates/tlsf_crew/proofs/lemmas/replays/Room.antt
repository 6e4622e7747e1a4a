-- A list of events makes at most one entry for each event, for each release and for each post that waits.
use Rattle.tlsf_crew.proofs.Common.{suc, zero, cond, [], ◌∷◌, ◌++◌, ◌≡◌, ℕ, ◌+◌, ◌-◌, ◌<◌, ◌≤◌, List, Option, Some, None, length, take, drop, ◌∙◌, ap, arith, refl, inl, inr, fold, cases_eq, cases_lt, length_push, length-set, sum_by-cons, HeapState, Name, Post, Event, Call, Allocate, Release, Write, Read, Resize, Take, Drain, Drained, Refused, Stranger, bytes_of, released, HeapReply, own_allocating, own_reading, own_resizing, own_writing, World, WorldReply, Replayed, with_heap, with_waiting, heap_in, by_own, releasing, releasing_named, taking, took, took_more, DrainState, after_drain, draining, answered, called, after, resumed, name_of, world_of, IsYard, waits_in, sum_below, waiting_count, is_release, releases_in, Worker, Lanes}
use Rattle.tlsf_crew.proofs.lemmas.lanes.LaneChanges.{heaps_count}
use Rattle.tlsf_crew.proofs.lemmas.model.OneEvent.{drain_by, posting_by, releasing_by, taking_by}
use Rattle.tlsf_crew.proofs.lemmas.model.EventSteps.{after_far, after_near}
use Rattle.tlsf_crew.proofs.lemmas.scripts.LaneMoves.{sum_has}
use Rattle.tlsf_crew.proofs.lemmas.lanes.LaneSettled.{none_wait, none_for}
use Rattle.tlsf_crew.proofs.lemmas.model.Sums.{edited_sum}

heap_waits : {sli : ℕ} (w : World sli) (at : ℕ) (h : HeapState) → waiting_count (with_heap w at h) ≡ waiting_count w
unfolding waiting_count
heap_waits w at h = rw (length-set w.heaps at h) refl

lane_waits : {sli : ℕ} (w : World sli) (i j : ℕ) (ps : List Post) → i < length w.heaps → j < length w.heaps → waiting_count (with_waiting w i j ps) + length (w.waiting i j) ≡ waiting_count w + length ps
unfolding waiting_count
lane_waits w i j ps i_in j_in = edited_sum (length w.heaps) w.waiting i j ps i_in j_in

release_waits : {sli : ℕ} (w : World sli) (at : ℕ) (name : Name) → at < length w.heaps → waiting_count (releasing w at name).world ≤ waiting_count w + 1
release_waits {sli} w at name at_in =
    let few : WorldReply sli → Type 0 = λ x. waiting_count x.world ≤ waiting_count w + 1 in
    releasing_by few w at name (λ e. let h = heap_waits w at (released (heap_in w at) name).heap in omega arith)
    (λ ne lt. posting_by few w at name (λ e. omega arith) (λ room.
    let x : Post = record { from = at; name = name } in
    let a = lane_waits w at name.heap (w.waiting at name.heap ++ x ∷ []) at_in lt in
    let n = length_push (w.waiting at name.heap) x in
    omega arith))
    (λ ne ge. omega arith)

named_waits : {sli : ℕ} (w : World sli) (at : ℕ) (name : Option Name) → at < length w.heaps → waiting_count (releasing_named w at name).world ≤ waiting_count w + 1
named_waits w at None at_in = omega arith
named_waits w at (Some name) at_in = release_waits w at name at_in

own_waits : {sli : ℕ} (w : World sli) (at : ℕ) (by : HeapState → HeapReply) → waiting_count (by_own w at by).world ≤ waiting_count w
own_waits w at by = let h = heap_waits w at (by (heap_in w at)).heap in omega arith

-- a take takes one post out
took_waits : {sli : ℕ} (w : World sli) (at from : ℕ) (p : Post) (rest : List Post) → at < length w.heaps → from < length w.heaps → w.waiting from at ≡ p ∷ rest
    → waiting_count (took w at from p rest).world + 1 ≡ waiting_count w
took_waits w at from p rest at_in from_in e =
    let h = heap_waits (with_waiting w from at rest) at (released (heap_in w at) p.name).heap in
    let a = lane_waits w from at rest from_in at_in in
    let n : length (w.waiting from at) ≡ length rest + 1 = ap length e ∙ omega arith in
    omega arith

take_waits : {sli : ℕ} (w : World sli) (at from : ℕ) → at < length w.heaps → waiting_count (taking w at from).world ≤ waiting_count w
take_waits w at from at_in =
    taking_by (λ x. waiting_count x.world ≤ waiting_count w) w at from (omega arith) (omega arith) (λ p rest ne lt e. let a = took_waits w at from p rest at_in lt e in omega arith)

-- each post that a drain takes makes one entry
abbrev IsEven : {sli : ℕ} → DrainState sli → DrainState sli → Type 0
IsEven d b = (length b.entries + waiting_count b.world ≡ length d.entries + waiting_count d.world) × (length b.world.heaps ≡ length d.world.heaps)

all_even : {sli : ℕ} (at most : ℕ) (d : DrainState sli) → at < length d.world.heaps → IsEven d (after_drain at most d)
all_even at most d at_in = drain_by (IsEven d) at most d (λ from b p lt ne full even.
    let rest = drop 1 (b.world.waiting from at) in
    let count = even.1 in
    let sum = even.0 in
    let t = took_waits b.world at from p rest (omega arith) (omega arith) full in
    let n = length_push b.entries (record { worker = at; call = Take from; reply = (took b.world at from p rest).reply }) in
    let len : length (took_more at from b p).world.heaps ≡ length b.world.heaps = length-set b.world.heaps at (released (heap_in b.world at) p.name).heap in
    (omega arith, len ∙ count)) (refl, refl)

draining_even : {sli : ℕ} (r : Replayed sli) (at most : ℕ) → at < length r.world.heaps → length (draining r at most).entries + waiting_count (draining r at most).world ≡ length r.entries + waiting_count r.world + 1
unfolding draining
draining_even {sli} r at most at_in =
    let d : DrainState sli = record { entries = r.entries; world = r.world; taken = 0 } in
    let a = (all_even at most d at_in).0 in
    let n = length_push (after_drain at most d).entries (record { worker = at; call = Drain most; reply = Drained (after_drain at most d).taken }) in
    omega arith

-- an event makes one entry, and a release one more later on where it posts
abbrev later : Call → ℕ
later call = cond (is_release call) 1 0

answered_room : {sli : ℕ} (r : Replayed sli) (at : ℕ) (call : Call) (a : WorldReply sli) → waiting_count a.world ≤ waiting_count r.world + later call
    → length (answered r at call a).entries + waiting_count (answered r at call a).world ≤ length r.entries + waiting_count r.world + 1 + later call
answered_room r at call a le = let n = length_push r.entries (record { worker = at; call = call; reply = a.reply }) in omega arith

called_room : {sli : ℕ} (r : Replayed sli) (at : ℕ) (call : Call) → at < length r.world.heaps
    → length (called r at call).entries + waiting_count (called r at call).world ≤ length r.entries + waiting_count r.world + 1 + later call
called_room {sli} r at (Allocate len) at_in = answered_room r at (Allocate len) _ (let h = own_waits r.world at (λ h. own_allocating sli h len) in omega arith)
called_room {sli} r at (Release target) at_in = answered_room r at (Release target) _ (named_waits r.world at (name_of r.made target) at_in)
called_room {sli} r at (Write target from bytes) at_in = answered_room r at (Write target from bytes) _ (let h = own_waits r.world at (λ h. own_writing h (name_of r.made target) from (bytes_of bytes)) in omega arith)
called_room {sli} r at (Read target from n) at_in = answered_room r at (Read target from n) _ (let h = own_waits r.world at (λ h. own_reading h (name_of r.made target) from n) in omega arith)
called_room {sli} r at (Resize target len) at_in = answered_room r at (Resize target len) _ (let h = own_waits r.world at (λ h. own_resizing h (name_of r.made target) len) in omega arith)
called_room {sli} r at (Take from) at_in = answered_room r at (Take from) _ (let h = take_waits r.world at from at_in in omega arith)
called_room {sli} r at (Drain most) at_in = let a = draining_even r at most at_in in omega arith

after_room : {sli : ℕ} (r : Replayed sli) (e : Event) → length (after r e).entries + waiting_count (after r e).world ≤ length r.entries + waiting_count r.world + 1 + later e.call
after_room r e =
    elim (cases_lt e.worker (length r.world.heaps)) [
      | inl lt ↦ rw (after_near r e e.call lt refl) (called_room r e.worker e.call lt)
      | inr ge ↦ rw (after_far r e ge) (answered_room r e.worker e.call (record { reply = Refused Stranger; world = r.world }) (omega arith))
    ]

all_room : {sli : ℕ} (k : ℕ) (es : List Event) (r : Replayed sli) → k ≤ length es
    → length (fold after r (take k es)).entries + waiting_count (fold after r (take k es)).world ≤ length r.entries + waiting_count r.world + k + releases_in es
all_room zero es r le = omega arith
all_room (suc k) [] r le = absurd (omega arith)
all_room (suc k) (e ∷ es) r le =
    let a = after_room r e in
    let b = all_room k es (after r e) (omega arith) in
    let c : releases_in (e ∷ es) ≡ later e.call + releases_in es = sum_by-cons (λ x. later x.call) e es in
    omega arith

-- the entries of the first events, and what waits then
pub so_far : {sli : ℕ} (k : ℕ) (es : List Event) (w : World sli) (made : List (Option Name)) → k ≤ length es
    → length (fold after (resumed w made) (take k es)).entries + waiting_count (fold after (resumed w made) (take k es)).world ≤ k + releases_in es + waiting_count w
so_far k es w made le = let a = all_room k es (resumed w made) le in omega arith

-- what waits for one worker is no more than what waits in the yard
pub worker_waits : {sli : ℕ} (ws : List (Worker sli Lanes)) (at : ℕ) → IsYard ws → sum_below 8 (λ i. length (waits_in ws i at)) ≤ waiting_count (world_of ws)
unfolding world_of waiting_count
worker_waits ws at yard =
    let n = heaps_count ws in
    elim (cases_lt at (length ws)) [
      | inl lt ↦
          let few = past_sum (length ws) (λ i. length (waits_in ws i at)) 8 yard.few (λ i ge. ap length (none_wait ws i at yard (λ _. ge))) in
          let all = sum_has (length ws) (λ j. sum_below (length ws) (λ i. length (waits_in ws i j))) at lt in
          rw n (omega arith)
      | inr ge ↦ let none = past_sum 0 (λ i. length (waits_in ws i at)) 8 (omega arith) (λ i _. ap length (none_for ws i at yard ge)) in omega arith
    ]
  where
    past_sum : (n : ℕ) (f : ℕ → ℕ) (k : ℕ) → n ≤ k → ((i : ℕ) → n ≤ i → f i ≡ 0) → sum_below k f ≡ sum_below n f
    past_sum n f zero le none = let z : n ≡ 0 = omega arith in rw z refl
    past_sum n f (suc k) le none = elim (cases_eq n (suc k)) [
      | inl e ↦ rw e refl
      | inr ne ↦ let a = past_sum n f k (omega arith) none in let b = none k (omega arith) in omega arith
    ]
