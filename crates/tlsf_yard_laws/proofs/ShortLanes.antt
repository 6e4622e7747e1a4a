-- No event makes a lane hold more posts than its capacity, nor changes the capacity.
use Rattle.tlsf_yard_laws.proofs.Common.{[], ◌∷◌, ◌++◌, ◌≡◌, ℕ, ◌-◌, ◌≤◌, List, Option, Some, None, length, drop, refl, ap, ◌∙◌, arith, inl, inr, subst, length-drop, length_push, HeapState, Name, Post, bytes_of, Call, Allocate, Release, Write, Read, Resize, Take, Drain, World, Replayed, by_own, called, draining, name_of, releasing_named, taking, with_waiting, edited_other, edited_same, posting_by, releasing_by, taking_by, drain_by, WorldReply, cases_both}
use Rattle.tlsf_crew.specs.model.OwnReplies.{HeapReply, own_reading, own_resizing, own_writing}

-- the lanes to worker j hold no more than their capacity
abbrev pub AreShort : {sli : ℕ} → ℕ → World sli → Type 0
AreShort j w = (i : ℕ) → length (w.waiting i j) ≤ w.capacity

pub record StayShort {sli : ℕ} (j : ℕ) (w v : World sli) : Type 0 where
  pub capacity : v.capacity ≡ w.capacity
  pub short : AreShort j w → AreShort j v

stay : {sli : ℕ} (j : ℕ) (w : World sli) → StayShort j w w
stay j w = record { capacity = refl; short = λ s. s }

then : {sli : ℕ} (j : ℕ) (w v u : World sli) → StayShort j w v → StayShort j v u → StayShort j w u
then j w v u a b = record { capacity = b.capacity ∙ a.capacity; short = λ s. b.short (a.short s) }

-- one lane has other posts
lane_short : {sli : ℕ} (j : ℕ) (w : World sli) (x y : ℕ) (ps : List Post) → (length (w.waiting x y) ≤ w.capacity → length ps ≤ w.capacity) → AreShort j w → (i : ℕ) → length ((with_waiting w x y ps).waiting i j) ≤ w.capacity
lane_short j w x y ps few short i = elim (cases_both i x j y) [
  | inl lane ↦
      let here : (with_waiting w x y ps).waiting i j ≡ ps = rw (lane.0, lane.1) (edited_same w.waiting x y ps) in
      let old : length (w.waiting x y) ≤ w.capacity = subst (λ (z : ℕ). length (w.waiting x z) ≤ w.capacity) lane.1 (subst (λ (z : ℕ). length (w.waiting z j) ≤ w.capacity) lane.0 (short i)) in
      rw here (few old)
  | inr away ↦ rw (edited_other w.waiting x y i j ps away) (short i)
]

release_short : {sli : ℕ} (j : ℕ) (w : World sli) (at : ℕ) (o : Option Name) → StayShort j w (releasing_named w at o).world
release_short j w at None = stay j w
release_short {sli} j w at (Some name) =
    let ps = w.waiting at name.heap in
    let short : WorldReply sli → Type 0 = λ x. StayShort j w x.world in
    releasing_by short w at name (λ own. record { capacity = refl; short = λ s. s }) (λ ne lt. posting_by short w at name (λ full. stay j w) (λ room.
    let more = length_push ps (record { from = at; name = name }) in
    record { capacity = refl; short = lane_short j w at name.heap (ps ++ record { from = at; name = name } ∷ []) (λ le. omega arith) })) (λ ne ge. stay j w)

take_short : {sli : ℕ} (j : ℕ) (w : World sli) (at from : ℕ) → StayShort j w (taking w at from).world
take_short j w at from = taking_by (λ x. StayShort j w x.world) w at from (stay j w) (stay j w)
    (λ p rest ne lt e. record { capacity = refl; short = lane_short j w from at rest (λ le. let n = ap length e in omega arith) })

own_short : {sli : ℕ} (j : ℕ) (w : World sli) (at : ℕ) (by : HeapState → HeapReply) → StayShort j w (by_own w at by).world
own_short j w at by = record { capacity = refl; short = λ s. s }

-- ---- a drain

drain_short : {sli : ℕ} (j : ℕ) (r : Replayed sli) (at most : ℕ) → StayShort j r.world (draining r at most).world
unfolding draining
drain_short j r at most = drain_by (λ b. StayShort j r.world b.world) at most (record { entries = r.entries; world = r.world; taken = 0 }) (λ from b p lt ne full short.
    then j r.world b.world _ short (record { capacity = refl; short = lane_short j b.world from at (drop 1 (b.world.waiting from at)) (λ le. let n = length-drop 1 (b.world.waiting from at) in omega arith) })) (stay j r.world)

-- any call
pub called_short : {sli : ℕ} (j : ℕ) (r : Replayed sli) (at : ℕ) (call : Call) → StayShort j r.world (called r at call).world
called_short j r at (Allocate len) = record { capacity = refl; short = λ s. s }
called_short j r at (Release target) = release_short j r.world at (name_of r.made target)
called_short j r at (Write target from bytes) = own_short j r.world at (λ h. own_writing h (name_of r.made target) from (bytes_of bytes))
called_short j r at (Read target from n) = own_short j r.world at (λ h. own_reading h (name_of r.made target) from n)
called_short j r at (Resize target len) = own_short j r.world at (λ h. own_resizing h (name_of r.made target) len)
called_short j r at (Take from) = take_short j r.world at from
called_short j r at (Drain most) = drain_short j r at most
