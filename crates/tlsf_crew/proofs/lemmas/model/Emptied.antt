-- A drain that may take no fewer posts than wait empties each lane to its worker, and touches nothing else.
use Rattle.tlsf_crew.proofs.Common.{suc, zero, [], ◌∷◌, ◌++◌, ◌≡◌, ◌≢◌, ℕ, ◌+◌, ◌-◌, ◌<◌, ◌≤◌, List, length, take, drop, sym, ◌∙◌, ap, arith, refl, inl, inr, append-nil, get_or-set_other, fold, cases_eq, length_push, take_all, Post, Take, released, no_heap, DrainState, heap_in, took, took_more, drained_waiting, drained_below, after_drain, sum_below}
use Rattle.tlsf_crew.proofs.lemmas.model.OneEvent.{from_other, from_own}
use Rattle.tlsf_crew.proofs.lemmas.model.Edits.{edited_same, edited_other}

-- two states of a drain that differ in no lane to another worker, and in no other heap
record SameAway {sli : ℕ} (at : ℕ) (d b : DrainState sli) : Type 0 where
  waiting : (x y : ℕ) → y ≢ at → b.world.waiting x y ≡ d.world.waiting x y
  heaps : (y : ℕ) → y ≢ at → heap_in b.world y ≡ heap_in d.world y
  capacity : b.world.capacity ≡ d.world.capacity

away_then : {sli : ℕ} (at : ℕ) (d b c : DrainState sli) → SameAway at d b → SameAway at b c → SameAway at d c
away_then at d b c p q = record {
  waiting = λ x y ne. q.waiting x y ne ∙ p.waiting x y ne;
  heaps = λ y ne. q.heaps y ne ∙ p.heaps y ne;
  capacity = q.capacity ∙ p.capacity;
}

same_away : {sli : ℕ} (at : ℕ) (d : DrainState sli) → SameAway at d d
same_away at d = record { waiting = λ x y ne. refl; heaps = λ y ne. refl; capacity = refl }

-- this many posts were taken out of one lane, and these are left in it
record TookOut {sli : ℕ} (at from : ℕ) (rest : List Post) (n : ℕ) (d b : DrainState sli) : Type 0 where
  here : b.world.waiting from at ≡ rest
  others : (x : ℕ) → x ≢ from → b.world.waiting x at ≡ d.world.waiting x at
  away : SameAway at d b
  taken : b.taken ≡ d.taken + n
  entries : length b.entries ≡ length d.entries + n

one_out : {sli : ℕ} (at from : ℕ) (d : DrainState sli) (p : Post) → TookOut at from (drop 1 (d.world.waiting from at)) 1 d (took_more at from d p)
one_out at from d p =
    let w = d.world in
    let rest = drop 1 (w.waiting from at) in
    record {
      here = edited_same w.waiting from at rest;
      others = λ x ne. edited_other w.waiting from at x at rest (λ e _. ne e);
      away = record {
        waiting = λ x y ne. edited_other w.waiting from at x y rest (λ _ e. ne e);
        heaps = λ y ne. get_or-set_other w.heaps at y (released (heap_in w at) p.name).heap no_heap ne;
        capacity = refl;
      };
      taken = refl;
      entries = length_push d.entries (record { worker = at; call = Take from; reply = (took w at from p rest).reply });
    }

some_out : {sli : ℕ} (at from : ℕ) (rest ps : List Post) (d : DrainState sli) → d.world.waiting from at ≡ ps ++ rest → TookOut at from rest (length ps) d (fold (took_more at from) d ps)
some_out at from rest [] d e = record { here = e; others = λ x ne. refl; away = same_away at d; taken = omega arith; entries = omega arith }
some_out at from rest (p ∷ ps) d e =
    let b = took_more at from d p in
    let one = one_out at from d p in
    let more = some_out at from rest ps b (one.here ∙ ap (drop 1) e) in
    record {
      here = more.here;
      others = λ x ne. more.others x ne ∙ one.others x ne;
      away = away_then at d b (fold (took_more at from) b ps) one.away more.away;
      taken = let x = one.taken in let y = more.taken in omega arith;
      entries = let x = one.entries in let y = more.entries in omega arith;
    }

one_emptied : {sli : ℕ} (at most from : ℕ) (d : DrainState sli) → d.taken + length (d.world.waiting from at) ≤ most
    → TookOut at from [] (length (d.world.waiting from at)) d (drained_waiting at most from d)
unfolding drained_waiting
one_emptied at most from d le =
    let waits = d.world.waiting from at in
    let all : take (most - d.taken) waits ≡ waits = take_all (most - d.taken) waits (omega arith) in
    rw all (some_out at from [] waits d (sym (append-nil waits)))

-- how many posts wait for a worker from those below k
abbrev pub waits_below : {sli : ℕ} → ℕ → DrainState sli → ℕ → ℕ
waits_below at d k = sum_below k (λ x. length (d.world.waiting x at))

-- the lanes from the workers below k were emptied
pub record LanesOut {sli : ℕ} (at k : ℕ) (d b : DrainState sli) : Type 0 where
  pub empty : (x : ℕ) → x < k → x ≢ at → b.world.waiting x at ≡ []
  pub later : (x : ℕ) → k ≤ x → b.world.waiting x at ≡ d.world.waiting x at
  pub own : b.world.waiting at at ≡ d.world.waiting at at
  pub waiting : (x y : ℕ) → y ≢ at → b.world.waiting x y ≡ d.world.waiting x y
  pub heaps : (y : ℕ) → y ≢ at → heap_in b.world y ≡ heap_in d.world y
  pub capacity : b.world.capacity ≡ d.world.capacity
  pub taken : b.taken ≤ d.taken + waits_below at d k
  pub entries : length b.entries ≤ length d.entries + waits_below at d k

none_out : {sli : ℕ} (at : ℕ) (d : DrainState sli) → LanesOut at 0 d d
none_out at d = record {
  empty = λ x lt _. absurd (omega arith);
  later = λ x le. refl;
  own = refl;
  waiting = λ x y ne. refl;
  heaps = λ y ne. refl;
  capacity = refl;
  taken = omega arith;
  entries = omega arith;
}

skip_out : {sli : ℕ} (at k : ℕ) (d b : DrainState sli) → k ≡ at → LanesOut at k d b → LanesOut at (suc k) d b
skip_out at k d b e f = record {
  empty = λ x lt ne. let apart : x ≢ k = λ q. ne (q ∙ e) in f.empty x (omega arith) ne;
  later = λ x le. f.later x (omega arith);
  own = f.own;
  waiting = f.waiting;
  heaps = f.heaps;
  capacity = f.capacity;
  taken = let n = f.taken in omega arith;
  entries = let n = f.entries in omega arith;
}

more_out : {sli : ℕ} (at k : ℕ) (d b c : DrainState sli) → k ≢ at → LanesOut at k d b → TookOut at k [] (length (b.world.waiting k at)) b c → LanesOut at (suc k) d c
more_out at k d b c ne f lane =
    let here = ap length (f.later k (omega arith)) in
    record {
      empty = λ x lt other. elim (cases_eq x k) [ inl e ↦ rw e lane.here | inr apart ↦ lane.others x apart ∙ f.empty x (omega arith) other ];
      later = λ x le. let apart : x ≢ k = omega arith in lane.others x apart ∙ f.later x (omega arith);
      own = lane.others at (λ e. ne (sym e)) ∙ f.own;
      waiting = λ x y apart. lane.away.waiting x y apart ∙ f.waiting x y apart;
      heaps = λ y apart. lane.away.heaps y apart ∙ f.heaps y apart;
      capacity = lane.away.capacity ∙ f.capacity;
      taken = let x = f.taken in let y = lane.taken in omega arith;
      entries = let x = f.entries in let y = lane.entries in omega arith;
    }

below_out : {sli : ℕ} (at most : ℕ) (d : DrainState sli) (k : ℕ) → d.taken + waits_below at d k ≤ most → LanesOut at k d (drained_below at most d k)
below_out at most d zero le = none_out at d
below_out at most d (suc k) le =
    let b = drained_below at most d k in
    let first = below_out at most d k (omega arith) in
    elim (cases_eq k at) [
      | inl e ↦ rw (from_own at most b k e) (skip_out at k d b e first)
      | inr e ↦
          let here = ap length (first.later k (omega arith)) in
          let n = first.taken in
          rw (from_other at most b k e) (more_out at k d b (drained_waiting at most k b) e first (one_emptied at most k b (omega arith)))
    ]

-- all of them were
pub all_out : {sli : ℕ} (at most : ℕ) (d : DrainState sli) → d.taken + waits_below at d (length d.world.heaps) ≤ most → LanesOut at (length d.world.heaps) d (after_drain at most d)
unfolding after_drain
all_out at most d le = below_out at most d (length d.world.heaps) le
