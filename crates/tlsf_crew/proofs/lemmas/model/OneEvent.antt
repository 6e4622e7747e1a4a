-- A call that a worker makes on its yard is the model's step of the world.
use Rattle.tlsf_crew.proofs.Common.{◌==◌, nat_lt, true, false, zero, suc, [], ◌∷◌, ◌++◌, ◌≡◌, ◌≢◌, ℕ, ◌-◌, ◌<◌, ◌≤◌, List, Option, Some, None, length, take, drop, ap, sym, ◌∙◌, arith, refl, inl, inr, cases_eq, cases_lt, nat_tests, eq-eqb, ne_eqb, fold, take-append-drop, Name, Post, HeapState, set-get_or, Refused, Stranger, Full, Posted, Empty, World, WorldReply, with_heap, with_waiting, freeing, posting, took, took_first, took_more, taking_next, taking, releasing, releasing_named, heap_in, DrainState, drained_waiting, drained_from, drained_below, after_drain, no_heap}
use Rattle.tlsf_crew.proofs.lemmas.model.Edits.{edited_same}

pub same_heap : {sli : ℕ} (w : World sli) (at : ℕ) (h : HeapState) → h ≡ heap_in w at → with_heap w at h ≡ w
same_heap w at h e = rw e (ap (λ l. record { heaps = l; waiting = w.waiting; capacity = w.capacity }) (set-get_or w.heaps at no_heap))

pub releasing_post : {sli : ℕ} (w : World sli) (at : ℕ) (name : Name) → name.heap ≢ at → name.heap < length w.heaps → releasing w at name ≡ posting w at name
releasing_post w at name ne lt =
    let a : (name.heap == at) ≡ false = grind (arith, nat_tests) in
    let b : nat_lt name.heap (length w.heaps) ≡ true = grind (arith, nat_tests) in
    rw (a, b) refl

pub releasing_far : {sli : ℕ} (w : World sli) (at : ℕ) (name : Name) → name.heap ≢ at → length w.heaps ≤ name.heap → releasing w at name ≡ record { reply = Refused Stranger; world = w }
releasing_far w at name ne le =
    let a : (name.heap == at) ≡ false = grind (arith, nat_tests) in
    let b : nat_lt name.heap (length w.heaps) ≡ false = grind (arith, nat_tests) in
    rw (a, b) refl

-- ---- a fact of each case

-- of a post, where the lane is full and where it isn't
pub posting_by : {sli : ℕ} (P : WorldReply sli → Type 0) (w : World sli) (at : ℕ) (name : Name) → (length (w.waiting at name.heap) ≡ w.capacity → P (record { reply = Refused (Full name); world = w }))
    → (length (w.waiting at name.heap) ≢ w.capacity → P (record { reply = Posted; world = with_waiting w at name.heap (w.waiting at name.heap ++ record { from = at; name = name } ∷ []) })) → P (posting w at name)
unfolding posting
posting_by P w at name full room = elim (cases_eq (length (w.waiting at name.heap)) w.capacity) [
  | inl e ↦ rw (eq-eqb (length (w.waiting at name.heap)) w.capacity e) (full e)
  | inr ne ↦ rw (ne_eqb (length (w.waiting at name.heap)) w.capacity ne) (room ne)
]

-- of a release: of an own name, of a name that is posted, and of one that no worker has
pub releasing_by : {sli : ℕ} (P : WorldReply sli → Type 0) (w : World sli) (at : ℕ) (name : Name) → (name.heap ≡ at → P (freeing w at name)) → (name.heap ≢ at → name.heap < length w.heaps → P (posting w at name))
    → (name.heap ≢ at → length w.heaps ≤ name.heap → P (record { reply = Refused Stranger; world = w })) → P (releasing w at name)
releasing_by P w at name own near far = elim (cases_eq name.heap at) [
  | inl e ↦ rw (eq-eqb name.heap at e) (own e)
  | inr ne ↦ elim (cases_lt name.heap (length w.heaps)) [
    | inl lt ↦ rw (releasing_post w at name ne lt) (near ne lt)
    | inr ge ↦ rw (releasing_far w at name ne ge) (far ne ge)
  ]
]

-- ---- the capacity of the lanes stays

pub release_capacity : {sli : ℕ} (w : World sli) (at : ℕ) (o : Option Name) → (releasing_named w at o).world.capacity ≡ w.capacity
release_capacity w at None = refl
release_capacity w at (Some name) =
    let same : WorldReply _ → Type 0 = λ x. x.world.capacity ≡ w.capacity in
    releasing_by same w at name (λ e. refl) (λ ne lt. posting_by same w at name (λ e. refl) (λ ne. refl)) (λ ne ge. refl)

-- ---- takes

pub taking_lane : {sli : ℕ} (w : World sli) (at from : ℕ) → from ≢ at → from < length w.heaps → taking w at from ≡ taking_next w at from
taking_lane w at from ne lt =
    let a : (from == at) ≡ false = grind (arith, nat_tests) in
    let b : nat_lt from (length w.heaps) ≡ true = grind (arith, nat_tests) in
    rw (a, b) refl

pub taking_own : {sli : ℕ} (w : World sli) (at from : ℕ) → from ≡ at → taking w at from ≡ record { reply = Refused Stranger; world = w }
taking_own w at from e = let a : (from == at) ≡ true = grind (arith, nat_tests) in rw a refl

pub taking_far : {sli : ℕ} (w : World sli) (at from : ℕ) → length w.heaps ≤ from → taking w at from ≡ record { reply = Refused Stranger; world = w }
taking_far w at from le =
    let b : nat_lt from (length w.heaps) ≡ false = grind (arith, nat_tests) in
    elim (cases_eq from at) [
      | inl e ↦ taking_own w at from e
      | inr n ↦ let a : (from == at) ≡ false = grind (arith, nat_tests) in rw (a, b) refl
    ]

-- a fact of a take: of one that finds no other worker or no post, and of one that takes the first
pub taking_by : {sli : ℕ} (P : WorldReply sli → Type 0) (w : World sli) (at from : ℕ) → P (record { reply = Refused Stranger; world = w }) → P (record { reply = Empty; world = w })
    → ((p : Post) (rest : List Post) → from ≢ at → from < length w.heaps → w.waiting from at ≡ p ∷ rest → P (took w at from p rest)) → P (taking w at from)
unfolding taking_next
taking_by {sli} P w at from stranger empty first = elim (cases_eq from at) [
  | inl e ↦ rw (taking_own w at from e) stranger
  | inr ne ↦ elim (cases_lt from (length w.heaps)) [
    | inl lt ↦ rw (taking_lane w at from ne lt) (next ne lt (w.waiting from at) refl)
    | inr ge ↦ rw (taking_far w at from ge) stranger
  ]
]
  where
    next : from ≢ at → from < length w.heaps → (ps : List Post) → w.waiting from at ≡ ps → P (took_first w at from ps)
    next ne lt [] e = empty
    next ne lt (p ∷ rest) e = first p rest ne lt e

-- ---- drains

pub from_other : {sli : ℕ} (at most : ℕ) (d : DrainState sli) (from : ℕ) → from ≢ at → drained_from at most d from ≡ drained_waiting at most from d
from_other at most d from ne = rw (ne_eqb from at ne) refl

pub from_own : {sli : ℕ} (at most : ℕ) (d : DrainState sli) (from : ℕ) → from ≡ at → drained_from at most d from ≡ d
from_own at most d from e = rw (eq-eqb from at e) refl

-- a fact that each take of a drain keeps
module _ {sli : ℕ} (P : DrainState sli → Type 0) (at most n : ℕ) (step : (from : ℕ) (d : DrainState sli) (p : Post) → from < n → from ≢ at → d.world.waiting from at ≡ p ∷ drop 1 (d.world.waiting from at) → P d → P (took_more at from d p)) where
  lane_by : (from : ℕ) → from < n → from ≢ at → (rest ps : List Post) (d : DrainState sli) → d.world.waiting from at ≡ ps ++ rest → P d → P (fold (took_more at from) d ps)
  lane_by from lt ne rest [] d e holds = holds
  lane_by from lt ne rest (p ∷ ps) d e holds =
      let next : drop 1 (d.world.waiting from at) ≡ ps ++ rest = ap (drop 1) e in
      lane_by from lt ne rest ps (took_more at from d p) (edited_same d.world.waiting from at (drop 1 (d.world.waiting from at)) ∙ next) (step from d p lt ne (e ∙ ap (λ l. p ∷ l) (sym next)) holds)

  below_by : (d : DrainState sli) (k : ℕ) → k ≤ n → P d → P (drained_below at most d k)
  unfolding drained_waiting
  below_by d zero le holds = holds
  below_by d (suc k) le holds =
      let b = drained_below at most d k in
      let first = below_by d k (omega arith) holds in
      let m = most - b.taken in
      elim (cases_eq k at) [
        | inl e ↦ rw (from_own at most b k e) first
        | inr ne ↦ rw (from_other at most b k ne) (lane_by k (omega arith) ne (drop m (b.world.waiting k at)) (take m (b.world.waiting k at)) b (sym (take-append-drop m (b.world.waiting k at))) first)
      ]

-- so the whole drain keeps it
pub drain_by : {sli : ℕ} (P : DrainState sli → Type 0) (at most : ℕ) (d : DrainState sli)
    → ((from : ℕ) (b : DrainState sli) (p : Post) → from < length d.world.heaps → from ≢ at → b.world.waiting from at ≡ p ∷ drop 1 (b.world.waiting from at) → P b → P (took_more at from b p)) → P d → P (after_drain at most d)
unfolding after_drain
drain_by P at most d step holds = below_by P at most (length d.world.heaps) step d (length d.world.heaps) (omega arith) holds
