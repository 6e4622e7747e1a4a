-- A take of a worker in a race, where a limit says how many it may take.
use Rattle.tlsf_crew.proofs.Common.{[], ◌∷◌, ◌≡◌, ◌≢◌, ◌-◌, ℕ, ◌<◌, ◌≤◌, List, Option, Some, None, length, take, set, sym, ◌∙◌, ap, arith, refl, inl, inr, ◌⊎◌, subst, slice_index, cases_lt, get_or-set_same, get_or-set_other, Name, Post, ready, Worker, Lanes, Entry, Call, Take, Took, Empty, Refused, Stranger, released, heap_of, id_of, TakeEndTook, TookThrough, AfterTake, TakenFromLane, IsModelAnswer, Progress, World, WorldReply, answered, called, heap_in, taking, taking_next, took, took_first, reply_took, TakenWithin, told_of, one, Spent, LaneMoved, LaneTakenWithin, took_by, OneFewer, IsPrefix, Taken}
use Rattle.tlsf_heap.specs.Calls as heap
use Rattle.tlsf_crew.proofs.lemmas.worker.SameParts.{ports_heap}
use Rattle.tlsf_crew.proofs.lemmas.lanes.YardKept.{heap_keeps, same_keeps}
use Rattle.tlsf_crew.proofs.lemmas.scripts.LaneMoves.{moved_take, spent_none, still_empty}
use Rattle.tlsf_crew.proofs.lemmas.scripts.ManyEntries.{moved_then}
use Rattle.tlsf_crew.proofs.lemmas.model.OneEvent.{taking_far, taking_lane, taking_own}
use Rattle.tlsf_crew.proofs.lemmas.scripts.OneEntry.{Still, IsIdle, moved_still, moved_idle, still_heap}
use Rattle.tlsf_crew.proofs.lemmas.scripts.OwnTold.{told_where}
use Rattle.tlsf_crew.proofs.lemmas.worker.OwnHeaps.{call_keeps}
use Rattle.tlsf_crew.proofs.lemmas.scripts.Witnesses.{heap_left}

-- ---- under the limit

pub one_fewer : (limits : List ℕ) (i : ℕ) → i < length limits → 0 < slice_index limits i → OneFewer limits i (set limits i (slice_index limits i - 1))
one_fewer limits i near some =
    let n = slice_index limits i - 1 in
    let e = get_or-set_same limits i n 0 near in
    (omega arith, λ k ne. get_or-set_other limits i k n 0 ne)

no_limit : {A : Type 0} (n : ℕ) (xs : List A) → n ≡ 0 → IsPrefix (take n xs) []
no_limit n xs e = rw e ([], refl)

-- none may be taken any more
pub within_none : {sli : ℕ} (a : Worker sli Lanes) (limits : List ℕ) (from : ℕ) → slice_index limits from ≡ 0 → LaneTakenWithin a limits from a limits None
within_none a limits from e = (
  λ made. moved_still (id_of a) made a a limits (still_heap (id_of a) a a (refl, refl) (same_keeps a)),
  refl,
  λ t is. no_limit (slice_index limits from) (ready t) e,
)

none_case : {sli : ℕ} (a b v : Worker sli Lanes) (limits : List ℕ) (from : ℕ) (post : Option Post) → TakeEndTook a b from post → AfterTake b v post None → LaneTakenWithin a limits from v limits None
none_case a b v limits from None lane then = (
  λ made. moved_still (id_of a) made a v limits (subst (Still (id_of a) a) (sym then.1) (still_empty (id_of a) a b from lane)),
  ap heap_of then.1 ∙ (ports_heap a b lane.0),
  spent_none (id_of a) a b limits from lane,
)
none_case a b v limits from (Some p) lane then = let e = then.0 in absurd cc

-- the lane showed none
pub within_empty : {sli : ℕ} (a v : Worker sli Lanes) (limits : List ℕ) (from : ℕ) → TakenFromLane a v from None → LaneTakenWithin a limits from v limits None
within_empty a v limits from t = none_case a t.between v limits from t.post t.took t.then

some_case : {sli : ℕ} (a b v : Worker sli Lanes) (limits left : List ℕ) (from : ℕ) (post : Option Post) (took : Took) → from < 8 → OneFewer limits from left → TakeEndTook a b from post → AfterTake b v post (Some took)
    → LaneTakenWithin a limits from v left (Some took)
unfolding released
some_case a b v limits left from None took near fewer lane then = let e = then.0 in absurd cc
some_case a b v limits left from (Some p) took near fewer lane then =
    let at = id_of a in
    let x : Took = record { from = p.from; name = p.name; answer = (heap.released (heap_of b) p.name).answer } in
    let e : took ≡ x = let d = then.0 in cc in
    let yard = heap_keeps b v then.2 (call_keeps (heap_of b) (heap_of v) (heap.Release p.name) then.1.heap) in (
      λ made.
          let first = moved_take at made a b limits left from x near fewer lane in
          let all = moved_then at made a b v limits left left [] [] (one at (Take from) (Taken x)) [] first (moved_still at made b v left (still_heap at b v then.2 yard)) in
          subst (λ y. LaneMoved at made a limits [] (one at (Take from) (Taken y)) v left) (sym e) all,
      p,
      e ∙ ap (λ h. took_by h p) (ports_heap a b lane.0),
      then.1.heap ∙ ap (λ h. (heap.released h p.name).heap) (ports_heap a b lane.0),
    )

pub within_some : {sli : ℕ} (a v : Worker sli Lanes) (limits left : List ℕ) (from : ℕ) (took : Took) → from < 8 → OneFewer limits from left → TakenFromLane a v from (Some took) → LaneTakenWithin a limits from v left (Some took)
within_some a v limits left from took near fewer t = some_case a t.between v limits left from t.post took near fewer t.took t.then

-- one post was taken, or no more might be, or the lane showed none
pub taken_within : {sli : ℕ} (a v : Worker sli Lanes) (limits left : List ℕ) (from : ℕ) (answer : Option Took) → from < 8 → TakenWithin TookThrough a limits from v left answer → LaneTakenWithin a limits from v left answer
taken_within a v limits left from None near t = rw t.0 (elim t.1 [
  | inl stopped ↦
      let none : slice_index limits from ≡ 0 = elim (cases_lt 0 (slice_index limits from)) [ inl some ↦ absurd (stopped.0 (near, some)) | inr le ↦ omega arith ] in
      rw stopped.1 (within_none a limits from none)
  | inr empty ↦ within_empty a v limits from empty
])
taken_within a v limits left from (Some took) near t = within_some a v limits left from took t.0 t.1 t.2

-- ---- a take of its own

take_called : {sli : ℕ} (at : ℕ) (s : Progress) (w : World sli) (from : ℕ) (x : WorldReply sli) → taking w at from ≡ x
    → called (record { made = s.made; entries = s.entries; world = w }) at (Take from) ≡ answered (record { made = s.made; entries = s.entries; world = w }) at (Take from) x
take_called at s w from x is = ap (answered (record { made = s.made; entries = s.entries; world = w }) at (Take from)) is

refused_take : {sli : ℕ} (at from : ℕ) (later : List (Option Name)) (a : Worker sli Lanes) (limits : List ℕ) → IsIdle at later a limits [] (record { worker = at; call = Take from; reply = Refused Stranger })
refused_take at from later a limits = record {
  posts = record { made_none = λ j. refl; taken_none = λ i. refl };
  full = λ name p e. cc;
  empty = λ i c e. cc;
  drained = λ most k i e. cc;
}

pub stranger_answered : (sli n at from : ℕ) (s : Progress) → (from ≡ at) ⊎ (n ≤ from) → IsModelAnswer sli n at s (Take from) (Refused Stranger) s.heap
stranger_answered sli n at from s away = λ lt w has suits.
    let x : WorldReply sli = record { reply = Refused Stranger; world = w } in
    let e : taking w at from ≡ x = elim away [ inl own ↦ taking_own w at from own | inr far ↦ taking_far w at from (omega (arith, has.0)) ] in
    told_where at s w (Take from) (Refused Stranger) s.heap x (take_called at s w from x e) (record { same = refl; left = sym has.1 })

pub stranger_moved : {sli : ℕ} (made : List (Option Name)) (a : Worker sli Lanes) (limits : List ℕ) (from : ℕ) → LaneMoved (id_of a) made a limits (Take from ∷ []) (one (id_of a) (Take from) (Refused Stranger)) a limits
stranger_moved made a limits from =
    moved_idle (id_of a) made a a limits limits [] _ (Take from) (moved_still (id_of a) made a a limits (still_heap (id_of a) a a (refl, refl) (same_keeps a))) (refused_take (id_of a) from made a limits)

empty_idle : {sli : ℕ} (at from : ℕ) (later : List (Option Name)) (a : Worker sli Lanes) (limits : List ℕ) → Spent a limits at from [] → IsIdle at later a limits [] (record { worker = at; call = Take from; reply = Empty })
empty_idle at from later a limits spent = record {
  posts = record { made_none = λ j. refl; taken_none = λ i. refl };
  full = λ name p e. cc;
  empty = λ i c e. let q : from ≡ i = cc in subst (λ x. Spent a limits at x []) q spent;
  drained = λ most k i e. cc;
}

-- one call more than what the entries tell
more_calls : {sli : ℕ} (at : ℕ) (made : List (Option Name)) (a v : Worker sli Lanes) (limits left : List ℕ) (call : Call) (entries : List Entry) → LaneMoved at made a limits [] entries v left → LaneMoved at made a limits (call ∷ []) entries v left
more_calls at made a v limits left call entries m = record {
  yard = m.yard;
  numbers = m.numbers;
  knows = m.knows;
  sent = m.sent;
  taken = m.taken;
  left_is = m.left_is;
  full = m.full;
  empty = m.empty;
  drained = m.drained;
  few_posts = λ j. omega (arith, m.few_posts j);
  few_entries = omega (arith, m.few_entries);
}

first_world : {sli : ℕ} (w : World sli) (at from : ℕ) (posts : List Post) → w.waiting from at ≡ posts → taking_next w at from ≡ took_first w at from posts
unfolding taking_next
first_world w at from posts e = ap (took_first w at from) e

pub take_answered : {sli : ℕ} (n : ℕ) (a v : Worker sli Lanes) (limits left : List ℕ) (from : ℕ) (made : List (Option Name)) (es : List Entry) (answer : Option Took) → from ≢ id_of a → from < n
    → LaneTakenWithin a limits from v left answer → IsModelAnswer sli n (id_of a) (told_of made es (heap_of a)) (Take from) (reply_took answer) (heap_of v)
take_answered {sli} n a v limits left from made es None ne lt t = λ self w has s.
    let at = id_of a in
    let inside : from < length w.heaps = omega (arith, has.0) in
    let x : WorldReply sli = record { reply = Empty; world = w } in
    let e : taking w at from ≡ x = taking_lane w at from ne inside ∙ first_world w at from [] (s.empty from refl ne inside refl) in
    told_where at (told_of made es (heap_of a)) w (Take from) Empty (heap_of v) x (take_called at (told_of made es (heap_of a)) w from x e) (record { same = refl; left = t.1 ∙ sym has.1 })
take_answered {sli} n a v limits left from made es (Some y) ne lt t = λ self w has s.
    let at = id_of a in
    let p = t.1 in
    let inside : from < length w.heaps = omega (arith, has.0) in
    let f = s.first from y refl ne inside refl in
    let waits : w.waiting from at ≡ p ∷ f.0 = f.1 ∙ ap (λ (z : Took). record { from = z.from; name = z.name } ∷ f.0) t.2 in
    let e = taking_lane w at from ne inside ∙ first_world w at from (p ∷ f.0) waits in
    told_where at (told_of made es (heap_of a)) w (Take from) (Taken y) (heap_of v) (took w at from p f.0) (take_called at (told_of made es (heap_of a)) w from _ e) (record {
      same = ap Taken t.2 ∙ ap (λ g. Taken (took_by g p)) (sym has.1);
      left = t.3 ∙ (ap (λ g. (released g p.name).heap) (sym has.1) ∙ sym (heap_left n at w (heap_of a) (released (heap_in w at) p.name).heap self has));
    })

pub taken_within_moved : {sli : ℕ} (made : List (Option Name)) (a v : Worker sli Lanes) (limits left : List ℕ) (from : ℕ) (answer : Option Took) → LaneTakenWithin a limits from v left answer
    → LaneMoved (id_of a) made a limits (Take from ∷ []) (one (id_of a) (Take from) (reply_took answer)) v left
taken_within_moved made a v limits left from None t = moved_idle (id_of a) made a v limits left [] _ (Take from) (t.0 made) (empty_idle (id_of a) from made a limits t.2)
taken_within_moved made a v limits left from (Some x) t = more_calls (id_of a) made a v limits left (Take from) _ (t.0 made)
