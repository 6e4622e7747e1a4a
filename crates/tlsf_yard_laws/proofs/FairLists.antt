-- No answer to a fair list of events is Stale.
use Rattle.tlsf_yard_laws.proofs.Common.{[], ◌∷◌, ◌++◌, ◌≡◌, ◌≢◌, ℕ, ◌<◌, List, Option, Some, None, Result, Ok, Err, length, get_or, sym, ◌∙◌, ap, arith, refl, inl, inr, subst, ◌⊎◌, fold, cases_lt, slice_get-get_or, IsLive, Name, Refusal, Stale, bytes_of, allocated, written, resized, chunk_read, Chunk, Event, Call, Allocate, Release, Write, Read, Resize, Take, Drain, Target, Reply, Freed, Posted, Refused, Stranger, World, WorldReply, Replayed, with_heap, heap_in, reply_wrote, reply_got, reply_resized, releasing, releasing_named, writing_named, reading_named, resizing_named, taking, took, name_of, called, draining, begun, replies, NoneStale, IsUsable, IsFairCall, IsAnswered, GivesBack, IsFair, HasIds, IsFairRun, WaitLive, same_heap, after_far, after_near, replies_is, taking_by}
use Rattle.tlsf_crew.specs.model.World.{after}
use Rattle.tlsf_crew.specs.declared.worker.lanes.Lanes.{Lanes}
use Rattle.tlsf_crew.specs.declared.worker.worker.Worker.{Worker}
use Rattle.tlsf_crew.specs.lanes.Yard.{IsYard, world_of}
use Rattle.tlsf_crew.proofs.lemmas.lanes.LaneChanges.{heaps_count}
use Rattle.tlsf_yard_laws.proofs.HeapNames.{written_known, written_id, written_stays, resized_known, resized_id, resized_stays, chunk_known}
use Rattle.tlsf_yard_laws.proofs.NamesKept.{IsKept}
use Rattle.tlsf_yard_laws.proofs.PostsKept.{took_kept, none_push, all_kept}
use Rattle.tlsf_yard_laws.proofs.FairEvents.{IsMade, After, same_made, more_gone, idle, refused_kept, stays_kept, allocate_kept, release_kept}

module _ {sli : ℕ} (r : Replayed sli) (gone gone2 : Name → Type 0) (more : (n : Name) → gone n → gone2 n) (kept : IsKept (IsMade r.made) gone r.world) where
  abbrev Next : WorldReply sli → Type 0
  Next x = After r gone gone2 more x

  -- a usable name of the own heap is live in it
  own_live : (at : ℕ) (n : Name) → at < length r.world.heaps → IsMade r.made n → ¬ (gone n) → n.heap ≡ (heap_in r.world at).id → IsLive (heap_in r.world at) n
  own_live at n at_in mine fresh own = subst (λ (z : ℕ). IsLive (heap_in r.world z) n) (own ∙ kept.ids at at_in) (kept.live n mine fresh).1

  released_kept : (at : ℕ) (o : Option Name) → at < length r.world.heaps → IsUsable r gone o
      → ((n : Name) → o ≡ Some n → ((releasing r.world at n).reply ≡ Freed) ⊎ ((releasing r.world at n).reply ≡ Posted) → gone2 n) → Next (releasing_named r.world at o)
  released_kept at None at_in usable now = absurd usable
  released_kept at (Some n) at_in usable now = release_kept r gone gone2 more at n at_in usable.0 usable.1 kept (now n refl)

  wrote_kept : (n : ℕ) (v : World sli) → IsKept (IsMade (r.made ++ None ∷ [])) gone2 v → (answer : Result (Unit {0}) Refusal) → answer ≢ Err Stale
      → Next (record { reply = reply_wrote n answer; world = v })
  wrote_kept n v after (Ok done) known = (after, (λ f. cc, λ t f. cc))
  wrote_kept n v after (Err why) known = (after, (λ f. known (let same : why ≡ Stale = cc in ap Err same), λ t f. cc))

  write_kept : (at : ℕ) (o : Option Name) (from : ℕ) (bytes : List ℕ) → at < length r.world.heaps → IsUsable r gone o → Next (writing_named r.world at o from bytes)
  write_kept at None from bytes at_in usable = absurd usable
  write_kept at (Some n) from bytes at_in usable =
      let h = heap_in r.world at in
      let g = (written h n from bytes).heap in
      let all = stays_kept r gone gone2 more at g at_in (written_id h n from bytes) (λ m l. written_stays h n from bytes m l) kept in
      wrote_kept (length bytes) (with_heap r.world at g) (same_made r gone gone2 more (with_heap r.world at g) all)
      (written h n from bytes).answer (written_known h n from bytes (own_live at n at_in usable.0 usable.1))

  got_kept : (answer : Result Chunk Refusal) → answer ≢ Err Stale → Next (record { reply = reply_got answer; world = r.world })
  got_kept (Ok bytes) known = (idle r gone gone2 more kept, (λ f. cc, λ t f. cc))
  got_kept (Err why) known = (idle r gone gone2 more kept, (λ f. known (let same : why ≡ Stale = cc in ap Err same), λ t f. cc))

  read_kept : (at : ℕ) (o : Option Name) (from n : ℕ) → at < length r.world.heaps → IsUsable r gone o → Next (reading_named r.world at o from n)
  read_kept at None from n at_in usable = absurd usable
  read_kept at (Some name) from n at_in usable =
      subst (λ v. Next (record { reply = reply_got (chunk_read (heap_in r.world at) name from n); world = v })) (sym (same_heap r.world at (heap_in r.world at) refl))
      (got_kept (chunk_read (heap_in r.world at) name from n) (chunk_known (heap_in r.world at) name from n (own_live at name at_in usable.0 usable.1)))

  resize_answer_kept : (v : World sli) → IsKept (IsMade (r.made ++ None ∷ [])) gone2 v → (answer : Result (Unit {0}) Refusal) → answer ≢ Err Stale
      → Next (record { reply = reply_resized answer; world = v })
  resize_answer_kept v after (Ok done) known = (after, (λ f. cc, λ t f. cc))
  resize_answer_kept v after (Err why) known = (after, (λ f. known (let same : why ≡ Stale = cc in ap Err same), λ t f. cc))

  resize_kept : (at : ℕ) (o : Option Name) (len : ℕ) → at < length r.world.heaps → IsUsable r gone o → Next (resizing_named r.world at o len)
  resize_kept at None len at_in usable = absurd usable
  resize_kept at (Some n) len at_in usable =
      let h = heap_in r.world at in
      let g = (resized h n len).heap in
      let all = stays_kept r gone gone2 more at g at_in (resized_id h n len) (λ m l. resized_stays h n len m l) kept in
      resize_answer_kept (with_heap r.world at g) (same_made r gone gone2 more (with_heap r.world at g) all)
      (resized h n len).answer (resized_known h n len (own_live at n at_in usable.0 usable.1))

  stranger_kept : Next (record { reply = Refused Stranger; world = r.world })
  stranger_kept = refused_kept r gone gone2 more Stranger (λ f. cc) kept

  take_kept : (at from : ℕ) → Next (taking r.world at from)
  take_kept at from = taking_by Next r.world at from stranger_kept (idle r gone gone2 more kept, (λ f. cc, λ t f. cc)) (λ p rest ne lt e.
      let t = took_kept (IsMade r.made) gone2 r.world at from p rest e (more_gone r gone gone2 more r.world kept) in
      (same_made r gone gone2 more (took r.world at from p rest).world t.1, t.0))

  -- names are kept, and no answer so far is Stale
  abbrev IsWell : Replayed sli → Type 0
  IsWell s = IsKept (IsMade s.made) gone2 s.world × NoneStale s.entries

  drain_kept : (at most : ℕ) → NoneStale r.entries → IsWell (draining r at most)
  unfolding draining
  drain_kept at most none =
      let a = all_kept (IsMade r.made) gone2 at most (record { entries = r.entries; world = r.world; taken = 0 }) (more_gone r gone gone2 more r.world kept, none) in
      (same_made r gone gone2 more _ a.0, none_push _ _ a.1 (λ f. cc, λ t f. cc))

  -- what the call releases is gone
  abbrev IsGoneAfter : ℕ → Call → Type 0
  IsGoneAfter at call =
      (target : Target) → call ≡ Release target → (n : Name) → name_of r.made target ≡ Some n
      → ((releasing r.world at n).reply ≡ Freed) ⊎ ((releasing r.world at n).reply ≡ Posted) → gone2 n

  called_kept : (at : ℕ) (call : Call) → at < length r.world.heaps → IsFairCall r gone call → IsGoneAfter at call → NoneStale r.entries → IsWell (called r at call)
  called_kept at (Allocate len) at_in fair now none =
      let a = allocate_kept r gone gone2 more at len at_in kept (allocated sli (heap_in r.world at) len).answer refl in (a.0, none_push r.entries _ none a.1)
  called_kept at (Release target) at_in fair now none = let a = released_kept at (name_of r.made target) at_in fair (now target refl) in (a.0, none_push r.entries _ none a.1)
  called_kept at (Write target from bytes) at_in fair now none = let a = write_kept at (name_of r.made target) from (bytes_of bytes) at_in fair in (a.0, none_push r.entries _ none a.1)
  called_kept at (Read target from n) at_in fair now none = let a = read_kept at (name_of r.made target) from n at_in fair in (a.0, none_push r.entries _ none a.1)
  called_kept at (Resize target len) at_in fair now none = let a = resize_kept at (name_of r.made target) len at_in fair in (a.0, none_push r.entries _ none a.1)
  called_kept at (Take from) at_in fair now none = let a = take_kept at from in (a.0, none_push r.entries _ none a.1)
  called_kept at (Drain most) at_in fair now none = drain_kept at most none

  event_kept : (e : Event) → IsFairCall r gone e.call → (e.worker < length r.world.heaps → IsGoneAfter e.worker e.call) → NoneStale r.entries → IsWell (after r e)
  event_kept e fair now none =
      elim (cases_lt e.worker (length r.world.heaps)) [
        | inl lt ↦ subst IsWell (sym (after_near r e e.call lt refl)) (called_kept e.worker e.call lt fair (now lt) none)
        | inr ge ↦ subst IsWell (sym (after_far r e ge)) (stranger_kept.0, none_push r.entries _ none stranger_kept.1)
      ]

-- the entry of a release by a worker of the world
near_answer : {sli : ℕ} (r : Replayed sli) (e : Event) (target : Target) (n : Name) (reply : Reply) → e.worker < length r.world.heaps → e.call ≡ Release target → name_of r.made target ≡ Some n
    → (releasing r.world e.worker n).reply ≡ reply → IsAnswered r e reply
near_answer r e target n reply lt is meant answer =
    let got : (releasing_named r.world e.worker (name_of r.made target)).reply ≡ reply = ap (λ o. (releasing_named r.world e.worker o).reply) meant ∙ answer in
    ap (λ s. s.entries) (after_near r e (Release target) lt is) ∙ (λ k. r.entries ++ record { worker = e.worker; call = sym is k; reply = got k } ∷ [])

list_kept : {sli : ℕ} (es : List Event) (r : Replayed sli) (gone : Name → Type 0) → IsFair r gone es → IsKept (IsMade r.made) gone r.world → NoneStale r.entries
    → NoneStale (fold after r es).entries × WaitLive (fold after r es).world
list_kept [] r gone fair kept none =
    (none, λ i j k d k_in. let o = kept.waits i j k (get_or (r.world.waiting i j) k d) (slice_get-get_or (r.world.waiting i j) k d k_in) in (o.0, o.1))
list_kept (e ∷ es) r gone fair kept none =
    let gone2 : Name → Type 0 = λ n. gone n ⊎ GivesBack r e n in
    let a = event_kept r gone gone2 (λ n g. inl g) kept e fair.0 (λ lt target is n meant o. inr (
      target,
      is,
      meant,
      elim o [
        | inl f ↦ inl (near_answer r e target n Freed lt is meant f)
        | inr f ↦ inr (near_answer r e target n Posted lt is meant f)
      ],
    )) none in
    list_kept es (after r e) gone2 fair.1 a.0 a.1

no_stale : {sli : ℕ} (w : World sli) (es : List Event) → HasIds w → IsFairRun w es → NoneStale (replies w es).entries × WaitLive (replies w es).world
no_stale w es ids run =
    let a = list_kept es (begun w) (λ n. ⊥) run.fair (record {
      ids = ids;
      live = λ n mine _. absurd (omega (arith, mine.1));
      waits = λ i j k p e. let none = rw (run.empty i j) at e in cc;
      once = λ i j k x y z p q e f same. let none = rw (run.empty i j) at e in cc;
    }) (λ k d k_in. absurd (omega (arith, k_in))) in
    rw (replies_is w es) a

-- in a whole yard each heap has the number of its worker
yard_ids : {sli : ℕ} (ws : List (Worker sli Lanes)) → IsYard ws → HasIds (world_of ws)
unfolding world_of
yard_ids ws yard =
    let n = heaps_count ws in
    λ j lt. (yard.heaps j (omega (arith, n))).0

pub yard_no_stale : {sli : ℕ} (ws : List (Worker sli Lanes)) (es : List Event) → IsYard ws → IsFairRun (world_of ws) es → NoneStale (replies (world_of ws) es).entries × WaitLive (replies (world_of ws) es).world
yard_no_stale ws es yard run = no_stale (world_of ws) es (yard_ids ws yard) run
