-- Two races over queues of the same scripts, which take no post, are the same where each queue has one poster. Of more than two
-- workers none may meet a full queue.
use Rattle.tlsf_crew.proofs.Common.{[], ◌∷◌, ◌++◌, ◌≡◌, ◌≢◌, ℕ, ◌+◌, ◌-◌, ◌<◌, ◌≤◌, List, Option, Some, None, length, sym, ◌∙◌, ap, arith, refl, inl, inr, subst, append_assoc, append-nil, length-append, AllByRecursion, cons_option, fold, cases_eq, cases_lt, ext_get_or, Name, posts_of, Post, Call, Take, Drain, Entry, Drained, no_heap, World, after, begun, heap_in, Progress, MayTell, MayTellAll, told_by, untold, post_of_release, posts_made, posts_taken, OnlyLastDrains, TakesNoPost, events_by, last_call, script_of, record_of, IsQueueRace, MayTellQueue, MayTellQueueAll, with_reply, with_takes, parts}
use Rattle.tlsf_crew.specs.race_laws.QueueAlone.{IsUncontendedRace, MeetsNoFull, QueueRaceIsOne}
use Rattle.tlsf_crew.proofs.lemmas.histories.JoinedEntries.{told_nothing, told_other, told_own, made_then}
use Rattle.tlsf_crew.proofs.lemmas.model.Edits.{same_world}
use Rattle.tlsf_crew.proofs.lemmas.scripts.ManyEntries.{count_made}
use Rattle.tlsf_crew.proofs.lemmas.race_laws.AloneRuns.{HasLanes, IsAlone, alone_runs, alone_told, none_taken}
use Rattle.tlsf_crew.proofs.lemmas.races.TwoRecords.{each_post_same}
use Rattle.tlsf_crew.proofs.lemmas.races.QueueTakes.{DrainTold, drain_entry, end_takes, takes_with_same_posts, takes_add, takes_make, takes_name}

-- ---- one worker

-- its script, told as over lanes, and then its last drain
record QueueTurn (sli n at : ℕ) (start : Progress) (script : List Call) (end : Progress) : Type 0 where
  between : Progress
  ran : MayTellAll sli n at start script between
  last : MayTellQueue sli n at between last_call end

as_over_lanes : (sli n at : ℕ) (s t : Progress) (call : Call) → TakesNoPost call → MayTellQueue sli n at s call t → MayTell sli n at s call t
as_over_lanes sli n at s t (Take from) free m = absurd free
as_over_lanes sli n at s t (Drain most) free m = absurd free
as_over_lanes sli n at s t call free m = m

queue_turn : (sli n at : ℕ) (start end : Progress) (script : List Call) → AllByRecursion TakesNoPost script → MayTellQueueAll sli n at start (script ++ last_call ∷ []) end → QueueTurn sli n at start script end
queue_turn sli n at start end [] free m = record { between = start; ran = refl; last = subst (MayTellQueue sli n at start last_call) (sym m.2) m.1 }
queue_turn sli n at start end (call ∷ calls) free m =
    let rest = queue_turn sli n at m.0 end calls free.1 m.2 in
    record { between = rest.between; ran = (m.0, as_over_lanes sli n at start m.0 call free.0 m.1, rest.ran); last = rest.last }

-- ---- what the last drain leaves

end_adds : (at : ℕ) (s end : Progress) (posts : List Post) → DrainTold at s posts end → (own : List Entry) × (end.entries ≡ s.entries ++ own)
end_adds at s end posts told =
    let x = drain_entry at posts in
    let takes = takes_add at posts s in
    (takes.0 ++ x ∷ [], ap (λ (t : Progress). t.entries) told ∙ (ap (λ l. l ++ x ∷ []) takes.1 ∙ append_assoc s.entries takes.0 (x ∷ [])))

-- the worker's posts are those of its script
end_posts : (i j at : ℕ) (s end : Progress) (posts : List Post) → DrainTold at s posts end → posts_made i j end.made end.entries ≡ posts_made i j s.made s.entries
end_posts i j at s end posts told =
    let x = drain_entry at posts in
    let t = with_takes at s posts in
    let longer = t.made ++ None ∷ [] in
    let none = told_nothing (λ e. post_of_release j longer e.worker e.call e.reply) i x refl in
    ap (λ (t : Progress). posts_made i j t.made t.entries) told ∙ (made_then i j longer t.entries (x ∷ []) ∙ (ap (λ l. posts_made i j longer t.entries ++ l) none
    ∙ (append-nil (posts_made i j longer t.entries) ∙ (each_post_same i j t.made t.entries
    ∙ (ap (λ made. posts_made i j made t.entries) (takes_name at posts s) ∙ takes_make i j at s.made posts s)))))

-- its script met no full queue
script_meets_none : (at : ℕ) (s end : Progress) (posts : List Post) → DrainTold at s posts end → MeetsNoFull end.entries → MeetsNoFull s.entries
script_meets_none at s end posts told meets before e name stands reply =
    let more = end_adds at s end posts told in
    meets before e name (stands.0 ++ more.0, more.1 ∙ (ap (λ l. l ++ more.0) stands.1 ∙ append_assoc before (e ∷ stands.0) more.0)) reply

-- ---- one script, told twice

-- the same heaps, and nothing waits
abbrev without_posts : {sli : ℕ} → World sli → ℕ → World sli
without_posts w capacity = record { heaps = w.heaps; waiting = λ i j. []; capacity = capacity }

one_at_most : (o : Option Post) → length (cons_option o []) ≤ 1
one_at_most None = omega arith
one_at_most (Some post) = omega arith

made_few : (i j : ℕ) (made : List (Option Name)) (es : List Entry) → length (posts_made i j made es) ≤ length es
made_few i j made [] = omega arith
made_few i j made (e ∷ es) =
    let f : Entry → Option Post = λ e. post_of_release j made e.worker e.call e.reply in
    let first : length (posts_made i j made (e ∷ [])) ≤ 1 = elim (cases_eq e.worker i) [
      | inl own ↦ omega (arith, ap length (told_own f i e own), one_at_most (f e))
      | inr ne ↦ omega (arith, ap length (told_other f i e ne))
    ] in
    omega (arith, count_made i j made (e ∷ []) es, first, made_few i j made es)

-- lanes of that capacity are never full, where no post was refused
lanes_hold : {sli : ℕ} (w : World sli) (i capacity : ℕ) (made : List (Option Name)) (es : List Entry) → length es ≤ capacity → MeetsNoFull es → HasLanes (without_posts w capacity) i made es
lanes_hold w i capacity made es few meets = record {
  room = λ j j_in ne. omega (arith, few, made_few i j made es);
  full = λ j j_in ne before e name stands reply here. absurd (meets before e name stands reply);
}

-- over lanes that fit what it was told, a script is told so
script_told : {sli : ℕ} (x : World sli) (i : ℕ) (script : List Call) (s : Progress) → i < length x.heaps → AllByRecursion TakesNoPost script → MayTellAll sli (length x.heaps) i (untold (heap_in x i)) script s
    → HasLanes x i s.made s.entries → told_by i (fold after (begun x) (events_by i script)) ≡ s
script_told {sli} x i script s i_in free m lanes =
    let start : IsAlone x i s.made (untold (heap_in x i)) (begun x) = record { names = refl; entries = refl; heap = refl; count = refl; capacity = refl; waits = λ j. sym (append-nil (x.waiting i j)) } in
    alone_told x i s.made s (fold after (begun x) (events_by i script)) (alone_runs x i s (untold (heap_in x i)) script (begun x) lanes i_in free m start)

same_script : {sli : ℕ} (x : World sli) (i : ℕ) (script : List Call) (s t : Progress) → i < length x.heaps → AllByRecursion TakesNoPost script → MayTellAll sli (length x.heaps) i (untold (heap_in x i)) script s
    → MayTellAll sli (length x.heaps) i (untold (heap_in x i)) script t → HasLanes x i s.made s.entries → HasLanes x i t.made t.entries → s ≡ t
same_script x i script s t i_in free m k one two = sym (script_told x i script s i_in free m one) ∙ script_told x i script t i_in free k two

-- ---- one race

module _ {sli : ℕ} (w v : World sli) (scripts : List (List Call)) (records : List (List Entry)) (race : IsUncontendedRace w scripts records v) (free : OnlyLastDrains scripts) where
  -- what worker j was told at the end of a race
  abbrev told_in : ℕ → Progress
  told_in j = record { made = race.race.made j; entries = record_of records j; heap = heap_in v j }

  turn_of : (j : ℕ) → j < length w.heaps
      → QueueTurn sli (length w.heaps) j (untold (heap_in w j)) (script_of scripts j) (told_in j)
  turn_of j j_in =
      queue_turn sli (length w.heaps) j (untold (heap_in w j)) (told_in j) (script_of scripts j) (free j) (race.race.legal j j_in)

  meets_none : (j : ℕ) (j_in : j < length w.heaps)
      → 2 < length w.heaps → MeetsNoFull (turn_of j j_in).between.entries
  meets_none j j_in many =
      let t = turn_of j j_in in
      script_meets_none j t.between (told_in j) t.last.0 t.last.3 (race.posted many j j_in)

  -- what worker j took of worker i in its last drain is what its record tells
  drained_is : (i j : ℕ) (j_in : j < length w.heaps)
      → posts_taken i j (record_of records j) ≡ posts_of i (turn_of j j_in).last.0
  drained_is i j j_in =
      let t = turn_of j j_in in
      let none = none_taken sli (length w.heaps) i j j (untold (heap_in w j)) t.between (script_of scripts j) j_in (free j) t.ran refl in
      end_takes i j t.between (told_in j) t.last.0 t.last.3 ∙ ap (λ l. l ++ posts_of i t.last.0) none

  -- all that had waited, and all that i posted
  drained : (i j : ℕ) (i_in : i < length w.heaps) (j_in : j < length w.heaps) → i ≢ j
      → posts_of i (turn_of j j_in).last.0
      ≡ w.waiting i j ++ posts_made i j (turn_of i i_in).between.made (turn_of i i_in).between.entries
  drained i j i_in j_in ne =
      let t = turn_of i i_in in
      sym (drained_is i j j_in) ∙ (sym (race.race.agree i j i_in j_in ne).posts
      ∙ ap (λ l. w.waiting i j ++ l) (end_posts i j i t.between (told_in i) t.last.0 t.last.3))

  -- of two workers each was told what lanes of the queues' capacity would have told it
  two_lanes : (i : ℕ) (i_in : i < length w.heaps)
      → length w.heaps ≤ 2 → HasLanes w i (turn_of i i_in).between.made (turn_of i i_in).between.entries
  two_lanes i i_in few =
      let one = race.race in
      let t = turn_of i i_in in
      let end = told_in i in
      let names : (j : ℕ) (es : List Entry) → posts_made i j (one.made i) es ≡ posts_made i j t.between.made es
      = λ j es. ap (λ (u : Progress). posts_made i j u.made es) t.last.3 ∙ (each_post_same i j (with_takes i t.between t.last.0).made es ∙ ap (λ made. posts_made i j made es) (takes_name i t.last.0 t.between)) in
      record {
        room = λ j j_in ne.
            let u = turn_of j j_in in
            let most = one.last j j_in (with_takes j u.between u.last.0).entries (length u.last.0) (ap (λ (t : Progress). t.entries) u.last.3) in
            let all = drained i j i_in j_in ne in
            omega (arith, most, ap length all, length-append (w.waiting i j) (posts_made i j t.between.made t.between.entries), parts i u.last.0);
        full = λ j j_in ne before e name stands reply here.
            let agree = one.agree i j i_in j_in ne in
            let more = end_adds i t.between end t.last.0 t.last.3 in
            let found = agree.full (omega (arith, few, i_in, j_in, ne)) before e name (stands.0 ++ more.0, more.1 ∙ (ap (λ l. l ++ more.0) stands.1 ∙ append_assoc before (e ∷ stands.0) more.0)) reply here in
            omega (arith, found, ap length (names j before));
      }

-- ---- two races

races_tell_same : {sli : ℕ} (w v u : World sli) (scripts : List (List Call)) (records others : List (List Entry)) (race : IsUncontendedRace w scripts records v) (other : IsUncontendedRace w scripts others u)
    → (free : OnlyLastDrains scripts) → (j : ℕ) → j < length w.heaps → told_in w v scripts records race free j ≡ told_in w u scripts others other free j
races_tell_same {sli} w v u scripts records others race other free j j_in =
    let n = length w.heaps in
    let one = turn_of w v scripts records race free j j_in in
    let two = turn_of w u scripts others other free j j_in in
    let same : (i : ℕ) (i_in : i < n) → (turn_of w v scripts records race free i i_in).between ≡ (turn_of w u scripts others other free i i_in).between
    = λ i i_in.
    let s = turn_of w v scripts records race free i i_in in
    let t = turn_of w u scripts others other free i i_in in
    elim (cases_lt 2 n) [
      | inl many ↦
          let capacity = length s.between.entries + length t.between.entries in
          same_script (without_posts w capacity) i (script_of scripts i) s.between t.between i_in (free i) s.ran t.ran
          (lanes_hold w i capacity s.between.made s.between.entries (omega arith) (meets_none w v scripts records race free i i_in many))
          (lanes_hold w i capacity t.between.made t.between.entries (omega arith) (meets_none w u scripts others other free i i_in many))
      | inr few ↦
          same_script w i (script_of scripts i) s.between t.between i_in (free i) s.ran t.ran
          (two_lanes w v scripts records race free i i_in few) (two_lanes w u scripts others other free i i_in few)
    ] in
    let alone = race.alone j j_in in
    let posts : one.last.0 ≡ two.last.0
    = takes_with_same_posts n j alone.0 one.last.0 two.last.0 one.last.1 two.last.1
    (λ i i_in ne. drained w v scripts records race free i j i_in j_in ne
    ∙ (ap (λ (t : Progress). w.waiting i j ++ posts_made i j t.made t.entries) (same i i_in) ∙ sym (drained w u scripts others other free i j i_in j_in ne)))
    (λ i i_in ne apart. sym (drained_is w v scripts records race free i j j_in) ∙ alone.1 i i_in ne apart) in
    one.last.3 ∙ (ap (λ (t : Progress). with_reply j (with_takes j t one.last.0) last_call (Drained (length one.last.0))) (same j j_in)
    ∙ (ap (λ (l : List Post). with_reply j (with_takes j two.between l) last_call (Drained (length l))) posts ∙ sym two.last.3))

pub queue_race_is_one : (sli : ℕ) → QueueRaceIsOne sli
queue_race_is_one sli w v u scripts records others free race other =
    let same = races_tell_same w v u scripts records others race other free in
    let one = race.race in
    let two = other.race in (
      ext_get_or [] records others (one.records ∙ sym two.records) (λ j lt. ap (λ (t : Progress). t.entries) (same j (omega (arith, lt, one.records)))),
      same_world v u
          (ext_get_or no_heap v.heaps u.heaps (one.heaps ∙ sym two.heaps) (λ j lt. ap (λ (t : Progress). t.heap) (same j (omega (arith, lt, one.heaps)))))
          (λ i j. one.taken i j ∙ sym (two.taken i j)) (one.capacity ∙ sym two.capacity),
    )

-- of two workers each queue has one poster
pub two_uncontended : {sli : ℕ} (w v : World sli) (scripts : List (List Call)) (records : List (List Entry)) → length w.heaps ≤ 2 → IsQueueRace w scripts records v → IsUncontendedRace w scripts records v
two_uncontended w v scripts records few race = record {
  race = race;
  posted = λ many. absurd (omega arith);
  alone = λ j j_in. (1 - j, λ i i_in ne apart. absurd (omega arith));
}
