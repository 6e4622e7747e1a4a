-- The facts that the records of a race tell, whatever carries its posts.
use Rattle.tlsf_yard_laws.proofs.Common.{◌==◌, false, [], ◌∷◌, ◌++◌, ◌≡◌, ◌≢◌, ℕ, ◌<◌, ◌≤◌, List, Option, None, All, length, refl, sym, ap, ◌∙◌, subst, inl, inr, arith, append-nil, cases_eq, IsLevel, IsLawful, Name, Post, Call, Take, Drain, Stranger, Entry, Reply, Drained, Refused, record_of, RunsThrough, RunsTo, answers_on, calls_on, post_of_take, posts_made, posts_taken, World, Replayed, called, draining, heap_in, taking, Carrier, IsRaceOver, OverLanes, OverQueues, nat_tests, Taken, drain_apart, nothing_before, drain_makes, drain_told, called_knows, called_told, runs_through, HasItsAnswer, told_nothing, taken_then, taking_far, taking_own}
use Rattle.tlsf_post.specs.Rule.{posts_of}
use Rattle.tlsf_crew.specs.model.QueueProgress.{MayTellQueue, MayTellQueueAll, IsFromOther, with_reply, with_takes}
use Rattle.tlsf_crew.specs.race_laws.Alone.{TakesNoPost}
use Rattle.tlsf_crew.specs.scripts.Scripts.{last_call, script_of}
use Rattle.tlsf_crew.specs.model.Progress.{Progress, MayTell, MayTellAll, untold}
use Rattle.tlsf_crew.proofs.lemmas.race_laws.QueueRecords.{queue_race_answered, queue_race_runs}
use Rattle.tlsf_crew.proofs.lemmas.races.QueueTakes.{none_of_others, takes_of_posts}
use Rattle.tlsf_crew.proofs.lemmas.race_laws.AloneRuns.{takes_none}
use Rattle.tlsf_crew.proofs.lemmas.race_laws.RecordHistory.{race_answered, race_runs}
use Rattle.tlsf_crew.proofs.lemmas.scripts.ScriptRuns.{tell_more}

-- ---- no worker takes what it posted itself, or what one that isn't there did

refused_take : {sli : ℕ} (x : World sli) (at k from : ℕ) (e : Entry) → (k ≢ at → length x.heaps ≤ k) → e ≡ record { worker = at; call = Take from; reply = (taking x at from).reply } → post_of_take k e.call e.reply ≡ None
refused_take x at k from e far is = ap (λ (y : Entry). post_of_take k y.call y.reply) is ∙ elim (cases_eq from k) [
  | inl same ↦ elim (cases_eq from at) [
    | inl own ↦ rw (taking_own x at from own) refl
    | inr ne ↦ let le = far (λ q. ne (same ∙ q)) in rw (taking_far x at from (omega (arith, le, same))) refl
  ]
  | inr ne ↦ not_from k from (taking x at from).reply ne
]
  where
    not_from : (k from : ℕ) (reply : Reply) → from ≢ k → post_of_take k (Take from) reply ≡ None
    not_from k from (Taken t) ne = let b : (from == k) ≡ false = grind (arith, nat_tests) in rw b refl
    not_from k from reply ne = refl

-- a call takes none from there
abbrev pub Away : ℕ → ℕ → ℕ → Type 0
Away n at k = k ≢ at → n ≤ k

behind_none : (k at : ℕ) (before own after : List Entry) → after ≡ before ++ own → posts_taken k at before ≡ [] → posts_taken k at own ≡ [] → posts_taken k at after ≡ []
behind_none k at before own after e none own_none = ap (posts_taken k at) e ∙ (taken_then k at before own ∙ (ap (λ l. l ++ posts_taken k at own) none ∙ own_none))

quiet_away : (sli : ℕ) (n at k : ℕ) (s t : Progress) (call : Call) → at < n → TakesNoPost call → MayTell sli n at s call t → posts_taken k at s.entries ≡ [] → posts_taken k at t.entries ≡ []
quiet_away sli n at k s t call at_in free m none =
    let r : Replayed sli = record { made = s.made; entries = s.entries; world = m.0 } in
    let c = called_told (called r at call).made r at call (omega (arith, at_in, m.1.0)) (called_knows r at call) in
    behind_none k at s.entries c.own t.entries (sym (ap (λ (t : Progress). t.entries) m.2) ∙ c.entries) none (takes_none k at at s.made call c.name c.own free c.tells)

drain_away : (sli : ℕ) (n at k most : ℕ) (s t : Progress) → at < n → Away n at k → MayTell sli n at s (Drain most) t → posts_taken k at s.entries ≡ [] → posts_taken k at t.entries ≡ []
drain_away sli n at k most s t at_in far m none =
    let x = m.0 in
    let r : Replayed sli = record { made = s.made; entries = s.entries; world = x } in
    let c = drain_told s.made r at most (omega (arith, at_in, m.1.0)) in
    let v = draining r at most in
    let same : v.world.waiting k at ≡ x.waiting k at = drain_apart r at most k (λ ne. let le = far ne in omega (arith, le, m.1.0)) in
    let own = nothing_before (posts_taken k at c.own) (x.waiting k at)
    (sym (append-nil (x.waiting k at)) ∙ (sym (ap (λ l. x.waiting k at ++ l) (drain_makes k at at most s.made c.own c.tells.1)) ∙ (c.history.posts k at ∙ ap (λ l. posts_taken k at c.own ++ l) same))) in
    behind_none k at s.entries c.own t.entries (sym (ap (λ (t : Progress). t.entries) m.2) ∙ c.entries) none own

take_away : (sli : ℕ) (n at k from : ℕ) (s t : Progress) → Away n at k → MayTell sli n at s (Take from) t → posts_taken k at s.entries ≡ [] → posts_taken k at t.entries ≡ []
take_away sli n at k from s t far m none =
    let e : Entry = record { worker = at; call = Take from; reply = (taking m.0 at from).reply } in
    behind_none k at s.entries (e ∷ []) t.entries (sym (ap (λ (t : Progress). t.entries) m.2)) none
    (told_nothing (λ e. post_of_take k e.call e.reply) at e (refused_take m.0 at k from e (λ ne. let le = far ne in omega (arith, le, m.1.0)) refl))

one_away : (sli : ℕ) (n at k : ℕ) (s t : Progress) (call : Call) → at < n → Away n at k → MayTell sli n at s call t → posts_taken k at s.entries ≡ [] → posts_taken k at t.entries ≡ []
one_away sli n at k s t (Take from) at_in far m none = take_away sli n at k from s t far m none
one_away sli n at k s t (Drain most) at_in far m none = drain_away sli n at k most s t at_in far m none
one_away sli n at k s t call at_in far m none = quiet_away sli n at k s t call at_in tt m none

all_away : (sli : ℕ) (n at k : ℕ) (s t : Progress) (calls : List Call) → at < n → Away n at k → MayTellAll sli n at s calls t → posts_taken k at s.entries ≡ [] → posts_taken k at t.entries ≡ []
all_away sli n at k s t [] at_in far m none = ap (λ (t : Progress). posts_taken k at t.entries) m ∙ none
all_away sli n at k s t (call ∷ calls) at_in far m none = all_away sli n at k m.0 t calls at_in far m.2 (one_away sli n at k s m.0 call at_in far m.1 none)

-- so it is over queues
queue_drain_away : (n at k most : ℕ) (s t : Progress) (posts : List Post) → Away n at k → All (IsFromOther n at) posts → t ≡ with_reply at (with_takes at s posts) (Drain most) (Drained (length posts)) → posts_taken k at s.entries ≡ []
    → posts_taken k at t.entries ≡ []
queue_drain_away n at k most s t posts far others is none =
    let e : Entry = record { worker = at; call = Drain most; reply = Drained (length posts) } in
    let taken : posts_taken k at (with_takes at s posts).entries ≡ []
    = takes_of_posts k at posts s ∙ (ap (λ l. l ++ posts_of k posts) none ∙ none_of_others n at k posts others (λ o. let le = far o.1 in omega (arith, le, o.0))) in
    behind_none k at (with_takes at s posts).entries (e ∷ []) t.entries (ap (λ (t : Progress). t.entries) is) taken (told_nothing (λ e. post_of_take k e.call e.reply) at e refl)

queue_one_away : (sli : ℕ) (n at k : ℕ) (s t : Progress) (call : Call) → at < n → Away n at k → MayTellQueue sli n at s call t → posts_taken k at s.entries ≡ [] → posts_taken k at t.entries ≡ []
queue_one_away sli n at k s t (Take from) at_in far m none =
    let e : Entry = record { worker = at; call = Take from; reply = Refused Stranger } in
    behind_none k at s.entries (e ∷ []) t.entries (ap (λ (t : Progress). t.entries) m) none (told_nothing (λ e. post_of_take k e.call e.reply) at e refl)
queue_one_away sli n at k s t (Drain most) at_in far m none = queue_drain_away n at k most s t m.0 far m.1 m.3 none
queue_one_away sli n at k s t call at_in far m none = quiet_away sli n at k s t call at_in tt m none

queue_all_away : (sli : ℕ) (n at k : ℕ) (s t : Progress) (calls : List Call) → at < n → Away n at k → MayTellQueueAll sli n at s calls t → posts_taken k at s.entries ≡ [] → posts_taken k at t.entries ≡ []
queue_all_away sli n at k s t [] at_in far m none = ap (λ (t : Progress). posts_taken k at t.entries) m ∙ none
queue_all_away sli n at k s t (call ∷ calls) at_in far m none = queue_all_away sli n at k m.0 t calls at_in far m.2 (queue_one_away sli n at k s m.0 call at_in far m.1 none)

-- ---- the records of a race

pub heaps_stay : {sli : ℕ} (carrier : Carrier) (w v : World sli) (scripts : List (List Call)) (made : ℕ → List (Option Name)) (records : List (List Entry)) → IsRaceOver carrier w scripts made records v
    → length v.heaps ≡ length w.heaps
heaps_stay OverLanes w v scripts made records race = (race.0).heaps
heaps_stay OverQueues w v scripts made records race = (race.0).heaps

pub heap_runs : {sli : ℕ} (carrier : Carrier) (w v : World sli) (scripts : List (List Call)) (made : ℕ → List (Option Name)) (records : List (List Entry)) → IsRaceOver carrier w scripts made records v
    → (j : ℕ) → j < length w.heaps → RunsTo sli (heap_in w j) (calls_on j (made j) (record_of records j)) (answers_on j (record_of records j)) (heap_in v j)
heap_runs {sli} OverLanes w v scripts made records race j j_in =
    subst (λ (m : ℕ → List (Option Name)). RunsTo sli (heap_in w j) (calls_on j (m j) (record_of records j)) (answers_on j (record_of records j)) (heap_in v j)) race.1 (race_runs w v scripts records race.0 j j_in)
heap_runs {sli} OverQueues w v scripts made records race j j_in =
    subst (λ (m : ℕ → List (Option Name)). RunsTo sli (heap_in w j) (calls_on j (m j) (record_of records j)) (answers_on j (record_of records j)) (heap_in v j)) race.1 (queue_race_runs w v scripts records race.0 j j_in)

-- each entry tells an answer where it tells a call on its worker's own heap
pub each_answered : {sli : ℕ} (carrier : Carrier) (w v : World sli) (scripts : List (List Call)) (made : ℕ → List (Option Name)) (records : List (List Entry)) → IsRaceOver carrier w scripts made records v
    → (j : ℕ) → j < length w.heaps → All (HasItsAnswer (made j) (length w.heaps)) (record_of records j)
each_answered OverLanes w v scripts made records race j j_in =
    subst (λ (m : ℕ → List (Option Name)). All (HasItsAnswer (m j) (length w.heaps)) (record_of records j)) race.1 (race_answered w v scripts records race.0 j j_in)
each_answered OverQueues w v scripts made records race j j_in =
    subst (λ (m : ℕ → List (Option Name)). All (HasItsAnswer (m j) (length w.heaps)) (record_of records j)) race.1 (queue_race_answered w v scripts records race.0 j j_in)

-- what waited and was posted is what was taken
pub posts_match : {sli : ℕ} (carrier : Carrier) (w v : World sli) (scripts : List (List Call)) (made : ℕ → List (Option Name)) (records : List (List Entry)) → IsRaceOver carrier w scripts made records v
    → (i j : ℕ) → i < length w.heaps → j < length w.heaps → i ≢ j → w.waiting i j ++ posts_made i j (made i) (record_of records i) ≡ posts_taken i j (record_of records j)
posts_match OverLanes w v scripts made records race i j i_in j_in ne =
    subst (λ (m : ℕ → List (Option Name)). w.waiting i j ++ posts_made i j (m i) (record_of records i) ≡ posts_taken i j (record_of records j)) race.1 ((race.0).agree i j i_in j_in ne).posts
posts_match OverQueues w v scripts made records race i j i_in j_in ne =
    subst (λ (m : ℕ → List (Option Name)). w.waiting i j ++ posts_made i j (m i) (record_of records i) ≡ posts_taken i j (record_of records j)) race.1 ((race.0).agree i j i_in j_in ne).posts

pub takes_none_of : {sli : ℕ} (carrier : Carrier) (w v : World sli) (scripts : List (List Call)) (made : ℕ → List (Option Name)) (records : List (List Entry)) → IsRaceOver carrier w scripts made records v
    → (j k : ℕ) → j < length w.heaps → Away (length w.heaps) j k → posts_taken k j (record_of records j) ≡ []
takes_none_of {sli} OverLanes w v scripts made records race j k j_in far =
    let own = (race.0).made j in
    let l = (race.0).legal j j_in in
    let end : Progress = record { made = own; entries = record_of records j; heap = heap_in v j } in
    all_away sli (length w.heaps) j k (untold (heap_in w j)) end (script_of scripts j ++ last_call ∷ []) j_in far
    (tell_more (MayTell sli (length w.heaps) j) (untold (heap_in w j)) l.between end (script_of scripts j) last_call l.script l.last) refl
takes_none_of {sli} OverQueues w v scripts made records race j k j_in far =
    let own = (race.0).made j in
    let end : Progress = record { made = own; entries = record_of records j; heap = heap_in v j } in
    queue_all_away sli (length w.heaps) j k (untold (heap_in w j)) end (script_of scripts j ++ last_call ∷ []) j_in far ((race.0).legal j j_in) refl

-- what some entries of a record leave, after which the others come
pub heap_between : {sli : ℕ} (carrier : Carrier) (w v : World sli) (scripts : List (List Call)) (made : ℕ → List (Option Name)) (records : List (List Entry)) → IsRaceOver carrier w scripts made records v
    → (before later : List Entry) (j : ℕ) → IsLevel sli → IsLawful (heap_in w j) → j < length w.heaps → record_of records j ≡ before ++ later → RunsThrough sli (heap_in w j) j (made j) before later (heap_in v j)
heap_between {sli} carrier w v scripts made records race before later j level lawful j_in whole =
    runs_through (made j) (length w.heaps) j (heap_in w j) (heap_in v j) before later j_in level lawful
    (subst (All (HasItsAnswer (made j) (length w.heaps))) whole (each_answered carrier w v scripts made records race j j_in))
    (subst (λ l. RunsTo sli (heap_in w j) (calls_on j (made j) l) (answers_on j l) (heap_in v j)) whole (heap_runs carrier w v scripts made records race j j_in))
