-- A record over queues tells the calls of its script and the history of its worker's heap.
use Rattle.tlsf_crew.proofs.Common.{[], ◌∷◌, ◌++◌, ◌≡◌, ◌≢◌, ℕ, suc, ◌<◌, ◌≤◌, List, Option, None, All, length, sym, ◌∙◌, ap, arith, refl, subst, append_assoc, append-nil, All-nil, All-cons, All-head, All-tail, All-append, HeapState, Name, Post, Call, Take, Drain, Entry, Stranger, Drained, Refused, released, AreLawful, RunsThrough, RunsTo, answer_told, answers_on, call_on_own, calls_on, posts_made, posts_taken, Progress, World, heap_in, last_call, script_of, record_of, IsFromOther, MayTellQueue, take_entry, with_reply, with_take, with_takes, IsQueueRace}
use Rattle.tlsf_crew.specs.histories.QueueHistory.{AreQueueTakes, TellsQueue, TellsQueueCall}
use Rattle.tlsf_crew.proofs.lemmas.histories.AllEntries.{more_knows}
use Rattle.tlsf_crew.proofs.lemmas.histories.JoinedEntries.{HasItsAnswer, told_nothing, told_own}
use Rattle.tlsf_crew.proofs.lemmas.histories.OwnCalls.{Knows}
use Rattle.tlsf_crew.proofs.lemmas.race_laws.CallsTold.{Account, CallTold, RecordTold, RunsBy, TellsEach, race_leaves_lawful, record_always, record_told, runs_by_then}
use Rattle.tlsf_crew.proofs.lemmas.race_laws.RecordHistory.{knows_one, one_told}
use Rattle.tlsf_crew.proofs.lemmas.races.QueueTakes.{takes_name}

-- how a worker over queues is told its calls
abbrev pub by_queues : (sli n at : ℕ) → Account n at
by_queues sli n at = record {
  may_tell = MayTellQueue sli n at;
  one = TellsQueueCall n at;
  all = TellsQueue n at;
  none = λ made. refl;
  more = λ made call calls name later own rest first behind. (own, rest, refl, first, behind);
}

-- an entry that tells of no heap
quiet_run : (sli : ℕ) (made : List (Option Name)) (at : ℕ) (h : HeapState) (e : Entry) → call_on_own made e.worker e.call e.reply ≡ None → answer_told e.call e.reply ≡ None → RunsBy sli made at h (e ∷ []) h
quiet_run sli made at h e a b =
    let c = told_nothing (λ e. call_on_own made e.worker e.call e.reply) at e a in
    let d = told_nothing (λ e. answer_told e.call e.reply) at e b in
    rw (c, d) (record { told = refl; left = refl })

-- ---- takes

take_run : (sli : ℕ) (made : List (Option Name)) (at : ℕ) (h : HeapState) (post : Post) → RunsBy sli made at h (take_entry at h post ∷ []) (released h post.name).heap
unfolding released
take_run sli made at h post =
    let e = take_entry at h post in
    let c = told_own (λ e. call_on_own made e.worker e.call e.reply) at e refl in
    let d = told_own (λ e. answer_told e.call e.reply) at e refl in
    rw (c, d) (record { told = refl; left = refl })

-- the entries of some takes
record TakesTold (sli : ℕ) (made : List (Option Name)) (n at : ℕ) (s : Progress) (t : Progress) (count : ℕ) : Type 0 where
  own : List Entry
  entries : t.entries ≡ s.entries ++ own
  names : t.made ≡ s.made
  count_is : length own ≡ count
  are_takes : AreQueueTakes n at own
  run : RunsBy sli made at s.heap own t.heap
  each : All (HasItsAnswer made n) own

takes_told : {sli : ℕ} (made : List (Option Name)) (n at : ℕ) (posts : List Post) (s : Progress) → All (IsFromOther n at) posts → TakesTold sli made n at s (with_takes at s posts) (length posts)
takes_told {sli} made n at [] s all = record {
  own = [];
  entries = sym (append-nil s.entries);
  names = refl;
  count_is = refl;
  are_takes = tt;
  run = record { told = refl; left = refl };
  each = All-nil (HasItsAnswer made n);
}
takes_told {sli} made n at (post ∷ posts) s all =
    let other = All-head (IsFromOther n at) post posts all in
    let e = take_entry at s.heap post in
    let u = with_take at s post in
    let rest = takes_told made n at posts u (All-tail (IsFromOther n at) post posts all) in
    record {
      own = e ∷ rest.own;
      entries = rest.entries ∙ append_assoc s.entries (e ∷ []) rest.own;
      names = rest.names;
      count_is = ap suc rest.count_is;
      are_takes = (record { from = post.from; name = post.name; answer = (released s.heap post.name).answer }, refl, other.0, other.1, rest.are_takes);
      run = runs_by_then sli made at s.heap u.heap (with_takes at u posts).heap (e ∷ []) rest.own (take_run sli made at s.heap post) rest.run;
      each = All-cons (HasItsAnswer made n) e rest.own (λ _. refl) rest.each;
    }

-- ---- one call

refused_take : {sli : ℕ} (made : List (Option Name)) (n at : ℕ) (s t : Progress) (from : ℕ) → t ≡ with_reply at s (Take from) (Refused Stranger) → CallTold (by_queues sli n at) sli made s (Take from) t
refused_take {sli} made n at s t from e =
    let x : Entry = record { worker = at; call = Take from; reply = Refused Stranger } in
    rw e (record {
      own = x ∷ [];
      name = None;
      entries = refl;
      names = refl;
      tells = (refl, refl);
      run = quiet_run sli made at s.heap x refl refl;
      each = All-cons (HasItsAnswer made n) x [] (λ _. refl) (All-nil (HasItsAnswer made n));
    })

drained_queue : {sli : ℕ} (made : List (Option Name)) (n at : ℕ) (s t : Progress) (most : ℕ) (posts : List Post) → All (IsFromOther n at) posts → length posts ≤ most
    → t ≡ with_reply at (with_takes at s posts) (Drain most) (Drained (length posts)) → CallTold (by_queues sli n at) sli made s (Drain most) t
drained_queue {sli} made n at s t most posts all few e =
    let x : Entry = record { worker = at; call = Drain most; reply = Drained (length posts) } in
    let u = with_takes at s posts in
    let taken = takes_told {sli = sli} made n at posts s all in
    rw e (record {
      own = taken.own ++ x ∷ [];
      name = None;
      entries = ap (λ l. l ++ x ∷ []) taken.entries ∙ append_assoc s.entries taken.own (x ∷ []);
      names = ap (λ l. l ++ None ∷ []) taken.names;
      tells = (
        refl,
        record {
          takes = taken.own;
          are_takes = taken.are_takes;
          few = omega (arith, taken.count_is);
          whole = ap (λ (k : ℕ). taken.own ++ record { worker = at; call = Drain most; reply = Drained k } ∷ []) (sym taken.count_is);
        },
      );
      run = runs_by_then sli made at s.heap u.heap u.heap taken.own (x ∷ []) taken.run (quiet_run sli made at u.heap x refl refl);
      each = All-append (HasItsAnswer made n) taken.own (x ∷ []) taken.each (All-cons (HasItsAnswer made n) x [] (λ _. refl) (All-nil (HasItsAnswer made n)));
    })

queue_call_told : {sli : ℕ} (made : List (Option Name)) (n at : ℕ) (s t : Progress) (call : Call) → at < n → Knows made s.made → MayTellQueue sli n at s call t → CallTold (by_queues sli n at) sli made s call t
queue_call_told made n at s t (Take from) at_in known m = refused_take made n at s t from m
queue_call_told made n at s t (Drain most) at_in known m = drained_queue made n at s t most m.0 m.1 m.2 m.3
queue_call_told made n at s t call at_in known m =
    let o = one_told made n at s t call at_in known m in
    record { own = o.own; name = o.name; entries = o.entries; names = o.names; tells = o.tells.near at_in; run = o.run; each = o.each }

-- ---- all calls

-- names that were made stay known
queue_knows_one : (sli : ℕ) (n at : ℕ) (s t : Progress) (call : Call) → MayTellQueue sli n at s call t → Knows t.made s.made
queue_knows_one sli n at s t (Take from) m = subst (λ (made : List (Option Name)). Knows made s.made) (sym (ap (λ (u : Progress). u.made) m)) (more_knows s.made (None ∷ []))
queue_knows_one sli n at s t (Drain most) m =
    subst (λ (made : List (Option Name)). Knows made s.made) (ap (λ l. l ++ None ∷ []) (sym (takes_name at m.0 s)) ∙ sym (ap (λ (u : Progress). u.made) m.3)) (more_knows s.made (None ∷ []))
queue_knows_one sli n at s t call m = knows_one sli n at s t call m

queues_tell_each : {sli n at : ℕ} → at < n → TellsEach (by_queues sli n at) sli
queues_tell_each {sli} {n} {at} at_in = record { knows = queue_knows_one sli n at; told = λ made s t call known m. queue_call_told made n at s t call at_in known m }

-- ---- the records of a race

race_told : {sli : ℕ} (w v : World sli) (scripts : List (List Call)) (records : List (List Entry)) (race : IsQueueRace w scripts records v) (j : ℕ) → j < length w.heaps
    → RecordTold (by_queues sli (length w.heaps) j) sli (heap_in w j) (script_of scripts j ++ last_call ∷ []) (record { made = race.made j; entries = record_of records j; heap = heap_in v j })
race_told {sli} w v scripts records race j j_in = record_told _ sli (queues_tell_each j_in) (heap_in w j) (script_of scripts j ++ last_call ∷ []) _ (race.legal j j_in)

-- each entry tells an answer where it tells a call on its worker's own heap
pub queue_race_answered : {sli : ℕ} (w v : World sli) (scripts : List (List Call)) (records : List (List Entry)) (race : IsQueueRace w scripts records v) (j : ℕ) → j < length w.heaps
    → All (HasItsAnswer (race.made j) (length w.heaps)) (record_of records j)
queue_race_answered w v scripts records race j j_in = (race_told w v scripts records race j j_in).each

pub queue_race_tells : {sli : ℕ} (w v : World sli) (scripts : List (List Call)) (records : List (List Entry)) (race : IsQueueRace w scripts records v) (j : ℕ) → j < length w.heaps
    → TellsQueue (length w.heaps) j [] (script_of scripts j ++ last_call ∷ []) (race.made j) (record_of records j)
queue_race_tells w v scripts records race j j_in = (race_told w v scripts records race j j_in).tells

pub queue_race_runs : {sli : ℕ} (w v : World sli) (scripts : List (List Call)) (records : List (List Entry)) (race : IsQueueRace w scripts records v) (j : ℕ) → j < length w.heaps
    → RunsTo sli (heap_in w j) (calls_on j (race.made j) (record_of records j)) (answers_on j (record_of records j)) (heap_in v j)
queue_race_runs w v scripts records race j j_in = (race_told w v scripts records race j j_in).run

pub queue_race_posts : {sli : ℕ} (w v : World sli) (scripts : List (List Call)) (records : List (List Entry)) (race : IsQueueRace w scripts records v) (i j : ℕ) → i < length w.heaps → j < length w.heaps → i ≢ j
    → w.waiting i j ++ posts_made i j (race.made i) (record_of records i) ≡ posts_taken i j (record_of records j)
queue_race_posts w v scripts records race i j i_in j_in ne = (race.agree i j i_in j_in ne).posts

pub queue_race_lawful : {sli : ℕ} (w v : World sli) (scripts : List (List Call)) (records : List (List Entry)) → IsQueueRace w scripts records v → AreLawful w → AreLawful v
queue_race_lawful w v scripts records race lawful = race_leaves_lawful w v race.made records race.heaps (queue_race_runs w v scripts records race) lawful

pub queue_race_always : {sli : ℕ} (w v : World sli) (scripts : List (List Call)) (records : List (List Entry)) (race : IsQueueRace w scripts records v) (before later : List Entry) (j : ℕ) → AreLawful w → j < length w.heaps
    → record_of records j ≡ before ++ later → RunsThrough sli (heap_in w j) j (race.made j) before later (heap_in v j)
queue_race_always {sli} w v scripts records race before later j lawful j_in whole = record_always _ sli _ _ _ before later j_in lawful.0 (lawful.1 j j_in) (race_told w v scripts records race j j_in) whole
