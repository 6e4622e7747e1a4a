-- A record tells the calls of its script and the history of its worker's heap.
use Rattle.tlsf_crew.proofs.Common.{[], ◌∷◌, ◌++◌, ◌≡◌, ◌≢◌, ℕ, ◌<◌, List, Option, All, length, sym, ◌∙◌, ap, arith, refl, subst, IsLevel, IsLawful, Name, Call, Entry, AreLawful, RunsThrough, RunsTo, Tells, TellsEvent, TookFromOther, answers_on, calls_on, posts_made, posts_taken, Progress, MayTell, untold, World, Replayed, called, heap_in, IsRace, events_by, events_of_race, last_call, script_of, record_of}
use Rattle.tlsf_crew.proofs.lemmas.histories.AllEntries.{called_knows, called_told}
use Rattle.tlsf_crew.proofs.lemmas.histories.JoinedEntries.{HasItsAnswer}
use Rattle.tlsf_crew.proofs.lemmas.histories.OwnCalls.{Knows}
use Rattle.tlsf_crew.proofs.lemmas.race_laws.CallsTold.{Account, CallTold, RecordTold, TellsEach, race_leaves_lawful, record_always, record_told}
use Rattle.tlsf_crew.proofs.lemmas.scripts.ScriptRuns.{tell_more}

-- how a worker over lanes is told its calls
abbrev pub by_lanes : (sli n at : ℕ) → Account n at
by_lanes sli n at = record {
  may_tell = MayTell sli n at;
  one = λ made call name own. TellsEvent n made (record { worker = at; call = call }) name own;
  all = λ made calls later entries. Tells n made (events_by at calls) later entries;
  none = λ made. refl;
  more = λ made call calls name later own rest first behind. (own, rest, refl, first, behind);
}

-- names that were made stay known
pub knows_one : (sli : ℕ) (n at : ℕ) (s t : Progress) (call : Call) → MayTell sli n at s call t → Knows t.made s.made
knows_one sli n at s t call m =
    let r : Replayed sli = record { made = s.made; entries = s.entries; world = m.0 } in
    subst (λ (made : List (Option Name)). Knows made s.made) (ap (λ (t : Progress). t.made) m.2) (called_knows r at call)

-- the entries of one call
pub one_told : {sli : ℕ} (made : List (Option Name)) (n at : ℕ) (s t : Progress) (call : Call) → at < n → Knows made s.made → MayTell sli n at s call t → CallTold (by_lanes sli n at) sli made s call t
one_told {sli} made n at s t call at_in known m =
    let w = m.0 in
    let r : Replayed sli = record { made = s.made; entries = s.entries; world = w } in
    let count : length w.heaps ≡ n = m.1.0 in
    let c = called_told made r at call (omega (arith, count)) known in
    let v = called r at call in
    record {
      own = c.own;
      name = c.name;
      entries = sym (ap (λ (t : Progress). t.entries) m.2) ∙ c.entries;
      names = sym (ap (λ (t : Progress). t.made) m.2) ∙ c.names;
      tells = record { near = λ _. c.tells; others = subst (λ (k : ℕ). All (TookFromOther k) c.own) count c.others; far = λ far. absurd (omega arith) };
      run = subst (λ h. RunsTo sli s.heap (calls_on at made c.own) (answers_on at c.own) h) (ap (λ (t : Progress). t.heap) m.2)
          (subst (λ h. RunsTo sli h (calls_on at made c.own) (answers_on at c.own) (heap_in v.world at)) m.1.1 (c.history.heaps at (omega (arith, count))));
      each = subst (λ (n : ℕ). All (HasItsAnswer made n) c.own) count c.history.each;
    }

-- so are all of a record
lanes_tell_each : {sli n at : ℕ} → at < n → TellsEach (by_lanes sli n at) sli
lanes_tell_each {sli} {n} {at} at_in = record { knows = knows_one sli n at; told = λ made s t call known m. one_told made n at s t call at_in known m }

-- ---- the records of a race

race_told : {sli : ℕ} (w v : World sli) (scripts : List (List Call)) (records : List (List Entry)) (race : IsRace w scripts records v) (j : ℕ) → j < length w.heaps
    → RecordTold (by_lanes sli (length w.heaps) j) sli (heap_in w j) (script_of scripts j ++ last_call ∷ []) (record { made = race.made j; entries = record_of records j; heap = heap_in v j })
race_told {sli} w v scripts records race j j_in =
    let l = race.legal j j_in in
    let n = length w.heaps in
    let end : Progress = record { made = race.made j; entries = record_of records j; heap = heap_in v j } in
    record_told (by_lanes sli n j) sli (lanes_tell_each j_in) (heap_in w j) (script_of scripts j ++ last_call ∷ []) end
    (tell_more (MayTell sli n j) (untold (heap_in w j)) l.between end (script_of scripts j) last_call l.script l.last)

-- each entry tells an answer where it tells a call on its worker's own heap
pub race_answered : {sli : ℕ} (w v : World sli) (scripts : List (List Call)) (records : List (List Entry)) (race : IsRace w scripts records v) (j : ℕ) → j < length w.heaps
    → All (HasItsAnswer (race.made j) (length w.heaps)) (record_of records j)
race_answered w v scripts records race j j_in = (race_told w v scripts records race j j_in).each

pub race_tells : {sli : ℕ} (w v : World sli) (scripts : List (List Call)) (records : List (List Entry)) (race : IsRace w scripts records v) (j : ℕ) → j < length w.heaps
    → Tells (length w.heaps) [] (events_of_race scripts j) (race.made j) (record_of records j)
race_tells w v scripts records race j j_in = (race_told w v scripts records race j j_in).tells

pub race_runs : {sli : ℕ} (w v : World sli) (scripts : List (List Call)) (records : List (List Entry)) (race : IsRace w scripts records v) (j : ℕ) → j < length w.heaps
    → RunsTo sli (heap_in w j) (calls_on j (race.made j) (record_of records j)) (answers_on j (record_of records j)) (heap_in v j)
race_runs w v scripts records race j j_in = (race_told w v scripts records race j j_in).run

pub race_posts : {sli : ℕ} (w v : World sli) (scripts : List (List Call)) (records : List (List Entry)) (race : IsRace w scripts records v) (i j : ℕ) → i < length w.heaps → j < length w.heaps → i ≢ j
    → w.waiting i j ++ posts_made i j (race.made i) (record_of records i) ≡ posts_taken i j (record_of records j)
race_posts w v scripts records race i j i_in j_in ne = (race.agree i j i_in j_in ne).posts

pub race_lawful : {sli : ℕ} (w v : World sli) (scripts : List (List Call)) (records : List (List Entry)) → IsRace w scripts records v → AreLawful w → AreLawful v
race_lawful w v scripts records race lawful = race_leaves_lawful w v race.made records race.heaps (race_runs w v scripts records race) lawful

pub race_always : {sli : ℕ} (w v : World sli) (scripts : List (List Call)) (records : List (List Entry)) (race : IsRace w scripts records v) (before later : List Entry) (j : ℕ) → IsLevel sli → IsLawful (heap_in w j) → j < length w.heaps
    → record_of records j ≡ before ++ later → RunsThrough sli (heap_in w j) j (race.made j) before later (heap_in v j)
race_always {sli} w v scripts records race before later j level lawful j_in whole = record_always _ sli _ _ _ before later j_in level lawful (race_told w v scripts records race j j_in) whole
