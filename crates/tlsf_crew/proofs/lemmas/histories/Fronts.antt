-- The world after some of the entries of a replay, after which the others come.
use Rattle.tlsf_crew.proofs.Common.{[], ◌∷◌, ◌++◌, ◌≡◌, ℕ, ◌+◌, ◌<◌, List, Option, All, length, map, take, drop, sym, ◌∙◌, ap, arith, refl, inl, inr, subst, length-append, take-append_seam, drop-append_seam, cases_eq, length-map, map-append, All-head, All-tail, All-take, IsLevel, HeapState, IsLawful, Name, Entry, Event, AreLawful, RunsThrough, RunsTo, answer_told, answers_on, call_on_own, calls_on, handed_on, World, heap_in, replies, lawful_run}
use Rattle.tlsf_heap.specs.Calls as heap
use Rattle.tlsf_crew.proofs.lemmas.histories.AllEntries.{replies_tell}
use Rattle.tlsf_crew.proofs.lemmas.histories.JoinedEntries.{HasItsAnswer, length_run, run_more, told_other, told_own, told_then}

-- this many calls on a heap are told as answers of it
pub as_many : (made : List (Option Name)) (workers j : ℕ) (es : List Entry) → j < workers → All (HasItsAnswer made workers) es → length (calls_on j made es) ≡ length (answers_on j es)
as_many made workers j [] j_in each = refl
as_many made workers j (e ∷ es) j_in each =
    let call = λ (e : Entry). call_on_own made e.worker e.call e.reply in
    let answer = λ (e : Entry). answer_told e.call e.reply in
    let rest = as_many made workers j es j_in (All-tail (HasItsAnswer made workers) e es each) in
    let calls : length (calls_on j made (e ∷ es)) ≡ length (calls_on j made (e ∷ [])) + length (calls_on j made es)
    = ap length (told_then call j (e ∷ []) es) ∙ length-append (calls_on j made (e ∷ [])) (calls_on j made es) in
    let answers : length (answers_on j (e ∷ es)) ≡ length (answers_on j (e ∷ [])) + length (answers_on j es)
    = ap length (told_then answer j (e ∷ []) es) ∙ length-append (answers_on j (e ∷ [])) (answers_on j es) in
    let one : length (calls_on j made (e ∷ [])) ≡ length (answers_on j (e ∷ [])) =
    elim (cases_eq e.worker j) [
      | inl is ↦ rw (told_own call j e is, told_own answer j e is) (All-head (HasItsAnswer made workers) e es each (omega arith))
      | inr ne ↦ rw (told_other call j e ne, told_other answer j e ne) refl
    ] in
    omega arith

-- a run of some calls and then of others
pub run_split : {sli : ℕ} (h last : HeapState) (cs ds : List heap.Call) (xs ys : List heap.Answer) → length cs ≡ length xs → RunsTo sli h (cs ++ ds) (xs ++ ys) last
    → RunsTo sli h cs xs (heap.run sli h cs).1 × RunsTo sli (heap.run sli h cs).1 ds ys last
run_split {sli} h last cs ds xs ys even run =
    let more = run_more sli h cs ds in
    let first = map handed_on (heap.run sli h cs).0 in
    let rest = map handed_on (heap.run sli (heap.run sli h cs).1 ds).0 in
    let told : first ++ rest ≡ xs ++ ys
    = sym (ap (λ x. map handed_on x.0) more ∙ map-append handed_on (heap.run sli h cs).0 (heap.run sli (heap.run sli h cs).1 ds).0) ∙ run.told in
    let len : length first ≡ length xs = length-map (heap.run sli h cs).0 handed_on ∙ (length_run sli h cs ∙ even) in (
      record { told = sym (take-append_seam first rest) ∙ (ap (take (length first)) told ∙ (ap (λ n. take n (xs ++ ys)) len ∙ take-append_seam xs ys)); left = refl },
      record {
        told = sym (drop-append_seam first rest) ∙ (ap (drop (length first)) told ∙ (ap (λ n. drop n (xs ++ ys)) len ∙ drop-append_seam xs ys));
        left = sym (ap (λ x. x.1) more) ∙ run.left;
      },
    )

-- where all entries are told by a run, some of them leave a lawful heap, after which the others are told
pub runs_through : {sli : ℕ} (made : List (Option Name)) (workers j : ℕ) (h last : HeapState) (before later : List Entry) → j < workers → IsLevel sli → IsLawful h → All (HasItsAnswer made workers) (before ++ later)
    → RunsTo sli h (calls_on j made (before ++ later)) (answers_on j (before ++ later)) last → RunsThrough sli h j made before later last
runs_through {sli} made workers j h last before later j_in level lawful each run =
    let front : All (HasItsAnswer made workers) before
    = subst (All (HasItsAnswer made workers)) (take-append_seam before later) (All-take (HasItsAnswer made workers) (length before) (before ++ later) each) in
    let calls = told_then (λ e. call_on_own made e.worker e.call e.reply) j before later in
    let answers = told_then (λ e. answer_told e.call e.reply) j before later in
    let both = run_split h last (calls_on j made before) (calls_on j made later) (answers_on j before) (answers_on j later)
    (as_many made workers j before j_in front) (rw (calls, answers) at run) in
    record { between = (heap.run sli h (calls_on j made before)).1; first = both.0; lawful = lawful_run sli level h (calls_on j made before) lawful; rest = both.1 }

pub replies_always : {sli : ℕ} (w : World sli) (es : List Event) (before later : List Entry) (j : ℕ) → AreLawful w → j < length w.heaps → (replies w es).entries ≡ before ++ later
    → RunsThrough sli (heap_in w j) j (replies w es).made before later (heap_in (replies w es).world j)
replies_always {sli} w es before later j lawful j_in whole =
    let made = (replies w es).made in
    let last = heap_in (replies w es).world j in
    let history = (replies_tell w es).history in
    runs_through made (length w.heaps) j (heap_in w j) last before later j_in lawful.0 (lawful.1 j j_in)
    (subst (All (HasItsAnswer made (length w.heaps))) whole history.each)
    (subst (λ l. RunsTo sli (heap_in w j) (calls_on j made l) (answers_on j l) last) whole (history.heaps j j_in))
