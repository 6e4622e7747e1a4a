-- The entries of some calls of a worker, whatever its ports: they tell each call, and the history of its heap.
use Rattle.tlsf_crew.proofs.Common.{[], ◌∷◌, ◌++◌, ◌≡◌, ℕ, ◌<◌, List, Option, All, length, sym, ◌∙◌, ap, arith, refl, subst, append_assoc, append-nil, All-nil, All-append, IsLevel, HeapState, IsLawful, Name, Call, Entry, AreLawful, RunsThrough, RunsTo, answer_told, answers_on, call_on_own, calls_on, AllTold, Progress, untold, World, heap_in, record_of, lawful_run}
use Rattle.tlsf_crew.proofs.lemmas.histories.Fronts.{runs_through}
use Rattle.tlsf_crew.proofs.lemmas.histories.JoinedEntries.{HasItsAnswer, runs_then, told_then}
use Rattle.tlsf_crew.proofs.lemmas.histories.OwnCalls.{Knows}

-- the calls on a worker's heap that some entries tell, run on it, give the answers that they tell
abbrev pub RunsBy : ℕ → List (Option Name) → ℕ → HeapState → List Entry → HeapState → Type 0
RunsBy sli made at h own g = RunsTo sli h (calls_on at made own) (answers_on at own) g

pub runs_by_then : (sli : ℕ) (made : List (Option Name)) (at : ℕ) (h g k : HeapState) (xs ys : List Entry) → RunsBy sli made at h xs g → RunsBy sli made at g ys k → RunsBy sli made at h (xs ++ ys) k
runs_by_then sli made at h g k xs ys a b =
    let c = told_then (λ e. call_on_own made e.worker e.call e.reply) at xs ys in
    let d = told_then (λ e. answer_told e.call e.reply) at xs ys in
    rw (c, d) (runs_then h g k (calls_on at made xs) (calls_on at made ys) (answers_on at xs) (answers_on at ys) a b)

-- ---- what entries tell over ports of some kind

-- how worker `at` of n is told a call more, and what the entries tell of one call, and of several in turn
pub record Account (n at : ℕ) : Type 1 where
  pub may_tell : Progress → Call → Progress → Type 0
  pub one : List (Option Name) → Call → Option Name → List Entry → Type 0
  pub all : List (Option Name) → List Call → List (Option Name) → List Entry → Type 0
  pub none : (made : List (Option Name)) → all made [] [] []
  pub more : (made : List (Option Name)) (call : Call) (calls : List Call) (name : Option Name) (later : List (Option Name)) (own rest : List Entry)
      → one made call name own → all (made ++ name ∷ []) calls later rest → all made (call ∷ calls) (name ∷ later) (own ++ rest)

-- the entries of one call, and the name that it made; `made` has all names of its record
pub record CallTold {n at : ℕ} (by : Account n at) (sli : ℕ) (made : List (Option Name)) (s : Progress) (call : Call) (t : Progress) : Type 0 where
  pub own : List Entry
  pub name : Option Name
  pub entries : t.entries ≡ s.entries ++ own
  pub names : t.made ≡ s.made ++ name ∷ []
  pub tells : by.one s.made call name own
  pub run : RunsBy sli made at s.heap own t.heap
  pub each : All (HasItsAnswer made n) own

-- names that were made stay known, and each call is told so
pub record TellsEach {n at : ℕ} (by : Account n at) (sli : ℕ) : Type 0 where
  pub knows : (s t : Progress) (call : Call) → by.may_tell s call t → Knows t.made s.made
  pub told : (made : List (Option Name)) (s t : Progress) (call : Call) → Knows made s.made → by.may_tell s call t → CallTold by sli made s call t

-- ---- some calls

pub knows_all : (tells : Progress → Call → Progress → Type 0) → ((s t : Progress) (call : Call) → tells s call t → Knows t.made s.made) → (s t : Progress) (calls : List Call) → AllTold tells s calls t → Knows t.made s.made
knows_all tells one s t [] m = rw m (λ target name e. e)
knows_all tells one s t (call ∷ calls) m = λ target name e. knows_all tells one m.0 t calls m.2 target name (one s m.0 call m.1 target name e)

record CallsTold {n at : ℕ} (by : Account n at) (sli : ℕ) (made : List (Option Name)) (s : Progress) (calls : List Call) (t : Progress) : Type 0 where
  own : List Entry
  later : List (Option Name)
  entries : t.entries ≡ s.entries ++ own
  names : t.made ≡ s.made ++ later
  tells : by.all s.made calls later own
  run : RunsBy sli made at s.heap own t.heap
  each : All (HasItsAnswer made n) own

calls_told : {n at : ℕ} (by : Account n at) (sli : ℕ) → TellsEach by sli → (made : List (Option Name)) (s t : Progress) (calls : List Call) → Knows made t.made → AllTold by.may_tell s calls t → CallsTold by sli made s calls t
calls_told {n} {at} by sli one made s t [] known m =
    record {
      own = [];
      later = [];
      entries = ap (λ (t : Progress). t.entries) m ∙ sym (append-nil s.entries);
      names = ap (λ (t : Progress). t.made) m ∙ sym (append-nil s.made);
      tells = by.none s.made;
      run = record { told = refl; left = sym (ap (λ (t : Progress). t.heap) m) };
      each = All-nil (HasItsAnswer made n);
    }
calls_told {n} {at} by sli one made s t (call ∷ calls) known m =
    let u = m.0 in
    let first = one.told made s u call (λ target name e. known target name (knows_all by.may_tell one.knows u t calls m.2 target name (one.knows s u call m.1 target name e))) m.1 in
    let rest = calls_told by sli one made u t calls known m.2 in
    record {
      own = first.own ++ rest.own;
      later = first.name ∷ rest.later;
      entries = rest.entries ∙ (ap (λ l. l ++ rest.own) first.entries ∙ append_assoc s.entries first.own rest.own);
      names = rest.names ∙ (ap (λ l. l ++ rest.later) first.names ∙ append_assoc s.made (first.name ∷ []) rest.later);
      tells = by.more s.made call calls first.name rest.later first.own rest.own first.tells (subst (λ m. by.all m calls rest.later rest.own) first.names rest.tells);
      run = runs_by_then sli made at s.heap u.heap t.heap first.own rest.own first.run rest.run;
      each = All-append (HasItsAnswer made n) first.own rest.own first.each rest.each;
    }

-- ---- a whole record: its names are all that its calls made

pub record RecordTold {n at : ℕ} (by : Account n at) (sli : ℕ) (h : HeapState) (calls : List Call) (end : Progress) : Type 0 where
  pub tells : by.all [] calls end.made end.entries
  pub run : RunsBy sli end.made at h end.entries end.heap
  pub each : All (HasItsAnswer end.made n) end.entries

pub record_told : {n at : ℕ} (by : Account n at) (sli : ℕ) → TellsEach by sli → (h : HeapState) (calls : List Call) (end : Progress) → AllTold by.may_tell (untold h) calls end → RecordTold by sli h calls end
record_told {n} {at} by sli one h calls end m =
    let t = calls_told by sli one end.made (untold h) end calls (λ target name e. e) m in
    let entries : t.own ≡ end.entries = sym t.entries in
    let names : t.later ≡ end.made = sym t.names in
    record {
      tells = subst (λ l. by.all [] calls end.made l) entries (subst (λ m. by.all [] calls m t.own) names t.tells);
      run = subst (λ l. RunsBy sli end.made at h l end.heap) entries t.run;
      each = subst (All (HasItsAnswer end.made n)) entries t.each;
    }

-- after each entry the heap is lawful
pub record_always : {n at : ℕ} (by : Account n at) (sli : ℕ) (h : HeapState) (calls : List Call) (end : Progress) (before later : List Entry) → at < n → IsLevel sli → IsLawful h → RecordTold by sli h calls end → end.entries ≡ before ++ later
    → RunsThrough sli h at end.made before later end.heap
record_always {n} {at} by sli h calls end before later at_in level lawful t whole =
    runs_through end.made n at h end.heap before later at_in level lawful
    (subst (All (HasItsAnswer end.made n)) whole t.each)
    (subst (λ l. RunsBy sli end.made at h l end.heap) whole t.run)

-- so are the heaps that a race leaves
pub race_leaves_lawful : {sli : ℕ} (w v : World sli) (made : ℕ → List (Option Name)) (records : List (List Entry)) → length v.heaps ≡ length w.heaps
    → ((j : ℕ) → j < length w.heaps → RunsBy sli (made j) j (heap_in w j) (record_of records j) (heap_in v j)) → AreLawful w → AreLawful v
race_leaves_lawful {sli} w v made records count runs lawful = (
  lawful.0,
  λ j j_in.
      let k : j < length w.heaps = omega (arith, count) in
      subst IsLawful (runs j k).left (lawful_run sli lawful.0 (heap_in w j) (calls_on j (made j) (record_of records j)) (lawful.1 j k)),
)
