-- The meaning of the text of a raced trace.
use Rattle.tlsf_trace.proofs.Common.{◌≡◌, ◌≢◌, ◌∷◌, ◌++◌, ◌<◌, [], ℕ, List, Option, length, map, refl, sym, ap, ◌∙◌, arith, subst, append_assoc, length-append, get_or-map-range_with_len, length-map-range_with_len, All, HeapState, opened, Name, Call, Entry, World, heap_in, no_heap, known_below, none_known, phases_of, script_in, scripts_in, records_text, Trace, Line, level_in, yard_of, IsOutputBy, IsQueueRaceOutput, IsRaceOutput, IsRaceText, RaceRelation, report_text}
use Rattle.std.proofs.Math.Seq.{take-append_seam}
use Rattle.std.proofs.lemmas.Grind.{flat_map-append}
use Rattle.std.proofs.lemmas.List.Elements.{All-append, All-cons, All-head, All-nil, All-tail, All-take}
use Rattle.tlsf_class.specs.Classes.{IsLevel}
use Rattle.tlsf_heap.specs.Calls as heap
use Rattle.tlsf_heap.specs.Lawful.{IsLawful}
use Rattle.tlsf_heap.proofs.lemmas.blocks.Lawful.{opened_lawful}
use Rattle.tlsf_heap.proofs.lemmas.calls.Outcomes.{lawful_run}
use Rattle.tlsf_calls.specs.Entries.{record_of}
use Rattle.tlsf_crew.specs.races.QueueRace.{IsQueueRace}
use Rattle.tlsf_crew.specs.races.Race.{IsRace}
use Rattle.tlsf_crew.specs.scripts.Scripts.{last_call, script_of}
use Rattle.tlsf_crew.specs.histories.History.{RunsTo, answer_told, answers_on, call_on_own, calls_on, posts_made, posts_taken}
use Rattle.tlsf_crew.proofs.lemmas.race_laws.QueueRecords.{queue_race_answered, queue_race_posts, queue_race_runs, queue_race_tells}
use Rattle.tlsf_crew.proofs.lemmas.race_laws.RecordHistory.{race_answered, race_posts, race_runs, race_tells}
use Rattle.tlsf_crew.proofs.lemmas.histories.Fronts.{as_many, run_split}
use Rattle.tlsf_crew.proofs.lemmas.histories.JoinedEntries.{HasItsAnswer, runs_then, told_then}
use Rattle.tlsf_lines.specs.Versions.{level_of}
use Rattle.tlsf_lines.specs.declared.header.Header.{Header}
use Rattle.tlsf_lines.specs.declared.version.Version.{Version}
use Rattle.tlsf_lines.specs.declared.version.Version.TheVariants.{One, Two}
use Rattle.tlsf_trace.specs.RaceHistory.{ArePhasesTold, HasHistory, IsPhaseTold, LeadsThrough, LeadsTo, PhaseTold, RecordRelation, TellsOverLanes, TellsOverQueues, ToldEntry, answers_in_history, calls_in_history, history_of, phases_text}

-- ---- one race

-- what the records of a race tell
record OneRaceTold {sli : ℕ} (TellsCalls : RecordRelation) (w : World sli) (scripts : List (List Call)) (records : List (List Entry)) (v : World sli) : Type 0 where
  made : ℕ → List (Option Name)
  count : length v.heaps ≡ length w.heaps
  told : (j : ℕ) → j < length w.heaps → TellsCalls (length w.heaps) j (script_of scripts j ++ last_call ∷ []) (made j) (record_of records j)
  posts : (i j : ℕ) → i < length w.heaps → j < length w.heaps → i ≢ j → w.waiting i j ++ posts_made i j (made i) (record_of records i) ≡ posts_taken i j (record_of records j)
  taken : (i j : ℕ) → v.waiting i j ≡ []
  runs : (j : ℕ) → j < length w.heaps → RunsTo sli (heap_in w j) (calls_on j (made j) (record_of records j)) (answers_on j (record_of records j)) (heap_in v j)
  answered : (j : ℕ) → j < length w.heaps → All (HasItsAnswer (made j) (length w.heaps)) (record_of records j)

abbrev AllRacesTold : {sli : ℕ} → RecordRelation → RaceRelation sli → Type 0
AllRacesTold {sli} TellsCalls Races = (w v : World sli) (scripts : List (List Call)) (records : List (List Entry)) → Races w scripts records v → OneRaceTold TellsCalls w scripts records v

lanes_tell : {sli : ℕ} → AllRacesTold {sli = sli} TellsOverLanes IsRace
lanes_tell w v scripts records race = record {
  made = race.made;
  count = race.heaps;
  told = race_tells w v scripts records race;
  posts = race_posts w v scripts records race;
  taken = race.taken;
  runs = race_runs w v scripts records race;
  answered = race_answered w v scripts records race;
}

queues_tell : {sli : ℕ} → AllRacesTold {sli = sli} TellsOverQueues IsQueueRace
queues_tell w v scripts records race = record {
  made = race.made;
  count = race.heaps;
  told = queue_race_tells w v scripts records race;
  posts = queue_race_posts w v scripts records race;
  taken = race.taken;
  runs = queue_race_runs w v scripts records race;
  answered = queue_race_answered w v scripts records race;
}

-- ---- one phase

-- the scripts of a phase are those of its workers
script_at : (n : ℕ) (known : ℕ → Option Name) (lines : List Line) (j : ℕ) → j < n → script_of (scripts_in n known lines) j ≡ script_in known lines j
script_at n known lines j j_in = get_or-map-range_with_len (script_in known lines) 0 n j j [] j_in (omega arith)

-- a world between two phases: this many heaps, and nothing waits
record IsBetween {sli : ℕ} (n : ℕ) (w : World sli) : Type 0 where
  count : length w.heaps ≡ n
  none : (i j : ℕ) → w.waiting i j ≡ []

phase_told : {sli : ℕ} {TellsCalls : RecordRelation} {w v : World sli} {records : List (List Entry)} (n : ℕ) (known : ℕ → Option Name) (lines : List Line) → IsBetween n w
    → (one : OneRaceTold TellsCalls w (scripts_in n known lines) records v) → IsPhaseTold TellsCalls n known lines (record { made = one.made; records = records })
phase_told {TellsCalls = TellsCalls} {records = records} n known lines between one = record {
  told = λ j j_in.
      let all = subst (λ (k : ℕ). TellsCalls k j (script_of (scripts_in n known lines) j ++ last_call ∷ []) (one.made j) (record_of records j)) between.count (one.told j (omega (arith, between.count))) in
      subst (λ (calls : List Call). TellsCalls n j (calls ++ last_call ∷ []) (one.made j) (record_of records j)) (script_at n known lines j j_in) all;
  posts = λ i j i_in j_in ne. subst (λ l. l ++ posts_made i j (one.made i) (record_of records i) ≡ posts_taken i j (record_of records j)) (between.none i j)
      (one.posts i j (omega (arith, between.count)) (omega (arith, between.count)) ne);
}

-- ---- a history

-- this many calls on heap j are told as answers of it
abbrev HasAnswers : ℕ → ToldEntry → Type 0
HasAnswers j x = length (calls_on j x.made (x.entry ∷ [])) ≡ length (answers_on j (x.entry ∷ []))

-- a record, with the names that its calls made
abbrev in_history : List (Option Name) → List Entry → List ToldEntry
in_history made entries = map (λ e. record { made = made; entry = e }) entries

record_calls : (j : ℕ) (made : List (Option Name)) (entries : List Entry) → calls_in_history j (in_history made entries) ≡ calls_on j made entries
record_calls j made [] = refl
record_calls j made (e ∷ es) = ap (λ l. calls_on j made (e ∷ []) ++ l) (record_calls j made es) ∙ sym (told_then (λ e. call_on_own made e.worker e.call e.reply) j (e ∷ []) es)

record_answers : (j : ℕ) (made : List (Option Name)) (entries : List Entry) → answers_in_history j (in_history made entries) ≡ answers_on j entries
record_answers j made [] = refl
record_answers j made (e ∷ es) = ap (λ l. answers_on j (e ∷ []) ++ l) (record_answers j made es) ∙ sym (told_then (λ e. answer_told e.call e.reply) j (e ∷ []) es)

record_answered : (j n : ℕ) (made : List (Option Name)) (entries : List Entry) → j < n → All (HasItsAnswer made n) entries → All (HasAnswers j) (in_history made entries)
record_answered j n made [] j_in each = All-nil (HasAnswers j)
record_answered j n made (e ∷ es) j_in each =
    let one = All-cons (HasItsAnswer made n) e [] (All-head (HasItsAnswer made n) e es each) (All-nil (HasItsAnswer made n)) in
    All-cons (HasAnswers j) (record { made = made; entry = e }) (in_history made es) (as_many made n j (e ∷ []) j_in one) (record_answered j n made es j_in (All-tail (HasItsAnswer made n) e es each))

even : (j : ℕ) (history : List ToldEntry) → All (HasAnswers j) history → length (calls_in_history j history) ≡ length (answers_in_history j history)
even j [] each = refl
even j (x ∷ xs) each =
    let one = All-head (HasAnswers j) x xs each in
    let rest = even j xs (All-tail (HasAnswers j) x xs each) in
    let calls = length-append (calls_on j x.made (x.entry ∷ [])) (calls_in_history j xs) in
    let answers = length-append (answers_on j (x.entry ∷ [])) (answers_in_history j xs) in
    omega arith

leads_then : {sli : ℕ} (j : ℕ) (h g k : HeapState) (xs ys : List ToldEntry) → LeadsTo sli j h xs g → LeadsTo sli j g ys k → LeadsTo sli j h (xs ++ ys) k
leads_then j h g k xs ys a b =
    let calls = flat_map-append (λ (x : ToldEntry). calls_on j x.made (x.entry ∷ [])) xs ys in
    let answers = flat_map-append (λ (x : ToldEntry). answers_on j (x.entry ∷ [])) xs ys in
    rw (calls, answers) (runs_then h g k (calls_in_history j xs) (calls_in_history j ys) (answers_in_history j xs) (answers_in_history j ys) a b)

-- after some of a history that starts in a lawful heap
leads_through : {sli : ℕ} (j : ℕ) (h last : HeapState) (before later : List ToldEntry) → IsLevel sli → IsLawful h → All (HasAnswers j) (before ++ later) → LeadsTo sli j h (before ++ later) last
    → LeadsThrough sli j h before later last
leads_through {sli} j h last before later level lawful each leads =
    let front : All (HasAnswers j) before = subst (All (HasAnswers j)) (take-append_seam before later) (All-take (HasAnswers j) (length before) (before ++ later) each) in
    let calls = flat_map-append (λ (x : ToldEntry). calls_on j x.made (x.entry ∷ [])) before later in
    let answers = flat_map-append (λ (x : ToldEntry). answers_on j (x.entry ∷ [])) before later in
    let both = run_split h last (calls_in_history j before) (calls_in_history j later) (answers_in_history j before) (answers_in_history j later) (even j before front) (rw (calls, answers) at leads) in
    record { between = (heap.run sli h (calls_in_history j before)).1; first = both.0; lawful = lawful_run sli level h (calls_in_history j before) lawful; rest = both.1 }

-- ---- phase after phase

-- what the text of some phases tells, from a world on
record PhasesTell {sli : ℕ} (TellsCalls : RecordRelation) (n : ℕ) (w : World sli) (known : ℕ → Option Name) (phases : List (List Line)) (text : List ℕ) : Type 0 where
  told : List PhaseTold
  world : World sli
  count : length world.heaps ≡ n
  text_is : text ≡ phases_text n phases told ++ report_text sli world.heaps
  phases_told : ArePhasesTold TellsCalls n known phases told
  heaps : (j : ℕ) → j < n → LeadsTo sli j (heap_in w j) (history_of j told) (heap_in world j)
  answered : (j : ℕ) → j < n → All (HasAnswers j) (history_of j told)

phases_tell : {sli : ℕ} {TellsCalls : RecordRelation} {Races : RaceRelation sli} → AllRacesTold TellsCalls Races → (n : ℕ) (phases : List (List Line)) (w : World sli) (known : ℕ → Option Name) (text : List ℕ)
    → IsBetween n w → IsRaceText Races n w known phases text → PhasesTell TellsCalls n w known phases text
phases_tell tell n [] w known text between is = record {
  told = [];
  world = w;
  count = between.count;
  text_is = is;
  phases_told = tt;
  heaps = λ j j_in. record { told = refl; left = refl };
  answered = λ j j_in. All-nil (HasAnswers j);
}
phases_tell {sli} {Races = Races} tell n (phase ∷ phases) w known text between (records, v, tail, race, text_is, more) =
    let count = between.count in
    let one = tell w v (scripts_in n known phase) records race in
    let rest = phases_tell {Races = Races} tell n phases v (known_below known phase records n) tail (record { count = one.count ∙ count; none = one.taken }) more in
    record {
      told = record { made = one.made; records = records } ∷ rest.told;
      world = rest.world;
      count = rest.count;
      text_is = text_is ∙ (ap (λ t. records_text phase records n ++ t) rest.text_is
          ∙ sym (append_assoc (records_text phase records n) (phases_text n phases rest.told) (report_text sli rest.world.heaps)));
      phases_told = (phase_told n known phase between one, rest.phases_told);
      heaps = λ j j_in.
          let first : LeadsTo sli j (heap_in w j) (in_history (one.made j) (record_of records j)) (heap_in v j)
          = rw (record_calls j (one.made j) (record_of records j), record_answers j (one.made j) (record_of records j)) (one.runs j (omega (arith, count))) in
          leads_then j (heap_in w j) (heap_in v j) (heap_in rest.world j) (in_history (one.made j) (record_of records j)) (history_of j rest.told) first (rest.heaps j j_in);
      answered = λ j j_in.
          let each : All (HasItsAnswer (one.made j) n) (record_of records j)
          = subst (λ (k : ℕ). All (HasItsAnswer (one.made j) k) (record_of records j)) count (one.answered j (omega (arith, count))) in
          All-append (HasAnswers j) (in_history (one.made j) (record_of records j)) (history_of j rest.told) (record_answered j n (one.made j) (record_of records j) j_in each) (rest.answered j j_in);
    }

-- ---- a trace

level_is : (version : Version) → IsLevel (level_of version)
level_is One = record { least = omega arith; most = omega arith }
level_is Two = record { least = omega arith; most = omega arith }

-- the heaps of a new yard
yard_heap : (sli : ℕ) (header : Header) (j : ℕ) → j < header.workers → heap_in (yard_of {sli = sli} header) j ≡ opened j header.words 0
yard_heap sli header j j_in = get_or-map-range_with_len (λ j. opened j header.words 0) 0 header.workers j j no_heap j_in (omega arith)

yard_count : (sli : ℕ) (header : Header) → length (yard_of {sli = sli} header).heaps ≡ header.workers
yard_count sli header = length-map-range_with_len (λ j. opened j header.words 0) 0 header.workers

output_told : (TellsCalls : RecordRelation) (trace : Trace) (Races : RaceRelation (level_in trace.header)) → AllRacesTold TellsCalls Races → (text : List ℕ) → IsOutputBy Races trace text → HasHistory TellsCalls trace text
output_told TellsCalls trace Races tell text is =
    let w = yard_of {sli = level_in trace.header} trace.header in
    let all = phases_tell {Races = Races} tell trace.header.workers (phases_of trace.lines) w none_known text (record { count = yard_count (level_in trace.header) trace.header; none = λ i j. refl }) is in
    let heaps = λ (j : ℕ) (j_in : j < trace.header.workers). subst (λ (h : HeapState). LeadsTo (level_in trace.header) j h (history_of j all.told) (heap_in all.world j)) (yard_heap (level_in trace.header) trace.header j j_in) (all.heaps j j_in) in
    record {
      told = all.told;
      world = all.world;
      count = all.count;
      text_is = all.text_is;
      phases = all.phases_told;
      heaps = heaps;
      lawful = λ in_range j j_in before later whole.
          leads_through j (opened j trace.header.words 0) (heap_in all.world j) before later (level_is trace.header.version) (opened_lawful j trace.header.words 0 in_range.words.0)
          (subst (All (HasAnswers j)) whole (all.answered j j_in))
          (subst (λ l. LeadsTo (level_in trace.header) j (opened j trace.header.words 0) l (heap_in all.world j)) whole (heaps j j_in));
    }

pub race_told : (trace : Trace) (text : List ℕ) → IsRaceOutput trace text → HasHistory TellsOverLanes trace text
race_told trace text is = output_told TellsOverLanes trace IsRace lanes_tell text is

pub queue_race_told : (trace : Trace) (text : List ℕ) → IsQueueRaceOutput trace text → HasHistory TellsOverQueues trace text
queue_race_told trace text is = output_told TellsOverQueues trace IsQueueRace queues_tell text is
