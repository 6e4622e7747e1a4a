-- The tales of a run's entries are the requests of the trace.
use Rattle.tlsf_held.proofs.Common.{IsRunOf, ◌≡◌, ℕ, ◌+◌, ◌<◌, ◌++◌, List, [], Option, length, vec_len, ap, sym, ◌∙◌, subst, arith, length-map-range_with_len, Name, Entry, Replayed, events_of, Trace, level_of, Header, IsLevel, level_in, run_at, run_of, yard_of, held_text, kinds_text, account_of, Measures, TellsKinds, TellsMerged, AddsMerged, table_of, tally_of}
use Rattle.tlsf_heap.specs.Calls as heap
use Rattle.tlsf_lines.specs.ScriptSoFar.{IsScript}
use Rattle.tlsf_lines.specs.declared.script.Script.{Script}
use Rattle.tlsf_lines.proofs.ScriptSteps.{ends_count}
use Rattle.tlsf_lines.specs.declared.version.Version.{Version}
use Rattle.tlsf_lines.specs.declared.version.Version.TheVariants.{One, Two}
use Rattle.tlsf_class.proofs.TwoLevels.{level_4, level_5}
use Rattle.tlsf_trace.specs.Players.{PlaysOn}
use Rattle.tlsf_trace.specs.declared.player.Player.{Player}
use Rattle.tlsf_trace.proofs.Onward.{ends, nothing_told}
use Rattle.tlsf_held.proofs.LeastBounds.{tally_bounds}
use Rattle.tlsf_held.proofs.MergesTold.{merged_is}
use Rattle.tlsf_held.proofs.MostWanted.{account_bounds}
use Rattle.tlsf_held.proofs.TablesTold.{table_is}

-- a version names a level
pub is_level : (version : Version) → IsLevel (level_of version)
is_level One = level_4
is_level Two = level_5

-- what a player tells and has made after its last line is the trace's run
pub run_told : {sli : ℕ} (trace : Trace) (script : Script) (player : Player sli) (entries : List Entry) (line : ℕ) → level_in trace.header ≡ sli → IsScript script trace
    → vec_len script.ends + 1 < line → PlaysOn 0 line trace player entries → IsRunOf trace player.made.items entries
run_told {sli} trace script player entries line level_is is past plays =
    let many = ap (λ (l : List ℕ). length l) is.ends ∙ ends_count trace.header.workers 0 trace.lines in
    let all = ends sli line trace (omega (arith, many, past)) in
    let none = nothing_told sli trace in
    subst (λ (n : ℕ). (player.made.items ≡ (run_at n trace).made) × (entries ≡ (run_at n trace).entries)) (sym level_is) (
      plays.stands.made ∙ ap (λ (r : Replayed sli). r.made) all,
      sym (ap (λ (es : List Entry). es ++ entries) none) ∙ (sym plays.told ∙ ap (λ (r : Replayed sli). r.entries) all),
    )

-- the lines of a run's tallies are those of the trace
pub tallies_measure : (trace : Trace) (sli : ℕ) (header : Header) (entries : List Entry) (made : List (Option Name)) (text : List ℕ)
    → level_in trace.header ≡ sli → header ≡ trace.header → IsRunOf trace made entries
    → text ≡ held_text sli header.words (λ j. (tally_of j entries).most) (λ j. (tally_of j entries).longest) (λ j. (account_of j made entries).most) header.workers → Measures trace text
tallies_measure trace sli header entries made text level_is header_is is text_is =
    let run = run_of trace in
    let level = level_in trace.header in
    let count = length-map-range_with_len (λ (i : ℕ). heap.opened i trace.header.words 0) 0 trace.header.workers in
    record {
      most = λ j. (tally_of j run.entries).most;
      len = λ j. (tally_of j run.entries).longest;
      wanted = λ j. (account_of j run.made run.entries).most;
      bounds = λ j inside. tally_bounds (yard_of {sli = level} trace.header) (events_of trace) j (omega (arith, count, inside));
      words_wanted = λ j inside. account_bounds (yard_of {sli = level} trace.header) (events_of trace) j (omega (arith, count, inside));
      written = rw (is.0, is.1, header_is, ← level_is) at text_is;
    }

-- and so are those of its tables
pub tables_told : (trace : Trace) (sli : ℕ) (header : Header) (entries : List Entry) (made : List (Option Name)) (text : List ℕ)
    → level_in trace.header ≡ sli → header ≡ trace.header → IsRunOf trace made entries
    → text ≡ kinds_text sli (λ j. table_of sli j made entries) header.workers → TellsKinds trace text
tables_told trace sli header entries made text level_is header_is is text_is =
    let run = run_of trace in
    let level = level_in trace.header in
    let count = length-map-range_with_len (λ (i : ℕ). heap.opened i trace.header.words 0) 0 trace.header.workers in
    record {
      tables = λ j. table_of level j run.made run.entries;
      each = λ j inside. table_is (is_level trace.header.version) (yard_of {sli = level} trace.header) (events_of trace) j (omega (arith, count, inside));
      written = rw (is.0, is.1, header_is, ← level_is) at text_is;
    }

-- and of its tables merged
pub merged_told : (trace : Trace) (sli heaps : ℕ) (header : Header) (entries : List Entry) (made : List (Option Name)) (text : List ℕ)
    → level_in trace.header ≡ sli → header ≡ trace.header → IsRunOf trace made entries
    → AddsMerged sli heaps header.workers made entries [] text → TellsMerged heaps trace text
merged_told trace sli heaps header entries made text level_is header_is is adds =
    let run = run_of trace in
    let level = level_in trace.header in
    let count = length-map-range_with_len (λ (i : ℕ). heap.opened i trace.header.words 0) 0 trace.header.workers in
    let told = rw (is.0, is.1, header_is, ← level_is) at adds in
    record {
      tables = told.tables;
      each = λ j inside. merged_is (is_level trace.header.version) (yard_of {sli = level} trace.header) (events_of trace) j (omega (arith, count, inside)) heaps (told.tables j) (told.each j inside);
      written = told.written;
    }
