-- The least heaps that serve a trace, as replays find them.
use Rattle.std.specs.Prelude.{◌≡◌, ℕ, ◌+◌, ◌-◌, ◌<◌, ◌≤◌, Bool, false, true, ◌&&◌, ◌==◌, List, [], ◌∷◌, ◌++◌, Option, Some, None, Result, codes, count_by, get_or, length, vec_len}
use Rattle.std.specs.Fmt.{decimal}
use Rattle.std.specs.Option.{unwrap_or}
use Rattle.tlsf_class.specs.Classes.{IsLevel}
use Rattle.tlsf_heap.specs.declared.refusal.Refusal.TheVariants.{NoFit, NoRoom}
use Rattle.tlsf_calls.specs.declared.crew_refusal.CrewRefusal.TheVariants.{Heap}
use Rattle.tlsf_calls.specs.declared.entry.Entry.{Entry}
use Rattle.tlsf_calls.specs.declared.reply.Reply.{Reply}
use Rattle.tlsf_calls.specs.declared.reply.Reply.TheVariants.{Refused}
use Rattle.tlsf_held.specs.HeldLines.{held_region, words_text}
use Rattle.tlsf_held.specs.Measures.{AreBoundsOf, IsMostWantedOf}
use Rattle.tlsf_held.specs.declared.least_row.LeastRow.{LeastRow}
use Rattle.tlsf_lines.specs.Ranges.{IsHeaderInRange}
use Rattle.tlsf_lines.specs.ScriptSoFar.{IsScript}
use Rattle.tlsf_lines.specs.Trace.{Trace}
use Rattle.tlsf_lines.specs.Versions.{level_of, most_words_of}
use Rattle.tlsf_lines.specs.declared.script.Script.{Script}
use Rattle.tlsf_lines.specs.declared.trace_fault.TraceFault.{TraceFault}
use Rattle.tlsf_trace.specs.Output.{level_in, run_of}
use Rattle.tlsf_trace.specs.Replay.{IsRun}
use Rattle.tlsf_trace.specs.declared.summary.Summary.{Summary}

-- ---- what has no room

-- the heap had no room for a block, or for a longer one in its place
abbrev pub lacks_room : Reply → Bool
lacks_room (Refused (Heap NoFit)) = true
lacks_room (Refused (Heap NoRoom)) = true
lacks_room _ = false

-- how many requests of a worker found no room
abbrev pub unserved : ℕ → List Entry → ℕ
unserved j entries = count_by (λ e. (e.worker == j) && lacks_room e.reply) entries

-- the same trace with heaps of this many words
abbrev pub with_words : ℕ → Trace → Trace
with_words words trace = record trace { header = record trace.header { words = words } }

-- how many requests of worker j find no room in heaps of this many words
abbrev pub unserved_in : ℕ → Trace → ℕ → ℕ
unserved_in words trace j = unserved j (run_of (with_words words trace)).entries

-- ---- the least words

-- heaps of these words serve all requests of worker j, and with one word less they don't, unless none has less. None: the largest ones
-- don't
abbrev pub AreLeastWords : Trace → ℕ → Option ℕ → Type 0
AreLeastWords trace j (Some words) = (4 ≤ words) × (words ≤ most_words_of trace.header.version)
    × (unserved_in words trace j ≡ 0) × (4 < words → 0 < unserved_in (words - 1) trace j)
AreLeastWords trace j None = 0 < unserved_in (most_words_of trace.header.version) trace j

-- the trace with heaps of these words, or of the most
abbrev pub with_least : Option ℕ → Trace → Trace
with_least words trace = with_words (unwrap_or words (most_words_of trace.header.version)) trace

-- the least words for worker j. Also its needs of its heap there: the words of the law and those that its blocks want at once
pub record IsLeastRow (trace : Trace) (j : ℕ) (row : LeastRow) : Type 0 where
  pub least : AreLeastWords trace j row.words
  pub most : ℕ
  pub len : ℕ
  pub bounds : AreBoundsOf (with_least row.words trace) j most len
  pub law_is : row.law ≡ held_region (level_in trace.header) most len
  pub words_wanted : IsMostWantedOf (with_least row.words trace) j row.wanted

-- ---- the lines

-- least J words W wanted L law M
abbrev pub least_line : ℕ → LeastRow → List ℕ
least_line j row =
    codes "least " ++ decimal j ++ codes " words " ++ words_text row.words ++ codes " wanted " ++ decimal row.wanted
    ++ codes " law " ++ words_text row.law ++ codes "\n"

-- those of the workers from a number on
abbrev pub least_text : ℕ → List LeastRow → List ℕ
least_text j [] = []
least_text j (row ∷ rows) = least_line j row ++ least_text (j + 1) rows

-- what stands for the row of a worker that isn't there
abbrev pub no_least : LeastRow
no_least = record { words = None; wanted = 0; law = None }

-- the rows of the workers below a number
pub record AreLeastRows (trace : Trace) (count : ℕ) (rows : List LeastRow) : Type 0 where
  pub many : length rows ≡ count
  pub each : (j : ℕ) → j < count → IsLeastRow trace j (get_or rows j no_least)

-- the text has a line for each worker, in rising number
pub record TellsLeast (trace : Trace) (text : List ℕ) : Type 0 where
  pub rows : List LeastRow
  pub are : AreLeastRows trace trace.header.workers rows
  pub written : text ≡ least_text 0 rows

-- a run of a trace that puts out the least words of its heaps
abbrev pub IsLeastMeasurement : Result Summary TraceFault → Option (List ℕ) → Option (List ℕ) → Option (List ℕ) → Option (List ℕ) → Type 0
IsLeastMeasurement = IsRun TellsLeast

-- ---- the search

-- a script of this level, to be replayed
pub record IsReady (sli : ℕ) (script : Script) : Type 0 where
  pub known : IsLevel sli
  pub level : level_of script.header.version ≡ sli
  pub header : IsHeaderInRange script.header
  pub lines : vec_len script.ends ≤ 32768

-- the script of a trace but for the words of its heaps
abbrev pub IsScriptBut : Script → Trace → Type 0
IsScriptBut script trace = IsScript script (with_words script.header.words trace)

-- a search has changed no more of a script than the words of its header, and it may be replayed again
pub record KeepsScript (sli : ℕ) (old new : Script) : Type 0 where
  pub version : new.header.version ≡ old.header.version
  pub workers : new.header.workers ≡ old.header.workers
  pub ready : IsReady sli new
  pub kept : (trace : Trace) → IsScriptBut old trace → IsScriptBut new trace

-- the findings of replays: `served` words serve worker j, unless no heap has that many, and `refused` words don't, unless no heap
-- has so few
abbrev pub IsBracket : Trace → ℕ → (refused served : ℕ) → Type 0
IsBracket trace j refused served = (served ≤ most_words_of trace.header.version → unserved_in served trace j ≡ 0)
    × (4 ≤ refused → 0 < unserved_in refused trace j)
