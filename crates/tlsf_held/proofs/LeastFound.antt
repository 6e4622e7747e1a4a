-- The least words of heaps, found by replays.
use Rattle.tlsf_held.proofs.Common.{IsRunOf, ◌≡◌, ℕ, ◌<◌, ◌≤◌, List, Option, Some, None, IfSome, ap, ap₂, ◌∙◌, subst, sym, arith, lit≤, length-map-range_with_len, Name, Entry, held_region, with_least, with_words, AreLeastWords, IsScriptBut, account_of, IsMostWantedOf, tally_of, events_of, Trace, most_words_of, Header, level_in, run_of, yard_of}
use Rattle.std.specs.Option.{unwrap_or}
use Rattle.tlsf_heap.specs.Calls as heap
use Rattle.tlsf_held.specs.Least.{IsLeastRow}
use Rattle.tlsf_lines.specs.ScriptSoFar.{IsScript}
use Rattle.tlsf_lines.specs.declared.script.Script.{Script}
use Rattle.tlsf_lines.specs.declared.version.Version.{Version}
use Rattle.tlsf_lines.specs.declared.version.Version.TheVariants.{One, Two}
use Rattle.tlsf_held.proofs.LeastBounds.{tally_bounds}
use Rattle.tlsf_held.proofs.MostWanted.{account_bounds}

-- a script with other words is that of the trace with these
pub with_other : (script : Script) (trace : Trace) (words : ℕ) → IsScriptBut script trace
    → IsScript (record script { header = record script.header { words = words } }) (with_words words trace)
with_other script trace words is = record {
  header = ap (λ (h : Header). record h { words = words }) is.header;
  events = is.events;
  labels = is.labels;
  calls = is.calls;
  ends = is.ends;
  requests = is.requests;
}

-- a level has heaps
some_words : (version : Version) → 4 ≤ most_words_of version
some_words One = lit≤ tt
some_words Two = lit≤ tt

-- the words that were found, or the most
pub words_within : (version : Version) (found : Option ℕ) → IfSome found (λ words. (4 ≤ words) × (words ≤ most_words_of version))
    → (4 ≤ unwrap_or found (most_words_of version)) × (unwrap_or found (most_words_of version) ≤ most_words_of version)
words_within version None within = (some_words version, omega arith)
words_within version (Some words) within = within

-- what a replay with the words that were found tells is the row
pub row_told : (sli : ℕ) (trace : Trace) (j words : ℕ) (made : List (Option Name)) (entries : List Entry) (found law : Option ℕ) (wanted : ℕ)
    → level_in trace.header ≡ sli → j < trace.header.workers → words ≡ unwrap_or found (most_words_of trace.header.version)
    → IsRunOf (with_words words trace) made entries → AreLeastWords trace j found
    → law ≡ held_region sli (tally_of j entries).most (tally_of j entries).longest → wanted ≡ (account_of j made entries).most
    → IsLeastRow trace j (record { words = found; wanted = wanted; law = law })
row_told sli trace j words made entries found law wanted level_is inside words_are is least law_is wanted_is =
    let other = with_least found trace in
    let run = run_of other in
    let level = level_in trace.header in
    let told : IsRunOf other made entries = subst (λ (n : ℕ). IsRunOf (with_words n trace) made entries) words_are is in
    let count = length-map-range_with_len (λ (i : ℕ). heap.opened i other.header.words 0) 0 trace.header.workers in
    record {
      least = least;
      most = (tally_of j run.entries).most;
      len = (tally_of j run.entries).longest;
      bounds = tally_bounds (yard_of {sli = level} other.header) (events_of other) j (omega (arith, count, inside));
      law_is = law_is ∙ ap₂ (λ (n : ℕ) (es : List Entry). held_region n (tally_of j es).most (tally_of j es).longest) (sym level_is) told.1;
      words_wanted = subst (IsMostWantedOf other j)
          (sym (wanted_is ∙ ap₂ (λ (m : List (Option Name)) (es : List Entry). (account_of j m es).most) told.0 told.1))
          (account_bounds (yard_of {sli = level} other.header) (events_of other) j (omega (arith, count, inside)));
    }
