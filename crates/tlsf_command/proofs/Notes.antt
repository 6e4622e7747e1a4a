-- The notes on a fault.
use Rattle.tlsf_command.proofs.Common.{◌≡◌, ◌∙◌, ℕ, Bool, List, [], Option, Result, Ok, Err, refl, subst, IfErr, IfSome, OnOk, tip_on, ChecksNote, IsNote, TraceRun, Replay, Held, HeldKinds, Least, Race, RaceQueues, Map, MapHtml, MapWorst, Plot, Check}
use Rattle.tlsf_diagnosis.specs.Notes.{Notes}
use Rattle.tlsf_lines.specs.declared.trace_fault.TraceFault.{TraceFault}
use Rattle.tlsf_trace.specs.declared.summary.Summary.{Summary}

-- what a check adds to no note is the note
pub check_notes : (answer : Result Summary TraceFault) (text : Option (List ℕ)) (old new : List ℕ) → old ≡ []
    → IfErr answer (λ fault. IfSome text (λ bytes. Notes bytes fault old new)) → OnOk answer (new ≡ old) → ChecksNote Check text answer new
check_notes (Ok summary) text old new none noted kept = kept ∙ none
check_notes (Err fault) text old new none noted kept = subst (λ (front : List ℕ). IfSome text (λ bytes. Notes bytes fault front new)) none noted

-- a run that isn't a check notes the tip
pub other_note : (tips : Bool) (run : TraceRun) (answer : Result Summary TraceFault) (text : Option (List ℕ)) (note : List ℕ) → (run ≡ Check → ⊥)
    → note ≡ tip_on tips answer → IsNote tips run text answer note
other_note tips Replay answer text note other is = is
other_note tips Held answer text note other is = is
other_note tips HeldKinds answer text note other is = is
other_note tips Least answer text note other is = is
other_note tips Race answer text note other is = is
other_note tips RaceQueues answer text note other is = is
other_note tips (Map form) answer text note other is = is
other_note tips MapHtml answer text note other is = is
other_note tips (MapWorst form) answer text note other is = is
other_note tips (Plot form) answer text note other is = is
other_note tips Check answer text note other is = absurd (other refl)
