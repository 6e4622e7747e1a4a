use Rattle.tlsf_command.proofs.Common.{◌≡◌, ◌∙◌, ap, string_bytes, Map}
use Rattle.tlsf_picture.specs.declared.form.Form.{Form}
use Rattle.tlsf_picture.specs.declared.form.Form.TheVariants.{Svg, Text as Characters}
use Rattle.tlsf_command.proofs.Notes.{check_notes}
use Rattle.tlsf_command.proofs.commands.traced.Goals as goal

pub returns-in-Replay : goal.returns-in-Replay
returns-in-Replay g c = rw c.in-Replay.is (record { ran = c.replay.ensures; noted = tt })

pub returns-in-Held : goal.returns-in-Held
returns-in-Held g c = rw c.in-Held.is (record { ran = c.measure_trace.ensures; noted = tt })

pub returns-in-HeldKinds : goal.returns-in-HeldKinds
returns-in-HeldKinds g c = rw c.in-HeldKinds.is (record { ran = c.measure_kinds.ensures; noted = tt })

pub returns-in-Least : goal.returns-in-Least
returns-in-Least g c = rw c.in-Least.is (record { ran = c.measure_least.ensures; noted = tt })

pub returns-in-Race : goal.returns-in-Race
returns-in-Race g c = rw c.in-Race.is (record { ran = c.race_trace.ensures; noted = tt })

pub returns-in-RaceQueues : goal.returns-in-RaceQueues
returns-in-RaceQueues g c = rw c.in-RaceQueues.is (record { ran = c.race_trace_over_queues.ensures; noted = tt })

pub returns-in-Map-Svg : goal.returns-in-Map-Svg
returns-in-Map-Svg g c =
    let form : c.in-Map-Svg.field-0 ≡ Svg = rw c.in-Map-Svg.is at c.in-Map-Svg.field-0-is in
    let asked : c.args.run ≡ Map Svg = c.in-Map-Svg.is ∙ ap (λ (f : Form). Map f) form in
    record { ran = rw asked c.draw_trace.ensures; noted = rw asked tt }

pub returns-in-Map-Text : goal.returns-in-Map-Text
returns-in-Map-Text g c =
    let form : c.in-Map-Text.field-0 ≡ Characters = rw c.in-Map-Text.is at c.in-Map-Text.field-0-is in
    let asked : c.args.run ≡ Map Characters = c.in-Map-Text.is ∙ ap (λ (f : Form). Map f) form in
    record { ran = rw asked c.draw_trace_as_text.ensures; noted = rw asked tt }

pub returns-in-MapHtml : goal.returns-in-MapHtml
returns-in-MapHtml g c = rw c.in-MapHtml.is (record { ran = c.draw_trace_as_page.ensures; noted = tt })

pub returns-in-MapWorst : goal.returns-in-MapWorst
returns-in-MapWorst g c = rw c.in-MapWorst.is (record { ran = c.draw_trace_at_worst.ensures; noted = tt })

pub returns-in-Plot : goal.returns-in-Plot
returns-in-Plot g c = rw c.in-Plot.is (record { ran = c.plot_trace.ensures; noted = tt })

pub returns-in-Check : goal.returns-in-Check
returns-in-Check g c = rw c.in-Check.is (record {
  ran = c.diagnose_trace.ensures.run;
  noted = check_notes c.diagnose_trace.result (g.R.Read.remaining c.args.reader.now) (string_bytes c.args.note.now)
      (string_bytes c.diagnose_trace.new.note) c.requires c.diagnose_trace.ensures.noted c.diagnose_trace.ensures.kept;
})
