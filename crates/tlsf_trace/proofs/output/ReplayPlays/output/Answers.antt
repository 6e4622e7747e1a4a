use Rattle.tlsf_trace.proofs.Common.{ℕ, ◌+◌, length, ap, sym, ◌∙◌, arith, Replayed, output_at}
use Rattle.tlsf_trace.proofs.Onward.{ends}
use Rattle.tlsf_trace.proofs.WholeOutput.{heaps_in}
use Rattle.tlsf_trace.proofs.output.ReplayPlays.output.Goals as goal

pub returns : goal.returns
returns g c = λ trace level is.
    let sli = g.row.SLI in
    let player = c.write_run.new.player in
    let new = c.in_ok-player.ensures.stands trace is in
    let text = rw c.in_ok-text.ensures.bytes at c.in_ok-write_run.ensures.text trace is new in
    let stands = c.in_ok-write_run.ensures.stands trace is new in
    let all = ends sli (length trace.lines + 2) trace (omega arith) in
    let world = stands.world ∙ ap (λ (r : Replayed sli). r.world) all in
    let reports = rw c.deref_mut.ensures.value at c.in_ok-write_reports.ensures in
    reports ∙ rw (text, heaps_in player.workers.items _ world) (ap (λ (n : ℕ). output_at n trace) (sym level))
