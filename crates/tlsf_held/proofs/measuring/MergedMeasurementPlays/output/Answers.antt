use Rattle.std.proofs.Common.{arith}
use Rattle.tlsf_held.proofs.Measured.{merged_told, run_told}
use Rattle.tlsf_held.proofs.measuring.MergedMeasurementPlays.output.Goals as goal

pub returns : goal.returns
returns g c = λ trace level is.
    let plays = c.in_ok-entries.ensures.plays 0 trace is (c.in_ok-player.ensures.stands trace is) in
    merged_told trace g.row.SLI c.args.self.now.heaps c.args.script.now.header c.in_ok-entries.entries.items c.step_to.new.self.made.items _
    level is.header (run_told trace c.args.script.now c.step_to.new.self c.in_ok-entries.entries.items _ level is (omega (arith, c.requires.lines)) plays)
    (rw (c.deref.ensures.value, c.deref-2.ensures.value, c.new-text.ensures.bytes) at c.in_ok-write_merged_lines.ensures)
