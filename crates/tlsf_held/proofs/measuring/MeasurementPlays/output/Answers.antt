use Rattle.std.proofs.Common.{arith}
use Rattle.tlsf_held.proofs.Measured.{run_told, tallies_measure}
use Rattle.tlsf_held.proofs.measuring.MeasurementPlays.output.Goals as goal

pub returns : goal.returns
returns g c = λ trace level is.
    let plays = c.in_ok-entries.ensures.plays 0 trace is (c.in_ok-player.ensures.stands trace is) in
    tallies_measure trace g.row.SLI c.args.script.now.header c.in_ok-entries.entries.items c.step_to.new.self.made.items _
    level is.header (run_told trace c.args.script.now c.step_to.new.self c.in_ok-entries.entries.items _ level is (omega (arith, c.requires.lines)) plays)
    (rw (c.deref.ensures.value, c.deref-2.ensures.value, c.new-text.ensures.bytes) at c.in_ok-write_held_lines.ensures)
