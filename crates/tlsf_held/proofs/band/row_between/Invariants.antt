use Rattle.tlsf_held.proofs.Common.{◌≡◌, ◌≤◌, drop, no_band, band_after}
use Rattle.tlsf_held.proofs.band.row_between.Given as goal

-- with what is left, the steps so far are all
abbrev pub invariant-loop-step : goal.invariant-loop-step
invariant-loop-step l = record {
  so_far : band_after l.from l.to l.band (drop l.step-index l.steps) ≡ band_after l.from l.to no_band l.steps;
  few : l.band.held ≤ l.step-index;
}
