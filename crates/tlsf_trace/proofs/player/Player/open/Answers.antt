use Rattle.tlsf_trace.proofs.Common.{◌≡◌, ℕ, length, sym, ap, ◌∙◌, arith, length-map-range_with_len, Replayed, World, opened, yard_of}
use Rattle.tlsf_crew.proofs.lemmas.lanes.LaneChanges.{heaps_count}
use Rattle.tlsf_trace.proofs.Onward.{begins, none_ran}
use Rattle.tlsf_trace.proofs.player.Player.open.Goals as goal

pub returns-clause-count : goal.returns-clause-count
returns-clause-count g c =
    let header = c.args.script.now.header in
    let count : length c.in-Ok.workers.items ≡ header.workers =
    sym (heaps_count c.in-Ok.workers.items) ∙ (ap (λ (w : World g.row.SLI). length w.heaps) c.in-Ok.ensures.world
    ∙ length-map-range_with_len (λ (j : ℕ). opened j header.words 0) 0 header.workers) in
    omega (arith, count)

pub returns-clause-stands : goal.returns-clause-stands
returns-clause-stands g c = λ trace is.
    let new = begins {sli = g.row.SLI} trace in
    record {
      world = c.in-Ok.ensures.world ∙ (ap yard_of is.header ∙ sym (ap (λ (r : Replayed g.row.SLI). r.world) new));
      made = c.new.ensures.items ∙ sym (ap (λ (r : Replayed g.row.SLI). r.made) new);
      ran = none_ran trace;
    }
