use Rattle.tlsf_picture.proofs.Common.{◌≡◌, length, drop, ap, ◌∙◌, arith, take_at, world_of, World, heap_in, report_of}
use Rattle.tlsf_picture.proofs.Lines.{point_is}
use Rattle.tlsf_trace.proofs.Onward.{plays_on}
use Rattle.tlsf_picture.proofs.plots.points.next_point.Goals as goal

pub returns-clause-stands : goal.returns-clause-stands
returns-clause-stands g c = λ trace is stands.
    let plays = plays_on (omega arith) (c.in_ok-entries.ensures.plays c.args.number trace is stands) in
    let here = c.step_to.new.self.workers in
    let vs = c.report_on.new.workers in
    let len : length vs ≡ here.len = omega arith in
    let back = take_at vs (drop (length vs) here.items) here.len len in
    record {
      world = ap world_of back ∙ ((rw c.deref_mut.ensures.value at c.report_on.ensures.shows.world) ∙ plays.stands.world);
      made = plays.stands.made;
      ran = plays.stands.ran;
    }

pub returns-clause-point : goal.returns-clause-point
returns-clause-point g c = λ trace is stands.
    let plays = plays_on (omega arith) (c.in_ok-entries.ensures.plays c.args.number trace is stands) in
    point_is g.row.SLI c.args.heap c.args.number c.asked_by-asked.result trace c.args.script.now.requests.items c.in_ok-entries.entries.items c.report_on.result c.of.result
    plays.told is.requests (rw c.deref.ensures.value at c.asked_by-asked.ensures)
    ((rw c.deref_mut.ensures.value at c.report_on.ensures.report) ∙ ap (λ (w : World g.row.SLI). report_of g.row.SLI (heap_in w c.args.heap)) plays.stands.world)
    (rw (c.has_refusal-refused.ensures, c.deref-2.ensures.value) at c.of.ensures)
