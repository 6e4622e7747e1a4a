use Rattle.tlsf_crew.proofs.Common.{◌-◌, ◌*◌, ◌≤◌, List, Took, WorksWithin, IsCountOf, EachTakeNoted, KeepsRoom}
use Rattle.tlsf_crew.proofs.worker.worker.drain_source.Given as goal

abbrev pub invariant-loop-drained : goal.invariant-loop-drained
invariant-loop-drained g l = record {
  source : g.P.Ports.hears l.worker.ports l.source;
  notes : KeepsRoom g.N.Notes.has_room g.N.Notes.most l.fn.notes l.notes;
  takes : (tooks : List Took) × EachTakeNoted (record { hears = g.P.Ports.hears; takes = g.P.Exchange.takes; stops = g.P.Exchange.stops; sent_by = g.P.Ports.sent_by; admitted = g.N.Notes.admitted; noted = g.N.Notes.noted }) l.fn.worker l.worker l.fn.notes l.notes l.source tooks × IsCountOf l.drained tooks;
  few : l.drained.taken ≤ l.most;
  within : WorksWithin g.P.Ports.extents (64 * l.drained.taken) l.fn.worker l.worker;
}

abbrev pub decreases-loop-drained : goal.decreases-loop-drained
decreases-loop-drained g l = l.most - l.drained.taken
