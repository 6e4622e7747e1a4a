use Rattle.tlsf_crew.proofs.Common.{◌*◌, ◌≤◌, List, Took, WorksWithin, IsCountOf, EachNoted, KeepsRoom}
use Rattle.tlsf_crew.proofs.worker.worker.drain_each.Given as goal

abbrev pub invariant-loop-source : goal.invariant-loop-source
invariant-loop-source g l = record {
  notes : KeepsRoom g.N.Notes.has_room g.N.Notes.most l.fn.notes l.notes;
  each : (tooks : List Took) × EachNoted (record { hears = g.P.Ports.hears; takes = g.P.Exchange.takes; stops = g.P.Exchange.stops; sent_by = g.P.Ports.sent_by; admitted = g.N.Notes.admitted; noted = g.N.Notes.noted }) l.fn.worker l.worker l.fn.notes l.notes l.most l.source tooks × IsCountOf l.drained tooks;
  few : l.drained.taken ≤ l.most;
  within : WorksWithin g.P.Ports.extents (64 * l.drained.taken) l.fn.worker l.worker;
}
