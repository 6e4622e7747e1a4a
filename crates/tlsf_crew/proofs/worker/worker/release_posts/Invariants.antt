use Rattle.tlsf_crew.proofs.Common.{◌≡◌, ◌-◌, ◌*◌, List, length, map, take, Took, WorksWithin, IsCountOf, post_of, EachReleased, KeepsRoom, MayTake}
use Rattle.tlsf_crew.proofs.worker.worker.release_posts.Given as goal

abbrev pub invariant-loop-post : goal.invariant-loop-post
invariant-loop-post g l = record {
  notes : KeepsRoom g.N.Notes.has_room g.N.Notes.most l.fn.notes l.notes;
  may : MayTake g.N.Notes.admitted g.N.Notes.noted l.notes l.source (length l.posts - l.post-index);
  ports : l.worker.ports ≡ l.fn.worker.ports;
  released : (tooks : List Took) × EachReleased g.P.Ports.sent_by g.N.Notes.noted l.fn.worker l.worker l.fn.notes l.notes l.source tooks
      × (map post_of tooks ≡ take l.post-index l.posts) × IsCountOf (record { taken = l.post-index; freed = l.freed }) tooks;
  within : WorksWithin g.P.Ports.extents (64 * l.post-index) l.fn.worker l.worker;
}
