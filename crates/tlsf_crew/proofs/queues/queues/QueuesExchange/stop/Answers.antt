use Rattle.tlsf_crew.proofs.Common.{refl, ap, ◌∷◌, poster_extent, extent_of, end_extents}
use Rattle.tlsf_crew.proofs.queues.queues.QueuesExchange.stop.Goals as goal

pub returns : goal.returns
returns g c =
    let a = c.args.self.now in
    let e = c.wait_empty.ensures in
    record {
      stopped = record { same = refl; mailbox = e.mailbox; some = tt; waited = tt; from = tt; none = (e.same, e.empty) };
      stays = ap (λ own. own ∷ extent_of a.posts ∷ end_extents poster_extent a.posts.items) e.stays;
    }
