use Rattle.tlsf_crew.proofs.Common.{refl, ap, ◌∷◌, poster_extent, extent_of, end_extents}
use Rattle.tlsf_crew.proofs.queues.queues.QueuesExchange.take.Goals as goal

pub returns-clause-took : goal.returns-clause-took
returns-clause-took g c =
    let e = c.take.ensures in
    record { same = refl; mailbox = e.mailbox; some = e.some; waited = e.waited; from = e.from; none = e.none }

pub returns-clause-stays : goal.returns-clause-stays
returns-clause-stays g c = ap (λ own. own ∷ extent_of c.args.self.now.posts ∷ end_extents poster_extent c.args.self.now.posts.items) c.take.ensures.stays
