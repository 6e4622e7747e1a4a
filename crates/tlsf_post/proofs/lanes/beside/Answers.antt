use Rattle.tlsf_post.proofs.Common.{rules, sent, received, posts_sent, waited, taken, IsLane}
use Rattle.tlsf_post.proofs.Order.{in_order}
use Rattle.tlsf_post.proofs.lanes.beside.Goals as goal

pub returns-clause-order : goal.returns-clause-order
unfolding posts_sent waited taken IsLane
returns-clause-order c = let p = c.args.post.now in let t = c.args.take.now in
    in_order (received t.mark.value) _ (sent p.mark.value) (received t.ring) _ (sent p.ring) c.requires.1 p.before t.marked (search rules)
