use Rattle.tlsf_post.proofs.Common.{◌≡◌, [], owner_view, plan_for, view, IsPassOf}
use Rattle.tlsf_post.proofs.mailboxes.lay_out.Given as goal

abbrev pub invariant-loop-k : goal.invariant-loop-k
invariant-loop-k l = IsPassOf l.queue l.pass × (view l.pass ≡ owner_view (plan_for l._k 0 0) 0 [] [])

abbrev pub invariant-loop-k-2 : goal.invariant-loop-k-2
invariant-loop-k-2 l = IsPassOf l.queue l.pass × (view l.pass ≡ owner_view (plan_for l.fn.owner l._k 0) 0 [] [])

abbrev pub invariant-loop-k-3 : goal.invariant-loop-k-3
invariant-loop-k-3 l = IsPassOf l.queue l.pass × (view l.pass ≡ owner_view (plan_for l.fn.owner l.fn.n l._k) 0 [] [])
