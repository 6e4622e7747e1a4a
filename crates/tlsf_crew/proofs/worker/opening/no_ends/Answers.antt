use Rattle.tlsf_crew.proofs.Common.{◌≡◌, ◌∙◌, ◌∷◌, ◌++◌, [], None, ap, arith, refl, vec_len, replicate-append-replicate}
use Rattle.tlsf_crew.proofs.worker.opening.no_ends.Goals as goal

pub returns : goal.returns
returns g c =
    let e : vec_len c.loop-ends.ends ≡ c.args.n = omega (arith, c.loop-ends.invariant.most) in
    rw e at c.loop-ends.invariant.none

pub loop-ends-init : goal.loop-ends-init
loop-ends-init g c = record { room = c.in_ok-ends.ensures.capacity; most = omega (arith, c.in_ok-ends.ensures.len); none = rw (c.in_ok-ends.ensures.items, c.in_ok-ends.ensures.len) refl }

pub loop-ends-preserved : goal.loop-ends-preserved
loop-ends-preserved g c =
    let i = c.loop-ends.invariant in
    let p = c.push_reserved.ensures in
    record {
      room = omega (arith, p.capacity, i.room);
      most = omega (arith, p.len);
      none = rw (p.items, p.len) (ap (λ xs. xs ++ None ∷ []) i.none ∙ replicate-append-replicate (vec_len c.loop-ends.ends) 1 None);
    }
