use Rattle.tlsf_pool.proofs.Common.{◌<◌, length, ap, ◌∙◌, arith, PoolsState, TableState}
use Rattle.tlsf_pool.proofs.lemmas.pools.Heaps.{is_part, kept, put_back}
use Rattle.tlsf_pool.proofs.pools.pools.Pools.base.Goals as goal

pub invariant_of-self : goal.invariant_of-self
invariant_of-self g c =
    let p : PoolsState = record { id = c.self.inside.id; parts = c.self.inside.parts.items; extent = record { address = c.self.inside.parts.ptr; capacity = c.self.inside.parts.cap } } in
    let within : c.args.part < length p.parts = omega (arith, c.self.inside.parts.ok.0) in
    kept g.row.SLI p c.args.part c.base.new.self c.self.invariant c.base.ensures.keeps.is
    (ap (λ (t : TableState). t.heap.id) (c.base.ensures.same ∙ is_part p c.args.part c.index_mut.result.now within c.index_mut.ensures.value))

pub returns-clause-pools : goal.returns-clause-pools
returns-clause-pools g c = invariant_of-self g c

pub returns-clause-same : goal.returns-clause-same
returns-clause-same g c =
    let p : PoolsState = record { id = c.self.inside.id; parts = c.self.inside.parts.items; extent = record { address = c.self.inside.parts.ptr; capacity = c.self.inside.parts.cap } } in
    let within : c.args.part < length p.parts = omega (arith, c.self.inside.parts.ok.0) in
    put_back p c.args.part c.index_mut.result.now c.base.new.self within c.index_mut.ensures.value c.base.ensures.same ∙ c.self.view_is
