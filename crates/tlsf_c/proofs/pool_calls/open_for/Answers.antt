use Rattle.tlsf_c.proofs.Common.{◌≡◌, ◌↔◌, ◌∙◌, List, subst, IsErrOf}
use Rattle.tlsf_heap.specs.declared.open_fault.OpenFault.TheVariants.{BadSize}
use Rattle.tlsf_pool.specs.declared.kind.Kind.{Kind}
use Rattle.tlsf_pool.specs.sizes.Rising.{HasNoHeaps}
use Rattle.tlsf_c.specs.PoolHandles.{kinds_of}
use Rattle.tlsf_c.proofs.pool_calls.open_for.Goals as goal

pub returns-clause-bad_size : goal.returns-clause-bad_size
returns-clause-bad_size c =
    let same : c.split_at.result.0.now ≡ kinds_of c.args.rows.now = c.split_at.ensures.front ∙ c.put_kinds.ensures.table in
    subst (λ (kinds : List Kind). IsErrOf c.open.result BadSize ↔ HasNoHeaps c.args.level 8 kinds) same c.open.ensures.bad_size
