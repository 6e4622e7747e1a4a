use Rattle.tlsf_c.proofs.Common.{◌≡◌, ◌∙◌, ℕ, List, length, take, take_all, ap, subst, arith, rules}
use Rattle.tlsf_c.specs.declared.kind_row.KindRow.{KindRow}
use Rattle.tlsf_c.specs.PoolHandles.{kinds_of}
use Rattle.tlsf_c.proofs.kind_row.put_kinds.Goals as goal

pub returns : goal.returns
returns c =
    let end : c.loop-k.k ≡ length c.args.rows.now = search (rules, arith) in
    let all : take c.loop-k.k c.args.rows.now ≡ c.args.rows.now = take_all c.loop-k.k c.args.rows.now (omega (arith, end)) in
    record { table = subst (λ (n : ℕ). take n c.loop-k.kinds ≡ kinds_of c.args.rows.now) end (c.loop-k.invariant.table ∙ ap (λ (rows : List KindRow). kinds_of rows) all) }
