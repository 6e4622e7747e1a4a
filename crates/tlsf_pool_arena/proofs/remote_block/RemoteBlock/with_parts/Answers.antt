use Rattle.tlsf_pool_arena.proofs.Common.{Some, refl, sym, ap, ◌∙◌, Block}
use Rattle.tlsf_arena.proofs.SameBlock.{same_block}
use Rattle.tlsf_pool_arena.proofs.Lent.{parcel_of}
use Rattle.tlsf_pool_arena.proofs.remote_block.RemoteBlock.with_parts.Goals as goal

pub invariant_of-result : goal.invariant_of-result
invariant_of-result g c =
    let piece = c.with_size-size.ensures.1 ∙ c.with_ptr-ptr.ensures.1 in
    let same = same_block g.row.UNIT c.with_size-size.result.1 c.into_block-piece.result.right c.into_block-piece.result _ _ piece refl ∙ c.into_block-piece.ensures in
    record { paired = c.args.self.paired ∙ ap (λ (b : Block g.row.UNIT). Some (parcel_of b)) (sym same); own = c.args.self.own; small = c.args.self.small }
