use Rattle.std.proofs.Common.{◌≡◌, sym, ◌∙◌}
use Rattle.tlsf_arena.proofs.Buffers.{same_grant}
use Rattle.tlsf_arena.proofs.local.LocalArena.moved.Goals as goal
use Rattle.tlsf_arena.proofs.local.LocalArena.moved.Goals.{then-old_size-new_size, else-old_size-new_size}

-- what comes back of `extended` and `trimmed` is what went in
pub returns-in_default : goal.returns-in_default
returns-in_default g c =
    let arm = c.in-Err in
    let parts = c.into_parts-buffer in
    let whole = c.of_parts-in_default.ensures in
    let kept : (arm.parts.0 ≡ parts.result.0) × (arm.parts.1 ≡ parts.result.1) = elim c.if-old_size-new_size.branch [
      | then-old_size-new_size w ↦ (rw (sym w.in_place-is ∙ arm.is) at w.extended-in_place.ensures.buffer, rw (sym w.in_place-is ∙ arm.is) at w.extended-in_place.ensures.right)
      | else-old_size-new_size w ↦ (rw (sym w.in_place-is ∙ arm.is) at w.trimmed-in_place.ensures.buffer, rw (sym w.in_place-is ∙ arm.is) at w.trimmed-in_place.ensures.right)
    ] in
    let was = parts.ensures.buffer in
    same_grant g.row.T c.of_parts-in_default.result c.args.grant (whole.0 ∙ (λ i. (kept.0 i).ptr) ∙ was.0)
    (whole.1 ∙ (λ i. (kept.0 i).unit) ∙ was.1, whole.2 ∙ (λ i. ((kept.0 i).region, (kept.1 i).book)) ∙ (λ i. (was.2 i, parts.ensures.right.0 i)), whole.3 ∙ (λ i. (kept.0 i).len) ∙ was.3, whole.4 ∙ (λ i. (kept.0 i).cap) ∙ was.4, whole.5 ∙ (λ i. (kept.0 i).items) ∙ was.5)
