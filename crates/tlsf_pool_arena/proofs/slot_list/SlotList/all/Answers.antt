use Rattle.std.proofs.Common.{List, ℕ, [], ◌∷◌, ◌++◌, ap, ◌∙◌}
use Rattle.tlsf_pool_arena.proofs.Idle.{next_range}
use Rattle.tlsf_pool_arena.proofs.slot_list.SlotList.all.Goals as goal

pub loop-at-preserved : goal.loop-at-preserved
loop-at-preserved c = c.in_ok-push.ensures.items ∙ ap (λ (l : List ℕ). l ++ c.loop-at.at ∷ []) c.loop-at.invariant ∙ next_range c.loop-at.at
