use Rattle.tlsf_c.proofs.Common.{◌≢◌, Result, ap, sym, ◌∙◌, IfOk, Refusal, IsHeld, Span, OffsetsOfLevel, LevelOffsets, offsets_shown}
use Rattle.tlsf_c.specs.declared.any_offsets.AnyOffsets.TheInside.{Inside}
use Rattle.tlsf_c.proofs.Carried.{carried}
use Rattle.tlsf_c.proofs.any_offsets.AnyOffsets.allocate.Goals as goal
use Rattle.tlsf_c.proofs.any_offsets.AnyOffsets.allocate.Goals.{in-Four, in-Five}

-- what is answered and left, of an arena
abbrev Others : Result Span Refusal → LevelOffsets → LevelOffsets → Type 0
Others r left o = (other : Span) → IsHeld o.offsets other → IsHeld left.offsets other

abbrev Fresh : Result Span Refusal → LevelOffsets → LevelOffsets → Type 0
Fresh r left o = IfOk r (λ span. (other : Span) → IsHeld o.offsets other → other.name ≢ span.name)

pub returns-clause-others : goal.returns-clause-others
returns-clause-others c = elim c.match-self.branch [
  | in-Four w ↦ carried Others _ _ _ _ _ _ w.result-is (ap (λ (i : Inside). offsets_shown i.of_level) w.self-inside-is)
      (sym (ap (λ (o : OffsetsOfLevel). offsets_shown o) w.in-Four.is) ∙ c.self.view_is) w.allocate.ensures.others
  | in-Five w ↦ carried Others _ _ _ _ _ _ w.result-is (ap (λ (i : Inside). offsets_shown i.of_level) w.self-inside-is)
      (sym (ap (λ (o : OffsetsOfLevel). offsets_shown o) w.in-Five.is) ∙ c.self.view_is) w.allocate-in-Five.ensures.others
]

pub returns-clause-fresh : goal.returns-clause-fresh
returns-clause-fresh c = elim c.match-self.branch [
  | in-Four w ↦ carried Fresh _ _ _ _ _ _ w.result-is (ap (λ (i : Inside). offsets_shown i.of_level) w.self-inside-is)
      (sym (ap (λ (o : OffsetsOfLevel). offsets_shown o) w.in-Four.is) ∙ c.self.view_is) w.allocate.ensures.new
  | in-Five w ↦ carried Fresh _ _ _ _ _ _ w.result-is (ap (λ (i : Inside). offsets_shown i.of_level) w.self-inside-is)
      (sym (ap (λ (o : OffsetsOfLevel). offsets_shown o) w.in-Five.is) ∙ c.self.view_is) w.allocate-in-Five.ensures.new
]
