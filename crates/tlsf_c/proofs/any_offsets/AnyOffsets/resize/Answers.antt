use Rattle.tlsf_c.proofs.Common.{Result, ap, sym, ◌∙◌, Name, Refusal, KeepsOthers, Span, OffsetsOfLevel, LevelOffsets, offsets_shown}
use Rattle.tlsf_c.specs.declared.any_offsets.AnyOffsets.TheInside.{Inside}
use Rattle.tlsf_c.proofs.Carried.{carried}
use Rattle.tlsf_c.proofs.any_offsets.AnyOffsets.resize.Goals as goal
use Rattle.tlsf_c.proofs.any_offsets.AnyOffsets.resize.Goals.{in-Four, in-Five}

-- what is left, of an arena
abbrev Others : Name → Result Span Refusal → LevelOffsets → LevelOffsets → Type 0
Others name r left o = KeepsOthers o.offsets left.offsets name

pub returns-clause-others : goal.returns-clause-others
returns-clause-others c = elim c.match-self.branch [
  | in-Four w ↦ carried (Others c.args.name) _ _ _ _ _ _ w.result-is (ap (λ (i : Inside). offsets_shown i.of_level) w.self-inside-is)
      (sym (ap (λ (o : OffsetsOfLevel). offsets_shown o) w.in-Four.is) ∙ c.self.view_is) w.resize.ensures.others
  | in-Five w ↦ carried (Others c.args.name) _ _ _ _ _ _ w.result-is (ap (λ (i : Inside). offsets_shown i.of_level) w.self-inside-is)
      (sym (ap (λ (o : OffsetsOfLevel). offsets_shown o) w.in-Five.is) ∙ c.self.view_is) w.resize-in-Five.ensures.others
]
