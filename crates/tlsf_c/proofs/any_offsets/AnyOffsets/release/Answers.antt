use Rattle.tlsf_c.proofs.Common.{◌≢◌, Result, ap, sym, ◌∙◌, OnOk, Name, Refusal, IsHeld, KeepsOthers, Span, OffsetsOfLevel, LevelOffsets, offsets_shown}
use Rattle.tlsf_c.specs.declared.any_offsets.AnyOffsets.TheInside.{Inside}
use Rattle.tlsf_c.proofs.Carried.{carried}
use Rattle.tlsf_c.proofs.any_offsets.AnyOffsets.release.Goals as goal
use Rattle.tlsf_c.proofs.any_offsets.AnyOffsets.release.Goals.{in-Four, in-Five}

-- what is answered and left, of an arena
abbrev Others : Name → Result (Unit {0}) Refusal → LevelOffsets → LevelOffsets → Type 0
Others name r left o = KeepsOthers o.offsets left.offsets name

abbrev Gone : Name → Result (Unit {0}) Refusal → LevelOffsets → LevelOffsets → Type 0
Gone name r left o = OnOk r ((span : Span) → IsHeld left.offsets span → span.name ≢ name)

pub returns-clause-others : goal.returns-clause-others
returns-clause-others c = elim c.match-self.branch [
  | in-Four w ↦ carried (Others c.args.name) _ _ _ _ _ _ w.result-is (ap (λ (i : Inside). offsets_shown i.of_level) w.self-inside-is)
      (sym (ap (λ (o : OffsetsOfLevel). offsets_shown o) w.in-Four.is) ∙ c.self.view_is) w.release.ensures.others
  | in-Five w ↦ carried (Others c.args.name) _ _ _ _ _ _ w.result-is (ap (λ (i : Inside). offsets_shown i.of_level) w.self-inside-is)
      (sym (ap (λ (o : OffsetsOfLevel). offsets_shown o) w.in-Five.is) ∙ c.self.view_is) w.release-in-Five.ensures.others
]

pub returns-clause-gone : goal.returns-clause-gone
returns-clause-gone c = elim c.match-self.branch [
  | in-Four w ↦ carried (Gone c.args.name) _ _ _ _ _ _ w.result-is (ap (λ (i : Inside). offsets_shown i.of_level) w.self-inside-is)
      (sym (ap (λ (o : OffsetsOfLevel). offsets_shown o) w.in-Four.is) ∙ c.self.view_is) w.release.ensures.gone
  | in-Five w ↦ carried (Gone c.args.name) _ _ _ _ _ _ w.result-is (ap (λ (i : Inside). offsets_shown i.of_level) w.self-inside-is)
      (sym (ap (λ (o : OffsetsOfLevel). offsets_shown o) w.in-Five.is) ∙ c.self.view_is) w.release-in-Five.ensures.gone
]
