use Rattle.tlsf_c.proofs.Common.{◌≡◌, Result, sym, ap, ◌∙◌, LevelHeap, Refusal}
use Rattle.tlsf_c.specs.declared.any_heap.OfLevel.{OfLevel}
use Rattle.tlsf_c.specs.LevelOf.{shown}
use Rattle.tlsf_c.specs.declared.any_heap.AnyHeap.TheInside.{Inside}
use Rattle.tlsf_c.proofs.Carried.{carried}
use Rattle.tlsf_c.proofs.Counted.{wrote}
use Rattle.tlsf_c.proofs.any_heap.AnyHeap.write.Goals as goal
use Rattle.tlsf_c.proofs.any_heap.AnyHeap.write.Goals.{in-Four, in-Five}

abbrev Counts : Result (Unit {0}) Refusal → LevelHeap → LevelHeap → Type 0
Counts r left h = left.counts ≡ h.counts

pub returns-clause-counts : goal.returns-clause-counts
returns-clause-counts c = elim c.match-self.branch [
  | in-Four w ↦ carried Counts _ _ _ _ _ _ w.result-is (ap (λ (i : Inside). shown i.of_level i.refused) w.self-inside-is)
      (sym (ap (λ (o : OfLevel). shown o c.self.inside.refused) w.in-Four.is) ∙ c.self.view_is) (wrote w.write.ensures.writes _ _ c.self.inside.refused w.write.ensures.frame.most)
  | in-Five w ↦ carried Counts _ _ _ _ _ _ w.result-is (ap (λ (i : Inside). shown i.of_level i.refused) w.self-inside-is)
      (sym (ap (λ (o : OfLevel). shown o c.self.inside.refused) w.in-Five.is) ∙ c.self.view_is) (wrote w.write-in-Five.ensures.writes _ _ c.self.inside.refused w.write-in-Five.ensures.frame.most)
]
