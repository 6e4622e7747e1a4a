use Rattle.tlsf_words.proofs.Common.{◌≡◌, ℕ, get_or, ap, ◌∙◌, inl, inr, cases_eq, ListHeads, nowhere}
use Rattle.tlsf_words.proofs.Threads.{list_of-nowhere, threaded-none}
use Rattle.tlsf_words.proofs.free_lists.FreeLists.leave_least.Given.{Over}
use Rattle.tlsf_words.proofs.free_lists.FreeLists.leave_least.Goals as goal

none : (g : Over) (c : goal.After-self-1 g) → (class : ℕ) → get_or c.begin_least.new.self.places class nowhere ≡ nowhere
none g c class = elim (cases_eq class 4) [
  | inl e ↦ rw e c.begin_least.ensures.least
  | inr n ↦ c.begin_least.ensures.others class n ∙ ap (λ (lists : ListHeads). get_or lists.heads class nowhere) c.self.view_is ∙ c.requires.others class n
]

pub returns-clause-empty : goal.returns-clause-empty
returns-clause-empty g c = λ words class. list_of-nowhere _ words class (none g c class)

pub returns-clause-threaded : goal.returns-clause-threaded
returns-clause-threaded g c = λ words. threaded-none g.row.SLI c.requires.level _ _ words (none g c) c.new-self-inside.ensures.members
