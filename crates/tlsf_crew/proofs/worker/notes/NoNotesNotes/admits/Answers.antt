use Rattle.tlsf_crew.proofs.Common.{ℕ, zero, suc, arith, ⊤, MayTake}
use Rattle.tlsf_crew.proofs.worker.notes.NoNotesNotes.admits.Goals as goal

-- each of any number of posts is admitted
all_may : {N : Type 0} (x : N) (source n : ℕ) → MayTake {N = N} (λ notes source. ⊤) (λ old at source sender took new. ⊤) x source n
all_may x source zero = tt
all_may x source (suc n) = (tt, λ at sender took z note. all_may z source n)

pub returns-clause-yes : goal.returns-clause-yes
returns-clause-yes c = all_may c.args.self.now c.args._source c.args.wanted

pub returns-clause-no : goal.returns-clause-no
returns-clause-no c = λ none. absurd (omega (arith, none, c.requires))
