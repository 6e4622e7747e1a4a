use Rattle.tlsf_heap.proofs.lemmas.laws.CheckAnswers.{one_answer, damage_told}
use Rattle.tlsf_heap.proofs.laws.checks_have_one_answer.Goals as goal

pub returns : goal.returns
returns c = record { one = one_answer; told = λ m from most at begins meets answer. damage_told m from most at begins meets answer }
