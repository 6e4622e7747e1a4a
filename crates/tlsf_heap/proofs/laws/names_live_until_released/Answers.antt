use Rattle.tlsf_heap.proofs.lemmas.calls.Outcomes.{ids_step, lawful_steps}
use Rattle.tlsf_heap.proofs.lemmas.laws.Live.{given_words, new_words, kept_step, stale, known}
use Rattle.tlsf_heap.proofs.lemmas.laws.Gone.{gone_taken, gone_run, gone_dead}
use Rattle.tlsf_heap.proofs.laws.names_live_until_released.Goals as goal

pub returns : goal.returns
returns c = record { ids = ids_step; lawful = lawful_steps; given = given_words; new = new_words; kept = kept_step; taken = gone_taken; gone = gone_run; dead = gone_dead; stale = stale; known = known }
