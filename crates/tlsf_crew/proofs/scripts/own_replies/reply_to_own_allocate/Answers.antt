use Rattle.tlsf_crew.proofs.Common.{Made, allocated}
use Rattle.tlsf_crew.proofs.lemmas.model.HeapReply.{by_ok, by_err}
use Rattle.tlsf_crew.proofs.scripts.own_replies.reply_to_own_allocate.Goals as goal

pub returns-in-Ok-clause-own : goal.returns-in-Ok-clause-own
unfolding allocated
returns-in-Ok-clause-own g c = record { replied = record { same = by_ok Made _ c.in-Ok.name c.in-Ok.ensures.answer; left = c.in-Ok.ensures.allocates.heap }; same = c.in-Ok.ensures.rest.same }

pub returns-in-Err-clause-own : goal.returns-in-Err-clause-own
unfolding allocated
returns-in-Err-clause-own g c = record { replied = record { same = by_err Made _ c.in-Err.why c.in-Err.ensures.answer; left = c.in-Err.ensures.allocates.heap }; same = c.in-Err.ensures.rest.same }
