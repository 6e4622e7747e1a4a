use Rattle.tlsf_crew.proofs.Common.{refl, sym, Got, heap_of}
use Rattle.tlsf_crew.proofs.lemmas.model.HeapReply.{by_ok, by_err, own_unmade_is, own_read_is}
use Rattle.tlsf_crew.proofs.scripts.own_replies.reply_to_own_read.Goals as goal

pub returns-in_default : goal.returns-in_default
returns-in_default g c = record { replied = own_unmade_is (heap_of c.args.worker.now) _ _ (sym c.in_default.is); same = (refl, refl) }

pub returns-in-Ok : goal.returns-in-Ok
returns-in-Ok g c = record { replied = own_read_is (heap_of c.args.worker.now) _ _ c.in-Some.name c.args.from c.args.n _ (sym c.in-Some.is) (by_ok Got _ c.in-Ok.bytes c.in-Ok.ensures.answer) c.in-Ok.ensures.heap; same = c.in-Ok.ensures.same }

pub returns-in-Err : goal.returns-in-Err
returns-in-Err g c = record { replied = own_read_is (heap_of c.args.worker.now) _ _ c.in-Some.name c.args.from c.args.n _ (sym c.in-Some.is) (by_err Got _ c.in-Err.why c.in-Err.ensures.answer) c.in-Err.ensures.heap; same = c.in-Err.ensures.same }
