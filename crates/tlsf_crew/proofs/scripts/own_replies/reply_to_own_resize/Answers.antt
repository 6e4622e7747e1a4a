use Rattle.tlsf_crew.proofs.Common.{refl, sym, Resized, heap_of}
use Rattle.tlsf_crew.proofs.lemmas.model.HeapReply.{by_ok, by_err, own_unmade_is, own_resize_is}
use Rattle.tlsf_crew.proofs.scripts.own_replies.reply_to_own_resize.Goals as goal

pub returns-in_default : goal.returns-in_default
returns-in_default g c = record { replied = own_unmade_is (heap_of c.args.worker.now) _ _ (sym c.in_default.is); same = (refl, refl) }

pub returns-in-Ok : goal.returns-in-Ok
returns-in-Ok g c = record { replied = own_resize_is (heap_of c.args.worker.now) _ _ c.in-Some.name c.args.len _ (sym c.in-Some.is) (by_ok (λ done. Resized) _ c.in-Ok.field-0 c.in-Ok.ensures.answer) c.in-Ok.ensures.resizes.heap; same = c.in-Ok.ensures.rest.same }

pub returns-in-Err : goal.returns-in-Err
returns-in-Err g c = record { replied = own_resize_is (heap_of c.args.worker.now) _ _ c.in-Some.name c.args.len _ (sym c.in-Some.is) (by_err (λ done. Resized) _ c.in-Err.why c.in-Err.ensures.answer) c.in-Err.ensures.resizes.heap; same = c.in-Err.ensures.rest.same }
