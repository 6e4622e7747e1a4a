use Rattle.tlsf_crew.proofs.Common.{refl, length, sym, Wrote, heap_of}
use Rattle.tlsf_crew.proofs.lemmas.model.HeapReply.{by_ok, by_err, own_unmade_is, own_write_is}
use Rattle.tlsf_crew.proofs.scripts.own_replies.reply_to_own_write.Goals as goal

pub returns-in_default : goal.returns-in_default
returns-in_default g c = record { replied = own_unmade_is (heap_of c.args.worker.now) _ _ (sym c.in_default.is); same = (refl, refl) }

pub returns-in-Ok : goal.returns-in-Ok
returns-in-Ok g c =
    let list = c.as_slice-list.result.now in
    record {
      replied = own_write_is (heap_of c.args.worker.now) _ _ c.in-Some.name c.args.from list _ _ (sym c.in-Some.is) c.as_slice-list.ensures.bytes
          (by_ok (λ done. Wrote (length list)) _ c.in-Ok.field-0 c.in-Ok.ensures.answer) c.in-Ok.ensures.writes.heap;
      same = c.in-Ok.ensures.rest.same;
    }

pub returns-in-Err : goal.returns-in-Err
returns-in-Err g c =
    let list = c.as_slice-list.result.now in
    record {
      replied = own_write_is (heap_of c.args.worker.now) _ _ c.in-Some.name c.args.from list _ _ (sym c.in-Some.is) c.as_slice-list.ensures.bytes
          (by_err (λ done. Wrote (length list)) _ c.in-Err.why c.in-Err.ensures.answer) c.in-Err.ensures.writes.heap;
      same = c.in-Err.ensures.rest.same;
    }
