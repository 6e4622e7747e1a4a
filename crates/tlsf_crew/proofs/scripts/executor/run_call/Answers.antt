use Rattle.tlsf_crew.proofs.Common.{◌≡◌, arith, refl, subst, sym, target_name, stage_of}
use Rattle.tlsf_crew.proofs.lemmas.scripts.ScriptRuns.{step_called, step_room}
use Rattle.tlsf_crew.proofs.scripts.executor.run_call.Goals as goal

pub answer-requires-clause-room : goal.answer-requires-clause-room
answer-requires-clause-room g c =
    let n = c.requires.knows.0 in
    let step = c.reply_to-reply.ensures.stepped n c.args.made.now.items (subst (λ made. target_name made c.args.call ≡ c.target_name-name.result) c.deref.ensures.value (sym c.target_name-name.ensures)) c.requires.knows.1 in
    let r = step_room _ (c.laws.ensures.joins g.row.SLI) _ _ _ _ _ _ (c.laws.ensures.tells g.row.SLI n _ _ _ _ _ step) in
    let capacity = c.reply_to-reply.ensures.capacity in
    omega (arith, c.requires.room)

pub returns-clause-called : goal.returns-clause-called
returns-clause-called g c = λ n k.
    let v = c.reply_to-reply.new.worker in
    let s = stage_of c.args.worker.now c.args.journal.now in
    let t = stage_of v c.reply_to-reply.new.journal in
    let reply = c.reply_to-reply.result in
    let step = c.reply_to-reply.ensures.stepped n c.args.made.now.items (subst (λ made. target_name made c.args.call ≡ c.target_name-name.result) c.deref.ensures.value (sym c.target_name-name.ensures)) k in
    step_called (g.P.Scripted.promise g.row.SLI) (c.laws.ensures.joins g.row.SLI) n s t c.args.call c.args.made.now.items c.answer.new.made.items c.answer.new.entries.items _ reply
    (c.laws.ensures.tells g.row.SLI n s t _ _ _ step) refl c.answer.ensures.made c.answer.ensures.entries
