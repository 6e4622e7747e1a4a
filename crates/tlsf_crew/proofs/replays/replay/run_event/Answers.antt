use Rattle.tlsf_crew.proofs.Common.{◌≡◌, ◌≤◌, subst, sym, length, arith, target_name, replay_of}
use Rattle.tlsf_crew.proofs.lemmas.lanes.LaneChanges.{heaps_count}
use Rattle.tlsf_crew.proofs.lemmas.model.EventSteps.{after_far, single_room}
use Rattle.tlsf_crew.proofs.lemmas.replays.Exact.{replied_room}
use Rattle.tlsf_crew.proofs.replays.replay.run_event.Goals as goal

pub answer-requires-clause-room : goal.answer-requires-clause-room
answer-requires-clause-room g c =
    let n = heaps_count c.args.workers.now in
    let r = replay_of c.args.made.now.items c.args.journal.now.entries.items c.args.workers.now in
    let le : length r.world.heaps ≤ c.args.event.now.worker = omega arith in
    let k = single_room r _ _ _ _ _ (after_far r c.args.event.now le) c.requires.room in
    omega arith

pub returns-then-event-workers-clause-after : goal.returns-then-event-workers-clause-after
returns-then-event-workers-clause-after g c =
    let n = heaps_count c.args.workers.now in
    let r = replay_of c.args.made.now.items c.args.journal.now.entries.items c.args.workers.now in
    let le : length r.world.heaps ≤ c.args.event.now.worker = omega arith in
    rw (c.answer.ensures.made, c.answer.ensures.entries) (sym (after_far r c.args.event.now le))

pub answer-requires-2-clause-room : goal.answer-requires-2-clause-room
answer-requires-2-clause-room g c =
    let told = c.reply_in_yard-reply.ensures.replied c.args.made.now.items (subst (λ made. target_name made c.args.event.now.call ≡ c.target_name-name.result) c.deref.ensures.value (sym c.target_name-name.ensures)) in
    let k = replied_room _ _ _ _ _ _ told c.requires.room in
    omega (arith, c.reply_in_yard-reply.ensures.capacity)

pub returns-clause-yard : goal.returns-clause-yard
returns-clause-yard g c = (c.reply_in_yard-reply.ensures.replied _ (sym c.target_name-name.ensures)).yard

pub returns-clause-after : goal.returns-clause-after
returns-clause-after g c =
    let told = c.reply_in_yard-reply.ensures.replied c.args.made.now.items (subst (λ made. target_name made c.args.event.now.call ≡ c.target_name-name.result) c.deref.ensures.value (sym c.target_name-name.ensures)) in
    rw (c.answer-2.ensures.made, c.answer-2.ensures.entries) (sym told.after)
