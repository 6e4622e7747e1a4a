use Rattle.tlsf_crew.proofs.Common.{◌≤◌, List, Option, [], ◌∙◌, ap, arith, refl, subst, vec_capacity, vec_len, Vec, Global, Name, Entry, Drained, QueueLastDrained, sum_of, QueueStepped, last_call, stage_of}
use Rattle.tlsf_crew.proofs.lemmas.races.QueueLast.{queue_drain_is_last}
use Rattle.tlsf_crew.proofs.lemmas.scripts.QueueSteps.{drain_stepped, drain_ends, drain_few}
use Rattle.tlsf_crew.proofs.lemmas.scripts.ScriptRuns.{step_room}
use Rattle.tlsf_crew.proofs.lemmas.scripts.QueueRuns.{queue_moves}
use Rattle.tlsf_crew.proofs.races.queue_race.drain_one.Goals as goal

pub drain_source-drained-requires : goal.drain_source-drained-requires
drain_source-drained-requires g c =
    let most = c.min-most.ensures in
    let same = c.resume-journal.ensures.journal in
    (omega arith, (tt, (omega arith, rw (same.0, same.1) (omega (arith, most, c.capacity.ensures, c.len.ensures)))))

pub push_reserved-requires : goal.push_reserved-requires
push_reserved-requires g c =
    let y = c.requires.yard in
    let d = c.drain_source-drained.ensures.drained in
    let u = c.args.worker.now in
    let v = c.drain_source-drained.new.worker in
    let x = c.resume-journal.result in
    let z = c.drain_source-drained.new.notes in
    let r = step_room _ queue_moves _ _ _ _ _ _ (drain_stepped y.0 u v x z 8192 [] d.0 y.1 d.1) in
    let few = drain_few u v x z 8192 d.0 d.1 in
    let most = c.min-most.ensures in
    let room = ap (λ (v : Vec Entry Global). vec_capacity v) c.resume-journal.ensures.journal.1 in
    let len = ap (λ (v : Vec Entry Global). vec_len v) c.resume-journal.ensures.journal.1 in
    let k = c.resume-journal.result.entries.ok in
    let l = c.drain_source-drained.new.notes.entries.ok in
    let sum = ap sum_of c.resume-journal.ensures.journal.0 in
    omega (arith, sum, few, most, c.drain_source-drained.ensures.bounds.notes.kept, c.capacity.ensures, c.len.ensures)

pub returns-clause-capacity : goal.returns-clause-capacity
returns-clause-capacity g c =
    let same = ap (λ (v : Vec Entry Global). vec_capacity v) c.resume-journal.ensures.journal.1 in
    c.push_reserved.ensures.capacity ∙ (c.drain_source-drained.ensures.bounds.notes.kept ∙ same)

pub returns-clause-drained : goal.returns-clause-drained
returns-clause-drained g c = λ n k.
    let u = c.args.worker.now in
    let v = c.drain_source-drained.new.worker in
    let x = c.resume-journal.result in
    let z = c.drain_source-drained.new.notes in
    let d = c.drain_source-drained.ensures.drained in
    let taken = c.drain_source-drained.result.taken in
    let step : (made : List (Option Name)) → QueueStepped n (stage_of u x) last_call made (stage_of v z) (Drained taken)
    = λ made. rw d.2.0 (drain_stepped n u v x z 8192 made d.0 k d.1) in
    let few : taken ≤ sum_of x.limits = omega (arith, d.2.0, drain_few u v x z 8192 d.0 d.1) in
    let items = ap (λ (v : Vec Entry Global). v.items) c.resume-journal.ensures.journal.1 in
    subst (λ (es : List Entry). QueueLastDrained n u v es c.push_reserved.new.self.items) items
    (queue_drain_is_last n (stage_of u x) (stage_of v z) v.id taken c.push_reserved.new.self.items few (rw c.resume-journal.ensures.journal.0 (omega (arith, c.min-most.ensures))) refl
    step (drain_ends n u v x z 8192 d.0 k d.1) c.push_reserved.ensures.items)
