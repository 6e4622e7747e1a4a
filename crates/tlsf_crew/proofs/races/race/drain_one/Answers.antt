use Rattle.tlsf_crew.proofs.Common.{[], ◌∙◌, ap, arith, refl, vec_capacity, Vec, Global, Entry}
use Rattle.tlsf_crew.proofs.lemmas.races.LastDrains.{last_fits, last_told}
use Rattle.tlsf_crew.proofs.races.race.drain_one.Goals as goal

pub push_reserved-requires : goal.push_reserved-requires
push_reserved-requires g c =
    let told = rw c.resume-journal.ensures.journal.1 at (c.reply_in_yard-reply.ensures.replied [] refl) in
    let few = last_fits c.args.workers.now c.reply_in_yard-reply.new.workers [] c.args.entries.now.items c.reply_in_yard-reply.new.journal.entries.items c.args.at c.reply_in_yard-reply.result
    c.requires.has.yard c.requires.few c.requires.has.inside told in
    let room = c.requires.room in
    let same = ap (λ (v : Vec Entry Global). vec_capacity v) c.resume-journal.ensures.journal.1 in
    let capacity = c.reply_in_yard-reply.ensures.capacity in
    let k = c.args.entries.now.ok in
    let l = c.reply_in_yard-reply.new.journal.entries.ok in
    omega arith

pub returns-clause-capacity : goal.returns-clause-capacity
returns-clause-capacity g c =
    let same = ap (λ (v : Vec Entry Global). vec_capacity v) c.resume-journal.ensures.journal.1 in
    c.push_reserved.ensures.capacity ∙ (c.reply_in_yard-reply.ensures.capacity ∙ same)

pub returns-clause-told : goal.returns-clause-told
returns-clause-told g c = λ made.
    let told = rw c.resume-journal.ensures.journal.1 at (c.reply_in_yard-reply.ensures.replied [] refl) in
    rw c.push_reserved.ensures.items (last_told c.args.workers.now c.reply_in_yard-reply.new.workers c.args.entries.now.items c.reply_in_yard-reply.new.journal.entries.items c.args.at c.reply_in_yard-reply.result
    c.requires.has.inside told made)

pub reply_in_yard-reply-requires : goal.reply_in_yard-reply-requires
reply_in_yard-reply-requires g c =
    (omega arith, (c.requires.has, (rw c.resume-journal.ensures.journal.1 (omega (arith, c.requires.room)), ([], refl))))

pub returns-clause-yard : goal.returns-clause-yard
returns-clause-yard g c = (c.reply_in_yard-reply.ensures.replied [] refl).yard
