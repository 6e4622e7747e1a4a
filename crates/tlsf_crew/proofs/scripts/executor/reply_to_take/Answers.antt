use Rattle.tlsf_crew.proofs.Common.{Some, None, inl, inr, arith, refl, IsAdmitted, EntersTake}
use Rattle.tlsf_crew.proofs.lemmas.scripts.WithinTakes.{one_fewer}
use Rattle.tlsf_crew.proofs.lemmas.worker.Slices.{may_one}
use Rattle.tlsf_crew.proofs.scripts.executor.reply_to_take.Goals as goal

pub returns-then-not-is_source_of-clause-stepped : goal.returns-then-not-is_source_of-clause-stepped
returns-then-not-is_source_of-clause-stepped g c = λ n made k.
    c.laws.ensures.stranger g.row.SLI n c.args.worker.now c.args.journal.now.limits c.args.from made c.args.journal.now.entries.items k (c.is_source_of.ensures.no c.if-not-is_source_of.true)

pub returns-then-admits-eq0-clause-stepped : goal.returns-then-admits-eq0-clause-stepped
returns-then-admits-eq0-clause-stepped g c = λ n made k.
    let s = c.is_source_of.ensures.yes c.if-not-is_source_of.false in
    c.laws.ensures.taken g.row.SLI n c.args.worker.now c.args.worker.now c.args.journal.now.limits c.args.journal.now.limits c.args.from made c.args.journal.now.entries.items None k s.0 s.1
    (refl, inl (c.admits.ensures.no c.if-admits-eq0.true, refl))

pub returns-in_default-clause-stepped : goal.returns-in_default-clause-stepped
returns-in_default-clause-stepped g c = λ n made k.
    let s = c.is_source_of.ensures.yes c.if-not-is_source_of.false in
    c.laws.ensures.taken g.row.SLI n c.args.worker.now c.take_next.new.worker c.args.journal.now.limits c.args.journal.now.limits c.args.from made c.args.journal.now.entries.items None k s.0 s.1
    (refl, inr c.in_default.ensures.taken)

pub returns-clause-stepped : goal.returns-clause-stepped
returns-clause-stepped g c = λ n made k.
    let s = c.is_source_of.ensures.yes c.if-not-is_source_of.false in
    let limits = c.args.journal.now.limits in
    let a = may_one IsAdmitted EntersTake c.args.journal.now c.args.from _ c.if-admits-eq0.false c.admits.ensures.yes in
    c.laws.ensures.taken g.row.SLI n c.args.worker.now c.take_next.new.worker limits _ c.args.from made c.args.journal.now.entries.items (Some c.in-Some.took) k s.0 s.1
    (a.0, one_fewer limits c.args.from (omega (arith, a.0)) a.1, c.in-Some.ensures.taken)
