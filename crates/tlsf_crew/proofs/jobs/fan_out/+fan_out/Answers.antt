use Rattle.tlsf_crew.proofs.Common.{◌≡◌, ◌∷◌, [], ◌++◌, Some, arith, subst, common_steps, nil_from_length, All-pop, AllDone}
use Rattle.tlsf_crew.proofs.lemmas.jobs.Gathering.{done_last}
use Rattle.tlsf_crew.proofs.jobs.fan_out.+fan_out.Goals as goal

pub returns-clause-done : goal.returns-clause-done
returns-clause-done g t c =
    let is_done = g.W.Work.is_done in
    let job = c.in-Some.job in
    let d = c.join.result in
    let items : c.args.jobs.now.items ≡ c.pop.new.self.items ++ job ∷ [] = c.in-Some.ensures.items in
    let same : c.in_ok-child.child.promise.work.value ≡ job = grind (arith, common_steps) in
    let rest : AllDone is_done c.pop.new.self.items c.fan_out.new.jobs.items = c.in_ok-fan_out.ensures.done in
    rw (items, c.push_reserved.ensures.items) (done_last is_done _ _ _ _ rest (subst (λ j. is_done j d) same c.join.ensures))

pub fan_out-requires-clause-ready : goal.fan_out-requires-clause-ready
fan_out-requires-clause-ready g t c κs within = (All-pop g.W.Work.is_ready c.args.jobs.now.items c.pop.new.self.items (Some c.in-Some.job) c.in-Some.ensures.items c.requires.ready).0

pub returns-in_default-clause-done : goal.returns-in_default-clause-done
returns-in_default-clause-done g t c =
    let l = c.args.jobs.now.ok in
    let e : c.args.jobs.now.items ≡ [] = nil_from_length _ (omega (arith, c.in_default.ensures.cases.0)) in
    let m = c.pop.new.self.ok in
    let f : c.pop.new.self.items ≡ [] = nil_from_length _ (omega (arith, c.in_default.ensures.cases.1)) in
    rw (e, f) tt
