use Rattle.tlsf_crew.proofs.Common.{◌∙◌, arith, refl, subst, length-take, take_all, ScriptRun, stage_of}
use Rattle.tlsf_crew.proofs.lemmas.scripts.ScriptRuns.{script_knows, script_next, script_none, script_room}
use Rattle.tlsf_crew.proofs.jobs.job.JobWork.run.Goals as goal

pub loop-call-init : goal.loop-call-init
loop-call-init g c = record {
  index = refl;
  run = λ n k. script_none (g.P.Scripted.promise g.row.SLI) (c.laws.ensures.joins g.row.SLI) n c.args.self.worker c.args.self.limits c.args.self.made.items c.args.self.entries.items c.requires.fresh.0 c.requires.fresh.1;
  names = refl;
  room = refl;
}

pub run_call-requires : goal.run_call-requires
run_call-requires g c = (
  omega arith,
  (
    let y = c.requires.yard in
        (y.0, script_knows (g.P.Scripted.promise g.row.SLI) (c.laws.ensures.joins g.row.SLI) y.0 _ _ _ _ _ (c.loop-call.invariant.run y.0 y.1) y.1),
    (
      let i = c.loop-call.invariant in
          let y = c.requires.yard in
          let run = i.run y.0 y.1 in
          let n = length-take c.loop-call.call-index c.deref-call-items.result.now in
          let names = run.names in
          omega (arith, c.requires.names, c.deref-call-items.ensures.len),
      let i = c.loop-call.invariant in
          let y = c.requires.yard in
          let r = script_room (g.P.Scripted.promise g.row.SLI) (c.laws.ensures.joins g.row.SLI) _ _ _ _ _ _ (i.run y.0 y.1) in
          let n = length-take c.loop-call.call-index c.deref-call-items.result.now in
          omega (arith, c.requires.room, c.deref-call-items.ensures.len),
    ),
  ),
)

pub loop-call-preserved : goal.loop-call-preserved
loop-call-preserved g c =
    let i = c.loop-call.invariant in
    record {
      index = omega arith;
      run = λ n k.
          let x = i.run n k in
          script_next (g.P.Scripted.promise g.row.SLI) (c.laws.ensures.joins g.row.SLI) n c.args.self.worker c.args.self.limits c.deref-call-items.result.now c.loop-call.call-index _ _ _ _ _ c.loop-call-test.true x (c.run_call.ensures.called n (script_knows (g.P.Scripted.promise g.row.SLI) (c.laws.ensures.joins g.row.SLI) n _ _ _ _ _ x k));
      names = c.run_call.ensures.capacity.0 ∙ i.names;
      room = c.run_call.ensures.capacity.1 ∙ i.room;
    }

pub returns : goal.returns
returns g c =
    let xs = c.deref-call-items.result.now in
    let i = c.loop-call.invariant in
    let all = take_all c.loop-call.call-index xs (omega arith) ∙ c.deref-call-items.ensures.value in
    let job = c.args.self in
    record {
      left = c.loop-call.journal.limits;
      ran = λ n k. subst (λ calls. ScriptRun (g.P.Scripted.promise g.row.SLI) n job.worker job.limits calls c.loop-call.made.items (stage_of c.loop-call.worker c.loop-call.journal)) all (i.run n k);
      room = i.room;
    }
