use Rattle.tlsf_crew.proofs.Common.{◌<◌, ◌^◌, Some, vec_len, ap, length, arith, append-nil, length-map, nil_from_length, All-pop, All-push, Job, KnowsSome, IsPrepared}
use Rattle.std.proofs.lemmas.List.Sorted.{All-permutation}
use Rattle.tlsf_crew.proofs.lemmas.jobs.Popped.{popped_all, popped_more}
use Rattle.tlsf_crew.proofs.jobs.preparation.prepare.Goals as goal

pub loop-worker-init : goal.loop-worker-init
loop-worker-init g c = record {
  same = c.requires.scripts.count;
  yard = c.requires.yard;
  short = c.requires.scripts.short;
  workers = rw c.in_ok-jobs.ensures.items (append-nil c.args.workers.items);
  scripts = rw c.in_ok-jobs.ensures.items (append-nil c.args.scripts.items);
  ready = rw c.in_ok-jobs.ensures.items (λ k d lt. absurd (omega arith));
  room = omega (arith, c.in_ok-jobs.ensures.capacity, ap length c.in_ok-jobs.ensures.items, c.in_ok-jobs.jobs.ok);
}

pub make_job-requires : goal.make_job-requires
make_job-requires g c = (
  omega arith,
  (
    omega arith,
    (
      (All-pop (KnowsSome (g.P.Scripted.promise g.row.SLI).knows) c.loop-worker.workers.items c.pop.new.self.items (Some c.in-Some.worker) c.in-Some.ensures.items c.loop-worker.invariant.yard).1,
      (All-pop (λ s. vec_len s < 2 ^ 32) c.loop-worker.scripts.items c.pop-in-Some.new.self.items (Some c.in-Some-pop.script) c.in-Some-pop.ensures.items c.loop-worker.invariant.short).1,
    ),
  ),
)

pub loop-worker-preserved : goal.loop-worker-preserved
loop-worker-preserved g c =
    let i = c.loop-worker.invariant in
    record {
      same = omega (arith, i.same, c.in-Some.ensures.cases, c.in-Some-pop.ensures.cases);
      yard = (All-pop (KnowsSome (g.P.Scripted.promise g.row.SLI).knows) c.loop-worker.workers.items c.pop.new.self.items (Some c.in-Some.worker) c.in-Some.ensures.items c.loop-worker.invariant.yard).0;
      short = (All-pop (λ s. vec_len s < 2 ^ 32) c.loop-worker.scripts.items c.pop-in-Some.new.self.items (Some c.in-Some-pop.script) c.in-Some-pop.ensures.items c.loop-worker.invariant.short).0;
      workers = popped_more (λ (j : Job g.row.SLI _). j.worker) _ _ _ c.in-Some.worker _ _ c.in_ok-job.job c.in-Some.ensures.items c.push_reserved.ensures.items c.in_ok-job.ensures.0 i.workers;
      scripts = popped_more (λ (j : Job g.row.SLI _). j.script) _ _ _ c.in-Some-pop.script _ _ c.in_ok-job.job c.in-Some-pop.ensures.items c.push_reserved.ensures.items c.in_ok-job.ensures.1 i.scripts;
      ready = rw c.push_reserved.ensures.items (All-push (IsPrepared (g.P.Scripted.promise g.row.SLI) c.args.releases.now) _ _ i.ready c.in_ok-job.ensures.2);
      room = omega (arith, i.room, c.push_reserved.ensures.len, c.push_reserved.ensures.capacity, c.in-Some.ensures.cases);
    }

pub returns-clause-workers : goal.returns-clause-workers
returns-clause-workers g c =
    let l = c.loop-worker.workers.ok in
    popped_all (λ (j : Job g.row.SLI _). j.worker) c.loop-worker.workers.items c.args.workers.items c.loop-worker.jobs.items c.reverse.new.self.items (nil_from_length c.loop-worker.workers.items (omega (arith, c.in_default.ensures.cases.0))) c.reverse.ensures.items c.loop-worker.invariant.workers

pub returns-clause-scripts : goal.returns-clause-scripts
returns-clause-scripts g c =
    let l = c.loop-worker.scripts.ok in
    popped_all (λ (j : Job g.row.SLI _). j.script) c.loop-worker.scripts.items c.args.scripts.items c.loop-worker.jobs.items c.reverse.new.self.items (nil_from_length c.loop-worker.scripts.items (omega (arith, c.loop-worker.invariant.same, c.in_default.ensures.cases.0))) c.reverse.ensures.items c.loop-worker.invariant.scripts

pub returns-clause-ready : goal.returns-clause-ready
returns-clause-ready g c = All-permutation (IsPrepared (g.P.Scripted.promise g.row.SLI) c.args.releases.now) _ _ c.reverse.ensures.permutation c.loop-worker.invariant.ready

pub returns-clause-len : goal.returns-clause-len
returns-clause-len g c =
    let l = c.loop-worker.workers.ok in
    let whole = popped_all (λ (j : Job g.row.SLI _). j.worker) c.loop-worker.workers.items c.args.workers.items c.loop-worker.jobs.items c.reverse.new.self.items (nil_from_length c.loop-worker.workers.items (omega (arith, c.in_default.ensures.cases.0))) c.reverse.ensures.items c.loop-worker.invariant.workers in
    omega (arith, ap length whole, length-map c.reverse.new.self.items (λ (j : Job g.row.SLI _). j.worker), c.reverse.new.self.ok, c.args.workers.ok)
