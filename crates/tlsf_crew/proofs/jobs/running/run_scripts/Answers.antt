use Rattle.std.proofs.Common.{arith}
use Rattle.tlsf_crew.proofs.lemmas.jobs.Gathering.{jobs_gathered}
use Rattle.tlsf_crew.proofs.jobs.running.run_scripts.Goals as goal

pub returns : goal.returns
returns g c = record {
  run = jobs_gathered (g.P.Scripted.promise g.row.SLI) c.count_all-releases.result c.in_ok-jobs.jobs.items c.in_ok-done.done.items c.args.workers.items c.args.scripts.items c.add_all.new.self.records.items c.add_all.new.self.workers.items c.in_ok-jobs.ensures.workers c.in_ok-jobs.ensures.scripts
      c.add_all.ensures.parts.0 c.add_all.ensures.parts.1 (rw c.deref.ensures.value at c.count_all-releases.ensures) c.in_ok-jobs.ensures.ready c.in_ok-done.ensures.done;
}

pub prepare-requires : goal.prepare-requires
prepare-requires g c = (omega arith, (omega arith, (c.requires.yard, c.requires.scripts)))

pub add_all-requires : goal.add_all-requires
add_all-requires g c =
    (omega arith, (omega arith, ((c.in_ok-returned.ensures.items, c.in_ok-records.ensures.items), (omega (arith, c.in_ok-done.ensures.len, c.len.ensures, c.in_ok-returned.ensures.capacity), omega (arith, c.in_ok-done.ensures.len, c.len-2.ensures, c.in_ok-records.ensures.capacity)))))

pub count_all-releases-requires-clause-short : goal.count_all-releases-requires-clause-short
count_all-releases-requires-clause-short g c = rw c.deref.ensures.value c.requires.scripts.short

pub count_all-releases-requires-clause-few : goal.count_all-releases-requires-clause-few
count_all-releases-requires-clause-few g c =
    let l = c.args.workers.ok in
    let m = c.args.scripts.ok in
    rw c.deref.ensures.value (omega (arith, c.requires.few, c.requires.scripts.count))

pub run_all-requires-clause-ready : goal.run_all-requires-clause-ready
run_all-requires-clause-ready g c κs within = λ k d lt. (c.in_ok-jobs.ensures.ready k d lt).ready
