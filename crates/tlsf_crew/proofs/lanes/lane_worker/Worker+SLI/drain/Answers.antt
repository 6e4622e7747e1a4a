use Rattle.tlsf_crew.proofs.lemmas.lanes.LaneTurns.{all_drained}
use Rattle.tlsf_crew.proofs.lanes.lane_worker.Worker+SLI.drain.Goals as goal

pub returns-clause-drained : goal.returns-clause-drained
returns-clause-drained g c = (all_drained _ _ c.args.self.now c.drain_each.new.worker _ c.drain_each.new.notes c.args.most c.drain_each.result (λ z i. tt) c.drain_each.ensures.drained).0

pub returns-clause-works : goal.returns-clause-works
returns-clause-works g c = record {
  yard = (all_drained _ _ c.args.self.now c.drain_each.new.worker _ c.drain_each.new.notes c.args.most c.drain_each.result (λ z i. tt) c.drain_each.ensures.drained).1;
  within = c.drain_each.ensures.bounds.within;
}
