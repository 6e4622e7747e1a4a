use Rattle.tlsf_crew.proofs.lemmas.scripts.QueueRuns.{queue_moves}
use Rattle.tlsf_crew.proofs.lemmas.scripts.QueueSteps.{drain_stepped, drained_once, has_port_or, quiet_stepped, take_stepped, there_stepped}
use Rattle.tlsf_crew.proofs.scripts.queue_scripts.QueuesScripted.laws.Goals as goal

pub returns : goal.returns
returns g c = record {
  joins = λ sli. queue_moves;
  tells = λ sli n s t call made reply stepped. stepped;
  quiet = λ sli. quiet_stepped;
  posted = λ sli. there_stepped;
  reached = λ sli. has_port_or;
  stranger = λ sli n a limits from made entries k none. take_stepped n a limits from made entries;
  taken = λ sli n a v limits left from made entries answer k lane has t. absurd cc;
  drained = λ sli n a v x y most made answer k d. rw d.count.0 (drain_stepped n a v x y most made d.tooks k (drained_once _ _ a v x y most d.tooks d.each));
}
