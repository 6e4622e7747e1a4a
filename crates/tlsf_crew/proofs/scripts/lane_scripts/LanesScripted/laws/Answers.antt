use Rattle.tlsf_crew.proofs.Common.{refl, stage_of}
use Rattle.tlsf_crew.proofs.lemmas.scripts.DrainWorlds.{drain_stepped}
use Rattle.tlsf_crew.proofs.lemmas.scripts.LaneTakes.{noted_lanes_spent}
use Rattle.tlsf_crew.proofs.lemmas.scripts.ScriptCalls.{has_port_or, lanes_moves, quiet_stepped, stranger_stepped, take_stepped, there_stepped}
use Rattle.tlsf_crew.proofs.scripts.lane_scripts.LanesScripted.laws.Goals as goal

pub returns : goal.returns
returns g c = record {
  joins = λ sli. lanes_moves;
  tells = λ sli n s t call made reply stepped. stepped.step;
  quiet = λ sli. quiet_stepped;
  posted = λ sli. there_stepped;
  reached = λ sli. has_port_or;
  stranger = λ sli n a limits from made entries k none. stranger_stepped n a limits from made entries k (none refl);
  taken = λ sli n a v limits left from made entries answer k lane has t. take_stepped n a v limits left from made entries answer k has t;
  drained = λ sli n a v x y most made answer k d. drain_stepped n (stage_of a x) (stage_of v y) most made answer.taken k (noted_lanes_spent n a v x y most answer k d);
}
