use Rattle.tlsf_yard_laws.proofs.Common.{OverQueues}
use Rattle.tlsf_yard_laws.proofs.Moments.{order_moments, race_shares}
use Rattle.tlsf_yard_laws.proofs.sharing.race_adds_its_queue.Goals as goal

pub returns : goal.returns
returns c = record { served = λ sli. race_shares sli OverQueues; moments = λ sli. order_moments sli OverQueues }
