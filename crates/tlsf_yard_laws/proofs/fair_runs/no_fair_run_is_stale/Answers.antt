use Rattle.tlsf_yard_laws.proofs.FairLists.{yard_no_stale}
use Rattle.tlsf_yard_laws.proofs.fair_runs.no_fair_run_is_stale.Goals as goal

pub returns : goal.returns
returns c = λ sli. yard_no_stale
