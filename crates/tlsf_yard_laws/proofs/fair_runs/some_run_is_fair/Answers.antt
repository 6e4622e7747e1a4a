use Rattle.tlsf_yard_laws.proofs.FairExample.{run_is_fair, run_is_told}
use Rattle.tlsf_yard_laws.proofs.fair_runs.some_run_is_fair.Goals as goal

pub returns : goal.returns
returns c = record { fair = run_is_fair; told = run_is_told }
