use Rattle.tlsf_yard_laws.proofs.AloneDrains.{race_runs_alone}
use Rattle.tlsf_crew.proofs.lemmas.race_laws.OneRace.{race_is_one}
use Rattle.tlsf_yard_laws.proofs.without_takes.race_without_takes.Goals as goal

pub returns : goal.returns
returns c = record { one = race_is_one; alone = race_runs_alone }
