use Rattle.std.proofs.Common.{vec_len}
use Rattle.tlsf_crew.proofs.jobs.fan_out.+fan_out.Given as goal

abbrev pub decreases-fan_out : goal.decreases-fan_out
decreases-fan_out g l = vec_len l.jobs.now
