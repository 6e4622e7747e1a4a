use Rattle.std.proofs.Common.{rules}
use Rattle.tlsf_c.proofs.lane_calls.take_name.Goals as goal

-- the name that came is that of the post that was taken
pub returns-in-Some-clause-taken : goal.returns-in-Some-clause-taken
returns-in-Some-clause-taken c done = (c.in-Some.post.from, search rules, search rules)
