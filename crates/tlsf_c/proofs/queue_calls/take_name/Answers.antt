use Rattle.std.proofs.Common.{rules}
use Rattle.tlsf_c.proofs.queue_calls.take_name.Goals as goal

-- the name that came is that of the post that was taken
pub returns-in-Ok-clause-taken : goal.returns-in-Ok-clause-taken
returns-in-Ok-clause-taken c done = (c.in-Ok.post.from, search rules)
