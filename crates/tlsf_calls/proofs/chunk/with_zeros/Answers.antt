use Rattle.std.proofs.Common.{◌++◌, ap, length}
use Rattle.std.proofs.lemmas.List.{drop-replicate}
use Rattle.tlsf_calls.proofs.chunk.with_zeros.Goals as goal

pub returns : goal.returns
returns c = rw c.copy_from_slice.ensures.after (ap (λ l. c.args.bytes.now ++ l) (drop-replicate (length c.args.bytes.now) 64 0))
