use Rattle.std.proofs.Common.{arith}
use Rattle.tlsf_calls.proofs.Padding.{bytes_back}
use Rattle.tlsf_calls.proofs.chunk.Chunk.new.Goals as goal

pub returns-clause-bytes : goal.returns-clause-bytes
returns-clause-bytes c = rw c.with_zeros.ensures (bytes_back c.args.bytes.now (omega arith))
