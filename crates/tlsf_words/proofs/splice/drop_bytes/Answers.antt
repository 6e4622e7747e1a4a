use Rattle.std.proofs.Common.{arith}
use Rattle.tlsf_words.proofs.Splices.{dropped_bytes}
use Rattle.tlsf_words.proofs.splice.drop_bytes.Goals as goal

pub returns : goal.returns
returns c = dropped_bytes c.args.word c.args.n (omega arith)
