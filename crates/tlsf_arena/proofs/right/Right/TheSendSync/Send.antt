-- A right names no thread.
use denote.Param.Send.{IsSend}
use Rattle.tlsf_arena.specs.contracts.right.Right.{the_row}

pub send : IsSend the_row
send = record { owned = λ d vs. ((λ vss. (tt, ((λ uss. (tt, tt)), tt))), tt); leaving = λ k d w. tt }
