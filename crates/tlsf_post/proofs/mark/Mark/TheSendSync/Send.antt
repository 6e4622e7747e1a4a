-- A mark owns nothing, so it says the same to every thread.
use denote.RattleType.{RattleType}
use denote.Param.Send.{IsSend}
use Rattle.tlsf_post.specs.contracts.mark.Mark.{the_row}

pub send : (T : RattleType) → IsSend (the_row T)
send T = record { owned = λ d vs. ((λ vss. (tt, ((λ uss. (tt, tt)), tt))), tt); leaving = λ k f vs. tt }
