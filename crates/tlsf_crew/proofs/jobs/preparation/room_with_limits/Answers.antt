use Rattle.std.proofs.Common.{arith}
use Rattle.tlsf_crew.proofs.jobs.preparation.room_with_limits.Goals as goal

pub overflow_add-room : goal.overflow_add-room
overflow_add-room c = omega (arith, c.requires.short)

pub loop-i-init : goal.loop-i-init
loop-i-init c = record { room = omega arith; most = omega arith }
