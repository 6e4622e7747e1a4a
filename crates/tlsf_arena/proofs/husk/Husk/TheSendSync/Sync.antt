-- A `&` to a husk shows nothing that names a thread, as the husk owns nothing that does.
use denote.Param.Send.{IsSync, part_keyless}
use Rattle.tlsf_arena.specs.contracts.husk.Husk.{the_row}
use Rattle.tlsf_arena.proofs.husk.Husk.TheSendSync.Send.{send}

pub sync : IsSync the_row
sync = record { shared = λ d b o κ q. part_keyless the_row send q d b o }
