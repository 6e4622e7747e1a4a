use Rattle.tlsf_pool.proofs.lemmas.laws.FreeRoom.{finds_room}
use Rattle.tlsf_pool.proofs.lemmas.laws.TightRuns.{room_tight}
use Rattle.tlsf_pool.proofs.laws.room.enough_free_words_serve.Goals as goal

pub returns : goal.returns
returns c = record { room = finds_room; tight = room_tight }
