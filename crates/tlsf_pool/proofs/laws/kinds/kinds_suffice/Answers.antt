use Rattle.tlsf_pool.proofs.lemmas.laws.Inventories.{inventory_live}
use Rattle.tlsf_pool.proofs.lemmas.laws.Orders.{order_is_nothing}
use Rattle.tlsf_pool.proofs.lemmas.laws.PlannedCalls.{kinds_suffice, one_kind, resized_suffice}
use Rattle.tlsf_pool.proofs.lemmas.laws.Tables.{empty_are_nothing}
use Rattle.tlsf_pool.proofs.laws.kinds.kinds_suffice.Goals as goal

pub returns : goal.returns
returns c = record { room = kinds_suffice; resized = resized_suffice; empty = empty_are_nothing; order = order_is_nothing; one = one_kind; held = inventory_live }
