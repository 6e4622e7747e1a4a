use Rattle.tlsf_post.proofs.Common.{◌≡◌, KeepsOwner, got_by, owner_extent}
use Rattle.tlsf_post.proofs.owner_end.OwnerEnd.wait_empty.Given as goal

abbrev pub invariant-loop : goal.invariant-loop
invariant-loop g l = KeepsOwner l.fn.self l.self × (owner_extent l.self ≡ owner_extent l.fn.self) × (got_by l.self ≡ got_by l.fn.self)
