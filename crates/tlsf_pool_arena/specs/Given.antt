-- The view of a receipt for a block.
use Rattle.std.specs.Prelude.{ℕ}
use Rattle.tlsf_pool_arena.specs.declared.parcel.Parcel.{Parcel}
use Rattle.tlsf_pool_arena.specs.returns.Ends.{IsReceiptFor}
use Rattle.tlsf_pool_arena.specs.declared.returns.slots.Slots.{Slots}
use Rattle.tlsf_pool_arena.specs.declared.returns.receipt.Receipt.{Receipt}

-- by some slot the block was given back
abbrev pub IsGivenBack : {u : ℕ} → Slots (Parcel u) → Parcel u → Receipt (Parcel u) → Type 0
IsGivenBack slots b r = (at : ℕ) × IsReceiptFor slots at b r
