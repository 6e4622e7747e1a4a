-- A remote block whose bytes are set.
use Rattle.std.specs.Prelude.{ℕ}
use Rattle.tlsf_arena.specs.declared.filled_block.FilledBlock.{FilledBlock}
use Rattle.tlsf_arena.specs.FilledBlocks.{block_of}
use Rattle.tlsf_pool_arena.specs.declared.parcel.Parcel.{Parcel}

-- what comes home of it
abbrev pub parcel_of : {u : ℕ} → FilledBlock u → Parcel u
parcel_of f = record { block = block_of f }
