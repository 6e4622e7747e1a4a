-- A block whose bytes are set.
use Rattle.std.specs.Prelude.{ℕ, List}
use Rattle.std.specs.Borrow.{Lends, MutBor, Fml, Array, u8}
use denote.RattleType.{RattleType}
use denote.Param.{value_of}
use Rattle.tlsf_arena.specs.declared.block.Block.{Block}
use Rattle.tlsf_arena.specs.declared.filled_block.FilledBlock.{FilledBlock}
use Rattle.tlsf_arena.specs.contracts.filled_block.FilledBlock.{the_row}
use Rattle.tlsf_arena.specs.FilledPieces.{piece_of, with_bytes}

-- the block that it is made of
abbrev pub block_of : {u : ℕ} → FilledBlock u → Block u
block_of f = record { name = f.name; piece = piece_of f.piece; right = f.right; matched = f.matched; entered = f.entered }

-- the same block with these bytes
abbrev pub with_block_bytes : {u : ℕ} → FilledBlock u → List ℕ → FilledBlock u
with_block_bytes f xs = record { name = f.name; piece = with_bytes f.piece xs; right = f.right; matched = f.matched; entered = f.entered }

-- f ends with the bytes that are last behind r
abbrev pub LendsBlockBytes : (U : RattleType) → MutBor (FilledBlock (value_of U)) → MutBor (List ℕ) → Fml
LendsBlockBytes U f r = Lends (the_row U) (Array u8 0) f r (with_block_bytes f.now)
