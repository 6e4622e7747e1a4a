-- A piece whose bytes are set.
use Rattle.std.specs.Prelude.{ℕ, List}
use Rattle.std.specs.Borrow.{Lends, MutBor, Fml, Array, u8}
use Rattle.std.specs.Vec.{with_items}
use Rattle.tlsf_arena.specs.declared.piece.Piece.{Piece}
use Rattle.tlsf_arena.specs.declared.husk.Husk.{Husk}
use Rattle.tlsf_arena.specs.declared.filled_piece.FilledPiece.{FilledPiece}
use Rattle.tlsf_arena.specs.contracts.filled_piece.FilledPiece.{the_row}

-- the piece that a husk is left of
abbrev pub piece_within : Husk → Piece
piece_within h = record { ptr = h.ptr; size = h.size; region = h.region; at = h.at; placed = h.placed }

-- its bytes, the first one first
abbrev pub bytes_of : FilledPiece → List ℕ
bytes_of f = f.vec.items

-- the piece that it is made of
abbrev pub piece_of : FilledPiece → Piece
piece_of f = piece_within f.husk

-- the same piece with these bytes
abbrev pub with_bytes : FilledPiece → List ℕ → FilledPiece
with_bytes f xs = record { vec = with_items f.vec xs; husk = f.husk; whole = f.whole }

-- f ends with the bytes that are last behind r
abbrev pub LendsBytes : MutBor FilledPiece → MutBor (List ℕ) → Fml
LendsBytes f r = Lends the_row (Array u8 0) f r (with_bytes f.now)
