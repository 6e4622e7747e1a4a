-- A block that comes back is the one that was given: one of its name, its piece and its right.
use Rattle.tlsf_arena.proofs.Common.{◌≡◌, ℕ, ◌+◌, ◌*◌, IsLoan}
use mathlib.Core.HLevel.{is_prop→PathP}
use Rattle.std.proofs.Props.{props}
use Rattle.tlsf_arena.specs.declared.block.Block.{Block}
use Rattle.tlsf_arena.specs.declared.piece.Piece.{Piece}
use Rattle.tlsf_arena.specs.declared.right.Right.{Right}

pub same_block : (u : ℕ) (p : Piece) (r : Right) (b : Block u) (m : p.at ≡ p.region.start + u * b.name.at) (l : IsLoan u r.loan b.name p.size) → p ≡ b.piece → r ≡ b.right
    → ◌≡◌ {A = Block u} (record { name = b.name; piece = p; right = r; matched = m; entered = l }) b
same_block u p r b m l e f = λ i. record {
  name = b.name;
  piece = e i;
  right = f i;
  matched = is_prop→PathP (λ j. (e j).at ≡ (e j).region.start + u * b.name.at) (λ j. hlevel props) m b.matched i;
  entered = is_prop→PathP (λ j. IsLoan u (f j).loan b.name (e j).size) (λ j. hlevel props) l b.entered i;
}
