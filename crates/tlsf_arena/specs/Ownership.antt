-- Ownership of the free grains and of a piece. b is the object that holds the region.
use Rattle.std.specs.Prelude.{◌≡◌, ℕ, zero, suc, ◌+◌, ◌-◌, ◌*◌, ◌/◌, Bool, true, false, List, [], ◌∷◌}
use mir.Syntax.{Ty, Width, ty_int, ty_array}
use mir.Val.{bytes}
use prog.Align.{align_w}
use prog.Memory.{size}
use base.Fml.{GName, Fml, ftrue, fsep, fex, fwand, froom}
use denote.RawPtr.{Ptr, block_ptr}
use Rattle.linked_list_allocator.specs.Region.{Region}
use Rattle.linked_list_allocator.specs.Ownership.{units_of}
use Rattle.tlsf_arena.specs.Loans.{Loan, name_of, units_of as units_in, right}
use Rattle.tlsf_arena.specs.Units.{piece_size, units_for, IsPiece}

-- the grains that are free, of those from x on
abbrev pub free_rooms : ℕ → ℕ → List Bool → Fml
free_rooms b x [] = ftrue
free_rooms b x (true ∷ free) = fsep (froom (units_of 16) b x) (free_rooms b (x + 16) free)
free_rooms b x (false ∷ free) = free_rooms b (x + 16) free

-- n bytes, as integers of a width that divides n
abbrev pub ints : Width → ℕ → Ty
ints w n = ty_array (ty_int w) (n / bytes w)

-- of each of k grains from x on, the way back from room for its integers
abbrev pub ways : Width → ℕ → ℕ → ℕ → Fml
ways w b x zero = ftrue
ways w b x (suc k) = fsep (fwand (froom (ints w 16) b x) (froom (units_of 16) b x)) (ways w b (x + 16) k)

-- the bytes of the piece at p behind a τ that lies there, and the way back from room for integers
abbrev pub behind : Ty → ℕ → ℕ → ℕ → Fml
behind τ b at n = fsep (froom (ints (align_w τ) (n - size τ)) b (at + size τ)) (ways (align_w τ) b at (n / 16))

-- the way back from the room for a τ at p to the piece of an arena over r, in units of u bytes
abbrev pub block_token : ℕ → Region → Ty → Ptr → Fml
block_token u r τ p = fex ℕ (λ at. fex (IsPiece r p at (piece_size u (size τ))) (λ _. behind τ r.block at (piece_size u (size τ))))

-- where an arena's blocks lie, and the book in which they stand
abbrev pub Home : Type 0
Home = Region × GName

-- the loan of the block at p that has the units for n bytes
abbrev pub IsLoanAt : ℕ → Region → Ptr → ℕ → Loan → Type 0
IsLoanAt u r p n t = (p ≡ block_ptr r.block (r.start + u * (name_of t).at)) × (units_in t ≡ units_for u n)

-- the right to give the block at p, for which n bytes were asked, back to an arena
abbrev pub right_at : ℕ → Home → Ptr → ℕ → Fml
right_at u h p n = fex Loan (λ t. fex (IsLoanAt u h.0 p n t) (λ _. right h.1 t))

-- what std's token is: the way back to the piece, and the right
abbrev pub whole_token : ℕ → Home → Ty → Ptr → Fml
whole_token u h τ p = fsep (block_token u h.0 τ p) (right_at u h p (size τ))
