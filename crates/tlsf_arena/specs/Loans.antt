-- Which blocks are out. Each that is has a right, which its holder has, and the book keeps the rights of all others.
use Rattle.std.specs.Prelude.{◌≡◌, ℕ, Bool, true, false, ◌*◌, ◌&&◌, ◌||◌, ◌==◌, List, [], ◌∷◌, if◌then◌else◌}
use mathlib.Core.Option.{Option, none, some}
use mathlib.Core.Bool.{not}
use base.Algebra.{Algebra}
use base.Algebras.{exclusive, maybe, each}
use base.SetCodes.{coded}
use base.Stored.{Coded, coded_unit, coded_ℕ, coded×}
use base.Fml.{GName, Fml, fown}
use Rattle.tlsf_heap.specs.Blocks.{HeapState}
use Rattle.tlsf_heap.specs.declared.name.Name.{Name}
use Rattle.tlsf_arena.specs.Arenas.{Holds}

-- a block's name, as its heap, place and serial, and the units that it has
abbrev pub Loan : Type 0
Loan = ℕ × (ℕ × (ℕ × ℕ))

abbrev pub coded_loan : Coded Loan
coded_loan = coded× coded_ℕ (coded× coded_ℕ (coded× coded_ℕ coded_ℕ))

abbrev pub loan_of : Name → ℕ → Loan
loan_of name k = (name.heap, (name.at, (name.serial, k)))

abbrev pub name_of : Loan → Name
name_of t = record { heap = t.0; at = t.1.0; serial = t.1.1.0 }

abbrev pub units_of : Loan → ℕ
units_of t = t.1.1.1

-- n bytes under this name, in units of u bytes
abbrev pub IsLoan : ℕ → Loan → Name → ℕ → Type 0
IsLoan u t name n = (name_of t ≡ name) × (n ≡ u * units_of t)

abbrev pub same_loan : Loan → Loan → Bool
same_loan t s = (t.0 == s.0) && ((t.1.0 == s.1.0) && ((t.1.1.0 == s.1.1.0) && (t.1.1.1 == s.1.1.1)))

-- whether a block is one of these
abbrev pub is_out : List Loan → Loan → Bool
is_out [] t = false
is_out (s ∷ out) t = same_loan s t || is_out out t

abbrev pub without : Loan → List Loan → List Loan
without t [] = []
without t (s ∷ out) = if same_loan t s then without t out else (s ∷ without t out)

-- a heap has each block that is out
abbrev pub IsBook : List Loan → HeapState → Type 0
IsBook out h = (t : Loan) → is_out out t ≡ true → Holds h (name_of t) (units_of t)

-- ---- what rights and the book own

abbrev pub rights : Algebra
rights = each coded_loan (maybe (exclusive (coded coded_unit)))

-- one right for each loan of which the test holds
abbrev pub row : (Loan → Bool) → Loan → Option (Unit {0})
row p t = if p t then some tt else none

abbrev pub right : GName → Loan → Fml
right γ t = fown rights γ (row (same_loan t))

abbrev pub rest_of : GName → List Loan → Fml
rest_of γ out = fown rights γ (row (λ t. not (is_out out t)))
