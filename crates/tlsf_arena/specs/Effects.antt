-- The effect of one call of an arena, told once: each function that says it cites it.
use Rattle.std.specs.Prelude.{◌≡◌, ◌≢◌, ℕ, ◌+◌, ◌*◌, ◌≤◌, Result, Ok, Err, IfErr, OnErr}
use base.Fml.{GName}
use denote.RawPtr.{Ptr, count_of}
use Rattle.linked_list_allocator.specs.Region.{Region}
use Rattle.tlsf_heap.specs.Calls.{released}
use Rattle.tlsf_heap.specs.Lawful.{IsLawful}
use Rattle.tlsf_heap.specs.declared.name.Name.{Name}
use Rattle.tlsf_heap.specs.declared.refusal.Refusal.{Refusal}
use Rattle.tlsf_heap.specs.declared.refusal.Refusal.TheVariants.{Foreign, Stale, Worn}
use Rattle.tlsf_arena.specs.Arenas.{ArenaState, Holds, IsFoundByGuess, SameArena, SameHome, refitted}
use Rattle.tlsf_arena.specs.Loans.{IsLoan, name_of, units_of}
use Rattle.tlsf_arena.specs.Units.{IsPiece}
use Rattle.tlsf_arena.specs.declared.block.Block.{Block}
use Rattle.tlsf_arena.specs.declared.piece.Piece.{Piece}
use Rattle.tlsf_arena.specs.declared.right.Right.{Right}

-- ---- what a call is given

-- the block lies in this memory, and its right is of this book
abbrev pub HasHome : {u : ℕ} → Region → GName → Block u → Type 0
HasHome region book b = (b.piece.region ≡ region) × (b.right.book ≡ book)

-- the piece and the right of the block of a name that is out of an arena, in units of u bytes
pub record IsLent (u : ℕ) (a : ArenaState) (name : Name) (piece : Piece) (right : Right) : Type 0 where
  pub region : piece.region ≡ a.region
  pub book : right.book ≡ a.book
  pub loan : IsLoan u right.loan name piece.size
  pub place : piece.at ≡ piece.region.start + u * name.at

-- the right of the block of a name, which has this many bytes
pub record IsRightFor (u : ℕ) (a : ArenaState) (name : Name) (right : Right) (bytes : ℕ) : Type 0 where
  pub book : right.book ≡ a.book
  pub loan : IsLoan u right.loan name bytes

-- the right of the block at an address of the arena's memory, which has this many bytes
pub record IsRightAt (u : ℕ) (a : ArenaState) (ptr : Ptr) (right : Right) (bytes : ℕ) : Type 0 where
  pub place : IsPiece a.region ptr (count_of ptr) bytes
  pub book : right.book ≡ a.book
  pub begins : count_of ptr ≡ a.region.start + u * (name_of right.loan).at
  pub long : bytes ≡ u * units_of right.loan

-- ---- what it answers

-- the answer of a call that hands something out, or back with a refusal
abbrev pub answer_of : {A E : Type 0} → (E → Refusal) → Result A E → Result (Unit {0}) Refusal
answer_of why (Ok given) = Ok tt
answer_of why (Err e) = Err (why e)

-- ---- what it takes

-- this many touches of the heap at most, and no comparison of addresses
pub record Takes (most : ℕ) (old new : ArenaState) : Type 0 where
  pub touches : new.touches ≤ old.touches + most
  pub touches_rise : old.touches ≤ new.touches
  pub compared : new.compared ≡ old.compared

-- this many touches at most, and 27 comparisons, however many units there are. One is made where the first guess is the place, and
-- two where the second is
pub record Seeks (most at : ℕ) (guesses : ℕ × ℕ) (old new : ArenaState) : Type 0 where
  pub touches : new.touches ≤ old.touches + most
  pub touches_rise : old.touches ≤ new.touches
  pub compared : new.compared ≤ old.compared + 27
  pub guessed : IsFoundByGuess at guesses old.compared new.compared

-- ---- what it leaves

-- a look, of this many touches at most, compares no address: the arena is the same
pub record Looks (most : ℕ) (old new : ArenaState) : Type 0 where
  pub same : SameArena old new
  pub touches : new.touches ≤ old.touches + most
  pub touches_rise : old.touches ≤ new.touches
  pub compared : new.compared ≡ old.compared

-- a call on the block of a name, for which k units were wanted. The block was live, and a refusal changes nothing. Blocks of other
-- names stay held, and the memory stays
pub record OnBlock (old new : ArenaState) (name : Name) (k : ℕ) (answer : Result (Unit {0}) Refusal) : Type 0 where
  pub live : Holds old.heap name k
  pub unchanged : OnErr answer (new.heap ≡ old.heap)
  pub lawful : IsLawful new.heap
  pub others : (other : Name) (units : ℕ) → other ≢ name → Holds old.heap other units → Holds new.heap other units
  pub home : SameHome old new

-- a release of it answers and leaves what the heap does. It is refused at the last tick alone
pub record Releases (old new : ArenaState) (name : Name) (k : ℕ) (answer : Result (Unit {0}) Refusal) : Type 0 where
  pub answer_is : answer ≡ (released old.heap name).answer
  pub heap : new.heap ≡ (released old.heap name).heap
  pub worn : IfErr answer (λ why. why ≡ Worn)
  pub on : OnBlock old new name k answer

-- a resize of it to `len` bytes, in units of u bytes, answers and leaves what the heap does. The heap knows the name
pub record Resizes (u len : ℕ) (old new : ArenaState) (name : Name) (k : ℕ) (answer : Result (Unit {0}) Refusal) : Type 0 where
  pub answer_is : answer ≡ (refitted u old.heap name len).answer
  pub heap : new.heap ≡ (refitted u old.heap name len).heap
  pub named : IfErr answer (λ why. (why ≢ Stale) × (why ≢ Foreign))
  pub on : OnBlock old new name k answer
