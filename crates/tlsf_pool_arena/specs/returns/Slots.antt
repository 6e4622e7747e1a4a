-- The content of each slot, and the knowledge of each seat of it.
use Rattle.std.specs.Prelude.{◌≡◌, ℕ, List, [], map, Option, Some, None, replicate}
use mathlib.Core.Option.{some, none}
use mathlib.Core.Option as maybe
use lib.ListN.{get_elem?}
use Rattle.atomic_table.specs.Table.{State}
use Rattle.tlsf_pool_arena.specs.declared.returns.role.Role.{Role}
use Rattle.tlsf_pool_arena.specs.declared.returns.role.Role.TheVariants.{Owns, Sends, Takes, Away, Puts, Gave}

-- a slot is free, or its value is away with the seat of that number. Or that seat is putting the value back, or the value is home,
-- or the owner has it in hand
pub data Spot (T : Type 0) : Type 0 where
  idle : Spot T
  away : ℕ → T → Spot T
  moving : ℕ → T → Spot T
  home : T → Spot T
  taken : T → Spot T

module _ {T : Type 0} where
  -- its word: 1 once the value is home
  abbrev pub word_of : Spot T → ℕ
  word_of idle = 0
  word_of (away id x) = 0
  word_of (moving id x) = 0
  word_of (home x) = 1
  word_of (taken x) = 1

  -- its home, where no seat has it in hand
  abbrev pub home_of : Spot T → maybe.Option (Option T)
  home_of idle = some None
  home_of (away id x) = some None
  home_of (moving id x) = none
  home_of (home x) = some (Some x)
  home_of (taken x) = none

  -- the value that went out by it, until the owner has let the slot go
  abbrev pub value_at : Spot T → Option T
  value_at idle = None
  value_at (away id x) = Some x
  value_at (moving id x) = Some x
  value_at (home x) = Some x
  value_at (taken x) = Some x

  -- the owner knows what is away by each slot, and has no slot in hand but this one
  pub record OwnerFits (spots : List (Spot T)) (owner id : ℕ) (out : List (Option T)) (hand : ℕ → Type 0) : Type 0 where
    pub owns : id ≡ owner
    pub out_is : out ≡ map value_at spots
    pub in_hand : (k : ℕ) (x : T) → get_elem? spots k ≡ some (taken x) → hand k

  -- what the seat of that number knows is so
  abbrev pub Fits : List (Spot T) → ℕ → ℕ → Role T → Type 0
  Fits spots owner id (Owns out looks) = OwnerFits spots owner id out (λ k. ⊥)
  Fits spots owner id (Sends out looks at x) = OwnerFits spots owner id out (λ k. ⊥) × (get_elem? spots at ≡ some idle)
  Fits spots owner id (Takes out looks at) = OwnerFits spots owner id out (λ k. k ≡ at) × ((x : T) × (get_elem? spots at ≡ some (taken x)))
  Fits spots owner id (Away at x) = get_elem? spots at ≡ some (away id x)
  Fits spots owner id (Puts at x) = get_elem? spots at ≡ some (moving id x)
  Fits spots owner id (Gave at x) = Unit {0}

  -- the words and the homes are those of the slots, and what each seat knows is so
  pub record Kept (s : State (Option T) (Role T)) : Type 0 where
    pub spots : List (Spot T)
    pub owner : ℕ
    pub words : s.words ≡ map word_of spots
    pub homes : s.homes ≡ map home_of spots
    pub fits : (id : ℕ) (v : Role T) → get_elem? s.views id ≡ some v → Fits spots owner id v

  -- at first nothing is away by any of n slots
  abbrev pub first_role : ℕ → Role T
  first_role n = Owns (replicate n None) []
