-- Several names at once out of a lane.
use Rattle.std.specs.Prelude.{◌≡◌, ℕ, List, ◌++◌, Option, Some, None, length, map, take}
use mathlib.Core.List.{IsPrefix}
use Rattle.tlsf_post.specs.Lanes.{taken, ready, KeepsTake}
use Rattle.tlsf_post.specs.declared.post.Post.{Post}
use Rattle.tlsf_post.specs.declared.take_end.TakeEnd.{TakeEnd}
use Rattle.tlsf_c.specs.Names.{name_of}
use Rattle.tlsf_c.specs.declared.names.BlockName.{BlockName}

-- the next posts were taken, and have the names in the first `count` places, in their order
abbrev pub HasTakenFirst : TakeEnd → TakeEnd → ℕ → List BlockName → Type 0
HasTakenFirst old new count names = (posts : List Post) × (taken new ≡ taken old ++ posts) × IsPrefix (ready old) (posts ++ ready new)
    × (map (λ p. p.name) posts ≡ map name_of (take count names))

-- the next posts were taken, and these are their names, in their order. It stays an end of its lane
pub record TakesThese (old new : TakeEnd) (names : List BlockName) : Type 0 where
  pub lane : KeepsTake old new
  pub taken : HasTakenFirst old new (length names) names

abbrev pub TakesFirst : Option TakeEnd → Option TakeEnd → ℕ → List BlockName → Type 0
TakesFirst (Some old) (Some new) count names = HasTakenFirst old new count names
TakesFirst (Some old) None count names = ⊥
TakesFirst None new count names = ⊥
