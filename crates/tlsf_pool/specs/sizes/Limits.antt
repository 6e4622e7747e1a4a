-- How large a table may be.
use Rattle.std.specs.Prelude.{ℕ, ◌≤◌, ◌==◌, List, length, if◌then◌else◌}
use Rattle.std.specs.List.{AllByRecursion}
use Rattle.tlsf_class.specs.Classes.{IsLevel}
use Rattle.tlsf_pool.specs.laws.Kinds.{HasClass}
use Rattle.tlsf_pool.specs.declared.kind.Kind.{Kind}

-- the most kinds of a table whose words have a number of 64 bits, however many blocks of each there are
abbrev pub most_kinds : ℕ → ℕ
most_kinds sli = if sli == 4 then 1024 else 64

-- the kinds have words that are told: there is that level, some class of it has blocks for each, and they aren't too many
pub record AreTold (sli : ℕ) (kinds : List Kind) : Type 0 where
  pub level : IsLevel sli
  pub classes : AllByRecursion (HasClass sli) kinds
  pub few : length kinds ≤ most_kinds sli

-- the kinds are no more than a table of pools has rows, and there is that level
pub record AreRows (sli : ℕ) (kinds : List Kind) : Type 0 where
  pub level : IsLevel sli
  pub few : length kinds ≤ 64

-- they may be split into this many heaps
pub record MaySplit (sli : ℕ) (kinds : List Kind) (most : ℕ) : Type 0 where
  pub level : IsLevel sli
  pub few : length kinds ≤ 64
  pub heaps : most ≤ 8
