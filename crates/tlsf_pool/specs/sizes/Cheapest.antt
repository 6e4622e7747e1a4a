-- How the least way of cutting kinds is found, from their ends.
use Rattle.std.specs.Prelude.{◌≡◌, ℕ, ◌+◌, ◌*◌, ◌<◌, ◌≤◌, ◌^◌, List, [], ◌∷◌, length, drop, get_or, set, Option, Some, None, nat_lt, if◌then◌else◌}
use Rattle.tlsf_pool.specs.declared.kind.Kind.{Kind}
use Rattle.tlsf_pool.specs.sizes.Splits.{IsCut, IsLeastAmong, HasAtMost}
use Rattle.tlsf_pool.specs.declared.sizes.split.Split.{Split}

-- the one of fewer words
abbrev pub cheaper : Option Split → Option Split → Option Split
cheaper None other = other
cheaper (Some split) None = Some split
cheaper (Some split) (Some other) = if nat_lt other.words split.words then Some other else Some split

-- a split with a first heap more, for this many kinds, of that many words
abbrev pub with_first : ℕ → Option ℕ → Option Split → Option Split
with_first len None rest = None
with_first len (Some words) None = None
with_first len (Some words) (Some rest) = Some (record { heaps = rest.heaps + 1; lens = set rest.lens rest.heaps len; words = words + rest.words })

-- of the ways that are sought this is the one of the fewest words, or there is none
abbrev pub IsBestAmong : ℕ → (List (List Kind) → Type 0) → List Kind → Option Split → Type 0
IsBestAmong sli IsSought kinds None = (parts : List (List Kind)) → IsCut sli kinds parts → ¬ (IsSought parts)
IsBestAmong sli IsSought kinds (Some split) = IsLeastAmong sli IsSought kinds split

-- of those into at most this many heaps
abbrev pub IsBest : ℕ → ℕ → List Kind → Option Split → Type 0
IsBest sli heaps = IsBestAmong sli (HasAtMost heaps)

-- the first heap has at most this many kinds
abbrev pub HasFirst : ℕ → ℕ → List (List Kind) → Type 0
HasFirst heaps most [] = ⊥
HasFirst heaps most (part ∷ parts) = (length part ≤ most) × (length parts ≤ heaps)

-- a split has room for this many heaps, and its words are few
pub record IsSmall (heaps : ℕ) (split : Split) : Type 0 where
  pub few : split.heaps ≤ heaps
  pub words : split.words ≤ 2 ^ 24 * split.heaps
  pub room : length split.lens ≡ 8

abbrev pub AreSmall : ℕ → Option Split → Type 0
AreSmall heaps None = Unit {0}
AreSmall heaps (Some split) = IsSmall heaps split

-- the best of what is left of the kinds after each number of them
abbrev pub AreBest : ℕ → ℕ → List Kind → List (Option Split) → Type 0
AreBest sli heaps kinds row = (k : ℕ) → k < length row → IsBest sli heaps (drop k kinds) (get_or row k None) × AreSmall heaps (get_or row k None)
