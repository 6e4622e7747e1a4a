-- Ways to cut a table of kinds, in its order, into the tables of several heaps, each of blocks of a fixed size.
use Rattle.std.specs.Prelude.{◌≡◌, ℕ, zero, suc, ◌+◌, ◌<◌, ◌≤◌, ◌⊎◌, ⊤, List, [], ◌∷◌, ◌++◌, length, take, drop, get_or}
use Rattle.std.specs.List.{AllByRecursion}
use Rattle.tlsf_class.specs.Classes.{most_words}
use Rattle.tlsf_pool.specs.laws.FixedSize.{fixed_kinds_words}
use Rattle.tlsf_pool.specs.laws.Kinds.{HasClass}
use Rattle.tlsf_pool.specs.declared.kind.Kind.{Kind}
use Rattle.tlsf_pool.specs.declared.sizes.split.Split.{Split}

-- a region has the words that blocks of a fixed size ask for these kinds
abbrev pub HasWords : ℕ → List Kind → Type 0
HasWords sli kinds = AllByRecursion (HasClass sli) kinds × (fixed_kinds_words sli kinds ≤ most_words sli)

-- a heap has these kinds: one or more, and a region has their words
abbrev pub IsPart : ℕ → List Kind → Type 0
IsPart sli part = (0 < length part) × HasWords sli part

-- the kinds of all parts, one part after the other
abbrev pub joined : List (List Kind) → List Kind
joined [] = []
joined (part ∷ parts) = part ++ joined parts

-- a way of cutting the kinds
abbrev pub IsCut : ℕ → List Kind → List (List Kind) → Type 0
IsCut sli kinds parts = (joined parts ≡ kinds) × AllByRecursion (IsPart sli) parts

-- the words of the heaps of all parts
abbrev pub words_together : ℕ → List (List Kind) → ℕ
words_together sli [] = 0
words_together sli (part ∷ parts) = fixed_kinds_words sli part + words_together sli parts

-- the parts that these numbers cut off, the last of this many first
abbrev pub cut_by : ℕ → List ℕ → List Kind → List (List Kind)
cut_by zero lens kinds = []
cut_by (suc heaps) lens kinds = take (get_or lens heaps 0) kinds ∷ cut_by heaps lens (drop (get_or lens heaps 0) kinds)

-- the parts into which a split cuts the kinds
abbrev pub parts_of : Split → List Kind → List (List Kind)
parts_of split kinds = cut_by split.heaps split.lens kinds

-- two ways of cutting are the same; or where they first differ, the heap of the first way has fewer kinds
abbrev pub IsNoLater : List (List Kind) → List (List Kind) → Type 0
IsNoLater [] [] = ⊤
IsNoLater (part ∷ parts) (other ∷ others) = (length part < length other) ⊎ ((length part ≡ length other) × IsNoLater parts others)
IsNoLater _ _ = ⊥

-- a split is a way of cutting the kinds such as is looked for, with its words, and no such way has fewer. Of those with as few it is
-- the first
pub record IsLeastAmong (sli : ℕ) (IsSought : List (List Kind) → Type 0) (kinds : List Kind) (split : Split) : Type 0 where
  pub cut : IsCut sli kinds (parts_of split kinds)
  pub sought : IsSought (parts_of split kinds)
  pub words : split.words ≡ words_together sli (parts_of split kinds)
  pub least : (parts : List (List Kind)) → IsCut sli kinds parts → IsSought parts → split.words ≤ words_together sli parts
  pub first : (parts : List (List Kind)) → IsCut sli kinds parts → IsSought parts → words_together sli parts ≡ split.words → IsNoLater (parts_of split kinds) parts

-- it is one into at most this many heaps
abbrev pub HasAtMost : ℕ → List (List Kind) → Type 0
HasAtMost heaps parts = length parts ≤ heaps

-- it is the least of all ways of cutting the kinds into at most this many heaps
abbrev pub IsLeast : ℕ → ℕ → List Kind → Split → Type 0
IsLeast sli heaps = IsLeastAmong sli (HasAtMost heaps)

-- two splits cut the kinds into the same heaps
pub record CutAlike (kinds : List Kind) (split other : Split) : Type 0 where
  pub parts : parts_of split kinds ≡ parts_of other kinds
  pub heaps : split.heaps ≡ other.heaps
  pub words : split.words ≡ other.words

-- there is no way of cutting them so
abbrev pub HasNoCut : ℕ → ℕ → List Kind → Type 0
HasNoCut sli heaps kinds = (parts : List (List Kind)) → IsCut sli kinds parts → ¬ (HasAtMost heaps parts)
