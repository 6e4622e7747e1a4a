-- How a row of places is divided, from its end, by the fewest words.
use Rattle.std.specs.Prelude.{◌≡◌, ℕ, zero, suc, ◌+◌, ◌-◌, ◌*◌, ◌<◌, ◌≤◌, ◌^◌, ◌⊎◌, ⊤, List, [], ◌∷◌, ◌++◌, Option, get_or, set, length, nat_lt, if◌then◌else◌}
use Rattle.tlsf_heap.specs.declared.name.Name.{Name}
use Rattle.tlsf_calls.specs.declared.entry.Entry.{Entry}
use Rattle.tlsf_held.specs.KindLines.{kinds_text}
use Rattle.tlsf_held.specs.Merges.{heaps_of, row_words, starts_at}
use Rattle.tlsf_held.specs.RowTallies.{table_of}
use Rattle.tlsf_held.specs.Steps.{row_between, steps_told}
use Rattle.tlsf_held.specs.declared.row.Row.{Row}
use Rattle.tlsf_held.specs.declared.steps.Step.{Step}
use Rattle.tlsf_pool.specs.declared.sizes.split.Split.{Split}

-- ---- divisions

-- parts of these lengths in turn, from a place on, end at a place
abbrev pub Divide : (count at : ℕ) → List ℕ → Type 0
Divide count at [] = at ≡ count
Divide count at (n ∷ lens) = (0 < n) × (at + n ≤ count) × Divide count (at + n) lens

-- the words of these parts, each of which has some by its two ends
abbrev pub words_by : (ℕ → ℕ → ℕ) → (at : ℕ) → List ℕ → ℕ
words_by cost at [] = 0
words_by cost at (n ∷ lens) = cost at (at + n) + words_by cost (at + n) lens

-- ---- how the best is found

-- the words of a part, as a table has them
abbrev pub cost_in : List (List ℕ) → ℕ → ℕ → ℕ
cost_in costs at end = get_or (get_or costs at []) (end - 1) 0

-- at most 64 places, each of small words
pub record AreSmall (costs : List (List ℕ)) : Type 0 where
  pub few : length costs ≤ 64
  pub small : (at last : ℕ) → get_or (get_or costs at []) last 0 ≤ 2 ^ 32

-- and a row of splits, one from each of them on and one more
pub record HasCells (costs : List (List ℕ)) (row : List Split) : Type 0 where
  pub costs_are : AreSmall costs
  pub whole : length row ≡ length costs + 1

-- the lengths that a split has, the last of this many first
abbrev pub lens_in : ℕ → List ℕ → List ℕ
lens_in zero lens = []
lens_in (suc heaps) lens = get_or lens heaps 0 ∷ lens_in heaps lens

abbrev pub lens_of : Split → List ℕ
lens_of split = lens_in split.heaps split.lens

-- the one of fewer words
abbrev pub cheaper : Split → Split → Split
cheaper split other = if nat_lt other.words split.words then other else split

-- a split with a first part more, of such a length, and of this many words
abbrev pub with_first : Split → ℕ → ℕ → Split
with_first rest len words = record { heaps = rest.heaps + 1; lens = set rest.lens rest.heaps len; words = rest.words + words }

-- of the divisions from a place on that are sought, this is the one of the fewest words, and it is small
pub record IsBestAmong (cost : ℕ → ℕ → ℕ) (count heaps at : ℕ) (IsSought : List ℕ → Type 0) (split : Split) : Type 0 where
  pub divide : Divide count at (lens_of split)
  pub words : split.words ≡ words_by cost at (lens_of split)
  pub least : (lens : List ℕ) → Divide count at lens → IsSought lens → split.words ≤ words_by cost at lens
  pub few : split.heaps ≤ heaps
  pub room : length split.lens ≡ 8
  pub small : split.words ≤ 2 ^ 32 * split.heaps

-- of those into at most this many parts
abbrev pub HasAtMost : ℕ → List ℕ → Type 0
HasAtMost heaps lens = length lens ≤ heaps

abbrev pub IsBest : (ℕ → ℕ → ℕ) → (count heaps at : ℕ) → Split → Type 0
IsBest cost count heaps at = IsBestAmong cost count heaps at (HasAtMost heaps)

-- at most this many parts, or one more after a first one that ends at most here
abbrev pub HasFirst : (heaps at last : ℕ) → List ℕ → Type 0
HasFirst heaps at last [] = ⊤
HasFirst heaps at last (n ∷ lens) = (length lens + 1 ≤ heaps) ⊎ ((at + n ≤ last) × (length lens ≤ heaps))

-- of no part
abbrev pub nothing : Split
nothing = record { heaps = 0; lens = 0 ∷ (0 ∷ (0 ∷ (0 ∷ (0 ∷ (0 ∷ (0 ∷ (0 ∷ []))))))); words = 0 }

-- what stands for a split that isn't there
abbrev pub no_split : Split
no_split = record { heaps = 0; lens = []; words = 0 }

-- a row of splits has the best from each place on
abbrev pub AreBest : (ℕ → ℕ → ℕ) → (count heaps : ℕ) → List Split → Type 0
AreBest cost count heaps row = (k : ℕ) → k ≤ count → IsBest cost count heaps k (get_or row k no_split)

-- ---- rows merged so

-- the row that rows of a table are merged into, from one number on, below another
abbrev pub part_row : List Step → List Row → (at end : ℕ) → Row
part_row steps table at end = row_between steps (starts_at table at) (starts_at table end)

abbrev pub part_words : (sli : ℕ) → List Step → List Row → (at end : ℕ) → ℕ
part_words sli steps table at end = row_words sli (part_row steps table at end)

-- all of them
abbrev pub rows_by : List Step → List Row → (at : ℕ) → List ℕ → List Row
rows_by steps table at [] = []
rows_by steps table at (n ∷ lens) = part_row steps table at (at + n) ∷ rows_by steps table (at + n) lens

-- the costs of a table
pub record AreCosts (sli : ℕ) (steps : List Step) (table : List Row) (costs : List (List ℕ)) : Type 0 where
  pub many : length costs ≡ length table
  pub are : (at last : ℕ) → at ≤ last → last < length table → cost_in costs at (last + 1) ≡ part_words sli steps table at (last + 1)
  pub small : (at last : ℕ) → get_or (get_or costs at []) last 0 ≤ 2 ^ 32

-- of all ways of merging the rows of a table this one has the fewest words
pub record IsCheapest (sli heaps : ℕ) (steps : List Step) (table rows : List Row) : Type 0 where
  pub lens : List ℕ
  pub divide : Divide (length table) 0 lens
  pub rows_are : rows ≡ rows_by steps table 0 lens
  pub few : length lens ≤ heaps
  pub least : (others : List ℕ) → Divide (length table) 0 others → length others ≤ heaps
      → words_by (part_words sli steps table) 0 lens ≤ words_by (part_words sli steps table) 0 others

-- a text has the lines of the workers below a number more, each of its table merged
pub record AddsMerged (sli heaps workers : ℕ) (made : List (Option Name)) (entries : List Entry) (old new : List ℕ) : Type 0 where
  pub tables : ℕ → List Row
  pub each : (j : ℕ) → j < workers → IsCheapest sli (heaps_of heaps) (steps_told j made entries) (table_of sli j made entries) (tables j)
  pub written : new ≡ old ++ kinds_text sli tables workers
