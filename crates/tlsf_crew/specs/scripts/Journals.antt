-- A journal: the posts of a drain that it admits, and the entries for them. This serves the contracts and proofs of private
-- functions alone.
use Rattle.std.specs.Prelude.{◌≡◌, ◌≢◌, ℕ, ◌+◌, ◌<◌, ◌≤◌, List, [], ◌∷◌, ◌++◌, slice_index, Option, Some, None, vec_len, vec_capacity}
use Rattle.tlsf_crew.specs.Common.{Took, Take, Taken, Journal}
use Rattle.tlsf_crew.specs.model.Sums.{sum_of}

-- one post more may be taken
abbrev pub IsAdmitted : Journal → ℕ → Type 0
IsAdmitted journal source = (source < 8) × (0 < slice_index journal.limits source)

-- there is room for an entry of each post that may be taken
abbrev pub HasTakePlaces : Journal → Type 0
HasTakePlaces journal = vec_len journal.entries + sum_of journal.limits ≤ vec_capacity journal.entries

-- one fewer may be taken from i
abbrev pub OneFewer : List ℕ → ℕ → List ℕ → Type 0
OneFewer limits i left = (slice_index left i + 1 ≡ slice_index limits i) × ((k : ℕ) → k ≢ i → slice_index left k ≡ slice_index limits k)

-- the worker that the entry of a take names: the sender of its post, where a source is not one worker's
abbrev pub named_by : Option ℕ → ℕ → ℕ
named_by None source = source
named_by (Some from) source = from

-- the entry of the take, of a post of that worker, stands after the others
pub record IsEntered (old : Journal) (at source from : ℕ) (took : Took) (new : Journal) : Type 0 where
  pub near : source < 8
  pub fewer : OneFewer old.limits source new.limits
  pub entries : new.entries.items ≡ old.entries.items ++ record { worker = at; call = Take from; reply = Taken took } ∷ []
  pub capacity : vec_capacity new.entries ≡ vec_capacity old.entries

-- the entry of the take of a source, of a post of this sender where the source is not one worker's
abbrev pub EntersTake : Journal → ℕ → ℕ → Option ℕ → Took → Journal → Type 0
EntersTake old at source sender took new = IsEntered old at source (named_by sender source) took new
