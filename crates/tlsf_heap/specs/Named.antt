-- Which block a name names, for a search by index.
use Rattle.std.specs.Prelude.{◌≡◌, ◌≢◌, ℕ, ◌<◌, List, true, false, Option, Result, length, MatchOption, MatchResult}
use Rattle.tlsf_heap.specs.Blocks.{Block, HeapState}
use Rattle.tlsf_heap.specs.GoodFit.{site_at}
use Rattle.tlsf_heap.specs.Calls.{is_named}
use Rattle.tlsf_heap.specs.Regions.{IsTagOf}
use Rattle.tlsf_words.specs.declared.tag.Tag.{Tag}
use Rattle.tlsf_heap.specs.declared.name.Name.{Name}
use Rattle.tlsf_heap.specs.declared.refusal.Refusal.{Refusal}
use Rattle.tlsf_heap.specs.declared.refusal.Refusal.TheVariants.{NoFit, Worn, Foreign, Stale, Range, NoRoom}

-- no live block begins at this place with this serial
abbrev pub NoneNamed : ℕ → ℕ → List Block → Type 0
NoneNamed at serial blocks = (i : ℕ) → i < length blocks → is_named at serial (site_at blocks i) ≡ false

-- the block at i does, and none before it
pub record IsFirst (at serial : ℕ) (blocks : List Block) (i : ℕ) : Type 0 where
  pub within : i < length blocks
  pub here : is_named at serial (site_at blocks i) ≡ true
  pub before : (j : ℕ) → j < i → is_named at serial (site_at blocks j) ≡ false

-- the answer to a search in a region of this many words. It is the tag of the live block that begins at this place with this serial
abbrev pub IsNameTest : ℕ → ℕ → ℕ → List Block → Option Tag → Type 0
IsNameTest at serial words blocks found =
    MatchOption found (NoneNamed at serial blocks) (λ tag. (first : (i : ℕ) × IsFirst at serial blocks i) × IsTagOf words (site_at blocks first.0) tag)

-- a heap has a live block of this name
abbrev pub IsNamed : HeapState → Name → Type 0
IsNamed h name = (name.heap ≡ h.id) × ((i : ℕ) × IsFirst name.at name.serial h.blocks i)

-- a heap refuses a name for this reason: it is of another heap, or no live block of this one has it
abbrev pub RefusesName : HeapState → Name → Refusal → Type 0
RefusesName h name Foreign = name.heap ≢ h.id
RefusesName h name Stale = (name.heap ≡ h.id) × NoneNamed name.at name.serial h.blocks
RefusesName h name NoFit = ⊥
RefusesName h name Worn = ⊥
RefusesName h name Range = ⊥
RefusesName h name NoRoom = ⊥

-- what the check of a name answers: the tag of its block
abbrev pub IsNameCheck : HeapState → Name → Result Tag Refusal → Type 0
IsNameCheck h name answer = MatchResult answer (λ tag. (is_named : IsNamed h name) × IsTagOf h.words (site_at h.blocks is_named.1.0) tag) (RefusesName h name)
