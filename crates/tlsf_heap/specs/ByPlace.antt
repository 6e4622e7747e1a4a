-- Calls on the live block that begins at a place, whatever its serial.
use Rattle.std.specs.Prelude.{◌≡◌, ℕ, List, Option, Some, None, Result, false, length, min, MatchOption, MatchResult}
use Rattle.tlsf_heap.specs.Blocks.{Block, HeapState, is_free, StandsAt}
use Rattle.tlsf_heap.specs.Calls.{Outcome, refused, released, resized}
use Rattle.tlsf_heap.specs.InPlace.{payload_of}
use Rattle.tlsf_heap.specs.Moved.{resized_or_moved}
use Rattle.tlsf_heap.specs.GoodFit.{block_at, site_at}
use Rattle.tlsf_heap.specs.Placed.{placed_at}
use Rattle.tlsf_heap.specs.Regions.{IsTagOf}
use Rattle.tlsf_words.specs.declared.tag.Tag.{Tag}
use Rattle.tlsf_heap.specs.declared.name.Name.{Name}
use Rattle.tlsf_heap.specs.declared.placed_block.PlacedBlock.{PlacedBlock}
use Rattle.tlsf_heap.specs.declared.placed_block.Content.{Content}
use Rattle.tlsf_heap.specs.declared.placed_block.Content.TheVariants as content
use Rattle.tlsf_heap.specs.declared.refusal.Refusal.{Refusal}
use Rattle.tlsf_heap.specs.declared.refusal.Refusal.TheVariants.{Stale}

-- the serial of what a block holds, none where it is free
abbrev pub serial_of : Content → Option ℕ
serial_of (content.Live serial length) = Some serial
serial_of (content.Free stamp) = None

abbrev pub serial_in : Option PlacedBlock → Option ℕ
serial_in None = None
serial_in (Some b) = serial_of b.content

-- the serial of the live block that begins at this place, if one does
abbrev pub serial_at : List Block → ℕ → Option ℕ
serial_at blocks at = serial_in (placed_at blocks at)

abbrev pub name_with : ℕ → ℕ → Option ℕ → Option Name
name_with id at None = None
name_with id at (Some serial) = Some (record { heap = id; at = at; serial = serial })

-- its name
abbrev pub name_at : HeapState → ℕ → Option Name
name_at h at = name_with h.id at (serial_at h.blocks at)

-- a call with a name, refused as Stale where there is none
abbrev pub call_by : {A : Type 0} → HeapState → (Name → Outcome A) → Option Name → Outcome A
call_by h call None = refused h Stale
call_by h call (Some name) = call name

-- the release of the live block that begins at a place
abbrev pub released_by_place : HeapState → ℕ → Outcome (Unit {0})
released_by_place h at = call_by h (released h) (name_at h at)

-- its resize to `len` bytes
abbrev pub resized_by_place : HeapState → ℕ → ℕ → Outcome (Unit {0})
resized_by_place h at len = call_by h (λ name. resized h name len) (name_at h at)

-- that block gets `len` bytes where it stands, and where there is no room it is moved
abbrev pub resized_or_moved_by_place : ℕ → HeapState → ℕ → ℕ → Outcome Name
resized_or_moved_by_place sli h at len = call_by h (λ name. resized_or_moved sli h name len) (name_at h at)

-- how many bytes of its payload a resize to `len` keeps
abbrev pub kept_of : HeapState → ℕ → Option Name → ℕ
kept_of h len None = 0
kept_of h len (Some name) = min (length (payload_of h name)) len

abbrev pub kept_at : HeapState → ℕ → ℕ → ℕ
kept_at h at len = kept_of h len (name_at h at)

-- block i is live and begins at this place
pub record IsLiveAt (blocks : List Block) (at i : ℕ) : Type 0 where
  pub stands : StandsAt blocks at i
  pub live : is_free (block_at blocks i) ≡ false

-- the answer to a search for the live block that begins at a place, in a region of this many words: its tag
abbrev pub IsPlaceTest : ℕ → ℕ → List Block → Option Tag → Type 0
IsPlaceTest at words blocks found =
    MatchOption found (serial_at blocks at ≡ None) (λ tag. (i : ℕ) × IsLiveAt blocks at i × IsTagOf words (site_at blocks i) tag)

-- what the check of a place answers: the tag of the live block that begins there
abbrev pub IsPlaceCheck : HeapState → ℕ → Result Tag Refusal → Type 0
IsPlaceCheck h at answer =
    MatchResult answer (λ tag. (i : ℕ) × IsLiveAt h.blocks at i × IsTagOf h.words (site_at h.blocks i) tag) (λ why. (why ≡ Stale) × (serial_at h.blocks at ≡ None))
