-- The blocks that a call is not about, which stay.
use Rattle.std.specs.Prelude.{◌≡◌, ◌⊎◌, ℕ, ◌-◌, ◌%◌, ◌<◌, ◌≤◌, List, false, true}
use Rattle.tlsf_heap.specs.Blocks.{Block, Live, Free, HeapState, is_free, StandsAt}
use Rattle.tlsf_heap.specs.Calls.{has_serial}
use Rattle.tlsf_heap.specs.Footprint.{IsWordOf}
use Rattle.tlsf_heap.specs.GoodFit.{block_at}
use Rattle.tlsf_heap.specs.declared.name.Name.{Name}

-- ---- payloads

-- a live block of this serial and this payload
abbrev pub Holds : ℕ → List ℕ → Block → Type 0
Holds serial bytes (Live size own held) = (own ≡ serial) × (held ≡ bytes)
Holds serial bytes (Free size stamp) = ⊥

-- the heap has a live block of this name, and these bytes are its payload
abbrev pub HasPayload : HeapState → Name → List ℕ → Type 0
HasPayload h name bytes = (name.heap ≡ h.id) × ((i : ℕ) × StandsAt h.blocks name.at i × Holds name.serial bytes (block_at h.blocks i))

-- word k is one of the payload of the live block of a name: any of the block but the three of its header
abbrev pub IsPayloadWord : HeapState → Name → ℕ → Type 0
IsPayloadWord h name k = (name.heap ≡ h.id) × ((i : ℕ) × IsWordOf h.blocks i name.at 3 k × (has_serial name.serial (block_at h.blocks i) ≡ true))

-- ---- even places

-- an even number of words
abbrev pub IsEven : ℕ → Type 0
IsEven n = n % 2 ≡ 0

-- a place lies an even number of words behind another
abbrev pub IsEvenFrom : ℕ → ℕ → Type 0
IsEvenFrom from at = (from ≤ at) × IsEven (at - from)

-- each block begins an even number of words behind a place, or else in front of it, and is live there
abbrev pub AreEvenFrom : ℕ → List Block → Type 0
AreEvenFrom from blocks = (at i : ℕ) → StandsAt blocks at i → IsEvenFrom from at ⊎ ((at < from) × (is_free (block_at blocks i) ≡ false))
