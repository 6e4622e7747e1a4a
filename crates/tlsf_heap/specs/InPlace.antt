-- Payloads that are read and written where they stand.
use Rattle.std.specs.Prelude.{◌≡◌, ℕ, ◌+◌, ◌-◌, ◌/◌, List, [], Option, Some, None, Result, Ok, Err, length, take, drop, MatchResult}
use Rattle.std.specs.Borrow.{Bor, MutBor}
use Rattle.std.specs.Fn.{Once, FnOnceReturnsAt, FnOnceReturnsAtMut}
use Rattle.tlsf_words.specs.Bytes.{bytes_in}
use Rattle.tlsf_heap.specs.Blocks.{HeapState, bytes_of, words_for}
use Rattle.tlsf_heap.specs.Calls.{named, read_of, written}
use Rattle.tlsf_heap.specs.GoodFit.{Site, block_at}
use Rattle.tlsf_heap.specs.Image.{Image}
use Rattle.tlsf_heap.specs.Named.{IsNamed, RefusesName}
use Rattle.tlsf_heap.specs.declared.name.Name.{Name}
use Rattle.tlsf_heap.specs.declared.refusal.Refusal.{Refusal}

-- the words that hold `len` bytes of payload behind the header at a place
abbrev pub payload_at : Image → ℕ → ℕ → List ℕ
payload_at m at len = take ((len + 7) / 8) (drop (at + 3) m.words)

-- what the check of a name for its payload answers: how many bytes its block has
abbrev pub IsPayloadCheck : HeapState → Name → Result ℕ Refusal → Type 0
IsPayloadCheck h name answer = MatchResult answer (λ len. (is_named : IsNamed h name) × (len ≡ length (bytes_of (block_at h.blocks is_named.1.0)))) (RefusesName h name)

abbrev pub bytes_at : Option Site → List ℕ
bytes_at None = []
bytes_at (Some s) = bytes_of s.block

-- the payload bytes of the live block of this name, none where there is no such block
abbrev pub payload_of : HeapState → Name → List ℕ
payload_of h name = bytes_at (named name h.blocks)

-- the words by which that payload grows where it gets `len` bytes
abbrev pub words_grown : HeapState → ℕ → Name → ℕ
words_grown h len name = words_for len - words_for (length (payload_of h name))

-- words that hold that payload: its bytes, eight in each, and no word more
abbrev pub ArePayload : HeapState → Name → List ℕ → Type 0
ArePayload h name words = (length words ≡ (length (payload_of h name) + 7) / 8) × (bytes_in words 0 (length (payload_of h name)) ≡ payload_of h name)

-- a call with this name is refused as a read of no bytes of its payload is
abbrev pub IsRefusedAsRead : {R : Type 0} → HeapState → Name → Result R Refusal → Type 0
IsRefusedAsRead h name answer = MatchResult answer (λ r. read_of h name 0 0 ≡ Ok []) (λ why. read_of h name 0 0 ≡ Err why)

-- f was shown the payload of the block of a name, and answered r
pub record Inspects {F R : Type 0} (g : Once F (Bor (List ℕ) × Unit {0}) R) (f : F) (h : HeapState) (name : Name) (r : R) : Type 0 where
  pub shown : List ℕ
  pub payload : ArePayload h name shown
  pub called : FnOnceReturnsAt g f shown r

-- f was handed the payload of the block of a name, and answered r. The heap that is left is as a write makes it of the payload that
-- f left there
pub record Alters {F R : Type 0} (g : Once F (MutBor (List ℕ) × Unit {0}) (R × (MutBor (List ℕ) × Unit {0}))) (f : F) (h : HeapState) (name : Name) (r : R) (left : HeapState) : Type 0 where
  pub shown : List ℕ
  pub payload : ArePayload h name shown
  pub changed : List ℕ
  pub called : FnOnceReturnsAtMut g f shown r changed
  pub writes : left ≡ (written h name 0 (bytes_in changed 0 (length (payload_of h name)))).heap
