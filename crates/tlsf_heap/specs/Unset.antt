-- Calls that fill nothing: new payload bytes are those that lie there.
use Rattle.std.specs.Prelude.{◌≡◌, ℕ, List, ◌++◌, ◌∷◌, Option, Some, None, drop}
use Rattle.tlsf_words.specs.Bytes.{bytes_in, payload_byte}
use Rattle.tlsf_heap.specs.Blocks.{HeapState}
use Rattle.tlsf_heap.specs.Calls.{named, with_blocks, with_bytes, written}
use Rattle.tlsf_heap.specs.GoodFit.{Site}
use Rattle.tlsf_heap.specs.Image.{Image}
use Rattle.tlsf_heap.specs.Laws.{IsLive}
use Rattle.tlsf_heap.specs.Steady.{HasPayload}
use Rattle.tlsf_heap.specs.declared.name.Name.{Name}

-- the `len` bytes that lie behind the header at a place
abbrev pub lying : Image → ℕ → ℕ → List ℕ
lying m at len = bytes_in m.words (payload_byte at 0) len

-- a heap whose payload of this name, of `len` bytes, has those that lie there, from byte `from` on. It is as a write of them makes
-- it
abbrev pub unset_from : HeapState → Name → Image → ℕ → ℕ → HeapState
unset_from h name m from len = (written h name from (drop from (lying m name.at len))).heap

abbrev pub with_payload_at : HeapState → List ℕ → Option Site → HeapState
with_payload_at h bytes None = h
with_payload_at h bytes (Some s) = with_blocks h (s.before ++ with_bytes s.block bytes ∷ s.after)

-- the payload of the block that a name names becomes these bytes; its words stay, and so does the tick
abbrev pub with_payload : HeapState → Name → List ℕ → HeapState
with_payload h name bytes = with_payload_at h bytes (named name h.blocks)

-- a call that is to leave a heap of these blocks gave a name. It is live and was not before, its payload has the bytes that lie
-- there, and every other payload stays
pub record GivesUnset (old new : HeapState) (stored : Image) (given_heap : HeapState) (len : ℕ) (name : Name) : Type 0 where
  pub heap : new ≡ with_payload given_heap name (lying stored name.at len)
  pub given : IsLive new name × ¬ (IsLive old name)
  pub payload : HasPayload new name (lying stored name.at len)
  pub others : (other : Name) (bytes : List ℕ) → HasPayload old other bytes → HasPayload new other bytes
