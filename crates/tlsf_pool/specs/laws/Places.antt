-- Where live blocks lie, by their names.
use Rattle.std.specs.Prelude.{◌≡◌, ◌≢◌, ℕ, ◌+◌, ◌<◌, ◌≤◌, ◌⊎◌, List, [], ◌∷◌, Some}
use Rattle.tlsf_heap.specs.Blocks.{HeapState, Free, size_of}
use Rattle.tlsf_heap.specs.GoodFit.{Site}
use Rattle.tlsf_heap.specs.Lawful.{IsLawful}
use Rattle.tlsf_heap.specs.Calls.{Call, named, opened, run}
use Rattle.tlsf_heap.specs.Reports.{live_among}
use Rattle.tlsf_pool.specs.laws.Held.{held_after_all}
use Rattle.tlsf_heap.specs.declared.name.Name.{Name}

-- a live block of the heap has this name, and this many words
pub record Occupies (h : HeapState) (name : Name) (words : ℕ) : Type 0 where
  pub own : name.heap ≡ h.id
  pub site : Site
  pub found : named name h.blocks ≡ Some site
  pub sized : size_of site.block ≡ words

-- no word lies in the blocks of two different live names: one ends before the other begins
abbrev pub ShareNoWord : Type 0
ShareNoWord = (h : HeapState) (a b : Name) (m n : ℕ) → Occupies h a m → Occupies h b n → a ≢ b → (a.at + m ≤ b.at) ⊎ (b.at + n ≤ a.at)

-- and each live block lies in the region
abbrev pub StayInside : Type 0
StayInside = (h : HeapState) (name : Name) (words : ℕ) → IsLawful h → Occupies h name words → name.at + words ≤ h.words

-- a heap with no live block is one free block, the whole region
abbrev pub WholeAgain : Type 0
WholeAgain = (h : HeapState) → IsLawful h → 0 < h.words → live_among h.blocks ≡ [] → (stamp : ℕ) × (h.blocks ≡ Free h.words stamp ∷ [])

-- whatever a program did, once it released all that it was given, the region is one free block again
abbrev pub NothingLeaks : ℕ → Type 0
NothingLeaks sli = (id words first : ℕ) (calls : List Call) → 4 ≤ words
    → let end = run sli (opened id words first) calls in held_after_all 0 calls end.0 ≡ 0 → (stamp : ℕ) × (end.1.blocks ≡ Free words stamp ∷ [])
