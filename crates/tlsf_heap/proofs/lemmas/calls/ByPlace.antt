-- The name of the live block that begins at a place.
use Rattle.tlsf_heap.proofs.Common.{◌≡◌, ℕ, ◌+◌, ◌<◌, true, List, take, Some, None, refl, sym, ap, ◌∙◌, subst, arith, eq-eqb, inl, inr, is_some, AllByRecursion, cases_lt, eqb-true, Block, HeapState, is_free, words_in, StandsAt, IsPlace, serial_of, serial_in, serial_at, name_with, name_at, call_by, released_by_place, IsLiveAt, Outcome, has_serial, released, block_at, mark_of, IsLawful, HasRoom, IsLive, IsFirst, IsNamed, IsNameCheck, IsTagOf, Tag, FollowsNoPlace, Name, Worn, Ok, RegionState, coalesced, site_at, last_tick, refused}
use Rattle.tlsf_heap.proofs.lemmas.blocks.ByPlace.{placed_found, placed_none, content-free, content-live}
use Rattle.tlsf_heap.proofs.lemmas.words.Says.{has_serial-live, named_here}
use Rattle.tlsf_heap.proofs.lemmas.blocks.Find.{and_left}
use Rattle.tlsf_heap.proofs.lemmas.calls.Alter.{named_of}
use Rattle.tlsf_heap.proofs.lemmas.laws.Live.{same_name}
use Rattle.tlsf_heap.proofs.lemmas.calls.Named.{named_is, named_inside, named_stands, named_live, not_wild}
use Rattle.tlsf_heap.proofs.lemmas.blocks.Order.{ends_before}
use Rattle.tlsf_heap.proofs.lemmas.calls.Release.{released_worn, released_is, released_lawful}
use Rattle.tlsf_heap.proofs.lemmas.blocks.Lawful.{with_region, region_is}
use Rattle.tlsf_heap.proofs.lemmas.blocks.Grant.{four_words}

module _ {bs : List Block} {at : ℕ} (rooms : AllByRecursion HasRoom bs) where
  -- it is the mark of the block
  pub serial_live : {i : ℕ} → IsLiveAt bs at i → serial_at bs at ≡ Some (mark_of (block_at bs i))
  serial_live {i = i} l = ap serial_in (placed_found rooms l.stands) ∙ ap serial_of (content-live (block_at bs i) l.live)

  -- a free block has none
  pub serial_free : {i : ℕ} → StandsAt bs at i → is_free (block_at bs i) ≡ true → serial_at bs at ≡ None
  serial_free {i = i} stands free = ap serial_in (placed_found rooms stands) ∙ ap serial_of (content-free (block_at bs i) free)

  -- the block is the first that the name names
  pub first_live : {i : ℕ} → IsLiveAt bs at i → IsFirst at (mark_of (block_at bs i)) bs i
  first_live {i = i} l = named_here rooms (mark_of (block_at bs i)) l.stands (has_serial-live (block_at bs i) _ l.live ∙ eq-eqb _ _ refl)

-- nor has a place where no block begins
pub serial_nowhere : {bs : List Block} {at : ℕ} → (IsPlace bs at → ⊥) → serial_at bs at ≡ None
serial_nowhere none = ap serial_in (placed_none none)

-- the name of the live block at a place
abbrev pub name_here : HeapState → ℕ → ℕ → Name
name_here h at i = record { heap = h.id; at = at; serial = mark_of (block_at h.blocks i) }

module _ (h : HeapState) {at i : ℕ} (rooms : AllByRecursion HasRoom h.blocks) (l : IsLiveAt h.blocks at i) where
  abbrev pub is_named_here : IsNamed h (name_here h at i)
  is_named_here = (refl, (i, first_live rooms l))

  pub name_found : name_at h at ≡ Some (name_here h at i)
  name_found = ap (name_with h.id at) (serial_live rooms l)

-- which the check of that name finds, with the tag that is read there
pub checked_here : (h : HeapState) {at i : ℕ} {own : Tag} → AllByRecursion HasRoom h.blocks → (l : IsLiveAt h.blocks at i) → IsTagOf h.words (site_at h.blocks i) own → IsNameCheck h (name_here h at i) (Ok own)
checked_here h rooms l is = (is_named_here h rooms l, is)

-- a call by place is one by that name
pub call_found : {A : Type 0} (h : HeapState) {at i : ℕ} (call : Name → Outcome A) → AllByRecursion HasRoom h.blocks → IsLiveAt h.blocks at i
    → call_by h call (name_at h at) ≡ call (name_here h at i)
call_found h call rooms l = ap (call_by h call) (name_found h rooms l)

pub call_none : {A : Type 0} (h : HeapState) (at : ℕ) (call : Name → Outcome A) → serial_at h.blocks at ≡ None → call_by h call (name_at h at) ≡ call_by h call None
call_none h at call none = ap (call_by h call) (ap (name_with h.id at) none)

-- the name is live, and its place is in the region
pub live_here : (h : HeapState) {at i : ℕ} → IsLawful h → IsLiveAt h.blocks at i → IsLive h (name_here h at i) × (at ≡ at) × (at < h.words)
live_here h {at = at} {i = i} lawful l =
    let named = is_named_here h lawful.rooms l in
    ((refl, ap is_some (named_is (name_here h at i) h.blocks i named.1.1)), refl, named_inside h (name_here h at i) lawful i named.1.1)

-- a release of the live block there, by the region that is left
pub released_here : (h : HeapState) (at i tick : ℕ) (region : RegionState) → IsLawful h → IsLiveAt h.blocks at i → region.words ≡ h.words → region.blocks ≡ coalesced h.tick (site_at h.blocks i)
    → (h.tick ≡ last_tick → ⊥) → tick ≡ h.tick + 1 → (released_by_place h at ≡ record { answer = Ok tt; heap = with_region h tick region }) × IsLawful (with_region h tick region)
released_here h at i tick region lawful l words blocks fresh next =
    let name = name_here h at i in
    let first = first_live lawful.rooms l in
    rw (next, region_is h (h.tick + 1) region _ words blocks) (call_found h (released h) lawful.rooms l ∙ released_is h name refl i first fresh, released_lawful h name refl i first lawful)

-- which is refused at the last tick
pub worn_here : (h : HeapState) (at i : ℕ) → IsLawful h → IsLiveAt h.blocks at i → h.tick ≡ last_tick → released_by_place h at ≡ refused h Worn
worn_here h at i lawful l last =
    call_found h (released h) lawful.rooms l ∙ released_worn h (name_here h at i) refl i (first_live lawful.rooms l) last

-- ---- the next three places

-- no block begins one, two or three words behind the begin of another
pub no_near : (bs : List Block) (at k i j : ℕ) → AllByRecursion HasRoom bs → StandsAt bs at i → StandsAt bs (at + k) j → 0 < k → k < 4 → ⊥
no_near bs at k i j rooms s t some few =
    elim (cases_lt i j) [
      | inl below ↦ let four = four_words bs rooms i s.within in let ends = ends_before bs i j below t.within in omega (arith, s.place, t.place, four, ends, few)
      | inr above ↦ elim (cases_lt j i) [
        | inl below ↦ let four = four_words bs rooms j t.within in let ends = ends_before bs j i below s.within in omega (arith, s.place, t.place, four, ends, some)
        | inr same ↦ let e : i ≡ j = omega (arith, above, same) in let p : words_in (take i bs) ≡ words_in (take j bs) = ap (λ (n : ℕ). words_in (take n bs)) e in omega (arith, s.place, t.place, p, some)
      ]
    ]

-- a live name is found at its place
pub live_is_found : (h : HeapState) (name : Name) → IsLawful h → IsLive h name → name_at h name.at ≡ Some name
live_is_found h name lawful live =
    let is_named = named_of h name live in
    let i = is_named.1.0 in
    let b = block_at h.blocks i in
    let alive = named_live name.at name.serial h.blocks i is_named.1.1 in
    let l : IsLiveAt h.blocks name.at i = record { stands = named_stands name.at name.serial h.blocks i is_named.1.1; live = alive } in
    let serial : mark_of b ≡ name.serial = eqb-true (mark_of b) name.serial (sym (has_serial-live b name.serial alive) ∙ and_left (has_serial name.serial b) _ is_named.1.1.here) in
    name_found h lawful.rooms l ∙ ap Some (same_name (name_here h name.at i) name (sym is_named.0) refl serial)

-- a place where a live block begins was not forged
pub live_not_wild : {h k : HeapState} {at i : ℕ} → h ≡ k → IsLawful h → IsLiveAt h.blocks at i → (before behind : ℕ) → FollowsNoPlace k at before behind
live_not_wild {h} {at = at} {i = i} same lawful l before behind =
    subst (λ (s : HeapState). FollowsNoPlace s at before behind) same (not_wild (i, l.stands) (live_here h lawful l).2 before behind)
