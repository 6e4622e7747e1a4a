-- The blocks by which a resize goes: the block that is named and the free one after it. Also the block that it leaves.
use Rattle.tlsf_heap.proofs.Common.{◌≡◌, ℕ, suc, ◌+◌, ◌<◌, ◌≤◌, false, List, ◌∷◌, ◌++◌, take, drop, Ok, Err, refl, sym, ap, ◌∙◌, subst, arith, IsSome, false≢true, most_words, Tag, Block, Live, Free, HeapState, size_of, is_free, words_for, want, refused, last_tick, room_of, refitted, resized_words, named, payload_words_at, block_at, site_at, IsLawful, IsLive, IsNamed, IsNameCheck, RegionState, EachAt, IsTagOf, IsTagBehind, Name, Refusal, Worn, NoRoom}
use Rattle.tlsf_heap.proofs.lemmas.calls.Allocate.{lawful_regions}
use Rattle.tlsf_heap.proofs.lemmas.blocks.Replace.{first_free-words}
use Rattle.tlsf_heap.proofs.lemmas.calls.GivenBlock.{named_payload}
use Rattle.tlsf_heap.proofs.lemmas.blocks.Lawful.{with_region, region_is}
use Rattle.tlsf_heap.proofs.lemmas.laws.Live.{kept_resized}
use Rattle.tlsf_heap.proofs.lemmas.calls.Named.{named_is, named_stands, named_live}
use Rattle.tlsf_heap.proofs.lemmas.calls.Resize.{Resizes, by_refitted, resized_short, resized_worn, resizes_refused, resizes_block}
use Rattle.tlsf_heap.proofs.lemmas.blocks.Around.{Around, around, words_around, block_around, stands_around}

-- a live block of this name has this tag
pub record Found (h : HeapState) (name : Name) (own : Tag) : Type 0 where
  pub named : IsNamed h name
  pub is_own : IsTagOf h.words (site_at h.blocks named.1.0) own

pub found : {h k : HeapState} {name : Name} {own : Tag} → h ≡ k → IsNameCheck k name (Ok own) → Found h name own
found {name = name} {own = own} same checked =
    let here = subst (λ (s : HeapState). IsNameCheck s name (Ok own)) (sym same) checked in
    record { named = here.0; is_own = here.1 }

-- its room with the free block behind it, which has that tag
pub room_with : {h : HeapState} {name : Name} {own next : Tag} (f : Found h name own) → EachAt h.blocks name.at (λ s. IsTagBehind h.words s next)
    → own.size + next.size ≡ room_of (block_at h.blocks f.named.1.0) (drop (suc f.named.1.0) h.blocks)
room_with f behind = omega (arith, f.is_own.size, (behind f.named.1.0 (named_stands _ _ _ _ f.named.1.1)).size)

refitted_size : (tick n len : ℕ) (b : Block) (back : List Block) → is_free b ≡ false → n ≤ room_of b back → (now : Block) × (rest : List Block) × (refitted tick n len b back ≡ now ∷ rest) × (n ≤ size_of now)
refitted_size tick n len (Free m s) back live room = absurd (false≢true (sym live))
refitted_size tick n len (Live m s xs) back live room =
    by_refitted (λ (l : List Block). (now : Block) × (rest : List Block) × (l ≡ now ∷ rest) × (n ≤ size_of now)) tick n len m s xs back room
    (λ enough. (_, _, refl, enough)) (_, _, refl, room) (λ large. (_, _, refl, omega arith))

module _ (sli : ℕ) {h k : HeapState} {name : Name} {own : Tag} (f : Found h name own) (same : h ≡ k) (lawful : IsLawful h) (n len : ℕ) (wanted : want len ≤ n) where
  abbrev room : ℕ
  room = room_of (block_at h.blocks f.named.1.0) (drop (suc f.named.1.0) h.blocks)

  pub room_small : room ≤ h.words
  room_small =
      let a = around h.blocks name.at f.named.1.0 (named_stands _ _ _ _ f.named.1.1) in
      omega (arith, words_around a, first_free-words (drop (suc f.named.1.0) h.blocks), lawful.whole)

  -- refused: the region was read alone
  module _ (region : RegionState) (words : region.words ≡ h.words) (blocks : region.blocks ≡ h.blocks) where
    refuses : (why : Refusal) → resized_words h name n len ≡ refused h why → Resizes k name n len (Err why) (with_region h h.tick region)
    refuses why e =
        subst (λ (s : HeapState). Resizes s name n len (Err why) (with_region h h.tick region)) same
        (resizes_refused h (with_region h h.tick region) name n len why lawful (region_is h h.tick region h.blocks words blocks) e)

    pub resizes_short : room < n → Resizes k name n len (Err NoRoom) (with_region h h.tick region)
    resizes_short short = refuses NoRoom (resized_short h name n len f.named.0 f.named.1.0 f.named.1.1 short)

    pub resizes_worn : n ≤ room → h.tick ≡ last_tick → Resizes k name n len (Err Worn) (with_region h h.tick region)
    resizes_worn enough worn = refuses Worn (resized_worn h name n len f.named.0 f.named.1.0 f.named.1.1 enough worn)

  -- done
  module _ (enough : n ≤ room) (fresh : h.tick ≡ last_tick → ⊥) (region : RegionState) (words : region.words ≡ h.words)
      (blocks : region.blocks ≡ take f.named.1.0 h.blocks ++ refitted h.tick n len (block_at h.blocks f.named.1.0) (drop (suc f.named.1.0) h.blocks)) where
    own_resizes : Resizes h name n len (Ok tt) (with_region h (h.tick + 1) region)
    own_resizes = resizes_block h name n len region f.named wanted lawful enough words blocks fresh

    pub resizes_done : Resizes k name n len (Ok tt) (with_region h (h.tick + 1) region)
    resizes_done = subst (λ (s : HeapState). Resizes s name n len (Ok tt) (with_region h (h.tick + 1) region)) same own_resizes

    -- the block of the name has the words wanted
    pub payload_left : h.words ≤ most_words sli → words_for len ≤ 3 + payload_words_at (named name region.blocks)
    payload_left small =
        let stands = named_stands _ _ _ _ f.named.1.1 in
        let live : IsLive h name = (f.named.0, subst IsSome (sym (named_is name h.blocks f.named.1.0 f.named.1.1)) refl) in
        let still : IsLive (with_region h (h.tick + 1) region) name =
        subst (λ (s : HeapState). IsLive s name) (sym own_resizes.is_heap) (kept_resized h name name n len live) in
        let now = refitted_size h.tick n len (block_at h.blocks f.named.1.0) (drop (suc f.named.1.0) h.blocks) (named_live _ _ _ _ f.named.1.1) enough in
        let a : Around region.blocks name.at f.named.1.0 (take f.named.1.0 h.blocks) now.0 now.1 = record {
          is = blocks ∙ ap (λ (l : List Block). take f.named.1.0 h.blocks ++ l) now.2;
          before = (around h.blocks name.at f.named.1.0 stands).before;
          place = stands.place;
        } in
        let regions = lawful_regions sli (with_region h (h.tick + 1) region) own_resizes.lawful (omega (arith, words, small)) in
        omega (arith, named_payload sli (with_region h (h.tick + 1) region) name f.named.1.0 regions (stands_around a) still, ap size_of (block_around a), now.3)
