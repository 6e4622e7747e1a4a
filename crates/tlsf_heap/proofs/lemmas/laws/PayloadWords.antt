-- Words of the payload of a name, through each call that isn't about it.
use Rattle.tlsf_heap.proofs.Common.{◌≡◌, ◌≢◌, ℕ, ◌+◌, ◌<◌, ◌≤◌, true, false, List, refl, sym, ap, ◌∙◌, subst, arith, AllByRecursion, false≢true, Block, Live, Free, HeapState, StandsAt, size_of, is_free, has_serial, IsLiveWord, IsOthersWord, block_at, IsLawful, IsLive, IsPayloadWord, Name, IsOfOtherBlocks, Step, after, stepped, inr}
use Rattle.tlsf_heap.proofs.lemmas.blocks.Find.{and_left}
use Rattle.tlsf_heap.proofs.lemmas.calls.Alter.{named_of}
use Rattle.tlsf_heap.proofs.lemmas.calls.Named.{named_stands}
use Rattle.tlsf_heap.proofs.lemmas.calls.Outcomes.{by_steps}
use Rattle.tlsf_heap.proofs.lemmas.laws.Lasting.{HasFrom, of_index, to_index}
use Rattle.tlsf_heap.proofs.lemmas.laws.Live.{lasts_named, one_serial, same_name}
use Rattle.tlsf_heap.proofs.lemmas.words.Image.{stands_once}

serial_live : (serial : ℕ) (b : Block) → has_serial serial b ≡ true → is_free b ≡ false
serial_live serial (Live m s xs) e = refl
serial_live serial (Free m s) e = absurd (false≢true e)

-- it is one of a live block
pub live_word : (h : HeapState) (name : Name) (k : ℕ) → IsPayloadWord h name k → IsLiveWord h.blocks k
live_word h name k w = (w.1.0, name.at, w.1.1, serial_live name.serial (block_at h.blocks w.1.0) w.1.2)

-- and of another than that of any other live name
pub others_word : (h : HeapState) (name other : Name) (k : ℕ) → IsLawful h → IsPayloadWord h name k → IsLive h other → other ≢ name → IsOthersWord h.blocks other.at k
others_word h name other k lawful w live differ =
    let named = named_of h other live in
    let j = named.1.0 in
    let stands = named_stands other.at other.serial h.blocks j named.1.1 in (
      w.1.0,
      name.at,
      w.1.1,
      serial_live name.serial (block_at h.blocks w.1.0) w.1.2,
      λ same.
          let there = subst (λ (at : ℕ). StandsAt h.blocks at w.1.0) same w.1.1.stands in
          let one : w.1.0 ≡ j = stands_once h.blocks other.at w.1.0 j lawful.rooms there stands in
          let has = ap (λ (i : ℕ). has_serial name.serial (block_at h.blocks i)) (sym one) ∙ w.1.2 in
          differ (same_name other name (named.0 ∙ sym w.0) (sym same) (one_serial other.serial name.serial (block_at h.blocks j) (and_left _ _ named.1.1.here) has)),
    )

module _ (name : Name) (k : ℕ) where
  -- a live block of that serial that has word k
  abbrev Has : Block → Type 0
  Has b = (has_serial name.serial b ≡ true) × (k < name.at + size_of b)

  not_free : (m s : ℕ) → Has (Free m s) → ⊥
  not_free m s h = false≢true h.0

  one : (a : ℕ) (b : Block) → has_serial a b ≡ true → Has b → a ≡ name.serial
  one a b e h = one_serial a name.serial b e h.0

  has_word : (h : HeapState) → IsPayloadWord h name k → HasFrom Has name.at 0 h.blocks
  has_word h w = of_index Has name.at 0 h.blocks w.1.0 w.1.1.stands.within (omega (arith, w.1.1.stands.place)) (w.1.2, w.1.1.within)

  word_has : (h : HeapState) → name.heap ≡ h.id → name.at + 3 ≤ k → HasFrom Has name.at 0 h.blocks → IsPayloadWord h name k
  word_has h own behind has =
      let r = to_index Has name.at 0 h.blocks has in
      (own, (r.0, record { stands = record { within = r.1; place = omega (arith, r.2) }; behind = behind; within = r.3.1 }, r.3.0))

  word_stays : (sli : ℕ) (h : HeapState) (step : Step) → IsOfOtherBlocks name step → IsPayloadWord h name k → IsPayloadWord (stepped sli h step) name k
  word_stays sli h step other w =
      let l = lasts_named Has name not_free one sli h step (inr (λ m s xs ys has. has, other)) (w.0, has_word h w) in word_has (stepped sli h step) l.0 w.1.1.behind l.1

  pub word_run : (sli : ℕ) (h : HeapState) (steps : List Step) → AllByRecursion (IsOfOtherBlocks name) steps → IsPayloadWord h name k → IsPayloadWord (after sli h steps) name k
  word_run sli = by_steps sli (IsOfOtherBlocks name) (λ h. IsPayloadWord h name k) (word_stays sli)
