-- The findings of a check of blocks, from one block to the next.
use Rattle.tlsf_heap.proofs.Common.{◌≡◌, ℕ, zero, suc, ◌+◌, ◌<◌, Bool, List, ◌∷◌, ap, ◌∙◌, subst, sym, arith, Memory, times, Image, Begins, IsSound, AreSound, OnlyLooks, OnlyHeaders, end_at, image_of}
use Rattle.tlsf_words.proofs.Touching.{times_other}

-- one more sound block
pub sound_next : (m : Image) (count from at : ℕ) → AreSound m count from at → IsSound m at → AreSound m (suc count) from (end_at m at)
sound_next m zero from at here sound = (subst (IsSound m) (sym here) sound, ap (end_at m) here)
sound_next m (suc count) from at before sound = (before.0, sound_next m count (end_at m from) at before.1 sound)

-- words and start bits that stay are the same image
pub image_same : (old new : Memory) → new.words ≡ old.words → new.starts ≡ old.starts → image_of new ≡ image_of old
image_same old new words starts =
    ap (λ (words : List ℕ). let m : Image = record { words = words; starts = new.starts } in m) words
    ∙ ap (λ (starts : List Bool). let m : Image = record { words = old.words; starts = starts } in m) starts

-- a look leaves what is stored as it is
pub same_image : {old new : Memory} {most : ℕ} → OnlyLooks old new most → image_of new ≡ image_of old
same_image {old = old} {new = new} looks = image_same old new looks.words looks.starts

-- ---- which words are looked at

-- one of a header
pub header_read : (m : Image) (at d p : ℕ) {old new : List ℕ} → Begins m at → d < 3 → p ≡ at + d → new ≡ p ∷ old → OnlyHeaders m old new
header_read m at d p {old = old} begins low e is k other =
    ap (λ (l : List ℕ). times l k) is ∙ times_other p k old (λ f. other (record { at = at; begins = begins; behind = omega (arith, e, f); within = omega (arith, e, f, low) }))

-- after its start bit
pub header_begun : (m : Image) (at d p : ℕ) {old mid new : List ℕ} → Begins m at → d < 3 → p ≡ at + d → mid ≡ old → new ≡ p ∷ mid → OnlyHeaders m old new
header_begun m at d p begins low e same is k other = header_read m at d p begins low e is k other ∙ ap (λ (l : List ℕ). times l k) same

-- words that were looked at: those of headers alone were read
pub record Seen (old new : Memory) : Type 0 where
  pub same : image_of new ≡ image_of old
  pub headers : OnlyHeaders (image_of old) old.touched new.touched

pub seen_more : (old mid new : Memory) {most : ℕ} → Seen old mid → OnlyLooks mid new most → OnlyHeaders (image_of mid) mid.touched new.touched → Seen old new
seen_more old mid new seen looks headers = record {
  same = same_image looks ∙ seen.same;
  headers = λ k other. subst (λ (m : Image). OnlyHeaders m mid.touched new.touched) seen.same headers k other ∙ seen.headers k other;
}

-- a block begins at a place in words that were looked at
pub begins_seen : {old new : Memory} {at : ℕ} → Seen old new → Begins (image_of old) at → Begins (image_of new) at
begins_seen {at = at} seen begins = subst (λ (m : Image). Begins m at) (sym seen.same) begins

-- ---- blocks found sound

-- a block found sound in words that were looked at is sound in those before, and so are those up to its end
pub record SoundUpTo (m : Image) (count from at end : ℕ) : Type 0 where
  pub sound : AreSound m (count + 1) from end
  pub ends : end ≡ end_at m at
  pub here : IsSound m at

pub sound_up_to : {old new : Memory} {most count from at end : ℕ} → OnlyLooks old new most → AreSound (image_of old) count from at
    → IsSound (image_of new) at × (end ≡ end_at (image_of new) at) → SoundUpTo (image_of old) count from at end
sound_up_to {old = old} {count = count} {from = from} {at = at} {end = end} looks before found =
    let here = subst (λ (m : Image). IsSound m at) (same_image looks) found.0 in
    let ends = found.1 ∙ ap (λ (m : Image). end_at m at) (same_image looks) in
    let more : suc count ≡ count + 1 = omega arith in
    record {
      sound = subst (λ (k : ℕ). AreSound (image_of old) k from end) more (subst (AreSound (image_of old) (suc count) from) (sym ends) (sound_next (image_of old) count from at before here));
      ends = ends;
      here = here;
    }
