-- A look around a block of a heap that keeps its invariant finds the block sound, and each of its neighbours.
use Rattle.tlsf_heap.proofs.Common.{◌≡◌, ℕ, suc, ◌+◌, ◌≤◌, true, None, Some, Option, List, ◌∷◌, refl, ap, ◌∙◌, arith, MatchOption, Block, size_of, is_free, StandsAt, IsPlace, Memory, image_of, times, OnlyLooks, OnlyHeaders, Begins, FindsSound, end_at, place_or_first, IsChoice, AreFreeLists, AreRegions, block_at, Image, Shows, FreeBlocksAreApart, AreLinked}
use Rattle.tlsf_heap.specs.Around.{IsAroundCheck, IsTakable, TellsAround, TellsTaken, FindsChoice}
use Rattle.tlsf_heap.specs.declared.checked.Checked.{Checked}
use Rattle.tlsf_heap.specs.declared.checked.Checked.TheVariants.{Sound, Damaged}
use Rattle.tlsf_heap.proofs.lemmas.blocks.Around.{one_index}
use Rattle.tlsf_heap.proofs.lemmas.words.Checks.{Seen, image_same, same_image, header_read}
use Rattle.tlsf_heap.proofs.lemmas.words.Says.{says_here}
use Rattle.tlsf_heap.proofs.lemmas.words.Undamaged.{begins_here, begins_there, checked_sound, sound_here}

-- ---- words that are looked at

pub seen_looked : (old new : Memory) {most : ℕ} → OnlyLooks old new most → OnlyHeaders (image_of old) old.touched new.touched → Seen old new
seen_looked old new looks headers = record { same = same_image looks; headers = headers }

-- of which none is read but start bits
pub seen_start : (old new : Memory) {most : ℕ} → OnlyLooks old new most → new.touched ≡ old.touched → Seen old new
seen_start old new looks none = seen_looked old new looks (λ k other. ap (λ (l : List ℕ). times l k) none)

-- of which the tag of a block is read next
pub seen_tag : (old mid new : Memory) {at : ℕ} → Seen old mid → Begins (image_of old) at → new.words ≡ mid.words → new.starts ≡ mid.starts → new.touched ≡ at ∷ mid.touched → Seen old new
seen_tag old mid new {at = at} seen begins words starts one = record {
  same = image_same mid new words starts ∙ seen.same;
  headers = λ k other. header_read (image_of old) at 0 at begins (omega arith) (omega arith) one k other ∙ seen.headers k other;
}

-- ---- what an undamaged heap is told

module _ {m : Image} {bs : List Block} (shows : Shows m bs) {lists : ℕ → List ℕ} (sli : ℕ) (listed : AreFreeLists sli bs lists) (linked : AreLinked lists m.words) (apart : FreeBlocksAreApart bs) where
  told_around : {at : ℕ} → (checked : Checked) → Begins m at → TellsAround m at checked → FindsSound bs at 1 checked
  told_around {at = at} (Sound next) begins tells = checked_sound shows sli listed linked apart at 1 (Some (Sound next)) (
    begins,
    record {
      count = 1;
      end = end_at m at;
      sound = (tells.0.own, refl);
      within = omega arith;
      whole = λ fewer. absurd (omega (arith, fewer));
      next_is = tells.1;
    },
  )
  told_around (Damaged damaged) begins tells = absurd (tells.damaged (sound_here shows sli listed linked apart (begins_there shows tells.begins).1))

  -- so a check finds the block sound
  pub checked_around : (at : ℕ) → (answer : Option Checked) → IsAroundCheck m at answer → MatchOption answer (¬ (IsPlace bs at)) (FindsSound bs at 1)
  checked_around at None none = λ place. none (begins_here shows place.1)
  checked_around at (Some checked) tells = told_around checked tells.0 tells.1

  module _ (regions : AreRegions sli bs) {n at i : ℕ} (choice : IsChoice sli n bs i) (stands : StandsAt bs at i) (free : is_free (block_at bs i) ≡ true) (room : n ≤ size_of (block_at bs i)) where
    is_takable : IsTakable m at n
    is_takable =
        let says = says_here shows stands in
        record { begins = record { begins = begins_here shows stands; free = says.free ∙ free }; room = omega (arith, says.size, room) }

    named_next : (checked : Checked) → FindsSound bs at 1 checked → checked ≡ Sound (place_or_first bs (suc i))
    named_next checked found =
        let same : found.index + 1 ≡ suc i = omega (arith, one_index sli bs at found.index i regions found.stands stands) in
        found.told ∙ ap (λ (k : ℕ). Sound (place_or_first bs k)) same

    told_taken : (checked : Checked) → TellsTaken m at n checked → checked ≡ Sound (place_or_first bs (suc i))
    told_taken (Sound next) tells = named_next (Sound next) (told_around (Sound next) (begins_here shows stands) tells.1)
    told_taken (Damaged damaged) tells = named_next (Damaged damaged) (told_around (Damaged damaged) (begins_here shows stands) (tells.0 is_takable))

    -- and so does a look at the block that a request takes
    pub chosen_sound : (checked : Checked) → TellsTaken m at n checked → FindsChoice sli n m bs checked
    chosen_sound checked tells = record { index = i; at = at; choice = choice; stands = stands; tells = tells; told = told_taken checked tells }
