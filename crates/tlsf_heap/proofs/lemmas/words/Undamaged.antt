-- Each block of a heap that keeps its invariant is sound, so that a check from the place of one finds all of them so.
use Rattle.tlsf_heap.proofs.Common.{◌≡◌, ◌≢◌, ℕ, zero, suc, ◌+◌, ◌-◌, ◌^◌, ◌<◌, ◌≤◌, inl, inr, Bool, true, false, cond, eqb, ltb, List, [], ◌∷◌, length, take, get_or, Option, Some, None, refl, sym, ap, ◌∙◌, subst, arith, Contains, MatchOption, take_all, Contains-permutation, false≢true, cases_lt, cases_eq, eq-eqb, ne_eqb, nat_tests, free_in, low_half, high_half, links_word, length_word, nowhere, first_of, LinkedFrom, Block, Live, Free, size_of, words_in, words_for, is_free, StandsAt, IsPlace, Begins, BeginsFree, JoinsBefore, JoinsBehind, NextLeadsBack, PreviousLeadsBack, LeadsBack, IsSound, AreSound, GoSound, Tells, IsCheck, FindsSound, OnlyHeaders, end_at, place_or_first, LeavesLive, FreePlace, free_places, of_class, IsFreeList, AreFreeLists, block_at, Image, HoldsPayload, back_behind, Shows, HasRoom, FreeBlocksAreApart, AreLinked}
use Rattle.tlsf_words.proofs.FieldLaws.{low_half-links_word, high_half-links_word}
use Rattle.tlsf_words.proofs.Threads.{first_small}
use Rattle.tlsf_words.proofs.PlaceLists.{member_here, member_behind, member_cases}
use Rattle.tlsf_heap.specs.declared.checked.Checked.{Checked}
use Rattle.tlsf_heap.specs.declared.checked.Checked.TheVariants.{Sound, Damaged}
use Rattle.tlsf_heap.proofs.lemmas.lists.FreeLists.{from_map, from_filter, is_of, listed_own}
use Rattle.tlsf_heap.proofs.lemmas.lists.FreePlaces.{place_at, place_listed, listed_place}
use Rattle.tlsf_heap.proofs.lemmas.words.Footprint.{header_apart}
use Rattle.tlsf_heap.proofs.lemmas.words.Says.{says_here}
use Rattle.tlsf_heap.proofs.lemmas.words.Image.{word_at, shown_here, room_here, place_of_start}
use Rattle.tlsf_heap.proofs.lemmas.blocks.Stands.{words_up_to, back_next}

-- ---- links

-- a place is none, or one of these whose links name this next place
abbrev pub IsPrevious : List ℕ → List ℕ → ℕ → ℕ → Type 0
IsPrevious words all next previous = previous ≢ nowhere → Contains all previous × ((other : ℕ) × (get_or words (previous + 2) 0 ≡ links_word next other))

-- a place is none, or one of these whose links name this previous place
abbrev pub IsNext : List ℕ → List ℕ → ℕ → ℕ → Type 0
IsNext words all previous next = next ≢ nowhere → Contains all next × ((other : ℕ) × (other < 2 ^ 32) × (get_or words (next + 2) 0 ≡ links_word other previous))

-- the links at a place name both neighbours, which name it
pub record IsTied (words all : List ℕ) (at : ℕ) : Type 0 where
  pub next : ℕ
  pub previous : ℕ
  pub links : get_or words (at + 2) 0 ≡ links_word next previous
  pub is_next : IsNext words all at next
  pub is_previous : IsPrevious words all at previous

tied_from : (words all : List ℕ) → length words ≤ 2 ^ 24 → (previous : ℕ) (places : List ℕ) → ((at : ℕ) → Contains places at → Contains all at) → LinkedFrom words previous places
    → IsPrevious words all (first_of places) previous → (at : ℕ) → Contains places at → IsTied words all at
tied_from words all few previous [] among linked before at c = absurd (omega (arith, c.1))
tied_from words all few previous (x ∷ xs) among linked before at c = elim (member_cases x xs at c) [
  | inl same ↦ subst (IsTied words all) same (record {
    next = first_of xs;
    previous = previous;
    links = linked.0;
    is_next = next_of xs (λ y d. among y (member_behind x xs y d)) linked.2;
    is_previous = before;
  })
  | inr behind ↦ tied_from words all few x xs (λ y d. among y (member_behind x xs y d)) linked.2 (λ some. (among x (member_here x xs), (previous, linked.0))) at behind
]
  where
    next_of : (ys : List ℕ) → ((at : ℕ) → Contains ys at → Contains all at) → LinkedFrom words x ys → IsNext words all x (first_of ys)
    next_of [] within links some = absurd (some refl)
    next_of (y ∷ ys) within links some = (within y (member_here y ys), (first_of ys, first_small words y ys few links.2, links.0))

-- ---- free places

-- a listed place is that of a free block
free_listed : (sli class : ℕ) (bs : List Block) (places : List ℕ) (at : ℕ) → IsFreeList class (free_places sli 0 bs) places → Contains places at
    → (i : ℕ) × StandsAt bs at i × (is_free (block_at bs i) ≡ true)
free_listed sli class bs places at list c =
    let from = from_map (λ (p : FreePlace). p.at) list.order at (subst (λ (l : List ℕ). Contains l at) list.are c) in
    let there = from_filter (is_of class) (free_places sli 0 bs) from.0 (Contains-permutation list.order (of_class class (free_places sli 0 bs)) from.0 list.same from.1) in
    let found = listed_place sli 0 bs from.0 there.0 in
    (found.0, record { within = found.1.within; place = omega (arith, found.1.place_is, from.2) }, found.1.free)

-- ---- neighbours

-- the block behind a free one is live
apart_at : (bs : List Block) → FreeBlocksAreApart bs → (i : ℕ) → i + 1 < length bs → is_free (block_at bs i) ≡ true → is_free (block_at bs (suc i)) ≡ false
apart_at [] h i within free = absurd (omega (arith, within))
apart_at (Live size serial bytes ∷ bs) h zero within free = absurd (false≢true free)
apart_at (Live size serial bytes ∷ bs) h (suc i) within free = apart_at bs h i (omega (arith, within)) free
apart_at (Free size stamp ∷ []) h i within free = absurd (omega (arith, within))
apart_at (Free size stamp ∷ Live m serial bytes ∷ bs) h zero within free = refl
apart_at (Free size stamp ∷ Live m serial bytes ∷ bs) h (suc zero) within free = absurd (false≢true free)
apart_at (Free size stamp ∷ Live m serial bytes ∷ bs) h (suc (suc i)) within free = apart_at bs h i (omega (arith, within)) free
apart_at (Free size stamp ∷ Free m s ∷ bs) h i within free = absurd h

-- a live block has room for the payload length in its header
live_room : (words : List ℕ) (at : ℕ) (b : Block) → is_free b ≡ false → HasRoom b → HoldsPayload words at b → words_for (get_or words (at + 2) 0) ≤ size_of b
unfolding length_word
live_room words at (Live size serial bytes) live room held = subst (λ (n : ℕ). words_for n ≤ size) (sym held.0) room.1
live_room words at (Free size stamp) live room held = absurd (false≢true (sym live))

module _ {m : Image} {bs : List Block} (shows : Shows m bs) where
  -- a block begins at its place
  pub begins_here : {at i : ℕ} → StandsAt bs at i → Begins m at
  begins_here stands = let says = says_here shows stands in record { room = omega (arith, says.least, says.ends); start = says.starts.first }

  -- and ends where its tag says
  pub ends_here : {at i : ℕ} → StandsAt bs at i → end_at m at ≡ at + size_of (block_at bs i)
  ends_here {at = at} stands = ap (λ (n : ℕ). at + n) (says_here shows stands).size

  free_here : {at i : ℕ} → StandsAt bs at i → is_free (block_at bs i) ≡ true → BeginsFree m at
  free_here stands free = record { begins = begins_here stands; free = (says_here shows stands).free ∙ free }

  -- where words are left behind some blocks, one begins there
  pub stands_there : {at i : ℕ} → words_in (take i bs) ≡ at → at < length m.words → StandsAt bs at i
  stands_there {i = i} place more = elim (cases_lt i (length bs)) [
    | inl within ↦ record { within = within; place = place }
    | inr all ↦ absurd (omega (arith, more, place, ap words_in (take_all i bs all), shows.whole))
  ]

  before_here : {at i : ℕ} → StandsAt bs at i → JoinsBefore m at (back_behind 0 nowhere (take i bs))
  before_here {at = at} {i = zero} stands = record { first = λ none. refl; other = λ some. absurd (omega (arith, some, stands.place)) }
  before_here {at = at} {i = suc j} stands =
      let place : StandsAt bs (words_in (take j bs)) j = record { within = omega (arith, stands.within); place = refl } in
      let same : j + 1 ≡ suc j = omega arith in
      let back : back_behind 0 nowhere (take (suc j) bs) ≡ words_in (take j bs) = subst (λ (k : ℕ). back_behind 0 nowhere (take k bs) ≡ words_in (take j bs)) same (back_next place) in
      let up_to = subst (λ (k : ℕ). words_in (take k bs) ≡ words_in (take j bs) + size_of (block_at bs j)) same (words_up_to place) in
      let says = says_here shows place in
      subst (JoinsBefore m at) (sym back) (record {
        first = λ none. absurd (omega (arith, none, up_to, stands.place, says.least));
        other = λ some. (begins_here place, ends_here place ∙ sym up_to ∙ stands.place);
      })

  behind_here : {at i : ℕ} → FreeBlocksAreApart bs → StandsAt bs at i → at + size_of (block_at bs i) < length m.words
      → JoinsBehind m at (at + size_of (block_at bs i)) (is_free (block_at bs i))
  behind_here {at = at} {i = i} apart stands more =
      let next = stands_there {i = i + 1} (words_up_to stands) more in
      let says = says_here shows next in
      let same : i + 1 ≡ suc i = omega arith in
      record {
        begins = begins_here next;
        names = says.before ∙ back_next stands;
        apart = λ free. says.free ∙ ap (λ (k : ℕ). is_free (block_at bs k)) same ∙ apart_at bs apart i next.within free;
      }

  -- links that tie places of free blocks lead back
  led_back : {places : List ℕ} {at : ℕ} → ((p : ℕ) → Contains places p → BeginsFree m p) → at < 2 ^ 32 → IsTied m.words places at → LeadsBack m at
  led_back {at = at} free_at inside tied =
      let next_small : tied.next < 2 ^ 32 = elim (cases_eq tied.next nowhere) [
        | inl none ↦ omega (arith, none)
        | inr some ↦ let begins = (free_at tied.next (tied.is_next some).0).begins in omega (arith, begins.room, shows.small)
      ] in
      record {
        next = subst (NextLeadsBack m at) (sym (ap low_half tied.links ∙ low_half-links_word tied.next tied.previous next_small))
            (λ some. let t = tied.is_next some in (free_at tied.next t.0, ap high_half t.1.2 ∙ high_half-links_word t.1.0 at t.1.1));
        previous = subst (PreviousLeadsBack m at) (sym (ap high_half tied.links ∙ high_half-links_word tied.next tied.previous next_small))
            (λ some. let t = tied.is_previous some in (free_at tied.previous t.0, ap low_half t.1.1 ∙ low_half-links_word at t.1.0 inside));
      }

  module _ {lists : ℕ → List ℕ} (sli : ℕ) (listed : AreFreeLists sli bs lists) (linked : AreLinked lists m.words) where
    links_here : {at i : ℕ} → StandsAt bs at i → is_free (block_at bs i) ≡ true → LeadsBack m at
    links_here {at = at} {i = i} stands free =
        let e = place_at sli 0 bs i in
        let places = lists e.class in
        let here : e.at ≡ at = omega (arith, stands.place) in
        let own = subst (Contains places) here (listed_own e (free_places sli 0 bs) places (place_listed sli 0 bs i stands.within free) (listed e.class)) in
        let says = says_here shows stands in
        led_back (λ p c. let found = free_listed sli e.class bs places p (listed e.class) c in free_here found.1 found.2) (omega (arith, says.ends, shows.small))
        (tied_from m.words places shows.small nowhere places (λ p c. c) (linked e.class) (λ some. absurd (some refl)) at own)

    -- a block of an undamaged heap is sound
    pub sound_here : {at i : ℕ} → FreeBlocksAreApart bs → StandsAt bs at i → IsSound m at
    sound_here {at = at} {i = i} apart stands =
        let says = says_here shows stands in
        let ends = ends_here stands in
        record {
          begins = begins_here stands;
          least = omega (arith, says.size, says.least);
          ends = omega (arith, ends, says.ends);
          last = says.last ∙ ap (λ (n : ℕ). eqb n (length m.words)) (sym ends);
          before = subst (JoinsBefore m at) (sym says.before) (before_here stands);
          behind = λ more. subst (λ (end : ℕ). JoinsBehind m at end (free_in (word_at m at))) (sym ends)
              (subst (JoinsBehind m at (at + size_of (block_at bs i))) (sym says.free) (behind_here apart stands (omega (arith, ends, more))));
          live = λ live. subst (λ (n : ℕ). words_for (word_at m (at + 2)) ≤ n) (sym says.size)
              (live_room m.words at (block_at bs i) (sym says.free ∙ live) (room_here m bs shows at i stands) (shown_here m bs shows at i stands).payload);
          free = λ free. links_here stands (sym says.free ∙ free);
        }

  -- sound blocks are those that are shown, one behind the other
  walked : (count i at end : ℕ) → i ≤ length bs → words_in (take i bs) ≡ at → AreSound m count at end → (i + count ≤ length bs) × (words_in (take (i + count) bs) ≡ end)
  walked zero i at end within place sound =
      let same : i ≡ i + 0 = omega arith in (omega (arith, within), subst (λ (k : ℕ). words_in (take k bs) ≡ end) same (place ∙ sound))
  walked (suc count) i at end within place sound =
      let stands = stands_there place (let begins = sound.0.begins in omega (arith, begins.room)) in
      let rest = walked count (i + 1) (end_at m at) end (omega (arith, stands.within)) (words_up_to stands ∙ sym (ends_here stands)) sound.1 in
      let same : i + 1 + count ≡ i + suc count = omega arith in
      (omega (arith, rest.0), subst (λ (k : ℕ). words_in (take k bs) ≡ end) same rest.1)

  -- the place that a check goes on at
  go_on : {from most next : ℕ} (i : ℕ) → StandsAt bs from i → GoSound m from most next → next ≡ place_or_first bs (i + most)
  go_on {most = most} {next = next} i stands go =
      let walk = walked go.count i _ go.end (omega (arith, stands.within)) stands.place go.sound in
      elim (cases_eq go.end (length m.words)) [
        | inl whole ↦
            let all : length bs ≤ i + go.count = elim (cases_lt (i + go.count) (length bs)) [
              | inl more ↦ let says = says_here shows (stands_from (i + go.count) more) in absurd (omega (arith, says.ends, says.least, walk.1, whole))
              | inr none ↦ none
            ] in
            go.next_is ∙ ap (λ (b : Bool). cond b 0 go.end) (eq-eqb _ _ whole)
            ∙ sym (ap (λ (b : Bool). cond b (words_in (take (i + most) bs)) 0) (not_below (i + most) (length bs) (omega (arith, all, go.within))))
        | inr inner ↦
            let full : go.count ≡ most = elim (cases_lt go.count most) [ inl fewer ↦ absurd (inner (go.whole fewer)) | inr all ↦ omega (arith, all, go.within) ] in
            let more : i + go.count < length bs = elim (cases_lt (i + go.count) (length bs)) [
              | inl more ↦ more
              | inr none ↦ absurd (inner (sym walk.1 ∙ ap words_in (take_all (i + go.count) bs none) ∙ shows.whole))
            ] in
            go.next_is ∙ ap (λ (b : Bool). cond b 0 go.end) (ne_eqb go.end (length m.words) inner) ∙ sym walk.1
            ∙ ap (λ (n : ℕ). words_in (take (i + n) bs)) full
            ∙ sym (ap (λ (b : Bool). cond b (words_in (take (i + most) bs)) 0) (below (i + most) (length bs) (omega (arith, more, full))))
      ]
    where
      stands_from : (j : ℕ) → j < length bs → StandsAt bs (words_in (take j bs)) j
      stands_from j within = record { within = within; place = refl }

      not_below : (a b : ℕ) → b ≤ a → ltb a b ≡ false
      not_below a b h = grind (arith, nat_tests)

      below : (a b : ℕ) → a < b → ltb a b ≡ true
      below a b h = grind (arith, nat_tests)

  -- a place where words say that a block begins is that of a block
  pub begins_there : {at : ℕ} → Begins m at → IsPlace bs at
  begins_there {at = at} begins = place_of_start m bs at shows (omega (arith, begins.room)) begins.start

  -- so words of headers are none of a live block's payload
  pub headers_leave : (old new : List ℕ) → OnlyHeaders m old new → LeavesLive bs old new
  headers_leave old new looks k live = looks k (λ h. header_apart shows (begins_there h.begins).1 (k - h.at) (omega (arith, h.within, h.behind)) k live (omega (arith, h.behind)))

  module _ {lists : ℕ → List ℕ} (sli : ℕ) (listed : AreFreeLists sli bs lists) (linked : AreLinked lists m.words) (apart : FreeBlocksAreApart bs) where
    -- a look from the place of a block finds the blocks sound
    told_sound : {from most : ℕ} → (checked : Checked) → IsPlace bs from → Tells m from most checked → FindsSound bs from most checked
    told_sound (Sound next) place tells = record { index = place.0; stands = place.1; told = ap Sound (go_on place.0 place.1 tells) }
    told_sound (Damaged at) place tells =
        let walk = walked tells.count place.0 _ at (omega (arith, place.1.within)) place.1.place tells.sound in
        absurd (tells.damaged (sound_here sli listed linked apart (stands_there walk.1 tells.inside)))

    -- and so does a check
    pub checked_sound : (from most : ℕ) → (answer : Option Checked) → IsCheck m from most answer → MatchOption answer (¬ (IsPlace bs from)) (FindsSound bs from most)
    checked_sound from most None none = λ place. none (begins_here place.1)
    checked_sound from most (Some checked) tells = told_sound checked (begins_there tells.0) tells.1
