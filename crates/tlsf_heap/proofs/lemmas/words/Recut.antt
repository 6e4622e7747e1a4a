-- The words of a region whose block took the free block behind it in, and was cut, show the blocks.
use Rattle.tlsf_heap.proofs.Common.{◌≡◌, ◌≢◌, ℕ, suc, ◌+◌, ◌-◌, ◌<◌, ◌≤◌, inl, inr, Bool, true, false, cond, nat_le, eqb, List, [], ◌∷◌, ◌++◌, length, take, drop, get_or, refl, sym, ap, ◌∙◌, subst, arith, append_assoc, false≢true, cases_lt, cases_order, ne_eqb, nat_tests, length-set, get_or-set_same, get_or-set_other, Image, mark_of, HoldsPayload, BlockAt, back_behind, Shows, tag_word, ListHeads, nowhere, Tag, Block, Live, Free, size_of, words_in, is_free, bytes_of, words_for, StandsAt, HasRoom, first_free, past_free, cut, recut, block_at, site_at, place_of, Widens, Recuts, without_start, RegionState, AreUnlisted, IsWhole, list_in}
use Rattle.tlsf_heap.proofs.lemmas.words.Links.{HoldsState, Reshapes, reshaped}
use Rattle.tlsf_heap.proofs.lemmas.words.Merge.{Cleared, cleared, next_starts}
use Rattle.tlsf_heap.proofs.lemmas.words.Says.{Says, says_here}
use Rattle.tlsf_heap.proofs.lemmas.words.Image.{Replaces, start_at, same_payload, room_here, shown_here}
use Rattle.tlsf_heap.proofs.lemmas.blocks.Around.{around, first_part}

pub live_as : (b : Block) → is_free b ≡ false → b ≡ Live (size_of b) (mark_of b) (bytes_of b)
live_as (Live m s xs) e = refl
live_as (Free m s) e = absurd (false≢true (sym e))

pub cut_small : (room n tick serial : ℕ) (bytes : List ℕ) → room < n + 4 → cut room n tick serial bytes ≡ Live room serial bytes ∷ []
cut_small room n tick serial bytes h =
    let t : nat_le (n + 4) room ≡ false = grind (arith, nat_tests) in
    ap (λ (b : Bool). cond b (Live n serial bytes ∷ Free (room - n) tick ∷ []) (Live room serial bytes ∷ [])) t

pub cut_large : (room n tick serial : ℕ) (bytes : List ℕ) → n + 4 ≤ room → cut room n tick serial bytes ≡ Live n serial bytes ∷ Free (room - n) tick ∷ []
cut_large room n tick serial bytes h =
    let t : nat_le (n + 4) room ≡ true = grind (arith, nat_tests) in
    ap (λ (b : Bool). cond b (Live n serial bytes ∷ Free (room - n) tick ∷ []) (Live room serial bytes ∷ [])) t

module _ {m : Image} {bs : List Block} (shows : Shows m bs) {at i : ℕ} (stands : StandsAt bs at i) {tag : Tag} {after : ℕ} (is : IsWhole (length m.words) (site_at bs i) tag after) where
  abbrev front : List Block
  front = take i bs

  abbrev block : Block
  block = block_at bs i

  abbrev back : List Block
  back = drop (suc i) bs

  abbrev end : ℕ
  end = at + tag.size

  abbrev cleared_starts : List Bool
  cleared_starts = without_start m.starts (at + tag.size - after) after

  says : Says m at (back_behind 0 nowhere front) block
  says = says_here shows stands

  pub whole_ends : at + tag.size ≤ length m.words
  whole_ends = elim (cases_lt 0 (first_free back)) [
    | inl some ↦ omega (arith, (next_starts shows stands some).0, is.size, is.after)
    | inr none ↦ omega (arith, says.ends, is.size, is.after)
  ]

  pub whole_last : tag.last ≡ eqb (at + tag.size) (length m.words)
  whole_last =
      let e : place_of (site_at bs i) + size_of block + first_free back ≡ at + tag.size = omega (arith, stands.place, is.size, is.after) in
      is.last ∙ ap (λ n. eqb n (length m.words)) e

  pub whole_least : after + 4 ≤ tag.size
  whole_least = omega (arith, is.size, says.least)

  middle : at + tag.size - after ≡ at + size_of block
  middle = omega (arith, is.size)

  one : Cleared m.starts cleared_starts (at + tag.size - after) after
  one = cleared m.starts (at + tag.size - after) after

  none_starts : (k : ℕ) → at < k → k < end → get_or cleared_starts k false ≡ false
  none_starts k l g = elim (cases_order k (at + size_of block)) [
    | inl e ↦ subst (λ (j : ℕ). get_or cleared_starts j false ≡ false) (sym (e ∙ sym middle))
        (one.gone (omega (arith, e, g, is.size)) (omega (arith, shows.mapped, whole_ends, middle, e, g)))
    | inr (inl below) ↦ one.others k (λ f. omega (arith, f, below, middle)) ∙ says.starts.others k l below
    | inr (inr past) ↦ one.others k (λ f. omega (arith, f, past, middle))
        ∙ (next_starts shows stands (omega (arith, past, g, is.size, is.after))).1.others k past (omega (arith, g, is.size, is.after))
  ]

  kept_before : (k : ℕ) → k ≤ at → get_or cleared_starts k false ≡ start_at m k
  kept_before k h = one.others k (λ f. omega (arith, f, h, middle, says.least))

  kept_behind : (k : ℕ) → end ≤ k → get_or cleared_starts k false ≡ start_at m k
  kept_behind k h = one.others k (λ f. omega (arith, f, h, middle, is.size))

  first_start : get_or cleared_starts at false ≡ true
  first_start = kept_before at (omega arith) ∙ says.starts.first

  last_word : (n : ℕ) → n ≡ length m.words → tag.last ≡ eqb end n
  last_word n same = let sum : words_in front + size_of block + first_free back ≡ end = omega (arith, stands.place, is.size, is.after) in is.last ∙ rw (sum, same) refl

  -- the blocks that become others
  abbrev old : List Block
  old = block ∷ (first_part back).0

  words_old : words_in old ≡ tag.size
  words_old = omega (arith, (first_part back).2, is.size, is.after)

  pub whole_parts : front ++ old ++ past_free back ≡ bs
  whole_parts = append_assoc front old (past_free back) ∙ ap (λ (l : List Block). front ++ block ∷ l) (sym (first_part back).1) ∙ sym (around bs at i stands).is

  pub whole_range : words_in front + words_in old ≡ end
  whole_range = omega (arith, words_old, stands.place)

  module _ (serial : ℕ) (bytes : List ℕ) (is_live : block ≡ Live (size_of block) serial bytes) where
    holds : HoldsPayload m.words at (Live (size_of block) serial bytes)
    holds = subst (HoldsPayload m.words at) is_live (shown_here m bs shows at i stands).payload

    room_now : HasRoom (Live (size_of block) serial bytes)
    room_now = subst HasRoom is_live (room_here m bs shows at i stands)

    marked : get_or m.words (at + 1) 0 ≡ serial
    marked = says.mark ∙ ap mark_of is_live

    module _ {v : Image} (widens : Widens m v at tag after) where
      wide_room : HasRoom (Live tag.size serial bytes)
      wide_room = (omega (arith, is.size, says.least), omega (arith, is.size, room_now.1))

      wide_start : (k : ℕ) → start_at v k ≡ get_or cleared_starts k false
      wide_start k = ap (λ (s : List Bool). get_or s k false) widens.starts

      wide_shown : BlockAt v at (back_behind 0 nowhere front) (Live tag.size serial bytes)
      wide_shown = record {
        tag = widens.header ∙ ap (λ (b : Bool). tag_word tag.size b false tag.back) (last_word (length v.words) widens.only.length) ∙ ap (tag_word tag.size (eqb end (length v.words)) false) is.back;
        mark = widens.kept (at + 1) (omega arith) (omega (arith, whole_least)) ∙ marked;
        payload = same_payload m.words v.words at (Live tag.size serial bytes) wide_room widens.kept holds;
        starts = record { first = wide_start at ∙ first_start; others = λ k l g. wide_start k ∙ none_starts k l g };
      }

      pub wide_replaces : Replaces m v front old (Live tag.size serial bytes ∷ [])
      wide_replaces =
          let place = stands.place in
          record {
            as_many = omega (arith, words_old);
            as_long = widens.only.length;
            mapped = ap length widens.starts ∙ one.as_long;
            rooms = (wide_room, tt);
            some = omega arith;
            before = λ k h. widens.only.before k (omega arith);
            behind = λ k h. widens.only.behind k (omega (arith, words_old));
            next = rw (place, words_old) widens.next;
            starts_before = λ k h. wide_start k ∙ kept_before k (omega arith);
            starts_behind = λ k h. wide_start k ∙ kept_behind k (omega (arith, words_old));
            shown = rw place (wide_shown, tt);
          }

    module _ {v : Image} (size stamp : ℕ) (recuts : Recuts m v at tag after size stamp) (least : 4 ≤ size) (large : size + 4 ≤ tag.size) (fits : words_for (length bytes) ≤ size) where
      recut_start : (k : ℕ) → k ≢ at + size → start_at v k ≡ get_or cleared_starts k false
      recut_start k ne = ap (λ (s : List Bool). get_or s k false) recuts.starts ∙ get_or-set_other cleared_starts (at + size) k true false ne

      kept_shown : BlockAt v at (back_behind 0 nowhere front) (Live size serial bytes)
      kept_shown =
          let inner : eqb (at + size) (length v.words) ≡ false = ne_eqb (at + size) (length v.words) (λ h. omega (arith, h, whole_ends, recuts.only.length, large)) in
          record {
            tag = recuts.header ∙ ap (λ (b : Bool). tag_word size b false tag.back) (sym inner) ∙ ap (tag_word size (eqb (at + size) (length v.words)) false) is.back;
            mark = recuts.kept (at + 1) (omega arith) (omega (arith, least)) ∙ marked;
            payload = same_payload m.words v.words at (Live size serial bytes) (least, fits) recuts.kept holds;
            starts = record {
              first = recut_start at (λ h. omega (arith, h, least)) ∙ first_start;
              others = λ k l g. recut_start k (λ h. omega (arith, h, g)) ∙ none_starts k l (omega (arith, g, large));
            };
          }

      left_shown : BlockAt v (at + size) at (Free (tag.size - size) stamp)
      left_shown =
          let ended : at + size + (tag.size - size) ≡ end = omega (arith, large) in
          record {
            tag = recuts.rest.tag ∙ ap (λ (b : Bool). tag_word (tag.size - size) b true at) (last_word (length v.words) recuts.only.length ∙ ap (λ (n : ℕ). eqb n (length v.words)) (sym ended));
            mark = recuts.rest.mark;
            payload = tt;
            starts = record {
              first = ap (λ (s : List Bool). get_or s (at + size) false) recuts.starts
                  ∙ get_or-set_same cleared_starts (at + size) true false (omega (arith, one.as_long, shows.mapped, whole_ends, large));
              others = λ k l g. recut_start k (λ h. omega (arith, h, l)) ∙ none_starts k (omega (arith, l)) (omega (arith, g, ended));
            };
          }

      pub recut_replaces : Replaces m v front old (Live size serial bytes ∷ Free (tag.size - size) stamp ∷ [])
      recut_replaces =
          let place = stands.place in
          record {
            as_many = omega (arith, words_old, large);
            as_long = recuts.only.length;
            mapped = ap length recuts.starts ∙ length-set cleared_starts (at + size) true ∙ one.as_long;
            rooms = ((least, fits), (omega (arith, large), tt));
            some = omega arith;
            before = λ k h. recuts.only.before k (omega arith);
            behind = λ k h. recuts.only.behind k (omega (arith, words_old));
            next = rw (place, words_old) recuts.next;
            starts_before = λ k h. recut_start k (λ e. omega (arith, e, h, place)) ∙ kept_before k (omega arith);
            starts_behind = λ k h. recut_start k (λ e. omega (arith, e, h, place, words_old, large)) ∙ kept_behind k (omega (arith, words_old));
            shown = rw place (kept_shown, (left_shown, tt));
          }

-- ---- the blocks and the lists that are left

module _ (sli : ℕ) {m v : Image} {l : ListHeads} {r : RegionState} (state : HoldsState sli m l r) {at i : ℕ} (stands : StandsAt r.blocks at i) {tag : Tag} {after : ℕ} (is : IsWhole (length m.words) (site_at r.blocks i) tag after)
    (live : is_free (block_at r.blocks i) ≡ false) (unlisted : AreUnlisted (list_in r.lists) at (at + tag.size)) (n stamp : ℕ) where
  left_by : (new : List Block) → Replaces m v (take i r.blocks) (block_at r.blocks i ∷ (first_part (drop (suc i) r.blocks)).0) new → new ≡ cut tag.size n stamp (mark_of (block_at r.blocks i)) (bytes_of (block_at r.blocks i))
      → Reshapes sli v l (take i r.blocks ++ recut stamp n (block_at r.blocks i) (drop (suc i) r.blocks)) r.lists
  left_by new replaces same =
      let room : tag.size ≡ size_of (block_at r.blocks i) + first_free (drop (suc i) r.blocks) = omega (arith, is.size, is.after) in
      let cuts : new ++ past_free (drop (suc i) r.blocks) ≡ recut stamp n (block_at r.blocks i) (drop (suc i) r.blocks) =
      ap (λ (bs : List Block). bs ++ past_free (drop (suc i) r.blocks)) (same ∙ ap (λ (k : ℕ). cut k n stamp (mark_of (block_at r.blocks i)) (bytes_of (block_at r.blocks i))) room)
      ∙ ap (λ (b : Block). recut stamp n b (drop (suc i) r.blocks)) (sym (live_as (block_at r.blocks i) live)) in
      subst (λ (bs : List Block). Reshapes sli v l bs r.lists) (append_assoc (take i r.blocks) new (past_free (drop (suc i) r.blocks)) ∙ ap (λ (bs : List Block). take i r.blocks ++ bs) cuts)
      (reshaped sli state v (take i r.blocks) (block_at r.blocks i ∷ (first_part (drop (suc i) r.blocks)).0) new (past_free (drop (suc i) r.blocks)) (whole_parts state.shows stands is) replaces
      (λ k low high. unlisted k (omega (arith, low, stands.place)) (omega (arith, high, whole_range state.shows stands is))))

  pub left_wide : Widens m v at tag after → tag.size < n + 4 → Reshapes sli v l (take i r.blocks ++ recut stamp n (block_at r.blocks i) (drop (suc i) r.blocks)) r.lists
  left_wide widens small =
      left_by _ (wide_replaces state.shows stands is (mark_of (block_at r.blocks i)) (bytes_of (block_at r.blocks i)) (live_as (block_at r.blocks i) live) widens) (sym (cut_small tag.size n stamp (mark_of (block_at r.blocks i)) (bytes_of (block_at r.blocks i)) small))

  pub left_recut : Recuts m v at tag after n stamp → 4 ≤ n → n + 4 ≤ tag.size → words_for (length (bytes_of (block_at r.blocks i))) ≤ n → Reshapes sli v l (take i r.blocks ++ recut stamp n (block_at r.blocks i) (drop (suc i) r.blocks)) r.lists
  left_recut recuts least large fits =
      left_by _ (recut_replaces state.shows stands is (mark_of (block_at r.blocks i)) (bytes_of (block_at r.blocks i)) (live_as (block_at r.blocks i) live) n stamp recuts least large fits) (sym (cut_large tag.size n stamp (mark_of (block_at r.blocks i)) (bytes_of (block_at r.blocks i)) large))
