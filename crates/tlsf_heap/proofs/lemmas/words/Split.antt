-- The words of a region whose block was made a live one, whole or with a free rest, show the blocks.
use Rattle.tlsf_heap.proofs.Common.{◌≡◌, ◌≢◌, ℕ, suc, ◌+◌, ◌-◌, ◌*◌, ◌≤◌, Bool, true, false, eqb, List, [], ◌∷◌, ◌++◌, length, take, drop, get_or, refl, sym, ap, ◌∙◌, arith, append_assoc, ne_eqb, length-set, get_or-set_same, get_or-set_other, Image, HoldsPayload, BlockAt, back_behind, Shows, tag_word, length_word, bytes_in, payload_byte, Tag, nowhere, Block, Live, Free, size_of, words_for, StandsAt, block_at, site_at, HasLive, Splits, Wholes, ListHeads, RegionState, AreUnlisted, IsTagOf, list_in}
use Rattle.tlsf_heap.proofs.lemmas.words.Image.{Replaces, start_at}
use Rattle.tlsf_heap.proofs.lemmas.words.Says.{says_here}
use Rattle.tlsf_heap.proofs.lemmas.words.Edit.{next_same}
use Rattle.tlsf_heap.proofs.lemmas.calls.Allocate.{split_at}
use Rattle.tlsf_heap.proofs.lemmas.words.Bytes.{length-bytes_in}
use Rattle.tlsf_heap.proofs.lemmas.words.Links.{HoldsState, Reshapes, reshaped}

-- the bytes that a block of `len` bytes at a place has
abbrev pub stored_bytes : Image → ℕ → ℕ → List ℕ
stored_bytes v at len = bytes_in v.words (payload_byte at 0) len

holds_stored : (v : Image) {at size back serial len : ℕ} {last : Bool} → HasLive v.words at size last back serial len → HoldsPayload v.words at (Live size serial (stored_bytes v at len))
holds_stored v {at = at} {len = len} live =
    let many : length (stored_bytes v at len) ≡ len = length-bytes_in v.words (payload_byte at 0) len in
    let from : 8 * (at + 3) ≡ payload_byte at 0 = omega arith in
    (live.bytes ∙ ap length_word (sym many), ap (bytes_in v.words (8 * (at + 3))) many ∙ ap (λ (k : ℕ). bytes_in v.words k len) from)

-- a tag says the size of the block at a place, whether it is the last one, and the place before
pub record IsTagHere (m : Image) (bs : List Block) (at i : ℕ) (tag : Tag) : Type 0 where
  pub size : tag.size ≡ size_of (block_at bs i)
  pub last : tag.last ≡ eqb (at + size_of (block_at bs i)) (length m.words)
  pub back : tag.back ≡ back_behind 0 nowhere (take i bs)

pub tag_here : {m : Image} {bs : List Block} {at i words : ℕ} {own : Tag} (tag : Tag) → StandsAt bs at i → length m.words ≡ words → IsTagOf words (site_at bs i) own → tag.size ≡ own.size → tag.last ≡ own.last → tag.back ≡ own.back
    → IsTagHere m bs at i tag
tag_here {bs = bs} {at = at} {i = i} {words = words} tag stands long is size last back = record {
  size = size ∙ is.size;
  last = last ∙ is.last ∙ ap (λ (p : ℕ). eqb (p + size_of (block_at bs i)) words) stands.place ∙ ap (eqb (at + size_of (block_at bs i))) (sym long);
  back = back ∙ is.back;
}

module _ {m v : Image} {bs : List Block} (shows : Shows m bs) {at i : ℕ} (stands : StandsAt bs at i) {tag : Tag} (is_tag : IsTagHere m bs at i tag) {serial len : ℕ} where
  module _ (wholes : Wholes m v at tag serial len) (room : words_for len ≤ tag.size) where
    whole_shown : BlockAt v at (back_behind 0 nowhere (take i bs)) (Live tag.size serial (stored_bytes v at len))
    whole_shown =
        let says = says_here shows stands in
        record {
          tag = wholes.live.tag ∙ ap (λ (b : Bool). tag_word tag.size b false tag.back) (is_tag.last ∙ rw (wholes.only.length, is_tag.size) refl) ∙ ap (tag_word tag.size (eqb (at + tag.size) (length v.words)) false) (is_tag.back);
          mark = wholes.live.mark;
          payload = holds_stored v wholes.live;
          starts = rw (wholes.starts, is_tag.size) says.starts;
        }

    pub whole_replaces : Replaces m v (take i bs) (block_at bs i ∷ []) (Live tag.size serial (stored_bytes v at len) ∷ [])
    whole_replaces =
        let says = says_here shows stands in
        let place = stands.place in
        let end : at + (size_of (block_at bs i) + 0) ≡ at + size_of (block_at bs i) = omega arith in
        record {
          as_many = omega (arith, is_tag.size);
          as_long = wholes.only.length;
          mapped = ap length wholes.starts;
          rooms = ((omega (arith, is_tag.size, says.least), rw (length-bytes_in v.words (payload_byte at 0) len) room), tt);
          some = omega arith;
          before = λ k h. wholes.only.before k (omega arith);
          behind = λ k h. wholes.only.behind k (omega (arith, is_tag.size));
          next = λ inside. rw (place, end) (wholes.only.behind (at + size_of (block_at bs i)) (omega (arith, is_tag.size)) ∙ next_same shows stands (omega (arith, inside, place)));
          starts_before = λ k h. ap (λ (s : List Bool). get_or s k false) wholes.starts;
          starts_behind = λ k h. ap (λ (s : List Bool). get_or s k false) wholes.starts;
          shown = rw place (whole_shown, tt);
        }

  module _ (size : ℕ) (splits : Splits m v at tag size serial len) (least : 4 ≤ size) (large : size + 4 ≤ tag.size) (room : words_for len ≤ size) where
    split_start : (k : ℕ) → k ≢ at + size → start_at v k ≡ start_at m k
    split_start k ne = ap (λ (s : List Bool). get_or s k false) splits.starts ∙ get_or-set_other m.starts (at + size) k true false ne

    front_shown : BlockAt v at (back_behind 0 nowhere (take i bs)) (Live size serial (stored_bytes v at len))
    front_shown =
        let says = says_here shows stands in
        let inner : eqb (at + size) (length v.words) ≡ false = ne_eqb (at + size) (length v.words) (λ h. omega (arith, is_tag.size, says.ends, splits.only.length)) in
        record {
          tag = splits.live.tag ∙ ap (λ (b : Bool). tag_word size b false tag.back) (sym inner) ∙ ap (tag_word size (eqb (at + size) (length v.words)) false) (is_tag.back);
          mark = splits.live.mark;
          payload = holds_stored v splits.live;
          starts = record {
            first = split_start at (λ h. omega (arith, h, least)) ∙ says.starts.first;
            others = λ k l g. split_start k (λ h. omega (arith, h, g)) ∙ says.starts.others k l (omega (arith, is_tag.size));
          };
        }

    rest_shown : BlockAt v (at + size) at (Free (tag.size - size) serial)
    rest_shown =
        let says = says_here shows stands in
        let end : at + size + (tag.size - size) ≡ at + size_of (block_at bs i) = omega (arith, is_tag.size) in
        record {
          tag = splits.rest.tag ∙ ap (λ (b : Bool). tag_word (tag.size - size) b true at) (is_tag.last ∙ rw (splits.only.length, end) refl);
          mark = splits.rest.mark;
          payload = tt;
          starts = record {
            first = ap (λ (s : List Bool). get_or s (at + size) false) splits.starts ∙ get_or-set_same m.starts (at + size) true false (omega (arith, shows.mapped, is_tag.size, says.ends));
            others = λ k l g. split_start k (λ h. omega (arith, h, l)) ∙ says.starts.others k (omega (arith, l, least)) (omega (arith, g, end));
          };
        }

    pub split_replaces : Replaces m v (take i bs) (block_at bs i ∷ []) (Live size serial (stored_bytes v at len) ∷ Free (tag.size - size) serial ∷ [])
    split_replaces =
        let says = says_here shows stands in
        let place = stands.place in
        let end : at + (size_of (block_at bs i) + 0) ≡ at + tag.size = omega (arith, is_tag.size) in
        record {
          as_many = omega (arith, is_tag.size);
          as_long = splits.only.length;
          mapped = ap length splits.starts ∙ length-set m.starts (at + size) true;
          rooms = ((least, rw (length-bytes_in v.words (payload_byte at 0) len) room), (omega arith, tt));
          some = omega arith;
          before = λ k h. splits.only.before k (omega arith);
          behind = λ k h. splits.only.behind k (omega (arith, is_tag.size));
          next = λ inside. rw (place, end) (splits.next (omega (arith, place, end, inside)));
          starts_before = λ k h. split_start k (λ e. omega (arith, e, place));
          starts_behind = λ k h. split_start k (λ e. omega (arith, e, place, is_tag.size));
          shown = rw place (front_shown, (rest_shown, tt));
        }

-- ---- the blocks and the lists that are left

module _ (sli : ℕ) {m v : Image} {l : ListHeads} {r : RegionState} (state : HoldsState sli m l r) {at i : ℕ} (stands : StandsAt r.blocks at i) {tag : Tag} (is_tag : IsTagHere m r.blocks at i tag) (size serial len : ℕ)
    (unlisted : AreUnlisted (list_in r.lists) at (at + size_of (block_at r.blocks i))) where
  left_by : (new : List Block) → Replaces m v (take i r.blocks) (block_at r.blocks i ∷ []) new → Reshapes sli v l (take i r.blocks ++ new ++ drop (suc i) r.blocks) r.lists
  left_by new replaces =
      let whole : take i r.blocks ++ (block_at r.blocks i ∷ []) ++ drop (suc i) r.blocks ≡ r.blocks =
      append_assoc (take i r.blocks) (block_at r.blocks i ∷ []) (drop (suc i) r.blocks) ∙ sym (split_at r.blocks i stands.within) in
      let place = stands.place in
      reshaped sli state v (take i r.blocks) (block_at r.blocks i ∷ []) new (drop (suc i) r.blocks) whole replaces
      (λ k low high. unlisted k (omega (arith, low, place)) (omega (arith, high, place)))

  pub left_whole : Wholes m v at tag serial len → words_for len ≤ tag.size
      → Reshapes sli v l (take i r.blocks ++ (Live (size_of (block_at r.blocks i)) serial (stored_bytes v at len) ∷ []) ++ drop (suc i) r.blocks) r.lists
  left_whole wholes room =
      rw is_tag.size at (left_by _ (whole_replaces state.shows stands is_tag wholes room))

  pub left_split : Splits m v at tag size serial len → 4 ≤ size → size + 4 ≤ tag.size → words_for len ≤ size
      → Reshapes sli v l (take i r.blocks ++ (Live size serial (stored_bytes v at len) ∷ Free (size_of (block_at r.blocks i) - size) serial ∷ []) ++ drop (suc i) r.blocks) r.lists
  left_split splits least large room =
      rw is_tag.size at (left_by _ (split_replaces state.shows stands is_tag size splits least large room))
