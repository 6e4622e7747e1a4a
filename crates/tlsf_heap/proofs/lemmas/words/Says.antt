-- The block at a place, as the words tell of it.
use Rattle.tlsf_heap.proofs.Common.{◌≡◌, ℕ, ◌+◌, ◌^◌, ◌<◌, ◌≤◌, Bool, true, false, ◌&&◌, eqb, List, length, take, get_or, refl, sym, ap, ◌∙◌, subst, arith, ◌==◌, AllByRecursion, false≢true, eq-eqb, eqb-true, Image, mark_of, StartsOnce, back_behind, Shows, Extents, size_in, last_in, free_in, back_in, Block, Live, Free, size_of, words_in, is_free, StandsAt, IsPlace, block_at, site_at, HasRoom, has_serial, is_named, nowhere, ListHeads, list_of, AreThreaded, blocks_of, NoneNamed, IsFirst, RegionState}
use Rattle.tlsf_words.proofs.FieldLaws.{size_in-tag_word, last_in-tag_word, free_in-tag_word, back_in-tag_word}
use Rattle.tlsf_heap.specs.Listed.{AreFreeBlocks, lists_of, HoldsLists}
use Rattle.tlsf_heap.proofs.lemmas.blocks.Find.{not_true, and_left, and_right}
use Rattle.tlsf_heap.proofs.lemmas.words.Image.{word_at, start_at, shown_here, four_here, ends_here, stands_once, place_of_start}
use Rattle.tlsf_heap.proofs.lemmas.words.Links.{shows_linked}

-- the words of a region show its blocks
pub shows_state : (sli : ℕ) {m : Image} {l : ListHeads} {r : RegionState} {extents : Extents} {touches : ℕ} {touched : List ℕ} → HoldsLists sli m l
    → record { words = length m.words; blocks = blocks_of m.words; lists = lists_of l.heads m.words; marked = l.members; stored = m; extents = extents; touches = touches; touched = touched } ≡ r → Shows m r.blocks
shows_state sli {m = m} holds same = subst (Shows m) (ap (λ (s : RegionState). s.blocks) same) holds.shows

-- words that were only read hold what they held, at any number of touches
pub holds_read : (sli : ℕ) {m v : Image} {l : ListHeads} → v.words ≡ m.words → v.starts ≡ m.starts → HoldsLists sli m l → HoldsLists sli v l
holds_read sli {m = m} {v = v} {l = l} words starts h = record {
  shows = subst (λ (w : List ℕ). Shows v (blocks_of w)) (sym words)
      (shows_linked m v (ap length words) starts (blocks_of m.words) h.shows (λ k apart. ap (λ (w : List ℕ). get_or w k 0) words));
  threaded = subst (λ (w : List ℕ). AreThreaded sli l.heads l.members w) (sym words) h.threaded;
  free = subst (λ (w : List ℕ). AreFreeBlocks (list_of l.heads w) (blocks_of w)) (sym words) h.free;
}

-- lists that were only read hold what they held, at any number of touches
pub lists_read : (sli : ℕ) {m : Image} {l k : ListHeads} → k.heads ≡ l.heads → k.members ≡ l.members → HoldsLists sli m l → HoldsLists sli m k
lists_read sli {m = m} {l = l} {k = k} heads members h = record {
  shows = h.shows;
  threaded = subst (λ (xs : List ℕ). AreThreaded sli k.heads xs m.words) (sym members) (subst (λ (xs : List ℕ). AreThreaded sli xs l.members m.words) (sym heads) h.threaded);
  free = subst (λ (xs : List ℕ). AreFreeBlocks (list_of xs m.words) (blocks_of m.words)) (sym heads) h.free;
}

-- what the words say of a block at a place
pub record Says (m : Image) (at back : ℕ) (b : Block) : Type 0 where
  pub least : 4 ≤ size_of b
  pub ends : at + size_of b ≤ length m.words
  pub size : size_in (word_at m at) ≡ size_of b
  pub last : last_in (word_at m at) ≡ eqb (at + size_of b) (length m.words)
  pub free : free_in (word_at m at) ≡ is_free b
  pub before : back_in (word_at m at) ≡ back
  pub mark : word_at m (at + 1) ≡ mark_of b
  pub starts : StartsOnce m.starts at (size_of b)

pub has_serial-live : (b : Block) (serial : ℕ) → is_free b ≡ false → has_serial serial b ≡ (mark_of b == serial)
has_serial-live (Live size own bytes) serial live = refl
has_serial-live (Free size stamp) serial live = absurd (false≢true (sym live))

module _ {m : Image} {bs : List Block} (shows : Shows m bs) where
  module _ {at i : ℕ} (stands : StandsAt bs at i) where
    pub says_here : Says m at (back_behind 0 nowhere (take i bs)) (block_at bs i)
    says_here =
        let shown = shown_here m bs shows at i stands in
        let ends = ends_here m bs shows at i stands in
        let small : size_of (block_at bs i) < 2 ^ 30 = omega (arith, shows.small) in
        record {
          least = four_here m bs shows at i stands;
          ends = ends;
          size = ap size_in shown.tag ∙ size_in-tag_word _ _ _ _ small;
          last = ap last_in shown.tag ∙ last_in-tag_word _ _ _ _ small;
          free = ap free_in shown.tag ∙ free_in-tag_word _ _ _ _;
          before = ap back_in shown.tag ∙ back_in-tag_word _ _ _ _ small;
          mark = shown.mark;
          starts = shown.starts;
        }

  -- a place has one index
  pub at_index : {at i : ℕ} (P : ℕ → Type 0) → (j : ℕ) × StandsAt bs at j × P j → StandsAt bs at i → P i
  at_index {at = at} {i = i} P found stands = subst P (stands_once bs at found.0 i shows.rooms found.1 stands) found.2

  -- a place of the region is within its words
  pub in_region : {at : ℕ} → IsPlace bs at → at + 4 ≤ length m.words
  in_region place = let says = says_here place.1 in omega arith

  -- a block begins where a start bit says so
  pub starts_here : {at n : ℕ} {starts : Bool} → n ≡ length m.words → at < n → starts ≡ start_at m at → starts ≡ true → IsPlace bs at
  starts_here {at = at} long inside read set = place_of_start m bs at shows (omega arith) (sym read ∙ set)

-- no block is named where none that begins there has the serial
pub none_named : {bs : List Block} (at serial : ℕ) → ((i : ℕ) → StandsAt bs at i → has_serial serial (block_at bs i) ≡ false) → NoneNamed at serial bs
none_named {bs = bs} at serial other i within =
    not_true (is_named at serial (site_at bs i)) (λ e.
    let place : words_in (take i bs) ≡ at = eqb-true _ _ (and_right (has_serial serial (block_at bs i)) _ e) in
    false≢true (sym (other i (record { within = within; place = place })) ∙ and_left (has_serial serial (block_at bs i)) _ e))

module _ {bs : List Block} (rooms : AllByRecursion HasRoom bs) where
  -- where a block begins at the place, its serial decides
  pub named_here : {at i : ℕ} (serial : ℕ) → StandsAt bs at i → has_serial serial (block_at bs i) ≡ true → IsFirst at serial bs i
  named_here {at = at} {i = i} serial stands e = record {
    within = stands.within;
    here = ap (λ (b : Bool). b && words_in (take i bs) == at) e ∙ eq-eqb _ _ stands.place;
    before = λ j l. not_true (is_named at serial (site_at bs j)) (λ f.
        let place : words_in (take j bs) ≡ at = eqb-true _ _ (and_right (has_serial serial (block_at bs j)) _ f) in
        let same = stands_once bs at j i rooms (record { within = omega (arith, l, stands.within); place = place }) stands in
        omega (arith, l, same));
  }
