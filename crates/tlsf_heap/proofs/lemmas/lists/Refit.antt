-- A block with other payload bytes or of another size, where it stands among the others, and the lists of the free blocks.
use Rattle.tlsf_heap.proofs.Common.{◌≡◌, ℕ, suc, ◌+◌, ◌-◌, ◌<◌, ◌≤◌, inl, inr, Bool, true, false, cond, nat_le, nat_lt, eqb, List, [], ◌∷◌, ◌++◌, length, take, drop, refl, sym, ap, ◌∙◌, subst, arith, append_assoc, length-append, ◌&&◌, false≢true, cases_lt, nat_tests, drop_at, Tag, Block, Live, Free, size_of, words_in, is_free, bytes_of, stamps, words_for, StandsAt, AllByRecursion, HasRoom, first_free, past_free, with_bytes, fitted, recut, refitted, FreePlace, free_places, AreFreeLists, Site, block_at, site_at, place_of, mark_of, IsTagOf, SameLists}
use Rattle.tlsf_heap.proofs.lemmas.blocks.Lawful.{stamps-append, all_right}
use Rattle.tlsf_heap.proofs.lemmas.lists.FreeLists.{AreListed, same_lists}
use Rattle.tlsf_heap.proofs.lemmas.words.Bytes.{size_of-with_bytes, is_free-with_bytes}
use Rattle.tlsf_heap.proofs.lemmas.words.Recut.{cut_small, cut_large}
use Rattle.tlsf_heap.proofs.lemmas.blocks.Around.{Around, around, take_around, block_around, stands_around, words_around}
use Rattle.tlsf_heap.proofs.lemmas.calls.Write.{places_bytes}

pub drop_around : {bs : List Block} {at i : ℕ} {front : List Block} {b : Block} {back : List Block} → Around bs at i front b back → drop (suc i) bs ≡ back
drop_around {i = i} {front = front} {b = b} {back = back} a =
    ap (drop (suc i)) (a.is ∙ sym (append_assoc front (b ∷ []) back)) ∙ drop_at (front ++ b ∷ []) back (suc i) (omega (arith, length-append front (b ∷ []), a.before))

-- ---- other bytes

stamps_here : (b : Block) (new : List ℕ) (back : List Block) → stamps (with_bytes b new ∷ back) ≡ stamps (b ∷ back)
stamps_here (Live m s xs) new back = refl
stamps_here (Free m s) new back = refl

-- the tag of a block doesn't say its bytes
pub tag_rebytes : {words : ℕ} {s : Site} {own : Tag} (new : List ℕ) → IsTagOf words s own → IsTagOf words (record { before = s.before; block = with_bytes s.block new; after = s.after }) own
tag_rebytes {words = words} {s = s} new is = record {
  size = is.size ∙ sym (size_of-with_bytes s.block new);
  free = is.free ∙ sym (is_free-with_bytes s.block new);
  last = is.last ∙ ap (λ (n : ℕ). eqb (place_of s + n) words) (sym (size_of-with_bytes s.block new));
  back = is.back;
}

module _ (sli : ℕ) {bs : List Block} {at i : ℕ} (stands : StandsAt bs at i) (new : List ℕ) {now : List Block} (is : now ≡ take i bs ++ (with_bytes (block_at bs i) new ∷ []) ++ drop (suc i) bs) where
  pub rebytes_around : Around now at i (take i bs) (with_bytes (block_at bs i) new) (drop (suc i) bs)
  rebytes_around = record {
    is = is ∙ append_assoc (take i bs) (with_bytes (block_at bs i) new ∷ []) (drop (suc i) bs);
    before = (around bs at i stands).before;
    place = stands.place;
  }

  pub rebytes_site : site_at now i ≡ record { before = take i bs; block = with_bytes (block_at bs i) new; after = drop (suc i) bs }
  rebytes_site = let a = take_around rebytes_around in let b = block_around rebytes_around in let c = drop_around rebytes_around in cc

  -- the free blocks stay
  pub rebytes_listed : (old lists : ℕ → List ℕ) → SameLists lists old → AreFreeLists sli bs old → AreFreeLists sli now lists
  rebytes_listed old lists same listed =
      let places : free_places sli 0 now ≡ free_places sli 0 bs =
      ap (free_places sli 0) rebytes_around.is ∙ places_bytes sli (take i bs) (drop (suc i) bs) (block_at bs i) new ∙ sym (ap (free_places sli 0) (around bs at i stands).is) in
      subst (λ (l : List FreePlace). AreListed l lists) (sym places) (same_lists (free_places sli 0 bs) old lists same listed)

  -- and so do the words
  pub rebytes_words : words_in now ≡ words_in bs
  rebytes_words = omega (arith, words_around rebytes_around, words_around (around bs at i stands), size_of-with_bytes (block_at bs i) new)

  pub rebytes_stamps : stamps now ≡ stamps bs
  rebytes_stamps =
      let front = take i bs in
      let back = drop (suc i) bs in
      ap stamps rebytes_around.is ∙ stamps-append front (with_bytes (block_at bs i) new ∷ back) ∙ ap (λ (l : List ℕ). stamps front ++ l) (stamps_here (block_at bs i) new back)
      ∙ sym (stamps-append front (block_at bs i ∷ back)) ∙ sym (ap stamps (around bs at i stands).is)

room_of_live : (b : Block) → is_free b ≡ false → HasRoom b → words_for (length (bytes_of b)) ≤ size_of b
room_of_live (Live m s xs) live room = room.1
room_of_live (Free m s) live room = absurd (false≢true (sym live))

-- a live block has the words for its payload
pub payload_room : {bs : List Block} {at i : ℕ} → AllByRecursion HasRoom bs → StandsAt bs at i → is_free (block_at bs i) ≡ false → words_for (length (bytes_of (block_at bs i))) ≤ size_of (block_at bs i)
payload_room {bs = bs} {at = at} {i = i} rooms stands live =
    room_of_live (block_at bs i) live (all_right HasRoom (take i bs) (block_at bs i ∷ drop (suc i) bs) (subst (AllByRecursion HasRoom) (around bs at i stands).is rooms)).0

pub bytes_of-with_bytes : (b : Block) (new : List ℕ) → is_free b ≡ false → bytes_of (with_bytes b new) ≡ new
bytes_of-with_bytes (Live m s xs) new live = refl
bytes_of-with_bytes (Free m s) new live = absurd (false≢true (sym live))

-- ---- another size

-- what is cut of a live block and those behind it: its size, and what stands behind it then, whatever its bytes
pub record IsCut (n : ℕ) (b : Block) (back : List Block) (tick : ℕ) : Type 0 where
  pub size : ℕ
  pub rest : List Block
  pub enough : n ≤ size
  pub is : (bytes : List ℕ) → recut tick n (with_bytes b bytes) back ≡ Live size (mark_of b) bytes ∷ rest
  pub same : recut tick n b back ≡ Live size (mark_of b) (bytes_of b) ∷ rest

pub is_cut : (n : ℕ) (b : Block) (back : List Block) (tick : ℕ) → is_free b ≡ false → n ≤ size_of b + first_free back → IsCut n b back tick
is_cut n (Free m s) back tick live room = absurd (false≢true (sym live))
is_cut n (Live m s xs) back tick live room = elim (cases_lt (m + first_free back) (n + 4)) [
  | inl small ↦ record {
    size = m + first_free back;
    rest = past_free back;
    enough = room;
    is = λ bytes. ap (λ (l : List Block). l ++ past_free back) (cut_small (m + first_free back) n tick s bytes small);
    same = ap (λ (l : List Block). l ++ past_free back) (cut_small (m + first_free back) n tick s xs small);
  }
  | inr large ↦ record {
    size = n;
    rest = Free (m + first_free back - n) tick ∷ past_free back;
    enough = omega arith;
    is = λ bytes. ap (λ (l : List Block). l ++ past_free back) (cut_large (m + first_free back) n tick s bytes large);
    same = ap (λ (l : List Block). l ++ past_free back) (cut_large (m + first_free back) n tick s xs large);
  }
]

-- a block that is smaller than wanted, or four words greater, is cut
by_size : (n m : ℕ) (x y : List Block) → (nat_le n m && nat_lt m (n + 4)) ≡ false → cond (nat_le n m && nat_lt m (n + 4)) x y ≡ y
by_size n m x y t = ap (λ (b : Bool). cond b x y) t

pub refitted_grown : (tick n len : ℕ) (b : Block) (back : List Block) → size_of b < n → refitted tick n len b back ≡ recut tick n (with_bytes b (fitted (bytes_of b) len)) back
refitted_grown tick n len b back h =
    let t : nat_le n (size_of b) ≡ false = grind (arith, nat_tests) in
    by_size n (size_of b) _ _ (ap (λ (c : Bool). c && nat_lt (size_of b) (n + 4)) t)

pub refitted_cut : (tick n len : ℕ) (b : Block) (back : List Block) → n + 4 ≤ size_of b → refitted tick n len b back ≡ recut tick n (with_bytes b (fitted (bytes_of b) len)) back
refitted_cut tick n len b back h =
    let t : nat_le n (size_of b) ≡ true = grind (arith, nat_tests) in
    let u : nat_lt (size_of b) (n + 4) ≡ false = grind (arith, nat_tests) in
    by_size n (size_of b) _ _ (ap (λ (c : Bool). c && nat_lt (size_of b) (n + 4)) t ∙ u)

pub refitted_kept : (tick n len : ℕ) (b : Block) (back : List Block) → n ≤ size_of b → size_of b < n + 4 → refitted tick n len b back ≡ with_bytes b (fitted (bytes_of b) len) ∷ back
refitted_kept tick n len b back h g =
    let t : nat_le n (size_of b) ≡ true = grind (arith, nat_tests) in
    let u : nat_lt (size_of b) (n + 4) ≡ true = grind (arith, nat_tests) in
    ap (λ (c : Bool). cond c (with_bytes b (fitted (bytes_of b) len) ∷ back) (recut tick n (with_bytes b (fitted (bytes_of b) len)) back)) (ap (λ (c : Bool). c && nat_lt (size_of b) (n + 4)) t ∙ u)

-- a block that grew, once it has its bytes
module _ {bs : List Block} {at i : ℕ} (stands : StandsAt bs at i) (live : is_free (block_at bs i) ≡ false) (tick : ℕ) {n : ℕ} (room : n ≤ size_of (block_at bs i) + first_free (drop (suc i) bs))
    {now : List Block} (is : now ≡ take i bs ++ recut tick n (block_at bs i) (drop (suc i) bs)) where
  parts : IsCut n (block_at bs i) (drop (suc i) bs) tick
  parts = is_cut n (block_at bs i) (drop (suc i) bs) tick live room

  recut_around : Around now at i (take i bs) (Live parts.size (mark_of (block_at bs i)) (bytes_of (block_at bs i))) parts.rest
  recut_around = record { is = is ∙ ap (λ (l : List Block). take i bs ++ l) parts.same; before = (around bs at i stands).before; place = stands.place }

  pub recut_stands : StandsAt now at i
  recut_stands = stands_around recut_around

  pub recut_takes : (size : ℕ) → size ≤ n → (is_free (block_at now i) ≡ false) × (size ≤ size_of (block_at now i))
  recut_takes size h = (ap is_free (block_around recut_around), omega (arith, ap size_of (block_around recut_around), parts.enough))

  pub recut_bytes : bytes_of (block_at now i) ≡ bytes_of (block_at bs i)
  recut_bytes = ap bytes_of (block_around recut_around)

  pub recut_rebytes : (len : ℕ) (left : List Block) → left ≡ take i now ++ (with_bytes (block_at now i) (fitted (bytes_of (block_at now i)) len) ∷ []) ++ drop (suc i) now
      → left ≡ take i bs ++ recut tick n (with_bytes (block_at bs i) (fitted (bytes_of (block_at bs i)) len)) (drop (suc i) bs)
  recut_rebytes len left is_left =
      let new = fitted (bytes_of (block_at bs i)) len in
      let cut_block : Block = Live parts.size (mark_of (block_at bs i)) new in
      let sides : take i now ++ (with_bytes (block_at now i) (fitted (bytes_of (block_at now i)) len) ∷ []) ++ drop (suc i) now ≡ take i bs ++ (cut_block ∷ []) ++ parts.rest =
      ap (λ (l : List Block). l ++ (with_bytes (block_at now i) (fitted (bytes_of (block_at now i)) len) ∷ []) ++ drop (suc i) now) (take_around recut_around)
      ∙ ap (λ (x : Block). take i bs ++ (with_bytes x (fitted (bytes_of x) len) ∷ []) ++ drop (suc i) now) (block_around recut_around)
      ∙ ap (λ (l : List Block). take i bs ++ (cut_block ∷ []) ++ l) (drop_around recut_around) in
      is_left ∙ sides ∙ append_assoc (take i bs) (cut_block ∷ []) parts.rest ∙ ap (λ (l : List Block). take i bs ++ l) (sym (parts.is new))
