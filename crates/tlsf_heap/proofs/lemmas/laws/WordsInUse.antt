-- The words in use add up over the calls.
use Rattle.tlsf_heap.proofs.Common.{◌≡◌, Bool, cond, eqb, find, ℕ, suc, false, take, drop, ◌+◌, ◌≤◌, List, [], ◌∷◌, ◌++◌, ◌-◌, length, replicate, true, Option, Some, Ok, refl, sym, ap, ◌∙◌, inl, inr, arith, append_assoc, ◌==◌, AllByRecursion, eqb-true, false≢true, cases_lt, IsLevel, Block, Live, Free, HeapState, size_of, words_in, is_free, bytes_of, want, carved, ticked, with_blocks, past_free, before_free, has_serial, allocated_words, overwritten, with_bytes, released, resized_words, refitted, room_of, Site, block_at, IsLawful, HasRoom, IsLive, IsTaken, IsNamed, words_in_use, words_held, live_words, words_at, IsLiveAt, Name, Fill, Fit, Give, GiveFrom, IsOfOtherBlocks, IsRoomy, IsWrite, Look, Put, Reset, Step, Take, after, named, stepped}
use Rattle.tlsf_heap.specs.WordsInUse.{words_used}
use Rattle.tlsf_heap.specs.Placed.{placed, placed_from}
use Rattle.tlsf_heap.specs.declared.placed_block.PlacedBlock.{PlacedBlock}
use Rattle.tlsf_heap.proofs.lemmas.laws.Live.{lasts_named, kept_others}
use Rattle.tlsf_heap.proofs.lemmas.blocks.Sums.{words_apart}
use Rattle.tlsf_heap.proofs.lemmas.blocks.Used.{around_used, past_used, before_used, free_used, live_used, used_bytes}
use Rattle.tlsf_heap.proofs.lemmas.calls.Alter.{named_of}
use Rattle.tlsf_heap.proofs.lemmas.blocks.Replace.{carved_small, carved_large}
use Rattle.tlsf_heap.proofs.lemmas.blocks.Find.{and_left, and_right}
use Rattle.tlsf_heap.proofs.lemmas.laws.Lasting.{HasFrom, of_index, to_index}
use Rattle.tlsf_heap.proofs.lemmas.calls.Named.{named_stands, named_live}
use Rattle.tlsf_heap.proofs.lemmas.calls.Outcomes.{IsSiteOf, gives_words, by_allocated_words, takes, by_released, by_resized_words, by_written, by_filled, lawful_step, lawful_allocated_words, lawful_resized_words}
use Rattle.tlsf_heap.proofs.lemmas.blocks.ByPlace.{placed_found, content-live}
use Rattle.tlsf_heap.proofs.lemmas.calls.Resize.{by_refitted}
use Rattle.tlsf_heap.proofs.lemmas.blocks.Around.{Around, around, stands_around, block_around}

-- those of a heap, by the blocks around one
around_in_use : (h : HeapState) (front back : List Block) (b : Block) → h.blocks ≡ front ++ b ∷ back → words_in_use h ≡ words_used front + words_used (b ∷ []) + words_used back
around_in_use h = around_used h.blocks

-- ---- the words at a place

-- those of the live block that stands there
pub words_live : (h : HeapState) {at i : ℕ} → AllByRecursion HasRoom h.blocks → IsLiveAt h.blocks at i → words_at h at ≡ size_of (block_at h.blocks i)
words_live h {i = i} rooms l = let b = block_at h.blocks i in ap live_words (placed_found rooms l.stands) ∙ ap (words_held (size_of b)) (content-live b l.live)

-- and of a live name
pub words_named : (h : HeapState) (name : Name) → IsLawful h → (named : IsNamed h name) → words_at h name.at ≡ size_of (block_at h.blocks named.1.0)
words_named h name lawful named = words_live h lawful.rooms (record { stands = named_stands _ _ _ _ named.1.1; live = named_live _ _ _ _ named.1.1 })

words_here : (h : HeapState) (front back : List Block) (size serial : ℕ) (bytes : List ℕ) → AllByRecursion HasRoom h.blocks → h.blocks ≡ front ++ Live size serial bytes ∷ back
    → words_at h (words_in front) ≡ size
words_here h front back size serial bytes rooms is =
    let a : Around h.blocks (words_in front) (length front) front (Live size serial bytes) back = record { is = is; before = refl; place = refl } in
    words_live h rooms (record { stands = stands_around a; live = ap is_free (block_around a) }) ∙ ap size_of (block_around a)

-- and no more than all in use, which are no more than the region has
pub words_part : (h : HeapState) {at i : ℕ} → IsLiveAt h.blocks at i → size_of (block_at h.blocks i) ≤ words_in_use h
words_part h {at = at} {i = i} l =
    let b = block_at h.blocks i in
    omega (arith, live_used b l.live, around_in_use h (take i h.blocks) (drop (suc i) h.blocks) b (around h.blocks at i l.stands).is)

pub words_within : (h : HeapState) → IsLawful h → words_in_use h ≤ h.words
words_within h lawful = omega (arith, words_apart h.blocks, lawful.whole)

-- a live block comes in place of a block, and what stands behind has as many words in use as what stood there
replaced : (h k : HeapState) (front back rest : List Block) (b : Block) (size serial : ℕ) (bytes : List ℕ) → AllByRecursion HasRoom k.blocks
    → h.blocks ≡ front ++ b ∷ back → k.blocks ≡ front ++ Live size serial bytes ∷ rest → words_used rest ≡ words_used back
    → words_in_use k + words_used (b ∷ []) ≡ words_in_use h + words_at k (words_in front)
replaced h k front back rest b size serial bytes rooms was is same =
    omega (arith, around_in_use h front back b was, around_in_use k front rest (Live size serial bytes) is, words_here k front rest size serial bytes rooms is, same)

-- ---- allocate

-- a free block gives n words
pub in_use_given : (h : HeapState) (n len : ℕ) (s : Site) → IsSiteOf h.blocks s → is_free s.block ≡ true → IsLawful (gives_words h n len s).heap
    → words_in_use (gives_words h n len s).heap ≡ words_in_use h + words_at (gives_words h n len s).heap (words_in s.before)
in_use_given h n len s site free left =
    let k = (gives_words h n len s).heap in
    let whole = append_assoc s.before (carved (size_of s.block) n h.tick len) s.after in
    let sum : words_in_use k + words_used (s.block ∷ []) ≡ words_in_use h + words_at k (words_in s.before) = elim (cases_lt (size_of s.block) (n + 4)) [
      | inl small ↦ replaced h k s.before s.after s.after s.block (size_of s.block) h.tick (replicate len 0) left.rooms (sym site) (whole ∙ ap (λ (l : List Block). s.before ++ (l ++ s.after)) (carved_small (size_of s.block) n h.tick len small)) refl
      | inr large ↦ replaced h k s.before s.after (Free (size_of s.block - n) h.tick ∷ s.after) s.block n h.tick (replicate len 0) left.rooms (sym site) (whole ∙ ap (λ (l : List Block). s.before ++ (l ++ s.after)) (carved_large (size_of s.block) n h.tick len large)) refl
    ] in
    omega (arith, sum, free_used s.block free)

pub in_use_allocated : (sli : ℕ) → IsLevel sli → (h : HeapState) (n len : ℕ) (name : Name) → want len ≤ n → IsLawful h → (allocated_words sli h n len).answer ≡ Ok name
    → words_in_use (allocated_words sli h n len).heap ≡ words_in_use h + words_at (allocated_words sli h n len).heap name.at
in_use_allocated sli level h n len name wanted lawful =
    by_allocated_words sli (λ o. IsLawful o.heap → o.answer ≡ Ok name → words_in_use o.heap ≡ words_in_use h + words_at o.heap name.at) h n len
    (λ why left e. absurd cc)
    (λ s site fit left e.
    let place : words_in s.before ≡ name.at = cc in
    in_use_given h n len s site (and_left _ _ fit) left ∙ ap (λ (at : ℕ). words_in_use h + words_at (gives_words h n len s).heap at) place)
    (lawful_allocated_words sli level h n len wanted lawful)

-- ---- release

pub in_use_released : (h : HeapState) (name : Name) → IsLawful h → IsTaken h name → words_in_use h ≡ words_in_use (released h name).heap + words_at h name.at
in_use_released h name lawful = by_released (λ o. o.answer ≡ Ok tt → words_in_use h ≡ words_in_use o.heap + words_at h name.at) h name (λ why e. absurd cc) (λ s own site is e.
    freed s.before s.after s.block (sym site) (eqb-true _ _ (and_right (has_serial name.serial s.block) _ is)) (and_left _ _ is))
  where
    freed : (front back : List Block) (b : Block) → h.blocks ≡ front ++ b ∷ back → words_in front ≡ name.at → has_serial name.serial b ≡ true
        → words_in_use h ≡ words_in_use (takes h (record { before = front; block = b; after = back })).heap + words_at h name.at
    freed front back (Free m s) was place is = absurd (false≢true is)
    freed front back (Live m s xs) was place is =
        let k = (takes h (record { before = front; block = Live m s xs; after = back })).heap in
        omega (arith, around_in_use h front back (Live m s xs) was, around_in_use k (before_free front) (past_free back) _ refl, before_used front, past_used back, words_here h front back m s xs lawful.rooms was, ap (words_at h) place)

-- ---- resize

pub in_use_resized : (h : HeapState) (name : Name) (n len : ℕ) → want len ≤ n → IsLawful h
    → words_in_use (resized_words h name n len).heap + words_at h name.at ≡ words_in_use h + words_at (resized_words h name n len).heap name.at
in_use_resized h name n len wanted lawful =
    by_resized_words (λ o. IsLawful o.heap → words_in_use o.heap + words_at h name.at ≡ words_in_use h + words_at o.heap name.at) h name n len (λ why left. refl) (λ s own site is room left.
    fits s.before s.after s.block (sym site) (eqb-true _ _ (and_right (has_serial name.serial s.block) _ is)) (and_left _ _ is) room left.rooms)
    (lawful_resized_words h name n len wanted lawful)
  where
    fits : (front back : List Block) (b : Block) → h.blocks ≡ front ++ b ∷ back → words_in front ≡ name.at → has_serial name.serial b ≡ true → n ≤ room_of b back
        → AllByRecursion HasRoom (front ++ refitted h.tick n len b back)
        → words_in_use (ticked h (front ++ refitted h.tick n len b back)) + words_at h name.at ≡ words_in_use h + words_at (ticked h (front ++ refitted h.tick n len b back)) name.at
    fits front back (Free m s) was place is room = absurd (false≢true is)
    fits front back (Live m s xs) was place is room =
        let held : words_at h name.at ≡ m = ap (words_at h) (sym place) ∙ words_here h front back m s xs lawful.rooms was in
        let here : (l : List Block) → words_in_use (ticked h l) + m ≡ words_in_use h + words_at (ticked h l) (words_in front) → words_in_use (ticked h l) + words_at h name.at ≡ words_in_use h + words_at (ticked h l) name.at =
        λ l sum. omega (arith, sum, held, ap (words_at (ticked h l)) place) in
        by_refitted (λ l. AllByRecursion HasRoom (front ++ l) → words_in_use (ticked h (front ++ l)) + words_at h name.at ≡ words_in_use h + words_at (ticked h (front ++ l)) name.at) h.tick n len m s xs back room
        (λ enough rooms. here _ (omega (arith, replaced h (ticked h _) front back back (Live m s xs) _ _ _ rooms was refl refl)))
        (λ rooms. here _ (omega (arith, replaced h (ticked h _) front back (past_free back) (Live m s xs) _ _ _ rooms was refl (past_used back))))
        (λ large rooms. here _ (omega (arith, replaced h (ticked h _) front back _ (Live m s xs) _ _ _ rooms was refl (past_used back))))

-- ---- write

-- a block gets other bytes
pub in_use_set : (h : HeapState) (s : Site) (bytes : List ℕ) → IsSiteOf h.blocks s → words_in_use (with_blocks h (s.before ++ with_bytes s.block bytes ∷ s.after)) ≡ words_in_use h
in_use_set h s bytes site =
    let k = with_blocks h (s.before ++ with_bytes s.block bytes ∷ s.after) in
    omega (arith, around_in_use h s.before s.after s.block (sym site), around_in_use k s.before s.after (with_bytes s.block bytes) refl, used_bytes s.block bytes)

-- a write changes no block's words
module _ (place : ℕ) where
  abbrev pub from : ℕ → List Block → ℕ
  from at bs = live_words (find (λ b. b.at == place) (placed_from at bs))

  either : (c : Bool) (p q : PlacedBlock) (r s : Option PlacedBlock) → live_words (Some p) ≡ live_words (Some q) → live_words r ≡ live_words s → live_words (cond c (Some p) r) ≡ live_words (cond c (Some q) s)
  either true p q r s same other = same
  either false p q r s same other = other

  pub with_words : (at : ℕ) (front back : List Block) (b : Block) (new : List ℕ) → from at (front ++ with_bytes b new ∷ back) ≡ from at (front ++ b ∷ back)
  with_words at [] back (Live m s xs) new = either (eqb at place) _ _ _ _ refl refl
  with_words at [] back (Free m s) new = refl
  with_words at (x ∷ front) back b new = either (eqb at place) (placed at x) (placed at x) _ _ refl (with_words (at + size_of x) front back b new)

-- so other bytes change neither sum
both_set : (h : HeapState) (s : Site) (bytes : List ℕ) → IsSiteOf h.blocks s → let k = with_blocks h (s.before ++ with_bytes s.block bytes ∷ s.after) in (words_in_use k ≡ words_in_use h) × ((place : ℕ) → words_at k place ≡ words_at h place)
both_set h s bytes site = (in_use_set h s bytes site, λ place. with_words place 0 s.before s.after s.block bytes ∙ ap (from place 0) site)

pub words_set : (sli : ℕ) (h : HeapState) (step : Step) → IsWrite step → (words_in_use (stepped sli h step) ≡ words_in_use h) × ((place : ℕ) → words_at (stepped sli h step) place ≡ words_at h place)
words_set sli h (Put name at bytes) write = by_written (λ o. (words_in_use o.heap ≡ words_in_use h) × ((place : ℕ) → words_at o.heap place ≡ words_at h place)) h name at bytes (λ why. (refl, λ place. refl))
    (λ s site has. both_set h s (overwritten (bytes_of s.block) at bytes) site)
words_set sli h (Fill name bytes) write = by_filled (λ k. (words_in_use k ≡ words_in_use h) × ((place : ℕ) → words_at k place ≡ words_at h place)) h name bytes (refl, λ place. refl) (λ s site is. both_set h s bytes site)
words_set sli h Look write = (refl, λ place. refl)
words_set sli h (Give n len) write = absurd write
words_set sli h (GiveFrom at n) write = absurd write
words_set sli h (Take name) write = absurd write
words_set sli h (Fit name n len) write = absurd write
words_set sli h Reset write = absurd write

-- ---- the words of a live block stay through each call that is not about it

-- a live block of this serial and this many words
abbrev pub Sized : ℕ → ℕ → Block → Type 0
Sized serial size (Live own held bytes) = (held ≡ serial) × (own ≡ size)
Sized serial size (Free m s) = ⊥

module _ (name : Name) (size : ℕ) where
  pub not_free : (m s : ℕ) → Sized name.serial size (Free m s) → ⊥
  not_free m s e = e

  pub one_sized : (a : ℕ) (b : Block) → has_serial a b ≡ true → Sized name.serial size b → a ≡ name.serial
  one_sized a (Live m s xs) e h = sym (eqb-true s a e) ∙ h.0
  one_sized a (Free m s) e h = absurd h

  sized_here : (b : Block) → has_serial name.serial b ≡ true → size_of b ≡ size → Sized name.serial size b
  sized_here (Live m s xs) e same = (eqb-true s name.serial e, same)
  sized_here (Free m s) e same = absurd (false≢true e)

  sized_live : (b : Block) → Sized name.serial size b → (is_free b ≡ false) × (size_of b ≡ size)
  sized_live (Live m s xs) h = (refl, h.1)
  sized_live (Free m s) h = absurd h

  abbrev pub IsSized : HeapState → Type 0
  IsSized h = HasFrom (Sized name.serial size) name.at 0 h.blocks

  pub sized : (h : HeapState) → IsLawful h → IsLive h name → words_at h name.at ≡ size → IsSized h
  sized h lawful live same =
      let named = named_of h name live in
      let stands = named_stands _ _ _ _ named.1.1 in
      of_index (Sized name.serial size) name.at 0 h.blocks named.1.0 stands.within (omega (arith, stands.place))
      (sized_here (block_at h.blocks named.1.0) (and_left _ _ named.1.1.here) (sym (words_named h name lawful named) ∙ same))

  pub words_sized : (h : HeapState) → IsLawful h → IsSized h → words_at h name.at ≡ size
  words_sized h lawful has =
      let r = to_index (Sized name.serial size) name.at 0 h.blocks has in
      let is = sized_live (block_at h.blocks r.0) r.3 in
      words_live h lawful.rooms (record { stands = record { within = r.1; place = omega (arith, r.2) }; live = is.0 }) ∙ is.1

module _ (sli : ℕ) (level : IsLevel sli) (name : Name) where
  pub words_kept : (h : HeapState) (step : Step) → IsRoomy step → IsOfOtherBlocks name step → IsLawful h → IsLive h name → words_at (stepped sli h step) name.at ≡ words_at h name.at
  words_kept h step roomy other lawful live =
      let size = words_at h name.at in
      words_sized name size (stepped sli h step) (lawful_step sli level h step roomy lawful)
      (lasts_named (Sized name.serial size) name (not_free name size) (one_sized name size) sli h step (inr (λ m s xs ys is. is, other)) (live.0, sized name size h lawful live refl)).1

  pub words_kept_run : (h : HeapState) (steps : List Step) → AllByRecursion (λ step. IsRoomy step × IsOfOtherBlocks name step) steps → IsLawful h → IsLive h name → words_at (after sli h steps) name.at ≡ words_at h name.at
  words_kept_run h [] all lawful live = refl
  words_kept_run h (step ∷ steps) all lawful live =
      words_kept_run (stepped sli h step) steps all.1 (lawful_step sli level h step all.0.0 lawful) (kept_others sli h name step all.0.1 live) ∙ words_kept h step all.0.0 all.0.1 lawful live
