-- A heap that never refuses blocks of mixed sizes: what each call leaves of its bounds.
use Rattle.tlsf_pool.proofs.Common.{◌≡◌, ◌≢◌, ℕ, ◌+◌, ◌-◌, ◌*◌, ◌<◌, ◌≤◌, ◌&&◌, max, Bool, true, false, cond, nat_le, List, [], ◌∷◌, length, Option, Some, None, Err, refl, sym, ap, ap₂, ◌∙◌, subst, inl, inr, arith, AllByRecursion, mul-le-mul, mul-le-mul_right, false≢true, cases_lt, ne_eqb, le-leb, leb-true, lt-leb, IsLevel, most_words, Block, Live, Free, HeapState, words_in, want, Site, choice, fits, IsLawful, IsRegion, Outcome, Call, Allocate, Release, Write, Resize, Read, Allocated, allocated, allocated_at, refused, with_bytes, answered, opened, run, is_worn, last_tick, live_among, Name, NoFit, Worn, live_count, sure, held_after, HasFixedSize, WantsWords, mixed_region, mixed_words, HasMixedRegion, IsSmall, IsModest, AreModest, HasRoomFor, IsServed, MixedSizesSuffice, MixedSizesServe, RegionHasMixedWords, bytes_of}
use Rattle.tlsf_heap.proofs.lemmas.blocks.Lawful.{opened_lawful}
use Rattle.tlsf_heap.proofs.lemmas.blocks.Sums.{words_apart}
use Rattle.tlsf_heap.proofs.lemmas.calls.Outcomes.{by_test, gives, by_allocated, by_released, by_resized_words, by_written, lawful_run}
use Rattle.tlsf_heap.proofs.lemmas.laws.NoFit.{no_fit}
use Rattle.tlsf_pool.proofs.lemmas.laws.FreeRoom.{finds_room, sure_rises}
use Rattle.tlsf_pool.proofs.lemmas.laws.FixedCalls.{wants_kept}
use Rattle.tlsf_pool.proofs.lemmas.laws.FixedSize.{finds_fixed, new_fixed, sure_four}
use Rattle.tlsf_pool.proofs.lemmas.laws.Around.{words_kept, Suits, all_allocated, all_released, all_resized, all_written, requests_alone}
use Rattle.tlsf_pool.proofs.lemmas.laws.Held.{held_is}

-- ---- live blocks of at most k words

abbrev pub AreSmall : ℕ → List Block → Type 0
AreSmall k bs = AllByRecursion (IsSmall k) bs

live_small : (k : ℕ) (bs : List Block) → AreSmall k bs → words_in (live_among bs) ≤ length (live_among bs) * k
live_small k [] all = omega arith
live_small k (Live m s xs ∷ bs) all = let e = live_small k bs all.1 in let f = all.0 refl in omega arith
live_small k (Free m s ∷ bs) all = live_small k bs all.1

pub free_small : (k m u : ℕ) → IsSmall k (Free m u)
free_small k m u f = absurd (false≢true (sym f))

pub small_suits : (k least n len : ℕ) → n + 3 ≤ k → Suits (IsSmall k) least n len
small_suits k least n len h m t xs enough few long = λ _. omega arith

small_with : (k : ℕ) (b : Block) (xs : List ℕ) → length xs ≡ length (bytes_of b) → IsSmall k b → IsSmall k (with_bytes b xs)
small_with k (Live m s ys) xs e h = h
small_with k (Free m s) xs e h = h

-- ---- what holds of such a heap

pub record InMixed (words k : ℕ) (h : HeapState) : Type 0 where
  pub lawful : IsLawful h
  pub words_are : h.words ≡ words
  pub small : AreSmall k h.blocks
  pub fours : k ≤ 7 → HasFixedSize 4 h

-- the words for mixed sizes by their cases
pub mixed_of_fours : (sli most len : ℕ) → len ≤ 8 → mixed_words sli most len ≡ max 4 (most * 4)
mixed_of_fours sli most len h =
    ap (λ (c : Bool). max 4 (cond c (most * 4) ((most - 1) * (want len + 3) + most * (sure sli (want len) - 1) + 1))) (le-leb len 8 h)

pub mixed_of_more : (sli most len : ℕ) → 8 < len → mixed_words sli most len ≡ max 4 ((most - 1) * (want len + 3) + most * (sure sli (want len) - 1) + 1)
mixed_of_more sli most len h =
    ap (λ (c : Bool). max 4 (cond c (most * 4) ((most - 1) * (want len + 3) + most * (sure sli (want len) - 1) + 1))) (lt-leb len 8 h)

-- the region for mixed sizes
pub region_is : (sli : ℕ) → RegionHasMixedWords sli
region_is sli most len words = (at (nat_le (want len) (most_words sli)) (nat_le (mixed_words sli most len) (most_words sli)) refl refl, λ has. on has)
  where
    at : (a b : Bool) → nat_le (want len) (most_words sli) ≡ a → nat_le (mixed_words sli most len) (most_words sli) ≡ b → cond (a && b) (Some (mixed_words sli most len)) None ≡ Some words → HasMixedRegion sli most len × (words ≡ mixed_words sli most len)
    at true true class few is = ((leb-true _ _ class, (omega arith, leb-true _ _ few)), cc)
    at true false class few is = absurd cc
    at false b class few is = absurd cc

    on : HasMixedRegion sli most len × (words ≡ mixed_words sli most len) → mixed_region sli most len ≡ Some words
    on has =
        let class : nat_le (want len) (most_words sli) ≡ true = le-leb _ _ has.0.0 in
        let few : nat_le (mixed_words sli most len) (most_words sli) ≡ true = le-leb _ _ has.0.1.1 in
        ap₂ (λ (a b : Bool). cond (a && b) (Some (mixed_words sli most len)) None) class few ∙ ap Some (sym has.1)

-- up to 8 bytes want four words
wants_four : (most len held : ℕ) (call : Call) → want len + 3 ≤ 7 → IsModest most len held call → WantsWords 4 call
wants_four most len held (Allocate n) few modest = omega (arith, few, modest.0)
wants_four most len held (Release name) few modest = tt
wants_four most len held (Write name at bytes) few modest = tt
wants_four most len held (Resize name n) few modest = omega (arith, few, modest)
wants_four most len held (Read name at n) few modest = tt

module _ (sli most len : ℕ) where
  pub small_kept : (h : HeapState) (call : Call) → AreSmall (want len + 3) h.blocks → IsModest most len (live_count h) call → AreSmall (want len + 3) (answered sli h call).1.blocks
  small_kept h (Allocate n) small modest = all_allocated (IsSmall (want len + 3)) (free_small (want len + 3)) sli 0 h (want n) n (λ b fit. omega arith) (omega arith) (small_suits (want len + 3) 0 (want n) n (omega (arith, modest.0))) small
  small_kept h (Release name) small modest = all_released (IsSmall (want len + 3)) (free_small (want len + 3)) h name small
  small_kept h (Write name at bytes) small modest = all_written (IsSmall (want len + 3)) (free_small (want len + 3)) (small_with (want len + 3)) h name at bytes small
  small_kept h (Resize name n) small modest = all_resized (IsSmall (want len + 3)) (free_small (want len + 3)) h name (want n) n (small_suits (want len + 3) (want n) (want n) n (omega (arith, modest))) small
  small_kept h (Read name at n) small modest = small

module _ (sli : ℕ) (level : IsLevel sli) (words most len : ℕ) (region : want len ≤ most_words sli) (enough : mixed_words sli most len ≤ words) where
  abbrev k : ℕ
  k = want len + 3

  pub kept : (h : HeapState) (call : Call) → InMixed words k h → IsModest most len (live_count h) call → InMixed words k (answered sli h call).1
  kept h call mixed modest = record {
    lawful = lawful_run sli level h (call ∷ []) mixed.lawful;
    words_are = words_kept sli h call ∙ mixed.words_are;
    small = small_kept sli most len h call mixed.small modest;
    fours = λ few. wants_kept sli level 4 h call (wants_four most len (live_count h) call few modest) (mixed.fours few);
  }

  -- where four words are wanted, all blocks have a fixed size
  fours_room : (h : HeapState) (n : ℕ) → InMixed words k h → len ≤ 8 → n ≤ len → live_count h < most → (fits sli (want n) h.blocks ≡ []) → ⊥
  fours_room h n mixed four short few none =
      let wanted : want n ≡ 4 = omega (arith, four, short) in
      finds_fixed sli level 4 most h mixed.lawful (mixed.fours (omega (arith, four))) (sure_four sli level) (omega (arith, mixed.words_are, enough, mixed_of_fours sli most len four)) few
      (subst (λ (j : ℕ). fits sli j h.blocks ≡ []) wanted none)

  -- where more are wanted, more is free than holes that are too small may have
  holes_room : (h : HeapState) (n : ℕ) → InMixed words k h → 8 < len → n ≤ len → live_count h < most → (fits sli (want n) h.blocks ≡ []) → ⊥
  holes_room h n mixed more short few =
      let rises = sure_rises sli level (want n) (want len) (omega arith) region in
      let live = live_small k h.blocks mixed.small in
      let most_live : live_count h * k ≤ (most - 1) * k = mul-le-mul_right k (omega arith) in
      let most_lost : (live_count h + 1) * (sure sli (want n) - 1) ≤ most * (sure sli (want len) - 1) = mul-le-mul (omega arith) (omega arith) in
      finds_room sli level h n mixed.lawful (omega arith) (omega (arith, words_apart h.blocks, mixed.lawful.whole, mixed.words_are, live, most_live, most_lost, enough, mixed_of_more sli most len more))

  -- a modest request finds room
  pub has_room : (h : HeapState) (n : ℕ) → InMixed words k h → n ≤ len → live_count h < most → (allocated sli h n).answer ≢ Err NoFit
  has_room h n mixed short few e = elim (cases_lt 8 len) [
    | inl more ↦ holes_room h n mixed more short few ((no_fit sli h n).0 e)
    | inr four ↦ fours_room h n mixed four short few ((no_fit sli h n).0 e)
  ]

  not_refused : (h : HeapState) (call : Call) → InMixed words k h → IsModest most len (live_count h) call → HasRoomFor (answered sli h call).0
  not_refused h call mixed modest = requests_alone (IsModest most len (live_count h)) sli h call modest (λ n asked. has_room h n mixed asked.0 asked.1)

  next : (h : HeapState) (call : Call) (calls : List Call) → AreModest most len (held_after (live_count h) call (answered sli h call).0) calls (run sli (answered sli h call).1 calls).0
      → AreModest most len (live_count (answered sli h call).1) calls (run sli (answered sli h call).1 calls).0
  next h call calls modest = subst (λ (held : ℕ). AreModest most len held calls (run sli (answered sli h call).1 calls).0) (sym (held_is sli h call)) modest

  none_refused : (h : HeapState) (calls : List Call) → InMixed words k h → AreModest most len (live_count h) calls (run sli h calls).0 → AllByRecursion HasRoomFor (run sli h calls).0
  none_refused h [] mixed modest = tt
  none_refused h (call ∷ calls) mixed modest = (not_refused h call mixed modest.0, none_refused (answered sli h call).1 calls (kept h call mixed modest.0) (next h call calls modest.1))

  -- ---- while the ticks last

  pub tick_kept : (h : HeapState) (call : Call) → (answered sli h call).1.tick ≤ h.tick + 1
  tick_kept h (Allocate n) = by_allocated sli (λ o. o.heap.tick ≤ h.tick + 1) h n (λ why. omega arith) (λ s site fit. omega arith)
  tick_kept h (Release name) = by_released (λ o. o.heap.tick ≤ h.tick + 1) h name (λ why. omega arith) (λ s own site is. omega arith)
  tick_kept h (Write name at bytes) = by_written (λ o. o.heap.tick ≤ h.tick + 1) h name at bytes (λ why. omega arith) (λ s site has. omega arith)
  tick_kept h (Resize name n) = by_resized_words (λ o. o.heap.tick ≤ h.tick + 1) h name (want n) n (λ why. omega arith) (λ s own site is room. omega arith)
  tick_kept h (Read name at n) = omega arith

  pub is_served : (h : HeapState) (call : Call) → InMixed words k h → IsModest most len (live_count h) call → h.tick < last_tick → IsServed (answered sli h call).0
  is_served h (Allocate n) mixed modest fresh = at (choice sli (want n) h.blocks) (has_room h n mixed modest.0 modest.1)
    where
      at : (o : Option Site) → (allocated_at h (want n) n o).answer ≢ Err NoFit → IsServed (Allocated (allocated_at h (want n) n o).answer)
      at None room = absurd (room refl)
      at (Some s) room = by_test (λ (o : Outcome Name). IsServed (Allocated o.answer)) (is_worn h) (refused h Worn) (gives h n s) (λ worn. absurd (false≢true (sym (ne_eqb h.tick last_tick (λ e. omega (arith, e, fresh))) ∙ worn))) tt
  is_served h (Release name) mixed modest fresh = tt
  is_served h (Write name at bytes) mixed modest fresh = tt
  is_served h (Resize name n) mixed modest fresh = tt
  is_served h (Read name at n) mixed modest fresh = tt

  all_served : (h : HeapState) (calls : List Call) → InMixed words k h → AreModest most len (live_count h) calls (run sli h calls).0 → h.tick + length calls ≤ last_tick → AllByRecursion IsServed (run sli h calls).0
  all_served h [] mixed modest fresh = tt
  all_served h (call ∷ calls) mixed modest fresh =
      let tick = tick_kept h call in (
        is_served h call mixed modest.0 (omega arith),
        all_served (answered sli h call).1 calls (kept h call mixed modest.0) (next h call calls modest.1) (omega (arith, tick, fresh)),
      )

-- so it does of a new heap
pub opens : (sli id words first k : ℕ) → IsRegion sli words → InMixed words k (opened id words first)
opens sli id words first k region = record { lawful = opened_lawful id words first region.0; words_are = refl; small = ((λ f. absurd (false≢true (sym f))), tt); fours = λ _. new_fixed 4 id words first }

pub suffices : (sli : ℕ) (level : IsLevel sli) → MixedSizesSuffice sli
suffices sli level id words first most len calls region upto enough modest = none_refused sli level words most len upto enough (opened id words first) calls (opens sli id words first (want len + 3) region) modest

pub serves : (sli : ℕ) (level : IsLevel sli) → MixedSizesServe sli
serves sli level id words first most len calls region upto enough modest fresh = all_served sli level words most len upto enough (opened id words first) calls (opens sli id words first (want len + 3) region) modest (omega arith)
