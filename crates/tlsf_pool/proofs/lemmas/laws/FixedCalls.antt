-- Calls whose each request takes the words of a fixed size: a program within the bounds is served.
use Rattle.tlsf_pool.proofs.Common.{◌≡◌, ℕ, zero, suc, ◌+◌, ◌*◌, ◌<◌, ◌≤◌, List, [], ◌∷◌, length, replicate, Result, Ok, Err, IsOk, refl, sym, ap, ◌∙◌, subst, arith, AllByRecursion, false≢true, IsLevel, most_words, HeapState, want, fits, IsLawful, IsRegion, Call, Allocate, Release, Write, Resize, Read, Answer, Allocated, Resized, allocated_words, answered, opened, run, last_tick, Name, Refusal, NoFit, live_count, sure, held_after, IsModest, AreModest, HasRoomFor, IsServed, HasFixedSize, answered_fixed, run_fixed, fixed_words, FixedSizeSuffices, FixedSizeServes, FixedSizeIsExact, WantsWords, OneLengthSuffices}
use Rattle.tlsf_heap.specs.Calls.{resized_words}
use Rattle.tlsf_heap.proofs.lemmas.blocks.Lawful.{opened_lawful}
use Rattle.tlsf_heap.proofs.lemmas.calls.Outcomes.{by_allocated_words, by_released, by_resized_words, by_written, lawful_allocated_words, lawful_resized_words, lawful_run}
use Rattle.tlsf_heap.proofs.lemmas.laws.NoFit.{no_fit_words, ok_words}
use Rattle.tlsf_pool.proofs.lemmas.laws.Around.{words_kept}
use Rattle.tlsf_pool.proofs.lemmas.laws.FixedSize.{finds_fixed, fixed_kept, live_least, new_fixed, sure_again, sure_region}
use Rattle.tlsf_pool.proofs.lemmas.laws.FreeRoom.{sure_enough, wants}
use Rattle.tlsf_pool.proofs.lemmas.laws.Held.{held_given, held_is, held_resized}

-- ---- each call keeps the size

call_kept : (sli : ℕ) (level : IsLevel sli) (s : ℕ) (h : HeapState) (call : Call) → HasFixedSize s h → HasFixedSize s (answered_fixed sli s h call).1
call_kept sli level s h (Allocate n) fixed = (fixed_kept sli level s h fixed).allocate n
call_kept sli level s h (Release name) fixed = (fixed_kept sli level s h fixed).release name
call_kept sli level s h (Write name at bytes) fixed = (fixed_kept sli level s h fixed).write name at bytes
call_kept sli level s h (Resize name n) fixed = (fixed_kept sli level s h fixed).resize name n
call_kept sli level s h (Read name at n) fixed = fixed

-- where the length itself wants just this many words, it is a call of every heap
same_call : (sli s : ℕ) (h : HeapState) (call : Call) → WantsWords s call → answered sli h call ≡ answered_fixed sli s h call
same_call sli s h (Allocate n) wanted = ap (λ (k : ℕ). (Allocated (allocated_words sli h k n).answer, (allocated_words sli h k n).heap)) wanted
same_call sli s h (Release name) wanted = refl
same_call sli s h (Write name at bytes) wanted = refl
same_call sli s h (Resize name n) wanted = ap (λ (k : ℕ). (Resized (resized_words h name k n).answer, (resized_words h name k n).heap)) wanted
same_call sli s h (Read name at n) wanted = refl

pub wants_kept : (sli : ℕ) (level : IsLevel sli) (s : ℕ) (h : HeapState) (call : Call) → WantsWords s call → HasFixedSize s h → HasFixedSize s (answered sli h call).1
wants_kept sli level s h call wanted fixed = subst (λ (step : Answer × HeapState). HasFixedSize s step.1) (sym (same_call sli s h call wanted)) (call_kept sli level s h call fixed)

-- ---- as many blocks are live as are held

pub held_fixed : (sli s : ℕ) (h : HeapState) (call : Call) → live_count (answered_fixed sli s h call).1 ≡ held_after (live_count h) call (answered_fixed sli s h call).0
held_fixed sli s h (Allocate n) = held_given sli h s n
held_fixed sli s h (Release name) = held_is sli h (Release name)
held_fixed sli s h (Write name at bytes) = held_is sli h (Write name at bytes)
held_fixed sli s h (Resize name len) = held_resized h name s len
held_fixed sli s h (Read name at n) = refl

-- ---- what each call leaves

pub record InFixed (words s : ℕ) (h : HeapState) : Type 0 where
  pub lawful : IsLawful h
  pub words_are : h.words ≡ words
  pub fixed : HasFixedSize s h

module _ (sli : ℕ) (level : IsLevel sli) (words most len : ℕ) (region : want len ≤ most_words sli) (enough : fixed_words sli most len ≤ words) where
  abbrev pub s : ℕ
  s = sure sli (want len)

  -- a request within the bounds wants no more than it takes
  enough_words : (n : ℕ) → n ≤ len → want n ≤ s
  enough_words n short = omega (arith, wants n len short, sure_enough sli level (want len) region)

  pub kept : (h : HeapState) (call : Call) → InFixed words s h → IsModest most len (live_count h) call → InFixed words s (answered_fixed sli s h call).1
  kept h (Allocate n) is modest = record {
    lawful = lawful_allocated_words sli level h s n (enough_words n modest.0) is.lawful;
    words_are = by_allocated_words sli (λ o. o.heap.words ≡ h.words) h s n (λ why. refl) (λ t site fit. refl) ∙ is.words_are;
    fixed = call_kept sli level s h (Allocate n) is.fixed;
  }
  kept h (Release name) is modest = record {
    lawful = lawful_run sli level h (Release name ∷ []) is.lawful;
    words_are = words_kept sli h (Release name) ∙ is.words_are;
    fixed = call_kept sli level s h (Release name) is.fixed;
  }
  kept h (Write name at bytes) is modest = record {
    lawful = lawful_run sli level h (Write name at bytes ∷ []) is.lawful;
    words_are = words_kept sli h (Write name at bytes) ∙ is.words_are;
    fixed = call_kept sli level s h (Write name at bytes) is.fixed;
  }
  kept h (Resize name n) is modest = record {
    lawful = lawful_resized_words h name s n (enough_words n modest) is.lawful;
    words_are = by_resized_words (λ o. o.heap.words ≡ h.words) h name s n (λ why. refl) (λ t own site it room. refl) ∙ is.words_are;
    fixed = call_kept sli level s h (Resize name n) is.fixed;
  }
  kept h (Read name at n) is modest = is

  finds_room : (h : HeapState) → InFixed words s h → live_count h < most → ¬ (fits sli s h.blocks ≡ [])
  finds_room h is few = finds_fixed sli level s most h is.lawful is.fixed (sure_again sli level (want len) region) (omega (arith, enough, is.words_are)) few

  not_refused : (h : HeapState) (call : Call) → InFixed words s h → IsModest most len (live_count h) call → HasRoomFor (answered_fixed sli s h call).0
  not_refused h (Allocate n) is modest = λ e. let none : (allocated_words sli h s n).answer ≡ Err NoFit = cc in finds_room h is modest.1 ((no_fit_words sli h s n).0 none)
  not_refused h (Release name) is modest = λ e. cc
  not_refused h (Write name at bytes) is modest = λ e. cc
  not_refused h (Resize name n) is modest = λ e. cc
  not_refused h (Read name at n) is modest = λ e. cc

  is_served : (h : HeapState) (call : Call) → InFixed words s h → IsModest most len (live_count h) call → h.tick < last_tick → IsServed (answered_fixed sli s h call).0
  is_served h (Allocate n) is modest fresh = by_ok (allocated_words sli h s n).answer ((ok_words sli h s n).1 (finds_room h is modest.1, λ worn. omega (arith, worn, fresh)))
    where
      by_ok : (answer : Result Name Refusal) → IsOk answer → IsServed (Allocated answer)
      by_ok (Ok name) ok = tt
      by_ok (Err why) ok = absurd (false≢true ok)
  is_served h (Release name) is modest fresh = tt
  is_served h (Write name at bytes) is modest fresh = tt
  is_served h (Resize name n) is modest fresh = tt
  is_served h (Read name at n) is modest fresh = tt

  tick_kept : (h : HeapState) (call : Call) → (answered_fixed sli s h call).1.tick ≤ h.tick + 1
  tick_kept h (Allocate n) = by_allocated_words sli (λ o. o.heap.tick ≤ h.tick + 1) h s n (λ why. omega arith) (λ t site fit. omega arith)
  tick_kept h (Release name) = by_released (λ o. o.heap.tick ≤ h.tick + 1) h name (λ why. omega arith) (λ t own site it. omega arith)
  tick_kept h (Write name at bytes) = by_written (λ o. o.heap.tick ≤ h.tick + 1) h name at bytes (λ why. omega arith) (λ t site has. omega arith)
  tick_kept h (Resize name n) = by_resized_words (λ o. o.heap.tick ≤ h.tick + 1) h name s n (λ why. omega arith) (λ t own site it room. omega arith)
  tick_kept h (Read name at n) = omega arith

  next : (h : HeapState) (call : Call) (calls : List Call) → AreModest most len (held_after (live_count h) call (answered_fixed sli s h call).0) calls (run_fixed sli s (answered_fixed sli s h call).1 calls).0
      → AreModest most len (live_count (answered_fixed sli s h call).1) calls (run_fixed sli s (answered_fixed sli s h call).1 calls).0
  next h call calls modest = subst (λ (held : ℕ). AreModest most len held calls (run_fixed sli s (answered_fixed sli s h call).1 calls).0) (sym (held_fixed sli s h call)) modest

  none_refused : (h : HeapState) (calls : List Call) → InFixed words s h → AreModest most len (live_count h) calls (run_fixed sli s h calls).0 → AllByRecursion HasRoomFor (run_fixed sli s h calls).0
  none_refused h [] is modest = tt
  none_refused h (call ∷ calls) is modest = (not_refused h call is modest.0, none_refused (answered_fixed sli s h call).1 calls (kept h call is modest.0) (next h call calls modest.1))

  all_served : (h : HeapState) (calls : List Call) → InFixed words s h → AreModest most len (live_count h) calls (run_fixed sli s h calls).0 → h.tick + length calls ≤ last_tick → AllByRecursion IsServed (run_fixed sli s h calls).0
  all_served h [] is modest fresh = tt
  all_served h (call ∷ calls) is modest fresh =
      let tick = tick_kept h call in
      (is_served h call is modest.0 (omega arith), all_served (answered_fixed sli s h call).1 calls (kept h call is modest.0) (next h call calls modest.1) (omega (arith, tick, fresh)))

-- a new heap is so
opens : (sli id words first s : ℕ) → IsRegion sli words → InFixed words s (opened id words first)
opens sli id words first s region = record { lawful = opened_lawful id words first region.0; words_are = refl; fixed = new_fixed s id words first }

pub fixed_suffices : (sli : ℕ) (level : IsLevel sli) → FixedSizeSuffices sli
fixed_suffices sli level id words first most len calls region class enough modest =
    none_refused sli level words most len class enough (opened id words first) calls (opens sli id words first (sure sli (want len)) region) modest

pub fixed_serves : (sli : ℕ) (level : IsLevel sli) → FixedSizeServes sli
fixed_serves sli level id words first most len calls region class enough modest fresh =
    all_served sli level words most len class enough (opened id words first) calls (opens sli id words first (sure sli (want len)) region) modest (omega (arith, fresh))

-- ---- in fewer words

-- where all of this many requests more are served, there are the words of this many blocks more
all_fit : (sli : ℕ) (level : IsLevel sli) (s len n : ℕ) (h : HeapState) → want len ≤ s → IsLawful h → HasFixedSize s h
    → AllByRecursion IsServed (run_fixed sli s h (replicate n (Allocate len))).0 → (live_count h + n) * s ≤ h.words
all_fit sli level s len zero h wanted lawful fixed served = let least = live_least s h.blocks fixed.sizes in omega (arith, least, lawful.whole)
all_fit sli level s len (suc n) h wanted lawful fixed served =
    let next : HeapState = (allocated_words sli h s len).heap in
    let one : live_count next ≡ live_count h + 1 = held_fixed sli s h (Allocate len) ∙ more (live_count h) (allocated_words sli h s len).answer served.0 in
    let words : next.words ≡ h.words = by_allocated_words sli (λ o. o.heap.words ≡ h.words) h s len (λ why. refl) (λ t site fit. refl) in
    let rest = all_fit sli level s len n next wanted (lawful_allocated_words sli level h s len wanted lawful) ((fixed_kept sli level s h fixed).allocate len) served.1 in
    let same : live_count next + n ≡ live_count h + suc n = omega (arith, one) in
    subst (λ (k : ℕ). k * s ≤ h.words) same (omega (arith, rest, words))
  where
    more : (held : ℕ) (answer : Result Name Refusal) → IsServed (Allocated answer) → held_after held (Allocate len) (Allocated answer) ≡ held + 1
    more held (Ok name) is = refl
    more held (Err why) is = absurd is

pub fixed_exact : (sli : ℕ) (level : IsLevel sli) → FixedSizeIsExact sli
fixed_exact sli level id words first most len region class few served =
    let s : ℕ = sure sli (want len) in
    let all = all_fit sli level s len most (opened id words first) (sure_enough sli level (want len) class) (opened_lawful id words first region.0) (new_fixed s id words first) served in
    omega (arith, all, few)

-- ---- where the lengths themselves want just so many words

same_run : (sli s : ℕ) (h : HeapState) (calls : List Call) → AllByRecursion (WantsWords s) calls → run sli h calls ≡ run_fixed sli s h calls
same_run sli s h [] wanted = refl
same_run sli s h (call ∷ calls) wanted =
    let step : Answer × HeapState = answered_fixed sli s h call in
    ap (λ (it : Answer × HeapState). (it.0 ∷ (run sli it.1 calls).0, (run sli it.1 calls).1)) (same_call sli s h call wanted.0)
    ∙ ap (λ (rest : List Answer × HeapState). (step.0 ∷ rest.0, rest.1)) (same_run sli s step.1 calls wanted.1)

pub one_length : (sli : ℕ) (level : IsLevel sli) → OneLengthSuffices sli
one_length sli level id words first most len calls region is enough wanted =
    let start : HeapState = opened id words first in
    let same : run sli start calls ≡ run_fixed sli (sure sli (want len)) start calls =
    same_run sli (want len) start calls wanted ∙ ap (λ (s : ℕ). run_fixed sli s start calls) (sym is) in
    subst (λ (all : List Answer × HeapState). AreModest most len 0 calls all.0 → AllByRecursion HasRoomFor all.0) (sym same)
    (fixed_suffices sli level id words first most len calls region (sure_region sli level (want len) is).1 enough)
