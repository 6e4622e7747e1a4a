-- A word of another block's payload is one behind the calls too.
use Rattle.tlsf_heap.proofs.Common.{◌≡◌, ◌≢◌, ℕ, suc, ◌<◌, List, ◌∷◌, true, length, inl, inr, refl, sym, ap, ◌∙◌, subst, arith, Result, Ok, Err, OnErr, InGroups, AllByRecursion, false≢true, Block, Live, Free, HeapState, size_of, is_free, allocated_words, IsOthersWord, IsLiveWord, LeavesLive, LeavesBoth, Site, place_of, IsLawful, HasRoom, Shown, Inside, Name, Fill, Fit, Give, GiveFrom, Look, Put, Reset, Step, Take, stepped, ⊤, ◌+◌, eqb, words_from, moved_on, Outcome, released, resized_words}
use Rattle.tlsf_heap.proofs.lemmas.blocks.Find.{and_left}
use Rattle.tlsf_heap.proofs.lemmas.laws.Live.{Spares, lasts}
use Rattle.tlsf_heap.proofs.lemmas.laws.Lasting.{HasFrom}
use Rattle.tlsf_heap.proofs.lemmas.calls.Outcomes.{IsSiteOf, by_test, by_allocated_words}
use Rattle.tlsf_heap.proofs.lemmas.calls.Kept.{shown_of}
use Rattle.tlsf_heap.proofs.lemmas.blocks.Around.{Around, stands_around, block_around}
use Rattle.tlsf_heap.proofs.lemmas.blocks.Lawful.{all_right}
use Rattle.tlsf_words.proofs.Touching.{groups_then}
use Rattle.tlsf_heap.proofs.lemmas.words.Footprint.{HoldsWord, holder, held_word, held_at, any_word, elsewhere}

room_size : (b : Block) → HasRoom b → 0 < size_of b
room_size (Live m s xs) room = omega (arith, room.0)
room_size (Free m s) room = omega (arith, room)

-- a step is of no block at a place, unless it writes its payload, and no reset
abbrev pub IsElsewhere : ℕ → Step → Type 0
IsElsewhere at (Take name) = at ≢ name.at
IsElsewhere at (Fit name n len) = at ≢ name.at
IsElsewhere at Reset = ⊥
IsElsewhere at step = ⊤

module _ (h : HeapState) (to k : ℕ) (o : IsOthersWord h.blocks to k) where
  still : (sli : ℕ) (step : Step) → IsElsewhere o.1 step → HasFrom (HoldsWord o.1 k) o.1 0 (stepped sli h step).blocks
  still sli step differ = lasts (HoldsWord o.1 k) o.1 (λ m t f. false≢true (sym f.0)) sli h step (spares step differ) (holder h.blocks to k o)
    where
      spares : (step : Step) → IsElsewhere o.1 step → Spares (HoldsWord o.1 k) o.1 h step
      spares (Give n len) differ = tt
      spares (GiveFrom at n) differ = tt
      spares (Take name) differ = λ done own b e holds at. differ (sym at)
      spares (Fit name n len) differ = inl (λ own b e holds at. differ (sym at))
      spares (Put name at bytes) differ = inr (λ m s xs ys holds. holds)
      spares (Fill name bytes) differ = inr (λ m s xs ys holds. holds)
      spares Reset differ = absurd differ
      spares Look differ = tt

  pub word_step : (sli : ℕ) (step : Step) → IsElsewhere o.1 step → IsOthersWord (stepped sli h step).blocks to k
  word_step sli step differ = held_word (stepped sli h step).blocks h.blocks to k o (still sli step differ)

  -- the block that is given is elsewhere
  free_site : (s : Site) → IsSiteOf h.blocks s → IsLawful h → is_free s.block ≡ true → o.1 ≢ place_of s
  free_site s site lawful free =
      let a : Around h.blocks (place_of s) (length s.before) s.before s.block s.after = record { is = sym site; before = refl; place = refl } in
      let room = (all_right HasRoom s.before (s.block ∷ s.after) (subst (AllByRecursion HasRoom) (sym site) lawful.rooms)).0 in
      elsewhere h.blocks (place_of s) (length s.before) k (stands_around a) (ap is_free (block_around a) ∙ free) (omega (arith, ap size_of (block_around a), room_size s.block room)) (o.0, o.1, o.2, o.3)

  pub given_word : (sli n len : ℕ) → IsLawful h → (new : Name) → (allocated_words sli h n len).answer ≡ Ok new → IsOthersWord (allocated_words sli h n len).heap.blocks new.at k
  given_word sli n len lawful new e = held_at (allocated_words sli h n len).heap.blocks h.blocks to new.at k o (still sli (Give n len) tt)
      (by_allocated_words sli (λ r. r.answer ≡ Ok new → o.1 ≢ new.at) h n len (λ why e. absurd cc) (λ s site fit e same. let place : place_of s ≡ new.at = cc in free_site s site lawful (and_left _ _ fit) (same ∙ sym place)) e)

-- of any block
-- two calls in turn, and the second may be refused
pub refused_both : {A E : Type 0} (answer : Result A E) (bs : List Block) (first between last : List ℕ) → LeavesLive bs first between → OnErr answer (LeavesLive bs between last) → OnErr answer (LeavesLive bs first last)
refused_both (Ok done) bs first between last once twice = tt
refused_both (Err why) bs first between last once twice = λ k live. twice k live ∙ once k live

pub groups_refused : {A E : Type 0} (answer : Result A E) (m n : ℕ) (first between last : List ℕ) → InGroups m first between → OnErr answer (InGroups n between last) → OnErr answer (InGroups (m + n) first last)
groups_refused (Ok done) m n first between last once twice = tt
groups_refused (Err why) m n first between last once twice = groups_then once twice

pub live_step : (h : HeapState) (k : ℕ) (live : IsLiveWord h.blocks k) (sli : ℕ) (step : Step) → IsElsewhere live.1 step → IsLiveWord (stepped sli h step).blocks k
live_step h k live sli step differ =
    let at = suc live.1 in
    any_word (stepped sli h step).blocks at k (word_step h at k (live.0, live.1, live.2, live.3, λ e. omega (arith, e)) sli step differ)

-- of another block than the one that moves on
pub moved_word : (h : HeapState) (name : Name) (gap n k : ℕ) → IsOthersWord h.blocks name.at k → IsLiveWord (moved_on h name gap n).heap.blocks k
moved_word h name gap n k o =
    let small = (resized_words h name gap 0).heap in
    by_test (λ (r : Outcome Name). IsLiveWord r.heap.blocks k) (eqb gap 0) _ _ (λ _. any_word (resized_words h name n 0).heap.blocks name.at k (word_step h name.at k o 0 (Fit name n 0) o.4))
    (let given = word_step small name.at k (word_step h name.at k o 0 (Fit name gap 0) o.4) 0 (GiveFrom (name.at + gap) n) tt in
    let after = (words_from small (name.at + gap) n).heap in any_word (released after name).heap.blocks name.at k (word_step after name.at k given 0 (Take name) given.4))

-- ---- what a heap shows of its region

module _ (sli : ℕ) (h : Inside sli) {old : Shown} (same : shown_of sli h ≡ old) where
  pub seen_live : (touched : List ℕ) → LeavesLive h.region.blocks h.region.touched touched → LeavesLive old.heap.blocks old.touched touched
  seen_live touched leaves = subst (λ (s : Shown). LeavesLive s.heap.blocks s.touched touched) same leaves

  pub seen_both : (touched : List ℕ) (at other : ℕ) → LeavesBoth h.region.blocks at other h.region.touched touched → LeavesBoth old.heap.blocks at other old.touched touched
  seen_both touched at other leaves = subst (λ (s : Shown). LeavesBoth s.heap.blocks at other s.touched touched) same leaves
