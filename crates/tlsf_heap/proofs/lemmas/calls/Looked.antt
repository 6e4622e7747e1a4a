-- A call of a heap with a look before it or after it. The look leaves the heap, and touches no word of a live payload.
use Rattle.tlsf_heap.proofs.Common.{Give, Fit, ◌≡◌, ◌+◌, ◌≤◌, ◌∙◌, ℕ, List, Result, Ok, Err, inl, inr, sym, ap, subst, arith, refl, ◌⊎◌, OnErr, ◌↔◌, [], IsErrOf, IsOk, HeapState, Allocates, Releases, Resizes, IsLiveWord, IsOthersWord, LeavesLive, payload_words_given, payload_words_left, IsLawful, IsNamed, Seen, FollowsNoForgery, Name, Refusal, Outcome, allocated_words, resized_words, last_tick, fits, NoFit, named}
use Rattle.tlsf_heap.proofs.lemmas.calls.Leaves.{live_step, word_step}
use Rattle.tlsf_heap.proofs.lemmas.calls.Named.{not_forged}
use Rattle.tlsf_heap.proofs.lemmas.words.Footprint.{any_word}
use Rattle.tlsf_heap.proofs.lemmas.laws.NoFit.{no_fit_words, ok_words}

-- from one state to the next, by this many touches at most
pub record Looked (most : ℕ) (old new : Seen) : Type 0 where
  pub heap : new.heap ≡ old.heap
  pub touches : new.touches ≤ old.touches + most
  pub rise : old.touches ≤ new.touches
  pub leaves : LeavesLive old.heap.blocks old.touched new.touched

-- ---- before

-- a look that touched found a live block of the name
pub looked_forged : (old mid new : Seen) (name : Name) → IsLawful old.heap → mid.heap ≡ old.heap → (mid.touches ≡ old.touches) × (mid.touched ≡ old.touched) ⊎ IsNamed old.heap name → FollowsNoForgery mid new name → FollowsNoForgery old new name
looked_forged old mid new name lawful same (inl none) follows =
    subst (λ (l : List ℕ). FollowsNoForgery (record old { touched = l }) new name) none.1 (subst (λ (x : ℕ). FollowsNoForgery (record mid { heap = old.heap; touches = x }) new name) none.0
    (subst (λ (h : HeapState). FollowsNoForgery (record mid { heap = h }) new name) same follows))
looked_forged old mid new name lawful same (inr live) follows = not_forged old name lawful live new

refused_then : {A E : Type 0} (answer : Result A E) (old mid new : Seen) → LeavesLive old.heap.blocks old.touched mid.touched → OnErr answer (LeavesLive old.heap.blocks mid.touched new.touched) → OnErr answer (LeavesLive old.heap.blocks old.touched new.touched)
refused_then (Ok done) old mid new e f = tt
refused_then (Err why) old mid new e f = λ k live. f k live ∙ e k live

pub looked_releases : (few most : ℕ) (old mid new : Seen) (name : Name) (answer : Result (Unit {0}) Refusal) → IsLawful old.heap → (mid.touches ≡ old.touches) × (mid.touched ≡ old.touched) ⊎ IsNamed old.heap name → Looked few old mid → Releases most mid new name answer
    → Releases (few + most) old new name answer
looked_releases few most old mid new name answer lawful live look r =
    let here : Releases most (record mid { heap = old.heap }) new name answer = subst (λ (h : HeapState). Releases most (record mid { heap = h }) new name answer) look.heap r in
    record {
      answer_is = here.answer_is;
      heap = here.heap;
      touches = omega (arith, look.touches, here.touches);
      rise = omega (arith, look.rise, here.rise);
      leaves = λ k other. here.leaves k other ∙ look.leaves k (any_word old.heap.blocks name.at k other);
      refused = refused_then answer old mid new look.leaves here.refused;
      forged = looked_forged old mid new name lawful look.heap live r.forged;
    }

-- ---- of other words

-- what is told of a call for m words is true for n, where the sequential heap does the same
pub allocates_same : (most sli m n len : ℕ) (old new : Seen) (answer : Result Name Refusal) → allocated_words sli old.heap m len ≡ allocated_words sli old.heap n len → Allocates most sli m len old new answer → Allocates most sli n len old new answer
allocates_same most sli m n len old new answer same r =
    let is = r.answer_is ∙ ap (λ (o : Outcome Name). o.answer) same in
    record {
      answer_is = is;
      heap = r.heap ∙ ap (λ (o : Outcome Name). o.heap) same;
      no_fit = subst (λ (a : Result Name Refusal). IsErrOf a NoFit ↔ (fits sli n old.heap.blocks ≡ [])) (sym is) (no_fit_words sli old.heap n len);
      ok = subst (λ (a : Result Name Refusal). IsOk a ↔ (¬ (fits sli n old.heap.blocks ≡ []) × ¬ (old.heap.tick ≡ last_tick))) (sym is) (ok_words sli old.heap n len);
      touches = r.touches;
      few = r.few;
      rise = r.rise;
      leaves = r.leaves;
    }

pub resizes_same : (most m n len : ℕ) (old new : Seen) (name : Name) (answer : Result (Unit {0}) Refusal) → resized_words old.heap name m len ≡ resized_words old.heap name n len → Resizes most m len old new name answer → Resizes most n len old new name answer
resizes_same most m n len old new name answer same r = record {
  answer_is = r.answer_is ∙ ap (λ (o : Outcome (Unit {0})). o.answer) same;
  heap = r.heap ∙ ap (λ (o : Outcome (Unit {0})). o.heap) same;
  touches = r.touches;
  grown = r.grown;
  rise = r.rise;
  leaves = r.leaves;
  refused = r.refused;
  forged = r.forged;
}

-- ---- behind

-- no look
pub unlooked : {most : ℕ} (s : Seen) → Looked most s s
unlooked s = record { heap = refl; touches = omega arith; rise = omega arith; leaves = λ k live. refl }

pub allocates_looked : (most few sli n len : ℕ) (old mid new : Seen) (answer : Result Name Refusal) → IsLawful old.heap → Allocates most sli n len old mid answer → Looked few mid new → Allocates (most + few) sli n len old new answer
allocates_looked most few sli n len old mid new answer lawful r look = record {
  answer_is = r.answer_is;
  heap = look.heap ∙ r.heap;
  no_fit = r.no_fit;
  ok = r.ok;
  touches = omega (arith, look.touches, r.touches, ap (payload_words_given answer) look.heap);
  few = omega (arith, look.touches, r.few);
  rise = omega (arith, look.rise, r.rise);
  leaves = λ k live. look.leaves k (subst (λ (h : HeapState). IsLiveWord h.blocks k) (sym r.heap) (live_step old.heap k live sli (Give n len) tt)) ∙ r.leaves k live;
}

pub resizes_looked : (most few n len : ℕ) (old mid new : Seen) (name : Name) → IsLawful old.heap → IsNamed old.heap name → Resizes most n len old mid name (Ok tt) → Looked few mid new → Resizes (most + few) n len old new name (Ok tt)
resizes_looked most few n len old mid new name lawful named r look = record {
  answer_is = r.answer_is;
  heap = look.heap ∙ r.heap;
  touches = omega (arith, look.touches, r.touches, ap (λ (h : HeapState). payload_words_left (Ok tt) h name) look.heap);
  grown = omega (arith, look.touches, r.grown);
  rise = omega (arith, look.rise, r.rise);
  leaves = λ k other. look.leaves k (any_word mid.heap.blocks name.at k (subst (λ (h : HeapState). IsOthersWord h.blocks name.at k) (sym r.heap) (word_step old.heap name.at k other 0 (Fit name n len) other.4))) ∙ r.leaves k other;
  refused = tt;
  forged = not_forged old name lawful named new;
}
