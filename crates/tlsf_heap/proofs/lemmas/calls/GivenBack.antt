-- The result of a release that gives back the block that a check found.
use Rattle.tlsf_heap.proofs.Common.{◌≡◌, ℕ, ◌+◌, ◌≤◌, List, Ok, Err, sym, ap, ◌∙◌, subst, arith, refl, HeapState, IsPlace, Outcome, refused, released, released_by_place, serial_at, None, call_by, IsLiveAt, IsNamed, IsNameCheck, RefusesName, IsOthersWord, LeavesLive, LeavesPayloads, FollowsNoForgery, FollowsNoPlace, Releases, ReleasesAt, Shown, seen, Name, Refusal, Tag, Stale, Worn, last_tick}
use Rattle.tlsf_heap.specs.ByPlace.{IsPlaceCheck}
use Rattle.tlsf_heap.specs.Kept.{IsAsBefore, Keeps}
use Rattle.tlsf_heap.proofs.lemmas.calls.ByPlace.{call_none, live_is_found, live_not_wild, worn_here}
use Rattle.tlsf_heap.proofs.lemmas.calls.Named.{named_stands, named_live, live_is, not_forged}
use Rattle.tlsf_heap.proofs.lemmas.calls.Release.{released_refused, released_worn}
use Rattle.tlsf_heap.proofs.lemmas.words.Footprint.{any_word}

-- a named block is live at its place
pub live_named : (h : HeapState) (name : Name) (own : Tag) → IsNameCheck h name (Ok own) → IsPlaceCheck h name.at (Ok own)
live_named h name own is = (is.0.1.0, record { stands = named_stands _ _ _ _ is.0.1.1; live = named_live _ _ _ _ is.0.1.1 }, is.1)

-- the payloads of other blocks, over a call that leaves the heap and then one about a block
pub others_then : (h k : HeapState) (at : ℕ) (first between last : List ℕ) → k ≡ h → LeavesLive h.blocks first between → LeavesPayloads k.blocks at between last → LeavesPayloads h.blocks at first last
others_then h k at first between last same once twice w o = twice w (subst (λ (s : HeapState). IsOthersWord s.blocks at w) (sym same) o) ∙ once w (any_word h.blocks at w o)

-- the check of a name was done
module _ (sli : ℕ) (old mid : Shown) (name : Name) (same : IsAsBefore old mid) (keeps : Keeps sli old mid) (few : mid.touches ≤ old.touches + 3) (leaves : LeavesLive old.heap.blocks old.touched mid.touched) where
  -- it refused the name
  pub releases_unnamed : (why : Refusal) → RefusesName old.heap name why → FollowsNoForgery (seen old) (seen mid) name → Releases 30 (seen old) (seen mid) name (Err why)
  releases_unnamed why none forged = record {
    answer_is = rw (released_refused old.heap name why none);
    heap = rw (released_refused old.heap name why none) same.heap;
    touches = omega arith;
    rise = keeps.touches_rise;
    leaves = λ k o. leaves k (any_word old.heap.blocks name.at k o);
    refused = leaves;
    forged = forged;
  }

  -- it found the block, at the last tick
  pub releases_worn : IsNamed old.heap name → mid.heap.tick ≡ last_tick → Releases 30 (seen old) (seen mid) name (Err Worn)
  releases_worn named worn =
      let late = released_worn old.heap name named.0 named.1.0 named.1.1 (sym (ap (λ (h : HeapState). h.tick) same.heap) ∙ worn) in
      record {
        answer_is = rw late;
        heap = rw late same.heap;
        touches = omega arith;
        rise = keeps.touches_rise;
        leaves = λ k o. leaves k (any_word old.heap.blocks name.at k o);
        refused = leaves;
        forged = not_forged (seen old) name keeps.was_lawful named (seen mid);
      }

  -- it found the block, which was given back
  pub releases_found : (new : Shown) → IsNamed old.heap name → (released_by_place mid.heap name.at).answer ≡ Ok tt → new.heap ≡ (released_by_place mid.heap name.at).heap
      → mid.touches ≤ new.touches → new.touches ≤ mid.touches + 27 → LeavesPayloads mid.heap.blocks name.at mid.touched new.touched → Releases 30 (seen old) (seen new) name (Ok tt)
  releases_found new named done left rise more others =
      let by : released_by_place mid.heap name.at ≡ released old.heap name =
      ap (λ (h : HeapState). released_by_place h name.at) same.heap ∙ ap (call_by old.heap (released old.heap)) (live_is_found old.heap name keeps.was_lawful (live_is old.heap name named)) in
      record {
        answer_is = sym done ∙ ap (λ (o : Outcome (Unit {0})). o.answer) by;
        heap = left ∙ ap (λ (o : Outcome (Unit {0})). o.heap) by;
        touches = omega arith;
        rise = omega (arith, keeps.touches_rise);
        leaves = others_then old.heap mid.heap name.at old.touched mid.touched new.touched same.heap leaves others;
        refused = tt;
        forged = not_forged (seen old) name keeps.was_lawful named (seen new);
      }

-- the check of a place was done
module _ (sli : ℕ) (old mid : Shown) (at : ℕ) (same : IsAsBefore old mid) (keeps : Keeps sli old mid) (few : mid.touches ≤ old.touches + 2) (leaves : LeavesLive old.heap.blocks old.touched mid.touched) where
  -- no live block begins there
  pub releases_nowhere : (why : Refusal) → (why ≡ Stale) × (serial_at old.heap.blocks at ≡ None) → FollowsNoPlace old.heap at old.touches mid.touches → (¬ (IsPlace old.heap.blocks at) → mid.touched ≡ old.touched)
      → ReleasesAt 29 (seen old) (seen mid) at (Err why)
  releases_nowhere why none wild unread =
      let stale : released_by_place old.heap at ≡ refused old.heap Stale = call_none old.heap at (released old.heap) none.1 in
      record {
        answer_is = rw (none.0, stale);
        heap = rw stale same.heap;
        touches = omega arith;
        rise = keeps.touches_rise;
        leaves = λ k o. leaves k (any_word old.heap.blocks at k o);
        refused = leaves;
        wild = wild;
        unread = unread;
      }

  -- one does, at the last tick
  pub releases_late : (i : ℕ) → IsLiveAt old.heap.blocks at i → mid.heap.tick ≡ last_tick → ReleasesAt 29 (seen old) (seen mid) at (Err Worn)
  releases_late i live last =
      let late = worn_here old.heap at i keeps.was_lawful live (sym (ap (λ (h : HeapState). h.tick) same.heap) ∙ last) in
      record {
        answer_is = rw late;
        heap = rw late same.heap;
        touches = omega arith;
        rise = keeps.touches_rise;
        leaves = λ k o. leaves k (any_word old.heap.blocks at k o);
        refused = leaves;
        wild = live_not_wild refl keeps.was_lawful live _ _;
        unread = λ none. absurd (none (i, live.stands));
      }

  -- one does, and it was given back
  pub releases_there : (new : Shown) (i : ℕ) → IsLiveAt old.heap.blocks at i → (released_by_place mid.heap at).answer ≡ Ok tt → new.heap ≡ (released_by_place mid.heap at).heap
      → mid.touches ≤ new.touches → new.touches ≤ mid.touches + 27 → LeavesPayloads mid.heap.blocks at mid.touched new.touched → ReleasesAt 29 (seen old) (seen new) at (Ok tt)
  releases_there new i live done left rise more others =
      let by : released_by_place mid.heap at ≡ released_by_place old.heap at = ap (λ (h : HeapState). released_by_place h at) same.heap in
      record {
        answer_is = sym done ∙ ap (λ (o : Outcome (Unit {0})). o.answer) by;
        heap = left ∙ ap (λ (o : Outcome (Unit {0})). o.heap) by;
        touches = omega arith;
        rise = omega (arith, keeps.touches_rise);
        leaves = others_then old.heap mid.heap at old.touched mid.touched new.touched same.heap leaves others;
        refused = tt;
        wild = live_not_wild refl keeps.was_lawful live _ _;
        unread = λ none. absurd (none (i, live.stands));
      }
