-- The result of a call on a name, by the index of the block that it names.
use Rattle.tlsf_heap.proofs.Common.{◌≡◌, ℕ, ◌+◌, ◌<◌, Bool, true, false, cond, eqb, List, length, Option, Some, None, refl, sym, ap, ◌∙◌, subst, arith, eq-eqb, IsSome, eqb-true, false≢true, Block, Live, Free, HeapState, is_free, StandsAt, IsPlace, IsLawful, IsLive, Seen, Site, sites, block_at, site_at, is_named, has_serial, named, NoneNamed, IsFirst, IsNamed, RefusesName, FollowsNoForgery, FollowsNoPlace, Name, Refusal, NoFit, Worn, Foreign, Stale, Range, NoRoom}
use Rattle.tlsf_heap.proofs.lemmas.blocks.Find.{and_left, and_right, not_true, find_at, find_none}
use Rattle.tlsf_heap.proofs.lemmas.blocks.Replace.{words_in-take}
use Rattle.tlsf_heap.proofs.lemmas.blocks.Grant.{four_words}
use Rattle.tlsf_heap.proofs.lemmas.blocks.Stands.{words_up_to}
use Rattle.tlsf_heap.proofs.lemmas.blocks.Sites.{nowhere, length-sites, get_or-sites}

named_none : (name : Name) (bs : List Block) → NoneNamed name.at name.serial bs → named name bs ≡ None
named_none name bs none =
    find_none (is_named name.at name.serial) nowhere (sites bs) (λ j l.
    let within : j < length bs = omega (arith, length-sites bs, l) in
    ap (is_named name.at name.serial) (get_or-sites nowhere bs j within) ∙ none j within)

pub named_is : (name : Name) (bs : List Block) (i : ℕ) → IsFirst name.at name.serial bs i → named name bs ≡ Some (site_at bs i)
named_is name bs i first =
    find_at (is_named name.at name.serial) nowhere (sites bs) i (omega (arith, length-sites bs, first.within))
    (ap (is_named name.at name.serial) (get_or-sites nowhere bs i first.within) ∙ first.here)
    (λ j l. ap (is_named name.at name.serial) (get_or-sites nowhere bs j (omega (arith, l, first.within))) ∙ first.before j l)
    ∙ ap Some (get_or-sites nowhere bs i first.within)

-- a call that does this with the block that a name of heap h names
module _ {X : Type 0} (h : HeapState) (name : Name) (does : Option Site → X) (refuse : Refusal → X) where
  of_own : name.heap ≡ h.id → cond (eqb name.heap h.id) (does (named name h.blocks)) (refuse Foreign) ≡ does (named name h.blocks)
  of_own own = ap (λ (b : Bool). cond b (does (named name h.blocks)) (refuse Foreign)) (eq-eqb name.heap h.id own)

  pub refused_name : does None ≡ refuse Stale → (why : Refusal) → RefusesName h name why → cond (eqb name.heap h.id) (does (named name h.blocks)) (refuse Foreign) ≡ refuse why
  refused_name stale Foreign r = ap (λ (b : Bool). cond b (does (named name h.blocks)) (refuse Foreign)) (not_true _ (λ e. r (eqb-true name.heap h.id e)))
  refused_name stale Stale r = of_own r.0 ∙ ap does (named_none name h.blocks r.1) ∙ stale
  refused_name stale NoFit r = absurd r
  refused_name stale Worn r = absurd r
  refused_name stale Range r = absurd r
  refused_name stale NoRoom r = absurd r

  pub at_name : name.heap ≡ h.id → (i : ℕ) → IsFirst name.at name.serial h.blocks i → cond (eqb name.heap h.id) (does (named name h.blocks)) (refuse Foreign) ≡ does (Some (site_at h.blocks i))
  at_name own i first = of_own own ∙ ap does (named_is name h.blocks i first)

-- a named block begins at the place of its name
pub named_stands : (at serial : ℕ) (bs : List Block) (i : ℕ) → IsFirst at serial bs i → StandsAt bs at i
named_stands at serial bs i first = record { within = first.within; place = eqb-true _ _ (and_right (has_serial serial (block_at bs i)) _ first.here) }

live_if_serial : (serial : ℕ) (b : Block) → has_serial serial b ≡ true → is_free b ≡ false
live_if_serial serial (Live m s xs) e = refl
live_if_serial serial (Free m s) e = absurd (false≢true e)

-- and is live
pub named_live : (at serial : ℕ) (bs : List Block) (i : ℕ) → IsFirst at serial bs i → is_free (block_at bs i) ≡ false
named_live at serial bs i first = live_if_serial serial (block_at bs i) (and_left _ _ first.here)

-- also in a heap that is the same
pub named_same : (h k : HeapState) (name : Name) → h ≡ k → IsNamed k name → IsNamed h name
named_same h k name same named = subst (λ (s : HeapState). IsNamed s name) (sym same) named

-- its place is one of the region
pub named_inside : (h : HeapState) (name : Name) → IsLawful h → (i : ℕ) → IsFirst name.at name.serial h.blocks i → name.at < h.words
named_inside h name lawful i first =
    let stands = named_stands name.at name.serial h.blocks i first in
    omega (arith, words_up_to stands, words_in-take h.blocks (i + 1), four_words h.blocks lawful.rooms i stands.within, lawful.whole)

-- it is live
pub live_is : (h : HeapState) (name : Name) → IsNamed h name → IsLive h name
live_is h name is_named = (is_named.0, subst IsSome (sym (named_is name h.blocks is_named.1.0 is_named.1.1)) refl)

-- so it was not forged, whatever a call with it touches
pub not_forged : (old : Seen) (name : Name) → IsLawful old.heap → IsNamed old.heap name → (new : Seen) → FollowsNoForgery old new name
not_forged old name lawful is_named new = record {
  foreign = λ other. absurd (other is_named.0);
  outside = λ past. absurd (omega (arith, past, named_inside old.heap name lawful is_named.1.0 is_named.1.1));
  nowhere = λ own inside none. absurd (none (is_named.1.0, named_stands name.at name.serial old.heap.blocks is_named.1.0 is_named.1.1));
  stale = λ dead. absurd (dead (live_is old.heap name is_named));
}

-- nor was a place where a block begins
pub not_wild : {h : HeapState} {at : ℕ} → IsPlace h.blocks at → at < h.words → (before behind : ℕ) → FollowsNoPlace h at before behind
not_wild place inside before behind = record { outside = λ past. absurd (omega (arith, past, inside)); nowhere = λ none. absurd (none place) }
