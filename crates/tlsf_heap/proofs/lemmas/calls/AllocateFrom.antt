-- The result of giving the free block that begins at a place.
use Rattle.tlsf_heap.proofs.Common.{◌≡◌, ℕ, suc, ◌+◌, ◌<◌, ◌≤◌, Bool, true, false, cond, ◌&&◌, nat_lt, eqb, List, ◌++◌, length, take, drop, find, Some, None, Result, Ok, Err, refl, sym, ap, ◌∙◌, subst, arith, eq-eqb, AllByRecursion, eqb-true, false≢true, nat_tests, AnswersFrom, IsFreeAt, HasFreeAt, HasRoomAt, is_free_at, given_from, words_from, Block, HeapState, size_of, is_free, words_in, want, Outcome, refused, is_worn, last_tick, ticked, carved, with_blocks, sites, block_at, site_at, IsLawful, HasRoom, RegionState, FollowsNoPlace, Name, Refusal, Stale, NoRoom, Worn}
use Rattle.tlsf_heap.proofs.lemmas.calls.Allocate.{lawful_given, split_at}
use Rattle.tlsf_heap.proofs.lemmas.blocks.Replace.{words_in-take}
use Rattle.tlsf_heap.proofs.lemmas.blocks.Find.{and_left, and_right, not_true, find_at, find_none}
use Rattle.tlsf_heap.proofs.lemmas.blocks.Grant.{four_words}
use Rattle.tlsf_heap.proofs.lemmas.blocks.Lawful.{with_region, region_is}
use Rattle.tlsf_heap.proofs.lemmas.calls.Named.{not_wild}
use Rattle.tlsf_heap.proofs.lemmas.words.Image.{stands_once}
use Rattle.tlsf_heap.proofs.lemmas.blocks.Stands.{words_up_to}
use Rattle.tlsf_heap.proofs.lemmas.blocks.Sites.{nowhere, length-sites, get_or-sites}

-- ---- the search for it

module _ {bs : List Block} {at : ℕ} where
  here_if : (j : ℕ) → j < length bs → is_free_at at (site_at bs j) ≡ true → IsFreeAt bs at j
  here_if j within e = record { stands = record { within = within; place = eqb-true _ _ (and_right (is_free (block_at bs j)) _ e) }; free = and_left _ _ e }

  pub from_none : ¬ (HasFreeAt bs at) → find (is_free_at at) (sites bs) ≡ None
  from_none none = find_none (is_free_at at) nowhere (sites bs) (λ j l.
      let within : j < length bs = omega (arith, length-sites bs, l) in
      ap (is_free_at at) (get_or-sites nowhere bs j within) ∙ not_true (is_free_at at (site_at bs j)) (λ e. none (j, here_if j within e)))

  pub from_is : (i : ℕ) → AllByRecursion HasRoom bs → IsFreeAt bs at i → find (is_free_at at) (sites bs) ≡ Some (site_at bs i)
  from_is i rooms f =
      let within = f.stands.within in
      find_at (is_free_at at) nowhere (sites bs) i (omega (arith, length-sites bs, within))
      (ap (is_free_at at) (get_or-sites nowhere bs i within) ∙ ap (λ (b : Bool). b && eqb (words_in (take i bs)) at) f.free ∙ eq-eqb _ _ f.stands.place)
      (λ j l.
      let inside : j < length bs = omega (arith, l, within) in
      ap (is_free_at at) (get_or-sites nowhere bs j inside) ∙ not_true (is_free_at at (site_at bs j)) (λ e.
      let same = stands_once bs at j i rooms (here_if j inside e).stands f.stands in omega (arith, l, same)))
      ∙ ap Some (get_or-sites nowhere bs i within)

-- its place is one of the region
pub free_inside : (h : HeapState) {at : ℕ} → IsLawful h → HasFreeAt h.blocks at → at < h.words
free_inside h lawful f =
    let stands = f.1.stands in
    omega (arith, words_up_to stands, words_in-take h.blocks (f.0 + 1), four_words h.blocks lawful.rooms f.0 stands.within, lawful.whole)

-- so it was not forged
pub free_not_wild : {h k : HeapState} {at : ℕ} → h ≡ k → IsLawful h → HasFreeAt h.blocks at → (before behind : ℕ) → FollowsNoPlace k at before behind
free_not_wild {h} {at = at} same lawful f before behind =
    subst (λ (s : HeapState). FollowsNoPlace s at before behind) same (not_wild (f.0, f.1.stands) (free_inside h lawful f) before behind)

-- ---- what the call answers and leaves

-- the ensures of a call of `words_from` on the heap h, with this answer and this heap
pub record GivesFrom (h : HeapState) (at n : ℕ) (answer : Result Name Refusal) (left : HeapState) : Type 0 where
  pub is_answer : answer ≡ (words_from h at n).answer
  pub is_heap : left ≡ (words_from h at n).heap
  pub cases : AnswersFrom h at n answer
  pub lawful : IsLawful left

module _ (h k : HeapState) (at n : ℕ) (lawful : IsLawful h) (same : k ≡ h) where
  pub from_nowhere : ¬ (HasFreeAt h.blocks at) → GivesFrom h at n (Err Stale) k
  from_nowhere none =
      let e : words_from h at n ≡ refused h Stale = ap (given_from h n) (from_none none) in
      record {
        is_answer = sym (ap (λ (o : Outcome Name). o.answer) e);
        is_heap = same ∙ sym (ap (λ (o : Outcome Name). o.heap) e);
        cases = record {
          stale = (λ _. none, λ _. refl);
          no_room = (λ bad. cc, λ p. absurd (none p.0));
          ok = (λ f. absurd (false≢true f), λ p. absurd (none (p.0.0, p.0.1)));
        };
        lawful = subst IsLawful (sym same) lawful;
      }

  module _ (i : ℕ) (f : IsFreeAt h.blocks at i) where
    abbrev done : Outcome Name
    done = record {
      answer = Ok (record { heap = h.id; at = words_in (take i h.blocks); serial = h.tick });
      heap = ticked h (take i h.blocks ++ carved (size_of (block_at h.blocks i)) n h.tick 0 ++ drop (suc i) h.blocks);
    }

    found : words_from h at n ≡ given_from h n (Some (site_at h.blocks i))
    found = ap (given_from h n) (from_is i lawful.rooms f)

    -- no other free block begins there
    one : (s : HasFreeAt h.blocks at) → s.0 ≡ i
    one s = stands_once h.blocks at s.0 i lawful.rooms s.1.stands f.stands

    pub from_small : size_of (block_at h.blocks i) < n → GivesFrom h at n (Err NoRoom) k
    from_small small =
        let test : nat_lt (size_of (block_at h.blocks i)) n ≡ true = grind (arith, nat_tests) in
        let none : ¬ (HasRoomAt h.blocks at n) = λ p. let is = ap (λ (j : ℕ). size_of (block_at h.blocks j)) (one (p.0, p.1)) in omega (arith, p.2, is, small) in
        let e : words_from h at n ≡ refused h NoRoom = found ∙ ap (λ (b : Bool). cond b (refused h NoRoom) (cond (is_worn h) (refused h Worn) done)) test in
        record {
          is_answer = sym (ap (λ (o : Outcome Name). o.answer) e);
          is_heap = same ∙ sym (ap (λ (o : Outcome Name). o.heap) e);
          cases = record {
            stale = (λ bad. cc, λ none. absurd (none (i, f)));
            no_room = (λ _. ((i, f), none), λ _. refl);
            ok = (λ t. absurd (false≢true t), λ p. absurd (none p.0));
          };
          lawful = subst IsLawful (sym same) lawful;
        }

    module _ (room : n ≤ size_of (block_at h.blocks i)) where
      roomy : words_from h at n ≡ cond (is_worn h) (refused h Worn) done
      roomy =
          let test : nat_lt (size_of (block_at h.blocks i)) n ≡ false = grind (arith, nat_tests) in
          found ∙ ap (λ (b : Bool). cond b (refused h NoRoom) (cond (is_worn h) (refused h Worn) done)) test

      pub from_worn : h.tick ≡ last_tick → GivesFrom h at n (Err Worn) k
      from_worn worn =
          let e : words_from h at n ≡ refused h Worn = roomy ∙ ap (λ (b : Bool). cond b (refused h Worn) done) (eq-eqb h.tick last_tick worn) in
          record {
            is_answer = sym (ap (λ (o : Outcome Name). o.answer) e);
            is_heap = same ∙ sym (ap (λ (o : Outcome Name). o.heap) e);
            cases = record {
              stale = (λ bad. cc, λ none. absurd (none (i, f)));
              no_room = (λ bad. cc, λ p. absurd (p.1 (i, f, room)));
              ok = (λ t. absurd (false≢true t), λ p. absurd (p.1 worn));
            };
            lawful = subst IsLawful (sym same) lawful;
          }

      pub from_done_is : ¬ (h.tick ≡ last_tick) → words_from h at n ≡ done
      from_done_is fresh = roomy ∙ ap (λ (b : Bool). cond b (refused h Worn) done) (not_true (eqb h.tick last_tick) (λ e. fresh (eqb-true h.tick last_tick e)))

      pub from_done : want 0 ≤ n → ¬ (h.tick ≡ last_tick) → (region : RegionState) → region.words ≡ h.words
          → region.blocks ≡ take i h.blocks ++ carved (size_of (block_at h.blocks i)) n h.tick 0 ++ drop (suc i) h.blocks
          → GivesFrom h at n (Ok (record { heap = h.id; at = at; serial = h.tick })) (with_region h (h.tick + 1) region)
      from_done least fresh region words blocks =
          let e = from_done_is fresh in
          let is_left = region_is h (h.tick + 1) region _ words blocks in
          let whole = split_at h.blocks i f.stands.within in
          record {
            is_answer = ap (λ (m : ℕ). Ok (record { heap = h.id; at = m; serial = h.tick })) (sym f.stands.place) ∙ sym (ap (λ (o : Outcome Name). o.answer) e);
            is_heap = is_left ∙ sym (ap (λ (o : Outcome Name). o.heap) e);
            cases = record {
              stale = (λ bad. cc, λ none. absurd (none (i, f)));
              no_room = (λ bad. cc, λ p. absurd (p.1 (i, f, room)));
              ok = (λ _. ((i, f, room), fresh), λ _. refl);
            };
            lawful = subst IsLawful (sym is_left) (lawful_given h (take i h.blocks) (drop (suc i) h.blocks) (block_at h.blocks i) n 0 least f.free room (subst (λ (l : List Block). IsLawful (with_blocks h l)) whole lawful));
          }
