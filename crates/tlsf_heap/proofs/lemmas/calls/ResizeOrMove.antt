-- The result of a resize that may move the block, call by call.
use Rattle.tlsf_heap.proofs.Common.{◌≡◌, ◌≢◌, ℕ, ◌+◌, ◌*◌, ◌<◌, ◌≤◌, Bool, true, false, cond, eqb, nat_le, List, ◌∷◌, suc, take, drop, length, Option, Some, None, Result, Ok, Err, refl, sym, ap, ◌∙◌, subst, arith, eq-eqb, IsSome, AllByRecursion, false≢true, eqb-true, ne_eqb, nat_tests, HeapState, payload_words, want, Outcome, refused, last_tick, is_worn, allocated, named, released, released_at, resized, resized_at, written, payload_words_at, Site, block_at, payload_of, IsLawful, HasRoom, IsLive, copied, moved_to, moved, moved_for, resized_else, resized_or_moved, Name, RefusesName, Refusal, NoFit, Worn, Foreign, Stale, Range, NoRoom, Give, Put, cases_lt, inl, inr}
use Rattle.tlsf_heap.proofs.lemmas.calls.Alter.{named_of, payload_is}
use Rattle.tlsf_heap.proofs.lemmas.calls.Allocate.{split_at}
use Rattle.tlsf_heap.proofs.lemmas.blocks.Lawful.{all_right}
use Rattle.tlsf_heap.proofs.lemmas.laws.Live.{given, kept_others}
use Rattle.tlsf_heap.proofs.lemmas.calls.Named.{named_is}
use Rattle.tlsf_heap.proofs.lemmas.words.Bytes.{held_within}
use Rattle.tlsf_heap.proofs.lemmas.calls.Outcomes.{by_allocated, by_written, takes}
use Rattle.tlsf_heap.proofs.lemmas.calls.Resize.{resized_refused}

-- ---- the release behind a copy is accepted

released_there : (k : HeapState) (o : Option Site) → IsSome o → is_worn k ≡ false → (released_at k o).answer ≡ Ok tt
released_there k None some fresh = absurd (false≢true some)
released_there k (Some s) some fresh = ap (λ (b : Bool). (cond b (refused k Worn) (takes k s)).answer) fresh

-- the release of a live name, before the last tick
pub released_live : (k : HeapState) (name : Name) → IsLive k name → k.tick ≢ last_tick → (released k name).answer ≡ Ok tt
released_live k name live fresh =
    ap (λ (b : Bool). (cond b (released_at k (named name k.blocks)) (refused k Foreign)).answer) (eq-eqb name.heap k.id live.0)
    ∙ released_there k (named name k.blocks) live.1 (ne_eqb k.tick last_tick fresh)

-- a write takes no tick
pub written_tick : (k : HeapState) (new : Name) (bytes : List ℕ) → (written k new 0 bytes).heap.tick ≡ k.tick
written_tick k new bytes = by_written (λ o. o.heap.tick ≡ k.tick) k new 0 bytes (λ why. refl) (λ s site has. refl)

-- so the name is released after it too
pub release_done : (sli : ℕ) (k : HeapState) (name new : Name) (bytes : List ℕ) → IsLive k name → k.tick ≢ last_tick → (released (written k new 0 bytes).heap name).answer ≡ Ok tt
release_done sli k name new bytes live fresh =
    let still : IsLive (written k new 0 bytes).heap name = kept_others sli k name (Put new 0 bytes) tt live in
    released_live (written k new 0 bytes).heap name still (λ worn. fresh (sym (written_tick k new bytes) ∙ worn))

module _ (sli : ℕ) (h : HeapState) (name : Name) (len : ℕ) where
  -- ---- a move

  pub moved_worn : last_tick ≤ h.tick + 1 → moved sli h name len ≡ refused h Worn
  moved_worn worn =
      let is : nat_le last_tick (h.tick + 1) ≡ true = grind (arith, nat_tests) in
      ap (λ (b : Bool). cond b (refused h Worn) (moved_to h name (allocated sli h len).answer (allocated sli h len).heap)) is

  moved_fresh : h.tick + 1 < last_tick → moved sli h name len ≡ moved_to h name (allocated sli h len).answer (allocated sli h len).heap
  moved_fresh fresh =
      let is : nat_le last_tick (h.tick + 1) ≡ false = grind (arith, nat_tests) in
      ap (λ (b : Bool). cond b (refused h Worn) (moved_to h name (allocated sli h len).answer (allocated sli h len).heap)) is

  pub moved_refused : h.tick + 1 < last_tick → (why : Refusal) → Err why ≡ (allocated sli h len).answer → moved sli h name len ≡ refused h why
  moved_refused fresh why e = moved_fresh fresh ∙ ap (λ (r : Result Name Refusal). moved_to h name r (allocated sli h len).heap) (sym e)

  -- a request gave this name
  module _ (new : Name) (e : Ok new ≡ (allocated sli h len).answer) (live : IsLive h name) where
    pub moved_done : h.tick + 1 < last_tick → moved sli h name len ≡ record { answer = Ok new; heap = (released (copied (allocated sli h len).heap name new).heap name).heap }
    moved_done fresh = moved_fresh fresh ∙ ap (λ (r : Result Name Refusal). moved_to h name r (allocated sli h len).heap) (sym e)

    -- both names are live then
    pub old_lives : IsLive (allocated sli h len).heap name
    old_lives = kept_others sli h name (Give (want len) len) tt live

    pub new_lives : IsLive (allocated sli h len).heap new
    new_lives = given sli h len new (sym e)

    pub ticks : (allocated sli h len).heap.tick ≡ h.tick + 1
    ticks = by_allocated sli (λ o. Ok new ≡ o.answer → o.heap.tick ≡ h.tick + 1) h len (λ why bad. cc) (λ s site fit done. refl) e

  -- ---- a resize, and what follows it

  pub stays : Ok tt ≡ (resized h name len).answer → resized_or_moved sli h name len ≡ record { answer = Ok name; heap = (resized h name len).heap }
  stays e = ap (λ (r : Result (Unit {0}) Refusal). resized_else h name r (resized h name len).heap (moved sli h name len)) (sym e)

  pub moves : Err NoRoom ≡ (resized h name len).answer → resized_or_moved sli h name len ≡ moved sli h name len
  moves e = ap (λ (r : Result (Unit {0}) Refusal). resized_else h name r (resized h name len).heap (moved sli h name len)) (sym e)

  moved_for_none : (why : Refusal) → why ≢ NoRoom → moved_for why h (moved sli h name len) ≡ refused h why
  moved_for_none NoFit other = refl
  moved_for_none Worn other = refl
  moved_for_none Foreign other = refl
  moved_for_none Stale other = refl
  moved_for_none Range other = refl
  moved_for_none NoRoom other = absurd (other refl)

  pub refuses : (why : Refusal) → why ≢ NoRoom → Err why ≡ (resized h name len).answer → resized_or_moved sli h name len ≡ refused h why
  refuses why other e = ap (λ (r : Result (Unit {0}) Refusal). resized_else h name r (resized h name len).heap (moved sli h name len)) (sym e) ∙ moved_for_none why other

-- nor is a block resized or moved whose name is refused
pub name_refused : (sli : ℕ) (h : HeapState) (name : Name) (len : ℕ) (why : Refusal) → RefusesName h name why → resized_or_moved sli h name len ≡ refused h why
name_refused sli h name len why r = refuses sli h name len why (λ same. subst (RefusesName h name) same r) (sym (ap (λ (o : Outcome (Unit {0})). o.answer) (resized_refused h name (want len) len why r)))

-- where there was no room the name is live
pub no_room_live : (h : HeapState) (name : Name) (len : ℕ) → Err NoRoom ≡ (resized h name len).answer → IsLive h name
no_room_live h name len = own (eqb name.heap h.id) refl
  where
    found : name.heap ≡ h.id → (o : Option Site) → named name h.blocks ≡ o → Err NoRoom ≡ (resized_at h (want len) len o).answer → IsLive h name
    found same None is e = cc
    found same (Some s) is e = (same, subst IsSome (sym is) refl)

    own : (b : Bool) → eqb name.heap h.id ≡ b → Err NoRoom ≡ (cond b (resized_at h (want len) len (named name h.blocks)) (refused h Foreign)).answer → IsLive h name
    own true is e = found (eqb-true name.heap h.id is) (named name h.blocks) refl e
    own false is e = cc

-- a payload has no more words than its block has for it
pub payload_fits : (h : HeapState) (name : Name) → IsLawful h → IsLive h name → length (payload_of h name) ≤ 8 * payload_words_at (named name h.blocks)
payload_fits h name lawful live =
    let is_named = named_of h name live in
    let i = is_named.1.0 in
    let room = (all_right HasRoom (take i h.blocks) (block_at h.blocks i ∷ drop (suc i) h.blocks) (subst (AllByRecursion HasRoom) (split_at h.blocks i is_named.1.1.within) lawful.rooms)).0 in
    let is : payload_words_at (named name h.blocks) ≡ payload_words (block_at h.blocks i) = ap payload_words_at (named_is name h.blocks i is_named.1.1) in
    omega (arith, held_within (block_at h.blocks i) room, ap length (payload_is h name is_named), is)

-- what a resize or move comes to: a refusal, a resize where the block stands, or an allocate, a copy and a release
pub by_moved : (sli : ℕ) (P : Outcome Name → Type 0) (h : HeapState) (name : Name) (len : ℕ) → ((why : Refusal) → P (refused h why))
    → P (record { answer = Ok name; heap = (resized h name len).heap })
    → ((new : Name) → Ok new ≡ (allocated sli h len).answer → IsLive h name → h.tick + 1 < last_tick → P (record { answer = Ok new; heap = (released (copied (allocated sli h len).heap name new).heap name).heap }))
    → P (resized_or_moved sli h name len)
by_moved sli P h name len if_refused if_resized if_moved = on (resized h name len).answer refl
  where
    given : IsLive h name → h.tick + 1 < last_tick → (a : Result Name Refusal) → a ≡ (allocated sli h len).answer → P (moved sli h name len)
    given live fresh (Err why) e = subst P (sym (moved_refused sli h name len fresh why e)) (if_refused why)
    given live fresh (Ok new) e = subst P (sym (moved_done sli h name len new e live fresh)) (if_moved new e live fresh)

    on : (r : Result (Unit {0}) Refusal) → r ≡ (resized h name len).answer → P (resized_or_moved sli h name len)
    on (Ok done) e = subst P (sym (stays sli h name len e)) if_resized
    on (Err NoRoom) e = subst P (sym (moves sli h name len e)) (elim (cases_lt (h.tick + 1) last_tick) [
      | inl fresh ↦ given (no_room_live h name len e) fresh (allocated sli h len).answer refl
      | inr worn ↦ subst P (sym (moved_worn sli h name len worn)) (if_refused Worn)
    ])
    on (Err NoFit) e = subst P (sym (refuses sli h name len NoFit (λ x. cc) e)) (if_refused NoFit)
    on (Err Worn) e = subst P (sym (refuses sli h name len Worn (λ x. cc) e)) (if_refused Worn)
    on (Err Foreign) e = subst P (sym (refuses sli h name len Foreign (λ x. cc) e)) (if_refused Foreign)
    on (Err Stale) e = subst P (sym (refuses sli h name len Stale (λ x. cc) e)) (if_refused Stale)
    on (Err Range) e = subst P (sym (refuses sli h name len Range (λ x. cc) e)) (if_refused Range)
