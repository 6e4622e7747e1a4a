-- The result of a call: a refusal, or an edit at the site of one block.
use Rattle.tlsf_heap.proofs.Common.{◌≡◌, ℕ, Bool, true, false, cond, nat_lt, eqb, ◌≤◌, arith, List, [], ◌∷◌, ◌++◌, length, filter, find, Option, Some, None, Ok, refl, sym, subst, inl, inr, append_assoc, IsSome, ◌⊎◌, AllByRecursion, eqb-true, false≢true, nat_tests, IsLevel, Block, HeapState, size_of, bytes_of, want, Site, sites, sites_behind, place_of, is_fit, fits, choice, IsLawful, Outcome, refused, is_worn, ticked, with_blocks, carved, allocated, allocated_words, allocated_at, is_named, named, coalesced, released, released_at, overwritten, with_bytes, has_bytes, written, written_at, refitted, room_of, resized_words, resized_at, Call, Allocate, Release, Resize, Write, Read, answered, run, Name, Refusal, NoFit, Worn, Foreign, Stale, Range, NoRoom, Fill, Fit, Give, GiveFrom, IsRoomy, Look, Put, Reset, Step, Take, after, eq-eqb, last_tick, opened, ◌≢◌, ap, given_from, is_free_at, map, step_of, stepped, with_payload, with_payload_at, words_from, ◌∙◌}
use Rattle.tlsf_heap.specs.Calls.{reset}
use Rattle.tlsf_heap.proofs.lemmas.blocks.Find.{and_left}
use Rattle.tlsf_heap.proofs.lemmas.blocks.Lawful.{opened_lawful}
use Rattle.tlsf_heap.proofs.lemmas.calls.Allocate.{lawful_carved, lawful_given}
use Rattle.tlsf_heap.proofs.lemmas.calls.Release.{lawful_at}
use Rattle.tlsf_heap.proofs.lemmas.calls.Resize.{lawful_refitted}
use Rattle.tlsf_heap.proofs.lemmas.calls.Write.{lawful_bytes, length-overwritten, range_fits}

-- ---- what a search finds

pub by_test : {X : Type 0} (P : X → Type 0) (b : Bool) (x y : X) → (b ≡ true → P x) → P y → P (cond b x y)
by_test P true x y f g = f refl
by_test P false x y f g = g

pub unless : {X : Type 0} (P : X → Type 0) (b : Bool) (x y : X) → P x → (b ≡ false → P y) → P (cond b x y)
unless P true x y f g = f
unless P false x y f g = g refl

module _ {X : Type 0} where
  found_or : (P : X → Type 0) (p : X → Bool) (b : Bool) (y : X) (rest : Option X) (x : X) → p y ≡ b → P y → (rest ≡ Some x → P x × (p x ≡ true)) → cond b (Some y) rest ≡ Some x → P x × (p x ≡ true)
  found_or P p true y rest x t holds f e = let same : y ≡ x = cc in subst (λ (z : X). P z × (p z ≡ true)) same (holds, t)
  found_or P p false y rest x t holds f e = f e

  pub found_has : (P : X → Type 0) (p : X → Bool) (xs : List X) (x : X) → AllByRecursion P xs → find p xs ≡ Some x → P x × (p x ≡ true)
  found_has P p [] x all e = cc
  found_has P p (y ∷ xs) x all e = found_or P p (p y) y (find p xs) x refl all.0 (found_has P p xs x all.1) e

  filtered : (P : X → Type 0) (q : X → Bool) (xs : List X) → AllByRecursion P xs → AllByRecursion (λ x. P x × (q x ≡ true)) (filter q xs)
  filtered P q [] all = tt
  filtered P q (x ∷ xs) all =
      let rest = filtered P q xs all.1 in
      by_test (AllByRecursion (λ x. P x × (q x ≡ true))) (q x) (x ∷ filter q xs) (filter q xs) (λ t. ((all.0, t), rest)) rest

  pub first_or : {A B : Type 0} (b : Bool) (x : X) (rest : Option X) → (b ≡ true → A) → (IsSome rest → B) → IsSome (cond b (Some x) rest) → A ⊎ B
  first_or true x rest f g h = inl (f refl)
  first_or false x rest f g h = inr (g h)

  pub or_first : (b : Bool) (x : X) (rest : Option X) → (b ≡ true) ⊎ IsSome rest → IsSome (cond b (Some x) rest)
  or_first true x rest h = refl
  or_first false x rest h = elim h [ inl t ↦ absurd (false≢true t) | inr r ↦ r ]

-- a site of a list is all of it
abbrev pub IsSiteOf : List Block → Site → Type 0
IsSiteOf bs s = s.before ++ s.block ∷ s.after ≡ bs

pub sites_whole : (p bs : List Block) → AllByRecursion (IsSiteOf (p ++ bs)) (sites_behind p bs)
sites_whole p [] = tt
sites_whole p (b ∷ bs) = (refl, subst (λ (l : List Block). AllByRecursion (IsSiteOf l) (sites_behind (p ++ b ∷ []) bs)) (append_assoc p (b ∷ []) bs) (sites_whole (p ++ b ∷ []) bs))

chosen_site : (sli n : ℕ) (bs : List Block) (s : Site) → choice sli n bs ≡ Some s → IsSiteOf bs s × (is_fit sli n s.block ≡ true)
chosen_site sli n bs s e = (found_has (λ s. IsSiteOf bs s × (is_fit sli n s.block ≡ true)) _ (fits sli n bs) s (filtered (IsSiteOf bs) (λ s. is_fit sli n s.block) (sites bs) (sites_whole [] bs)) e).0

pub named_site : (name : Name) (bs : List Block) (s : Site) → named name bs ≡ Some s → IsSiteOf bs s × (is_named name.at name.serial s ≡ true)
named_site name bs s e = found_has (IsSiteOf bs) (is_named name.at name.serial) (sites bs) s (sites_whole [] bs) e

-- ---- what a call comes to: a refusal, or an edit at a site

abbrev pub gives_words : HeapState → ℕ → ℕ → Site → Outcome Name
gives_words h n len s = record {
  answer = Ok (record { heap = h.id; at = place_of s; serial = h.tick });
  heap = ticked h (s.before ++ carved (size_of s.block) n h.tick len ++ s.after);
}

abbrev pub gives : HeapState → ℕ → Site → Outcome Name
gives h len s = gives_words h (want len) len s

pub by_allocated_words : (sli : ℕ) (P : Outcome Name → Type 0) (h : HeapState) (n len : ℕ) → ((why : Refusal) → P (refused h why))
    → ((s : Site) → IsSiteOf h.blocks s → is_fit sli n s.block ≡ true → P (gives_words h n len s)) → P (allocated_words sli h n len)
by_allocated_words sli P h n len if_refused if_done = at (choice sli n h.blocks) refl
  where
    at : (o : Option Site) → choice sli n h.blocks ≡ o → P (allocated_at h n len o)
    at None e = if_refused NoFit
    at (Some s) e = let site = chosen_site sli n h.blocks s e in by_test P (is_worn h) (refused h Worn) (gives_words h n len s) (λ _. if_refused Worn) (if_done s site.0 site.1)

pub by_allocated : (sli : ℕ) (P : Outcome Name → Type 0) (h : HeapState) (len : ℕ) → ((why : Refusal) → P (refused h why))
    → ((s : Site) → IsSiteOf h.blocks s → is_fit sli (want len) s.block ≡ true → P (gives h len s)) → P (allocated sli h len)
by_allocated sli P h len = by_allocated_words sli P h (want len) len

pub by_words_from : (P : Outcome Name → Type 0) (h : HeapState) (at n : ℕ) → ((why : Refusal) → P (refused h why))
    → ((s : Site) → IsSiteOf h.blocks s → is_free_at at s ≡ true → n ≤ size_of s.block → P (gives_words h n 0 s)) → P (words_from h at n)
by_words_from P h at n if_refused if_done = on (find (is_free_at at) (sites h.blocks)) refl
  where
    on : (o : Option Site) → find (is_free_at at) (sites h.blocks) ≡ o → P (given_from h n o)
    on None e = if_refused Stale
    on (Some s) e =
        let site = found_has (IsSiteOf h.blocks) (is_free_at at) (sites h.blocks) s (sites_whole [] h.blocks) e in
        unless P (nat_lt (size_of s.block) n) (refused h NoRoom) _ (if_refused NoRoom) (λ t. by_test P (is_worn h) (refused h Worn) (gives_words h n 0 s) (λ _. if_refused Worn) (if_done s site.0 site.1 (grind (arith, nat_tests))))

abbrev pub takes : HeapState → Site → Outcome (Unit {0})
takes h s = record { answer = Ok tt; heap = ticked h (coalesced h.tick s) }

pub by_released : (P : Outcome (Unit {0}) → Type 0) (h : HeapState) (name : Name) → ((why : Refusal) → P (refused h why))
    → ((s : Site) → name.heap ≡ h.id → IsSiteOf h.blocks s → is_named name.at name.serial s ≡ true → P (takes h s)) → P (released h name)
by_released P h name if_refused if_done =
    by_test P (eqb name.heap h.id) (released_at h (named name h.blocks)) (refused h Foreign) (λ own. at (eqb-true name.heap h.id own) (named name h.blocks) refl) (if_refused Foreign)
  where
    at : name.heap ≡ h.id → (o : Option Site) → named name h.blocks ≡ o → P (released_at h o)
    at own None e = if_refused Stale
    at own (Some s) e = let site = named_site name h.blocks s e in by_test P (is_worn h) (refused h Worn) (takes h s) (λ _. if_refused Worn) (if_done s own site.0 site.1)

abbrev pub resizes : HeapState → ℕ → ℕ → Site → Outcome (Unit {0})
resizes h n len s = record { answer = Ok tt; heap = ticked h (s.before ++ refitted h.tick n len s.block s.after) }

pub by_resized_found : (P : Outcome (Unit {0}) → Type 0) (h : HeapState) (name : Name) (n len : ℕ) → ((why : Refusal) → P (refused h why))
    → ((s : Site) → name.heap ≡ h.id → named name h.blocks ≡ Some s → n ≤ room_of s.block s.after → P (resizes h n len s)) → P (resized_words h name n len)
by_resized_found P h name n len if_refused if_done =
    by_test P (eqb name.heap h.id) (resized_at h n len (named name h.blocks)) (refused h Foreign) (λ own. at (eqb-true name.heap h.id own) (named name h.blocks) refl) (if_refused Foreign)
  where
    at : name.heap ≡ h.id → (o : Option Site) → named name h.blocks ≡ o → P (resized_at h n len o)
    at own None e = if_refused Stale
    at own (Some s) e =
        unless P (nat_lt (room_of s.block s.after) n) (refused h NoRoom) _ (if_refused NoRoom)
        (λ t. by_test P (is_worn h) (refused h Worn) (resizes h n len s) (λ _. if_refused Worn) (if_done s own e (grind (arith, nat_tests))))

pub by_resized_words : (P : Outcome (Unit {0}) → Type 0) (h : HeapState) (name : Name) (n len : ℕ) → ((why : Refusal) → P (refused h why))
    → ((s : Site) → name.heap ≡ h.id → IsSiteOf h.blocks s → is_named name.at name.serial s ≡ true → n ≤ room_of s.block s.after → P (resizes h n len s)) → P (resized_words h name n len)
by_resized_words P h name n len if_refused if_done =
    by_resized_found P h name n len if_refused (λ s own e room. let site = named_site name h.blocks s e in if_done s own site.0 site.1 room)

abbrev pub writes : HeapState → ℕ → List ℕ → Site → Outcome (Unit {0})
writes h at bytes s = record { answer = Ok tt; heap = with_blocks h (s.before ++ with_bytes s.block (overwritten (bytes_of s.block) at bytes) ∷ s.after) }

pub by_written_named : (P : Outcome (Unit {0}) → Type 0) (h : HeapState) (name : Name) (at : ℕ) (bytes : List ℕ) → ((why : Refusal) → P (refused h why))
    → ((s : Site) → name.heap ≡ h.id → IsSiteOf h.blocks s → is_named name.at name.serial s ≡ true → has_bytes s.block at (length bytes) ≡ true → P (writes h at bytes s)) → P (written h name at bytes)
by_written_named P h name at bytes if_refused if_done =
    by_test P (eqb name.heap h.id) (written_at h at bytes (named name h.blocks)) (refused h Foreign) (λ own. on (eqb-true name.heap h.id own) (named name h.blocks) refl) (if_refused Foreign)
  where
    on : name.heap ≡ h.id → (o : Option Site) → named name h.blocks ≡ o → P (written_at h at bytes o)
    on own None e = if_refused Stale
    on own (Some s) e =
        let site = named_site name h.blocks s e in
        by_test P (has_bytes s.block at (length bytes)) (writes h at bytes s) (refused h Range) (if_done s own site.0 site.1) (if_refused Range)

pub by_written : (P : Outcome (Unit {0}) → Type 0) (h : HeapState) (name : Name) (at : ℕ) (bytes : List ℕ) → ((why : Refusal) → P (refused h why))
    → ((s : Site) → IsSiteOf h.blocks s → has_bytes s.block at (length bytes) ≡ true → P (writes h at bytes s)) → P (written h name at bytes)
by_written P h name at bytes if_refused if_done = by_written_named P h name at bytes if_refused (λ s own site is. if_done s site)

-- a block gets other bytes, if it is there
pub by_filled : (P : HeapState → Type 0) (h : HeapState) (name : Name) (bytes : List ℕ) → P h
    → ((s : Site) → IsSiteOf h.blocks s → is_named name.at name.serial s ≡ true → P (with_blocks h (s.before ++ with_bytes s.block bytes ∷ s.after))) → P (with_payload h name bytes)
by_filled P h name bytes if_none if_there = on (named name h.blocks) refl
  where
    on : (o : Option Site) → named name h.blocks ≡ o → P (with_payload_at h bytes o)
    on None e = if_none
    on (Some s) e = let site = named_site name h.blocks s e in if_there s site.0 site.1

-- all blocks are back
abbrev pub emptied : HeapState → Outcome (Unit {0})
emptied h = record { answer = Ok tt; heap = opened h.id h.words h.tick }

module _ (P : Outcome (Unit {0}) → Type 0) (h : HeapState) (late : h.tick ≡ last_tick → P (refused h Worn)) (done : h.tick ≢ last_tick → P (emptied h)) where
  by_worn : (b : Bool) → is_worn h ≡ b → P (cond b (refused h Worn) (emptied h))
  by_worn true e = late (eqb-true h.tick last_tick e)
  by_worn false e = done (λ worn. false≢true (sym e ∙ eq-eqb h.tick last_tick worn))

  pub by_reset : P (reset h)
  by_reset = by_worn (is_worn h) refl

-- ---- a heap keeps its number and its laws

pub ids_step : (sli : ℕ) (h : HeapState) (step : Step) → (stepped sli h step).id ≡ h.id
ids_step sli h (Give n len) = by_allocated_words sli (λ o. o.heap.id ≡ h.id) h n len (λ why. refl) (λ s site fit. refl)
ids_step sli h (GiveFrom at n) = by_words_from (λ o. o.heap.id ≡ h.id) h at n (λ why. refl) (λ s site is room. refl)
ids_step sli h (Take name) = by_released (λ o. o.heap.id ≡ h.id) h name (λ why. refl) (λ s own site is. refl)
ids_step sli h (Fit name n len) = by_resized_words (λ o. o.heap.id ≡ h.id) h name n len (λ why. refl) (λ s own site is room. refl)
ids_step sli h (Put name at bytes) = by_written (λ o. o.heap.id ≡ h.id) h name at bytes (λ why. refl) (λ s site has. refl)
ids_step sli h (Fill name bytes) = by_filled (λ k. k.id ≡ h.id) h name bytes refl (λ s site is. refl)
ids_step sli h Reset = by_reset (λ o. o.heap.id ≡ h.id) h (λ late. refl) (λ fresh. refl)
ids_step sli h Look = refl

-- a call is its step
pub called : (sli : ℕ) (h : HeapState) (call : Call) → stepped sli h (step_of call) ≡ (answered sli h call).1
called sli h (Allocate len) = refl
called sli h (Release name) = refl
called sli h (Resize name len) = refl
called sli h (Write name at bytes) = refl
called sli h (Read name at n) = refl

pub ids : (sli : ℕ) (h : HeapState) (call : Call) → (answered sli h call).1.id ≡ h.id
ids sli h call = ap (λ (k : HeapState). k.id) (sym (called sli h call)) ∙ ids_step sli h (step_of call)

pub runs : (sli : ℕ) (h : HeapState) (calls : List Call) → (run sli h calls).1 ≡ after sli h (map step_of calls)
runs sli h [] = refl
runs sli h (call ∷ calls) = runs sli (answered sli h call).1 calls ∙ ap (λ (k : HeapState). after sli k (map step_of calls)) (sym (called sli h call))

pub roomy : (calls : List Call) → AllByRecursion IsRoomy (map step_of calls)
roomy [] = tt
roomy (Allocate len ∷ calls) = (omega arith, roomy calls)
roomy (Release name ∷ calls) = (tt, roomy calls)
roomy (Resize name len ∷ calls) = (omega arith, roomy calls)
roomy (Write name at bytes ∷ calls) = (tt, roomy calls)
roomy (Read name at n ∷ calls) = (tt, roomy calls)

-- what each step keeps, steps in turn keep
pub by_steps : (sli : ℕ) (C : Step → Type 0) (L : HeapState → Type 0) → ((h : HeapState) (step : Step) → C step → L h → L (stepped sli h step))
    → (h : HeapState) (steps : List Step) → AllByRecursion C steps → L h → L (after sli h steps)
by_steps sli C L each h [] all l = l
by_steps sli C L each h (step ∷ steps) all l = by_steps sli C L each (stepped sli h step) steps all.1 (each h step all.0 l)

pub lawful_site : (h : HeapState) (s : Site) → IsSiteOf h.blocks s → IsLawful h → IsLawful (with_blocks h (s.before ++ s.block ∷ s.after))
lawful_site h s site lawful = subst (λ (l : List Block). IsLawful (with_blocks h l)) (sym site) lawful

pub lawful_resized_words : (h : HeapState) (name : Name) (n len : ℕ) → want len ≤ n → IsLawful h → IsLawful (resized_words h name n len).heap
lawful_resized_words h name n len wanted lawful =
    by_resized_words (λ o. IsLawful o.heap) h name n len (λ why. lawful) (λ s own site is room. lawful_refitted h s.before s.after s.block name.serial n len wanted (and_left _ _ is) room (lawful_site h s site lawful))

pub lawful_released : (h : HeapState) (name : Name) → IsLawful h → IsLawful (released h name).heap
lawful_released h name lawful =
    by_released (λ o. IsLawful o.heap) h name (λ why. lawful) (λ s own site is. lawful_at h s.before s.after s.block name.serial (and_left _ _ is) (lawful_site h s site lawful))

module _ (sli : ℕ) (level : IsLevel sli) where
  pub lawful_step : (h : HeapState) (step : Step) → IsRoomy step → IsLawful h → IsLawful (stepped sli h step)
  lawful_step h (Give n len) wanted lawful =
      by_allocated_words sli (λ o. IsLawful o.heap) h n len (λ why. lawful) (λ s site fit. lawful_carved sli level h s.before s.after s.block n len wanted fit (lawful_site h s site lawful))
  lawful_step h (GiveFrom at n) wanted lawful =
      by_words_from (λ o. IsLawful o.heap) h at n (λ why. lawful) (λ s site is room. lawful_given h s.before s.after s.block n 0 wanted (and_left _ _ is) room (lawful_site h s site lawful))
  lawful_step h (Take name) roomy lawful = lawful_released h name lawful
  lawful_step h (Fit name n len) wanted lawful = lawful_resized_words h name n len wanted lawful
  lawful_step h (Put name at bytes) roomy lawful =
      by_written (λ o. IsLawful o.heap) h name at bytes (λ why. lawful) (λ s site has.
      lawful_bytes h s.before s.after s.block _ (length-overwritten (bytes_of s.block) bytes at (range_fits s.block at (length bytes) has)) (lawful_site h s site lawful))
  lawful_step h (Fill name bytes) roomy lawful = absurd roomy
  lawful_step h Reset roomy lawful = by_reset (λ o. IsLawful o.heap) h (λ late. lawful) (λ fresh. opened_lawful h.id h.words h.tick lawful.least)
  lawful_step h Look roomy lawful = lawful

  pub lawful_allocated_words : (h : HeapState) (n len : ℕ) → want len ≤ n → IsLawful h → IsLawful (allocated_words sli h n len).heap
  lawful_allocated_words h n len = lawful_step h (Give n len)

  pub lawful_steps : (h : HeapState) (steps : List Step) → AllByRecursion IsRoomy steps → IsLawful h → IsLawful (after sli h steps)
  lawful_steps = by_steps sli IsRoomy IsLawful lawful_step

  pub lawful_run : (h : HeapState) (calls : List Call) → IsLawful h → IsLawful (run sli h calls).1
  lawful_run h calls lawful = subst IsLawful (sym (runs sli h calls)) (lawful_steps h (map step_of calls) (roomy calls) lawful)
