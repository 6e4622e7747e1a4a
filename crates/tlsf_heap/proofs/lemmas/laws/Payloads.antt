-- Payloads that stay through each call that isn't about them.
use Rattle.tlsf_heap.proofs.Common.{◌≡◌, ◌≢◌, ℕ, List, [], ◌∷◌, length, take, true, sym, ◌∙◌, subst, inl, arith, Ok, ap, eq-eqb, AllByRecursion, eqb-true, Block, Live, Free, HeapState, bytes_of, want, block_at, has_serial, allocated_words, has_bytes, read_of, Holds, HasPayload, IsOfOthers, Name, nat_tests, IsLawful, IsLive, resized_or_moved, IsNamed, Fit, Give, Put, Step, Take, after, stepped}
use Rattle.tlsf_heap.proofs.lemmas.laws.Lasting.{HasFrom, of_index, to_index}
use Rattle.tlsf_heap.proofs.lemmas.laws.Live.{lasts_named, new_words}
use Rattle.tlsf_heap.proofs.lemmas.calls.Outcomes.{by_steps}
use Rattle.std.proofs.Math.Seq.{take-length}
use Rattle.tlsf_heap.proofs.lemmas.calls.Named.{live_is}
use Rattle.tlsf_heap.proofs.lemmas.calls.ResizeOrMove.{by_moved}
use Rattle.tlsf_heap.proofs.lemmas.words.Says.{named_here}
use Rattle.tlsf_heap.proofs.lemmas.calls.Write.{read_if}

module _ (name : Name) (bytes : List ℕ) where
  pub not_free : (m s : ℕ) → Holds name.serial bytes (Free m s) → ⊥
  not_free m s e = e

  pub one_holds : (a : ℕ) (b : Block) → has_serial a b ≡ true → Holds name.serial bytes b → a ≡ name.serial
  one_holds a (Live m s xs) e h = sym (eqb-true s a e) ∙ h.0
  one_holds a (Free m s) e h = absurd h

  pub has : (h : HeapState) → HasPayload h name bytes → HasFrom (Holds name.serial bytes) name.at 0 h.blocks
  has h held = of_index (Holds name.serial bytes) name.at 0 h.blocks held.1.0 held.1.1.within (omega (arith, held.1.1.place)) held.1.2

  pub holds : (k : HeapState) → name.heap ≡ k.id → HasFrom (Holds name.serial bytes) name.at 0 k.blocks → HasPayload k name bytes
  holds k own from =
      let r = to_index (Holds name.serial bytes) name.at 0 k.blocks from in
      (own, (r.0, record { within = r.1; place = omega (arith, r.2) }, r.3))

pub stays : (sli : ℕ) (h : HeapState) (name : Name) (bytes : List ℕ) (step : Step) → IsOfOthers name step → HasPayload h name bytes → HasPayload (stepped sli h step) name bytes
stays sli h name bytes step other held =
    let l = lasts_named (Holds name.serial bytes) name (not_free name bytes) (one_holds name bytes) sli h step (inl other) (held.0, has name bytes h held) in holds name bytes (stepped sli h step) l.0 l.1

pub stays_run : (sli : ℕ) (h : HeapState) (name : Name) (bytes : List ℕ) (steps : List Step) → AllByRecursion (IsOfOthers name) steps → HasPayload h name bytes → HasPayload (after sli h steps) name bytes
stays_run sli h name bytes = by_steps sli (IsOfOthers name) (λ k. HasPayload k name bytes) (λ k. stays sli k name bytes) h

-- the name of a payload is live
has_live : (h : HeapState) (name : Name) (bytes : List ℕ) → IsLawful h → HasPayload h name bytes → IsNamed h name
has_live h name bytes lawful held =
    let i = held.1.0 in
    (held.0, (i, named_here lawful.rooms name.serial held.1.1 (of_serial (block_at h.blocks i) held.1.2)))
  where
    of_serial : (b : Block) → Holds name.serial bytes b → has_serial name.serial b ≡ true
    of_serial (Live m s xs) e = eq-eqb s name.serial e.0
    of_serial (Free m s) e = absurd e

-- so no request gives it again
pub not_given : (sli : ℕ) (h : HeapState) (n len : ℕ) (given name : Name) (bytes : List ℕ) → IsLawful h → (allocated_words sli h n len).answer ≡ Ok given → HasPayload h name bytes → given ≢ name
not_given sli h n len given name bytes lawful answer held same =
    new_words sli h n len given lawful answer (subst (IsLive h) (sym same) (live_is h name (has_live h name bytes lawful held)))

-- a read answers that payload
pub stays_read : (h : HeapState) (name : Name) (bytes : List ℕ) → IsLawful h → HasPayload h name bytes → read_of h name 0 (length bytes) ≡ Ok bytes
unfolding has_live
stays_read h name bytes lawful held =
    let is_named = has_live h name bytes lawful held in
    let b = block_at h.blocks is_named.1.0 in
    let is : bytes_of b ≡ bytes = held_bytes b held.1.2 in
    let has_all : has_bytes b 0 (length bytes) ≡ true = let e = ap length is in grind (arith, nat_tests) in
    read_if h name 0 (length bytes) is_named true has_all ∙ ap (λ (l : List ℕ). Ok (take (length bytes) l)) is ∙ ap (λ (l : List ℕ). Ok l) (take-length bytes)
  where
    held_bytes : (b : Block) → Holds name.serial bytes b → bytes_of b ≡ bytes
    held_bytes (Live m s xs) e = e.1
    held_bytes (Free m s) e = absurd e

module _ (sli : ℕ) (h : HeapState) (other name : Name) (len : ℕ) (bytes : List ℕ) (lawful : IsLawful h) (differ : other ≢ name) (held : HasPayload h name bytes) where
  -- a resize or move of another name answers yet another, and leaves the payload
  pub stays_moved : HasPayload (resized_or_moved sli h other len).heap name bytes × ((new : Name) → (resized_or_moved sli h other len).answer ≡ Ok new → new ≢ name)
  stays_moved = by_moved sli (λ o. HasPayload o.heap name bytes × ((new : Name) → o.answer ≡ Ok new → new ≢ name)) h other len
      (λ why. (held, λ new e. cc))
      (stays sli h name bytes (Fit other (want len) len) differ held, λ new e same. let is : other ≡ new = cc in differ (is ∙ same))
      (λ given e live fresh.
      let apart = not_given sli h (want len) len given name bytes lawful (sym e) held in
      (stays_run sli h name bytes (Give (want len) len ∷ Put given 0 _ ∷ Take other ∷ []) (tt, (apart, (differ, tt))) held, λ new f same. let is : given ≡ new = cc in apart (is ∙ same)))
