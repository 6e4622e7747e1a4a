-- A released name is never live again.
use Rattle.tlsf_heap.proofs.Common.{◌≡◌, ◌≢◌, ℕ, ◌+◌, ◌<◌, ◌≤◌, true, nat_le, List, [], ◌∷◌, ◌++◌, Ok, refl, sym, subst, arith, AllByRecursion, eqb-true, false≢true, Block, Live, Free, HeapState, size_of, serials, IsLawful, AreDistinct, ticked, with_blocks, carved, has_serial, past_free, before_free, coalesced, released, with_bytes, is_sized, refitted, room_of, IsLive, IsTaken, IsGone, Name, Fill, Fit, Give, GiveFrom, Look, Put, Reset, Site, Step, Take, after, bytes_of, overwritten, stepped}
use Rattle.tlsf_heap.proofs.lemmas.blocks.Find.{and_left}
use Rattle.tlsf_heap.proofs.lemmas.blocks.Lawful.{all_append, all_left, all_right, all_weaker, serials-append}
use Rattle.tlsf_heap.proofs.lemmas.blocks.Coalesce.{by_last}
use Rattle.tlsf_heap.proofs.lemmas.calls.Outcomes.{IsSiteOf, gives_words, by_test, by_allocated_words, by_words_from, by_released, by_resized_words, by_written, by_filled, by_reset, lawful_site}
use Rattle.tlsf_heap.proofs.lemmas.calls.Resize.{by_refitted}
use Rattle.tlsf_heap.proofs.lemmas.laws.Live.{serial_of, lives}

module _ (P : ℕ → Type 0) where
  abbrev AllSerials : List Block → Type 0
  AllSerials bs = AllByRecursion P (serials bs)

  all_of : (xs ys : List Block) → AllSerials (xs ++ ys) → AllSerials xs × AllSerials ys
  all_of xs ys all =
      let both = subst (AllByRecursion P) (serials-append xs ys) all in (all_left P (serials xs) (serials ys) both, all_right P (serials xs) (serials ys) both)

  of_both : (xs ys : List Block) → AllSerials xs → AllSerials ys → AllSerials (xs ++ ys)
  of_both xs ys a b = subst (AllByRecursion P) (sym (serials-append xs ys)) (all_append P (serials xs) (serials ys) a b)

  of_rest : (b : Block) (bs : List Block) → AllSerials (b ∷ bs) → AllSerials bs
  of_rest (Live m s xs) bs all = all.1
  of_rest (Free m s) bs all = all

  all_past : (bs : List Block) → AllSerials bs → AllSerials (past_free bs)
  all_past [] all = all
  all_past (Live m s xs ∷ bs) all = all
  all_past (Free m s ∷ bs) all = all

  all_before : (bs : List Block) → AllSerials bs → AllSerials (before_free bs)
  all_before bs = by_last (λ all k left. AllSerials all → AllSerials left) bs (λ h. h) (λ all m s xs h. h) (λ all m s h. (all_of all (Free m s ∷ []) h).0)

  all_coalesced : (tick : ℕ) (front back : List Block) (b : Block) → AllSerials front → AllSerials back → AllSerials (coalesced tick (record { before = front; block = b; after = back }))
  all_coalesced tick front back b f g = of_both (before_free front) _ (all_before front f) (all_past back g)

  all_with : (b : Block) (new : List ℕ) (bs : List Block) → AllSerials (b ∷ bs) → AllSerials (with_bytes b new ∷ bs)
  all_with (Live m s xs) new bs all = all
  all_with (Free m s) new bs all = all

  all_refitted : (tick n len : ℕ) (b : Block) (back : List Block) → n ≤ room_of b back → AllSerials (b ∷ back) → AllSerials (refitted tick n len b back)
  all_refitted tick n len (Live m s xs) back room all = by_refitted AllSerials tick n len m s xs back room (λ _. all) (all.0, all_past back all.1) (λ _. (all.0, all_past back all.1))
  all_refitted tick n len (Free m s) back room all = by_test AllSerials (is_sized n (Free m s)) (Free m s ∷ back) (Free m s ∷ back) (λ _. all) all

module _ (h : HeapState) (serial : ℕ) (g : IsGone h serial) (s : Site) (site : IsSiteOf h.blocks s) where
  abbrev P : ℕ → Type 0
  P y = y ≢ serial

  all : AllSerials P s.before × AllSerials P (s.block ∷ s.after)
  all = all_of P s.before (s.block ∷ s.after) (subst (AllSerials P) (sym site) g.absent)

  gone_given : (n len : ℕ) → IsGone (gives_words h n len s).heap serial
  gone_given n len =
      let new : List Block = carved (size_of s.block) n h.tick len in
      let other : h.tick ≢ serial = λ e. omega (arith, g.past, e) in
      record {
        past = omega (arith, g.past);
        absent = of_both P (s.before ++ new) s.after (of_both P s.before new all.0 (by_test (AllSerials P) (nat_le (n + 4) (size_of s.block)) _ _ (λ _. (other, tt)) (other, tt))) (of_rest P s.block s.after all.1);
      }

  gone_set : (bytes : List ℕ) → IsGone (with_blocks h (s.before ++ with_bytes s.block bytes ∷ s.after)) serial
  gone_set bytes = record { past = g.past; absent = of_both P s.before _ all.0 (all_with P s.block bytes s.after all.1) }

pub gone_step : (sli : ℕ) (h : HeapState) (serial : ℕ) (step : Step) → IsGone h serial → IsGone (stepped sli h step) serial
gone_step sli h serial (Give n len) g = by_allocated_words sli (λ o. IsGone o.heap serial) h n len (λ why. g) (λ s site fit. gone_given h serial g s site n len)
gone_step sli h serial (GiveFrom at n) g = by_words_from (λ o. IsGone o.heap serial) h at n (λ why. g) (λ s site is room. gone_given h serial g s site n 0)
gone_step sli h serial (Take name) g = by_released (λ o. IsGone o.heap serial) h name (λ why. g) (λ s own site is.
    let a = all h serial g s site in record { past = omega (arith, g.past); absent = all_coalesced (λ y. y ≢ serial) h.tick s.before s.after s.block a.0 (of_rest (λ y. y ≢ serial) s.block s.after a.1) })
gone_step sli h serial (Fit name n len) g = by_resized_words (λ o. IsGone o.heap serial) h name n len (λ why. g) (λ s own site is room.
    let a = all h serial g s site in record { past = omega (arith, g.past); absent = of_both (λ y. y ≢ serial) s.before _ a.0 (all_refitted (λ y. y ≢ serial) h.tick n len s.block s.after room a.1) })
gone_step sli h serial (Put name at bytes) g = by_written (λ o. IsGone o.heap serial) h name at bytes (λ why. g) (λ s site has. gone_set h serial g s site (overwritten (bytes_of s.block) at bytes))
gone_step sli h serial (Fill name bytes) g = by_filled (λ k. IsGone k serial) h name bytes g (λ s site is. gone_set h serial g s site bytes)
gone_step sli h serial Reset g = by_reset (λ o. IsGone o.heap serial) h (λ late. g) (λ fresh. record { past = omega (arith, g.past); absent = tt })
gone_step sli h serial Look g = g

pub gone_run : (sli : ℕ) (h : HeapState) (serial : ℕ) (steps : List Step) → IsGone h serial → IsGone (after sli h steps) serial
gone_run sli h serial [] g = g
gone_run sli h serial (step ∷ steps) g = gone_run sli (stepped sli h step) serial steps (gone_step sli h serial step g)

pub distinct_from : (s : ℕ) (xs ys : List ℕ) → AreDistinct (xs ++ s ∷ ys) → AllByRecursion (λ y. y ≢ s) xs × AllByRecursion (λ y. y ≢ s) ys
distinct_from s [] ys d = (tt, all_weaker (λ y. s ≢ y) (λ y. y ≢ s) (λ y f e. f (sym e)) ys d.0)
distinct_from s (x ∷ xs) ys d = let rest = distinct_from s xs ys d.1 in (((all_right (λ y. x ≢ y) xs (s ∷ ys) d.0).0, rest.0), rest.1)

gone_released : (h : HeapState) (front back : List Block) (b : Block) (serial : ℕ) → has_serial serial b ≡ true → IsLawful (with_blocks h (front ++ b ∷ back))
    → IsGone (ticked h (coalesced h.tick (record { before = front; block = b; after = back }))) serial
gone_released h front back (Free m s) serial e lawful = absurd (false≢true e)
gone_released h front back (Live m s xs) serial e lawful =
    let past = (all_of (λ y. y < h.tick) front (Live m s xs ∷ back) lawful.serials_past).1.0 in
    let others = distinct_from s (serials front) (serials back) (subst AreDistinct (serials-append front (Live m s xs ∷ back)) lawful.serials_differ) in
    let here : IsGone (ticked h (coalesced h.tick (record { before = front; block = Live m s xs; after = back }))) s =
    record { past = omega (arith, past); absent = all_coalesced (λ y. y ≢ s) h.tick front back (Live m s xs) others.0 others.1 } in
    subst (IsGone (ticked h (coalesced h.tick (record { before = front; block = Live m s xs; after = back })))) (eqb-true s serial e) here

pub gone_taken : (h : HeapState) (name : Name) → IsLawful h → IsTaken h name → IsGone (released h name).heap name.serial
gone_taken h name lawful taken =
    by_released (λ o. o.answer ≡ Ok tt → IsGone o.heap name.serial) h name (λ why e. absurd cc)
    (λ s own site is e. gone_released h s.before s.after s.block name.serial (and_left _ _ is) (lawful_site h s site lawful)) taken

pub gone_dead : (h : HeapState) (name : Name) → IsGone h name.serial → ¬ (IsLive h name)
gone_dead h name g live = serial_of name.at name.serial (λ y. y ≢ name.serial) 0 _ g.absent (lives h name live) refl

pub gone : (sli : ℕ) (h : HeapState) (name : Name) (steps : List Step) → IsLawful h → IsTaken h name → ¬ (IsLive (after sli (released h name).heap steps) name)
gone sli h name steps lawful taken = gone_dead _ name (gone_run sli (released h name).heap name.serial steps (gone_taken h name lawful taken))
