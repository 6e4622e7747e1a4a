-- A block whose payload is aligned has the words wanted or three more at most, and the gap in front of it is the least.
use Rattle.tlsf_heap.proofs.Common.{◌≡◌, ◌≢◌, ℕ, suc, ◌+◌, ◌-◌, ◌%◌, ◌<◌, ◌≤◌, Bool, true, false, cond, eqb, List, [], ◌∷◌, ◌++◌, take, drop, Result, Ok, Err, refl, sym, ap, ◌∙◌, subst, inl, inr, arith, append_assoc, eq-eqb, eqb-true, false≢true, cases_lt, add-mod-mod, mod-lt, mod_self, IsLevel, words_from, gap_of, moved_by, moved_on, aligned_words, words_aligned, Block, Live, Free, HeapState, size_of, is_free, words_in, want, Outcome, carved, refitted, fitted, first_free, past_free, has_serial, allocated_words, released, resized_words, last_tick, block_at, place_of, IsLawful, words_at, Name, Refusal, GiveFrom, Take}
use Rattle.std.proofs.Math.Nat.{mod-eq_of_lt}
use Rattle.tlsf_heap.specs.Aligned.{IsLeastGap, GetsAligned}
use Rattle.tlsf_heap.proofs.lemmas.blocks.Replace.{carved_small, carved_large}
use Rattle.tlsf_heap.proofs.lemmas.calls.AllocateAligned.{Has, HasWords, stood, shrinks, shrinks_tick, from_has, first_given, first_has, by_gap, gap_fits, aligned_worn, aligned_refused, aligned_is, aligned_gives}
use Rattle.tlsf_heap.proofs.lemmas.calls.Outcomes.{gives_words, by_words_from, lawful_step, lawful_allocated_words, lawful_resized_words}
use Rattle.tlsf_heap.proofs.lemmas.laws.AlignedWords.{in_use_aligned}
use Rattle.tlsf_heap.proofs.lemmas.laws.Lasting.{HasFrom, to_index, in_left, in_right}
use Rattle.tlsf_heap.proofs.lemmas.laws.Live.{lasts_named}
use Rattle.tlsf_heap.proofs.lemmas.laws.WordsInUse.{words_live}
use Rattle.tlsf_heap.proofs.lemmas.lists.Refit.{refitted_kept, refitted_cut}
use Rattle.tlsf_heap.proofs.lemmas.words.Recut.{cut_large}

-- ---- a live block of n words, or three more at most

-- of this serial
abbrev Fits : ℕ → ℕ → Block → Type 0
Fits serial n (Live m own bytes) = (own ≡ serial) × (n ≤ m) × (m ≤ n + 3)
Fits serial n (Free m s) = ⊥

-- the heap has one of this name
abbrev FitsWords : HeapState → Name → ℕ → Type 0
FitsWords h name n = (name.heap ≡ h.id) × HasFrom (Fits name.serial n) name.at 0 h.blocks

fits_none : (serial n m s : ℕ) → Fits serial n (Free m s) → ⊥
fits_none serial n m s h = h

fits_one : (name : Name) (n a : ℕ) (b : Block) → has_serial a b ≡ true → Fits name.serial n b → a ≡ name.serial
fits_one name n a (Live m t xs) e own = sym (eqb-true t a e) ∙ own.0
fits_one name n a (Free m t) e own = absurd own

fits_size : (serial n : ℕ) (b : Block) → Fits serial n b → (is_free b ≡ false) × (n ≤ size_of b) × (size_of b ≤ n + 3)
fits_size serial n (Live m own bytes) h = (refl, h.1, h.2)
fits_size serial n (Free m s) h = absurd h

fits_words : (h : HeapState) (name : Name) (n : ℕ) → IsLawful h → FitsWords h name n → (n ≤ words_at h name.at) × (words_at h name.at ≤ n + 3)
fits_words h name n lawful fits =
    let r = to_index (Fits name.serial n) name.at 0 h.blocks fits.1 in
    let f = fits_size name.serial n (block_at h.blocks r.0) r.3 in
    let is : words_at h name.at ≡ size_of (block_at h.blocks r.0) = words_live h lawful.rooms (record { stands = record { within = r.1; place = omega (arith, r.2) }; live = f.0 }) in
    (omega (arith, is, f.1), omega (arith, is, f.2))

-- it is given out of the free block at a place
carved_fits : (size n tick place : ℕ) → n ≤ size → HasFrom (Fits tick n) place place (carved size n tick 0)
carved_fits size n tick place room = elim (cases_lt size (n + 4)) [
  | inl small ↦ subst (HasFrom (Fits tick n) place place) (sym (carved_small size n tick 0 small)) (inl ((refl, room, omega (arith, small)), refl))
  | inr large ↦ subst (HasFrom (Fits tick n) place place) (sym (carved_large size n tick 0 large)) (inl ((refl, omega arith, omega arith), refl))
]

fits_there : (front back : List Block) (size n tick : ℕ) → n ≤ size → HasFrom (Fits tick n) (words_in front) 0 (front ++ carved size n tick 0 ++ back)
fits_there front back size n tick room =
    let P = Fits tick n in
    let new : List Block = carved size n tick 0 in
    subst (HasFrom P (words_in front) 0) (sym (append_assoc front new back))
    (in_right P (words_in front) 0 front (new ++ back) (in_left P (words_in front) (0 + words_in front) new back (subst (λ (k : ℕ). HasFrom P (words_in front) k new) (omega arith) (carved_fits size n tick (words_in front) room))))

from_fits : (h : HeapState) (at n : ℕ) (name : Name) → (words_from h at n).answer ≡ Ok name → FitsWords (words_from h at n).heap name n
from_fits h at n name = by_words_from (λ o. o.answer ≡ Ok name → FitsWords o.heap name n) h at n (λ why e. absurd cc) (λ s site is room e.
    let same : record { heap = h.id; at = place_of s; serial = h.tick } ≡ name = cc in
    subst (λ (given : Name). FitsWords (gives_words h n 0 s).heap given n) same (refl, fits_there s.before s.after (size_of s.block) n h.tick room))

-- it is what a longer one becomes
refit_fits : (serial tick n m at : ℕ) (b : Block) (back : List Block) → n ≤ m → Has serial m b → HasFrom (Fits serial n) at at (refitted tick n 0 b back)
refit_fits serial tick n m at (Free k t) back shorter own = absurd own
refit_fits serial tick n m at (Live k t xs) back shorter own = elim (cases_lt k (n + 4)) [
  | inl close ↦ subst (HasFrom (Fits serial n) at at) (sym (refitted_kept tick n 0 (Live k t xs) back (omega (arith, own.1, shorter)) close)) (inl ((own.0, omega (arith, own.1, shorter), omega (arith, close)), refl))
  | inr far ↦
      let is : refitted tick n 0 (Live k t xs) back ≡ (Live n t (fitted xs 0) ∷ Free (k + first_free back - n) tick ∷ []) ++ past_free back =
      refitted_cut tick n 0 (Live k t xs) back far ∙ ap (λ (l : List Block). l ++ past_free back) (cut_large (k + first_free back) n tick t (fitted xs 0) (omega (arith, far))) in
      subst (HasFrom (Fits serial n) at at) (sym is) (inl ((own.0, omega arith, omega arith), refl))
]

shrinks_fits : (h : HeapState) (name : Name) (n m : ℕ) → IsLawful h → HasWords h name m → n ≤ m → h.tick ≢ last_tick → FitsWords (resized_words h name n 0).heap name n
shrinks_fits h name n m lawful has shorter fresh =
    let s = stood h name m lawful has in
    let P = Fits name.serial n in
    let new = refitted h.tick n 0 (block_at h.blocks s.0) (drop (suc s.0) h.blocks) in
    subst (λ (o : Outcome (Unit {0})). FitsWords o.heap name n) (sym (shrinks h name n m lawful has shorter fresh))
    (has.0, in_right P name.at 0 (take s.0 h.blocks) new (subst (λ (k : ℕ). HasFrom P name.at k new) (omega (arith, s.1.stands.place)) (refit_fits name.serial h.tick n m name.at (block_at h.blocks s.0) (drop (suc s.0) h.blocks) shorter s.1.has)))

released_fits : (h : HeapState) (other name : Name) (n : ℕ) → other.serial ≢ name.serial → FitsWords h name n → FitsWords (released h other).heap name n
released_fits h other name n differ = lasts_named (Fits name.serial n) name (fits_none name.serial n) (fits_one name n) 0 h (Take other) (inl (λ same. differ (ap (λ (m : Name). m.serial) same)))

-- ---- the whole call

module _ (sli : ℕ) (level : IsLevel sli) (h : HeapState) (n step skew : ℕ) (lawful : IsLawful h) (some : 0 < step) (least : 4 ≤ n) (name : Name) where
  abbrev asked : Outcome Name
  asked = allocated_words sli h (aligned_words n step) 0

  -- such an outcome's block has its words, at a multiple
  abbrev Right : Outcome Name → Type 0
  Right o = Ok name ≡ o.answer → ((name.at + 3 + skew) % step ≡ 0) × (n ≤ words_at o.heap name.at) × (words_at o.heap name.at ≤ n + 3)

  module _ (left : h.tick + 3 < last_tick) (first : Name) (given : Ok first ≡ asked.answer) where
    abbrev gap : ℕ
    gap = gap_of first.at step skew

    was_lawful : IsLawful asked.heap
    was_lawful = lawful_allocated_words sli level h (aligned_words n step) 0 (omega (arith, least)) lawful

    has : HasWords asked.heap first (gap + n)
    has = first_has sli level h n step skew lawful left some least first given was_lawful

    fresh : asked.heap.tick ≢ last_tick
    fresh worn = omega (arith, worn, (first_given sli h (aligned_words n step) first given).1, left)

    abbrev Sized : Outcome Name → Type 0
    Sized o = Ok name ≡ o.answer → (n ≤ words_at o.heap name.at) × (words_at o.heap name.at ≤ n + 3)

    stays : gap ≡ 0 → Sized (record { answer = Ok first; heap = (resized_words asked.heap first n 0).heap })
    stays none e =
        let same : first ≡ name = cc in
        subst (λ (m : Name). (n ≤ words_at (resized_words asked.heap first n 0).heap m.at) × (words_at (resized_words asked.heap first n 0).heap m.at ≤ n + 3)) same
        (fits_words (resized_words asked.heap first n 0).heap first n (lawful_resized_words asked.heap first n 0 (omega (arith, least)) was_lawful) (shrinks_fits asked.heap first n (gap + n) was_lawful has (omega arith) fresh))

    goes : 0 < gap → Sized (moved_by asked.heap first gap n)
    goes more e =
        let a = asked.heap in
        let wide : want 0 ≤ gap = omega (arith, (gap_fits first.at step skew some).0 more) in
        let r = (resized_words a first gap 0).heap in
        let there = words_from r (first.at + gap) n in
        let lawful_r = lawful_resized_words a first gap 0 wide was_lawful in
        let lawful_t = lawful_step sli level r (GiveFrom (first.at + gap) n) (omega (arith, least)) lawful_r in
        let lawful_f = lawful_step sli level there.heap (Take first) tt lawful_t in
        let came = from_has r (first.at + gap) n name (sym e) in
        let ticks = shrinks_tick a first gap (gap + n) was_lawful has (omega arith) fresh in
        let made = first_given sli h (aligned_words n step) first given in
        fits_words (released there.heap first).heap name n lawful_f (released_fits there.heap first name n (λ same. omega (arith, same, made.0, came.2, ticks, made.1)) (from_fits r (first.at + gap) n name (sym e)))

    moves_on : Right (moved_on asked.heap first gap n)
    moves_on e =
        let place = (aligned_gives sli level h n step skew lawful left some least first given was_lawful name e).1 in
        let same : name.at + 3 + skew ≡ first.at + gap + 3 + skew = omega (arith, place) in
        let sized = by_gap Sized asked.heap first gap n stays goes e in
        (ap (λ (k : ℕ). k % step) same ∙ (gap_fits first.at step skew some).2, sized.0, sized.1)

  right : Right (words_aligned sli h n step skew)
  right = elim (cases_lt (h.tick + 3) last_tick) [
    | inl left ↦ on left asked.answer refl
    | inr worn ↦ λ e. let bad = e ∙ ap (λ (o : Outcome Name). o.answer) (aligned_worn sli level h n step skew lawful worn) in absurd cc
  ]
    where
      on : h.tick + 3 < last_tick → (r : Result Name Refusal) → r ≡ asked.answer → Right (words_aligned sli h n step skew)
      on left (Err why) e = subst Right (sym (aligned_refused sli level h n step skew lawful left why e)) (λ bad. absurd cc)
      on left (Ok first) e = subst Right (sym (aligned_is sli level h n step skew lawful left some least first e (was_lawful left first e))) (moves_on left first e)

  pub gets_aligned : (words_aligned sli h n step skew).answer ≡ Ok name → GetsAligned h (words_aligned sli h n step skew).heap n step skew name
  gets_aligned e =
      let r = right (sym e) in
      record { aligned = r.0; room = r.1; few = r.2; rest = in_use_aligned sli level h n step skew lawful some least name e }

-- ---- the gap

up_least : (a j step : ℕ) → 0 < step → (a + j) % step ≡ 0 → (step - a % step) % step ≤ j
up_least a j step some whole = elim (cases_lt 0 (a % step)) [
  | inl more ↦
      let low = mod-lt a some in
      let is : (step - a % step) % step ≡ step - a % step = mod-eq_of_lt (omega (arith, more, low)) in
      elim (cases_lt j (step - a % step)) [
        | inl less ↦
            let turned : j + a ≡ a + j = omega arith in
            let sum : (j + a % step) % step ≡ 0 = add-mod-mod j a step ∙ ap (λ (k : ℕ). k % step) turned ∙ whole in
            let own : (j + a % step) % step ≡ j + a % step = mod-eq_of_lt (omega (arith, less, low)) in
            absurd (omega (arith, own, sum, more))
        | inr enough ↦ omega (arith, is, enough)
      ]
  | inr none ↦
      let same : step - a % step ≡ step = omega (arith, none) in
      let is : (step - a % step) % step ≡ 0 = ap (λ (k : ℕ). k % step) same ∙ mod_self step in
      omega (arith, is)
]

gap_least : (at step skew : ℕ) → 0 < step → (k : ℕ) → (0 < k → 4 ≤ k) → (at + k + 3 + skew) % step ≡ 0 → gap_of at step skew ≤ k
gap_least at step skew some k block aligned = on (eqb ((at + 3 + skew) % step) 0) refl
  where
    on : (b : Bool) → eqb ((at + 3 + skew) % step) 0 ≡ b → cond b 0 (4 + (step - (at + 7 + skew) % step) % step) ≤ k
    on true e = omega arith
    on false e = elim (cases_lt 0 k) [
      | inl more ↦
          let four = block more in
          let same : (at + 7 + skew) + (k - 4) ≡ at + k + 3 + skew = omega (arith, four) in
          let up = up_least (at + 7 + skew) (k - 4) step some (ap (λ (m : ℕ). m % step) same ∙ aligned) in
          omega (arith, up, four)
      | inr none ↦
          let same : at + 3 + skew ≡ at + k + 3 + skew = omega (arith, none) in
          absurd (false≢true (sym e ∙ eq-eqb _ _ (ap (λ (m : ℕ). m % step) same ∙ aligned)))
    ]

pub least_gap : (at step skew : ℕ) → 0 < step → IsLeastGap at step skew (gap_of at step skew)
least_gap at step skew some =
    let fits = gap_fits at step skew some in
    record { block = fits.0; aligned = fits.2; few = fits.1; least = gap_least at step skew some }
