-- A table of kinds that never refuses: what each call leaves of its bounds.
use Rattle.tlsf_pool.proofs.Common.{◌≡◌, ◌≢◌, ℕ, zero, suc, ◌+◌, ◌-◌, ◌*◌, ◌<◌, ◌≤◌, Bool, true, false, cond, nat_le, nat_lt, List, [], ◌∷◌, length, map, fold, Err, refl, sym, ap, ◌∙◌, subst, max, add-zero, arith, le_trans, AllByRecursion, list_all, mul-le-mul, leb-true, nat_tests, IsLevel, most_words, Block, Live, Free, HeapState, words_in, want, IsLawful, Call, Allocate, Release, Write, Resize, Read, allocated, answered, opened, run, live_among, NoFit, live_count, free_words, sure, IsSnug, AreModest, HasRoomFor, IsModest, Inventory, lengths, inventory_after, AreOfKinds, IsPlanned, ArePlanned, count_in, table_words, used, words_with, resized_words, are_fours, HasClass, StaysFour, KindsSuffice, ResizedSuffice, OneKindHasMixedWords, Kind}
use Rattle.tlsf_heap.proofs.lemmas.blocks.Find.{and_left, and_right}
use Rattle.tlsf_heap.proofs.lemmas.blocks.Sums.{words_apart}
use Rattle.tlsf_heap.proofs.lemmas.calls.Outcomes.{lawful_run}
use Rattle.tlsf_heap.proofs.lemmas.laws.NoFit.{no_fit}
use Rattle.tlsf_heap.proofs.lemmas.blocks.Lawful.{opened_lawful}
use Rattle.tlsf_pool.proofs.lemmas.laws.Around.{words_kept, requests_alone}
use Rattle.tlsf_pool.proofs.lemmas.laws.FreeRoom.{finds_room, sure_rises, wants, less}
use Rattle.tlsf_pool.proofs.lemmas.laws.Held.{one, counted, held_is}
use Rattle.tlsf_pool.proofs.lemmas.laws.Inventories.{Agrees, agrees_call, new_agrees, sum_of, sum_one}
use Rattle.tlsf_pool.proofs.lemmas.laws.Loads.{load}
use Rattle.tlsf_pool.proofs.lemmas.laws.ModestCalls.{suffices}
use Rattle.tlsf_pool.proofs.lemmas.laws.Snug.{snug_kept}
use Rattle.tlsf_pool.proofs.lemmas.laws.Tables.{spend, HasKind, has_kind, counted_in, most_of, all_used, of_all}

pub live_spent : (bs : List Block) → AllByRecursion IsSnug bs → words_in (live_among bs) ≤ load spend bs
live_spent [] all = omega arith
live_spent (Live m s xs ∷ bs) all = let e = live_spent bs all.1 in let f = all.0 in omega arith
live_spent (Free m s ∷ bs) all = live_spent bs all.1

-- the lengths of the live blocks have their sums
abbrev pub AreTotals : List Block → List ℕ → Type 0
AreTotals bs lens = (f : ℕ → ℕ) → load f bs ≡ sum_of f lens

pub live_lengths : (bs : List Block) (lens : List ℕ) → AreTotals bs lens → length (live_among bs) ≡ length lens
live_lengths bs lens totals = counted bs ∙ (totals one ∙ sum_one lens)

-- a request finds room that fits the table with the blocks that are held
pub holes_room : (sli : ℕ) (level : IsLevel sli) (h : HeapState) (kinds : List Kind) (lens : List ℕ) (n : ℕ) → IsLawful h → AllByRecursion IsSnug h.blocks → AllByRecursion (HasClass sli) kinds
    → AreTotals h.blocks lens → AreOfKinds kinds (n ∷ lens) → resized_words sli kinds ≤ h.words → (allocated sli h n).answer ≢ Err NoFit
holes_room sli level h kinds lens n lawful snug classes totals fit large e =
    let has : HasKind kinds n lens = has_kind kinds n lens fit in
    let region : want has.kind.len ≤ most_words sli = of_all (HasClass sli) (used kinds) has.kind has.of (all_used (HasClass sli) kinds classes) in
    let wanted : want n ≤ want has.kind.len = wants n has.kind.len has.short in
    let rises : sure sli (want n) ≤ sure sli (want has.kind.len) = sure_rises sli level (want n) (want has.kind.len) wanted region in
    let lost : (live_count h + 1) * (sure sli (want n) - 1) ≤ count_in kinds * (sure sli (want has.kind.len) - 1) =
    mul-le-mul (bounded _ _ _ (live_lengths h.blocks lens totals) (counted_in kinds (n ∷ lens) fit)) (less _ _ rises) in
    let least : words_with sli kinds has.kind ≤ h.words = le_trans (most_of (words_with sli kinds) (used kinds) 4 has.kind has.of) large in
    finds_room sli level h n lawful (le_trans wanted region) (enough (words_in (live_among h.blocks)) (free_words h) h.words (sum_of spend lens) (spend has.kind.len) (table_words kinds) _ _
    (words_apart h.blocks ∙ lawful.whole) (le_trans (live_spent h.blocks snug) (same _ _ (totals spend))) has.left least lost)
    ((no_fit sli h n).0 e)
  where
    -- what is left for free blocks is more than those too small for the request may have
    enough : (live free words spent kind table lost least : ℕ) → live + free ≡ words → live ≤ spent → spent + kind ≤ table → table - kind + least + 1 ≤ words → lost ≤ least → lost < free
    enough live free words spent kind table lost least a b c d e = omega (arith, a, b, c, d, e)

    bounded : (a b c : ℕ) → a ≡ b → suc b ≤ c → a + 1 ≤ c
    bounded a b c f g = omega (arith, f, g)

    same : (a b : ℕ) → a ≡ b → a ≤ b
    same a b f = omega (arith, f)

-- where all want four words, it is for at most 8 bytes, by a program that holds fewer blocks than the table has
pub is_short : (kinds : List Kind) (bs : List Block) (lens : List ℕ) (n : ℕ) → are_fours kinds ≡ true → AreTotals bs lens → AreOfKinds kinds (n ∷ lens) → (n ≤ 8) × (length (live_among bs) < count_in kinds)
is_short kinds bs lens n fours totals fit =
    let has : HasKind kinds n lens = has_kind kinds n lens fit in
    let short : has.kind.len ≤ 8 = of_all (λ kind. kind.len ≤ 8) (used kinds) has.kind has.of (all_short (used kinds) fours) in
    (le_trans has.short short, omega (arith, live_lengths bs lens totals, counted_in kinds (n ∷ lens) fit))
  where
    all_short : (kinds : List Kind) → list_all (λ kind. nat_le kind.len 8) kinds ≡ true → AllByRecursion (λ kind. kind.len ≤ 8) kinds
    all_short [] all = tt
    all_short (kind ∷ kinds) all = (leb-true kind.len 8 (and_left _ _ all), all_short kinds (and_right _ _ all))

-- ---- where some request wants more than four words

record InTable (words : ℕ) (h : HeapState) (l : Inventory) : Type 0 where
  lawful : IsLawful h
  words_are : h.words ≡ words
  snug : AllByRecursion IsSnug h.blocks
  agrees : Agrees h l

module _ (sli : ℕ) (level : IsLevel sli) (words : ℕ) (kinds : List Kind) (classes : AllByRecursion (HasClass sli) kinds) (large : resized_words sli kinds ≤ words) where
  kept : (h : HeapState) (l : Inventory) (call : Call) → InTable words h l → InTable words (answered sli h call).1 (inventory_after l call (answered sli h call).0)
  kept h l call table = record {
    lawful = lawful_run sli level h (call ∷ []) table.lawful;
    words_are = words_kept sli h call ∙ table.words_are;
    snug = snug_kept sli h call table.snug;
    agrees = agrees_call sli h call l table.agrees table.lawful;
  }

  not_refused : (h : HeapState) (l : Inventory) (call : Call) → InTable words h l → IsPlanned kinds l call → HasRoomFor (answered sli h call).0
  not_refused h l call table planned = requests_alone (IsPlanned kinds l) sli h call planned (λ n asked.
      holes_room sli level h kinds (lengths l) n table.lawful table.snug classes table.agrees.totals asked (subst (λ (k : ℕ). resized_words sli kinds ≤ k) (sym table.words_are) large))

  none_refused : (h : HeapState) (l : Inventory) (calls : List Call) → InTable words h l → ArePlanned kinds l calls (run sli h calls).0 → AllByRecursion HasRoomFor (run sli h calls).0
  none_refused h l [] table planned = tt
  none_refused h l (call ∷ calls) table planned =
      (not_refused h l call table planned.0, none_refused (answered sli h call).1 (inventory_after l call (answered sli h call).0) calls (kept h l call table) planned.1)

-- to whatever blocks are resized
pub resized_suffice : (sli : ℕ) (level : IsLevel sli) → ResizedSuffice sli
resized_suffice sli level id words first kinds calls region classes large planned =
    none_refused sli level words kinds classes large (opened id words first) [] calls
    (record { lawful = opened_lawful id words first region.0; words_are = refl; snug = (tt, tt); agrees = new_agrees id words first }) planned

-- ---- where all want four words

module _ (sli : ℕ) (level : IsLevel sli) (kinds : List Kind) (fours : are_fours kinds ≡ true) where
  modest : (h : HeapState) (l : Inventory) (call : Call) → Agrees h l → IsPlanned kinds l call → StaysFour call → IsModest (count_in kinds) 8 (live_count h) call
  modest h l (Allocate n) agrees planned stays = is_short kinds h.blocks (lengths l) n fours agrees.totals planned
  modest h l (Release name) agrees planned stays = tt
  modest h l (Write name at bytes) agrees planned stays = tt
  modest h l (Resize name n) agrees planned stays = stays
  modest h l (Read name at n) agrees planned stays = tt

  all_modest : (h : HeapState) (l : Inventory) (calls : List Call) → Agrees h l → IsLawful h → ArePlanned kinds l calls (run sli h calls).0 → AllByRecursion StaysFour calls
      → AreModest (count_in kinds) 8 (live_count h) calls (run sli h calls).0
  all_modest h l [] agrees lawful planned stay = tt
  all_modest h l (call ∷ calls) agrees lawful planned stay =
      let next : HeapState = (answered sli h call).1 in
      let rest = all_modest next (inventory_after l call (answered sli h call).0) calls (agrees_call sli h call l agrees lawful) (lawful_run sli level h (call ∷ []) lawful) planned.1 stay.1 in
      (modest h l call agrees planned.0 stay.0, subst (λ (held : ℕ). AreModest (count_in kinds) 8 held calls (run sli next calls).0) (held_is sli h call) rest)

pub kinds_suffice : (sli : ℕ) (level : IsLevel sli) → KindsSuffice sli
kinds_suffice sli level id words first kinds calls region classes large stay planned = at (are_fours kinds) refl large
  where
    start : HeapState
    start = opened id words first

    at : (c : Bool) → are_fours kinds ≡ c → cond c (max 4 (count_in kinds * 4)) (resized_words sli kinds) ≤ words → AllByRecursion HasRoomFor (run sli start calls).0
    at true is enough =
        suffices sli level id words first (count_in kinds) 8 calls region (omega (arith, region)) enough
        (all_modest sli level kinds is start [] calls (new_agrees id words first) (opened_lawful id words first region.0) planned (stay is))
    at false is enough = resized_suffice sli level id words first kinds calls region classes enough planned

-- ---- one kind

most_but_one : (m w : ℕ) → m * w - w ≡ (m - 1) * w
most_but_one zero w = omega arith
most_but_one (suc m) w = let less : suc m - 1 ≡ m = omega arith in rw less (omega arith)

pub one_kind : (sli : ℕ) → OneKindHasMixedWords sli
one_kind sli kind = at (nat_lt 0 kind.most) (nat_le kind.len 8) refl refl
  where
    lost : ℕ
    lost = sure sli (want kind.len) - 1

    asks : List Kind → ℕ
    asks ks = cond (list_all (λ k. nat_le k.len 8) ks) (max 4 ((kind.most + 0) * 4)) (fold max 4 (map (words_with sli (kind ∷ [])) ks))

    words : Bool → ℕ
    words short = max 4 (cond short (kind.most * 4) ((kind.most - 1) * (want kind.len + 3) + kind.most * lost + 1))

    none : (m w t : ℕ) (short : Bool) → m ≡ 0 → max 4 ((m + 0) * 4) ≡ max 4 (cond short (m * 4) ((m - 1) * (w + 3) + m * t + 1))
    none m w t true is = rw is (omega arith)
    none m w t false is = rw is (omega arith)

    plain : (p q w t u : ℕ) → p - w ≡ q → t ≡ u → max 4 ((p + 0) - w + t + 1) ≡ max 4 (q + u + 1)
    plain p q w t u e f = omega (arith, e, f)

    at : (some short : Bool) → nat_lt 0 kind.most ≡ some → nat_le kind.len 8 ≡ short → asks (cond some (kind ∷ []) []) ≡ words short
    at true true is len = rw len (omega arith)
    at true false is len = rw len (plain (kind.most * spend kind.len) ((kind.most - 1) * spend kind.len) (spend kind.len) ((kind.most + 0) * lost) (kind.most * lost)
        (most_but_one kind.most (spend kind.len)) (ap (λ (n : ℕ). n * lost) (add-zero kind.most)))
    at false short is len = none kind.most (want kind.len) lost short (grind (arith, nat_tests))
