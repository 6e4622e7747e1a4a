-- Request by request: what is live is held by the programs or under way at some moment, so each request of a race finds room.
use Rattle.tlsf_yard_laws.proofs.Common.{◌==◌, ◌≡◌, ◌≢◌, ℕ, zero, suc, ◌+◌, ◌-◌, ◌*◌, ◌<◌, ◌≤◌, ◌⊎◌, Bool, true, false, cond, eqb, List, [], ◌∷◌, ◌++◌, length, map, Option, Some, None, refl, sym, ap, ◌∙◌, subst, inl, inr, arith, length-append, append_assoc, append-nil, eq-eqb, cons_option, filter_map, cases_eq, false≢true, length-map, filter-append, IsLevel, HeapState, IsLawful, Name, Post, AreModest, IsModest, is_same, Inventory, inventory_after, inventory_after_all, World, heap_in, RunsTo, answer_told, answers_on, call_on_own, calls_on, entries_of, handed_on, post_of_release, post_of_take, record_of, Call, Entry, Carrier, IsRaceOver, OverLanes, OverQueues, most_under_way, without_post, lawful_run, opened_lawful, held_after, held_after_all, same_is, same_self, Agrees, agrees_run, live_agrees, lookup, new_agrees, runs_then, told_other, told_own, told_then, length_told, HasPast}
use mathlib.Core.List.{IsPrefix}
use Rattle.tlsf_heap.specs.Calls as heap
use Rattle.tlsf_yard_laws.specs.Moments.{IsShort, OrdersHaveMoments, RaceSharedMixedSizesServe, all_under_way, unreleased, AreSparingInRace}
use Rattle.tlsf_yard_laws.proofs.Few.{IsAmong, among_left, among_right, few, names_of, posted, still_among, one_more}
use Rattle.tlsf_yard_laws.proofs.RaceRecords.{heap_between}
use Rattle.tlsf_yard_laws.proofs.Shares.{allocate_asks, resize_asks}
use Rattle.tlsf_yard_laws.proofs.Told.{noted_same, past_holds, race_serves}

-- ---- what is live is held, or its name is under way

found_among : (name : Name) (n : ℕ) (l : Inventory) → lookup name l ≡ Some n → IsAmong name (names_of l)
found_among name n [] e = let none : ◌≡◌ {A = Option ℕ} None (Some n) = e in absurd cc
found_among name n (x ∷ l) e = at (found_among name n l) (is_same x.0 name) refl e
  where
    at : (lookup name l ≡ Some n → IsAmong name (names_of l)) → (c : Bool) → is_same x.0 name ≡ c → cond c (Some x.1) (lookup name l) ≡ Some n → IsAmong name (names_of (x ∷ l))
    at more true same e = inl (same_is x.0 name same)
    at more false same e = inr (more e)

held_or_posted : (name : Name) (l : Inventory) (ps : List Post) → IsAmong name (names_of l) → IsAmong name (names_of (unreleased l ps)) ⊎ IsAmong name (posted ps)
held_or_posted name l [] a = inl a
held_or_posted name l (p ∷ ps) a = at (held_or_posted name (without_post l (Some p)) ps) (is_same p.name name) refl
  where
    at : (IsAmong name (names_of (without_post l (Some p))) → IsAmong name (names_of (unreleased l (p ∷ ps))) ⊎ IsAmong name (posted ps))
        → (c : Bool) → is_same p.name name ≡ c → IsAmong name (names_of (unreleased l (p ∷ ps))) ⊎ IsAmong name (posted (p ∷ ps))
    at more true same = inr (inl (same_is p.name name same))
    at more false same =
        let ne : p.name ≡ name → ⊥ = λ q. false≢true (sym same ∙ subst (λ (x : Name). is_same p.name x ≡ true) q (same_self p.name)) in
        elim (more (still_among p.name name l ne a)) [ inl here ↦ inl here | inr away ↦ inr (inr away) ]

-- an inventory that agrees with a heap has no more entries than are held and under way
unreleased_few : (h : HeapState) (l : Inventory) (ps : List Post) → Agrees h l → length l ≤ length (unreleased l ps) + length ps
unreleased_few h l ps agrees =
    let u = unreleased l ps in
    let count : length l ≤ length (names_of u ++ posted ps) = few l (names_of u ++ posted ps) agrees.apart (λ name n found. elim (held_or_posted name l ps (found_among name n l found)) [
      | inl here ↦ among_left name (names_of u) (posted ps) here
      | inr away ↦ among_right name (names_of u) (posted ps) away
    ]) in
    omega (arith, count, length-append (names_of u) (posted ps), length-map u (λ entry. entry.0), length-map ps (λ post. post.name))

-- ---- no more is under way than the lanes hold

lane_part : (c : Bool) (capacity : ℕ) (ps : List Post) → (c ≡ false → length ps ≤ capacity) → length (cond {A = List Post} c [] ps) ≤ capacity
lane_part true capacity ps le = omega arith
lane_part false capacity ps le = le refl

module _ (j capacity : ℕ) (lanes : ℕ → List Post) where
  -- from all workers below k, and from all but j itself
  way_below : (k : ℕ) → ((i : ℕ) → i < k → i ≢ j → length (lanes i) ≤ capacity) → length (all_under_way j lanes k) ≤ k * capacity
  way_below zero short = omega arith
  way_below (suc k) short =
      let rest = way_below k (λ i lt ne. short i (omega (arith, lt)) ne) in
      let both = length-append (all_under_way j lanes k) (cond (eqb k j) [] (lanes k)) in
      let one = lane_part (eqb k j) capacity (lanes k) (λ e. short k (omega arith) (λ q. false≢true (sym e ∙ eq-eqb k j q))) in
      omega (arith, both, one_more k capacity _ _ rest one)

  way_few : (k : ℕ) → j < k + 1 → ((i : ℕ) → i < k + 1 → i ≢ j → length (lanes i) ≤ capacity) → length (all_under_way j lanes (suc k)) ≤ k * capacity
  way_few zero lt short =
      let same : eqb 0 j ≡ true = eq-eqb 0 j (omega arith) in
      let none : length (all_under_way j lanes (suc zero)) ≡ 0 = ap (λ (c : Bool). length (cond {A = List Post} c [] (lanes 0))) same in
      omega arith
  way_few (suc k) lt short =
      let both = length-append (all_under_way j lanes (suc k)) (cond (eqb (suc k) j) [] (lanes (suc k))) in
      elim (cases_eq (suc k) j) [
        | inl same ↦
            let rest = way_below (suc k) (λ i lt ne. short i (omega (arith, lt)) ne) in
            let none : length (cond {A = List Post} (eqb (suc k) j) [] (lanes (suc k))) ≡ 0 = ap (λ (c : Bool). length (cond {A = List Post} c [] (lanes (suc k)))) (eq-eqb (suc k) j same) in
            omega arith
        | inr differ ↦
            let rest = way_few k (omega arith) (λ i lt ne. short i (omega (arith, lt)) ne) in
            let one = lane_part (eqb (suc k) j) capacity (lanes (suc k)) (λ e. short (suc k) (omega arith) differ) in
            omega (arith, both, one_more k capacity _ _ rest one)
      ]

-- ---- the inventory of a heap, as it is told

all_noted : (l : Inventory) (calls : List heap.Call) (answers : List heap.Answer) → inventory_after_all l calls (map handed_on answers) ≡ inventory_after_all l calls answers
all_noted l [] answers = refl
all_noted l (call ∷ calls) [] = refl
all_noted l (call ∷ calls) (answer ∷ answers) = ap (λ (l : Inventory). inventory_after_all l calls (map handed_on answers)) (noted_same l call answer) ∙ all_noted (inventory_after l call answer) calls answers

past_agrees : {sli : ℕ} (level : IsLevel sli) (j words first : ℕ) (calls : List heap.Call) (answers : List heap.Answer) (g : HeapState) → RunsTo sli (heap.opened j words first) calls answers g → 4 ≤ words
    → Agrees g (inventory_after_all [] calls answers)
past_agrees {sli} level j words first calls answers g runs four =
    let own : List heap.Answer = (heap.run sli (heap.opened j words first) calls).0 in
    let noted : inventory_after_all [] calls own ≡ inventory_after_all [] calls answers = sym (all_noted [] calls own) ∙ ap (inventory_after_all [] calls) runs.told in
    subst (λ (h : HeapState). Agrees h (inventory_after_all [] calls answers)) runs.left
    (subst (Agrees (heap.run sli (heap.opened j words first) calls).1) noted (agrees_run sli level (heap.opened j words first) calls [] (new_agrees j words first) (opened_lawful j words first four)))

-- ---- calls in turn

held_more : (held : ℕ) (xs ys : List heap.Call) (zs bs : List heap.Answer) → length xs ≡ length zs → held_after_all held (xs ++ ys) (zs ++ bs) ≡ held_after_all (held_after_all held xs zs) ys bs
held_more held [] ys [] bs e = refl
held_more held [] ys (a ∷ zs) bs e = absurd (omega arith)
held_more held (x ∷ xs) ys [] bs e = absurd (omega arith)
held_more held (x ∷ xs) ys (a ∷ zs) bs e = held_more (held_after held x a) xs ys zs bs (omega arith)

modest_more : (most len held : ℕ) (xs ys : List heap.Call) (zs bs : List heap.Answer) → length xs ≡ length zs → AreModest most len held xs zs → AreModest most len (held_after_all held xs zs) ys bs
    → AreModest most len held (xs ++ ys) (zs ++ bs)
modest_more most len held [] ys [] bs e m n = n
modest_more most len held [] ys (a ∷ zs) bs e m n = absurd (omega arith)
modest_more most len held (x ∷ xs) ys [] bs e m n = absurd (omega arith)
modest_more most len held (x ∷ xs) ys (a ∷ zs) bs e m n = (m.0, modest_more most len (held_after held x a) xs ys zs bs (omega arith) m.1 n)

-- ---- a race

module _ {sli : ℕ} (carrier : Carrier) (level : IsLevel sli) (w v : World sli) (scripts : List (List Call)) (made : ℕ → List (Option Name)) (records : List (List Entry)) (race : IsRaceOver carrier w scripts made records v) (j words first most len : ℕ) (calls : List heap.Call) (answers : List heap.Answer)
    (past : HasPast w j words first calls answers) (four : 4 ≤ words) (sparing : AreSparingInRace carrier w made records j most len calls answers) where
  abbrev all_calls : List Entry → List heap.Call
  all_calls es = calls ++ calls_on j (made j) es

  abbrev all_answers : List Entry → List heap.Answer
  all_answers es = answers ++ answers_on j es

  lawful : IsLawful (heap_in w j)
  lawful = subst IsLawful past.since.left (lawful_run sli level (heap.opened j words first) calls (opened_lawful j words first four))

  history : (before later : List Entry) → record_of records j ≡ before ++ later → (g : HeapState) × RunsTo sli (heap.opened j words first) (all_calls before) (all_answers before) g
  history before later whole =
      let t = heap_between carrier w v scripts made records race before later j level lawful past.within whole in
      (t.between, runs_then (heap.opened j words first) (heap_in w j) t.between calls (calls_on j (made j) before) answers (answers_on j before) past.since t.first)

  -- a request is made where less is held than the programs hold and the lanes have
  modest_call : (before later : List Entry) (e : Entry) (c : heap.Call) → record_of records j ≡ before ++ e ∷ later → call_on_own (made j) e.worker e.call e.reply ≡ Some c
      → IsModest (most + most_under_way carrier w) len (held_after_all 0 (all_calls before) (all_answers before)) c
  modest_call before later e (heap.Allocate n) whole is =
      let asked = (sparing before e (later, whole)).0 n (allocate_asks (made j) e.worker e.call e.reply n is) in
      let s = asked.1 in
      let now = history before (e ∷ later) whole in
      let live = inventory_after_all [] (all_calls before) (all_answers before) in
      let agrees : Agrees now.0 live = past_agrees level j words first (all_calls before) (all_answers before) now.0 now.1 four in
      let held = sym (past_holds j words first (all_calls before) (all_answers before) now.0 now.1 four) ∙ live_agrees now.0 live agrees in
      let ps = all_under_way j s.moment.under_way (length w.heaps) in
      let count : length live ≤ length (unreleased live ps) + length ps = unreleased_few now.0 live ps agrees in
      let away : length ps ≤ most_under_way carrier w = under_way carrier s.moment.under_way s.moment.short in
      (asked.0, omega (arith, held, count, away, s.few))
    where
      under_way : (carrier : Carrier) (lanes : ℕ → List Post) → IsShort carrier w j lanes → length (all_under_way j lanes (length w.heaps)) ≤ most_under_way carrier w
      under_way OverQueues lanes short = short
      under_way OverLanes lanes short = at (length w.heaps) past.within short
        where
          at : (n : ℕ) → j < n → ((i : ℕ) → i < n → i ≢ j → length (lanes i) ≤ w.capacity) → length (all_under_way j lanes n) ≤ (n - 1) * w.capacity
          at zero lt short = absurd (omega arith)
          at (suc k) lt short =
              let less : k ≡ suc k - 1 = omega arith in
              subst (λ (m : ℕ). length (all_under_way j lanes (suc k)) ≤ m * w.capacity) less (way_few j w.capacity lanes k (omega arith) (λ i l ne. short i (omega (arith, l)) ne))
  modest_call before later e (heap.Release name) whole is = tt
  modest_call before later e (heap.Write name at bytes) whole is = tt
  modest_call before later e (heap.Resize name n) whole is =
      let asks = resize_asks (made j) e.worker e.call e.reply name n is in (sparing before e (later, whole)).1 asks.0 n asks.1
  modest_call before later e (heap.Read name at n) whole is = tt

  abbrev Modest : List Entry → List Entry → Type 0
  Modest before later = AreModest (most + most_under_way carrier w) len (held_after_all 0 (all_calls before) (all_answers before)) (calls_on j (made j) later) (answers_on j later)

  -- one entry more
  next_modest : (before later : List Entry) (e : Entry) → record_of records j ≡ before ++ e ∷ later → Modest (before ++ e ∷ []) later → Modest before (e ∷ later)
  next_modest before later e whole rest =
      let now = history before (e ∷ later) whole in
      let then = history (before ++ e ∷ []) later (whole ∙ sym (append_assoc before (e ∷ []) later)) in
      let xs = calls_on j (made j) (e ∷ []) in
      let zs = answers_on j (e ∷ []) in
      let calls_are : all_calls (before ++ e ∷ []) ≡ all_calls before ++ xs =
      ap (λ l. calls ++ l) (told_then (λ e. call_on_own (made j) e.worker e.call e.reply) j before (e ∷ [])) ∙ sym (append_assoc calls (calls_on j (made j) before) xs) in
      let answers_are : all_answers (before ++ e ∷ []) ≡ all_answers before ++ zs =
      ap (λ l. answers ++ l) (told_then (λ e. answer_told e.call e.reply) j before (e ∷ [])) ∙ sym (append_assoc answers (answers_on j before) zs) in
      let even = length_told (heap.opened j words first) now.0 (all_calls before) (all_answers before) now.1 in
      let even_then = length_told (heap.opened j words first) then.0 (all_calls (before ++ e ∷ [])) (all_answers (before ++ e ∷ [])) then.1 in
      let one : length xs ≡ length zs =
      omega (arith, even, even_then, ap length calls_are, ap length answers_are, length-append (all_calls before) xs, length-append (all_answers before) zs) in
      let held : held_after_all 0 (all_calls (before ++ e ∷ [])) (all_answers (before ++ e ∷ [])) ≡ held_after_all (held_after_all 0 (all_calls before) (all_answers before)) xs zs =
      ap (λ cs. held_after_all 0 cs (all_answers (before ++ e ∷ []))) calls_are ∙ ap (λ l. held_after_all 0 (all_calls before ++ xs) l) answers_are ∙ held_more 0 (all_calls before) xs (all_answers before) zs even in
      let on = subst (λ (k : ℕ). AreModest (most + most_under_way carrier w) len k (calls_on j (made j) later) (answers_on j later)) held rest in
      subst (λ cs. AreModest (most + most_under_way carrier w) len (held_after_all 0 (all_calls before) (all_answers before)) cs (answers_on j (e ∷ later)))
      (sym (told_then (λ e. call_on_own (made j) e.worker e.call e.reply) j (e ∷ []) later))
      (subst (λ l. AreModest (most + most_under_way carrier w) len (held_after_all 0 (all_calls before) (all_answers before)) (xs ++ calls_on j (made j) later) l)
      (sym (told_then (λ e. answer_told e.call e.reply) j (e ∷ []) later))
      (modest_more (most + most_under_way carrier w) len (held_after_all 0 (all_calls before) (all_answers before)) xs (calls_on j (made j) later) zs (answers_on j later) one (first_modest (cases_eq e.worker j)) on))
    where
      held_now : ℕ
      held_now = held_after_all 0 (all_calls before) (all_answers before)

      by_call : (o : Option heap.Call) → call_on_own (made j) e.worker e.call e.reply ≡ o → (zs : List heap.Answer) → AreModest (most + most_under_way carrier w) len held_now (cons_option o []) zs
      by_call None is zs = tt
      by_call (Some c) is [] = tt
      by_call (Some c) is (a ∷ zs) = (modest_call before later e c whole is, tt)

      first_modest : (e.worker ≡ j) ⊎ (e.worker ≢ j) → AreModest (most + most_under_way carrier w) len held_now (calls_on j (made j) (e ∷ [])) (answers_on j (e ∷ []))
      first_modest (inl own) =
          subst (λ cs. AreModest (most + most_under_way carrier w) len held_now cs (answers_on j (e ∷ []))) (sym (told_own (λ e. call_on_own (made j) e.worker e.call e.reply) j e own))
          (by_call (call_on_own (made j) e.worker e.call e.reply) refl (answers_on j (e ∷ [])))
      first_modest (inr other) =
          subst (λ cs. AreModest (most + most_under_way carrier w) len held_now cs (answers_on j (e ∷ []))) (sym (told_other (λ e. call_on_own (made j) e.worker e.call e.reply) j e other)) tt

  record_modest : (before later : List Entry) → record_of records j ≡ before ++ later → Modest before later
  record_modest before [] whole = tt
  record_modest before (e ∷ later) whole = next_modest before later e whole (record_modest (before ++ e ∷ []) later (whole ∙ sym (append_assoc before (e ∷ []) later)))

  pub all_modest : AreModest (most + most_under_way carrier w) len 0 calls answers → AreModest (most + most_under_way carrier w) len 0 (all_calls (record_of records j)) (all_answers (record_of records j))
  all_modest within =
      let before : held_after_all 0 (all_calls []) (all_answers []) ≡ held_after_all 0 calls answers = rw (append-nil calls, append-nil answers) refl in
      modest_more (most + most_under_way carrier w) len 0 calls (calls_on j (made j) (record_of records j)) answers (answers_on j (record_of records j))
      (length_told (heap.opened j words first) (heap_in w j) calls answers past.since) within
      (subst (λ (k : ℕ). AreModest (most + most_under_way carrier w) len k (calls_on j (made j) (record_of records j)) (answers_on j (record_of records j))) before (record_modest [] (record_of records j) refl))

pub race_shares : (sli : ℕ) (carrier : Carrier) → IsLevel sli → RaceSharedMixedSizesServe sli carrier
race_shares sli carrier level w v scripts made records race j words first most len calls answers past region class enough within sparing fresh =
    race_serves sli carrier level w v scripts made records race j words first (most + most_under_way carrier w) len calls answers past region class enough
    (all_modest carrier level w v scripts made records race j words first most len calls answers past region.0 sparing within) fresh

-- ---- an order of all entries

once_more : (i : ℕ) (e : Entry) (c : Bool) (es : List Entry) → (e.worker == i) ≡ c → entries_of i es ≡ es → entries_of i (cond c (e ∷ es) es) ≡ cond c (e ∷ es) es
once_more i e true es is same = ap (λ (c : Bool). cond c (e ∷ entries_of i es) (entries_of i es)) is ∙ ap (λ (l : List Entry). e ∷ l) same
once_more i e false es is same = same

entries_twice : (i : ℕ) (es : List Entry) → entries_of i (entries_of i es) ≡ entries_of i es
entries_twice i [] = refl
entries_twice i (e ∷ es) = once_more i e (e.worker == i) (entries_of i es) refl (entries_twice i es)

pub order_moments : (sli : ℕ) (carrier : Carrier) → OrdersHaveMoments sli carrier
order_moments sli carrier w made records order is before prefix j j_in = (
  record {
    told = λ i. entries_of i before;
    under_way = λ i. is.waits before i j;
    part = λ i i_in ne. subst (IsPrefix (entries_of i before)) (is.each i i_in) (part i);
    posts = λ i i_in ne.
        ap (λ (l : List Entry). w.waiting i j ++ filter_map (λ e. post_of_release j (made i) e.worker e.call e.reply) l) (entries_twice i before)
        ∙ (is.posts before i j prefix i_in j_in ne
        ∙ ap (λ (l : List Entry). filter_map (λ e. post_of_take i e.call e.reply) l ++ is.waits before i j) (sym (entries_twice j before)));
    short = is.short before j prefix j_in;
  },
  (λ i. refl),
  (λ i. refl),
)
  where
    part : (i : ℕ) → IsPrefix (entries_of i before) (entries_of i order)
    part i = (entries_of i prefix.0, sym (filter-append (λ e. e.worker == i) before prefix.0) ∙ ap (entries_of i) prefix.1)
