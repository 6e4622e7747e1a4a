-- The words of a table of kinds are enough.
use Rattle.tlsf_held.proofs.Common.{◌≡◌, ◌≢◌, ◌==◌, ℕ, zero, suc, ◌+◌, ◌<◌, ◌≤◌, Bool, true, false, cond, nat_le, nat_lt, List, [], ◌∷◌, length, map, max, Ok, inl, inr, refl, sym, subst, arith, le_trans, filter, range_with_len, AllByRecursion, cases_eq, cases_lt, le-leb, lt-leb, le-ltb, lt-ltb, ltb-true, nat_tests, get_or-map-range_with_len, length-map-range_with_len, class_of, last_class, most_words, IsLevel, HeapState, want, Call, Answer, Got, opened, run, Inventory, inventory_after, lengths, AreOfKinds, ArePlanned, IsPlanned, HasRoomFor, answers_on, calls_on, handed_on, heap_in, no_heap, events_of, level_in, run_of, yard_of, kinds_of, AreRows, IsOfRow, KeepWithin, HeldKindsSuffice, class_number, row_count, row_in, row_of, used, IsWithin, Row}
use Rattle.std.proofs.Math.Pow.{shr_mono}
use Rattle.tlsf_class.proofs.ClassOfSize.{class_of-bounds, class_of-rises}
use Rattle.tlsf_heap.specs.Calls.{Allocate}
use Rattle.tlsf_pool.specs.declared.kind.Kind.{Kind}
use Rattle.tlsf_pool.proofs.lemmas.laws.PlannedCalls.{kinds_suffice}
use Rattle.tlsf_crew.proofs.lemmas.histories.AllEntries.{replies_tell}
use Rattle.tlsf_yard_laws.proofs.Told.{noted_same}
use Rattle.tlsf_held.proofs.LeastRows.{cons_within, fewer_within, same_within, within_trans}
use Rattle.tlsf_held.proofs.Measured.{is_level}

-- ---- longer blocks are of no lower row

number_in : (sli len : ℕ) → want len ≤ most_words sli → class_number sli len ≡ class_of sli (want len)
unfolding class_number
number_in sli len inside = rw (le-leb (want len) (most_words sli) inside) refl

number_above : (sli len : ℕ) → most_words sli < want len → class_number sli len ≡ last_class sli + 1
unfolding class_number
number_above sli len above = rw (lt-leb (want len) (most_words sli) above) refl

module _ (sli : ℕ) (level : IsLevel sli) where
  number_most : (len : ℕ) → class_number sli len ≤ last_class sli + 1
  number_most len = elim (cases_lt (most_words sli) (want len)) [
    | inl above ↦ omega (arith, number_above sli len above)
    | inr inside ↦ omega (arith, number_in sli len inside, (class_of-bounds sli level (want len) (omega arith) inside).most)
  ]

  number_rises : (a b : ℕ) → a ≤ b → class_number sli a ≤ class_number sli b
  number_rises a b upto = elim (cases_lt (most_words sli) (want b)) [
    | inl above ↦ omega (arith, number_above sli b above, number_most a)
    | inr inside ↦
        let fewer : want a ≤ want b = omega (arith, upto) in
        omega (arith, number_in sli b inside, number_in sli a (le_trans fewer inside), class_of-rises sli level (want a) (want b) fewer)
  ]

  pub row_rises : (grain a b : ℕ) → a ≤ b → row_of sli grain a ≤ row_of sli grain b
  row_rises grain a b upto = shr_mono grain (number_rises a b upto)

  pub row_below : (grain len : ℕ) → row_of sli grain len < row_count sli grain
  row_below grain len = omega (arith, shr_mono grain (number_most len))

-- ---- lengths by rows

module _ (row : ℕ → ℕ) (rises : (a b : ℕ) → a ≤ b → row a ≤ row b) where
  -- what lengths come to is no shorter than each of the row
  upto : (at most : ℕ) (lens : List ℕ) → (row_in row at lens).longest ≤ most → AllByRecursion (λ len. row len ≡ at → len ≤ most) lens
  upto at most [] within = tt
  upto at most (len ∷ lens) within = elim (cases_eq (row len) at) [
    | inl is ↦
        let b : (row len == at) ≡ true = grind (arith, nat_tests) in
        let both : max (row_in row at lens).longest len ≤ most = rw b at within in
        ((λ same. omega (arith, both)), upto at most lens (omega (arith, both)))
    | inr ne ↦
        let b : (row len == at) ≡ false = grind (arith, nat_tests) in
        ((λ same. absurd (ne same)), upto at most lens (rw b at within))
  ]

  -- and where it counts none, none is of the row
  none_of : (at : ℕ) (lens : List ℕ) → (row_in row at lens).most ≤ 0 → AllByRecursion (λ len. row len ≢ at) lens
  none_of at [] none = tt
  none_of at (len ∷ lens) none = elim (cases_eq (row len) at) [
    | inl is ↦
        let b : (row len == at) ≡ true = grind (arith, nat_tests) in
        let some : (row_in row at lens).most + 1 ≤ 0 = rw b at none in
        absurd (omega (arith, some))
    | inr ne ↦
        let b : (row len == at) ≡ false = grind (arith, nat_tests) in
        (ne, none_of at lens (rw b at none))
  ]

  -- these are of the rows from one on, up to another
  abbrev AreBetween : ℕ → ℕ → List ℕ → Type 0
  AreBetween at to lens = AllByRecursion (λ len. (at ≤ row len) × (row len < to)) lens

  -- those up to a length of the first row are of that row
  counted : (at to most : ℕ) (lens : List ℕ) → row most ≡ at → AreBetween at to lens → length (filter (λ n. nat_le n most) lens) ≤ (row_in row at lens).most
  counted at to most [] is between = omega arith
  counted at to most (len ∷ lens) is between = elim (cases_lt most len) [
    | inl above ↦
        let b : nat_le len most ≡ false = lt-leb len most above in
        rw b (le_trans (counted at to most lens is between.1) (cons_within row at len lens).0)
    | inr below ↦
        let same : row len ≡ at = omega (arith, rises len most below, is, between.0) in
        let a : nat_le len most ≡ true = le-leb len most below in
        let b : (row len == at) ≡ true = grind (arith, nat_tests) in
        rw (a, b) (omega (arith, counted at to most lens is between.1))
  ]

  -- and those above its longest are of the rows after
  above_row : (at to most : ℕ) (lens : List ℕ) → AreBetween at to lens → AllByRecursion (λ len. row len ≡ at → len ≤ most) lens → AreBetween (at + 1) to (filter (λ n. nat_lt most n) lens)
  above_row at to most [] between short = tt
  above_row at to most (len ∷ lens) between short = elim (cases_lt most len) [
    | inl above ↦
        let b : nat_lt most len ≡ true = lt-ltb most len above in
        rw b ((not_first above, between.0.1), above_row at to most lens between.1 short.1)
    | inr below ↦
        let b : nat_lt most len ≡ false = le-ltb most len below in
        rw b (above_row at to most lens between.1 short.1)
  ]
    where
      not_first : most < len → at + 1 ≤ row len
      not_first above = elim (cases_eq (row len) at) [
        | inl is ↦ absurd (omega (arith, above, short.0 is))
        | inr ne ↦ omega (arith, ne, between.0.0)
      ]

  -- where none is of the first row, all are of those after
  behind_row : (at to : ℕ) (lens : List ℕ) → AreBetween at to lens → AllByRecursion (λ len. row len ≢ at) lens → AreBetween (at + 1) to lens
  behind_row at to [] between none = tt
  behind_row at to (len ∷ lens) between none = let ne = none.0 in ((omega (arith, ne, between.0.0), between.0.1), behind_row at to lens between.1 none.1)

  -- ---- the kinds of the rows

  by_used : (b : Bool) (first : Row) (rest : List Row) (lens : List ℕ) → (b ≡ true → AreOfKinds (kinds_of (first ∷ rest)) lens) → (b ≡ false → AreOfKinds (kinds_of rest) lens)
      → AreOfKinds (kinds_of (cond b (first ∷ rest) rest)) lens
  by_used true first rest lens held empty = held refl
  by_used false first rest lens held empty = empty refl

  module _ (all : ℕ → Row) (to : ℕ) (own : (i : ℕ) → i < to → IsOfRow row i (all i)) where
    of_kinds : (at k : ℕ) (lens : List ℕ) → at + k ≡ to → ((i : ℕ) → i < to → IsWithin (row_in row i lens) (all i)) → AreBetween at to lens
        → AreOfKinds (kinds_of (used (map all (range_with_len at k)))) lens
    of_kinds at zero [] whole within between = refl
    of_kinds at zero (len ∷ lens) whole within between = absurd (omega (arith, whole, between.0))
    of_kinds at (suc k) lens whole within between =
        let here : at < to = omega (arith, whole) in
        let rest : at + 1 + k ≡ to = omega (arith, whole) in
        by_used (nat_lt 0 (all at).most) (all at) (used (map all (range_with_len (at + 1) k))) lens
        (λ some. let its : row (all at).longest ≡ at = own at here (ltb-true 0 (all at).most some) in (
          le_trans (counted at to (all at).longest lens its between) (within at here).0,
          of_kinds (at + 1) k (filter (λ n. nat_lt (all at).longest n) lens) rest
              (λ i inside. within_trans _ _ _ (fewer_within row i (λ n. nat_lt (all at).longest n) lens) (within i inside))
              (above_row at to (all at).longest lens between (upto at (all at).longest lens (within at here).1)),
        ))
        (λ none. of_kinds (at + 1) k lens rest within
        (behind_row at to lens between (none_of at lens (no_more (row_in row at lens).most (all at).most (within at here).0 none))))
      where
        no_more : (count most : ℕ) → count ≤ most → nat_lt 0 most ≡ false → count ≤ 0
        no_more count most few none = grind (arith, nat_tests)

    -- ---- the calls

    all_between : (lens : List ℕ) → ((len : ℕ) → row len < to) → AreBetween 0 to lens
    all_between [] below = tt
    all_between (len ∷ lens) below = ((omega arith, below len), all_between lens below)

    module _ (below : (len : ℕ) → row len < to) where
      one_planned : (inventory : Inventory) (call : Call) (answer : Answer) (calls : List Call) (answers : List Answer)
          → ((i : ℕ) → i < to → KeepWithin row i (all i) inventory (call ∷ calls) (answer ∷ answers)) → IsPlanned (kinds_of (used (map all (range_with_len 0 to)))) inventory call
      one_planned inventory (Allocate n) answer calls answers each = of_kinds 0 to (n ∷ lengths inventory) (omega arith) (λ i inside. (each i inside).0) (all_between (n ∷ lengths inventory) below)
      one_planned inventory call answer calls answers each = tt

      all_planned : (inventory : Inventory) (calls : List Call) (answers : List Answer) → ((i : ℕ) → i < to → KeepWithin row i (all i) inventory calls answers)
          → ArePlanned (kinds_of (used (map all (range_with_len 0 to)))) inventory calls answers
      all_planned inventory [] answers each = tt
      all_planned inventory (call ∷ calls) [] each = tt
      all_planned inventory (call ∷ calls) (answer ∷ answers) each =
          (one_planned inventory call answer calls answers each, all_planned (inventory_after inventory call answer) calls answers (λ i inside. (each i inside).1))

-- calls keep to the kinds of their rows
rows_planned : (sli : ℕ) → IsLevel sli → (grain : ℕ) (calls : List Call) (answers : List Answer) (rows : List Row) → AreRows sli grain calls answers rows → ArePlanned (kinds_of rows) [] calls answers
rows_planned sli level grain calls answers rows are =
    subst (λ (found : List Row). ArePlanned (kinds_of found) [] calls answers) (sym are.rows_are)
    (all_planned (row_of sli grain) (row_rises sli level grain) are.all (row_count sli grain) are.own (row_below sli level grain) [] calls answers
    (λ i inside. (are.least i inside (are.all i)).1 (same_within (are.all i))))

-- ---- answers as they are handed on

planned_own : (kinds : List Kind) (inventory : Inventory) (calls : List Call) (answers : List Answer) → ArePlanned kinds inventory calls (map handed_on answers) → ArePlanned kinds inventory calls answers
planned_own kinds inventory [] answers planned = tt
planned_own kinds inventory (call ∷ calls) [] planned = tt
planned_own kinds inventory (call ∷ calls) (answer ∷ answers) planned = (
  planned.0,
  planned_own kinds (inventory_after inventory call answer) calls answers
      (subst (λ (l : Inventory). ArePlanned kinds l calls (map handed_on answers)) (noted_same inventory call answer) planned.1),
)

room_same : (answer : Answer) → HasRoomFor answer → HasRoomFor (handed_on answer)
room_same (Got (Ok bytes)) room = λ e. cc
room_same answer room = room

all_room : (answers : List Answer) → AllByRecursion HasRoomFor answers → AllByRecursion HasRoomFor (map handed_on answers)
all_room [] all = tt
all_room (answer ∷ answers) all = (room_same answer all.0, all_room answers all.1)

-- ---- the words of a table

pub kinds_enough : HeldKindsSuffice
kinds_enough trace j rows region inside table classes words stay =
    let sli = level_in trace.header in
    let level = is_level trace.header.version in
    let heaps = λ (i : ℕ). opened i trace.header.words 0 in
    let count = length-map-range_with_len heaps 0 trace.header.workers in
    let r = run_of trace in
    let calls = calls_on j r.made r.entries in
    let runs = (replies_tell (yard_of {sli = sli} trace.header) (events_of trace)).history.heaps j (omega (arith, count, inside)) in
    let new : heap_in (yard_of {sli = sli} trace.header) j ≡ opened j trace.header.words 0 = get_or-map-range_with_len heaps 0 trace.header.workers j j no_heap inside (omega arith) in
    let told = subst (λ (h : HeapState). map handed_on (run sli h calls).0 ≡ answers_on j r.entries) new runs.told in
    let own : List Answer = (run sli (opened j trace.header.words 0) calls).0 in
    let planned = rows_planned sli level table.grain calls (answers_on j r.entries) rows table.are in
    subst (AllByRecursion HasRoomFor) told
    (all_room own (kinds_suffice sli level j trace.header.words 0 (kinds_of rows) calls region classes words stay
    (planned_own (kinds_of rows) [] calls own (subst (ArePlanned (kinds_of rows) [] calls) (sym told) planned))))
