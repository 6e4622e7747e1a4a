-- The book of an arena, under the calls of its heap.
use Rattle.tlsf_arena.proofs.Common.{◌≡◌, ◌≢◌, ℕ, ◌+◌, ◌≤◌, Bool, true, false, eqb, ◌||◌, List, [], ◌∷◌, length, Option, Some, Ok, refl, sym, ap, subst, ◌∙◌, arith, inl, IsSome, eq-eqb, eqb-true, false≢true, Block, Live, Free, HeapState, size_of, bytes_of, words_in, Site, place_of, IsLawful, IsLive, allocated_words, fitted, first_free, has_serial, refitted, released, resized_words, room_of, Name, Holds, Loan, loan_of, name_of, units_of, is_out, same_loan, without, IsBook, held_units, lacking, IsLevel}
use Rattle.tlsf_heap.specs.Steps.{Fit, Give}
use Rattle.tlsf_heap.proofs.lemmas.blocks.Find.{and_left, and_right}
use Rattle.tlsf_heap.proofs.lemmas.laws.Lasting.{HasFrom, in_right}
use Rattle.tlsf_heap.proofs.lemmas.laws.Live.{new_words}
use Rattle.tlsf_heap.proofs.lemmas.calls.Outcomes.{by_resized_words, ids_step, resizes}
use Rattle.tlsf_arena.specs.declared.book.Book.{Book}
use Rattle.tlsf_arena.specs.declared.right.Right.{Right}
use Rattle.tlsf_arena.proofs.Holding.{IsBlockOf, by_place, kept, stays_released, stays_resized}
use Rattle.tlsf_arena.proofs.Mapped.{lacks}
use Rattle.tlsf_arena.proofs.Maps.{Tells, holds_given}
use Rattle.tlsf_arena.proofs.Rights.{is_same, was_out, out_no_more}
use Rattle.tlsf_arena.proofs.Resizes.{by_refit, told}

-- ---- a block that is held

-- equally many units under one name
pub one_count : (h : HeapState) (name : Name) (j k : ℕ) → Holds h name j → Holds h name k → j ≡ k
one_count h name j k a b =
    let both : ◌≡◌ {A = Option Site} (Some a.0) (Some b.0) = sym a.2 ∙ b.2 in
    let same : a.0 ≡ b.0 = cc in
    sym a.3 ∙ ap (λ (s : Site). held_units (size_of s.block) (length (bytes_of s.block))) same ∙ b.3

alive : (h : HeapState) (name : Name) (k : ℕ) → Holds h name k → IsLive h name
alive h name k holds = (holds.1, subst (λ (o : Option Site). IsSome o) (sym holds.2) refl)

-- what is refitted begins with the block, for which n units were wanted
refitted_holds : (tick n len m serial : ℕ) (bytes : List ℕ) (after : List Block) (at : ℕ) → Tells n len → n ≤ m + first_free after → HasFrom (IsBlockOf serial n) at at (refitted tick n len (Live m serial bytes) after)
refitted_holds tick n len m serial bytes after at tells fits =
    let own : eqb serial serial ≡ true = eq-eqb serial serial refl in
    let units : Tells n (length (fitted bytes len)) = told n len bytes tells in
    by_refit (HasFrom (IsBlockOf serial n) at at) tick n len m serial bytes after (λ least most. inl ((own, units m least most), refl))
    (λ large. inl ((own, units n (omega arith) (omega arith)), refl)) (λ small. inl ((own, units (m + first_free after) fits small), refl))

-- a block that was resized is held with as many units as were wanted
pub holds_resized : (h : HeapState) (name : Name) (n len : ℕ) → Tells n len → (resized_words h name n len).answer ≡ Ok tt → IsLawful (resized_words h name n len).heap → Holds (resized_words h name n len).heap name n
holds_resized h name n len tells = by_resized_words (λ o. o.answer ≡ Ok tt → IsLawful o.heap → Holds o.heap name n) h name n len (λ why e. cc) (λ s own site is room done lawful.
    let P : Block → Type 0 = IsBlockOf name.serial n in
    let place : place_of s ≡ name.at = eqb-true (place_of s) name.at (and_right (has_serial name.serial s.block) (eqb (place_of s) name.at) is) in
    let there = on s s.block refl (and_left (has_serial name.serial s.block) (eqb (place_of s) name.at) is) room in
    by_place (resizes h n len s).heap name n lawful own
    (in_right P name.at 0 s.before (refitted h.tick n len s.block s.after) (subst (λ (p : ℕ). HasFrom P name.at p (refitted h.tick n len s.block s.after)) (let z : name.at ≡ 0 + words_in s.before = omega (arith, place) in z) there)))
  where
    on : (s : Site) (b : Block) → s.block ≡ b → has_serial name.serial b ≡ true → n ≤ room_of s.block s.after → HasFrom (IsBlockOf name.serial n) name.at name.at (refitted h.tick n len s.block s.after)
    on s (Free m t) same has room = absurd (false≢true has)
    on s (Live m t xs) same has room =
        let its : t ≡ name.serial = eqb-true t name.serial has in
        subst (λ (b : Block). HasFrom (IsBlockOf name.serial n) name.at name.at (refitted h.tick n len b s.after)) (sym same)
        (subst (λ (k : ℕ). HasFrom (IsBlockOf k n) name.at name.at (refitted h.tick n len (Live m t xs) s.after)) its
        (refitted_holds h.tick n len m t xs s.after name.at tells (omega (arith, room, ap (λ (b : Block). size_of b) same))))

-- ---- the book

-- none is out of a new arena
pub no_loans : (h : HeapState) → IsBook [] h
no_loans h t e = absurd (false≢true e)

-- a name that is given is no loan's
pub fresh_loan : (sli : ℕ) (h : HeapState) (n len : ℕ) (name : Name) (out : List Loan) (k : ℕ) → IsLawful h → IsBook out h → (allocated_words sli h n len).answer ≡ Ok name → is_out out (loan_of name k) ≡ false
fresh_loan sli h n len name out k lawful book answer = by_bool (is_out out (loan_of name k)) refl
  where
    by_bool : (b : Bool) → is_out out (loan_of name k) ≡ b → b ≡ false
    by_bool true e = absurd (new_words sli h n len name lawful answer (alive h name k (book (loan_of name k) e)))
    by_bool false e = refl

-- a block goes out, and the others stay
pub lends_one : (out : List Loan) (old new : HeapState) (name : Name) (k : ℕ) → IsBook out old → Holds new name k → ((other : Name) (units : ℕ) → Holds old other units → Holds new other units) → IsBook (loan_of name k ∷ out) new
lends_one out old new name k book holds others t = by_bool (same_loan (loan_of name k) t) refl
  where
    by_bool : (b : Bool) → same_loan (loan_of name k) t ≡ b → (b || is_out out t) ≡ true → Holds new (name_of t) (units_of t)
    by_bool true e any = subst (λ (s : Loan). Holds new (name_of s) (units_of s)) (is_same (loan_of name k) t e) holds
    by_bool false e out_is = others (name_of t) (units_of t) (book t out_is)

-- another loan than that of a block that is out has another name
apart : (out : List Loan) (h : HeapState) (t s : Loan) → IsBook out h → is_out out t ≡ true → is_out (without t out) s ≡ true → name_of s ≢ name_of t
apart out h t s book there left same =
    let units : units_of s ≡ units_of t = one_count h (name_of t) (units_of s) (units_of t) (subst (λ (n : Name). Holds h n (units_of s)) same (book s (was_out t s out left))) (book t there) in
    let is : s ≡ t = λ i. ((same i).heap, ((same i).at, ((same i).serial, units i))) in
    false≢true (sym (out_no_more t out) ∙ subst (λ (u : Loan). is_out (without t out) u ≡ true) is left)

-- a block comes back, and the others stay
pub takes_one : (out : List Loan) (old new : HeapState) (t : Loan) → IsBook out old → is_out out t ≡ true → ((other : Name) (units : ℕ) → other ≢ name_of t → Holds old other units → Holds new other units) → IsBook (without t out) new
takes_one out old new t book there others s left = others (name_of s) (units_of s) (apart out old t s book there left) (book s (was_out t s out left))

-- a block that is out has one loan
pub no_second : (out : List Loan) (h : HeapState) (t : Loan) (k : ℕ) → IsBook out h → is_out out t ≡ true → is_out (without t out) (loan_of (name_of t) k) ≡ false
no_second out h t k book there = by_bool (is_out (without t out) (loan_of (name_of t) k)) refl
  where
    by_bool : (b : Bool) → is_out (without t out) (loan_of (name_of t) k) ≡ b → b ≡ false
    by_bool true e = absurd (apart out h t (loan_of (name_of t) k) book there e refl)
    by_bool false e = refl

-- a block has this many units from now on, and the others stay
refits_one : (out : List Loan) (old new : HeapState) (t : Loan) (k : ℕ) → IsBook out old → is_out out t ≡ true → Holds new (name_of t) k → ((other : Name) (units : ℕ) → other ≢ name_of t → Holds old other units → Holds new other units)
    → IsBook (loan_of (name_of t) k ∷ without t out) new
refits_one out old new t k book there holds others s = by_bool (same_loan (loan_of (name_of t) k) s) refl
  where
    by_bool : (b : Bool) → same_loan (loan_of (name_of t) k) s ≡ b → (b || is_out (without t out) s) ≡ true → Holds new (name_of s) (units_of s)
    by_bool true e any = subst (λ (u : Loan). Holds new (name_of u) (units_of u)) (is_same (loan_of (name_of t) k) s e) holds
    by_bool false e left = takes_one out old new t book there others s left

-- ---- under the heap's calls

-- an allocate that gave a name
pub after_allocate : (sli : ℕ) → IsLevel sli → (old new : HeapState) (k len : ℕ) (name : Name) (out after : List Loan) → IsBook out old → len ≡ lacking k
    → (allocated_words sli old k len).answer ≡ Ok name → new ≡ (allocated_words sli old k len).heap → IsLawful new → after ≡ loan_of name k ∷ out → IsBook after new
after_allocate sli level old new k len name out after book lack answer heap lawful is =
    let holds = holds_given sli level old k len name (subst (Tells k) (sym lack) (lacks k)) answer (subst IsLawful heap lawful) in
    subst (λ (l : List Loan). IsBook l new) (sym is) (lends_one out old new name k book (subst (λ (h : HeapState). Holds h name k) (sym heap) holds)
    (λ other units its. kept sli old new other units (Give k len) tt heap lawful its))

-- a release that was done
pub after_release : (old new : HeapState) (name : Name) (t : Loan) (out after : List Loan) → IsBook out old → is_out out t ≡ true → name_of t ≡ name → new ≡ (released old name).heap → IsLawful new → after ≡ without t out → IsBook after new
after_release old new name t out after book there own heap lawful is =
    let same = heap ∙ ap (λ (n : Name). (released old n).heap) (sym own) in
    subst (λ (l : List Loan). IsBook l new) (sym is) (takes_one out old new t book there (λ other units apart holds. stays_released old new other (name_of t) units lawful apart holds same))

-- the same number, and the book with the units that are wanted now
pub id_resized : {was old new : HeapState} (name : Name) (n lack id : ℕ) → old ≡ was → new ≡ (resized_words old name n lack).heap → id ≡ was.id → id ≡ new.id
id_resized {was} {old} {new} name n lack id value heap is = is ∙ ap (λ (h : HeapState). h.id) (sym value) ∙ sym (ap (λ (h : HeapState). h.id) heap ∙ ids_step 0 old (Fit name n lack))

module _ {was old : HeapState} {book now : Book} {right again : Right} {name : Name} (n : ℕ) (value : old ≡ was) (in_book : IsBook book.out was) (known : (now ≡ book) × (again ≡ right) × (is_out book.out right.loan ≡ true)) (own : name_of right.loan ≡ name) where
  -- the book may give the right for another number of units
  pub may_refit : right.book ≡ book.name → (again.book ≡ now.name) × (is_out (without again.loan now.out) (loan_of name n) ≡ false)
  may_refit ours = (
    ap (λ (r : Right). r.book) known.1 ∙ ours ∙ sym (ap (λ (b : Book). b.name) known.0),
    (λ i. is_out (without (known.1 i).loan (known.0 i).out) (loan_of (sym own i) n)) ∙ no_second book.out was right.loan n in_book known.2,
  )

  -- it is one of the heap after
  pub book_resized : {new : HeapState} (lack : ℕ) (after : List Loan) → lack ≡ lacking n → Ok tt ≡ (resized_words old name n lack).answer → new ≡ (resized_words old name n lack).heap → IsLawful new
      → after ≡ loan_of name n ∷ without again.loan now.out → IsBook after new
  book_resized {new} lack after fills answer heap lawful is =
      let t = right.loan in
      let holds = subst (λ (h : HeapState). Holds h name n) (sym heap) (holds_resized old name n lack (subst (Tells n) (sym fills) (lacks n)) (sym answer) (subst IsLawful heap lawful)) in
      subst (λ (l : List Loan). IsBook l new) (sym (is ∙ (λ i. loan_of (sym own i) n ∷ without (known.1 i).loan (known.0 i).out)))
      (refits_one book.out old new t n (subst (IsBook book.out) (sym value) in_book) known.2 (subst (λ (m : Name). Holds new m n) (sym own) holds)
      (λ other units apart its. stays_resized old new other (name_of t) units lawful apart its n lack (heap ∙ ap (λ (m : Name). (resized_words old m n lack).heap) (sym own))))
