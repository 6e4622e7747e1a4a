-- A right goes out of the book and comes back, and whoever has one knows that its block is out. Assumes `Logic`.
use Rattle.tlsf_arena.proofs.Walking.{◌≡◌, Bool, true, false, cond, not, eqb, ◌&&◌, ◌||◌, List, [], ◌∷◌, refl, sym, ap, subst, ◌∙◌, eq-eqb, eqb-true, and_from, or_from, false_from_ne_true, true≢false, Loan, same_loan, is_out, without, rights, row, right, rest_of, Ura, SProp, ent, sep, emp, ex, guard, via, guard_i, guard_e, GName, Logic, sem}
use mathlib.Core.Option.{Option, none, some}
use mathlib.Mathlib.Data.Part.{Part, ◌∈◌}
use seplogic.Ra.Pcs.{OpDef}
use seplogic.Ra.Constructions.Opt
use seplogic.Ra.Instances.Excl
use seplogic.Ra.IProd.{mem-op_iff}
use types.Owned.{basic, own_new, own_join, own_sum}
use Rattle.tlsf_heap.proofs.lemmas.blocks.Find.{and_left, and_right}

-- ---- loans

pub is_same : (t s : Loan) → same_loan t s ≡ true → t ≡ s
is_same t s e =
    let place = and_right (eqb t.0 s.0) _ e in
    let serial = and_right (eqb t.1.0 s.1.0) _ place in
    let a : t.0 ≡ s.0 = eqb-true t.0 s.0 (and_left (eqb t.0 s.0) _ e) in
    let b : t.1.0 ≡ s.1.0 = eqb-true t.1.0 s.1.0 (and_left (eqb t.1.0 s.1.0) _ place) in
    let c : t.1.1.0 ≡ s.1.1.0 = eqb-true t.1.1.0 s.1.1.0 (and_left (eqb t.1.1.0 s.1.1.0) _ serial) in
    let d : t.1.1.1 ≡ s.1.1.1 = eqb-true t.1.1.1 s.1.1.1 (and_right (eqb t.1.1.0 s.1.1.0) _ serial) in
    λ i. (a i, (b i, (c i, d i)))

pub same_itself : (t : Loan) → same_loan t t ≡ true
same_itself t =
    and_from (eqb t.0 t.0) _ (eq-eqb t.0 t.0 refl)
    (and_from (eqb t.1.0 t.1.0) _ (eq-eqb t.1.0 t.1.0 refl)
    (and_from (eqb t.1.1.0 t.1.1.0) _ (eq-eqb t.1.1.0 t.1.1.0 refl) (eq-eqb t.1.1.1 t.1.1.1 refl)))

one_less : (t s w : Loan) (out : List Loan) (c b : Bool) → same_loan t w ≡ c → same_loan t s ≡ b → is_out (without t out) s ≡ (not b && is_out out s)
    → is_out (cond c (without t out) (w ∷ without t out)) s ≡ (not b && (same_loan w s || is_out out s))
one_less t s w out true true same e rest = rest
one_less t s w out true false same e rest = rest ∙ ap (λ (d : Bool). d || is_out out s) (sym (ap (λ (v : Loan). same_loan v s) (sym (is_same t w same)) ∙ e))
one_less t s w out false true same e rest = or_from (same_loan w s) (is_out (without t out) s) other rest
  where
    other : same_loan w s ≡ false
    other = false_from_ne_true (same_loan w s) (λ m. true≢false (sym (subst (λ (v : Loan). same_loan t v ≡ true) (is_same t s e ∙ sym (is_same w s m)) (same_itself t)) ∙ same))
one_less t s w out false false same e rest = ap (λ (d : Bool). same_loan w s || d) rest

-- without one loan the others are out as they were
others_out : (t s : Loan) (out : List Loan) (b : Bool) → same_loan t s ≡ b → is_out (without t out) s ≡ (not b && is_out out s)
others_out t s [] true e = refl
others_out t s [] false e = refl
others_out t s (w ∷ out) b e = one_less t s w out (same_loan t w) b refl e (others_out t s out b e)

pub out_no_more : (t : Loan) (out : List Loan) → is_out (without t out) t ≡ false
out_no_more t out = others_out t t out true (same_itself t)

-- what is out without a loan was out
pub was_out : (t s : Loan) (out : List Loan) → is_out (without t out) s ≡ true → is_out out s ≡ true
was_out t s out e = and_right (not (same_loan t s)) _ (sym (others_out t s out (same_loan t s) refl) ∙ e)

-- ---- rows of rights

abbrev cell : Option (Unit {0}) → Option (Unit {0}) → Part {0, 0} (Option (Unit {0}))
cell = Opt.op Excl.op

abbrev entry : Bool → Option (Unit {0})
entry b = cond b (some tt) none

-- a test is that of one or of the other, which have no loan in common
abbrev Parts : (Loan → Bool) → (Loan → Bool) → (Loan → Bool) → Type 0
Parts r p q = (s : Loan) → (r s ≡ (p s || q s)) × (p s ≡ true → q s ≡ false)

parted : (c d : Bool) → (c ≡ true → d ≡ false) → entry (c || d) ∈ cell (entry c) (entry d)
parted true true apart = absurd (true≢false (apart refl))
parted true false apart = Opt.mem-op-none Excl.op (some tt)
parted false d apart = Opt.mem-none-op Excl.op (entry d)

rows : (r p q : Loan → Bool) → Parts r p q → row r ∈ rights.op (row p) (row q)
rows r p q parts = (mem-op_iff {A = λ (_ : Loan). Option (Unit {0})} (λ _. cell) {f = row p} {g = row q} {h = row r}).1
    (λ s. subst (λ (b : Bool). entry b ∈ cell (entry (p s)) (entry (q s))) (sym (parts s).0) (parted (p s) (q s) (parts s).1))

abbrev inside : List Loan → Loan → Bool
inside out s = not (is_out out s)

-- a loan that goes out is one of those that were not out
goes : (out : List Loan) (t : Loan) → is_out out t ≡ false → Parts (inside out) (same_loan t) (inside (t ∷ out))
goes out t fresh s = (by_test (same_loan t s) refl, λ same. ap (λ (b : Bool). not (b || is_out out s)) same)
  where
    by_test : (b : Bool) → same_loan t s ≡ b → not (is_out out s) ≡ (b || not (b || is_out out s))
    by_test true e = ap (λ (v : Loan). not (is_out out v)) (sym (is_same t s e)) ∙ ap not fresh
    by_test false e = refl

-- and one that comes back is one of those that are not out from then on
comes : (out : List Loan) (t : Loan) → is_out out t ≡ true → Parts (inside (without t out)) (same_loan t) (inside out)
comes out t there s = (
  ap not (others_out t s out (same_loan t s) refl) ∙ either (same_loan t s) (is_out out s),
  λ same. ap (λ (v : Loan). not (is_out out v)) (sym (is_same t s same)) ∙ ap not there,
)
  where
    either : (b c : Bool) → not (not b && c) ≡ (b || not c)
    either true c = refl
    either false c = refl

-- no loan has two rights
alone : (b c : Bool) → b ≡ true → OpDef cell (entry b) (entry (not c)) → c ≡ true
alone b true e both = refl
alone true false e both = absurd (Excl.not-OpDef tt tt both)
alone false false e both = e

-- ---- what the book does

module _ {M : Type 1} {𝓤 : Ura M} (𝓛 : Logic 𝓤) where
  pub book_new : ent 𝓤 (emp 𝓤) (𝓛.H.⇛ (ex 𝓤 (λ (γ : GName). sem 𝓛 (rest_of γ []))))
  book_new = via 𝓤 _ (own_new 𝓛 rights (row (inside []))) (basic 𝓛 (ex 𝓤 (λ (γ : GName). sem 𝓛 (rest_of γ []))))

  module _ (γ : GName) (out : List Loan) (t : Loan) where
    abbrev Both : SProp 𝓤
    Both = sep 𝓤 (sem 𝓛 (right γ t)) (sem 𝓛 (rest_of γ out))

    pub goes_out : is_out out t ≡ false → ent 𝓤 (sem 𝓛 (rest_of γ out)) (sep 𝓤 (sem 𝓛 (right γ t)) (sem 𝓛 (rest_of γ (t ∷ out))))
    goes_out fresh = 𝓛.algebras.own_cut rights γ (row (same_loan t)) (row (inside (t ∷ out))) (row (inside out)) (rows (inside out) (same_loan t) (inside (t ∷ out)) (goes out t fresh))

    pub is_among : ent 𝓤 (sep 𝓤 (sem 𝓛 (right γ t)) (sem 𝓛 (rest_of γ out))) (guard 𝓤 (is_out out t ≡ true) (sep 𝓤 (sem 𝓛 (right γ t)) (sem 𝓛 (rest_of γ out))))
    is_among = own_sum 𝓛 rights γ (row (same_loan t)) (row (inside out)) (guard 𝓤 (is_out out t ≡ true) Both)
        (λ c m. guard_i 𝓤 (is_out out t ≡ true) Both (alone (same_loan t t) (is_out out t) (same_itself t) (m.0 t)))

    pub comes_back : ent 𝓤 (sep 𝓤 (sem 𝓛 (right γ t)) (sem 𝓛 (rest_of γ out))) (sem 𝓛 (rest_of γ (without t out)))
    comes_back = via 𝓤 (guard 𝓤 (is_out out t ≡ true) Both) is_among (guard_e 𝓤 (is_out out t ≡ true) Both (λ there.
        own_join 𝓛 rights γ (row (same_loan t)) (row (inside out)) (row (inside (without t out))) (rows (inside (without t out)) (same_loan t) (inside out) (comes out t there))))
