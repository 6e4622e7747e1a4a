-- An inventory in which no name stands twice is no longer than a list that has all its names. The lanes to a worker have no more than
-- they hold.
use Rattle.tlsf_yard_laws.proofs.Common.{◌≡◌, ◌≢◌, ℕ, zero, suc, ◌+◌, ◌*◌, ◌<◌, ◌≤◌, ◌⊎◌, Bool, true, false, not, cond, eqb, List, [], ◌∷◌, ◌++◌, length, map, filter, Option, Some, None, refl, sym, ap, ◌∙◌, subst, inl, inr, arith, length-append, eq-eqb, cases_eq, false≢true, ne_eqb, length-map, Name, Post, is_same, Inventory, same_self, same_is, AreNamesApart, lookup}
use Rattle.tlsf_heap.proofs.lemmas.blocks.Find.{not_true}

abbrev pub IsAmong : Name → List Name → Type 0
IsAmong name [] = ⊥
IsAmong name (m ∷ ms) = (m ≡ name) ⊎ IsAmong name ms

pub among_left : (name : Name) (ms ns : List Name) → IsAmong name ms → IsAmong name (ms ++ ns)
among_left name [] ns a = absurd a
among_left name (m ∷ ms) ns a = elim a [ inl same ↦ inl same | inr rest ↦ inr (among_left name ms ns rest) ]

pub among_right : (name : Name) (ms ns : List Name) → IsAmong name ns → IsAmong name (ms ++ ns)
among_right name [] ns a = a
among_right name (m ∷ ms) ns a = inr (among_right name ms ns a)

-- ---- the list without a name, where it first stands

abbrev removed : Name → List Name → List Name
removed name [] = []
removed name (m ∷ ms) = cond (is_same m name) ms (m ∷ removed name ms)

shorter : (name : Name) (ms : List Name) → IsAmong name ms → length ms ≡ length (removed name ms) + 1
shorter name [] a = absurd a
shorter name (m ∷ ms) a = step (shorter name ms) (is_same m name) refl
  where
    step : (IsAmong name ms → length ms ≡ length (removed name ms) + 1) → (c : Bool) → is_same m name ≡ c → suc (length ms) ≡ length (cond c ms (m ∷ removed name ms)) + 1
    step more true e = omega arith
    step more false e = elim a [
      | inl same ↦ absurd (false≢true (sym e ∙ subst (λ (n : Name). is_same m n ≡ true) same (same_self m)))
      | inr rest ↦ let r = more rest in omega arith
    ]

stays : (name other : Name) (ms : List Name) → (name ≡ other → ⊥) → IsAmong other ms → IsAmong other (removed name ms)
stays name other [] ne a = absurd a
stays name other (m ∷ ms) ne a = step (stays name other ms ne) (is_same m name) refl
  where
    step : (IsAmong other ms → IsAmong other (removed name ms)) → (c : Bool) → is_same m name ≡ c → IsAmong other (cond c ms (m ∷ removed name ms))
    step more true e = elim a [ inl same ↦ absurd (ne (sym (same_is m name e) ∙ same)) | inr rest ↦ rest ]
    step more false e = elim a [ inl same ↦ inl same | inr rest ↦ inr (more rest) ]

-- an inventory whose names are all among others has no more entries than those
pub few : (l : Inventory) (ms : List Name) → AreNamesApart l → ((name : Name) (n : ℕ) → lookup name l ≡ Some n → IsAmong name ms) → length l ≤ length ms
few [] ms apart all = omega arith
few (e ∷ l) ms apart all =
    let first : IsAmong e.0 ms = all e.0 e.1 (ap (λ (c : Bool). cond c (Some e.1) (lookup e.0 l)) (same_self e.0)) in
    let rest : length l ≤ length (removed e.0 ms) = few l (removed e.0 ms) apart.1 (λ name n is.
    let other : e.0 ≡ name → ⊥ = λ q. let none : ◌≡◌ {A = Option ℕ} None (Some n) = sym apart.0 ∙ (ap (λ (m : Name). lookup m l) q ∙ is) in cc in
    let differ : is_same e.0 name ≡ false = not_true _ (λ t. other (same_is e.0 name t)) in
    stays e.0 name ms other (all name n (ap (λ (c : Bool). cond c (Some e.1) (lookup name l)) differ ∙ is))) in
    let s = shorter e.0 ms first in
    omega arith

-- ---- the names of an inventory

abbrev pub names_of : Inventory → List Name
names_of l = map (λ entry. entry.0) l

pub still_among : (name other : Name) (l : Inventory) → (name ≡ other → ⊥) → IsAmong other (names_of l) → IsAmong other (names_of (filter (λ entry. not (is_same name entry.0)) l))
still_among name other [] ne a = absurd a
still_among name other (e ∷ l) ne a = step (still_among name other l ne) (is_same name e.0) refl
  where
    step : (IsAmong other (names_of l) → IsAmong other (names_of (filter (λ entry. not (is_same name entry.0)) l))) → (c : Bool) → is_same name e.0 ≡ c → IsAmong other (names_of (cond (not c) (e ∷ filter (λ entry. not (is_same name entry.0)) l) (filter (λ entry. not (is_same name entry.0)) l)))
    step more true same = elim a [ inl is ↦ absurd (ne (same_is name e.0 same ∙ is)) | inr rest ↦ more rest ]
    step more false same = elim a [ inl is ↦ inl is | inr rest ↦ inr (more rest) ]

-- ---- the names that wait in the lanes to worker j

abbrev pub posted : List Post → List Name
posted ps = map (λ post. post.name) ps

abbrev pub lane_names : ℕ → (ℕ → List Post) → ℕ → List Name
lane_names j lanes zero = []
lane_names j lanes (suc k) = lane_names j lanes k ++ cond (eqb k j) [] (posted (lanes k))

pub in_lanes : (j : ℕ) (lanes : ℕ → List Post) (k i : ℕ) (name : Name) → i < k → i ≢ j → IsAmong name (posted (lanes i)) → IsAmong name (lane_names j lanes k)
in_lanes j lanes zero i name lt ne a = absurd (omega arith)
in_lanes j lanes (suc k) i name lt ne a = elim (cases_eq i k) [
  | inl same ↦
      let other : eqb k j ≡ false = ne_eqb k j (λ q. ne (same ∙ q)) in
      let here : IsAmong name (posted (lanes k)) = subst (λ (n : ℕ). IsAmong name (posted (lanes n))) same a in
      among_right name (lane_names j lanes k) _ (subst (λ (c : Bool). IsAmong name (cond c [] (posted (lanes k)))) (sym other) here)
  | inr less ↦ among_left name (lane_names j lanes k) _ (in_lanes j lanes k i name (omega arith) ne a)
]

pub one_more : (k capacity x y : ℕ) → x ≤ k * capacity → y ≤ capacity → x + y ≤ (k + 1) * capacity
one_more k capacity x y a b = omega arith

-- all lanes, and all but that of j itself
lanes_below : (j capacity : ℕ) (lanes : ℕ → List Post) (k : ℕ) → ((i : ℕ) → length (lanes i) ≤ capacity) → length (lane_names j lanes k) ≤ k * capacity
lanes_below j capacity lanes zero short = omega arith
lanes_below j capacity lanes (suc k) short =
    let rest = lanes_below j capacity lanes k short in
    let both = length-append (lane_names j lanes k) (cond (eqb k j) [] (posted (lanes k))) in
    let one : length (cond {A = List Name} (eqb k j) [] (posted (lanes k))) ≤ capacity = one_lane (eqb k j) (lanes k) (short k) in
    omega (arith, both, one_more k capacity _ _ rest one)
  where
    one_lane : (c : Bool) (ps : List Post) → length ps ≤ capacity → length (cond {A = List Name} c [] (posted ps)) ≤ capacity
    one_lane true ps le = omega arith
    one_lane false ps le = omega (arith, le, length-map ps (λ post. post.name))

other_lane : (j capacity : ℕ) (lanes : ℕ → List Post) (k : ℕ) → length (lanes k) ≤ capacity → (k ≡ j → ⊥) → length (cond {A = List Name} (eqb k j) [] (posted (lanes k))) ≤ capacity
other_lane j capacity lanes k short differ =
    let here : length (cond {A = List Name} (eqb k j) [] (posted (lanes k))) ≡ length (lanes k)
    = ap (λ (c : Bool). length (cond {A = List Name} c [] (posted (lanes k)))) (ne_eqb k j differ) ∙ length-map (lanes k) (λ post. post.name) in
    omega (arith, here, short)

pub lanes_few : (j capacity : ℕ) (lanes : ℕ → List Post) (k : ℕ) → ((i : ℕ) → length (lanes i) ≤ capacity) → j < k + 1 → length (lane_names j lanes (suc k)) ≤ k * capacity
lanes_few j capacity lanes zero short lt =
    let same : eqb 0 j ≡ true = eq-eqb 0 j (omega arith) in
    let none : length (lane_names j lanes (suc zero)) ≡ 0 = ap (λ (c : Bool). length (cond {A = List Name} c [] (posted (lanes 0)))) same in
    omega arith
lanes_few j capacity lanes (suc k) short lt =
    let both = length-append (lane_names j lanes (suc k)) (cond (eqb (suc k) j) [] (posted (lanes (suc k)))) in
    elim (cases_eq (suc k) j) [
      | inl same ↦
          let rest = lanes_below j capacity lanes (suc k) short in
          let none : length (cond {A = List Name} (eqb (suc k) j) [] (posted (lanes (suc k)))) ≡ 0
          = ap (λ (c : Bool). length (cond {A = List Name} c [] (posted (lanes (suc k))))) (eq-eqb (suc k) j same) in
          omega arith
      | inr differ ↦
          let rest = lanes_few j capacity lanes k short (omega arith) in
          omega (arith, both, one_more k capacity _ _ rest (other_lane j capacity lanes (suc k) (short (suc k)) differ))
    ]
