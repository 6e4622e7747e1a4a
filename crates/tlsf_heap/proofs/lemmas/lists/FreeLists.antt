-- The list of the free blocks of a class, as free blocks come and go.
use Rattle.tlsf_heap.proofs.Common.{map-append, ◌≡◌, ◌≢◌, ℕ, zero, suc, ◌<◌, ◌⊎◌, inl, inr, Bool, true, false, cond, eqb, not, List, [], ◌∷◌, ◌++◌, length, get_or, filter, map, refl, sym, ap, ◌∙◌, subst, arith, Contains, IsPermutation, AllByRecursion, eqb-true, eq-eqb, false≢true, filter-append, Contains-append_left, Contains-append_right, Contains-append_cases, IsPermutation-refl, IsPermutation-sym, IsPermutation-cons, IsPermutation-trans, IsPermutation-middle, Contains-permutation, length_permutation, class_of, Free, without_place, IsUnlisted, SameLists, list_in, FreePlace, of_class, AreFalling, IsFreeList, AreFreeLists, ShowsLists, IsStored, Inside}
use Rattle.std.proofs.lemmas.List.{nil_from_length}
use Rattle.tlsf_heap.proofs.lemmas.blocks.Find.{not_true}
use Rattle.tlsf_heap.proofs.lemmas.blocks.Lawful.{all_append, all_left, all_right}
use Rattle.tlsf_heap.proofs.lemmas.lists.Permutations.{Parted, parted, taken_out}
use Rattle.tlsf_heap.proofs.lemmas.lists.FreePlaces.{later}

-- each class has the list of those of these free blocks that are of it
abbrev pub AreListed : List FreePlace → (ℕ → List ℕ) → Type 0
AreListed free lists = (class : ℕ) → IsFreeList class free (lists class)

-- ---- elements of a list

module _ {X : Type 0} where
  pub first_of : (x : X) (xs : List X) → Contains (x ∷ xs) x
  first_of x xs = (0, omega arith, refl)

  -- an element of a list with one element more is that one or another
  pub first_or_later : (y : X) (xs : List X) (x : X) → Contains (y ∷ xs) x → (y ≡ x) ⊎ Contains xs x
  first_or_later y xs x c = at c.0 c.1 c.2
    where
      at : (k : ℕ) → k < length (y ∷ xs) → get_or (y ∷ xs) k x ≡ x → (y ≡ x) ⊎ Contains xs x
      at zero h e = inl e
      at (suc k) h e = inr (k, omega arith, e)

  pub all_at : (P : X → Type 0) (xs : List X) → ((x : X) → Contains xs x → P x) → AllByRecursion P xs
  all_at P [] f = tt
  all_at P (x ∷ xs) f = (f x (first_of x xs), all_at P xs (λ y c. f y (later x xs y c)))

  pub at_all : (P : X → Type 0) (xs : List X) → AllByRecursion P xs → (x : X) → Contains xs x → P x
  at_all P [] all x c = absurd (omega (arith, c.1))
  at_all P (y ∷ ys) all x c = elim (first_or_later y ys x c) [
    | inl same ↦ subst P same all.0
    | inr rest ↦ at_all P ys all.1 x rest
  ]

  pub filter_all : (p : X → Bool) (xs : List X) → ((x : X) → Contains xs x → p x ≡ true) → filter p xs ≡ xs
  filter_all p [] f = refl
  filter_all p (x ∷ xs) f =
      ap (λ (b : Bool). cond b (x ∷ filter p xs) (filter p xs)) (f x (first_of x xs))
      ∙ ap (λ (l : List X). x ∷ l) (filter_all p xs (λ y c. f y (later x xs y c)))

  -- what a filter keeps was there, and passes
  pub from_filter : (p : X → Bool) (xs : List X) (x : X) → Contains (filter p xs) x → Contains xs x × (p x ≡ true)
  from_filter p [] x c = absurd (omega (arith, c.1))
  from_filter p (y ∷ ys) x c = at (p y) refl (from_filter p ys x) c
    where
      at : (b : Bool) → p y ≡ b → (Contains (filter p ys) x → Contains ys x × (p x ≡ true)) → Contains (cond b (y ∷ filter p ys) (filter p ys)) x → Contains (y ∷ ys) x × (p x ≡ true)
      at true is behind d = elim (first_or_later y (filter p ys) x d) [
        | inl same ↦ (subst (Contains (y ∷ ys)) same (first_of y ys), ap p (sym same) ∙ is)
        | inr rest ↦ let old = behind rest in (later y ys x old.0, old.1)
      ]
      at false is behind d = let old = behind d in (later y ys x old.0, old.1)

  -- and what is there and passes is kept
  pub to_filter : (p : X → Bool) (xs : List X) (x : X) → Contains xs x → p x ≡ true → Contains (filter p xs) x
  to_filter p [] x c is = absurd (omega (arith, c.1))
  to_filter p (y ∷ ys) x c is = elim (first_or_later y ys x c) [
    | inl same ↦ subst (λ (b : Bool). Contains (cond b (y ∷ filter p ys) (filter p ys)) x) (sym (ap p same ∙ is)) (subst (λ (z : X). Contains (z ∷ filter p ys) x) (sym same) (first_of x (filter p ys)))
    | inr rest ↦ kept (p y) (to_filter p ys x rest is)
  ]
    where
      kept : (b : Bool) → Contains (filter p ys) x → Contains (cond b (y ∷ filter p ys) (filter p ys)) x
      kept true d = later y (filter p ys) x d
      kept false d = d

pub contains_map : {X Y : Type 0} (f : X → Y) (xs : List X) (x : X) → Contains xs x → Contains (map f xs) (f x)
contains_map f [] x c = absurd (omega (arith, c.1))
contains_map f (y ∷ ys) x c = elim (first_or_later y ys x c) [
  | inl same ↦ subst (Contains (f y ∷ map f ys)) (ap f same) (first_of (f y) (map f ys))
  | inr rest ↦ later (f y) (map f ys) (f x) (contains_map f ys x rest)
]

pub from_map : {X Y : Type 0} (f : X → Y) (xs : List X) (y : Y) → Contains (map f xs) y → (x : X) × Contains xs x × (f x ≡ y)
from_map f [] y c = absurd (omega (arith, c.1))
from_map f (x ∷ xs) y c = elim (first_or_later (f x) (map f xs) y c) [
  | inl same ↦ (x, first_of x xs, same)
  | inr rest ↦ let old = from_map f xs y rest in (old.0, later x xs old.0 old.1, old.2)
]

-- none of these free blocks begins at this place
abbrev pub IsFresh : ℕ → List FreePlace → Type 0
IsFresh at free = (place : FreePlace) → Contains free place → at ≢ place.at

pub fresh_both : (at : ℕ) (front back : List FreePlace) → IsFresh at front → IsFresh at back → IsFresh at (front ++ back)
fresh_both at front back f g place c = elim (Contains-append_cases front back place c) [
  | inl in_front ↦ f place in_front
  | inr in_back ↦ g place in_back
]

-- falling numbers fall without one of them
falling_without : (s : ℕ) (xs ys : List ℕ) → AreFalling (xs ++ s ∷ ys) → AreFalling (xs ++ ys)
falling_without s [] ys h = h.1
falling_without s (x ∷ xs) ys h = (
  all_append (λ y. y < x) xs ys (all_left (λ y. y < x) xs (s ∷ ys) h.0) (all_right (λ y. y < x) xs (s ∷ ys) h.0).1,
  falling_without s xs ys h.1,
)

-- ---- one list

abbrev pub is_of : ℕ → FreePlace → Bool
is_of class place = eqb place.class class

-- a free block of another class is none of the class
of_class-other : (class : ℕ) (e : FreePlace) (front back : List FreePlace) → class ≢ e.class → of_class class (front ++ e ∷ back) ≡ of_class class (front ++ back)
of_class-other class e front back other =
    let no : is_of class e ≡ false = not_true _ (λ is. other (sym (eqb-true e.class class is))) in
    filter-append (is_of class) front (e ∷ back)
    ∙ ap (λ (b : Bool). of_class class front ++ cond b (e ∷ of_class class back) (of_class class back)) no ∙ sym (filter-append (is_of class) front back)

of_class-own : (e : FreePlace) (front back : List FreePlace) → of_class e.class (front ++ e ∷ back) ≡ of_class e.class front ++ e ∷ of_class e.class back
of_class-own e front back =
    filter-append (is_of e.class) front (e ∷ back)
    ∙ ap (λ (b : Bool). of_class e.class front ++ cond b (e ∷ of_class e.class back) (of_class e.class back)) (eq-eqb e.class e.class refl)

-- the same list of equally many free blocks
same_list : (class : ℕ) (old new : List FreePlace) (places left : List ℕ) → of_class class new ≡ of_class class old → left ≡ places → IsFreeList class old places → IsFreeList class new left
same_list class old new places left same kept list = record {
  order = list.order;
  same = subst (IsPermutation list.order) (sym same) list.same;
  falling = list.falling;
  are = kept ∙ list.are;
}

-- a free block that is newer than all others comes in front
pushed : (e : FreePlace) (front back : List FreePlace) (old new : List ℕ) → ((place : FreePlace) → Contains (front ++ back) place → place.stamp < e.stamp)
    → IsFreeList e.class (front ++ back) old → new ≡ e.at ∷ old → IsFreeList e.class (front ++ e ∷ back) new
pushed e front back old new newest list is =
    let c = e.class in
    let f = of_class c front in
    let b = of_class c back in
    let rest : IsPermutation list.order (f ++ b) = subst (IsPermutation list.order) (filter-append (is_of c) front back) list.same in
    record {
      order = e ∷ list.order;
      same = subst (IsPermutation (e ∷ list.order)) (sym (of_class-own e front back))
          (IsPermutation-trans (e ∷ list.order) (e ∷ (f ++ b)) (f ++ e ∷ b) (IsPermutation-cons e list.order (f ++ b) rest) (IsPermutation-sym (f ++ e ∷ b) (e ∷ (f ++ b)) (IsPermutation-middle f e b)));
      falling = (
        all_at (λ s. s < e.stamp) (map (λ (p : FreePlace). p.stamp) list.order) (λ s h.
            let from = from_map (λ (p : FreePlace). p.stamp) list.order s h in
            let there = from_filter (is_of c) (front ++ back) from.0 (Contains-permutation list.order (of_class c (front ++ back)) from.0 list.same from.1) in
            let below = newest from.0 there.0 in
            omega (arith, below, from.2)),
        list.falling,
      );
      are = is ∙ ap (λ (l : List ℕ). e.at ∷ l) list.are;
    }

-- a free block is in the list of its class
pub listed_own : (e : FreePlace) (free : List FreePlace) (places : List ℕ) → Contains free e → IsFreeList e.class free places → Contains places e.at
listed_own e free places c list =
    let there = to_filter (is_of e.class) free e c (eq-eqb e.class e.class refl) in
    let ordered = Contains-permutation (of_class e.class free) list.order e (IsPermutation-sym list.order (of_class e.class free) list.same) there in
    subst (λ (l : List ℕ). Contains l e.at) (sym list.are) (contains_map (λ (p : FreePlace). p.at) list.order e ordered)

pub contains_own : (e : FreePlace) (front back : List FreePlace) (places : List ℕ) → IsFreeList e.class (front ++ e ∷ back) places → Contains places e.at
contains_own e front back places list = listed_own e (front ++ e ∷ back) places (Contains-append_right front (e ∷ back) e (first_of e back)) list

-- a place where none of the free blocks begins is in no list
pub not_listed : (free : List FreePlace) (lists : ℕ → List ℕ) (at : ℕ) → AreListed free lists → IsFresh at free → IsUnlisted lists at
not_listed free lists at listed fresh class c =
    let list = listed class in
    let from = from_map (λ (p : FreePlace). p.at) list.order at (subst (λ (l : List ℕ). Contains l at) list.are c) in
    let there = from_filter (is_of class) free from.0 (Contains-permutation list.order (of_class class free) from.0 list.same from.1) in
    fresh from.0 there.0 (sym from.2)

pub unlisted_same : (old new : ℕ → List ℕ) (at : ℕ) → SameLists new old → IsUnlisted old at → IsUnlisted new at
unlisted_same old new at same none class c = none class (subst (λ (l : List ℕ). Contains l at) (same class) c)

-- the places but one of places that differ from it
without_fresh : (at : ℕ) (free : List FreePlace) → IsFresh at free → without_place at (map (λ (p : FreePlace). p.at) free) ≡ map (λ (p : FreePlace). p.at) free
without_fresh at free fresh =
    filter_all (λ other. not (eqb at other)) (map (λ (p : FreePlace). p.at) free) (λ other c.
    let from = from_map (λ (p : FreePlace). p.at) free other c in
    ap not (not_true (eqb at other) (λ is. fresh from.0 from.1 (eqb-true at other is ∙ sym from.2))))

-- a free block goes out
removed : (e : FreePlace) (front back : List FreePlace) (old new : List ℕ) → IsFresh e.at (front ++ back)
    → IsFreeList e.class (front ++ e ∷ back) old → new ≡ without_place e.at old → IsFreeList e.class (front ++ back) new
removed e front back old new fresh list is =
    let c = e.class in
    let f = of_class c front in
    let b = of_class c back in
    let at : FreePlace → ℕ = λ p. p.at in
    let stamp : FreePlace → ℕ = λ p. p.stamp in
    let whole : IsPermutation list.order (f ++ e ∷ b) = subst (IsPermutation list.order) (of_class-own e front back) list.same in
    let p : Parted e list.order = parted e list.order f b whole in
    let rest : IsPermutation (p.front ++ p.back) (f ++ b) = taken_out e p.front p.back f b (subst (λ (l : List FreePlace). IsPermutation l (f ++ e ∷ b)) p.is whole) in
    let others : IsFresh e.at (p.front ++ p.back) = λ place h.
    let kept = Contains-permutation (p.front ++ p.back) (f ++ b) place rest h in
    fresh place (from_filter (is_of c) (front ++ back) place (subst (λ (l : List FreePlace). Contains l place) (sym (filter-append (is_of c) front back)) kept)).0 in
    let fresh_front : IsFresh e.at p.front = λ place h. others place (Contains-append_left p.front p.back place h) in
    let fresh_back : IsFresh e.at p.back = λ place h. others place (Contains-append_right p.front p.back place h) in
    let own : not (eqb e.at e.at) ≡ false = ap not (eq-eqb e.at e.at refl) in
    record {
      order = p.front ++ p.back;
      same = subst (IsPermutation (p.front ++ p.back)) (sym (filter-append (is_of c) front back)) rest;
      falling = subst AreFalling (sym (map-append stamp p.front p.back))
          (falling_without e.stamp (map stamp p.front) (map stamp p.back) (subst AreFalling (ap (map stamp) p.is ∙ map-append stamp p.front (e ∷ p.back)) list.falling));
      are = is ∙ ap (without_place e.at) (list.are ∙ ap (map at) p.is ∙ map-append at p.front (e ∷ p.back))
          ∙ filter-append (λ other. not (eqb e.at other)) (map at p.front) (e.at ∷ map at p.back)
          ∙ ap (λ (k : Bool). without_place e.at (map at p.front) ++ cond k (e.at ∷ without_place e.at (map at p.back)) (without_place e.at (map at p.back))) own
          ∙ ap (λ (l : List ℕ). l ++ without_place e.at (map at p.back)) (without_fresh e.at p.front fresh_front)
          ∙ ap (λ (l : List ℕ). map at p.front ++ l) (without_fresh e.at p.back fresh_back) ∙ sym (map-append at p.front p.back);
    }

-- ---- all lists

-- whether two classes are the same
same_class : (a b : ℕ) → (a ≡ b) ⊎ (a ≢ b)
same_class a b = at (eqb a b) refl
  where
    at : (t : Bool) → eqb a b ≡ t → (a ≡ b) ⊎ (a ≢ b)
    at true is = inl (eqb-true a b is)
    at false is = inr (λ e. false≢true (sym is ∙ eq-eqb a b e))

-- the same lists
pub same_lists : (free : List FreePlace) (old new : ℕ → List ℕ) → SameLists new old → AreListed free old → AreListed free new
same_lists free old new same listed class = same_list class free free (old class) (new class) refl (same class) (listed class)

module _ (e : FreePlace) (front back : List FreePlace) (old new : ℕ → List ℕ) (others : (other : ℕ) → other ≢ e.class → new other ≡ old other) where
  -- a free block goes out of the list of its class
  pub taken : IsFresh e.at (front ++ back) → new e.class ≡ without_place e.at (old e.class) → AreListed (front ++ e ∷ back) old → AreListed (front ++ back) new
  taken fresh is listed class = elim (same_class class e.class) [
    | inl same ↦ subst (λ (k : ℕ). IsFreeList k (front ++ back) (new k)) (sym same) (removed e front back (old e.class) (new e.class) fresh (listed e.class) is)
    | inr other ↦ same_list class (front ++ e ∷ back) (front ++ back) (old class) (new class) (sym (of_class-other class e front back other)) (others class other) (listed class)
  ]

  -- a free block that is newer than all others comes in front of the list of its class
  pub given : ((place : FreePlace) → Contains (front ++ back) place → place.stamp < e.stamp) → new e.class ≡ e.at ∷ old e.class → AreListed (front ++ back) old → AreListed (front ++ e ∷ back) new
  given newest is listed class = elim (same_class class e.class) [
    | inl same ↦ subst (λ (k : ℕ). IsFreeList k (front ++ e ∷ back) (new k)) (sym same) (pushed e front back (old e.class) (new e.class) newest (listed e.class) is)
    | inr other ↦ same_list class (front ++ back) (front ++ e ∷ back) (old class) (new class) (of_class-other class e front back other) (others class other) (listed class)
  ]

-- the only block of a new heap is the only place of a list
pub listed_first : (sli words first class : ℕ) (old new : ℕ → List ℕ) → ((other : ℕ) → old other ≡ []) → class ≡ class_of sli words → new class ≡ 0 ∷ old class → ((other : ℕ) → other ≢ class → new other ≡ old other)
    → AreFreeLists sli (Free words first ∷ []) new
listed_first sli words first class old new empty is_class came others =
    let nothing : AreListed [] old = λ other. record { order = []; same = IsPermutation-refl []; falling = tt; are = empty other } in
    let e : FreePlace = record { class = class; at = 0; stamp = first } in
    subst (λ (n : ℕ). AreListed (record { class = n; at = 0; stamp = first } ∷ []) new) is_class (given e [] [] old new others (λ place c. absurd (omega (arith, c.1))) came nothing)

-- and it is in no list of another class
pub listed_alone : (sli words first : ℕ) (lists : ℕ → List ℕ) → AreFreeLists sli (Free words first ∷ []) lists → (other : ℕ) → other ≢ class_of sli words → lists other ≡ []
listed_alone sli words first lists are other n =
    let list = are other in
    let none = of_class-other other (record { class = class_of sli words; at = 0; stamp = first }) [] [] n in
    let short = sym (length_permutation _ _ list.same) ∙ ap (length {A = FreePlace}) none in
    list.are ∙ ap (map (λ (place : FreePlace). place.at)) (nil_from_length list.order short)

-- ---- what a heap shows of its lists

pub stored_lists : (sli : ℕ) (h : Inside sli) → IsStored sli h → ShowsLists sli h.region.stored h.region.marked h.region.blocks
stored_lists sli h is = record { places = list_in h.region.lists; are = is.listed; linked = is.linked; bits = is.bits }
