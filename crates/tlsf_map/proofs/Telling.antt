-- The meaning of a text, with more after it.
use Rattle.tlsf_map.proofs.Common.{◌≡◌, ℕ, ◌+◌, ◌<◌, ◌≤◌, List, [], ◌∷◌, ◌++◌, length, get_or, take, take_all, refl, sym, ap, ◌∙◌, subst, append_assoc, append-nil, Adds, Tells, all_told}
use Rattle.std.proofs.lemmas.List.{take_more}

tells_behind : (told : List (List ℕ)) (front text : List ℕ) → Tells told text → Tells told (front ++ text)
tells_behind [] front text tells = tt
tells_behind (one ∷ others) front text tells = (
  front ++ tells.0,
  tells.1,
  ap (λ (t : List ℕ). front ++ t) tells.2 ∙ sym (append_assoc front tells.0 (one ++ tells.1)),
  tells.3,
)

tells_then : (told more : List (List ℕ)) (text behind : List ℕ) → Tells told text → Tells more behind → Tells (told ++ more) (text ++ behind)
tells_then [] more text behind none tells = tells_behind more text behind tells
tells_then (one ∷ others) more text behind first tells = (
  first.0,
  first.1 ++ behind,
  ap (λ (t : List ℕ). t ++ behind) first.2
      ∙ (append_assoc first.0 (one ++ first.1) behind ∙ ap (λ (t : List ℕ). first.0 ++ t) (append_assoc one first.1 behind)),
  tells_then others more first.1 behind first.3 tells,
)

-- nothing is added, and this
pub adds_none : (old : List ℕ) → Adds [] old old
adds_none old = record { added = []; is = sym (append-nil old); tells = tt }

pub adds_text : (old one new : List ℕ) → new ≡ old ++ one → Adds (one ∷ []) old new
adds_text old one new is = record { added = one; is = is; tells = ([], [], sym (append-nil one), tt) }

pub adds_one : (old one : List ℕ) → Adds (one ∷ []) old (old ++ one)
adds_one old one = adds_text old one (old ++ one) refl

-- and then more
pub adds_then : (told more : List (List ℕ)) (old mid new : List ℕ) → Adds told old mid → Adds more mid new → Adds (told ++ more) old new
adds_then told more old mid new first next = record {
  added = first.added ++ next.added;
  is = next.is ∙ (ap (λ (t : List ℕ). t ++ next.added) first.is ∙ append_assoc old first.added next.added);
  tells = tells_then told more first.added next.added first.tells next.tells;
}

-- before it something else, and after it
pub adds_before : (told : List (List ℕ)) (old front new : List ℕ) → Adds told (old ++ front) new → Adds told old new
adds_before told old front new adds = record {
  added = front ++ adds.added;
  is = adds.is ∙ append_assoc old front adds.added;
  tells = tells_behind told front adds.added adds.tells;
}

pub adds_on : (told : List (List ℕ)) (old mid behind : List ℕ) → Adds told old mid → Adds told old (mid ++ behind)
adds_on told old mid behind adds =
    subst (λ (l : List (List ℕ)). Adds l old (mid ++ behind)) (append-nil told) (adds_then told [] old mid (mid ++ behind) adds (record { added = behind; is = refl; tells = tt }))

-- something else and this, and something else after it
pub adds_behind : (old front one : List ℕ) → Adds (one ∷ []) old ((old ++ front) ++ one)
adds_behind old front one = adds_before (one ∷ []) old front ((old ++ front) ++ one) (adds_one (old ++ front) one)

pub adds_between : (old front one behind : List ℕ) → Adds (one ∷ []) old (((old ++ front) ++ one) ++ behind)
adds_between old front one behind = adds_on (one ∷ []) old ((old ++ front) ++ one) behind (adds_behind old front one)

-- this, something else, and that
pub adds_two : (old one between other behind : List ℕ) → Adds (one ∷ other ∷ []) old ((((old ++ one) ++ between) ++ other) ++ behind)
adds_two old one between other behind =
    let mid = (old ++ one) ++ between in
    adds_on (one ∷ other ∷ []) old (mid ++ other) behind
    (adds_then (one ∷ []) (other ∷ []) old (old ++ one) (mid ++ other) (adds_one old one) (adds_behind (old ++ one) between other))

-- a text that is added to nothing
pub tells_whole : (told : List (List ℕ)) (text : List ℕ) → Adds told [] text → Tells told text
tells_whole told text adds = subst (Tells told) (sym adds.is) adds.tells

-- what is told of each of some, with one more
pub told_more : {A : Type 0} (f : A → List (List ℕ)) (xs : List A) (x : A) → all_told f (xs ++ x ∷ []) ≡ all_told f xs ++ f x
told_more f [] x = append-nil (f x)
told_more f (y ∷ xs) x = ap (λ (l : List (List ℕ)). f y ++ l) (told_more f xs x) ∙ sym (append_assoc (f y) (all_told f xs) (f x))

-- where they are the first of others
pub adds_next : {A : Type 0} (f : A → List (List ℕ)) (xs : List A) (i : ℕ) (x : A) (old mid new : List ℕ) → i < length xs → get_or xs i x ≡ x
    → Adds (all_told f (take i xs)) old mid → Adds (f x) mid new → Adds (all_told f (take (i + 1) xs)) old new
adds_next f xs i x old mid new lt found so_far next =
    subst (λ l. Adds (all_told f l) old new) (sym (take_more xs i x lt ∙ ap (λ y. take i xs ++ y ∷ []) found))
    (subst (λ (told : List (List ℕ)). Adds told old new) (sym (told_more f (take i xs) x)) (adds_then (all_told f (take i xs)) (f x) old mid new so_far next))

-- the first n of no more than n are all
pub adds_all : {A : Type 0} (f : A → List (List ℕ)) (xs : List A) (i : ℕ) (old new : List ℕ) → length xs ≤ i → Adds (all_told f (take i xs)) old new → Adds (all_told f xs) old new
adds_all f xs i old new all adds = subst (λ l. Adds (all_told f l) old new) (take_all i xs all) adds
