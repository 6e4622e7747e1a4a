-- Lists threaded through words: which words they rest on, and what becomes of them when one of them is threaded anew.
use Rattle.tlsf_words.proofs.Common.{◌≡◌, ◌≢◌, ℕ, zero, suc, ◌+◌, ◌^◌, ◌<◌, ◌≤◌, Bool, true, false, cond, not, eqb, List, [], ◌∷◌, length, get_or, refl, sym, ap, ◌∙◌, subst, inl, inr, arith, AllByRecursion, Contains, cases_eq, eqb-true, eq-eqb, ne_eqb, filter_agree, IsLevel, classes, low_half, nowhere, places_from, list_of, first_of, LinkedFrom, AreDistinct, listed_classes, AreThreaded}
use Rattle.tlsf_class.proofs.TwoLevels.{by_level}
use Rattle.tlsf_words.proofs.FieldLaws.{low_half-links_word}
use Rattle.tlsf_words.proofs.PlaceLists.{member_here, member_behind, first_member, all_member, all_weaker, distinct_few}

-- a list that a head begins begins there
pub head-list_of : (heads words : List ℕ) (class : ℕ) → get_or heads class nowhere ≡ first_of (list_of heads words class)
unfolding list_of places_from
head-list_of heads words class = at_head (get_or heads class nowhere) (places_from (length words) words (low_half (get_or words (get_or heads class nowhere + 2) 0)))
  where
    at_head : (head : ℕ) (places : List ℕ) → head ≡ first_of (cond (eqb head nowhere) [] (head ∷ places))
    at_head head places = elim (eqb head nowhere) as (λ b. (eqb head nowhere ≡ b) → head ≡ first_of (cond b [] (head ∷ places))) [
      | true ↦ λ e. eqb-true head nowhere e
      | false ↦ λ e. refl
    ] refl

-- the places that are read rest on their own links alone
places_from-kept : (most : ℕ) (w v : List ℕ) (at : ℕ) → ((p : ℕ) → Contains (places_from most w at) p → get_or v (p + 2) 0 ≡ get_or w (p + 2) 0) → places_from most v at ≡ places_from most w at
unfolding places_from
places_from-kept zero w v at same = refl
places_from-kept (suc most) w v at same =
    elim (eqb at nowhere) as (λ b. ((p : ℕ) → Contains (cond b [] (at ∷ places_from most w (low_half (get_or w (at + 2) 0)))) p → get_or v (p + 2) 0 ≡ get_or w (p + 2) 0) → cond b [] (at ∷ places_from most v (low_half (get_or v (at + 2) 0))) ≡ cond b [] (at ∷ places_from most w (low_half (get_or w (at + 2) 0)))) [
      | true ↦ λ same. refl
      | false ↦ λ same.
          ap (λ (k : ℕ). at ∷ places_from most v (low_half k)) (same at (member_here at (places_from most w (low_half (get_or w (at + 2) 0)))))
          ∙ ap (λ (l : List ℕ). at ∷ l) (places_from-kept most w v (low_half (get_or w (at + 2) 0)) (λ p m. same p (member_behind at (places_from most w (low_half (get_or w (at + 2) 0))) p m)))
    ] same

-- so a list rests on its head and the links of its places
pub list_of-kept : (heads new_heads w v : List ℕ) (class : ℕ) → get_or new_heads class nowhere ≡ get_or heads class nowhere → length v ≡ length w
    → ((at : ℕ) → Contains (list_of heads w class) at → get_or v (at + 2) 0 ≡ get_or w (at + 2) 0) → list_of new_heads v class ≡ list_of heads w class
unfolding list_of
list_of-kept heads new_heads w v class head long same =
    ap (λ (k : ℕ). places_from (suc (length v)) v k) head
    ∙ ap (λ (n : ℕ). places_from (suc n) v (get_or heads class nowhere)) long
    ∙ places_from-kept (suc (length w)) w v (get_or heads class nowhere) same

-- links rest on the words of their places alone
pub linked-kept : (w v : List ℕ) (previous : ℕ) (places : List ℕ) → length v ≡ length w → ((at : ℕ) → Contains places at → get_or v (at + 2) 0 ≡ get_or w (at + 2) 0) → LinkedFrom w previous places → LinkedFrom v previous places
linked-kept w v previous [] long same linked = tt
linked-kept w v previous (p ∷ places) long same linked =
    (same p (member_here p places) ∙ linked.0, omega (arith, linked.1, long), linked-kept w v p places long (λ at m. same at (member_behind p places at m)) linked.2)

-- where a list begins at a place, the list has it
pub head_listed : (heads words : List ℕ) (class : ℕ) → get_or heads class nowhere ≢ nowhere → Contains (list_of heads words class) (get_or heads class nowhere)
head_listed heads words class some =
    let head = head-list_of heads words class in
    subst (Contains (list_of heads words class)) (sym head) (first_member (list_of heads words class) (λ e. some (head ∙ e)))

-- linked places have their links inside
pub linked_within : (w : List ℕ) (previous : ℕ) (places : List ℕ) → LinkedFrom w previous places → AllByRecursion (λ p. p + 2 < length w) places
linked_within w previous [] linked = tt
linked_within w previous (p ∷ places) linked = (linked.1, linked_within w p places linked.2)

-- where linked places begin fits half a word
pub first_small : (w : List ℕ) (previous : ℕ) (places : List ℕ) → length w ≤ 2 ^ 24 → LinkedFrom w previous places → first_of places < 2 ^ 32
first_small w previous [] small linked = omega arith
first_small w previous (p ∷ places) small linked = omega (arith, linked.1)

-- the places that are read are those that are linked
places_from-linked : (most : ℕ) (w : List ℕ) (previous : ℕ) (places : List ℕ) → length w ≤ 2 ^ 24 → length places ≤ most → LinkedFrom w previous places → places_from most w (first_of places) ≡ places
unfolding places_from
places_from-linked zero w previous [] small few linked = refl
places_from-linked zero w previous (p ∷ places) small few linked = absurd (omega (arith, few))
places_from-linked (suc most) w previous [] small few linked = refl
places_from-linked (suc most) w previous (p ∷ places) small few linked =
    let inside : p ≢ nowhere = λ e. omega (arith, linked.1, e) in
    ap (λ (b : Bool). cond b [] (p ∷ places_from most w (low_half (get_or w (p + 2) 0)))) (ne_eqb p nowhere inside)
    ∙ ap (λ (k : ℕ). p ∷ places_from most w (low_half k)) linked.0
    ∙ ap (λ (k : ℕ). p ∷ places_from most w k) (low_half-links_word (first_of places) previous (first_small w p places small linked.2))
    ∙ ap (λ (l : List ℕ). p ∷ l) (places_from-linked most w p places small (omega arith) linked.2)

-- linked places that differ are the list that begins at the first of them
list_of-linked : (heads w : List ℕ) (class : ℕ) (places : List ℕ) → length w ≤ 2 ^ 24 → get_or heads class nowhere ≡ first_of places → LinkedFrom w nowhere places → AreDistinct places → list_of heads w class ≡ places
unfolding list_of
list_of-linked heads w class places small head linked distinct =
    ap (places_from (suc (length w)) w) head
    ∙ places_from-linked (suc (length w)) w nowhere places small (omega (arith, distinct_few places (length w) distinct below)) linked
  where
    below : AllByRecursion (λ p. p < length w) places
    below = all_weaker (λ p. p + 2 < length w) (λ p. p < length w) (λ p h. omega arith) places (linked_within w nowhere places linked)

-- the conditions by which these lists are threaded
pub record AreLists (sli : ℕ) (heads members w : List ℕ) (lists : ℕ → List ℕ) : Type 0 where
  pub is : (class : ℕ) → list_of heads w class ≡ lists class
  pub linked : (class : ℕ) → LinkedFrom w nowhere (lists class)
  pub distinct : (class : ℕ) → AreDistinct (lists class)
  pub apart : (a b at : ℕ) → Contains (lists a) at → Contains (lists b) at → a ≡ b
  pub marked : members ≡ listed_classes sli lists
  pub in_use : (class : ℕ) → (lists class ≡ [] → ⊥) → Contains (classes sli) class

are_threaded : (sli : ℕ) → (heads members w : List ℕ) (lists : ℕ → List ℕ) → AreLists sli heads members w lists → AreThreaded sli heads members w
are_threaded sli heads members w lists l = record {
  linked = λ class. subst (LinkedFrom w nowhere) (sym (l.is class)) (l.linked class);
  distinct = λ class. subst AreDistinct (sym (l.is class)) (l.distinct class);
  apart = λ a b at m n. l.apart a b at (subst (λ (ps : List ℕ). Contains ps at) (l.is a) m) (subst (λ (ps : List ℕ). Contains ps at) (l.is b) n);
  marked = l.marked ∙ filter_agree (λ class. not (eqb (length (lists class)) 0)) (λ class. not (eqb (length (list_of heads w class)) 0)) (λ class. ap (λ (ps : List ℕ). not (eqb (length ps) 0)) (sym (l.is class))) (classes sli);
  in_use = λ class some. l.in_use class (λ e. some (l.is class ∙ e));
}

-- threaded lists stay as they are where their places' links stay
pub kept : (sli : ℕ) → (heads members w v : List ℕ) → AreThreaded sli heads members w → length v ≡ length w
    → ((class at : ℕ) → Contains (list_of heads w class) at → get_or v (at + 2) 0 ≡ get_or w (at + 2) 0)
    → AreThreaded sli heads members v × ((class : ℕ) → list_of heads v class ≡ list_of heads w class)
kept sli heads members w v t long same = (
  are_threaded sli heads members v (list_of heads w) record {
    is = stays;
    linked = λ class. linked-kept w v nowhere (list_of heads w class) long (same class) (t.linked class);
    distinct = t.distinct;
    apart = t.apart;
    marked = t.marked;
    in_use = t.in_use;
  },
  stays,
)
  where
    stays : (class : ℕ) → list_of heads v class ≡ list_of heads w class
    stays class = list_of-kept heads heads w v class refl long (same class)

-- a listed place has its links inside
pub listed_within : (sli : ℕ) → (heads members w : List ℕ) → AreThreaded sli heads members w → (class at : ℕ) → Contains (list_of heads w class) at → at + 2 < length w
listed_within sli heads members w t class at m = all_member (λ p. p + 2 < length w) (list_of heads w class) at (linked_within w nowhere (list_of heads w class) (t.linked class)) m

-- lists of which one has become these places
abbrev pub with_list : (ℕ → List ℕ) → ℕ → List ℕ → ℕ → List ℕ
with_list lists class places c = cond (eqb c class) places (lists c)

-- what holds of the new list and of all others holds of each
pub with_list-each : (P : ℕ → List ℕ → Type 0) (lists : ℕ → List ℕ) (class : ℕ) (places : List ℕ) → P class places → ((c : ℕ) → c ≢ class → P c (lists c)) → (c : ℕ) → P c (with_list lists class places c)
with_list-each P lists class places here others c = elim (cases_eq c class) [
  | inl e ↦ subst (λ (b : Bool). P c (cond b places (lists c))) (sym (eq-eqb c class e)) (subst (λ (d : ℕ). P d places) (sym e) here)
  | inr n ↦ subst (λ (b : Bool). P c (cond b places (lists c))) (sym (ne_eqb c class n)) (others c n)
]

-- the list of one class is threaded anew, and no other list is touched
pub record NewList (sli : ℕ) (heads members w : List ℕ) (class : ℕ) (places new_heads new_members v : List ℕ) : Type 0 where
  pub small : length w ≤ 2 ^ 24
  pub long : length v ≡ length w
  pub head : get_or new_heads class nowhere ≡ first_of places
  pub heads_kept : (c : ℕ) → c ≢ class → get_or new_heads c nowhere ≡ get_or heads c nowhere
  pub linked : LinkedFrom v nowhere places
  pub distinct : AreDistinct places
  pub words_kept : (c : ℕ) → c ≢ class → (at : ℕ) → Contains (list_of heads w c) at → get_or v (at + 2) 0 ≡ get_or w (at + 2) 0
  pub apart : (c at : ℕ) → Contains places at → Contains (list_of heads w c) at → c ≡ class
  pub marked : new_members ≡ listed_classes sli (with_list (list_of heads w) class places)
  pub in_use : Contains (classes sli) class

-- what is threaded then
module _ (sli : ℕ) (heads members w : List ℕ) (class : ℕ) (places new_heads new_members v : List ℕ) (t : AreThreaded sli heads members w) (r : NewList sli heads members w class places new_heads new_members v) where
  -- the class has the new list
  pub NewList-list : list_of new_heads v class ≡ places
  NewList-list = list_of-linked new_heads v class places (omega (arith, r.small, r.long)) r.head r.linked r.distinct

  -- each other class has the list that it had
  pub NewList-others : (c : ℕ) → c ≢ class → list_of new_heads v c ≡ list_of heads w c
  NewList-others c n = list_of-kept heads new_heads w v c (r.heads_kept c n) r.long (r.words_kept c n)

  abbrev lists : ℕ → List ℕ
  lists = with_list (list_of heads w) class places

  lists_apart : (a b at : ℕ) → Contains (lists a) at → Contains (lists b) at → a ≡ b
  lists_apart a b = with_list-each (λ a ps. (at : ℕ) → Contains ps at → Contains (lists b) at → a ≡ b) (list_of heads w) class places
      (with_list-each (λ b qs. (at : ℕ) → Contains places at → Contains qs at → class ≡ b) (list_of heads w) class places (λ at m n. refl) (λ c _ at m n. sym (r.apart c at m n)) b)
      (λ c n. with_list-each (λ b qs. (at : ℕ) → Contains (list_of heads w c) at → Contains qs at → c ≡ b) (list_of heads w) class places (λ at m k. r.apart c at k m) (λ d _ at m k. t.apart c d at m k) b)
      a

  -- and the lists are threaded
  pub NewList-threaded : AreThreaded sli new_heads new_members v
  NewList-threaded = are_threaded sli new_heads new_members v lists record {
    is = with_list-each (λ c ps. list_of new_heads v c ≡ ps) (list_of heads w) class places NewList-list NewList-others;
    linked = with_list-each (λ c ps. LinkedFrom v nowhere ps) (list_of heads w) class places r.linked (λ c n. linked-kept w v nowhere (list_of heads w c) r.long (r.words_kept c n) (t.linked c));
    distinct = with_list-each (λ c ps. AreDistinct ps) (list_of heads w) class places r.distinct (λ c n. t.distinct c);
    apart = lists_apart;
    marked = r.marked;
    in_use = with_list-each (λ c ps. (ps ≡ [] → ⊥) → Contains (classes sli) c) (list_of heads w) class places (λ _. r.in_use) (λ c n. t.in_use c);
  }

-- a list that begins nowhere is empty
pub list_of-nowhere : (heads w : List ℕ) (class : ℕ) → get_or heads class nowhere ≡ nowhere → list_of heads w class ≡ []
unfolding list_of places_from
list_of-nowhere heads w class none = ap (places_from (suc (length w)) w) none

-- where all lists are empty no class is listed
empty_4 : [] ≡ listed_classes 4 (λ _. [])
unfolding classes
empty_4 = refl

empty_5 : [] ≡ listed_classes 5 (λ _. [])
unfolding classes
empty_5 = refl

none_listed : (sli : ℕ) → IsLevel sli → [] ≡ listed_classes sli (λ _. [])
none_listed = by_level (λ sli. [] ≡ listed_classes sli (λ _. [])) empty_4 empty_5

-- no list has a place
pub threaded-none : (sli : ℕ) → IsLevel sli → (heads members w : List ℕ) → ((class : ℕ) → get_or heads class nowhere ≡ nowhere) → members ≡ [] → AreThreaded sli heads members w
threaded-none sli level heads members w none unmarked = are_threaded sli heads members w (λ _. []) record {
  is = λ class. list_of-nowhere heads w class (none class);
  linked = λ class. tt;
  distinct = λ class. tt;
  apart = λ a b at m n. absurd (omega (arith, m.1));
  marked = unmarked ∙ none_listed sli level;
  in_use = λ class some. absurd (some refl);
}
