-- A place is put at the head of a list.
use Rattle.tlsf_words.proofs.Common.{◌≡◌, ◌≢◌, ℕ, ◌+◌, ◌-◌, ◌^◌, ◌<◌, ◌≤◌, List, [], ◌∷◌, length, get_or, set, refl, sym, ap, ◌∙◌, subst, inl, inr, arith, get_or-set_same, get_or-set_other, Contains, cases_eq, length-set, length-range_with_len, get_or-range_with_len, IsLevel, last_class, classes, with_member, low_half, links_word, nowhere, list_of, first_of, LinkedFrom, AreDistinct, listed_classes, IsUnlisted, OnlyLinksChange, ListHeads, AreThreaded}
use Rattle.tlsf_words.proofs.FieldLaws.{low_half-links_word}
use Rattle.tlsf_words.proofs.ListedClasses.{some-cons, some-first, listed-with, listed-same}
use Rattle.tlsf_words.proofs.PlaceLists.{member_here, member_behind, member_cases, first_member, all_member, all_from_members}
use Rattle.tlsf_class.proofs.TwoLevels.{bounds_of}
use Rattle.tlsf_words.specs.Relinks.{ListsLeast, Relists}
use Rattle.tlsf_words.proofs.Threads.{head-list_of, list_of-nowhere, threaded-none, head_listed, listed_within, first_small, linked-kept, with_list, NewList, NewList-list, NewList-others, NewList-threaded}

-- the links of a place at the head, which comes before `next`
pub record IsAtHead (w v : List ℕ) (at next : ℕ) : Type 0 where
  pub here : get_or v (at + 2) 0 ≡ links_word next nowhere
  pub behind : next ≢ nowhere → get_or v (next + 2) 0 ≡ links_word (low_half (get_or w (next + 2) 0)) at
  pub others : (k : ℕ) → k ≢ at + 2 → (next ≢ nowhere → k ≢ next + 2) → get_or v k 0 ≡ get_or w k 0

-- so are those of the first place of a list
pub IsAtHead-alone : (w v : List ℕ) (at next : ℕ) → at + 2 < length w → v ≡ set w (at + 2) (links_word next nowhere) → next ≡ nowhere → IsAtHead w v at next
IsAtHead-alone w v at next inside is none = record {
  here = ap (λ (u : List ℕ). get_or u (at + 2) 0) is ∙ get_or-set_same w (at + 2) (links_word next nowhere) 0 inside;
  behind = λ some. absurd (some none);
  others = λ k n _. ap (λ (u : List ℕ). get_or u k 0) is ∙ get_or-set_other w (at + 2) k (links_word next nowhere) 0 n;
}

-- and those of a place before another, whose links name it then
pub IsAtHead-more : (w u v : List ℕ) (at next : ℕ) → at + 2 < length w → next + 2 < length w → at ≢ next → next ≢ nowhere
    → u ≡ set w (at + 2) (links_word next nowhere) → v ≡ set u (next + 2) (links_word (low_half (get_or u (next + 2) 0)) at) → IsAtHead w v at next
IsAtHead-more w u v at next inside next_inside apart some is then =
    let within : next + 2 < length u = omega (arith, ap length is, length-set w (at + 2) (links_word next nowhere)) in
    let written = links_word (low_half (get_or u (next + 2) 0)) at in
    record {
      here =
          ap (λ (t : List ℕ). get_or t (at + 2) 0) then ∙ get_or-set_other u (next + 2) (at + 2) written 0 (λ e. apart (omega (arith, e)))
          ∙ ap (λ (t : List ℕ). get_or t (at + 2) 0) is ∙ get_or-set_same w (at + 2) (links_word next nowhere) 0 inside;
      behind = λ _.
          ap (λ (t : List ℕ). get_or t (next + 2) 0) then ∙ get_or-set_same u (next + 2) written 0 within
          ∙ ap (λ (t : List ℕ). links_word (low_half (get_or t (next + 2) 0)) at) is
          ∙ ap (λ (k : ℕ). links_word (low_half k) at) (get_or-set_other w (at + 2) (next + 2) (links_word next nowhere) 0 (λ e. apart (omega (arith, e))));
      others = λ k n f.
          ap (λ (t : List ℕ). get_or t k 0) then ∙ get_or-set_other u (next + 2) k written 0 (f some)
          ∙ ap (λ (t : List ℕ). get_or t k 0) is ∙ get_or-set_other w (at + 2) k (links_word next nowhere) 0 n;
    }

-- then the places are linked
linked-at_head : (w v : List ℕ) (at : ℕ) (places : List ℕ) → length w ≤ 2 ^ 24 → length v ≡ length w → at + 2 < length w → IsAtHead w v at (first_of places) → AreDistinct (at ∷ places) → LinkedFrom w nowhere places → LinkedFrom v nowhere (at ∷ places)
linked-at_head w v at [] small long inside is_head distinct linked = (is_head.here, omega (arith, inside, long), tt)
linked-at_head w v at (p ∷ places) small long inside is_head distinct linked = (
  is_head.here,
  omega (arith, inside, long),
  (
    is_head.behind (λ e. omega (arith, linked.1, e)) ∙ ap (λ (k : ℕ). links_word k at) (ap low_half linked.0 ∙ low_half-links_word (first_of places) nowhere (first_small w p places small linked.2)),
    omega (arith, linked.1, long),
    linked-kept w v p places long (λ q m. is_head.others (q + 2) (λ e. all_member (λ y. at ≢ y) places q distinct.0.1 m (omega (arith, e))) (λ _ e. all_member (λ y. p ≢ y) places q distinct.1.0 m (omega (arith, e)))) linked.2,
  ),
)

-- the classes in use
pub class_in_use : (sli : ℕ) → IsLevel sli → (class : ℕ) → 4 ≤ class → class ≤ last_class sli → Contains (classes sli) class
unfolding classes
class_in_use sli level class least most = (class - 4, omega (arith, length-range_with_len 4 (last_class sli - 3)), get_or-range_with_len 4 (last_class sli - 3) (class - 4) class (omega arith) ∙ omega arith)

-- a place where a list begins is inside
pub next_within : (sli : ℕ) → (heads members w : List ℕ) (class next : ℕ) → AreThreaded sli heads members w → next ≡ get_or heads class nowhere → next ≢ nowhere → next + 2 < length w
next_within sli heads members w class next t e some =
    let within = listed_within sli heads members w t class (get_or heads class nowhere) (head_listed heads w class (λ f. some (e ∙ f))) in
    omega (arith, e, within)

-- and differs from one that is in no list
pub next_apart : (heads w : List ℕ) (class at next : ℕ) → IsUnlisted (list_of heads w) at → next ≡ get_or heads class nowhere → next ≢ nowhere → at ≢ next
next_apart heads w class at next unlisted e some same =
    unlisted class (subst (Contains (list_of heads w class)) (sym (same ∙ e)) (head_listed heads w class (λ f. some (e ∙ f))))

-- what a push writes
pub record PushWrites (sli : ℕ) (heads members w : List ℕ) (class at : ℕ) (new_heads new_members v : List ℕ) : Type 0 where
  pub level : IsLevel sli
  pub small : length w ≤ 2 ^ 24
  pub inside : at + 2 < length w
  pub unlisted : IsUnlisted (list_of heads w) at
  pub in_use : Contains (classes sli) class
  pub long : length v ≡ length w
  pub at_head : IsAtHead w v at (get_or heads class nowhere)
  pub head : get_or new_heads class nowhere ≡ at
  pub heads_kept : (c : ℕ) → c ≢ class → get_or new_heads c nowhere ≡ get_or heads c nowhere
  pub was_empty : get_or heads class nowhere ≡ nowhere → new_members ≡ with_member sli members class
  pub was_some : get_or heads class nowhere ≢ nowhere → new_members ≡ members

module _ (sli : ℕ) (heads members w : List ℕ) (class at : ℕ) (new_heads new_members v : List ℕ) (t : AreThreaded sli heads members w) (p : PushWrites sli heads members w class at new_heads new_members v) where
  abbrev old : List ℕ
  old = list_of heads w class

  is_head : IsAtHead w v at (first_of old)
  is_head = subst (IsAtHead w v at) (head-list_of heads w class) p.at_head

  distinct : AreDistinct (at ∷ old)
  distinct = (all_from_members (λ y. at ≢ y) old (λ y m e. p.unlisted class (subst (Contains old) (sym e) m)), t.distinct class)

  marked : new_members ≡ listed_classes sli (with_list (list_of heads w) class (at ∷ old))
  marked = elim (cases_eq (get_or heads class nowhere) nowhere) [
    | inl none ↦ p.was_empty none ∙ ap (λ (ms : List ℕ). with_member sli ms class) t.marked ∙ listed-with sli (list_of heads w) class (at ∷ old) p.level (some-cons at old)
    | inr some ↦ p.was_some some ∙ t.marked ∙ listed-same sli (list_of heads w) class (at ∷ old) (some-first old (λ e. some (head-list_of heads w class ∙ e))) (some-cons at old)
  ]

  -- no place of another list is the head or the one behind it
  words_kept : (c : ℕ) → c ≢ class → (q : ℕ) → Contains (list_of heads w c) q → get_or v (q + 2) 0 ≡ get_or w (q + 2) 0
  words_kept c n q m = is_head.others (q + 2)
      (λ e. let same : q ≡ at = omega (arith, e) in p.unlisted c (subst (Contains (list_of heads w c)) same m))
      (λ some e. let same : first_of old ≡ q = omega (arith, e) in n (t.apart c class q m (subst (Contains old) same (first_member old some))))

  -- the list of its class is a new one, and no other is
  pub new_list : NewList sli heads members w class (at ∷ old) new_heads new_members v
  new_list = record {
    small = p.small;
    long = p.long;
    head = p.head;
    heads_kept = p.heads_kept;
    linked = linked-at_head w v at old p.small p.long p.inside is_head distinct (t.linked class);
    distinct = distinct;
    words_kept = words_kept;
    apart = λ c q m n. elim (member_cases at old q m) [
      | inl same ↦ absurd (p.unlisted c (subst (Contains (list_of heads w c)) (sym same) n))
      | inr behind ↦ t.apart c class q n behind
    ];
    marked = marked;
    in_use = p.in_use;
  }

  -- so the lists are threaded
  push-threaded : AreThreaded sli new_heads new_members v
  push-threaded = NewList-threaded sli heads members w class (at ∷ old) new_heads new_members v t new_list

  -- that list has the place at its head
  push-list : list_of new_heads v class ≡ at ∷ old
  push-list = NewList-list sli heads members w class (at ∷ old) new_heads new_members v t new_list

  -- the other lists stay
  push-others : (c : ℕ) → c ≢ class → list_of new_heads v c ≡ list_of heads w c
  push-others = NewList-others sli heads members w class (at ∷ old) new_heads new_members v t new_list

  listed : (q : ℕ) → Contains (at ∷ old) q → Contains (list_of new_heads v class) q
  listed q m = subst (λ (ps : List ℕ). Contains ps q) (sym push-list) m

  -- and no word changes but links
  push-words : OnlyLinksChange (list_of new_heads v) w v
  push-words k apart = is_head.others k (apart class at (listed at (member_here at old))) (λ some. apart class (first_of old) (listed (first_of old) (member_behind at old (first_of old) (first_member old some))))

-- a push, as its contract says it
pub pushed : {sli : ℕ} {old new : ListHeads} {w v : List ℕ} {class at : ℕ} → AreThreaded sli old.heads old.members w
    → PushWrites sli old.heads old.members w class at new.heads new.members v → Relists sli class (at ∷ list_of old.heads w class) old w new v
pushed {sli = sli} {old = old} {new = new} {w = w} {v = v} {class = class} {at = at} t p = record {
  threaded = push-threaded sli old.heads old.members w class at new.heads new.members v t p;
  list = push-list sli old.heads old.members w class at new.heads new.members v t p;
  others = push-others sli old.heads old.members w class at new.heads new.members v t p;
  words = push-words sli old.heads old.members w class at new.heads new.members v t p;
}

-- the place 0 is put into lists that have none, into that of 4 words, and its links name none
pub least_listed : (sli : ℕ) → IsLevel sli → (none heads members w : List ℕ) → ((class : ℕ) → get_or none class nowhere ≡ nowhere)
    → get_or heads 4 nowhere ≡ 0 → ((class : ℕ) → class ≢ 4 → get_or heads class nowhere ≡ get_or none class nowhere) → members ≡ with_member sli [] 4
    → 2 < length w → length w ≤ 2 ^ 24 → get_or w 2 0 ≡ links_word nowhere nowhere → ListsLeast sli heads members w
least_listed sli level none heads members w nothing head kept marked inside small links =
    let empty : (class : ℕ) → list_of none w class ≡ [] = λ class. list_of-nowhere none w class (nothing class) in
    let writes : PushWrites sli none [] w 4 0 heads members w = record {
      level = level;
      small = small;
      inside = inside;
      unlisted = λ class listed. absurd (omega (arith, listed.1, ap (length {A = ℕ}) (empty class)));
      in_use = class_in_use sli level 4 (omega arith) (omega (arith, (bounds_of sli level).last_least));
      long = refl;
      at_head = record {
        here = links ∙ ap (λ (n : ℕ). links_word n nowhere) (sym (nothing 4));
        behind = λ some. absurd (some (nothing 4));
        others = λ k _ _. refl;
      };
      head = head;
      heads_kept = kept;
      was_empty = λ _. marked;
      was_some = λ some. absurd (some (nothing 4));
    } in
    let threaded = threaded-none sli level none [] w nothing refl in
    record {
      threaded = push-threaded sli none [] w 4 0 heads members w threaded writes;
      list = push-list sli none [] w 4 0 heads members w threaded writes ∙ ap (λ (places : List ℕ). 0 ∷ places) (empty 4);
      others = λ class other. push-others sli none [] w 4 0 heads members w threaded writes class other ∙ empty class;
    }
