-- A place is taken out of its list by its own links.
use Rattle.tlsf_words.proofs.Common.{◌≡◌, ◌≢◌, ℕ, ◌+◌, ◌^◌, ◌<◌, ◌≤◌, true, List, [], ◌∷◌, ◌++◌, length, get_or, refl, sym, ap, ◌∙◌, subst, inl, inr, arith, AllByRecursion, Contains, cases_eq, Contains-append_left, Contains-append_right, without_member, low_half, high_half, links_word, nowhere, list_of, first_of, LinkedFrom, AreDistinct, without_place, listed_classes, OnlyLinksChange, ListHeads, AreThreaded, AreTied}
use Rattle.tlsf_words.proofs.FieldLaws.{low_half-links_word, high_half-links_word}
use Rattle.tlsf_words.proofs.ListedClasses.{are_some, some-member, none-first, listed-same, listed-without}
use Rattle.tlsf_words.proofs.PlaceLists.{last_of, Split, split_member, member_here, first_member, last_member, all_member, all_weaker, all_right, all_last, distinct_without, without_split, without_within}
use Rattle.tlsf_words.specs.Relinks.{Relists}
use Rattle.tlsf_words.proofs.Threads.{head-list_of, first_small, listed_within, with_list, NewList, NewList-list, NewList-others, NewList-threaded}

module _ (w v : List ℕ) (small : length w ≤ 2 ^ 24) (long : length v ≡ length w) (at next previous : ℕ) (tied : AreTied w v next previous) where
  -- places that are neither neighbour keep their links
  linked-apart : (before : ℕ) (places : List ℕ) → AllByRecursion (λ y. y ≢ previous) places → AllByRecursion (λ y. y ≢ next) places → LinkedFrom w before places → LinkedFrom v before places
  linked-apart before [] a b linked = tt
  linked-apart before (p ∷ places) a b linked = (
    tied.others (p + 2) (λ _ e. a.0 (omega (arith, e))) (λ _ e. b.0 (omega (arith, e))) ∙ linked.0,
    omega (arith, linked.1, long),
    linked-apart p places a.1 b.1 linked.2,
  )

  -- behind the place that goes
  linked-behind : (rest : List ℕ) → next ≡ first_of rest → AllByRecursion (λ y. y ≢ previous) rest → AreDistinct rest → LinkedFrom w at rest → LinkedFrom v previous rest
  linked-behind [] e a distinct linked = tt
  linked-behind (r ∷ rest) e a distinct linked =
      let some : next ≢ nowhere = λ f. omega (arith, e, f, linked.1) in
      let old : low_half (get_or w (r + 2) 0) ≡ first_of rest = ap low_half linked.0 ∙ low_half-links_word (first_of rest) at (first_small w r rest small linked.2) in (
        ap (λ (k : ℕ). get_or v (k + 2) 0) (sym e) ∙ tied.behind some ∙ ap (λ (k : ℕ). links_word (low_half (get_or w (k + 2) 0)) previous) e ∙ ap (λ (k : ℕ). links_word k previous) old,
        omega (arith, linked.1, long),
        linked-apart r rest a.1 (all_weaker (λ y. r ≢ y) (λ y. y ≢ next) (λ y n f. n (sym (f ∙ e))) rest distinct.0) linked.2,
      )

  -- what is left is linked
  linked-without : (before : ℕ) (prefix rest : List ℕ) → last_of before prefix ≡ previous → next ≡ first_of rest → AreDistinct (prefix ++ at ∷ rest) → AllByRecursion (λ y. y ≢ previous) rest → LinkedFrom w before (prefix ++ at ∷ rest) → LinkedFrom v before (prefix ++ rest)
  linked-without before [] rest b e distinct a linked = subst (λ (k : ℕ). LinkedFrom v k rest) (sym b) (linked-behind rest e a distinct.1 linked.2)
  linked-without before (x ∷ []) rest b e distinct a linked =
      let some : previous ≢ nowhere = λ f. omega (arith, b, f, linked.1) in
      let old : high_half (get_or w (x + 2) 0) ≡ before = ap high_half linked.0 ∙ high_half-links_word at before (omega (arith, linked.2.1)) in (
        ap (λ (k : ℕ). get_or v (k + 2) 0) b ∙ tied.before some ∙ ap (λ (k : ℕ). links_word next (high_half (get_or w (k + 2) 0))) (sym b) ∙ ap (links_word next) old ∙ ap (λ (k : ℕ). links_word k before) e,
        omega (arith, linked.1, long),
        subst (λ (k : ℕ). LinkedFrom v k rest) (sym b) (linked-behind rest e a distinct.1.1 linked.2.2),
      )
  linked-without before (x ∷ y ∷ prefix) rest b e distinct a linked =
      let not_previous : x ≢ previous = λ f. all_last (λ z. x ≢ z) y prefix (at ∷ rest) distinct.0 (f ∙ sym b) in
      let not_next : x ≢ next = λ f. not_first x rest (all_right (λ z. x ≢ z) (y ∷ prefix) (at ∷ rest) distinct.0).1 (omega (arith, linked.1)) (f ∙ e) in (
        tied.others (x + 2) (λ _ f. not_previous (omega (arith, f))) (λ _ f. not_next (omega (arith, f))) ∙ linked.0,
        omega (arith, linked.1, long),
        linked-without x (y ∷ prefix) rest b e distinct.1 a linked.2,
      )
    where
      not_first : (x : ℕ) (rest : List ℕ) → AllByRecursion (λ z. x ≢ z) rest → x < 2 ^ 24 → x ≢ first_of rest
      not_first x [] d inside = λ f. omega (arith, f, inside)
      not_first x (r ∷ rest) d inside = d.0

-- the links of a place are its neighbours
links_at : (w : List ℕ) (before at : ℕ) (prefix rest : List ℕ) → LinkedFrom w before (prefix ++ at ∷ rest) → (get_or w (at + 2) 0 ≡ links_word (first_of rest) (last_of before prefix)) × (at + 2 < length w) × LinkedFrom w at rest
links_at w before at [] rest linked = linked
links_at w before at (x ∷ prefix) rest linked = links_at w x at prefix rest linked.2

-- no place behind is the one before
behind_apart : (before at : ℕ) (prefix rest : List ℕ) → AllByRecursion (λ y. y ≢ before) (prefix ++ at ∷ rest) → AreDistinct (prefix ++ at ∷ rest) → AllByRecursion (λ y. y ≢ last_of before prefix) rest
behind_apart before at [] rest a distinct = a.1
behind_apart before at (x ∷ prefix) rest a distinct = behind_apart x at prefix rest (all_weaker (λ y. x ≢ y) (λ y. y ≢ x) (λ y n e. n (sym e)) (prefix ++ at ∷ rest) distinct.0) distinct.1

none_nowhere : (w : List ℕ) (before : ℕ) (places : List ℕ) → length w ≤ 2 ^ 24 → LinkedFrom w before places → AllByRecursion (λ y. y ≢ nowhere) places
none_nowhere w before [] small linked = tt
none_nowhere w before (p ∷ places) small linked = ((λ e. omega (arith, linked.1, e)), none_nowhere w p places small linked.2)

last_inside : (w : List ℕ) (x : ℕ) (prefix rest : List ℕ) → length w ≤ 2 ^ 24 → x + 2 < length w → LinkedFrom w x (prefix ++ rest) → last_of x prefix ≢ nowhere
last_inside w x [] rest small inside linked = λ e. omega (arith, e)
last_inside w x (y ∷ prefix) rest small inside linked = last_inside w y prefix rest small linked.1 linked.2

-- what a removal writes
pub record RemoveWrites (sli : ℕ) (heads members w : List ℕ) (class at next previous : ℕ) (new_heads new_members v : List ℕ) : Type 0 where
  pub next_is : next ≡ low_half (get_or w (at + 2) 0)
  pub previous_is : previous ≡ high_half (get_or w (at + 2) 0)
  pub long : length v ≡ length w
  pub tied : AreTied w v next previous
  pub first : previous ≡ nowhere → get_or new_heads class nowhere ≡ next
  pub later : previous ≢ nowhere → get_or new_heads class nowhere ≡ get_or heads class nowhere
  pub heads_kept : (c : ℕ) → c ≢ class → get_or new_heads c nowhere ≡ get_or heads c nowhere
  pub emptied : previous ≡ nowhere → next ≡ nowhere → new_members ≡ without_member members class
  pub left : (previous ≡ nowhere → next ≡ nowhere → ⊥) → new_members ≡ members

-- a place of a list, by its links
module _ (sli : ℕ) (heads members w : List ℕ) (class at : ℕ) (t : AreThreaded sli heads members w) (small : length w ≤ 2 ^ 24) (m : Contains (list_of heads w class) at) where
  abbrev old : List ℕ
  old = list_of heads w class

  parts : Split old at
  parts = split_member old at m

  abbrev prefix : List ℕ
  prefix = parts.0

  abbrev rest : List ℕ
  rest = parts.1

  linked : LinkedFrom w nowhere (prefix ++ at ∷ rest)
  linked = subst (LinkedFrom w nowhere) parts.2 (t.linked class)

  distinct : AreDistinct (prefix ++ at ∷ rest)
  distinct = subst AreDistinct parts.2 (t.distinct class)

  links : (get_or w (at + 2) 0 ≡ links_word (first_of rest) (last_of nowhere prefix)) × (at + 2 < length w) × LinkedFrom w at rest
  links = links_at w nowhere at prefix rest linked

  next_first : low_half (get_or w (at + 2) 0) ≡ first_of rest
  next_first = ap low_half links.0 ∙ low_half-links_word (first_of rest) (last_of nowhere prefix) (first_small w at rest small links.2)

  previous_last : high_half (get_or w (at + 2) 0) ≡ last_of nowhere prefix
  previous_last = ap high_half links.0 ∙ high_half-links_word (first_of rest) (last_of nowhere prefix) (first_small w at rest small links.2)

  left_is : without_place at old ≡ prefix ++ rest
  left_is = ap (without_place at) parts.2 ∙ without_split at prefix rest distinct

  left_listed : (q : ℕ) → Contains (prefix ++ rest) q → Contains old q
  left_listed q n = without_within at old q (subst (λ (ps : List ℕ). Contains ps q) (sym left_is) n)

  rest_apart : AllByRecursion (λ y. y ≢ last_of nowhere prefix) rest
  rest_apart = behind_apart nowhere at prefix rest (none_nowhere w nowhere (prefix ++ at ∷ rest) small linked) distinct

  first_left : (xs : List ℕ) → LinkedFrom w nowhere (xs ++ at ∷ rest) → last_of nowhere xs ≡ nowhere → xs ≡ []
  first_left [] h e = refl
  first_left (x ∷ xs) h e = absurd (last_inside w x xs (at ∷ rest) small h.1 h.2 e)

  -- where no place is before it, it is the first
  pub none_before : high_half (get_or w (at + 2) 0) ≡ nowhere → old ≡ at ∷ without_place at old
  none_before none =
      let empty : prefix ≡ [] = first_left prefix linked (sym previous_last ∙ none) in
      parts.2 ∙ ap (λ (ps : List ℕ). ps ++ at ∷ rest) empty ∙ ap (λ (ps : List ℕ). at ∷ ps) (sym (left_is ∙ ap (λ (ps : List ℕ). ps ++ rest) empty))

  module _ (next previous : ℕ) (next_is : next ≡ low_half (get_or w (at + 2) 0)) (previous_is : previous ≡ high_half (get_or w (at + 2) 0)) where
    next_left : next ≢ nowhere → Contains (prefix ++ rest) next
    next_left some =
        let e : next ≡ first_of rest = next_is ∙ next_first in
        subst (Contains (prefix ++ rest)) (sym e) (Contains-append_right prefix rest (first_of rest) (first_member rest (λ f. some (e ∙ f))))

    previous_left : previous ≢ nowhere → Contains (prefix ++ rest) previous
    previous_left some =
        let e : previous ≡ last_of nowhere prefix = previous_is ∙ previous_last in
        subst (Contains (prefix ++ rest)) (sym e) (Contains-append_left prefix rest (last_of nowhere prefix) (last_member prefix (λ f. some (e ∙ f))))

    -- the neighbours, where there are any, are in the list
    pub next_listed : next ≢ nowhere → Contains old next
    next_listed some = left_listed next (next_left some)

    pub previous_listed : previous ≢ nowhere → Contains old previous
    previous_listed some = left_listed previous (previous_left some)

    -- the neighbours, where there are any, have their links inside, and they differ
    pub next_within : next ≢ nowhere → next + 2 < length w
    next_within some = listed_within sli heads members w t class next (left_listed next (next_left some))

    pub previous_within : previous ≢ nowhere → previous + 2 < length w
    previous_within some = listed_within sli heads members w t class previous (left_listed previous (previous_left some))

    pub neighbours_apart : next ≢ nowhere → next ≢ previous
    neighbours_apart some e =
        let some_first : first_of rest ≢ nowhere = λ f. some (next_is ∙ next_first ∙ f) in
        all_member (λ y. y ≢ last_of nowhere prefix) rest (first_of rest) rest_apart (first_member rest some_first)
        (sym (next_is ∙ next_first) ∙ e ∙ previous_is ∙ previous_last)

  module _ (next previous : ℕ) (new_heads new_members v : List ℕ) (r : RemoveWrites sli heads members w class at next previous new_heads new_members v) where
    first_kept : (xs : List ℕ) → last_of nowhere xs ≢ nowhere → first_of (xs ++ at ∷ rest) ≡ first_of (xs ++ rest)
    first_kept [] some = absurd (some refl)
    first_kept (x ∷ xs) some = refl

    -- where no place stood before it, what stood behind it is left
    only_rest : previous ≡ nowhere → prefix ++ rest ≡ rest
    only_rest none = ap (λ (ps : List ℕ). ps ++ rest) (first_left prefix linked (sym (r.previous_is ∙ previous_last) ∙ none))

    head : get_or new_heads class nowhere ≡ first_of (prefix ++ rest)
    head = elim (cases_eq previous nowhere) [
      | inl none ↦ r.first none ∙ r.next_is ∙ next_first ∙ ap first_of (sym (only_rest none))
      | inr some ↦ r.later some ∙ head-list_of heads w class ∙ ap first_of parts.2 ∙ first_kept prefix (λ e. some (r.previous_is ∙ previous_last ∙ e))
    ]

    left_some : are_some (prefix ++ rest) ≡ true → (previous ≡ nowhere → next ≡ nowhere → ⊥) → new_members ≡ listed_classes sli (with_list (list_of heads w) class (prefix ++ rest))
    left_some some neighbour = r.left neighbour ∙ t.marked ∙ listed-same sli (list_of heads w) class (prefix ++ rest) (some-member old at m) some

    marked : new_members ≡ listed_classes sli (with_list (list_of heads w) class (prefix ++ rest))
    marked = elim (cases_eq previous nowhere) [
      | inl none ↦ elim (cases_eq next nowhere) [
        | inl last ↦
            r.emptied none last ∙ ap (λ (ms : List ℕ). without_member ms class) t.marked
            ∙ listed-without sli (list_of heads w) class (prefix ++ rest) (only_rest none ∙ none-first w at rest small links.2 (sym (r.next_is ∙ next_first) ∙ last))
        | inr some ↦ left_some (some-member (prefix ++ rest) next (next_left next previous r.next_is r.previous_is some)) (λ _ e. some e)
      ]
      | inr some ↦ left_some (some-member (prefix ++ rest) previous (previous_left next previous r.next_is r.previous_is some)) (λ e _. some e)
    ]

    words_kept : (c : ℕ) → c ≢ class → (q : ℕ) → Contains (list_of heads w c) q → get_or v (q + 2) 0 ≡ get_or w (q + 2) 0
    words_kept c n q member = r.tied.others (q + 2)
        (λ some e. other_place previous (previous_left next previous r.next_is r.previous_is some) (omega (arith, e)))
        (λ some e. other_place next (next_left next previous r.next_is r.previous_is some) (omega (arith, e)))
      where
        other_place : (p : ℕ) → Contains (prefix ++ rest) p → p ≡ q → ⊥
        other_place p left same = n (t.apart c class q member (subst (Contains old) same (left_listed p left)))

    new_list : NewList sli heads members w class (prefix ++ rest) new_heads new_members v
    new_list = record {
      small = small;
      long = r.long;
      head = head;
      heads_kept = r.heads_kept;
      linked = linked-without w v small r.long at next previous r.tied nowhere prefix rest (sym (r.previous_is ∙ previous_last)) (r.next_is ∙ next_first) distinct
          (subst (λ (k : ℕ). AllByRecursion (λ y. y ≢ k) rest) (sym (r.previous_is ∙ previous_last)) rest_apart) linked;
      distinct = distinct_without at prefix rest distinct;
      words_kept = words_kept;
      apart = λ c q left member. t.apart c class q member (left_listed q left);
      marked = marked;
      in_use = t.in_use class (λ e. not_empty old e m);
    }
      where
        not_empty : (ps : List ℕ) → ps ≡ [] → Contains ps at → ⊥
        not_empty ps e member = let none : length ps ≡ 0 = ap length e in absurd (omega (arith, member.1, none))

    -- so the lists are threaded
    remove-threaded : AreThreaded sli new_heads new_members v
    remove-threaded = NewList-threaded sli heads members w class (prefix ++ rest) new_heads new_members v t new_list

    -- that list is without the place
    remove-list : list_of new_heads v class ≡ without_place at old
    remove-list = NewList-list sli heads members w class (prefix ++ rest) new_heads new_members v t new_list ∙ sym left_is

    -- the other lists stay
    remove-others : (c : ℕ) → c ≢ class → list_of new_heads v c ≡ list_of heads w c
    remove-others = NewList-others sli heads members w class (prefix ++ rest) new_heads new_members v t new_list

    listed : (q : ℕ) → Contains (prefix ++ rest) q → Contains (list_of new_heads v class) q
    listed q left = subst (λ (ps : List ℕ). Contains ps q) (sym (remove-list ∙ left_is)) left

    -- and no word changes but links
    remove-words : OnlyLinksChange (list_of new_heads v) w v
    remove-words k apart = r.tied.others k
        (λ some. apart class previous (listed previous (previous_left next previous r.next_is r.previous_is some)))
        (λ some. apart class next (listed next (next_left next previous r.next_is r.previous_is some)))

-- a removal, as its contract says it
pub removed : {sli : ℕ} {old new : ListHeads} {w v : List ℕ} {class at next previous : ℕ} → AreThreaded sli old.heads old.members w → length w ≤ 2 ^ 24 → Contains (list_of old.heads w class) at
    → RemoveWrites sli old.heads old.members w class at next previous new.heads new.members v → Relists sli class (without_place at (list_of old.heads w class)) old w new v
removed {sli = sli} {old = old} {new = new} {w = w} {v = v} {class = class} {at = at} {next = next} {previous = previous} t small m r = record {
  threaded = remove-threaded sli old.heads old.members w class at t small m next previous new.heads new.members v r;
  list = remove-list sli old.heads old.members w class at t small m next previous new.heads new.members v r;
  others = remove-others sli old.heads old.members w class at t small m next previous new.heads new.members v r;
  words = remove-words sli old.heads old.members w class at t small m next previous new.heads new.members v r;
}

-- where places that differ begin, the others are left without it
first_then_left : (places : List ℕ) (at : ℕ) → AreDistinct places → (places ≡ [] → ⊥) → at ≡ first_of places → places ≡ at ∷ without_place at places
first_then_left [] at _ some is = absurd (some refl)
first_then_left (p ∷ places) at differ some is =
    subst (λ (k : ℕ). p ∷ places ≡ k ∷ without_place k (p ∷ places)) (sym is) (ap (λ (ps : List ℕ). p ∷ ps) (sym (without_split p [] places differ)))

-- the place at the head of a list that isn't empty
module _ (sli : ℕ) (heads members w : List ℕ) (class at : ℕ) (t : AreThreaded sli heads members w) (some : list_of heads w class ≡ [] → ⊥) (is : at ≡ get_or heads class nowhere) where
  is_first : at ≡ first_of (list_of heads w class)
  is_first = is ∙ head-list_of heads w class

  -- the list has it
  pub head_member : Contains (list_of heads w class) at
  head_member = at_head (list_of heads w class) some is_first
    where
      at_head : (places : List ℕ) → (places ≡ [] → ⊥) → at ≡ first_of places → Contains places at
      at_head [] some is = absurd (some refl)
      at_head (p ∷ places) some is = subst (Contains (p ∷ places)) (sym is) (member_here p places)

  -- no place stands before it
  pub head_previous : length w ≤ 2 ^ 24 → nowhere ≡ high_half (get_or w (at + 2) 0)
  head_previous small = at_head (list_of heads w class) some is_first (t.linked class)
    where
      at_head : (places : List ℕ) → (places ≡ [] → ⊥) → at ≡ first_of places → LinkedFrom w nowhere places → nowhere ≡ high_half (get_or w (at + 2) 0)
      at_head [] some is _ = absurd (some refl)
      at_head (p ∷ places) some is link =
          sym (ap (λ (k : ℕ). high_half (get_or w (k + 2) 0)) is ∙ ap high_half link.0 ∙ high_half-links_word (first_of places) nowhere (first_small w p places small link.2))

  -- and the others are left without it
  pub head_then_left : list_of heads w class ≡ at ∷ without_place at (list_of heads w class)
  head_then_left = first_then_left (list_of heads w class) at (t.distinct class) some is_first
