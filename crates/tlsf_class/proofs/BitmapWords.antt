-- The members after the operations on the words of the bitmaps.
use Rattle.tlsf_class.proofs.Common.{cond, filter, ◌≡◌, ◌≢◌, ℕ, ◌+◌, ◌*◌, ◌/◌, ◌%◌, ◌<◌, ◌≤◌, Bool, true, false, not, ◌&&◌, ◌||◌, eqb, List, get_or, set, length, min, Some, None, refl, sym, ap, ◌∙◌, inl, inr, arith, get_or-set_same, get_or-set_other, replicate, [], ◌↔◌, Contains, bit_at, cases_eq, cases_lt, eq-eqb, eqb-true, ne_eqb, cases_order, bit_at-zero, IsLevel, level_classes, last_class, classes}
use Rattle.std.proofs.lemmas.List.{length-set, length-replicate, get_or-replicate, get_or_past}
use Rattle.std.proofs.lemmas.List.Elements.{filter_agree}
use Rattle.tlsf_class.proofs.TwoLevels.{by_level, bounds_of, split, first_at, second_at, second_below, first_inside, first_rises, second_more, same_class, first_below, second_less}
use Rattle.tlsf_class.specs.Members.{with_member, without_member, next_member}
use Rattle.tlsf_class.specs.Steps.{IsInUse, IsLowestFrom}
use Rattle.tlsf_class.specs.Bitmaps.{is_set, members_of, marked_in, AreLevels}
use Rattle.tlsf_class.proofs.Members.{filter-classes_same, Contains-filter, with_member-filter, without_member-filter, next_member-filter, next_member-filter_none}

module _ (sli : ℕ) (level : IsLevel sli) where
  -- a class is a member exactly where its bit is set
  pub Contains-members_of : (second : List ℕ) (c : ℕ) → 4 ≤ c → c ≤ last_class sli → (is_set sli second c ≡ true) ↔ Contains (members_of sli second) c
  unfolding members_of
  Contains-members_of second c = Contains-filter sli level (is_set sli second) c

  -- where the word of one first level is written, the bit of each class is that of the new word or as it was
  written : (P : ℕ → Type 0) (second : List ℕ) (first_level word d : ℕ) → first_level < length second → (d / level_classes sli ≡ first_level → P word) → (d / level_classes sli ≢ first_level → P (get_or second (d / level_classes sli) 0)) → P (get_or (set second first_level word) (d / level_classes sli) 0)
  written P second first_level word d within here there = elim (cases_eq (d / level_classes sli) first_level) [
    | inl e ↦ rw (e, get_or-set_same second first_level word 0 within) (here e)
    | inr n ↦ rw (get_or-set_other second first_level (d / level_classes sli) word 0 n) (there n)
  ]

  -- the word of the first level of c, with the bit of c made this one
  pub record WritesBit (second : List ℕ) (c first_level second_level word bit : ℕ) : Type 0 where
    pub first_levels : length second ≡ 21
    pub in_use : IsInUse sli c
    pub first_is : first_level ≡ c / level_classes sli
    pub second_is : second_level ≡ c % level_classes sli
    pub same : bit_at word second_level ≡ bit
    pub others : (k : ℕ) → k ≢ second_level → bit_at word k ≡ bit_at (get_or second first_level 0) k

  -- from a word that was read
  pub WritesBit-read : (second : List ℕ) (c first_level second_level old word bit : ℕ) → length second ≡ 21 → IsInUse sli c → first_level ≡ c / level_classes sli → second_level ≡ c % level_classes sli → old ≡ get_or second first_level 0 → bit_at word second_level ≡ bit → ((k : ℕ) → k ≢ second_level → bit_at word k ≡ bit_at old k) → WritesBit second c first_level second_level word bit
  WritesBit-read second c first_level second_level old word bit first_levels in_use first_is second_is read same others =
      record { first_levels = first_levels; in_use = in_use; first_is = first_is; second_is = second_is; same = same; others = rw read at others }

  -- then that bit is new, and the bit of each other class is as it was
  is_set-write : (second : List ℕ) (c first_level second_level word bit d : ℕ) → WritesBit second c first_level second_level word bit → is_set sli (set second first_level word) d ≡ cond (eqb c d) (eqb bit 1) (is_set sli second d)
  is_set-write second c first_level second_level word bit d writes =
      written (λ w. eqb (bit_at w (d % level_classes sli)) 1 ≡ cond (eqb c d) (eqb bit 1) (is_set sli second d)) second first_level word d (omega (arith, writes.first_levels, writes.first_is, first_inside sli level c writes.in_use.most))
      (λ e. elim (cases_eq (d % level_classes sli) second_level) [
        | inl f ↦
            let one : c ≡ d = same_class sli c d (omega (arith, writes.first_is)) (omega (arith, writes.second_is)) in
            rw (f, writes.same, eq-eqb c d one) refl
        | inr n ↦
            let other : c ≢ d = λ g. n (ap (λ k. k % level_classes sli) (sym g) ∙ sym writes.second_is) in
            rw (writes.others (d % level_classes sli) n, ne_eqb c d other, e) refl
      ])
      (λ n. let other : c ≢ d = (λ g. n (ap (λ k. k / level_classes sli) (sym g) ∙ sym writes.first_is)) in rw (ne_eqb c d other) refl)

  members_of-write : (p : ℕ → Bool) (second : List ℕ) (c first_level second_level word bit : ℕ) → WritesBit second c first_level second_level word bit → ((d : ℕ) → cond (eqb c d) (eqb bit 1) (is_set sli second d) ≡ p d) → members_of sli (set second first_level word) ≡ filter p (classes sli)
  unfolding members_of
  members_of-write p second c first_level second_level word bit writes same =
      filter-classes_same sli level (is_set sli (set second first_level word)) p (λ d _ _. is_set-write second c first_level second_level word bit d writes ∙ same d)

  -- where it is set, the members are c and those before
  pub members_of-set : (second : List ℕ) (c first_level second_level word : ℕ) → WritesBit second c first_level second_level word 1 → members_of sli (set second first_level word) ≡ with_member sli (members_of sli second) c
  unfolding members_of
  members_of-set second c first_level second_level word sets =
      members_of-write (λ d. eqb c d || is_set sli second d) second c first_level second_level word 1 sets (λ d. either (eqb c d) (is_set sli second d)) ∙ sym (with_member-filter sli level (is_set sli second) c)
    where
      either : (a b : Bool) → cond a true b ≡ (a || b)
      either true b = refl
      either false b = refl

  -- and where it is cleared, they are those before but c
  pub members_of-clear : (second : List ℕ) (c first_level second_level word : ℕ) → WritesBit second c first_level second_level word 0 → members_of sli (set second first_level word) ≡ without_member (members_of sli second) c
  unfolding members_of
  members_of-clear second c first_level second_level word clears =
      members_of-write (λ d. is_set sli second d && not (eqb c d)) second c first_level second_level word 0 clears (λ d. but (eqb c d) (is_set sli second d)) ∙ sym (without_member-filter sli (is_set sli second) c)
    where
      but : (a b : Bool) → cond a false b ≡ (b && not a)
      but true true = refl
      but true false = refl
      but false true = refl
      but false false = refl

  -- a word with a bit set isn't zero
  pub some_bit : (word bit : ℕ) → bit_at word bit ≡ 1 → 0 < word
  some_bit word bit h = elim (cases_order word 0) [
    | inl e ↦ absurd (omega (arith, bit_at-zero bit, sym h ∙ ap (λ w. bit_at w bit) e))
    | inr other ↦ elim other [ inl below ↦ absurd (omega arith) | inr above ↦ above ]
  ]

  -- where the levels are in step, a bit that is set in the second is set in the first
  pub marked_in-members : (first : ℕ) (second : List ℕ) → AreLevels sli first second → marked_in sli first second ≡ members_of sli second
  unfolding members_of marked_in
  marked_in-members first second levels =
      filter_agree (λ c. is_set sli second c && eqb (bit_at first (c / level_classes sli)) 1) (is_set sli second) (λ c. both c (is_set sli second c) refl) (classes sli)
    where
      both : (c : ℕ) (b : Bool) → is_set sli second c ≡ b → (b && eqb (bit_at first (c / level_classes sli)) 1) ≡ b
      both c true is =
          let word = get_or second (c / level_classes sli) 0 in
          let some = some_bit word (c % level_classes sli) (eqb-true (bit_at word (c % level_classes sli)) 1 is) in
          eq-eqb (bit_at first (c / level_classes sli)) 1 (levels.first_bits (c / level_classes sli) ∙ omega (arith, some))
      both c false is = refl

  -- the two levels stay in step where the bit of a first level says whether its new word is zero
  pub AreLevels-write : (first next : ℕ) (second : List ℕ) (c first_level second_level word bit : ℕ) → AreLevels sli first second → WritesBit second c first_level second_level word bit → bit_at next first_level ≡ min 1 word → ((k : ℕ) → k ≢ first_level → bit_at next k ≡ bit_at first k) → AreLevels sli next (set second first_level word)
  AreLevels-write first next second c first_level second_level word bit levels writes here others =
      record {
        level = level;
        first_levels = length-set second first_level word ∙ levels.first_levels;
        first_bits = λ r. elim (cases_eq r first_level) [
          | inl e ↦ rw (e, get_or-set_same second first_level word 0 within) here
          | inr n ↦ rw (get_or-set_other second first_level r word 0 n) (others r n ∙ levels.first_bits r)
        ];
        in_use = λ r p. elim (cases_eq r first_level) [
          | inl e ↦ rw (e, get_or-set_same second first_level word 0 within) (λ h. elim (cases_eq p second_level) [
            | inl f ↦ rw (f, writes.first_is, writes.second_is, split sli c) (second_below sli level c, writes.in_use.least, writes.in_use.most)
            | inr m ↦ levels.in_use first_level p (sym (writes.others p m) ∙ h)
          ])
          | inr n ↦ rw (get_or-set_other second first_level r word 0 n) (levels.in_use r p)
        ];
      }
    where
      within : first_level < length second
      within = omega (arith, writes.first_levels, writes.first_is, first_inside sli level c writes.in_use.most)

  -- it stays where neither the old word nor the new one is zero
  pub first_bit-kept : (first : ℕ) (second : List ℕ) (first_level word : ℕ) → AreLevels sli first second → 0 < get_or second first_level 0 → 0 < word → bit_at first first_level ≡ min 1 word
  first_bit-kept first second first_level word levels was some = levels.first_bits first_level ∙ omega arith

  -- where the bit of a first level is zero, no bit of its word is set
  no_bit : (first : ℕ) (second : List ℕ) (first_level bit : ℕ) → AreLevels sli first second → bit_at first first_level ≡ 0 → bit_at (get_or second first_level 0) bit ≡ 0
  no_bit first second first_level bit levels h =
      let e : get_or second first_level 0 ≡ 0 = omega (arith, levels.first_bits first_level, h) in
      ap (λ w. bit_at w bit) e ∙ bit_at-zero bit

  -- the least member at or above c, by its two levels
  pub record IsNext (second : List ℕ) (c first_level second_level : ℕ) : Type 0 where
    pub above : c ≤ level_classes sli * first_level + second_level
    pub here : bit_at (get_or second first_level 0) second_level ≡ 1
    pub before : (d : ℕ) → c ≤ d → d < level_classes sli * first_level + second_level → bit_at (get_or second (d / level_classes sli) 0) (d % level_classes sli) ≡ 0

  -- those levels are of the least member at or above c
  next_is : (first : ℕ) (second : List ℕ) (c first_level second_level : ℕ) → AreLevels sli first second → IsNext second c first_level second_level → next_member (members_of sli second) c ≡ Some (level_classes sli * first_level + second_level)
  unfolding members_of
  next_is first second c first_level second_level levels next =
      let (inside, least, most) = levels.in_use first_level second_level next.here in
      let q = first_at sli first_level second_level inside in
      let r = second_at sli first_level second_level inside in
      let passes : is_set sli second (level_classes sli * first_level + second_level) ≡ true = rw (q, r) (eq-eqb (bit_at (get_or second first_level 0) second_level) 1 next.here) in
      next_member-filter sli level (is_set sli second) c (level_classes sli * first_level + second_level) least most next.above passes
      (λ d _ l h. ap (λ b. eqb b 1) (next.before d l h))

  -- n classes further on the first level of b, by its two levels
  pub further : (b first_level from n : ℕ) → first_level ≡ b / level_classes sli → from ≡ b % level_classes sli → level_classes sli * first_level + (from + n) ≡ b + n
  further b first_level from n first_is from_is = let s = split sli b in rw (first_is, from_is) (omega arith)

  -- a class above b on its first level is above it on the second
  above_from : (b first_level from d : ℕ) → first_level ≡ b / level_classes sli → from ≡ b % level_classes sli → b + 1 ≤ d → d / level_classes sli ≡ first_level → from < d % level_classes sli
  above_from b first_level from d first_is from_is l e = let more = second_more sli b d first_level (omega arith) (sym first_is) e in omega arith

  -- and no class above b is on a first level below its own
  above_first : (b first_level d : ℕ) → first_level ≡ b / level_classes sli → b + 1 ≤ d → first_level ≤ d / level_classes sli
  above_first b first_level d first_is l = let rises = first_rises sli level b d (omega arith) in omega arith

  -- it is in the first level of the number below
  pub next-same_level : (first : ℕ) (second : List ℕ) (b first_level from n : ℕ) → AreLevels sli first second → first_level ≡ b / level_classes sli → from ≡ b % level_classes sli → IsLowestFrom (get_or second first_level 0) (from + 1) (from + n) → next_member (members_of sli second) (b + 1) ≡ Some (b + n)
  next-same_level first second b first_level from n levels first_is from_is found =
      let inside = (levels.in_use first_level (from + n) found.set).0 in
      next_is first second (b + 1) first_level (from + n) levels record {
        above = omega (arith, found.least, further b first_level from n first_is from_is);
        here = found.set;
        before = λ d l h.
            let rises = above_first b first_level d first_is l in
            let under = first_below sli level d first_level (from + n) inside h in
            let e : d / level_classes sli ≡ first_level = omega arith in
            rw e (found.lowest (d % level_classes sli) (omega (arith, above_from b first_level from d first_is from_is l e)) (second_less sli d first_level (from + n) h e));
      } ∙ ap Some (further b first_level from n first_is from_is)

  -- it is the least of the next first level that has a member
  pub next-later_level : (first : ℕ) (second : List ℕ) (b first_level from later second_level : ℕ) → AreLevels sli first second → first_level ≡ b / level_classes sli → from ≡ b % level_classes sli → ((k : ℕ) → from < k → bit_at (get_or second first_level 0) k ≡ 0) → IsLowestFrom first (first_level + 1) later → IsLowestFrom (get_or second later 0) 0 second_level → next_member (members_of sli second) (b + 1) ≡ Some (level_classes sli * later + second_level)
  next-later_level first second b first_level from later second_level levels first_is from_is none next own =
      let inside = (levels.in_use later second_level own.set).0 in
      let past = next.least in
      next_is first second (b + 1) later second_level levels record {
        above = elim (cases_lt b (level_classes sli * later + second_level)) [
          | inl fine ↦ omega arith
          | inr under ↦ let rises = first_rises sli level (level_classes sli * later + second_level) b under in let at = first_at sli later second_level inside in absurd (omega arith)
        ];
        here = own.set;
        before = λ d l h. elim (cases_order (d / level_classes sli) first_level) [
          | inl e ↦ rw e (none (d % level_classes sli) (above_from b first_level from d first_is from_is l e))
          | inr other ↦ elim other [
            | inl below ↦ absurd (let rises = above_first b first_level d first_is l in omega arith)
            | inr above ↦ elim (cases_order (d / level_classes sli) later) [
              | inl e ↦ rw e (own.lowest (d % level_classes sli) (omega arith) (second_less sli d later second_level h e))
              | inr other ↦ elim other [
                | inl between ↦ no_bit first second (d / level_classes sli) (d % level_classes sli) levels (next.lowest (d / level_classes sli) (omega arith) between)
                | inr beyond ↦ absurd (let under = first_below sli level d later second_level inside h in omega arith)
              ]
            ]
          ]
        ];
      }

  -- there is none in the first level of b above b, and no first level above has one
  pub next-none : (first : ℕ) (second : List ℕ) (b first_level from : ℕ) → AreLevels sli first second → first_level ≡ b / level_classes sli → from ≡ b % level_classes sli → ((k : ℕ) → from < k → bit_at (get_or second first_level 0) k ≡ 0) → ((k : ℕ) → first_level + 1 ≤ k → bit_at first k ≡ 0) → next_member (members_of sli second) (b + 1) ≡ None
  unfolding members_of
  next-none first second b first_level from levels first_is from_is none above_none =
      next_member-filter_none sli level (is_set sli second) (b + 1) (λ d _ l _.
      let zero : bit_at (get_or second (d / level_classes sli) 0) (d % level_classes sli) ≡ 0 = elim (cases_order (d / level_classes sli) first_level) [
        | inl e ↦ rw e (none (d % level_classes sli) (above_from b first_level from d first_is from_is l e))
        | inr other ↦ elim other [
          | inl below ↦ absurd (let rises = above_first b first_level d first_is l in omega arith)
          | inr above ↦ no_bit first second (d / level_classes sli) (d % level_classes sli) levels (above_none (d / level_classes sli) (omega arith))
        ]
      ] in
      ap (λ b. eqb b 1) zero)

-- no bit is set, and there is no member
pub marked_in-zeros : (sli : ℕ) → IsLevel sli → marked_in sli 0 (replicate 21 0) ≡ []
unfolding marked_in classes
marked_in-zeros = by_level (λ sli. marked_in sli 0 (replicate 21 0) ≡ []) refl refl

-- each word is zero, and so is what is read past the last
zero_word : (r : ℕ) → ◌≡◌ {A = ℕ} (get_or (replicate 21 0) r 0) 0
zero_word r = elim (cases_lt r 21) [
  | inl inside ↦ get_or-replicate 21 r 0 0 inside
  | inr past ↦ get_or_past (replicate 21 0) r 0 (omega (arith, length-replicate {A = ℕ} 21 0))
]

-- so they are in step
AreLevels-zeros : (sli : ℕ) → IsLevel sli → AreLevels sli 0 (replicate 21 0)
AreLevels-zeros sli level = record {
  level = level;
  first_levels = length-replicate {A = ℕ} 21 0;
  first_bits = λ r. bit_at-zero r ∙ ap (min 1) (sym (zero_word r));
  in_use = λ r p h. absurd (omega (arith, bit_at-zero p, ap (λ (w : ℕ). bit_at w p) (zero_word r), h));
}

-- the bits of the class of 4 words alone, in the first level and in the second
pub record AreLeast (first word : ℕ) : Type 0 where
  pub first_same : bit_at first 0 ≡ 1
  pub first_others : (k : ℕ) → k ≢ 0 → bit_at first k ≡ bit_at 0 k
  pub same : bit_at word 4 ≡ 1
  pub others : (k : ℕ) → k ≢ 4 → bit_at word k ≡ bit_at 0 k

-- so the class is the one whose bit is new in zeros
least_bit : (sli : ℕ) (level : IsLevel sli) (first word : ℕ) → AreLeast first word → WritesBit sli level (replicate 21 0) 4 0 4 word 1
least_bit sli level first word least =
    let first_is : 0 ≡ 4 / level_classes sli = by_level (λ sli. 0 ≡ 4 / level_classes sli) refl refl sli level in
    let second_is : 4 ≡ 4 % level_classes sli = by_level (λ sli. 4 ≡ 4 % level_classes sli) refl refl sli level in
    let in_use : IsInUse sli 4 = record { level = level; least = omega arith; most = omega (arith, (bounds_of sli level).last_least) } in
    WritesBit-read sli level (replicate 21 0) 4 0 4 0 word 1 (length-replicate {A = ℕ} 21 0) in_use first_is second_is (sym (zero_word 0)) least.same least.others

pub AreLevels-least : (sli : ℕ) → IsLevel sli → (first word : ℕ) → AreLeast first word → AreLevels sli first (set (replicate 21 0) 0 word)
AreLevels-least sli level first word least =
    AreLevels-write sli level 0 first (replicate 21 0) 4 0 4 word 1 (AreLevels-zeros sli level) (least_bit sli level first word least)
    (omega (arith, some_bit sli level word 4 least.same, least.first_same)) least.first_others

pub marked_in-least : (sli : ℕ) → IsLevel sli → (first word : ℕ) → AreLeast first word → marked_in sli first (set (replicate 21 0) 0 word) ≡ with_member sli [] 4
marked_in-least sli level first word least =
    let none = sym (marked_in-members sli level 0 (replicate 21 0) (AreLevels-zeros sli level)) ∙ marked_in-zeros sli level in
    marked_in-members sli level first (set (replicate 21 0) 0 word) (AreLevels-least sli level first word least)
    ∙ members_of-set sli level (replicate 21 0) 4 0 4 word (least_bit sli level first word least)
    ∙ ap (λ (members : List ℕ). with_member sli members 4) none
