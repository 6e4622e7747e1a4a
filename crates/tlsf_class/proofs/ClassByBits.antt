-- The class of a size by its highest bits.
use Rattle.tlsf_class.proofs.Common.{◌≡◌, ℕ, ◌+◌, ◌-◌, ◌*◌, ◌/◌, ◌%◌, ◌^◌, ◌<◌, ◌≤◌, nat_lt, Some, refl, sym, ap, ◌∙◌, inl, inr, arith, cases_lt, cases_eq, cond-false, cond_below, le-ltb, pow-add, pow_pos, div_below, le-div, shr_split, mod_below, pow_below, one_shl, shl_whole, div-mul-add, or_lt, le_or_l, le_or_r, pow-le-pow_right, mul-add, add-mul, mul_assoc, IsLevel, level_classes, last_class, most_words, low, class_of, search_of}
use Rattle.std.specs.Int.RustNames.{bit_or}
use Rattle.tlsf_class.specs.Steps.{IsInUse, IsStep, last_step}
use Rattle.tlsf_class.proofs.TwoLevels.{by_level, bounds_of, first_at, second_at, first_inside, second_below}
use Rattle.tlsf_class.proofs.ClassOfSize.{class_of-between, search_of-same, search_of-next}

-- the largest region has as many words as a first level has classes, in the greatest steps. Its class is the first of a level
pub record HasTop (sli : ℕ) : Type 0 where
  pub words : most_words sli ≡ 2 ^ (4 * sli + 4)
  pub stepped : most_words sli ≡ level_classes sli * 2 ^ last_step sli
  pub last : last_class sli ≡ level_classes sli + level_classes sli * last_step sli

pub tops : (sli : ℕ) → IsLevel sli → HasTop sli
tops = by_level HasTop (record { words = refl; stepped = refl; last = refl }) (record { words = refl; stepped = refl; last = refl })

-- a number of steps that is below twice the classes of a first level makes one, where the step is below the greatest
below_last : (sli : ℕ) → IsLevel sli → (whole step : ℕ) → step < last_step sli → whole < 2 * level_classes sli → whole + level_classes sli * step ≤ last_class sli
below_last = by_level (λ sli. (whole step : ℕ) → step < last_step sli → whole < 2 * level_classes sli → whole + level_classes sli * step ≤ last_class sli) (λ whole step h l. omega arith) (λ whole step h l. omega arith)

-- the steps of a size, and what is left
record HasSteps (sli n step : ℕ) : Type 0 where
  least : 0 < step → level_classes sli ≤ n / 2 ^ step
  below : n / 2 ^ step < 2 * level_classes sli
  some : 0 < 2 ^ step
  whole : n / 2 ^ step * 2 ^ step + n % 2 ^ step ≡ n
  rest : n % 2 ^ step < 2 ^ step

module _ (sli : ℕ) (level : IsLevel sli) where
  -- a class on first level 0 is of one size, its number
  pub low-small : (c : ℕ) → c < level_classes sli → low sli c ≡ c
  unfolding low
  low-small c h = sym (cond_below c (level_classes sli) c _ h)

  -- the least size of a class above first level 0
  low-large : (c : ℕ) → level_classes sli ≤ c → low sli c ≡ 2 ^ (c / level_classes sli + sli - 1) + c % level_classes sli * 2 ^ (c / level_classes sli - 1)
  unfolding low
  low-large c h = cond-false (nat_lt c (level_classes sli)) c (2 ^ (c / level_classes sli + sli - 1) + c % level_classes sli * 2 ^ (c / level_classes sli - 1)) (le-ltb c (level_classes sli) h)

  -- the same by its two levels, from first level 1 on
  low-levels : (above second_level : ℕ) → second_level < level_classes sli → low sli (level_classes sli * (above + 1) + second_level) ≡ 2 ^ (above + 1 + sli - 1) + second_level * 2 ^ (above + 1 - 1)
  low-levels above second_level h =
      low-large (level_classes sli * (above + 1) + second_level) (omega (arith, mul-add (level_classes sli) above 1))
      ∙ rw (first_at sli (above + 1) second_level h, second_at sli (above + 1) second_level h) refl

  -- the same as shifts give it
  pub low-shifts : (c : ℕ) → level_classes sli ≤ c → c ≤ last_class sli → 1 * 2 ^ (c / level_classes sli + (sli - 1)) % 2 ^ 32 + c % level_classes sli * 2 ^ (c / level_classes sli - 1) % 2 ^ 32 ≡ low sli c
  low-shifts c least most =
      let inside = first_inside sli level c most in
      let second_level = second_below sli level c in
      let e : c / level_classes sli + (sli - 1) ≡ c / level_classes sli + sli - 1 = omega (arith, level.least) in
      let first = one_shl (c / level_classes sli + sli - 1) 32 (omega (arith, level.most)) in
      let second = shl_whole (c % level_classes sli) sli (c / level_classes sli - 1) 32 second_level (omega (arith, level.most)) in
      rw (e, first, second) (sym (low-large c least))

  -- the classes of one first level, from as many steps of 2^step on as it has classes
  low-step_from : (rest step : ℕ) → rest < level_classes sli → low sli (level_classes sli + rest + level_classes sli * step) ≡ (level_classes sli + rest) * 2 ^ step
  low-step_from rest step h =
      let e : level_classes sli + rest + level_classes sli * step ≡ level_classes sli * (step + 1) + rest = omega (arith, mul-add (level_classes sli) step 1) in
      let f : step + 1 + sli - 1 ≡ sli + step = omega arith in
      let g : step + 1 - 1 ≡ step = omega arith in
      let power = pow-add 2 sli step in
      ap (low sli) e ∙ low-levels step rest h ∙ rw (f, g, power) (sym (add-mul (level_classes sli) rest (2 ^ step)))

  -- the least size of a class is a number of steps, fewer than a first level has classes only where a step is one word
  low-step : (steps step : ℕ) → (0 < step → level_classes sli ≤ steps) → steps ≤ 2 * level_classes sli → low sli (steps + level_classes sli * step) ≡ steps * 2 ^ step
  low-step steps step least most = elim (cases_lt steps (level_classes sli)) [
    | inl few ↦ elim (cases_eq step 0) [
      | inl none ↦
          let one : 2 ^ step ≡ 1 = ap (λ k. 2 ^ k) none in
          let nothing : level_classes sli * step ≡ level_classes sli * 0 = ap (λ k. level_classes sli * k) none in
          let e : steps + level_classes sli * step ≡ steps = omega arith in
          ap (low sli) e ∙ low-small steps few ∙ rw one (omega arith)
      | inr some ↦ absurd (omega (arith, least (omega arith)))
    ]
    | inr many ↦ elim (cases_lt steps (2 * level_classes sli)) [
      | inl inside ↦ let e : steps ≡ level_classes sli + (steps - level_classes sli) = omega arith in rw e (low-step_from (steps - level_classes sli) step (omega arith))
      | inr last ↦
          let all : steps ≡ 2 * level_classes sli = omega arith in
          let e : steps + level_classes sli * step ≡ level_classes sli + 0 + level_classes sli * (step + 1) = omega (arith, mul-add (level_classes sli) step 1) in
          let double : 2 ^ (step + 1) ≡ 2 * 2 ^ step = omega (arith, pow-add 2 step 1) in
          let zero : level_classes sli + 0 ≡ level_classes sli = omega arith in
          let grouped : level_classes sli * (2 * 2 ^ step) ≡ 2 * level_classes sli * 2 ^ step = sym (mul_assoc (level_classes sli) 2 (2 ^ step)) ∙ ap (λ k. k * 2 ^ step) (twice (level_classes sli)) in
          ap (low sli) e ∙ low-step_from 0 (step + 1) (omega (arith, (bounds_of sli level).least)) ∙ rw (zero, double, all) grouped
    ]
  ]
    where
      twice : (k : ℕ) → k * 2 ≡ 2 * k
      twice k = omega arith

  -- the step is as many bits below the highest bit as the level says, where the number of classes is among the bits
  pub IsStep-top : (n top : ℕ) → n ≤ most_words sli → 2 ^ top ≤ bit_or n (level_classes sli) → bit_or n (level_classes sli) < 2 * 2 ^ top → (sli ≤ top) × IsStep sli n (top - sli)
  IsStep-top n top small reached passed =
      let classes_in = le_or_r n (level_classes sli) in
      let n_in = le_or_l n (level_classes sli) in
      let double = pow-add 2 top 1 in
      let words = (tops sli level).words in
      let least : sli ≤ top = elim (cases_lt top sli) [
        | inl under ↦ absurd (omega (arith, pow-le-pow_right {n = 2} (omega arith) {i = top + 1} {j = sli} (omega arith)))
        | inr fine ↦ fine
      ] in
      let e : top ≡ sli + (top - sli) = omega arith in
      let power : 2 ^ top ≡ level_classes sli * 2 ^ (top - sli) = ap (λ k. 2 ^ k) e ∙ pow-add 2 sli (top - sli) in
      let doubled : 2 * 2 ^ top ≡ 2 * level_classes sli * 2 ^ (top - sli) = ap (λ k. 2 * k) power ∙ sym (mul_assoc 2 (level_classes sli) (2 ^ (top - sli))) in
      let next = pow-add 2 (4 * sli + 4) 1 in
      let some = pow_pos (4 * sli + 4) in (
        least,
        record {
          most = elim (cases_lt (4 * sli + 4) top) [
            | inl over ↦
                let fits : level_classes sli < 2 ^ (4 * sli + 4 + 1) = pow_below sli (4 * sli + 4 + 1) (omega arith) in
                absurd (omega (arith, or_lt (4 * sli + 4 + 1) n (level_classes sli) (omega arith) fits, pow-le-pow_right {n = 2} (omega arith) {i = 4 * sli + 4 + 1} {j = top} (omega arith)))
            | inr fine ↦ omega arith
          ];
          reached = λ some. elim (cases_lt n (2 ^ top)) [
            | inl under ↦ absurd (omega (arith, or_lt top n (level_classes sli) under (pow_below sli top (omega arith))))
            | inr fine ↦ omega arith
          ];
          passed = omega arith;
        },
      )

  has_steps : (n step : ℕ) → IsStep sli n step → HasSteps sli n step
  has_steps n step is =
      let some = pow_pos step in
      record {
        least = λ h. le-div (level_classes sli) n (2 ^ step) some (is.reached h);
        below = div_below n (2 ^ step) (2 * level_classes sli) some is.passed;
        some = some;
        whole = shr_split n step;
        rest = mod_below n (2 ^ step) some;
      }

  -- a number of classes for each doubling, as a shift gives it
  pub doublings : (step : ℕ) → step ≤ last_step sli → step * 2 ^ sli % 2 ^ 32 ≡ level_classes sli * step
  doublings = by_level (λ sli. (step : ℕ) → step ≤ last_step sli → step * 2 ^ sli % 2 ^ 32 ≡ level_classes sli * step) (λ step h. omega arith) (λ step h. omega arith) sli level

  module _ (n step : ℕ) (least : 4 ≤ n) (most : n ≤ most_words sli) (is : IsStep sli n step) where
    abbrev whole_steps : ℕ
    whole_steps = n / 2 ^ step

    has : HasSteps sli n step
    has = has_steps n step is

    low_here : low sli (whole_steps + level_classes sli * step) ≡ whole_steps * 2 ^ step
    low_here = low-step whole_steps step has.least (omega (arith, has.below))

    low_next : low sli (whole_steps + level_classes sli * step + 1) ≡ (whole_steps + 1) * 2 ^ step
    low_next =
        let e : whole_steps + level_classes sli * step + 1 ≡ whole_steps + 1 + level_classes sli * step = omega arith in
        ap (low sli) e ∙ low-step (whole_steps + 1) step (λ h. omega (arith, has.least h)) (omega (arith, has.below))

    -- the number that the whole steps of a size make is a class's
    pub in_use-step : IsInUse sli (whole_steps + level_classes sli * step)
    in_use-step = record {
      level = level;
      least = elim (cases_eq step 0) [
        | inl none ↦
            let one : 2 ^ step ≡ 1 = ap (λ k. 2 ^ k) none in
            let whole = rw one at has.whole in
            let rest = rw one at has.rest in
            rw one (omega arith)
        | inr some ↦ omega (arith, has.least (omega arith), (bounds_of sli level).least)
      ];
      most = elim (cases_lt step (last_step sli)) [
        | inl under ↦ below_last sli level (n / 2 ^ step) step under has.below
        | inr last ↦
            let greatest : step ≡ last_step sli = omega (arith, is.most) in
            let few : n / 2 ^ step < level_classes sli + 1 = rw greatest (div_below n (2 ^ last_step sli) (level_classes sli + 1) (pow_pos (last_step sli))
            (omega (arith, add-mul (level_classes sli) 1 (2 ^ last_step sli), (tops sli level).stepped, pow_pos (last_step sli)))) in
            let all : level_classes sli * step ≡ level_classes sli * last_step sli = ap (λ k. level_classes sli * k) greatest in
            omega (arith, (tops sli level).last)
      ];
    }

    -- and the class is that of the size
    pub class_of-step : class_of sli n ≡ whole_steps + level_classes sli * step
    class_of-step = class_of-between sli level n (whole_steps + level_classes sli * step) in_use-step.least in_use-step.most
        (omega (arith, low_here, has.whole))
        (λ _. omega (arith, low_next, add-mul whole_steps 1 (2 ^ step), has.whole, has.rest))

    -- the steps of a size, rounded up
    abbrev steps : ℕ
    steps = (n - 1) / 2 ^ step + 1

    exact : n % 2 ^ step ≡ 0 → steps ≡ whole_steps
    exact none =
        let some : 0 < whole_steps = elim (cases_eq whole_steps 0) [
          | inl zero ↦ let no : whole_steps * 2 ^ step ≡ 0 = ap (λ k. k * 2 ^ step) zero ∙ omega arith in absurd (omega (arith, has.whole, has.rest))
          | inr more ↦ omega arith
        ] in
        let fewer : whole_steps ≡ whole_steps - 1 + 1 = omega arith in
        let e : n - 1 ≡ (whole_steps - 1) * 2 ^ step + (2 ^ step - 1) = omega (arith, ap (λ k. k * 2 ^ step) fewer, has.whole, has.some) in
        ap (λ k. k / 2 ^ step + 1) e ∙ ap (λ k. k + 1) (div-mul-add (whole_steps - 1) (2 ^ step) (2 ^ step - 1) (omega (arith, has.some))) ∙ sym fewer

    rounded : 0 < n % 2 ^ step → steps ≡ whole_steps + 1
    rounded some =
        let e : n - 1 ≡ whole_steps * 2 ^ step + (n % 2 ^ step - 1) = omega (arith, has.whole) in
        ap (λ k. k / 2 ^ step + 1) e ∙ ap (λ k. k + 1) (div-mul-add whole_steps (2 ^ step) (n % 2 ^ step - 1) (omega (arith, has.rest)))

    -- the class that they make is in use, and is the search class of the size
    pub search_of-step : IsInUse sli (steps + level_classes sli * step) × (search_of sli n ≡ Some (steps + level_classes sli * step))
    search_of-step = elim (cases_eq (n % 2 ^ step) 0) [
      | inl none ↦
          let same = ap (λ k. k + level_classes sli * step) (exact none) in
          let begins : low sli (class_of sli n) ≡ n = ap (low sli) class_of-step ∙ low_here ∙ omega (arith, has.whole) in (
            record { level = level; least = omega (arith, in_use-step.least, same); most = omega (arith, in_use-step.most, same) },
            (search_of-same sli level n least begins).found ∙ ap Some (class_of-step ∙ sym same),
          )
      | inr some ↦
          let above : low sli (class_of sli n) < n = omega (arith, ap (low sli) class_of-step, low_here, has.whole) in
          let next = search_of-next sli level n least most above in
          let same : class_of sli n + 1 ≡ steps + level_classes sli * step = omega (arith, rounded (omega arith), class_of-step) in (
            record { level = level; least = omega (arith, in_use-step.least, same, class_of-step); most = omega (arith, next.0, same) },
            next.1.found ∙ ap Some same,
          )
    ]
