-- The facts of level 4 and of level 5, and how the number of a class splits into its first level and its second level.
use Rattle.tlsf_class.proofs.Common.{cond, eqb, true, false, ◌≡◌, ℕ, ◌+◌, ◌*◌, ◌/◌, ◌%◌, ◌^◌, ◌<◌, ◌≤◌, sym, ◌∙◌, inl, inr, arith, cases_lt, mod_below, div-mul-add, mod-mul-add, div-add-mod, mul_comm, IsLevel, level_classes, last_class, most_words}

-- what holds at 4 and at 5 holds at each level
pub by_level : (P : ℕ → Type 0) → P 4 → P 5 → (sli : ℕ) → IsLevel sli → P sli
by_level P four five sli level = elim (cases_lt sli 5) [
  | inl below ↦ let e : sli ≡ 4 = omega (arith, level.least) in rw e four
  | inr above ↦ let e : sli ≡ 5 = omega (arith, level.most) in rw e five
]

-- each of them is a level
pub level_4 : IsLevel 4
level_4 = record { least = omega arith; most = omega arith }

pub level_5 : IsLevel 5
level_5 = record { least = omega arith; most = omega arith }

-- as many words as a region of any level may have
pub most_words_any : (sli : ℕ) → most_words sli ≤ 2 ^ 24
most_words_any sli = elim (eqb sli 4) as (λ b. cond b (2 ^ 20) (2 ^ 24) ≤ 2 ^ 24) [ true ↦ omega arith | false ↦ omega arith ]

pub words_any : (sli n : ℕ) → n ≤ most_words sli → n ≤ 2 ^ 24
words_any sli n h = omega (arith, most_words_any sli)

-- a first level has 16 or 32 classes
pub record HasBounds (sli : ℕ) : Type 0 where
  pub least : 16 ≤ level_classes sli
  pub most : level_classes sli ≤ 32
  pub last_least : 272 ≤ last_class sli
  pub last_most : last_class sli ≤ 640
  pub last_inside : last_class sli < level_classes sli * 21
  pub words : most_words sli ≤ 2 ^ 24

pub bounds_of : (sli : ℕ) → IsLevel sli → HasBounds sli
bounds_of =
    by_level HasBounds
    (record { least = omega arith; most = omega arith; last_least = omega arith; last_most = omega arith; last_inside = omega arith; words = omega arith })
    (record { least = omega arith; most = omega arith; last_least = omega arith; last_most = omega arith; last_inside = omega arith; words = omega arith })

-- the first level and the second level of a class that is given by them
pub first_at : (sli first_level second_level : ℕ) → second_level < level_classes sli → (level_classes sli * first_level + second_level) / level_classes sli ≡ first_level
first_at sli first_level second_level h = let e : level_classes sli * first_level + second_level ≡ first_level * level_classes sli + second_level = omega (arith, mul_comm (level_classes sli) first_level) in rw e (div-mul-add first_level (level_classes sli) second_level h)

pub second_at : (sli first_level second_level : ℕ) → second_level < level_classes sli → (level_classes sli * first_level + second_level) % level_classes sli ≡ second_level
second_at sli first_level second_level h = let e : level_classes sli * first_level + second_level ≡ first_level * level_classes sli + second_level = omega (arith, mul_comm (level_classes sli) first_level) in rw e (mod-mul-add first_level (level_classes sli) second_level h)

-- each number is the first class of its first level, and its second level
pub split : (sli c : ℕ) → level_classes sli * (c / level_classes sli) + c % level_classes sli ≡ c
split sli c = div-add-mod c (level_classes sli)

pub second_below : (sli : ℕ) → IsLevel sli → (c : ℕ) → c % level_classes sli < level_classes sli
second_below sli level c = mod_below c (level_classes sli) (omega (arith, (bounds_of sli level).least))

-- a greater class is on no lower first level
pub first_rises : (sli : ℕ) → IsLevel sli → (c d : ℕ) → c ≤ d → c / level_classes sli ≤ d / level_classes sli
first_rises = by_level (λ sli. (c d : ℕ) → c ≤ d → c / level_classes sli ≤ d / level_classes sli) (λ c d h. omega arith) (λ c d h. omega arith)

-- and a greater class on one first level at a greater second level
pub second_more : (sli : ℕ) → (c d first_level : ℕ) → c < d → c / level_classes sli ≡ first_level → d / level_classes sli ≡ first_level → c % level_classes sli < d % level_classes sli
second_more sli c d first_level h e f = let a = rw e at (split sli c) in let b = rw f at (split sli d) in omega arith

-- the first level of a class in use is below 21
pub first_inside : (sli : ℕ) → IsLevel sli → (c : ℕ) → c ≤ last_class sli → c / level_classes sli < 21
first_inside = by_level (λ sli. (c : ℕ) → c ≤ last_class sli → c / level_classes sli < 21) (λ c h. omega arith) (λ c h. omega arith)

-- a class on first level 0 is its second level, and one on a first level above isn't below the classes of first level 0
pub first_0 : (sli c : ℕ) → c / level_classes sli ≡ 0 → c % level_classes sli ≡ c
first_0 sli c h = let a = rw h at (split sli c) in omega arith

pub first_above : (sli : ℕ) → IsLevel sli → (c : ℕ) → 0 < c / level_classes sli → level_classes sli ≤ c
first_above = by_level (λ sli. (c : ℕ) → 0 < c / level_classes sli → level_classes sli ≤ c) (λ c h. omega arith) (λ c h. omega arith)

-- a class is known by its two levels
pub same_class : (sli c d : ℕ) → c / level_classes sli ≡ d / level_classes sli → c % level_classes sli ≡ d % level_classes sli → c ≡ d
same_class sli c d e f = sym (split sli c) ∙ rw (e, f) (split sli d)

-- a class below one that is given by its two levels is on no greater first level. On the same one it is at a second level below
pub first_below : (sli : ℕ) → IsLevel sli → (d first_level second_level : ℕ) → second_level < level_classes sli → d < level_classes sli * first_level + second_level → d / level_classes sli ≤ first_level
first_below sli level d first_level second_level inside h = let e = first_at sli first_level second_level inside in let rises = first_rises sli level d (level_classes sli * first_level + second_level) (omega arith) in rw e at rises

pub second_less : (sli d first_level second_level : ℕ) → d < level_classes sli * first_level + second_level → d / level_classes sli ≡ first_level → d % level_classes sli < second_level
second_less sli d first_level second_level h e = let s = rw e at (split sli d) in omega arith
