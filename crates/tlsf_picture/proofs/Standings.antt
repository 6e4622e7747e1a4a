-- Where a heap stands worst, one point and one heap after another, and where it has most live words.
use Rattle.tlsf_picture.proofs.Common.{heap_points, IsPeak, live_in, ◌≡◌, ℕ, ◌+◌, ◌<◌, ◌≤◌, false, true, inl, inr, List, length, refl, sym, ◌∙◌, subst, arith, true≢false, nat_lt, Trace, IsLook, is_fuller, is_worse, standing_in, Point}
use Rattle.std.proofs.lemmas.Bool.{cases_Bool, cases_eq}
use Rattle.std.proofs.lemmas.Bool.Decides.{nat_tests}
use Rattle.tlsf_picture.specs.plots.Worst.{IsNamed, IsWorstOf, standing_at}
use Rattle.tlsf_picture.specs.declared.plots.look.Look.{Look}
use Rattle.tlsf_picture.specs.declared.plots.peak.Peak.{Peak}
use Rattle.tlsf_picture.specs.declared.plots.standing.Standing.{Standing}
use Rattle.tlsf_picture.specs.declared.plots.standing.Standing.TheVariants.{NoRoom, Room}
use Rattle.tlsf_picture.proofs.Charts.{many_points}

-- ---- the order

not_more_over : (a c b : ℕ) → nat_lt c a ≡ false → nat_lt b c ≡ false → nat_lt b a ≡ false
not_more_over a c b ac cb = grind (arith, nat_tests)

not_more : (a b : ℕ) → nat_lt b a ≡ true → nat_lt a b ≡ false
not_more a b more = grind (arith, nat_tests)

-- one that is not fuller has no more live words, and where equally many no more fragmentation
no_fuller : (live share other less : ℕ) → is_fuller live share other less ≡ false → (live ≤ other) × (live ≡ other → share ≤ less)
no_fuller live share other less is = grind (arith, nat_tests)

not_fuller : (live share other less : ℕ) → live ≤ other → (live ≡ other → share ≤ less) → is_fuller live share other less ≡ false
not_fuller live share other less most alike = grind (arith, nat_tests)

not_fuller_over : (a s c r b q : ℕ) → is_fuller a s c r ≡ false → is_fuller c r b q ≡ false → is_fuller a s b q ≡ false
not_fuller_over a s c r b q ac cb =
    let one = no_fuller a s c r ac in
    let two = no_fuller c r b q cb in
    not_fuller a s b q (omega (arith, one.0, two.0)) (λ same. let here : a ≡ c = omega (arith, one.0, two.0, same) in let there : c ≡ b = omega (arith, one.0, two.0, same) in omega (arith, one.1 here, two.1 there))

fuller_one : (a s b q : ℕ) → is_fuller a s b q ≡ true → is_fuller b q a s ≡ false
fuller_one a s b q more = grind (arith, nat_tests)

-- where the first of three is not worse than the second, nor that than the third, the first is not worse than the third
not_worse_over : (a c b : Standing) → is_worse a c ≡ false → is_worse c b ≡ false → is_worse a b ≡ false
not_worse_over (NoRoom a) (NoRoom c) (NoRoom b) ac cb = not_more_over a c b ac cb
not_worse_over (NoRoom a) (NoRoom c) (Room b q) ac cb = cb
not_worse_over (NoRoom a) (Room c r) b ac cb = absurd (true≢false ac)
not_worse_over (Room a s) c (NoRoom b) ac cb = refl
not_worse_over (Room a s) (NoRoom c) (Room b q) ac cb = absurd (true≢false cb)
not_worse_over (Room a s) (Room c r) (Room b q) ac cb = not_fuller_over a s c r b q ac cb

-- of two one alone is worse
worse_one : (a b : Standing) → is_worse a b ≡ true → is_worse b a ≡ false
worse_one (NoRoom a) (NoRoom b) more = not_more a b more
worse_one (NoRoom a) (Room b q) more = refl
worse_one (Room a s) (NoRoom b) more = absurd (true≢false (sym more))
worse_one (Room a s) (Room b q) more = fuller_one a s b q more

not_worse_itself : (a : Standing) → is_worse a a ≡ false
not_worse_itself a = elim (cases_Bool (is_worse a a)) [
  | inl more ↦ absurd (true≢false (sym more ∙ worse_one a a more))
  | inr none ↦ none
]

-- what is worse than the worst so far is worse than all others too
worse_than : (new worst other : Standing) → is_worse new worst ≡ true → is_worse other worst ≡ false → is_worse new other ≡ true
worse_than new worst other more none = elim (cases_Bool (is_worse new other)) [
  | inl is ↦ is
  | inr not ↦ absurd (true≢false (sym more ∙ not_worse_over new other worst not none))
]

none_worse_than : (new worst other : Standing) → is_worse new worst ≡ true → is_worse other worst ≡ false → is_worse other new ≡ false
none_worse_than new worst other more none = worse_one new other (worse_than new worst other more none)

-- ---- one point more

pub last_or : (i n : ℕ) (P : ℕ → Type 0) → i < n + 1 → (i < n → P i) → P n → P i
last_or i n P lt below here = elim (cases_eq i n) [
  | inl is ↦ subst P (sym is) here
  | inr other ↦ below (omega (arith, lt, other))
]

pub first_look : (len line : ℕ) (points : List Point) (standing : Standing) → line ≡ 1 → standing ≡ standing_in len points 0
    → IsLook len points 1 (record { line = line; standing = standing })
first_look len line points standing one is = record {
  number = 0;
  line = one;
  standing = is;
  worst = record {
    within = omega arith;
    most = λ i lt. let here : i ≡ 0 = omega (arith, lt) in subst (λ (k : ℕ). is_worse (standing_in len points k) (standing_in len points 0) ≡ false) (sym here) (not_worse_itself (standing_in len points 0));
    first = λ i lt. absurd (omega (arith, lt));
  };
}

module _ (len n : ℕ) (points : List Point) (look : Look) (has : IsLook len points n look) (standing : Standing) (is : standing ≡ standing_in len points n) where
  abbrev none_so_far : (i : ℕ) → i < n → is_worse (standing_in len points i) look.standing ≡ false
  none_so_far i lt = subst (λ (s : Standing). is_worse (standing_in len points i) s ≡ false) (sym has.standing) (has.worst.most i lt)

  pub worse_look : (line : ℕ) → line ≡ n + 1 → is_worse standing look.standing ≡ true → IsLook len points (n + 1) (record { line = line; standing = standing })
  worse_look line next more = record {
    number = n;
    line = next;
    standing = is;
    worst = record {
      within = omega arith;
      most = λ i lt. last_or i n (λ (k : ℕ). is_worse (standing_in len points k) (standing_in len points n) ≡ false) lt
          (λ below. subst (λ (s : Standing). is_worse (standing_in len points i) s ≡ false) is (none_worse_than standing look.standing (standing_in len points i) more (none_so_far i below)))
          (not_worse_itself (standing_in len points n));
      first = λ i lt. subst (λ (s : Standing). is_worse s (standing_in len points i) ≡ true) is (worse_than standing look.standing (standing_in len points i) more (none_so_far i lt));
    };
  }

  pub same_look : is_worse standing look.standing ≡ false → IsLook len points (n + 1) look
  same_look none = record {
    number = has.number;
    line = has.line;
    standing = has.standing;
    worst = record {
      within = omega (arith, has.worst.within);
      most = λ i lt. last_or i n (λ (k : ℕ). is_worse (standing_in len points k) (standing_in len points has.number) ≡ false) lt (has.worst.most i)
          (subst (λ (s : Standing). is_worse s (standing_in len points has.number) ≡ false) is (subst (λ (s : Standing). is_worse standing s ≡ false) has.standing none));
      first = has.worst.first;
    };
  }

-- ---- one heap more

-- at no point a heap stands worse than after the line that is named above it
none_worse_than_named : (trace : Trace) (j number : ℕ) (look : Look) → IsNamed trace j look → number < length trace.lines + 2 → is_worse (standing_at trace j number) look.standing ≡ false
none_worse_than_named trace j number look named lt = subst (λ (s : Standing). is_worse (standing_at trace j number) s ≡ false) (sym named.standing) (named.worst.most number lt)

pub first_heap : (trace : Trace) (look : Look) → IsNamed trace 0 look → IsWorstOf trace 1 look
first_heap trace look named = (
  0,
  record {
    within = omega arith;
    named = named;
    most = λ i number lt within. let here : i ≡ 0 = omega (arith, lt) in subst (λ (k : ℕ). is_worse (standing_at trace k number) look.standing ≡ false) (sym here) (none_worse_than_named trace 0 number look named within);
    first = λ i number lt within. absurd (omega (arith, lt));
  },
)

module _ (trace : Trace) (n : ℕ) (worst own : Look) (has : IsWorstOf trace n worst) (named : IsNamed trace n own) where
  pub worse_heap : is_worse own.standing worst.standing ≡ true → IsWorstOf trace (n + 1) own
  worse_heap more = let so_far = has.1 in (
    n,
    record {
      within = omega arith;
      named = named;
      most = λ i number lt within. last_or i n (λ (k : ℕ). is_worse (standing_at trace k number) own.standing ≡ false) lt
          (λ below. none_worse_than own.standing worst.standing (standing_at trace i number) more (so_far.most i number below within))
          (none_worse_than_named trace n number own named within);
      first = λ i number lt within. worse_than own.standing worst.standing (standing_at trace i number) more (so_far.most i number lt within);
    },
  )

  pub same_heap : is_worse own.standing worst.standing ≡ false → IsWorstOf trace (n + 1) worst
  same_heap none = let so_far = has.1 in (
    has.0,
    record {
      within = omega (arith, so_far.within);
      named = so_far.named;
      most = λ i number lt within. last_or i n (λ (k : ℕ). is_worse (standing_at trace k number) worst.standing ≡ false) lt
          (λ below. so_far.most i number below within)
          (not_worse_over (standing_at trace n number) own.standing worst.standing (none_worse_than_named trace n number own named within) none);
      first = so_far.first;
    },
  )

-- ---- most live words

pub first_peak : (points : List Point) (live : ℕ) → live ≡ live_in points 0 → IsPeak points 1 (record { line = 1; live = live })
first_peak points live is = record {
  number = 0;
  within = omega arith;
  line = omega arith;
  live = is;
  most = λ i lt. let here : 0 ≡ i = omega (arith, lt) in subst (λ (k : ℕ). live_in points k ≤ live) here (omega (arith, is));
  first = λ i lt. absurd (omega (arith, lt));
}

module _ (points : List Point) (n live : ℕ) (peak : Peak) (has : IsPeak points n peak) (is : live ≡ live_in points n) where
  pub higher_peak : (line : ℕ) → line ≡ n + 1 → peak.live < live → IsPeak points (n + 1) (record { line = line; live = live })
  higher_peak line next more = record {
    number = n;
    within = omega arith;
    line = next;
    live = is;
    most = λ i lt. last_or i n (λ (k : ℕ). live_in points k ≤ live) lt (λ below. omega (arith, has.most i below, more)) (omega (arith, is));
    first = λ i lt. omega (arith, has.most i lt, more);
  }

  pub same_peak : live ≤ peak.live → IsPeak points (n + 1) peak
  same_peak less = record {
    number = has.number;
    within = omega (arith, has.within);
    line = has.line;
    live = has.live;
    most = λ i lt. last_or i n (λ (k : ℕ). live_in points k ≤ peak.live) lt (has.most i) (omega (arith, is, less));
    first = has.first;
  }

-- the peak of a heap of a trace
pub peak_is : (trace : Trace) (j : ℕ) (points : List Point) (peak : Peak) → points ≡ heap_points trace j → IsPeak points (length points) peak
    → IsPeak (heap_points trace j) (length trace.lines + 2) peak
peak_is trace j points peak are is =
    subst (λ (n : ℕ). IsPeak (heap_points trace j) n peak) (many_points trace j) (subst (λ (ps : List Point). IsPeak ps (length ps) peak) are is)
