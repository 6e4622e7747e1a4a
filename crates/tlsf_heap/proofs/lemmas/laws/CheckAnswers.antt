-- Words that hold anything have one answer to a check.
use Rattle.tlsf_heap.proofs.Common.{◌≡◌, ℕ, zero, suc, ◌<◌, ◌==◌, cond, length, Option, Some, None, refl, sym, ap, ◌∙◌, subst, inl, inr, ◌⊎◌, arith, Image, Begins, IsSound, AreSound, GoSound, Tells, IsCheck, end_at}
use Rattle.tlsf_heap.specs.Checks.{MeetDamage}
use Rattle.tlsf_heap.specs.declared.checked.Checked.{Checked}
use Rattle.tlsf_heap.specs.declared.checked.Checked.TheVariants.{Sound, Damaged}

module _ (m : Image) where
  -- equally many sound blocks from a place on end at one place. Where fewer end, a sound one begins
  abbrev Compared : ℕ → ℕ → ℕ → ℕ → Type 0
  Compared a b x y = ((a ≡ b) × (x ≡ y)) ⊎ (((a < b) × IsSound m x) ⊎ ((b < a) × IsSound m y))

  compare : (a b from x y : ℕ) → AreSound m a from x → AreSound m b from y → Compared a b x y
  compare zero zero from x y p q = inl (refl, sym p ∙ q)
  compare zero (suc b) from x y p q = inr (inl (omega arith, subst (IsSound m) p q.0))
  compare (suc a) zero from x y p q = inr (inr (omega arith, subst (IsSound m) q p.0))
  compare (suc a) (suc b) from x y p q = elim (compare a b (end_at m from) x y p.1 q.1) [
    | inl e ↦ inl (ap suc e.0, e.1)
    | inr r ↦ elim r [ inl l ↦ inr (inl (omega (arith, l.0), l.1)) | inr g ↦ inr (inr (omega (arith, g.0), g.1)) ]
  ]

  -- none begins at the region's end
  not_past : (x : ℕ) → IsSound m x → x ≡ length m.words → ⊥
  not_past x sound e = omega (arith, sound.begins.room, e)

  module _ (from most : ℕ) where
    one_next : (p q : ℕ) → GoSound m from most p → GoSound m from most q → p ≡ q
    one_next p q g h = elim (compare g.count h.count from g.end h.end g.sound h.sound) [
      | inl e ↦ g.next_is ∙ ap (λ (x : ℕ). cond (x == length m.words) 0 x) e.1 ∙ sym h.next_is
      | inr r ↦ elim r [
        | inl l ↦ absurd (not_past g.end l.1 (g.whole (omega (arith, l.0, h.within))))
        | inr l ↦ absurd (not_past h.end l.1 (h.whole (omega (arith, l.0, g.within))))
      ]
    ]

    not_both : (p q : ℕ) → GoSound m from most p → MeetDamage m from most q → ⊥
    not_both p q g d = elim (compare g.count d.count from g.end q g.sound d.sound) [
      | inl e ↦ let whole = g.whole (omega (arith, e.0, d.within)) in omega (arith, whole, e.1, d.inside)
      | inr r ↦ elim r [
        | inl l ↦ not_past g.end l.1 (g.whole (omega (arith, l.0, d.within)))
        | inr l ↦ d.damaged l.1
      ]
    ]

    one_damaged : (p q : ℕ) → MeetDamage m from most p → MeetDamage m from most q → p ≡ q
    one_damaged p q d e = elim (compare d.count e.count from p q d.sound e.sound) [
      | inl same ↦ same.1
      | inr r ↦ elim r [ inl l ↦ absurd (d.damaged l.1) | inr l ↦ absurd (e.damaged l.1) ]
    ]

    one_tells : (a b : Checked) → Tells m from most a → Tells m from most b → a ≡ b
    one_tells (Sound p) (Sound q) g h = ap Sound (one_next p q g h)
    one_tells (Sound p) (Damaged q) g d = absurd (not_both p q g d)
    one_tells (Damaged p) (Sound q) d g = absurd (not_both q p g d)
    one_tells (Damaged p) (Damaged q) d e = ap Damaged (one_damaged p q d e)

    pub one_answer : (a b : Option Checked) → IsCheck m from most a → IsCheck m from most b → a ≡ b
    one_answer None None p q = refl
    one_answer None (Some b) p q = absurd (p q.0)
    one_answer (Some a) None p q = absurd (q p.0)
    one_answer (Some a) (Some b) p q = ap Some (one_tells a b p.1 q.1)

    pub damage_told : (at : ℕ) → Begins m from → MeetDamage m from most at → (answer : Option Checked) → IsCheck m from most answer → answer ≡ Some (Damaged at)
    damage_told at begins meets answer is = one_answer answer (Some (Damaged at)) is (begins, meets)
