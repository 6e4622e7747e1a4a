-- Grains as integers of a width, and the ways back. Assumes `Logic`.
use Rattle.tlsf_arena.proofs.Walking.{◌≡◌, ℕ, zero, suc, ◌+◌, ◌-◌, ◌*◌, ◌/◌, ◌%◌, ◌≤◌, [], ◌∷◌, refl, sym, ap, ◌∙◌, arith, suc-mul, ints, ways, Ura, Width, w8, w16, w32, w64, w128, ty_int, ty_array, bytes, SProp, ent, sep, wand, apply∗, fwand, froom, Dv, Logic, sem, ‵, raw, ◌⊛◌, ◌$◌, ◌∵◌, !, qed, by, move, drop, use0, use1, use2, split, fsplit, fjoin, rewrite, done, nothing, units_of, cuts, glues, resized}
use denote.RawPtr.Room.{room_cut, room_glue, past}

by_width : (P : ℕ → Type 0) → P 1 → P 2 → P 4 → P 8 → P 16 → (w : Width) → P (bytes w)
by_width P a b c d e w8 = a
by_width P a b c d e w16 = b
by_width P a b c d e w32 = c
by_width P a b c d e w64 = d
by_width P a b c d e w128 = e

pub sums : (w : Width) (m n : ℕ) → m % bytes w ≡ 0 → (m + n) / bytes w ≡ m / bytes w + n / bytes w
sums w m n = by_width (λ a. m % a ≡ 0 → (m + n) / a ≡ m / a + n / a) (λ e. omega (arith, e)) (λ e. omega (arith, e)) (λ e. omega (arith, e)) (λ e. omega (arith, e)) (λ e. omega (arith, e)) w

pub exact : (w : Width) (m : ℕ) → m % bytes w ≡ 0 → m / bytes w * bytes w ≡ m
exact w m = by_width (λ a. m % a ≡ 0 → m / a * a ≡ m) (λ e. omega (arith, e)) (λ e. omega (arith, e)) (λ e. omega (arith, e)) (λ e. omega (arith, e)) (λ e. omega (arith, e)) w

pub grains_even : (w : Width) (k : ℕ) → (16 * k) % bytes w ≡ 0
grains_even w k = by_width (λ a. (16 * k) % a ≡ 0) (omega arith) (omega arith) (omega arith) (omega arith) (omega arith) w

-- what is left of grains after some integers are integers
pub left_even : (w : Width) (m n : ℕ) → m % bytes w ≡ 0 → n % 16 ≡ 0 → m ≤ n → (n - m) % bytes w ≡ 0
left_even w m n = by_width (λ a. m % a ≡ 0 → n % 16 ≡ 0 → m ≤ n → (n - m) % a ≡ 0) (λ e f g. omega (arith, e, f, g)) (λ e f g. omega (arith, e, f, g)) (λ e f g. omega (arith, e, f, g)) (λ e f g. omega (arith, e, f, g)) (λ e f g. omega (arith, e, f, g)) w

none : (w : Width) → 0 ≡ 16 * 0 / bytes w
none w = by_width (λ a. 0 ≡ 16 * 0 / a) refl refl refl refl refl w

past_ints : (w : Width) (k o : ℕ) → past (ty_int w) k o ≡ o + k * bytes w
past_ints w zero o = omega arith
past_ints w (suc k) o = past_ints w k (o + bytes w) ∙ omega (arith, suc-mul k (bytes w))

divides : (w : Width) → Dv (bytes w) 16
divides w8 = tt
divides w16 = tt
divides w32 = tt
divides w64 = tt
divides w128 = tt

module _ {M : Type 1} {𝓤 : Ura M} (𝓛 : Logic 𝓤) (w : Width) (b : ℕ) where
  open 𝓛 use {H}

  abbrev Pr : Type 2
  Pr = SProp 𝓤

  abbrev ◌⊢◌ : Pr → Pr → Type 1
  P ⊢ Q = ent 𝓤 P Q

  abbrev ◌∗◌ : Pr → Pr → Pr
  P ∗ Q = sep 𝓤 P Q

  abbrev ◌-∗◌ : Pr → Pr → Pr
  P -∗ Q = wand 𝓤 P Q

  infix 26 ◌⊢◌
  infixr 35 ◌∗◌
  infixr 30 ◌-∗◌
  abbrev a : ℕ
  a = bytes w

  abbrev all : ℕ → ℕ → Pr
  all x n = H.room (units_of n) b x

  abbrev part : ℕ → ℕ → Pr
  part x n = H.room (ints w n) b x

  abbrev back : ℕ → ℕ → Pr
  back x k = sem 𝓛 (ways w b x k)

  far : (x m : ℕ) → m % a ≡ 0 → past (ty_int w) (m / a) x ≡ x + m
  far x m e = past_ints w (m / a) x ∙ ap (λ (k : ℕ). x + k) (exact w m e)

  pub ints_cut : (x m n : ℕ) → m % a ≡ 0 → part x (m + n) ⊢ part x m ∗ part (x + m) n
  ints_cut x m n e = qed 𝓛 (raw (part x (m + n)) ∷ []) ∵ rewrite ! 0 (λ (k : ℕ). raw (H.room (ty_array (ty_int w) k) b x)) (sums w m n e) refl $
      use1 𝓛 (raw (part x m) ⊛ raw (part (past (ty_int w) (m / a) x) n)) (room_cut 𝓛 (ty_int w) (m / a) (n / a) b x) $ split ! $ rewrite ! 1 (λ (d : ℕ). raw (part d n)) (far x m e) refl $ done !

  pub ints_glue : (x m n : ℕ) → m % a ≡ 0 → part x m ∗ part (x + m) n ⊢ part x (m + n)
  ints_glue x m n e = qed 𝓛 (raw (part x m) ∷ raw (part (x + m) n) ∷ []) ∵ rewrite ! 1 (λ (d : ℕ). raw (part d n)) (sym (far x m e)) refl $
      use2 𝓛 (raw (H.room (ty_array (ty_int w) (m / a + n / a)) b x)) (room_glue 𝓛 (ty_int w) (m / a) (n / a) b x) $ rewrite ! 0 (λ (k : ℕ). raw (H.room (ty_array (ty_int w) k) b x)) (sym (sums w m n e)) refl $ done !

  pub ints_same : (x m n : ℕ) → m ≡ n → part x m ⊢ part x n
  ints_same x m n same = qed 𝓛 (raw (part x m) ∷ []) ∵ rewrite ! 0 (λ (k : ℕ). raw (part x k)) same refl $ done !

  -- this many grains as integers, each with its way back
  pub opens : (x k : ℕ) → all x (16 * k) ⊢ part x (16 * k) ∗ back x k
  opens x zero = qed 𝓛 (raw (all x (16 * zero)) ∷ []) ∵ drop ! $ use0 𝓛 (raw (H.room (ty_array (ty_int w) zero) b x)) (𝓛.laws.room_nil (ty_int w) b x) $
      rewrite ! 0 (λ (n : ℕ). raw (H.room (ty_array (ty_int w) n) b x)) (none w) refl $ nothing ! $ move ! (1 ∷ 0 ∷ []) $ done !
  opens x (suc k) =
      let One : Pr = part x 16 in let Grain : Pr = all x 16 in
      qed 𝓛 (raw (all x (16 * suc k)) ∷ []) ∵ use1 𝓛 (raw (all x (16 + 16 * k))) (resized 𝓛 b x (16 * suc k) (16 + 16 * k) (omega arith)) $
      use1 𝓛 (raw Grain ⊛ raw (all (x + 16) (16 * k))) (cuts 𝓛 b x 16 (16 * k) refl) $ split ! $
      use1 𝓛 (raw One ⊛ ‵ (fwand (froom (ints w 16) b x) (froom (units_of 16) b x))) (𝓛.laws.room_as (units_of 16) (ints w 16) b x (exact w 16 (grains_even w 1)) (divides w)) $ split ! $ move ! (2 ∷ []) $
      use1 𝓛 (raw (part (x + 16) (16 * k)) ⊛ ‵ (ways w b (x + 16) k)) (opens (x + 16) k) $ split ! $ move ! (2 ∷ 0 ∷ []) $
      use2 𝓛 (raw (part x (16 + 16 * k))) (ints_glue x 16 (16 * k) (grains_even w 1)) $ use1 𝓛 (raw (part x (16 * suc k))) (ints_same x (16 + 16 * k) (16 * suc k) (omega arith)) $
      move ! (2 ∷ 1 ∷ []) $ fjoin ! $ move ! (1 ∷ 0 ∷ []) $ done !

  pub closes : (x k : ℕ) → part x (16 * k) ∗ back x k ⊢ all x (16 * k)
  closes x zero = qed 𝓛 (raw (part x (16 * zero)) ∷ ‵ (ways w b x zero) ∷ []) ∵ drop ! $ drop ! $ use0 𝓛 (raw (H.room (ty_array (ty_int w128) zero) b x)) (𝓛.laws.room_nil (ty_int w128) b x) $ done !
  closes x (suc k) =
      let One : Pr = part x 16 in let Grain : Pr = all x 16 in
      qed 𝓛 (raw (part x (16 * suc k)) ∷ ‵ (ways w b x (suc k)) ∷ []) ∵ use1 𝓛 (raw (part x (16 + 16 * k))) (ints_same x (16 * suc k) (16 + 16 * k) (omega arith)) $
      use1 𝓛 (raw One ⊛ raw (part (x + 16) (16 * k))) (ints_cut x 16 (16 * k) (grains_even w 1)) $ split ! $ move ! (2 ∷ []) $ fsplit ! $ move ! (2 ∷ 0 ∷ []) $
      use2 𝓛 (raw Grain) (apply∗ 𝓤 One Grain) $ move ! (2 ∷ 1 ∷ []) $ use2 𝓛 (raw (all (x + 16) (16 * k))) (closes (x + 16) k) $ move ! (1 ∷ 0 ∷ []) $
      use2 𝓛 (raw (all x (16 + 16 * k))) (glues 𝓛 b x 16 (16 * k) refl) $ by ! (resized 𝓛 b x (16 + 16 * k) (16 * suc k) (omega arith))

  moved : (x y k : ℕ) → x ≡ y → back x k ⊢ back y k
  moved x y k same = qed 𝓛 (‵ (ways w b x k) ∷ []) ∵ rewrite ! 0 (λ (d : ℕ). ‵ (ways w b d k)) same refl $ done !

  pub ways_cut : (x j k : ℕ) → back x (j + k) ⊢ back x j ∗ back (x + 16 * j) k
  ways_cut x zero k = qed 𝓛 (‵ (ways w b x (zero + k)) ∷ []) ∵ rewrite ! 0 (λ (i : ℕ). ‵ (ways w b x i)) (let e : zero + k ≡ k = omega arith in e) refl $ use1 𝓛 (‵ (ways w b (x + 16 * zero) k)) (moved x (x + 16 * zero) k (omega arith)) $ nothing ! $ done !
  ways_cut x (suc j) k = qed 𝓛 (‵ (ways w b x (suc j + k)) ∷ []) ∵ rewrite ! 0 (λ (i : ℕ). ‵ (ways w b x i)) (let e : suc j + k ≡ suc (j + k) = omega arith in e) refl $ fsplit ! $ move ! (1 ∷ []) $
      use1 𝓛 (‵ (ways w b (x + 16) j) ⊛ ‵ (ways w b (x + 16 + 16 * j) k)) (ways_cut (x + 16) j k) $ split ! $ move ! (1 ∷ []) $ use1 𝓛 (‵ (ways w b (x + 16 * suc j) k)) (moved (x + 16 + 16 * j) (x + 16 * suc j) k (omega arith)) $
      move ! (2 ∷ 1 ∷ []) $ fjoin ! $ done !

  pub ways_glue : (x j k : ℕ) → back x j ∗ back (x + 16 * j) k ⊢ back x (j + k)
  ways_glue x zero k = qed 𝓛 (‵ (ways w b x zero) ∷ ‵ (ways w b (x + 16 * zero) k) ∷ []) ∵ drop ! $ use1 𝓛 (‵ (ways w b x k)) (moved (x + 16 * zero) x k (omega arith)) $ rewrite ! 0 (λ (i : ℕ). ‵ (ways w b x i)) (let e : k ≡ zero + k = omega arith in e) refl $ done !
  ways_glue x (suc j) k = qed 𝓛 (‵ (ways w b x (suc j)) ∷ ‵ (ways w b (x + 16 * suc j) k) ∷ []) ∵ fsplit ! $ move ! (2 ∷ []) $ use1 𝓛 (‵ (ways w b (x + 16 + 16 * j) k)) (moved (x + 16 * suc j) (x + 16 + 16 * j) k (omega arith)) $
      move ! (2 ∷ 0 ∷ []) $ use2 𝓛 (‵ (ways w b (x + 16) (j + k))) (ways_glue (x + 16) j k) $ move ! (1 ∷ 0 ∷ []) $ fjoin ! $ rewrite ! 0 (λ (i : ℕ). ‵ (ways w b x i)) (let e : suc (j + k) ≡ suc j + k = omega arith in e) refl $ done !
