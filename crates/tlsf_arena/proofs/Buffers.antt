-- A block for several values: its type and its parts, a piece as room for it, and what `moved` gave. Assumes `Logic`.
use Rattle.tlsf_arena.proofs.Walking.{◌≡◌, ℕ, ◌+◌, ◌-◌, ◌*◌, ◌/◌, ◌%◌, ◌≤◌, List, [], ◌∷◌, ◌++◌, MatchResult, Ok, Err, refl, sym, ap, ◌∙◌, arith, array_of, block_with_items, El, room_split, glued, add_times, Home, ints, ways, behind, whole_token, Ura, Ty, Width, ty_array, Val, vstruct, vcons, vnil, of_list, bytes, size, SProp, ent, sep, emp, never, fst∗, Fml, ffalse, fsep, froom, Logic, sem, Item, Goal, Seq, ‵, raw, ◌⊛◌, ◌$◌, ◌∵◌, !, qed, by, move, drop, use1, use2, split, frame, rewrite, fsplit, fjoin, fpick, feq_l, done, live, RattleType, Ptr, RawPtr, block_ptr, null_ptr, ptr_val, in_a_block, layout, shadow, makes_shadow, pure_l, only, bytes_at, units_of, plainly, align_w}
use mir.Raw.{raw as bare}
use prog.RawLaws.{size-raw}
use Rattle.core.specs.contracts.result.Result as result
use Rattle.tlsf_arena.proofs.Taken.{even, as_ints, from_ints}
use Rattle.tlsf_arena.proofs.Ways.{ints_cut, ints_glue, left_even, opens, closes, ways_cut, ways_glue}
use Rattle.tlsf_arena.specs.contracts.buffer.Buffer as buffer
use Rattle.tlsf_arena.specs.contracts.buffer_grant.BufferGrant as grant

-- ---- the machine value of a `Buffer`

abbrev pub buffer_val : Ptr → Val
buffer_val p = vstruct (vcons (ptr_val p) (vcons (vstruct vnil) vnil))

abbrev pub buffer_own : Ptr → List Val → Fml
buffer_own p = (plainly (RawPtr ∷ plainly [] ∷ [])).own_val (p, (tt, tt))

pub buffer_told : (p : Ptr) (vs : List Val) → shadow (buffer_own p vs) → (vs ≡ buffer_val p ∷ []) × Unit {0}
buffer_told p vs s = (s.1.0 ∙ (λ i. vstruct (of_list (s.1.1.0 i ++ (s.1.1.1.0.1.0 i ++ []))) ∷ []), tt)

pub buffer_made : {M : Type 1} {𝓤 : Ura M} (𝓛 : Logic 𝓤) (p : Ptr) → Unit {0} → ent 𝓤 (emp 𝓤) (sem 𝓛 (buffer_own p (buffer_val p ∷ [])))
buffer_made 𝓛 p f = makes_shadow 𝓛 (buffer_own p (buffer_val p ∷ [])) (λ _. (tt, (tt, ((λ _. (tt, tt)), tt)))) ((ptr_val p ∷ [], (vstruct vnil ∷ [], tt)), (refl, (refl, ((tt, (refl, tt)), tt))))

-- ---- blocks and their parts

module _ (E : El) where
  abbrev τ : Ty
  τ = layout E.row

  abbrev s : ℕ
  s = size τ

  abbrev pub block_type : ℕ → Ty
  block_type n = bare (ty_array τ n)

  pub block_size : (n : ℕ) → size (block_type n) ≡ n * s
  block_size n = size-raw (ty_array τ n)

  module _ {M : Type 1} {𝓤 : Ura M} (𝓛 : Logic 𝓤) where
    open 𝓛 use {H}

    abbrev ◌⊢◌ : SProp 𝓤 → SProp 𝓤 → Type 1
    P ⊢ Q = ent 𝓤 P Q

    abbrev ◌∗◌ : SProp 𝓤 → SProp 𝓤 → SProp 𝓤
    P ∗ Q = sep 𝓤 P Q

    infix 26 ◌⊢◌
    infixr 35 ◌∗◌
    abbrev room : ℕ → ℕ → ℕ → SProp 𝓤
    room n b o = H.room (ty_array τ n) b o

    -- the places of the values and those after them are the block
    pub emptied : (len cap b o : ℕ) → len ≤ cap → room len b o ∗ H.room (block_type (cap - len)) b (o + len * s) ⊢ room cap b o
    emptied len cap b o within =
        qed 𝓛 (raw (room len b o) ∷ ‵ (froom (block_type (cap - len)) b (o + len * s)) ∷ []) ∵ move ! (1 ∷ []) $
        use1 𝓛 (raw (room (cap - len) b (o + len * s))) (𝓛.laws.raw-room (ty_array τ (cap - len)) b (o + len * s)) $ move ! (1 ∷ 0 ∷ []) $ by ! (glued E 𝓛 len (cap - len) cap b o (omega arith))

    pub parted : (len cap b o : ℕ) → len ≤ cap → H.room (block_type cap) b o ⊢ room len b o ∗ H.room (block_type (cap - len)) b (o + len * s)
    parted len cap b o within =
        qed 𝓛 (‵ (froom (block_type cap) b o) ∷ []) ∵ use1 𝓛 (raw (room cap b o)) (𝓛.laws.raw-room (ty_array τ cap) b o) $
        use1 𝓛 (raw (room len b o) ⊛ raw (room (cap - len) b (o + len * s))) (room_split E 𝓛 len cap b o within) $ split ! $ frame ! $ by ! (𝓛.laws.room-raw (ty_array τ (cap - len)) b (o + len * s))

    -- ---- the room behind the values

    abbrev w : Width
    w = align_w (block_type 0)

    -- what lies behind the values of a piece of n bytes at `at`, where there is room for `cap` of them
    abbrev pub spare : (len cap b at n : ℕ) → SProp 𝓤
    spare len cap b at n = H.room (block_type (cap - len)) b (at + len * s) ∗ sem 𝓛 (behind (block_type cap) b at n)

    -- the same whatever there is room for: integers of the values' alignment, and each grain's way back
    abbrev loose : (len b at n : ℕ) → SProp 𝓤
    loose len b at n = H.room (ints w (n - len * s)) b (at + len * s) ∗ sem 𝓛 (ways w b at (n / 16))

    module _ (len cap b at n : ℕ) (within : len ≤ cap) (holds : size (block_type cap) ≤ n) where
      abbrev room_left : ℕ
      room_left = size (block_type (cap - len))

      abbrev rest : ℕ
      rest = n - size (block_type cap)

      spread : size (block_type cap) ≡ len * s + room_left
      spread = block_size cap ∙ ap (λ (k : ℕ). k * s) (let z : cap ≡ len + (cap - len) = omega (arith, within) in z) ∙ add_times len (cap - len) s ∙ ap (λ (k : ℕ). len * s + k) (sym (block_size (cap - len)))

      loosens : spare len cap b at n ⊢ loose len b at n
      loosens =
          let x = at + len * s in
          qed 𝓛 (‵ (froom (block_type (cap - len)) b x) ∷ ‵ (behind (block_type cap) b at n) ∷ []) ∵
          use1 𝓛 (‵ (froom (ints w room_left) b x)) (as_ints 𝓛 (block_type (cap - len)) b x) $ move ! (1 ∷ []) $ fsplit ! $
          rewrite ! 0 (λ (d : ℕ). ‵ (froom (ints w rest) b d)) (let z : at + size (block_type cap) ≡ x + room_left = omega (arith, spread) in z) refl $ move ! (2 ∷ 0 ∷ []) $
          use2 𝓛 (‵ (froom (ints w (room_left + rest)) b x)) (ints_glue 𝓛 w b x room_left rest (even (block_type (cap - len)))) $
          rewrite ! 0 (λ (k : ℕ). ‵ (froom (ints w k) b x)) (let z : room_left + rest ≡ n - len * s = omega (arith, spread, holds) in z) refl $ done !

      fastens : loose len b at n ⊢ spare len cap b at n
      fastens =
          let x = at + len * s in
          qed 𝓛 (‵ (froom (ints w (n - len * s)) b x) ∷ ‵ (ways w b at (n / 16)) ∷ []) ∵
          rewrite ! 0 (λ (k : ℕ). ‵ (froom (ints w k) b x)) (let z : n - len * s ≡ room_left + rest = omega (arith, spread, holds) in z) refl $
          use1 𝓛 (‵ (froom (ints w room_left) b x) ⊛ ‵ (froom (ints w rest) b (x + room_left))) (ints_cut 𝓛 w b x room_left rest (even (block_type (cap - len)))) $ split ! $
          use1 𝓛 (‵ (froom (block_type (cap - len)) b x)) (from_ints 𝓛 (block_type (cap - len)) b x) $ frame ! $
          rewrite ! 0 (λ (d : ℕ). ‵ (froom (ints w rest) b d)) (let z : x + room_left ≡ at + size (block_type cap) = omega (arith, spread) in z) refl $ fjoin ! $ done !

      -- the values leave whole integers
      loose_even : n % 16 ≡ 0 → (n - len * s) % bytes w ≡ 0
      loose_even grains = left_even w (len * s) n (ap (λ (k : ℕ). k % bytes w) (sym (block_size len)) ∙ even (block_type len)) grains (omega (arith, spread, holds))

    module _ (len old new b at : ℕ) (le : len ≤ old) (le' : len ≤ new) where
      -- for another number of values in a piece of equally many bytes
      pub refits : (n n' : ℕ) → size (block_type old) ≤ n → size (block_type new) ≤ n' → n ≡ n' → spare len old b at n ⊢ spare len new b at n'
      refits n n' holds holds' same =
          let x = at + len * s in
          qed 𝓛 (raw (spare len old b at n) ∷ []) ∵ use1 𝓛 (‵ (froom (ints w (n - len * s)) b x) ⊛ ‵ (ways w b at (n / 16))) (loosens len old b at n le holds) $ split ! $
          rewrite ! 0 (λ (k : ℕ). ‵ (froom (ints w (k - len * s)) b x)) same refl $ rewrite ! 1 (λ (k : ℕ). ‵ (ways w b at (k / 16))) same refl $ by ! (fastens len new b at n' le' holds')

      -- with the d bytes behind the piece
      pub extends : (n d n' : ℕ) → size (block_type old) ≤ n → size (block_type new) ≤ n' → n + d ≡ n' → n % 16 ≡ 0 → d % 16 ≡ 0
          → H.room (block_type (old - len)) b (at + len * s) ∗ (sem 𝓛 (behind (block_type old) b at n) ∗ sem 𝓛 (bytes_at (block_ptr b (at + n)) d)) ⊢ spare len new b at n'
      extends n d n' holds holds' sums' grains grains' =
          let x = at + len * s in let k = d / 16 in let front = n - len * s in let y = at + n in
          let fits : len * s ≤ n = omega (arith, spread len old b at n le holds, holds) in
          let whole : d ≡ 16 * k = omega (arith, grains') in
          qed 𝓛 (‵ (froom (block_type (old - len)) b x) ∷ ‵ (behind (block_type old) b at n) ∷ ‵ (froom (units_of d) b y) ∷ []) ∵ use2 𝓛 (‵ (froom (ints w front) b x) ⊛ ‵ (ways w b at (n / 16))) (loosens len old b at n le holds) $ split ! $ move ! (2 ∷ []) $
          rewrite ! 0 (λ (j : ℕ). ‵ (froom (units_of j) b y)) whole refl $ use1 𝓛 (‵ (froom (ints w (16 * k)) b y) ⊛ ‵ (ways w b y k)) (opens 𝓛 w b y k) $ split ! $ move ! (2 ∷ 0 ∷ []) $
          rewrite ! 1 (λ (j : ℕ). ‵ (froom (ints w (16 * k)) b j)) (let z : y ≡ x + front = omega (arith, fits) in z) refl $
          use2 𝓛 (‵ (froom (ints w (front + 16 * k)) b x)) (ints_glue 𝓛 w b x front (16 * k) (loose_even len old b at n le holds grains)) $
          rewrite ! 0 (λ (j : ℕ). ‵ (froom (ints w j) b x)) (let z : front + 16 * k ≡ n' - len * s = omega (arith, fits, whole, sums') in z) refl $ move ! (2 ∷ 1 ∷ []) $
          rewrite ! 1 (λ (j : ℕ). ‵ (ways w b j k)) (let z : y ≡ at + 16 * (n / 16) = omega (arith, grains) in z) refl $ use2 𝓛 (‵ (ways w b at (n / 16 + k))) (ways_glue 𝓛 w b at (n / 16) k) $
          rewrite ! 0 (λ (j : ℕ). ‵ (ways w b at j)) (let z : n / 16 + k ≡ n' / 16 = omega (arith, grains, whole, sums') in z) refl $ move ! (1 ∷ 0 ∷ []) $ by ! (fastens len new b at n' le' holds')

      -- without the d bytes at the piece's end
      pub shortens : (n d n' : ℕ) → size (block_type old) ≤ n → size (block_type new) ≤ n' → n ≡ n' + d → n' % 16 ≡ 0 → d % 16 ≡ 0
          → spare len old b at n ⊢ H.room (block_type (new - len)) b (at + len * s) ∗ (sem 𝓛 (behind (block_type new) b at n') ∗ sem 𝓛 (bytes_at (block_ptr b (at + n')) d))
      shortens n d n' holds holds' sums' grains grains' =
          let x = at + len * s in let k = d / 16 in let front = n' - len * s in let y = at + n' in
          let fits : len * s ≤ n' = omega (arith, spread len new b at n' le' holds', holds') in
          let whole : d ≡ 16 * k = omega (arith, grains') in
          qed 𝓛 (raw (spare len old b at n) ∷ []) ∵ use1 𝓛 (‵ (froom (ints w (n - len * s)) b x) ⊛ ‵ (ways w b at (n / 16))) (loosens len old b at n le holds) $ split ! $
          rewrite ! 0 (λ (j : ℕ). ‵ (froom (ints w j) b x)) (let z : n - len * s ≡ front + 16 * k = omega (arith, fits, whole, sums') in z) refl $
          use1 𝓛 (‵ (froom (ints w front) b x) ⊛ ‵ (froom (ints w (16 * k)) b (x + front))) (ints_cut 𝓛 w b x front (16 * k) (loose_even len new b at n' le' holds' grains)) $ split ! $
          rewrite ! 1 (λ (j : ℕ). ‵ (froom (ints w (16 * k)) b j)) (let z : x + front ≡ y = omega (arith, fits) in z) refl $ move ! (2 ∷ []) $
          rewrite ! 0 (λ (j : ℕ). ‵ (ways w b at j)) (let z : n / 16 ≡ n' / 16 + k = omega (arith, grains, whole, sums') in z) refl $
          use1 𝓛 (‵ (ways w b at (n' / 16)) ⊛ ‵ (ways w b (at + 16 * (n' / 16)) k)) (ways_cut 𝓛 w b at (n' / 16) k) $ split ! $
          rewrite ! 1 (λ (j : ℕ). ‵ (ways w b j k)) (let z : at + 16 * (n' / 16) ≡ y = omega (arith, grains) in z) refl $ move ! (3 ∷ 1 ∷ []) $
          use2 𝓛 (‵ (froom (units_of (16 * k)) b y)) (closes 𝓛 w b y k) $ rewrite ! 0 (λ (j : ℕ). ‵ (froom (units_of j) b y)) (sym whole) refl $ move ! (2 ∷ 1 ∷ []) $
          use2 𝓛 (‵ (froom (block_type (new - len)) b x) ⊛ ‵ (behind (block_type new) b at n')) (fastens len new b at n' le' holds') $ split ! $ done !

-- ---- what `moved` gave

module _ (R : RattleType) where
  abbrev Buf : RattleType
  Buf = buffer.the_row R

  -- two buffers are the same where they have the same parts
  pub same_buffer : (x y : Buf.Denot) → x.ptr ≡ y.ptr → (x.unit ≡ y.unit) × (x.region ≡ y.region) × (x.len ≡ y.len) × (x.cap ≡ y.cap) × (x.items ≡ y.items) → x ≡ y
  same_buffer x y at e = λ i. record { ptr = at i; marker = x.marker; unit = e.0 i; region = e.1 i; len = e.2 i; cap = e.3 i; items = e.4 i }

  abbrev BufGrant : RattleType
  BufGrant = grant.the_row R

  pub same_grant : (x y : BufGrant.Denot) → x.ptr ≡ y.ptr → (x.unit ≡ y.unit) × (x.home ≡ y.home) × (x.len ≡ y.len) × (x.cap ≡ y.cap) × (x.items ≡ y.items) → x ≡ y
  same_grant x y at e = λ i. record { ptr = at i; marker = x.marker; unit = e.0 i; home = e.1 i; len = e.2 i; cap = e.3 i; items = e.4 i }

  abbrev pub Moved : RattleType
  Moved = result.the_row BufGrant BufGrant

  abbrev pub MovedTold : BufGrant.Denot → ℕ → ℕ → Moved.Denot → Type 0
  MovedTold x len cap r = MatchResult r (λ b. (b.unit ≡ x.unit) × (b.home ≡ x.home) × (b.len ≡ len) × (b.cap ≡ cap) × (b.items ≡ x.items)) (λ b. b ≡ x)

  module _ {M : Type 1} {𝓤 : Ura M} {𝓛 : Logic 𝓤} {K : Type 0} {Γ : List (Item 𝓤)} {G : Goal 𝓤 𝓛.H} where
    pub moved : K → (x : BufGrant.Denot) (len cap : ℕ) (r : Moved.Denot) (v : Val) → MovedTold x len cap r
        → ((b o : ℕ) → v ≡ live 0 (vcons (buffer_val (block_ptr b o)) vnil) → Seq K 𝓛 (‵ (block_with_items (whole_token x.unit x.home) R (block_ptr b o) len cap x.items) ∷ Γ) G)
        → (v ≡ live 1 (vcons (buffer_val x.ptr) vnil) → Seq K 𝓛 (‵ (block_with_items (whole_token x.unit x.home) R x.ptr x.len x.cap x.items) ∷ Γ) G)
        → Seq K 𝓛 (‵ (Moved.own_val r (v ∷ [])) ∷ Γ) G
    moved t x len cap (Ok w) v told there kept =
        fpick t (λ us. fsplit t $ feq_l t (λ is. fpick t (λ vss. fsplit t $ feq_l t (λ is'. fsplit t $ move t (1 ∷ []) $ drop t $ fsplit t $ pure_l t (buffer_own w.ptr vss.0) (λ s.
        rewrite t 0 (λ (u : ℕ × Home × ℕ × ℕ × List R.Denot). ‵ (block_with_items (whole_token u.0 u.1) R w.ptr u.2 u.3 u.4)) (λ i. (told.0 i, told.1 i, told.2 i, told.3 i, told.4 i)) refl $
        in_a_block t w.ptr (λ p. block_with_items (whole_token x.unit x.home) R p len cap x.items) (fst∗ 𝓤 (never 𝓤) (sem 𝓛 (fsep ffalse (whole_token x.unit x.home (array_of R cap) null_ptr)))) (λ b o at.
        there b o (ap only is ∙ ap (λ (xs : List Val). live 0 (of_list xs)) (is' ∙ ap (λ (xs : List Val). xs ++ []) (buffer_told w.ptr vss.0 s).0) ∙ ap (λ (p : Ptr). live 0 (vcons (buffer_val p) vnil)) at)))))))
    moved t x len cap (Err w) v told there kept =
        fpick t (λ us. fsplit t $ feq_l t (λ is. fpick t (λ vss. fsplit t $ feq_l t (λ is'. fsplit t $ move t (1 ∷ []) $ drop t $ fsplit t $ pure_l t (buffer_own w.ptr vss.0) (λ s.
        rewrite t 0 (λ (u : BufGrant.Denot). ‵ (block_with_items (whole_token u.unit u.home) R u.ptr u.len u.cap u.items)) told refl $
        kept (ap only is ∙ ap (λ (xs : List Val). live 1 (of_list xs)) (is' ∙ ap (λ (xs : List Val). xs ++ []) (buffer_told w.ptr vss.0 s).0) ∙ ap (λ (u : BufGrant.Denot). live 1 (vcons (buffer_val u.ptr) vnil)) told))))))
