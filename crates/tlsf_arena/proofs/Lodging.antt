-- A piece as room that a vector of bytes has, and `lodge` and `dislodge` at a call. Assumes `Logic`.
use Rattle.tlsf_arena.proofs.Walking.{◌≡◌, ℕ, ◌+◌, ◌-◌, ◌*◌, ◌/◌, ◌%◌, ◌^◌, ◌<◌, ◌≤◌, List, [], ◌∷◌, length, true, refl, sym, ap, ◌∙◌, arith, Vec, ne_eqb, not_from_false, handle_tells, block_with_items, lodged, owns_if, has_block, ints, ways, Ura, w8, w64, ty_int, ty_array, dict_at, Val, vint, vptr, has_ty, WT, full_share, SProp, ent, sep, ex, guard, emp, id⊢, ftrue, fsep, feq, flft, froom, Memory, Fun, fact, fact_i, ◌⊑◌, ⊑_refl, Logic, sem, Goal, Seq, Item, ‵, raw, ◌⊛◌, some, later, ◌$◌, ◌∵◌, !, qed, move, use0, use1, use2, drop, split, split3, join, pick, fsplit, fsplit3, fjoin, fjoin3, feq_l, feq_i, flt_l, flt_i, rewrite, check, show, await, updating, now, done, no, left, RattleType, u8, usize, Array, part_at, param, layout, Laws, of_field, block_ptr, only, nothing, heard, triple_of, Lodged, units_of}
use lib.Dec.{T}
use prog.Routine.{Routine}
use denote.Param.Shared.{copy_shared}
use denote.RawPtr.Bytes.{bytes, bytes_apart, bytes_whole, bytes-room}
use denote.Struct.Field.{u8-field}
use denote.Struct.Laws.{u8-laws, u8-copy}
use denote.Triple.Statement.{Contract}
use Rattle.std_alloc.specs.contracts.vec.Vec as V
use Rattle.std_alloc.specs.contracts.vec.lodged.Lodged as L
use Rattle.std_alloc.specs.contracts.vec.lodged.LodgedAllocator.TheImpl.{ghosts}
use Rattle.std_alloc.specs.contracts.vec.lodge as LG
use Rattle.std_alloc.specs.contracts.vec.lodged.Vec+T+Lodged.dislodge as DL
use Rattle.std_alloc.proofs.vec.Vec.TheLaws as vec_laws
use Rattle.std_alloc.proofs.vec.lodged.Lodged.TheLaws as lodged-laws
use Rattle.tlsf_arena.proofs.Ways.{opens, closes, ints_glue}

abbrev pub byte_laws : Laws u8
byte_laws = of_field u8-field u8-laws refl (copy_shared u8-field u8-copy)

abbrev pub Housed : RattleType
Housed = V.the_row u8 L.the_row ghosts

abbrev pub housed-laws : Laws Housed
housed-laws = vec_laws.the_row_laws u8 L.the_row ghosts byte_laws lodged-laws.the_row_laws

abbrev pub Good : RattleType → Val → Type 0
Good R v = T (has_ty (layout R) v) × WT v

module _ {M : Type 1} {𝓤 : Ura M} {𝓛 : Logic 𝓤} {K : Type 0} {Γ : List (Item 𝓤)} {G : Goal 𝓤 𝓛.H} where
  -- what a vector owns is one machine value, of its type
  pub vec_tells : K → (x : Vec ℕ Lodged) (vs : List Val) → ((v : Val) → vs ≡ v ∷ [] → Good Housed v → Seq K 𝓛 (‵ (Housed.own_val x (v ∷ [])) ∷ Γ) G) → Seq K 𝓛 (‵ (Housed.own_val x vs) ∷ Γ) G
  vec_tells t = handle_tells (record { row = Housed; laws = housed-laws; g = record { dealloc_token = λ a τ p. ftrue }; d = dict_at 0; drops = dict_at 0 }) t

live : (c : ℕ) → 0 < c → has_block c ≡ true
live c h = not_from_false _ (ne_eqb c 0 (λ e. omega arith))

module _ {M : Type 1} {𝓤 : Ura M} (𝓛 : Logic 𝓤) (b o n : ℕ) (some_bytes : 0 < n) (grains : n % 16 ≡ 0) (small : n < 2 ^ 63) where
  open 𝓛 use {H}

  abbrev k : ℕ
  k = n / 16

  -- the piece's bytes as room for equally many, and the way back
  pub piece_out : ent 𝓤 (sem 𝓛 (froom (units_of n) b o)) (sep 𝓤 (sem 𝓛 (lodged u8 (block_ptr b o) 0 n [])) (sem 𝓛 (ways w8 b o k)))
  piece_out =
      let p = block_ptr b o in
      let whole : n ≡ 16 * k = omega (arith, grains) in
      let count : 16 * k / 1 ≡ n - 0 = omega (arith, grains) in
      let here : o ≡ o + 0 * 1 = omega arith in
      qed 𝓛 (‵ (froom (units_of n) b o) ∷ []) ∵ rewrite ! 0 (λ (m : ℕ). ‵ (froom (units_of m) b o)) whole refl $
      use1 𝓛 (‵ (froom (ints w8 (16 * k)) b o) ⊛ ‵ (ways w8 b o k)) (opens 𝓛 w8 b o k) $ split ! $
      rewrite ! 0 (λ (m : ℕ). ‵ (froom (ty_array (ty_int w8) m) b o)) count refl $
      rewrite ! 0 (λ (x : ℕ). ‵ (froom (ty_array (ty_int w8) (n - 0)) b x)) here refl $
      nothing ! $ nothing ! $ feq_i ! ℕ 0 0 refl $ fjoin ! $ use1 𝓛 (‵ (part_at (Array u8 0) full_share [] b o)) (bytes_whole 𝓛 full_share 0 [] b o) $
      -- [none of the bytes; nothing; the room; the way]
      move ! (0 ∷ 2 ∷ 1 ∷ []) $ fjoin3 ! $
      rewrite ! 0 (λ y. ‵ (owns_if y (block_with_items (λ _ _. ftrue) u8 p 0 n []))) (sym (live n some_bytes)) refl $ flt_i ! (n * 1) (2 ^ 63) (omega arith) $ fjoin ! $ done !

  -- and back, whatever the bytes are
  pub piece_in : (len : ℕ) (xs : List ℕ) → len ≤ n → ent 𝓤 (sep 𝓤 (sem 𝓛 (lodged u8 (block_ptr b o) len n xs)) (sem 𝓛 (ways w8 b o k))) (sem 𝓛 (froom (units_of n) b o))
  piece_in len xs within =
      let p = block_ptr b o in
      let whole : 16 * k ≡ n = omega (arith, grains) in
      let even : len % 1 ≡ 0 = omega arith in
      let front : len ≡ len / 1 = omega arith in
      let back : n - len ≡ (n - len) / 1 = omega arith in
      let there : o + len * 1 ≡ o + len = omega arith in
      let all : len + (n - len) ≡ 16 * k = omega (arith, grains, within) in
      qed 𝓛 (‵ (lodged u8 p len n xs) ∷ ‵ (ways w8 b o k) ∷ []) ∵ fsplit ! $ drop ! $
      rewrite ! 0 (λ y. ‵ (owns_if y (block_with_items (λ _ _. ftrue) u8 p len n xs))) (live n some_bytes) refl $ fsplit3 ! $
      use1 𝓛 (‵ (fsep (feq ℕ (length xs) len) (bytes full_share xs b o))) (bytes_apart 𝓛 full_share len xs b o) $ fsplit ! $ feq_l ! (λ e.
      use1 𝓛 (‵ (froom (ty_array (ty_int w8) (length xs)) b o)) (bytes-room 𝓛 xs b o) $
      rewrite ! 0 (λ (m : ℕ). ‵ (froom (ty_array (ty_int w8) m) b o)) (e ∙ front) refl $
      rewrite ! 1 (λ (m : ℕ). ‵ (froom (ty_array (ty_int w8) m) b (o + len * 1))) back refl $
      rewrite ! 1 (λ (x : ℕ). ‵ (froom (ints w8 (n - len)) b x)) there refl $
      use2 𝓛 (‵ (froom (ints w8 (len + (n - len))) b o)) (ints_glue 𝓛 w8 b o len (n - len) even) $
      rewrite ! 0 (λ (m : ℕ). ‵ (froom (ints w8 m) b o)) all refl $ move ! (1 ∷ []) $ drop ! $
      use2 𝓛 (‵ (froom (units_of (16 * k)) b o)) (closes 𝓛 w8 b o k) $ rewrite ! 0 (λ (m : ℕ). ‵ (froom (units_of m) b o)) whole refl $ done !)

module _ {M : Type 1} {𝓤 : Ura M} (𝓛 : Logic 𝓤) (at_mem : Memory → SProp 𝓤) (run : Routine → Fun 𝓤) where
  open 𝓛 use {H}

  abbrev pub Lodges : Contract 𝓤
  Lodges = triple_of 𝓛 (LG.signature u8) (LG.spec u8 𝓛 at_mem run)

  abbrev pub Dislodges : Contract 𝓤
  Dislodges = triple_of 𝓛 (DL.signature u8) (DL.spec u8 𝓛 at_mem run)

  module _ (b o n : ℕ) where
    abbrev pub at_lodge : Lodges.Ghost
    at_lodge = ((([], tt), (full_share, tt), tt, (block_ptr b o, (0, (n, tt))), (vptr b o ∷ [], (vint w64 0 ∷ [], (vint w64 n ∷ [], tt)))), [])

    abbrev pub IsLodged : Vec ℕ Lodged → Type 0
    IsLodged r = (r.items ≡ []) × (r.len ≡ 0) × (r.cap ≡ n) × (r.ptr ≡ block_ptr b o)

    pub lodge_goes : n < 2 ^ 63 → ent 𝓤 (sem 𝓛 (lodged u8 (block_ptr b o) 0 n [])) (Lodges.pre at_lodge)
    lodge_goes small =
        let none : 0 ≤ n = omega arith in
        let low : n < 2 ^ 64 = omega arith in
        let first : 0 < 2 ^ 64 = omega arith in
        let Asked : Type 0 = (0 ≡ 0) × (0 ≤ n) × (n < 2 ^ 63) in
        qed 𝓛 (‵ (lodged u8 (block_ptr b o) 0 n []) ∷ []) ∵
        use0 𝓛 (raw (fact 𝓤 Asked)) (fact_i 𝓤 Asked (emp 𝓤) (refl, none, small)) $ join ! $
        use0 𝓛 (raw (fact 𝓤 ([] ⊑ []))) (fact_i 𝓤 ([] ⊑ []) (emp 𝓤) (⊑_refl [])) $ join ! $
        nothing ! $ flt_i ! n (2 ^ 64) low $ feq_i ! (List Val) (vint w64 n ∷ []) (vint w64 n ∷ []) refl $ fjoin ! $ fjoin ! $
        flt_i ! 0 (2 ^ 64) first $ feq_i ! (List Val) (vint w64 0 ∷ []) (vint w64 0 ∷ []) refl $ fjoin ! $ fjoin ! $
        feq_i ! (List Val) (vptr b o ∷ []) (vptr b o ∷ []) refl $ fjoin ! $ nothing ! $ use0 𝓛 (‵ (flft [] full_share)) (𝓛.lfts.lft-nil full_share) $ join ! $ join ! $ done !

    pub lodge_gives : (v : Val) → ent 𝓤 (Lodges.post at_lodge v) (H.⇛ (ex 𝓤 (λ (r : Vec ℕ Lodged). guard 𝓤 (IsLodged r) (sem 𝓛 (Housed.own_val r (v ∷ []))))))
    lodge_gives v =
        qed 𝓛 (raw (Lodges.post at_lodge v) ∷ []) ∵ updating ! $
        use1 𝓛 (later (some (λ (r : Vec ℕ Lodged). ((‵ (flft [] full_share) ⊛ ‵ ftrue) ⊛ ‵ (Housed.own_val r (v ∷ [])))
        ⊛ some (λ (ws : Unit {0} × (Unit {0} × (Unit {0} × Unit {0}))). ‵ (fsep ftrue (fsep ftrue (fsep ftrue ftrue))) ⊛ raw (fact 𝓤 (IsLodged r)))))) (id⊢ 𝓤 _) $ await ! tt $ pick ! (λ r.
        split ! $ move ! (1 ∷ []) $ pick ! (λ ws. split ! $ drop ! $ heard ! (IsLodged r) (λ is. split ! $ drop ! $ now ! $
        show ! (λ (z : Vec ℕ Lodged). guard 𝓤 (IsLodged z) (sem 𝓛 (Housed.own_val z (v ∷ [])))) r $ check ! is $ done !)))

  module _ (d : Vec ℕ Lodged) (u : Val) where
    abbrev pub at_dislodge : Dislodges.Ghost
    at_dislodge = ((([], tt), (full_share, tt), tt, (d, tt), (u ∷ [], tt)), tt)

    pub dislodge_goes : ent 𝓤 (sem 𝓛 (Housed.own_val d (u ∷ []))) (Dislodges.pre at_dislodge)
    dislodge_goes =
        qed 𝓛 (‵ (Housed.own_val d (u ∷ [])) ∷ []) ∵ nothing ! $ use0 𝓛 (raw (fact 𝓤 ([] ⊑ []))) (fact_i 𝓤 ([] ⊑ []) (emp 𝓤) (⊑_refl [])) $ join ! $
        nothing ! $ move ! (2 ∷ 0 ∷ []) $ fjoin ! $ nothing ! $ use0 𝓛 (‵ (flft [] full_share)) (𝓛.lfts.lft-nil full_share) $ join ! $ join ! $ done !

    pub dislodge_gives : (v : Val) → ent 𝓤 (Dislodges.post at_dislodge v) (H.⇛ (guard 𝓤 ((v ≡ vint w64 d.len) × (d.len < 2 ^ 64)) (sem 𝓛 (lodged u8 d.ptr d.len d.cap d.items))))
    dislodge_gives v =
        qed 𝓛 (raw (Dislodges.post at_dislodge v) ∷ []) ∵ updating ! $
        use1 𝓛 (later (some (λ (r : ℕ). ((‵ (flft [] full_share) ⊛ ‵ ftrue) ⊛ ‵ (usize.own_val r (v ∷ [])))
        ⊛ some (λ (ws : Unit {0} × Unit {0}). ‵ (fsep (left ((V.the_row (param 0 u8) L.the_row ghosts).exit no) d ws.0) ftrue) ⊛ raw (fact 𝓤 (r ≡ d.len)) ⊛ ‵ (lodged u8 d.ptr d.len d.cap d.items))))) (id⊢ 𝓤 _) $ await ! tt $ pick ! (λ r.
        split ! $ move ! (1 ∷ []) $ pick ! (λ ws. split3 ! $ drop ! $ heard ! (r ≡ d.len) (λ is. move ! (1 ∷ []) $ split ! $ drop ! $ fsplit ! $ feq_l ! (λ e. flt_l ! (λ f. now ! $
        check ! (ap only e ∙ ap (vint w64) is, omega arith) $ done !)))))
