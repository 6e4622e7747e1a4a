-- The two cases of what `take` gave, and a piece as room for a type. Assumes `Logic`.
use Rattle.tlsf_arena.proofs.Walking.{◌+◌, ◌-◌, ◌*◌, ◌/◌, ◌%◌, ◌≡◌, ℕ, ◌^◌, ◌<◌, ◌≤◌, List, [], ◌∷◌, ◌++◌, IfSome, None, Some, refl, sym, ap, subst, ◌∙◌, arith, IsUnit, piece_size, units_for, IsPiece, Loan, name_of, right, Home, IsLoanAt, ints, ways, behind, block_token, whole_token, Ura, Ty, Val, vcons, vnil, of_list, bytes, ent, sep, GName, fex, fwand, froom, size, capped, Dv, dv→, dv_self, align_w, align-bytes, align_size, capped_is, capped_small, Logic, sem, Item, Goal, Seq, ‵, ◌⊛◌, ◌$◌, ◌∵◌, !, qed, move, drop, use1, use2, split, frame, rewrite, fsplit, fjoin, fpick, fpack, feq_l, done, live, RattleType, Ptr, block_ptr, pure_l, only, Region, bytes_at, units_of, sized_val, sized_own, sized_told, pair_val, lease_val, lease_own, lease_told, vstruct, fsplit3, Tuple}
use Rattle.core.specs.contracts.option.Option as option
use Rattle.tlsf_arena.specs.Loans.{units_of as units_in}
use Rattle.tlsf_arena.specs.contracts.piece.Piece as piece
use Rattle.tlsf_arena.specs.contracts.right.Right as lease
use Rattle.tlsf_arena.proofs.UnitCases.{piece_holds}
use Rattle.tlsf_arena.proofs.Ways.{exact, opens, closes, ints_cut, ints_glue}

abbrev pub Taken : RattleType
Taken = option.the_row (Tuple (piece.the_row ∷ lease.the_row ∷ []))

abbrev pub Told : ℕ → Home → ℕ → ℕ → Taken.Denot → Type 0
Told u h n a x = IfSome x (λ g. (g.0.region ≡ h.0) × (g.1.book ≡ h.1) × (g.0.size ≡ piece_size u n) × (g.0.at ≡ g.0.region.start + u * (name_of g.1.loan).at) × (units_in g.1.loan ≡ units_for u n) × (n < 2 ^ 63) × (a ≤ 16))

pub even : (τ : Ty) → size τ % bytes (align_w τ) ≡ 0
even τ = dv→ (bytes (align_w τ)) (size τ) (subst (λ (k : ℕ). Dv k (size τ)) (align-bytes τ) (align_size τ))

-- room for a type is room for integers of its alignment, and they are room for it
pub as_ints : {M : Type 1} {𝓤 : Ura M} (𝓛 : Logic 𝓤) (τ : Ty) (b o : ℕ) → ent 𝓤 (𝓛.H.room τ b o) (𝓛.H.room (ints (align_w τ) (size τ)) b o)
as_ints 𝓛 τ b o = let w = align_w τ in
    qed 𝓛 (‵ (froom τ b o) ∷ []) ∵ use1 𝓛 (‵ (froom (ints w (size τ)) b o) ⊛ ‵ (fwand (froom (ints w (size τ)) b o) (froom τ b o)))
    (𝓛.laws.room_as τ (ints w (size τ)) b o (exact w (size τ) (even τ)) (subst (λ (j : ℕ). Dv (bytes w) j) (sym (align-bytes τ)) (dv_self (bytes w)))) $ split ! $ move ! (1 ∷ []) $ drop ! $ done !

pub from_ints : {M : Type 1} {𝓤 : Ura M} (𝓛 : Logic 𝓤) (τ : Ty) (b o : ℕ) → ent 𝓤 (𝓛.H.room (ints (align_w τ) (size τ)) b o) (𝓛.H.room τ b o)
from_ints 𝓛 τ b o = let w = align_w τ in
    qed 𝓛 (‵ (froom (ints w (size τ)) b o) ∷ []) ∵ use1 𝓛 (‵ (froom τ b o) ⊛ ‵ (fwand (froom τ b o) (froom (ints w (size τ)) b o)))
    (𝓛.laws.room_as (ints w (size τ)) τ b o (sym (exact w (size τ) (even τ))) (subst (λ (j : ℕ). Dv j (bytes w)) (sym (align-bytes τ)) (dv_self (bytes w)))) $ split ! $ move ! (1 ∷ []) $ drop ! $ done !

-- a piece is room for a type that fits, and the way back
pub fits_out : {M : Type 1} {𝓤 : Ura M} (𝓛 : Logic 𝓤) (u : ℕ) → IsUnit u → (r : Region) (τ : Ty) (at : ℕ) → IsPiece r (block_ptr r.block at) at (piece_size u (size τ))
    → ent 𝓤 (sem 𝓛 (bytes_at (block_ptr r.block at) (piece_size u (size τ)))) (sep 𝓤 (𝓛.H.room τ r.block at) (sem 𝓛 (block_token u r τ (block_ptr r.block at))))
fits_out {𝓤 = 𝓤} 𝓛 u unit r τ at is =
    let p : Ptr = block_ptr r.block at in
    let m = piece_size u (size τ) in
    let w = align_w τ in
    let k = m / 16 in
    let whole : m ≡ 16 * k = omega (arith, is.4.1) in
    let parts : 16 * k ≡ size τ + (m - size τ) = omega (arith, whole, piece_holds u (size τ) unit) in
    qed 𝓛 (‵ (froom (units_of m) r.block at) ∷ []) ∵ rewrite ! 0 (λ (n : ℕ). ‵ (froom (units_of n) r.block at)) whole refl $
    use1 𝓛 (‵ (froom (ints w (16 * k)) r.block at) ⊛ ‵ (ways w r.block at k)) (opens 𝓛 w r.block at k) $ split ! $
    rewrite ! 0 (λ (n : ℕ). ‵ (froom (ints w n) r.block at)) parts refl $
    use1 𝓛 (‵ (froom (ints w (size τ)) r.block at) ⊛ ‵ (froom (ints w (m - size τ)) r.block (at + size τ))) (ints_cut 𝓛 w r.block at (size τ) (m - size τ) (even τ)) $ split ! $
    use1 𝓛 (‵ (froom τ r.block at)) (from_ints 𝓛 τ r.block at) $
    frame ! $ fjoin ! $
    fpack ! (IsPiece r p at m) (λ _. behind τ r.block at m) is $ fpack ! ℕ (λ j. fex (IsPiece r p j m) (λ _. behind τ r.block j m)) at $ done !

-- and back
pub takes_in : {M : Type 1} {𝓤 : Ura M} (𝓛 : Logic 𝓤) (u : ℕ) → IsUnit u → (r : Region) (τ : Ty) (at : ℕ) → piece_size u (size τ) % 16 ≡ 0
    → ent 𝓤 (sep 𝓤 (𝓛.H.room τ r.block at) (sem 𝓛 (behind τ r.block at (piece_size u (size τ))))) (sem 𝓛 (bytes_at (block_ptr r.block at) (piece_size u (size τ))))
takes_in {𝓤 = 𝓤} 𝓛 u unit r τ at grains =
    let m = piece_size u (size τ) in
    let w = align_w τ in
    let k = m / 16 in
    let whole : m ≡ 16 * k = omega (arith, grains) in
    let parts : 16 * k ≡ size τ + (m - size τ) = omega (arith, whole, piece_holds u (size τ) unit) in
    qed 𝓛 (‵ (froom τ r.block at) ∷ ‵ (behind τ r.block at m) ∷ []) ∵
    use1 𝓛 (‵ (froom (ints w (size τ)) r.block at)) (as_ints 𝓛 τ r.block at) $ move ! (1 ∷ []) $ fsplit ! $ move ! (2 ∷ 0 ∷ []) $
    use2 𝓛 (‵ (froom (ints w (size τ + (m - size τ))) r.block at)) (ints_glue 𝓛 w r.block at (size τ) (m - size τ) (even τ)) $
    rewrite ! 0 (λ (n : ℕ). ‵ (froom (ints w n) r.block at)) (sym parts) refl $
    use2 𝓛 (‵ (froom (units_of (16 * k)) r.block at)) (closes 𝓛 w r.block at k) $ rewrite ! 0 (λ (n : ℕ). ‵ (froom (units_of n) r.block at)) (sym whole) refl $ done !

-- the same, with the right of its block, is what std's token stands for
pub hands_out : {M : Type 1} {𝓤 : Ura M} (𝓛 : Logic 𝓤) (u : ℕ) → IsUnit u → (h : Home) (τ : Ty) (at n : ℕ) (t : Loan) → capped (size τ) ≡ n → IsPiece h.0 (block_ptr h.0.block at) at (piece_size u n) → IsLoanAt u h.0 (block_ptr h.0.block at) n t → n < 2 ^ 63
    → ent 𝓤 (sep 𝓤 (sem 𝓛 (bytes_at (block_ptr h.0.block at) (piece_size u n))) (sem 𝓛 (right h.1 t))) (sep 𝓤 (𝓛.H.room τ h.0.block at) (sem 𝓛 (whole_token u h τ (block_ptr h.0.block at))))
hands_out {𝓤 = 𝓤} 𝓛 u unit h τ at n t sized placed lent small =
    let r : Region = h.0 in
    let p : Ptr = block_ptr r.block at in
    let short : size τ < 2 ^ 63 = capped_small (size τ) (omega arith) in
    let same : n ≡ size τ = sym sized ∙ capped_is (size τ) (omega arith) in
    qed 𝓛 (‵ (bytes_at p (piece_size u n)) ∷ ‵ (right h.1 t) ∷ []) ∵ rewrite ! 0 (λ (k : ℕ). ‵ (bytes_at p (piece_size u k))) same refl $
    use1 𝓛 (‵ (froom τ r.block at) ⊛ ‵ (block_token u r τ p)) (fits_out 𝓛 u unit r τ at (subst (λ (k : ℕ). IsPiece r p at (piece_size u k)) same placed)) $ split ! $ frame ! $ move ! (1 ∷ []) $
    fpack ! (IsLoanAt u r p (size τ) t) (λ _. right h.1 t) (subst (λ (k : ℕ). IsLoanAt u r p k t) same lent) $ fpack ! Loan (λ s. fex (IsLoanAt u r p (size τ) s) (λ _. right h.1 s)) t $ move ! (1 ∷ 0 ∷ []) $ fjoin ! $ done !

module _ {M : Type 1} {𝓤 : Ura M} {𝓛 : Logic 𝓤} {K : Type 0} {Γ : List (Item 𝓤)} {G : Goal 𝓤 𝓛.H} where
  pub taken : K → (u : ℕ) (h : Home) (n a : ℕ) (x : Taken.Denot) (v : Val) → Told u h n a x
      → ((at : ℕ) (l : Loan) → IsPiece h.0 (block_ptr h.0.block at) at (piece_size u n) → IsLoanAt u h.0 (block_ptr h.0.block at) n l → piece_size u n < 2 ^ 64 → n < 2 ^ 63 → a ≤ 16 → v ≡ live 1 (vcons (pair_val (sized_val (block_ptr h.0.block at) (piece_size u n)) lease_val) vnil)
      → Seq K 𝓛 (‵ (bytes_at (block_ptr h.0.block at) (piece_size u n)) ∷ ‵ (right h.1 l) ∷ Γ) G) → (v ≡ live 0 vnil → Seq K 𝓛 Γ G) → Seq K 𝓛 (‵ (Taken.own_val x (v ∷ [])) ∷ Γ) G
  taken t u h n a None v told some none =
      fpick t (λ us. fsplit t $ feq_l t (λ is. fpick t (λ vss. fsplit t $ feq_l t (λ is'. drop t $ none (ap only is ∙ ap (λ (ws : List Val). live 0 (of_list ws)) is')))))
  taken t u h n a (Some (w, o)) v told some none =
      fpick t (λ us. fsplit t $ feq_l t (λ is. fpick t (λ vss. fsplit t $ feq_l t (λ is'. fsplit t $ move t (1 ∷ []) $ drop t $ fpick t (λ ts. fsplit t $ feq_l t (λ pair. fsplit3 t $ move t (2 ∷ []) $ drop t $ fsplit t $ pure_l t (sized_own w.ptr w.size ts.0) (λ s.
      move t (1 ∷ []) $ fsplit t $ pure_l t (lease_own ts.1.0) (λ s'.
      let parts = sized_told w.ptr w.size ts.0 s in
      let r : Region = h.0 in
      let long : w.size ≡ piece_size u n = told.2 in
      let lies : w.ptr ≡ block_ptr r.block w.at = w.placed.0 ∙ ap (λ (g : Region). block_ptr g.block w.at) told.0 in
      let placed : IsPiece r (block_ptr r.block w.at) w.at (piece_size u n) = subst (λ (g : Region × Ptr × ℕ). IsPiece g.0 g.1 w.at g.2) (λ i. (told.0 i, lies i, long i)) w.placed in
      let begins : w.at ≡ r.start + u * (name_of o.loan).at = told.3 ∙ ap (λ (g : Region). g.start + u * (name_of o.loan).at) told.0 in
      let lent : IsLoanAt u r (block_ptr r.block w.at) n o.loan = (ap (block_ptr r.block) begins, told.4) in
      move t (1 ∷ []) $ rewrite t 0 (λ (g : Ptr × ℕ). ‵ (bytes_at g.0 g.1)) (λ i. (lies i, long i)) refl $ rewrite t 1 (λ (γ : GName). ‵ (right γ o.loan)) told.1 refl $
      some w.at o.loan placed lent (subst (λ (k : ℕ). k < 2 ^ 64) long parts.1) told.5 told.6
      (ap only is ∙ ap (λ (xs : List Val). live 1 (of_list xs)) (is' ∙ ap (λ (xs : List Val). xs ++ []) (pair ∙ (λ i. vstruct (of_list (parts.0 i ++ ((lease_told ts.1.0 s').0 i ++ []))) ∷ []))) ∙ (λ i. live 1 (vcons (pair_val (sized_val (lies i) (long i)) lease_val) vnil)))))))))))
