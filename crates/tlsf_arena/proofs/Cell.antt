-- A `Slot` holds one machine value, which is reached through a `&` with the thread's token. Assumes `Logic`.
use Rattle.tlsf_arena.proofs.Walking.{◌≡◌, ℕ, List, [], ◌∷◌, IfSome, None, Some, T, refl, Good, round, wraps, unwraps, Home, Ura, Ty, Val, full_share, sep, wand, apply∗, Lft, Share, Fml, Incl-refl, ftrue, fsep, fex, fat, flft, ftok, every, less, Logic, sem, Item, Goal, Seq, Step, Soaks, step, ‵, raw, ◌⊛◌, later, ◌$◌, move, drop, use1, use2, use3, split, join, fsplit, fjoin, fpick, fpack, rewrite, await, na_acc_in, RattleType, Last, left, yes, Lawful, cell_at, hidden_shr, lone, number, param, layout, nothing, fields_with}
use denote.Param.Mute.{blank}
use denote.Opens.{unhide}
use denote.Struct.Members.{Member}
use Rattle.core.specs.contracts.option.Option as option
use Rattle.core.proofs.option.Option.TheLaws.{the_row_laws as option_laws}
use Rattle.tlsf_arena.specs.contracts.boxed.BoxedArena as arena
use Rattle.tlsf_arena.specs.contracts.slot.Slot as slot
use Rattle.tlsf_arena.specs.contracts.slot.Slot.TheInside as inside
use Rattle.tlsf_arena.proofs.boxed.BoxedArena.TheLaws as arena_laws

module _ (sli u : ℕ) where
  abbrev pub Level : RattleType
  Level = param 0 (number sli)

  abbrev pub Unit_bytes : RattleType
  Unit_bytes = param 1 (number u)

  abbrev pub Held_arena : RattleType
  Held_arena = arena.the_row Level Unit_bytes

  abbrev pub Held : RattleType
  Held = option.the_row Held_arena

  abbrev held : Member
  held = record { row = Held; ty = layout Held }

  abbrev pub Fields : RattleType
  Fields = inside.the_row Level Unit_bytes

  abbrev pub slot_type : Ty
  slot_type = lone Fields.mir

  abbrev pub Over : Home → Held.Denot → Type 0
  Over h x = IfSome x (λ a. (a.region ≡ h.0) × (a.book ≡ h.1))

  abbrev over : Home → Fields.Denot → Fml
  over h i = fex (Over h i.arena) (λ _. ftrue)

  abbrev pub contents : Home → List Val → Fml
  contents h vs = fex Fields.Denot (λ i. fsep (Fields.own_val i vs) (over h i))

  pub held_Lawful : {M : Type 1} {𝓤 : Ura M} (𝓛 : Logic 𝓤) → Lawful 𝓛 Held
  held_Lawful 𝓛 = (option_laws Held_arena (arena_laws.the_row_laws Level Unit_bytes refl refl)).lawful 𝓛

  pub quiet : (x : Held.Denot) (f : Last (Held.exit yes) x) → T (blank (left (Held.exit yes) x f))
  quiet None f = tt
  quiet (Some h) f = tt

  abbrev pub Shut : {M : Type 1} {𝓤 : Ura M} (𝓛 : Logic 𝓤) → Home → ℕ → ℕ → Lft → Share → Item 𝓤
  Shut {𝓤 = 𝓤} 𝓛 h b o κ q =
      ‵ (ftok (less every (b, o))) ⊛ raw (wand 𝓤 (sep 𝓤 (sem 𝓛 (fields_with Fields (over h) b o)) (𝓛.A.tok (less every (b, o)))) (𝓛.H.⇛ (sep 𝓤 (𝓛.A.lft κ q) (𝓛.A.tok every))))

  module _ {M : Type 1} {𝓤 : Ura M} {𝓛 : Logic 𝓤} {K : Type 0} {Γ : List (Item 𝓤)} {G : Goal 𝓤 𝓛.H} (h : Home) where
    open 𝓛 use {H, A}

    pub contents_out : K → (vs : List Val) → ((x : Held.Denot) (v : Val) → Over h x → Good (layout Held) v → vs ≡ round v ∷ [] → Seq K 𝓛 (‵ (Held.own_val x (v ∷ [])) ∷ Γ) G) → Seq K 𝓛 (‵ (contents h vs) ∷ Γ) G
    contents_out t vs k = fpick t (λ i. fsplit t $ move t (1 ∷ []) $ fpick t (λ is. drop t $ unwraps held t (held_Lawful 𝓛) [] [] i.arena vs (λ v typed e. k i.arena v is typed e)))

    pub contents_in : K → (x : Held.Denot) (v : Val) → Over h x → Step K 𝓛 (‵ (contents h (round v ∷ [])) ∷ Γ) G (‵ (Held.own_val x (v ∷ [])) ∷ Γ) G
    contents_in t x v is = step (λ s.
        let i : Fields.Denot = record { arena = x } in
        use1 𝓛 (‵ (Fields.own_val i (round v ∷ []))) (wraps held 𝓛 [] [] x v) $ nothing t $ fpack t (Over h x) (λ _. ftrue) is $ move t (1 ∷ 0 ∷ []) $ fjoin t $
        fpack t Fields.Denot (λ j. fsep (Fields.own_val j (round v ∷ [])) (over h j)) i $ s)

  module _ {M : Type 1} {𝓤 : Ura M} {𝓛 : Logic 𝓤} {K : Type 0} {Γ : List (Item 𝓤)} {G : Goal 𝓤 𝓛.H} (h : Home) (b o : ℕ) where
    open 𝓛 use {H, A}

    pub opens_slot : K → Soaks G → {κ : Lft} {q : Share}
        → ((x : Held.Denot) (v : Val) → Over h x → Good (layout Held) v → Seq K 𝓛 (‵ (fat full_share slot_type b o (round v)) ∷ ‵ (Held.own_val x (v ∷ [])) ∷ Shut 𝓛 h b o κ q ∷ Γ) G)
        → Seq K 𝓛 (‵ (hidden_shr (slot.the_row Level Unit_bytes) κ h b o) ∷ ‵ (flft κ q) ∷ ‵ (ftok every) ∷ Γ) G
    opens_slot t z {κ} {q} k =
        let P : Fml = fields_with Fields (over h) b o in
        unhide t $ use3 𝓛 (later (‵ P ⊛ Shut 𝓛 h b o κ q)) (na_acc_in 𝓛 κ ((κ, q) ∷ []) every (b, o) P (Incl-refl κ) refl) $ await t z $ split t $
        fpick t (λ vs. fsplit t $ move t (1 ∷ []) $ contents_out h t vs (λ x v is typed e.
        rewrite t 1 (λ (us : List Val). ‵ (cell_at full_share Fields.mir us b o)) e refl $ move t (1 ∷ []) $
        use1 𝓛 (‵ (fat full_share slot_type b o (round v))) (𝓛.laws.raw_at full_share slot_type b o (round v)) $ k x v is typed))

    pub shuts_slot : K → Soaks G → {κ : Lft} {q : Share} (x : Held.Denot) (v : Val) → Over h x
        → Step K 𝓛 (‵ (flft κ q) ∷ ‵ (ftok every) ∷ Γ) G (‵ (fat full_share slot_type b o (round v)) ∷ ‵ (Held.own_val x (v ∷ [])) ∷ Shut 𝓛 h b o κ q ∷ Γ) G
    shuts_slot t z {κ} {q} x v is = step (λ s.
        let P : Fml = fields_with Fields (over h) b o in
        use1 𝓛 (‵ (cell_at full_share Fields.mir (round v ∷ []) b o)) (𝓛.laws.at_raw full_share slot_type b o (round v)) $ move t (1 ∷ []) $ contents_in h t x v is $ move t (1 ∷ 0 ∷ []) $ fjoin t $
        fpack t (List Val) (λ us. fsep (cell_at full_share Fields.mir us b o) (contents h us)) (round v ∷ []) $ move t (1 ∷ []) $ split t $ move t (2 ∷ 0 ∷ []) $ join t $
        use2 𝓛 (later (‵ (flft κ q) ⊛ ‵ (ftok every))) (apply∗ 𝓤 (sep 𝓤 (sem 𝓛 P) (A.tok (less every (b, o)))) (H.⇛ (sep 𝓤 (A.lft κ q) (A.tok every)))) $ await t z $ split t $ s)
