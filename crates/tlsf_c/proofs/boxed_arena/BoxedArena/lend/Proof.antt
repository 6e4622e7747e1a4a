-- `lend` lends the arena that a full handle owns, and the handle follows it.
use Rattle.tlsf_c.proofs.Walking.{token, D, B, R, τ, word, handle, box_out, box_in, ◌≡◌, Option, Some, is_some, refl, sym, subst, true, List, [], ◌∷◌, ◌++◌, Ura, Fn, named, bare, Val, vptr, SProp, ent, sep, id⊢, Lft, GName, Share, Fml, ftrue, fsep, flft, fobs, fbor, Memory, Routine, Env, Calls, Loops, WpFn, Tables, Logic, sem, Fun, tables, tables_of, WpFn-mono, Item, ⋆, ‵, raw, ◌⊛◌, some, later, await, pick, at_ret, ◌$◌, ◌∵◌, !, qed, by, move, keep, use1, split, join, group, rewrite, fsplit, fsplit3, fjoin, fjoin3, fpack, feq_l, suffices, frame, done, whole, sub, look_in, stop, fld, load, of_opd, addr, first, blocks, exec, returns, enter, alloc_all, pass_all, free_all, look_at, get, through, sets, sets_last, env, no, RattleType, owns, cell_at, part_at, part_of, mem, block_ptr, plain, mut_ref_to, nothing, opens, triple_of, entered, says, needs, Stays, stay_dropped, walk_of, ends_at, Goes-spent_ref, walk_Meets}
use Rattle.tlsf_c.specs.declared.any_arena.AnyArena.{AnyArena}
use Prim.Native.Nat.{ℕ}
use base.Fraction.{full_share}
use types.SemTy.{Body as Borrowed}
use denote.Ref.{MutBor, MutRef}
use denote.Follow.{follows, Part, lends_Part}
use denote.Triple.Entry.{on_entry}
use Rattle.std_alloc.proofs.VecSteps.Shapes.{after}
use Rattle.tlsf_c.specs.Lending.{holding_arena as holding}
use Rattle.tlsf_c.specs.declared.boxed_arena.BoxedArena.{BoxedArena}
use Rattle.tlsf_c.specs.contracts.any_arena.AnyArena as Home
use Rattle.tlsf_c.specs.contracts.boxed_arena.BoxedArena as Sealed
use Rattle.tlsf_c.proofs.Boxes.{arena as E}
use Rattle.tlsf_c.proofs.Unwrapping.{held_of}
use Rattle.tlsf_c.specs.contracts.boxed_arena.BoxedArena.lend as F
use Rattle.tlsf_c.specs.contracts.boxed_arena.BoxedArena.lend.Key.{name as #self}
use Rattle.tlsf_c.proofs.boxed_arena.BoxedArena.lend.Statement as stated
use Rattle.tlsf_c.proofs.boxed_arena.BoxedArena.lend.Code as code

abbrev function : Fn
function = code.function

abbrev S : RattleType
S = Sealed.the_row

abbrev T : RattleType
T = Home.the_row

abbrev stayed : Stays (F.ended).signature.params (F.ended).kept
stayed = (stay_dropped (mut_ref_to (0 ∷ []) tt (plain (λ _. S))) no, tt)

module _ {M : Type 1} {𝓤 : Ura M} (𝓛 : Logic 𝓤) (at_mem : Memory → SProp 𝓤) (run : Routine → Fun 𝓤) (C : Calls 𝓤 𝓛.H) (Λ : Loops 𝓤 𝓛.H)
    (κ : Lft) (q : Share) (rb ro : ℕ) (γ : GName) (h : BoxedArena) (ps : List Val) (held : AnyArena) (full : h.value ≡ Some held) where
  open 𝓛 use {H, A}

  abbrev self : MutBor BoxedArena
  self = record { ref_ptr = (rb, ro); ghost_name = γ; now = h }

  abbrev bound : (walk_of 𝓛 F.ended stayed (F.clauses 𝓛 at_mem run)).Ghost
  bound = (((κ, tt), (q, tt), tt, (self, tt), (ps, tt)), tt)

  abbrev Post : Val → SProp 𝓤
  Post = (walk_of 𝓛 F.ended stayed (F.clauses 𝓛 at_mem run)).post bound

  -- the box that a full handle owns
  abbrev boxed : AnyArena → D E
  boxed value = record { ptr = h.at; alloc = h.alloc; value = value }

  module _ (b o : ℕ) (hv : Val) where
    -- all of the handle but the arena
    abbrev Rest : Fml
    Rest = fsep (token E.al h.alloc (bare (τ E)) (block_ptr b o)) (fsep (handle E h.alloc hv) (cell_at full_share S.mir (word E hv b o ∷ []) rb ro))

    back : h.at ≡ block_ptr b o → (w : AnyArena) → ent 𝓤 (sep 𝓤 (sem 𝓛 ((mem T).own_at w b o)) (sem 𝓛 Rest)) (sem 𝓛 ((mem S).own_at (holding h w) rb ro))
    unfolding part_of
    back at_b w =
        qed 𝓛 (‵ (part_at (R E) full_share w b o) ∷ ‵ Rest ∷ []) ∵ move ! (1 ∷ []) $ fsplit3 ! $ move ! (3 ∷ 0 ∷ 1 ∷ 2 ∷ []) $
        box_in E ! (boxed w) b o w at_b refl $ use1 𝓛 (‵ (S.own_val (holding h w) (word E hv b o ∷ []))) (id⊢ 𝓤 _) $ move ! (1 ∷ 0 ∷ []) $ fjoin ! $
        fpack ! (List Val) (λ us. fsep (cell_at full_share S.mir us rb ro) (S.own_val (holding h w) us)) (word E hv b o ∷ []) $ done !

  exits : (b o : ℕ) (δ : GName)
      → ent 𝓤 (sep 𝓤 (sem 𝓛 ((MutRef (named 0) κ T).own_val (record { ref_ptr = (b, o); ghost_name = δ; now = held }) (vptr b o ∷ []))) (sep 𝓤 (A.lft κ q) (sem 𝓛 (follows S T γ δ (holding h))))) (Post (vptr b o))
  exits b o δ =
      qed 𝓛 (‵ ((MutRef (named 0) κ T).own_val (record { ref_ptr = (b, o); ghost_name = δ; now = held }) (vptr b o ∷ [])) ∷ ‵ (flft κ q) ∷ ‵ (follows S T γ δ (holding h)) ∷ []) ∵
      suffices ! _ (ends_at 𝓛 F.ended stayed (F.clauses 𝓛 at_mem run) bound (vptr b o) (record { ref_ptr = (b, o); ghost_name = δ; now = held }) (tt, tt) (tt, tt)) $
      nothing ! $ nothing ! $ fjoin ! $ join ! $ nothing ! $ move ! (2 ∷ 0 ∷ []) $ join ! $ join ! $ frame ! $ says ! full $ done !

  abbrev Had : List (Item 𝓤)
  Had = ‵ (fobs γ (S.coded.code h)) ∷ ‵ (fbor κ (Borrowed (mem S) rb ro γ)) ∷ ‵ (flft κ q) ∷ []

  walk : ent 𝓤 (⋆ 𝓛 Had) (WpFn 𝓤 H C Λ function (vptr rb ro ∷ []) Post)
  walk =
      qed 𝓛 Had ∵ enter ! C Λ function (vptr rb ro ∷ []) _ $ alloc_all ! (λ l. pass_all ! refl ((tt, tt), tt) $
      let En : Env 𝓤 H = env function.locals l in let code = S.coded.code h in
      opens ! tt S {h = h} rb ro (λ vs. move ! (1 ∷ []) $
      rewrite ! 0 (λ (v : Option AnyArena). ‵ (S.own_val (record { at = h.at; alloc = h.alloc; value = v }) vs)) full refl $ use1 𝓛 (‵ ((B E).own_val (boxed held) vs)) (id⊢ 𝓤 _) $
      box_out E ! (boxed held) vs (λ b o hv at_b ws fa.
      -- [the arena; the token; the allocator; the words; the open borrow; obs; auth]
      rewrite ! 3 (λ (us : List Val). ‵ (cell_at full_share S.mir us rb ro)) ws refl $
      sets ! (of_opd ! (load ! (through ! refl (fld ! refl (stop !))) (look_in ! 3 (sub ! 0 refl (whole !))))) refl (tt, tt) $ sets ! (of_opd ! (get ! refl)) refl (tt, tt) $
      first ! $ blocks ! $ sets_last ! (addr ! (through ! refl (stop !))) refl (tt, tt) $ exec ! C Λ En (after 3 function.body) (at_ret En Post) $ sets ! (of_opd ! (get ! refl)) refl (tt, tt) $
      move ! (1 ∷ 2 ∷ 3 ∷ []) $ fjoin3 ! $ move ! (2 ∷ 3 ∷ 4 ∷ 1 ∷ 0 ∷ []) $ group ! 5 $
      use1 𝓛 (later (some (λ (δ : GName). raw (Part 𝓛 S T (holding h) (named 0) κ q rb ro b o γ (sem 𝓛 (Rest b o hv)) (back b o hv at_b) held δ))))
      (lends_Part 𝓛 S T (holding h) (named 0) κ q rb ro b o γ (sem 𝓛 (Rest b o hv)) (back b o hv at_b) code code held) $ await ! tt $ pick ! (λ δ.
      returns ! (look_at ! 0 refl) $ free_all ! refl $ keep ! (0 ∷ []) $ by ! (exits b o δ)))))

  entry : ent 𝓤 (on_entry 𝓛 (F.ended).signature (κ, tt) (q, tt) (self, tt) (ps, tt)) (WpFn 𝓤 H C Λ function (ps ++ []) Post)
  entry =
      qed 𝓛 ((‵ (flft κ q) ⊛ ‵ ftrue) ∷ ‵ (owns (MutRef (named 0) κ S ∷ []) (self, tt) (ps, tt)) ∷ []) ∵ split ! $ move ! (2 ∷ []) $ fsplit ! $ fsplit3 ! $ feq_l ! (λ e. keep ! (0 ∷ 1 ∷ 3 ∷ []) $
      by ! (subst (λ (ws : List Val). ent 𝓤 (⋆ 𝓛 Had) (WpFn 𝓤 H C Λ function (ws ++ []) Post)) (sym e) walk))

pub lend_spec : {M : Type 1} → stated.statement M
unfolding tables_of
lend_spec 𝓤 𝓛 𝓜 𝓡 wired =
    let 𝓣 : Tables 𝓤 𝓛.H = tables_of 𝓤 𝓛.H 𝓜 (tables 𝓤 𝓛.H 𝓜 𝓡 𝓡.env) in
    entered 𝓤 𝓛.H (triple_of 𝓛 F.signature (F.spec 𝓛 𝓜.mem 𝓡.returns)) 𝓣.C 𝓣.Λ #self function (code.unfolded 𝓤 𝓛.H 𝓜 𝓡 wired)
    (walk_Meets 𝓛 F.ended stayed (Goes-spent_ref 𝓛 1 (0 ∷ []) tt (plain (λ _. S)), tt) (F.clauses 𝓛 𝓜.mem 𝓡.returns) (WpFn 𝓤 𝓛.H 𝓣.C 𝓣.Λ function) (WpFn-mono 𝓤 𝓛.H 𝓛.laws 𝓣 function)
    (λ z. let a = z.0.3.0 in needs 𝓤 (is_some a.now.value ≡ true) _ (λ full. let held = held_of a.now.value full in entry 𝓛 𝓜.mem 𝓡.returns 𝓣.C 𝓣.Λ z.0.0.0 z.0.1.0 a.ref_ptr.0 a.ref_ptr.1 a.ghost_name a.now z.0.4.0 held.0 held.1)))
