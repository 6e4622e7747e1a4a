-- `empty` moves two plain values, and owns nothing.
use Rattle.tlsf_c.proofs.Walking.{proved_at, α, Fits, handle_tells, box_ty, and_tt, no_counts, refl, sym, subst, List, [], ◌∷◌, ◌++◌, false, T, lit<, ty_ptr, Val, has_ty, WT, vstruct, vcons, vnil, ent, emp, id⊢, ftrue, WpFn, tables, Item, ‵, raw, ◌⊛◌, ◌$◌, ◌∵◌, !, qed, by, move, drop, use1, join, split, fsplit, fjoin, feq_l, feq_i, fpack, suffices, done, agg, no_more, and_then, returns, enter, alloc_all, pass_all, free_all, look_at, get, sets, yes, owns, Valss, RawPtr, Ptr, block_ptr, null_ptr, ptr_val, type_at, plain, nothing, within, shape, says, Stays, stay_dropped, walk_of, ends_at, Goes-dropped}
use Rattle.std_heap.specs.contracts.Global as Heap
use Rattle.tlsf_c.specs.contracts.boxed_heap.BoxedHeap as Sealed
use Rattle.tlsf_c.proofs.Boxes.{heap as E}
use Rattle.tlsf_c.specs.contracts.boxed_heap.BoxedHeap.empty as F
use Rattle.tlsf_c.specs.contracts.boxed_heap.BoxedHeap.empty.Key.{name as #self}
use Rattle.tlsf_c.proofs.boxed_heap.BoxedHeap.empty.Statement as stated
use Rattle.tlsf_c.proofs.boxed_heap.BoxedHeap.empty.Code as code

ptr_typed : (p : Ptr) → T (has_ty ty_ptr (ptr_val p)) × WT (ptr_val p)
ptr_typed (block_ptr b o) = (tt, tt)
ptr_typed null_ptr = (tt, record { fits = lit< tt })

abbrev both : Ptr → Val → Val
both p hv = vstruct (vcons (ptr_val p) (vcons hv vnil))

typed : (p : Ptr) (hv : Val) → Fits E.al hv → T (has_ty (box_ty E) (both p hv)) × WT (both p hv)
typed (block_ptr b o) hv fa = (and_tt (has_ty (α E.al) hv) fa.0, (tt, (fa.1, tt)))
typed null_ptr hv fa = (and_tt (has_ty (α E.al) hv) fa.0, (record { fits = lit< tt }, (fa.1, tt)))

abbrev stayed : Stays (F.ended).signature.params (F.ended).kept
stayed = (stay_dropped (plain (λ _. Heap.the_row)) yes, (stay_dropped (plain (λ _. RawPtr)) yes, tt))

pub empty_spec : {M : Type 1} → stated.statement M
empty_spec 𝓤 𝓛 𝓜 𝓡 wired =
    let H = 𝓛.H in let 𝓣 = tables 𝓤 H 𝓜 𝓡 𝓡.env in let c = F.clauses 𝓛 𝓜.mem 𝓡.returns in
    proved_at 𝓛 F.ended stayed c 𝓜 𝓡 (Goes-dropped 𝓛 0 (plain (λ _. Heap.the_row)) yes (λ κs x f. refl), (Goes-dropped 𝓛 0 (plain (λ _. RawPtr)) yes (λ κs x f. refl), tt)) #self code.function (code.unfolded 𝓤 H 𝓜 𝓡 wired) (λ z _.
    let Post = (walk_of 𝓛 F.ended stayed c).post z in
    let a = z.0.3.0 in let p = z.0.3.1.0 in let us = z.0.4.0 in let vs = z.0.4.1.0 in
    let To = type_at (F.signature).result tt in
    let made : To.Denot = record { at = p; alloc = a; full = false; value = record { is_idle = false; heap = record { level = 0; heap = record { id = 0; words = 0; tick = 0; blocks = [] }; stored = record { words = []; starts = [] }; extents = record { words = record { address = p; capacity = 0 }; starts = record { address = p; capacity = 0 } }; touches = 0; touched = []; counts = no_counts } } } in
    qed 𝓛 ((‵ ftrue ⊛ ‵ (owns (Heap.the_row ∷ RawPtr ∷ []) (a, (p, tt)) (us, (vs, tt)))) ∷ raw (emp 𝓤) ∷ []) ∵ split ! $ drop ! $ fsplit ! $
    handle_tells E.al ! a us (λ hv ea fa. move ! (1 ∷ 0 ∷ []) $ fsplit ! $ feq_l ! (λ ev. move ! (0 ∷ 1 ∷ []) $
    let v : Val = both p hv in
    nothing ! $ move ! (2 ∷ 0 ∷ []) $ fjoin ! $ feq_i ! (List Val) (ptr_val p ∷ []) (ptr_val p ∷ []) refl $ fjoin ! $ feq_i ! (List Val) (v ∷ []) (v ∷ []) refl $ fjoin ! $
    fpack ! (Valss (RawPtr ∷ Heap.the_row ∷ [])) (within (shape Sealed.the_type) (p, (((a.memory.seal, tt), tt), tt)) (v ∷ [])) (ptr_val p ∷ [], (hv ∷ [], tt)) $ fjoin ! $
    use1 𝓛 (‵ (To.own_val made (v ∷ []))) (id⊢ 𝓤 _) $
    move ! (1 ∷ []) $ drop ! $
    let Γ : List (Item 𝓤) = ‵ (To.own_val made (v ∷ [])) ∷ [] in
    by ! (subst (λ (ws : List Val). ent 𝓤 (types.Kit.⋆ 𝓛 Γ) (WpFn 𝓤 H 𝓣.C 𝓣.Λ code.function (ws ++ (vs ++ [])) Post)) (sym ea)
    (subst (λ (ws : List Val). ent 𝓤 (types.Kit.⋆ 𝓛 Γ) (WpFn 𝓤 H 𝓣.C 𝓣.Λ code.function (hv ∷ (ws ++ [])) Post)) (sym ev)
    (qed 𝓛 Γ ∵ enter ! 𝓣.C 𝓣.Λ code.function (hv ∷ ptr_val p ∷ []) _ $ alloc_all ! (λ ls. pass_all ! refl (fa, (ptr_typed p, tt)) $
    sets ! (agg ! (and_then ! (get ! refl) (and_then ! (get ! refl) (no_more !)))) refl (typed p hv fa) $ returns ! (look_at ! 0 refl) $ free_all ! refl $
    suffices ! _ (ends_at 𝓛 F.ended stayed c z v made (tt, (tt, tt)) (tt, (tt, tt))) $ says ! refl $
    move ! (0 ∷ []) $ nothing ! $ nothing ! $ fjoin ! $ nothing ! $ fjoin ! $ join ! $ nothing ! $ join ! $ done !)))))))
