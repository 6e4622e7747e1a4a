-- `of_parts` moves two fields, and what they own goes with them.
use Rattle.tlsf_c.proofs.Walking.{proved_at, D, B, word, box_typed, box_out, box_in, refl, sym, subst, List, [], ◌∷◌, ◌++◌, true, Val, ent, emp, id⊢, ftrue, fsep, WpFn, tables, Item, ‵, raw, ◌⊛◌, ◌$◌, ◌∵◌, !, qed, by, move, drop, use1, join, split, fsplit, fjoin, suffices, done, whole, sub, agg, stop, fld, no_more, and_then, of_opd, returns, enter, alloc_all, pass_all, free_all, look_at, get, get_in, sets, yes, type_at, nothing, says, Stays, stay_dropped, walk_of, ends_at, Goes-dropped}
use Rattle.tlsf_c.proofs.Boxes.{heap as E, from_parts}
use Rattle.tlsf_c.specs.contracts.boxed_heap.BoxedHeap.of_parts as F
use Rattle.tlsf_c.specs.contracts.boxed_heap.BoxedHeap.of_parts.Key.{name as #self}
use Rattle.tlsf_c.proofs.boxed_heap.BoxedHeap.of_parts.Statement as stated
use Rattle.tlsf_c.proofs.boxed_heap.BoxedHeap.of_parts.Code as code

abbrev stayed : Stays (F.ended).signature.params (F.ended).kept
stayed = (stay_dropped (from_parts E.row) yes, tt)

pub of_parts_spec : {M : Type 1} → stated.statement M
of_parts_spec 𝓤 𝓛 𝓜 𝓡 wired =
    let H = 𝓛.H in let 𝓣 = tables 𝓤 H 𝓜 𝓡 𝓡.env in let c = F.clauses 𝓛 𝓜.mem 𝓡.returns in
    proved_at 𝓛 F.ended stayed c 𝓜 𝓡 (Goes-dropped 𝓛 0 (from_parts E.row) yes (λ κs x f. refl), tt) #self code.function (code.unfolded 𝓤 H 𝓜 𝓡 wired) (λ z _.
    let Post = (walk_of 𝓛 F.ended stayed c).post z in
    let v : D E = record { ptr = z.0.3.0.ptr; alloc = z.0.3.0.alloc; value = z.0.3.0.value } in
    let To = type_at (F.signature).result tt in
    let made : To.Denot = record { at = v.ptr; alloc = v.alloc; full = true; value = v.value } in
    qed 𝓛 ((‵ ftrue ⊛ ‵ (fsep ((B E).own_val v z.0.4.0) ftrue)) ∷ raw (emp 𝓤) ∷ []) ∵ split ! $ drop ! $ fsplit ! $
    box_out E ! v z.0.4.0 (λ b o hv e ws fa. box_in E ! v b o v.value e refl $ use1 𝓛 (‵ (To.own_val made (word E hv b o ∷ []))) (id⊢ 𝓤 _) $ move ! (1 ∷ 2 ∷ []) $ drop ! $ drop ! $
    let w = word E hv b o in
    let Γ : List (Item 𝓤) = ‵ (To.own_val made (w ∷ [])) ∷ [] in
    by ! (subst (λ (us : List Val). ent 𝓤 (types.Kit.⋆ 𝓛 Γ) (WpFn 𝓤 H 𝓣.C 𝓣.Λ code.function (us ++ []) Post)) (sym ws)
    (qed 𝓛 Γ ∵ enter ! 𝓣.C 𝓣.Λ code.function (w ∷ []) _ $ alloc_all ! (λ ls. pass_all ! refl (box_typed E hv b o fa, tt) $
    sets ! (of_opd ! (get_in ! (fld ! refl (stop !)) (sub ! 0 refl (whole !)))) refl (tt, tt) $ sets ! (of_opd ! (get_in ! (fld ! refl (stop !)) (sub ! 1 refl (whole !)))) refl fa $
    sets ! (of_opd ! (get ! refl)) refl (tt, tt) $ sets ! (agg ! (and_then ! (get ! refl) (and_then ! (get ! refl) (no_more !)))) refl (box_typed E hv b o fa) $ returns ! (look_at ! 0 refl) $ free_all ! refl $
    suffices ! _ (ends_at 𝓛 F.ended stayed c z w made (tt, tt) (tt, tt)) $ says ! (refl, refl) $
    nothing ! $ nothing ! $ fjoin ! $ join ! $ nothing ! $ join ! $ done !)))))
