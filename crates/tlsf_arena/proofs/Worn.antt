-- A release of a block that is live is refused at the last tick, and nowhere else.
use Rattle.tlsf_arena.proofs.Common.{◌≡◌, ◌==◌, Bool, true, false, if◌then◌else◌, Option, Some, None, Ok, Err, sym, ◌∙◌, eq-eqb, eqb-true, true≢false, HeapState, Outcome, is_worn, last_tick, named, refused, released, released_at, Site, Name}
use Rattle.tlsf_heap.specs.declared.refusal.Refusal.TheVariants.{Worn, Foreign}
use Rattle.tlsf_heap.proofs.lemmas.calls.Outcomes.{by_test, takes, unless}

pub worn_is_last : (h : HeapState) (name : Name) → (released h name).answer ≡ Err Worn → h.tick ≡ last_tick
worn_is_last h name = on (name.heap == h.id) (named name h.blocks)
  where
    on : (b : Bool) (o : Option Site) → (if b then released_at h o else refused h Foreign).answer ≡ Err Worn → h.tick ≡ last_tick
    on true None = λ e. absurd (let no : ⊥ = cc in no)
    on true (Some s) = by_test (λ (o : Outcome (Unit {0})). o.answer ≡ Err Worn → h.tick ≡ last_tick) (is_worn h) (refused h Worn) (takes h s) (λ worn e. eqb-true h.tick last_tick worn) (λ e. absurd (let no : ⊥ = cc in no))
    on false o = λ e. absurd (let no : ⊥ = cc in no)

pub done_is_fresh : (h : HeapState) (name : Name) → (released h name).answer ≡ Ok tt → ¬ (h.tick ≡ last_tick)
done_is_fresh h name = on (name.heap == h.id) (named name h.blocks)
  where
    on : (b : Bool) (o : Option Site) → (if b then released_at h o else refused h Foreign).answer ≡ Ok tt → ¬ (h.tick ≡ last_tick)
    on true None = λ e. absurd (let no : ⊥ = cc in no)
    on true (Some s) = unless (λ (o : Outcome (Unit {0})). o.answer ≡ Ok tt → ¬ (h.tick ≡ last_tick)) (is_worn h) (refused h Worn) (takes h s) (λ e. absurd (let no : ⊥ = cc in no))
        (λ fresh e last. true≢false (sym (eq-eqb h.tick last_tick last) ∙ fresh))
    on false o = λ e. absurd (let no : ⊥ = cc in no)
