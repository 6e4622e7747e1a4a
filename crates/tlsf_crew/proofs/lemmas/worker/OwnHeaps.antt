-- A call leaves a heap its number, and leaves it lawful.
use Rattle.tlsf_crew.proofs.Common.{◌≡◌, ℕ, List, [], ◌∷◌, sym, ◌∙◌, ap, subst, refl, Result, Ok, Err, IfOk, OnErr, HeapState, IsLawful, IsRegion, opened, Name, KeepsHeap, IsHeapOf, ids, lawful_run}
use Rattle.std.specs.Borrow.{MutBor}
use Rattle.std.specs.Fn.{Once}
use Rattle.tlsf_heap.specs.Calls.{Call, answered, Allocate, Write}
use Rattle.tlsf_heap.specs.InPlace.{Alters}
use Rattle.tlsf_heap.specs.Kept.{IsAsBefore}
use Rattle.tlsf_heap.specs.Shown.{Shown}
use Rattle.tlsf_heap.proofs.lemmas.blocks.Lawful.{opened_lawful as lawful_opened}
use Rattle.tlsf_class.proofs.TwoLevels.{level_4}

pub same_heap_keeps : (h k : HeapState) → k ≡ h → KeepsHeap h k
same_heap_keeps h k e = (ap (λ x. x.id) e, λ lawful. subst IsLawful (sym e) lawful)

pub allocate_keeps : (sli : ℕ) (h k : HeapState) (len : ℕ) → k ≡ (answered sli h (Allocate len)).1 → IsLawful k → KeepsHeap h k
allocate_keeps sli h k len e lawful = (ap (λ x. x.id) e ∙ ids sli h (Allocate len), λ old. lawful)

-- no other call asks for the level
pub call_keeps : (h k : HeapState) (call : Call) → k ≡ (answered 4 h call).1 → KeepsHeap h k
call_keeps h k call e = (ap (λ x. x.id) e ∙ ids 4 h call, λ lawful. subst IsLawful (sym e) (lawful_run 4 level_4 h (call ∷ []) lawful))

-- nor does an alter, done or refused
pub alter_keeps : {F R E : Type 0} (g : Once F (MutBor (List ℕ) × Unit {0}) (R × (MutBor (List ℕ) × Unit {0}))) (f : F) (old new : Shown) (name : Name) (answer : Result R E)
    → IfOk answer (λ r. Alters g f old.heap name r new.heap) → OnErr answer (IsAsBefore old new) → KeepsHeap old.heap new.heap
alter_keeps g f old new name (Ok r) altered err = call_keeps old.heap new.heap (Write name 0 _) altered.writes
alter_keeps g f old new name (Err why) altered err = same_heap_keeps old.heap new.heap err.heap

pub opened_lawful : (sli : ℕ) (id words : ℕ) → IsRegion sli words → IsHeapOf id (opened id words 0)
opened_lawful sli id words region = (refl, lawful_opened id words 0 region.0)
