-- The counts of a heap over its requests.
use Rattle.tlsf_c.proofs.Common.{◌≡◌, ℕ, ◌+◌, ◌≤◌, max, List, Result, Ok, Err, refl, ap, ◌∙◌, arith, OnErr, HeapState, Shown, words_in_use, words_at, Name, Refusal, counted, Seen}
use Rattle.std.proofs.Common.{Bool, true, false, cond}
use Rattle.std.specs.Prelude.{◌==◌}
use Rattle.tlsf_heap.specs.Effects.{Writes}
use Rattle.tlsf_heap.specs.Kept.{IsAsBefore}
use Rattle.tlsf_heap.specs.WordsInUse.{peak_of, peak_moved}
use Rattle.tlsf_heap.specs.declared.refusal.Refusal.TheVariants.{NoFit, Worn, Foreign, Stale, Range, NoRoom}
use Rattle.tlsf_heap.specs.Steps.{Put}
use Rattle.tlsf_heap.proofs.lemmas.laws.WordsInUse.{words_set}
use Rattle.tlsf_c.specs.Counting.{counts_of, counted_if, counted_request, counted_move, noted, noted_if}
use Rattle.tlsf_c.specs.declared.refused.Refused.{Refused}

refusal : (h : HeapState) (most : ℕ) (r : Refused) (len : ℕ) (why : Refusal) → counts_of h most (noted_if r len why) ≡ counted_if (counts_of h most r) len why
refusal h most r len NoFit = refl
refusal h most r len Worn = refl
refusal h most r len Foreign = refl
refusal h most r len Stale = refl
refusal h most r len Range = refl
refusal h most r len NoRoom = refl

-- a refused request left all but what is noted of it
left : (old new : Shown) (r : Refused) (len : ℕ) (why : Refusal) → IsAsBefore old new → counts_of new.heap new.most_in_use (noted_if r len why) ≡ counted_if (counts_of old.heap old.most_in_use r) len why
left old new r len why same =
    ap (λ (h : HeapState). counts_of h new.most_in_use (noted_if r len why)) same.heap
    ∙ ap (λ (m : ℕ). counts_of old.heap m (noted_if r len why)) same.most_in_use
    ∙ refusal old.heap old.most_in_use r len why

pub requested : (old new : Shown) (r now : Refused) (answer : Result Name Refusal) (len : ℕ) → now ≡ noted r answer len → new.most_in_use ≡ peak_of old new → OnErr answer (IsAsBefore old new)
    → counts_of new.heap new.most_in_use now ≡ counted_request (counts_of old.heap old.most_in_use r) answer len new.heap
requested old new r now (Ok given) len is peak same = ap (λ (x : Refused). counts_of new.heap new.most_in_use x) is ∙ ap (λ (m : ℕ). counts_of new.heap m r) peak
requested old new r now (Err why) len is peak same = ap (λ (x : Refused). counts_of new.heap new.most_in_use x) is ∙ left old new r len why same

-- of the block at a place, which may have moved
pub moved : (old new : Shown) (r now : Refused) (at : ℕ) (answer : Result Name Refusal) (len : ℕ) → now ≡ noted r answer len → new.most_in_use ≡ peak_moved old at answer new.heap → words_in_use new.heap ≤ new.most_in_use → OnErr answer (IsAsBefore old new)
    → counts_of new.heap new.most_in_use now ≡ counted_move (counts_of old.heap old.most_in_use r) at answer len new.heap
moved old new r now at (Err why) len is peak reached same = ap (λ (x : Refused). counts_of new.heap new.most_in_use x) is ∙ left old new r len why same
moved old new r now at (Ok name) len is peak reached same = ap (λ (x : Refused). counts_of new.heap new.most_in_use x) is ∙ on (name.at == at) peak
  where
    on : (b : Bool) → new.most_in_use ≡ cond b (max old.most_in_use (words_in_use new.heap)) (max old.most_in_use (words_in_use old.heap + words_at new.heap name.at))
        → counts_of new.heap new.most_in_use r
        ≡ cond b (counted (counts_of old.heap old.most_in_use r) new.heap) (counted (record (counts_of old.heap old.most_in_use r) { most_words = max old.most_in_use (words_in_use old.heap + words_at new.heap name.at) }) new.heap)
    on true e = ap (λ (m : ℕ). counts_of new.heap m r) e
    on false e =
        let twice : new.most_in_use ≡ max (max old.most_in_use (words_in_use old.heap + words_at new.heap name.at)) (words_in_use new.heap) = omega (arith, e, reached) in
        ap (λ (m : ℕ). counts_of new.heap m r) twice

-- a write changes none of it
pub wrote : {most : ℕ} {old new : Seen} {name : Name} {at : ℕ} {bytes : List ℕ} {answer : Result (Unit {0}) Refusal} → Writes most old new name at bytes answer → (m n : ℕ) (r : Refused) → n ≡ m → counts_of new.heap n r ≡ counts_of old.heap m r
wrote {old = old} {new = new} {name = name} {at = at} {bytes = bytes} e m n r same =
    let words = ap words_in_use e.heap ∙ (words_set 0 old.heap (Put name at bytes) tt).0 in
    ap (λ (w : ℕ). record (counts_of new.heap n r) { words = w }) words ∙ ap (λ (most : ℕ). counts_of old.heap most r) same
