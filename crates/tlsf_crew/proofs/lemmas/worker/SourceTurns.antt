-- Takes one after another from a source of any kind.
use Rattle.tlsf_crew.proofs.Common.{[], ◌∷◌, ◌++◌, ◌≡◌, ◌+◌, ◌-◌, ◌≤◌, ℕ, List, Option, Some, None, length, refl, sym, ◌∙◌, ap, arith, subst, true, false, cond, add-one, count_by, count_by-le-length, sum_by-append, append-nil, length-append, HeapState, Post, Took, Worker, heap_of, AfterTake, TakenFrom, TakesInTurn, heap_after, is_freed, IsCountOf, TakeRules, EachNoted, EachTakeNoted, SourceNoted}
use Rattle.tlsf_heap.specs.Calls.{released}
use Rattle.tlsf_calls.specs.declared.drained.Drained.{Drained}
use Rattle.tlsf_crew.proofs.lemmas.worker.SameParts.{ports_heap}

pub takes_of : {sli : ℕ} {P N : Type 0} (by : TakeRules P N) (a v : Worker sli P) (x y : N) (source : ℕ) (tooks : List Took)
    → EachTakeNoted by a v x y source tooks → TakesInTurn by.takes a v source tooks
takes_of by a v x y source [] t = t.0
takes_of by a v x y source (took ∷ tooks) t = (t.0, t.2, takes_of by t.0 v t.1 y source tooks t.4)

-- the turn of one more number: of a source that was drained, and where there is none
pub turn_more : {sli : ℕ} {P N : Type 0} (by : TakeRules P N) (a b v : Worker sli P) (x y z : N) (most k : ℕ) (xs ys : List Took)
    → EachNoted by a b x y most k xs → by.hears b.ports k → SourceNoted by b v y z k (most - length xs) ys → EachNoted by a v x z most (k + 1) (xs ++ ys)
turn_more by a b v x y z most k xs ys each has here =
    subst (λ (n : ℕ). EachNoted by a v x z most n (xs ++ ys)) (sym (add-one k))
    (b, y, xs, ys, refl, each, record { here = λ _. here; nowhere = λ f. absurd (f has) })

pub turn_none : {sli : ℕ} {P N : Type 0} (by : TakeRules P N) (a b : Worker sli P) (x y : N) (most k : ℕ) (xs : List Took)
    → EachNoted by a b x y most k xs → ¬ (by.hears b.ports k) → EachNoted by a b x y most (k + 1) xs
turn_none by a b x y most k xs each none =
    subst (λ (n : ℕ). EachNoted by a b x y most n xs) (sym (add-one k))
    (b, y, xs, [], sym (append-nil xs), each, record { here = λ has. absurd (none has); nowhere = λ _. (refl, refl, refl) })

-- what a take leaves of the heap
some_heap : {sli : ℕ} {P : Type 0} (a v : Worker sli P) (post : Option Post) (took : Took) → AfterTake a v post (Some took) → heap_of v ≡ (released (heap_of a) took.name).heap
some_heap a v None took then = let e = then.0 in absurd cc
some_heap a v (Some post) took then =
    let e : took ≡ record { from = post.from; name = post.name; answer = (released (heap_of a) post.name).answer } = let d = then.0 in cc in
    then.1.heap ∙ ap (λ (t : Took). (released (heap_of a) t.name).heap) (sym e)

nothing_heap : {sli : ℕ} {P : Type 0} (a v : Worker sli P) (post : Option Post) → AfterTake a v post None → heap_of v ≡ heap_of a
nothing_heap a v None then = ap heap_of then.1
nothing_heap a v (Some post) then = let e = then.0 in absurd cc

one_heap : {sli : ℕ} {P : Type 0} (takes : P → P → ℕ → Option Post → Type 0) (a v : Worker sli P) (source : ℕ) (took : Took) → TakenFrom takes a v source (Some took) → heap_of v ≡ (released (heap_of a) took.name).heap
one_heap takes a v source took t =
    some_heap t.between v t.post took t.then ∙ ap (λ (h : HeapState). (released h took.name).heap) (ports_heap a t.between t.took.0)

pub none_heap : {sli : ℕ} {P : Type 0} (takes : P → P → ℕ → Option Post → Type 0) (a v : Worker sli P) (source : ℕ) → TakenFrom takes a v source None → heap_of v ≡ heap_of a
none_heap takes a v source t = nothing_heap t.between v t.post t.then ∙ ports_heap a t.between t.took.0

pub takes_heap : {sli : ℕ} {P : Type 0} (takes : P → P → ℕ → Option Post → Type 0) (a v : Worker sli P) (source : ℕ) (tooks : List Took) → TakesInTurn takes a v source tooks → heap_of v ≡ heap_after (heap_of a) tooks
takes_heap takes a v source [] turns = ap heap_of turns
takes_heap takes a v source (took ∷ tooks) turns =
    takes_heap takes turns.0 v source tooks turns.2 ∙ ap (λ (h : HeapState). heap_after h tooks) (one_heap takes a turns.0 source took turns.1)

-- what each take keeps, and one after the other, all keep
pub turns_keep : {sli : ℕ} {P : Type 0} (takes : P → P → ℕ → Option Post → Type 0) (keeps : Worker sli P → Worker sli P → Type 0) → ((b : Worker sli P) → keeps b b)
    → ((b c d : Worker sli P) → keeps b c → keeps c d → keeps b d) → ((b c : Worker sli P) (source : ℕ) (answer : Option Took) → TakenFrom takes b c source answer → keeps b c)
    → (a v : Worker sli P) (source : ℕ) (tooks : List Took) → TakesInTurn takes a v source tooks → keeps a v
turns_keep takes keeps same then one a v source [] t = subst (keeps a) (sym t) (same a)
turns_keep takes keeps same then one a v source (took ∷ tooks) t = then a t.0 v (one a t.0 source (Some took) t.1) (turns_keep takes keeps same then one t.0 v source tooks t.2)

-- ---- counts

-- counts of one list after the other
pub counted_few : (d : Drained) (xs : List Took) → IsCountOf d xs → d.freed ≤ d.taken
counted_few d xs n = let few = count_by-le-length is_freed xs in omega (arith, n.0, n.1, few)

pub counts_then : (d e : Drained) (xs ys : List Took) → IsCountOf d xs → IsCountOf e ys → (d.taken + e.taken ≡ length (xs ++ ys)) × (d.freed + e.freed ≡ count_by is_freed (xs ++ ys))
counts_then d e xs ys x y =
    let n = length-append xs ys in
    let m = sum_by-append (λ t. cond (is_freed t) 1 0) xs ys in
    (omega (arith, n, x.0, y.0), omega (arith, m, x.1, y.1))

-- the count of one that was freed, and of one that was not
pub one_freed : (took : Took) → is_freed took ≡ true → IsCountOf (record { taken = 1; freed = 1 }) (took ∷ [])
one_freed took y = (refl, rw y refl)

pub one_kept : (took : Took) → is_freed took ≡ false → IsCountOf (record { taken = 1; freed = 0 }) (took ∷ [])
one_kept took n = (refl, rw n refl)
