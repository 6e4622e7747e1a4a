-- A live block stays live until its release is accepted.
use Rattle.tlsf_yard_laws.proofs.Common.{true, false, Bool, [], ◌∷◌, ◌≡◌, ◌≢◌, ℕ, ◌<◌, List, Option, Some, None, Result, Ok, Err, All, map, replicate, refl, sym, ap, ◌∙◌, subst, inl, inr, IsSome, if◌then◌else◌, AllByRecursion, cons_option, option_map, cases_eq, All-tail, IsLevel, HeapState, IsLawful, Name, Contents, after, contents, is_same, Entry, RunsTo, answer_told, answers_on, call_on_own, calls_on, handed_on, IsLive, Refusal, change, live, same_is, runs_through, HasItsAnswer, told_other, told_own}
use Rattle.tlsf_heap.specs.Calls as heap

-- the call isn't an accepted release of this name
abbrev Spares : Name → heap.Call → heap.Answer → Type 0
Spares name (heap.Release own) (heap.Released (Ok done)) = own ≢ name
Spares name call answer = Unit {0}

given_bytes : (same : Bool) (bytes : List ℕ) (old : Option (List ℕ)) → IsSome old → IsSome (if same then Some bytes else old)
given_bytes true bytes old some = refl
given_bytes false bytes old some = some

some_mapped : (f : List ℕ → List ℕ) (o : Option (List ℕ)) → IsSome o → IsSome (option_map f o)
some_mapped f None some = some
some_mapped f (Some x) some = refl

new_bytes : (map : Contents) (own name : Name) (f : List ℕ → List ℕ) (same : Bool) → is_same own name ≡ same → IsSome (map name) → IsSome (if same then option_map f (map own) else map name)
new_bytes map own name f true e some = some_mapped f (map own) (subst (λ (n : Name). IsSome (map n)) (sym (same_is own name e)) some)
new_bytes map own name f false e some = some

not_taken : (map : Contents) (own name : Name) (same : Bool) → is_same own name ≡ same → own ≢ name → IsSome (map name) → IsSome (if same then None else map name)
not_taken map own name true e ne some = absurd (ne (same_is own name e))
not_taken map own name false e ne some = some

stays : (map : Contents) (name : Name) (call : heap.Call) (answer : heap.Answer) → Spares name call answer → IsSome (map name) → IsSome (after map call answer name)
stays map name (heap.Allocate len) (heap.Allocated (Ok own)) spares some = given_bytes (is_same own name) (replicate len 0) (map name) some
stays map name (heap.Write own at bytes) (heap.Written (Ok done)) spares some = new_bytes map own name (λ old. heap.overwritten old at bytes) (is_same own name) refl some
stays map name (heap.Resize own len) (heap.Resized (Ok done)) spares some = new_bytes map own name (λ old. heap.fitted old len) (is_same own name) refl some
stays map name (heap.Release own) (heap.Released (Ok done)) spares some = not_taken map own name (is_same own name) refl spares some
stays map name call answer spares some = some

-- one call leaves it live
call_spares : (sli : ℕ) (h : HeapState) (call : heap.Call) (name : Name) → IsLawful h → IsLive h name → Spares name call (heap.answered sli h call).0 → IsLive (heap.answered sli h call).1 name
call_spares sli h call name lawful is spares =
    let some = stays (contents h) name call (heap.answered sli h call).0 spares ((live h name).0 is) in
    (live (heap.answered sli h call).1 name).1 (subst (λ (o : Option (List ℕ)). IsSome o) (sym (change sli h call name lawful)) some)

-- ---- entries

-- where the entry of a worker of heap j tells of an accepted release there, it isn't of this name
abbrev pub SparesIn : ℕ → List (Option Name) → Name → Entry → Type 0
SparesIn j made name e = e.worker ≡ j → (own : Name) → call_on_own made e.worker e.call e.reply ≡ Some (heap.Release own) → answer_told e.call e.reply ≡ Some (heap.Released (Ok tt)) → own ≢ name

spares_call : (sli : ℕ) (h : HeapState) (call : heap.Call) (name : Name) (a : Option heap.Answer) → handed_on (heap.answered sli h call).0 ∷ [] ≡ cons_option a []
    → ((own : Name) → call ≡ heap.Release own → a ≡ Some (heap.Released (Ok tt)) → own ≢ name) → Spares name call (heap.answered sli h call).0
spares_call sli h (heap.Release own) name None told spares = let e : ◌≡◌ {A = List heap.Answer} (heap.Released (heap.released h own).answer ∷ []) [] = told in cc
spares_call sli h (heap.Release own) name (Some x) told spares =
    let e : heap.Released (heap.released h own).answer ∷ [] ≡ x ∷ [] = told in
    let same : heap.Released (heap.released h own).answer ≡ x = cc in
    on (heap.released h own).answer (λ ok. spares own refl (ap Some (sym same ∙ ap heap.Released ok)))
  where
    on : (r : Result (Unit {0}) Refusal) → (r ≡ Ok tt → own ≢ name) → Spares name (heap.Release own) (heap.Released r)
    on (Ok done) ne = ne refl
    on (Err why) ne = tt
spares_call sli h call name a told spares = tt

one_live : {sli : ℕ} (j : ℕ) (made : List (Option Name)) (name : Name) (h g : HeapState) (call : Option heap.Call) (a : Option heap.Answer) → IsLawful h → IsLive h name
    → ((own : Name) → call ≡ Some (heap.Release own) → a ≡ Some (heap.Released (Ok tt)) → own ≢ name) → RunsTo sli h (cons_option call []) (cons_option a []) g → IsLive g name
one_live {sli} j made name h g None a lawful is spares run = subst (λ (x : HeapState). IsLive x name) run.left is
one_live {sli} j made name h g (Some call) a lawful is spares run =
    subst (λ (x : HeapState). IsLive x name) run.left (call_spares sli h call name lawful is (spares_call sli h call name a run.told (λ own e. spares own (ap Some e))))

entry_live : {sli : ℕ} (j : ℕ) (made : List (Option Name)) (name : Name) (h g : HeapState) (e : Entry) → IsLawful h → IsLive h name → SparesIn j made name e
    → RunsTo sli h (calls_on j made (e ∷ [])) (answers_on j (e ∷ [])) g → IsLive g name
entry_live {sli} j made name h g e lawful is spares run =
    let f : Entry → Option heap.Call = λ e. call_on_own made e.worker e.call e.reply in
    let k : Entry → Option heap.Answer = λ e. answer_told e.call e.reply in
    elim (cases_eq e.worker j) [
      | inl own ↦ one_live j made name h g (f e) (k e) lawful is (spares own)
          (subst (λ a. RunsTo sli h (cons_option (f e) []) a g) (told_own k j e own) (subst (λ c. RunsTo sli h c (answers_on j (e ∷ [])) g) (told_own f j e own) run))
      | inr ne ↦ one_live j made name h g None None lawful is (λ own e. cc)
          (subst (λ a. RunsTo sli h [] a g) (told_other k j e ne) (subst (λ c. RunsTo sli h c (answers_on j (e ∷ [])) g) (told_other f j e ne) run))
    ]

-- all of them leave it live
pub entries_live : {sli : ℕ} (level : IsLevel sli) (n j : ℕ) (made : List (Option Name)) (name : Name) (es : List Entry) (h g : HeapState) → j < n → IsLawful h → IsLive h name → All (HasItsAnswer made n) es
    → AllByRecursion (SparesIn j made name) es → RunsTo sli h (calls_on j made es) (answers_on j es) g → IsLive g name
entries_live level n j made name [] h g j_in lawful is each spares run = subst (λ (x : HeapState). IsLive x name) run.left is
entries_live level n j made name (e ∷ es) h g j_in lawful is each spares run =
    let t = runs_through made n j h g (e ∷ []) es j_in level lawful each run in
    entries_live level n j made name es t.between g j_in t.lawful (entry_live j made name h t.between e lawful is spares.0 t.first) (All-tail (HasItsAnswer made n) e es each) spares.1 t.rest
