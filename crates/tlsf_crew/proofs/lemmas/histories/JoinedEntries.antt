-- Entries that follow others tell of each heap and each lane what these tell, and then what they tell themselves.
use Rattle.tlsf_crew.proofs.Common.{◌==◌, true, false, [], ◌∷◌, ◌++◌, ◌≡◌, ◌≢◌, ℕ, suc, ◌<◌, List, Option, None, All, length, map, sym, ◌∙◌, ap, arith, refl, inl, inr, subst, append_assoc, append-nil, filter_map, cons_option, cases_eq, nat_tests, length-map, map-append, All-nil, All-cons, All-append, filter_map-append, filter-append, HeapState, Name, Entry, IsNoPost, RunsTo, answer_told, answers_on, call_on_own, calls_on, entries_of, handed_on, post_of_release, post_of_take, posts_made, posts_taken, World, heap_in}
use Rattle.tlsf_heap.specs.Calls as heap

-- ---- runs in turn

pub run_more : (sli : ℕ) (h : HeapState) (cs ds : List heap.Call) → heap.run sli h (cs ++ ds) ≡ ((heap.run sli h cs).0 ++ (heap.run sli (heap.run sli h cs).1 ds).0, (heap.run sli (heap.run sli h cs).1 ds).1)
run_more sli h [] ds = refl
run_more sli h (c ∷ cs) ds = let step = heap.answered sli h c in let a = run_more sli step.1 cs ds in ap (λ x. (step.0 ∷ x.0, x.1)) a

pub runs_then : {sli : ℕ} (h g k : HeapState) (cs ds : List heap.Call) (xs ys : List heap.Answer) → RunsTo sli h cs xs g → RunsTo sli g ds ys k → RunsTo sli h (cs ++ ds) (xs ++ ys) k
runs_then {sli} h g k cs ds xs ys a b =
    let e = run_more sli h cs ds in
    let at : (heap.run sli (heap.run sli h cs).1 ds) ≡ heap.run sli g ds = ap (λ x. heap.run sli x ds) a.left in
    record {
      told = ap (λ x. map handed_on x.0) e ∙ (map-append handed_on (heap.run sli h cs).0 (heap.run sli (heap.run sli h cs).1 ds).0
          ∙ (ap (λ l. l ++ map handed_on (heap.run sli (heap.run sli h cs).1 ds).0) a.told ∙ ap (λ l. xs ++ l) (ap (λ x. map handed_on x.0) at ∙ b.told)));
      left = ap (λ x. x.1) e ∙ (ap (λ x. x.1) at ∙ b.left);
    }

pub length_run : (sli : ℕ) (h : HeapState) (cs : List heap.Call) → length (heap.run sli h cs).0 ≡ length cs
length_run sli h [] = refl
length_run sli h (c ∷ cs) = ap suc (length_run sli (heap.answered sli h c).1 cs)

-- as many answers as calls
pub length_told : {sli : ℕ} (h g : HeapState) (cs : List heap.Call) (xs : List heap.Answer) → RunsTo sli h cs xs g → length cs ≡ length xs
length_told {sli} h g cs xs r = sym (length_run sli h cs) ∙ (sym (length-map (heap.run sli h cs).0 handed_on) ∙ ap length r.told)

-- ---- what is told by some entries and then by others, and by one

pub told_then : {B : Type 0} (f : Entry → Option B) (j : ℕ) (xs ys : List Entry) → filter_map f (entries_of j (xs ++ ys)) ≡ filter_map f (entries_of j xs) ++ filter_map f (entries_of j ys)
told_then f j xs ys = ap (filter_map f) (filter-append (λ e. e.worker == j) xs ys) ∙ filter_map-append f (entries_of j xs) (entries_of j ys)

pub made_then : (at j : ℕ) (made : List (Option Name)) (xs ys : List Entry) → posts_made at j made (xs ++ ys) ≡ posts_made at j made xs ++ posts_made at j made ys
made_then at j made xs ys = told_then (λ e. post_of_release j made e.worker e.call e.reply) at xs ys

pub taken_then : (i at : ℕ) (xs ys : List Entry) → posts_taken i at (xs ++ ys) ≡ posts_taken i at xs ++ posts_taken i at ys
taken_then i at xs ys = told_then (λ e. post_of_take i e.call e.reply) at xs ys

pub told_own : {B : Type 0} (f : Entry → Option B) (j : ℕ) (e : Entry) → e.worker ≡ j → filter_map f (entries_of j (e ∷ [])) ≡ cons_option (f e) []
told_own f j e is = let b : (e.worker == j) ≡ true = grind (arith, nat_tests) in rw b refl

pub told_other : {B : Type 0} (f : Entry → Option B) (j : ℕ) (e : Entry) → e.worker ≢ j → filter_map f (entries_of j (e ∷ [])) ≡ []
told_other f j e ne = let b : (e.worker == j) ≡ false = grind (arith, nat_tests) in rw b refl

pub told_nothing : {B : Type 0} (f : Entry → Option B) (j : ℕ) (e : Entry) → f e ≡ None → filter_map f (entries_of j (e ∷ [])) ≡ []
told_nothing f j e is = elim (cases_eq e.worker j) [
  | inl own ↦ told_own f j e own ∙ ap (λ o. cons_option o []) is
  | inr ne ↦ told_other f j e ne
]

-- an entry of one of this many workers tells an answer where it tells a call on its worker's own heap
abbrev pub HasItsAnswer : List (Option Name) → ℕ → Entry → Type 0
HasItsAnswer made workers e = e.worker < workers → length (cons_option (call_on_own made e.worker e.call e.reply) []) ≡ length (cons_option (answer_told e.call e.reply) [])

-- the entries tell of the heaps and the lanes what leads from one world to the other
pub record IsHistory {sli : ℕ} (made : List (Option Name)) (w : World sli) (entries : List Entry) (v : World sli) : Type 0 where
  pub heaps : (j : ℕ) → j < length w.heaps → RunsTo sli (heap_in w j) (calls_on j made entries) (answers_on j entries) (heap_in v j)
  pub posts : (i j : ℕ) → w.waiting i j ++ posts_made i j made entries ≡ posts_taken i j entries ++ v.waiting i j
  pub count : length v.heaps ≡ length w.heaps
  pub each : All (HasItsAnswer made (length w.heaps)) entries

pub history_none : {sli : ℕ} (made : List (Option Name)) (w : World sli) → IsHistory made w [] w
history_none made w = record { heaps = λ j j_in. record { told = refl; left = refl }; posts = λ i j. append-nil (w.waiting i j); count = refl; each = All-nil (HasItsAnswer made (length w.heaps)) }

posts_then : {X : Type 0} (a b c m n s t : List X) → a ++ m ≡ s ++ b → b ++ n ≡ t ++ c → a ++ (m ++ n) ≡ (s ++ t) ++ c
posts_then a b c m n s t x y =
    sym (append_assoc a m n) ∙ (ap (λ l. l ++ n) x ∙ (append_assoc s b n ∙ (ap (λ l. s ++ l) y ∙ sym (append_assoc s t c))))

pub history_then : {sli : ℕ} (made : List (Option Name)) (w v u : World sli) (xs ys : List Entry) → IsHistory made w xs v → IsHistory made v ys u → IsHistory made w (xs ++ ys) u
history_then made w v u xs ys a b = record {
  heaps = λ j j_in.
      let c = told_then (λ e. call_on_own made e.worker e.call e.reply) j xs ys in
      let d = told_then (λ e. answer_told e.call e.reply) j xs ys in
      let two = runs_then (heap_in w j) (heap_in v j) (heap_in u j) (calls_on j made xs) (calls_on j made ys) (answers_on j xs) (answers_on j ys) (a.heaps j j_in) (b.heaps j (omega (arith, a.count))) in
      rw (c, d) two;
  posts = λ i j.
      let c = told_then (λ e. post_of_release j made e.worker e.call e.reply) i xs ys in
      let d = told_then (λ e. post_of_take i e.call e.reply) j xs ys in
      rw (c, d) (posts_then (w.waiting i j) (v.waiting i j) (u.waiting i j) (posts_made i j made xs) (posts_made i j made ys) (posts_taken i j xs) (posts_taken i j ys) (a.posts i j) (b.posts i j));
  count = b.count ∙ a.count;
  each = All-append (HasItsAnswer made (length w.heaps)) xs ys a.each (subst (λ (n : ℕ). All (HasItsAnswer made n) ys) a.count b.each);
}

-- ---- one entry

-- what one entry tells of the heaps: its worker's own heap does its call, and all others stay
pub record IsOwnCall {sli : ℕ} (made : List (Option Name)) (w : World sli) (e : Entry) (v : World sli) : Type 0 where
  pub own : RunsTo sli (heap_in w e.worker) (cons_option (call_on_own made e.worker e.call e.reply) []) (cons_option (answer_told e.call e.reply) []) (heap_in v e.worker)
  pub others : (j : ℕ) → j ≢ e.worker → heap_in v j ≡ heap_in w j

pub heap_of_own_call : {sli : ℕ} (made : List (Option Name)) (w v : World sli) (e : Entry) → IsOwnCall made w e v → (j : ℕ)
    → RunsTo sli (heap_in w j) (calls_on j made (e ∷ [])) (answers_on j (e ∷ [])) (heap_in v j)
heap_of_own_call made w v e c j =
    elim (cases_eq e.worker j) [
      | inl is ↦ rw (told_own (λ e. call_on_own made e.worker e.call e.reply) j e is, told_own (λ e. answer_told e.call e.reply) j e is, sym is) c.own
      | inr ne ↦
          rw (told_other (λ e. call_on_own made e.worker e.call e.reply) j e ne, told_other (λ e. answer_told e.call e.reply) j e ne)
          (record { told = refl; left = sym (c.others j (λ q. ne (sym q))) })
    ]

pub own_each : {sli : ℕ} (made : List (Option Name)) (w v : World sli) (e : Entry) (workers : ℕ) → IsOwnCall made w e v → All (HasItsAnswer made workers) (e ∷ [])
own_each made w v e workers c =
    All-cons (HasItsAnswer made workers) e [] (λ _. length_told (heap_in w e.worker) (heap_in v e.worker) _ _ c.own) (All-nil (HasItsAnswer made workers))

pub quiet_posts : {sli : ℕ} (made : List (Option Name)) (w v : World sli) (e : Entry) → IsNoPost made e → v.waiting ≡ w.waiting → (i j : ℕ)
    → w.waiting i j ++ posts_made i j made (e ∷ []) ≡ posts_taken i j (e ∷ []) ++ v.waiting i j
quiet_posts made w v e silent same i j =
    let a = told_nothing (λ e. post_of_release j made e.worker e.call e.reply) i e (silent.made_none j) in
    let b = told_nothing (λ e. post_of_take i e.call e.reply) j e (silent.taken_none i) in
    rw (a, b) (append-nil (w.waiting i j) ∙ sym (ap (λ f. f i j) same))

pub history_quiet : {sli : ℕ} (made : List (Option Name)) (w v : World sli) (e : Entry) → IsOwnCall made w e v → IsNoPost made e → v.waiting ≡ w.waiting → length v.heaps ≡ length w.heaps → IsHistory made w (e ∷ []) v
history_quiet made w v e c silent same count = record {
  heaps = λ j j_in. heap_of_own_call made w v e c j;
  posts = quiet_posts made w v e silent same;
  count = count;
  each = own_each made w v e (length w.heaps) c;
}
