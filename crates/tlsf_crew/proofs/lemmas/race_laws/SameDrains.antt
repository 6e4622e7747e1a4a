-- Two drains of the same heap that took the same posts are the same.
use Rattle.tlsf_crew.proofs.Common.{◌==◌, true, false, [], ◌∷◌, ◌++◌, ◌≡◌, ◌≢◌, ◌-◌, ℕ, ◌<◌, ◌≤◌, List, Option, Some, None, length, take, sym, ◌∙◌, ap, arith, refl, inl, inr, subst, append-nil, length-append, cons_option, fold, nat_tests, cases_eq, cases_lt, HeapState, Name, Post, Take, Drain, Entry, Drained, Took, Replayed, DrainState, drained_waiting, draining, heap_in, took_more, Progress, MayTell, AreTakes, IsDrain, RunsTo, answer_told, answers_on, call_on_own, calls_on, post_of_take, posts_taken, last_call, Taken}
use Rattle.tlsf_heap.specs.Calls as heap
use Rattle.tlsf_crew.proofs.lemmas.histories.DrainEntries.{drain_makes, drain_told}
use Rattle.tlsf_crew.proofs.lemmas.races.TwoRecords.{drain_takes}
use Rattle.tlsf_crew.proofs.lemmas.histories.JoinedEntries.{told_nothing, told_own, told_then, taken_then}
use Rattle.tlsf_crew.proofs.lemmas.model.Edits.{edited_other}
use Rattle.tlsf_crew.proofs.lemmas.model.OneEvent.{drain_by}

-- ---- what takes tell

abbrev pub take_entry : ℕ → ℕ → Took → Entry
take_entry at from t = record { worker = at; call = Take from; reply = Taken t }

abbrev post_in : Took → Post
post_in t = record { from = t.from; name = t.name }

pub own_post : (at from : ℕ) (t : Took) (es : List Entry) → posts_taken from at (take_entry at from t ∷ es) ≡ post_in t ∷ posts_taken from at es
own_post at from t es =
    let e = take_entry at from t in
    let f : Entry → Option Post = λ x. post_of_take from x.call x.reply in
    let here : f e ≡ Some (post_in t) = same from in
    taken_then from at (e ∷ []) es ∙ ap (λ l. l ++ posts_taken from at es) (told_own f at e refl ∙ ap (λ o. cons_option o []) here)
  where
    same : (from : ℕ) → post_of_take from (Take from) (Taken t) ≡ Some (post_in t)
    same from = let b : (from == from) ≡ true = grind (arith, nat_tests) in rw b refl

pub other_post : (at i from : ℕ) (t : Took) (es : List Entry) → from ≢ i → posts_taken i at (take_entry at from t ∷ es) ≡ posts_taken i at es
other_post at i from t es ne =
    let e = take_entry at from t in
    let f : Entry → Option Post = λ x. post_of_take i x.call x.reply in
    let b : (from == i) ≡ false = grind (arith, nat_tests) in
    let here : f e ≡ None = rw b refl in
    taken_then i at (e ∷ []) es ∙ ap (λ l. l ++ posts_taken i at es) (told_nothing f at e here)

-- takes from workers of no lower number take none from a lower one
none_below : (at low i : ℕ) (es : List Entry) → AreTakes at low es → i < low → posts_taken i at es ≡ []
none_below at low i [] a lt = refl
none_below at low i (e ∷ es) a lt =
    let from = a.0 in
    let le = a.3 in
    ap (λ x. posts_taken i at (x ∷ es)) a.2 ∙ (other_post at i from a.1 es (omega arith) ∙ none_below at from i es a.4 (omega arith))

-- the heap's calls and answers
own_call : (at from : ℕ) (made : List (Option Name)) (t : Took) (es : List Entry) → calls_on at made (take_entry at from t ∷ es) ≡ heap.Release t.name ∷ calls_on at made es
own_call at from made t es =
    let f : Entry → Option heap.Call = λ e. call_on_own made e.worker e.call e.reply in
    told_then f at (take_entry at from t ∷ []) es ∙ ap (λ l. l ++ calls_on at made es) (told_own f at (take_entry at from t) refl)

own_answer : (at from : ℕ) (t : Took) (es : List Entry) → answers_on at (take_entry at from t ∷ es) ≡ heap.Released t.answer ∷ answers_on at es
own_answer at from t es =
    let f : Entry → Option heap.Answer = λ e. answer_told e.call e.reply in
    told_then f at (take_entry at from t ∷ []) es ∙ ap (λ l. l ++ answers_on at es) (told_own f at (take_entry at from t) refl)

-- a take and the rest, run on a heap
pub record RanTake (sli : ℕ) (h : HeapState) (at : ℕ) (made : List (Option Name)) (t : Took) (es : List Entry) (g : HeapState) : Type 0 where
  pub answer : t.answer ≡ (heap.released h t.name).answer
  pub rest : RunsTo sli (heap.released h t.name).heap (calls_on at made es) (answers_on at es) g

pub ran_take : {sli : ℕ} (h g : HeapState) (at from : ℕ) (made : List (Option Name)) (t : Took) (es : List Entry)
    → RunsTo sli h (calls_on at made (take_entry at from t ∷ es)) (answers_on at (take_entry at from t ∷ es)) g → RanTake sli h at made t es g
ran_take {sli} h g at from made t es run =
    let calls = own_call at from made t es in
    let answers = own_answer at from t es in
    let one : RunsTo sli h (heap.Release t.name ∷ calls_on at made es) (heap.Released t.answer ∷ answers_on at es) g
    = subst (λ a. RunsTo sli h (heap.Release t.name ∷ calls_on at made es) a g) answers (subst (λ c. RunsTo sli h c (answers_on at (take_entry at from t ∷ es)) g) calls run) in
    let told = one.told in
    record { answer = cc; rest = record { told = cc; left = one.left } }

-- ---- the same posts, the same takes

some_post : (p : Post) (ps : List Post) → ◌≡◌ {A = List Post} [] (p ∷ ps) → ⊥
some_post p ps e = cc

-- takes that took the same posts from the same heap
record SameTakes (xs ys : List Entry) (g k : HeapState) : Type 0 where
  entries : xs ≡ ys
  left : g ≡ k

abbrev Ran : ℕ → HeapState → ℕ → List (Option Name) → List Entry → HeapState → Type 0
Ran sli h at made es g = RunsTo sli h (calls_on at made es) (answers_on at es) g

same_takes : (sli : ℕ) (at low high : ℕ) (made : List (Option Name)) (h g k : HeapState) (xs ys : List Entry) → AreTakes at low xs → AreTakes at high ys
    → ((i : ℕ) → posts_taken i at xs ≡ posts_taken i at ys) → Ran sli h at made xs g → Ran sli h at made ys k → SameTakes xs ys g k
same_takes sli at low high made h g k [] [] a b same p q = record { entries = refl; left = sym p.left ∙ q.left }
same_takes sli at low high made h g k [] (y ∷ ys) a b same p q =
    absurd (some_post (post_in b.1) (posts_taken b.0 at ys) (same b.0 ∙ (ap (λ e. posts_taken b.0 at (e ∷ ys)) b.2 ∙ own_post at b.0 b.1 ys)))
same_takes sli at low high made h g k (x ∷ xs) [] a b same p q =
    absurd (some_post (post_in a.1) (posts_taken a.0 at xs) (sym (same a.0) ∙ (ap (λ e. posts_taken a.0 at (e ∷ xs)) a.2 ∙ own_post at a.0 a.1 xs)))
same_takes sli at low high made h g k (x ∷ xs) (y ∷ ys) a b same p q =
    let first : (i : ℕ) → posts_taken i at (take_entry at a.0 a.1 ∷ xs) ≡ posts_taken i at (take_entry at b.0 b.1 ∷ ys)
    = λ i. sym (ap (λ e. posts_taken i at (e ∷ xs)) a.2) ∙ (same i ∙ ap (λ e. posts_taken i at (e ∷ ys)) b.2) in
    elim (cases_eq a.0 b.0) [
      | inl e ↦
          let n = subst (λ (m : ℕ). posts_taken a.0 at (take_entry at a.0 a.1 ∷ xs) ≡ posts_taken a.0 at (take_entry at m b.1 ∷ ys)) (sym e) (first a.0) in
          let lists : post_in a.1 ∷ posts_taken a.0 at xs ≡ post_in b.1 ∷ posts_taken a.0 at ys = sym (own_post at a.0 a.1 xs) ∙ (n ∙ own_post at a.0 b.1 ys) in
          let post : post_in a.1 ≡ post_in b.1 = cc in
          let c = ran_take h g at a.0 made a.1 xs (subst (λ e. Ran sli h at made (e ∷ xs) g) a.2 p) in
          let d = ran_take h k at b.0 made b.1 ys (subst (λ e. Ran sli h at made (e ∷ ys) k) b.2 q) in
          let name : (a.1).name ≡ (b.1).name = ap (λ (p : Post). p.name) post in
          let took : a.1 ≡ b.1 = same_took a.1 b.1 post (c.answer ∙ (ap (λ n. (heap.released h n).answer) name ∙ sym d.answer)) in
          let rest : (i : ℕ) → posts_taken i at xs ≡ posts_taken i at ys = λ i. elim (cases_eq a.0 i) [
            | inl here ↦ let tails : posts_taken a.0 at xs ≡ posts_taken a.0 at ys = cc in subst (λ (m : ℕ). posts_taken m at xs ≡ posts_taken m at ys) here tails
            | inr ne ↦ sym (other_post at i a.0 a.1 xs ne) ∙ (first i ∙ other_post at i b.0 b.1 ys (λ f. ne (e ∙ f)))
          ] in
          let more = same_takes sli at a.0 b.0 made (heap.released h (a.1).name).heap g k xs ys a.4 b.4 rest c.rest
          (subst (λ (n : Name). Ran sli (heap.released h n).heap at made ys k) (sym name) d.rest) in
          record {
            entries = (λ z. a.2 z ∷ xs) ∙ ((λ z. take_entry at (e z) (took z) ∷ more.entries z) ∙ sym (λ z. b.2 z ∷ ys));
            left = more.left;
          }
      | inr ne ↦ elim (cases_lt a.0 b.0) [
        | inl lt ↦
            absurd (some_post (post_in a.1) (posts_taken a.0 at xs)
            (sym (sym (own_post at a.0 a.1 xs) ∙ (first a.0 ∙ (other_post at a.0 b.0 b.1 ys (λ f. ne (sym f)) ∙ none_below at b.0 a.0 ys b.4 lt)))))
        | inr ge ↦
            absurd (some_post (post_in b.1) (posts_taken b.0 at ys)
            (sym (sym (own_post at b.0 b.1 ys) ∙ (sym (first b.0) ∙ (other_post at b.0 a.0 a.1 xs ne ∙ none_below at a.0 b.0 xs a.4 (omega arith))))))
      ]
    ]
  where
    same_took : (t u : Took) → post_in t ≡ post_in u → t.answer ≡ u.answer → t ≡ u
    same_took t u post answer = λ k. record { from = (post k).from; name = (post k).name; answer = answer k }

-- ---- the lanes that a drain leaves alone

more_apart : {sli : ℕ} (at from x : ℕ) (ps : List Post) (d : DrainState sli) → x ≢ from → (fold (took_more at from) d ps).world.waiting x at ≡ d.world.waiting x at
more_apart at from x [] d ne = refl
more_apart at from x (p ∷ ps) d ne = more_apart at from x ps (took_more at from d p) ne ∙ edited_other d.world.waiting from at x at _ (λ e _. ne e)

pub lane_apart : {sli : ℕ} (at most from x : ℕ) (d : DrainState sli) → x ≢ from → (drained_waiting at most from d).world.waiting x at ≡ d.world.waiting x at
unfolding drained_waiting
lane_apart at most from x d ne = more_apart at from x (take (most - d.taken) (d.world.waiting from at)) d ne

-- its own lane, and those from workers past the last
pub drain_apart : {sli : ℕ} (r : Replayed sli) (at most x : ℕ) → (x ≢ at → length r.world.heaps ≤ x) → (draining r at most).world.waiting x at ≡ r.world.waiting x at
unfolding draining
drain_apart r at most x far = drain_by (λ b. b.world.waiting x at ≡ r.world.waiting x at) at most (record { entries = r.entries; world = r.world; taken = 0 }) (λ from b p lt ne full same.
    edited_other b.world.waiting from at x at _ (λ e _. let le = far (λ f. ne (sym e ∙ f)) in absurd (omega arith)) ∙ same) refl

-- nothing was put in front
pub nothing_before : {X : Type 0} (xs ys : List X) → ys ≡ xs ++ ys → xs ≡ []
nothing_before [] ys e = refl
nothing_before (x ∷ xs) ys e = let n = ap length e in let m = length-append xs ys in absurd (omega arith)

-- ---- the last drain of a worker

pub record LastDrain (sli : ℕ) (n at : ℕ) (z end : Progress) : Type 0 where
  pub own : List Entry
  pub entries : end.entries ≡ z.entries ++ own
  pub names : end.made ≡ z.made ++ None ∷ []
  pub is_drain : IsDrain at 8192 own
  pub run : Ran sli z.heap at z.made own end.heap
  pub apart : (x : ℕ) → (x ≢ at → n ≤ x) → posts_taken x at own ≡ []

pub last_drain : {sli : ℕ} (n at : ℕ) (z end : Progress) → at < n → MayTell sli n at z last_call end → LastDrain sli n at z end
last_drain {sli} n at z end at_in m =
    let x = m.0 in
    let count : length x.heaps ≡ n = m.1.0 in
    let r : Replayed sli = record { made = z.made; entries = z.entries; world = x } in
    let c = drain_told z.made r at 8192 (omega (arith, at_in, count)) in
    let v = draining r at 8192 in
    record {
      own = c.own;
      entries = sym (ap (λ (t : Progress). t.entries) m.2) ∙ c.entries;
      names = sym (ap (λ (t : Progress). t.made) m.2) ∙ (c.names ∙ ap (λ name. z.made ++ name ∷ []) c.tells.0);
      is_drain = c.tells.1;
      run = subst (λ h. Ran sli z.heap at z.made c.own h) (ap (λ (t : Progress). t.heap) m.2)
          (subst (λ h. Ran sli h at z.made c.own (heap_in v.world at)) m.1.1 (c.history.heaps at (omega (arith, at_in, count))));
      apart = λ k far.
          let posts = c.history.posts k at in
          let same : v.world.waiting k at ≡ x.waiting k at = drain_apart r at 8192 k (λ ne. let le = far ne in omega (arith, le, count)) in
          nothing_before (posts_taken k at c.own) (x.waiting k at)
          (sym (append-nil (x.waiting k at)) ∙ (sym (ap (λ l. x.waiting k at ++ l) (drain_makes k at at 8192 z.made c.own c.tells.1)) ∙ (posts ∙ ap (λ l. posts_taken k at c.own ++ l) same)));
    }

-- what had waited is what it took and what still waits
pub last_posts : (sli : ℕ) (n at : ℕ) (z end : Progress) (at_in : at < n) (m : MayTell sli n at z last_call end) (x : ℕ)
    → (m.0).waiting x at ≡ posts_taken x at (last_drain n at z end at_in m).own ++ ((draining (record { made = z.made; entries = z.entries; world = m.0 }) at 8192).world).waiting x at
unfolding last_drain
last_posts sli n at z end at_in m x =
    let r : Replayed sli = record { made = z.made; entries = z.entries; world = m.0 } in
    let c = drain_told z.made r at 8192 (omega (arith, at_in, m.1.0)) in
    let waits = (m.0).waiting x at in
    sym (append-nil waits) ∙ (sym (ap (λ l. waits ++ l) (drain_makes x at at 8192 z.made c.own c.tells.1)) ∙ c.history.posts x at)

-- the same after what is the same
abbrev pub drain_along : {sli : ℕ} (n at : ℕ) (z y end : Progress) → z ≡ y → LastDrain sli n at z end → LastDrain sli n at y end
drain_along {sli} n at z y end e a = record {
  own = a.own;
  entries = a.entries ∙ ap (λ (t : Progress). t.entries ++ a.own) e;
  names = a.names ∙ ap (λ (t : Progress). t.made ++ None ∷ []) e;
  is_drain = a.is_drain;
  run = subst (λ (t : Progress). Ran sli t.heap at t.made a.own end.heap) e a.run;
  apart = a.apart;
}

-- the calls of a drain's takes are all that it makes
drain_ran : (sli : ℕ) (at : ℕ) (made : List (Option Name)) (h g : HeapState) (own : List Entry) (d : IsDrain at 8192 own) → Ran sli h at made own g → Ran sli h at made d.takes g
drain_ran sli at made h g own d run =
    let last : Entry = record { worker = at; call = Drain 8192; reply = Drained (length d.takes) } in
    let f : Entry → Option heap.Call = λ e. call_on_own made e.worker e.call e.reply in
    let k : Entry → Option heap.Answer = λ e. answer_told e.call e.reply in
    let calls : calls_on at made own ≡ calls_on at made d.takes
    = ap (calls_on at made) d.whole ∙ (told_then f at d.takes (last ∷ []) ∙ (ap (λ l. calls_on at made d.takes ++ l) (told_nothing f at last refl) ∙ append-nil (calls_on at made d.takes))) in
    let answers : answers_on at own ≡ answers_on at d.takes
    = ap (answers_on at) d.whole ∙ (told_then k at d.takes (last ∷ []) ∙ (ap (λ l. answers_on at d.takes ++ l) (told_nothing k at last refl) ∙ append-nil (answers_on at d.takes))) in
    subst (λ a. RunsTo sli h (calls_on at made d.takes) a g) answers (subst (λ c. RunsTo sli h c (answers_on at own) g) calls run)

-- two last drains after the same, which took the same from each other worker
pub same_last : {sli : ℕ} (n at : ℕ) (z end other : Progress) (a : LastDrain sli n at z end) (b : LastDrain sli n at z other) → ((x : ℕ) → x < n → x ≢ at → posts_taken x at a.own ≡ posts_taken x at b.own) → end ≡ other
same_last {sli} n at z end other a b same =
    let all : (x : ℕ) → posts_taken x at a.own ≡ posts_taken x at b.own = λ x. elim (cases_lt x n) [
      | inl lt ↦ elim (cases_eq x at) [ inl e ↦ a.apart x (λ ne. absurd (ne e)) ∙ sym (b.apart x (λ ne. absurd (ne e))) | inr ne ↦ same x lt ne ]
      | inr ge ↦ a.apart x (λ _. ge) ∙ sym (b.apart x (λ _. ge))
    ] in
    let takes : (x : ℕ) → posts_taken x at (a.is_drain).takes ≡ posts_taken x at (b.is_drain).takes
    = λ x. drain_takes x at at 8192 a.own a.is_drain ∙ (all x ∙ sym (drain_takes x at at 8192 b.own b.is_drain)) in
    let t = same_takes sli at 0 0 z.made z.heap end.heap other.heap (a.is_drain).takes (b.is_drain).takes (a.is_drain).are_takes (b.is_drain).are_takes takes
    (drain_ran sli at z.made z.heap end.heap a.own a.is_drain a.run) (drain_ran sli at z.made z.heap other.heap b.own b.is_drain b.run) in
    let own : a.own ≡ b.own
    = (a.is_drain).whole ∙ (ap (λ l. l ++ record { worker = at; call = Drain 8192; reply = Drained (length l) } ∷ []) t.entries ∙ sym (b.is_drain).whole) in
    let entries : end.entries ≡ other.entries = a.entries ∙ (ap (λ l. z.entries ++ l) own ∙ sym b.entries) in
    let made : end.made ≡ other.made = a.names ∙ sym b.names in
    let left = t.left in
    λ k. record { made = made k; entries = entries k; heap = left k }
