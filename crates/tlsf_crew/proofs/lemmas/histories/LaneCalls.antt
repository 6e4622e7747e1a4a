-- The entry of a release tells the call on its own heap or the post that it made. The entry of a take tells the post that it took.
use Rattle.tlsf_crew.proofs.Common.{◌==◌, true, false, [], ◌∷◌, ◌++◌, ◌≡◌, ◌≢◌, ℕ, ◌<◌, List, Option, Some, None, Result, Ok, Err, length, sym, ◌∙◌, ap, arith, refl, inl, inr, append-nil, cons_option, cases_eq, nat_tests, length-set, Name, Refusal, Post, Entry, Release, Take, Target, Reply, Freed, Posted, Empty, Refused, Full, Stranger, Unmade, released, answer_told, call_on_own, meant, name_on_heap, post_of_release, post_of_take, posts_made, posts_taken, World, heap_in, with_heap, with_waiting, freeing, posting, releasing_named, taking, took, reply_freed, name_of}
use Rattle.tlsf_heap.specs.Calls as heap
use Rattle.tlsf_crew.proofs.lemmas.model.OneEvent.{posting_by, releasing_by, taking_by}
use Rattle.tlsf_crew.proofs.lemmas.model.Edits.{edited_same, edited_other}
use Rattle.tlsf_crew.proofs.lemmas.histories.OwnCalls.{Tells1, by_meant, done_here, done_told, none_done}
use Rattle.tlsf_crew.proofs.lemmas.histories.JoinedEntries.{history_quiet, own_each, heap_of_own_call, told_nothing, told_other, told_own}

pub of_same : (j : ℕ) (name : Name) → name.heap ≡ j → name_on_heap j (Some name) ≡ Some name
of_same j name e = let b : (name.heap == j) ≡ true = grind (arith, nat_tests) in rw b refl

pub of_other : (j : ℕ) (name : Name) → name.heap ≢ j → name_on_heap j (Some name) ≡ None
of_other j name ne = let b : (name.heap == j) ≡ false = grind (arith, nat_tests) in rw b refl

-- ---- release of an own name

answer_of_freed : (target : Target) (r : Result (Unit {0}) Refusal) → answer_told (Release target) (reply_freed r) ≡ Some (heap.Released r)
answer_of_freed target (Ok done) = refl
answer_of_freed target (Err why) = refl

freed_made : (made : List (Option Name)) (j at : ℕ) (target : Target) (r : Result (Unit {0}) Refusal) → post_of_release j made at (Release target) (reply_freed r) ≡ None
freed_made made j at target (Ok done) = refl
freed_made made j at target (Err why) = refl

own_release_told : {sli : ℕ} (made : List (Option Name)) (w : World sli) (at : ℕ) (target : Target) (name : Name) → at < length w.heaps → name.heap ≡ at → name_of made target ≡ Some name
    → Tells1 made w at (Release target) (freeing w at name)
unfolding released
own_release_told made w at target name at_in own known =
    let r = (heap.released (heap_in w at) name).answer in
    let named : meant made target (reply_freed r) ≡ Some name = by_meant made target (λ done. Freed) r (λ done. refl) ∙ known in
    done_told made w at (Release target) _ (heap.Release name) at_in (rw (named, of_same at name own) refl) (answer_of_freed target r)
    (record { made_none = λ j. freed_made made j at target r; taken_none = λ i. refl })

-- ---- release of another's name

-- a refusal by the worker itself
refused_told : {sli : ℕ} (made : List (Option Name)) (w : World sli) (at : ℕ) (target : Target) (reply : Reply) → call_on_own made at (Release target) reply ≡ None → answer_told (Release target) reply ≡ None
    → ((j : ℕ) → post_of_release j made at (Release target) reply ≡ None) → Tells1 made w at (Release target) (record { reply = reply; world = w })
refused_told made w at target reply a b c =
    history_quiet made w w (record { worker = at; call = Release target; reply = reply }) (none_done made w w at (Release target) reply a b refl)
    (record { made_none = c; taken_none = λ i. refl }) refl refl

-- one post more in one lane
posted_here : {sli : ℕ} (made : List (Option Name)) (w : World sli) (at : ℕ) (target : Target) (name : Name) → name_of made target ≡ Some name
    → let x : Post = record { from = at; name = name } in let e : Entry = record { worker = at; call = Release target; reply = Posted } in
    w.waiting at name.heap ++ posts_made at name.heap made (e ∷ []) ≡ posts_taken at name.heap (e ∷ []) ++ (with_waiting w at name.heap (w.waiting at name.heap ++ x ∷ [])).waiting at name.heap
posted_here made w at target name known =
    let x : Post = record { from = at; name = name } in
    let e : Entry = record { worker = at; call = Release target; reply = Posted } in
    let posts = w.waiting at name.heap ++ x ∷ [] in
    let one = told_own (λ e. post_of_release name.heap made e.worker e.call e.reply) at e refl in
    let no_take = told_nothing (λ e. post_of_take at e.call e.reply) name.heap e refl in
    rw (one, no_take, known, of_same name.heap name refl) (sym (edited_same w.waiting at name.heap posts))

posted_away : {sli : ℕ} (made : List (Option Name)) (w : World sli) (at to i j : ℕ) (target : Target) (posts : List Post)
    → let e : Entry = record { worker = at; call = Release target; reply = Posted } in posts_made i j made (e ∷ []) ≡ [] → (i ≡ at → j ≡ to → ⊥)
    → w.waiting i j ++ posts_made i j made (e ∷ []) ≡ posts_taken i j (e ∷ []) ++ (with_waiting w at to posts).waiting i j
posted_away made w at to i j target posts none away =
    let e : Entry = record { worker = at; call = Release target; reply = Posted } in
    let no_take = told_nothing (λ e. post_of_take i e.call e.reply) j e refl in
    rw (none, no_take) (append-nil (w.waiting i j) ∙ sym (edited_other w.waiting at to i j posts away))

posted_lanes : {sli : ℕ} (made : List (Option Name)) (w : World sli) (at : ℕ) (target : Target) (name : Name) → name_of made target ≡ Some name → (i j : ℕ)
    → let x : Post = record { from = at; name = name } in let e : Entry = record { worker = at; call = Release target; reply = Posted } in
    w.waiting i j ++ posts_made i j made (e ∷ []) ≡ posts_taken i j (e ∷ []) ++ (with_waiting w at name.heap (w.waiting at name.heap ++ x ∷ [])).waiting i j
posted_lanes made w at target name known i j =
    let posts = w.waiting at name.heap ++ record { from = at; name = name } ∷ [] in
    let e : Entry = record { worker = at; call = Release target; reply = Posted } in
    let f : Entry → Option Post = λ e. post_of_release j made e.worker e.call e.reply in
    elim (cases_eq i at) [
      | inl a ↦ elim (cases_eq j name.heap) [
        | inl b ↦ rw (a, b) (posted_here made w at target name known)
        | inr b ↦
            let none : f e ≡ None = rw (known, of_other j name (λ q. b (sym q))) refl in
            posted_away made w at name.heap i j target posts (told_nothing f i e none) (λ _ q. b q)
      ]
      | inr a ↦ posted_away made w at name.heap i j target posts (told_other f i e (λ q. a (sym q))) (λ q _. a q)
    ]

post_told : {sli : ℕ} (made : List (Option Name)) (w : World sli) (at : ℕ) (target : Target) (name : Name) → name.heap ≢ at → name_of made target ≡ Some name
    → Tells1 made w at (Release target) (posting w at name)
post_told made w at target name ne known =
    let away = of_other at name ne in
    posting_by (Tells1 made w at (Release target)) w at name (λ full. refused_told made w at target (Refused (Full name)) (rw (known, away) refl) refl (λ j. refl)) (λ room.
    let v = with_waiting w at name.heap (w.waiting at name.heap ++ record { from = at; name = name } ∷ []) in
    let entry : Entry = record { worker = at; call = Release target; reply = Posted } in
    let own = none_done made w v at (Release target) Posted (rw (known, away) refl) refl refl in
    record { heaps = λ j j_in. heap_of_own_call made w v entry own j; posts = posted_lanes made w at target name known; count = refl; each = own_each made w v entry (length w.heaps) own })

pub release_told : {sli : ℕ} (made : List (Option Name)) (w : World sli) (at : ℕ) (target : Target) (o : Option Name) → at < length w.heaps
    → ((name : Name) → o ≡ Some name → name_of made target ≡ Some name) → Tells1 made w at (Release target) (releasing_named w at o)
release_told made w at target None at_in known = refused_told made w at target (Refused Unmade) refl refl (λ j. refl)
release_told made w at target (Some name) at_in known =
    let k = known name refl in
    releasing_by (Tells1 made w at (Release target)) w at name (λ own. own_release_told made w at target name at_in own k) (λ ne lt. post_told made w at target name ne k)
    (λ ne ge. refused_told made w at target (Refused Stranger) (rw (k, of_other at name ne) refl) refl (λ j. refl))

-- ---- take

-- one post fewer in one lane
took_here : {sli : ℕ} (made : List (Option Name)) (w : World sli) (at from : ℕ) (p : Post) (rest : List Post) → w.waiting from at ≡ p ∷ rest
    → let a = took w at from p rest in let e : Entry = record { worker = at; call = Take from; reply = a.reply } in
    w.waiting from at ++ posts_made from at made (e ∷ []) ≡ posts_taken from at (e ∷ []) ++ a.world.waiting from at
took_here made w at from p rest waits =
    let e : Entry = record { worker = at; call = Take from; reply = (took w at from p rest).reply } in
    let no_post = told_nothing (λ e. post_of_release at made e.worker e.call e.reply) from e refl in
    let own : (from == from) ≡ true = grind (arith, nat_tests) in
    let this : post_of_take from e.call e.reply ≡ Some p = rw own refl in
    let one : posts_taken from at (e ∷ []) ≡ p ∷ [] = told_own (λ e. post_of_take from e.call e.reply) at e refl ∙ ap (λ o. cons_option o []) this in
    rw (no_post, one) (append-nil (w.waiting from at) ∙ (waits ∙ ap (λ l. p ∷ l) (sym (edited_same w.waiting from at rest))))

took_away : {sli : ℕ} (made : List (Option Name)) (w : World sli) (at from : ℕ) (p : Post) (rest : List Post) (i j : ℕ) → (i ≡ from → j ≡ at → ⊥)
    → let a = took w at from p rest in let e : Entry = record { worker = at; call = Take from; reply = a.reply } in
    posts_taken i j (e ∷ []) ≡ [] → w.waiting i j ++ posts_made i j made (e ∷ []) ≡ posts_taken i j (e ∷ []) ++ a.world.waiting i j
took_away made w at from p rest i j away none =
    let e : Entry = record { worker = at; call = Take from; reply = (took w at from p rest).reply } in
    let no_post = told_nothing (λ e. post_of_release j made e.worker e.call e.reply) i e refl in
    rw (no_post, none) (append-nil (w.waiting i j) ∙ sym (edited_other w.waiting from at i j rest away))

took_lanes : {sli : ℕ} (made : List (Option Name)) (w : World sli) (at from : ℕ) (p : Post) (rest : List Post) → w.waiting from at ≡ p ∷ rest → (i j : ℕ)
    → let a = took w at from p rest in let e : Entry = record { worker = at; call = Take from; reply = a.reply } in
    w.waiting i j ++ posts_made i j made (e ∷ []) ≡ posts_taken i j (e ∷ []) ++ a.world.waiting i j
took_lanes made w at from p rest waits i j =
    let e : Entry = record { worker = at; call = Take from; reply = (took w at from p rest).reply } in
    let f : Entry → Option Post = λ e. post_of_take i e.call e.reply in
    elim (cases_eq i from) [
      | inl a ↦ elim (cases_eq j at) [
        | inl b ↦ rw (a, b) (took_here made w at from p rest waits)
        | inr b ↦ took_away made w at from p rest i j (λ _ q. b q) (told_other f j e (λ q. b (sym q)))
      ]
      | inr a ↦
          let other : (from == i) ≡ false = grind (arith, nat_tests) in
          let none : f e ≡ None = rw other refl in
          took_away made w at from p rest i j (λ q _. a q) (told_nothing f j e none)
    ]

pub took_told : {sli : ℕ} (made : List (Option Name)) (w : World sli) (at from : ℕ) (p : Post) (rest : List Post) → at < length w.heaps → w.waiting from at ≡ p ∷ rest
    → Tells1 made w at (Take from) (took w at from p rest)
unfolding released
took_told made w at from p rest at_in waits =
    let a = took w at from p rest in
    let own = done_here made w at (Take from) a.reply (heap.Release p.name) at_in refl refl in
    let g = (heap.released (heap_in w at) p.name).heap in
    record {
      heaps = λ j j_in. heap_of_own_call made w (with_heap w at g) (record { worker = at; call = Take from; reply = a.reply }) own j;
      posts = took_lanes made w at from p rest waits;
      count = length-set w.heaps at g;
      each = own_each made w (with_heap w at g) (record { worker = at; call = Take from; reply = a.reply }) (length w.heaps) own;
    }

untaken_told : {sli : ℕ} (made : List (Option Name)) (w : World sli) (at from : ℕ) (reply : Reply) → call_on_own made at (Take from) reply ≡ None → answer_told (Take from) reply ≡ None
    → ((i : ℕ) → post_of_take i (Take from) reply ≡ None) → Tells1 made w at (Take from) (record { reply = reply; world = w })
untaken_told made w at from reply a b c =
    history_quiet made w w (record { worker = at; call = Take from; reply = reply }) (none_done made w w at (Take from) reply a b refl)
    (record { made_none = λ j. refl; taken_none = c }) refl refl

pub take_told : {sli : ℕ} (made : List (Option Name)) (w : World sli) (at from : ℕ) → at < length w.heaps → Tells1 made w at (Take from) (taking w at from)
take_told made w at from at_in =
    taking_by (Tells1 made w at (Take from)) w at from (untaken_told made w at from (Refused Stranger) refl refl (λ i. refl)) (untaken_told made w at from Empty refl refl (λ i. refl))
    (λ p rest ne lt e. took_told made w at from p rest at_in e)
