-- Each step on a mailbox's queue keeps its rule.
use Rattle.tlsf_post.proofs.Common.{◌≡◌, ◌≢◌, ℕ, zero, suc, ◌+◌, ◌<◌, ◌≤◌, ◌⊎◌, inl, inr, true, false, true≢false, List, [], ◌∷◌, ◌++◌, length, set, sym, refl, ap, ◌∙◌, subst, ⊎_elim, append_assoc, arith, cond, eqb, eq-eqb, ne_eqb, not, cases_eq, cases_lt, cond-true, cond-false, length-append, All-nil, All-push, All-tail, filter-append, Bool, IsTrue, Some, None, MatchOption, IfNone, Post, View, Plan, posts_of, posts_but, plan_for, poster_view, owner_view, idle, MayPut, AreOfPosters, IsIn, Fits, Kept, Shows, ShowsOwn, HasPut, HasTaken, Maybe}
use mathlib.Core.List.{IsPrefix, append-nil}
use mathlib.Core.Option.{Option, some, none, some-ne-none, some-injective}
use lib.ListN.{get_elem?}
use Rattle.crossbeam_queue.specs.Fifo.{Pushes, Pops, Forks, Merges, Learns, Held}
use Rattle.crossbeam_queue.proofs.Lists.{at_set}

-- ---- lists

pub of_own : (p : ℕ) (x : Post) (xs : List Post) → x.from ≡ p → posts_of p (x ∷ xs) ≡ x ∷ posts_of p xs
of_own p x xs e = cond-true (eqb x.from p) (x ∷ posts_of p xs) (posts_of p xs) (eq-eqb x.from p e)

pub of_other : (p : ℕ) (x : Post) (xs : List Post) → x.from ≢ p → posts_of p (x ∷ xs) ≡ posts_of p xs
of_other p x xs n = cond-false (eqb x.from p) (x ∷ posts_of p xs) (posts_of p xs) (ne_eqb x.from p n)

others_own : (p : ℕ) (x : Post) (xs : List Post) → x.from ≡ p → posts_but p (x ∷ xs) ≡ posts_but p xs
others_own p x xs e = cond-false (not (eqb x.from p)) (x ∷ posts_but p xs) (posts_but p xs) (ap not (eq-eqb x.from p e))

others_other : (p : ℕ) (x : Post) (xs : List Post) → x.from ≢ p → posts_but p (x ∷ xs) ≡ x ∷ posts_but p xs
others_other p x xs n = cond-true (not (eqb x.from p)) (x ∷ posts_but p xs) (posts_but p xs) (ap not (ne_eqb x.from p n))

pub of_append : (p : ℕ) (xs ys : List Post) → posts_of p (xs ++ ys) ≡ posts_of p xs ++ posts_of p ys
of_append p xs ys = filter-append (λ (post : Post). eqb post.from p) xs ys

of_of : (p : ℕ) (xs : List Post) → posts_of p (posts_of p xs) ≡ posts_of p xs
of_of p [] = refl
of_of p (x ∷ xs) = ⊎_elim (λ e. ap (posts_of p) (of_own p x xs e) ∙ of_own p x (posts_of p xs) e ∙ ap (λ l. x ∷ l) (of_of p xs) ∙ sym (of_own p x xs e))
    (λ n. ap (posts_of p) (of_other p x xs n) ∙ of_of p xs ∙ sym (of_other p x xs n)) (cases_eq x.from p)

of_apart : (p q : ℕ) (xs : List Post) → p ≢ q → posts_of p (posts_of q xs) ≡ []
of_apart p q [] n = refl
of_apart p q (x ∷ xs) n = ⊎_elim (λ e. ap (posts_of p) (of_own q x xs e) ∙ of_other p x (posts_of q xs) (λ f. n (sym f ∙ e)) ∙ of_apart p q xs n)
    (λ m. ap (posts_of p) (of_other q x xs m) ∙ of_apart p q xs n) (cases_eq x.from q)

pub of_others : (p : ℕ) (xs : List Post) → posts_of p (posts_but p xs) ≡ []
of_others p [] = refl
of_others p (x ∷ xs) = ⊎_elim (λ e. ap (posts_of p) (others_own p x xs e) ∙ of_others p xs)
    (λ n. ap (posts_of p) (others_other p x xs n) ∙ of_other p x (posts_but p xs) n ∙ of_others p xs) (cases_eq x.from p)

pub of_kept : (p q : ℕ) (xs : List Post) → p ≢ q → posts_of p (posts_but q xs) ≡ posts_of p xs
of_kept p q [] n = refl
of_kept p q (x ∷ xs) n = ⊎_elim (λ e. ap (posts_of p) (others_own q x xs e) ∙ of_kept p q xs n ∙ sym (of_other p x xs (λ f. n (sym f ∙ e))))
    (λ m. ap (posts_of p) (others_other q x xs m) ∙ ⊎_elim (λ f. of_own p x (posts_but q xs) f ∙ ap (λ l. x ∷ l) (of_kept p q xs n) ∙ sym (of_own p x xs f))
    (λ k. of_other p x (posts_but q xs) k ∙ of_kept p q xs n ∙ sym (of_other p x xs k)) (cases_eq x.from p)) (cases_eq x.from q)

pub parts : (p : ℕ) (xs : List Post) → length xs ≡ length (posts_of p xs) + length (posts_but p xs)
parts p [] = refl
parts p (x ∷ xs) = ⊎_elim (λ e. let a = ap length (of_own p x xs e) in let b = ap length (others_own p x xs e) in omega (arith, parts p xs, a, b))
    (λ n. let a = ap length (of_other p x xs n) in let b = ap length (others_other p x xs n) in omega (arith, parts p xs, a, b)) (cases_eq x.from p)

-- what is known once poster q came back, of q and of another
pub back_own : (q : ℕ) (known put : List Post) → posts_of q (posts_but q known ++ put) ≡ posts_of q put
back_own q known put = of_append q (posts_but q known) put ∙ ap (λ l. l ++ posts_of q put) (of_others q known)

pub back_other : (p q : ℕ) (known put all : List Post) → p ≢ q → put ≡ posts_of q all → posts_of p (posts_but q known ++ put) ≡ posts_of p known
back_other p q known put all n e = of_append p (posts_but q known) put
    ∙ ap (λ l. posts_of p (posts_but q known) ++ l) (ap (posts_of p) e ∙ of_apart p q all n)
    ∙ append-nil (posts_of p (posts_but q known)) ∙ of_kept p q known n

-- a list of which no poster has a post has none
none_of : (xs : List Post) → ((p : ℕ) → posts_of p xs ≡ []) → xs ≡ []
none_of [] without = refl
none_of (x ∷ xs) without = let e : x ∷ posts_of x.from xs ≡ [] = sym (of_own x.from x xs refl) ∙ without x.from in absurd (omega (arith, ap length e))

empty : (items : List Post) → length items ≡ 0 → items ≡ []
empty [] e = refl
empty (x ∷ xs) e = absurd (omega arith)

-- a beginning of some posts is one of more
begins_more : (p : ℕ) (front xs ys : List Post) → IsPrefix front (posts_of p xs) → IsPrefix front (posts_of p (xs ++ ys))
begins_more p front xs ys (rest, is) = (rest ++ posts_of p ys, sym (append_assoc front rest (posts_of p ys)) ∙ ap (λ l. l ++ posts_of p ys) is ∙ sym (of_append p xs ys))

-- ---- views

abbrev All : (ℕ → View → Type 0) → List View → Type 0
All F views = (pass : ℕ) (v : View) → get_elem? views pass ≡ some v → F pass v

all_set : (F : ℕ → View → Type 0) (views : List View) (port : ℕ) (w : View) → F port w → ((j : ℕ) (u : View) → j ≢ port → get_elem? views j ≡ some u → F j u) → All F (set views port w)
all_set F views port w mine rest j u e = ⊎_elim (λ (x : (j ≡ port) × (w ≡ u)). subst (λ (y : ℕ × View). F y.0 y.1) (λ i. (sym x.0 i, x.1 i)) mine)
    (λ (x : (j ≢ port) × (get_elem? views j ≡ some u)). rest j u x.0 x.1) (at_set views port j w u e)

at_own : (l : List View) (i : ℕ) (v w : View) → get_elem? l i ≡ some v → get_elem? (set l i w) i ≡ some w
at_own [] i v w e = absurd (some-ne-none v (sym e))
at_own (x ∷ xs) zero v w e = refl
at_own (x ∷ xs) (suc i) v w e = at_own xs i v w e

at_push : (l : List View) (a b : View) (j : ℕ) → get_elem? (l ++ a ∷ []) j ≡ some b → (get_elem? l j ≡ some b) ⊎ ((j ≡ length l) × (a ≡ b))
at_push [] a b zero e = inr (refl, some-injective a b e)
at_push [] a b (suc j) e = absurd (some-ne-none b (sym e))
at_push (x ∷ xs) a b zero e = inl e
at_push (x ∷ xs) a b (suc j) e = ⊎_elim (λ h. inl h) (λ h. inr (ap suc h.0, h.1)) (at_push xs a b j e)

all_push : (F : ℕ → View → Type 0) (views : List View) (w : View) → F (length views) w → All F views → All F (views ++ w ∷ [])
all_push F views w new old j u e = ⊎_elim (λ h. old j u h) (λ (x : (j ≡ length views) × (w ≡ u)). subst (λ (y : ℕ × View). F y.0 y.1) (λ i. (sym x.0 i, x.1 i)) new) (at_push views w u j e)

-- a pass given to one number
abbrev with_pass : (ℕ → Option ℕ) → ℕ → Option ℕ → ℕ → Option ℕ
with_pass pass_of n to p = cond (eqb p n) to (pass_of p)

with_pass_own : (pass_of : ℕ → Option ℕ) (n p : ℕ) (to : Option ℕ) → p ≡ n → with_pass pass_of n to p ≡ to
with_pass_own pass_of n p to e = cond-true (eqb p n) to (pass_of p) (eq-eqb p n e)

with_pass_other : (pass_of : ℕ → Option ℕ) (n p : ℕ) (to : Option ℕ) → p ≢ n → with_pass pass_of n to p ≡ pass_of p
with_pass_other pass_of n p to e = cond-false (eqb p n) to (pass_of p) (ne_eqb p n e)

-- ---- the rule

pub begins : Kept [] (owner_view (plan_for 0 0 0) 0 [] [] ∷ [])
begins = record {
  plan = plan_for 0 0 0;
  owner = 0;
  pass_of = λ p. none;
  taken = [];
  few = omega arith;
  from = All-nil (λ (post : Post). MayPut (plan_for 0 0 0) post.from);
  fits = all_push (Fits (plan_for 0 0 0) 0 (λ p. none) [] []) [] (owner_view (plan_for 0 0 0) 0 [] [])
      ((λ posts. absurd (true≢false (sym posts))), λ _. (refl, refl, (λ p. ([], refl)), (λ p _. (refl, refl)), refl)) (λ j u e. absurd (some-ne-none u (sym e)));
}

-- ---- what a pass shows

pub of_plan : (items : List Post) (a b : Plan) → a ≡ b → (length items ≤ b.capacity) × AreOfPosters b items → (length items ≤ a.capacity) × AreOfPosters a items
of_plan items a b e h = subst (λ (plan : Plan). (length items ≤ plan.capacity) × AreOfPosters plan items) (sym e) h

pub learns_own : (port : ℕ) (v : View) → v.posts ≡ true → Learns Kept port v (ShowsOwn v)
learns_own port v may items views h at =
    let mine = (h.fits port v at).0 may in
    let here = of_plan items v.plan h.plan mine.2 (h.few, h.from) in
    record { few = here.0; from = here.1; taken = posts_of v.number h.taken; own = mine.1 ∙ of_append v.number h.taken items; known = mine.3 }

pub learns : (port : ℕ) (v : View) → v.takes ≡ true → Learns Kept port v (Shows v)
learns port v may items views h at =
    let mine = (h.fits port v at).1 may in
    let here = of_plan items v.plan h.plan mine.4 (h.few, h.from) in
    let e : (p : ℕ) → posts_of p (h.taken ++ items) ≡ posts_of p (v.got ++ items) = λ p. ap (λ t. posts_of p (t ++ items)) (sym mine.1) in
    record { few = here.0; from = here.1; known = λ p. (((mine.2 p).0, (mine.2 p).1 ∙ e p), λ past. (mine.3 p past).1 ∙ e p) }

-- ---- a post goes in, and one comes out

pub pushes : (n port : ℕ) (v : View) (x : Post) → v.posts ≡ true → x.from ≡ v.number → v.plan.capacity ≡ n → MayPut v.plan v.number → Pushes Kept n port v x (HasPut v x)
pushes n port v x may from holds mine_is items views room h at =
    let w : View = poster_view v.plan v.number (v.put ++ x ∷ []) v.got in
    let one : List Post = x ∷ [] in
    let all : List Post = h.taken ++ items in
    let e : h.taken ++ (items ++ one) ≡ all ++ one = sym (append_assoc h.taken items one) in
    let mine = (h.fits port v at).0 may in
    let more : (p : ℕ) → posts_of p (h.taken ++ (items ++ one)) ≡ posts_of p all ++ posts_of p one = λ p. ap (posts_of p) e ∙ of_append p all one in
    let same : (p : ℕ) → v.number ≢ p → posts_of p (h.taken ++ (items ++ one)) ≡ posts_of p all =
    λ p d. more p ∙ ap (λ l. posts_of p all ++ l) (of_other p x [] (λ f. d (sym from ∙ f))) ∙ append-nil (posts_of p all) in
    let kept : Kept (items ++ one) (set views port w) = record {
      plan = h.plan;
      owner = h.owner;
      pass_of = h.pass_of;
      taken = h.taken;
      few = omega (arith, length-append items one, ap (λ (plan : Plan). plan.capacity) mine.2);
      from = All-push (λ (post : Post). MayPut h.plan post.from) items x h.from (subst (λ (z : Plan × ℕ). MayPut z.0 z.1) (λ i. (mine.2 i, sym from i)) mine_is);
      fits = all_set (Fits h.plan h.owner h.pass_of h.taken (h.taken ++ (items ++ one))) views port w (
        (λ _. (mine.0, ap (λ l. l ++ one) mine.1 ∙ ap (λ l. posts_of v.number all ++ l) (sym (of_own v.number x [] from)) ∙ sym (more v.number), mine.2, mine.3)),
        λ takes. absurd (true≢false (sym takes)),
      )
          (λ j u other i. (
            (λ posts. let theirs = (h.fits j u i).0 posts in
                (theirs.0, theirs.1 ∙ sym (same u.number (λ d. other (some-injective j port (sym theirs.0 ∙ ap h.pass_of (sym d) ∙ mine.0)))), theirs.2, theirs.3)),
            (λ takes. let theirs = (h.fits j u i).1 takes in (
              theirs.0,
              theirs.1,
              (λ p. let front = theirs.2 p in (front.0 ++ posts_of p one, sym (append_assoc (posts_of p u.put) front.0 (posts_of p one)) ∙ ap (λ l. l ++ posts_of p one) front.1 ∙ sym (more p))),
              (λ p past. let closed = theirs.3 p past in (closed.0, closed.1 ∙ sym (same p (λ d. some-ne-none port (sym mine.0 ∙ ap h.pass_of d ∙ closed.0))))),
              theirs.4,
            )),
          ));
    } in (w, kept, (refl, items, learns_own port w refl (items ++ one) (set views port w) kept (at_own views port v w at)))

pub pops : (port : ℕ) (v : View) → v.takes ≡ true → v.posts ≡ false → Pops Kept port v (HasTaken v)
pops port v may idle_put x items views h at =
    let w : View = owner_view v.plan v.number v.put (v.got ++ x ∷ []) in
    let taken : List Post = h.taken ++ x ∷ [] in
    let e : h.taken ++ (x ∷ items) ≡ taken ++ items = sym (append_assoc h.taken (x ∷ []) items) in
    let mine = (h.fits port v at).1 may in (
      w,
      record {
        plan = h.plan;
        owner = h.owner;
        pass_of = h.pass_of;
        taken = taken;
        few = omega (arith, h.few);
        from = All-tail (λ (post : Post). MayPut h.plan post.from) x items h.from;
        fits = all_set (Fits h.plan h.owner h.pass_of taken (taken ++ items)) views port w (
          (λ posts. absurd (true≢false (sym posts))),
          λ _. (
            mine.0,
            ap (λ l. l ++ x ∷ []) mine.1,
            (λ p. ((mine.2 p).0, (mine.2 p).1 ∙ ap (posts_of p) e)),
            (λ p past. ((mine.3 p past).0, (mine.3 p past).1 ∙ ap (posts_of p) e)),
            mine.4,
          ),
        )
            (λ j u other i. (
              (λ posts. let theirs = (h.fits j u i).0 posts in (theirs.0, theirs.1 ∙ ap (posts_of u.number) e, theirs.2, begins_more u.number u.got h.taken (x ∷ []) theirs.3)),
              (λ takes. absurd (other (((h.fits j u i).1 takes).0 ∙ sym mine.0))),
            ));
      },
      (refl, items, learns port v may (x ∷ items) views h at),
    )

-- ---- a mailbox is laid out, and its posters go out

-- while nobody is out and nothing was put, the mailbox may be laid out anew
pub plans : (port : ℕ) (v : View) (plan : Plan) → v.takes ≡ true → v.number ≡ 0 → v.put ≡ [] → Forks Kept port v (owner_view plan v.number v.put v.got) idle
plans port v plan may none_out nothing items views h at =
    let l : View = owner_view plan v.number v.put v.got in
    let all : List Post = h.taken ++ items in
    let mine = (h.fits port v at).1 may in
    let le : (p : ℕ) → v.number ≤ p = λ p. omega arith in
    let whole : all ≡ [] = none_of all (λ p. sym (mine.3 p (inl (le p))).1 ∙ ap (posts_of p) nothing) in
    let count : length items ≡ 0 = omega (arith, ap length whole, length-append h.taken items) in
    let F : ℕ → View → Type 0 = Fits plan h.owner h.pass_of h.taken all in
    record {
      plan = plan;
      owner = h.owner;
      pass_of = h.pass_of;
      taken = h.taken;
      few = omega (arith, count);
      from = subst (λ l. AreOfPosters plan l) (sym (empty items count)) (All-nil (λ (post : Post). MayPut plan post.from));
      fits = all_push F (set views port l) idle ((λ posts. absurd (true≢false (sym posts))), λ takes. absurd (true≢false (sym takes)))
          (all_set F views port l
          ((λ posts. absurd (true≢false (sym posts))), λ _. (mine.0, mine.1, mine.2, (λ p past. mine.3 p (inl (le p))), refl))
          (λ j u other i. (
            (λ posts. absurd (some-ne-none j (sym ((h.fits j u i).0 posts).0 ∙ (mine.3 u.number (inl (le u.number))).0))),
            (λ takes. absurd (other (((h.fits j u i).1 takes).0 ∙ sym mine.0))),
          )));
    }

-- what is in once the next poster went out
later : (n own p : ℕ) → own ≢ n → (n + 1 ≤ p) ⊎ (own ≡ p) → ((n ≤ p) ⊎ (own ≡ p)) × (p ≢ n)
later n own p new (inl le) = (inl (omega arith), λ d. omega arith)
later n own p new (inr e) = (inr e, λ d. new (e ∙ d))

-- what is in once a number was passed over
passed : (n own p : ℕ) → (n + 1 ≤ p) ⊎ (own ≡ p) → (n ≤ p) ⊎ (own ≡ p)
passed n own p (inl le) = inl (omega arith)
passed n own p (inr e) = inr e

-- what is in once poster n came back, where all between it and those that are in is in
earlier : (v : View) (n p : ℕ) → ((q : ℕ) → n < q → IsIn v q) → p ≢ n → (n ≤ p) ⊎ (v.plan.owner ≡ p) → IsIn v p
earlier v n p gap d (inl le) = let lt : n < p = ⊎_elim (λ x. x) (λ (ge : p ≤ n). absurd (d (omega arith))) (cases_lt n p) in gap p lt
earlier v n p gap d (inr e) = inr e

pub forks : (port : ℕ) (v : View) → v.takes ≡ true → v.posts ≡ false → v.plan.owner ≢ v.number
    → Forks Kept port v (owner_view v.plan (v.number + 1) v.put v.got) (poster_view v.plan v.number (posts_of v.number v.put) (posts_of v.number v.got))
forks port v may quiet new items views h at =
    let l : View = owner_view v.plan (v.number + 1) v.put v.got in
    let r : View = poster_view v.plan v.number (posts_of v.number v.put) (posts_of v.number v.got) in
    let vs : List View = set views port l in
    let all : List Post = h.taken ++ items in
    let mine = (h.fits port v at).1 may in
    let le : v.number ≤ v.number = omega arith in
    let free = mine.3 v.number (inl le) in
    let pass_of : ℕ → Option ℕ = with_pass h.pass_of v.number (some (length vs)) in
    let F : ℕ → View → Type 0 = Fits h.plan h.owner pass_of h.taken all in
    record {
      plan = h.plan;
      owner = h.owner;
      pass_of = pass_of;
      taken = h.taken;
      few = h.few;
      from = h.from;
      fits = all_push F vs r (
        (λ _. (
          with_pass_own h.pass_of v.number v.number (some (length vs)) refl,
          free.1,
          mine.4,
          let e : posts_of v.number v.got ++ [] ≡ posts_of v.number h.taken = append-nil (posts_of v.number v.got) ∙ ap (posts_of v.number) mine.1 in ([], e),
        )),
        λ takes. absurd (true≢false (sym takes)),
      )
          (all_set F views port l (
            (λ posts. absurd (true≢false (sym posts))),
            λ _. (
              mine.0,
              mine.1,
              mine.2,
              (λ p past. let apart = later v.number v.plan.owner p new past in let closed = mine.3 p apart.0 in (with_pass_other h.pass_of v.number p (some (length vs)) apart.1 ∙ closed.0, closed.1)),
              mine.4,
            ),
          )
          (λ j u other i. (
            (λ posts. let theirs = (h.fits j u i).0 posts in
                (with_pass_other h.pass_of v.number u.number (some (length vs)) (λ d. some-ne-none j (sym theirs.0 ∙ ap h.pass_of d ∙ free.0)) ∙ theirs.0, theirs.1, theirs.2, theirs.3)),
            (λ takes. absurd (other (((h.fits j u i).1 takes).0 ∙ sym mine.0))),
          )));
    }

pub skips : (port : ℕ) (v : View) → v.takes ≡ true → Forks Kept port v (owner_view v.plan (v.number + 1) v.put v.got) idle
skips port v may items views h at =
    let l : View = owner_view v.plan (v.number + 1) v.put v.got in
    let all : List Post = h.taken ++ items in
    let mine = (h.fits port v at).1 may in
    let F : ℕ → View → Type 0 = Fits h.plan h.owner h.pass_of h.taken all in
    record {
      plan = h.plan;
      owner = h.owner;
      pass_of = h.pass_of;
      taken = h.taken;
      few = h.few;
      from = h.from;
      fits = all_push F (set views port l) idle ((λ posts. absurd (true≢false (sym posts))), λ takes. absurd (true≢false (sym takes)))
          (all_set F views port l
          ((λ posts. absurd (true≢false (sym posts))), λ _. (mine.0, mine.1, mine.2, (λ p past. mine.3 p (passed v.number v.plan.owner p past)), mine.4))
          (λ j u other i. h.fits j u i));
    }

pub merges : (port : ℕ) (v : View) (other : ℕ) (w : View) → v.takes ≡ true → w.posts ≡ true → ((q : ℕ) → w.number < q → IsIn v q)
    → Merges Kept port v other w (owner_view v.plan w.number (posts_but w.number v.put ++ w.put) v.got) idle
merges port v other w may puts gap items views h at two at' =
    let known : List Post = posts_but w.number v.put ++ w.put in
    let both : View = owner_view v.plan w.number known v.got in
    let vs : List View = set views port both in
    let all : List Post = h.taken ++ items in
    let was : get_elem? views other ≡ some w = ⊎_elim (λ x. absurd (two x.0)) (λ x. x.1) (at_set views port other both w at') in
    let mine = (h.fits port v at).1 may in
    let theirs = (h.fits other w was).0 puts in
    let pass_of : ℕ → Option ℕ = with_pass h.pass_of w.number none in
    let own : (p : ℕ) → p ≡ w.number → posts_of p known ≡ posts_of p all =
    λ p e. subst (λ q. posts_of q known ≡ posts_of q all) (sym e) (back_own w.number v.put w.put ∙ ap (posts_of w.number) theirs.1 ∙ of_of w.number all) in
    let rest : (p : ℕ) → p ≢ w.number → posts_of p known ≡ posts_of p v.put = λ p n. back_other p w.number v.put w.put all n theirs.1 in
    let F : ℕ → View → Type 0 = Fits h.plan h.owner pass_of h.taken all in
    record {
      plan = h.plan;
      owner = h.owner;
      pass_of = pass_of;
      taken = h.taken;
      few = h.few;
      from = h.from;
      fits = all_set F vs other idle ((λ posts. absurd (true≢false (sym posts))), λ takes. absurd (true≢false (sym takes)))
          (λ j u apart i. all_set (λ j u. j ≢ other → F j u) views port both
          (λ _. (
            (λ posts. absurd (true≢false (sym posts))),
            λ _. (
              mine.0,
              mine.1,
              (λ p. ⊎_elim (λ e. ([], append-nil (posts_of p known) ∙ own p e)) (λ n. ((mine.2 p).0, ap (λ l. l ++ (mine.2 p).0) (rest p n) ∙ (mine.2 p).1)) (cases_eq p w.number)),
              (λ p past. ⊎_elim (λ e. (with_pass_own h.pass_of w.number p none e, own p e))
                  (λ n. let closed = mine.3 p (earlier v w.number p gap n past) in (with_pass_other h.pass_of w.number p none n ∙ closed.0, rest p n ∙ closed.1)) (cases_eq p w.number)),
              mine.4,
            ),
          ))
          (λ j u off i away. (
            (λ posts. let its = (h.fits j u i).0 posts in
                (with_pass_other h.pass_of w.number u.number none (λ d. away (some-injective j other (sym its.0 ∙ ap h.pass_of d ∙ theirs.0))) ∙ its.0, its.1, its.2, its.3)),
            (λ takes. absurd (off (((h.fits j u i).1 takes).0 ∙ sym mine.0))),
          )) j u i apart);
    }

-- ---- what a take of None tells

pub none_left : (v : View) → Held 0 (Shows v) → (p : ℕ) → IsPrefix (posts_of p v.put) (posts_of p v.got)
none_left v (items, no_items, shows) p = let front = (shows.known p).0 in (front.0, front.1 ∙ ap (posts_of p) (ap (λ l. v.got ++ l) (empty items no_items) ∙ append-nil v.got))

pub none_taken : (o : Maybe Post) (v w : View) (Q : Post → Type 0) → MatchOption o ((w ≡ v) × Held 0 (Shows v)) Q
    → IfNone o ((w.got ≡ v.got) × ((p : ℕ) → IsPrefix (posts_of p w.put) (posts_of p w.got)))
none_taken None v w Q m = (ap (λ (u : View). u.got) m.0, subst (λ (u : View). (p : ℕ) → IsPrefix (posts_of p u.put) (posts_of p u.got)) (sym m.0) (none_left v m.1))
none_taken (Some x) v w Q m = tt

-- ---- for the calls

pub signed_of : (v : View) (plan : Plan) (p : ℕ) (put gone : List Post) → v ≡ poster_view plan p (posts_of p put) gone → posts_of p v.put ≡ v.put
signed_of v plan p put gone e = ap (λ (u : View). posts_of p u.put) e ∙ of_of p put ∙ sym (ap (λ (u : View). u.put) e)

pub true_taken : (b : Bool) (v w : View) → w ≡ v → (IsTrue b → Held 0 (Shows v)) → IsTrue b → (p : ℕ) → IsPrefix (posts_of p w.put) (posts_of p w.got)
true_taken b v w e held is_true = subst (λ (u : View). (p : ℕ) → IsPrefix (posts_of p u.put) (posts_of p u.got)) (sym e) (none_left v (held is_true))
