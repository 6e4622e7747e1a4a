-- The words of the ends of a mailbox on the posts that waited.
use Rattle.tlsf_post.proofs.Common.{◌≡◌, ◌≢◌, ℕ, ◌+◌, ◌<◌, ◌≤◌, List, [], ◌∷◌, ◌++◌, length, refl, sym, ap, ◌∙◌, subst, arith, length-append, All-tail, Option, Some, None, MatchOption, IfSome, Post, Plan, View, posts_of, plan_for, MayPut, AreOfPosters, Shows, HasTaken, owner_of, out_of, plan_at, OwnerSaw, IsPrefix, view}
use Rattle.tlsf_post.specs.declared.owner_end.OwnerEnd.{OwnerEnd}
use Rattle.tlsf_post.proofs.RuleSteps.{of_own, of_plan}

-- ---- the owner's end

pub owner_saw : (o : OwnerEnd) (items : List Post) → (view o.pass).plan ≡ plan_at o → Shows (view o.pass) items → OwnerSaw o items
owner_saw o items e shows =
    let here = of_plan items (plan_at o) (view o.pass).plan (sym e) (shows.few, shows.from) in record { few = here.0; from = here.1; known = λ p. (shows.known p).0 }

pub took_first : (o : OwnerEnd) (w : View) (r : Option Post) (N : Type 0) → (view o.pass).plan ≡ plan_at o → MatchOption r N (λ x. HasTaken (view o.pass) x w) → IfSome r (λ x. (others : List Post) × OwnerSaw o (x ∷ others))
took_first o w None N e m = tt
took_first o w (Some x) N e m = (m.1, owner_saw o (x ∷ m.1) e m.2)

pub took_of_poster : (o : OwnerEnd) (r : Option Post) → IfSome r (λ x. (others : List Post) × OwnerSaw o (x ∷ others)) → IfSome r (λ x. (x.from < out_of o) × (x.from ≢ owner_of o))
took_of_poster o None s = tt
took_of_poster o (Some x) s = s.1.from 0 x (omega arith)

-- the mailbox stays as it was laid out
pub laid_still : (v w : View) (owner capacity : ℕ) → w ≡ v → v.plan ≡ plan_for owner v.number capacity → w.plan ≡ plan_for owner w.number capacity
laid_still v w owner capacity e laid = subst (λ (u : View). u.plan ≡ plan_for owner u.number capacity) (sym e) laid

pub laid_taken : (r : Option Post) (v w : View) (N : Type 0) (owner capacity : ℕ) → MatchOption r ((w ≡ v) × N) (λ x. HasTaken v x w) → v.plan ≡ plan_for owner v.number capacity → w.plan ≡ plan_for owner w.number capacity
laid_taken None v w N owner capacity m laid = laid_still v w owner capacity m.0 laid
laid_taken (Some x) v w N owner capacity m laid = subst (λ (u : View). u.plan ≡ plan_for owner u.number capacity) (sym m.0) laid

-- the same of one attempt
pub laid_tried : (r : Option Post) (v w : View) (owner capacity : ℕ) → MatchOption r (w ≡ v) (λ x. HasTaken v x w) → v.plan ≡ plan_for owner v.number capacity → w.plan ≡ plan_for owner w.number capacity
laid_tried None v w owner capacity m laid = laid_still v w owner capacity m laid
laid_tried (Some x) v w owner capacity m laid = subst (λ (u : View). u.plan ≡ plan_for owner u.number capacity) (sym m.0) laid

-- ---- one poster

-- of two workers one alone may put
one_may : (plan : Plan) (p q : ℕ) → plan.workers ≡ 2 → plan.owner < plan.workers → MayPut plan p → MayPut plan q → q ≡ p
one_may plan p q two owned a b = omega (arith, a.0, a.1, b.0, b.1)

all_own : (plan : Plan) (p : ℕ) (posts : List Post) → plan.workers ≡ 2 → plan.owner < plan.workers → MayPut plan p → AreOfPosters plan posts → posts_of p posts ≡ posts
all_own plan p [] two owned may from = refl
all_own plan p (x ∷ xs) two owned may from =
    of_own p x xs (one_may plan p x.from two owned may (from 0 x (omega arith))) ∙ ap (λ l. x ∷ l) (all_own plan p xs two owned may (All-tail (λ (post : Post). MayPut plan post.from) x xs from))

-- what waited in a full mailbox of one poster is all its own
pub full_alone : (plan : Plan) (p : ℕ) (put gone taken waiting : List Post) → plan.workers ≡ 2 → plan.owner < plan.workers → MayPut plan p → AreOfPosters plan waiting → length waiting ≡ plan.capacity
    → put ≡ taken ++ posts_of p waiting → IsPrefix gone taken → length gone + plan.capacity ≤ length put
full_alone plan p put gone taken waiting two owned may from full own known =
    let whole : length put ≡ length taken + length waiting = ap length own ∙ length-append taken (posts_of p waiting) ∙ ap (λ l. length taken + length l) (all_own plan p waiting two owned may from) in
    omega (arith, ap length known.1, length-append gone known.0)
