-- The takes of a drain over queues: what they add to a record, and when two drains took the same posts.
use Rattle.tlsf_crew.proofs.Common.{zero, suc, [], ◌∷◌, ◌++◌, ◌≡◌, ◌≢◌, ℕ, ◌<◌, ◌≤◌, List, Option, All, length, refl, sym, ◌∙◌, ap, arith, subst, inl, inr, append_assoc, append-nil, cases_eq, All-head, All-tail, Name, posts_but, posts_of, Post, Entry, Full, Drained, Refused, released, StandsBehind, post_of_release, post_of_take, posts_made, posts_taken, Progress, last_call, IsFromOther, take_entry, with_reply, with_take, with_takes, of_append, of_kept, of_other, of_others, of_own, parts}
use Rattle.tlsf_crew.proofs.lemmas.histories.JoinedEntries.{told_nothing, made_then, taken_then}
use Rattle.tlsf_crew.proofs.lemmas.scripts.OneEntry.{stands_last}
use Rattle.tlsf_crew.proofs.lemmas.scripts.QueueSteps.{take_tells}

-- ---- what takes add

pub takes_add : (at : ℕ) (posts : List Post) (s : Progress) → (own : List Entry) × ((with_takes at s posts).entries ≡ s.entries ++ own)
takes_add at [] s = ([], sym (append-nil s.entries))
takes_add at (post ∷ posts) s =
    let e = take_entry at s.heap post in
    let rest = takes_add at posts (with_take at s post) in
    (e ∷ rest.0, rest.1 ∙ append_assoc s.entries (e ∷ []) rest.0)

-- they make no name
pub takes_name : (at : ℕ) (posts : List Post) (s : Progress) → (with_takes at s posts).made ≡ s.made
takes_name at [] s = refl
takes_name at (post ∷ posts) s = takes_name at posts (with_take at s post)

-- they post nothing
pub takes_make : (i j at : ℕ) (made : List (Option Name)) (posts : List Post) (s : Progress) → posts_made i j made (with_takes at s posts).entries ≡ posts_made i j made s.entries
takes_make i j at made [] s = refl
takes_make i j at made (post ∷ posts) s =
    let e = take_entry at s.heap post in
    let none = told_nothing (λ e. post_of_release j made e.worker e.call e.reply) i e refl in
    takes_make i j at made posts (with_take at s post)
    ∙ (made_then i j made s.entries (e ∷ []) ∙ (ap (λ l. posts_made i j made s.entries ++ l) none ∙ append-nil (posts_made i j made s.entries)))

-- of each worker they take its posts
pub takes_of_posts : (i at : ℕ) (posts : List Post) (s : Progress) → posts_taken i at (with_takes at s posts).entries ≡ posts_taken i at s.entries ++ posts_of i posts
takes_of_posts i at [] s = sym (append-nil (posts_taken i at s.entries))
takes_of_posts i at (post ∷ posts) s =
    let e = take_entry at s.heap post in
    let before = posts_taken i at s.entries in
    let this = take_tells i at (record { from = post.from; name = post.name; answer = (released s.heap post.name).answer }) in
    takes_of_posts i at posts (with_take at s post)
    ∙ (ap (λ l. l ++ posts_of i posts) (taken_then i at s.entries (e ∷ []) ∙ ap (λ l. before ++ l) this)
    ∙ (append_assoc before (posts_of i (post ∷ [])) (posts_of i posts) ∙ ap (λ l. before ++ l) (sym (of_append i (post ∷ []) posts))))

-- and meet no full queue
takes_unfilled : (at : ℕ) (posts : List Post) (s : Progress) (before : List Entry) (e : Entry) (name : Name) → StandsBehind (with_takes at s posts).entries before e → e.reply ≡ Refused (Full name) → StandsBehind s.entries before e
takes_unfilled at [] s before e name stands r = stands
takes_unfilled at (post ∷ posts) s before e name stands r =
    elim (stands_last s.entries (take_entry at s.heap post) before e (takes_unfilled at posts (with_take at s post) before e name stands r)) [
      | inl u ↦ u
      | inr u ↦ let h = ap (λ (y : Entry). y.reply) (sym u.1) ∙ r in absurd cc
    ]

-- ---- what the last drain leaves

-- a drain of these posts was told
abbrev pub DrainTold : ℕ → Progress → List Post → Progress → Type 0
DrainTold at s posts end = end ≡ with_reply at (with_takes at s posts) last_call (Drained (length posts))

abbrev pub drain_entry : ℕ → List Post → Entry
drain_entry at posts = record { worker = at; call = last_call; reply = Drained (length posts) }

-- what it took
pub end_takes : (i at : ℕ) (s end : Progress) (posts : List Post) → DrainTold at s posts end → posts_taken i at end.entries ≡ posts_taken i at s.entries ++ posts_of i posts
end_takes i at s end posts told =
    let x = drain_entry at posts in
    let t = with_takes at s posts in
    let quiet = told_nothing (λ e. post_of_take i e.call e.reply) at x refl in
    ap (λ (t : Progress). posts_taken i at t.entries) told ∙ (taken_then i at t.entries (x ∷ []) ∙ (ap (λ l. posts_taken i at t.entries ++ l) quiet
    ∙ (append-nil (posts_taken i at t.entries) ∙ takes_of_posts i at posts s)))

-- it met no full queue
pub drain_unfilled : (at : ℕ) (s end : Progress) (posts : List Post) (before : List Entry) (e : Entry) (name : Name) → DrainTold at s posts end → StandsBehind end.entries before e → e.reply ≡ Refused (Full name) → StandsBehind s.entries before e
drain_unfilled at s end posts before e name told stands r =
    let here = subst (λ (t : Progress). StandsBehind t.entries before e) told stands in
    elim (stands_last (with_takes at s posts).entries (drain_entry at posts) before e here) [
      | inl u ↦ takes_unfilled at posts s before e name u r
      | inr u ↦ let h = ap (λ (y : Entry). y.reply) (sym u.1) ∙ r in absurd cc
    ]

-- ---- how many posts

-- posts of others are none of a worker that is no other
pub none_of_others : (n at p : ℕ) (posts : List Post) → All (IsFromOther n at) posts → ¬ ((p < n) × (p ≢ at)) → posts_of p posts ≡ []
none_of_others n at p [] others far = refl
none_of_others n at p (x ∷ xs) others far =
    let o = All-head (IsFromOther n at) x xs others in
    of_other p x xs (λ e. far (subst (λ (k : ℕ). (k < n) × (k ≢ at)) e o)) ∙ none_of_others n at p xs (All-tail (IsFromOther n at) x xs others) far

-- there are no more posts where of no poster there are more
pub no_more_posts : (fuel : ℕ) (xs ys : List Post) → length xs ≤ fuel → ((p : ℕ) → length (posts_of p xs) ≤ length (posts_of p ys)) → length xs ≤ length ys
no_more_posts fuel [] ys few each = omega arith
no_more_posts zero (x ∷ xs) ys few each = absurd (omega arith)
no_more_posts (suc fuel) (x ∷ xs) ys few each =
    let p = x.from in
    let a = parts p (x ∷ xs) in
    let b = parts p ys in
    let own = ap length (of_own p x xs refl) in
    let mine = each p in
    let rest : length (posts_but p (x ∷ xs)) ≤ length (posts_but p ys)
    = no_more_posts fuel (posts_but p (x ∷ xs)) (posts_but p ys) (omega (arith, few, a, own)) (λ q. elim (cases_eq q p) [
      | inl e ↦ let none = ap (λ (k : ℕ). length (posts_of k (posts_but p (x ∷ xs)))) e ∙ ap length (of_others p (x ∷ xs)) in omega (arith, none)
      | inr ne ↦ omega (arith, each q, ap length (of_kept q p (x ∷ xs) ne), ap length (of_kept q p ys ne))
    ]) in
    omega (arith, a, b, mine, rest)

-- ---- the same posts

-- a post that stands first in a list is of some poster
from_some : (x : Post) (xs ys : List Post) → posts_of x.from (x ∷ xs) ≡ ys → ys ≡ [] → ⊥
from_some x xs ys is none = let e = sym none ∙ (sym is ∙ of_own x.from x xs refl) in cc

-- two lists of posts of one poster are the same where it posted the same
pub takes_with_same_posts : (n at poster : ℕ) (xs ys : List Post) → All (IsFromOther n at) xs → All (IsFromOther n at) ys
    → ((i : ℕ) → i < n → i ≢ at → posts_of i xs ≡ posts_of i ys) → ((i : ℕ) → i < n → i ≢ at → i ≢ poster → posts_of i xs ≡ []) → xs ≡ ys
takes_with_same_posts n at poster [] [] first second same one = refl
takes_with_same_posts n at poster [] (y ∷ ys) first second same one =
    let o = All-head (IsFromOther n at) y ys second in
    absurd (from_some y ys [] (sym (same y.from o.0 o.1)) refl)
takes_with_same_posts n at poster (x ∷ xs) [] first second same one =
    let o = All-head (IsFromOther n at) x xs first in
    absurd (from_some x xs [] (same x.from o.0 o.1) refl)
takes_with_same_posts n at poster (x ∷ xs) (y ∷ ys) first second same one =
    let o = All-head (IsFromOther n at) x xs first in
    let q = All-head (IsFromOther n at) y ys second in
    let x_is : x.from ≡ poster = elim (cases_eq x.from poster) [
      | inl e ↦ e
      | inr ne ↦ absurd (from_some x xs (posts_of x.from (x ∷ xs)) refl (one x.from o.0 o.1 ne))
    ] in
    let y_is : y.from ≡ poster = elim (cases_eq y.from poster) [
      | inl e ↦ e
      | inr ne ↦ absurd (from_some y ys (posts_of y.from (x ∷ xs)) (sym (same y.from q.0 q.1)) (one y.from q.0 q.1 ne))
    ] in
    let here : poster < n = subst (λ (k : ℕ). k < n) x_is o.0 in
    let away : poster ≢ at = subst (λ (k : ℕ). k ≢ at) x_is o.1 in
    let both : x ∷ posts_of poster xs ≡ y ∷ posts_of poster ys = sym (of_own poster x xs x_is) ∙ (same poster here away ∙ of_own poster y ys y_is) in
    let heads : x ≡ y = cc in
    let tails : posts_of poster xs ≡ posts_of poster ys = cc in
    let rest = takes_with_same_posts n at poster xs ys (All-tail (IsFromOther n at) x xs first) (All-tail (IsFromOther n at) y ys second)
    (λ i i_in ne. elim (cases_eq i poster) [
      | inl e ↦ subst (λ (k : ℕ). posts_of k xs ≡ posts_of k ys) (sym e) tails
      | inr apart ↦ sym (of_other i x xs (λ d. apart (sym d ∙ x_is))) ∙ (same i i_in ne ∙ of_other i y ys (λ d. apart (sym d ∙ y_is)))
    ])
    (λ i i_in ne apart. sym (of_other i x xs (λ d. apart (sym d ∙ x_is))) ∙ one i i_in ne apart) in
    ap (λ z. z ∷ xs) heads ∙ ap (λ l. y ∷ l) rest
