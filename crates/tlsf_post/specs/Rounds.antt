-- The ends after the steps of `mailbox` and `OwnerEnd::beside`. This serves the contracts and proofs of private functions alone.
use Rattle.std.specs.Prelude.{◌≡◌, ℕ, zero, suc, ◌+◌, ◌≤◌, List, [], ◌∷◌, ◌++◌, ◌==◌, if◌then◌else◌, map, length, All}
use Rattle.crossbeam_queue.specs.Passes.{Pass, view}
use Rattle.tlsf_post.specs.Rule.{posts_of, owner_view, AreOfPosters, IsIn}
use Rattle.tlsf_post.specs.Mailboxes.{number_of, put_by, gone_from, plan_of}
use Rattle.tlsf_post.specs.declared.post.Post.{Post}
use Rattle.tlsf_post.specs.declared.view.View.{View}
use Rattle.tlsf_post.specs.declared.poster_end.PosterEnd.{PosterEnd}

-- this many numbers, rising by one
abbrev pub run : ℕ → ℕ → List ℕ
run from zero = []
run from (suc count) = from ∷ run (suc from) count

-- the number after one, but that one
abbrev pub next_but : ℕ → ℕ → ℕ
next_but own from = if own == from + 1 then from + 2 else from + 1

-- an end of the queue that the pass is of
abbrev pub IsOfPass : Pass Post View → PosterEnd → Type 0
IsOfPass pass p = (p.pass.table_id ≡ pass.table_id) × (plan_of p ≡ (view pass).plan)

-- an end of that queue through which nothing was put
abbrev pub IsFreshAt : Pass Post View → PosterEnd → Type 0
IsFreshAt pass p = IsOfPass pass p × (put_by p ≡ [])

-- the owner's view and the posters' ends once all came back and went out again
pub record CameBack (v : View) (ps : List PosterEnd) (w : View) (qs : List PosterEnd) : Type 0 where
  pub same : w ≡ owner_view v.plan v.number w.put v.got
  pub numbers : map number_of qs ≡ map number_of ps
  pub lists : map put_by qs ≡ map put_by ps
  -- what is known is now what each poster has put
  pub known : All (λ q. posts_of (number_of q) w.put ≡ put_by q) qs
  -- of all others no more is known than before
  pub others : (p : ℕ) → IsIn v p → posts_of p w.put ≡ posts_of p v.put
  -- what was taken, and then what waits, is what was put
  pub items : List Post
  pub order : (p : ℕ) → posts_of p w.put ≡ posts_of p (v.got ++ items)
  pub few : (length items ≤ v.plan.capacity) × AreOfPosters v.plan items
  -- each poster knows what was taken of it
  pub gone : All (λ q. gone_from q ≡ posts_of (number_of q) v.got) qs
