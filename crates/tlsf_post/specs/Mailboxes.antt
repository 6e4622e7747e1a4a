-- The ends of a mailbox, as a contract sees them.
use Rattle.std.specs.Prelude.{◌≡◌, ℕ, zero, suc, ◌+◌, ◌≤◌, List, [], ◌∷◌, ◌++◌, ◌==◌, if◌then◌else◌, map, length, All}
use Rattle.std.specs.Arc.{arc_value}
use mathlib.Core.List.{IsPrefix}
use Rattle.crossbeam_queue.specs.Passes.{view, ruled_capacity}
use Rattle.tlsf_words.specs.Memory.{Extent}
use Rattle.tlsf_post.specs.Rule.{posts_of, plan_for, AreOfPosters}
use Rattle.tlsf_post.specs.declared.post.Post.{Post}
use Rattle.tlsf_post.specs.declared.plan.Plan.{Plan}
use Rattle.tlsf_post.specs.declared.poster_end.PosterEnd.{PosterEnd}
use Rattle.tlsf_post.specs.declared.owner_end.OwnerEnd.{OwnerEnd}

-- ---- what an end shows

-- the number of the worker that posts through the end
abbrev pub number_of : PosterEnd → ℕ
number_of p = p.from

-- all that was ever put through the end
abbrev pub put_by : PosterEnd → List Post
put_by p = (view p.pass).put

-- what it knows to have been taken of that: all that was taken up to the last `beside`
abbrev pub gone_from : PosterEnd → List Post
gone_from p = (view p.pass).got

-- whose mailbox it puts into, of how many workers, and how many posts that holds
abbrev pub plan_of : PosterEnd → Plan
plan_of p = (view p.pass).plan

-- the number of the worker that takes through the end
abbrev pub owner_of : OwnerEnd → ℕ
owner_of o = o.number

-- the mailbox has an end for each number below this one but the owner's
abbrev pub out_of : OwnerEnd → ℕ
out_of o = (view o.pass).number

-- all that was ever taken through the end
abbrev pub got_by : OwnerEnd → List Post
got_by o = (view o.pass).got

-- what the owner knows to have been put: all that was put up to the last `beside`
abbrev pub known_to : OwnerEnd → List Post
known_to o = (view o.pass).put

-- how many posts wait in the mailbox at most
abbrev pub most_of : OwnerEnd → ℕ
most_of o = ruled_capacity (arc_value o.queue)

-- where the posts of its mailbox lie, and how many have room there
abbrev pub poster_extent : PosterEnd → Extent
poster_extent p = record { address = (arc_value p.queue).table.shared.slots; capacity = ruled_capacity (arc_value p.queue) }

abbrev pub owner_extent : OwnerEnd → Extent
owner_extent o = record { address = (arc_value o.queue).table.shared.slots; capacity = ruled_capacity (arc_value o.queue) }

-- what its mailbox is laid out for
abbrev pub plan_at : OwnerEnd → Plan
plan_at o = plan_for (owner_of o) (out_of o) (most_of o)

-- of each poster all was taken that the owner knows to have been put
abbrev pub IsAllTaken : OwnerEnd → Type 0
IsAllTaken o = (p : ℕ) → IsPrefix (posts_of p (known_to o)) (posts_of p (got_by o))

-- ---- what waited

-- what the end can say of the posts that waited at one moment: no more than the mailbox holds, each of a poster of it. Those of the
-- end are the last that it has put. All that it has put before them was taken, and that begins with the posts that it knew to be
pub record PosterSaw (p : PosterEnd) (waiting : List Post) : Type 0 where
  pub few : length waiting ≤ (plan_of p).capacity
  pub from : AreOfPosters (plan_of p) waiting
  pub taken : List Post
  pub own : put_by p ≡ taken ++ posts_of (number_of p) waiting
  pub known : IsPrefix (gone_from p) taken

-- nobody else puts into the mailbox
abbrev pub IsOnlyPoster : PosterEnd → Type 0
IsOnlyPoster p = (plan_of p).workers ≡ 2

-- besides those that it knows to have been taken, the end has put as many posts as the mailbox holds
abbrev pub HasFilled : PosterEnd → Type 0
HasFilled p = length (gone_from p) + (plan_of p).capacity ≤ length (put_by p)

-- what the owner can say of them: no more than the mailbox holds, each of a poster of it. Of each poster, what was taken and
-- then they begin with what the owner knows to have been put
pub record OwnerSaw (o : OwnerEnd) (waiting : List Post) : Type 0 where
  pub few : length waiting ≤ most_of o
  pub from : AreOfPosters (plan_at o) waiting
  pub known : (p : ℕ) → IsPrefix (posts_of p (known_to o)) (posts_of p (got_by o ++ waiting))

-- ---- ends that fit each other

-- the two are ends of one mailbox
abbrev pub IsMailbox : OwnerEnd → PosterEnd → Type 0
IsMailbox o p = (p.pass.table_id ≡ o.pass.table_id) × (plan_of p ≡ plan_at o)

-- the numbers below k but one, rising
abbrev pub below_but : ℕ → ℕ → List ℕ
below_but own zero = []
below_but own (suc k) = if k == own then below_but own k else below_but own k ++ k ∷ []

-- all ends of one mailbox, those that put in rising number
abbrev pub IsWhole : OwnerEnd → List PosterEnd → Type 0
IsWhole o ps = All (IsMailbox o) ps × (map number_of ps ≡ below_but (owner_of o) (out_of o))

-- ---- what a call changes

-- the new end is of the old one's mailbox, with its number, and knows as much to have been taken
abbrev pub KeepsPoster : PosterEnd → PosterEnd → Type 0
KeepsPoster old new =
    (new.pass.table_id ≡ old.pass.table_id) × (number_of new ≡ number_of old) × (plan_of new ≡ plan_of old) × (gone_from new ≡ gone_from old)

-- the new end is of the old one's mailbox, with its numbers, and knows as much to have been put
abbrev pub KeepsOwner : OwnerEnd → OwnerEnd → Type 0
KeepsOwner old new =
    (new.pass.table_id ≡ old.pass.table_id) × (owner_of new ≡ owner_of old) × (out_of new ≡ out_of old) × (most_of new ≡ most_of old)
    × (known_to new ≡ known_to old)

-- all ends of a mailbox once they were side by side
pub record AllBeside (o : OwnerEnd) (ps : List PosterEnd) (n : OwnerEnd) (qs : List PosterEnd) : Type 0 where
  pub whole : IsWhole n qs
  pub owner : (owner_of n ≡ owner_of o) × (out_of n ≡ out_of o) × (most_of n ≡ most_of o)
  -- nothing was put, and nothing taken
  pub numbers : map number_of qs ≡ map number_of ps
  pub put : map put_by qs ≡ map put_by ps
  pub got : got_by n ≡ got_by o
  -- the owner knows what each has put
  pub known : All (λ q. posts_of (number_of q) (known_to n) ≡ put_by q) qs
  -- and that is, of each, what was taken and then what waits
  pub order : (waiting : List Post) × OwnerSaw n waiting × ((p : ℕ) → posts_of p (known_to n) ≡ posts_of p (got_by n ++ waiting))
  -- each knows what was taken of it
  pub gone : All (λ q. gone_from q ≡ posts_of (number_of q) (got_by n)) qs
