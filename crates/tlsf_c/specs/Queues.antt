-- The objects behind C's handles of a queue.
use Rattle.std.specs.Prelude.{◌≡◌, ℕ, ◌+◌, Bool, true, List, [], ◌∷◌, ◌++◌, map, Option, Some, None, is_some, All, ⊤}
use Rattle.tlsf_heap.specs.declared.name.Name.{Name}
use Rattle.tlsf_post.specs.Mailboxes.{put_by, out_of, most_of, got_by, IsAllTaken, IsWhole, KeepsOwner, KeepsPoster}
use Rattle.tlsf_post.specs.declared.post.Post.{Post}
use Rattle.tlsf_post.specs.declared.owner_end.OwnerEnd.{OwnerEnd}
use Rattle.tlsf_post.specs.declared.poster_end.PosterEnd.{PosterEnd}
use Rattle.tlsf_c.specs.Ends.{idle_poster, left_in_end, queue_of_end, poster_of_end, HasGiven, HasPut, WasFull}
use Rattle.tlsf_c.specs.Handles.{end_serves}
use Rattle.tlsf_c.specs.Serving.{OnKind}
use Rattle.tlsf_c.specs.declared.queue_end.QueueEnd.{QueueEnd}
use Rattle.tlsf_c.specs.declared.any_end.AnyEnd.{AnyEnd}
use Rattle.tlsf_c.specs.declared.end_slot.EndSlot.{EndSlot}

-- ---- the owner's end

abbrev pub owner_of_end : Option QueueEnd → Option OwnerEnd
owner_of_end None = None
owner_of_end (Some q) = Some q.owner

abbrev pub left_of : Option QueueEnd → List AnyEnd
left_of None = []
left_of (Some q) = left_in_end q

abbrev pub got_of : Option OwnerEnd → List Post
got_of None = []
got_of (Some o) = got_by o

-- the end of an open handle, if it is the owner's of a queue
abbrev pub queue_in : EndSlot → Option QueueEnd
queue_in h = queue_of_end h.inner.value

-- it is the owner's of a queue
abbrev pub holds_queue : EndSlot → Bool
holds_queue h = is_some (queue_in h)

-- the owner's end of an open handle
abbrev pub owner_in : EndSlot → Option OwnerEnd
owner_in h = owner_of_end (queue_in h)

-- a call on a handle that has to hold the owner's end of a queue. The handle serves again with that kind
abbrev pub OnQueue : EndSlot → EndSlot → ℕ → Type 0 → Type 0
OnQueue old new answer done = OnKind (end_serves old) (holds_queue old) old new answer ((end_serves new ≡ true) × (holds_queue new ≡ true) × done)

-- the posters' ends that nobody was given yet
abbrev pub left_in : EndSlot → List AnyEnd
left_in h = left_of (queue_in h)

-- the posts taken since the queue was opened
abbrev pub got_in : EndSlot → List Post
got_in h = got_of (owner_in h)

-- one more post was taken, and has that name
abbrev pub HasGot : OwnerEnd → OwnerEnd → Name → Type 0
HasGot old new name = (from : ℕ) × (got_by new ≡ got_by old ++ record { from = from; name = name } ∷ [])

abbrev pub Gets : Option OwnerEnd → Option OwnerEnd → Name → Type 0
Gets (Some old) (Some new) name = HasGot old new name
Gets (Some old) None name = ⊥
Gets None new name = ⊥

-- of each poster all was taken that was known to have been put
abbrev pub AllTaken : Option OwnerEnd → Type 0
AllTaken None = ⊤
AllTaken (Some o) = IsAllTaken o

-- it stays the owner's end of its queue
abbrev pub KeepsQueue : Option OwnerEnd → Option OwnerEnd → Type 0
KeepsQueue (Some old) (Some new) = KeepsOwner old new
KeepsQueue (Some old) None = ⊥
KeepsQueue None (Some new) = ⊥
KeepsQueue None None = ⊤

-- all ends of one new queue, by the number of its posters and the most names that it holds. Nothing was put or taken. No call is using one
abbrev pub IsNew : Option OwnerEnd → List AnyEnd → ℕ → ℕ → Type 0
IsNew None left posters capacity = ⊥
IsNew (Some o) left posters capacity = (ends : List PosterEnd) × (left ≡ map idle_poster ends) × IsWhole o ends × (out_of o ≡ posters + 1) × (most_of o ≡ capacity) × (got_by o ≡ []) × All (λ p. put_by p ≡ []) ends

-- ---- a poster's end

abbrev pub put_of : Option PosterEnd → List Post
put_of None = []
put_of (Some p) = put_by p

-- the end of an open handle, if it is a poster's
abbrev pub end_in : EndSlot → Option PosterEnd
end_in h = poster_of_end h.inner.value

-- it is a poster's
abbrev pub holds_poster : EndSlot → Bool
holds_poster h = is_some (end_in h)

-- a call on a handle that has to hold a poster's end. The handle serves again with that kind
abbrev pub OnPoster : EndSlot → EndSlot → ℕ → Type 0 → Type 0
OnPoster old new answer done = OnKind (end_serves old) (holds_poster old) old new answer ((end_serves new ≡ true) × (holds_poster new ≡ true) × done)

-- the posts put through it
abbrev pub put_in : EndSlot → List Post
put_in h = put_of (end_in h)

-- it stays an end of its queue, with its number
abbrev pub KeepsEnd : Option PosterEnd → Option PosterEnd → Type 0
KeepsEnd (Some old) (Some new) = KeepsPoster old new
KeepsEnd (Some old) None = ⊥
KeepsEnd None (Some new) = ⊥
KeepsEnd None None = ⊤

-- a post with that name stands after those put before, and waited as the last of no more than the queue holds
abbrev pub Puts : Option PosterEnd → Option PosterEnd → Name → Type 0
Puts (Some old) (Some new) name = HasPut old new name
Puts (Some old) None name = ⊥
Puts None new name = ⊥

-- as many posts waited as the queue holds
abbrev pub SawFull : Option PosterEnd → Type 0
SawFull None = ⊤
SawFull (Some p) = WasFull p

-- the last of the ends that were left is given
abbrev pub Gives : Option QueueEnd → Option QueueEnd → Option AnyEnd → Type 0
Gives (Some old) (Some new) (Some given) = HasGiven old new given
Gives (Some old) (Some new) None = ⊥
Gives (Some old) None given = ⊥
Gives None new given = ⊥
