-- The ends of lanes and queues that C's handles hold.
use Rattle.std.specs.Prelude.{◌≡◌, Bool, true, false, Option, Some, None, is_some, All, List, [], ◌∷◌, ◌++◌, map, length}
use Rattle.tlsf_heap.specs.declared.name.Name.{Name}
use Rattle.tlsf_post.specs.Mailboxes.{KeepsOwner, put_by, number_of, plan_of, PosterSaw}
use Rattle.tlsf_post.specs.declared.post.Post.{Post}
use Rattle.tlsf_post.specs.declared.post_end.PostEnd.{PostEnd}
use Rattle.tlsf_post.specs.declared.take_end.TakeEnd.{TakeEnd}
use Rattle.tlsf_post.specs.declared.poster_end.PosterEnd.{PosterEnd}
use Rattle.tlsf_c.specs.declared.any_end.AnyEnd.{AnyEnd, AnyEnd-F as KindsOf, out-AnyEnd as as_kind}
use Rattle.tlsf_c.specs.declared.any_end.AnyEnd.TheOpen as end
use Rattle.tlsf_c.specs.declared.any_end.AnyEnd.TheVariants as any
use Rattle.tlsf_c.specs.declared.any_end.AnyEnd.TheVariants.{Poster}
use Rattle.tlsf_c.specs.declared.queue_end.QueueEnd.{QueueEnd}

-- ---- which kind of end it is

-- an end as one of its kinds
abbrev pub Kinds : Type 0
Kinds = KindsOf AnyEnd QueueEnd

abbrev pub post_kind : Kinds → Option PostEnd
post_kind (end.Post idle p) = Some p
post_kind (end.Take idle t) = None
post_kind (end.Queue idle q) = None
post_kind (end.Poster idle p) = None

abbrev pub take_kind : Kinds → Option TakeEnd
take_kind (end.Post idle p) = None
take_kind (end.Take idle t) = Some t
take_kind (end.Queue idle q) = None
take_kind (end.Poster idle p) = None

abbrev pub queue_kind : Kinds → Option QueueEnd
queue_kind (end.Post idle p) = None
queue_kind (end.Take idle t) = None
queue_kind (end.Queue idle q) = Some q
queue_kind (end.Poster idle p) = None

abbrev pub poster_kind : Kinds → Option PosterEnd
poster_kind (end.Post idle p) = None
poster_kind (end.Take idle t) = None
poster_kind (end.Queue idle q) = None
poster_kind (end.Poster idle p) = Some p

abbrev pub idle_kind : Kinds → Bool
idle_kind (end.Post idle p) = idle
idle_kind (end.Take idle t) = idle
idle_kind (end.Queue idle q) = idle
idle_kind (end.Poster idle p) = idle

-- no call is using it
abbrev pub is_idle : Option AnyEnd → Bool
is_idle None = true
is_idle (Some e) = idle_kind (as_kind e)

-- the same end, whose note says this of whether no call is using it
abbrev pub kind_with_idle : Bool → Kinds → AnyEnd
kind_with_idle idle (end.Post was p) = any.Post idle p
kind_with_idle idle (end.Take was t) = any.Take idle t
kind_with_idle idle (end.Queue was q) = any.Queue idle q
kind_with_idle idle (end.Poster was p) = any.Poster idle p

abbrev pub with_idle : Bool → Option AnyEnd → Option AnyEnd
with_idle idle None = None
with_idle idle (Some e) = Some (kind_with_idle idle (as_kind e))

-- the end of a lane that puts names in, if it is one
abbrev pub post_of_end : Option AnyEnd → Option PostEnd
post_of_end None = None
post_of_end (Some e) = post_kind (as_kind e)

-- the one that takes names out, if it is one
abbrev pub take_of_end : Option AnyEnd → Option TakeEnd
take_of_end None = None
take_of_end (Some e) = take_kind (as_kind e)

-- the owner's end of a queue, if it is one
abbrev pub queue_of_end : Option AnyEnd → Option QueueEnd
queue_of_end None = None
queue_of_end (Some e) = queue_kind (as_kind e)

-- a poster's end of a queue, if it is one
abbrev pub poster_of_end : Option AnyEnd → Option PosterEnd
poster_of_end None = None
poster_of_end (Some e) = poster_kind (as_kind e)

-- ---- queues

-- the posters' ends that nobody was given yet
abbrev pub left_in_end : QueueEnd → List AnyEnd
left_in_end q = map (λ b. b.value) q.left.items

-- the owner's end of its queue stays, and so do the ends that nobody was given yet
abbrev pub StaysOwner : QueueEnd → QueueEnd → Type 0
StaysOwner old new = KeepsOwner old.owner new.owner × (left_in_end new ≡ left_in_end old)

-- a poster's, that no call is using
abbrev pub idle_poster : PosterEnd → AnyEnd
idle_poster p = Poster true p

-- it is a poster's, and no call is using it
abbrev pub IsIdlePoster : AnyEnd → Type 0
IsIdlePoster e = (is_some (poster_of_end (Some e)) ≡ true) × (is_idle (Some e) ≡ true)

-- the last of the ends that were left is given. Where all that were left are idle posters', so is it, and so are those that are left then
pub record HasGiven (old new : QueueEnd) (given : AnyEnd) : Type 0 where
  pub last : left_in_end old ≡ left_in_end new ++ given ∷ []
  pub posters : All IsIdlePoster (left_in_end old) → All IsIdlePoster (left_in_end new) × IsIdlePoster given

-- what a poster posts of a name
abbrev pub post_by : PosterEnd → Name → Post
post_by p name = record { from = number_of p; name = name }

-- a post with that name stands after those put before, and waited as the last of no more than the queue holds
abbrev pub HasPut : PosterEnd → PosterEnd → Name → Type 0
HasPut old new name = (put_by new ≡ put_by old ++ post_by old name ∷ []) × (others : List Post) × PosterSaw new (others ++ post_by old name ∷ [])

-- as many posts waited as the queue holds, this end's as the last that it had put
abbrev pub WasFull : PosterEnd → Type 0
WasFull p = (waiting : List Post) × (length waiting ≡ (plan_of p).capacity) × PosterSaw p waiting
