-- The two ends of a lane, as a contract sees them.
use Rattle.std.specs.Prelude.{◌≡◌, ℕ, ◌-◌, List, ◌++◌, length, drop}
use Rattle.rtrb.specs.Ring.{sent, received, known_free, known_items, producer_capacity, consumer_capacity, IsPair}
use Rattle.tlsf_words.specs.Memory.{Extent}
use Rattle.tlsf_post.specs.declared.post.Post.{Post}
use Rattle.tlsf_post.specs.declared.post_end.PostEnd.{PostEnd}
use Rattle.tlsf_post.specs.declared.take_end.TakeEnd.{TakeEnd}

-- the posts sent since the last `beside`
unfoldable pub posts_sent : PostEnd → List Post
posts_sent p = drop (length (sent p.mark.value)) (sent p.ring)

-- how many slots it knows to be free: those of the last `beside`, less one for each post sent since
unfoldable pub free_slots : PostEnd → ℕ
free_slots p = known_free p.mark.value - length (posts_sent p)

-- how many posts its lane holds at most
unfoldable pub capacity_of : PostEnd → ℕ
capacity_of p = producer_capacity p.ring

-- the posts that waited at the last `beside`
unfoldable pub waited : TakeEnd → List Post
waited t = known_items t.mark.value

-- those taken since
unfoldable pub taken : TakeEnd → List Post
taken t = drop (length (received t.mark.value)) (received t.ring)

-- those that it knows to be ready, which the next takes answer
unfoldable pub ready : TakeEnd → List Post
ready t = known_items t.ring

-- where the posts of its lane lie, and how many have room there
abbrev pub post_extent : PostEnd → Extent
post_extent p = record { address = p.ring.end.slots; capacity = producer_capacity p.ring }

abbrev pub take_extent : TakeEnd → Extent
take_extent t = record { address = t.ring.end.slots; capacity = consumer_capacity t.ring }

-- the two fit each other as the ends of one lane do. They are the ends of one ring, and at the last `beside` all that was sent was
-- taken or waited
unfoldable pub IsLane : PostEnd → TakeEnd → Type 0
IsLane p t = IsPair p.ring t.ring × (received t.mark.value ++ waited t ≡ sent p.mark.value)

-- the new post end has the old one's capacity, and is an end of each lane that the old one was an end of
abbrev pub KeepsPost : PostEnd → PostEnd → Type 0
KeepsPost old new = (capacity_of new ≡ capacity_of old) × ((t : TakeEnd) → IsLane old t → IsLane new t)

-- the new take end is an end of each lane that the old one was an end of
abbrev pub KeepsTake : TakeEnd → TakeEnd → Type 0
KeepsTake old new = (p : PostEnd) → IsLane p old → IsLane p new
