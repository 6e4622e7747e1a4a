-- The heap as posts are drained, and which payloads that touches.
use Rattle.std.specs.Prelude.{◌≡◌, ℕ, Bool, true, false, ◌+◌, ◌*◌, ◌<◌, ◌≤◌, List, fold, length}
use Rattle.std.specs.List.{AllByRecursion}
use Rattle.tlsf_words.specs.Touched.{times}
use Rattle.tlsf_heap.specs.Blocks.{Block, HeapState}
use Rattle.tlsf_heap.specs.Calls.{released}
use Rattle.tlsf_heap.specs.Footprint.{IsOthersWord}
use Rattle.tlsf_heap.specs.Shown.{Seen}
use Rattle.tlsf_heap.specs.Touched.{release_touches}
use Rattle.tlsf_post.specs.declared.post.Post.{Post}
use Rattle.tlsf_c.specs.Counting.{recounted}
use Rattle.tlsf_c.specs.Handles.{StaysOpen, counts_in, end_serves, heap_in, serves, touched_in, touches_in}
use Rattle.tlsf_c.specs.Refusals.{closed, other_kind}
use Rattle.tlsf_c.specs.declared.end_slot.EndSlot.{EndSlot}
use Rattle.tlsf_c.specs.declared.heap_slot.HeapSlot.{HeapSlot}

-- the heap once the block of each post is released, in their order; a refusal leaves it as it is
abbrev pub drained : HeapState → List Post → HeapState
drained h posts = fold (λ h post. (released h post.name).heap) h posts

-- no word of the payload of a live block was read or written but of those that posts name
abbrev pub LeavesUnnamed : List Block → List Post → List ℕ → List ℕ → Type 0
LeavesUnnamed blocks posts old new = (k : ℕ) → AllByRecursion (λ p. IsOthersWord blocks p.name.at k) posts → times new k ≡ times old k

-- the blocks of these posts are released, in their order, whatever the heap answers
pub record ReleasesAll (old new : Seen) (posts : List Post) : Type 0 where
  pub heap : new.heap ≡ drained old.heap posts
  pub touches : new.touches ≤ old.touches + release_touches * length posts
  pub rise : old.touches ≤ new.touches
  pub leaves : LeavesUnnamed old.heap.blocks posts old.touched new.touched

-- what that does to an open handle
pub record Drains (old new : HeapSlot) (posts : List Post) : Type 0 where
  pub stays : StaysOpen old new
  pub drained : heap_in new ≡ drained (heap_in old) posts
  pub no_counts : length posts ≡ 0 → counts_in new ≡ counts_in old
  pub counts : 0 < length posts → counts_in new ≡ recounted (counts_in old) (heap_in new)
  pub touches : touches_in new ≤ touches_in old + release_touches * length posts
  pub leaves : LeavesUnnamed (heap_in old).blocks posts (touched_in old) (touched_in new)

-- a call that drains has two handles, which both have to serve, and the second to hold one kind of end. Else it is refused, as Closed
-- or as OtherKind, and the handles stay as they are. Where they serve, they serve again, and this was done with the posts that came
pub record DrainsEnd (heap new_heap : HeapSlot) (end new_end : EndSlot) (holds : EndSlot → Bool) (answer : ℕ) (done : List Post → Type 0) : Type 0 where
  pub heap_closed : serves heap ≡ false → answer ≡ closed
  pub end_closed : end_serves end ≡ false → answer ≡ closed
  pub other : serves heap ≡ true → end_serves end ≡ true → holds end ≡ false → answer ≡ other_kind
  pub refused : ¬ (answer ≡ 0) → (new_heap ≡ heap) × (new_end ≡ end)
  pub does : serves heap ≡ true → end_serves end ≡ true → holds end ≡ true → (answer ≡ 0) × (end_serves new_end ≡ true) × (holds new_end ≡ true)
  pub drained : answer ≡ 0 → (posts : List Post) × done posts × Drains heap new_heap posts
