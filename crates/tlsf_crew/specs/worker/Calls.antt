-- The answers and effects of a worker's own calls.
use Rattle.std.specs.Prelude.{◌≡◌, ◌≢◌, ℕ, ◌+◌, ◌≤◌, List, [], ◌∷◌, Option, Some, None, Result, Ok, Err}
use Rattle.tlsf_crew.specs.Common.{HeapState, released, Seen, Name, Refusal, Foreign, Post, CrewRefusal, Heap, Full, Stranger, Released, Took, Worker}
use Rattle.tlsf_heap.specs.Effects.{Releases}
use Rattle.tlsf_heap.specs.Footprint.{LeavesLive}
use Rattle.tlsf_heap.specs.InPlace.{IsRefusedAsRead}
use Rattle.tlsf_heap.specs.Touched.{FollowsNoForgery, release_touches}
use Rattle.tlsf_calls.specs.declared.released.Released.TheVariants.{Freed, Posted}
use Rattle.tlsf_crew.specs.worker.Workers.{heap_of, id_of, seen_of, shown_of, SameButHeap, SameButPorts}

-- the heap's answer as the worker's
abbrev pub by_heap : {A : Type 0} → Result A Refusal → Result A CrewRefusal
by_heap (Ok x) = Ok x
by_heap (Err why) = Err (Heap why)

-- a call with this name is refused as the heap refuses a read of no bytes of its payload
abbrev pub IsRefusedByHeap : {R : Type 0} → HeapState → Name → Result R CrewRefusal → Type 0
IsRefusedByHeap {R} h name answer = (by : Result R Refusal) × IsRefusedAsRead h name by × (answer ≡ by_heap by)

-- a call hands out the payload of a name's block where it stands. It makes at most four touches of the heap's memory, none of a live
-- block's payload, and follows no forged name
pub record HandsOut {R : Type 0} (old new : Seen) (name : Name) (answer : Result R CrewRefusal) : Type 0 where
  pub answer_is : IsRefusedByHeap old.heap name answer
  pub touches : new.touches ≤ old.touches + 4
  pub touches_rise : old.touches ≤ new.touches
  pub leaves : LeavesLive old.heap.blocks old.touched new.touched
  pub forged : FollowsNoForgery old new name

abbrev pub freed_by : Result (Unit {0}) Refusal → Result Released CrewRefusal
freed_by (Ok done) = Ok Freed
freed_by (Err why) = Err (Heap why)

-- what a post of that name answers whose port answered so
abbrev pub put_answer : {X : Type 0} → Name → Result (Unit {0}) X → Result (Unit {0}) CrewRefusal
put_answer name (Ok done) = Ok done
put_answer name (Err back) = Err (Full name)

-- what a release answers whose post was answered so
abbrev pub posted_as : Result (Unit {0}) CrewRefusal → Result Released CrewRefusal
posted_as (Ok done) = Ok Posted
posted_as (Err why) = Err why

-- the own block of that name was released
pub record ReleasedHere {sli : ℕ} {P : Type 0} (a v : Worker sli P) (name : Name) (answer : Result Released CrewRefusal) : Type 0 where
  pub answer_is : answer ≡ freed_by (released (heap_of a) name).answer
  pub releases : Releases release_touches (seen_of a) (seen_of v) name (released (heap_of a) name).answer
  pub same : SameButHeap a v

-- the name was put through the port to the worker of its heap, by what such a put may leave and answer
pub record PostedThere {sli : ℕ} {P : Type 0} (puts : ℕ → P → P → Name → Result (Unit {0}) CrewRefusal → Type 0) (a v : Worker sli P) (name : Name) (answer : Result (Unit {0}) CrewRefusal) : Type 0 where
  pub through : puts (id_of a) a.ports v.ports name answer
  pub same : SameButPorts a v

pub record ReleasedThere {sli : ℕ} {P : Type 0} (puts : ℕ → P → P → Name → Result (Unit {0}) CrewRefusal → Type 0) (a v : Worker sli P) (name : Name) (answer : Result Released CrewRefusal) : Type 0 where
  pub posted : Result (Unit {0}) CrewRefusal
  pub post : PostedThere puts a v name posted
  pub answer_is : answer ≡ posted_as posted

-- a post of that name, unread: one of the own heap is refused as Foreign, and one of no other worker's heap as a Stranger
pub record Posts {sli : ℕ} {P : Type 0} (reaches : P → ℕ → Type 0) (puts : ℕ → P → P → Name → Result (Unit {0}) CrewRefusal → Type 0) (a v : Worker sli P) (name : Name) (answer : Result (Unit {0}) CrewRefusal) : Type 0 where
  pub own : name.heap ≡ id_of a → (answer ≡ Err (Heap Foreign)) × (v ≡ a)
  pub there : name.heap ≢ id_of a → reaches a.ports name.heap → PostedThere puts a v name answer
  pub nowhere : name.heap ≢ id_of a → ¬ (reaches a.ports name.heap) → (answer ≡ Err Stranger) × (v ≡ a)
  pub heap : shown_of v ≡ shown_of a

-- a release of that name, or a post where it is of another worker's heap
pub record ReleasesOrPosts {sli : ℕ} {P : Type 0} (reaches : P → ℕ → Type 0) (puts : ℕ → P → P → Name → Result (Unit {0}) CrewRefusal → Type 0) (a v : Worker sli P) (name : Name) (answer : Result Released CrewRefusal) : Type 0 where
  pub here : name.heap ≡ id_of a → ReleasedHere a v name answer
  pub there : name.heap ≢ id_of a → reaches a.ports name.heap → ReleasedThere puts a v name answer
  pub nowhere : name.heap ≢ id_of a → ¬ (reaches a.ports name.heap) → (answer ≡ Err Stranger) × (v ≡ a)

-- ---- takes

-- after a take the post's block is released on the own heap
abbrev pub AfterTake : {sli : ℕ} {P : Type 0} → Worker sli P → Worker sli P → Option Post → Option Took → Type 0
AfterTake a v None answer = (answer ≡ None) × (v ≡ a)
AfterTake a v (Some post) answer =
    (answer ≡ Some (record { from = post.from; name = post.name; answer = (released (heap_of a) post.name).answer }))
    × Releases release_touches (seen_of a) (seen_of v) post.name (released (heap_of a) post.name).answer × SameButHeap a v

-- a source of posts, by its number, was asked for its next one, by what such a take may leave and answer
pub record TakenFrom {sli : ℕ} {P : Type 0} (takes : P → P → ℕ → Option Post → Type 0) (a v : Worker sli P) (source : ℕ) (answer : Option Took) : Type 0 where
  pub between : Worker sli P
  pub post : Option Post
  pub took : SameButPorts a between × takes a.ports between.ports source post
  pub then : AfterTake between v post answer

-- worker a becomes worker v by takes from one source, which answered these one after another
abbrev pub TakesInTurn : {sli : ℕ} {P : Type 0} → (P → P → ℕ → Option Post → Type 0) → Worker sli P → Worker sli P → ℕ → List Took → Type 0
TakesInTurn {sli} {P} takes a v source [] = v ≡ a
TakesInTurn {sli} {P} takes a v source (took ∷ tooks) =
    (b : Worker sli P) × TakenFrom takes a b source (Some took) × TakesInTurn takes b v source tooks
