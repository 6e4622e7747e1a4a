-- The answers and effects of the calls of one worker over lanes. This serves the contracts and proofs of private functions alone.
use Rattle.std.specs.Prelude.{◌≡◌, ◌≢◌, ◌⊎◌, ℕ, zero, suc, ◌+◌, ◌<◌, ◌≤◌, List, [], ◌∷◌, ◌++◌, length, take, slice_index, Option, Some, None, ◌==◌, if◌then◌else◌}
use Rattle.tlsf_crew.specs.Common.{fold, IsPrefix, Post, PostEnd, TakeEnd, posts_sent, free_slots, waited, taken, ready, HeapState, Name, Entry, Took, Call, Take, Drain, Reply, Taken, Empty, Drained, Refused, Full, Worker, Lanes}
use Rattle.tlsf_crew.specs.model.Heaps.{released}
use Rattle.tlsf_crew.specs.worker.Workers.{heap_of, id_of}
use Rattle.tlsf_crew.specs.lanes.LaneWorkers.{id_and_capacity, end_to, end_from, HasTake, KnowsYard}
use Rattle.tlsf_crew.specs.lanes.LaneCalls.{KeepsYards}
use Rattle.tlsf_crew.specs.model.Sums.{sum_below}
use Rattle.tlsf_crew.specs.scripts.EntryRoom.{AreLaneLimits, releases_of}
use Rattle.tlsf_crew.specs.scripts.Scripts.{Stage, Step, ScriptPromise, told_of}
use Rattle.tlsf_crew.specs.histories.History.{posts_made, posts_taken, StandsBehind}
use Rattle.tlsf_crew.specs.model.World.{World, made_by, called}
use Rattle.tlsf_crew.specs.model.Progress.{HasHeap, MayTell, Suits, told_by}

abbrev pub one : ℕ → Call → Reply → List Entry
one at call reply = record { worker = at; call = call; reply = reply } ∷ []

-- ---- what entries tell of the ends

-- the end to j sent the posts that the entries tell, and lost no more free slots
pub record PostEndMoved {sli : ℕ} (at : ℕ) (made : List (Option Name)) (v : Worker sli Lanes) (j : ℕ) (entries : List Entry) (p : PostEnd) : Type 0 where
  pub end : PostEnd
  pub end_is : end_to v j ≡ Some end
  pub sent : posts_sent end ≡ posts_sent p ++ posts_made at j made entries
  pub free : free_slots p ≤ free_slots end + length (posts_made at j made entries)

-- the end from i took the posts that the entries tell, those that were known to be ready first
pub record TakeEndMoved {sli : ℕ} (at : ℕ) (v : Worker sli Lanes) (i : ℕ) (entries : List Entry) (t : TakeEnd) : Type 0 where
  pub end : TakeEnd
  pub end_is : end_from v i ≡ Some end
  pub waited : waited end ≡ waited t
  pub taken : taken end ≡ taken t ++ posts_taken i at entries
  pub ready : IsPrefix (ready t) (posts_taken i at entries ++ ready end)

-- of the posts from i that were known to be ready, as many as may be taken were taken
abbrev pub Spent : {sli : ℕ} → Worker sli Lanes → List ℕ → ℕ → ℕ → List Entry → Type 0
Spent a limits at i entries = (t : TakeEnd) → end_from a i ≡ Some t → IsPrefix (take (slice_index limits i) (ready t)) (posts_taken i at entries)

-- worker a, of number `at`, has become v by these calls, as the entries tell. It might take this many posts from each other worker,
-- and may take the rest of them
pub record LaneMoved {sli : ℕ} (at : ℕ) (made : List (Option Name)) (a : Worker sli Lanes) (limits : List ℕ) (calls : List Call) (entries : List Entry) (v : Worker sli Lanes) (left : List ℕ) : Type 0 where
  pub yard : KeepsYards a v
  pub numbers : id_and_capacity v ≡ id_and_capacity a
  pub knows : (n : ℕ) → KnowsYard n a → KnowsYard n v
  pub sent : (j : ℕ) (p : PostEnd) → end_to a j ≡ Some p → PostEndMoved at made v j entries p
  pub taken : (i : ℕ) (t : TakeEnd) → end_from a i ≡ Some t → TakeEndMoved at v i entries t
  pub left_is : (i : ℕ) → slice_index left i + length (posts_taken i at entries) ≡ slice_index limits i
  pub full : (before : List Entry) (e : Entry) (name : Name) (p : PostEnd) → StandsBehind entries before e → e.reply ≡ Refused (Full name)
      → end_to a name.heap ≡ Some p → free_slots p ≤ length (posts_made at name.heap made before)
  pub empty : (before : List Entry) (e : Entry) (i : ℕ) → StandsBehind entries before e → e.call ≡ Take i → e.reply ≡ Empty → Spent a limits at i before
  pub drained : (before : List Entry) (e : Entry) (most k i : ℕ) → StandsBehind entries before e → e.call ≡ Drain most → e.reply ≡ Drained k → k < most
      → Spent a limits at i before
  pub few_posts : (j : ℕ) → length (posts_made at j made entries) ≤ releases_of calls
  pub few_entries : length entries ≤ length calls + sum_below 8 (λ i. length (posts_taken i at entries))

-- what the calls of a script tell over lanes
abbrev pub lane_promise : (sli : ℕ) → ScriptPromise sli Lanes
lane_promise sli = record { limited = AreLaneLimits; knows = KnowsYard; tells = MayTell sli; moves = LaneMoved }

-- ---- takes

-- the take of a post, as the heap answers it
abbrev pub took_by : HeapState → Post → Took
took_by h p = record { from = p.from; name = p.name; answer = (released h p.name).answer }

-- one post was taken, or no more might be
abbrev pub LaneTakenWithin : {sli : ℕ} → Worker sli Lanes → List ℕ → ℕ → Worker sli Lanes → List ℕ → Option Took → Type 0
LaneTakenWithin a limits from v left None =
    ((made : List (Option Name)) → LaneMoved (id_of a) made a limits [] [] v left) × (heap_of v ≡ heap_of a) × Spent a limits (id_of a) from []
LaneTakenWithin a limits from v left (Some took) =
    ((made : List (Option Name)) → LaneMoved (id_of a) made a limits [] (one (id_of a) (Take from) (Taken took)) v left)
    × (post : Post) × (took ≡ took_by (heap_of a) post) × (heap_of v ≡ (released (heap_of a) post.name).heap)

-- a drain under way, as its worker sees it
pub record WorkerDrain : Type 0 where
  pub entries : List Entry
  pub heap : HeapState
  pub taken : ℕ

abbrev pub took_post : ℕ → ℕ → WorkerDrain → Post → WorkerDrain
took_post at from d p = record {
  entries = d.entries ++ one at (Take from) (Taken (took_by d.heap p));
  heap = (released d.heap p.name).heap;
  taken = d.taken + 1;
}

-- these posts from one worker
abbrev pub took_posts : ℕ → ℕ → WorkerDrain → List Post → WorkerDrain
took_posts at from d posts = fold (took_post at from) d posts

-- the posts from each other worker below a number
abbrev pub took_each_lane : ℕ → (ℕ → List Post) → WorkerDrain → ℕ → WorkerDrain
took_each_lane at posts d zero = d
took_each_lane at posts d (suc from) = if from == at then took_each_lane at posts d from else took_posts at from (took_each_lane at posts d from) (posts from)

abbrev pub drain_at : {sli : ℕ} → Stage sli Lanes → ℕ → WorkerDrain
drain_at s taken = record { entries = s.entries; heap = heap_of s.worker; taken = taken }

-- takes from one lane, after any count of them from others
pub record LaneTaken {sli : ℕ} (s : Stage sli Lanes) (from : ℕ) (t : Stage sli Lanes) (count : ℕ) : Type 0 where
  pub own : List Entry
  pub entries_are : t.entries ≡ s.entries ++ own
  pub posts : List Post
  pub told : (n : ℕ) → drain_at t (n + count) ≡ took_posts (id_of s.worker) from (drain_at s n) posts
  pub here : posts_taken from (id_of s.worker) own ≡ posts
  pub others : (k : ℕ) → k ≢ from → posts_taken k (id_of s.worker) own ≡ []
  pub count_is : count ≡ length posts
  pub moved : (made : List (Option Name)) → LaneMoved (id_of s.worker) made s.worker s.limits [] own t.worker t.limits

-- a drain of one lane
pub record LaneSpent {sli : ℕ} (s : Stage sli Lanes) (from most : ℕ) (t : Stage sli Lanes) (count : ℕ) : Type 0 where
  pub takes : LaneTaken s from t count
  pub few : count ≤ most
  pub spent : count < most → Spent s.worker s.limits (id_of s.worker) from takes.own

-- takes from the lanes from the workers below a number
pub record EachLaneTaken {sli : ℕ} (s : Stage sli Lanes) (below : ℕ) (t : Stage sli Lanes) (count : ℕ) : Type 0 where
  pub own : List Entry
  pub entries_are : t.entries ≡ s.entries ++ own
  pub posts : ℕ → List Post
  pub told : drain_at t count ≡ took_each_lane (id_of s.worker) posts (drain_at s 0) below
  pub posts_are : (k : ℕ) → posts_taken k (id_of s.worker) own ≡ posts k
  pub only : (k : ℕ) → (k < below → ¬ (HasTake s.worker k)) → posts k ≡ []
  pub moved : (made : List (Option Name)) → LaneMoved (id_of s.worker) made s.worker s.limits [] own t.worker t.limits

-- a drain of those lanes
pub record EachLaneSpent {sli : ℕ} (s : Stage sli Lanes) (below most : ℕ) (t : Stage sli Lanes) (count : ℕ) : Type 0 where
  pub takes : EachLaneTaken s below t count
  pub few : count ≤ most
  pub spent : count < most → (i : ℕ) → i < below → Spent s.worker s.limits (id_of s.worker) i takes.own
  -- a lane was left for the next only where it was spent
  pub each : (k : ℕ) → k < below → k ≢ id_of s.worker → (sum_below (suc k) (λ i. length (takes.posts i)) ≡ most) ⊎ Spent s.worker s.limits (id_of s.worker) k takes.own

-- ---- any call

-- the worlds in which a drain may take the posts that these entries tell. This much waits in each lane, and no more where the drain
-- went on to the next
abbrev pub SuitsDrain : {sli : ℕ} → World sli → ℕ → ℕ → ℕ → List Entry → Type 0
SuitsDrain w n at most own = (k : ℕ) → k < n → k ≢ at
    → (rest : List Post) × (w.waiting k at ≡ posts_taken k at own ++ rest) × ((sum_below (suc k) (λ i. length (posts_taken i at own)) ≡ most) ⊎ (rest ≡ []))

-- those in which a call may be answered so
pub record SuitsCall {sli : ℕ} (w : World sli) (n at : ℕ) (made : List (Option Name)) (call : Call) (answer : Reply) (own : List Entry) : Type 0 where
  pub one : Suits w at made call answer
  pub drain : (most : ℕ) → call ≡ Drain most → SuitsDrain w n at most own

-- the call was answered so; the entries got longer by those of a drain, and have not its own yet
pub record LaneStepped {sli : ℕ} (n : ℕ) (s : Stage sli Lanes) (call : Call) (made : List (Option Name)) (t : Stage sli Lanes) (reply : Reply) : Type 0 where
  pub step : Step (lane_promise sli) n s call made t reply
  pub exact : (w : World sli) → HasHeap w n (id_of s.worker) (heap_of s.worker) → SuitsCall w n (id_of s.worker) made call reply step.own
      → told_by (id_of s.worker) (called (record { made = made; entries = s.entries; world = w }) (id_of s.worker) call)
      ≡ told_of (made ++ made_by reply ∷ []) (t.entries ++ one (id_of s.worker) call reply) (heap_of t.worker)
  pub single : ((most : ℕ) → call ≡ Drain most → ⊥) → step.own ≡ []
  pub each : (most : ℕ) → call ≡ Drain most → (k : ℕ) → k < n → k ≢ id_of s.worker
      → (sum_below (suc k) (λ i. length (posts_taken i (id_of s.worker) step.own)) ≡ most) ⊎ Spent s.worker s.limits (id_of s.worker) k step.own
