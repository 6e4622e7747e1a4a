-- Facts that the parts of a race over lanes give one another. This serves the contracts and proofs of private functions alone.
use Rattle.std.specs.Prelude.{◌≡◌, ℕ, ◌+◌, ◌<◌, ◌≤◌, List, [], ◌∷◌, ◌++◌, length, slice_get, Option, Some, None, vec_len, vec_capacity}
use Rattle.tlsf_crew.specs.Common.{Vec, Global, Name, Entry, Call, record_of, IsPrefix, PostEnd, TakeEnd, posts_sent, free_slots, waited, taken, ready, Take, Drain, Empty, Drained, Refused, Full, Worker, Lanes}
use Rattle.tlsf_crew.specs.lanes.Yard.{IsYard, heap_of_worker, capacity_in, waits_in}
use Rattle.tlsf_crew.specs.model.Sums.{sum_below}
use Rattle.tlsf_crew.specs.lanes.Ready.{ready_from}
use Rattle.tlsf_crew.specs.scripts.EntryRoom.{releases_of}
use Rattle.tlsf_crew.specs.histories.History.{IsDrain, posts_taken, posts_made, StandsBehind}
use Rattle.tlsf_crew.specs.scripts.Scripts.{last_call, script_of}
use Rattle.tlsf_crew.specs.model.Progress.{MayTell, untold, MayTellAll}
use Rattle.tlsf_crew.specs.worker.Workers.{heap_of, id_of}
use Rattle.tlsf_crew.specs.lanes.LaneWorkers.{id_and_capacity, end_to, end_from}
use Rattle.tlsf_crew.specs.lanes.LaneCalls.{KeepsYards}

-- the end to j sent the posts that the entries tell
pub record PostEndRan {sli : ℕ} (a v : Worker sli Lanes) (j : ℕ) (made : List (Option Name)) (entries : List Entry) (p : PostEnd) : Type 0 where
  pub end : PostEnd
  pub end_is : end_to v j ≡ Some end
  pub sent : posts_sent end ≡ posts_sent p ++ posts_made (id_of a) j made entries

-- the end from i took the posts that the entries tell
pub record TakeEndRan {sli : ℕ} (a v : Worker sli Lanes) (i : ℕ) (entries : List Entry) (t : TakeEnd) : Type 0 where
  pub end : TakeEnd
  pub end_is : end_from v i ≡ Some end
  pub waited : waited end ≡ waited t
  pub taken : taken end ≡ taken t ++ posts_taken i (id_of a) entries

-- worker v is a after the calls of a script
pub record LaneWorkerRan {sli : ℕ} (n : ℕ) (a : Worker sli Lanes) (script : List Call) (made : List (Option Name)) (entries : List Entry) (v : Worker sli Lanes) : Type 0 where
  pub told : MayTellAll sli n (id_of a) (untold (heap_of a)) script (record { made = made; entries = entries; heap = heap_of v })
  pub yard : KeepsYards a v
  pub numbers : id_and_capacity v ≡ id_and_capacity a
  pub sent : (j : ℕ) (p : PostEnd) → end_to a j ≡ Some p → PostEndRan a v j made entries p
  pub taken : (i : ℕ) (t : TakeEnd) → end_from a i ≡ Some t → TakeEndRan a v i entries t
  -- Full came only where no free slot was known any more
  pub full : (before : List Entry) (e : Entry) (name : Name) (p : PostEnd) → StandsBehind entries before e → e.reply ≡ Refused (Full name)
      → end_to a name.heap ≡ Some p → free_slots p ≤ length (posts_made (id_of a) name.heap made before)
  -- Empty and the early end of a drain came only where all that was known to be ready was taken
  pub empty : (before : List Entry) (e : Entry) (i : ℕ) (t : TakeEnd) → StandsBehind entries before e → e.call ≡ Take i → e.reply ≡ Empty
      → end_from a i ≡ Some t → IsPrefix (ready t) (posts_taken i (id_of a) before)
  pub drained : (before : List Entry) (e : Entry) (most k i : ℕ) (t : TakeEnd) → StandsBehind entries before e → e.call ≡ Drain most → e.reply ≡ Drained k → k < most
      → end_from a i ≡ Some t → IsPrefix (ready t) (posts_taken i (id_of a) before)
  -- how many there are
  pub few_posts : (j : ℕ) → length (posts_made (id_of a) j made entries) ≤ releases_of script
  pub few_entries : length entries ≤ length script + sum_below 8 (λ i. length (posts_taken i (id_of a) entries))

-- the workers ws ran the scripts and became the workers vs
pub record EachLaneWorkerRan {sli : ℕ} (ws : List (Worker sli Lanes)) (scripts : List (List Call)) (records : List (List Entry)) (vs : List (Worker sli Lanes)) : Type 0 where
  pub made : ℕ → List (Option Name)
  pub worker_count : length vs ≡ length ws
  pub record_count : length records ≡ length ws
  pub yard : IsYard vs
  pub ran : (j : ℕ) (a : Worker sli Lanes) → slice_get ws j ≡ Some a
      → (v : Worker sli Lanes) × (slice_get vs j ≡ Some v) × LaneWorkerRan (length ws) a (script_of scripts j) (made j) (record_of records j) v

-- each record has room for the calls of the script, for each post that may be taken, and for the last drain
abbrev pub HaveRooms : {sli : ℕ} → List (Worker sli Lanes) → List (List Call) → List (Vec Entry Global) → Type 0
HaveRooms {sli} ws scripts records = (j : ℕ) (a : Worker sli Lanes) (r : Vec Entry Global) → slice_get ws j ≡ Some a → slice_get records j ≡ Some r
    → vec_capacity r ≡ length (script_of scripts j) + sum_below 8 (λ i. ready_from a i + releases_of (script_of scripts i)) + 1

-- each record of the later ones has the room that it had
abbrev pub KeepRooms : List (Vec Entry Global) → List (Vec Entry Global) → Type 0
KeepRooms rs ss = (k : ℕ) (s : Vec Entry Global) → slice_get ss k ≡ Some s → (r : Vec Entry Global) × (slice_get rs k ≡ Some r) × (vec_capacity s ≡ vec_capacity r)

-- a record has room for all that waits for worker j, and for one entry more
abbrev pub HasLastRoom : {sli : ℕ} → List (Worker sli Lanes) → ℕ → Vec Entry Global → Type 0
HasLastRoom ws j r = vec_len r + sum_below 8 (λ i. length (waits_in ws i j)) + 1 ≤ vec_capacity r

abbrev pub EachHasLastRoom : {sli : ℕ} → List (Worker sli Lanes) → List (Vec Entry Global) → Type 0
EachHasLastRoom ws records = (j : ℕ) (r : Vec Entry Global) → slice_get records j ≡ Some r → HasLastRoom ws j r

-- no more posts wait for worker j in a lane than any lane holds
abbrev pub HasFew : {sli : ℕ} → List (Worker sli Lanes) → ℕ → Type 0
HasFew ws j = (i : ℕ) → length (waits_in ws i j) ≤ 1024

-- worker j took all that waited for it, and was told so after the earlier entries
pub record LastTold {sli : ℕ} (ws vs : List (Worker sli Lanes)) (j : ℕ) (before after : List Entry) : Type 0 where
  pub own : List Entry
  pub entries : after ≡ before ++ own
  pub is_drain : IsDrain j 8192 own
  pub posts : (i : ℕ) → posts_taken i j own ≡ waits_in ws i j
  pub told : (made : List (Option Name)) → MayTell sli (length ws) j (record { made = made; entries = before; heap = heap_of_worker ws j }) last_call
      (record { made = made ++ None ∷ []; entries = after; heap = heap_of_worker vs j })

-- so did each worker below k; the others are as they were
pub record EachLastDrained {sli : ℕ} (ws : List (Worker sli Lanes)) (rs ss : List (List Entry)) (vs : List (Worker sli Lanes)) (k : ℕ) : Type 0 where
  pub yard : IsYard vs
  pub worker_count : length vs ≡ length ws
  pub record_count : length ss ≡ length rs
  pub capacity : capacity_in vs ≡ capacity_in ws
  pub told : (j : ℕ) → j < k → LastTold ws vs j (record_of rs j) (record_of ss j)
  pub empty : (i j : ℕ) → j < k → waits_in vs i j ≡ []
  pub later_waits : (i j : ℕ) → k ≤ j → waits_in vs i j ≡ waits_in ws i j
  pub later_heaps : (j : ℕ) → k ≤ j → heap_of_worker vs j ≡ heap_of_worker ws j
