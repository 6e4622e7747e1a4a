-- Facts about a script's calls on their worker, whatever its ports. This serves the contracts and proofs of private functions
-- alone.
use Rattle.std.specs.Prelude.{◌≡◌, ◌≢◌, ◌⊎◌, ℕ, ◌+◌, ◌<◌, ◌≤◌, List, [], ◌∷◌, ◌++◌, length, slice_index, Option, Some, None, Result, Ok, Err, ⊤, get_or}
use Rattle.tlsf_crew.specs.Common.{HeapState, Name, Post, Call, Take, Drain, CrewRefusal, Full, Entry, Released, WasFreed, WasPosted, Reply, Freed, Posted, Refused, Taken, Empty, Took, Worker, Journal}
use Rattle.tlsf_crew.specs.worker.Calls.{TakenFrom}
use Rattle.tlsf_crew.specs.model.Sums.{sum_of}
use Rattle.tlsf_crew.specs.histories.History.{IsNoPost}
use Rattle.tlsf_crew.specs.scripts.Journals.{OneFewer}
use Rattle.tlsf_crew.specs.model.OwnReplies.{HeapReply, IsHeapReply}
use Rattle.tlsf_crew.specs.model.Progress.{Progress, AllTold, IsModelAnswer, untold}
use Rattle.tlsf_crew.specs.worker.Workers.{heap_of, id_of, SameButHeap}
use Rattle.tlsf_crew.specs.model.World.{made_by}

abbrev pub reply_took : Option Took → Reply
reply_took None = Empty
reply_took (Some t) = Taken t

-- the last call of each worker takes what still waits for it: no yard holds more
abbrev pub last_call : Call
last_call = Drain 8192

abbrev pub script_of : List (List Call) → ℕ → List Call
script_of scripts j = get_or scripts j []

abbrev pub told_of : List (Option Name) → List Entry → HeapState → Progress
told_of made entries h = record { made = made; entries = entries; heap = h }

abbrev pub entry_by : ℕ → Call → Reply → Entry
entry_by at call reply = record { worker = at; call = call; reply = reply }

-- where the calls of a worker have come: the worker, how many posts it may still take of each source, and the entries so far
pub record Stage (sli : ℕ) (P : Type 0) : Type 0 where
  pub worker : Worker sli P
  pub limits : List ℕ
  pub entries : List Entry

abbrev pub at_stage : {sli : ℕ} {P : Type 0} → Worker sli P → List ℕ → List Entry → Stage sli P
at_stage a limits entries = record { worker = a; limits = limits; entries = entries }

-- that of a worker with its journal
abbrev pub stage_of : {sli : ℕ} {P : Type 0} → Worker sli P → Journal → Stage sli P
stage_of a journal = at_stage a journal.limits journal.entries.items

-- ---- one call

abbrev pub reply_released : Result Released CrewRefusal → Reply
reply_released (Ok WasFreed) = Freed
reply_released (Ok WasPosted) = Posted
reply_released (Err why) = Refused why

-- the own heap of worker a was called and left worker v, and the reply is that one
pub record RepliesOwn {sli : ℕ} {P : Type 0} (a v : Worker sli P) (reply : Reply) (own : HeapReply) : Type 0 where
  pub replied : IsHeapReply reply (heap_of v) own
  pub same : SameButHeap a v

-- neither a take nor a drain
abbrev pub IsNoTake : Call → Type 0
IsNoTake (Take from) = ⊥
IsNoTake (Drain most) = ⊥
IsNoTake call = ⊤

-- the entry of a call that posts and takes nothing, and found no port full
pub record IsQuiet (e : Entry) : Type 0 where
  pub call : IsNoTake e.call
  pub posts : (made : List (Option Name)) → IsNoPost made e
  pub unfilled : (name : Name) → e.reply ≢ Refused (Full name)

-- such a call of a worker of n, answered as the model answers it, after calls that made these names and these entries
pub record QuietCall {sli : ℕ} {P : Type 0} (n : ℕ) (a v : Worker sli P) (call : Call) (made : List (Option Name)) (entries : List Entry) (reply : Reply) : Type 0 where
  pub same : SameButHeap a v
  pub quiet : IsQuiet (entry_by (id_of a) call reply)
  pub told : IsModelAnswer sli n (id_of a) (told_of made entries (heap_of a)) call reply (heap_of v)

-- one post was taken of a source, or no more might be, or it showed none
abbrev pub TakenWithin : {sli : ℕ} {P : Type 0} → (P → P → ℕ → Option Post → Type 0) → Worker sli P → List ℕ → ℕ → Worker sli P → List ℕ → Option Took → Type 0
TakenWithin takes a limits source v left None = (left ≡ limits) × ((¬ ((source < 8) × (0 < slice_index limits source)) × (v ≡ a)) ⊎ TakenFrom takes a v source None)
TakenWithin takes a limits source v left (Some took) = (source < 8) × OneFewer limits source left × TakenFrom takes a v source (Some took)

-- ---- what calls tell of a worker

-- what the calls of a script may tell over ports of some kind, and what they leave
pub record ScriptPromise (sli : ℕ) (P : Type 0) : Type 1 where
  -- they may take this many posts of each source, where each script has that many releases
  pub limited : P → List ℕ → List ℕ → Type 0
  -- the worker is one of this many
  pub knows : ℕ → Worker sli P → Type 0
  -- a worker, one of this many and of that number, may be told one call more in this way
  pub tells : ℕ → ℕ → Progress → Call → Progress → Type 0
  -- the worker of that number, whose calls made these names, has become the other by these calls, as the entries tell. It might
  -- take this many posts of each source, and may take the rest of them
  pub moves : ℕ → List (Option Name) → Worker sli P → List ℕ → List Call → List Entry → Worker sli P → List ℕ → Type 0

-- what was told at a stage
abbrev pub told_at : {sli : ℕ} {P : Type 0} → List (Option Name) → Stage sli P → Progress
told_at made s = told_of made s.entries (heap_of s.worker)

-- the call was answered so; the entries got longer by those of a drain's takes, and have not its own yet
pub record Step {sli : ℕ} {P : Type 0} (by : ScriptPromise sli P) (n : ℕ) (s : Stage sli P) (call : Call) (made : List (Option Name)) (t : Stage sli P) (reply : Reply) : Type 0 where
  pub own : List Entry
  pub entries_are : t.entries ≡ s.entries ++ own
  pub told : by.tells n (id_of s.worker) (told_at made s) call (told_of (made ++ made_by reply ∷ []) (t.entries ++ entry_by (id_of s.worker) call reply ∷ []) (heap_of t.worker))
  pub moved : (rest : List (Option Name)) → by.moves (id_of s.worker) (made ++ rest) s.worker s.limits (call ∷ []) (own ++ entry_by (id_of s.worker) call reply ∷ []) t.worker t.limits

-- the call was made, and told in full
pub record CallMade {sli : ℕ} {P : Type 0} (by : ScriptPromise sli P) (n : ℕ) (s : Stage sli P) (call : Call) (made : List (Option Name)) (t : Stage sli P) (more : List (Option Name)) : Type 0 where
  pub name : Option Name
  pub made_are : more ≡ made ++ name ∷ []
  pub own : List Entry
  pub entries_are : t.entries ≡ s.entries ++ own
  pub told : by.tells n (id_of s.worker) (told_at made s) call (told_at more t)
  pub moved : (rest : List (Option Name)) → by.moves (id_of s.worker) (made ++ rest) s.worker s.limits (call ∷ []) own t.worker t.limits

-- a worker has made these calls of its script
pub record ScriptRun {sli : ℕ} {P : Type 0} (by : ScriptPromise sli P) (n : ℕ) (a : Worker sli P) (limits : List ℕ) (calls : List Call) (made : List (Option Name)) (t : Stage sli P) : Type 0 where
  pub told : AllTold (by.tells n (id_of a)) (untold (heap_of a)) calls (told_at made t)
  pub names : length made ≡ length calls
  pub moved : (rest : List (Option Name)) → by.moves (id_of a) (made ++ rest) a limits calls t.entries t.worker t.limits

-- moves join: none, and some after others. They keep the worker's number and place, and leave room for what may still be taken
pub record AreMoves {sli : ℕ} {P : Type 0} (by : ScriptPromise sli P) : Type 0 where
  pub none : (made : List (Option Name)) (a : Worker sli P) (limits : List ℕ) → by.moves (id_of a) made a limits [] [] a limits
  pub then : (at : ℕ) (made : List (Option Name)) (a b v : Worker sli P) (limits mid left : List ℕ) (calls ds : List Call) (xs ys : List Entry) → by.moves at made a limits calls xs b mid → by.moves at made b mid ds ys v left
      → by.moves at made a limits (calls ++ ds) (xs ++ ys) v left
  pub number : (at : ℕ) (made : List (Option Name)) (a v : Worker sli P) (limits left : List ℕ) (calls : List Call) (entries : List Entry) → by.moves at made a limits calls entries v left → id_of v ≡ id_of a
  pub known : (at : ℕ) (made : List (Option Name)) (a v : Worker sli P) (limits left : List ℕ) (calls : List Call) (entries : List Entry) → by.moves at made a limits calls entries v left → (n : ℕ) → by.knows n a → by.knows n v
  pub room : (at : ℕ) (made : List (Option Name)) (a v : Worker sli P) (limits left : List ℕ) (calls : List Call) (entries : List Entry) → by.moves at made a limits calls entries v left
      → length entries + sum_of left ≤ length calls + sum_of limits
