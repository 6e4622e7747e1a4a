-- A list of entries: the events that made it, the calls on each heap, and the posts of each lane.
use Rattle.std.specs.Prelude.{◌≡◌, ◌≢◌, ◌↔◌, ◌⊎◌, ℕ, ◌<◌, ◌≤◌, List, [], ◌∷◌, ◌++◌, length, map, Option, Some, None, Ok, Err, ⊤, All, ◌==◌, nat_le, if◌then◌else◌}
use Rattle.tlsf_crew.specs.Common.{filter, filter_map, option_map, IsLevel, Post, Name, Range, HeapState, IsLawful, bytes_of, Event, Entry, Call, Allocate, Release, Write, Read, Resize, Take, Drain, Target, Reply, Took, Made, Freed, Posted, Wrote, Got, Resized, Taken, Drained, Refused, Heap, Full, Stranger, Unmade}
use Rattle.tlsf_heap.specs.Calls as heap
use Rattle.tlsf_crew.specs.model.World.{World, heap_in, made_by, name_of}

-- ---- the events

-- the call's target means none of the names that earlier events made
abbrev pub LacksName : List (Option Name) → Call → Type 0
LacksName made (Release target) = name_of made target ≡ None
LacksName made (Write target from bytes) = name_of made target ≡ None
LacksName made (Read target from n) = name_of made target ≡ None
LacksName made (Resize target len) = name_of made target ≡ None
LacksName made call = ⊥

-- the name of a block of another's heap was posted, or came back since no more could wait, or no worker has that heap
abbrev pub AnswersPost : Name → Reply → Type 0
AnswersPost name reply = (reply ≡ Posted) ⊎ ((reply ≡ Refused (Full name)) ⊎ (reply ≡ Refused Stranger))

-- a release of a block of another's heap is answered so
abbrev pub IsPostReply : ℕ → List (Option Name) → Call → Reply → Type 0
IsPostReply at made (Release target) reply = (name : Name) → name_of made target ≡ Some name → name.heap ≢ at → AnswersPost name reply
IsPostReply at made call reply = ⊤

-- one entry of the call, and the name that it made. It is refused as Unmade exactly where its target means none
pub record IsOne (at : ℕ) (made : List (Option Name)) (call : Call) (name : Option Name) (entries : List Entry) : Type 0 where
  pub reply : Reply
  pub name_is : name ≡ made_by reply
  pub unmade : (reply ≡ Refused Unmade) ↔ LacksName made call
  pub post : IsPostReply at made call reply
  pub whole : entries ≡ record { worker = at; call = call; reply = reply } ∷ []

-- takes of a worker that each took a post, from workers whose numbers don't fall from `low` on
abbrev pub AreTakes : ℕ → ℕ → List Entry → Type 0
AreTakes at low [] = ⊤
AreTakes at low (e ∷ es) = (from : ℕ) × (t : Took) × (e ≡ record { worker = at; call = Take from; reply = Taken t }) × (low ≤ from) × AreTakes at from es

-- at most this many takes, and then the drain's own entry with their number
pub record IsDrain (at most : ℕ) (entries : List Entry) : Type 0 where
  pub takes : List Entry
  pub are_takes : AreTakes at 0 takes
  pub few : length takes ≤ most
  pub whole : entries ≡ takes ++ record { worker = at; call = Drain most; reply = Drained (length takes) } ∷ []

-- the entries of a worker's call, where earlier events made these names, and the name that it made
abbrev pub TellsCall : ℕ → List (Option Name) → Call → Option Name → List Entry → Type 0
TellsCall at made (Drain most) name entries = (name ≡ None) × IsDrain at most entries
TellsCall at made call name entries = IsOne at made call name entries

-- a post that was taken came from another of this many workers
abbrev pub TookFromOther : ℕ → Entry → Type 0
TookFromOther workers e = (from : ℕ) (t : Took) → e.call ≡ Take from → e.reply ≡ Taken t → (from < workers) × (from ≢ e.worker)

-- the entries of an event, where this many workers are; that of no worker is refused
pub record TellsEvent (workers : ℕ) (made : List (Option Name)) (e : Event) (name : Option Name) (entries : List Entry) : Type 0 where
  pub near : e.worker < workers → TellsCall e.worker made e.call name entries
  pub others : All (TookFromOther workers) entries
  pub far : workers ≤ e.worker → (name ≡ None) × (entries ≡ record { worker = e.worker; call = e.call; reply = Refused Stranger } ∷ [])

-- the entries tell the events, each once and in order, and the name that each made, after those that earlier ones made
abbrev pub Tells : ℕ → List (Option Name) → List Event → List (Option Name) → List Entry → Type 0
Tells workers made [] [] entries = entries ≡ []
Tells workers made (e ∷ es) (name ∷ later) entries =
    (own : List Entry) × (rest : List Entry) × (entries ≡ own ++ rest) × TellsEvent workers made e name own × Tells workers (made ++ name ∷ []) es later rest
Tells workers made es later entries = ⊥

-- ---- the calls on a heap

-- the entries of one worker
abbrev pub entries_of : ℕ → List Entry → List Entry
entries_of j entries = filter (λ e. e.worker == j) entries

-- the name that a call meant: one that meant a later event's name was refused as Unmade
abbrev pub meant : List (Option Name) → Target → Reply → Option Name
meant made target (Refused Unmade) = None
meant made target reply = name_of made target

-- the name, where it is of heap j
abbrev pub name_on_heap : ℕ → Option Name → Option Name
name_on_heap j None = None
name_on_heap j (Some name) = if name.heap == j then Some name else None

abbrev pub taken_name : Reply → Option Name
taken_name (Taken t) = Some t.name
taken_name reply = None

-- the call on the worker's own heap that its call comes to; a take releases there the name that it took
abbrev pub call_on_own : List (Option Name) → ℕ → Call → Reply → Option heap.Call
call_on_own made at (Allocate len) reply = Some (heap.Allocate len)
call_on_own made at (Release target) reply = option_map heap.Release (name_on_heap at (meant made target reply))
call_on_own made at (Write target from bytes) reply = option_map (λ name. heap.Write name from (bytes_of bytes)) (meant made target reply)
call_on_own made at (Read target from n) reply = option_map (λ name. heap.Read name from n) (meant made target reply)
call_on_own made at (Resize target len) reply = option_map (λ name. heap.Resize name len) (meant made target reply)
call_on_own made at (Take from) reply = option_map heap.Release (taken_name reply)
call_on_own made at (Drain most) reply = None

-- the answer of the worker's own heap that the reply to a call tells
abbrev pub answer_told : Call → Reply → Option heap.Answer
answer_told (Allocate len) (Made name) = Some (heap.Allocated (Ok name))
answer_told (Allocate len) (Refused (Heap why)) = Some (heap.Allocated (Err why))
answer_told (Release target) Freed = Some (heap.Released (Ok tt))
answer_told (Release target) (Refused (Heap why)) = Some (heap.Released (Err why))
answer_told (Write target from bytes) (Wrote n) = if n == length (bytes_of bytes) then Some (heap.Written (Ok tt)) else None
answer_told (Write target from bytes) (Refused (Heap why)) = Some (heap.Written (Err why))
answer_told (Read target from n) (Got chunk) = Some (heap.Got (Ok (bytes_of chunk)))
answer_told (Read target from n) (Refused (Heap why)) = Some (heap.Got (Err why))
answer_told (Resize target len) Resized = Some (heap.Resized (Ok tt))
answer_told (Resize target len) (Refused (Heap why)) = Some (heap.Resized (Err why))
answer_told (Take from) (Taken t) = Some (heap.Released t.answer)
answer_told call reply = None

-- the calls on heap j that the entries tell, in order, and the answers to them
abbrev pub calls_on : ℕ → List (Option Name) → List Entry → List heap.Call
calls_on j made entries = filter_map (λ e. call_on_own made e.worker e.call e.reply) (entries_of j entries)

abbrev pub answers_on : ℕ → List Entry → List heap.Answer
answers_on j entries = filter_map (λ e. answer_told e.call e.reply) (entries_of j entries)

-- a worker hands on 64 bytes at most: a read of more, which its heap would do, it refuses as Range
abbrev pub handed_on : heap.Answer → heap.Answer
handed_on (heap.Got (Ok bytes)) = heap.Got (if nat_le (length bytes) 64 then Ok bytes else Err Range)
handed_on answer = answer

-- the calls, in turn, are answered so by one heap, and leave the other
pub record RunsTo (sli : ℕ) (h : HeapState) (calls : List heap.Call) (answers : List heap.Answer) (g : HeapState) : Type 0 where
  pub told : map handed_on (heap.run sli h calls).0 ≡ answers
  pub left : (heap.run sli h calls).1 ≡ g

-- the calls that some entries tell of heap j, run on it, give the answers that they tell and leave a lawful heap. Those of the
-- later entries lead from there to the last heap
pub record RunsThrough (sli : ℕ) (h : HeapState) (j : ℕ) (made : List (Option Name)) (before later : List Entry) (last : HeapState) : Type 0 where
  pub between : HeapState
  pub first : RunsTo sli h (calls_on j made before) (answers_on j before) between
  pub lawful : IsLawful between
  pub rest : RunsTo sli between (calls_on j made later) (answers_on j later) last

-- ---- the posts of a lane

-- the post for heap j that the call of worker i made
abbrev pub post_of_release : ℕ → List (Option Name) → ℕ → Call → Reply → Option Post
post_of_release j made i (Release target) Posted = option_map (λ name. record { from = i; name = name }) (name_on_heap j (name_of made target))
post_of_release j made i call reply = None

-- the post that the call took from worker i
abbrev pub post_of_take : ℕ → Call → Reply → Option Post
post_of_take i (Take from) (Taken t) = if from == i then Some (record { from = t.from; name = t.name }) else None
post_of_take i call reply = None

-- an entry that tells of neither a post nor a take
pub record IsNoPost (made : List (Option Name)) (e : Entry) : Type 0 where
  pub made_none : (j : ℕ) → post_of_release j made e.worker e.call e.reply ≡ None
  pub taken_none : (i : ℕ) → post_of_take i e.call e.reply ≡ None

-- the posts that worker i made for heap j, in order, and those that worker j took from i
abbrev pub posts_made : ℕ → ℕ → List (Option Name) → List Entry → List Post
posts_made i j made entries = filter_map (λ e. post_of_release j made e.worker e.call e.reply) (entries_of i entries)

abbrev pub posts_taken : ℕ → ℕ → List Entry → List Post
posts_taken i j entries = filter_map (λ e. post_of_take i e.call e.reply) (entries_of j entries)

-- ---- the worlds

-- the heaps of a level that there is, each lawful
abbrev pub AreLawful : {sli : ℕ} → World sli → Type 0
AreLawful {sli} w = IsLevel sli × ((j : ℕ) → j < length w.heaps → IsLawful (heap_in w j))

-- an entry of a record, and the entries before it
abbrev pub StandsBehind : List Entry → List Entry → Entry → Type 0
StandsBehind entries before e = (after : List Entry) × (entries ≡ before ++ e ∷ after)
