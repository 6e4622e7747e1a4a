-- The effect of one call of a heap, told once: each layer above says it of its own view.
use Rattle.std.specs.Prelude.{◌≡◌, ℕ, ◌+◌, ◌*◌, ◌/◌, ◌%◌, ◌<◌, ◌≤◌, ◌↔◌, List, [], Bool, Option, Result, length, min, IfOk, IfSome, MatchOption, MatchResult, Ok, Err, OnOk, OnErr, IsOk, IsErrOf, IsTrue}
use Rattle.std.specs.Borrow.{Bor, MutBor}
use Rattle.std.specs.Fn.{Once}
use Rattle.std.specs.Result.{result_unwrap_or}
use denote.RawPtr.{Ptr}
use Rattle.tlsf_heap.specs.Aligned.{words_aligned, words_from, AnswersAligned, AnswersFrom}
use Rattle.tlsf_heap.specs.Around.{FindsChoice, IsAroundCheck, around_touches, request_touches}
use Rattle.tlsf_heap.specs.Blocks.{want, IsPlace}
use Rattle.tlsf_heap.specs.ByPlace.{kept_at, name_at, released_by_place, resized_by_place, resized_or_moved_by_place}
use Rattle.tlsf_heap.specs.Calls.{allocated_words, last_tick, read_answer, read_of, released, reset, resized, resized_words, written}
use Rattle.tlsf_heap.specs.Checks.{FindsSound, IsCheck, block_touches}
use Rattle.tlsf_heap.specs.Chosen.{NoneFits}
use Rattle.tlsf_heap.specs.Footprint.{LeavesLive, LeavesPayloads}
use Rattle.tlsf_heap.specs.Given.{payload_words_given, payload_words_left}
use Rattle.tlsf_heap.specs.GoodFit.{fits}
use Rattle.tlsf_heap.specs.Image.{Image}
use Rattle.tlsf_heap.specs.InPlace.{payload_of, words_grown, Alters, Inspects, IsPayloadCheck}
use Rattle.tlsf_heap.specs.Laws.{IsLive}
use Rattle.tlsf_heap.specs.Moved.{payload_words_moved, resized_or_moved}
use Rattle.tlsf_heap.specs.Placed.{placed_at}
use Rattle.tlsf_heap.specs.Reports.{report_of, IsGrant}
use Rattle.tlsf_heap.specs.Shown.{Seen}
use Rattle.tlsf_heap.specs.Touched.{FollowsNoForgery, FollowsNoPlace}
use Rattle.tlsf_heap.specs.Unset.{unset_from, GivesUnset}
use Rattle.tlsf_heap.specs.declared.checked.Checked.{Checked}
use Rattle.tlsf_heap.specs.declared.name.Name.{Name}
use Rattle.tlsf_heap.specs.declared.placed_block.PlacedBlock.{PlacedBlock}
use Rattle.tlsf_heap.specs.declared.refusal.Refusal.{Refusal}
use Rattle.tlsf_heap.specs.declared.refusal.Refusal.TheVariants.{NoFit}
use Rattle.tlsf_heap.specs.declared.report.Report.{Report}
use Rattle.tlsf_heap.specs.ledger.Ledgers.{LedgerState}

-- what a heap with a ledger shows of its heap
abbrev pub seen_by : {L : Type 0} → LedgerState L → Seen
seen_by s = record { heap = s.heap; touches = s.touches; touched = s.touched }

-- a request of n words for `len` bytes: it answers and leaves what the sequential heap does. This is NoFit exactly where no block
-- fits, and a name where one does and the tick isn't at its last value. It takes at most this many touches, and one for each
-- payload word of the block given. For these it takes no more than the words wanted for the bytes. None is of a live block's
-- payload
pub record Allocates (most sli n len : ℕ) (old new : Seen) (answer : Result Name Refusal) : Type 0 where
  pub answer_is : answer ≡ (allocated_words sli old.heap n len).answer
  pub heap : new.heap ≡ (allocated_words sli old.heap n len).heap
  pub no_fit : IsErrOf answer NoFit ↔ (fits sli n old.heap.blocks ≡ [])
  pub ok : IsOk answer ↔ (¬ (fits sli n old.heap.blocks ≡ []) × ¬ (old.heap.tick ≡ last_tick))
  pub touches : new.touches ≤ old.touches + most + payload_words_given answer new.heap
  pub few : new.touches ≤ old.touches + most + want len
  pub rise : old.touches ≤ new.touches
  pub leaves : LeavesLive old.heap.blocks old.touched new.touched

-- a request of n words for `len` bytes that fills nothing, of at most this many touches, however many bytes. It answers as an allocate.
-- Accepted, it leaves what an allocate leaves and a write of the bytes that lie there; where it is refused, it leaves the heap
pub record AllocatesUnset (most sli n len : ℕ) (old new : Seen) (stored : Image) (answer : Result Name Refusal) : Type 0 where
  pub answer_is : answer ≡ (allocated_words sli old.heap n len).answer
  pub heap : IfOk answer (λ name. new.heap ≡ unset_from (allocated_words sli old.heap n len).heap name stored 0 len)
  pub unchanged : OnErr answer (new.heap ≡ old.heap)
  pub no_fit : IsErrOf answer NoFit ↔ (fits sli n old.heap.blocks ≡ [])
  pub ok : IsOk answer ↔ (¬ (fits sli n old.heap.blocks ≡ []) × ¬ (old.heap.tick ≡ last_tick))
  pub touches : new.touches ≤ old.touches + most
  pub rise : old.touches ≤ new.touches
  pub leaves : LeavesLive old.heap.blocks old.touched new.touched

-- a request for `len` bytes out of the free block that begins at a place. It fills nothing, and takes at most this many touches,
-- however many bytes. Accepted, it gives a name of that place; where it is refused, it leaves the heap. It follows no place from
-- outside, and reads no word where no block begins
pub record AllocatesFrom (most len : ℕ) (old new : Seen) (stored : Image) (at : ℕ) (answer : Result Name Refusal) : Type 0 where
  pub answer_is : answer ≡ (words_from old.heap at (want len)).answer
  pub gives : IfOk answer (GivesUnset old.heap new.heap stored (words_from old.heap at (want len)).heap len)
  pub place : IfOk answer (λ name. name.at ≡ at)
  pub cases : AnswersFrom old.heap at (want len) answer
  pub unchanged : OnErr answer (new.heap ≡ old.heap)
  pub touches : new.touches ≤ old.touches + most
  pub rise : old.touches ≤ new.touches
  pub leaves : LeavesLive old.heap.blocks old.touched new.touched
  pub wild : FollowsNoPlace old.heap at old.touches new.touches
  pub unread : ¬ (IsPlace old.heap.blocks at) → new.touched ≡ old.touched

-- a request for `len` bytes whose payload begins `skew` words before a multiple of `step` words. It fills nothing, and takes at most
-- this many touches, however many bytes. Where it is refused, it leaves the heap
pub record AllocatesAligned (most sli len step skew : ℕ) (old new : Seen) (stored : Image) (answer : Result Name Refusal) : Type 0 where
  pub answer_is : answer ≡ (words_aligned sli old.heap (want len) step skew).answer
  pub gives : IfOk answer (GivesUnset old.heap new.heap stored (words_aligned sli old.heap (want len) step skew).heap len)
  pub aligned : IfOk answer (λ name. (name.at + 3 + skew) % step ≡ 0)
  pub cases : AnswersAligned sli old.heap (want len) step answer
  pub unchanged : OnErr answer (new.heap ≡ old.heap)
  pub touches : new.touches ≤ old.touches + most
  pub rise : old.touches ≤ new.touches
  pub leaves : LeavesLive old.heap.blocks old.touched new.touched

-- a release of a name, of at most this many touches: it answers and leaves what the sequential heap does. It touches no other live
-- block's payload, where it is refused none, and follows no forged name
pub record Releases (most : ℕ) (old new : Seen) (name : Name) (answer : Result (Unit {0}) Refusal) : Type 0 where
  pub answer_is : answer ≡ (released old.heap name).answer
  pub heap : new.heap ≡ (released old.heap name).heap
  pub touches : new.touches ≤ old.touches + most
  pub rise : old.touches ≤ new.touches
  pub leaves : LeavesPayloads old.heap.blocks name.at old.touched new.touched
  pub refused : OnErr answer (LeavesLive old.heap.blocks old.touched new.touched)
  pub forged : FollowsNoForgery old new name

-- a release of the live block that begins at a place, of at most this many touches. It follows no place from outside, and reads no
-- word where no block begins
pub record ReleasesAt (most : ℕ) (old new : Seen) (at : ℕ) (answer : Result (Unit {0}) Refusal) : Type 0 where
  pub answer_is : answer ≡ (released_by_place old.heap at).answer
  pub heap : new.heap ≡ (released_by_place old.heap at).heap
  pub touches : new.touches ≤ old.touches + most
  pub rise : old.touches ≤ new.touches
  pub leaves : LeavesPayloads old.heap.blocks at old.touched new.touched
  pub refused : OnErr answer (LeavesLive old.heap.blocks old.touched new.touched)
  pub wild : FollowsNoPlace old.heap at old.touches new.touches
  pub unread : ¬ (IsPlace old.heap.blocks at) → new.touched ≡ old.touched

-- a reset, of at most this many touches and one for each 64 words of the region. It answers and leaves what the sequential heap does.
-- It takes all live blocks back, and touches the payload of none
pub record Resets (most : ℕ) (old new : Seen) (answer : Result (Unit {0}) Refusal) : Type 0 where
  pub answer_is : answer ≡ (reset old.heap).answer
  pub heap : new.heap ≡ (reset old.heap).heap
  pub touches : new.touches ≤ old.touches + most + (old.heap.words + 63) / 64
  pub rise : old.touches ≤ new.touches
  pub leaves : LeavesLive old.heap.blocks old.touched new.touched

-- a resize of the block of a name to n words for `len` bytes. It takes at most this many touches, and one for each payload word of
-- the block left. For these it takes no more than one, and one for each word by which the payload grows
pub record Resizes (most n len : ℕ) (old new : Seen) (name : Name) (answer : Result (Unit {0}) Refusal) : Type 0 where
  pub answer_is : answer ≡ (resized_words old.heap name n len).answer
  pub heap : new.heap ≡ (resized_words old.heap name n len).heap
  pub touches : new.touches ≤ old.touches + most + payload_words_left answer new.heap name
  pub grown : new.touches ≤ old.touches + most + 1 + words_grown old.heap len name
  pub rise : old.touches ≤ new.touches
  pub leaves : LeavesPayloads old.heap.blocks name.at old.touched new.touched
  pub refused : OnErr answer (LeavesLive old.heap.blocks old.touched new.touched)
  pub forged : FollowsNoForgery old new name

-- a resize to `len` bytes that fills nothing, of at most this many touches, however many bytes. It answers as a resize. Accepted, it
-- leaves what a resize leaves and a write of the bytes that lie behind the old ones. Refused, it leaves the heap
pub record ResizesUnset (most len : ℕ) (old new : Seen) (stored : Image) (name : Name) (answer : Result (Unit {0}) Refusal) : Type 0 where
  pub answer_is : answer ≡ (resized old.heap name len).answer
  pub heap : OnOk answer (new.heap ≡ unset_from (resized old.heap name len).heap name stored (min (length (payload_of old.heap name)) len) len)
  pub unchanged : OnErr answer (new.heap ≡ old.heap)
  pub touches : new.touches ≤ old.touches + most
  pub rise : old.touches ≤ new.touches
  pub leaves : LeavesPayloads old.heap.blocks name.at old.touched new.touched
  pub refused : OnErr answer (LeavesLive old.heap.blocks old.touched new.touched)
  pub forged : FollowsNoForgery old new name

-- a resize to `len` bytes that may move the block. Where the block stays, it takes `stay` touches at most and one, and one for each
-- word by which the payload grows. Otherwise it takes `most`, and three for each payload word of the block that it would move to
pub record Moves (stay most sli len : ℕ) (old new : Seen) (name : Name) (answer : Result Name Refusal) : Type 0 where
  pub answer_is : answer ≡ (resized_or_moved sli old.heap name len).answer
  pub heap : new.heap ≡ (resized_or_moved sli old.heap name len).heap
  pub in_place : IsOk (resized old.heap name len).answer → new.touches ≤ old.touches + stay + 1 + words_grown old.heap len name
  pub elsewhere : ¬ (IsOk (resized old.heap name len).answer) → new.touches ≤ old.touches + most + 3 * payload_words_moved sli old.heap len
  pub rise : old.touches ≤ new.touches
  pub leaves : LeavesPayloads old.heap.blocks name.at old.touched new.touched
  pub refused : OnErr answer (LeavesLive old.heap.blocks old.touched new.touched)
  pub forged : FollowsNoForgery old new name

-- one that fills nothing. It answers as a resize that may move the block. Accepted, it leaves what that leaves and a write of the
-- bytes that lie behind the old ones. Refused, it leaves the heap. It takes `most` touches at most, and two for each
-- eight bytes that stay. Where there is room at the block's place, it takes `stay` at most
pub record MovesUnset (stay most sli len : ℕ) (old new : Seen) (stored : Image) (name : Name) (answer : Result Name Refusal) : Type 0 where
  pub answer_is : answer ≡ (resized_or_moved sli old.heap name len).answer
  pub heap : IfOk answer (λ given. new.heap ≡ unset_from (resized_or_moved sli old.heap name len).heap given stored (min (length (payload_of old.heap name)) len) len)
  pub unchanged : OnErr answer (new.heap ≡ old.heap)
  pub touches : new.touches ≤ old.touches + most + 2 * (min (length (payload_of old.heap name)) len / 8)
  pub in_place : IsOk (resized old.heap name len).answer → new.touches ≤ old.touches + stay
  pub rise : old.touches ≤ new.touches
  pub leaves : LeavesPayloads old.heap.blocks name.at old.touched new.touched
  pub refused : OnErr answer (LeavesLive old.heap.blocks old.touched new.touched)
  pub forged : FollowsNoForgery old new name

-- one that fills nothing, of the live block that begins at a place. It follows no place from outside, and reads no word where no
-- block begins
pub record MovesUnsetAt (stay most sli len : ℕ) (old new : Seen) (stored : Image) (at : ℕ) (answer : Result Name Refusal) : Type 0 where
  pub answer_is : answer ≡ (resized_or_moved_by_place sli old.heap at len).answer
  pub heap : IfOk answer (λ given. new.heap ≡ unset_from (resized_or_moved_by_place sli old.heap at len).heap given stored (kept_at old.heap at len) len)
  pub unchanged : OnErr answer (new.heap ≡ old.heap)
  pub touches : new.touches ≤ old.touches + most + 2 * (kept_at old.heap at len / 8)
  pub in_place : IsOk (resized_by_place old.heap at len).answer → new.touches ≤ old.touches + stay
  pub rise : old.touches ≤ new.touches
  pub leaves : LeavesPayloads old.heap.blocks at old.touched new.touched
  pub refused : OnErr answer (LeavesLive old.heap.blocks old.touched new.touched)
  pub wild : FollowsNoPlace old.heap at old.touches new.touches
  pub unread : ¬ (IsPlace old.heap.blocks at) → new.touched ≡ old.touched

-- a write of bytes into the payload of a name's block, from byte `at` of it on
pub record Writes (most : ℕ) (old new : Seen) (name : Name) (at : ℕ) (bytes : List ℕ) (answer : Result (Unit {0}) Refusal) : Type 0 where
  pub answer_is : answer ≡ (written old.heap name at bytes).answer
  pub heap : new.heap ≡ (written old.heap name at bytes).heap
  pub touches : new.touches ≤ old.touches + most
  pub rise : old.touches ≤ new.touches
  pub leaves : LeavesPayloads old.heap.blocks name.at old.touched new.touched
  pub refused : OnErr answer (LeavesLive old.heap.blocks old.touched new.touched)
  pub forged : FollowsNoForgery old new name

-- a read of the payload of a name's block, from byte `at` of it on: it fills these bytes with others, and leaves the heap
pub record Reads (most : ℕ) (old new : Seen) (name : Name) (at : ℕ) (bytes filled : List ℕ) (answer : Result (Unit {0}) Refusal) : Type 0 where
  pub answer_is : answer ≡ read_answer (read_of old.heap name at (length bytes))
  pub bytes_are : filled ≡ result_unwrap_or (read_of old.heap name at (length bytes)) bytes
  pub heap : new.heap ≡ old.heap
  pub touches : new.touches ≤ old.touches + most
  pub rise : old.touches ≤ new.touches
  pub leaves : LeavesPayloads old.heap.blocks name.at old.touched new.touched
  pub refused : OnErr answer (LeavesLive old.heap.blocks old.touched new.touched)
  pub forged : FollowsNoForgery old new name

-- a function f changes the payload of a name's block where it stands. The heap is then as a write of what f leaves makes it. A refusal
-- leaves the heap
pub record AltersInPlace {F R E : Type 0} (g : Once F (MutBor (List ℕ) × Unit {0}) (R × (MutBor (List ℕ) × Unit {0}))) (f : F) (old new : Seen) (name : Name) (answer : Result R E) : Type 0 where
  pub altered : IfOk answer (λ r. Alters g f old.heap name r new.heap)
  pub unchanged : OnErr answer (new.heap ≡ old.heap)
  pub touches : new.touches ≤ old.touches + 4
  pub rise : old.touches ≤ new.touches
  pub leaves : LeavesLive old.heap.blocks old.touched new.touched
  pub forged : FollowsNoForgery old new name

-- a function f is shown that payload, and the heap stays
pub record InspectsInPlace {F R E : Type 0} (g : Once F (Bor (List ℕ) × Unit {0}) R) (f : F) (old new : Seen) (name : Name) (answer : Result R E) : Type 0 where
  pub inspected : IfOk answer (λ r. Inspects g f old.heap name r)
  pub heap : new.heap ≡ old.heap
  pub touches : new.touches ≤ old.touches + 4
  pub rise : old.touches ≤ new.touches
  pub leaves : LeavesLive old.heap.blocks old.touched new.touched
  pub forged : FollowsNoForgery old new name

-- a question whether a live block has a name
pub record AsksLive (old new : Seen) (name : Name) (answer : Bool) : Type 0 where
  pub live : IsTrue answer ↔ IsLive old.heap name
  pub heap : new.heap ≡ old.heap
  pub touches : new.touches ≤ old.touches + 3
  pub rise : old.touches ≤ new.touches
  pub leaves : LeavesLive old.heap.blocks old.touched new.touched
  pub forged : FollowsNoForgery old new name

-- a question which name the live block has that begins at a place. It follows no place from outside, and reads no word where no block
-- begins
pub record NamesAt (old new : Seen) (at : ℕ) (answer : Option Name) : Type 0 where
  pub answer_is : answer ≡ name_at old.heap at
  pub live : IfSome answer (λ name. IsLive old.heap name × (name.at ≡ at) × (at < old.heap.words))
  pub heap : new.heap ≡ old.heap
  pub touches : new.touches ≤ old.touches + 3
  pub rise : old.touches ≤ new.touches
  pub leaves : LeavesLive old.heap.blocks old.touched new.touched
  pub wild : FollowsNoPlace old.heap at old.touches new.touches
  pub unread : ¬ (IsPlace old.heap.blocks at) → new.touched ≡ old.touched

-- a look at the block that begins at a place
pub record Looks (old new : Seen) (at : ℕ) (answer : Option PlacedBlock) : Type 0 where
  pub answer_is : answer ≡ placed_at old.heap.blocks at
  pub heap : new.heap ≡ old.heap
  pub touches : new.touches ≤ old.touches + 4
  pub rise : old.touches ≤ new.touches
  pub leaves : LeavesLive old.heap.blocks old.touched new.touched
  pub wild : FollowsNoPlace old.heap at old.touches new.touches

-- a question where the payload of a name's block lies, of a heap whose region's first word has this address
pub record Locates (base : Ptr) (old new : Seen) (name : Name) (answer : Result (Ptr × ℕ) Refusal) : Type 0 where
  pub address : IfOk answer (λ p. p.0 ≡ base)
  pub payload : MatchResult answer (λ p. IsPayloadCheck old.heap name (Ok p.1)) (λ why. IsPayloadCheck old.heap name (Err why))
  pub heap : new.heap ≡ old.heap
  pub touches : new.touches ≤ old.touches + 4
  pub rise : old.touches ≤ new.touches
  pub leaves : LeavesLive old.heap.blocks old.touched new.touched
  pub forged : FollowsNoForgery old new name

-- a check of the block that begins at a place, and of both its neighbours. A heap that only its own calls have changed is sound. It
-- answers as `check_around` does on the words that are stored
pub record ChecksAround (stored : Image) (at : ℕ) (old new : Seen) (answer : Option Checked) : Type 0 where
  pub sound : MatchOption answer (¬ (IsPlace old.heap.blocks at)) (FindsSound old.heap.blocks at 1)
  pub looks : IsAroundCheck stored at answer
  pub heap : new.heap ≡ old.heap
  pub touches : new.touches ≤ old.touches + around_touches
  pub rise : old.touches ≤ new.touches
  pub leaves : LeavesLive old.heap.blocks old.touched new.touched
  pub wild : FollowsNoPlace old.heap at old.touches new.touches

-- a check of the free block that a request for `len` bytes would take, and of both its neighbours
pub record ChecksRequest (sli : ℕ) (stored : Image) (len : ℕ) (old new : Seen) (answer : Option Checked) : Type 0 where
  pub sound : MatchOption answer (NoneFits sli (want len) old.heap.blocks) (FindsChoice sli (want len) stored old.heap.blocks)
  pub heap : new.heap ≡ old.heap
  pub touches : new.touches ≤ old.touches + request_touches
  pub rise : old.touches ≤ new.touches
  pub leaves : LeavesLive old.heap.blocks old.touched new.touched

-- a check of `most` blocks at most, the first of which begins at `from`. A heap that only its own calls have changed is sound. It
-- answers as `check_words` does on the words that are stored, which have no other answer (`checks_have_one_answer`). It takes one
-- touch for the first start bit, and at most 13 for each block. No two blocks begin within four words
pub record ChecksBlocks (stored : Image) (from most : ℕ) (old new : Seen) (answer : Option Checked) : Type 0 where
  pub sound : MatchOption answer (¬ (IsPlace old.heap.blocks from)) (FindsSound old.heap.blocks from most)
  pub looks : IsCheck stored from most answer
  pub heap : new.heap ≡ old.heap
  pub touches : new.touches ≤ old.touches + 1 + block_touches * most
  pub few : new.touches ≤ old.touches + 1 + block_touches * (old.heap.words / 4)
  pub rise : old.touches ≤ new.touches
  pub leaves : LeavesLive old.heap.blocks old.touched new.touched
  pub wild : FollowsNoPlace old.heap from old.touches new.touches

-- a report: what the grant comes to is that no request for more is served, and one for so much is, unless nothing is free. It takes two
-- touches for each block, and no block has fewer than four words
pub record Reports (sli : ℕ) (old new : Seen) (report : Report) : Type 0 where
  pub report_is : report ≡ report_of sli old.heap
  pub grant : IsGrant sli old.heap.blocks report.grant
  pub heap : new.heap ≡ old.heap
  pub touches : new.touches ≤ old.touches + 2 * length old.heap.blocks
  pub few : 4 * length old.heap.blocks ≤ old.heap.words
  pub rise : old.touches ≤ new.touches
  pub leaves : LeavesLive old.heap.blocks old.touched new.touched
