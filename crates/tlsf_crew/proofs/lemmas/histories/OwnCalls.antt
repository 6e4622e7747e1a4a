-- The entry of an allocate, a write, a resize, a read or a refused call tells the call on its worker's own heap.
use Rattle.tlsf_crew.proofs.Common.{◌==◌, nat_le, true, false, Bool, cond, [], ◌∷◌, ◌≡◌, ℕ, ◌<◌, ◌≤◌, List, Option, Some, None, Result, Ok, Err, length, take, drop, ◌∙◌, ap, arith, refl, inl, inr, cons_option, cases_lt, nat_tests, length-set, set-get_or, get_or-set_same, get_or-set_other, length-take, length-drop, HeapState, Name, Refusal, Foreign, Range, bytes_of, Chunk, Call, Allocate, Write, Read, Resize, Target, Reply, Got, Resized, Wrote, Refused, Unmade, allocated, written, resized, chunk_read, as_chunk, too_many, IsNoPost, RunsTo, answer_told, call_on_own, handed_on, meant, World, WorldReply, by_own, heap_in, with_heap, allocating, writing_named, reading_named, resizing_named, reply_made, reply_wrote, reply_got, reply_resized, name_of, no_heap, own_unmade, reply_by}
use Rattle.tlsf_heap.specs.Blocks as blocks
use Rattle.tlsf_heap.specs.GoodFit.{Site}
use Rattle.tlsf_heap.specs.Calls as heap
use Rattle.tlsf_calls.proofs.Padding.{bytes_back}
use Rattle.tlsf_crew.proofs.lemmas.model.ChunkReads.{chunk_of_few, read_many}
use Rattle.tlsf_crew.proofs.lemmas.histories.JoinedEntries.{IsHistory, IsOwnCall, history_quiet}

-- the entry of a call that was answered so tells what it did
abbrev pub Tells1 : {sli : ℕ} → List (Option Name) → World sli → ℕ → Call → WorldReply sli → Type 0
Tells1 made w at call a = IsHistory made w (record { worker = at; call = call; reply = a.reply } ∷ []) a.world

-- names that earlier events made are known later on
abbrev pub Knows : List (Option Name) → List (Option Name) → Type 0
Knows later made = (target : Target) (name : Name) → name_of made target ≡ Some name → name_of later target ≡ Some name

-- ---- the own heap does the call

-- one call on a heap
once : {sli : ℕ} (h : HeapState) (call : heap.Call) (told : Option heap.Call) (a : Option heap.Answer) → told ≡ Some call → a ≡ Some (handed_on (heap.answered sli h call).0)
    → RunsTo sli h (cons_option told []) (cons_option a []) (heap.answered sli h call).1
once h call told a x y = rw (x, y) (record { told = refl; left = refl })

never : {sli : ℕ} (h : HeapState) (told : Option heap.Call) (a : Option heap.Answer) → told ≡ None → a ≡ None → RunsTo sli h (cons_option told []) (cons_option a []) h
never h told a x y = rw (x, y) (record { told = refl; left = refl })

-- one call, with its answer, done by its worker's own heap
pub done_here : {sli : ℕ} (made : List (Option Name)) (w : World sli) (at : ℕ) (call : Call) (reply : Reply) (own : heap.Call) → at < length w.heaps
    → call_on_own made at call reply ≡ Some own → answer_told call reply ≡ Some (handed_on (heap.answered sli (heap_in w at) own).0)
    → IsOwnCall made w (record { worker = at; call = call; reply = reply }) (with_heap w at (heap.answered sli (heap_in w at) own).1)
done_here {sli} made w at call reply own at_in x y =
    let g = (heap.answered sli (heap_in w at) own).1 in
    let same : heap_in (with_heap w at g) at ≡ g = get_or-set_same w.heaps at g no_heap at_in in
    record {
      own = rw same (once (heap_in w at) own (call_on_own made at call reply) (answer_told call reply) x y);
      others = λ j ne. get_or-set_other w.heaps at j g no_heap ne;
    }

-- nothing was done on a heap
pub none_done : {sli : ℕ} (made : List (Option Name)) (w v : World sli) (at : ℕ) (call : Call) (reply : Reply) → call_on_own made at call reply ≡ None → answer_told call reply ≡ None
    → v.heaps ≡ w.heaps → IsOwnCall made w (record { worker = at; call = call; reply = reply }) v
none_done {sli} made w v at call reply x y same =
    let as_was : (j : ℕ) → heap_in v j ≡ heap_in w j = λ j. ap (λ hs. heap_in {sli = sli} (record { heaps = hs; waiting = w.waiting; capacity = w.capacity }) j) same in
    record {
      own = rw (as_was at) (never (heap_in w at) (call_on_own made at call reply) (answer_told call reply) x y);
      others = λ j ne. as_was j;
    }

pub by_meant : {A : Type 0} (made : List (Option Name)) (target : Target) (given : A → Reply) (r : Result A Refusal) → ((x : A) → meant made target (given x) ≡ name_of made target)
    → meant made target (reply_by given r) ≡ name_of made target
by_meant made target given (Ok x) f = f x
by_meant made target given (Err why) f = refl

-- the target means no name: the heap stays
unmade_told : {sli : ℕ} (made : List (Option Name)) (w : World sli) (at : ℕ) (call : Call) → call_on_own made at call (Refused Unmade) ≡ None → answer_told call (Refused Unmade) ≡ None
    → IsNoPost made (record { worker = at; call = call; reply = Refused Unmade }) → Tells1 made w at call (by_own w at own_unmade)
unmade_told made w at call x y silent =
    let v = with_heap w at (heap_in w at) in
    history_quiet made w v (record { worker = at; call = call; reply = Refused Unmade }) (none_done made w v at call (Refused Unmade) x y (set-get_or w.heaps at no_heap))
    silent refl (length-set w.heaps at (heap_in w at))

-- the heap does the call
pub done_told : {sli : ℕ} (made : List (Option Name)) (w : World sli) (at : ℕ) (call : Call) (reply : Reply) (own : heap.Call) → at < length w.heaps → call_on_own made at call reply ≡ Some own
    → answer_told call reply ≡ Some (handed_on (heap.answered sli (heap_in w at) own).0) → IsNoPost made (record { worker = at; call = call; reply = reply })
    → Tells1 made w at call (record { reply = reply; world = with_heap w at (heap.answered sli (heap_in w at) own).1 })
done_told {sli} made w at call reply own at_in x y silent =
    let g = (heap.answered sli (heap_in w at) own).1 in
    history_quiet made w (with_heap w at g) (record { worker = at; call = call; reply = reply }) (done_here made w at call reply own at_in x y) silent refl (length-set w.heaps at g)

-- ---- allocate

made_told : (len : ℕ) (r : Result Name Refusal) → answer_told (Allocate len) (reply_made r) ≡ Some (heap.Allocated r)
made_told len (Ok name) = refl
made_told len (Err why) = refl

pub allocate_told : {sli : ℕ} (made : List (Option Name)) (w : World sli) (at len : ℕ) → at < length w.heaps → Tells1 made w at (Allocate len) (allocating w at len)
unfolding allocated
allocate_told {sli} made w at len at_in =
    done_told made w at (Allocate len) _ (heap.Allocate len) at_in refl (made_told len (heap.allocated sli (heap_in w at) len).answer) (record { made_none = λ j. refl; taken_none = λ i. refl })

-- ---- write

same_number : (n : ℕ) → (n == n) ≡ true
same_number n = grind (arith, nat_tests)

wrote_told : (target : Target) (from : ℕ) (chunk : Chunk) (r : Result (Unit {0}) Refusal) → answer_told (Write target from chunk) (reply_wrote (length (bytes_of chunk)) r) ≡ Some (heap.Written r)
wrote_told target from chunk (Ok done) = rw (same_number (length (bytes_of chunk))) refl
wrote_told target from chunk (Err why) = refl

pub write_told : {sli : ℕ} (made : List (Option Name)) (w : World sli) (at from : ℕ) (target : Target) (chunk : Chunk) (o : Option Name) → at < length w.heaps
    → ((name : Name) → o ≡ Some name → name_of made target ≡ Some name) → Tells1 made w at (Write target from chunk) (writing_named w at o from (bytes_of chunk))
unfolding written
write_told made w at from target chunk None at_in known = unmade_told made w at (Write target from chunk) refl refl (record { made_none = λ j. refl; taken_none = λ i. refl })
write_told made w at from target chunk (Some name) at_in known =
    let r = (heap.written (heap_in w at) name from (bytes_of chunk)).answer in
    let named : meant made target (reply_wrote (length (bytes_of chunk)) r) ≡ Some name = by_meant made target (λ done. Wrote (length (bytes_of chunk))) r (λ done. refl) ∙ known name refl in
    done_told made w at (Write target from chunk) _ (heap.Write name from (bytes_of chunk)) at_in (rw named refl) (wrote_told target from chunk r) (record { made_none = λ j. refl; taken_none = λ i. refl })

-- ---- resize

resize_answer_told : (target : Target) (len : ℕ) (r : Result (Unit {0}) Refusal) → answer_told (Resize target len) (reply_resized r) ≡ Some (heap.Resized r)
resize_answer_told target len (Ok done) = refl
resize_answer_told target len (Err why) = refl

pub resize_told : {sli : ℕ} (made : List (Option Name)) (w : World sli) (at len : ℕ) (target : Target) (o : Option Name) → at < length w.heaps
    → ((name : Name) → o ≡ Some name → name_of made target ≡ Some name) → Tells1 made w at (Resize target len) (resizing_named w at o len)
unfolding resized
resize_told made w at len target None at_in known = unmade_told made w at (Resize target len) refl refl (record { made_none = λ j. refl; taken_none = λ i. refl })
resize_told made w at len target (Some name) at_in known =
    let r = (heap.resized (heap_in w at) name len).answer in
    let named : meant made target (reply_resized r) ≡ Some name = by_meant made target (λ done. Resized) r (λ done. refl) ∙ known name refl in
    done_told made w at (Resize target len) _ (heap.Resize name len) at_in (rw named refl) (resize_answer_told target len r) (record { made_none = λ j. refl; taken_none = λ i. refl })

-- ---- read

abbrev bytes_got : Result Chunk Refusal → Result (List ℕ) Refusal
bytes_got (Ok chunk) = Ok (bytes_of chunk)
bytes_got (Err why) = Err why

got_told : (target : Target) (from n : ℕ) (r : Result Chunk Refusal) → answer_told (Read target from n) (reply_got r) ≡ Some (heap.Got (bytes_got r))
got_told target from n (Ok chunk) = refl
got_told target from n (Err why) = refl

-- up to 64 bytes are handed on
few_got : (block : blocks.Block) (at n : ℕ) (b : Bool) → n ≤ 64
    → heap.Got (bytes_got (as_chunk (cond b (Ok (take n (drop at (blocks.bytes_of block)))) (Err Range)))) ≡ handed_on (heap.Got (cond b (Ok (take n (drop at (blocks.bytes_of block)))) (Err Range)))
few_got block at n true le =
    let bytes = take n (drop at (blocks.bytes_of block)) in
    let a = length-take n (drop at (blocks.bytes_of block)) in
    let few : length bytes ≤ 64 = omega arith in
    let t : nat_le (length bytes) 64 ≡ true = grind (arith, nat_tests) in
    rw (t, bytes_back bytes few) refl
few_got block at n false le = refl

-- more are not
many_got : (block : blocks.Block) (at n : ℕ) (b c : Bool) → heap.has_bytes block at n ≡ b → 64 < n
    → heap.Got (bytes_got (as_chunk (too_many (cond c (Ok (take 0 (drop at (blocks.bytes_of block)))) (Err Range))))) ≡ handed_on (heap.Got (cond b (Ok (take n (drop at (blocks.bytes_of block)))) (Err Range)))
many_got block at n true c e lt =
    let bytes = take n (drop at (blocks.bytes_of block)) in
    let a = length-take n (drop at (blocks.bytes_of block)) in
    let b = length-drop at (blocks.bytes_of block) in
    let t : nat_le (length bytes) 64 ≡ false = grind (arith, nat_tests) in
    rw t (refused c)
  where
    refused : (c : Bool) → heap.Got (bytes_got (as_chunk (too_many (cond c (Ok []) (Err Range))))) ≡ heap.Got (Err Range)
    refused true = refl
    refused false = refl
many_got block at n false true e lt = refl
many_got block at n false false e lt = refl

few_at : (at n : ℕ) (site : Option Site) → n ≤ 64 → heap.Got (bytes_got (as_chunk (heap.read_at at n site))) ≡ handed_on (heap.Got (heap.read_at at n site))
few_at at n None le = refl
few_at at n (Some s) le = few_got s.block at n (heap.has_bytes s.block at n) le

many_at : (at n : ℕ) (site : Option Site) → 64 < n → heap.Got (bytes_got (as_chunk (too_many (heap.read_at at 0 site)))) ≡ handed_on (heap.Got (heap.read_at at n site))
many_at at n None lt = refl
many_at at n (Some s) lt = many_got s.block at n (heap.has_bytes s.block at n) (heap.has_bytes s.block at 0) refl lt

by_id_few : (h : HeapState) (name : Name) (at n : ℕ) (b : Bool) → n ≤ 64
    → heap.Got (bytes_got (as_chunk (cond b (heap.read_at at n (heap.named name h.blocks)) (Err Foreign)))) ≡ handed_on (heap.Got (cond b (heap.read_at at n (heap.named name h.blocks)) (Err Foreign)))
by_id_few h name at n true le = few_at at n (heap.named name h.blocks) le
by_id_few h name at n false le = refl

by_id_many : (h : HeapState) (name : Name) (at n : ℕ) (b : Bool) → 64 < n
    → heap.Got (bytes_got (as_chunk (too_many (cond b (heap.read_at at 0 (heap.named name h.blocks)) (Err Foreign))))) ≡ handed_on (heap.Got (cond b (heap.read_at at n (heap.named name h.blocks)) (Err Foreign)))
by_id_many h name at n true lt = many_at at n (heap.named name h.blocks) lt
by_id_many h name at n false lt = refl

-- what a worker reads is what its heap answers, where that is handed on
read_handed : (h : HeapState) (name : Name) (at n : ℕ) → heap.Got (bytes_got (chunk_read h name at n)) ≡ handed_on (heap.Got (heap.read_of h name at n))
read_handed h name at n =
    elim (cases_lt 64 n) [
      | inl lt ↦ rw (read_many h name at n lt) (by_id_many h name at n (name.heap == h.id) lt)
      | inr le ↦ rw (chunk_of_few h name at n le) (by_id_few h name at n (name.heap == h.id) le)
    ]

pub read_told : {sli : ℕ} (made : List (Option Name)) (w : World sli) (at from n : ℕ) (target : Target) (o : Option Name) → at < length w.heaps
    → ((name : Name) → o ≡ Some name → name_of made target ≡ Some name) → Tells1 made w at (Read target from n) (reading_named w at o from n)
read_told made w at from n target None at_in known = unmade_told made w at (Read target from n) refl refl (record { made_none = λ j. refl; taken_none = λ i. refl })
read_told made w at from n target (Some name) at_in known =
    let r = chunk_read (heap_in w at) name from n in
    let named : meant made target (reply_got r) ≡ Some name = by_meant made target Got r (λ bytes. refl) ∙ known name refl in
    done_told made w at (Read target from n) _ (heap.Read name from n) at_in (rw named refl) (got_told target from n r ∙ ap Some (read_handed (heap_in w at) name from n))
    (record { made_none = λ j. refl; taken_none = λ i. refl })
