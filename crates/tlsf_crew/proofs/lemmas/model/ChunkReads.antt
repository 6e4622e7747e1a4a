-- A chunk's read of at most 64 bytes is the heap's read; one of more is refused as Range where the heap's would be done.
use Rattle.tlsf_crew.proofs.Common.{◌≡◌, ◌≤◌, ◌<◌, ℕ, List, Result, Ok, Err, nat_le, true, false, arith, refl, sym, ap, ◌∙◌, nat_tests, HeapState, read_of, read_answer, Name, Refusal, Range, chunk_of, Chunk, CrewRefusal, Heap, by_heap, chunk_read, as_chunk, too_many}
use Rattle.std.specs.Result.{result_unwrap_or}

pub chunk_of_few : (h : HeapState) (name : Name) (from n : ℕ) → n ≤ 64 → chunk_read h name from n ≡ as_chunk (read_of h name from n)
unfolding chunk_read
chunk_of_few h name from n le = let b : nat_le n 64 ≡ true = grind (arith, nat_tests) in rw b refl

pub answer_of_few : (h : HeapState) (name : Name) (from n k : ℕ) (answer : Result Chunk CrewRefusal) → answer ≡ by_heap (as_chunk (read_of h name from k)) → k ≡ n → n ≤ 64 → answer ≡ by_heap (chunk_read h name from n)
answer_of_few h name from n k answer a e le = a ∙ (ap (λ x. by_heap (as_chunk (read_of h name from x))) e ∙ ap by_heap (sym (chunk_of_few h name from n le)))

pub read_many : (h : HeapState) (name : Name) (from n : ℕ) → 64 < n → chunk_read h name from n ≡ as_chunk (too_many (read_of h name from 0))
unfolding chunk_read
read_many h name from n lt = let b : nat_le n 64 ≡ false = grind (arith, nat_tests) in rw b refl

pub few_ok : (o : Result (List ℕ) Refusal) (done : Unit {0}) (out new : List ℕ) → Ok done ≡ by_heap (read_answer o) → new ≡ result_unwrap_or o out → Ok (chunk_of new) ≡ by_heap (as_chunk o)
few_ok (Ok bytes) done out new a b = ap (λ l. Ok (chunk_of l)) b
few_ok (Err why) done out new a b = cc

pub few_err : (o : Result (List ℕ) Refusal) (why : CrewRefusal) → Err why ≡ by_heap (read_answer o) → Err why ≡ by_heap (as_chunk o)
few_err (Ok bytes) why a = cc
few_err (Err own) why a = let e : why ≡ Heap own = cc in ap Err e

pub many_ok : (o : Result (List ℕ) Refusal) (done : Unit {0}) → Ok done ≡ by_heap (read_answer o) → Err (Heap Range) ≡ by_heap (as_chunk (too_many o))
many_ok (Ok bytes) done a = refl
many_ok (Err why) done a = cc

pub many_err : (o : Result (List ℕ) Refusal) (why : CrewRefusal) → Err why ≡ by_heap (read_answer o) → Err why ≡ by_heap (as_chunk (too_many o))
many_err (Ok bytes) why a = cc
many_err (Err own) why a = let e : why ≡ Heap own = cc in ap Err e
