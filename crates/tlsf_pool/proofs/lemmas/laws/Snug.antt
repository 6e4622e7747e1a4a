-- No live block has four words that it doesn't want.
use Rattle.tlsf_pool.proofs.Common.{◌≡◌, ℕ, ◌+◌, ◌*◌, ◌≤◌, List, [], ◌∷◌, length, arith, AllByRecursion, IsLevel, Block, Live, Free, HeapState, words_in, bytes_of, want, Call, Allocate, Release, Write, Resize, Read, with_bytes, answered, opened, run, IsLawful, live_among, IsSnug, BlocksAreSnug, wanted_words, SumSuffices}
use Rattle.tlsf_heap.proofs.lemmas.blocks.Lawful.{opened_lawful}
use Rattle.tlsf_heap.proofs.lemmas.blocks.Sums.{words_apart}
use Rattle.tlsf_heap.proofs.lemmas.calls.Outcomes.{lawful_run}
use Rattle.tlsf_heap.proofs.lemmas.laws.NoFit.{no_fit}
use Rattle.tlsf_pool.proofs.lemmas.laws.FreeRoom.{finds_room}
use Rattle.tlsf_pool.proofs.lemmas.laws.Around.{words_run, Suits, all_allocated, all_released, all_resized, all_written}

snug_suits : (least len : ℕ) → Suits IsSnug least (want len) len
snug_suits least len m t xs enough few long = rw long (omega arith)

snug_with : (b : Block) (xs : List ℕ) → length xs ≡ length (bytes_of b) → IsSnug b → IsSnug (with_bytes b xs)
snug_with (Live m s ys) xs e h = rw e h
snug_with (Free m s) xs e h = tt

pub snug_kept : (sli : ℕ) (h : HeapState) (call : Call) → AllByRecursion IsSnug h.blocks → AllByRecursion IsSnug (answered sli h call).1.blocks
snug_kept sli h (Allocate n) all = all_allocated IsSnug (λ m u. tt) sli 0 h (want n) n (λ b fit. omega arith) (omega arith) (snug_suits 0 n) all
snug_kept sli h (Release name) all = all_released IsSnug (λ m u. tt) h name all
snug_kept sli h (Write name at bytes) all = all_written IsSnug (λ m u. tt) snug_with h name at bytes all
snug_kept sli h (Resize name len) all = all_resized IsSnug (λ m u. tt) h name (want len) len (snug_suits (want len) len) all
snug_kept sli h (Read name at n) all = all

snug_run : (sli : ℕ) (h : HeapState) (calls : List Call) → AllByRecursion IsSnug h.blocks → AllByRecursion IsSnug (run sli h calls).1.blocks
snug_run sli h [] all = all
snug_run sli h (call ∷ calls) all = snug_run sli (answered sli h call).1 calls (snug_kept sli h call all)

pub snug : (sli : ℕ) → BlocksAreSnug sli
snug sli id words first calls four = snug_run sli (opened id words first) calls (tt, tt)

live_wanted : (bs : List Block) → AllByRecursion IsSnug bs → words_in (live_among bs) ≤ wanted_words bs + 3 * length (live_among bs)
live_wanted [] all = omega arith
live_wanted (Live m s xs ∷ bs) all = let e = live_wanted bs all.1 in let f = all.0 in omega arith
live_wanted (Free m s ∷ bs) all = live_wanted bs all.1

pub sum_suffices : (sli : ℕ) (level : IsLevel sli) → SumSuffices sli
sum_suffices sli level id words first len calls four region enough none =
    let h : HeapState = (run sli (opened id words first) calls).1 in
    let lawful : IsLawful h = lawful_run sli level (opened id words first) calls (opened_lawful id words first four) in
    let live = live_wanted h.blocks (snug sli id words first calls four) in
    finds_room sli level h len lawful region (omega (arith, enough, live, words_apart h.blocks, lawful.whole, words_run sli (opened id words first) calls)) ((no_fit sli h len).0 none)
