-- As many blocks are live as are held.
use Rattle.tlsf_pool.proofs.Common.{◌≡◌, ℕ, List, [], ◌∷◌, length, refl, ap, ◌∙◌, arith, Block, Live, Free, HeapState, want, Call, Allocate, Release, Write, Resize, Read, Allocated, Released, Written, answered, opened, run, live_among, live_count, held_after, held_after_all, HoldsWhatIsLive, Name, allocated_words}
use Rattle.tlsf_heap.proofs.lemmas.calls.Outcomes.{by_allocated_words, by_released, by_resized_words, by_written, gives_words, resizes, takes, writes}
use Rattle.tlsf_pool.proofs.lemmas.laws.Loads.{load, load_given, load_taken, load_resized, load_written}
use Rattle.tlsf_heap.specs.Calls.{resized_words}

-- one for each live block
abbrev pub one : ℕ → ℕ
one n = 1

pub counted : (bs : List Block) → length (live_among bs) ≡ load one bs
counted [] = refl
counted (Live m s xs ∷ bs) = let e = counted bs in omega arith
counted (Free m s ∷ bs) = counted bs

-- for whatever words a request and a resize are
pub held_given : (sli : ℕ) (h : HeapState) (n len : ℕ) → live_count (allocated_words sli h n len).heap ≡ held_after (live_count h) (Allocate len) (Allocated (allocated_words sli h n len).answer)
held_given sli h n len = by_allocated_words sli (λ o. live_count o.heap ≡ held_after (live_count h) (Allocate len) (Allocated o.answer)) h n len (λ why. refl) (λ s site fit.
    omega (arith, load_given sli one h s n len site fit, counted h.blocks, counted (gives_words h n len s).heap.blocks))

pub held_resized : (h : HeapState) (name : Name) (n len : ℕ) → live_count (resized_words h name n len).heap ≡ live_count h
held_resized h name n len = by_resized_words (λ o. live_count o.heap ≡ live_count h) h name n len (λ why. refl) (λ s own site is room.
    omega (arith, load_resized one h s name.at name.serial n len site is, counted h.blocks, counted (resizes h n len s).heap.blocks))

pub held_is : (sli : ℕ) (h : HeapState) (call : Call) → live_count (answered sli h call).1 ≡ held_after (live_count h) call (answered sli h call).0
held_is sli h (Allocate n) = held_given sli h (want n) n
held_is sli h (Release name) = by_released (λ o. live_count o.heap ≡ held_after (live_count h) (Release name) (Released o.answer)) h name (λ why. refl) (λ s own site is.
    omega (arith, load_taken one h s name.at name.serial site is, counted h.blocks, counted (takes h s).heap.blocks))
held_is sli h (Write name at bytes) = by_written (λ o. live_count o.heap ≡ held_after (live_count h) (Write name at bytes) (Written o.answer)) h name at bytes (λ why. refl) (λ s site has.
    omega (arith, load_written one h s at bytes site has, counted h.blocks, counted (writes h at bytes s).heap.blocks))
held_is sli h (Resize name len) = held_resized h name (want len) len
held_is sli h (Read name at n) = refl

held_through : (sli : ℕ) (h : HeapState) (calls : List Call) → live_count (run sli h calls).1 ≡ held_after_all (live_count h) calls (run sli h calls).0
held_through sli h [] = refl
held_through sli h (call ∷ calls) =
    held_through sli (answered sli h call).1 calls ∙ ap (λ (held : ℕ). held_after_all held calls (run sli (answered sli h call).1 calls).0) (held_is sli h call)

pub holds : (sli : ℕ) → HoldsWhatIsLive sli
holds sli id words first calls four = held_through sli (opened id words first) calls
