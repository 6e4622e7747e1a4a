-- A world in which a call is answered as a worker answered it.
use Rattle.tlsf_crew.proofs.Common.{[], ◌∷◌, ◌≡◌, ℕ, ◌<◌, List, Option, length, set, sym, ◌∙◌, ap, arith, replicate, length-set, length-replicate, get_or-set_same, HeapState, Name, Post, Call, Reply, Refused, Full, no_heap, World, heap_in, with_heap, HasHeap, Suits, Taken}

-- n workers, one of whom has this heap; these posts wait in all lanes from each
abbrev pub a_world : {sli : ℕ} → ℕ → ℕ → HeapState → (ℕ → List Post) → ℕ → World sli
a_world n at h posts capacity = record { heaps = set (replicate n no_heap) at h; waiting = λ i j. posts i; capacity = capacity }

pub world_has : (sli : ℕ) (n at : ℕ) (h : HeapState) (posts : ℕ → List Post) (capacity : ℕ) → at < n → HasHeap (a_world {sli = sli} n at h posts capacity) n at h
world_has sli n at h posts capacity lt =
    let len : length (replicate n no_heap) ≡ n = length-replicate n no_heap in
    let m : at < length (replicate n no_heap) = omega arith in
    (length-set (replicate n no_heap) at h ∙ len, get_or-set_same (replicate n no_heap) at h no_heap m)

-- the heap that a call leaves there
pub heap_left : {sli : ℕ} (n at : ℕ) (w : World sli) (h g : HeapState) → at < n → HasHeap w n at h → heap_in (with_heap w at g) at ≡ g
heap_left n at w h g lt has = let m : at < length w.heaps = omega (arith, has.0) in get_or-set_same w.heaps at g no_heap m

-- the post that a reply tells of, and how many a lane holds where it is answered so
posts_in_reply : Reply → List Post
posts_in_reply (Taken t) = record { from = t.from; name = t.name } ∷ []
posts_in_reply reply = []

room_of : Reply → ℕ
room_of (Refused (Full name)) = 0
room_of reply = 1

-- a world that suits
pub a_suit : (sli n at : ℕ) (h : HeapState) (made : List (Option Name)) (call : Call) (reply : Reply) → at < n → (w : World sli) × HasHeap w n at h × Suits w at made call reply
unfolding posts_in_reply room_of
a_suit sli n at h made call reply lt = (
  a_world n at h (λ i. posts_in_reply reply) (room_of reply),
  world_has sli n at h (λ i. posts_in_reply reply) (room_of reply) lt,
  record {
    room = λ target name c known ne lt e full.
        let p = ap (λ r. length (posts_in_reply r)) e in
        let q = ap room_of e in
        absurd (omega arith);
    full = λ target name c known ne lt e. ap (λ r. length (posts_in_reply r)) e ∙ sym (ap room_of e);
    first = λ from t c ne lt e. ([], ap posts_in_reply e);
    empty = λ from c ne lt e. ap posts_in_reply e;
  },
)
