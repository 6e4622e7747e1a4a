-- A call on a heap by a live name isn't answered Stale, and each other live name stays live.
use Rattle.tlsf_yard_laws.proofs.Common.{◌≡◌, ◌≢◌, ℕ, eqb, nat_le, nat_lt, List, length, take, drop, Option, Some, None, Result, Ok, Err, sym, ap, IsSome, eqb-true, false≢true, HeapState, want, refused, is_worn, allocated_at, named, has_bytes, written_at, resized_at, room_of, read_at, IsLive, Name, Refusal, Stale, Foreign, Worn, Range, NoRoom, allocated, released, written, resized, bytes_read, too_many, as_chunk, chunk_read, Site, choice, by_test, gives, writes, ids, given, kept, known}
use Rattle.tlsf_heap.specs.Blocks.{bytes_of}
use Rattle.tlsf_heap.specs.Calls.{Allocate, Release, Write, Resize}

abbrev IsKnown : {A : Type 0} → Result A Refusal → Type 0
IsKnown answer = answer ≢ Err Stale

given_at : (h : HeapState) (len : ℕ) (o : Option Site) → IsKnown (allocated_at h (want len) len o).answer
given_at h len None = λ e. cc
given_at h len (Some s) = by_test (λ x. IsKnown x.answer) (is_worn h) (refused h Worn) (gives h len s) (λ _ e. cc) (λ e. cc)

pub allocated_known : (sli : ℕ) (h : HeapState) (len : ℕ) → IsKnown (allocated sli h len).answer
unfolding allocated
allocated_known sli h len = given_at h len (choice sli (want len) h.blocks)

pub allocated_id : (sli : ℕ) (h : HeapState) (len : ℕ) → (allocated sli h len).heap.id ≡ h.id
unfolding allocated
allocated_id sli h len = ids sli h (Allocate len)

pub allocated_stays : (sli : ℕ) (h : HeapState) (len : ℕ) (m : Name) → IsLive h m → IsLive (allocated sli h len).heap m
unfolding allocated
allocated_stays sli h len m live = kept sli h m (Allocate len) (λ t. let e = t.0 in cc) live

pub allocated_new : (sli : ℕ) (h : HeapState) (len : ℕ) (name : Name) → (allocated sli h len).answer ≡ Ok name → IsLive (allocated sli h len).heap name
unfolding allocated
allocated_new sli h len name e = given sli h len name e

pub released_known : (h : HeapState) (name : Name) → IsLive h name → IsKnown (released h name).answer
unfolding released
released_known h name live = (known h name live).0

pub released_id : (h : HeapState) (name : Name) → (released h name).heap.id ≡ h.id
unfolding released
released_id h name = ids 4 h (Release name)

-- each other name stays live
pub released_stays : (h : HeapState) (name m : Name) → (m ≡ name → ⊥) → IsLive h m → IsLive (released h name).heap m
unfolding released
released_stays h name m other live = kept 4 h m (Release name) (λ t. other (let e = t.0 in cc)) live

-- and so does the name itself where its release is refused
pub refused_stays : (h : HeapState) (name m : Name) (why : Refusal) → (released h name).answer ≡ Err why → IsLive h m → IsLive (released h name).heap m
unfolding released
refused_stays h name m why e live =
    kept 4 h m (Release name) (λ t. let same : name ≡ m = let q = t.0 in cc in let ok = rw (sym same) at t.1 in cc) live

-- a write or a read of a name of this heap that is live
written_some : (h : HeapState) (from : ℕ) (bytes : List ℕ) (o : Option Site) → IsSome o → IsKnown (written_at h from bytes o).answer
written_some h from bytes None some = absurd (false≢true some)
written_some h from bytes (Some s) some = by_test (λ x. IsKnown x.answer) (has_bytes s.block from (length bytes)) (writes h from bytes s) (refused h Range) (λ _ e. cc) (λ e. cc)

pub written_known : (h : HeapState) (name : Name) (from : ℕ) (bytes : List ℕ) → (name.heap ≡ h.id → IsLive h name) → IsKnown (written h name from bytes).answer
unfolding written
written_known h name from bytes live =
    by_test (λ x. IsKnown x.answer) (eqb name.heap h.id) (written_at h from bytes (named name h.blocks)) (refused h Foreign) (λ t. written_some h from bytes (named name h.blocks) (live (eqb-true name.heap h.id t)).1) (λ e. cc)

pub written_id : (h : HeapState) (name : Name) (from : ℕ) (bytes : List ℕ) → (written h name from bytes).heap.id ≡ h.id
unfolding written
written_id h name from bytes = ids 4 h (Write name from bytes)

pub written_stays : (h : HeapState) (name : Name) (from : ℕ) (bytes : List ℕ) (m : Name) → IsLive h m → IsLive (written h name from bytes).heap m
unfolding written
written_stays h name from bytes m live = kept 4 h m (Write name from bytes) (λ t. let e = t.0 in cc) live

resized_some : (h : HeapState) (len : ℕ) (o : Option Site) → IsSome o → IsKnown (resized_at h (want len) len o).answer
resized_some h len None some = absurd (false≢true some)
resized_some h len (Some s) some =
    by_test (λ x. IsKnown x.answer) (nat_lt (room_of s.block s.after) (want len)) (refused h NoRoom) _ (λ _ e. cc)
    (by_test (λ x. IsKnown x.answer) (is_worn h) (refused h Worn) _ (λ _ e. cc) (λ e. cc))

pub resized_known : (h : HeapState) (name : Name) (len : ℕ) → (name.heap ≡ h.id → IsLive h name) → IsKnown (resized h name len).answer
unfolding resized
resized_known h name len live =
    by_test (λ x. IsKnown x.answer) (eqb name.heap h.id) (resized_at h (want len) len (named name h.blocks)) (refused h Foreign) (λ t. resized_some h len (named name h.blocks) (live (eqb-true name.heap h.id t)).1) (λ e. cc)

pub resized_id : (h : HeapState) (name : Name) (len : ℕ) → (resized h name len).heap.id ≡ h.id
unfolding resized
resized_id h name len = ids 4 h (Resize name len)

pub resized_stays : (h : HeapState) (name : Name) (len : ℕ) (m : Name) → IsLive h m → IsLive (resized h name len).heap m
unfolding resized
resized_stays h name len m live = kept 4 h m (Resize name len) (λ t. let e = t.0 in cc) live

read_some : (h : HeapState) (from n : ℕ) (o : Option Site) → IsSome o → IsKnown (read_at from n o)
read_some h from n None some = absurd (false≢true some)
read_some h from n (Some s) some = by_test IsKnown (has_bytes s.block from n) (Ok (take n (drop from (bytes_of s.block)))) (Err Range) (λ _ e. cc) (λ e. cc)

read_known : (h : HeapState) (name : Name) (from n : ℕ) → (name.heap ≡ h.id → IsLive h name) → IsKnown (bytes_read h name from n)
read_known h name from n live = by_test IsKnown (eqb name.heap h.id) (read_at from n (named name h.blocks)) (Err Foreign) (λ t. read_some h from n (named name h.blocks) (live (eqb-true name.heap h.id t)).1) (λ e. cc)

as_known : (answer : Result (List ℕ) Refusal) → IsKnown answer → IsKnown (as_chunk answer) × IsKnown (as_chunk (too_many answer))
as_known (Ok bytes) not = (λ e. cc, λ e. cc)
as_known (Err why) not = (λ e. not (let same : why ≡ Stale = cc in ap Err same), λ e. not (let same : why ≡ Stale = cc in ap Err same))

pub chunk_known : (h : HeapState) (name : Name) (from n : ℕ) → (name.heap ≡ h.id → IsLive h name) → IsKnown (chunk_read h name from n)
unfolding chunk_read
chunk_known h name from n live =
    by_test IsKnown (nat_le n 64) (as_chunk (bytes_read h name from n)) (as_chunk (too_many (bytes_read h name from 0))) (λ _. (as_known (bytes_read h name from n) (read_known h name from n live)).0) (as_known (bytes_read h name from 0) (read_known h name from 0 live)).1
