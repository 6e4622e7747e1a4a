-- A worker's own calls keep its yard whole.
use Rattle.tlsf_crew.proofs.Common.{suc, zero, [], ◌∷◌, ◌≡◌, ◌≢◌, ℕ, List, Option, Some, Result, set, sym, ◌∙◌, ap, refl, subst, slice_get, slice_get_within, length-set, Post, PostEnd, TakeEnd, IsLane, Worker, Lanes, post_at, take_at, IsYard, id_and_capacity, PostEndPut, TakeEndTook, SameButHeap, KeepsHeap, heap_of, id_of, KeepsYards}
use Rattle.tlsf_crew.proofs.lemmas.worker.SameParts.{ports_heap}
use Rattle.tlsf_crew.proofs.lemmas.lanes.LaneSlots.{ports_numbers, map_same}
use Rattle.tlsf_crew.proofs.lemmas.worker.Slots.{get_set_same, some_same}
use Rattle.tlsf_crew.proofs.lemmas.lanes.LaneChanges.{changed_yard, heap_yard}
use Rattle.tlsf_crew.proofs.lemmas.lanes.OneEnd.{posts_set, takes_set}
use Rattle.tlsf_crew.proofs.lemmas.worker.OwnHeaps.{same_heap_keeps}
use Rattle.tlsf_crew.proofs.lemmas.lanes.Signed.{put_signed, take_signed}
use Rattle.tlsf_crew.proofs.lemmas.lanes.LanesOfOne.{joined_from, joined_to, own_number}

pub heap_keeps : {sli : ℕ} (a v : Worker sli Lanes) → SameButHeap a v → KeepsHeap (heap_of a) (heap_of v) → KeepsYards a v
heap_keeps a v same kept ws i is yard = heap_yard ws i a v is same kept yard

-- nothing changes
pub same_keeps : {sli : ℕ} (a : Worker sli Lanes) → KeepsYards a a
same_keeps a = heap_keeps a a (refl, refl) (same_heap_keeps (heap_of a) (heap_of a) refl)

set_twice : {sli : ℕ} (ws : List (Worker sli Lanes)) (i : ℕ) (b v : Worker sli Lanes) → set (set ws i b) i v ≡ set ws i v
set_twice [] i b v = refl
set_twice (w ∷ ws) zero b v = refl
set_twice (w ∷ ws) (suc i) b v = ap (λ l. w ∷ l) (set_twice ws i b v)

-- a worker who posts in its own name changes that lane alone
pub put_keeps : {sli : ℕ} (a v : Worker sli Lanes) (j : ℕ) (post : Post) (answer : Result (Unit {0}) Post) → post.from ≡ id_of a → PostEndPut a v j post answer → KeepsYards a v
put_keeps a v j post answer own put ws i is yard =
    let here : post_at ws i j ≡ Some put.1.end = rw (is, put.1.end_is) refl in
    let there = posts_set ws i j a v put.1.new_end is put.1.new_end_is put.1.others put.1.same.1 in
    let other = (joined_to ws i j a yard is).0 (put.1.end, put.1.end_is) in
    let ne : i ≢ j = λ e. other.1 (sym e) in
    let h = yard.lanes i j (slice_get_within ws i a is) other.0 ne in
    let same : h.0 ≡ put.1.end = some_same h.0 put.1.end (sym h.2 ∙ here) in
    changed_yard ws (set ws i v) i j put.1.end h.1 put.1.new_end h.1 ne (record {
      post_is = here;
      take_is = h.3;
      new_post_is = there.here;
      new_take_is = there.takes i j ∙ h.3;
      same = λ x y away. (there.others x y away, there.takes x y);
      heaps = map_same heap_of ws i a v is (ports_heap a v put.0);
      numbers = map_same id_and_capacity ws i a v is (ports_numbers a v put.0 put.1.same.0);
      len = length-set ws i v;
      lane = put.1.lane.1 h.1 (subst (λ (z : PostEnd). IsLane z h.1) same h.4);
      capacity = put.1.lane.0;
    }) (put_signed i j a v post answer (own ∙ own_number ws i a yard is) put (Some h.1) (rw (here, h.3) at (yard.signed i j))) yard

-- and so does one who takes
pub take_keeps : {sli : ℕ} (a v : Worker sli Lanes) (i : ℕ) (post : Option Post) → TakeEndTook a v i post → KeepsYards a v
take_keeps a v i post got ws j is yard =
    let here : take_at ws i j ≡ Some got.1.end = rw (is, got.1.end_is) refl in
    let there = takes_set ws i j a v got.1.new_end is got.1.new_end_is got.1.others got.1.same.1 in
    let other = (joined_from ws j i a yard is).0 (got.1.end, got.1.end_is) in
    let h = yard.lanes i j other.0 (slice_get_within ws j a is) other.1 in
    let same : h.1 ≡ got.1.end = some_same h.1 got.1.end (sym h.3 ∙ here) in
    changed_yard ws (set ws j v) i j h.0 got.1.end h.0 got.1.new_end other.1 (record {
      post_is = h.2;
      take_is = here;
      new_post_is = there.posts i j ∙ h.2;
      new_take_is = there.here;
      same = λ x y away. (there.posts x y, there.others x y away);
      heaps = map_same heap_of ws j a v is (ports_heap a v got.0);
      numbers = map_same id_and_capacity ws j a v is (ports_numbers a v got.0 got.1.same.0);
      len = length-set ws j v;
      lane = got.1.lane h.0 (subst (λ (z : TakeEnd). IsLane h.0 z) same h.4);
      capacity = refl;
    }) (take_signed i i a v post got (Some h.0) (rw (h.2, here) at (yard.signed i j))) yard

-- one after the other
pub keeps_then : {sli : ℕ} (a b v : Worker sli Lanes) → KeepsYards a b → KeepsYards b v → KeepsYards a v
keeps_then a b v x y ws i is yard =
    let at : slice_get (set ws i b) i ≡ Some b = get_set_same ws i b (slice_get_within ws i a is) in
    subst IsYard (set_twice ws i b v) (y (set ws i b) i at (x ws i is yard))
