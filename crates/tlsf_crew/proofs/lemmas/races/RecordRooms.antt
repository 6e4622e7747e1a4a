-- The room that the records of a race have when they come back is that which was made for what waited and for the scripts.
use Rattle.tlsf_crew.proofs.Common.{◌≡◌, ℕ, ◌+◌, ◌<◌, List, Some, length, set, vec_capacity, sym, ◌∙◌, ap, arith, inl, inr, slice_get, Vec, Global, cases_eq, cases_lt, slice_get_within, Worker, Lanes, Entry, Call, IsYard, take_at, end_from_in, world_of, World, EachLaneSettled, count_of, ready_from, releases_of, script_of, HaveRooms, KeepRooms, HaveRecordRooms}
use Rattle.tlsf_crew.proofs.lemmas.worker.Slots.{some_same, get_set_same, get_set_other, some_at}
use Rattle.tlsf_crew.proofs.lemmas.model.Sums.{same_sum}
use Rattle.tlsf_crew.proofs.lemmas.lanes.Pending.{lane_ready}
use Rattle.tlsf_crew.proofs.lemmas.lanes.LaneSettled.{none_wait}

-- one record more was written, into the room that it had
pub keeps_set : (rs ss : List (Vec Entry Global)) (j : ℕ) (r s : Vec Entry Global) → KeepRooms rs ss → j < length ss → slice_get ss j ≡ Some r → vec_capacity s ≡ vec_capacity r
    → KeepRooms rs (set ss j s)
keeps_set rs ss j r s keep lt is same k v there =
    elim (cases_eq k j) [
      | inl e ↦
          let v_is : s ≡ v = some_same s v (sym (get_set_same ss j s lt) ∙ (sym (ap (slice_get (set ss j s)) e) ∙ there)) in
          let old = keep j r is in
          (old.0, ap (slice_get rs) e ∙ old.1, ap (λ (x : Vec Entry Global). vec_capacity x) (sym v_is) ∙ (same ∙ old.2))
      | inr ne ↦ keep k v (sym (get_set_other ss j k s ne) ∙ there)
    ]

-- what is ready for worker j in a settled yard is what waits for it
known_from : {sli : ℕ} (ws vs : List (Worker sli Lanes)) (i j : ℕ) (a : Worker sli Lanes) → length vs ≡ length ws → EachLaneSettled ws vs → IsYard vs → slice_get vs j ≡ Some a
    → ready_from a i ≡ length ((world_of vs).waiting i j)
unfolding world_of
known_from ws vs i j a len settled yard is =
    let j_in = slice_get_within vs j a is in
    let r : count_of (take_at vs i j) ≡ ready_from a i = ap (λ o. count_of (end_from_in o i)) is in
    elim (cases_lt i (length vs)) [
      | inl i_in ↦ sym r ∙ lane_ready ws vs i j len settled yard i_in j_in
      | inr far ↦
          let none = ap length (none_wait vs i j yard (λ _. far)) in
          let nobody = ap count_of (yard.outside j i far).1 in
          omega arith
    ]

pub record_rooms : {sli : ℕ} (zs ws : List (Worker sli Lanes)) (scripts : List (List Call)) (records ss : List (Vec Entry Global)) → length ws ≡ length zs → EachLaneSettled zs ws → IsYard ws → world_of ws ≡ world_of zs
    → length records ≡ length ws → HaveRooms ws scripts records → KeepRooms records ss → HaveRecordRooms (world_of zs) scripts ss
record_rooms {sli} zs ws scripts records ss len settled yard same count rooms keep j s there =
    let k = keep j s there in
    let j_in : j < length ws = let n = slice_get_within records j k.0 k.1 in omega arith in
    let found = some_at ws j j_in in
    let room = rooms j found.0 k.0 found.1 k.1 in
    let sums = same_sum 8 (λ i. length ((world_of zs).waiting i j) + releases_of (script_of scripts i)) (λ i. ready_from found.0 i + releases_of (script_of scripts i))
    (λ i _. let e = known_from zs ws i j found.0 len settled yard found.1 in let w = ap (λ (x : World sli). length (x.waiting i j)) same in omega arith) in
    let c = k.2 in
    omega arith
