-- A slice that came out of a lane is a number of takes one after another.
use Rattle.tlsf_crew.proofs.Common.{[], ◌∷◌, ◌≡◌, ◌≢◌, ◌<◌, ◌≤◌, ℕ, List, Some, length, set, refl, sym, ◌∙◌, ap, arith, append-nil, length-set, slice_get_within, Post, TakeEnd, ready, taken, Lanes, lane_from, lane_to, TookThrough, PortsInTurn, SliceTaken}
use Rattle.tlsf_post.proofs.EndSlices.{EndSlice, cut_first}
use Rattle.tlsf_crew.proofs.lemmas.worker.Slots.{from_slot, slot_new, slot_other}

-- the lanes q are p with another end from i
pub record OtherEnd (p q : Lanes) (i : ℕ) (t u : TakeEnd) : Type 0 where
  pub is : lane_from p i ≡ Some t
  pub new : lane_from q i ≡ Some u
  pub others : (k : ℕ) → k ≢ i → lane_from q k ≡ lane_from p k
  pub same : (q.capacity ≡ p.capacity) × (lane_to q ≡ lane_to p)

one_took : (p q : Lanes) (i : ℕ) (t u : TakeEnd) (post : Post) → OtherEnd p q i t u → EndSlice t u (post ∷ []) → TookThrough p q i (Some post)
one_took p q i t u post o s = record {
  end = t;
  new_end = u;
  end_is = o.is;
  new_end_is = o.new;
  others = o.others;
  same = o.same;
  lane = s.lane;
  still = s.still;
  some = (s.came, s.order);
  none = tt;
  succeeds = λ known. refl;
}

each_took : (p q : Lanes) (i : ℕ) (t u : TakeEnd) (post : Post) (posts : List Post) → OtherEnd p q i t u → EndSlice t u (post ∷ posts) → PortsInTurn TookThrough p q i (post ∷ posts)
each_took p q i t u post [] o s = (q, one_took p q i t u post o s, refl)
each_took p q i t u post (next ∷ posts) o s =
    let m = cut_first t u post (next ∷ posts) s in
    let xs = p.takes.items in
    let r : Lanes = record p { takes = record p.takes { items = set xs i (Some m.0); ok = (p.takes.ok.0 ∙ sym (length-set xs i (Some m.0)), p.takes.ok.1) } } in
    let near = slice_get_within p.takes.items i (Some t) (from_slot _ t o.is) in
    let one : OtherEnd p r i t m.0 = record {
      is = o.is;
      new = slot_new p.takes.items r.takes.items i m.0 near refl;
      others = slot_other p.takes.items r.takes.items i m.0 refl;
      same = (refl, refl);
    } in
    let rest : OtherEnd r q i m.0 u = record { is = one.new; new = o.new; others = λ k ne. o.others k ne ∙ sym (one.others k ne); same = o.same } in
    (r, one_took p r i t m.0 post one m.1, each_took r q i m.0 u next posts rest m.2)

pub lane_slice : (p q : Lanes) (i places count : ℕ) (t u : TakeEnd) (posts : List Post) → OtherEnd p q i t u → EndSlice t u posts → length posts ≡ count → 0 < places
    → (count < places → (ready u ≡ []) × (length (ready t) ≤ count)) → SliceTaken TookThrough p q i places count posts
lane_slice p q i places count t u [] o s len some left = record {
  last = p;
  turns = refl;
  full = λ all. absurd (omega (arith, len, some, all));
  short = λ fewer. record {
    end = t;
    new_end = u;
    end_is = o.is;
    new_end_is = o.new;
    others = o.others;
    same = o.same;
    lane = s.lane;
    still = s.still;
    some = tt;
    none = s.came ∙ append-nil (taken t);
    succeeds = λ known. absurd (omega (arith, known, (left fewer).1, len));
  };
}
lane_slice p q i places count t u (post ∷ posts) o s len some left = record {
  last = q;
  turns = each_took p q i t u post posts o s;
  full = λ all. refl;
  short = λ fewer. record {
    end = u;
    new_end = u;
    end_is = o.new;
    new_end_is = o.new;
    others = λ k ne. refl;
    same = (refl, refl);
    lane = λ p lane. lane;
    still = refl;
    some = tt;
    none = refl;
    succeeds = λ known. absurd (omega (arith, known, ap length (left fewer).0));
  };
}
