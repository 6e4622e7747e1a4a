-- The last drain of a worker takes in a race what it takes where each worker ran alone.
use Rattle.tlsf_yard_laws.proofs.Common.{zero, suc, [], ◌∷◌, ◌++◌, ◌≡◌, ◌≢◌, ◌-◌, ℕ, ◌+◌, ◌<◌, ◌≤◌, List, length, take, drop, sym, ◌∙◌, ap, arith, refl, inl, inr, subst, append-nil, length-append, fold, cases_eq, take_all, Post, Call, Entry, Took, World, Replayed, DrainState, called, after_drain, drained_below, drained_waiting, draining, took_more, MayTell, told_by, sum_below, AreTakes, posts_taken, IsRace, last_call, OnlyLastDrains, RaceRunsAlone, alone, drained_alone, posted_alone}
use Rattle.tlsf_crew.proofs.lemmas.races.TwoRecords.{drain_takes}
use Rattle.tlsf_crew.proofs.lemmas.race_laws.OneRace.{drained, told_alone, told_in, turn_of}
use Rattle.tlsf_crew.proofs.lemmas.race_laws.SameDrains.{lane_apart, last_drain, last_posts, other_post, own_post, same_last, take_entry}
use Rattle.tlsf_crew.proofs.lemmas.histories.DrainEntries.{lane_count}
use Rattle.tlsf_crew.proofs.lemmas.model.Edits.{edited_same}
use Rattle.tlsf_crew.proofs.lemmas.scripts.ManyEntries.{sum_both}
use Rattle.tlsf_crew.proofs.lemmas.histories.JoinedEntries.{taken_then}
use Rattle.tlsf_crew.proofs.lemmas.model.OneEvent.{from_other, from_own}
use Rattle.tlsf_crew.proofs.lemmas.model.Sums.{sum_most}

-- ---- a take is from one worker

one_from : (n at from : ℕ) (t : Took) → sum_below n (λ x. length (posts_taken x at (take_entry at from t ∷ []))) ≤ 1
one_from zero at from t = omega arith
one_from (suc k) at from t = elim (cases_eq k from) [
  | inl e ↦
      let below = sum_most k 0 (λ x. length (posts_taken x at (take_entry at from t ∷ []))) (λ x lt. let n = ap length (other_post at x from t [] (λ q. absurd (omega (arith, q, e, lt)))) in omega arith) in
      let here = ap length (subst (λ (m : ℕ). posts_taken m at (take_entry at from t ∷ []) ≡ record { from = t.from; name = t.name } ∷ []) (sym e) (own_post at from t [])) in
      omega (arith, below, here)
  | inr ne ↦
      let below = one_from k at from t in
      let here = ap length (other_post at k from t [] (λ q. ne (sym q))) in
      omega (arith, below, here)
]

sum_taken : (n at low : ℕ) (es : List Entry) → AreTakes at low es → sum_below n (λ x. length (posts_taken x at es)) ≤ length es
sum_taken n at low [] a = let none = sum_most n 0 (λ x. 0) (λ x lt. omega arith) in omega (arith, none)
sum_taken n at low (e ∷ es) a =
    let first : sum_below n (λ x. length (posts_taken x at (e ∷ []))) ≤ 1 = subst (λ y. sum_below n (λ x. length (posts_taken x at (y ∷ []))) ≤ 1) (sym a.2) (one_from n at a.0 a.1) in
    let rest = sum_taken n at a.0 es a.4 in
    let both = sum_both n (λ x. length (posts_taken x at (e ∷ es))) (λ x. length (posts_taken x at (e ∷ []))) (λ x. length (posts_taken x at es))
    (λ x. ap length (taken_then x at (e ∷ []) es) ∙ length-append (posts_taken x at (e ∷ [])) (posts_taken x at es)) in
    omega (arith, first, rest, both)

-- ---- a drain that may take all takes all

lane_left : {sli : ℕ} (at from : ℕ) (rest ps : List Post) (d : DrainState sli) → d.world.waiting from at ≡ ps ++ rest → (fold (took_more at from) d ps).world.waiting from at ≡ rest
lane_left at from rest [] d e = e
lane_left at from rest (p ∷ ps) d e = lane_left at from rest ps (took_more at from d p) (edited_same d.world.waiting from at (drop 1 (d.world.waiting from at)) ∙ ap (drop 1) e)

-- the lane from one worker is empty, and this many posts were taken
record LaneOut {sli : ℕ} (at from : ℕ) (d b : DrainState sli) : Type 0 where
  empty : b.world.waiting from at ≡ []
  taken : b.taken ≡ d.taken + length (d.world.waiting from at)

lane_out : {sli : ℕ} (at most from : ℕ) (d : DrainState sli) → d.taken + length (d.world.waiting from at) ≤ most → LaneOut at from d (drained_waiting at most from d)
unfolding drained_waiting
lane_out at most from d le =
    let waits = d.world.waiting from at in
    let all : take (most - d.taken) waits ≡ waits = take_all (most - d.taken) waits (omega arith) in
    rw all (record { empty = lane_left at from [] waits d (sym (append-nil waits)); taken = lane_count at from waits d })

-- the lanes from the other workers below k are empty, and no more was taken than these bounds
record OthersOut {sli : ℕ} (at k : ℕ) (bound : ℕ → ℕ) (d b : DrainState sli) : Type 0 where
  empty : (x : ℕ) → x < k → x ≢ at → b.world.waiting x at ≡ []
  later : (x : ℕ) → k ≤ x → b.world.waiting x at ≡ d.world.waiting x at
  taken : b.taken ≤ d.taken + sum_below k bound

others_out : {sli : ℕ} (at most : ℕ) (bound : ℕ → ℕ) (d : DrainState sli) (k : ℕ) → ((x : ℕ) → x < k → x ≢ at → length (d.world.waiting x at) ≤ bound x) → d.taken + sum_below k bound ≤ most
    → OthersOut at k bound d (drained_below at most d k)
others_out at most bound d zero few le = record { empty = λ x lt ne. absurd (omega arith); later = λ x le. refl; taken = omega arith }
others_out at most bound d (suc k) few le =
    let b = drained_below at most d k in
    let first = others_out at most bound d k (λ x lt ne. few x (omega arith) ne) (omega arith) in
    let taken = first.taken in
    elim (cases_eq k at) [
      | inl e ↦
          rw (from_own at most b k e)
          (record { empty = λ x lt ne. let apart : x ≢ k = λ q. ne (q ∙ e) in first.empty x (omega arith) ne; later = λ x low. first.later x (omega arith); taken = omega (arith, taken) })
      | inr ne ↦
          let here = ap length (first.later k (omega arith)) in
          let most_here = few k (omega arith) ne in
          let lane = lane_out at most k b (omega (arith, taken, here, most_here, le)) in
          let count = lane.taken in
          rw (from_other at most b k ne)
          (record {
            empty = λ x lt other. elim (cases_eq x k) [ inl e ↦ rw e lane.empty | inr apart ↦ lane_apart at most k x b apart ∙ first.empty x (omega arith) other ];
            later = λ x low. let apart : x ≢ k = omega arith in lane_apart at most k x b apart ∙ first.later x (omega arith);
            taken = omega (arith, taken, here, most_here, count);
          })
    ]

drain_out : {sli : ℕ} (r : Replayed sli) (at x : ℕ) (bound : ℕ → ℕ) → ((y : ℕ) → y < length r.world.heaps → y ≢ at → length (r.world.waiting y at) ≤ bound y) → sum_below (length r.world.heaps) bound ≤ 8192
    → x < length r.world.heaps → x ≢ at → (draining r at 8192).world.waiting x at ≡ []
unfolding draining after_drain
drain_out r at x bound few le lt ne = (others_out at 8192 bound (record { entries = r.entries; world = r.world; taken = 0 }) (length r.world.heaps) few (omega (arith, le))).empty x lt ne

-- ---- a race

-- what worker j is told alone, after what its script was told in the race
may_tell_alone : {sli : ℕ} (w v : World sli) (scripts : List (List Call)) (records : List (List Entry)) (race : IsRace w scripts records v) → OnlyLastDrains scripts → (j : ℕ) (j_in : j < length w.heaps)
    → MayTell sli (length w.heaps) j (turn_of w v scripts records race j j_in).between last_call (told_by j (drained_alone w scripts j))
may_tell_alone w v scripts records race free j j_in =
    let a = told_alone w v scripts records race free j j_in in
    let r = alone w scripts j in
    let names = a.names in
    let entries = a.entries in (
      posted_alone w scripts r.world,
      (a.count, a.heap),
      λ k. told_by j (called (record { made = sym names k; entries = sym entries k; world = posted_alone w scripts r.world }) j last_call),
    )

pub race_runs_alone : (sli : ℕ) → RaceRunsAlone sli
unfolding may_tell_alone
race_runs_alone sli w v scripts records race free j j_in =
    let n = length w.heaps in
    let t = turn_of w v scripts records race j j_in in
    let z = t.between in
    let end = told_by j (drained_alone w scripts j) in
    let m : MayTell sli n j z last_call end = may_tell_alone w v scripts records race free j j_in in
    let count : length ((m.0).heaps) ≡ n = m.1.0 in
    let d = (t.last).is_drain in
    let bound : ℕ → ℕ = λ x. length (posts_taken x j d.takes) in
    let lane : (x : ℕ) → x < n → x ≢ j → (m.0).waiting x j ≡ posts_taken x j (t.last).own
    = λ x x_in ne. (told_alone w v scripts records race free x x_in).waits j ∙ sym (drained w v scripts records race free x j x_in j_in ne) in
    let few : (x : ℕ) → x < length ((m.0).heaps) → x ≢ j → length ((m.0).waiting x j) ≤ bound x
    = λ x lt ne. let e = ap length (lane x (omega (arith, lt, count)) ne) in let f = ap length (drain_takes x j j 8192 (t.last).own d) in omega (arith, e, f) in
    let le : sum_below (length ((m.0).heaps)) bound ≤ 8192 = let s = sum_taken (length ((m.0).heaps)) j 0 d.takes d.are_takes in let k = d.few in omega (arith, s, k) in
    let r : Replayed sli = record { made = z.made; entries = z.entries; world = m.0 } in
    let other = last_drain n j z end j_in m in
    same_last n j z (told_in w v scripts records race j) end t.last other
    (λ x x_in ne.
    let left = drain_out r j x bound few le (omega (arith, x_in, count)) ne in
    sym (lane x x_in ne) ∙ (last_posts sli n j z end j_in m x ∙ (ap (λ l. posts_taken x j other.own ++ l) left ∙ append-nil (posts_taken x j other.own))))
