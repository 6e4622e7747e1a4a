-- A worker who makes no entry, or one that tells of no lane, has moved as it tells.
use Rattle.tlsf_crew.proofs.Common.{[], ◌∷◌, ◌++◌, ◌≡◌, ℕ, ◌<◌, ◌≤◌, List, Option, Some, length, sym, ◌∙◌, ap, arith, refl, inl, inr, ◌⊎◌, subst, append-nil, length-append, ◌↔◌, PostEnd, TakeEnd, posts_sent, free_slots, taken, ready, Name, Worker, Lanes, Entry, Call, Take, Drain, Empty, Drained, Refused, Full, id_of, SameButHeap, id_and_capacity, end_to, end_from, HasPost, HasTake, KnowsYard, KeepsYards, IsNoPost, posts_made, posts_taken, post_of_release, post_of_take, StandsBehind, PostEndMoved, TakeEndMoved, Spent, LaneMoved, IsPrefix}
use Rattle.tlsf_crew.proofs.lemmas.lanes.LaneSlots.{same_parts}
use Rattle.tlsf_crew.proofs.lemmas.model.Sums.{same_sum}
use Rattle.tlsf_crew.proofs.lemmas.histories.JoinedEntries.{made_then, taken_then, told_nothing}
use Rattle.tlsf_crew.proofs.lemmas.scripts.ManyEntries.{stands_split}

-- ---- the ends that a worker knows

-- the same ends are there
pub record EachLaneSame {sli : ℕ} (a v : Worker sli Lanes) : Type 0 where
  pub numbers : id_and_capacity v ≡ id_and_capacity a
  pub to : (j : ℕ) → HasPost v j ↔ HasPost a j
  pub from : (i : ℕ) → HasTake v i ↔ HasTake a i

pub knows_same : {sli : ℕ} (n : ℕ) (a v : Worker sli Lanes) → EachLaneSame a v → KnowsYard n a → KnowsYard n v
knows_same n a v s k =
    let id : id_of v ≡ id_of a = ap (λ x. x.0) s.numbers in
    record {
      few = k.few;
      self = omega (arith, id, k.self);
      to = λ j. ((λ h. let x = (k.to j).0 ((s.to j).0 h) in (x.0, λ q. x.1 (q ∙ id))), (λ h. (s.to j).1 ((k.to j).1 (h.0, λ q. h.1 (q ∙ sym id)))));
      from = λ i. ((λ h. let x = (k.from i).0 ((s.from i).0 h) in (x.0, λ q. x.1 (q ∙ id))), (λ h. (s.from i).1 ((k.from i).1 (h.0, λ q. h.1 (q ∙ sym id)))));
    }

pub heap_lanes : {sli : ℕ} (a v : Worker sli Lanes) → SameButHeap a v → EachLaneSame a v
heap_lanes a v same = record {
  numbers = (same_parts a v same).0;
  to = λ j. ((λ h. (h.0, ap (λ f. f j) (sym (same_parts a v same).1) ∙ h.1)), (λ h. (h.0, ap (λ f. f j) (same_parts a v same).1 ∙ h.1)));
  from = λ i. ((λ h. (h.0, ap (λ f. f i) (sym (same_parts a v same).2) ∙ h.1)), (λ h. (h.0, ap (λ f. f i) (same_parts a v same).2 ∙ h.1)));
}

-- ---- no entry

pub no_entry : (before : List Entry) (e : Entry) → StandsBehind [] before e → ⊥
no_entry [] e s = let h = s.1 in cc
no_entry (b ∷ before) e s = let h = s.1 in cc

-- an end to j that sent nothing, and one from i that took nothing
pub record Still {sli : ℕ} (at : ℕ) (a v : Worker sli Lanes) : Type 0 where
  pub lanes : EachLaneSame a v
  pub yard : KeepsYards a v
  pub to : (made : List (Option Name)) (j : ℕ) (p : PostEnd) → end_to a j ≡ Some p → PostEndMoved at made v j [] p
  pub from : (i : ℕ) (t : TakeEnd) → end_from a i ≡ Some t → TakeEndMoved at v i [] t

pub moved_still : {sli : ℕ} (at : ℕ) (made : List (Option Name)) (a v : Worker sli Lanes) (limits : List ℕ) → Still at a v → LaneMoved at made a limits [] [] v limits
moved_still at made a v limits s = record {
  yard = s.yard;
  numbers = s.lanes.numbers;
  knows = λ n. knows_same n a v s.lanes;
  sent = s.to made;
  taken = s.from;
  left_is = λ i. omega arith;
  full = λ before e name p h. absurd (no_entry before e h);
  empty = λ before e i h. absurd (no_entry before e h);
  drained = λ before e most k i h. absurd (no_entry before e h);
  few_posts = λ j. omega arith;
  few_entries = omega arith;
}

-- another heap
pub still_heap : {sli : ℕ} (at : ℕ) (a v : Worker sli Lanes) → SameButHeap a v → KeepsYards a v → Still at a v
still_heap at a v same yard = record {
  lanes = heap_lanes a v same;
  yard = yard;
  to = λ made j p is. record { end = p; end_is = ap (λ f. f j) (same_parts a v same).1 ∙ is; sent = sym (append-nil (posts_sent p)); free = omega arith };
  from = λ i t is. record { end = t; end_is = ap (λ f. f i) (same_parts a v same).2 ∙ is; waited = refl; taken = sym (append-nil (taken t)); ready = ([], append-nil (ready t)) };
}

-- ---- one entry more, which tells of no lane

pub record IsIdle {sli : ℕ} (at : ℕ) (made : List (Option Name)) (a : Worker sli Lanes) (limits : List ℕ) (entries : List Entry) (e : Entry) : Type 0 where
  pub posts : IsNoPost made e
  pub full : (name : Name) (p : PostEnd) → e.reply ≡ Refused (Full name) → end_to a name.heap ≡ Some p → free_slots p ≤ length (posts_made at name.heap made entries)
  pub empty : (i : ℕ) → e.call ≡ Take i → e.reply ≡ Empty → Spent a limits at i entries
  pub drained : (most k i : ℕ) → e.call ≡ Drain most → e.reply ≡ Drained k → k < most → Spent a limits at i entries

-- the only entry of one
pub the_one : (x : Entry) (before : List Entry) (e : Entry) → StandsBehind (x ∷ []) before e → (before ≡ []) × (e ≡ x)
the_one x [] e s = let h = s.1 in (refl, cc)
the_one x (b ∷ before) e s = let h = s.1 in let q : [] ≡ before ++ e ∷ s.0 = cc in absurd (no_entry before e (s.0, q))

-- an entry after others: one of them, or the last
pub stands_last : (xs : List Entry) (x : Entry) (before : List Entry) (e : Entry) → StandsBehind (xs ++ x ∷ []) before e → StandsBehind xs before e ⊎ ((before ≡ xs) × (e ≡ x))
stands_last xs x before e s = elim (stands_split xs (x ∷ []) before e s) [
  | inl u ↦ inl u
  | inr u ↦ let o = the_one x u.0 e u.2 in inr (u.1 ∙ (ap (λ l. xs ++ l) o.0 ∙ append-nil xs), o.1)
]

none_made : (at j : ℕ) (made : List (Option Name)) (xs : List Entry) (e : Entry) → IsNoPost made e → posts_made at j made (xs ++ e ∷ []) ≡ posts_made at j made xs
none_made at j made xs e n =
    made_then at j made xs (e ∷ []) ∙ (ap (λ l. posts_made at j made xs ++ l) (told_nothing (λ x. post_of_release j made x.worker x.call x.reply) at e (n.made_none j)) ∙ append-nil (posts_made at j made xs))

none_taken : (i at : ℕ) (made : List (Option Name)) (xs : List Entry) (e : Entry) → IsNoPost made e → posts_taken i at (xs ++ e ∷ []) ≡ posts_taken i at xs
none_taken i at made xs e n =
    taken_then i at xs (e ∷ []) ∙ (ap (λ l. posts_taken i at xs ++ l) (told_nothing (λ x. post_of_take i x.call x.reply) at e (n.taken_none i)) ∙ append-nil (posts_taken i at xs))

pub moved_idle : {sli : ℕ} (at : ℕ) (made : List (Option Name)) (a v : Worker sli Lanes) (limits left : List ℕ) (xs : List Entry) (e : Entry) (call : Call)
    → LaneMoved at made a limits [] xs v left → IsIdle at made a limits xs e → LaneMoved at made a limits (call ∷ []) (xs ++ e ∷ []) v left
moved_idle at made a v limits left xs e call m idle =
    let n = idle.posts in
    record {
      yard = m.yard;
      numbers = m.numbers;
      knows = m.knows;
      sent = λ j p is. let s = m.sent j p is in let q = none_made at j made xs e n in record {
        end = s.end;
        end_is = s.end_is;
        sent = s.sent ∙ ap (λ l. posts_sent p ++ l) (sym q);
        free = omega (arith, s.free, ap length q);
      };
      taken = λ i t is. let s = m.taken i t is in let q = none_taken i at made xs e n in record {
        end = s.end;
        end_is = s.end_is;
        waited = s.waited;
        taken = s.taken ∙ ap (λ l. taken t ++ l) (sym q);
        ready = subst (λ l. IsPrefix (ready t) (l ++ ready s.end)) (sym q) s.ready;
      };
      left_is = λ i. omega (arith, m.left_is i, ap length (none_taken i at made xs e n));
      full = λ before x name p s r is. elim (stands_last xs e before x s) [
        | inl u ↦ m.full before x name p u r is
        | inr u ↦ rw u.0 (idle.full name p (ap (λ y. y.reply) (sym u.1) ∙ r) is)
      ];
      empty = λ before x i s c r. elim (stands_last xs e before x s) [
        | inl u ↦ m.empty before x i u c r
        | inr u ↦ subst (Spent a limits at i) (sym u.0) (idle.empty i (ap (λ y. y.call) (sym u.1) ∙ c) (ap (λ y. y.reply) (sym u.1) ∙ r))
      ];
      drained = λ before x most k i s c r lt. elim (stands_last xs e before x s) [
        | inl u ↦ m.drained before x most k i u c r lt
        | inr u ↦ subst (Spent a limits at i) (sym u.0) (idle.drained most k i (ap (λ y. y.call) (sym u.1) ∙ c) (ap (λ y. y.reply) (sym u.1) ∙ r) lt)
      ];
      few_posts = λ j. omega (arith, m.few_posts j, ap length (none_made at j made xs e n));
      few_entries = omega (
        arith,
        m.few_entries,
        length-append xs (e ∷ []),
        same_sum 8 (λ i. length (posts_taken i at xs)) (λ i. length (posts_taken i at (xs ++ e ∷ []))) (λ i _. ap length (none_taken i at made xs e n)),
      );
    }
