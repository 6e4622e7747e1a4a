-- A worker who posts once, or takes once, has moved as that entry tells.
use Rattle.tlsf_crew.proofs.Common.{◌==◌, true, false, [], ◌∷◌, ◌≡◌, ◌≢◌, ℕ, zero, suc, ◌+◌, ◌<◌, ◌≤◌, List, Option, Some, None, Result, Ok, Err, length, take, sym, ◌∙◌, ap, arith, refl, inl, inr, append-nil, slice_index, cases_eq, cases_lt, nat_tests, Post, PostEnd, TakeEnd, posts_sent, free_slots, taken, ready, Name, Worker, Lanes, Entry, Release, Take, Target, Took, Posted, id_of, end_to, end_from, PostEndPut, TakeEndTook, sum_below, posts_made, posts_taken, post_of_release, post_of_take, name_of, OneFewer, one, PostEndMoved, TakeEndMoved, Spent, LaneMoved, IsPrefix, Taken}
use Rattle.tlsf_crew.proofs.lemmas.lanes.LaneSlots.{ports_numbers}
use Rattle.tlsf_crew.proofs.lemmas.lanes.YardKept.{put_keeps, take_keeps}
use Rattle.tlsf_crew.proofs.lemmas.histories.LaneCalls.{of_same, of_other}
use Rattle.tlsf_crew.proofs.lemmas.scripts.OneEntry.{EachLaneSame, Still, knows_same, the_one}
use Rattle.tlsf_crew.proofs.lemmas.worker.Slots.{some_same}
use Rattle.tlsf_crew.proofs.lemmas.histories.JoinedEntries.{told_nothing, told_own}

-- ---- a put

put_lanes : {sli : ℕ} (a v : Worker sli Lanes) (j : ℕ) (post : Post) (answer : Result (Unit {0}) Post) → PostEndPut a v j post answer → EachLaneSame a v
put_lanes a v j post answer put = record {
  numbers = (ports_numbers a v put.0 put.1.same.0);
  to = λ k. elim (cases_eq k j) [
    | inl e ↦ ((λ h. (put.1.end, ap (end_to a) e ∙ put.1.end_is)), (λ h. (put.1.new_end, ap (end_to v) e ∙ put.1.new_end_is)))
    | inr e ↦ ((λ h. (h.0, sym (put.1.others k e) ∙ h.1)), (λ h. (h.0, put.1.others k e ∙ h.1)))
  ];
  from = λ i. ((λ h. (h.0, ap (λ f. f i) (sym put.1.same.1) ∙ h.1)), (λ h. (h.0, ap (λ f. f i) put.1.same.1 ∙ h.1)));
}

-- the takes of a worker whose ends from others are the same
pub same_takes : {sli : ℕ} (at : ℕ) (a v : Worker sli Lanes) (i : ℕ) (t : TakeEnd) (entries : List Entry) → end_from v ≡ end_from a → posts_taken i at entries ≡ [] → end_from a i ≡ Some t → TakeEndMoved at v i entries t
same_takes at a v i t entries same none is = record {
  end = t;
  end_is = ap (λ f. f i) same ∙ is;
  waited = refl;
  taken = rw none (sym (append-nil (taken t)));
  ready = rw none ([], append-nil (ready t));
}

pub still_full : {sli : ℕ} (at : ℕ) (a v : Worker sli Lanes) (j : ℕ) (post back : Post) → post.from ≡ id_of a → PostEndPut a v j post (Err back) → Still at a v
still_full at a v j post back own put = record {
  lanes = put_lanes a v j post (Err back) put;
  yard = put_keeps a v j post (Err back) own put;
  to = λ made k p is. elim (cases_eq k j) [
    | inl e ↦
        let q : p ≡ put.1.end = some_same p put.1.end (sym is ∙ (ap (end_to a) e ∙ put.1.end_is)) in
        record {
          end = put.1.new_end;
          end_is = ap (end_to v) e ∙ put.1.new_end_is;
          sent = rw q (put.1.full.1 ∙ sym (append-nil (posts_sent put.1.end)));
          free = omega (arith, ap free_slots q, put.1.full.2);
        }
    | inr e ↦ record { end = p; end_is = put.1.others k e ∙ is; sent = sym (append-nil (posts_sent p)); free = omega arith }
  ];
  from = λ i t is. same_takes at a v i t [] put.1.same.1 refl is;
}

-- the lane was full
pub none_free : {sli : ℕ} (a v : Worker sli Lanes) (j : ℕ) (post back : Post) (p : PostEnd) → PostEndPut a v j post (Err back) → end_to a j ≡ Some p → free_slots p ≤ 0
none_free a v j post back p put is =
    let q : p ≡ put.1.end = some_same p put.1.end (sym is ∙ put.1.end_is) in
    elim (cases_lt 0 (free_slots put.1.end)) [
      | inl lt ↦ let e = put.1.succeeds lt in absurd cc
      | inr le ↦ omega (arith, ap free_slots q)
    ]

pub posts_made_by_post : (at : ℕ) (made : List (Option Name)) (target : Target) (name : Name) → name_of made target ≡ Some name
    → posts_made at name.heap made (one at (Release target) Posted) ≡ record { from = at; name = name } ∷ []
posts_made_by_post at made target name known =
    let e : Entry = record { worker = at; call = Release target; reply = Posted } in
    let one = told_own (λ e. post_of_release name.heap made e.worker e.call e.reply) at e refl in
    rw (one, known, of_same name.heap name refl) refl

pub release_posts_elsewhere : (at j : ℕ) (made : List (Option Name)) (target : Target) (name : Name) → name_of made target ≡ Some name → j ≢ name.heap
    → posts_made at j made (one at (Release target) Posted) ≡ []
release_posts_elsewhere at j made target name known ne =
    let e : Entry = record { worker = at; call = Release target; reply = Posted } in
    let f : Entry → Option Post = λ e. post_of_release j made e.worker e.call e.reply in
    let none : f e ≡ None = rw (known, of_other j name (λ q. ne (sym q))) refl in
    told_nothing f at e none

posted_few : (at j : ℕ) (made : List (Option Name)) (target : Target) (name : Name) → name_of made target ≡ Some name
    → length (posts_made at j made (one at (Release target) Posted)) ≤ 1
posted_few at j made target name known = elim (cases_eq j name.heap) [
  | inl e ↦ let q = ap length (posts_made_by_post at made target name known) in rw e (omega arith)
  | inr e ↦ omega (arith, ap length (release_posts_elsewhere at j made target name known e))
]

post_sends : {sli : ℕ} (at : ℕ) (made : List (Option Name)) (a v : Worker sli Lanes) (target : Target) (name : Name) (done : Unit {0}) → name_of made target ≡ Some name
    → PostEndPut a v name.heap (record { from = at; name = name }) (Ok done) → (j : ℕ) (p : PostEnd) → end_to a j ≡ Some p → PostEndMoved at made v j (one at (Release target) Posted) p
post_sends at made a v target name done known put j p is = elim (cases_eq j name.heap) [
  | inl e ↦
      let q : p ≡ put.1.end = some_same p put.1.end (sym is ∙ (ap (end_to a) e ∙ put.1.end_is)) in
      let m = posts_made_by_post at made target name known in
      record {
        end = put.1.new_end;
        end_is = ap (end_to v) e ∙ put.1.new_end_is;
        sent = rw (q, e, m) put.1.ok.0;
        free = rw (q, e, m) (omega (arith, put.1.ok.1));
      }
  | inr e ↦
      let m = release_posts_elsewhere at j made target name known e in
      record {
        end = p;
        end_is = put.1.others j e ∙ is;
        sent = rw m (sym (append-nil (posts_sent p)));
        free = omega arith;
      }
]

pub moved_post : {sli : ℕ} (at : ℕ) (made : List (Option Name)) (a v : Worker sli Lanes) (limits : List ℕ) (target : Target) (name : Name) (done : Unit {0}) → name_of made target ≡ Some name
    → at ≡ id_of a → PostEndPut a v name.heap (record { from = at; name = name }) (Ok done) → LaneMoved at made a limits (Release target ∷ []) (one at (Release target) Posted) v limits
moved_post at made a v limits target name done known own put =
    let e : Entry = record { worker = at; call = Release target; reply = Posted } in
    let lanes = put_lanes a v name.heap (record { from = at; name = name }) (Ok done) put in
    let none = λ (i : ℕ). told_nothing (λ e. post_of_take i e.call e.reply) at e refl in
    record {
      yard = put_keeps a v name.heap (record { from = at; name = name }) (Ok done) own put;
      numbers = (ports_numbers a v put.0 put.1.same.0);
      knows = λ n. knows_same n a v lanes;
      sent = post_sends at made a v target name done known put;
      taken = λ i t is. same_takes at a v i t (e ∷ []) put.1.same.1 (none i) is;
      left_is = λ i. omega (arith, ap length (none i));
      full = λ before x other p s r is. let q = ap (λ y. y.reply) (the_one e before x s).1 in absurd cc;
      empty = λ before x i s c r. let q = ap (λ y. y.call) (the_one e before x s).1 in absurd cc;
      drained = λ before x most k i s c r lt. let q = ap (λ y. y.call) (the_one e before x s).1 in absurd cc;
      few_posts = λ j. posted_few at j made target name known;
      few_entries = omega arith;
    }

-- ---- a take

same_after_take : {sli : ℕ} (a v : Worker sli Lanes) (i : ℕ) (answer : Option Post) → TakeEndTook a v i answer → EachLaneSame a v
same_after_take a v i answer took = record {
  numbers = (ports_numbers a v took.0 took.1.same.0);
  to = λ j. ((λ h. (h.0, ap (λ f. f j) (sym took.1.same.1) ∙ h.1)), (λ h. (h.0, ap (λ f. f j) took.1.same.1 ∙ h.1)));
  from = λ k. elim (cases_eq k i) [
    | inl e ↦ ((λ h. (took.1.end, ap (end_from a) e ∙ took.1.end_is)), (λ h. (took.1.new_end, ap (end_from v) e ∙ took.1.new_end_is)))
    | inr e ↦ ((λ h. (h.0, sym (took.1.others k e) ∙ h.1)), (λ h. (h.0, took.1.others k e ∙ h.1)))
  ];
}

-- the sends of a worker whose ends to others are the same
same_sends : {sli : ℕ} (at : ℕ) (made : List (Option Name)) (a v : Worker sli Lanes) (j : ℕ) (p : PostEnd) (entries : List Entry) → end_to v ≡ end_to a → posts_made at j made entries ≡ [] → end_to a j ≡ Some p
    → PostEndMoved at made v j entries p
same_sends at made a v j p entries same none is = record {
  end = p;
  end_is = ap (λ f. f j) same ∙ is;
  sent = rw none (sym (append-nil (posts_sent p)));
  free = omega arith;
}

none_long : (xs : List Post) → length xs ≤ 0 → xs ≡ []
none_long [] le = refl
none_long (x ∷ xs) le = absurd (omega arith)

-- the end knew none to be ready
pub none_ready : {sli : ℕ} (a v : Worker sli Lanes) (i : ℕ) → (took : TakeEndTook a v i None) → ready took.1.end ≡ []
none_ready a v i took = elim (cases_lt 0 (length (ready took.1.end))) [
  | inl lt ↦ let e = took.1.succeeds lt in absurd cc
  | inr le ↦ none_long (ready took.1.end) le
]

pub spent_none : {sli : ℕ} (at : ℕ) (a v : Worker sli Lanes) (limits : List ℕ) (i : ℕ) → TakeEndTook a v i None → Spent a limits at i []
spent_none at a v limits i took t is =
    let q : t ≡ took.1.end = some_same t took.1.end (sym is ∙ took.1.end_is) in
    let r : ready t ≡ [] = ap ready q ∙ none_ready a v i took in
    rw r (none_of (slice_index limits i))
  where
    none_of : (n : ℕ) → IsPrefix {A = Post} (take n []) []
    none_of zero = ([], refl)
    none_of (suc n) = ([], refl)

pub still_empty : {sli : ℕ} (at : ℕ) (a v : Worker sli Lanes) (i : ℕ) → TakeEndTook a v i None → Still at a v
still_empty at a v i took = record {
  lanes = same_after_take a v i None took;
  yard = take_keeps a v i None took;
  to = λ made j p is. same_sends at made a v j p [] took.1.same.1 refl is;
  from = λ k t is. elim (cases_eq k i) [
    | inl e ↦
        let q : t ≡ took.1.end = some_same t took.1.end (sym is ∙ (ap (end_from a) e ∙ took.1.end_is)) in
        record {
          end = took.1.new_end;
          end_is = ap (end_from v) e ∙ took.1.new_end_is;
          waited = rw q took.1.still;
          taken = rw q (took.1.none ∙ sym (append-nil (taken took.1.end)));
          ready = rw (q, none_ready a v i took) (ready took.1.new_end, refl);
        }
    | inr e ↦ record { end = t; end_is = took.1.others k e ∙ is; waited = refl; taken = sym (append-nil (taken t)); ready = ([], append-nil (ready t)) }
  ];
}

-- the take of a post, whatever its heap answers
pub taken_same : (at i : ℕ) (t : Took) → posts_taken i at (one at (Take i) (Taken t)) ≡ record { from = t.from; name = t.name } ∷ []
taken_same at i t =
    let e : Entry = record { worker = at; call = Take i; reply = Taken t } in
    let own : (i == i) ≡ true = grind (arith, nat_tests) in
    told_own (λ e. post_of_take i e.call e.reply) at e refl ∙ rw own refl

pub taken_elsewhere : (at i k : ℕ) (t : Took) → k ≢ i → posts_taken k at (one at (Take i) (Taken t)) ≡ []
taken_elsewhere at i k t ne =
    let e : Entry = record { worker = at; call = Take i; reply = Taken t } in
    let other : (i == k) ≡ false = grind (arith, nat_tests) in
    let f : Entry → Option Post = λ e. post_of_take k e.call e.reply in
    let none : f e ≡ None = rw other refl in
    told_nothing f at e none

take_end_takes : {sli : ℕ} (at : ℕ) (a v : Worker sli Lanes) (i : ℕ) (t : Took) → TakeEndTook a v i (Some (record { from = t.from; name = t.name })) → (k : ℕ) (end : TakeEnd) → end_from a k ≡ Some end
    → TakeEndMoved at v k (one at (Take i) (Taken t)) end
take_end_takes at a v i t took k end is = elim (cases_eq k i) [
  | inl e ↦
      let q : end ≡ took.1.end = some_same end took.1.end (sym is ∙ (ap (end_from a) e ∙ took.1.end_is)) in
      let m = taken_same at i t in
      record {
        end = took.1.new_end;
        end_is = ap (end_from v) e ∙ took.1.new_end_is;
        waited = rw q took.1.still;
        taken = rw (q, e, m) took.1.some.0;
        ready = rw (q, e, m) took.1.some.1;
      }
  | inr e ↦
      let m = taken_elsewhere at i k t e in
      record { end = end; end_is = took.1.others k e ∙ is; waited = refl; taken = rw m (sym (append-nil (taken end))); ready = rw m ([], append-nil (ready end)) }
]

taken_left : (at : ℕ) (limits left : List ℕ) (i : ℕ) (t : Took) → OneFewer limits i left → (k : ℕ) → slice_index left k + length (posts_taken k at (one at (Take i) (Taken t))) ≡ slice_index limits k
taken_left at limits left i t fewer k = elim (cases_eq k i) [
  | inl e ↦ let m = ap length (taken_same at i t) in let f = fewer.0 in rw e (omega arith)
  | inr e ↦ omega (arith, ap length (taken_elsewhere at i k t e), fewer.1 k e)
]

pub sum_has : (n : ℕ) (f : ℕ → ℕ) (i : ℕ) → i < n → f i ≤ sum_below n f
sum_has zero f i lt = absurd (omega arith)
sum_has (suc n) f i lt = elim (cases_eq i n) [
  | inl e ↦ let q = ap f e in omega arith
  | inr e ↦ omega (arith, sum_has n f i (omega arith))
]

pub moved_take : {sli : ℕ} (at : ℕ) (made : List (Option Name)) (a v : Worker sli Lanes) (limits left : List ℕ) (i : ℕ) (t : Took) → i < 8 → OneFewer limits i left
    → TakeEndTook a v i (Some (record { from = t.from; name = t.name })) → LaneMoved at made a limits [] (one at (Take i) (Taken t)) v left
moved_take at made a v limits left i t near fewer took =
    let e : Entry = record { worker = at; call = Take i; reply = Taken t } in
    let p : Post = record { from = t.from; name = t.name } in
    let none = λ (j : ℕ). told_nothing (λ e. post_of_release j made e.worker e.call e.reply) at e refl in
    record {
      yard = take_keeps a v i (Some p) took;
      numbers = (ports_numbers a v took.0 took.1.same.0);
      knows = λ n. knows_same n a v (same_after_take a v i (Some p) took);
      sent = λ j x is. same_sends at made a v j x (e ∷ []) took.1.same.1 (none j) is;
      taken = take_end_takes at a v i t took;
      left_is = taken_left at limits left i t fewer;
      full = λ before x name q s r is. let y = ap (λ z. z.reply) (the_one e before x s).1 in absurd cc;
      empty = λ before x k s c r. let y = ap (λ z. z.reply) (the_one e before x s).1 in absurd cc;
      drained = λ before x most k j s c r lt. let y = ap (λ z. z.reply) (the_one e before x s).1 in absurd cc;
      few_posts = λ j. omega (arith, ap length (none j));
      few_entries = omega (arith, ap length (taken_same at i t), sum_has 8 (λ k. length (posts_taken k at (e ∷ []))) i near);
    }
