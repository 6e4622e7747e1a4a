-- The entries of a list of events lead, one after another, from the first world to the last.
use Rattle.tlsf_yard_laws.proofs.Common.{zero, suc, [], ◌∷◌, ◌++◌, ◌≡◌, ◌≢◌, ℕ, ◌+◌, ◌-◌, ◌*◌, ◌<◌, ◌≤◌, List, Option, Some, None, length, All, refl, sym, ap, ◌∙◌, arith, inl, inr, subst, append_assoc, append-nil, length-append, AllByRecursion, fold, cases_lt, All-tail, IsLevel, HeapState, want, IsLawful, Name, Post, mixed_words, IsServed, World, Replayed, answered, begun, called, heap_in, replies, AreTakes, RunsTo, TellsCall, answer_told, answers_on, call_on_own, calls_on, post_of_release, post_of_take, posts_made, posts_taken, Entry, Call, Release, Drain, Target, Drained, Refused, Stranger, SharedMixedSizesServe, lawful_run, Agrees, new_agrees, InMixed, opens, Event, called_knows, called_told, more_knows, ToldOnce, after_far, after_near, runs_through, HasItsAnswer, told_nothing, told_other, told_then}
use Rattle.tlsf_crew.specs.model.World.{after}
use Rattle.tlsf_crew.proofs.lemmas.histories.OwnCalls.{Knows}
use Rattle.tlsf_yard_laws.proofs.Shares.{AllLead, all_served}
use Rattle.tlsf_yard_laws.proofs.ShortLanes.{AreShort, StayShort, called_short}

-- ---- entries that post nothing for worker j

abbrev IsQuiet : List (Option Name) → ℕ → Entry → Type 0
IsQuiet made j e = post_of_release j made e.worker e.call e.reply ≡ None

module _ (sli : ℕ) (level : IsLevel sli) (made : List (Option Name)) (n j capacity : ℕ) (j_in : j < n) where
  quiet_one : (i : ℕ) (e : Entry) → IsQuiet made j e → posts_made i j made (e ∷ []) ≡ []
  quiet_one i e quiet = told_nothing (λ e. post_of_release j made e.worker e.call e.reply) i e quiet

  quiet_all : (i : ℕ) (es : List Entry) → AllByRecursion (IsQuiet made j) es → posts_made i j made es ≡ []
  quiet_all i [] quiet = refl
  quiet_all i (e ∷ es) quiet =
      told_then (λ e. post_of_release j made e.worker e.call e.reply) i (e ∷ []) es
      ∙ (ap (λ l. l ++ posts_made i j made es) (quiet_one i e quiet.0) ∙ quiet_all i es quiet.1)

  -- the same heap and the same posts lead on
  same_lead : (h g : HeapState) (lanes later : ℕ → List Post) (ys : List Entry) → h ≡ g → ((i : ℕ) → lanes i ≡ later i)
      → AllLead sli j n capacity made g later ys → AllLead sli j n capacity made h lanes ys
  same_lead h g lanes later [] heap same lead = tt
  same_lead h g lanes later (y ∷ ys) heap same lead = (
    lead.0,
    lead.1,
    record {
      run = subst (λ (x : HeapState). RunsTo sli x (calls_on j made (y ∷ [])) (answers_on j (y ∷ [])) lead.0) (sym heap) lead.2.run;
      posts = λ i. ap (λ l. l ++ posts_made i j made (y ∷ [])) (same i) ∙ lead.2.posts i;
      short = lead.2.short;
      near = lead.2.near;
    },
    lead.3,
  )

  -- entries that are told together lead one by one
  quiet_lead : (xs ys : List Entry) (h g : HeapState) (lanes later : ℕ → List Post) → IsLawful h → All (HasItsAnswer made n) xs → AllByRecursion (IsQuiet made j) xs
      → RunsTo sli h (calls_on j made xs) (answers_on j xs) g → ((i : ℕ) → lanes i ≡ posts_taken i j xs ++ later i) → ((i : ℕ) → length (lanes i) ≤ capacity)
      → AllLead sli j n capacity made g later ys → AllLead sli j n capacity made h lanes (xs ++ ys)
  quiet_lead [] ys h g lanes later lawful each quiet run posts short lead = same_lead h g lanes later ys run.left posts lead
  quiet_lead (x ∷ xs) ys h g lanes later lawful each quiet run posts short lead =
      let t = runs_through made n j h g (x ∷ []) xs j_in level lawful each run in
      let middle : ℕ → List Post = λ i. posts_taken i j xs ++ later i in
      let split : (i : ℕ) → lanes i ≡ posts_taken i j (x ∷ []) ++ (posts_taken i j xs ++ later i)
      = λ i. posts i ∙ (ap (λ l. l ++ later i) (told_then (λ e. post_of_take i e.call e.reply) j (x ∷ []) xs) ∙ append_assoc (posts_taken i j (x ∷ [])) (posts_taken i j xs) (later i)) in
      let less : (i : ℕ) → length (posts_taken i j xs ++ later i) ≤ capacity
      = λ i. let a = ap length (split i) in let b = length-append (posts_taken i j (x ∷ [])) (posts_taken i j xs ++ later i) in let c = short i in omega arith in (
        t.between,
        middle,
        record {
          run = t.first;
          posts = λ i. ap (λ l. lanes i ++ l) (quiet_one i x quiet.0) ∙ (append-nil (lanes i) ∙ split i);
          short = less;
          near = λ p is. let none : ◌≡◌ {A = Option Post} None (Some p) = sym quiet.0 ∙ is in absurd cc;
        },
        quiet_lead xs ys t.between g middle later t.lawful (All-tail (HasItsAnswer made n) x xs each) quiet.1 t.rest (λ i. refl) less lead,
      )

  -- ---- one event

  record Turn (r s : Replayed sli) : Type 0 where
    own : List Entry
    entries : s.entries ≡ r.entries ++ own
    count : length s.world.heaps ≡ length r.world.heaps
    lawful : IsLawful (heap_in s.world j)
    stays : StayShort j r.world s.world
    lead : (ys : List Entry) → AllLead sli j n capacity made (heap_in s.world j) (λ i. s.world.waiting i j) ys
        → AllLead sli j n capacity made (heap_in r.world j) (λ i. r.world.waiting i j) (own ++ ys)

  -- what holds of the world before an event
  record Before (r : Replayed sli) : Type 0 where
    count : length r.world.heaps ≡ n
    lawful : IsLawful (heap_in r.world j)
    room : r.world.capacity ≡ capacity
    short : AreShort j r.world

  few : (r : Replayed sli) → Before r → (i : ℕ) → length (r.world.waiting i j) ≤ capacity
  few r b i = subst (λ (c : ℕ). length (r.world.waiting i j) ≤ c) b.room (b.short i)

  takes_quiet : (at low most : ℕ) (es : List Entry) → AreTakes at low es → AllByRecursion (IsQuiet made j) (es ++ record { worker = at; call = Drain most; reply = Drained (length es) } ∷ [])
  takes_quiet at low most es takes = on es (length es) low takes
    where
      on : (es : List Entry) (k low : ℕ) → AreTakes at low es → AllByRecursion (IsQuiet made j) (es ++ record { worker = at; call = Drain most; reply = Drained k } ∷ [])
      on [] k low takes = (refl, tt)
      on (e ∷ es) k low takes = (subst (IsQuiet made j) (sym takes.2) refl, on es k takes.0 takes.4)

  quiet_turn : (r s : Replayed sli) (at : ℕ) (call : Call) (t : ToldOnce made r s (TellsCall at r.made call)) → Before r → StayShort j r.world s.world → AllByRecursion (IsQuiet made j) t.own → Turn r s
  quiet_turn r s at call t b stays quiet =
      let j_here : j < length r.world.heaps = omega (arith, b.count) in
      let run = t.history.heaps j j_here in
      record {
        own = t.own;
        entries = t.entries;
        count = t.history.count;
        lawful = subst IsLawful run.left (lawful_run sli level (heap_in r.world j) (calls_on j made t.own) b.lawful);
        stays = stays;
        lead = λ ys lead. quiet_lead t.own ys (heap_in r.world j) (heap_in s.world j) (λ i. r.world.waiting i j) (λ i. s.world.waiting i j) b.lawful
            (subst (λ (x : ℕ). All (HasItsAnswer made x) t.own) b.count t.history.each) quiet run
            (λ i. sym (append-nil (r.world.waiting i j)) ∙ (sym (ap (λ l. r.world.waiting i j ++ l) (quiet_all i t.own quiet)) ∙ t.history.posts i j)) (few r b) lead;
      }

  -- a release may post: it leads by itself
  release_turn : (r s : Replayed sli) (at : ℕ) (target : Target) (t : ToldOnce made r s (TellsCall at r.made (Release target))) → at < n → Before r → StayShort j r.world s.world → Turn r s
  release_turn r s at target t at_in b stays =
      let j_here : j < length r.world.heaps = omega (arith, b.count) in
      let run = t.history.heaps j j_here in
      let e : Entry = record { worker = at; call = Release target; reply = t.tells.reply } in
      let whole : t.own ≡ e ∷ [] = t.tells.whole in
      record {
        own = t.own;
        entries = t.entries;
        count = t.history.count;
        lawful = subst IsLawful run.left (lawful_run sli level (heap_in r.world j) (calls_on j made t.own) b.lawful);
        stays = stays;
        lead = λ ys lead. subst (λ l. AllLead sli j n capacity made (heap_in r.world j) (λ i. r.world.waiting i j) (l ++ ys)) (sym whole) (
          heap_in s.world j,
          (λ i. s.world.waiting i j),
          record {
            run = subst (λ l. RunsTo sli (heap_in r.world j) (calls_on j made l) (answers_on j l) (heap_in s.world j)) whole run;
            posts = λ i. subst (λ l. r.world.waiting i j ++ posts_made i j made l ≡ posts_taken i j l ++ s.world.waiting i j) whole (t.history.posts i j);
            short = λ i. subst (λ (c : ℕ). length (s.world.waiting i j) ≤ c) (stays.capacity ∙ b.room) (stays.short b.short i);
            near = λ p is. at_in;
          },
          lead,
        );
      }

  called_turn : (r : Replayed sli) (at : ℕ) (call : Call) → at < n → Before r → Knows made r.made → Turn r (called r at call)
  called_turn r at call at_in b known = on call (called_told made r at call (omega (arith, at_in, b.count)) known)
    where
      on : (call : Call) → ToldOnce made r (called r at call) (TellsCall at r.made call) → Turn r (called r at call)
      on (Release target) t = release_turn r (called r at (Release target)) at target t at_in b (called_short j r at (Release target))
      on (Drain most) t = quiet_turn r (called r at (Drain most)) at (Drain most) t b (called_short j r at (Drain most))
          (subst (AllByRecursion (IsQuiet made j)) (sym t.tells.1.whole) (takes_quiet at 0 most t.tells.1.takes t.tells.1.are_takes))
      on call t = quiet_turn r (called r at call) at call t b (called_short j r at call) (subst (AllByRecursion (IsQuiet made j)) (sym t.tells.whole) (refl, tt))

  -- an event of no worker
  far_turn : (r : Replayed sli) (e : Event) → n ≤ e.worker → Before r → Turn r (answered r e.worker e.call (record { reply = Refused Stranger; world = r.world }))
  far_turn r e far b =
      let x : Entry = record { worker = e.worker; call = e.call; reply = Refused Stranger } in
      let away : e.worker ≢ j = λ q. absurd (omega (arith, q, far, j_in)) in
      let calls : calls_on j made (x ∷ []) ≡ [] = told_other (λ e. call_on_own made e.worker e.call e.reply) j x away in
      let answers : answers_on j (x ∷ []) ≡ [] = told_other (λ e. answer_told e.call e.reply) j x away in
      let quiet = quiet_far e.worker e.call in
      let h = heap_in r.world j in
      record {
        own = x ∷ [];
        entries = refl;
        count = refl;
        lawful = b.lawful;
        stays = record { capacity = refl; short = λ s. s };
        lead = λ ys lead. (
          h,
          (λ i. r.world.waiting i j),
          record {
            run = subst (λ c. RunsTo sli h c (answers_on j (x ∷ [])) h) (sym calls) (subst (λ a. RunsTo sli h [] a h) (sym answers) (record { told = refl; left = refl }));
            posts = λ i. ap (λ l. r.world.waiting i j ++ l) (quiet_one i x quiet) ∙ (append-nil (r.world.waiting i j)
                ∙ sym (ap (λ l. l ++ r.world.waiting i j) (told_other (λ e. post_of_take i e.call e.reply) j x away)));
            short = few r b;
            near = λ p is. let none : ◌≡◌ {A = Option Post} None (Some p) = sym quiet ∙ is in absurd cc;
          },
          lead,
        );
      }
    where
      quiet_far : (at : ℕ) (call : Call) → post_of_release j made at call (Refused Stranger) ≡ None
      quiet_far at (Release target) = refl
      quiet_far at call = refl

  turn : (r : Replayed sli) (e : Event) → Before r → Knows made r.made → Turn r (after r e)
  turn r e b known = elim (cases_lt e.worker (length r.world.heaps)) [
    | inl lt ↦ rw (after_near r e e.call lt refl) (called_turn r e.worker e.call (omega (arith, lt, b.count)) b known)
    | inr ge ↦ rw (after_far r e ge) (far_turn r e (omega (arith, ge, b.count)) b)
  ]

  -- ---- all events

  after_knows : (r : Replayed sli) (e : Event) → Knows (after r e).made r.made
  after_knows r e = elim (cases_lt e.worker (length r.world.heaps)) [
    | inl lt ↦ rw (after_near r e e.call lt refl) (called_knows r e.worker e.call)
    | inr ge ↦ rw (after_far r e ge) (more_knows r.made (None ∷ []))
  ]

  all_know : (es : List Event) (r : Replayed sli) → Knows (fold after r es).made r.made
  all_know [] r target name e = e
  all_know (x ∷ es) r target name e = all_know es (after r x) target name (after_knows r x target name e)

  turns : (es : List Event) (r : Replayed sli) → Before r → Knows made (fold after r es).made
      → (own : List Entry) × ((fold after r es).entries ≡ r.entries ++ own) × AllLead sli j n capacity made (heap_in r.world j) (λ i. r.world.waiting i j) own
  turns [] r b known = ([], sym (append-nil r.entries), tt)
  turns (e ∷ es) r b known =
      let first = turn r e b (λ target name q. known target name (all_know (e ∷ es) r target name q)) in
      let later : Before (after r e) = record { count = first.count ∙ b.count; lawful = first.lawful; room = first.stays.capacity ∙ b.room; short = first.stays.short b.short } in
      let rest = turns es (after r e) later known in
      (first.own ++ rest.0, rest.1 ∙ (ap (λ l. l ++ rest.0) first.entries ∙ append_assoc r.entries first.own rest.0), first.lead rest.0 rest.2)

-- the entries of a replay lead from its first world
replies_lead : {sli : ℕ} (level : IsLevel sli) (w : World sli) (es : List Event) (n j : ℕ) → j < n → length w.heaps ≡ n → IsLawful (heap_in w j) → AreShort j w
    → AllLead sli j n w.capacity (replies w es).made (heap_in w j) (λ i. w.waiting i j) (replies w es).entries
unfolding replies
replies_lead {sli} level w es n j j_in count lawful short =
    let z = fold after (begun w) es in
    let t = turns sli level z.made n j w.capacity j_in es (begun w) (record { count = count; lawful = lawful; room = refl; short = short }) (λ target name e. e) in
    subst (AllLead sli j n w.capacity z.made (heap_in w j) (λ i. w.waiting i j)) (sym t.1) t.2

pub shared_serves : (sli : ℕ) → IsLevel sli → SharedMixedSizesServe sli
shared_serves sli level w es j words first most len is short region class enough fresh sparing = on (length w.heaps) refl
  where
    new : InMixed words (want len + 3) (heap_in w j)
    new = subst (InMixed words (want len + 3)) (sym is.new) (opens sli j words first (want len + 3) region)

    on : (n : ℕ) → length w.heaps ≡ n → AllByRecursion IsServed (answers_on j (replies w es).entries)
    on zero count = absurd (omega (arith, count, is.within))
    on (suc m) count =
        let tick : (heap_in w j).tick ≡ first + 1 = ap (λ (h : HeapState). h.tick) is.new in
        let few : length w.heaps - 1 ≡ m = omega (arith, count) in
        let large : mixed_words sli (most + m * w.capacity) len ≤ words = subst (λ (k : ℕ). mixed_words sli (most + k * w.capacity) len ≤ words) few enough in
        all_served sli level words most len class w.capacity j m (omega (arith, is.within, count)) large (replies w es).made (replies w es).entries (heap_in w j) [] [] (λ i. w.waiting i j)
        (record { mixed = new; agrees = subst (λ (h : HeapState). Agrees h []) (sym is.new) (new_agrees j words first); covers = λ name size found. let none : ◌≡◌ {A = Option ℕ} None (Some size) = found in absurd cc })
        short (replies_lead level w es (suc m) j (omega (arith, is.within, count)) count new.lawful short) sparing (omega (arith, tick, fresh))
