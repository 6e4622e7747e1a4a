-- The entries of a drain tell the posts that it took and the releases of their names.
use Rattle.tlsf_crew.proofs.Common.{zero, suc, [], ◌∷◌, ◌++◌, ◌≡◌, ◌≢◌, ℕ, ◌+◌, ◌-◌, ◌<◌, ◌≤◌, List, Option, None, All, length, take, drop, sym, ◌∙◌, ap, arith, refl, inl, inr, subst, append_assoc, append-nil, length-append, length-take, fold, cases_eq, take-append-drop, All-append, All-cons, All-nil, Name, Post, Entry, Take, Drain, Took, Drained, AreTakes, TellsCall, TookFromOther, IsDrain, post_of_release, posts_made, Replayed, DrainState, took, took_more, drained_waiting, drained_below, after_drain, draining, Taken}
use Rattle.tlsf_crew.proofs.lemmas.histories.LaneCalls.{took_told}
use Rattle.tlsf_crew.proofs.lemmas.model.OneEvent.{from_other, from_own}
use Rattle.tlsf_crew.proofs.lemmas.histories.OwnCalls.{none_done}
use Rattle.tlsf_crew.proofs.lemmas.histories.JoinedEntries.{IsHistory, history_none, history_quiet, history_then, told_nothing, made_then}
use Rattle.tlsf_crew.proofs.lemmas.model.Edits.{edited_same}

takes_make : (i j at low : ℕ) (made : List (Option Name)) (es : List Entry) → AreTakes at low es → posts_made i j made es ≡ []
takes_make i j at low made [] a = refl
takes_make i j at low made (e ∷ es) a =
    let f : Entry → Option Post = λ x. post_of_release j made x.worker x.call x.reply in
    let one : posts_made i j made (e ∷ []) ≡ [] = told_nothing f i e (ap f a.2) in
    made_then i j made (e ∷ []) es ∙ (ap (λ l. l ++ posts_made i j made es) one ∙ takes_make i j at a.0 made es a.4)

pub drain_makes : (i j at most : ℕ) (made : List (Option Name)) (own : List Entry) → IsDrain at most own → posts_made i j made own ≡ []
drain_makes i j at most made own d =
    let last : Entry = record { worker = at; call = Drain most; reply = Drained (length d.takes) } in
    let one : posts_made i j made (last ∷ []) ≡ [] = told_nothing (λ x. post_of_release j made x.worker x.call x.reply) i last refl in
    ap (posts_made i j made) d.whole ∙ (made_then i j made d.takes (last ∷ [])
    ∙ (ap (λ l. l ++ posts_made i j made (last ∷ [])) (takes_make i j at 0 made d.takes d.are_takes) ∙ one))

-- takes from workers whose numbers don't fall, from `low` on and up to `high`
abbrev Within : ℕ → ℕ → ℕ → List Entry → Type 0
Within at low high [] = low ≤ high
Within at low high (e ∷ es) = (from : ℕ) × (t : Took) × (e ≡ record { worker = at; call = Take from; reply = Taken t }) × (low ≤ from) × (from ≤ high) × Within at from high es

within_takes : (at low high : ℕ) (es : List Entry) → Within at low high es → AreTakes at low es
within_takes at low high [] a = tt
within_takes at low high (e ∷ es) a = (a.0, a.1, a.2, a.3, within_takes at a.0 high es a.5)

within_lower : (at low mid high : ℕ) (es : List Entry) → low ≤ mid → Within at mid high es → Within at low high es
within_lower at low mid high [] le a = omega arith
within_lower at low mid high (e ∷ es) le a = let b = a.3 in (a.0, a.1, a.2, omega arith, a.4, a.5)

within_then : (at low mid high : ℕ) (xs ys : List Entry) → mid ≤ high → Within at low mid xs → Within at mid high ys → Within at low high (xs ++ ys)
within_then at low mid high [] ys le a b = within_lower at low mid high ys a b
within_then at low mid high (e ∷ es) ys le a b = let c = a.4 in (a.0, a.1, a.2, a.3, omega arith, within_then at a.0 mid high es ys le a.5 b)

-- takes that lead from one state of a drain to the other
record TookSome {sli : ℕ} (made : List (Option Name)) (n at low high : ℕ) (d b : DrainState sli) : Type 0 where
  takes : List Entry
  entries : b.entries ≡ d.entries ++ takes
  taken : b.taken ≡ d.taken + length takes
  within : Within at low high takes
  others : All (TookFromOther n) takes
  history : IsHistory made d.world takes b.world

took_none : {sli : ℕ} (made : List (Option Name)) (n at low high : ℕ) (d : DrainState sli) → low ≤ high → TookSome made n at low high d d
took_none made n at low high d le = record {
  takes = [];
  entries = sym (append-nil d.entries);
  taken = omega arith;
  within = le;
  others = All-nil (TookFromOther n);
  history = history_none made d.world;
}

took_then : {sli : ℕ} (made : List (Option Name)) (n at low mid high : ℕ) (d b c : DrainState sli) → mid ≤ high → TookSome made n at low mid d b → TookSome made n at mid high b c → TookSome made n at low high d c
took_then made n at low mid high d b c le x y = record {
  takes = x.takes ++ y.takes;
  entries = y.entries ∙ (ap (λ l. l ++ y.takes) x.entries ∙ append_assoc d.entries x.takes y.takes);
  taken = let p = x.taken in let q = y.taken in let both = length-append x.takes y.takes in omega arith;
  within = within_then at low mid high x.takes y.takes le x.within y.within;
  others = All-append (TookFromOther n) x.takes y.takes x.others y.others;
  history = history_then made d.world b.world c.world x.takes y.takes x.history y.history;
}

-- one post more
one_more : {sli : ℕ} (made : List (Option Name)) (n at from : ℕ) (d : DrainState sli) (p : Post) → from < n → from ≢ at → at < length d.world.heaps → d.world.waiting from at ≡ p ∷ drop 1 (d.world.waiting from at)
    → TookSome made n at from from d (took_more at from d p)
one_more made n at from d p lt ne at_in full =
    let a = took d.world at from p (drop 1 (d.world.waiting from at)) in
    let e : Entry = record { worker = at; call = Take from; reply = a.reply } in
    record {
      takes = e ∷ [];
      entries = refl;
      taken = refl;
      within = (from, _, refl, omega arith, omega arith, omega arith);
      others = All-cons (TookFromOther n) e [] (λ f t is took. let same : from ≡ f = cc in subst (λ (k : ℕ). (k < n) × (k ≢ at)) same (lt, ne)) (All-nil (TookFromOther n));
      history = took_told made d.world at from p (drop 1 (d.world.waiting from at)) at_in full;
    }

-- the posts of one lane, and how many they are
lane_took : {sli : ℕ} (made : List (Option Name)) (n at from : ℕ) (rest ps : List Post) (d : DrainState sli) → from < n → from ≢ at → at < length d.world.heaps → d.world.waiting from at ≡ ps ++ rest
    → TookSome made n at from from d (fold (took_more at from) d ps)
lane_took made n at from rest [] d lt ne at_in e = took_none made n at from from d (omega arith)
lane_took made n at from rest (p ∷ ps) d lt ne at_in e =
    let next : drop 1 (d.world.waiting from at) ≡ ps ++ rest = ap (drop 1) e in
    let full : d.world.waiting from at ≡ p ∷ drop 1 (d.world.waiting from at) = e ∙ ap (λ l. p ∷ l) (sym next) in
    let b = took_more at from d p in
    let one = one_more made n at from d p lt ne at_in full in
    let more = lane_took made n at from rest ps b lt ne (let count = one.history.count in omega arith) (edited_same d.world.waiting from at (drop 1 (d.world.waiting from at)) ∙ next) in
    took_then made n at from from from d b (fold (took_more at from) b ps) (omega arith) one more

pub lane_count : {sli : ℕ} (at from : ℕ) (ps : List Post) (d : DrainState sli) → (fold (took_more at from) d ps).taken ≡ d.taken + length ps
lane_count at from [] d = omega arith
lane_count at from (p ∷ ps) d = let a = lane_count at from ps (took_more at from d p) in omega arith

drained_took : {sli : ℕ} (made : List (Option Name)) (n at most from : ℕ) (d : DrainState sli) → from < n → from ≢ at → at < length d.world.heaps → d.taken ≤ most
    → TookSome made n at from from d (drained_waiting at most from d) × ((drained_waiting at most from d).taken ≤ most)
unfolding drained_waiting
drained_took made n at most from d lt ne at_in le =
    let m = most - d.taken in
    let waits = d.world.waiting from at in
    let count = lane_count at from (take m waits) d in
    let k = length-take m waits in
    (lane_took made n at from (drop m waits) (take m waits) d lt ne at_in (sym (take-append-drop m waits)), omega arith)

-- the lanes from the workers below k
below_took : {sli : ℕ} (made : List (Option Name)) (n at most : ℕ) (d : DrainState sli) (k : ℕ) → k ≤ n → at < length d.world.heaps → d.taken ≤ most
    → TookSome made n at 0 k d (drained_below at most d k) × ((drained_below at most d k).taken ≤ most)
below_took made n at most d zero few at_in le = (took_none made n at 0 0 d (omega arith), le)
below_took made n at most d (suc k) few at_in le =
    let b = drained_below at most d k in
    let first = below_took made n at most d k (omega arith) at_in le in
    let higher : TookSome made n at 0 (suc k) d b = took_then made n at 0 k (suc k) d b b (omega arith) first.0 (took_none made n at k (suc k) b (omega arith)) in
    elim (cases_eq k at) [
      | inl e ↦ rw (from_own at most b k e) (higher, first.1)
      | inr e ↦
          let lane = drained_took made n at most k b (omega arith) e (let count = first.0.history.count in omega arith) first.1 in
          let c = drained_waiting at most k b in
          let this = took_then made n at 0 k k d b c (omega arith) first.0 lane.0 in
          rw (from_other at most b k e) (took_then made n at 0 k (suc k) d c c (omega arith) this (took_none made n at k (suc k) c (omega arith)), lane.1)
    ]

all_took : {sli : ℕ} (made : List (Option Name)) (at most : ℕ) (d : DrainState sli) → at < length d.world.heaps → d.taken ≤ most
    → TookSome made (length d.world.heaps) at 0 (length d.world.heaps) d (after_drain at most d) × ((after_drain at most d).taken ≤ most)
unfolding after_drain
all_took made at most d at_in le = below_took made (length d.world.heaps) at most d (length d.world.heaps) (omega arith) at_in le

-- the entries of one call, which lead from one state of a replay to the other, and the name that it made
pub record ToldOnce {sli : ℕ} (made : List (Option Name)) (r s : Replayed sli) (P : Option Name → List Entry → Type 0) : Type 0 where
  pub own : List Entry
  pub name : Option Name
  pub entries : s.entries ≡ r.entries ++ own
  pub names : s.made ≡ r.made ++ name ∷ []
  pub tells : P name own
  pub others : All (TookFromOther (length r.world.heaps)) own
  pub history : IsHistory made r.world own s.world

pub drain_told : {sli : ℕ} (made : List (Option Name)) (r : Replayed sli) (at most : ℕ) → at < length r.world.heaps → ToldOnce made r (draining r at most) (TellsCall at r.made (Drain most))
unfolding draining
drain_told {sli} made r at most at_in =
    let d : DrainState sli = record { entries = r.entries; world = r.world; taken = 0 } in
    let b = after_drain at most d in
    let t = all_took made at most d at_in (omega arith) in
    let last : Entry = record { worker = at; call = Drain most; reply = Drained b.taken } in
    let n : b.taken ≡ length t.0.takes = let q = t.0.taken in omega arith in
    record {
      own = t.0.takes ++ last ∷ [];
      name = None;
      entries = ap (λ l. l ++ last ∷ []) t.0.entries ∙ append_assoc r.entries t.0.takes (last ∷ []);
      names = refl;
      tells = (
        refl,
        record {
          takes = t.0.takes;
          are_takes = within_takes at 0 (length r.world.heaps) t.0.takes t.0.within;
          few = let q = t.1 in omega arith;
          whole = ap (λ k. t.0.takes ++ record { worker = at; call = Drain most; reply = Drained k } ∷ []) n;
        },
      );
      others = All-append (TookFromOther (length r.world.heaps)) t.0.takes (last ∷ []) t.0.others
          (All-cons (TookFromOther (length r.world.heaps)) last [] (λ f u is took. absurd (cc)) (All-nil (TookFromOther (length r.world.heaps))));
      history = history_then made r.world b.world b.world t.0.takes (last ∷ []) t.0.history
          (history_quiet made b.world b.world last (none_done made b.world b.world at (Drain most) last.reply refl refl refl) (record { made_none = λ j. refl; taken_none = λ i. refl }) refl refl);
    }
