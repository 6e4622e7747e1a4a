-- The entries of a replay tell its events, the calls on each heap and the posts of each lane, and leave each heap lawful.
use Rattle.tlsf_crew.proofs.Common.{zero, suc, [], ◌∷◌, ◌++◌, ◌≡◌, ◌≢◌, ℕ, ◌<◌, ◌≤◌, List, Option, Some, None, All, length, get_or, sym, ◌∙◌, ap, arith, refl, inl, inr, subst, append_assoc, append-nil, fold, cases_lt, All-nil, All-cons, IsLawful, Name, bytes_of, Entry, Event, Call, Allocate, Release, Write, Read, Resize, Take, Drain, Reply, Refused, Stranger, AreLawful, Tells, TellsCall, TellsEvent, TookFromOther, answer_told, call_on_own, calls_on, post_of_release, post_of_take, World, Replayed, after, allocating, begun, called, draining, heap_in, name_of, reading_named, releasing_named, replies, resizing_named, taking, writing_named, lawful_run, MadeBy}
use Rattle.tlsf_crew.proofs.lemmas.histories.DrainEntries.{ToldOnce, drain_told}
use Rattle.tlsf_crew.proofs.lemmas.model.EventSteps.{after_far, after_near}
use Rattle.tlsf_crew.proofs.lemmas.histories.LaneCalls.{release_told, take_told}
use Rattle.tlsf_crew.proofs.lemmas.histories.OwnCalls.{Knows, allocate_told, read_told, resize_told, write_told}
use Rattle.tlsf_crew.proofs.lemmas.histories.NamesMeant.{allocate_unmade, read_unmade, release_answered, release_unmade, resize_unmade, take_from_other, take_unmade, write_unmade}
use Rattle.tlsf_crew.proofs.lemmas.histories.JoinedEntries.{HasItsAnswer, IsHistory, history_none, history_then, quiet_posts, told_other}

-- ---- names that were made stay known

name_stays : (xs ys : List (Option Name)) (k : ℕ) (name : Name) → get_or xs k None ≡ Some name → get_or (xs ++ ys) k None ≡ Some name
name_stays [] ys k name e = cc
name_stays (x ∷ xs) ys zero name e = e
name_stays (x ∷ xs) ys (suc k) name e = name_stays xs ys k name e

pub more_knows : (xs ys : List (Option Name)) → Knows (xs ++ ys) xs
more_knows xs ys (MadeBy k) n e = name_stays xs ys k n e
more_knows xs ys target n e = e

drain_knows : {sli : ℕ} (r : Replayed sli) (at most : ℕ) → Knows (draining r at most).made r.made
unfolding draining
drain_knows r at most = more_knows r.made (None ∷ [])

pub called_knows : {sli : ℕ} (r : Replayed sli) (at : ℕ) (call : Call) → Knows (called r at call).made r.made
called_knows r at (Drain most) = drain_knows r at most
called_knows r at call = more_knows r.made _

after_knows : {sli : ℕ} (r : Replayed sli) (e : Event) → Knows (after r e).made r.made
after_knows r e =
    elim (cases_lt e.worker (length r.world.heaps)) [
      | inl lt ↦ rw (after_near r e e.call lt refl) (called_knows r e.worker e.call)
      | inr ge ↦ rw (after_far r e ge) (more_knows r.made (None ∷ []))
    ]

rest_knows : {sli : ℕ} (es : List Event) (r : Replayed sli) → Knows (fold after r es).made r.made
rest_knows [] r target name e = e
rest_knows (x ∷ es) r target name e = rest_knows es (after r x) target name (after_knows r x target name e)

-- ---- one event

-- the one entry of a call
own_call : {sli : ℕ} (w : World sli) (at : ℕ) (call : Call) (reply : Reply) → let e : Entry = record { worker = at; call = call; reply = reply } in TookFromOther (length w.heaps) e → All (TookFromOther (length w.heaps)) (e ∷ [])
own_call w at call reply one = All-cons (TookFromOther (length w.heaps)) (record { worker = at; call = call; reply = reply }) [] one (All-nil (TookFromOther (length w.heaps)))

pub called_told : {sli : ℕ} (made : List (Option Name)) (r : Replayed sli) (at : ℕ) (call : Call) → at < length r.world.heaps → Knows made r.made → ToldOnce made r (called r at call) (TellsCall at r.made call)
called_told made r at (Allocate len) at_in known =
    record { own = _; name = _; entries = refl; names = refl; tells = record { reply = _; name_is = refl; unmade = allocate_unmade r.world at len; post = tt; whole = refl }; others = own_call r.world at (Allocate len) (allocating r.world at len).reply (λ from t is took. absurd (cc)); history = allocate_told made r.world at len at_in }
called_told made r at (Release target) at_in known =
    record { own = _; name = _; entries = refl; names = refl; tells = record { reply = _; name_is = refl; unmade = release_unmade r.world at (name_of r.made target); post = release_answered r.world at (name_of r.made target); whole = refl }; others = own_call r.world at (Release target) (releasing_named r.world at (name_of r.made target)).reply (λ from t is took. absurd (cc)); history = release_told made r.world at target (name_of r.made target) at_in (known target) }
called_told made r at (Write target from bytes) at_in known =
    record { own = _; name = _; entries = refl; names = refl; tells = record { reply = _; name_is = refl; unmade = write_unmade r.world at from (bytes_of bytes) (name_of r.made target); post = tt; whole = refl }; others = own_call r.world at (Write target from bytes) (writing_named r.world at (name_of r.made target) from (bytes_of bytes)).reply (λ from t is took. absurd (cc)); history = write_told made r.world at from target bytes (name_of r.made target) at_in (known target) }
called_told made r at (Read target from n) at_in known =
    record { own = _; name = _; entries = refl; names = refl; tells = record { reply = _; name_is = refl; unmade = read_unmade r.world at from n (name_of r.made target); post = tt; whole = refl }; others = own_call r.world at (Read target from n) (reading_named r.world at (name_of r.made target) from n).reply (λ from t is took. absurd (cc)); history = read_told made r.world at from n target (name_of r.made target) at_in (known target) }
called_told made r at (Resize target len) at_in known =
    record { own = _; name = _; entries = refl; names = refl; tells = record { reply = _; name_is = refl; unmade = resize_unmade r.world at len (name_of r.made target); post = tt; whole = refl }; others = own_call r.world at (Resize target len) (resizing_named r.world at (name_of r.made target) len).reply (λ from t is took. absurd (cc)); history = resize_told made r.world at len target (name_of r.made target) at_in (known target) }
called_told made r at (Take from) at_in known =
    record { own = _; name = _; entries = refl; names = refl; tells = record { reply = _; name_is = refl; unmade = take_unmade r.world at from; post = tt; whole = refl }; others = own_call r.world at (Take from) (taking r.world at from).reply (take_from_other r.world at from); history = take_told made r.world at from at_in }
called_told made r at (Drain most) at_in known = drain_told made r at most at_in

no_post : (made : List (Option Name)) (j at : ℕ) (call : Call) → post_of_release j made at call (Refused Stranger) ≡ None
no_post made j at (Release target) = refl
no_post made j at call = refl

no_take : (i : ℕ) (call : Call) → post_of_take i call (Refused Stranger) ≡ None
no_take i (Take from) = refl
no_take i call = refl

-- a call of no worker concerns no heap and no lane
far_told : {sli : ℕ} (made : List (Option Name)) (w : World sli) (at : ℕ) (call : Call) → length w.heaps ≤ at → IsHistory made w (record { worker = at; call = call; reply = Refused Stranger } ∷ []) w
far_told made w at call ge =
    let e : Entry = record { worker = at; call = call; reply = Refused Stranger } in
    record {
      heaps = λ j j_in.
          let away : at ≢ j = omega arith in
          let a = told_other (λ e. call_on_own made e.worker e.call e.reply) j e away in
          let b = told_other (λ e. answer_told e.call e.reply) j e away in
          rw (a, b) (record { told = refl; left = refl });
      posts = quiet_posts made w w e (record { made_none = λ j. no_post made j at call; taken_none = λ i. no_take i call }) refl;
      count = refl;
      each = All-cons (HasItsAnswer made (length w.heaps)) e [] (λ lt. absurd (omega arith)) (All-nil (HasItsAnswer made (length w.heaps)));
    }

after_told : {sli : ℕ} (made : List (Option Name)) (r : Replayed sli) (e : Event) → Knows made r.made → ToldOnce made r (after r e) (TellsEvent (length r.world.heaps) r.made e)
after_told made r e known =
    elim (cases_lt e.worker (length r.world.heaps)) [
      | inl lt ↦
          let t = called_told made r e.worker e.call lt known in
          rw (after_near r e e.call lt refl)
          (record { own = t.own; name = t.name; entries = t.entries; names = t.names; tells = record { near = λ _. t.tells; others = t.others; far = λ ge. absurd (omega arith) }; others = t.others; history = t.history })
      | inr ge ↦
          rw (after_far r e ge)
          (let none = own_call r.world e.worker e.call (Refused Stranger) (λ from t is took. absurd (cc)) in
          record { own = _; name = None; entries = refl; names = refl; tells = record { near = λ lt. absurd (omega arith); others = none; far = λ _. (refl, refl) }; others = none; history = far_told made r.world e.worker e.call ge })
    ]

-- ---- all events

-- the entries of all events, and the names that they made
record EventsTold {sli : ℕ} (made : List (Option Name)) (es : List Event) (r s : Replayed sli) : Type 0 where
  own : List Entry
  later : List (Option Name)
  entries : s.entries ≡ r.entries ++ own
  names : s.made ≡ r.made ++ later
  tells : Tells (length r.world.heaps) r.made es later own
  history : IsHistory made r.world own s.world

events_told : {sli : ℕ} (made : List (Option Name)) (es : List Event) (r : Replayed sli) → Knows made (fold after r es).made → EventsTold made es r (fold after r es)
events_told made [] r known = record { own = []; later = []; entries = sym (append-nil r.entries); names = sym (append-nil r.made); tells = refl; history = history_none made r.world }
events_told made (e ∷ es) r known =
    let v = after r e in
    let z = fold after v es in
    let first = after_told made r e (λ target name q. known target name (rest_knows (e ∷ es) r target name q)) in
    let rest = events_told made es v known in
    let counted : Tells (length r.world.heaps) v.made es rest.later rest.own = subst (λ (n : ℕ). Tells n v.made es rest.later rest.own) first.history.count rest.tells in
    let tells : Tells (length r.world.heaps) (r.made ++ first.name ∷ []) es rest.later rest.own = subst (λ m. Tells (length r.world.heaps) m es rest.later rest.own) first.names counted in
    record {
      own = first.own ++ rest.own;
      later = first.name ∷ rest.later;
      entries = rest.entries ∙ (ap (λ l. l ++ rest.own) first.entries ∙ append_assoc r.entries first.own rest.own);
      names = rest.names ∙ (ap (λ l. l ++ rest.later) first.names ∙ append_assoc r.made (first.name ∷ []) rest.later);
      tells = (first.own, rest.own, refl, first.tells, tells);
      history = history_then made r.world v.world z.world first.own rest.own first.history rest.history;
    }

-- the entries of the replay tell the events and the history
pub record RepliesTell {sli : ℕ} (w : World sli) (es : List Event) : Type 0 where
  pub told : Tells (length w.heaps) [] es (replies w es).made (replies w es).entries
  pub history : IsHistory (replies w es).made w (replies w es).entries (replies w es).world

told_from_start : {sli : ℕ} (w : World sli) (es : List Event) (z : Replayed sli) → EventsTold z.made es (begun w) z → Tells (length w.heaps) [] es z.made z.entries × IsHistory z.made w z.entries z.world
told_from_start w es z t =
    let names : z.made ≡ t.later = t.names in
    (subst (λ made. Tells (length w.heaps) [] es made z.entries) (sym names) (rw t.entries t.tells), rw t.entries t.history)

pub replies_tell : {sli : ℕ} (w : World sli) (es : List Event) → RepliesTell w es
unfolding replies
replies_tell w es =
    let z = fold after (begun w) es in
    let t = told_from_start w es z (events_told z.made es (begun w) (λ target name e. e)) in
    record { told = t.0; history = t.1 }

pub replies_lawful : {sli : ℕ} (w : World sli) (es : List Event) → AreLawful w → AreLawful (replies w es).world
replies_lawful {sli} w es lawful = (
  lawful.0,
  λ j j_in.
      let t = (replies_tell w es).history in
      let k : j < length w.heaps = omega (arith, t.count) in
      let run = t.heaps j k in
      subst IsLawful run.left (lawful_run sli lawful.0 (heap_in w j) (calls_on j (replies w es).made (replies w es).entries) (lawful.1 j k)),
)
