-- The answers to a list of events don't depend on the entries before it: they stay in front. So a list can be run in parts.
use Rattle.tlsf_crew.proofs.Common.{zero, suc, [], ◌∷◌, ◌++◌, ◌≡◌, ℕ, ◌-◌, ◌+◌, List, Option, None, length, take, drop, sym, ◌∙◌, ap, refl, inl, inr, append_assoc, append-nil, fold, cases_eq, cases_lt, fold-append, Name, Post, Entry, Event, Call, Take, Drain, Drained, World, WorldReply, Replayed, DrainState, made_by, took, took_more, drained_waiting, drained_below, after_drain, draining, answered, called, after, replies, resumed, replies_behind}
use Rattle.tlsf_crew.proofs.lemmas.model.EventSteps.{after_far, after_near}
use Rattle.tlsf_crew.proofs.lemmas.model.OneEvent.{from_other, from_own}

abbrev drain_of : {sli : ℕ} → List Entry → World sli → ℕ → DrainState sli
drain_of entries world taken = record { entries = entries; world = world; taken = taken }

abbrev run_so_far : {sli : ℕ} → List (Option Name) → List Entry → World sli → Replayed sli
run_so_far made entries world = record { made = made; entries = entries; world = world }

-- a drain with entries in front
abbrev shifted_drain : {sli : ℕ} → List Entry → DrainState sli → DrainState sli
shifted_drain es d = record { entries = es ++ d.entries; world = d.world; taken = d.taken }

-- events with entries in front
abbrev pub behind : {sli : ℕ} → List Entry → Replayed sli → Replayed sli
behind es r = record { made = r.made; entries = es ++ r.entries; world = r.world }

took_behind : {sli : ℕ} (at from : ℕ) (es : List Entry) (d : DrainState sli) (p : Post) → took_more at from (shifted_drain es d) p ≡ shifted_drain es (took_more at from d p)
took_behind at from es d p =
    let r = took d.world at from p (drop 1 (d.world.waiting from at)) in
    ap (λ (l : List Entry). drain_of l r.world (d.taken + 1)) (append_assoc es d.entries (record { worker = at; call = Take from; reply = r.reply } ∷ []))

posts_behind : {sli : ℕ} (at from : ℕ) (es : List Entry) (ps : List Post) (d : DrainState sli) → fold (took_more at from) (shifted_drain es d) ps ≡ shifted_drain es (fold (took_more at from) d ps)
posts_behind {sli} at from es [] d = refl
posts_behind {sli} at from es (p ∷ ps) d =
    ap (λ (x : DrainState sli). fold (took_more at from) x ps) (took_behind at from es d p) ∙ posts_behind at from es ps (took_more at from d p)

lane_behind : {sli : ℕ} (at most from : ℕ) (es : List Entry) (d : DrainState sli) → drained_waiting at most from (shifted_drain es d) ≡ shifted_drain es (drained_waiting at most from d)
unfolding drained_waiting
lane_behind at most from es d = posts_behind at from es (take (most - d.taken) (d.world.waiting from at)) d

below_behind : {sli : ℕ} (at most : ℕ) (es : List Entry) (d : DrainState sli) (k : ℕ) → drained_below at most (shifted_drain es d) k ≡ shifted_drain es (drained_below at most d k)
below_behind at most es d zero = refl
below_behind at most es d (suc k) =
    let h = below_behind at most es d k in
    let b = drained_below at most d k in
    elim (cases_eq k at) [
      | inl e ↦ from_own at most (drained_below at most (shifted_drain es d) k) k e ∙ (h ∙ ap (shifted_drain es) (sym (from_own at most b k e)))
      | inr ne ↦
          from_other at most (drained_below at most (shifted_drain es d) k) k ne
          ∙ (ap (drained_waiting at most k) h ∙ (lane_behind at most k es b ∙ ap (shifted_drain es) (sym (from_other at most b k ne))))
    ]

all_behind : {sli : ℕ} (at most : ℕ) (es : List Entry) (d : DrainState sli) → after_drain at most (shifted_drain es d) ≡ shifted_drain es (after_drain at most d)
unfolding after_drain
all_behind at most es d = below_behind at most es d (length d.world.heaps)

answered_behind : {sli : ℕ} (es : List Entry) (r : Replayed sli) (at : ℕ) (call : Call) (a : WorldReply sli) → answered (behind es r) at call a ≡ behind es (answered r at call a)
answered_behind es r at call a =
    ap (λ (l : List Entry). run_so_far (r.made ++ made_by a.reply ∷ []) l a.world) (append_assoc es r.entries (record { worker = at; call = call; reply = a.reply } ∷ []))

own_entry : {sli : ℕ} → ℕ → ℕ → DrainState sli → Entry
own_entry at most d = record { worker = at; call = Drain most; reply = Drained d.taken }

draining_behind : {sli : ℕ} (es : List Entry) (r : Replayed sli) (at most : ℕ) → draining (behind es r) at most ≡ behind es (draining r at most)
unfolding draining own_entry
draining_behind {sli} es r at most =
    let d = after_drain at most (drain_of r.entries r.world 0) in
    ap (λ (d : DrainState sli). run_so_far (r.made ++ None ∷ []) (d.entries ++ own_entry at most d ∷ []) d.world) (all_behind at most es (drain_of r.entries r.world 0))
    ∙ ap (λ (l : List Entry). run_so_far (r.made ++ None ∷ []) l d.world) (append_assoc es d.entries (own_entry at most d ∷ []))

called_behind : {sli : ℕ} (es : List Entry) (r : Replayed sli) (at : ℕ) (call : Call) → called (behind es r) at call ≡ behind es (called r at call)
called_behind es r at (Drain most) = draining_behind es r at most
called_behind es r at call = answered_behind es r at call _

after_behind : {sli : ℕ} (es : List Entry) (r : Replayed sli) (e : Event) → after (behind es r) e ≡ behind es (after r e)
after_behind es r e =
    elim (cases_lt e.worker (length r.world.heaps)) [
      | inl lt ↦ rw (after_near (behind es r) e e.call lt refl, after_near r e e.call lt refl) (called_behind es r e.worker e.call)
      | inr ge ↦ rw (after_far (behind es r) e ge, after_far r e ge) (answered_behind es r e.worker e.call _)
    ]

events_behind : {sli : ℕ} (es : List Entry) (events : List Event) (r : Replayed sli) → fold after (behind es r) events ≡ behind es (fold after r events)
events_behind {sli} es [] r = refl
events_behind {sli} es (e ∷ events) r = ap (λ (x : Replayed sli). fold after x events) (after_behind es r e) ∙ events_behind es events (after r e)

-- a list of events in two parts: the second after the names that the first made
pub replies_in_parts : {sli : ℕ} (w : World sli) (made : List (Option Name)) (xs ys : List Event)
    → let d = replies_behind w made xs in replies_behind w made (xs ++ ys) ≡ behind d.entries (replies_behind d.world d.made ys)
unfolding replies_behind
replies_in_parts w made xs ys =
    let d = fold after (resumed w made) xs in
    fold-append after (resumed w made) xs ys
    ∙ (ap (λ (l : List Entry). fold after (run_so_far d.made l d.world) ys) (sym (append-nil d.entries)) ∙ events_behind d.entries ys (resumed d.world d.made))

-- after no names a list of events is answered as it is alone
pub replies_alone : {sli : ℕ} (w : World sli) (es : List Event) → replies_behind w [] es ≡ replies w es
unfolding replies replies_behind
replies_alone w es = refl

pub replies_behind_is : {sli : ℕ} (w : World sli) (made : List (Option Name)) (es : List Event) → replies_behind w made es ≡ fold after (resumed w made) es
unfolding replies_behind
replies_behind_is w made es = refl

-- no event is answered nothing, and leaves the world
pub replies_of_nothing : {sli : ℕ} (w : World sli) (made : List (Option Name)) → replies_behind w made [] ≡ resumed w made
unfolding replies_behind
replies_of_nothing w made = refl
