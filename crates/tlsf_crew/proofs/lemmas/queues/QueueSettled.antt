-- Once all ends of a queue were side by side, its owner knows what was put into it, and all else of the yard stays.
use Rattle.tlsf_crew.proofs.Common.{suc, zero, [], ◌∷◌, ◌++◌, ◌≡◌, ◌≢◌, ℕ, ◌+◌, ◌<◌, ◌≤◌, List, Option, Some, None, All, length, get_or, set, sym, ◌∙◌, ap, map, arith, refl, inl, inr, ◌⊎◌, subst, slice_get, Vec, Global, option_to_list, slice_get-get_or, slice_get_within, cases_eq, cases_lt, append-nil, length-set, map-append, All-append, All-cons, All-head, All-nil, All-tail, posts_of, below_but, number_of, put_by, gone_from, owner_of, out_of, most_of, got_by, known_to, IsMailbox, IsWhole, AllBeside, OwnerEnd, Post, PosterEnd, Worker, Queues, IsOther, slot_of, id_of, IsHeapOf, queue_end_to, KnowsQueueYard, FitsQueueYard, IsQueueYard, first_capacity, queue_capacity_in, queue_end_in, GaveEnds, GotEnd, Gathered, GaveUpEnd, QueueKnown, QueueSettled, EachQueueSettled, StaysPut, StaysSettled, end_at, ends_below, but_more, but_skip}
use Rattle.tlsf_crew.proofs.lemmas.queues.QueueOpened.{holds_of_member}
use Rattle.tlsf_crew.proofs.lemmas.worker.Slots.{from_slot, get_set_same, get_set_other, none_or_some, slot_emptied, slot_new, slot_other, some_same, some_at}

-- ---- ends are taken out one after another

pub gathered_none : {sli : ℕ} (ws : List (Worker sli Queues)) (j : ℕ) (ps : List PosterEnd) → ps ≡ [] → Gathered ws j 0 ws ps
gathered_none ws j ps none = record { count = refl; ends = none; same = λ x h. refl; gave = λ x a lt. absurd (omega arith) }

pub gathered_more : {sli : ℕ} (ws us : List (Worker sli Queues)) (j i : ℕ) (ps qs : List PosterEnd) (a v : Worker sli Queues) → Gathered ws j i us ps → slice_get us i ≡ Some a → i ≢ j → GaveUpEnd a v j
    → qs ≡ ps ++ option_to_list (queue_end_to a j) → Gathered ws j (i + 1) (set us i v) qs
gathered_more ws us j i ps qs a v g at apart gave more =
    let i_in = slice_get_within us i a at in
    let le : i ≤ i = omega arith in
    let was : slice_get ws i ≡ Some a = sym (g.same i (inl le)) ∙ at in
    let end_is : queue_end_to a j ≡ end_at ws i j = sym (ap (λ o. queue_end_in o j) was) in
    let next : suc i ≡ i + 1 = omega arith in
    record {
      count = length-set us i v ∙ g.count;
      ends = more ∙ ((λ t. g.ends t ++ option_to_list (end_is t)) ∙ ap (ends_below ws j) next);
      same = λ x h.
          let ne : x ≢ i = elim h [
            | inl after ↦ (λ e. omega arith)
            | inr own ↦ (λ e. apart (sym e ∙ own))
          ] in
          let still : (i ≤ x) ⊎ (x ≡ j) = elim h [
            | inl after ↦ inl (omega arith)
            | inr own ↦ inr own
          ] in
          get_set_other us i x v ne ∙ g.same x still;
      gave = λ x b lt ne is. elim (cases_eq x i) [
        | inl e ↦
            let b_is : b ≡ a = some_same b a (sym is ∙ (ap (slice_get ws) e ∙ was)) in
            (v, ap (slice_get (set us i v)) e ∙ get_set_same us i v i_in, rw b_is gave)
        | inr other ↦
            let below : x < i = omega arith in
            let o = g.gave x b below ne is in
            (o.0, get_set_other us i x v other ∙ o.1, o.2)
      ];
    }

-- the owner has no end to its own queue
pub gathered_own : {sli : ℕ} (ws us : List (Worker sli Queues)) (j i : ℕ) (ps : List PosterEnd) → Gathered ws j i us ps → i ≡ j → end_at ws j j ≡ None → Gathered ws j (i + 1) us ps
gathered_own ws us j i ps g own none =
    let next : suc i ≡ i + 1 = omega arith in
    let gone : end_at ws i j ≡ None = ap (λ k. end_at ws k j) own ∙ none in
    record {
      count = g.count;
      ends = g.ends ∙ (sym (append-nil (ends_below ws j i)) ∙ (ap (λ o. ends_below ws j i ++ option_to_list o) (sym gone) ∙ ap (ends_below ws j) next));
      same = λ x h. g.same x (elim h [
        | inl after ↦ inl (omega arith)
        | inr own ↦ inr own
      ]);
      gave = λ x b lt ne is. let apart : x ≢ i = (λ e. ne (e ∙ own)) in let below : x < i = omega arith in g.gave x b below ne is;
    }

-- ---- the ends of a whole yard

-- the end of a worker to another's queue
pub record EndOf {sli : ℕ} (ws : List (Worker sli Queues)) (i j : ℕ) (b : Worker sli Queues) : Type 0 where
  pub p : PosterEnd
  pub is : end_at ws i j ≡ Some p
  pub number : number_of p ≡ i
  pub mailbox : IsMailbox b.ports.own p

end_of : {sli : ℕ} (ws : List (Worker sli Queues)) (i j : ℕ) (b : Worker sli Queues) → IsQueueYard ws → i < length ws → slice_get ws j ≡ Some b → i ≢ j → EndOf ws i j b
end_of ws i j b yard i_in b_is ne =
    let s = some_at ws i i_in in
    let w = yard.workers i s.0 s.1 in
    let k = w.knows in
    let e = k.to j (slice_get_within ws j b b_is, λ f. ne (sym (f ∙ w.number))) in
    record { p = e.0; is = ap (λ o. queue_end_in o j) s.1 ∙ e.1; number = e.2 ∙ w.number; mailbox = yard.mailboxes i j s.0 b e.0 s.1 b_is e.1 }

pub owner_none : {sli : ℕ} (ws : List (Worker sli Queues)) (j : ℕ) (b : Worker sli Queues) → IsQueueYard ws → slice_get ws j ≡ Some b → queue_end_to b j ≡ None
owner_none ws j b yard b_is = let w = yard.workers j b b_is in w.knows.none j (λ other. other.1 (sym w.number))

pub own_end : {sli : ℕ} (ws : List (Worker sli Queues)) (j : ℕ) (b : Worker sli Queues) → IsQueueYard ws → slice_get ws j ≡ Some b → end_at ws j j ≡ None
own_end ws j b yard b_is = ap (λ o. queue_end_in o j) b_is ∙ owner_none ws j b yard b_is

-- a fact of all ends below one number, and of the next
pub each_below : {sli : ℕ} (P : PosterEnd → Type 0) (ws : List (Worker sli Queues)) (j k : ℕ) (b : Worker sli Queues) → IsQueueYard ws → slice_get ws j ≡ Some b → k ≤ length ws → ((i : ℕ) → EndOf ws i j b → (p : PosterEnd) → end_at ws i j ≡ Some p → P p)
    → All P (ends_below ws j k)
each_below P ws j zero b yard b_is le each = All-nil P
each_below P ws j (suc k) b yard b_is le each =
    let rest = each_below P ws j k b yard b_is (omega arith) each in
    elim (cases_eq k j) [
      | inl e ↦
          let none : end_at ws k j ≡ None = ap (λ i. end_at ws i j) e ∙ own_end ws j b yard b_is in
          rw none (rw append-nil rest)
      | inr ne ↦
          let end = end_of ws k j b yard (omega arith) b_is ne in
          rw end.is (All-append P (ends_below ws j k) (end.p ∷ []) rest (All-cons P end.p [] (each k end end.p end.is) (All-nil P)))
    ]

pub numbers_below : {sli : ℕ} (ws : List (Worker sli Queues)) (j k : ℕ) (b : Worker sli Queues) → IsQueueYard ws → slice_get ws j ≡ Some b → k ≤ length ws → map number_of (ends_below ws j k) ≡ below_but j k
numbers_below ws j zero b yard b_is le = refl
numbers_below ws j (suc k) b yard b_is le =
    let rest = numbers_below ws j k b yard b_is (omega arith) in
    elim (cases_eq k j) [
      | inl e ↦
          let none : end_at ws k j ≡ None = ap (λ i. end_at ws i j) e ∙ own_end ws j b yard b_is in
          map-append number_of (ends_below ws j k) (option_to_list (end_at ws k j))
          ∙ (ap (λ o. map number_of (ends_below ws j k) ++ map number_of (option_to_list o)) none
          ∙ (append-nil (map number_of (ends_below ws j k)) ∙ (rest ∙ (ap (below_but j) e ∙ (sym (but_skip j) ∙ ap (λ i. below_but j (suc i)) (sym e))))))
      | inr ne ↦
          let end = end_of ws k j b yard (omega arith) b_is ne in
          map-append number_of (ends_below ws j k) (option_to_list (end_at ws k j))
          ∙ (ap (λ o. map number_of (ends_below ws j k) ++ map number_of (option_to_list o)) end.is
          ∙ ((λ t. rest t ++ end.number t ∷ []) ∙ sym (but_more j k ne)))
    ]

-- all ends of a queue, as those that `beside` is given
pub ends_whole : {sli : ℕ} (ws : List (Worker sli Queues)) (j : ℕ) (b : Worker sli Queues) → IsQueueYard ws → slice_get ws j ≡ Some b → IsWhole b.ports.own (ends_below ws j (length ws))
ends_whole ws j b yard b_is =
    let w = yard.workers j b b_is in
    let k = w.knows in
    let le : length ws ≤ length ws = omega arith in (
      each_below (IsMailbox b.ports.own) ws j (length ws) b yard b_is le (λ i end p is. subst (IsMailbox b.ports.own) (some_same end.p p (sym end.is ∙ is)) end.mailbox),
      numbers_below ws j (length ws) b yard b_is le ∙ (λ t. below_but (sym (k.own.0 ∙ w.number) t) (sym k.own.1 t)),
    )

-- ---- what `beside` leaves of each end

-- what is said of the number and the puts alone goes on where these stay
pub pass_on : (P : ℕ → List Post → Type 0) (ps qs : List PosterEnd) → map number_of qs ≡ map number_of ps → map put_by qs ≡ map put_by ps → All (λ p. P (number_of p) (put_by p)) ps → All (λ q. P (number_of q) (put_by q)) qs
pass_on P ps [] e f all = All-nil (λ q. P (number_of q) (put_by q))
pass_on P [] (q ∷ qs) e f all = absurd (omega (arith, ap length e))
pass_on P (p ∷ ps) (q ∷ qs) e f all =
    let number : number_of q ≡ number_of p = ap (λ (l : List ℕ). get_or l 0 0) e in
    let put : put_by q ≡ put_by p = ap (λ (l : List (List Post)). get_or l 0 []) f in
    let numbers : map number_of qs ≡ map number_of ps = cc in
    let puts : map put_by qs ≡ map put_by ps = cc in
    All-cons (λ q. P (number_of q) (put_by q)) q qs
    (subst (λ (z : ℕ × List Post). P z.0 z.1) (λ t. (sym number t, sym put t)) (All-head (λ p. P (number_of p) (put_by p)) p ps all))
    (pass_on P ps qs numbers puts (All-tail (λ p. P (number_of p) (put_by p)) p ps all))

-- the end of that number has put that
abbrev pub WasPut : {sli : ℕ} → List (Worker sli Queues) → ℕ → ℕ → List Post → Type 0
WasPut ws j i put = (p : PosterEnd) × (end_at ws i j ≡ Some p) × (put_by p ≡ put)

pub were_put : {sli : ℕ} (ws : List (Worker sli Queues)) (j : ℕ) (b : Worker sli Queues) (qs : List PosterEnd) → IsQueueYard ws → slice_get ws j ≡ Some b → map number_of qs ≡ map number_of (ends_below ws j (length ws))
    → map put_by qs ≡ map put_by (ends_below ws j (length ws)) → All (λ q. WasPut ws j (number_of q) (put_by q)) qs
were_put ws j b qs yard b_is numbers puts =
    let le : length ws ≤ length ws = omega arith in
    pass_on (WasPut ws j) (ends_below ws j (length ws)) qs numbers puts
    (each_below (λ p. WasPut ws j (number_of p) (put_by p)) ws j (length ws) b yard b_is le
    (λ i end p is. let same = some_same end.p p (sym end.is ∙ is) in let number : i ≡ number_of p = sym end.number ∙ ap number_of same in (p, ap (λ i. end_at ws i j) (sym number) ∙ is, refl)))

-- a worker has a slot for each other queue
pub slot_there : {sli : ℕ} (ws : List (Worker sli Queues)) (i j : ℕ) (a : Worker sli Queues) → IsQueueYard ws → slice_get ws i ≡ Some a → j < length ws → i ≢ j → j < length a.ports.posts.items
slot_there ws i j a yard is j_in ne =
    let w = yard.workers i a is in
    let k = w.knows in
    let e = k.to j (j_in, λ f. ne (sym (f ∙ w.number))) in
    slice_get_within a.ports.posts.items j (Some e.0) (from_slot (slice_get a.ports.posts.items j) e.0 e.1)

-- ---- one worker, when a queue is settled

-- an end was taken out of slot j, and one put in
record GotBack {sli : ℕ} (a v : Worker sli Queues) (j i : ℕ) (qs : List PosterEnd) : Type 0 where
  end : PosterEnd
  before : List PosterEnd
  after : List PosterEnd
  stands : qs ≡ before ++ end ∷ after
  number : number_of end ≡ i
  here : queue_end_to v j ≡ Some end
  others : (k : ℕ) → k ≢ j → queue_end_to v k ≡ queue_end_to a k
  same : (v.heap ≡ a.heap) × (v.id ≡ a.id) × (v.ports.own ≡ a.ports.own)

got_back : {sli : ℕ} (a u v : Worker sli Queues) (j i : ℕ) (qs : List PosterEnd) → j < length a.ports.posts.items → GaveUpEnd a u j → GotEnd u v j i qs → GotBack a v j i qs
got_back a u v j i qs room gave got =
    let there : j < length u.ports.posts.items = omega (arith, ap length gave.posts, length-set a.ports.posts.items j None) in
    record {
      end = got.end;
      before = got.before;
      after = got.after;
      stands = got.stands;
      number = got.number;
      here = slot_new u.ports.posts.items v.ports.posts.items j got.end there got.posts;
      others = λ k ne. slot_other u.ports.posts.items v.ports.posts.items j got.end got.posts k ne ∙ slot_emptied a.ports.posts.items u.ports.posts.items j gave.posts k ne;
      same = (got.same.0 ∙ gave.same.0, got.same.1 ∙ gave.same.1, got.same.2 ∙ gave.same.2);
    }

-- all that happens when queue j is settled: its ends are taken out, beside its owner b, which becomes w, and are given back
pub record Resettling {sli : ℕ} (ws us : List (Worker sli Queues)) (j : ℕ) (b w : Worker sli Queues) (ps qs : List PosterEnd) (xs : List (Worker sli Queues)) : Type 0 where
  pub yard : IsQueueYard ws
  pub owner : slice_get ws j ≡ Some b
  pub gathered : Gathered ws j (length ws) us ps
  pub beside : AllBeside b.ports.own ps w.ports.own qs
  pub same : (w.heap ≡ b.heap) × (w.id ≡ b.id) × (w.ports.posts ≡ b.ports.posts)
  pub gave : GaveEnds (set us j w) j (length ws) qs xs

-- the owner's ends to other queues stay
owner_end : {sli : ℕ} (b w : Worker sli Queues) (k : ℕ) → w.ports.posts ≡ b.ports.posts → queue_end_to w k ≡ queue_end_to b k
owner_end b w k same = ap (λ (ps : Vec (Option PosterEnd) Global). slot_of (slice_get ps.items k)) same

-- the same of what v was
record StillIs {sli : ℕ} (a v : Worker sli Queues) (j : ℕ) : Type 0 where
  heap : v.heap ≡ a.heap
  id : v.id ≡ a.id
  numbers : (owner_of v.ports.own ≡ owner_of a.ports.own) × (out_of v.ports.own ≡ out_of a.ports.own)
  own : (got_by v.ports.own ≡ got_by a.ports.own) × (most_of v.ports.own ≡ most_of a.ports.own)
  ends : (k : ℕ) → k ≢ j → queue_end_to v k ≡ queue_end_to a k

back_still : {sli : ℕ} (a v : Worker sli Queues) (j i : ℕ) (qs : List PosterEnd) → GotBack a v j i qs → StillIs a v j
back_still a v j i qs got = record {
  heap = got.same.0;
  id = got.same.1;
  numbers = (ap owner_of got.same.2, ap out_of got.same.2);
  own = (ap got_by got.same.2, ap most_of got.same.2);
  ends = got.others;
}

module _ {sli : ℕ} (ws us : List (Worker sli Queues)) (j : ℕ) (b w : Worker sli Queues) (ps qs : List PosterEnd) (xs : List (Worker sli Queues)) (r : Resettling ws us j b w ps qs xs) where
  -- the worker that v was: the owner, or another one
  record Resettled (i : ℕ) (v : Worker sli Queues) : Type 0 where
    a : Worker sli Queues
    is : slice_get ws i ≡ Some a
    change : ((i ≡ j) × (a ≡ b) × (v ≡ w)) ⊎ ((i ≢ j) × GotBack a v j i qs)

  resettled : (i : ℕ) (v : Worker sli Queues) → slice_get xs i ≡ Some v → Resettled i v
  resettled i v is =
      let g = r.gathered in
      let j_in : j < length ws = slice_get_within ws j b r.owner in
      let there : j < length us = omega (arith, g.count) in
      let gave = r.gave in
      let i_in : i < length ws = omega (arith, slice_get_within xs i v is, gave.count, length-set us j w, g.count) in
      let s = some_at ws i i_in in
      elim (cases_eq i j) [
        | inl e ↦
            let v_is = gave.same i (inr e) ∙ (ap (slice_get (set us j w)) e ∙ get_set_same us j w there) in
            record { a = s.0; is = s.1; change = inl (e, some_same s.0 b (sym s.1 ∙ (ap (slice_get ws) e ∙ r.owner)), some_same v w (sym is ∙ v_is)) }
        | inr ne ↦
            let u = g.gave i s.0 i_in ne s.1 in
            let o = gave.gave i u.0 i_in ne (get_set_other us j i w ne ∙ u.1) in
            let v_is : o.0 ≡ v = some_same o.0 v (sym o.1 ∙ is) in
            record {
              a = s.0;
              is = s.1;
              change = inr (ne, subst (λ (z : Worker sli Queues). GotBack s.0 z j i qs) v_is (got_back s.0 u.0 o.0 j i qs (slot_there ws i j s.0 r.yard s.1 j_in ne) u.2 o.2));
            }
      ]

  owner_still : StillIs b w j
  owner_still =
      let m = r.beside in
      record {
        heap = r.same.0;
        id = r.same.1;
        numbers = (m.owner.0, m.owner.1);
        own = (m.got, m.owner.2);
        ends = λ k ne. owner_end b w k r.same.2;
      }

  still : (i : ℕ) (v : Worker sli Queues) → (x : Resettled i v) → StillIs x.a v j
  still i v x = elim x.change [
    | inl e ↦ subst (λ (z : Worker sli Queues × Worker sli Queues). StillIs z.0 z.1 j) (λ t. (sym e.1 t, sym e.2 t)) owner_still
    | inr e ↦ back_still x.a v j i qs e.1
  ]

  -- the owner's own slot is empty
  own_slot : (v : Worker sli Queues) → v ≡ w → queue_end_to v j ≡ None
  own_slot v e = ap (λ (z : Worker sli Queues). queue_end_to z j) e ∙ (owner_end b w j r.same.2 ∙ owner_none ws j b r.yard r.owner)

  -- ---- the yard stays whole

  fits_still : (i : ℕ) (v : Worker sli Queues) → slice_get xs i ≡ Some v
      → FitsQueueYard (length ws) (queue_capacity_in ws) i v
  fits_still i v is =
      let x = resettled i v is in
      let s = still i v x in
      let yard = r.yard in
      let old = yard.workers i x.a x.is in
      let k = old.knows in
      let number : id_of v ≡ i = s.id ∙ old.number in
      let j_in : j < length ws = slice_get_within ws j b r.owner in
      record {
        number = number;
        knows = record {
          few = k.few;
          self = omega (arith, s.id, k.self);
          own = (s.numbers.0 ∙ (k.own.0 ∙ sym s.id), s.numbers.1 ∙ k.own.1);
          to = λ m other. elim (cases_eq m j) [
            | inl e ↦ elim x.change [
              | inl c ↦ absurd (other.1 (e ∙ (sym c.0 ∙ sym number)))
              | inr c ↦ let got = c.1 in (got.end, ap (queue_end_to v) e ∙ got.here, got.number ∙ sym number)
            ]
            | inr ne ↦ let o = k.to m (other.0, λ e. other.1 (e ∙ sym s.id)) in (o.0, s.ends m ne ∙ o.1, o.2 ∙ sym s.id)
          ];
          none = λ m far. elim (cases_eq m j) [
            | inl e ↦ elim x.change [
              | inl c ↦ ap (queue_end_to v) e ∙ own_slot v c.2
              | inr c ↦ absurd (far (omega (arith, e), λ f. c.0 (sym number ∙ (sym f ∙ e))))
            ]
            | inr ne ↦ s.ends m ne ∙ k.none m (λ other. far (other.0, λ e. other.1 (e ∙ s.id)))
          ];
        };
        heap = subst (IsHeapOf i) (sym (ap (λ h. h.heap) s.heap)) old.heap;
        room = s.own.1 ∙ old.room;
      }

  mailboxes_still : (i k : ℕ) (v c : Worker sli Queues) (q : PosterEnd)
      → slice_get xs i ≡ Some v → slice_get xs k ≡ Some c → queue_end_to v k ≡ Some q → IsMailbox c.ports.own q
  mailboxes_still i k v c q is_v is_c is_q =
      let x = resettled i v is_v in
      let y = resettled k c is_c in
      let yard = r.yard in
      let m = r.beside in
      elim (cases_eq k j) [
        | inl e ↦
            let here : queue_end_to v j ≡ Some q = ap (queue_end_to v) (sym e) ∙ is_q in
            let owner : c.ports.own ≡ w.ports.own = elim y.change [
              | inl d ↦ ap (λ (z : Worker sli Queues). z.ports.own) d.2
              | inr d ↦ absurd (d.0 e)
            ] in
            elim x.change [
              | inl d ↦ absurd (none_or_some (queue_end_to v j) q (own_slot v d.2) here)
              | inr d ↦
                  let got = d.1 in
                  let q_is : got.end ≡ q = some_same got.end q (sym got.here ∙ here) in
                  subst (λ (z : OwnerEnd × PosterEnd). IsMailbox z.0 z.1) (λ t. (sym owner t, q_is t)) (holds_of_member (IsMailbox w.ports.own) qs got.before got.after got.end got.stands m.whole.0)
            ]
        | inr ne ↦
            let s = still i v x in
            let owner : c.ports.own ≡ y.a.ports.own = elim y.change [
              | inl d ↦ absurd (ne d.0)
              | inr d ↦ let got = d.1 in got.same.2
            ] in
            subst (λ (o : OwnerEnd). IsMailbox o q) (sym owner) (yard.mailboxes i k x.a y.a q x.is y.is (sym (s.ends k ne) ∙ is_q))
      ]

  capacity_still : length xs ≡ length ws → queue_capacity_in xs ≡ queue_capacity_in ws
  capacity_still count =
      let j_in : j < length ws = slice_get_within ws j b r.owner in
      let s = some_at xs 0 (omega (arith, count)) in
      let x = resettled 0 s.0 s.1 in
      let same = still 0 s.0 x in
      ap first_capacity s.1 ∙ (same.own.1 ∙ sym (ap first_capacity x.is))

  whole_still : length xs ≡ length ws → IsQueueYard xs
  whole_still count =
      let yard = r.yard in
      let room = capacity_still count in
      record {
        level = yard.level;
        few = omega (arith, count, yard.few);
        small = omega (arith, room, yard.small);
        workers = λ i v is. subst (λ (z : ℕ × ℕ). FitsQueueYard z.0 z.1 i v) (λ t. (sym count t, sym room t)) (fits_still i v is);
        mailboxes = mailboxes_still;
      }

  -- ---- what is known then

  -- an end that was given back has put what it had put
  put_still : (i : ℕ) (v : Worker sli Queues) → (x : Resettled i v)
      → (p q : PosterEnd) → queue_end_to x.a j ≡ Some p → queue_end_to v j ≡ Some q → put_by q ≡ put_by p
  put_still i v x p q is_p is_q = elim x.change [
    | inl e ↦ absurd (none_or_some (queue_end_to v j) q (own_slot v e.2) is_q)
    | inr e ↦
        let got = e.1 in
        let g = r.gathered in
        let m = r.beside in
        let all = were_put ws j b qs r.yard r.owner (m.numbers ∙ ap (map number_of) g.ends) (m.put ∙ ap (map put_by) g.ends) in
        let was = holds_of_member (λ q. WasPut ws j (number_of q) (put_by q)) qs got.before got.after got.end got.stands all in
        let p_is : was.0 ≡ p = some_same was.0 p (sym was.1 ∙ (ap (λ k. end_at ws k j) got.number ∙ (ap (λ o. queue_end_in o j) x.is ∙ is_p))) in
        let q_is : got.end ≡ q = some_same got.end q (sym got.here ∙ is_q) in
        sym (ap put_by q_is) ∙ (sym was.2 ∙ ap put_by p_is)
  ]

  known_then : QueueKnown xs j
  known_then =
      let m = r.beside in
      let owner : (c : Worker sli Queues) → slice_get xs j ≡ Some c → c ≡ w = λ c is. let y = resettled j c is in elim y.change [
        | inl d ↦ d.2
        | inr d ↦ absurd (d.0 refl)
      ] in
      record {
        known = λ i v c q is_v is_c is_q. let x = resettled i v is_v in elim x.change [
          | inl e ↦ absurd (none_or_some (queue_end_to v j) q (own_slot v e.2) is_q)
          | inr e ↦
              let got = e.1 in
              let q_is : got.end ≡ q = some_same got.end q (sym got.here ∙ is_q) in
              let all = holds_of_member (λ q. posts_of (number_of q) (known_to w.ports.own) ≡ put_by q) qs got.before got.after got.end got.stands m.known in
              ap (λ (z : Worker sli Queues). posts_of i (known_to z.ports.own)) (owner c is_c) ∙ (ap (λ k. posts_of k (known_to w.ports.own)) (sym got.number) ∙ (all ∙ ap put_by q_is))
        ];
        order = λ c is_c.
            let saw = m.order.1 in
            subst (λ (z : Worker sli Queues). (waiting : List Post) × ((p : ℕ) → posts_of p (known_to z.ports.own) ≡ posts_of p (got_by z.ports.own ++ waiting)) × (length waiting ≤ most_of z.ports.own)) (sym (owner c is_c))
            (m.order.0, m.order.2, saw.few);
        gone = λ i v c q is_v is_c is_q. let x = resettled i v is_v in elim x.change [
          | inl e ↦ absurd (none_or_some (queue_end_to v j) q (own_slot v e.2) is_q)
          | inr e ↦
              let got = e.1 in
              let q_is : got.end ≡ q = some_same got.end q (sym got.here ∙ is_q) in
              let all = holds_of_member (λ q. gone_from q ≡ posts_of (number_of q) (got_by w.ports.own)) qs got.before got.after got.end got.stands m.gone in
              sym (ap gone_from q_is) ∙ (all ∙ (ap (λ k. posts_of k (got_by w.ports.own)) got.number ∙ ap (λ (z : Worker sli Queues). posts_of i (got_by z.ports.own)) (sym (owner c is_c))))
        ];
      }

  pub queue_settled : QueueSettled ws j xs
  queue_settled =
      let g = r.gathered in
      let gave = r.gave in
      let count : length xs ≡ length ws = gave.count ∙ (length-set us j w ∙ g.count) in
      record {
        yard = whole_still count;
        count = count;
        stays = λ i a v is_a is_v.
            let x = resettled i v is_v in
            let s = still i v x in
            subst (λ (z : Worker sli Queues). StaysSettled j i z v) (some_same x.a a (sym x.is ∙ is_a)) (record {
              heap = s.heap;
              id = s.id;
              own = s.own;
              other = λ ne. elim x.change [
                | inl e ↦ absurd (ne e.0)
                | inr e ↦ let got = e.1 in got.same.2
              ];
              ends = s.ends;
              put = put_still i v x;
            });
        known = known_then;
      }

-- ---- what the parts ask of one another

-- the owner is still there once the ends were taken out
pub owner_there : {sli : ℕ} (ws us : List (Worker sli Queues)) (j : ℕ) (ps : List PosterEnd) (d : Worker sli Queues) → Gathered ws j (length ws) us ps → j < length ws → slice_get ws j ≡ Some (get_or us j d)
owner_there ws us j ps d g j_in = let there : j < length us = omega (arith, g.count) in sym (g.same j (inr refl)) ∙ slice_get-get_or us j d there

-- each other worker has a slot still
pub slots_still : {sli : ℕ} (ws us : List (Worker sli Queues)) (j : ℕ) (w : Worker sli Queues) (ps : List PosterEnd) → IsQueueYard ws → j < length ws → Gathered ws j (length ws) us ps → (i : ℕ) (v : Worker sli Queues) → i ≢ j
    → slice_get (set us j w) i ≡ Some v → j < length v.ports.posts.items
slots_still {sli} ws us j w ps yard j_in g i v ne is =
    let i_in : i < length ws = omega (arith, slice_get_within (set us j w) i v is, length-set us j w, g.count) in
    let s = some_at ws i i_in in
    let u = g.gave i s.0 i_in ne s.1 in
    let v_is : u.0 ≡ v = some_same u.0 v (sym (get_set_other us j i w ne ∙ u.1) ∙ is) in
    let gave = u.2 in
    let room = slot_there ws i j s.0 yard s.1 j_in ne in
    subst (λ (z : Worker sli Queues). j < length z.ports.posts.items) v_is (omega (arith, ap length gave.posts, length-set s.0.ports.posts.items j None))

-- the ends that come back have the numbers of all but the owner
pub numbers_still : {sli : ℕ} (ws : List (Worker sli Queues)) (j : ℕ) (b w : Worker sli Queues) (ps qs : List PosterEnd) → IsQueueYard ws → slice_get ws j ≡ Some b → AllBeside b.ports.own ps w.ports.own qs → map number_of qs ≡ below_but j (length ws)
numbers_still ws j b w ps qs yard is m =
    let old = yard.workers j b is in
    let k = old.knows in
    m.whole.1 ∙ (λ t. below_but ((m.owner.0 ∙ (k.own.0 ∙ old.number)) t) ((m.owner.1 ∙ k.own.1) t))

-- ---- queues, one after another

pub settled_none : {sli : ℕ} (ws : List (Worker sli Queues)) → IsQueueYard ws → EachQueueSettled ws 0 ws
settled_none ws yard = record {
  yard = yard;
  count = refl;
  stays = λ i a v is_a is_v. subst (StaysPut a) (some_same a v (sym is_a ∙ is_v)) (record {
    heap = refl;
    id = refl;
    own = (refl, refl);
    put = λ k p q is_p is_q. ap put_by (some_same q p (sym is_q ∙ is_p));
  });
  known = λ j lt. absurd (omega arith);
}

-- where an end is there was one
end_still : {sli : ℕ} (n j : ℕ) (u v : Worker sli Queues) (q : PosterEnd) → KnowsQueueYard n u → KnowsQueueYard n v → v.id ≡ u.id → queue_end_to v j ≡ Some q → (p : PosterEnd) × (queue_end_to u j ≡ Some p)
end_still n j u v q known_u known_v same is =
    let gone : ¬ (IsOther n (id_of v) j) → ⊥ = λ far. none_or_some (queue_end_to v j) q (known_v.none j far) is in
    elim (cases_lt j n) [
      | inl lt ↦ elim (cases_eq j (id_of v)) [
        | inl e ↦ absurd (gone (λ other. other.1 e))
        | inr ne ↦ let o = known_u.to j (lt, λ e. ne (e ∙ sym same)) in (o.0, o.1)
      ]
      | inr ge ↦ absurd (gone (λ other. let lt = other.0 in omega arith))
    ]

-- what one settling leaves of a worker, after others
stays_then : {sli : ℕ} (j i : ℕ) (a u v : Worker sli Queues) → StaysPut a u → StaysSettled j i u v → (n : ℕ) → KnowsQueueYard n u → KnowsQueueYard n v → StaysPut a v
stays_then j i a u v x y n known_u known_v = record {
  heap = y.heap ∙ x.heap;
  id = y.id ∙ x.id;
  own = (y.own.0 ∙ x.own.0, y.own.1 ∙ x.own.1);
  put = λ k p q is_p is_q. elim (cases_eq k j) [
    | inl e ↦
        let q_is : queue_end_to v j ≡ Some q = ap (queue_end_to v) (sym e) ∙ is_q in
        let m = end_still n j u v q known_u known_v y.id q_is in
        y.put m.0 q m.1 q_is ∙ x.put k p m.0 is_p (ap (queue_end_to u) e ∙ m.1)
    | inr ne ↦ x.put k p q is_p (sym (y.ends k ne) ∙ is_q)
  ];
}

-- what was known of an earlier queue is known still
known_still : {sli : ℕ} (us vs : List (Worker sli Queues)) (j k : ℕ) → QueueSettled us j vs → k ≢ j → QueueKnown us k → QueueKnown vs k
known_still {sli} us vs j k s ne known =
    let was : (i : ℕ) (v : Worker sli Queues) → slice_get vs i ≡ Some v → (u : Worker sli Queues) × (slice_get us i ≡ Some u) × StaysSettled j i u v = λ i v is.
    let o = some_at us i (omega (arith, slice_get_within vs i v is, s.count)) in
    (o.0, o.1, s.stays i o.0 v o.1 is) in
    record {
      known = λ i v c q is_v is_c is_q.
          let u = was i v is_v in
          let d = was k c is_c in
          let there = u.2 in
          let owner = d.2 in
          ap (λ (z : OwnerEnd). posts_of i (known_to z)) (owner.other ne) ∙ known.known i u.0 d.0 q u.1 d.1 (sym (there.ends k ne) ∙ is_q);
      order = λ c is_c.
          let d = was k c is_c in
          let owner = d.2 in
          subst (λ (z : OwnerEnd). (waiting : List Post) × ((p : ℕ) → posts_of p (known_to z) ≡ posts_of p (got_by z ++ waiting)) × (length waiting ≤ most_of z)) (sym (owner.other ne)) (known.order d.0 d.1);
      gone = λ i v c q is_v is_c is_q.
          let u = was i v is_v in
          let d = was k c is_c in
          let there = u.2 in
          let owner = d.2 in
          known.gone i u.0 d.0 q u.1 d.1 (sym (there.ends k ne) ∙ is_q) ∙ sym (ap (λ (z : OwnerEnd). posts_of i (got_by z)) (owner.other ne));
    }

pub settled_more : {sli : ℕ} (ws us vs : List (Worker sli Queues)) (j : ℕ) → EachQueueSettled ws j us → QueueSettled us j vs → EachQueueSettled ws (j + 1) vs
settled_more ws us vs j x y = record {
  yard = y.yard;
  count = y.count ∙ x.count;
  stays = λ i a v is_a is_v.
      let o = some_at us i (omega (arith, slice_get_within vs i v is_v, y.count)) in
      let yard_u = x.yard in
      let yard_v = y.yard in
      let u = yard_u.workers i o.0 o.1 in
      let w = yard_v.workers i v is_v in
      let knows_v : KnowsQueueYard (length us) v = subst (λ (n : ℕ). KnowsQueueYard n v) y.count w.knows in
      stays_then j i a o.0 v (x.stays i a o.0 is_a o.1) (y.stays i o.0 v o.1 is_v) (length us) u.knows knows_v;
  known = λ k lt. elim (cases_eq k j) [
    | inl e ↦ subst (QueueKnown vs) (sym e) y.known
    | inr ne ↦ let below : k < j = omega arith in known_still us vs j k y ne (x.known k below)
  ];
}
