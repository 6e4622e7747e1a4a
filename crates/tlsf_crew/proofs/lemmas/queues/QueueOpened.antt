-- Where each worker was given its end to each other queue, the yard is whole and nothing waits in it.
use Rattle.tlsf_crew.proofs.Common.{suc, zero, [], ◌∷◌, ◌++◌, ◌≡◌, ◌≢◌, ℕ, ◌+◌, ◌<◌, ◌≤◌, List, Option, Some, None, All, length, get_or, set, drop, replicate, sym, ◌∙◌, ap, map, arith, refl, inl, inr, ◌⊎◌, subst, append_assoc, Vec, Global, slice_get, range_with_len, slice_get-get_or, slice_get_within, cases_eq, cases_lt, length-append, length-map, length-replicate, length-set, map-append, same_from_push, same_lists, append-nil, All-head, All-tail, IsLevel, HeapState, opened, posts_of, below_but, number_of, put_by, owner_of, out_of, most_of, got_by, known_to, IsMailbox, IsWhole, OwnerEnd, Post, PosterEnd, Worker, Queues, opened_heaps, opened_world, slot_of, heap_of, id_of, IsHeapOf, queue_end_to, FitsQueueYard, IsQueueYard, first_capacity, queue_capacity_in, queue_end_in, queue_waits_in, queue_world_of, waits_of, AreUngiven, AreFreshQueues, AreGiven, GaveEnds, GotEnd, IsNewQueueWorker, get_or-map-range_with_len, length-range_with_len, AreSizes, but_more, but_skip}
use Rattle.tlsf_post.proofs.RoundSteps.{no_items}
use Rattle.tlsf_crew.proofs.lemmas.worker.Slots.{at_push, no_slot, get_set_same, get_set_other, none_or_some, slot_new, slot_other, some_same, some_at}
use Rattle.tlsf_crew.proofs.lemmas.worker.OwnHeaps.{opened_lawful}

-- ---- ends are given one after another

pub gave_none : {sli : ℕ} (ws : List (Worker sli Queues)) (j : ℕ) (ps : List PosterEnd) → GaveEnds ws j 0 ps ws
gave_none ws j ps = record { count = refl; same = λ i h. refl; gave = λ i a lt. absurd (omega arith) }

-- the owner has no end to its own queue
pub gave_own : {sli : ℕ} (ws vs : List (Worker sli Queues)) (j i k : ℕ) (ps : List PosterEnd) → k ≡ i + 1 → i ≡ j → GaveEnds ws j i ps vs → GaveEnds ws j k ps vs
gave_own ws vs j i k ps next own g = record {
  count = g.count;
  same = λ x h. g.same x (elim h [
    | inl le ↦ inl (omega arith)
    | inr e ↦ inr e
  ]);
  gave = λ x a lt ne is. let below : x < i = omega arith in g.gave x a below ne is;
}

pub gave_more : {sli : ℕ} (ws vs : List (Worker sli Queues)) (j i k : ℕ) (ps rest : List PosterEnd) (one : PosterEnd) (a v : Worker sli Queues) → k ≡ i + 1 → ps ≡ rest ++ one ∷ [] → i ≢ j → slice_get ws i ≡ Some a → number_of one ≡ i
    → v.ports.posts.items ≡ set a.ports.posts.items j (Some one) → (v.heap ≡ a.heap) × (v.id ≡ a.id) × (v.ports.own ≡ a.ports.own) → GaveEnds (set ws i v) j i rest vs → GaveEnds ws j k ps vs
gave_more ws vs j i k ps rest one a v next whole apart at number posts same g =
    let i_in = slice_get_within ws i a at in
    let here : i ≤ i = omega arith in
    record {
      count = g.count ∙ length-set ws i v;
      same = λ x h.
          let ne : x ≢ i = elim h [
            | inl le ↦ (λ e. omega arith)
            | inr e ↦ (λ f. apart (sym f ∙ e))
          ] in
          let still : (i ≤ x) ⊎ (x ≡ j) = elim h [
            | inl le ↦ inl (omega arith)
            | inr e ↦ inr e
          ] in
          g.same x still ∙ get_set_other ws i x v ne;
      gave = λ x b lt ne is. elim (cases_eq x i) [
        | inl e ↦
            let b_is : b ≡ a = some_same b a (sym is ∙ (ap (slice_get ws) e ∙ at)) in
            let got : GotEnd a v j i ps = record { end = one; before = rest; after = []; stands = whole; number = number; posts = posts; same = same } in
            (v, ap (slice_get vs) e ∙ (g.same i (inl here) ∙ get_set_same ws i v i_in), rw (b_is, e) got)
        | inr e ↦
            let below : x < i = omega arith in
            let o = g.gave x b below ne (get_set_other ws i x v e ∙ is) in
            let got = o.2 in (
              o.0,
              o.1,
              record {
                end = got.end;
                before = got.before;
                after = got.after ++ one ∷ [];
                stands = whole ∙ (ap (λ l. l ++ one ∷ []) got.stands ∙ append_assoc got.before (got.end ∷ got.after) (one ∷ []));
                number = got.number;
                posts = got.posts;
                same = got.same;
              },
            )
      ];
    }

-- ---- the numbers of the ends that are left

pub below_but_own : (j i k : ℕ) → k ≡ i + 1 → i ≡ j → below_but j k ≡ below_but j i
below_but_own j i k e own = let s : k ≡ suc j = omega arith in ap (below_but j) s ∙ (but_skip j ∙ ap (below_but j) (sym own))

pub last_end : (j i k : ℕ) (ps rest : List PosterEnd) (one : PosterEnd) → k ≡ i + 1 → i ≢ j → ps ≡ rest ++ one ∷ [] → map number_of ps ≡ below_but j k → (map number_of rest ≡ below_but j i) × (number_of one ≡ i)
last_end j i k ps rest one e ne whole numbers =
    let s : k ≡ suc i = omega arith in
    let n : map number_of rest ++ number_of one ∷ [] ≡ below_but j i ++ i ∷ []
    = sym (map-append number_of rest (one ∷ [])) ∙ (ap (map number_of) (sym whole) ∙ (numbers ∙ (ap (below_but j) s ∙ but_more j i ne))) in
    let r = same_from_push (map number_of rest) (below_but j i) (number_of one) i n in
    (r.0, r.1)

-- an end is left where one more number is
pub end_left : (j i k : ℕ) (ps : List PosterEnd) → k ≡ i + 1 → i ≢ j → map number_of ps ≡ below_but j k → ps ≡ [] → ⊥
end_left j i k ps e ne numbers none =
    let s : k ≡ suc i = omega arith in
    let n : [] ≡ below_but j i ++ i ∷ [] = ap (map number_of) (sym none) ∙ (numbers ∙ (ap (below_but j) s ∙ but_more j i ne)) in
    omega (arith, ap length n, length-append (below_but j i) (i ∷ []))

-- what had nothing to pop was empty
pub popped_none : {X : Type 0} (xs ys : List X) → xs ≡ ys ++ [] → length ys ≡ 0 → xs ≡ []
popped_none xs ys e none = e ∙ (append-nil ys ∙ no_items ys none)

-- ---- queues are given one after another

-- what holds of all ends holds of one that stands among them
all_middle : (P : PosterEnd → Type 0) (before after : List PosterEnd) (p : PosterEnd) → All P (before ++ p ∷ after) → P p
all_middle P [] after p all = All-head P p after all
all_middle P (b ∷ before) after p all = all_middle P before after p (All-tail P b (before ++ p ∷ after) all)

pub holds_of_member : (P : PosterEnd → Type 0) (ps before after : List PosterEnd) (p : PosterEnd) → ps ≡ before ++ p ∷ after → All P ps → P p
holds_of_member P ps before after p e all = all_middle P before after p (subst (All P) e all)

-- the worker that was there before, and how it has changed: the owner of the queue is the same, all others got an end
record Earlier {sli : ℕ} (ws : List (Worker sli Queues)) (m i : ℕ) (v : Worker sli Queues) (ps : List PosterEnd) : Type 0 where
  a : Worker sli Queues
  is : slice_get ws i ≡ Some a
  change : ((i ≡ m) × (v ≡ a)) ⊎ ((i ≢ m) × GotEnd a v m i ps)

earlier : {sli : ℕ} (ws vs : List (Worker sli Queues)) (m i : ℕ) (v : Worker sli Queues) (ps : List PosterEnd) → GaveEnds ws m (length ws) ps vs → slice_get vs i ≡ Some v → Earlier ws m i v ps
earlier {sli} ws vs m i v ps g is =
    let i_in : i < length ws = omega (arith, slice_get_within vs i v is, g.count) in
    let at = slice_get-get_or ws i v i_in in
    let a = get_or ws i v in
    elim (cases_eq i m) [
      | inl e ↦ record { a = a; is = at; change = inl (e, some_same v a (sym is ∙ (g.same i (inr e) ∙ at))) }
      | inr ne ↦
          let o = g.gave i a i_in ne at in
          let v_is : o.0 ≡ v = some_same o.0 v (sym o.1 ∙ is) in
          record { a = a; is = at; change = inr (ne, subst (λ (z : Worker sli Queues). GotEnd a z m i ps) v_is o.2) }
    ]

earlier_own : {sli : ℕ} (ws : List (Worker sli Queues)) (m i : ℕ) (v : Worker sli Queues) (ps : List PosterEnd) (x : Earlier ws m i v ps) → v.ports.own ≡ x.a.ports.own
earlier_own {sli} ws m i v ps x = elim x.change [
  | inl e ↦ ap (λ (z : Worker sli Queues). z.ports.own) e.1
  | inr e ↦ let got = e.1 in got.same.2
]

-- an end to another queue
earlier_end : {sli : ℕ} (ws : List (Worker sli Queues)) (m i j : ℕ) (v : Worker sli Queues) (ps : List PosterEnd) (x : Earlier ws m i v ps) → j ≢ m → queue_end_to v j ≡ queue_end_to x.a j
earlier_end {sli} ws m i j v ps x ne = elim x.change [
  | inl e ↦ ap (λ (z : Worker sli Queues). queue_end_to z j) e.1
  | inr e ↦ let got = e.1 in slot_other x.a.ports.posts.items v.ports.posts.items m got.end got.posts j ne
]

new_still : {sli : ℕ} (n words capacity i m : ℕ) (a v : Worker sli Queues) (ps : List PosterEnd) → GotEnd a v m i ps → IsNewQueueWorker n words capacity i a → IsNewQueueWorker n words capacity i v
new_still n words capacity i m a v ps got w = record {
  number = got.same.1 ∙ w.number;
  heap = ap (λ h. h.heap) got.same.0 ∙ w.heap;
  own = subst (λ (o : OwnerEnd). (owner_of o ≡ i) × (out_of o ≡ n) × (most_of o ≡ capacity) × (got_by o ≡ []) × (known_to o ≡ [])) (sym got.same.2) w.own;
  slots = ap length got.posts ∙ (length-set a.ports.posts.items m (Some got.end) ∙ w.slots);
}

pub given_more : {sli : ℕ} (n words capacity m : ℕ) (ws vs : List (Worker sli Queues)) (b : Worker sli Queues) (ps : List PosterEnd) → AreGiven n words capacity (m + 1) ws → m < n → slice_get ws m ≡ Some b → IsWhole b.ports.own ps → All (λ p. put_by p ≡ []) ps
    → GaveEnds ws m (length ws) ps vs → AreGiven n words capacity m vs
given_more {sli} n words capacity m ws vs b ps g m_in b_is whole fresh gave = record {
  count = gave.count ∙ g.count;
  new = λ i v is. let x = earlier ws vs m i v ps gave is in elim x.change [
    | inl e ↦ subst (IsNewQueueWorker n words capacity i) (sym e.1) (g.new i x.a x.is)
    | inr e ↦ new_still n words capacity i m x.a v ps e.1 (g.new i x.a x.is)
  ];
  given = λ i j v w is_v is_w le ne.
      let x = earlier ws vs m i v ps gave is_v in
      let y = earlier ws vs m j w ps gave is_w in
      elim (cases_eq j m) [
        | inl e ↦ elim x.change [
          | inl same ↦ absurd (ne (same.0 ∙ sym e))
          | inr got_end ↦
              let got = got_end.1 in
              let in_slots : m < length x.a.ports.posts.items = let w = g.new i x.a x.is in omega (arith, w.slots) in
              let b_own : w.ports.own ≡ b.ports.own = earlier_own ws m j w ps y ∙ ap (λ (z : Worker sli Queues). z.ports.own) (some_same y.a b (sym y.is ∙ (ap (slice_get ws) e ∙ b_is))) in
              let here : queue_end_to v m ≡ Some got.end = slot_new x.a.ports.posts.items v.ports.posts.items m got.end in_slots got.posts in (
                got.end,
                ap (queue_end_to v) e ∙ here,
                got.number,
                holds_of_member (λ p. put_by p ≡ []) ps got.before got.after got.end got.stands fresh,
                subst (λ (o : OwnerEnd). IsMailbox o got.end) (sym b_own) (holds_of_member (IsMailbox b.ports.own) ps got.before got.after got.end got.stands whole.0),
              )
        ]
        | inr ne_m ↦
            let further : m + 1 ≤ j = omega arith in
            let o = g.given i j x.a y.a x.is y.is further ne in
            (o.0, earlier_end ws m i j v ps x ne_m ∙ o.1, o.2, o.3, subst (λ (z : OwnerEnd). IsMailbox z o.0) (sym (earlier_own ws m j w ps y)) o.4)
      ];
  none = λ i j v is h.
      let x = earlier ws vs m i v ps gave is in
      let before : (j < m + 1) ⊎ ((n ≤ j) ⊎ (i ≡ j)) = elim h [
        | inl lt ↦ inl (omega arith)
        | inr far ↦ inr far
      ] in
      elim x.change [
        | inl e ↦ ap (λ (z : Worker sli Queues). queue_end_to z j) e.1 ∙ g.none i j x.a x.is before
        | inr e ↦
            let away : j ≢ m = elim h [
              | inl lt ↦ (λ f. omega arith)
              | inr far ↦ elim far [
                | inl ge ↦ (λ f. omega arith)
                | inr own ↦ (λ f. e.0 (own ∙ f))
              ]
            ] in
            earlier_end ws m i j v ps x away ∙ g.none i j x.a x.is before
      ];
}

-- ---- the next queue to be given

get_last : {X : Type 0} (xs : List X) (x : X) → slice_get (xs ++ x ∷ []) (length xs) ≡ Some x
get_last [] x = refl
get_last (y ∷ xs) x = get_last xs x

get_front : {X : Type 0} (xs : List X) (x a : X) (k : ℕ) → slice_get xs k ≡ Some a → slice_get (xs ++ x ∷ []) k ≡ Some a
get_front [] x a k e = cc
get_front (y ∷ xs) x a zero e = e
get_front (y ∷ xs) x a (suc k) e = get_front xs x a k e

-- its owner, and its ends
record NextQueue {sli : ℕ} (ws : List (Worker sli Queues)) (m : ℕ) (ps : List PosterEnd) : Type 0 where
  b : Worker sli Queues
  is : slice_get ws m ≡ Some b
  whole : IsWhole b.ports.own ps
  fresh : All (λ p. put_by p ≡ []) ps

next_queue : {sli : ℕ} (ws : List (Worker sli Queues)) (ends rest : List (Vec PosterEnd Global)) (ps : Vec PosterEnd Global) (m : ℕ) → AreUngiven ws ends → ends ≡ rest ++ ps ∷ [] → m ≡ length rest → m < length ws → NextQueue ws m ps.items
next_queue ws ends rest ps m fit whole m_is m_in =
    let s = some_at ws m m_in in
    let at : slice_get ends m ≡ Some ps = ap (λ l. slice_get l m) whole ∙ (ap (slice_get (rest ++ ps ∷ [])) m_is ∙ get_last rest ps) in
    let f = fit m s.0 ps s.1 at in
    record { b = s.0; is = s.1; whole = f.0; fresh = f.1 }

-- the numbers of its ends
pub next_numbers : {sli : ℕ} (n words capacity k m : ℕ) (ws : List (Worker sli Queues)) (ends rest : List (Vec PosterEnd Global)) (ps : Vec PosterEnd Global) → AreGiven n words capacity k ws → AreUngiven ws ends
    → ends ≡ rest ++ ps ∷ [] → m ≡ length rest → m < length ws → map number_of ps.items ≡ below_but m n
next_numbers n words capacity k m ws ends rest ps g fit whole m_is m_in =
    let q = next_queue ws ends rest ps m fit whole m_is m_in in
    let w = g.new m q.b q.is in
    q.whole.1 ∙ (λ i. below_but (w.own.0 i) (w.own.1 i))

-- it is given
pub queue_given : {sli : ℕ} (n words capacity k m : ℕ) (ws vs : List (Worker sli Queues)) (ends rest : List (Vec PosterEnd Global)) (ps : Vec PosterEnd Global) → AreGiven n words capacity k ws → k ≡ m + 1 → AreUngiven ws ends
    → ends ≡ rest ++ ps ∷ [] → m ≡ length rest → m < length ws → GaveEnds ws m (length ws) ps.items vs → AreGiven n words capacity m vs
queue_given n words capacity k m ws vs ends rest ps g k_is fit whole m_is m_in gave =
    let q = next_queue ws ends rest ps m fit whole m_is m_in in
    given_more n words capacity m ws vs q.b ps.items (subst (λ (k : ℕ). AreGiven n words capacity k ws) k_is g) (omega (arith, g.count)) q.is q.whole q.fresh gave

-- and the ends of those before it are still to be given
pub ends_kept : {sli : ℕ} (ws vs : List (Worker sli Queues)) (ends rest : List (Vec PosterEnd Global)) (ps : Vec PosterEnd Global) (m : ℕ) → AreUngiven ws ends → ends ≡ rest ++ ps ∷ [] → GaveEnds ws m (length ws) ps.items vs → AreUngiven vs rest
ends_kept ws vs ends rest ps m fit whole gave j b qs is_b is_qs =
    let x = earlier ws vs m j b ps.items gave is_b in
    let at : slice_get ends j ≡ Some qs = ap (λ l. slice_get l j) whole ∙ get_front rest ps qs j is_qs in
    subst (λ (o : OwnerEnd). IsWhole o qs.items × All (λ p. put_by p ≡ []) qs.items) (sym (earlier_own ws m j b ps.items x)) (fit j x.a qs x.is at)

-- the number of slots stays when one is filled
pub slots_set : {sli : ℕ} (ws : List (Worker sli Queues)) (i j : ℕ) (a v : Worker sli Queues) → slice_get ws i ≡ Some a → length v.ports.posts.items ≡ length a.ports.posts.items → ((x : ℕ) (b : Worker sli Queues) → x ≢ j → slice_get ws x ≡ Some b → j < length b.ports.posts.items)
    → (x : ℕ) (b : Worker sli Queues) → x ≢ j → slice_get (set ws i v) x ≡ Some b → j < length b.ports.posts.items
slots_set {sli} ws i j a v at len slots x b apart is =
    elim (cases_eq x i) [
      | inl e ↦
          let b_is : v ≡ b = some_same v b (sym (ap (slice_get (set ws i v)) e ∙ get_set_same ws i v (slice_get_within ws i a at)) ∙ is) in
          let room = slots i a (λ f. apart (e ∙ f)) at in
          subst (λ (w : Worker sli Queues). j < length w.ports.posts.items) b_is (omega (arith, len))
      | inr ne ↦ slots x b apart (sym (get_set_other ws i x v ne) ∙ is)
    ]

-- ---- the whole yard

given_capacity : {sli : ℕ} (n words capacity : ℕ) (ws : List (Worker sli Queues)) (i : ℕ) (a : Worker sli Queues) → AreGiven n words capacity 0 ws → slice_get ws i ≡ Some a → queue_capacity_in ws ≡ capacity
given_capacity n words capacity ws i a g is =
    let first_in : 0 < length ws = omega (arith, slice_get_within ws i a is) in
    let at = slice_get-get_or ws 0 a first_in in
    let w = g.new 0 (get_or ws 0 a) at in
    ap first_capacity at ∙ w.own.2

given_fits : {sli : ℕ} (n words capacity : ℕ) (ws : List (Worker sli Queues)) → AreSizes sli n words capacity → AreGiven n words capacity 0 ws → (i : ℕ) (a : Worker sli Queues) → slice_get ws i ≡ Some a
    → FitsQueueYard (length ws) (queue_capacity_in ws) i a
given_fits {sli} n words capacity ws sizes g i a is =
    let w = g.new i a is in
    let i_in = slice_get_within ws i a is in
    record {
      number = w.number;
      knows = record {
        few = omega (arith, sizes.0.1, g.count);
        self = omega (arith, w.number, i_in);
        own = (w.own.0 ∙ sym w.number, w.own.1 ∙ sym g.count);
        to = λ j other.
            let b = get_or ws j a in
            let b_is = slice_get-get_or ws j a other.0 in
            let ne : i ≢ j = λ e. other.1 (sym e ∙ sym w.number) in
            let low : 0 ≤ j = omega arith in
            let o = g.given i j a b is b_is low ne in
            (o.0, o.1, o.2 ∙ sym w.number);
        none = λ j far. elim (cases_lt j (length ws)) [
          | inl lt ↦ elim (cases_eq i j) [
            | inl e ↦ g.none i j a is (inr (inr e))
            | inr ne ↦ absurd (far (lt, λ e. ne (sym (e ∙ w.number))))
          ]
          | inr ge ↦ g.none i j a is (inr (inl (omega (arith, g.count))))
        ];
      };
      heap = subst (IsHeapOf i) (sym w.heap) (opened_lawful sli i words sizes.1);
      room = w.own.2 ∙ sym (given_capacity n words capacity ws i a g is);
    }

given_small : {sli : ℕ} (n words capacity : ℕ) (o : Option (Worker sli Queues)) → capacity ≤ 1024 → ((a : Worker sli Queues) → o ≡ Some a → most_of a.ports.own ≡ capacity) → first_capacity o ≤ 1024
given_small n words capacity None le is = omega arith
given_small n words capacity (Some a) le is = omega (arith, is a refl)

pub given_whole : {sli : ℕ} (n words capacity : ℕ) (ws : List (Worker sli Queues)) → IsLevel sli → AreSizes sli n words capacity → AreGiven n words capacity 0 ws → IsQueueYard ws
given_whole n words capacity ws level sizes g = record {
  level = level;
  few = omega (arith, sizes.0.1, g.count);
  small = given_small n words capacity (slice_get ws 0) sizes.2.1 (λ a is. let w = g.new 0 a is in w.own.2);
  workers = given_fits n words capacity ws sizes g;
  mailboxes = λ i j a b p is_a is_b is_p. elim (cases_eq i j) [
    | inl e ↦ absurd (none_or_some (queue_end_to a j) p (g.none i j a is_a (inr (inr e))) is_p)
    | inr ne ↦
        let low : 0 ≤ j = omega arith in
        let o = g.given i j a b is_a is_b low ne in
        subst (IsMailbox b.ports.own) (some_same o.0 p (sym o.1 ∙ is_p)) o.4
  ];
}

pub given_fresh : {sli : ℕ} (n words capacity : ℕ) (ws : List (Worker sli Queues)) → AreGiven n words capacity 0 ws → AreFreshQueues ws
given_fresh n words capacity ws g = record {
  taken = λ i a is. let w = g.new i a is in (w.own.3, w.own.4);
  put = λ i j a p is is_p. elim (cases_lt j (length ws)) [
    | inl lt ↦ elim (cases_eq i j) [
      | inl e ↦ absurd (none_or_some (queue_end_to a j) p (g.none i j a is (inr (inr e))) is_p)
      | inr ne ↦
          let low : 0 ≤ j = omega arith in
          let o = g.given i j a (get_or ws j a) is (slice_get-get_or ws j a lt) low ne in
          ap put_by (some_same p o.0 (sym is_p ∙ o.1)) ∙ o.3
    ]
    | inr ge ↦ absurd (none_or_some (queue_end_to a j) p (g.none i j a is (inr (inl (omega (arith, g.count))))) is_p)
  ];
}

-- ---- its world

pub map_at : {sli : ℕ} (xs : List (Worker sli Queues)) (k : ℕ) (a : Worker sli Queues) (d : HeapState) → slice_get xs k ≡ Some a → get_or (map heap_of xs) k d ≡ heap_of a
map_at [] k a d e = cc
map_at (x ∷ xs) zero a d e = ap heap_of (some_same x a e)
map_at (x ∷ xs) (suc k) a d e = map_at xs k a d e

given_heaps : {sli : ℕ} (n words capacity : ℕ) (ws : List (Worker sli Queues)) → AreGiven n words capacity 0 ws → map heap_of ws ≡ opened_heaps n words
given_heaps n words capacity ws g =
    let open_one : ℕ → HeapState = λ j. opened j words 0 in
    let len : length (map heap_of ws) ≡ n = length-map ws heap_of ∙ g.count in
    same_lists (map heap_of ws) (opened_heaps n words) (len ∙ sym (length-map (range_with_len 0 n) open_one ∙ length-range_with_len 0 n))
    (λ k d lt.
    let k_in : k < length ws = omega (arith, length-map ws heap_of) in
    let k_n : k < n = omega (arith, g.count) in
    let zero_more : 0 + k ≡ k = omega arith in
    let s = some_at ws k k_in in
    let w = g.new k s.0 s.1 in
    map_at ws k s.0 d s.1 ∙ (w.heap ∙ sym (get_or-map-range_with_len open_one 0 n k k d k_n zero_more)))

-- nothing was put, so nothing waits
none_left : {sli : ℕ} (ws : List (Worker sli Queues)) → AreFreshQueues ws → (i j : ℕ) (w v : Worker sli Queues) (o : Option PosterEnd) → slice_get ws j ≡ Some w → slice_get ws i ≡ Some v → queue_end_to v j ≡ o → waits_of (Some w) o ≡ []
none_left ws fresh i j w v None a b e = refl
none_left ws fresh i j w v (Some p) a b e =
    ap (λ (l : List Post). drop (length (posts_of (number_of p) l)) (put_by p)) (let taken = fresh.taken j w a in taken.0) ∙ fresh.put i j v p b e

fresh_queue_waits : {sli : ℕ} (ws : List (Worker sli Queues)) → AreFreshQueues ws → (i j : ℕ) (o s : Option (Worker sli Queues)) → slice_get ws j ≡ o → slice_get ws i ≡ s → waits_of o (queue_end_in s j) ≡ []
fresh_queue_waits ws fresh i j None s a b = refl
fresh_queue_waits ws fresh i j (Some w) None a b = refl
fresh_queue_waits ws fresh i j (Some w) (Some v) a b = none_left ws fresh i j w v (queue_end_to v j) a b refl

pub given_world : {sli : ℕ} (n words capacity : ℕ) (ws : List (Worker sli Queues)) → AreSizes sli n words capacity → AreGiven n words capacity 0 ws → queue_world_of ws ≡ opened_world n words capacity
unfolding queue_world_of
given_world n words capacity ws sizes g =
    let fresh = given_fresh n words capacity ws g in
    let heaps = given_heaps n words capacity ws g in
    let first = some_at ws 0 (omega (arith, sizes.0.0, g.count)) in
    let room = given_capacity n words capacity ws 0 first.0 g first.1 in
    let nothing : (i j : ℕ) → queue_waits_in ws i j ≡ [] = λ i j. fresh_queue_waits ws fresh i j (slice_get ws j) (slice_get ws i) refl refl in
    λ t. record { heaps = heaps t; waiting = λ i j. nothing i j t; capacity = room t }

-- ---- workers without ends

-- a new worker with a new queue, of that number
pub record IsBare {sli : ℕ} (n words capacity i : ℕ) (a : Worker sli Queues) (o : OwnerEnd) (ps : List PosterEnd) : Type 0 where
  pub heap : heap_of a ≡ opened i words 0
  pub numbers : (id_of a ≡ i) × (a.ports.own ≡ o)
  pub posts : a.ports.posts.items ≡ replicate n None
  pub owner : (owner_of o ≡ i) × (out_of o ≡ n) × (most_of o ≡ capacity) × (got_by o ≡ []) × (known_to o ≡ [])
  pub whole : IsWhole o ps
  pub fresh : All (λ p. put_by p ≡ []) ps

bare_new : {sli : ℕ} (n words capacity i : ℕ) (a : Worker sli Queues) (o : OwnerEnd) (ps : List PosterEnd) → IsBare n words capacity i a o ps → IsNewQueueWorker n words capacity i a
bare_new n words capacity i a o ps b = record {
  number = b.numbers.0;
  heap = b.heap;
  own = subst (λ (o : OwnerEnd). (owner_of o ≡ i) × (out_of o ≡ n) × (most_of o ≡ capacity) × (got_by o ≡ []) × (known_to o ≡ [])) (sym b.numbers.1) b.owner;
  slots = ap length b.posts ∙ length-replicate n None;
}

-- workers without ends, and the ends apart
pub record AreBare {sli : ℕ} (n words capacity : ℕ) (ws : List (Worker sli Queues)) (ends : List (Vec PosterEnd Global)) : Type 0 where
  pub same : length ends ≡ length ws
  pub new : (i : ℕ) (a : Worker sli Queues) → slice_get ws i ≡ Some a → IsNewQueueWorker n words capacity i a
  pub none : (i : ℕ) (a : Worker sli Queues) → slice_get ws i ≡ Some a → a.ports.posts.items ≡ replicate n None
  pub fit : AreUngiven ws ends

pub bare_none : (sli : ℕ) (n words capacity : ℕ) → AreBare {sli = sli} n words capacity [] []
bare_none sli n words capacity = record { same = refl; new = λ i a e. cc; none = λ i a e. cc; fit = λ j b ps e. cc }

pub bare_more : {sli : ℕ} (n words capacity k : ℕ) (ws : List (Worker sli Queues)) (ends : List (Vec PosterEnd Global)) (a : Worker sli Queues) (o : OwnerEnd) (ps : Vec PosterEnd Global) → AreBare n words capacity ws ends → length ws ≡ k
    → IsBare n words capacity k a o ps.items → AreBare n words capacity (ws ++ a ∷ []) (ends ++ ps ∷ [])
bare_more {sli} n words capacity k ws ends a o ps b len one = record {
  same = omega (arith, b.same, length-append ws (a ∷ []), length-append ends (ps ∷ []));
  new = λ i v is. elim (at_push ws a i v is) [
    | inl h ↦ b.new i v h
    | inr h ↦ subst (λ (z : ℕ × Worker sli Queues). IsNewQueueWorker n words capacity z.0 z.1) (λ t. (sym (h.0 ∙ len) t, h.1 t)) (bare_new n words capacity k a o ps.items one)
  ];
  none = λ i v is. elim (at_push ws a i v is) [
    | inl h ↦ b.none i v h
    | inr h ↦ subst (λ (z : Worker sli Queues). z.ports.posts.items ≡ replicate n None) h.1 one.posts
  ];
  fit = λ j v qs is_v is_qs. elim (at_push ws a j v is_v) [
    | inl h ↦ elim (at_push ends ps j qs is_qs) [
      | inl e ↦ b.fit j v qs h e
      | inr e ↦ absurd (let lt = slice_get_within ws j v h in let at = e.0 in omega (arith, b.same))
    ]
    | inr h ↦ elim (at_push ends ps j qs is_qs) [
      | inl e ↦ absurd (let lt = slice_get_within ends j qs e in let at = h.0 in omega (arith, b.same))
      | inr e ↦
          subst (λ (z : OwnerEnd × Vec PosterEnd Global). IsWhole z.0 z.1.items × All (λ p. put_by p ≡ []) z.1.items)
          (λ t. ((sym one.numbers.1 ∙ ap (λ (w : Worker sli Queues). w.ports.own) h.1) t, e.1 t)) (one.whole, one.fresh)
    ]
  ];
}

pub bare_given : {sli : ℕ} (n words capacity : ℕ) (ws : List (Worker sli Queues)) (ends : List (Vec PosterEnd Global)) → length ws ≡ n → AreBare n words capacity ws ends → AreGiven n words capacity n ws
bare_given n words capacity ws ends len b = record {
  count = len;
  new = b.new;
  given = λ i j v w is_v is_w le ne. absurd (let lt = slice_get_within ws j w is_w in omega arith);
  none = λ i j v is h. ap (λ (l : List (Option PosterEnd)). slot_of (slice_get l j)) (b.none i v is) ∙ no_slot n j;
}
