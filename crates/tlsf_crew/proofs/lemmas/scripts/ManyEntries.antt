-- A worker who has moved by some calls and then by others has moved by all of them.
use Rattle.tlsf_crew.proofs.Common.{[], ◌∷◌, ◌++◌, ◌≡◌, ℕ, zero, suc, ◌+◌, ◌≤◌, List, Option, length, take, sym, ◌∙◌, ap, arith, refl, inl, inr, ◌⊎◌, subst, append_assoc, length-append, cond, slice_index, sum_by-append, PostEnd, TakeEnd, posts_sent, taken, ready, Name, Worker, Lanes, Entry, Call, sum_below, sum_of, is_release, posts_made, posts_taken, StandsBehind, PostEndMoved, TakeEndMoved, Spent, LaneMoved, IsPrefix}
use Rattle.tlsf_crew.proofs.lemmas.lanes.YardKept.{keeps_then}
use Rattle.tlsf_crew.proofs.lemmas.histories.JoinedEntries.{made_then, taken_then}

-- ---- beginnings of lists

pub prefix_more : {A : Type 0} (xs ys zs : List A) → IsPrefix xs ys → IsPrefix xs (ys ++ zs)
prefix_more xs ys zs p = (p.0 ++ zs, sym (append_assoc xs p.0 zs) ∙ ap (λ l. l ++ zs) p.1)

pub prefix_behind : {A : Type 0} (ws xs ys : List A) → IsPrefix xs ys → IsPrefix (ws ++ xs) (ws ++ ys)
prefix_behind ws xs ys p = (p.0, append_assoc ws xs p.0 ∙ ap (λ l. ws ++ l) p.1)

pub prefix_then : {A : Type 0} (xs ys zs : List A) → IsPrefix xs ys → IsPrefix ys zs → IsPrefix xs zs
prefix_then xs ys zs p q = (p.0 ++ q.0, sym (append_assoc xs p.0 q.0) ∙ (ap (λ l. l ++ q.0) p.1 ∙ q.1))

-- the first of a beginning
take_of_longer : {A : Type 0} (n : ℕ) (xs t : List A) → IsPrefix (take n xs) (take n (xs ++ t))
take_of_longer zero xs t = ([], refl)
take_of_longer (suc n) [] t = (take (suc n) t, refl)
take_of_longer (suc n) (x ∷ xs) t = let p = take_of_longer n xs t in (p.0, ap (λ l. x ∷ l) p.1)

pub prefix_take : {A : Type 0} (n : ℕ) (xs ys : List A) → IsPrefix xs ys → IsPrefix (take n xs) (take n ys)
prefix_take n xs ys p = subst (λ l. IsPrefix (take n xs) (take n l)) p.1 (take_of_longer n xs p.0)

-- as many as there are of the first, and more of the second
pub take_past : {A : Type 0} (n m : ℕ) (xs ys : List A) → m + length xs ≡ n → take n (xs ++ ys) ≡ xs ++ take m ys
take_past n m [] ys e = let q : n ≡ m = omega arith in ap (λ k. take k ys) q
take_past zero m (x ∷ xs) ys e = absurd (omega arith)
take_past (suc n) m (x ∷ xs) ys e = let q : m + length xs ≡ n = omega arith in ap (λ l. x ∷ l) (take_past n m xs ys q)

-- ---- an entry of some entries and then others

pub stands_split : (xs ys before : List Entry) (e : Entry) → StandsBehind (xs ++ ys) before e
    → StandsBehind xs before e ⊎ ((b : List Entry) × (before ≡ xs ++ b) × StandsBehind ys b e)
stands_split [] ys before e s = inr (before, refl, s)
stands_split (x ∷ xs) ys [] e s = let h = s.1 in let q : x ≡ e = cc in inl (xs, ap (λ y. y ∷ xs) q)
stands_split (x ∷ xs) ys (b ∷ before) e s =
    let h = s.1 in
    let q : x ≡ b = cc in
    let r : xs ++ ys ≡ before ++ e ∷ s.0 = cc in
    elim (stands_split xs ys before e (s.0, r)) [
      | inl t ↦ inl (t.0, let u = t.1 in cc)
      | inr t ↦ inr (t.0, let u = t.1 in cc, t.2)
    ]

-- ---- the posts of some entries and then others

pub count_made : (at j : ℕ) (made : List (Option Name)) (xs ys : List Entry) → length (posts_made at j made (xs ++ ys)) ≡ length (posts_made at j made xs) + length (posts_made at j made ys)
count_made at j made xs ys = ap length (made_then at j made xs ys) ∙ length-append (posts_made at j made xs) (posts_made at j made ys)

count_taken : (i at : ℕ) (xs ys : List Entry) → length (posts_taken i at (xs ++ ys)) ≡ length (posts_taken i at xs) + length (posts_taken i at ys)
count_taken i at xs ys = ap length (taken_then i at xs ys) ∙ length-append (posts_taken i at xs) (posts_taken i at ys)

pub sum_both : (n : ℕ) (f g h : ℕ → ℕ) → ((i : ℕ) → f i ≡ g i + h i) → sum_below n f ≡ sum_below n g + sum_below n h
sum_both zero f g h e = refl
sum_both (suc n) f g h e = omega (arith, sum_both n f g h e, e n)

-- ---- moves

sends_then : {sli : ℕ} (at : ℕ) (made : List (Option Name)) (b v : Worker sli Lanes) (j : ℕ) (xs ys : List Entry) (p : PostEnd) (s : PostEndMoved at made b j xs p) → PostEndMoved at made v j ys s.end → PostEndMoved at made v j (xs ++ ys) p
sends_then at made b v j xs ys p s t = record {
  end = t.end;
  end_is = t.end_is;
  sent = t.sent ∙ (ap (λ l. l ++ posts_made at j made ys) s.sent ∙ (append_assoc (posts_sent p) (posts_made at j made xs) (posts_made at j made ys)
      ∙ ap (λ l. posts_sent p ++ l) (sym (made_then at j made xs ys))));
  free = omega (arith, s.free, t.free, count_made at j made xs ys);
}

takes_joined : {sli : ℕ} (at : ℕ) (b v : Worker sli Lanes) (i : ℕ) (xs ys : List Entry) (t : TakeEnd) (s : TakeEndMoved at b i xs t) → TakeEndMoved at v i ys s.end → TakeEndMoved at v i (xs ++ ys) t
takes_joined at b v i xs ys t s u =
    let x = posts_taken i at xs in
    let y = posts_taken i at ys in
    let e = taken_then i at xs ys in
    record {
      end = u.end;
      end_is = u.end_is;
      waited = u.waited ∙ s.waited;
      taken = u.taken ∙ (ap (λ l. l ++ y) s.taken ∙ (append_assoc (taken t) x y ∙ ap (λ l. taken t ++ l) (sym e)));
      ready = subst (IsPrefix (ready t)) (sym (append_assoc x y (ready u.end)) ∙ ap (λ l. l ++ ready u.end) (sym e))
          (prefix_then (ready t) (x ++ ready s.end) (x ++ (y ++ ready u.end)) s.ready (prefix_behind x (ready s.end) (y ++ ready u.end) u.ready));
    }

-- what was spent later was spent in all
pub spent_then : {sli : ℕ} (at : ℕ) (made : List (Option Name)) (a b : Worker sli Lanes) (limits left : List ℕ) (calls : List Call) (xs ys : List Entry) (i : ℕ)
    → LaneMoved at made a limits calls xs b left → Spent b left at i ys → Spent a limits at i (xs ++ ys)
spent_then at made a b limits left calls xs ys i m spent t is =
    let s = m.taken i t is in
    let x = posts_taken i at xs in
    let y = posts_taken i at ys in
    let n = slice_index limits i in
    let k = slice_index left i in
    let first = prefix_take n (ready t) (x ++ ready s.end) s.ready in
    let second = prefix_behind x (take k (ready s.end)) y (spent s.end s.end_is) in
    let both = prefix_then (take n (ready t)) (take n (x ++ ready s.end)) (x ++ y) first
    (subst (λ l. IsPrefix l (x ++ y)) (sym (take_past n k x (ready s.end) (m.left_is i))) second) in
    subst (IsPrefix (take n (ready t))) (sym (taken_then i at xs ys)) both

pub spent_more : {sli : ℕ} (at : ℕ) (a : Worker sli Lanes) (limits : List ℕ) (xs ys : List Entry) (i : ℕ) → Spent a limits at i xs → Spent a limits at i (xs ++ ys)
spent_more at a limits xs ys i spent t is =
    subst (IsPrefix (take (slice_index limits i) (ready t))) (sym (taken_then i at xs ys)) (prefix_more _ (posts_taken i at xs) (posts_taken i at ys) (spent t is))

pub moved_then : {sli : ℕ} (at : ℕ) (made : List (Option Name)) (a b v : Worker sli Lanes) (limits mid left : List ℕ) (cs ds : List Call) (xs ys : List Entry)
    → LaneMoved at made a limits cs xs b mid → LaneMoved at made b mid ds ys v left → LaneMoved at made a limits (cs ++ ds) (xs ++ ys) v left
moved_then at made a b v limits mid left cs ds xs ys x y = record {
  yard = keeps_then a b v x.yard y.yard;
  numbers = y.numbers ∙ x.numbers;
  knows = λ n h. y.knows n (x.knows n h);
  sent = λ j p is. let s = x.sent j p is in sends_then at made b v j xs ys p s (y.sent j s.end s.end_is);
  taken = λ i t is. let s = x.taken i t is in takes_joined at b v i xs ys t s (y.taken i s.end s.end_is);
  left_is = λ i. omega (arith, x.left_is i, y.left_is i, count_taken i at xs ys);
  full = λ before e name p s r is. elim (stands_split xs ys before e s) [
    | inl u ↦ x.full before e name p u r is
    | inr u ↦
        let q = x.sent name.heap p is in
        let f = y.full u.0 e name q.end u.2 r q.end_is in
        let c = count_made at name.heap made xs u.0 in
        let d = ap (λ l. length (posts_made at name.heap made l)) u.1 in
        let free = q.free in
        omega arith
  ];
  empty = λ before e i s c r. elim (stands_split xs ys before e s) [
    | inl u ↦ x.empty before e i u c r
    | inr u ↦ subst (Spent a limits at i) (sym u.1) (spent_then at made a b limits mid cs xs u.0 i x (y.empty u.0 e i u.2 c r))
  ];
  drained = λ before e most k i s c r lt. elim (stands_split xs ys before e s) [
    | inl u ↦ x.drained before e most k i u c r lt
    | inr u ↦ subst (Spent a limits at i) (sym u.1) (spent_then at made a b limits mid cs xs u.0 i x (y.drained u.0 e most k i u.2 c r lt))
  ];
  few_posts = λ j. omega (arith, x.few_posts j, y.few_posts j, count_made at j made xs ys, sum_by-append (λ c. cond (is_release c) 1 0) cs ds);
  few_entries = omega (
    arith,
    x.few_entries,
    y.few_entries,
    length-append xs ys,
    length-append cs ds,
    sum_both 8 (λ i. length (posts_taken i at (xs ++ ys))) (λ i. length (posts_taken i at xs)) (λ i. length (posts_taken i at ys)) (λ i. count_taken i at xs ys),
  );
}

-- entries and what may still be taken are no more than calls and what might be taken
pub moved_room : {sli : ℕ} (at : ℕ) (made : List (Option Name)) (a v : Worker sli Lanes) (limits left : List ℕ) (calls : List Call) (entries : List Entry)
    → LaneMoved at made a limits calls entries v left → length entries + sum_of left ≤ length calls + sum_of limits
moved_room at made a v limits left calls entries m =
    let s = sum_both 8 (slice_index limits) (slice_index left) (λ i. length (posts_taken i at entries)) (λ i. sym (m.left_is i)) in
    omega (arith, m.few_entries)
