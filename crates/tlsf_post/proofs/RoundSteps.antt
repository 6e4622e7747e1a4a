-- The knowledge once all posters came back and went out again.
use Rattle.tlsf_post.proofs.Common.{◌≡◌, ◌≢◌, ◌⊎◌, inl, inr, ⊎_elim, ℕ, ◌+◌, ◌<◌, ◌≤◌, true, false, List, [], ◌∷◌, ◌++◌, length, map, All, refl, sym, ap, ◌∙◌, arith, subst, cases_eq, map-append, Post, View, posts_of, posts_but, owner_view, AreOfPosters, IsIn, Shows, All-weaker, number_of, put_by, gone_from, below_but, next_but, IsFreshAt, IsOfPass, CameBack, Pass, view}
use Rattle.tlsf_post.specs.declared.poster_end.PosterEnd.{PosterEnd}
use Rattle.tlsf_post.proofs.RuleSteps.{back_own, back_other}
use Rattle.tlsf_post.proofs.Numbers.{but_last, but_next, but_none, all_pushed}

keeper_is : (v : View) → v.takes ≡ true → v.posts ≡ false → v ≡ owner_view v.plan v.number v.put v.got
keeper_is v may quiet i = record { posts = quiet i; takes = may i; plan = v.plan; number = v.number; put = v.put; got = v.got }

all_none : {X : Type 0} (P : X → Type 0) (xs : List X) → xs ≡ [] → All P xs
all_none P xs e k d lt = absurd (omega (arith, ap length e))

pub back_none : (v w : View) (ps qs : List PosterEnd) (own : ℕ) → v.takes ≡ true → v.posts ≡ false → v.plan.owner ≡ own → v.number ≢ own
    → ps ≡ qs → qs ≡ [] → map number_of ps ≡ below_but own v.number → w ≡ v → (items : List Post) × Shows v items → CameBack v ps w qs
back_none v w ps qs own may quiet o off ps_is qs_is numbers w_is shown =
    let none : [] ≡ below_but own v.number = ap (map number_of) (sym qs_is) ∙ ap (map number_of) (sym ps_is) ∙ numbers in
    let in_is : (p : ℕ) → IsIn v p = λ p. ⊎_elim (λ le. inl le) (λ (e : own ≡ p). inr (o ∙ e)) (but_none own v.number p off none) in
    let shows = shown.1 in
    record {
      same = w_is ∙ keeper_is v may quiet ∙ ap (λ (u : View). owner_view v.plan v.number u.put v.got) (sym w_is);
      numbers = ap (map number_of) (sym ps_is);
      lists = ap (map put_by) (sym ps_is);
      known = all_none (λ q. posts_of (number_of q) w.put ≡ put_by q) qs qs_is;
      others = λ p _. ap (λ (u : View). posts_of p u.put) w_is;
      items = shown.0;
      order = λ p. ap (λ (u : View). posts_of p u.put) w_is ∙ (shows.known p).1 (in_is p);
      few = (shows.few, shows.from);
      gone = all_none (λ q. gone_from q ≡ posts_of (number_of q) v.got) qs qs_is;
    }

-- whose number is in lies not at the last poster's
apart : (v : View) (own last p : ℕ) → v.plan.owner ≡ own → last ≢ own → (v.number ≡ last + 1) ⊎ ((v.number ≡ last + 2) × (own ≡ last + 1)) → IsIn v p → p ≢ last
apart v own last p o off (inl e) (inl le) = λ d. omega arith
apart v own last p o off (inr e) (inl le) = λ d. let a = e.0 in omega arith
apart v own last p o off e (inr f) = λ d. off (sym (sym o ∙ (f ∙ d)))

-- all between the last poster and those that are in is in
pub gap : (v : View) (own last q : ℕ) → v.plan.owner ≡ own → (v.number ≡ last + 1) ⊎ ((v.number ≡ last + 2) × (own ≡ last + 1)) → last < q → IsIn v q
gap v own last q o (inl e) lt = inl (omega arith)
gap v own last q o (inr e) lt = let a = e.0 in let b = e.1 in
    ⊎_elim (λ (d : q ≡ own). inr (o ∙ sym d)) (λ (n : q ≢ own). inl (omega arith)) (cases_eq q own)

earlier : (v : View) (own last p : ℕ) → (v.number ≡ last + 1) ⊎ ((v.number ≡ last + 2) × (own ≡ last + 1)) → IsIn v p → (last ≤ p) ⊎ (v.plan.owner ≡ p)
earlier v own last p (inl e) (inl le) = inl (omega arith)
earlier v own last p (inr e) (inl le) = let a = e.0 in inl (omega arith)
earlier v own last p e (inr f) = inr f

-- the numbers of the posters before the last, and where the last stands
pub last_of : (v : View) (ps rest : List PosterEnd) (p : PosterEnd) (own : ℕ) → v.number ≢ own → ps ≡ rest ++ p ∷ [] → map number_of ps ≡ below_but own v.number
    → (map number_of rest ≡ below_but own p.from) × (p.from ≢ own) × ((v.number ≡ p.from + 1) ⊎ ((v.number ≡ p.from + 2) × (own ≡ p.from + 1)))
last_of v ps rest p own off ps_is numbers =
    but_last own v.number (map number_of rest) p.from off (sym (map-append number_of rest (p ∷ [])) ∙ ap (map number_of) (sym ps_is) ∙ numbers)

pub back_some : (v v1 v2 w : View) (ps rest rest' qs : List PosterEnd) (p q : PosterEnd) (own : ℕ) → v.plan.owner ≡ own → v.number ≢ own
    → ps ≡ rest ++ p ∷ [] → map number_of ps ≡ below_but own v.number → posts_of p.from (put_by p) ≡ put_by p
    → v1 ≡ owner_view v.plan p.from (posts_but p.from v.put ++ put_by p) v.got → CameBack v1 rest v2 rest'
    → w ≡ owner_view v2.plan (next_but own p.from) v2.put v2.got → number_of q ≡ p.from → put_by q ≡ posts_of p.from v2.put → gone_from q ≡ posts_of p.from v2.got → qs ≡ rest' ++ q ∷ [] → CameBack v ps w qs
back_some v v1 v2 w ps rest rest' qs p q own o off ps_is numbers signed v1_is m w_is q_number q_put q_gone qs_is =
    let l = last_of v ps rest p own off ps_is numbers in
    let was : v1.got ≡ v.got = ap (λ (u : View). u.got) v1_is in
    let got : v2.got ≡ v.got = ap (λ (u : View). u.got) m.same ∙ was in
    let plan : v2.plan ≡ v.plan = ap (λ (u : View). u.plan) m.same ∙ ap (λ (u : View). u.plan) v1_is in
    let put : w.put ≡ v2.put = ap (λ (u : View). u.put) w_is in
    let kept : (n : ℕ) → (p.from ≤ n) ⊎ (v.plan.owner ≡ n) → posts_of n v2.put ≡ posts_of n (posts_but p.from v.put ++ put_by p) =
    λ n i. m.others n (subst (λ (u : View). IsIn u n) (sym v1_is) i) ∙ ap (λ (u : View). posts_of n u.put) v1_is in
    let le : p.from ≤ p.from = omega arith in
    let mine : posts_of p.from v2.put ≡ put_by p = kept p.from (inl le) ∙ back_own p.from v.put (put_by p) ∙ signed in
    record {
      same = w_is ∙ (λ i. owner_view (plan i) (but_next own v.number p.from off l.2 i) (sym put i) (got i));
      numbers = ap (map number_of) qs_is ∙ map-append number_of rest' (q ∷ []) ∙ (λ i. m.numbers i ++ q_number i ∷ []) ∙ sym (map-append number_of rest (p ∷ [])) ∙ ap (map number_of) (sym ps_is);
      lists = ap (map put_by) qs_is ∙ map-append put_by rest' (q ∷ []) ∙ (λ i. m.lists i ++ (q_put ∙ mine) i ∷ []) ∙ sym (map-append put_by rest (p ∷ [])) ∙ ap (map put_by) (sym ps_is);
      known = subst (λ l. All (λ r. posts_of (number_of r) l ≡ put_by r) qs) (sym put)
          (all_pushed (λ r. posts_of (number_of r) v2.put ≡ put_by r) rest' qs q qs_is m.known (ap (λ (n : ℕ). posts_of n v2.put) q_number ∙ sym q_put));
      others = λ n i. ap (posts_of n) put ∙ kept n (earlier v own p.from n l.2 i) ∙ back_other n p.from v.put (put_by p) (put_by p) (apart v own p.from n o l.1 l.2 i) (sym signed);
      items = m.items;
      order = λ n. ap (posts_of n) put ∙ m.order n ∙ ap (λ (l : List Post). posts_of n (l ++ m.items)) was;
      few = subst (λ (u : View). (length m.items ≤ u.plan.capacity) × AreOfPosters u.plan m.items) v1_is m.few;
      gone = all_pushed (λ r. gone_from r ≡ posts_of (number_of r) v.got) rest' qs q qs_is (subst (λ l. All (λ r. gone_from r ≡ posts_of (number_of r) l) rest') was m.gone)
          (q_gone ∙ (λ i. posts_of (sym q_number i) (got i)));
    }

pub no_items : {X : Type 0} (xs : List X) → length xs ≡ 0 → xs ≡ []
no_items [] e = refl
no_items (x ∷ xs) e = absurd (omega arith)

-- ---- ends

-- the ends of the queue of a pass are those of another pass of it
pub ends_still : (pass other : Pass Post View) (ps : List PosterEnd) → other.table_id ≡ pass.table_id → (view other).plan ≡ (view pass).plan → All (IsOfPass pass) ps → All (IsOfPass other) ps
ends_still pass other ps e laid all = All-weaker (IsOfPass pass) (IsOfPass other) (λ p h. (h.0 ∙ sym e, h.1 ∙ sym laid)) ps all

pub fresh_puts : (pass : Pass Post View) (ps : List PosterEnd) → All (IsFreshAt pass) ps → All (λ p. put_by p ≡ []) ps
fresh_puts pass ps all = All-weaker (IsFreshAt pass) (λ p. put_by p ≡ []) (λ p h. h.1) ps all
