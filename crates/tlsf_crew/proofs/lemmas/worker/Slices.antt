-- A slice of posts that was taken at once, and whose blocks were then released, is a number of takes one after another.
use Rattle.tlsf_crew.proofs.Common.{[], ◌∷◌, ◌++◌, ◌≡◌, ◌≢◌, ◌+◌, ◌<◌, ◌≤◌, ℕ, zero, suc, List, Option, Some, None, map, length, take, get_or, refl, sym, ◌∙◌, ap, arith, subst, map_push, take_more, Post, Took, Worker, id_of, AfterTake, TakenFrom, TakeRules, EachTakeNoted, post_of, PortsInTurn, SliceTaken, EachReleased, MayTake}

-- one take more
pub ports_more : {P : Type 0} (takes : P → P → ℕ → Option Post → Type 0) (p r q : P) (source : ℕ) (posts : List Post) (post : Post)
    → PortsInTurn takes p r source posts → takes r q source (Some post) → PortsInTurn takes p q source (posts ++ post ∷ [])
ports_more takes p r q source [] post turns t = (q, subst (λ s. takes s q source (Some post)) turns t, refl)
ports_more takes p r q source (first ∷ posts) post turns t = (turns.0, turns.1, ports_more takes turns.0 r q source posts post turns.2 t)

-- one release more
pub released_more : {sli : ℕ} {P N : Type 0} (sent_by : ℕ → Option ℕ) (noted : N → ℕ → ℕ → Option ℕ → Took → N → Type 0) (a b v : Worker sli P) (x y z : N) (source : ℕ) (tooks : List Took) (took : Took)
    → EachReleased sent_by noted a b x y source tooks → AfterTake b v (Some (post_of took)) (Some took) → noted y (id_of v) source (sent_by took.from) took z
    → EachReleased sent_by noted a v x z source (tooks ++ took ∷ [])
released_more {sli} {P} {N} sent_by noted a b v x y z source [] took r t n =
    (v, z, subst (λ (w : Worker sli P). AfterTake w v (Some (post_of took)) (Some took)) r.0 t, subst (λ w. noted w (id_of v) source (sent_by took.from) took z) r.1 n, (refl, refl))
released_more {sli} {P} {N} sent_by noted a b v x y z source (first ∷ tooks) took r t n =
    (r.0, r.1, r.2, r.3, released_more sent_by noted r.0 b v r.1 y z source tooks took r.4 t n)

-- the posts of these takes are the first of a list, and one take more has the next
pub posts_more : (tooks : List Took) (took : Took) (posts : List Post) (i : ℕ) (d : Post) → map post_of tooks ≡ take i posts → i < length posts → post_of took ≡ get_or posts i d
    → map post_of (tooks ++ took ∷ []) ≡ take (i + 1) posts
posts_more tooks took posts i d first near next =
    map_push post_of tooks took ∙ ap (λ l. l ++ post_of took ∷ []) first ∙ ap (λ p. take i posts ++ p ∷ []) next ∙ sym (take_more posts i d near)

-- each post is taken and its block released before the next is taken
woven : {sli : ℕ} {P N : Type 0} (by : TakeRules P N) (p q : P) (a v : Worker sli P) (x y : N) (source : ℕ) (tooks : List Took)
    → PortsInTurn by.takes p q source (map post_of tooks) → EachReleased by.sent_by by.noted a v x y source tooks
    → EachTakeNoted by (record a { ports = p }) (record v { ports = q }) x y source tooks
woven {sli} {P} {N} by p q a v x y source [] turns r =
    (ap (λ (w : Worker sli P). let s : Worker sli P = record w { ports = q } in s) r.0 ∙ ap (λ s. let w : Worker sli P = record a { ports = s } in w) turns, r.1)
woven {sli} {P} {N} by p q a v x y source (took ∷ tooks) turns r = (
  record r.0 { ports = turns.0 },
  r.1,
  record { between = record a { ports = turns.0 }; post = Some (post_of took); took = ((refl, refl), turns.1); then = (r.2.0, r.2.1, (r.2.2.0, refl)) },
  r.3,
  woven by turns.0 q r.0 v r.1 y source tooks turns.2 r.4,
)

-- a slice of one source, and the releases of its posts
pub record SliceNoted {sli : ℕ} {P N : Type 0} (by : TakeRules P N) (a v : Worker sli P) (x y : N) (source places count : ℕ) (tooks : List Took) : Type 0 where
  pub last : Worker sli P
  pub turns : EachTakeNoted by a last x y source tooks
  pub full : count ≡ places → v ≡ last
  pub short : count < places → TakenFrom by.takes last v source None

pub slice_noted : {sli : ℕ} {P N : Type 0} (by : TakeRules P N) (a v : Worker sli P) (q : P) (x y : N) (source places count : ℕ) (posts : List Post) (tooks : List Took)
    → SliceTaken by.takes a.ports q source places count posts → map post_of tooks ≡ posts → EachReleased by.sent_by by.noted (record a { ports = q }) v x y source tooks → v.ports ≡ q
    → SliceNoted by a v x y source places count tooks
slice_noted {sli} {P} {N} by a v q x y source places count posts tooks s is r same =
    let w : Worker sli P = record a { ports = q } in
    record {
      last = record v { ports = s.last };
      turns = woven by a.ports s.last w v x y source tooks (subst (λ l. PortsInTurn by.takes a.ports s.last source l) (sym is) s.turns) r;
      full = λ all. ap (λ p. let u : Worker sli P = record v { ports = p } in u) (same ∙ s.full all);
      short = λ fewer. record { between = v; post = None; took = ((refl, refl), subst (λ p. by.takes s.last p source None) (sym same) (s.short fewer)); then = (refl, refl) };
    }

-- takes and then more
pub noted_then : {sli : ℕ} {P N : Type 0} (by : TakeRules P N) (a b v : Worker sli P) (x y z : N) (source : ℕ) (tooks more : List Took)
    → EachTakeNoted by a b x y source tooks → EachTakeNoted by b v y z source more → EachTakeNoted by a v x z source (tooks ++ more)
noted_then {sli} {P} {N} by a b v x y z source [] more one two =
    subst (λ (w : Worker sli P). EachTakeNoted by w v x z source more) one.0 (subst (λ n. EachTakeNoted by b v n z source more) one.1 two)
noted_then {sli} {P} {N} by a b v x y z source (took ∷ tooks) more one two =
    (one.0, one.1, one.2, one.3, noted_then by one.0 b v one.1 y z source tooks more one.4 two)

-- ---- how many may be taken

-- where more than none may, one may
pub may_one : {N : Type 0} (admitted : N → ℕ → Type 0) (noted : N → ℕ → ℕ → Option ℕ → Took → N → Type 0) (x : N) (source n : ℕ) → n ≢ 0 → MayTake admitted noted x source n → admitted x source
may_one admitted noted x source zero some may = absurd (some refl)
may_one admitted noted x source (suc n) some may = may.0

-- after one, one fewer may
pub may_next : {N : Type 0} (admitted : N → ℕ → Type 0) (noted : N → ℕ → ℕ → Option ℕ → Took → N → Type 0) (x z : N) (source n left at : ℕ) (sender : Option ℕ) (took : Took)
    → n ≡ suc left → MayTake admitted noted x source n → noted x at source sender took z → MayTake admitted noted z source left
may_next admitted noted x z source n left at sender took is may note =
    (subst (λ k. MayTake admitted noted x source k) is may).1 at sender took z note

-- and fewer
pub may_fewer : {N : Type 0} (admitted : N → ℕ → Type 0) (noted : N → ℕ → ℕ → Option ℕ → Took → N → Type 0) (x : N) (source m n : ℕ) → m ≤ n → MayTake admitted noted x source n → MayTake admitted noted x source m
may_fewer admitted noted x source zero n le may = tt
may_fewer admitted noted x source (suc m) zero le may = absurd (omega (arith, le))
may_fewer admitted noted x source (suc m) (suc n) le may = (may.0, λ at sender took z note. may_fewer admitted noted z source m n (omega (arith, le)) (may.1 at sender took z note))
