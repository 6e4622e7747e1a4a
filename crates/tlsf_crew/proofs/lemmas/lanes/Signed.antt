-- Each post that waits in a lane was posted by the worker at the lane's other end.
use Rattle.tlsf_crew.proofs.Common.{suc, zero, [], ◌∷◌, ◌++◌, ◌≡◌, ℕ, ◌+◌, List, Option, Some, None, Result, Ok, Err, length, drop, sym, ◌∙◌, ap, inl, inr, All, append_assoc, length_push, drop-drop, All-nil, All-push, All-drop, Post, PostEnd, TakeEnd, posts_sent, waited, taken, Worker, Lanes, PostEndPut, TakeEndTook, post_at, take_at, lane_waits, LaneChange, SameLane}
use Rattle.tlsf_crew.proofs.lemmas.model.Edits.{cases_both}

-- each of the posts was posted by worker i
abbrev pub AreFrom : ℕ → List Post → Type 0
AreFrom i posts = All (λ (post : Post). post.from ≡ i) posts

-- so was each that waits in a lane from it
abbrev pub AreSigned : {sli : ℕ} → List (Worker sli Lanes) → Type 0
AreSigned ws = (i j : ℕ) → AreFrom i (lane_waits (post_at ws i j) (take_at ws i j))

-- the same lanes
pub same_signed : {sli : ℕ} (ws vs : List (Worker sli Lanes)) → ((x y : ℕ) → SameLane ws vs x y) → AreSigned ws → AreSigned vs
same_signed ws vs same signed i j = let s = same i j in rw (s.0, s.1) (signed i j)

-- one lane changed
pub changed_signed : {sli : ℕ} (ws vs : List (Worker sli Lanes)) (i j : ℕ) (p : PostEnd) (t : TakeEnd) (q : PostEnd) (u : TakeEnd)
    → LaneChange ws vs i j p t q u → AreFrom i (lane_waits (Some q) (Some u)) → AreSigned ws → AreSigned vs
changed_signed ws vs i j p t q u c new signed x y =
    elim (cases_both x i y j) [
      | inl at ↦ rw (at.0, at.1, c.new_post_is, c.new_take_is) new
      | inr away ↦ let s = c.same x y away in rw (s.0, s.1) (signed x y)
    ]

from_push : (i n : ℕ) (ps : List Post) (p : Post) → p.from ≡ i → AreFrom i (drop n ps) → AreFrom i (drop n (ps ++ p ∷ []))
from_push i zero ps p e all = All-push (λ (post : Post). post.from ≡ i) ps p all e
from_push i (suc n) [] p e all = All-drop (λ (post : Post). post.from ≡ i) n [] (All-nil (λ (post : Post). post.from ≡ i))
from_push i (suc n) (q ∷ ps) p e all = from_push i n ps p e all

-- after a put
pub put_signed : {sli : ℕ} (i j : ℕ) (a v : Worker sli Lanes) (post : Post) (answer : Result (Unit {0}) Post) → post.from ≡ i → (put : PostEndPut a v j post answer) → (o : Option TakeEnd)
    → AreFrom i (lane_waits (Some put.1.end) o) → AreFrom i (lane_waits (Some put.1.new_end) o)
put_signed i j a v post answer own put None all = all
put_signed i j a v post (Ok done) own put (Some t) all =
    let n = length (taken t) in
    let one : waited t ++ posts_sent put.1.new_end ≡ (waited t ++ posts_sent put.1.end) ++ post ∷ [] = ap (λ l. waited t ++ l) put.1.ok.0 ∙ sym (append_assoc (waited t) (posts_sent put.1.end) (post ∷ [])) in
    rw one (from_push i n (waited t ++ posts_sent put.1.end) post own all)
put_signed i j a v post (Err back) own put (Some t) all = rw put.1.full.1 all

-- after a take
pub take_signed : {sli : ℕ} (i k : ℕ) (a v : Worker sli Lanes) (answer : Option Post) (got : TakeEndTook a v i answer) → (o : Option PostEnd)
    → AreFrom k (lane_waits o (Some got.1.end)) → AreFrom k (lane_waits o (Some got.1.new_end))
take_signed i k a v answer got None all = all
take_signed i k a v (Some p) got (Some q) all =
    let n = length (taken got.1.end) in
    let more : length (taken got.1.new_end) ≡ n + 1 = ap length got.1.some.0 ∙ length_push (taken got.1.end) p in
    let ps = waited got.1.end ++ posts_sent q in
    rw (got.1.still, more, ← drop-drop 1 n ps) (All-drop (λ (post : Post). post.from ≡ k) 1 (drop n ps) all)
take_signed i k a v None got (Some q) all = rw (got.1.still, got.1.none) all
