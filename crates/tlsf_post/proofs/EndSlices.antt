-- A slice that came out of a lane's end is one post, and then a slice of the others.
use Rattle.tlsf_post.proofs.Common.{[], ◌∷◌, ◌++◌, ◌≡◌, ◌+◌, List, length, drop, refl, sym, ◌∙◌, ap, arith, append_assoc, append-nil, length-append, length-drop, drop-append-le, Post, IsPrefix, received, waited, taken, ready, IsLane, KeepsTake}
use Rattle.rtrb.specs.Fifo.{position_of}
use Rattle.tlsf_post.specs.declared.take_end.TakeEnd.{TakeEnd}

-- the end t became u as these posts came out
pub record EndSlice (t u : TakeEnd) (posts : List Post) : Type 0 where
  pub lane : KeepsTake t u
  pub still : waited u ≡ waited t
  pub came : taken u ≡ taken t ++ posts
  pub order : IsPrefix (ready t) (posts ++ ready u)

-- the end once one post came out; it knows no more to be ready than before
abbrev after_one : TakeEnd → Post → TakeEnd
after_one t post =
    let past = t.ring.end.past ++ post ∷ [] in
    let ahead = drop 1 t.ring.end.ahead in
    record t {
      ring = record t.ring {
        end = record t.ring.end { past = past; ahead = ahead };
        cached_head = position_of t.ring.capacity (length past);
        cached_tail = position_of t.ring.capacity (length past + length ahead);
        reads = t.ring.reads;
        counts = omega (arith, t.ring.counts, length-drop 1 t.ring.end.ahead);
        cached = (refl, refl);
      };
      marked = omega (arith, t.marked, length-append t.ring.end.past (post ∷ []));
      few = t.few;
    }

first_of_ready : (ahead : List Post) (post : Post) (rest : List Post) → IsPrefix ahead (post ∷ rest) → IsPrefix ahead (post ∷ drop 1 ahead) × IsPrefix (drop 1 ahead) rest
first_of_ready [] post rest order = ((post ∷ [], refl), (rest, refl))
first_of_ready (x ∷ xs) post rest order =
    let all : x ∷ (xs ++ order.0) ≡ post ∷ rest = order.1 in
    let same : x ≡ post = cc in
    let left : xs ++ order.0 ≡ rest = cc in
    (([], ap (λ l. x ∷ l) (append-nil xs) ∙ ap (λ p. p ∷ xs) same), (order.0, left))

kept : (t : TakeEnd) (post : Post) → KeepsTake t (after_one t post)
unfolding waited IsLane
kept t post = λ p lane. lane

one_came : (t : TakeEnd) (post : Post) → taken (after_one t post) ≡ taken t ++ post ∷ []
unfolding taken
one_came t post = drop-append-le (length (received t.mark.value)) t.ring.end.past (post ∷ []) t.marked

one_slice : (t : TakeEnd) (post : Post) → IsPrefix (ready t) (post ∷ drop 1 (ready t)) → EndSlice t (after_one t post) (post ∷ [])
unfolding waited ready
one_slice t post first = record { lane = kept t post; still = refl; came = one_came t post; order = first }

other_slices : (t u : TakeEnd) (post : Post) (posts : List Post) → EndSlice t u (post ∷ posts) → IsPrefix (drop 1 (ready t)) (posts ++ ready u) → EndSlice (after_one t post) u posts
unfolding waited ready IsLane
other_slices t u post posts s rest = record {
  lane = λ p lane. s.lane p lane;
  still = s.still;
  came = s.came ∙ sym (append_assoc (taken t) (post ∷ []) posts) ∙ ap (λ l. l ++ posts) (sym (one_came t post));
  order = rest;
}

pub cut_first : (t u : TakeEnd) (post : Post) (posts : List Post) → EndSlice t u (post ∷ posts) → (m : TakeEnd) × EndSlice t m (post ∷ []) × EndSlice m u posts
cut_first t u post posts s =
    let r = first_of_ready (ready t) post (posts ++ ready u) s.order in
    (after_one t post, one_slice t post r.0, other_slices t u post posts s r.1)
