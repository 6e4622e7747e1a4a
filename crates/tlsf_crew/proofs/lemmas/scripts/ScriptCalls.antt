-- One call of a worker, and the entry that tells of it.
use Rattle.tlsf_crew.proofs.Common.{[], ◌∷◌, ◌++◌, ◌≡◌, ◌≢◌, ◌⊎◌, ℕ, ◌≤◌, List, Option, Some, Result, Ok, Err, sym, ◌∙◌, ap, arith, refl, inl, inr, subst, append-nil, cases_eq, cases_lt, Name, Post, Worker, Lanes, Entry, Call, Release, Take, Drain, CrewRefusal, Full, Stranger, Released, Reply, Refused, Target, Took, KeepsYards, PutsIntoLane, ReleasedThere, posted_as, put_answer, one, LaneMoved, LaneStepped, lane_promise, reply_took, AreMoves, IsNoTake, IsQuiet, QuietCall, TakenWithin, at_stage, reply_released, told_of, IsModelAnswer, heap_of, id_of, end_to, HasPost, HasTake, KnowsYard, PostEndPut, TookThrough, name_of}
use Rattle.tlsf_crew.proofs.lemmas.histories.AllEntries.{more_knows}
use Rattle.tlsf_crew.proofs.lemmas.scripts.LaneMoves.{moved_post, none_free, still_full}
use Rattle.tlsf_crew.proofs.lemmas.scripts.LaneTakes.{moved_none}
use Rattle.tlsf_crew.proofs.lemmas.scripts.ManyEntries.{moved_room, moved_then}
use Rattle.tlsf_crew.proofs.lemmas.scripts.OneEntry.{IsIdle, moved_idle, moved_still, still_heap}
use Rattle.tlsf_crew.proofs.lemmas.scripts.OwnTold.{model_tells, put_answered}
use Rattle.tlsf_crew.proofs.lemmas.worker.SameParts.{ports_heap}
use Rattle.tlsf_crew.proofs.lemmas.worker.Slots.{end_or}
use Rattle.tlsf_crew.proofs.lemmas.scripts.WithinTakes.{stranger_moved, stranger_answered, taken_within_moved, take_answered, taken_within}

single_stepped : {sli : ℕ} (n : ℕ) (a v : Worker sli Lanes) (limits left : List ℕ) (call : Call) (made : List (Option Name)) (es : List Entry) (reply : Reply) → KnowsYard n a
    → ((most : ℕ) → call ≡ Drain most → ⊥) → IsModelAnswer sli n (id_of a) (told_of made es (heap_of a)) call reply (heap_of v)
    → ((rest : List (Option Name)) → LaneMoved (id_of a) (made ++ rest) a limits (call ∷ []) (one (id_of a) call reply) v left) → LaneStepped n (at_stage a limits es) call made (at_stage v left es) reply
single_stepped {sli} n a v limits left call made es reply k single is moved = record {
  step = record { own = []; entries_are = sym (append-nil es); told = model_tells sli n (id_of a) (told_of made es (heap_of a)) call reply (heap_of v) k.self is; moved = moved };
  exact = λ w has s. is k.self w has s.one;
  single = λ _. refl;
  each = λ most e. absurd (single most e);
}

-- ---- a call that posts and takes nothing

quiet_idle : {sli : ℕ} (at : ℕ) (later : List (Option Name)) (a : Worker sli Lanes) (limits : List ℕ) (e : Entry) → IsQuiet e → IsIdle at later a limits [] e
quiet_idle at later a limits e q = record {
  posts = q.posts later;
  full = λ name p r. absurd (q.unfilled name r);
  empty = λ i c. absurd (subst IsNoTake c q.call);
  drained = λ most k i c. absurd (subst IsNoTake c q.call);
}

pub quiet_stepped : {sli : ℕ} (n : ℕ) (a v : Worker sli Lanes) (limits : List ℕ) (call : Call) (made : List (Option Name)) (es : List Entry) (reply : Reply) → KnowsYard n a → KeepsYards a v
    → QuietCall n a v call made es reply → LaneStepped n (at_stage a limits es) call made (at_stage v limits es) reply
quiet_stepped n a v limits call made es reply k yard q =
    single_stepped n a v limits limits call made es reply k (λ most d. subst IsNoTake d q.quiet.call) q.told
    (λ rest. moved_idle (id_of a) (made ++ rest) a v limits limits [] _ call (moved_still (id_of a) (made ++ rest) a v limits (still_heap (id_of a) a v q.same yard))
    (quiet_idle (id_of a) (made ++ rest) a limits _ q.quiet))

-- ---- a post

pub has_port_or : {sli : ℕ} (n : ℕ) (a : Worker sli Lanes) (j : ℕ) → KnowsYard n a → HasPost a j ⊎ ((j ≢ id_of a → n ≤ j) × ¬ (HasPost a j))
has_port_or n a j k = elim (end_or (end_to a j)) [
  | inl has ↦ inl has
  | inr none ↦ inr ((λ ne. elim (cases_lt j n) [ inl lt ↦ absurd (none ((k.to j).1 (lt, ne))) | inr ge ↦ ge ]), none)
]

full_idle : {sli : ℕ} (at : ℕ) (later : List (Option Name)) (a v : Worker sli Lanes) (limits : List ℕ) (target : Target) (name : Name) (post back : Post) → PostEndPut a v name.heap post (Err back)
    → IsIdle at later a limits [] (record { worker = at; call = Release target; reply = Refused (Full name) })
full_idle at later a v limits target name post back put = record {
  posts = record { made_none = λ j. refl; taken_none = λ i. refl };
  full = λ other p e is. let q : name ≡ other = cc in none_free a v name.heap post back p put (ap (λ x. end_to a x.heap) q ∙ is);
  empty = λ i e. cc;
  drained = λ most k i e. cc;
}

put_moved : {sli : ℕ} (made : List (Option Name)) (a v : Worker sli Lanes) (limits : List ℕ) (target : Target) (name : Name) (put : Result (Unit {0}) Post) → name_of made target ≡ Some name
    → PostEndPut a v name.heap (record { from = id_of a; name = name }) put
    → LaneMoved (id_of a) made a limits (Release target ∷ []) (one (id_of a) (Release target) (reply_released (posted_as (put_answer name put)))) v limits
put_moved made a v limits target name (Ok done) known put = moved_post (id_of a) made a v limits target name done known refl put
put_moved made a v limits target name (Err back) known put =
    let post : Post = record { from = id_of a; name = name } in
    moved_idle (id_of a) made a v limits limits [] _ (Release target) (moved_still (id_of a) made a v limits (still_full (id_of a) a v name.heap post back refl put))
    (full_idle (id_of a) made a v limits target name post back put)

pub there_stepped : {sli : ℕ} (n : ℕ) (a v : Worker sli Lanes) (limits : List ℕ) (target : Target) (name : Name) (made : List (Option Name)) (es : List Entry) (answer : Result Released CrewRefusal) → KnowsYard n a
    → name_of made target ≡ Some name → name.heap ≢ id_of a → HasPost a name.heap → ReleasedThere PutsIntoLane a v name answer → LaneStepped n (at_stage a limits es) (Release target) made (at_stage v limits es) (reply_released answer)
there_stepped {sli} n a v limits target name made es answer k known ne has there =
    let put = there.post.through in
    let near = (k.to name.heap).0 has in
    let e : answer ≡ posted_as (put_answer name put.0) = there.answer_is ∙ ap posted_as put.2 in
    let h = sym (ports_heap a v there.post.same) in
    rw e (single_stepped n a v limits limits (Release target) made es _ k (λ most d. cc)
    (subst (IsModelAnswer sli n (id_of a) (told_of made es (heap_of a)) (Release target) _) h (put_answered sli n (id_of a) (heap_of a) made es target name put.0 known ne near.0))
    (λ rest. put_moved (made ++ rest) a v limits target name put.0 (more_knows made rest target name known) (there.post.same, put.1)))

-- ---- over lanes

pub lanes_moves : {sli : ℕ} → AreMoves (lane_promise sli)
lanes_moves = record {
  none = moved_none;
  then = moved_then;
  number = λ at made a v limits left calls entries m. ap (λ z. z.0) m.numbers;
  known = λ at made a v limits left calls entries m n k. m.knows n k;
  room = moved_room;
}

-- ---- a take

no_lane : {sli : ℕ} (a : Worker sli Lanes) (n from : ℕ) → KnowsYard n a → ¬ (HasTake a from) → (from ≡ id_of a) ⊎ (n ≤ from)
no_lane a n from k none = elim (cases_eq from (id_of a)) [
  | inl own ↦ inl own
  | inr ne ↦ elim (cases_lt from n) [ inl lt ↦ absurd (none ((k.from from).1 (lt, ne))) | inr ge ↦ inr ge ]
]

pub stranger_stepped : {sli : ℕ} (n : ℕ) (a : Worker sli Lanes) (limits : List ℕ) (from : ℕ) (made : List (Option Name)) (es : List Entry) → KnowsYard n a → ¬ (HasTake a from) → LaneStepped n (at_stage a limits es) (Take from) made (at_stage a limits es) (Refused Stranger)
stranger_stepped {sli} n a limits from made es k none =
    single_stepped n a a limits limits (Take from) made es (Refused Stranger) k (λ most e. cc) (stranger_answered sli n (id_of a) from (told_of made es (heap_of a)) (no_lane a n from k none))
    (λ rest. stranger_moved (made ++ rest) a limits from)

pub take_stepped : {sli : ℕ} (n : ℕ) (a v : Worker sli Lanes) (limits left : List ℕ) (from : ℕ) (made : List (Option Name)) (es : List Entry) (answer : Option Took) → KnowsYard n a → HasTake a from
    → TakenWithin TookThrough a limits from v left answer → LaneStepped n (at_stage a limits es) (Take from) made (at_stage v left es) (reply_took answer)
take_stepped n a v limits left from made es answer k has t =
    let near = (k.from from).0 has in
    let w = taken_within a v limits left from answer (omega (arith, near.0, k.few)) t in
    single_stepped n a v limits left (Take from) made es (reply_took answer) k (λ most e. cc) (take_answered n a v limits left from made es answer near.1 near.0 w) (λ rest. taken_within_moved (made ++ rest) a v limits left from answer w)
