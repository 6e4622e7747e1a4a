-- A call that takes nothing is answered as the model answers it, whatever the ports of its worker.
use Rattle.tlsf_crew.proofs.Common.{◌==◌, true, false, ◌≡◌, ◌≢◌, ◌⊎◌, ℕ, ◌<◌, ◌≤◌, List, Option, Some, None, Result, Ok, Err, length, sym, ◌∙◌, ap, arith, refl, subst, inl, inr, cases_eq, nat_tests, HeapState, Name, Refusal, bytes_of, Chunk, Entry, Call, Allocate, Release, Write, Read, Resize, Target, Released, Reply, Made, Posted, Wrote, Got, Resized, Refused, CrewRefusal, Full, Stranger, Unmade, Worker, allocated, chunk_read, released, resized, written, heap_of, id_of, SameButHeap, KeepsHeap, ReleasedHere, ReleasedThere, freed_by, posted_as, put_answer, IsHeapReply, HeapReply, own_allocating, own_freeing, own_named, own_writing, own_reading, own_resizing, reply_by, IsQuiet, ReleasesOrPosts, QuietCall, reply_released, told_of, HasHeap, IsModelAnswer, MayTell, Progress, told_by, told_more, World, WorldReply, answered, by_own, called, freeing, heap_in, name_of, posting, releasing, releasing_named}
use Rattle.tlsf_heap.specs.Calls as heap
use Rattle.tlsf_crew.specs.model.OwnReplies.{reply_freed}
use Rattle.tlsf_crew.specs.scripts.Scripts.{entry_by}
use Rattle.tlsf_crew.proofs.lemmas.model.OneEvent.{releasing_post, releasing_far}
use Rattle.tlsf_crew.proofs.lemmas.worker.OwnHeaps.{call_keeps, same_heap_keeps}
use Rattle.tlsf_crew.proofs.lemmas.scripts.Witnesses.{a_suit, heap_left}

-- what the model answers, and the heap that it leaves the worker
pub record ModelReplies {sli : ℕ} (at : ℕ) (reply : Reply) (g : HeapState) (x : WorldReply sli) : Type 0 where
  pub same : reply ≡ x.reply
  pub left : g ≡ heap_in x.world at

-- one answer, as it is told
answer_told : {sli : ℕ} (at : ℕ) (s : Progress) (w : World sli) (call : Call) (reply : Reply) (g : HeapState) (x : WorldReply sli) → reply ≡ x.reply → g ≡ heap_in x.world at
    → told_by at (answered (record { made = s.made; entries = s.entries; world = w }) at call x) ≡ told_more at s call reply g
answer_told at s w call reply g x e f = rw (e, f) refl

pub told_where : {sli : ℕ} (at : ℕ) (s : Progress) (w : World sli) (call : Call) (reply : Reply) (g : HeapState) (x : WorldReply sli)
    → called (record { made = s.made; entries = s.entries; world = w }) at call ≡ answered (record { made = s.made; entries = s.entries; world = w }) at call x → ModelReplies at reply g x
    → told_by at (called (record { made = s.made; entries = s.entries; world = w }) at call) ≡ told_more at s call reply g
told_where at s w call reply g x is a = ap (told_by at) is ∙ answer_told at s w call reply g x a.same a.left

-- so it may be told
pub model_tells : (sli n at : ℕ) (s : Progress) (call : Call) (reply : Reply) (g : HeapState) → at < n → IsModelAnswer sli n at s call reply g → MayTell sli n at s call (told_more at s call reply g)
model_tells sli n at s call reply g lt is = let x = a_suit sli n at s.heap s.made call reply lt in (x.0, x.1, is lt x.0 x.1 x.2)

-- ---- calls on the own heap

abbrev pub IsNotFull : Reply → Type 0
IsNotFull reply = (name : Name) → reply ≢ Refused (Full name)

by_unfilled : {A : Type 0} (given : A → Reply) (r : Result A Refusal) → ((x : A) → IsNotFull (given x)) → IsNotFull (reply_by given r)
by_unfilled given (Ok x) f = f x
by_unfilled given (Err why) f = λ name e. cc

named_unfilled : (h : HeapState) (by : Name → HeapReply) (o : Option Name) → ((name : Name) → IsNotFull (by name).reply) → IsNotFull (own_named h by o).reply
named_unfilled h by None f = λ name e. cc
named_unfilled h by (Some name) f = f name

own_here : {sli : ℕ} (n at : ℕ) (w : World sli) (h g : HeapState) (reply : Reply) (by : HeapState → HeapReply) → at < n → HasHeap w n at h → reply ≡ (by h).reply → g ≡ (by h).heap → ModelReplies at reply g (by_own w at by)
own_here n at w h g reply by lt has e f = record {
  same = e ∙ ap (λ (x : HeapState). (by x).reply) (sym has.1);
  left = f ∙ (ap (λ (x : HeapState). (by x).heap) (sym has.1) ∙ sym (heap_left n at w h (by (heap_in w at)).heap lt has));
}

own_call : {sli : ℕ} {P : Type 0} (n : ℕ) (a v : Worker sli P) (call : Call) (made : List (Option Name)) (entries : List Entry) (reply : Reply) (by : HeapState → HeapReply) → SameButHeap a v
    → IsQuiet (entry_by (id_of a) call reply)
    → ((w : World sli) → called (record { made = made; entries = entries; world = w }) (id_of a) call ≡ answered (record { made = made; entries = entries; world = w }) (id_of a) call (by_own w (id_of a) by))
    → IsHeapReply reply (heap_of v) (by (heap_of a)) → QuietCall n a v call made entries reply
own_call n a v call made entries reply by same quiet is own = record {
  same = same;
  quiet = quiet;
  told = λ lt w has s.
      told_where (id_of a) (told_of made entries (heap_of a)) w call reply (heap_of v) (by_own w (id_of a) by) (is w) (own_here n (id_of a) w (heap_of a) (heap_of v) reply by lt has own.same own.left);
}

pub allocate_call : {sli : ℕ} {P : Type 0} (n : ℕ) (a v : Worker sli P) (len : ℕ) (made : List (Option Name)) (entries : List Entry) (reply : Reply) → SameButHeap a v
    → IsHeapReply reply (heap_of v) (own_allocating sli (heap_of a) len) → QuietCall n a v (Allocate len) made entries reply
allocate_call {sli} n a v len made entries reply same is =
    own_call n a v (Allocate len) made entries reply (λ x. own_allocating sli x len) same
    (record {
      call = tt;
      posts = λ made. record { made_none = λ j. refl; taken_none = λ i. refl };
      unfilled = subst IsNotFull (sym is.same) (by_unfilled Made (allocated sli (heap_of a) len).answer (λ name other e. cc));
    }) (λ w. refl) is

pub write_call : {sli : ℕ} {P : Type 0} (n : ℕ) (a v : Worker sli P) (target : Target) (from : ℕ) (bytes : Chunk) (made : List (Option Name)) (entries : List Entry) (reply : Reply) → SameButHeap a v
    → IsHeapReply reply (heap_of v) (own_writing (heap_of a) (name_of made target) from (bytes_of bytes))
    → QuietCall n a v (Write target from bytes) made entries reply
write_call n a v target from bytes made entries reply same is =
    own_call n a v (Write target from bytes) made entries reply (λ x. own_writing x (name_of made target) from (bytes_of bytes)) same
    (record {
      call = tt;
      posts = λ made. record { made_none = λ j. refl; taken_none = λ i. refl };
      unfilled = subst IsNotFull (sym is.same) (named_unfilled (heap_of a) _ (name_of made target)
          (λ name. by_unfilled (λ done. Wrote (length (bytes_of bytes))) (written (heap_of a) name from (bytes_of bytes)).answer (λ done other e. cc)));
    }) (λ w. refl) is

pub read_call : {sli : ℕ} {P : Type 0} (n : ℕ) (a v : Worker sli P) (target : Target) (from k : ℕ) (made : List (Option Name)) (entries : List Entry) (reply : Reply) → SameButHeap a v
    → IsHeapReply reply (heap_of v) (own_reading (heap_of a) (name_of made target) from k)
    → QuietCall n a v (Read target from k) made entries reply
read_call n a v target from k made entries reply same is =
    own_call n a v (Read target from k) made entries reply (λ x. own_reading x (name_of made target) from k) same
    (record {
      call = tt;
      posts = λ made. record { made_none = λ j. refl; taken_none = λ i. refl };
      unfilled = subst IsNotFull (sym is.same) (named_unfilled (heap_of a) _ (name_of made target) (λ name. by_unfilled Got (chunk_read (heap_of a) name from k) (λ bytes other e. cc)));
    }) (λ w. refl) is

pub resize_call : {sli : ℕ} {P : Type 0} (n : ℕ) (a v : Worker sli P) (target : Target) (len : ℕ) (made : List (Option Name)) (entries : List Entry) (reply : Reply) → SameButHeap a v
    → IsHeapReply reply (heap_of v) (own_resizing (heap_of a) (name_of made target) len)
    → QuietCall n a v (Resize target len) made entries reply
resize_call n a v target len made entries reply same is =
    own_call n a v (Resize target len) made entries reply (λ x. own_resizing x (name_of made target) len) same
    (record {
      call = tt;
      posts = λ made. record { made_none = λ j. refl; taken_none = λ i. refl };
      unfilled = subst IsNotFull (sym is.same) (named_unfilled (heap_of a) _ (name_of made target) (λ name. by_unfilled (λ done. Resized) (resized (heap_of a) name len).answer (λ done other e. cc)));
    }) (λ w. refl) is

-- ---- releases

pub own_name : {sli : ℕ} (w : World sli) (at : ℕ) (name : Name) → name.heap ≡ at → releasing w at name ≡ freeing w at name
own_name w at name e = let b : (name.heap == at) ≡ true = grind (arith, nat_tests) in rw b refl

pub posted_world : {sli : ℕ} (w : World sli) (at : ℕ) (name : Name) → length (w.waiting at name.heap) ≢ w.capacity → ((posting w at name).reply ≡ Posted) × (heap_in (posting w at name).world at ≡ heap_in w at)
unfolding posting
posted_world w at name ne = let b : (length (w.waiting at name.heap) == w.capacity) ≡ false = grind (arith, nat_tests) in (rw b refl, rw b refl)

pub full_world : {sli : ℕ} (w : World sli) (at : ℕ) (name : Name) → length (w.waiting at name.heap) ≡ w.capacity → posting w at name ≡ record { reply = Refused (Full name); world = w }
unfolding posting
full_world w at name e = let b : (length (w.waiting at name.heap) == w.capacity) ≡ true = grind (arith, nat_tests) in rw b refl

-- a release of what the target means
release_called : {sli : ℕ} (at : ℕ) (s : Progress) (w : World sli) (target : Target) (o : Option Name) (x : WorldReply sli) → name_of s.made target ≡ o → releasing_named w at o ≡ x
    → called (record { made = s.made; entries = s.entries; world = w }) at (Release target) ≡ answered (record { made = s.made; entries = s.entries; world = w }) at (Release target) x
release_called at s w target o x known is = ap (λ (o : Option Name). answered (record { made = s.made; entries = s.entries; world = w }) at (Release target) (releasing_named w at o)) known
    ∙ ap (λ (y : WorldReply _). answered (record { made = s.made; entries = s.entries; world = w }) at (Release target) y) is

-- the worker itself refuses, and nothing changes
refused_call : {sli : ℕ} {P : Type 0} (n : ℕ) (a : Worker sli P) (target : Target) (made : List (Option Name)) (entries : List Entry) (o : Option Name) (why : CrewRefusal) → name_of made target ≡ o
    → ((name : Name) → why ≢ Full name) → ((w : World sli) → length w.heaps ≡ n → releasing_named w (id_of a) o ≡ record { reply = Refused why; world = w })
    → QuietCall n a a (Release target) made entries (Refused why)
refused_call n a target made entries o why known other is = record {
  same = (refl, refl);
  quiet = record { call = tt; posts = λ made. record { made_none = λ j. refl; taken_none = λ i. refl }; unfilled = λ name e. let q : why ≡ Full name = cc in other name q };
  told = λ lt w has s.
      let t = told_of made entries (heap_of a) in
      told_where (id_of a) t w (Release target) (Refused why) (heap_of a) (record { reply = Refused why; world = w }) (release_called (id_of a) t w target o _ known (is w has.0))
      (record { same = refl; left = sym has.1 });
}

pub unmade_call : {sli : ℕ} {P : Type 0} (n : ℕ) (a : Worker sli P) (target : Target) (made : List (Option Name)) (entries : List Entry) → name_of made target ≡ None → QuietCall n a a (Release target) made entries (Refused Unmade)
unmade_call n a target made entries none = refused_call n a target made entries None Unmade none (λ name e. cc) (λ w len. refl)

far_call : {sli : ℕ} {P : Type 0} (n : ℕ) (a : Worker sli P) (target : Target) (name : Name) (made : List (Option Name)) (entries : List Entry) → name_of made target ≡ Some name → name.heap ≢ id_of a → n ≤ name.heap
    → QuietCall n a a (Release target) made entries (Refused Stranger)
far_call n a target name made entries known ne far = refused_call n a target made entries (Some name) Stranger known (λ other e. cc) (λ w len. releasing_far w (id_of a) name ne (omega (arith, len)))

released_by_heap : (r : Result (Unit {0}) Refusal) → reply_released (freed_by r) ≡ reply_freed r
released_by_heap (Ok done) = refl
released_by_heap (Err why) = refl

freed_quiet : (at : ℕ) (target : Target) (r : Result (Unit {0}) Refusal) → IsQuiet (entry_by at (Release target) (reply_freed r))
freed_quiet at target (Ok done) = record { call = tt; posts = λ made. record { made_none = λ j. refl; taken_none = λ i. refl }; unfilled = λ name e. cc }
freed_quiet at target (Err why) = record { call = tt; posts = λ made. record { made_none = λ j. refl; taken_none = λ i. refl }; unfilled = λ name e. cc }

here_call : {sli : ℕ} {P : Type 0} (n : ℕ) (a v : Worker sli P) (target : Target) (name : Name) (made : List (Option Name)) (entries : List Entry) (answer : Result Released CrewRefusal) → name_of made target ≡ Some name
    → name.heap ≡ id_of a → ReleasedHere a v name answer → QuietCall n a v (Release target) made entries (reply_released answer)
unfolding released
here_call n a v target name made entries answer known own here =
    let r = (heap.released (heap_of a) name).answer in
    let e : reply_released answer ≡ reply_freed r = ap reply_released here.answer_is ∙ released_by_heap r in
    own_call n a v (Release target) made entries (reply_released answer) (λ x. own_freeing x name) here.same (subst (λ y. IsQuiet (entry_by (id_of a) (Release target) y)) (sym e) (freed_quiet (id_of a) target r))
    (λ w. release_called (id_of a) (told_of made entries (heap_of a)) w target (Some name) _ known (own_name w (id_of a) name own)) (record { same = e; left = here.releases.heap })

-- a post is answered so where the port has room, and where it has none
pub put_answered : {X : Type 0} (sli n at : ℕ) (h : HeapState) (made : List (Option Name)) (entries : List Entry) (target : Target) (name : Name) (put : Result (Unit {0}) X) → name_of made target ≡ Some name → name.heap ≢ at → name.heap < n
    → IsModelAnswer sli n at (told_of made entries h) (Release target) (reply_released (posted_as (put_answer name put))) h
put_answered sli n at h made entries target name (Ok done) known ne near = λ lt w has s.
    let near_w : name.heap < length w.heaps = omega (arith, has.0) in
    let p = posted_world w at name (s.room target name refl known ne near_w refl) in
    told_where at (told_of made entries h) w (Release target) Posted h (posting w at name) (release_called at (told_of made entries h) w target (Some name) _ known (releasing_post w at name ne near_w))
    (record { same = sym p.0; left = sym (p.1 ∙ has.1) })
put_answered sli n at h made entries target name (Err back) known ne near = λ lt w has s.
    let near_w : name.heap < length w.heaps = omega (arith, has.0) in
    let e = releasing_post w at name ne near_w ∙ full_world w at name (s.full target name refl known ne near_w refl) in
    told_where at (told_of made entries h) w (Release target) (Refused (Full name)) h (record { reply = Refused (Full name); world = w }) (release_called at (told_of made entries h) w target (Some name) _ known e)
    (record { same = refl; left = sym has.1 })

-- a release is a quiet call or a put, by ports that reach each other worker and none else
pub release_by : {sli : ℕ} {P : Type 0} (n : ℕ) (reaches : P → ℕ → Type 0) (puts : ℕ → P → P → Name → Result (Unit {0}) CrewRefusal → Type 0) (a v : Worker sli P) (target : Target) (name : Name) (made : List (Option Name))
    (entries : List Entry) (answer : Result Released CrewRefusal) (IsStep : Worker sli P → Reply → Type 0) → name_of made target ≡ Some name → ReleasesOrPosts reaches puts a v name answer
    → reaches a.ports name.heap ⊎ ((name.heap ≢ id_of a → n ≤ name.heap) × ¬ (reaches a.ports name.heap))
    → ((u : Worker sli P) (reply : Reply) → KeepsHeap (heap_of a) (heap_of u) → QuietCall n a u (Release target) made entries reply → IsStep u reply)
    → (name.heap ≢ id_of a → reaches a.ports name.heap → ReleasedThere puts a v name answer → IsStep v (reply_released answer)) → IsStep v (reply_released answer)
release_by n reaches puts a v target name made entries answer IsStep known r either quiet put = elim (cases_eq name.heap (id_of a)) [
  | inl own ↦
      let here = r.here own in
      quiet v (reply_released answer) (call_keeps (heap_of a) (heap_of v) (heap.Release name) here.releases.heap) (here_call n a v target name made entries answer known own here)
  | inr ne ↦ elim either [
    | inl has ↦ put ne has (r.there ne has)
    | inr none ↦
        let e = r.nowhere ne none.1 in
        rw (e.0, e.1) (quiet a (Refused Stranger) (same_heap_keeps (heap_of a) (heap_of a) refl) (far_call n a target name made entries known ne (none.0 ne)))
  ]
]
