-- A worker whose script takes no post is told in a race what it is told alone.
use Rattle.tlsf_crew.proofs.Common.{[], ◌∷◌, ◌++◌, ◌≡◌, ◌≢◌, ℕ, ◌+◌, ◌<◌, ◌≤◌, List, Option, Some, None, length, sym, ◌∙◌, ap, arith, refl, inl, inr, subst, append_assoc, append-nil, length-append, get_or-set_same, AllByRecursion, fold, cases_eq, cases_lt, HeapState, Name, Post, bytes_of, Call, Allocate, Release, Write, Read, Resize, Take, Drain, Entry, Reply, Posted, Empty, Refused, Full, Target, HeapReply, own_allocating, own_freeing, own_reading, own_resizing, own_writing, no_heap, World, WorldReply, Replayed, after, allocating, answered, by_own, called, heap_in, name_of, posting, reading_named, releasing_named, resizing_named, with_heap, writing_named, Progress, MayTell, MayTellAll, told_by, StandsBehind, TellsCall, post_of_release, post_of_take, posts_made, posts_taken, events_by, TakesNoPost}
use Rattle.tlsf_calls.specs.Entries.{made_by}
use Rattle.tlsf_crew.proofs.lemmas.histories.AllEntries.{called_knows, called_told}
use Rattle.tlsf_crew.proofs.lemmas.model.EventSteps.{after_near}
use Rattle.tlsf_crew.proofs.lemmas.histories.JoinedEntries.{told_nothing, told_own, made_then, taken_then}
use Rattle.tlsf_crew.proofs.lemmas.histories.LaneCalls.{of_same}
use Rattle.tlsf_crew.proofs.lemmas.model.OneEvent.{release_capacity, releasing_far, releasing_post}
use Rattle.tlsf_crew.proofs.lemmas.scripts.OwnTold.{own_name, posted_world, full_world}
use Rattle.tlsf_crew.proofs.lemmas.race_laws.CallsTold.{knows_all}
use Rattle.tlsf_crew.proofs.lemmas.race_laws.RecordHistory.{knows_one}

-- ---- one call

-- the reply to a call that takes no post
abbrev reply_to : {sli : ℕ} → List (Option Name) → World sli → ℕ → Call → WorldReply sli
reply_to made w at (Allocate len) = allocating w at len
reply_to made w at (Release target) = releasing_named w at (name_of made target)
reply_to made w at (Write target from bytes) = writing_named w at (name_of made target) from (bytes_of bytes)
reply_to made w at (Read target from n) = reading_named w at (name_of made target) from n
reply_to made w at (Resize target len) = resizing_named w at (name_of made target) len
reply_to made w at call = record { reply = Empty; world = w }

called_is : {sli : ℕ} (r : Replayed sli) (at : ℕ) (call : Call) → TakesNoPost call → called r at call ≡ answered r at call (reply_to r.made r.world at call)
called_is r at (Take from) none = absurd none
called_is r at (Drain most) none = absurd none
called_is r at call none = refl

-- the same reply, and the same heap after it
abbrev SameReply : {sli : ℕ} → ℕ → WorldReply sli → WorldReply sli → Type 0
SameReply at a b = (a.reply ≡ b.reply) × (heap_in a.world at ≡ heap_in b.world at)

same_told : {sli : ℕ} (r q : Replayed sli) (at : ℕ) (call : Call) (a b : WorldReply sli) → r.made ≡ q.made → r.entries ≡ q.entries → SameReply at a b → told_by at (answered r at call a) ≡ told_by at (answered q at call b)
same_told r q at call a b made entries same = λ k. record {
  made = made k ++ made_by (same.0 k) ∷ [];
  entries = entries k ++ record { worker = at; call = call; reply = same.0 k } ∷ [];
  heap = same.1 k;
}

-- ---- the answers of the own heap

-- two worlds of n workers in which worker `at` has the same heap
record Alike {sli : ℕ} (n at : ℕ) (x y : World sli) : Type 0 where
  at_in : at < n
  here : length x.heaps ≡ n
  there : length y.heaps ≡ n
  heap : heap_in x at ≡ heap_in y at

left : {sli : ℕ} (n at : ℕ) (x : World sli) (h : HeapState) → at < n → length x.heaps ≡ n → heap_in (with_heap x at h) at ≡ h
left n at x h at_in count = let near : at < length x.heaps = omega (arith, count) in get_or-set_same x.heaps at h no_heap near

-- a call on it
own_same : {sli : ℕ} (n at : ℕ) (x y : World sli) (by : HeapState → HeapReply) → Alike n at x y → SameReply at (by_own x at by) (by_own y at by)
own_same n at x y by a = (
  ap (λ h. (by h).reply) a.heap,
  left n at x (by (heap_in x at)).heap a.at_in a.here ∙ (ap (λ h. (by h).heap) a.heap ∙ sym (left n at y (by (heap_in y at)).heap a.at_in a.there)),
)

-- ---- posts

-- the reply to a post, where the lane is full
full_reply : {sli : ℕ} (w : World sli) (at : ℕ) (name : Name) → length (w.waiting at name.heap) ≡ w.capacity → ((posting w at name).reply ≡ Refused (Full name)) × (heap_in (posting w at name).world at ≡ heap_in w at)
full_reply w at name e = (ap (λ r. r.reply) (full_world w at name e), ap (λ r. heap_in r.world at) (full_world w at name e))

-- what two worlds owe each other where a name of another worker's heap is posted
abbrev SameRoom : {sli : ℕ} → ℕ → World sli → World sli → Name → Type 0
SameRoom at x y name =
    ((posting x at name).reply ≡ Refused (Full name) → length (y.waiting at name.heap) ≡ y.capacity)
    × ((posting x at name).reply ≡ Posted → length (y.waiting at name.heap) ≢ y.capacity)

same_post : {sli : ℕ} (at : ℕ) (x y : World sli) (name : Name) → heap_in x at ≡ heap_in y at → SameRoom at x y name → SameReply at (posting x at name) (posting y at name)
same_post at x y name heap room = elim (cases_eq (length (x.waiting at name.heap)) x.capacity) [
  | inl e ↦
      let a = full_reply x at name e in
      let b = full_reply y at name (room.0 a.0) in
      (a.0 ∙ sym b.0, a.1 ∙ (heap ∙ sym b.1))
  | inr ne ↦
      let a = posted_world x at name ne in
      let b = posted_world y at name (room.1 a.0) in
      (a.0 ∙ sym b.0, a.1 ∙ (heap ∙ sym b.1))
]

same_release : {sli : ℕ} (n at : ℕ) (x y : World sli) (o : Option Name) → Alike n at x y → ((name : Name) → o ≡ Some name → name.heap ≢ at → name.heap < n → SameRoom at x y name)
    → SameReply at (releasing_named x at o) (releasing_named y at o)
same_release n at x y None a room = (refl, a.heap)
same_release n at x y (Some name) a room = elim (cases_eq name.heap at) [
  | inl own ↦
      rw (own_name x at name own, own_name y at name own)
      (own_same n at x y (λ h. own_freeing h name) a)
  | inr ne ↦ elim (cases_lt name.heap n) [
    | inl lt ↦
        let p = releasing_post x at name ne (omega (arith, a.here)) in
        let q = releasing_post y at name ne (omega (arith, a.there)) in
        rw (p, q) (same_post at x y name a.heap (room name refl ne lt))
    | inr ge ↦
        let p = releasing_far x at name ne (omega (arith, a.here)) in
        let q = releasing_far y at name ne (omega (arith, a.there)) in
        rw (p, q) (refl, a.heap)
  ]
]

-- what two worlds owe each other at a call
abbrev RoomFor : {sli : ℕ} → List (Option Name) → ℕ → ℕ → World sli → World sli → Call → Type 0
RoomFor made n at x y (Release target) = (name : Name) → name_of made target ≡ Some name → name.heap ≢ at → name.heap < n → SameRoom at x y name
RoomFor made n at x y call = Unit {0}

same_reply : {sli : ℕ} (n at : ℕ) (made : List (Option Name)) (x y : World sli) (call : Call) → TakesNoPost call → Alike n at x y → RoomFor made n at x y call
    → SameReply at (reply_to made x at call) (reply_to made y at call)
same_reply {sli} n at made x y (Allocate len) none a room = own_same n at x y (λ h. own_allocating sli h len) a
same_reply {sli} n at made x y (Release target) none a room = same_release n at x y (name_of made target) a room
same_reply {sli} n at made x y (Write target from bytes) none a room = own_same n at x y (λ h. own_writing h (name_of made target) from (bytes_of bytes)) a
same_reply {sli} n at made x y (Read target from k) none a room = own_same n at x y (λ h. own_reading h (name_of made target) from k) a
same_reply {sli} n at made x y (Resize target len) none a room = own_same n at x y (λ h. own_resizing h (name_of made target) len) a
same_reply {sli} n at made x y (Take from) none a room = absurd none
same_reply {sli} n at made x y (Drain most) none a room = absurd none

-- ---- the capacity of the lanes

same_capacity : {sli : ℕ} (r : Replayed sli) (at : ℕ) (call : Call) → TakesNoPost call → ((called r at call).world).capacity ≡ (r.world).capacity
same_capacity r at (Release target) none = release_capacity r.world at (name_of r.made target)
same_capacity r at (Take from) none = absurd none
same_capacity r at (Drain most) none = absurd none
same_capacity r at call none = refl

-- ---- what a script without takes tells

-- the entries of a call that takes none
pub takes_none : (i j at : ℕ) (made : List (Option Name)) (call : Call) (name : Option Name) (own : List Entry) → TakesNoPost call → TellsCall at made call name own → posts_taken i j own ≡ []
takes_none i j at made (Take from) name own none t = absurd none
takes_none i j at made (Drain most) name own none t = absurd none
takes_none i j at made call name own none t = ap (posts_taken i j) t.whole ∙ told_nothing (λ e. post_of_take i e.call e.reply) j _ refl

-- the worker's own state before a call
abbrev at_call : {sli : ℕ} → Progress → World sli → Replayed sli
at_call s x = record { made = s.made; entries = s.entries; world = x }

-- later calls add entries after
grown : (sli : ℕ) (n at : ℕ) (s t : Progress) (calls : List Call) → at < n → MayTellAll sli n at s calls t → (rest : List Entry) × (t.entries ≡ s.entries ++ rest)
grown sli n at s t [] at_in m = ([], ap (λ (t : Progress). t.entries) m ∙ sym (append-nil s.entries))
grown sli n at s t (call ∷ calls) at_in m =
    let x = m.1.0 in
    let c = called_told (called (at_call s x) at call).made (at_call s x) at call (omega (arith, m.1.1.0)) (called_knows (at_call s x) at call) in
    let first : m.0.entries ≡ s.entries ++ c.own = sym (ap (λ (t : Progress). t.entries) m.1.2) ∙ c.entries in
    let later = grown sli n at m.0 t calls at_in m.2 in
    (c.own ++ later.0, later.1 ∙ (ap (λ l. l ++ later.0) first ∙ append_assoc s.entries c.own later.0))

-- the entries of a script that takes none tell of no post that was taken
pub none_taken : (sli : ℕ) (n i j at : ℕ) (s t : Progress) (calls : List Call) → at < n → AllByRecursion TakesNoPost calls → MayTellAll sli n at s calls t → posts_taken i j s.entries ≡ [] → posts_taken i j t.entries ≡ []
none_taken sli n i j at s t [] at_in free m none = ap (λ (t : Progress). posts_taken i j t.entries) m ∙ none
none_taken sli n i j at s t (call ∷ calls) at_in free m none =
    let x = m.1.0 in
    let c = called_told (called (at_call s x) at call).made (at_call s x) at call (omega (arith, m.1.1.0)) (called_knows (at_call s x) at call) in
    let first : m.0.entries ≡ s.entries ++ c.own = sym (ap (λ (t : Progress). t.entries) m.1.2) ∙ c.entries in
    none_taken sli n i j at m.0 t calls at_in free.1 m.2
    (ap (posts_taken i j) first ∙ (taken_then i j s.entries c.own ∙ (ap (λ l. l ++ posts_taken i j c.own) none ∙ takes_none i j at s.made call c.name c.own free.0 c.tells)))

-- ---- the script alone

-- what the lanes of worker i hold for all that it was told to have posted, in a race
pub record HasLanes {sli : ℕ} (w : World sli) (i : ℕ) (made : List (Option Name)) (scripted : List Entry) : Type 0 where
  pub room : (j : ℕ) → j < length w.heaps → i ≢ j → length (w.waiting i j) + length (posts_made i j made scripted) ≤ w.capacity
  pub full : (j : ℕ) → j < length w.heaps → i ≢ j → (before : List Entry) (e : Entry) (name : Name) → StandsBehind scripted before e → e.reply ≡ Refused (Full name) → name.heap ≡ j
      → w.capacity ≤ length (w.waiting i j) + length (posts_made i j made before)

-- what it was told so far is what it was told alone
pub record IsAlone {sli : ℕ} (w : World sli) (i : ℕ) (made : List (Option Name)) (s : Progress) (r : Replayed sli) : Type 0 where
  pub names : r.made ≡ s.made
  pub entries : r.entries ≡ s.entries
  pub heap : heap_in r.world i ≡ s.heap
  pub count : length r.world.heaps ≡ length w.heaps
  pub capacity : r.world.capacity ≡ w.capacity
  pub waits : (j : ℕ) → r.world.waiting i j ≡ w.waiting i j ++ posts_made i j made s.entries

pub alone_told : {sli : ℕ} (w : World sli) (i : ℕ) (made : List (Option Name)) (s : Progress) (r : Replayed sli) → IsAlone w i made s r → told_by i r ≡ s
alone_told w i made s r a =
    let names = a.names in
    let entries = a.entries in
    let heap = a.heap in
    λ k. record { made = names k; entries = entries k; heap = heap k }

-- the post of an entry that tells of one
one_post : (i : ℕ) (made : List (Option Name)) (target : Target) (name : Name) (e : Entry) → e ≡ record { worker = i; call = Release target; reply = Posted } → name_of made target ≡ Some name
    → length (posts_made i name.heap made (e ∷ [])) ≡ 1
one_post i made target name e is known =
    let f : Entry → Option Post = λ e. post_of_release name.heap made e.worker e.call e.reply in
    let x : Entry = record { worker = i; call = Release target; reply = Posted } in
    let post : f x ≡ Some (record { from = i; name = name }) = rw (known, of_same name.heap name refl) refl in
    rw (is, told_own f i x refl, post) refl

-- the entry that a call adds, as it stands in the script's record
abbrev next_entry : {sli : ℕ} → ℕ → List (Option Name) → World sli → Call → Entry
next_entry i made x call = record { worker = i; call = call; reply = (reply_to made x i call).reply }

-- the lane is full in the race where it is full alone
same_room : {sli : ℕ} (w : World sli) (i : ℕ) (z s : Progress) (x y : World sli) (target : Target) (name : Name) (rest : List Entry) → HasLanes w i z.made z.entries
    → y.capacity ≡ w.capacity → ((j : ℕ) → y.waiting i j ≡ w.waiting i j ++ posts_made i j z.made s.entries)
    → name_of s.made target ≡ Some name → name_of z.made target ≡ Some name → name.heap ≢ i → name.heap < length w.heaps → name.heap < length x.heaps
    → z.entries ≡ s.entries ++ (next_entry i s.made x (Release target) ∷ rest) → SameRoom i x y name
same_room {sli} w i z s x y target name rest lanes capacity waits known later ne lt near whole =
    let j = name.heap in
    let e = next_entry i s.made x (Release target) in
    let replied : e.reply ≡ (posting x i name).reply = ap (λ o. (releasing_named x i o).reply) known ∙ ap (λ (r : WorldReply sli). r.reply) (releasing_post x i name ne near) in
    let apart : i ≢ j = λ q. ne (sym q) in
    let made = posts_made i j z.made in
    let held : length (y.waiting i j) ≡ length (w.waiting i j) + length (made s.entries) = ap length (waits j) ∙ length-append (w.waiting i j) (made s.entries) in
    let parts : made z.entries ≡ made s.entries ++ (made (e ∷ []) ++ made rest)
    = ap made whole ∙ (made_then i j z.made s.entries (e ∷ rest) ∙ ap (λ l. made s.entries ++ l) (made_then i j z.made (e ∷ []) rest)) in
    let count : length (made z.entries) ≡ length (made s.entries) + (length (made (e ∷ [])) + length (made rest))
    = ap length parts ∙ (length-append (made s.entries) (made (e ∷ []) ++ made rest) ∙ ap (λ n. length (made s.entries) + n) (length-append (made (e ∷ [])) (made rest))) in
    let most = lanes.room j lt apart in (
      λ full.
          let least = lanes.full j lt apart s.entries e name (rest, whole) (replied ∙ full) refl in
          omega (arith, held, count, most, least, capacity),
      λ posted q.
          let one = one_post i z.made target name e (ap (λ (reply : Reply). record { worker = i; call = Release target; reply = reply }) (replied ∙ posted)) later in
          absurd (omega (arith, held, count, most, one, capacity, q)),
    )

alone_step : {sli : ℕ} (w : World sli) (i : ℕ) (z s u : Progress) (call : Call) (calls : List Call) (r : Replayed sli) → HasLanes w i z.made z.entries → i < length w.heaps → TakesNoPost call
    → MayTell sli (length w.heaps) i s call u → MayTellAll sli (length w.heaps) i u calls z → IsAlone w i z.made s r → IsAlone w i z.made u (called r i call)
alone_step {sli} w i z s u call calls r lanes i_in free m later a =
    let n = length w.heaps in
    let x = m.0 in
    let q = at_call s x in
    let first = called_is r i call free in
    let second = called_is q i call free in
    let rest = grown sli n i u z calls i_in later in
    let e = next_entry i s.made x call in
    let told_entries : u.entries ≡ s.entries ++ e ∷ [] = sym (ap (λ (t : Progress). t.entries) m.2) ∙ ap (λ (v : Replayed sli). v.entries) second in
    let whole : z.entries ≡ s.entries ++ (e ∷ rest.0) = rest.1 ∙ (ap (λ l. l ++ rest.0) told_entries ∙ append_assoc s.entries (e ∷ []) rest.0) in
    let known = knows_all (MayTell sli n i) (knows_one sli n i) u z calls later in
    let before : (target : Target) (name : Name) → name_of s.made target ≡ Some name → name_of z.made target ≡ Some name = λ target name found. known target name (knows_one sli n i s u call m target name found) in
    let alike : Alike n i x r.world = record { at_in = i_in; here = m.1.0; there = a.count; heap = m.1.1 ∙ sym a.heap } in
    let room = room_for w i z s x r call rest.0 lanes i_in m.1.0 a before whole in
    let same = same_reply n i s.made x r.world call free alike room in
    let told : told_by i (called r i call) ≡ u =
    ap (told_by i) first ∙ (sym (same_told q r i call (reply_to s.made x i call) (reply_to r.made r.world i call) (sym a.names) (sym a.entries)
    (subst (λ made. SameReply i (reply_to s.made x i call) (reply_to made r.world i call)) (sym a.names) same))
    ∙ (sym (ap (told_by i) second) ∙ m.2)) in
    let c = called_told z.made r i call (omega (arith, i_in, a.count)) (λ target name found. before target name (subst (λ made. name_of made target ≡ Some name) a.names found)) in
    record {
      names = ap (λ (t : Progress). t.made) told;
      entries = ap (λ (t : Progress). t.entries) told;
      heap = ap (λ (t : Progress). t.heap) told;
      count = c.history.count ∙ a.count;
      capacity = same_capacity r i call free ∙ a.capacity;
      waits = λ j.
          let none = takes_none i j i r.made call c.name c.own free c.tells in
          let posts = c.history.posts i j in
          let added : u.entries ≡ s.entries ++ c.own = sym (ap (λ (t : Progress). t.entries) told) ∙ (c.entries ∙ ap (λ l. l ++ c.own) a.entries) in
          let moved : (called r i call).world.waiting i j ≡ r.world.waiting i j ++ posts_made i j z.made c.own = sym (posts ∙ ap (λ l. l ++ (called r i call).world.waiting i j) none) in
          moved ∙ (ap (λ l. l ++ posts_made i j z.made c.own) (a.waits j) ∙ (append_assoc (w.waiting i j) (posts_made i j z.made s.entries) (posts_made i j z.made c.own)
          ∙ ap (λ l. w.waiting i j ++ l) (sym (ap (posts_made i j z.made) added ∙ made_then i j z.made s.entries c.own))));
    }
  where
    room_for : (w : World sli) (i : ℕ) (z s : Progress) (x : World sli) (r : Replayed sli) (call : Call) (rest : List Entry) → HasLanes w i z.made z.entries → i < length w.heaps → length x.heaps ≡ length w.heaps
        → IsAlone w i z.made s r → ((target : Target) (name : Name) → name_of s.made target ≡ Some name → name_of z.made target ≡ Some name)
        → z.entries ≡ s.entries ++ (next_entry i s.made x call ∷ rest) → RoomFor s.made (length w.heaps) i x r.world call
    room_for w i z s x r (Release target) rest lanes i_in count a known whole =
        λ name found ne lt. same_room w i z s x r.world target name rest lanes a.capacity a.waits found (known target name found) ne lt (omega (arith, count, lt)) whole
    room_for w i z s x r call rest lanes i_in count a known whole = tt

-- a whole script
pub alone_runs : {sli : ℕ} (w : World sli) (i : ℕ) (z s : Progress) (calls : List Call) (r : Replayed sli) → HasLanes w i z.made z.entries → i < length w.heaps → AllByRecursion TakesNoPost calls
    → MayTellAll sli (length w.heaps) i s calls z → IsAlone w i z.made s r → IsAlone w i z.made z (fold after r (events_by i calls))
alone_runs w i z s [] r lanes i_in free m a = subst (λ t. IsAlone w i z.made t r) (sym m) a
alone_runs w i z s (call ∷ calls) r lanes i_in free m a =
    subst (λ v. IsAlone w i z.made z (fold after v (events_by i calls))) (sym (after_near r (record { worker = i; call = call }) call (omega (arith, i_in, a.count)) refl))
    (alone_runs w i z m.0 calls (called r i call) lanes i_in free.1 m.2 (alone_step w i z s m.0 call calls r lanes i_in free.0 m.1 m.2 a))
