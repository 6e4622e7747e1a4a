-- Entry by entry: what is live in a heap is held by the programs, or its name waits in a lane. So each request finds room.
use Rattle.tlsf_yard_laws.proofs.Common.{◌==◌, ◌≡◌, ◌≢◌, ℕ, suc, ◌+◌, ◌*◌, ◌<◌, ◌≤◌, ◌⊎◌, Bool, true, false, cond, eqb, List, [], ◌∷◌, ◌++◌, length, Option, Some, None, Result, Ok, Err, refl, sym, ap, ◌∙◌, subst, inl, inr, arith, length-append, eq-eqb, append-nil, ⊤, AllByRecursion, cons_option, option_map, cases_eq, false≢true, ne_eqb, length-map, IsLevel, most_words, HeapState, want, Name, Post, mixed_words, IsModest, IsServed, bytes_there, is_same, Inventory, inventory_after, with_length, bytes_of, RunsTo, answer_told, answers_on, call_on_own, calls_on, handed_on, meant, post_of_release, post_of_take, posts_made, posts_taken, Entry, Call, Allocate, Release, Write, Read, Resize, Take, Drain, Target, Reply, AreSparing, IsSparing, unreleased_after, with_call, without_post, Site, Refusal, Foreign, Worn, all_append, takes, live_count, same_is, same_self, Agrees, agrees_call, live_agrees, lookup, lookup_without, Taken, told_other, told_own, told_then}
use Rattle.tlsf_heap.specs.Calls as heap
use Rattle.tlsf_pool.proofs.lemmas.laws.ModestCalls.{InMixed, is_served, kept, tick_kept}
use Rattle.tlsf_yard_laws.proofs.Told.{no_name, noted_same, served_on}
use Rattle.tlsf_yard_laws.proofs.Few.{IsAmong, among_left, among_right, few, in_lanes, lane_names, lanes_few, names_of, posted, still_among}

-- ---- what covers a name

-- it waits in a lane to worker j, from one of n workers
abbrev pub WaitsFor : (j n : ℕ) → (ℕ → List Post) → Name → Type 0
WaitsFor j n lanes name = (i : ℕ) × (i < n) × (i ≢ j) × IsAmong name (posted (lanes i))

abbrev pub IsCovered : (j n : ℕ) → Inventory → (ℕ → List Post) → Name → Type 0
IsCovered j n inventory lanes name = IsAmong name (names_of inventory) ⊎ WaitsFor j n lanes name

-- so it stays, where the name stays on either side
stay_covered : (j n : ℕ) (u v : Inventory) (lanes later : ℕ → List Post) (name : Name) → (IsAmong name (names_of u) → IsAmong name (names_of v))
    → ((i : ℕ) → i ≢ j → IsAmong name (posted (lanes i)) → IsAmong name (posted (later i))) → IsCovered j n u lanes name → IsCovered j n v later name
stay_covered j n u v lanes later name held waits c = elim c [
  | inl here ↦ inl (held here)
  | inr away ↦ inr (away.0, away.1, away.2, waits away.0 away.2 away.3)
]

-- ---- a call of the heap's own worker

-- a name whose release is refused while the ticks last is not live
refused_gone : (h : HeapState) (name : Name) (l : Inventory) (why : Refusal) → Agrees h l → h.tick < heap.last_tick → (heap.released h name).answer ≡ Err why → lookup name l ≡ None
refused_gone h name l why agrees fresh e = agrees.found name ∙ ap (option_map length) (gone (eqb name.heap h.id) (heap.named name h.blocks) e)
  where
    gone : (c : Bool) (o : Option Site) → (cond c (heap.released_at h o) (heap.refused h Foreign)).answer ≡ Err why → cond c (bytes_there o) None ≡ None
    gone false o e = refl
    gone true None e = refl
    gone true (Some s) e =
        let q : ◌≡◌ {A = Result (Unit {0}) Refusal} (Ok tt) (Err why) = sym (ap (λ (c : Bool). (cond c (heap.refused h Worn) (takes h s)).answer) (ne_eqb h.tick heap.last_tick (λ q. omega (arith, q, fresh)))) ∙ e in
        absurd cc

-- after the release of a name, what is live is another, and was live before
other_name : (h : HeapState) (m name : Name) (l : Inventory) (len : ℕ) (r : Result (Unit {0}) Refusal) → Agrees h l → h.tick < heap.last_tick → (heap.released h m).answer ≡ r
    → lookup name (inventory_after l (heap.Release m) (heap.Released r)) ≡ Some len → (m ≢ name) × (lookup name l ≡ Some len)
other_name h m name l len (Ok done) agrees fresh is found = at (is_same m name) refl (sym (lookup_without m name l) ∙ found)
  where
    at : (c : Bool) → is_same m name ≡ c → cond c None (lookup name l) ≡ Some len → (m ≢ name) × (lookup name l ≡ Some len)
    at true same e = let q : ◌≡◌ {A = Option ℕ} None (Some len) = e in absurd cc
    at false same e = ((λ q. false≢true (sym same ∙ subst (λ (x : Name). is_same m x ≡ true) q (same_self m))), e)
other_name h m name l len (Err why) agrees fresh is found =
    ((λ q. let none : ◌≡◌ {A = Option ℕ} None (Some len) = sym (refused_gone h m l why agrees fresh is) ∙ (ap (λ (x : Name). lookup x l) q ∙ found) in cc), found)

-- an inventory keeps the other names
still_held : (m name : Name) (u : Inventory) (r : Result (Unit {0}) Refusal) → m ≢ name → IsAmong name (names_of u) → IsAmong name (names_of (inventory_after u (heap.Release m) (heap.Released r)))
still_held m name u (Ok done) ne a = still_among m name u ne a
still_held m name u (Err why) ne a = a

-- a resize leaves the names of an inventory, and what else it tells of each
resize_keeps : (m name : Name) (k : ℕ) (u : Inventory) → IsAmong name (names_of u) → IsAmong name (names_of (with_length u m k))
resize_keeps m name k [] a = absurd a
resize_keeps m name k (x ∷ u) a = elim a [
  | inl same ↦ inl (first (is_same m x.0) ∙ same)
  | inr rest ↦ inr (resize_keeps m name k u rest)
]
  where
    first : (c : Bool) → (cond {A = Name × ℕ} c (x.0, k) x).0 ≡ x.0
    first true = refl
    first false = refl

abbrev Finds : (m name : Name) → (k len : ℕ) → Inventory → Type 0
Finds m name k len l = lookup name (with_length l m k) ≡ Some len → (n : ℕ) × (lookup name l ≡ Some n)

resize_finds : (m name : Name) (k len : ℕ) (l : Inventory) → Finds m name k len l
resize_finds m name k len [] e = cc
resize_finds m name k len (x ∷ l) e = at (resize_finds m name k len l) (is_same m x.0) e
  where
    on : Finds m name k len l → (c : Bool) (n : ℕ) → cond c (Some n) (lookup name (with_length l m k)) ≡ Some len → (n : ℕ) × (cond c (Some x.1) (lookup name l) ≡ Some n)
    on rest true n e = (x.1, refl)
    on rest false n e = rest e

    at : Finds m name k len l → (c : Bool) → lookup name (cond {A = Name × ℕ} c (x.0, k) x ∷ with_length l m k) ≡ Some len → (n : ℕ) × (lookup name (x ∷ l) ≡ Some n)
    at rest true e = on rest (is_same x.0 name) k e
    at rest false e = on rest (is_same x.0 name) x.1 e

-- each name that waited waits still, but for that which the call releases
abbrev Leaves : ℕ → (ℕ → List Post) → (ℕ → List Post) → Option heap.Call → Type 0
Leaves j lanes later o = (i : ℕ) → i ≢ j → (name : Name) → IsAmong name (posted (lanes i)) → IsAmong name (posted (later i)) ⊎ (o ≡ Some (heap.Release name))

abbrev Covers : (j n : ℕ) → Inventory → Inventory → (ℕ → List Post) → Type 0
Covers j n l u lanes = (name : Name) (len : ℕ) → lookup name l ≡ Some len → IsCovered j n u lanes name

still_waits : (j : ℕ) (lanes later : ℕ → List Post) (c : heap.Call) (name : Name) → (◌≡◌ {A = Option heap.Call} (Some c) (Some (heap.Release name)) → ⊥) → Leaves j lanes later (Some c)
    → (i : ℕ) → i ≢ j → IsAmong name (posted (lanes i)) → IsAmong name (posted (later i))
still_waits j lanes later c name other leaves i ne a = elim (leaves i ne name a) [ inl x ↦ x | inr e ↦ absurd (other e) ]

call_covers : (sli : ℕ) (j n : ℕ) (h : HeapState) (l u : Inventory) (lanes later : ℕ → List Post) (c : heap.Call) → Agrees h l → h.tick < heap.last_tick → Covers j n l u lanes → Leaves j lanes later (Some c)
    → Covers j n (inventory_after l c (heap.answered sli h c).0) (inventory_after u c (heap.answered sli h c).0) later
call_covers sli j n h l u lanes later (heap.Allocate m) agrees fresh covers leaves name len found = at (heap.allocated sli h m).answer found
  where
    new : (made : Name) (c : Bool) → is_same made name ≡ c → cond c (Some m) (lookup name l) ≡ Some len → IsCovered j n ((made, m) ∷ u) later name
    new made true same e = inl (inl (same_is made name same))
    new made false same e = stay_covered j n u ((made, m) ∷ u) lanes later name (λ a. inr a) (still_waits j lanes later (heap.Allocate m) name (λ e. cc) leaves) (covers name len e)

    at : (r : Result Name Refusal) → lookup name (inventory_after l (heap.Allocate m) (heap.Allocated r)) ≡ Some len → IsCovered j n (inventory_after u (heap.Allocate m) (heap.Allocated r)) later name
    at (Ok made) e = new made (is_same made name) refl e
    at (Err why) e = stay_covered j n u u lanes later name (λ a. a) (still_waits j lanes later (heap.Allocate m) name (λ e. cc) leaves) (covers name len e)
call_covers sli j n h l u lanes later (heap.Release m) agrees fresh covers leaves name len found =
    let r = (heap.released h m).answer in
    let other = other_name h m name l len r agrees fresh refl found in
    stay_covered j n u (inventory_after u (heap.Release m) (heap.Released r)) lanes later name (still_held m name u r other.0)
    (still_waits j lanes later (heap.Release m) name (λ e. let same : m ≡ name = cc in other.0 same) leaves) (covers name len other.1)
call_covers sli j n h l u lanes later (heap.Resize m k) agrees fresh covers leaves name len found = on (heap.resized h m k).answer found
  where
    on : (r : Result (Unit {0}) Refusal) → lookup name (inventory_after l (heap.Resize m k) (heap.Resized r)) ≡ Some len → IsCovered j n (inventory_after u (heap.Resize m k) (heap.Resized r)) later name
    on (Ok done) e =
        let old = resize_finds m name k len l e in
        stay_covered j n u (with_length u m k) lanes later name (resize_keeps m name k u) (still_waits j lanes later (heap.Resize m k) name (λ e. cc) leaves) (covers name old.0 old.1)
    on (Err why) e = stay_covered j n u u lanes later name (λ a. a) (still_waits j lanes later (heap.Resize m k) name (λ e. cc) leaves) (covers name len e)
call_covers sli j n h l u lanes later c agrees fresh covers leaves name len found = stay_covered j n u u lanes later name (λ a. a) (still_waits j lanes later c name (λ e. cc) leaves) (covers name len found)

-- ---- what an entry of the heap's own worker tells

no_post : (p : Post) → ◌≡◌ {A = Option Post} None (Some p) → ⊥
no_post p e = cc

-- an entry that takes a post tells the release of its name
take_asks : (made : List (Option Name)) (i at : ℕ) (call : Call) (reply : Reply) (p : Post) → post_of_take i call reply ≡ Some p → call_on_own made at call reply ≡ Some (heap.Release p.name)
take_asks made i at (Take from) (Taken t) p e = on (from == i) e
  where
    on : (c : Bool) → cond c (Some (record { from = t.from; name = t.name })) None ≡ Some p → ◌≡◌ {A = Option heap.Call} (Some (heap.Release t.name)) (Some (heap.Release p.name))
    on true e = let same : ◌≡◌ {A = Post} (record { from = t.from; name = t.name }) p = cc in ap (λ (post : Post). Some (heap.Release post.name)) same
    on false e = absurd (no_post p e)
take_asks made i at call reply p e = absurd (no_post p e)

-- an entry that tells an allocate is one
pub allocate_asks : (made : List (Option Name)) (at : ℕ) (call : Call) (reply : Reply) (m : ℕ) → call_on_own made at call reply ≡ Some (heap.Allocate m) → call ≡ Allocate m
allocate_asks made at (Allocate len) reply m e = let same : len ≡ m = cc in ap Allocate same
allocate_asks made at (Release target) reply m e = absurd (no_name _ heap.Release (heap.Allocate m) (λ name q. cc) e)
allocate_asks made at (Write target from bytes) reply m e = absurd (no_name _ (λ name. heap.Write name from (bytes_of bytes)) (heap.Allocate m) (λ name q. cc) e)
allocate_asks made at (Read target from n) reply m e = absurd (no_name _ (λ name. heap.Read name from n) (heap.Allocate m) (λ name q. cc) e)
allocate_asks made at (Resize target len) reply m e = absurd (no_name _ (λ name. heap.Resize name len) (heap.Allocate m) (λ name q. cc) e)
allocate_asks made at (Take from) reply m e = absurd (no_name _ heap.Release (heap.Allocate m) (λ name q. cc) e)
allocate_asks made at (Drain most) reply m e = absurd cc

-- and one that tells a resize is one
pub resize_asks : (made : List (Option Name)) (at : ℕ) (call : Call) (reply : Reply) (name : Name) (m : ℕ) → call_on_own made at call reply ≡ Some (heap.Resize name m)
    → (target : Target) × (call ≡ Resize target m)
resize_asks made at (Resize target len) reply name m e = (target, on (meant made target reply) e)
  where
    on : (o : Option Name) → option_map (λ name. heap.Resize name len) o ≡ Some (heap.Resize name m) → ◌≡◌ {A = Call} (Resize target len) (Resize target m)
    on None e = cc
    on (Some own) e = let same : len ≡ m = cc in ap (λ (n : ℕ). Resize target n) same
resize_asks made at (Release target) reply name m e = absurd (no_name _ heap.Release (heap.Resize name m) (λ other q. cc) e)
resize_asks made at (Write target from bytes) reply name m e = absurd (no_name _ (λ name. heap.Write name from (bytes_of bytes)) (heap.Resize name m) (λ other q. cc) e)
resize_asks made at (Read target from n) reply name m e = absurd (no_name _ (λ name. heap.Read name from n) (heap.Resize name m) (λ other q. cc) e)
resize_asks made at (Take from) reply name m e = absurd (no_name _ heap.Release (heap.Resize name m) (λ other q. cc) e)
resize_asks made at call reply name m e = absurd cc

-- ---- one entry after another

-- a heap, and what waits for its worker
pub record OwnSide : Type 0 where
  pub heap : HeapState
  pub lanes : ℕ → List Post

abbrev pub side : HeapState → (ℕ → List Post) → OwnSide
side h lanes = record { heap = h; lanes = lanes }

-- an entry leads from the one to the other
pub record Leads (sli : ℕ) (j n capacity : ℕ) (made : List (Option Name)) (s : OwnSide) (e : Entry) (t : OwnSide) : Type 0 where
  pub run : RunsTo sli s.heap (calls_on j made (e ∷ [])) (answers_on j (e ∷ [])) t.heap
  pub posts : (i : ℕ) → s.lanes i ++ posts_made i j made (e ∷ []) ≡ posts_taken i j (e ∷ []) ++ t.lanes i
  pub short : (i : ℕ) → length (t.lanes i) ≤ capacity
  pub near : (p : Post) → post_of_release j made e.worker e.call e.reply ≡ Some p → e.worker < n

-- and so does each of some entries
abbrev pub AllLead : (sli : ℕ) (j n capacity : ℕ) → List (Option Name) → HeapState → (ℕ → List Post) → List Entry → Type 0
AllLead sli j n capacity made h lanes [] = ⊤
AllLead sli j n capacity made h lanes (e ∷ es) = (g : HeapState) × (later : ℕ → List Post) × Leads sli j n capacity made (side h lanes) e (side g later) × AllLead sli j n capacity made g later es

-- what holds of the heap on the way. The first inventory is of what is live, the second of what the programs hold
pub record IsShared (j n words k : ℕ) (h : HeapState) (l u : Inventory) (lanes : ℕ → List Post) : Type 0 where
  pub mixed : InMixed words k h
  pub agrees : Agrees h l
  pub covers : Covers j n l u lanes

-- what one entry leaves
record Next (j n words k : ℕ) (h : HeapState) (u : Inventory) (g : HeapState) (later : ℕ → List Post) (answers : List heap.Answer) : Type 0 where
  live : Inventory
  shared : IsShared j n words k g live u later
  tick : g.tick ≤ h.tick + 1
  served : AllByRecursion IsServed answers

-- no more is live than the programs hold and the lanes have
live_few : (j m capacity words k : ℕ) (h : HeapState) (l u : Inventory) (lanes : ℕ → List Post) → j < m + 1 → ((i : ℕ) → length (lanes i) ≤ capacity) → IsShared j (suc m) words k h l u lanes
    → live_count h ≤ length u + m * capacity
live_few j m capacity words k h l u lanes j_in short shared =
    let all : List Name = names_of u ++ lane_names j lanes (suc m) in
    let count : length l ≤ length all = few l all shared.agrees.apart (λ name len found. elim (shared.covers name len found) [
      | inl here ↦ among_left name (names_of u) _ here
      | inr away ↦ among_right name (names_of u) _ (in_lanes j lanes (suc m) away.0 name away.1 away.2 away.3)
    ]) in
    let both = length-append (names_of u) (lane_names j lanes (suc m)) in
    let held : length (names_of u) ≡ length u = length-map u (λ entry. entry.0) in
    let away = lanes_few j capacity lanes m short j_in in
    let live = live_agrees h l shared.agrees in
    omega arith

module _ (sli : ℕ) (level : IsLevel sli) (words most len : ℕ) (region : want len ≤ most_words sli) (enough : mixed_words sli most len ≤ words) (j n : ℕ) where
  -- a request that the entry tells is modest, and so is a resize
  abbrev Allows : HeapState → Option heap.Call → Type 0
  Allows h o = ((m : ℕ) → o ≡ Some (heap.Allocate m) → (m ≤ len) × (live_count h < most)) × ((name : Name) (m : ℕ) → o ≡ Some (heap.Resize name m) → m ≤ len)

  is_modest : (h : HeapState) (c : heap.Call) → Allows h (Some c) → IsModest most len (live_count h) c
  is_modest h (heap.Allocate m) allows = allows.0 m refl
  is_modest h (heap.Resize name m) allows = allows.1 name m refl
  is_modest h c allows = tt

  own_next : (h g : HeapState) (l u : Inventory) (lanes later : ℕ → List Post) (o : Option heap.Call) (a : Option heap.Answer) → RunsTo sli h (cons_option o []) (cons_option a []) g
      → IsShared j n words (want len + 3) h l u lanes → Leaves j lanes later o → Allows h o → h.tick < heap.last_tick → Next j n words (want len + 3) h (with_call u o a) g later (cons_option a [])
  own_next h g l u lanes later None None run shared leaves allows fresh = record {
    live = l;
    shared = subst (λ (x : HeapState). IsShared j n words (want len + 3) x l u later) run.left (record {
      mixed = shared.mixed;
      agrees = shared.agrees;
      covers = λ name size found. stay_covered j n u u lanes later name (λ x. x) (λ i ne x. elim (leaves i ne name x) [ inl y ↦ y | inr e ↦ absurd cc ]) (shared.covers name size found);
    });
    tick = subst (λ (x : HeapState). x.tick ≤ h.tick + 1) run.left (omega arith);
    served = tt;
  }
  own_next h g l u lanes later None (Some b) run shared leaves allows fresh = let e = run.told in absurd cc
  own_next h g l u lanes later (Some c) None run shared leaves allows fresh = let e = run.told in absurd cc
  own_next h g l u lanes later (Some c) (Some b) run shared leaves allows fresh =
      let answer = (heap.answered sli h c).0 in
      let modest = is_modest h c allows in
      let same : handed_on answer ≡ b = let e = run.told in cc in
      let noted : inventory_after u c answer ≡ inventory_after u c b = sym (noted_same u c answer) ∙ ap (inventory_after u c) same in
      record {
        live = inventory_after l c answer;
        shared = subst (λ (x : HeapState). IsShared j n words (want len + 3) x (inventory_after l c answer) (inventory_after u c b) later) run.left (record {
          mixed = kept sli level words most len region enough h c shared.mixed modest;
          agrees = agrees_call sli h c l shared.agrees shared.mixed.lawful;
          covers = subst (λ (v : Inventory). Covers j n (inventory_after l c answer) v later) noted (call_covers sli j n h l u lanes later c shared.agrees fresh shared.covers leaves);
        });
        tick = subst (λ (x : HeapState). x.tick ≤ h.tick + 1) run.left (tick_kept sli level words most len region enough h c);
        served = (subst IsServed same (served_on answer (is_served sli level words most len region enough h c shared.mixed modest fresh)), tt);
      }

-- ---- what waits, after an entry

posted_left : (name : Name) (ps qs : List Post) → IsAmong name (posted ps) → IsAmong name (posted (ps ++ qs))
posted_left name [] qs a = absurd a
posted_left name (p ∷ ps) qs a = elim a [ inl same ↦ inl same | inr rest ↦ inr (posted_left name ps qs rest) ]

posted_right : (name : Name) (ps qs : List Post) → IsAmong name (posted qs) → IsAmong name (posted (ps ++ qs))
posted_right name [] qs a = a
posted_right name (p ∷ ps) qs a = inr (posted_right name ps qs a)

-- an entry of the heap's own worker takes no name out of a lane but that which it releases
own_leaves : {sli : ℕ} (j n capacity : ℕ) (made : List (Option Name)) (h g : HeapState) (lanes later : ℕ → List Post) (e : Entry) → e.worker ≡ j → Leads sli j n capacity made (side h lanes) e (side g later)
    → Leaves j lanes later (call_on_own made e.worker e.call e.reply)
own_leaves j n capacity made h g lanes later e own leads i ne name among =
    let none : posts_made i j made (e ∷ []) ≡ [] = told_other (λ e. post_of_release j made e.worker e.call e.reply) i e (λ q. ne (sym q ∙ own)) in
    let one : posts_taken i j (e ∷ []) ≡ cons_option (post_of_take i e.call e.reply) [] = told_own (λ e. post_of_take i e.call e.reply) j e own in
    let waits : lanes i ≡ cons_option (post_of_take i e.call e.reply) [] ++ later i
    = sym (append-nil (lanes i)) ∙ (sym (ap (λ l. lanes i ++ l) none) ∙ (leads.posts i ∙ ap (λ l. l ++ later i) one)) in
    on (post_of_take i e.call e.reply) refl (subst (λ (l : List Post). IsAmong name (posted l)) waits among)
  where
    on : (o : Option Post) → post_of_take i e.call e.reply ≡ o → IsAmong name (posted (cons_option o [] ++ later i))
        → IsAmong name (posted (later i)) ⊎ (call_on_own made e.worker e.call e.reply ≡ Some (heap.Release name))
    on None is a = inl a
    on (Some p) is a = elim a [
      | inl same ↦ inr (take_asks made i e.worker e.call e.reply p is ∙ ap (λ (m : Name). Some (heap.Release m)) same)
      | inr rest ↦ inl rest
    ]

-- an entry of another worker takes no name out of a lane
other_waits : {sli : ℕ} (j n capacity : ℕ) (made : List (Option Name)) (h g : HeapState) (lanes later : ℕ → List Post) (e : Entry) → e.worker ≢ j → Leads sli j n capacity made (side h lanes) e (side g later)
    → (i : ℕ) → later i ≡ lanes i ++ posts_made i j made (e ∷ [])
other_waits j n capacity made h g lanes later e other leads i =
    sym (leads.posts i ∙ ap (λ l. l ++ later i) (told_other (λ e. post_of_take i e.call e.reply) j e other))

-- and what it posts waits
other_covers : {sli : ℕ} (j n capacity : ℕ) (made : List (Option Name)) (h g : HeapState) (l u : Inventory) (lanes later : ℕ → List Post) (e : Entry) → e.worker ≢ j → Leads sli j n capacity made (side h lanes) e (side g later)
    → Covers j n l u lanes → Covers j n l (without_post u (post_of_release j made e.worker e.call e.reply)) later
other_covers j n capacity made h g l u lanes later e other leads covers name len found = at (post_of_release j made e.worker e.call e.reply) refl (covers name len found)
  where
    waits : (i : ℕ) → i ≢ j → IsAmong name (posted (lanes i)) → IsAmong name (posted (later i))
    waits i ne a = subst (λ (l : List Post). IsAmong name (posted l)) (sym (other_waits j n capacity made h g lanes later e other leads i)) (posted_left name (lanes i) _ a)

    new : (p : Post) → post_of_release j made e.worker e.call e.reply ≡ Some p → p.name ≡ name → WaitsFor j n later name
    new p is same =
        let one : posts_made e.worker j made (e ∷ []) ≡ p ∷ []
        = told_own (λ e. post_of_release j made e.worker e.call e.reply) e.worker e refl ∙ ap (λ (o : Option Post). cons_option o []) is in
        let here : later e.worker ≡ lanes e.worker ++ p ∷ [] = other_waits j n capacity made h g lanes later e other leads e.worker ∙ ap (λ l. lanes e.worker ++ l) one in
        (e.worker, leads.near p is, other, subst (λ (l : List Post). IsAmong name (posted l)) (sym here) (posted_right name (lanes e.worker) (p ∷ []) (inl same)))

    split : (p : Post) → post_of_release j made e.worker e.call e.reply ≡ Some p → (c : Bool) → is_same p.name name ≡ c → IsCovered j n u lanes name → IsCovered j n (without_post u (Some p)) later name
    split p is true same c = inr (new p is (same_is p.name name same))
    split p is false same c = stay_covered j n u (without_post u (Some p)) lanes later name
        (still_among p.name name u (λ q. false≢true (sym same ∙ subst (λ (x : Name). is_same p.name x ≡ true) q (same_self p.name)))) waits c

    at : (o : Option Post) → post_of_release j made e.worker e.call e.reply ≡ o → IsCovered j n u lanes name → IsCovered j n (without_post u o) later name
    at None is c = stay_covered j n u u lanes later name (λ a. a) waits c
    at (Some p) is c = split p is (is_same p.name name) refl c

-- ---- all entries

module _ (sli : ℕ) (level : IsLevel sli) (words most len : ℕ) (region : want len ≤ most_words sli) (capacity j m : ℕ) (j_in : j < m + 1) (enough : mixed_words sli (most + m * capacity) len ≤ words) (made : List (Option Name)) where
  abbrev n : ℕ
  n = suc m

  next : (h g : HeapState) (l u : Inventory) (lanes later : ℕ → List Post) (e : Entry) → IsShared j n words (want len + 3) h l u lanes → ((i : ℕ) → length (lanes i) ≤ capacity)
      → Leads sli j n capacity made (side h lanes) e (side g later) → IsSparing j most len u e → h.tick < heap.last_tick → Next j n words (want len + 3) h (unreleased_after j made u e) g later (answers_on j (e ∷ []))
  next h g l u lanes later e shared short leads sparing fresh = elim (cases_eq e.worker j) [
    | inl own ↦
        let o = call_on_own made e.worker e.call e.reply in
        let a = answer_told e.call e.reply in
        let calls : calls_on j made (e ∷ []) ≡ cons_option o [] = told_own (λ e. call_on_own made e.worker e.call e.reply) j e own in
        let answers : answers_on j (e ∷ []) ≡ cons_option a [] = told_own (λ e. answer_told e.call e.reply) j e own in
        let run : RunsTo sli h (cons_option o []) (cons_option a []) g = subst (λ c. RunsTo sli h c (cons_option a []) g) calls (subst (λ x. RunsTo sli h (calls_on j made (e ∷ [])) x g) answers leads.run) in
        let few = live_few j m capacity words (want len + 3) h l u lanes j_in short shared in
        let allocates : (x : ℕ) → o ≡ Some (heap.Allocate x) → (x ≤ len) × (live_count h < most + m * capacity)
        = λ x is. let s = (sparing own).0 x (allocate_asks made e.worker e.call e.reply x is) in (s.0, omega (arith, s.1, few)) in
        let resizes : (name : Name) (x : ℕ) → o ≡ Some (heap.Resize name x) → x ≤ len
        = λ name x is. let asks = resize_asks made e.worker e.call e.reply name x is in (sparing own).1 asks.0 x asks.1 in
        let test : unreleased_after j made u e ≡ with_call u o a = ap (λ (c : Bool). cond c (with_call u o a) (without_post u (post_of_release j made e.worker e.call e.reply))) (eq-eqb e.worker j own) in
        subst (λ (v : Inventory). Next j n words (want len + 3) h v g later (answers_on j (e ∷ []))) (sym test)
        (subst (λ x. Next j n words (want len + 3) h (with_call u o a) g later x) (sym answers)
        (own_next sli level words (most + m * capacity) len region enough j n h g l u lanes later o a run shared (own_leaves j n capacity made h g lanes later e own leads) (allocates, resizes) fresh))
    | inr other ↦
        let calls : calls_on j made (e ∷ []) ≡ [] = told_other (λ e. call_on_own made e.worker e.call e.reply) j e other in
        let answers : answers_on j (e ∷ []) ≡ [] = told_other (λ e. answer_told e.call e.reply) j e other in
        let same : h ≡ g = (subst (λ c. RunsTo sli h c (answers_on j (e ∷ [])) g) calls leads.run).left in
        let p = post_of_release j made e.worker e.call e.reply in
        let test : unreleased_after j made u e ≡ without_post u p = ap (λ (c : Bool). cond c (with_call u (call_on_own made e.worker e.call e.reply) (answer_told e.call e.reply)) (without_post u p)) (ne_eqb e.worker j other) in
        record {
          live = l;
          shared = subst (λ (v : Inventory). IsShared j n words (want len + 3) g l v later) (sym test) (subst (λ (x : HeapState). IsShared j n words (want len + 3) x l (without_post u p) later) same (record {
            mixed = shared.mixed;
            agrees = shared.agrees;
            covers = other_covers j n capacity made h g l u lanes later e other leads shared.covers;
          }));
          tick = subst (λ (x : HeapState). x.tick ≤ h.tick + 1) same (omega arith);
          served = subst (AllByRecursion IsServed) (sym answers) tt;
        }
  ]

  pub all_served : (es : List Entry) (h : HeapState) (l u : Inventory) (lanes : ℕ → List Post) → IsShared j n words (want len + 3) h l u lanes → ((i : ℕ) → length (lanes i) ≤ capacity)
      → AllLead sli j n capacity made h lanes es → AreSparing j most len made u es → h.tick + length es ≤ heap.last_tick → AllByRecursion IsServed (answers_on j es)
  all_served [] h l u lanes shared short lead sparing fresh = tt
  all_served (e ∷ es) h l u lanes shared short lead sparing fresh =
      let x = next h lead.0 l u lanes lead.1 e shared short lead.2 sparing.0 (omega arith) in
      let tick = x.tick in
      subst (AllByRecursion IsServed) (sym (told_then (λ e. answer_told e.call e.reply) j (e ∷ []) es))
      (all_append IsServed (answers_on j (e ∷ [])) (answers_on j es) x.served
      (all_served es lead.0 x.live (unreleased_after j made u e) lead.1 x.shared lead.2.short lead.3 sparing.1 (omega arith)))
