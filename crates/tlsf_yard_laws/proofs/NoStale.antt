-- A post that is taken finds its block live, where no name is given back twice.
use Rattle.tlsf_yard_laws.proofs.Common.{[], ◌∷◌, ◌++◌, ◌≡◌, ◌≢◌, ◌⊎◌, ℕ, ◌<◌, List, Option, Some, None, Ok, All, length, refl, sym, ap, ◌∙◌, subst, inl, inr, arith, append_assoc, length-append, AllByRecursion, cons_option, filter_map, option_map, cases_eq, cases_lt, All-take, Name, Post, Call, Allocate, Release, Write, Read, Resize, Take, Drain, Entry, Reply, Freed, Posted, Refused, Heap, Target, World, heap_in, name_of, StandsBehind, answer_told, call_on_own, entries_of, name_on_heap, post_of_release, posts_made, posts_taken, record_of, bytes_of, Carrier, IsRaceOver, IsLive, known, Taken, Took, own_post, ran_take, take_entry, HasItsAnswer, told_nothing, told_other, told_own, told_then, taken_then}
use Rattle.tlsf_heap.specs.Calls as heap
use Rattle.tlsf_crew.proofs.lemmas.histories.LaneCalls.{of_other, of_same}
use Rattle.std.proofs.Math.Seq.{take-append_seam}
use Rattle.tlsf_yard_laws.proofs.LivePosts.{SparesIn, entries_live}
use Rattle.tlsf_yard_laws.proofs.RaceRecords.{Away, each_answered, heap_between, posts_match, takes_none_of}
use Rattle.tlsf_yard_laws.proofs.Told.{no_name}
use Rattle.tlsf_yard_laws.specs.Posts.{GiveBackOnce, GivesBack, NoPostIsStale}

-- ---- the entry that tells what stands in a list

-- the entry of worker i that tells p, after those that tell `first`
record Found {B : Type 0} (f : Entry → Option B) (i : ℕ) (es : List Entry) (first : List B) (p : B) : Type 0 where
  before : List Entry
  e : Entry
  stands : StandsBehind es before e
  is : f e ≡ Some p
  own : e.worker ≡ i
  earlier : filter_map f (entries_of i before) ≡ first

shift : {B : Type 0} (f : Entry → Option B) (i : ℕ) (x : Entry) (es : List Entry) (here first : List B) (p : B) → filter_map f (entries_of i (x ∷ [])) ≡ here → Found f i es first p → Found f i (x ∷ es) (here ++ first) p
shift f i x es here first p told a = record {
  before = x ∷ a.before;
  e = a.e;
  stands = ((a.stands).0, ap (λ l. x ∷ l) (a.stands).1);
  is = a.is;
  own = a.own;
  earlier = told_then f i (x ∷ []) a.before ∙ (ap (λ l. l ++ filter_map f (entries_of i a.before)) told ∙ ap (λ l. here ++ l) a.earlier);
}

found : {B : Type 0} (f : Entry → Option B) (i : ℕ) (es : List Entry) (first later : List B) (p : B) → filter_map f (entries_of i es) ≡ first ++ p ∷ later → Found f i es first p
found {B} f i [] [] later p e = let q : ◌≡◌ {A = List B} [] (p ∷ later) = e in absurd cc
found {B} f i [] (a ∷ first) later p e = let q : ◌≡◌ {A = List B} [] (a ∷ (first ++ p ∷ later)) = e in absurd cc
found {B} f i (x ∷ es) first later p e = elim (cases_eq x.worker i) [
  | inl own ↦ here (f x) refl own (λ first e. found f i es first later p e) first e
  | inr ne ↦
      let none = told_other f i x ne in
      shift f i x es [] first p none (found f i es first later p (sym (told_then f i (x ∷ []) es ∙ ap (λ l. l ++ filter_map f (entries_of i es)) none) ∙ e))
]
  where
    here : (o : Option B) → f x ≡ o → x.worker ≡ i → ((first : List B) → filter_map f (entries_of i es) ≡ first ++ p ∷ later → Found f i es first p) → (first : List B) → filter_map f (entries_of i (x ∷ es)) ≡ first ++ p ∷ later → Found f i (x ∷ es) first p
    here None is own next first e =
        let none : filter_map f (entries_of i (x ∷ [])) ≡ [] = told_nothing f i x is in
        shift f i x es [] first p none (next first (sym (told_then f i (x ∷ []) es ∙ ap (λ l. l ++ filter_map f (entries_of i es)) none) ∙ e))
    here (Some q) is own next [] e =
        let one : filter_map f (entries_of i (x ∷ [])) ≡ q ∷ [] = told_own f i x own ∙ ap (λ o. cons_option o []) is in
        let list : q ∷ filter_map f (entries_of i es) ≡ p ∷ later = sym (told_then f i (x ∷ []) es ∙ ap (λ l. l ++ filter_map f (entries_of i es)) one) ∙ e in
        let same : q ≡ p = cc in
        record { before = []; e = x; stands = (es, refl); is = is ∙ ap Some same; own = own; earlier = refl }
    here (Some q) is own next (a ∷ first) e =
        let one : filter_map f (entries_of i (x ∷ [])) ≡ q ∷ [] = told_own f i x own ∙ ap (λ o. cons_option o []) is in
        let list : q ∷ filter_map f (entries_of i es) ≡ a ∷ (first ++ p ∷ later) = sym (told_then f i (x ∷ []) es ∙ ap (λ l. l ++ filter_map f (entries_of i es)) one) ∙ e in
        let same : q ≡ a = cc in
        let rest : filter_map f (entries_of i es) ≡ first ++ p ∷ later = cc in
        shift f i x es (a ∷ []) first p (one ∙ ap (λ y. y ∷ []) same) (next first rest)

-- what holds wherever an entry stands holds of all
all_standing : (P : Entry → Type 0) (es : List Entry) → ((b : List Entry) (e : Entry) → StandsBehind es b e → P e) → AllByRecursion P es
all_standing P [] each = tt
all_standing P (x ∷ es) each = (each [] x (es, refl), all_standing P es (λ b e stands. each (x ∷ b) e (stands.0, ap (λ l. x ∷ l) stands.1)))

-- ---- who posted what was taken

-- what an entry that posted for heap j tells
record Posts (j : ℕ) (made : List (Option Name)) (e : Entry) (name : Name) : Type 0 where
  gives : GivesBack made e name
  reply : e.reply ≡ Posted
  heap : name.heap ≡ j

named_post : (j i : ℕ) (made : List (Option Name)) (target : Target) (o : Option Name) (p : Post) → option_map (λ name. record { from = i; name = name }) (name_on_heap j o) ≡ Some p → (o ≡ Some p.name) × ((p.name).heap ≡ j)
named_post j i made target None p e = cc
named_post j i made target (Some name) p e = elim (cases_eq name.heap j) [
  | inl here ↦
      let q : ◌≡◌ {A = Option Post} (Some (record { from = i; name = name })) (Some p) = sym (ap (option_map (λ name. record { from = i; name = name })) (of_same j name here)) ∙ e in
      let same : record { from = i; name = name } ≡ p = cc in
      (ap (λ (p : Post). Some p.name) same, sym (ap (λ (p : Post). (p.name).heap) same) ∙ here)
  | inr ne ↦
      let q : ◌≡◌ {A = Option Post} None (Some p) = sym (ap (option_map (λ name. record { from = i; name = name })) (of_other j name ne)) ∙ e in
      absurd cc
]

post_gives : (j : ℕ) (made : List (Option Name)) (e : Entry) (p : Post) (call : Call) (reply : Reply) → e.call ≡ call → e.reply ≡ reply → post_of_release j made e.worker call reply ≡ Some p → Posts j made e p.name
post_gives j made e p (Release target) Posted c r is =
    let n = named_post j e.worker made target (name_of made target) p is in
    record { gives = record { target = target; call = c; means = n.0; reply = inr r }; reply = r; heap = n.1 }
post_gives j made e p call reply c r is = cc

-- the post that a take of worker j took, in its poster's record
record Poster {sli : ℕ} (w : World sli) (made : ℕ → List (Option Name)) (records : List (List Entry)) (j from : ℕ) (b : List Entry) (name : Name) : Type 0 where
  near : from < length w.heaps
  apart : from ≢ j
  before : List Entry
  e : Entry
  stands : StandsBehind (record_of records from) before e
  posts : Posts j (made from) e name
  earlier : posts_made from j (made from) before ≡ posts_taken from j b

no_post : (p : Post) (first later : List Post) → first ++ p ∷ later ≡ [] → ⊥
no_post p [] later e = cc
no_post p (x ∷ first) later e = cc

poster : {sli : ℕ} (carrier : Carrier) (w v : World sli) (scripts : List (List Call)) (made : ℕ → List (Option Name)) (records : List (List Entry)) → IsRaceOver carrier w scripts made records v → ((i j : ℕ) → w.waiting i j ≡ []) → (j : ℕ) (b : List Entry) (from : ℕ) (t : Took) → j < length w.heaps
    → StandsBehind (record_of records j) b (take_entry j from t) → Poster w made records j from b t.name
poster carrier w v scripts made records race empty j b from t j_in stands =
    let p : Post = record { from = t.from; name = t.name } in
    let first = posts_taken from j b in
    let later = posts_taken from j stands.0 in
    let all : posts_taken from j (record_of records j) ≡ first ++ p ∷ later
    = ap (posts_taken from j) stands.1 ∙ (taken_then from j b (take_entry j from t ∷ stands.0) ∙ ap (λ l. first ++ l) (own_post j from t stands.0)) in
    let reach : Away (length w.heaps) j from → ⊥ = λ far. no_post p first later (sym all ∙ takes_none_of carrier w v scripts made records race j from j_in far) in
    let apart : from ≢ j = λ e. reach (λ ne. absurd (ne e)) in
    let near : from < length w.heaps = elim (cases_lt from (length w.heaps)) [ inl lt ↦ lt | inr ge ↦ absurd (reach (λ _. ge)) ] in
    let posts : posts_made from j (made from) (record_of records from) ≡ first ++ p ∷ later
    = sym (ap (λ l. l ++ posts_made from j (made from) (record_of records from)) (empty from j)) ∙ (posts_match carrier w v scripts made records race from j near j_in apart ∙ all) in
    let f : Entry → Option Post = λ e. post_of_release j (made from) e.worker e.call e.reply in
    let a = found f from (record_of records from) first later p posts in
    record { near = near; apart = apart; before = a.before; e = a.e; stands = a.stands; posts = post_gives j (made from) a.e p (a.e).call (a.e).reply refl refl a.is; earlier = a.earlier }

-- ---- the block stays live

-- what an accepted release of the own heap tells: the worker freed the name, or took it
abbrev LetGo : List (Option Name) → Entry → Name → Type 0
LetGo made e name = ((target : Target) × (e.call ≡ Release target) × (name_of made target ≡ Some name) × (e.reply ≡ Freed)) ⊎ ((from : ℕ) × (t : Took) × (e.call ≡ Take from) × (e.reply ≡ Taken t) × (t.name ≡ name))

own_name : (j : ℕ) (o : Option Name) (own : Name) → option_map heap.Release (name_on_heap j o) ≡ Some (heap.Release own) → o ≡ Some own
own_name j None own e = cc
own_name j (Some name) own e = elim (cases_eq name.heap j) [
  | inl here ↦
      let q : ◌≡◌ {A = Option heap.Call} (Some (heap.Release name)) (Some (heap.Release own)) = sym (ap (option_map heap.Release) (of_same j name here)) ∙ e in
      let same : name ≡ own = cc in
      ap Some same
  | inr ne ↦ let q : ◌≡◌ {A = Option heap.Call} None (Some (heap.Release own)) = sym (ap (option_map heap.Release) (of_other j name ne)) ∙ e in absurd cc
]

let_go : (made : List (Option Name)) (e : Entry) (call : Call) (reply : Reply) (own : Name) → e.call ≡ call → e.reply ≡ reply → call_on_own made e.worker call reply ≡ Some (heap.Release own)
    → answer_told call reply ≡ Some (heap.Released (Ok tt)) → LetGo made e own
let_go made e (Release target) Freed own c r is told = inl (target, c, own_name e.worker (name_of made target) own is, r)
let_go made e (Release target) (Refused (Heap why)) own c r is told = cc
let_go made e (Release target) reply own c r is told = cc
let_go made e (Take from) (Taken t) own c r is told = let q : t.name ≡ own = cc in inr (from, t, c, r, q)
let_go made e (Take from) reply own c r is told = cc
let_go made e (Allocate len) reply own c r is told = cc
let_go made e (Write target from bytes) reply own c r is told = absurd (no_name _ (λ name. heap.Write name from (bytes_of bytes)) (heap.Release own) (λ name q. cc) is)
let_go made e (Read target from n) reply own c r is told = absurd (no_name _ (λ name. heap.Read name from n) (heap.Release own) (λ name q. cc) is)
let_go made e (Resize target len) reply own c r is told = absurd (no_name _ (λ name. heap.Resize name len) (heap.Release own) (λ name q. cc) is)
let_go made e (Drain most) reply own c r is told = cc

-- a later stretch has more posts
longer : (k j : ℕ) (b : List Entry) (c : List Entry) (t : Took) (rest : List Entry) → b ≡ c ++ take_entry j k t ∷ rest → posts_taken k j b ≢ posts_taken k j c
longer k j b c t rest e same =
    let all : posts_taken k j b ≡ posts_taken k j c ++ (record { from = t.from; name = t.name } ∷ posts_taken k j rest)
    = ap (posts_taken k j) e ∙ (taken_then k j c (take_entry j k t ∷ rest) ∙ ap (λ l. posts_taken k j c ++ l) (own_post j k t rest)) in
    let n = ap length all in
    let m = length-append (posts_taken k j c) (record { from = t.from; name = t.name } ∷ posts_taken k j rest) in
    let q = ap length same in
    absurd (omega (arith, n, m, q))

-- nobody let the name go before
spared : {sli : ℕ} (carrier : Carrier) (w v : World sli) (scripts : List (List Call)) (made : ℕ → List (Option Name)) (records : List (List Entry)) → IsRaceOver carrier w scripts made records v → ((i j : ℕ) → w.waiting i j ≡ []) → GiveBackOnce made records
    → (j : ℕ) (b : List Entry) (from : ℕ) (t : Took) → j < length w.heaps → (stands : StandsBehind (record_of records j) b (take_entry j from t)) → (c : List Entry) (e : Entry) → StandsBehind b c e → SparesIn j (made j) t.name e
spared carrier w v scripts made records race empty once j b from t j_in stands c e inside here own call answer is =
    let first = poster carrier w v scripts made records race empty j b from t j_in stands in
    let earlier : StandsBehind (record_of records j) c e
    = (inside.0 ++ take_entry j from t ∷ stands.0, stands.1 ∙ (ap (λ l. l ++ take_entry j from t ∷ stands.0) inside.1 ∙ append_assoc c (e ∷ inside.0) (take_entry j from t ∷ stands.0))) in
    elim (let_go (made j) e e.call e.reply own refl refl call answer) [
      | inl f ↦
          let back : GivesBack (made j) e t.name = record { target = f.0; call = f.1; means = f.2 ∙ ap Some is; reply = inl f.3 } in
          let same = once j from c first.before e first.e t.name earlier first.stands back (first.posts).gives in
          first.apart (sym same.0)
      | inr f ↦
          let u = f.1 in
          let entry : e ≡ take_entry j f.0 u = λ k. record { worker = here k; call = f.2 k; reply = f.3 k } in
          let there : StandsBehind (record_of records j) c (take_entry j f.0 u) = subst (StandsBehind (record_of records j) c) entry earlier in
          let second = poster carrier w v scripts made records race empty j c f.0 u j_in there in
          let gives : GivesBack (made f.0) second.e t.name = subst (λ (n : Name). GivesBack (made f.0) second.e n) (f.4 ∙ is) (second.posts).gives in
          let same = once from f.0 first.before second.before first.e second.e t.name first.stands second.stands (first.posts).gives gives in
          let k = f.0 in
          let posts : posts_taken k j b ≡ posts_taken k j c
          = subst (λ (i : ℕ). posts_taken i j b ≡ posts_made i j (made i) first.before) same.0 (sym first.earlier) ∙ (ap (posts_made k j (made k)) same.1 ∙ second.earlier) in
          longer k j b c u inside.0 (inside.1 ∙ ap (λ x. c ++ x ∷ inside.0) entry) posts
    ]

pub none_stale : (sli : ℕ) (carrier : Carrier) → NoPostIsStale sli carrier
none_stale sli carrier w v scripts made records race lawful empty alive once j b from t j_in stands stale =
    let own = made j in
    let p = poster carrier w v scripts made records race empty j b from t j_in stands in
    let start : IsLive (heap_in w j) t.name = subst (λ (k : ℕ). IsLive (heap_in w k) t.name) (p.posts).heap (alive from p.before p.e t.name p.stands (p.posts).gives (p.posts).reply) in
    let through = heap_between carrier w v scripts made records race b (take_entry j from t ∷ stands.0) j lawful.0 (lawful.1 j j_in) j_in stands.1 in
    let each : All (HasItsAnswer own (length w.heaps)) b
    = subst (All (HasItsAnswer own (length w.heaps))) (take-append_seam b (take_entry j from t ∷ stands.0))
    (All-take (HasItsAnswer own (length w.heaps)) (length b) (b ++ take_entry j from t ∷ stands.0) (subst (All (HasItsAnswer own (length w.heaps))) stands.1 (each_answered carrier w v scripts made records race j j_in))) in
    let spares = all_standing (SparesIn j own t.name) b (spared carrier w v scripts made records race empty once j b from t j_in stands) in
    let now : IsLive through.between t.name = entries_live lawful.0 (length w.heaps) j own t.name b (heap_in w j) through.between j_in (lawful.1 j j_in) start each spares through.first in
    let ran = ran_take through.between (heap_in v j) j from own t stands.0 through.rest in
    (known through.between t.name now).0 (sym ran.answer ∙ stale)
