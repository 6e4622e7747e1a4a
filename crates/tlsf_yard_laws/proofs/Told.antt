-- Answers as they are handed on tell the same of what is held and of bytes.
use Rattle.tlsf_yard_laws.proofs.Common.{◌≡◌, ◌≢◌, ℕ, ◌+◌, ◌<◌, ◌≤◌, List, Option, Some, option_map, [], ◌∷◌, length, map, None, Ok, Err, refl, sym, ap, ◌∙◌, subst, arith, AllByRecursion, IsLevel, most_words, HeapState, want, IsRegion, Name, mixed_words, AreModest, HasRoomFor, IsServed, Inventory, inventory_after, Contents, contents, after, after_all, World, heap_in, replies, RunsTo, calls_on, answers_on, handed_on, Carrier, live_count, held_after, held_after_all, serves, suffices, told_new, Event, replies_tell, runs_then, NewHasNoPast, RaceAddsToPast, RaceHoldsWhatIsLive, RaceKeepsBytes, RaceMixedSizesServe, RaceMixedSizesSuffice, ReplayAddsToPast}
use Rattle.tlsf_heap.specs.Calls.{Call, Read, Answer, Got, last_tick, opened, run}
use Rattle.tlsf_pool.proofs.lemmas.laws.Held.{holds}
use Rattle.tlsf_yard_laws.proofs.RaceRecords.{heap_runs, heaps_stay}
use Rattle.tlsf_yard_laws.specs.Yards.{IsNew, YardHoldsWhatIsLive, YardKeepsBytes, YardMixedSizesServe, YardMixedSizesSuffice}

held_same : (held : ℕ) (call : Call) (answer : Answer) → held_after held call (handed_on answer) ≡ held_after held call answer
held_same held call (Got (Err why)) = refl
held_same held (Read name at n) (Got (Ok bytes)) = refl
held_same held call answer = refl

all_held : (held : ℕ) (calls : List Call) (answers : List Answer) → held_after_all held calls (map handed_on answers) ≡ held_after_all held calls answers
all_held held [] answers = refl
all_held held (call ∷ calls) [] = refl
all_held held (call ∷ calls) (answer ∷ answers) =
    ap (λ (n : ℕ). held_after_all n calls (map handed_on answers)) (held_same held call answer) ∙ all_held (held_after held call answer) calls answers

modest : (most len held : ℕ) (calls : List Call) (answers : List Answer) → AreModest most len held calls (map handed_on answers) → AreModest most len held calls answers
modest most len held [] answers m = m
modest most len held (call ∷ calls) [] m = m
modest most len held (call ∷ calls) (answer ∷ answers) m =
    (m.0, modest most len (held_after held call answer) calls answers (subst (λ (n : ℕ). AreModest most len n calls (map handed_on answers)) (held_same held call answer) m.1))

room_same : (answer : Answer) → HasRoomFor answer → HasRoomFor (handed_on answer)
room_same (Got (Ok bytes)) room = λ e. cc
room_same answer room = room

-- what holds of answers holds of them as they are handed on
all_handed : (P : Answer → Type 0) → ((answer : Answer) → P answer → P (handed_on answer)) → (answers : List Answer) → AllByRecursion P answers → AllByRecursion P (map handed_on answers)
all_handed P same [] all = tt
all_handed P same (answer ∷ answers) all = (same answer all.0, all_handed P same answers all.1)

after_same : (bytes : Contents) (call : Call) (answer : Answer) → after bytes call (handed_on answer) ≡ after bytes call answer
after_same bytes call (Got (Err why)) = refl
after_same bytes (Read name at n) (Got (Ok xs)) = refl
after_same bytes call answer = refl

all_after : (bytes : Contents) (calls : List Call) (answers : List Answer) → after_all bytes calls (map handed_on answers) ≡ after_all bytes calls answers
all_after bytes [] answers = refl
all_after bytes (call ∷ calls) [] = refl
all_after bytes (call ∷ calls) (answer ∷ answers) =
    ap (λ (b : Contents). after_all b calls (map handed_on answers)) (after_same bytes call answer) ∙ all_after (after bytes call answer) calls answers

-- an answer as it is handed on serves, and is noted in an inventory, as the heap's own
pub served_on : (answer : Answer) → IsServed answer → IsServed (handed_on answer)
served_on (Got (Ok bytes)) s = tt
served_on answer s = s

pub noted_same : (l : Inventory) (call : Call) (answer : Answer) → inventory_after l call (handed_on answer) ≡ inventory_after l call answer
noted_same l call (Got (Err why)) = refl
noted_same l (Read name at n) (Got (Ok bytes)) = refl
noted_same l call answer = refl

-- none of the calls by a name that a function gives is this one
pub no_name : (o : Option Name) (f : Name → Call) (call : Call) → ((name : Name) → f name ≢ call) → option_map f o ≡ Some call → ⊥
no_name None f call other e = cc
no_name (Some name) f call other e = let q : f name ≡ call = cc in other name q

-- ---- what a heap that was new once was asked, and what it answered

pub past_suffices : {sli : ℕ} (level : IsLevel sli) (j words first most len : ℕ) (calls : List Call) (answers : List Answer) (g : HeapState) → RunsTo sli (opened j words first) calls answers g
    → IsRegion sli words → want len ≤ most_words sli → mixed_words sli most len ≤ words → AreModest most len 0 calls answers → AllByRecursion HasRoomFor answers
past_suffices {sli} level j words first most len calls answers g runs region class enough within =
    let own : List Answer = (run sli (opened j words first) calls).0 in
    subst (AllByRecursion HasRoomFor) runs.told
    (all_handed HasRoomFor room_same own (suffices sli level j words first most len calls region class enough (modest most len 0 calls own (subst (AreModest most len 0 calls) (sym runs.told) within))))

pub past_serves : {sli : ℕ} (level : IsLevel sli) (j words first most len : ℕ) (calls : List Call) (answers : List Answer) (g : HeapState) → RunsTo sli (opened j words first) calls answers g
    → IsRegion sli words → want len ≤ most_words sli → mixed_words sli most len ≤ words → AreModest most len 0 calls answers → first + length calls < last_tick → AllByRecursion IsServed answers
past_serves {sli} level j words first most len calls answers g runs region class enough within fresh =
    let own : List Answer = (run sli (opened j words first) calls).0 in
    subst (AllByRecursion IsServed) runs.told
    (all_handed IsServed served_on own (serves sli level j words first most len calls region class enough (modest most len 0 calls own (subst (AreModest most len 0 calls) (sym runs.told) within)) fresh))

pub past_holds : {sli : ℕ} (j words first : ℕ) (calls : List Call) (answers : List Answer) (g : HeapState) → RunsTo sli (opened j words first) calls answers g → 4 ≤ words
    → live_count g ≡ held_after_all 0 calls answers
past_holds {sli} j words first calls answers g runs four =
    let own : List Answer = (run sli (opened j words first) calls).0 in
    ap live_count (sym runs.left) ∙ (holds sli j words first calls four
    ∙ (sym (all_held 0 calls own) ∙ ap (λ (answers : List Answer). held_after_all 0 calls answers) runs.told))

pub past_bytes : {sli : ℕ} (level : IsLevel sli) (j words first : ℕ) (calls : List Call) (answers : List Answer) (g : HeapState) (name : Name) → RunsTo sli (opened j words first) calls answers g → 4 ≤ words
    → contents g name ≡ after_all (λ other. None) calls answers name
past_bytes {sli} level j words first calls answers g name runs four =
    let own : List Answer = (run sli (opened j words first) calls).0 in
    ap (λ (h : HeapState). contents h name) (sym runs.left) ∙ (told_new sli level j words first calls name four
    ∙ (ap (λ (bytes : Contents). bytes name) (sym (all_after (λ other. None) calls own))
    ∙ ap (λ (answers : List Answer). after_all (λ other. None) calls answers name) runs.told))

-- ---- lists of events

-- the history of a new heap of a yard
history : {sli : ℕ} (w : World sli) (es : List Event) (j words first : ℕ) → IsNew w j words first
    → let r = replies w es in RunsTo sli (opened j words first) (calls_on j r.made r.entries) (answers_on j r.entries) (heap_in r.world j)
history {sli} w es j words first is =
    let r = replies w es in
    subst (λ (h : HeapState). RunsTo sli h (calls_on j r.made r.entries) (answers_on j r.entries) (heap_in r.world j)) is.new ((replies_tell w es).history.heaps j is.within)

pub never_refuses : (sli : ℕ) → IsLevel sli → YardMixedSizesSuffice sli
never_refuses sli level w es j words first most len is region class enough within =
    past_suffices level j words first most len _ _ _ (history w es j words first is) region class enough within

pub yard_serves : (sli : ℕ) → IsLevel sli → YardMixedSizesServe sli
yard_serves sli level w es j words first most len is region class enough within fresh =
    past_serves level j words first most len _ _ _ (history w es j words first is) region class enough within fresh

pub holds_live : (sli : ℕ) → YardHoldsWhatIsLive sli
holds_live sli w es j words first is four = past_holds j words first _ _ _ (history w es j words first is) four

pub keeps_bytes : (sli : ℕ) → IsLevel sli → YardKeepsBytes sli
keeps_bytes sli level w es j words first name is four = past_bytes level j words first _ _ _ name (history w es j words first is) four

-- ---- races

pub new_past : (sli : ℕ) → NewHasNoPast sli
new_past sli w j words first is = record { within = is.within; since = record { told = refl; left = sym is.new } }

pub replay_past : (sli : ℕ) → ReplayAddsToPast sli
replay_past sli w es j words first calls answers past =
    let r = replies w es in
    let history = (replies_tell w es).history in
    record { within = omega (arith, past.within, history.count); since = runs_then _ _ _ calls _ answers _ past.since (history.heaps j past.within) }

pub race_past : (sli : ℕ) (carrier : Carrier) → RaceAddsToPast sli carrier
race_past sli carrier w v scripts made records race j words first calls answers past = record {
  within = omega (arith, past.within, heaps_stay carrier w v scripts made records race);
  since = runs_then _ _ _ calls _ answers _ past.since (heap_runs carrier w v scripts made records race j past.within);
}

pub race_suffices : (sli : ℕ) (carrier : Carrier) → IsLevel sli → RaceMixedSizesSuffice sli carrier
race_suffices sli carrier level w v scripts made records race j words first most len calls answers past region class enough within =
    past_suffices level j words first most len _ _ _ (race_past sli carrier w v scripts made records race j words first calls answers past).since region class enough within

pub race_serves : (sli : ℕ) (carrier : Carrier) → IsLevel sli → RaceMixedSizesServe sli carrier
race_serves sli carrier level w v scripts made records race j words first most len calls answers past region class enough within fresh =
    past_serves level j words first most len _ _ _ (race_past sli carrier w v scripts made records race j words first calls answers past).since region class enough within fresh

pub race_holds : (sli : ℕ) (carrier : Carrier) → RaceHoldsWhatIsLive sli carrier
race_holds sli carrier w v scripts made records race j words first calls answers past four =
    past_holds j words first _ _ _ (race_past sli carrier w v scripts made records race j words first calls answers past).since four

pub race_bytes : (sli : ℕ) (carrier : Carrier) → IsLevel sli → RaceKeepsBytes sli carrier
race_bytes sli carrier level w v scripts made records race j words first calls answers name past four =
    past_bytes level j words first _ _ _ name (race_past sli carrier w v scripts made records race j words first calls answers past).since four
