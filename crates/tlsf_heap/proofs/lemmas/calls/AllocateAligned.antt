-- The results of the calls by which a block with an aligned payload is made.
use Rattle.tlsf_heap.proofs.Common.{◌≡◌, ◌≢◌, ℕ, suc, ◌+◌, ◌-◌, ◌*◌, ◌/◌, ◌%◌, ◌<◌, ◌≤◌, Bool, true, false, cond, nat_le, nat_lt, eqb, List, [], ◌∷◌, ◌++◌, length, take, drop, Option, Some, None, Result, Ok, Err, refl, sym, ap, ◌∙◌, subst, inl, inr, arith, append_assoc, eq-eqb, IsSome, eqb-true, false≢true, ne_eqb, nat_tests, add-mod-mod, add-mul-mod_self_right, mod-add-div', mod-lt, mod_self, IsLevel, HasRoomAt, words_from, gap_of, moved_by, moved_on, aligned_by, aligned_words, words_aligned, Block, Live, Free, HeapState, size_of, is_free, words_in, payload_words, StandsAt, Outcome, refused, is_worn, last_tick, carved, first_free, past_free, fitted, has_serial, is_named, named, with_blocks, allocated_at, allocated_words, released, resized_words, resized_at, refitted, room_of, with_bytes, NoneFits, payload_words_at, Site, is_fit, block_at, site_at, place_of, IsLawful, IsLive, IsFirst, Holds, HasPayload, with_payload, with_payload_at, Name, Refusal, NoFit, Worn, NoRoom, Fit, Give, GiveFrom, Take}
use Rattle.tlsf_heap.proofs.lemmas.calls.Alter.{named_of}
use Rattle.tlsf_heap.proofs.lemmas.calls.Allocate.{fits_size}
use Rattle.tlsf_heap.proofs.lemmas.blocks.Find.{and_left, and_right, not_true}
use Rattle.tlsf_heap.proofs.lemmas.laws.Lasting.{HasFrom, of_index, to_index, in_left, in_right, edited}
use Rattle.tlsf_heap.proofs.lemmas.laws.Live.{shown, lasts_named, lives, serial_of}
use Rattle.tlsf_heap.proofs.lemmas.calls.ResizeOrMove.{released_live}
use Rattle.tlsf_heap.proofs.lemmas.calls.Named.{named_is, named_stands, at_name}
use Rattle.tlsf_heap.proofs.lemmas.calls.Outcomes.{by_test, IsSiteOf, named_site, gives_words, by_allocated_words, by_words_from, resizes}
use Rattle.tlsf_heap.proofs.lemmas.words.Says.{named_here}
use Rattle.tlsf_heap.proofs.lemmas.words.Recut.{cut_large}
use Rattle.tlsf_heap.proofs.lemmas.lists.Refit.{refitted_cut}
use Rattle.tlsf_heap.proofs.lemmas.calls.Resize.{by_refitted}
use Rattle.tlsf_heap.proofs.lemmas.blocks.Sites.{choice_none}
use Rattle.tlsf_heap.proofs.lemmas.blocks.Around.{Around, around, around_next, stands_around, block_around, words_around}
use Rattle.tlsf_heap.proofs.lemmas.laws.Payloads.{holds, one_holds, stays, stays_run}
use Rattle.tlsf_heap.proofs.lemmas.laws.Payloads as steady

-- ---- a live block of n words or more

-- of this serial
abbrev pub Has : ℕ → ℕ → Block → Type 0
Has serial n (Live m own bytes) = (own ≡ serial) × (n ≤ m)
Has serial n (Free m s) = ⊥

-- the heap has one of this name
abbrev pub HasWords : HeapState → Name → ℕ → Type 0
HasWords h name n = (name.heap ≡ h.id) × HasFrom (Has name.serial n) name.at 0 h.blocks

weaker : (P Q : Block → Type 0) (at : ℕ) → ((b : Block) → P b → Q b) → (place : ℕ) (bs : List Block) → HasFrom P at place bs → HasFrom Q at place bs
weaker P Q at f place [] h = absurd h
weaker P Q at f place (b ∷ bs) h = elim h [ inl e ↦ inl (f b e.0, e.1) | inr t ↦ inr (weaker P Q at f (place + size_of b) bs t) ]

has_own : (serial n : ℕ) (b : Block) → Has serial n b → has_serial serial b ≡ true
has_own serial n (Live m own bytes) h = eq-eqb own serial h.0
has_own serial n (Free m s) h = absurd h

has_size : (serial n : ℕ) (b : Block) → Has serial n b → n ≤ size_of b
has_size serial n (Live m own bytes) h = h.1
has_size serial n (Free m s) h = absurd h

has_of : (serial n : ℕ) (b : Block) → has_serial serial b ≡ true → n ≤ size_of b → Has serial n b
has_of serial n (Live m own bytes) e room = (eqb-true own serial e, room)
has_of serial n (Free m s) e room = absurd (false≢true e)

has_none : (serial n m s : ℕ) → Has serial n (Free m s) → ⊥
has_none serial n m s h = h

-- so the name is live
pub has_live : (h : HeapState) (name : Name) (n : ℕ) → HasWords h name n → IsLive h name
has_live h name n has = shown h name has.0 (weaker (Has name.serial n) (λ b. has_serial name.serial b ≡ true) name.at (has_own name.serial n) 0 h.blocks has.1)

-- the block, by its index
pub record Stands (h : HeapState) (name : Name) (n i : ℕ) : Type 0 where
  pub stands : StandsAt h.blocks name.at i
  pub has : Has name.serial n (block_at h.blocks i)
  pub first : IsFirst name.at name.serial h.blocks i

pub stood : (h : HeapState) (name : Name) (n : ℕ) → IsLawful h → HasWords h name n → (i : ℕ) × Stands h name n i
stood h name n lawful has =
    let r = to_index (Has name.serial n) name.at 0 h.blocks has.1 in
    let s : StandsAt h.blocks name.at r.0 = record { within = r.1; place = omega (arith, r.2) } in
    (r.0, record { stands = s; has = r.3; first = named_here lawful.rooms name.serial s (has_own name.serial n (block_at h.blocks r.0) r.3) })

-- and its block has room for as much
pub has_room : (h : HeapState) (name : Name) (n : ℕ) → IsLawful h → HasWords h name n → n ≤ 3 + payload_words_at (named name h.blocks)
has_room h name n lawful has =
    let s = stood h name n lawful has in
    let is : payload_words_at (named name h.blocks) ≡ payload_words (block_at h.blocks s.0) = ap payload_words_at (named_is name h.blocks s.0 s.1.first) in
    omega (arith, is, has_size name.serial n (block_at h.blocks s.0) s.1.has)

pub room_has : (h : HeapState) (name : Name) (n : ℕ) → IsLive h name → 4 ≤ n → n ≤ 3 + payload_words_at (named name h.blocks) → HasWords h name n
room_has h name n live least room =
    let is_named = named_of h name live in
    let i = is_named.1.0 in
    let stands = named_stands name.at name.serial h.blocks i is_named.1.1 in
    let is : payload_words_at (named name h.blocks) ≡ payload_words (block_at h.blocks i) = ap payload_words_at (named_is name h.blocks i is_named.1.1) in
    let has = has_of name.serial n (block_at h.blocks i) (and_left _ _ is_named.1.1.here) (omega (arith, is, room, least)) in
    (live.0, of_index (Has name.serial n) name.at 0 h.blocks i stands.within (omega (arith, stands.place)) has)

-- ---- a block that is given

carved_has : (size n tick len place : ℕ) → n ≤ size → HasFrom (Has tick n) place place (carved size n tick len)
carved_has size n tick len place room =
    by_test (HasFrom (Has tick n) place place) (nat_le (n + 4) size) _ _ (λ _. inl ((refl, omega arith), refl)) (inl ((refl, room), refl))

-- where a free block was
carved_there : (front back : List Block) (size n tick len : ℕ) → n ≤ size → HasFrom (Has tick n) (words_in front) 0 (front ++ carved size n tick len ++ back)
carved_there front back size n tick len room =
    let P = Has tick n in
    let new : List Block = carved size n tick len in
    subst (HasFrom P (words_in front) 0) (sym (append_assoc front new back))
    (in_right P (words_in front) 0 front (new ++ back) (in_left P (words_in front) (0 + words_in front) new back (subst (λ (k : ℕ). HasFrom P (words_in front) k new) (omega arith) (carved_has size n tick len (words_in front) room))))

pub given_has : (sli : ℕ) → IsLevel sli → (h : HeapState) (n : ℕ) (name : Name) → (allocated_words sli h n 0).answer ≡ Ok name → HasWords (allocated_words sli h n 0).heap name n
given_has sli level h n name = by_allocated_words sli (λ o. o.answer ≡ Ok name → HasWords o.heap name n) h n 0 (λ why e. absurd cc) (λ s site fit e.
    let same : record { heap = h.id; at = place_of s; serial = h.tick } ≡ name = cc in
    subst (λ (given : Name). HasWords (gives_words h n 0 s).heap given n) same (refl, carved_there s.before s.after (size_of s.block) n h.tick 0 (fits_size sli level n s.block fit)))

-- ---- out of the free block at a place

pub from_has : (h : HeapState) (at n : ℕ) (name : Name) → (words_from h at n).answer ≡ Ok name → HasWords (words_from h at n).heap name n × (name.at ≡ at) × (name.serial ≡ h.tick) × ((words_from h at n).heap.tick ≡ h.tick + 1)
from_has h at n name = by_words_from (λ o. o.answer ≡ Ok name → HasWords o.heap name n × (name.at ≡ at) × (name.serial ≡ h.tick) × (o.heap.tick ≡ h.tick + 1)) h at n (λ why e. absurd cc) (λ s site is room e.
    let same : record { heap = h.id; at = place_of s; serial = h.tick } ≡ name = cc in
    let place : place_of s ≡ at = eqb-true _ _ (and_right (is_free s.block) _ is) in
    subst (λ (given : Name). HasWords (gives_words h n 0 s).heap given n × (given.at ≡ at) × (given.serial ≡ h.tick) × (h.tick + 1 ≡ h.tick + 1)) same
    ((refl, carved_there s.before s.after (size_of s.block) n h.tick 0 room), place, refl, refl))

-- ---- a block that shrinks

module _ (h : HeapState) (name : Name) (n m : ℕ) (lawful : IsLawful h) (has : HasWords h name m) (shorter : n ≤ m) (fresh : h.tick ≢ last_tick) where
  abbrev s : (i : ℕ) × Stands h name m i
  s = stood h name m lawful has

  abbrev i : ℕ
  i = s.0

  abbrev b : Block
  b = block_at h.blocks i

  pub shrinks : resized_words h name n 0 ≡ resizes h n 0 (site_at h.blocks i)
  shrinks =
      let size = has_size name.serial m b s.1.has in
      let roomy : nat_lt (room_of b (drop (suc i) h.blocks)) n ≡ false = grind (arith, nat_tests) in
      at_name h name (resized_at h n 0) (refused h) has.0 i s.1.first
      ∙ ap (λ (t : Bool). cond t (refused h NoRoom) (cond (is_worn h) (refused h Worn) (resizes h n 0 (site_at h.blocks i)))) roomy
      ∙ ap (λ (t : Bool). cond t (refused h Worn) (resizes h n 0 (site_at h.blocks i))) (ne_eqb h.tick last_tick fresh)

  pub shrinks_ok : (resized_words h name n 0).answer ≡ Ok tt
  shrinks_ok = ap (λ (o : Outcome (Unit {0})). o.answer) shrinks

  pub shrinks_tick : (resized_words h name n 0).heap.tick ≡ h.tick + 1
  shrinks_tick = ap (λ (o : Outcome (Unit {0})). o.heap.tick) shrinks

  refitted_has : (c : Block) (back : List Block) (at : ℕ) → Has name.serial m c → HasFrom (Has name.serial n) at at (refitted h.tick n 0 c back)
  refitted_has (Free k t) back at own = absurd own
  refitted_has (Live k t xs) back at own =
      by_refitted (HasFrom (Has name.serial n) at at) h.tick n 0 k t xs back (omega (arith, own.1, shorter)) (λ enough. inl ((own.0, enough), refl)) (inl ((own.0, omega (arith, own.1, shorter)), refl)) (λ large. inl ((own.0, omega arith), refl))

  -- it has this many words then
  pub shrinks_has : HasWords (resized_words h name n 0).heap name n
  shrinks_has =
      subst (λ (o : Outcome (Unit {0})). HasWords o.heap name n) (sym shrinks)
      (has.0, in_right (Has name.serial n) name.at 0 (take i h.blocks) (refitted h.tick n 0 b (drop (suc i) h.blocks)) (subst (λ (k : ℕ). HasFrom (Has name.serial n) name.at k (refitted h.tick n 0 b (drop (suc i) h.blocks))) (omega (arith, s.1.stands.place)) (refitted_has b (drop (suc i) h.blocks) name.at s.1.has)))

  -- and the others are free after it
  module _ (r : ℕ) (rest : n + r ≤ m) (least : 4 ≤ r) where
    cut_off : (front : List Block) (c : Block) (back : List Block) (at j : ℕ) → length front ≡ j → words_in front ≡ at → Has name.serial m c → HasRoomAt (front ++ refitted h.tick n 0 c back) (at + n) r
    cut_off front (Free k t) back at j long place own = absurd own
    cut_off front (Live k t xs) back at j long place own =
        let large : n + 4 ≤ k = omega (arith, own.1, rest, least) in
        let room = k + first_free back in
        let is : refitted h.tick n 0 (Live k t xs) back ≡ (Live n t (fitted xs 0) ∷ Free (room - n) h.tick ∷ []) ++ past_free back =
        refitted_cut h.tick n 0 (Live k t xs) back large ∙ ap (λ (l : List Block). l ++ past_free back) (cut_large room n h.tick t (fitted xs 0) (omega (arith, large))) in
        let a : Around (front ++ refitted h.tick n 0 (Live k t xs) back) at j front (Live n t (fitted xs 0)) (Free (room - n) h.tick ∷ past_free back) = record { is = ap (λ (l : List Block). front ++ l) is; before = long; place = place } in
        let next = around_next a in
        (j + 1, record { stands = stands_around next; free = ap is_free (block_around next) }, omega (arith, ap size_of (block_around next), own.1, rest))

    pub rest_there : HasRoomAt (resized_words h name n 0).heap.blocks (name.at + n) r
    rest_there =
        let a = around h.blocks name.at i s.1.stands in
        subst (λ (o : Outcome (Unit {0})). HasRoomAt o.heap.blocks (name.at + n) r) (sym shrinks) (cut_off (take i h.blocks) b (drop (suc i) h.blocks) name.at i a.before a.place s.1.has)

-- ---- a release of another

one : (name : Name) (n a : ℕ) (b : Block) → has_serial a b ≡ true → Has name.serial n b → a ≡ name.serial
one name n a (Live m t xs) e own = sym (eqb-true t a e) ∙ own.0
one name n a (Free m t) e own = absurd own

pub released_has : (h : HeapState) (other name : Name) (n : ℕ) → other.serial ≢ name.serial → HasWords h name n → HasWords (released h other).heap name n
released_has h other name n differ = lasts_named (Has name.serial n) name (has_none name.serial n) (one name n) 0 h (Take other) (inl (λ same. differ (ap (λ (m : Name). m.serial) same)))

-- ---- a block that is moved on, step by step

-- it ends in the region
pub has_within : (h : HeapState) (name : Name) (n : ℕ) → IsLawful h → HasWords h name n → name.at + n ≤ h.words
has_within h name n lawful has =
    let s = stood h name n lawful has in
    let size = has_size name.serial n (block_at h.blocks s.0) s.1.has in
    omega (arith, words_around (around h.blocks name.at s.0 s.1.stands), size, lawful.whole)

module _ (h : HeapState) (name : Name) (gap n : ℕ) (lawful : IsLawful h) (has : HasWords h name (gap + n)) (least : 4 ≤ n) (left : h.tick + 2 < last_tick) where
  fresh : h.tick ≢ last_tick
  fresh worn = omega (arith, worn, left)

  -- a shrink isn't refused
  pub shrink_done : (why : Refusal) (k : ℕ) → k ≤ gap + n → Err why ≡ (resized_words h name k 0).answer → ⊥
  shrink_done why k shorter e = let bad : ◌≡◌ {A = Result (Unit {0}) Refusal} (Err why) (Ok tt) = e ∙ shrinks_ok h name k (gap + n) lawful has shorter fresh in cc

  -- nor is what lies after the gap
  pub from_done_there : (k : HeapState) → k ≡ (resized_words h name gap 0).heap → HasRoomAt k.blocks (name.at + gap) n × ¬ (k.tick ≡ last_tick)
  from_done_there k same = subst (λ (s : HeapState). HasRoomAt s.blocks (name.at + gap) n × ¬ (s.tick ≡ last_tick)) (sym same) (
    rest_there h name gap (gap + n) lawful has (omega arith) fresh n (omega arith) least,
    λ worn. omega (arith, worn, left, shrinks_tick h name gap (gap + n) lawful has (omega arith) fresh),
  )

  -- and the words of the gap can be released then
  pub moved_left : (m : HeapState) (new : Name) → m ≡ (words_from (resized_words h name gap 0).heap (name.at + gap) n).heap → Ok new ≡ (words_from (resized_words h name gap 0).heap (name.at + gap) n).answer → IsLive m name × (m.tick ≢ last_tick)
  moved_left m new same given =
      let k = (resized_words h name gap 0).heap in
      let there = words_from k (name.at + gap) n in
      let kept = shrinks_has h name gap (gap + n) lawful has (omega arith) fresh in
      let still : HasWords there.heap name gap = lasts_named (Has name.serial gap) name (has_none name.serial gap) (one name gap) 0 k (GiveFrom (name.at + gap) n) (inl tt) kept in
      let ticks = (from_has k (name.at + gap) n new (sym given)).3 in
      subst (λ (s : HeapState). IsLive s name × (s.tick ≢ last_tick)) (sym same)
      (has_live there.heap name gap still, λ worn. omega (arith, worn, left, ticks, shrinks_tick h name gap (gap + n) lawful has (omega arith) fresh))

  pub moved_done : (m : HeapState) (why : Refusal) (new : Name) → m ≡ (words_from (resized_words h name gap 0).heap (name.at + gap) n).heap → Ok new ≡ (words_from (resized_words h name gap 0).heap (name.at + gap) n).answer → Err why ≡ (released m name).answer → ⊥
  moved_done m why new same given e =
      let l = moved_left m new same given in
      let bad : ◌≡◌ {A = Result (Unit {0}) Refusal} (Err why) (Ok tt) = e ∙ released_live m name l.0 l.1 in cc

-- ---- a name that is given, and the payloads of the others

-- a live name is older than the tick
old_serial : (h : HeapState) (name : Name) → IsLawful h → IsLive h name → name.serial < h.tick
old_serial h name lawful live = serial_of name.at name.serial (λ x. x < h.tick) 0 h.blocks lawful.serials_past (lives h name live)

held_live : (h : HeapState) (name : Name) (bytes : List ℕ) → HasPayload h name bytes → IsLive h name
held_live h name bytes held =
    shown h name held.0 (weaker (Holds name.serial bytes) (λ b. has_serial name.serial b ≡ true) name.at own 0 h.blocks (steady.has name bytes h held))
  where
    own : (b : Block) → Holds name.serial bytes b → has_serial name.serial b ≡ true
    own (Live m s xs) h = eq-eqb s name.serial h.0
    own (Free m s) h = absurd h

-- heap k has the block of a name that h hasn't, and the payloads of h
pub record Gives (h k : HeapState) (name : Name) (n : ℕ) : Type 0 where
  pub has : HasWords k name n
  pub later : h.tick ≤ name.serial
  pub others : (other : Name) (bytes : List ℕ) → HasPayload h other bytes → HasPayload k other bytes

-- once it has its payload
module _ (h k : HeapState) (name : Name) (n : ℕ) (gives : Gives h k name n) (lawful : IsLawful h) (bytes : List ℕ) (new : HeapState) (is : new ≡ with_payload k name bytes) where
  set : (P : HeapState → Type 0) → ((s : Site) → IsSiteOf k.blocks s → is_named name.at name.serial s ≡ true → P (with_blocks k (s.before ++ with_bytes s.block bytes ∷ s.after))) → P new
  set P done = subst P (sym is) (found (named name k.blocks) refl (has_live k name n gives.has).1)
    where
      found : (o : Option Site) → named name k.blocks ≡ o → IsSome o → P (with_payload_at k bytes o)
      found None e some = absurd (false≢true some)
      found (Some s) e some = let site = named_site name k.blocks s e in done s site.0 site.1

  pub gives_payload : HasPayload new name bytes
  gives_payload = set (λ m. HasPayload m name bytes) (λ s site named.
      let place : words_in s.before ≡ name.at = eqb-true _ _ (and_right (has_serial name.serial s.block) _ named) in
      holds name bytes (with_blocks k (s.before ++ with_bytes s.block bytes ∷ s.after)) gives.has.0
      (in_right (Holds name.serial bytes) name.at 0 s.before (with_bytes s.block bytes ∷ s.after) (inl (mine s.block (and_left _ _ named), omega (arith, place)))))
    where
      mine : (b : Block) → has_serial name.serial b ≡ true → Holds name.serial bytes (with_bytes b bytes)
      mine (Live m s xs) e = (eqb-true s name.serial e, refl)
      mine (Free m s) e = absurd (false≢true e)

  pub gives_name : IsLive new name × ¬ (IsLive h name)
  gives_name = (held_live new name bytes gives_payload, λ live. let past = old_serial h name lawful live in let later = gives.later in omega (arith, past, later))

  pub gives_others : (other : Name) (held : List ℕ) → HasPayload h other held → HasPayload new other held
  gives_others other held was =
      let kept = gives.others other held was in
      let differ : other.serial ≢ name.serial = λ e. let past = old_serial h other lawful (held_live h other held was) in let later = gives.later in omega (arith, past, later, e) in
      set (λ m. HasPayload m other held) (λ s site named.
      holds other held (with_blocks k (s.before ++ with_bytes s.block bytes ∷ s.after)) kept.0
      (edited (Holds other.serial held) other.at 0 s.before (s.block ∷ []) (with_bytes s.block bytes ∷ []) s.after (as_many s.block)
      (λ j l. elim l [ inl e ↦ absurd (differ (sym (one_holds other held name.serial s.block (and_left _ _ named) e.0))) | inr nothing ↦ absurd nothing ]) (subst (HasFrom (Holds other.serial held) other.at 0) (sym site) (steady.has other held k kept))))
    where
      as_many : (b : Block) → size_of b + 0 ≡ size_of (with_bytes b bytes) + 0
      as_many (Live m s xs) = refl
      as_many (Free m s) = refl

pub from_gives : (h : HeapState) (at n : ℕ) (name : Name) → Ok name ≡ (words_from h at n).answer → Gives h (words_from h at n).heap name n
from_gives h at n name e =
    let given = from_has h at n name (sym e) in
    record { has = given.0; later = omega (arith, given.2); others = λ other bytes held. stays 0 h other bytes (GiveFrom at n) tt held }

-- ---- the gap in front of it

-- to the next multiple
up : (a step : ℕ) → 0 < step → (a + (step - a % step) % step) % step ≡ 0
up a step some =
    let low = mod-lt a some in
    let whole = mod-add-div' a step in
    let next : a + (step - a % step) ≡ step + a / step * step = omega (arith, low, whole) in
    add-mod-mod a (step - a % step) step ∙ ap (λ (n : ℕ). n % step) next ∙ add-mul-mod_self_right step (a / step) step ∙ mod_self step

-- it is none or at least four words, at most three more than a step, and aligns the payload behind it
pub gap_fits : (at step skew : ℕ) → 0 < step → (0 < gap_of at step skew → 4 ≤ gap_of at step skew) × (gap_of at step skew ≤ step + 3) × ((at + gap_of at step skew + 3 + skew) % step ≡ 0)
gap_fits at step skew some =
    let far = 4 + (step - (at + 7 + skew) % step) % step in
    by_test (λ gap. (0 < gap → 4 ≤ gap) × (gap ≤ step + 3) × ((at + gap + 3 + skew) % step ≡ 0)) (eqb ((at + 3 + skew) % step) 0) 0 far
    (λ t. let here = eqb-true ((at + 3 + skew) % step) 0 t in let same : at + 0 + 3 + skew ≡ at + 3 + skew = omega arith in (λ more. absurd (omega (arith, more)), omega arith, ap (λ (n : ℕ). n % step) same ∙ here))
    (let low = mod-lt (step - (at + 7 + skew) % step) some in let same : at + far + 3 + skew ≡ (at + 7 + skew) + (step - (at + 7 + skew) % step) % step = omega arith in (λ more. omega arith, omega (arith, low), ap (λ (n : ℕ). n % step) same ∙ up (at + 7 + skew) step some))

-- ---- the whole call

-- nothing fits a request for more words than the region has
pub none_fits : (sli : ℕ) → IsLevel sli → (h : HeapState) (n : ℕ) → IsLawful h → h.words < n → NoneFits sli n h.blocks
none_fits sli level h n lawful past i within = not_true (is_fit sli n (block_at h.blocks i)) (λ fit.
    let room = fits_size sli level n (block_at h.blocks i) fit in
    let ends = words_around (around h.blocks (words_in (take i h.blocks)) i (record { within = within; place = refl })) in
    omega (arith, room, ends, lawful.whole, past))

has_less : (h : HeapState) (name : Name) (n m : ℕ) → m ≤ n → HasWords h name n → HasWords h name m
has_less h name n m less has = (has.0, weaker (Has name.serial n) (Has name.serial m) name.at fewer 0 h.blocks has.1)
  where
    fewer : (b : Block) → Has name.serial n b → Has name.serial m b
    fewer (Live k s xs) h = (h.0, omega (arith, h.1, less))
    fewer (Free k s) h = absurd h

pub first_given : (sli : ℕ) (h : HeapState) (n : ℕ) (name : Name) → Ok name ≡ (allocated_words sli h n 0).answer → (name.serial ≡ h.tick) × ((allocated_words sli h n 0).heap.tick ≡ h.tick + 1) × ((allocated_words sli h n 0).heap.words ≡ h.words)
first_given sli h n name = by_allocated_words sli (λ o. Ok name ≡ o.answer → (name.serial ≡ h.tick) × (o.heap.tick ≡ h.tick + 1) × (o.heap.words ≡ h.words)) h n 0 (λ why e. absurd cc) (λ s site fit e. (cc, refl, refl))

pub by_gap : (P : Outcome Name → Type 0) (h : HeapState) (name : Name) (gap n : ℕ) → (gap ≡ 0 → P (record { answer = Ok name; heap = (resized_words h name n 0).heap })) → (0 < gap → P (moved_by h name gap n)) → P (moved_on h name gap n)
by_gap P h name gap n stay go = on (eqb gap 0) refl
  where
    on : (b : Bool) → eqb gap 0 ≡ b → P (cond b (record { answer = Ok name; heap = (resized_words h name n 0).heap }) (moved_by h name gap n))
    on true e = stay (eqb-true gap 0 e)
    on false e = let some : 0 < gap = grind (arith, nat_tests) in go some

module _ (sli : ℕ) (level : IsLevel sli) (h : HeapState) (n step skew : ℕ) (lawful : IsLawful h) where
  abbrev asked : Outcome Name
  asked = allocated_words sli h (aligned_words n step) 0

  pub aligned_worn : last_tick ≤ h.tick + 3 → words_aligned sli h n step skew ≡ refused h Worn
  aligned_worn worn =
      let t : nat_le last_tick (h.tick + 3) ≡ true = grind (arith, nat_tests) in
      ap (λ (b : Bool). cond b (refused h Worn) (aligned_by h n step skew asked.answer asked.heap)) t

  module _ (left : h.tick + 3 < last_tick) where
    aligned_fresh : words_aligned sli h n step skew ≡ aligned_by h n step skew asked.answer asked.heap
    aligned_fresh =
        let t : nat_le last_tick (h.tick + 3) ≡ false = grind (arith, nat_tests) in
        ap (λ (b : Bool). cond b (refused h Worn) (aligned_by h n step skew asked.answer asked.heap)) t

    pub aligned_refused : (why : Refusal) → Err why ≡ asked.answer → words_aligned sli h n step skew ≡ refused h why
    aligned_refused why e = aligned_fresh ∙ ap (λ (r : Result Name Refusal). aligned_by h n step skew r asked.heap) (sym e)

    pub aligned_past : h.words < aligned_words n step → words_aligned sli h n step skew ≡ refused h NoFit
    aligned_past past = aligned_refused NoFit (sym (ap (λ (o : Option Site). (allocated_at h (aligned_words n step) 0 o).answer) (choice_none sli (aligned_words n step) h.blocks (none_fits sli level h (aligned_words n step) lawful past))))

    -- a request gave this name
    module _ (some : 0 < step) (least : 4 ≤ n) (first : Name) (given : Ok first ≡ asked.answer) (asked_lawful : IsLawful asked.heap) where
      abbrev gap : ℕ
      gap = gap_of first.at step skew

      pub aligned_is : words_aligned sli h n step skew ≡ moved_on asked.heap first gap n
      aligned_is = aligned_fresh ∙ ap (λ (r : Result Name Refusal). aligned_by h n step skew r asked.heap) (sym given)

      pub first_has : HasWords asked.heap first (gap + n)
      first_has = has_less asked.heap first (aligned_words n step) (gap + n) (omega (arith, (gap_fits first.at step skew some).1)) (given_has sli level h (aligned_words n step) first (sym given))

      other_than_first : (other : Name) (bytes : List ℕ) → HasPayload h other bytes → first ≢ other
      other_than_first other bytes held same =
          let past = old_serial h other lawful (held_live h other bytes held) in
          omega (arith, past, ap (λ (name : Name). name.serial) same, (first_given sli h (aligned_words n step) first given).0)

      -- and so does the call
      pub aligned_gives : (name : Name) → Ok name ≡ (moved_on asked.heap first gap n).answer → Gives h (moved_on asked.heap first gap n).heap name n × (name.at ≡ first.at + gap)
      aligned_gives name =
          let k = asked.heap in
          let made = first_given sli h (aligned_words n step) first given in
          let fresh : k.tick ≢ last_tick = λ worn. omega (arith, worn, made.1, left) in
          by_gap (λ o. Ok name ≡ o.answer → Gives h o.heap name n × (name.at ≡ first.at + gap)) k first gap n
          (λ none e.
          let same : first ≡ name = cc in
          subst (λ (m : Name). Gives h (resized_words k first n 0).heap m n × (m.at ≡ first.at + gap)) same (
            record {
              has = shrinks_has k first n (gap + n) asked_lawful first_has (omega arith) fresh;
              later = omega (arith, made.0);
              others = λ other bytes held. stays_run sli h other bytes (Give (aligned_words n step) 0 ∷ Fit first n 0 ∷ []) (tt, (other_than_first other bytes held, tt)) held;
            },
            omega (arith, none),
          ))
          (λ some e.
          let r = (resized_words k first gap 0).heap in
          let there = words_from r (first.at + gap) n in
          let came = from_has r (first.at + gap) n name (sym e) in
          let ticks = shrinks_tick k first gap (gap + n) asked_lawful first_has (omega arith) fresh in (
            record {
              has = released_has there.heap first name n (λ same. omega (arith, same, made.0, came.2, ticks, made.1)) came.0;
              later = omega (arith, came.2, ticks, made.1);
              others = λ other bytes held.
                  let differ = other_than_first other bytes held in
                  stays_run sli h other bytes (Give (aligned_words n step) 0 ∷ Fit first gap 0 ∷ GiveFrom (first.at + gap) n ∷ Take first ∷ []) (tt, (differ, (tt, (differ, tt)))) held;
            },
            came.1,
          ))

-- the first block, with room for a gap and the words wanted
pub record IsMovable (h a : HeapState) (first : Name) (n step skew gap : ℕ) : Type 0 where
  pub has : HasWords a first (gap + n)
  pub front : 0 < gap → 4 ≤ gap
  pub left : a.tick + 2 < last_tick
  pub words : a.words ≡ h.words

-- heap m has the block that the call gives, but for its payload
pub record IsAligned (sli : ℕ) (h m : HeapState) (n step skew : ℕ) (name : Name) : Type 0 where
  pub gives : Gives h m name n
  pub place : (name.at + 3 + skew) % step ≡ 0
  pub is_answer : Ok name ≡ (words_aligned sli h n step skew).answer
  pub is_heap : m ≡ (words_aligned sli h n step skew).heap

module _ (sli : ℕ) (level : IsLevel sli) (h : HeapState) (n step skew : ℕ) (lawful : IsLawful h) (left : h.tick + 3 < last_tick) (some : 0 < step) (least : 4 ≤ n)
    (a : HeapState) (first : Name) (gap : ℕ) (made : a ≡ (allocated_words sli h (aligned_words n step) 0).heap) (given : Ok first ≡ (allocated_words sli h (aligned_words n step) 0).answer) (asked_lawful : IsLawful a) (is_gap : gap ≡ gap_of first.at step skew) where
  was_lawful : IsLawful (allocated_words sli h (aligned_words n step) 0).heap
  was_lawful = subst IsLawful made asked_lawful

  pub first_moves : IsMovable h a first n step skew gap
  first_moves =
      let facts = first_given sli h (aligned_words n step) first given in
      rw (made, is_gap) (record {
        has = first_has sli level h n step skew lawful left some least first given was_lawful;
        front = (gap_fits first.at step skew some).0;
        left = omega (arith, left, facts.1);
        words = facts.2;
      })

  pub first_moved : (m : HeapState) (name : Name) → m ≡ (moved_on a first gap n).heap → Ok name ≡ (moved_on a first gap n).answer → IsAligned sli h m n step skew name
  first_moved m name is_heap is_answer =
      let whole = aligned_is sli level h n step skew lawful left some least first given was_lawful in
      let heap = (rw (made, is_gap) at is_heap) in
      let answer = (rw (made, is_gap) at is_answer) in
      let facts = aligned_gives sli level h n step skew lawful left some least first given was_lawful name answer in
      let fits = (gap_fits first.at step skew some).2 in
      let same : name.at + 3 + skew ≡ first.at + gap_of first.at step skew + 3 + skew = omega (arith, facts.1) in
      record {
        gives = subst (λ (s : HeapState). Gives h s name n) (sym heap) facts.0;
        place = ap (λ (k : ℕ). k % step) same ∙ fits;
        is_answer = subst (λ (o : Outcome Name). Ok name ≡ o.answer) (sym whole) answer;
        is_heap = subst (λ (o : Outcome Name). m ≡ o.heap) (sym whole) heap;
      }
