-- The results of the calls that fill nothing.
use Rattle.tlsf_heap.proofs.Common.{◌≡◌, ◌≢◌, ℕ, suc, ◌+◌, ◌-◌, ◌<◌, ◌≤◌, true, List, [], ◌∷◌, ◌++◌, length, take, drop, min, replicate, Option, Some, None, Ok, refl, sym, ap, ◌∙◌, subst, inl, inr, arith, length-append, length-drop, length-take-le, IsSome, AllByRecursion, false≢true, eqb-true, cases_lt, append-nil, take-append-le, take-append-drop, drop_all, length-replicate, IsLevel, bytes_in, payload_byte, AreDistinct, Block, Live, Free, HeapState, size_of, bytes_of, payload_words, serials, want, words_for, Release, Write, carved, allocated, overwritten, released, written, allocated_words, has_serial, named, first_free, past_free, fitted, refitted, resized, resized_words, room_of, with_blocks, payload_words_at, Site, block_at, is_fit, Image, Shows, bytes_at, payload_of, IsLawful, IsLive, copied, lying, unset_from, with_payload, Name, Give, Take, cut}
use Rattle.std.proofs.Math.Seq.{take-length, drop-append_seam}
use Rattle.tlsf_heap.proofs.lemmas.calls.Allocate.{split_at}
use Rattle.tlsf_heap.proofs.lemmas.calls.Alter.{first_bytes, named_of, payload_is}
use Rattle.tlsf_heap.proofs.lemmas.blocks.Replace.{carved_small, carved_large}
use Rattle.tlsf_heap.proofs.lemmas.blocks.Find.{and_left}
use Rattle.tlsf_heap.proofs.lemmas.words.NewBytes.{length-fitted, fitted_less}
use Rattle.tlsf_heap.proofs.lemmas.laws.Gone.{distinct_from}
use Rattle.tlsf_heap.proofs.lemmas.blocks.Lawful.{all_append, all_left, all_right, serials-append}
use Rattle.tlsf_heap.proofs.lemmas.laws.Live.{given_words, kept_others, kept_resized, lives, serial_of}
use Rattle.tlsf_heap.proofs.lemmas.calls.ResizeOrMove.{ticks}
use Rattle.tlsf_heap.proofs.lemmas.calls.Outcomes.{lawful_run, lawful_allocated_words, lawful_resized_words, lawful_site, named_site, by_allocated_words, by_resized_found}
use Rattle.tlsf_heap.proofs.lemmas.words.Bytes.{length-bytes_in, bytes_among}
use Rattle.tlsf_heap.proofs.lemmas.calls.OtherBytes.{rebyted, resized_answers, resized_rebyted, with_payload_rebyted, written_rebyted, only_one, live_rebyted, payload_rebyted, payload_other, rebyted_same, released_rebyted, rebytes-twice}
use Rattle.tlsf_heap.proofs.lemmas.calls.Resize.{by_refitted}

-- ---- what holds of each block of a serial

module _ (P : Block → Type 0) (serial : ℕ) where
  -- each block of this serial has it
  abbrev pub OfSerial : Block → Type 0
  OfSerial b = has_serial serial b ≡ true → P b

  others : (bs : List Block) → AllByRecursion (λ y. y ≢ serial) (serials bs) → AllByRecursion OfSerial bs
  others [] all = tt
  others (Live m s xs ∷ bs) all = (λ is. absurd (all.0 (eqb-true s serial is)), others bs all.1)
  others (Free m s ∷ bs) all = (λ is. absurd (false≢true is), others bs all)

  past_others : (bs : List Block) → AllByRecursion OfSerial bs → AllByRecursion OfSerial (past_free bs)
  past_others [] all = tt
  past_others (Live m s xs ∷ bs) all = all
  past_others (Free m s ∷ bs) all = all.1

  -- so has the block of a live name
  pub of_name : (h : HeapState) (name : Name) → name.serial ≡ serial → IsLive h name → AllByRecursion OfSerial h.blocks → (s : Site) × (named name h.blocks ≡ Some s) × P s.block
  of_name h name same live all = found (named name h.blocks) refl live.1
    where
      found : (o : Option Site) → named name h.blocks ≡ o → IsSome o → (s : Site) × (o ≡ Some s) × P s.block
      found None e some = absurd (false≢true some)
      found (Some s) e some =
          let site = named_site name h.blocks s e in
          let here = all_right OfSerial s.before (s.block ∷ s.after) (subst (AllByRecursion OfSerial) (sym site.0) all) in
          (s, refl, here.0 (subst (λ (k : ℕ). has_serial k s.block ≡ true) same (and_left (has_serial name.serial s.block) _ site.1)))

pub past_of : (k : ℕ) (xs : List ℕ) → AllByRecursion (λ y. y < k) xs → AllByRecursion (λ y. y ≢ k) xs
past_of k [] all = tt
past_of k (x ∷ xs) all = (λ e. let below = all.0 in omega (arith, below, e), past_of k xs all.1)

-- the block that an allocate gave has what a block of the words wanted and one of all the words found have
pub given_block : (P : Block → Type 0) (sli : ℕ) (h : HeapState) (n len : ℕ) (name : Name) → IsLawful h → (allocated_words sli h n len).answer ≡ Ok name
    → P (Live n h.tick (replicate len 0)) → ((b : Block) → is_fit sli n b ≡ true → P (Live (size_of b) h.tick (replicate len 0)))
    → (s : Site) × (named name (allocated_words sli h n len).heap.blocks ≡ Some s) × P s.block
given_block P sli h n len name lawful answer cut whole =
    of_name P h.tick (allocated_words sli h n len).heap name
    (by_allocated_words sli (λ o. o.answer ≡ Ok name → name.serial ≡ h.tick) h n len (λ why e. cc) (λ s site fit e. cc) answer)
    (given_words sli h n len name answer)
    (by_allocated_words sli (λ o. o.answer ≡ Ok name → AllByRecursion (OfSerial P h.tick) o.heap.blocks) h n len (λ why e. cc) (λ s site fit e.
    let apart = subst (AllByRecursion (λ y. y ≢ h.tick)) (ap serials (sym site) ∙ serials-append s.before (s.block ∷ s.after)) (past_of h.tick (serials h.blocks) lawful.serials_past) in
    let front = others P h.tick s.before (all_left (λ y. y ≢ h.tick) (serials s.before) (serials (s.block ∷ s.after)) apart) in
    let these = others P h.tick (s.block ∷ s.after) (all_right (λ y. y ≢ h.tick) (serials s.before) (serials (s.block ∷ s.after)) apart) in
    let size = size_of s.block in
    let new : AllByRecursion (OfSerial P h.tick) (carved size n h.tick len) = elim (cases_lt size (n + 4)) [
      | inl small ↦ subst (AllByRecursion (OfSerial P h.tick)) (sym (carved_small size n h.tick len small)) (λ is. whole s.block fit, tt)
      | inr large ↦ subst (AllByRecursion (OfSerial P h.tick)) (sym (carved_large size n h.tick len large)) (λ is. cut, (λ is. absurd (false≢true is), tt))
    ] in
    all_append (OfSerial P h.tick) (s.before ++ carved size n h.tick len) s.after (all_append (OfSerial P h.tick) s.before (carved size n h.tick len) front new) these.1) answer)

-- the block that a resize left has what a block of its serial and of no fewer words has
pub left_block : (P : Block → Type 0) (h : HeapState) (name : Name) (n len : ℕ) → IsLawful h → (resized_words h name n len).answer ≡ Ok tt → IsLive (resized_words h name n len).heap name
    → ((k : ℕ) → n ≤ k → P (Live k name.serial (fitted (payload_of h name) len)))
    → (s : Site) × (named name (resized_words h name n len).heap.blocks ≡ Some s) × P s.block
left_block P h name n len lawful answer live has =
    of_name P name.serial (resized_words h name n len).heap name refl live
    (by_resized_found (λ o. o.answer ≡ Ok tt → AllByRecursion (OfSerial P name.serial) o.heap.blocks) h name n len (λ why e. cc) (λ s own found room e.
    let site = named_site name h.blocks s found in
    here s.block s.before s.after (ap bytes_at found) (and_left (has_serial name.serial s.block) _ site.1) room (lawful_site h s site.0 lawful)) answer)
  where
    here : (b : Block) (front back : List Block) → payload_of h name ≡ bytes_of b → has_serial name.serial b ≡ true → n ≤ room_of b back → IsLawful (with_blocks h (front ++ b ∷ back)) → AllByRecursion (OfSerial P name.serial) (front ++ refitted h.tick n len b back)
    here (Free m t) front back payload is room whole = absurd (false≢true is)
    here (Live m t xs) front back payload is room whole =
        let same : t ≡ name.serial = eqb-true t name.serial is in
        let apart = distinct_from t (serials front) (serials back) (subst AreDistinct (serials-append front (Live m t xs ∷ back)) whole.serials_differ) in
        let ahead = others P name.serial front (subst (λ (k : ℕ). AllByRecursion (λ y. y ≢ k) (serials front)) same apart.0) in
        let behind = others P name.serial back (subst (λ (k : ℕ). AllByRecursion (λ y. y ≢ k) (serials back)) same apart.1) in
        let one : (k : ℕ) → n ≤ k → P (Live k t (fitted xs len)) = λ k enough. subst (λ (u : ℕ). P (Live k u (fitted xs len))) (sym same) (subst (λ (ys : List ℕ). P (Live k name.serial (fitted ys len))) payload (has k enough)) in
        all_append (OfSerial P name.serial) front (refitted h.tick n len (Live m t xs) back) ahead
        (by_refitted (AllByRecursion (OfSerial P name.serial)) h.tick n len m t xs back room
        (λ enough. (λ _. one m enough, behind))
        (λ _. one (m + first_free back) room, past_others P name.serial back behind)
        (λ large. (λ _. one n (omega arith), (λ no. absurd (false≢true no), past_others P name.serial back behind))))

-- ---- bytes that lie there

-- where a payload has this many bytes, a write of those that lie there leaves the first, and no other
pub unset_is : (h : HeapState) (name : Name) (m : Image) (from len : ℕ) → IsLawful h → IsLive h name → from ≤ len → len ≡ length (payload_of h name)
    → unset_from h name m from len ≡ rebyted name.serial (take from (payload_of h name) ++ drop from (lying m name.at len)) h
unset_is h name m from len lawful live within many =
    let bytes = drop from (lying m name.at len) in
    let long : length bytes ≡ len - from = length-drop from (lying m name.at len) ∙ ap (λ (k : ℕ). k - from) (length-bytes_in m.words (payload_byte name.at 0) len) in
    written_rebyted h name from bytes lawful live (omega (arith, long, many))
    ∙ ap (λ (l : List ℕ). rebyted name.serial (take from (payload_of h name) ++ bytes ++ l) h) (drop_all (from + length bytes) (payload_of h name) (omega (arith, long, many)))
    ∙ ap (λ (l : List ℕ). rebyted name.serial l h) (append-nil (take from (payload_of h name) ++ bytes))

-- the payload that an allocate gives has this many bytes
pub given_length : (sli : ℕ) (h : HeapState) (n len : ℕ) (name : Name) → IsLawful h → (allocated_words sli h n len).answer ≡ Ok name → length (payload_of (allocated_words sli h n len).heap name) ≡ len
given_length sli h n len name lawful answer =
    let found = given_block (λ b. length (bytes_of b) ≡ len) sli h n len name lawful answer (length-replicate {A = ℕ} len 0) (λ b fit. length-replicate {A = ℕ} len 0) in
    ap (λ (o : Option Site). length (bytes_at o)) found.1 ∙ found.2

-- the first of those that lie there
lying_less : (m : Image) (at len n : ℕ) → n ≤ len → take n (lying m at len) ≡ lying m at n
lying_less m at len n fewer =
    sym (bytes_among m.words (payload_byte at 0) len 0 n (omega arith)) ∙ (let same : payload_byte at 0 + 0 ≡ payload_byte at 0 = omega arith in ap (λ (k : ℕ). bytes_in m.words k n) same)

-- a resize to the bytes that stay, and then to those that lie there
module _ (h : HeapState) (name : Name) (len kept : ℕ) (lawful : IsLawful h) (live : IsLive h name) (least : kept ≡ min (length (payload_of h name)) len) (answer : (resized_words h name (want len) kept).answer ≡ Ok tt) where
  abbrev shorter : HeapState
  shorter = (resized_words h name (want len) kept).heap

  pub shorter_lives : IsLive shorter name
  shorter_lives = kept_resized h name name (want len) kept live

  pub left_answer : (resized h name len).answer ≡ Ok tt
  left_answer = sym (resized_answers h name (want len) kept len) ∙ answer

  pub left_room : words_for len ≤ 3 + payload_words_at (named name shorter.blocks)
  left_room =
      let found = left_block (λ b. words_for len ≤ 3 + payload_words b) h name (want len) kept lawful answer shorter_lives (λ k enough. omega (arith, enough)) in
      omega (arith, ap payload_words_at found.1, found.2)

  pub resized_unset : (before m : Image) → Shows before shorter.blocks → lying m name.at len ≡ lying before name.at len → with_payload shorter name (lying m name.at len) ≡ unset_from (resized h name len).heap name m kept len
  resized_unset before m shows lies =
      let bytes = payload_of h name in
      let all = lying m name.at len in
      let long : HeapState = (resized h name len).heap in
      let held = left_block (λ b. bytes_of b ≡ fitted bytes kept) h name (want len) kept lawful answer shorter_lives (λ k enough. refl) in
      let short_is : payload_of shorter name ≡ fitted bytes kept = ap bytes_at held.1 ∙ held.2 in
      let many : kept ≡ length (payload_of shorter name) = sym (length-fitted bytes kept) ∙ ap length (sym short_is) in
      let lies_there : take kept all ≡ fitted bytes kept =
      ap (take kept) lies ∙ lying_less before name.at len kept (omega (arith, least)) ∙ first_bytes shorter shorter name kept refl shows shorter_lives (omega (arith, many))
      ∙ ap (λ (k : ℕ). take k (payload_of shorter name)) many ∙ take-length (payload_of shorter name) ∙ short_is in
      let long_lives = kept_resized h name name (want len) len live in
      let grown = left_block (λ b. bytes_of b ≡ fitted bytes len) h name (want len) len lawful left_answer long_lives (λ k enough. refl) in
      let long_is : payload_of long name ≡ fitted bytes len = ap bytes_at grown.1 ∙ grown.2 in
      let first : take kept (payload_of long name) ≡ take kept all = ap (take kept) long_is ∙ fitted_less bytes len kept (omega (arith, least)) (omega (arith, least)) ∙ sym lies_there in
      let short_lawful = lawful_resized_words h name (want len) kept (omega (arith, least)) lawful in
      let long_lawful = lawful_resized_words h name (want len) len (omega arith) lawful in
      with_payload_rebyted shorter name all short_lawful shorter_lives
      ∙ resized_rebyted h name (want len) kept len all
      ∙ ap (λ (l : List ℕ). rebyted name.serial l long) (sym (take-append-drop kept all) ∙ ap (λ (l : List ℕ). l ++ drop kept all) (sym first))
      ∙ sym (unset_is long name m kept len long_lawful long_lives (omega (arith, least)) (sym (length-fitted bytes len) ∙ ap length (sym long_is)))

-- ---- a move

-- the payload of a live name stays through an allocate
payload_given : (sli : ℕ) (h : HeapState) (n len : ℕ) (name : Name) → IsLawful h → IsLive h name → payload_of (allocated_words sli h n len).heap name ≡ payload_of h name
payload_given sli h n len name lawful live =
    let P : Block → Type 0 = λ b. bytes_of b ≡ payload_of h name in
    let All : List Block → Type 0 = AllByRecursion (OfSerial P name.serial) in
    let is_named = named_of h name live in
    let i = is_named.1.0 in
    let apart = only_one h name lawful is_named in
    let whole = split_at h.blocks i is_named.1.1.within in
    let here : All h.blocks = subst All (sym whole)
    (all_append (OfSerial P name.serial) (take i h.blocks) (block_at h.blocks i ∷ drop (suc i) h.blocks) (others P name.serial (take i h.blocks) apart.0) (λ is. sym (payload_is h name is_named), others P name.serial (drop (suc i) h.blocks) apart.1)) in
    let past = serial_of name.at name.serial (λ x. x < h.tick) 0 h.blocks lawful.serials_past (lives h name live) in
    let found = of_name P name.serial (allocated_words sli h n len).heap name refl (kept_others sli h name (Give n len) tt live)
    (by_allocated_words sli (λ o. All o.heap.blocks) h n len (λ why. here) (λ s site fit.
    let old : All (s.before ++ s.block ∷ s.after) = subst All (sym site) here in
    let no : (k : ℕ) → OfSerial P name.serial (Live k h.tick (replicate len 0)) = λ k is. let same = eqb-true h.tick name.serial is in absurd (omega (arith, same, past)) in
    let size = size_of s.block in
    let new : All (carved size n h.tick len) = elim (cases_lt size (n + 4)) [
      | inl small ↦ subst All (sym (carved_small size n h.tick len small)) (no size, tt)
      | inr large ↦ subst All (sym (carved_large size n h.tick len large)) (no n, (λ is. absurd (false≢true is), tt))
    ] in
    all_append (OfSerial P name.serial) (s.before ++ carved size n h.tick len) s.after
    (all_append (OfSerial P name.serial) s.before (carved size n h.tick len) (all_left (OfSerial P name.serial) s.before (s.block ∷ s.after) old) new) (all_right (OfSerial P name.serial) s.before (s.block ∷ s.after) old).1)) in
    ap bytes_at found.1 ∙ found.2

module _ (sli : ℕ) (h : HeapState) (name new : Name) (len : ℕ) (level : IsLevel sli) (lawful : IsLawful h) (live : IsLive h name) (answer : (allocated sli h len).answer ≡ Ok new) where
  -- the heap behind the request, and that without the old block
  abbrev given : HeapState
  given = (allocated sli h len).heap

  abbrev rest : HeapState
  rest = (released given name).heap

  abbrev some : ℕ
  some = min (length (payload_of h name)) len

  given_lawful : IsLawful given
  given_lawful = lawful_allocated_words sli level h (want len) len (omega arith) lawful

  old_given : IsLive given name
  old_given = kept_others sli h name (Give (want len) len) tt live

  new_given : IsLive given new
  new_given = given_words sli h (want len) len new answer

  differ : name.serial ≢ new.serial
  differ same =
      let is : new.serial ≡ h.tick = by_allocated_words sli (λ o. o.answer ≡ Ok new → new.serial ≡ h.tick) h (want len) len (λ why e. cc) (λ s site fit e. cc) answer in
      let past = serial_of name.at name.serial (λ x. x < h.tick) 0 h.blocks lawful.serials_past (lives h name live) in omega (arith, same, is, past)

  -- a copy onto any bytes, and the release behind it
  copies : (bytes : List ℕ) → length bytes ≡ len → IsLawful (rebyted new.serial bytes given)
      → (released (copied (rebyted new.serial bytes given) name new).heap name).heap ≡ rebyted new.serial (take some (payload_of h name) ++ drop some bytes) rest
  copies bytes many fine =
      let held = payload_of h name in
      let k = rebyted new.serial bytes given in
      let from : payload_of k name ≡ held = payload_other new.serial bytes given name differ old_given ∙ payload_given sli h (want len) len name lawful live in
      let to : payload_of k new ≡ bytes = payload_rebyted given new bytes new_given in
      let piece = take some held in
      let long : length piece ≡ some = length-take-le some held (omega arith) in
      let both : min (length (payload_of k name)) (length (payload_of k new)) ≡ some = omega (arith, ap length from, ap length to, many) in
      let lives_there = live_rebyted new.serial bytes given new new_given in
      let is : (written k new 0 piece).heap ≡ rebyted new.serial (piece ++ drop some bytes) given =
      written_rebyted k new 0 piece fine lives_there (omega (arith, ap length to, many, long))
      ∙ ap (λ (l : List ℕ). rebyted new.serial (overwritten l 0 piece) k) to
      ∙ (let past : 0 + length piece ≡ some = omega (arith, long) in ap (λ (n : ℕ). rebyted new.serial (piece ++ drop n bytes) k) past)
      ∙ ap (with_blocks given) (rebytes-twice new.serial bytes (piece ++ drop some bytes) given.blocks) in
      ap (λ (n : ℕ). (released (written k new 0 (take n (payload_of k name))).heap name).heap) both
      ∙ ap (λ (l : List ℕ). (released (written k new 0 (take some l)).heap name).heap) from
      ∙ ap (λ (s : HeapState). (released s name).heap) is
      ∙ released_rebyted new.serial (piece ++ drop some bytes) given name

  new_left : IsLive rest new
  new_left = kept_others sli given new (Take name) (λ same. differ (ap (λ (n : Name). n.serial) same)) new_given

  -- the heap after a request that fills nothing
  first_is : (before : Image) (first : HeapState) → first ≡ unset_from given new before 0 len → first ≡ rebyted new.serial (lying before new.at len) given
  first_is before first is = is ∙ unset_is given new before 0 len given_lawful new_given (omega arith) (sym (given_length sli h (want len) len new lawful answer))

  pub first_lives : (before : Image) (first : HeapState) → first ≡ unset_from given new before 0 len → IsLive first name × IsLive first new × (first.tick ≡ h.tick + 1)
  first_lives before first is =
      let bytes = lying before new.at len in
      subst (λ (s : HeapState). IsLive s name × IsLive s new × (s.tick ≡ h.tick + 1)) (sym (first_is before first is))
      (live_rebyted new.serial bytes given name old_given, live_rebyted new.serial bytes given new new_given, ticks sli h name len new (sym answer) live)

  pub first_holds : (before : Image) (first : HeapState) → first ≡ unset_from given new before 0 len → (length (payload_of first name) ≡ length (payload_of h name)) × (length (payload_of first new) ≡ len)
  first_holds before first is =
      let bytes = lying before new.at len in
      subst (λ (s : HeapState). (length (payload_of s name) ≡ length (payload_of h name)) × (length (payload_of s new) ≡ len)) (sym (first_is before first is))
      (ap length (payload_other new.serial bytes given name differ old_given ∙ payload_given sli h (want len) len name lawful live), ap length (payload_rebyted given new bytes new_given) ∙ length-bytes_in before.words (payload_byte new.at 0) len)

  -- a move, and then to those that lie there
  pub moved_unset : (before m : Image) (first final : HeapState) → first ≡ unset_from given new before 0 len → IsLawful first → final ≡ (released (copied first name new).heap name).heap → Shows m final.blocks
      → final ≡ unset_from (released (copied given name new).heap name).heap new m some len
  moved_unset before m first final first_unset first_lawful is shows =
      let held = payload_of h name in
      let piece = take some held in
      let long : length piece ≡ some = length-take-le some held (omega arith) in
      let given_many = given_length sli h (want len) len new lawful answer in
      let lay = lying before new.at len in
      let first_as = first_is before first first_unset in
      let lay_many = length-bytes_in before.words (payload_byte new.at 0) len in
      let bytes = piece ++ drop some lay in
      let final_is : final ≡ rebyted new.serial bytes rest = is ∙ ap (λ (s : HeapState). (released (copied s name new).heap name).heap) first_as ∙ copies lay lay_many (subst IsLawful first_as first_lawful) in
      let many : length bytes ≡ len = omega (arith, length-append piece (drop some lay), long, length-drop some lay, lay_many) in
      let final_new : IsLive final new = subst (λ (s : HeapState). IsLive s new) (sym final_is) (live_rebyted new.serial bytes rest new new_left) in
      let final_payload : payload_of final new ≡ bytes = ap (λ (s : HeapState). payload_of s new) final_is ∙ payload_rebyted rest new bytes new_left in
      let lies = lying m new.at len in
      let lies_is : lies ≡ bytes = first_bytes final final new len refl shows final_new (omega (arith, ap length final_payload, many)) ∙ ap (take len) final_payload ∙ ap (λ (k : ℕ). take k bytes) (sym many) ∙ take-length bytes in
      let tail : drop some lies ≡ drop some lay = ap (drop some) lies_is ∙ ap (λ (k : ℕ). drop k bytes) (sym long) ∙ drop-append_seam piece (drop some lay) in
      let move = (released (copied given name new).heap name).heap in
      let old_bytes = payload_of given new in
      let made = piece ++ drop some old_bytes in
      let same = rebyted_same given new given_lawful new_given in
      let move_is : move ≡ rebyted new.serial made rest = ap (λ (s : HeapState). (released (copied s name new).heap name).heap) (sym same) ∙ copies old_bytes given_many (subst IsLawful (sym same) given_lawful) in
      let move_lawful : IsLawful move = lawful_run sli level given (Write new 0 (take (min (length (payload_of given name)) (length old_bytes)) (payload_of given name)) ∷ Release name ∷ []) given_lawful in
      let move_new : IsLive move new = subst (λ (s : HeapState). IsLive s new) (sym move_is) (live_rebyted new.serial made rest new new_left) in
      let move_payload : payload_of move new ≡ made = ap (λ (s : HeapState). payload_of s new) move_is ∙ payload_rebyted rest new made new_left in
      let made_many : length made ≡ len = omega (arith, length-append piece (drop some old_bytes), long, length-drop some old_bytes, given_many) in
      let head : take some (payload_of move new) ≡ piece = ap (take some) move_payload ∙ take-append-le some piece (drop some old_bytes) (omega (arith, long)) ∙ ap (λ (k : ℕ). take k piece) (sym long) ∙ take-length piece in
      final_is
      ∙ ap (with_blocks rest) (sym (rebytes-twice new.serial made bytes rest.blocks))
      ∙ ap (rebyted new.serial bytes) (sym move_is)
      ∙ ap (λ (l : List ℕ). rebyted new.serial (l ++ drop some lay) move) (sym head)
      ∙ ap (λ (l : List ℕ). rebyted new.serial (take some (payload_of move new) ++ l) move) (sym tail)
      ∙ sym (unset_is move new m some len move_lawful move_new (omega arith) (sym made_many ∙ ap length (sym move_payload)))
