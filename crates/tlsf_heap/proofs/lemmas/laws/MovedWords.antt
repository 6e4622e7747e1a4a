-- The words in use over a resize that may move the block.
use Rattle.tlsf_heap.proofs.Common.{◌≡◌, ◌≢◌, ℕ, ◌+◌, ◌<◌, Bool, cond, eqb, eq-eqb, ne_eqb, max, Some, Result, Err, refl, Refusal, Shown, name_at, Ok, length, take, min, sym, ap, ◌∙◌, subst, arith, IsLevel, HeapState, want, Outcome, Give, Take, Put, last_tick, allocated, released, resized, written, payload_of, IsLawful, IsLive, copied, resized_or_moved, words_in_use, words_at, Name}
use Rattle.tlsf_heap.specs.WordsInUse.{peak_moved}
use Rattle.tlsf_heap.proofs.lemmas.calls.ByPlace.{live_is_found}
use Rattle.tlsf_heap.proofs.lemmas.laws.Live.{new_words, kept_others}
use Rattle.tlsf_heap.proofs.lemmas.calls.ResizeOrMove.{by_moved, old_lives, new_lives, ticks, release_done}
use Rattle.tlsf_heap.proofs.lemmas.calls.Outcomes.{lawful_step, lawful_allocated_words}
use Rattle.tlsf_heap.proofs.lemmas.laws.WordsInUse.{in_use_allocated, in_use_released, in_use_resized, words_set, words_kept}

-- the words in use, and those while both blocks are live
abbrev Sums : ℕ → HeapState → Name → ℕ → Outcome Name → Name → Type 0
Sums sli h name len o new = (words_in_use o.heap + words_at h name.at ≡ words_in_use h + words_at o.heap new.at)
    × (new ≢ name → words_in_use (allocated sli h len).heap ≡ words_in_use h + words_at o.heap new.at)

-- those of a block that moved
moved_sums : (sli : ℕ) → IsLevel sli → (h : HeapState) (name : Name) (len : ℕ) → IsLawful h → (given : Name) → Ok given ≡ (allocated sli h len).answer → IsLive h name → h.tick + 1 < last_tick
    → Sums sli h name len (record { answer = Ok given; heap = (released (copied (allocated sli h len).heap name given).heap name).heap }) given
moved_sums sli level h name len lawful given e live fresh =
    let k = (allocated sli h len).heap in
    let bytes = take (min (length (payload_of k name)) (length (payload_of k given))) (payload_of k name) in
    let copy = (written k given 0 bytes).heap in
    let left = (released copy name).heap in
    let lawful_copy = lawful_step sli level k (Put given 0 bytes) tt (lawful_allocated_words sli level h (want len) len (omega arith) lawful) in
    let differ : name ≢ given = λ same. new_words sli h (want len) len given lawful (sym e) (subst (IsLive h) same live) in
    let lives : IsLive copy given = kept_others sli k given (Put given 0 bytes) tt (new_lives sli h name len given e live) in
    let new_words : words_at left given.at ≡ words_at k given.at = words_kept sli level given copy (Take name) tt differ lawful_copy lives ∙ (words_set sli k (Put given 0 bytes) tt).1 given.at in
    let old_words : words_at copy name.at ≡ words_at h name.at = (words_set sli k (Put given 0 bytes) tt).1 name.at ∙ words_kept sli level name h (Give (want len) len) (omega arith) tt lawful live in
    let more = in_use_allocated sli level h (want len) len given (omega arith) lawful (sym e) in
    let later = ticks sli h name len given e live in
    let less = in_use_released copy name lawful_copy (release_done sli k name given bytes (old_lives sli h name len given e live) (λ worn. omega (arith, worn, later, fresh))) in
    (omega (arith, more, (words_set sli k (Put given 0 bytes) tt).0, less, new_words, old_words), λ other. more ∙ ap (λ (n : ℕ). words_in_use h + n) (sym new_words))

pub in_use_moved : (sli : ℕ) → IsLevel sli → (h : HeapState) (name new : Name) (len : ℕ) → IsLawful h → (resized_or_moved sli h name len).answer ≡ Ok new
    → Sums sli h name len (resized_or_moved sli h name len) new
in_use_moved sli level h name new len lawful = by_moved sli (λ o. o.answer ≡ Ok new → Sums sli h name len o new) h name len (λ why e. absurd cc)
    (λ e. let same : name ≡ new = cc in (in_use_resized h name (want len) len (omega arith) lawful ∙ ap (λ (n : Name). words_in_use h + words_at (resized h name len).heap n.at) same, λ other. absurd (other (sym same))))
    (λ given e live fresh done. let same : given ≡ new = cc in subst (Sums sli h name len (record { answer = Ok given; heap = (released (copied (allocated sli h len).heap name given).heap name).heap })) same (moved_sums sli level h name len lawful given e live fresh))

-- ---- the most words ever in use

-- the block stayed
pub peak_stayed : (old : Shown) (name : Name) (h : HeapState) (most : ℕ) → most ≡ max old.most_in_use (words_in_use h) → most ≡ peak_moved old name.at (Ok name) h
peak_stayed old name h most is = is ∙ ap (λ (b : Bool). cond b (max old.most_in_use (words_in_use h)) (max old.most_in_use (words_in_use old.heap + words_at h name.at))) (sym (eq-eqb name.at name.at refl))

-- by what it is told of the heap before
pub peak_same : (a b : Shown) → a.heap ≡ b.heap → a.most_in_use ≡ b.most_in_use → (at : ℕ) (answer : Result Name Refusal) (h : HeapState) → peak_moved a at answer h ≡ peak_moved b at answer h
peak_same a b heap most at (Err why) h = most
peak_same a b heap most at (Ok name) h =
    ap (λ (n : ℕ). cond (eqb name.at at) (max n (words_in_use h)) (max n (words_in_use a.heap + words_at h name.at))) most
    ∙ ap (λ (k : HeapState). cond (eqb name.at at) (max b.most_in_use (words_in_use h)) (max b.most_in_use (words_in_use k + words_at h name.at))) heap

-- it moved: the heap k that is left has as many words at the new place as a move leaves there
pub peak_of_move : (sli : ℕ) → IsLevel sli → (old : Shown) (name new : Name) (len : ℕ) → IsLawful old.heap → IsLive old.heap name → Ok new ≡ (allocated sli old.heap len).answer → old.heap.tick + 1 < last_tick
    → (k : HeapState) (given between most : ℕ) → given ≡ words_in_use (allocated sli old.heap len).heap → between ≡ max old.most_in_use given → most ≡ between
    → words_at k new.at ≡ words_at (released (copied (allocated sli old.heap len).heap name new).heap name).heap new.at
    → most ≡ peak_moved old name.at (Ok new) k
peak_of_move sli level old name new len lawful live e fresh k given between most gave first last here =
    let h = old.heap in
    let mid = (allocated sli h len).heap in
    let lawful_mid = lawful_allocated_words sli level h (want len) len (omega arith) lawful in
    let differ : name ≢ new = λ same. new_words sli h (want len) len new lawful (sym e) (subst (IsLive h) same live) in
    let apart : new.at ≢ name.at = λ same. differ (one_name (sym (live_is_found mid name lawful_mid (old_lives sli h name len new e live)) ∙ ap (name_at mid) (sym same) ∙ live_is_found mid new lawful_mid (new_lives sli h name len new e live))) in
    let sums = moved_sums sli level h name len lawful new e live fresh in
    let during = sums.1 (λ same. differ (sym same)) in
    let total : most ≡ max old.most_in_use (words_in_use h + words_at k new.at) = omega (arith, gave, first, last, here, during) in
    total ∙ ap (λ (b : Bool). cond b (max old.most_in_use (words_in_use k)) (max old.most_in_use (words_in_use h + words_at k new.at))) (sym (ne_eqb new.at name.at apart))
  where
    one_name : {a b : Name} → Some a ≡ Some b → a ≡ b
    one_name e = cc
