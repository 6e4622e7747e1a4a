use Rattle.tlsf_heap.proofs.Common.{◌≡◌, ℕ, ◌+◌, ◌-◌, ◌*◌, ◌/◌, ◌≤◌, List, ◌∷◌, set, ap, ◌∙◌, arith, byte_in, length_word, times, InGroups, words_for}
use Rattle.tlsf_heap.proofs.lemmas.words.NewBytes.{bytes_fitted, bytes_behind}
use Rattle.tlsf_words.proofs.Touching.{more_groups, groups_then, one_word, times_other}
use Rattle.tlsf_heap.proofs.lemmas.words.Groups.{one_row}
use Rattle.tlsf_heap.proofs.payload.set_payload.Goals as goal

-- the length is no byte of the payload
same : (old read new : List ℕ) (at len : ℕ) → read ≡ old → new ≡ set read (at + 2) (length_word len) → (k : ℕ) → 8 * (at + 3) ≤ k → byte_in new k ≡ byte_in old k
same old read new at len is_old is_new k h =
    ap (λ (l : List ℕ). byte_in l k) (is_new ∙ ap (λ (l : List ℕ). set l (at + 2) (length_word len)) is_old) ∙ bytes_behind old (at + 2) (length_word len) k (omega arith)

pub returns-then-len-old-clause-bytes : goal.returns-then-len-old-clause-bytes
returns-then-len-old-clause-bytes c =
    let value = c.length-old.ensures.value in
    bytes_fitted c.args.words.now.words c.zero_bytes.new.words.words (8 * (c.args.at + 3)) _ c.args.len
    (λ k l g f. c.zero_bytes.ensures.before k (omega arith) ∙ same c.args.words.now.words _ _ c.args.at c.args.len c.length-old.ensures.reads.words c.set_length.ensures.writes.words k l)
    (λ k l g. c.zero_bytes.ensures.zero k (omega arith) g)

pub returns-else-len-old-clause-bytes : goal.returns-else-len-old-clause-bytes
returns-else-len-old-clause-bytes c =
    let value = c.length-old.ensures.value in
    bytes_fitted c.args.words.now.words c.set_length.new.self.words (8 * (c.args.at + 3)) _ c.args.len
    (λ k l g f. same c.args.words.now.words _ _ c.args.at c.args.len c.length-old.ensures.reads.words c.set_length.ensures.writes.words k l)
    (λ k l g. absurd (omega (arith, l, g, value, c.if-len-old.false)))

pub returns-then-not-grows-clause-bytes : goal.returns-then-not-grows-clause-bytes
returns-then-not-grows-clause-bytes c =
    bytes_fitted c.args.words.now.words c.set_length.new.self.words (8 * (c.args.at + 3)) _ c.args.len
    (λ k l g f. same c.args.words.now.words _ _ c.args.at c.args.len c.length-old.ensures.reads.words c.set_length.ensures.writes.words k l)
    (λ k l g. let shorter = c.requires.grows c.if-not-grows.true in absurd (omega (arith, l, g, shorter)))

-- the word of the length, read and written
header : (p : ℕ) (old : List ℕ) {read new : List ℕ} → read ≡ p ∷ old → new ≡ p ∷ read → InGroups 1 old new
header p old {read = read} is_read is_new =
    one_word p (λ k apart. ap (λ (l : List ℕ). times l k) is_new ∙ times_other p k read apart ∙ ap (λ (l : List ℕ). times l k) is_read ∙ times_other p k old apart)

pub returns-then-not-grows-clause-groups : goal.returns-then-not-grows-clause-groups
returns-then-not-grows-clause-groups c = more_groups (omega arith) (header (c.args.at + 2) c.args.words.now.touched c.length-old.ensures.reads.touched c.set_length.ensures.writes.touched)

pub returns-else-len-old-clause-groups : goal.returns-else-len-old-clause-groups
returns-else-len-old-clause-groups c = more_groups (omega arith) (header (c.args.at + 2) c.args.words.now.touched c.length-old.ensures.reads.touched c.set_length.ensures.writes.touched)

pub returns-then-len-old-clause-groups : goal.returns-then-len-old-clause-groups
returns-then-len-old-clause-groups c =
    let old = c.length-old.result in
    let first = c.args.at + 3 + old / 8 in
    let many = c.args.at + words_for c.args.len - first in
    let zeros = one_row first many c.zero_bytes.ensures.touched_before (λ k past. c.zero_bytes.ensures.touched_behind k (omega (arith, past))) in
    more_groups (omega (arith, c.if-len-old.true, c.length-old.ensures.value)) (groups_then (header (c.args.at + 2) c.args.words.now.touched c.length-old.ensures.reads.touched c.set_length.ensures.writes.touched) zeros)
