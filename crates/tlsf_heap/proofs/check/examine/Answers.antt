use Rattle.tlsf_heap.proofs.Common.{◌≡◌, ◌∙◌, ℕ, ◌∷◌, sym, subst, arith, Memory, Begins, OnlyLooks, image_of}
use Rattle.tlsf_heap.proofs.lemmas.words.Checks.{Seen, image_same, same_image, header_begun, seen_more, begins_seen}
use Rattle.tlsf_heap.proofs.check.examine.Goals as goal
use Rattle.tlsf_heap.proofs.check.examine.Goals.{then-is_free, else-is_free, else-end-len-2-via-then-end-len-2+else-not-joins_behind, else-end-len-2-via-else-end-len-2}

-- once the start bit and the tag of a block are read
tagged : (old mid new : Memory) (at : ℕ) {most : ℕ} → Begins (image_of old) at → OnlyLooks old mid most → mid.touched ≡ old.touched
    → new.words ≡ mid.words → new.starts ≡ mid.starts → new.touched ≡ at ∷ mid.touched → Seen old new
tagged old mid new at begins looks none words starts one = record {
  same = image_same mid new words starts ∙ same_image looks;
  headers = header_begun (image_of old) at 0 at begins (omega arith) (omega arith) none one;
}

pub returns-then-size-lt4-clause-touched : goal.returns-then-size-lt4-clause-touched
returns-then-size-lt4-clause-touched c =
    let begins = c.begins.ensures.yes c.if-not-begins.false in
    let tag = c.tag-tag.ensures in
    (tagged c.args.words.now c.begins.new.words c.tag-tag.new.self c.args.at begins c.begins.ensures.looks c.begins.ensures.touched tag.reads.words tag.reads.starts tag.reads.touched).headers

pub returns-then-not-joins_before-clause-touched : goal.returns-then-not-joins_before-clause-touched
returns-then-not-joins_before-clause-touched c =
    let begins = c.begins.ensures.yes c.if-not-begins.false in
    let tag = c.tag-tag.ensures in
    let first = tagged c.args.words.now c.begins.new.words c.tag-tag.new.self c.args.at begins c.begins.ensures.looks c.begins.ensures.touched tag.reads.words tag.reads.starts tag.reads.touched in
    (seen_more c.args.words.now c.tag-tag.new.self c.joins_before.new.words first c.joins_before.ensures.looks c.joins_before.ensures.touched).headers

pub returns-then-not-joins_behind-clause-touched : goal.returns-then-not-joins_behind-clause-touched
returns-then-not-joins_behind-clause-touched c =
    let begins = c.begins.ensures.yes c.if-not-begins.false in
    let tag = c.tag-tag.ensures in
    let first = tagged c.args.words.now c.begins.new.words c.tag-tag.new.self c.args.at begins c.begins.ensures.looks c.begins.ensures.touched tag.reads.words tag.reads.starts tag.reads.touched in
    let second = seen_more c.args.words.now c.tag-tag.new.self c.joins_before.new.words first c.joins_before.ensures.looks c.joins_before.ensures.touched in
    (seen_more c.args.words.now c.joins_before.new.words c.joins_behind.new.words second c.joins_behind.ensures.looks c.joins_behind.ensures.touched).headers

pub returns-then-is_sound-clause-touched : goal.returns-then-is_sound-clause-touched
returns-then-is_sound-clause-touched c =
    let begins = c.begins.ensures.yes c.if-not-begins.false in
    let tag = c.tag-tag.ensures in
    let first = tagged c.args.words.now c.begins.new.words c.tag-tag.new.self c.args.at begins c.begins.ensures.looks c.begins.ensures.touched tag.reads.words tag.reads.starts tag.reads.touched in
    let second = seen_more c.args.words.now c.tag-tag.new.self c.joins_before.new.words first c.joins_before.ensures.looks c.joins_before.ensures.touched in
    let third : Seen c.args.words.now c.else-end-len-2.words = elim c.else-end-len-2.branch [
      | else-end-len-2-via-then-end-len-2+else-not-joins_behind w ↦ subst (λ (m : Memory). Seen c.args.words.now m) (sym w.words-is)
          (seen_more c.args.words.now c.joins_before.new.words w.joins_behind.new.words second w.joins_behind.ensures.looks w.joins_behind.ensures.touched)
      | else-end-len-2-via-else-end-len-2 w ↦ subst (λ (m : Memory). Seen c.args.words.now m) (sym w.words-is) second
    ] in
    let last : Seen c.args.words.now c.if-is_free.words = elim c.if-is_free.branch [
      | then-is_free w ↦ subst (λ (m : Memory). Seen c.args.words.now m) (sym w.words-is)
          (seen_more c.args.words.now c.else-end-len-2.words w.leads_back-is_sound.new.words third w.leads_back-is_sound.ensures.looks (w.leads_back-is_sound.ensures.touched (begins_seen third begins)))
      | else-is_free w ↦ subst (λ (m : Memory). Seen c.args.words.now m) (sym w.words-is)
          (seen_more c.args.words.now c.else-end-len-2.words w.holds_length-is_sound.new.words third w.holds_length-is_sound.ensures.looks (w.holds_length-is_sound.ensures.touched (begins_seen third begins)))
    ] in
    last.headers

pub returns-else-is_sound-clause-touched : goal.returns-else-is_sound-clause-touched
returns-else-is_sound-clause-touched c =
    let begins = c.begins.ensures.yes c.if-not-begins.false in
    let tag = c.tag-tag.ensures in
    let first = tagged c.args.words.now c.begins.new.words c.tag-tag.new.self c.args.at begins c.begins.ensures.looks c.begins.ensures.touched tag.reads.words tag.reads.starts tag.reads.touched in
    let second = seen_more c.args.words.now c.tag-tag.new.self c.joins_before.new.words first c.joins_before.ensures.looks c.joins_before.ensures.touched in
    let third : Seen c.args.words.now c.else-end-len-2.words = elim c.else-end-len-2.branch [
      | else-end-len-2-via-then-end-len-2+else-not-joins_behind w ↦ subst (λ (m : Memory). Seen c.args.words.now m) (sym w.words-is)
          (seen_more c.args.words.now c.joins_before.new.words w.joins_behind.new.words second w.joins_behind.ensures.looks w.joins_behind.ensures.touched)
      | else-end-len-2-via-else-end-len-2 w ↦ subst (λ (m : Memory). Seen c.args.words.now m) (sym w.words-is) second
    ] in
    let last : Seen c.args.words.now c.if-is_free.words = elim c.if-is_free.branch [
      | then-is_free w ↦ subst (λ (m : Memory). Seen c.args.words.now m) (sym w.words-is)
          (seen_more c.args.words.now c.else-end-len-2.words w.leads_back-is_sound.new.words third w.leads_back-is_sound.ensures.looks (w.leads_back-is_sound.ensures.touched (begins_seen third begins)))
      | else-is_free w ↦ subst (λ (m : Memory). Seen c.args.words.now m) (sym w.words-is)
          (seen_more c.args.words.now c.else-end-len-2.words w.holds_length-is_sound.new.words third w.holds_length-is_sound.ensures.looks (w.holds_length-is_sound.ensures.touched (begins_seen third begins)))
    ] in
    last.headers
