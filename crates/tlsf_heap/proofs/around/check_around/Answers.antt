use Rattle.tlsf_heap.proofs.Common.{sym, subst, Memory}
use Rattle.tlsf_heap.proofs.lemmas.words.Checks.{Seen, seen_more}
use Rattle.tlsf_heap.proofs.lemmas.words.Around.{seen_start, seen_tag}
use Rattle.tlsf_heap.proofs.around.check_around.Goals as goal
use Rattle.tlsf_heap.proofs.around.check_around.Goals.{then-at-gt0+else-is_none, else-at-gt0}

pub returns-then-is_none-clause-touched : goal.returns-then-is_none-clause-touched
returns-then-is_none-clause-touched c =
    let begins = c.begins.ensures.yes c.if-not-begins.false in
    let first = seen_start c.args.words.now c.begins.new.words c.begins.ensures.looks c.begins.ensures.touched in
    let second = seen_more c.args.words.now c.begins.new.words c.examine.new.words first c.examine.ensures.looks c.examine.ensures.touched in
    let tag = c.tag.ensures in
    let third = seen_tag c.args.words.now c.examine.new.words c.tag.new.self second begins tag.reads.words tag.reads.starts tag.reads.touched in
    (seen_more c.args.words.now c.tag.new.self c.examine-then-at-gt0.new.words third c.examine-then-at-gt0.ensures.looks c.examine-then-at-gt0.ensures.touched).headers

pub returns-then-end-len-clause-touched : goal.returns-then-end-len-clause-touched
returns-then-end-len-clause-touched c =
    let begins = c.begins.ensures.yes c.if-not-begins.false in
    let first = seen_start c.args.words.now c.begins.new.words c.begins.ensures.looks c.begins.ensures.touched in
    let second = seen_more c.args.words.now c.begins.new.words c.examine.new.words first c.examine.ensures.looks c.examine.ensures.touched in
    let fourth : Seen c.args.words.now c.if-at-gt0.words = elim c.if-at-gt0.branch [
      | then-at-gt0+else-is_none w ↦
          let tag = w.tag.ensures in
          let third = seen_tag c.args.words.now c.examine.new.words w.tag.new.self second begins tag.reads.words tag.reads.starts tag.reads.touched in
          subst (λ (m : Memory). Seen c.args.words.now m) (sym w.words-is)
          (seen_more c.args.words.now w.tag.new.self w.examine-then-at-gt0.new.words third w.examine-then-at-gt0.ensures.looks w.examine-then-at-gt0.ensures.touched)
      | else-at-gt0 w ↦ subst (λ (m : Memory). Seen c.args.words.now m) (sym w.words-is) second
    ] in
    fourth.headers

pub returns-then-is_none-2-clause-touched : goal.returns-then-is_none-2-clause-touched
returns-then-is_none-2-clause-touched c =
    let begins = c.begins.ensures.yes c.if-not-begins.false in
    let first = seen_start c.args.words.now c.begins.new.words c.begins.ensures.looks c.begins.ensures.touched in
    let second = seen_more c.args.words.now c.begins.new.words c.examine.new.words first c.examine.ensures.looks c.examine.ensures.touched in
    let fourth : Seen c.args.words.now c.if-at-gt0.words = elim c.if-at-gt0.branch [
      | then-at-gt0+else-is_none w ↦
          let tag = w.tag.ensures in
          let third = seen_tag c.args.words.now c.examine.new.words w.tag.new.self second begins tag.reads.words tag.reads.starts tag.reads.touched in
          subst (λ (m : Memory). Seen c.args.words.now m) (sym w.words-is)
          (seen_more c.args.words.now w.tag.new.self w.examine-then-at-gt0.new.words third w.examine-then-at-gt0.ensures.looks w.examine-then-at-gt0.ensures.touched)
      | else-at-gt0 w ↦ subst (λ (m : Memory). Seen c.args.words.now m) (sym w.words-is) second
    ] in
    (seen_more c.args.words.now c.if-at-gt0.words c.examine-2.new.words fourth c.examine-2.ensures.looks c.examine-2.ensures.touched).headers

pub returns-clause-touched : goal.returns-clause-touched
returns-clause-touched c =
    let begins = c.begins.ensures.yes c.if-not-begins.false in
    let first = seen_start c.args.words.now c.begins.new.words c.begins.ensures.looks c.begins.ensures.touched in
    let second = seen_more c.args.words.now c.begins.new.words c.examine.new.words first c.examine.ensures.looks c.examine.ensures.touched in
    let fourth : Seen c.args.words.now c.if-at-gt0.words = elim c.if-at-gt0.branch [
      | then-at-gt0+else-is_none w ↦
          let tag = w.tag.ensures in
          let third = seen_tag c.args.words.now c.examine.new.words w.tag.new.self second begins tag.reads.words tag.reads.starts tag.reads.touched in
          subst (λ (m : Memory). Seen c.args.words.now m) (sym w.words-is)
          (seen_more c.args.words.now w.tag.new.self w.examine-then-at-gt0.new.words third w.examine-then-at-gt0.ensures.looks w.examine-then-at-gt0.ensures.touched)
      | else-at-gt0 w ↦ subst (λ (m : Memory). Seen c.args.words.now m) (sym w.words-is) second
    ] in
    (seen_more c.args.words.now c.if-at-gt0.words c.examine-2.new.words fourth c.examine-2.ensures.looks c.examine-2.ensures.touched).headers
