use Rattle.tlsf_heap.proofs.Common.{sym, subst, Memory}
use Rattle.tlsf_heap.proofs.lemmas.words.Checks.{Seen, seen_more}
use Rattle.tlsf_heap.proofs.lemmas.words.Around.{seen_looked, seen_tag}
use Rattle.tlsf_heap.proofs.around.check_taken.Goals as goal
use Rattle.tlsf_heap.proofs.around.check_taken.Goals.{then-not-begins_free-via-then-not-begins_free, then-not-begins_free-via-else-not-begins_free+then-size-least}

pub returns-then-not-begins_free-clause-touched : goal.returns-then-not-begins_free-clause-touched
returns-then-not-begins_free-clause-touched c =
    let first = seen_looked c.args.words.now c.begins_free.new.words c.begins_free.ensures.looks c.begins_free.ensures.touched in
    let second : Seen c.args.words.now c.then-not-begins_free.words = elim c.then-not-begins_free.branch [
      | then-not-begins_free-via-then-not-begins_free w ↦ subst (λ (m : Memory). Seen c.args.words.now m) (sym w.words-is) first
      | then-not-begins_free-via-else-not-begins_free+then-size-least w ↦
          let tag = w.tag.ensures in
          subst (λ (m : Memory). Seen c.args.words.now m) (sym w.words-is)
          (seen_tag c.args.words.now c.begins_free.new.words w.tag.new.self first (c.begins_free.ensures.yes w.if-not-begins_free.false).begins tag.reads.words tag.reads.starts tag.reads.touched)
    ] in
    second.headers

pub returns-clause-touched : goal.returns-clause-touched
returns-clause-touched c =
    let tag = c.tag.ensures in
    let first = seen_looked c.args.words.now c.begins_free.new.words c.begins_free.ensures.looks c.begins_free.ensures.touched in
    let second = seen_tag c.args.words.now c.begins_free.new.words c.tag.new.self first (c.begins_free.ensures.yes c.if-not-begins_free.false).begins tag.reads.words tag.reads.starts tag.reads.touched in
    (seen_more c.args.words.now c.tag.new.self c.check_around.new.words second c.check_around.ensures.looks c.check_around.ensures.touched).headers
