use Rattle.tlsf_heap.proofs.Common.{◌≡◌, ◌+◌, ◌-◌, ◌≤◌, suc, take, drop, ap, ◌∙◌, arith, false≢true, sym, class_of, size_of, first_free, block_at, list_in}
use Rattle.tlsf_heap.proofs.lemmas.blocks.Used.{recut_used_small, recut_used_large}
use Rattle.tlsf_heap.proofs.lemmas.lists.Recut.{own_unlisted, wide_listed, cut_free, cut_unlisted, cut_listed}
use Rattle.tlsf_heap.proofs.lemmas.lists.Withheld.{has_behind, is_between, taken_out, next_region, contains_next}
use Rattle.tlsf_heap.proofs.lemmas.words.Footprint.{recut_lasts, any_word}
use Rattle.tlsf_heap.proofs.lemmas.blocks.Around.{around}
use Rattle.tlsf_heap.proofs.lemmas.blocks.Neighbours.{inner_is, whole_next}
use Rattle.tlsf_heap.specs.WordsInUse.{words_used}
use Rattle.tlsf_heap.proofs.lemmas.calls.Kept.{edits_both}
use Rattle.tlsf_words.proofs.Touching.{more_groups, groups_then}
use Rattle.tlsf_heap.proofs.refitting.recut.Goals as goal

pub overflow_add-at : goal.overflow_add-at
overflow_add-at g c =
    let r = c.requires in
    let b = has_behind g.row.SLI (r.live.0, r.live.1, r.live.2.0) r.own r.next r.some r.region in
    omega (arith, c.size.ensures.value, b.small)

pub remove-requires : goal.remove-requires
remove-requires g c =
    let live = c.requires.live in
    let is = c.requires.own live.0 live.1 in
    let next = c.requires.next live.0 live.1 in
    let some = next.some c.requires.some in
    let size = next.size c.requires.some in
    let f = is_between g.row.SLI (live.0, live.1, live.2.0) c.requires.region in
    let region = next_region g.row.SLI f some in
    (omega arith, (c.requires.region.order.level, (omega (arith, region.0, c.size-after.ensures.value, size), (omega (arith, region.1, c.size-after.ensures.value, size), rw (c.size.ensures.value, is.size, c.size-after.ensures.value, size) (contains_next g.row.SLI f some)))))

pub with_next-whole-requires : goal.with_next-whole-requires
with_next-whole-requires g c =
    let r = c.requires in
    let b = has_behind g.row.SLI (r.live.0, r.live.1, r.live.2.0) r.own r.next r.some r.region in
    record { live = b.is_own.free ∙ b.between.live; inner = inner_is r.region.order.whole b.between.stands b.is_own b.some; free = r.some; fits = omega (arith, b.small) }

pub widen-requires : goal.widen-requires
widen-requires g c =
    let r = c.requires in
    let b = has_behind g.row.SLI (r.live.0, r.live.1, r.live.2.0) r.own r.next r.some r.region in
    let out = taken_out g.row.SLI b.some (ap (class_of g.row.SLI) (c.size-after.ensures.value ∙ b.size)) (ap (λ n. c.args.at + n) (c.size.ensures.value ∙ b.is_own.size)) c.remove.ensures.list c.remove.ensures.others in
    let whole = c.with_next-whole.ensures in
    (omega arith, (omega (arith, b.some, b.size, c.size-after.ensures.value), (rw c.remove.ensures.blocks (b.i, b.between.stands, b.between.live), (rw (c.remove.ensures.blocks, c.remove.ensures.edits.words) (λ i stands. whole_next c.with_next-whole.result (r.own i stands) (r.next i stands) r.some c.size-after.ensures.value whole.size whole.free whole.last whole.back), λ k low high. own_unlisted g.row.SLI b.between out k low (omega (arith, high, whole.size, b.is_own.size, b.size))))))

pub recut-rest-requires : goal.recut-rest-requires
recut-rest-requires g c =
    let r = c.requires in
    let b = has_behind g.row.SLI (r.live.0, r.live.1, r.live.2.0) r.own r.next r.some r.region in
    let out = taken_out g.row.SLI b.some (ap (class_of g.row.SLI) (c.size-after.ensures.value ∙ b.size)) (ap (λ n. c.args.at + n) (c.size.ensures.value ∙ b.is_own.size)) c.remove.ensures.list c.remove.ensures.others in
    let whole = c.with_next-whole.ensures in
    (omega arith, ((λ e. omega (arith, b.some, b.size, c.size-after.ensures.value), λ e. absurd (false≢true (sym e))), (r.least, (omega (arith, c.if-both-words.false, c.size-both.ensures.value), (rw c.remove.ensures.blocks r.live, (rw (c.remove.ensures.blocks, c.remove.ensures.edits.words) (λ i stands. whole_next c.with_next-whole.result (r.own i stands) (r.next i stands) r.some c.size-after.ensures.value whole.size whole.free whole.last whole.back), λ k low high. own_unlisted g.row.SLI b.between out k low (omega (arith, high, whole.size, b.is_own.size, b.size))))))))

pub class_of-requires : goal.class_of-requires
class_of-requires g c =
    let r = c.requires in
    let b = has_behind g.row.SLI (r.live.0, r.live.1, r.live.2.0) r.own r.next r.some r.region in
    let whole = c.with_next-whole.ensures.size in
    let rest = c.recut-rest.ensures.rest in
    (omega arith, (r.region.order.level, (omega (arith, rest, c.if-both-words.false, c.size-both.ensures.value), omega (arith, rest, whole, b.within))))

pub overflow_add-at-2 : goal.overflow_add-at-2
overflow_add-at-2 g c =
    let r = c.requires in
    let b = has_behind g.row.SLI (r.live.0, r.live.1, r.live.2.0) r.own r.next r.some r.region in
    omega (arith, r.room, b.small)

pub push-requires : goal.push-requires
push-requires g c =
    let r = c.requires in
    let b = has_behind g.row.SLI (r.live.0, r.live.1, r.live.2.0) r.own r.next r.some r.region in
    let out = taken_out g.row.SLI b.some (ap (class_of g.row.SLI) (c.size-after.ensures.value ∙ b.size)) (ap (λ n. c.args.at + n) (c.size.ensures.value ∙ b.is_own.size)) c.remove.ensures.list c.remove.ensures.others in
    let change = (rw c.remove.ensures.blocks at c.recut-rest.ensures.change) b.i b.between.stands in
    let large : c.args.words + 4 ≤ size_of (block_at c.args.region.now.blocks b.i) + first_free (drop (suc b.i) c.args.region.now.blocks) = omega (arith, c.with_next-whole.ensures.size, c.if-both-words.false, c.size-both.ensures.value, b.is_own.size, b.size) in
    let new = c.recut-rest.new.self in
    (omega arith, (omega arith, (cut_free g.row.SLI b.between out c.args.words new.blocks change.blocks (list_in new.lists) change.lists r.least large, cut_unlisted g.row.SLI b.between out c.args.words new.blocks change.blocks (list_in new.lists) change.lists r.least large)))

-- ---- all words

pub returns-then-both-words-clause-blocks : goal.returns-then-both-words-clause-blocks
returns-then-both-words-clause-blocks g c i stands = ((rw c.remove.ensures.blocks at (c.widen.ensures.change c.args.words c.args.tick (omega (arith, c.if-both-words.true, c.size-both.ensures.value)))) i stands).blocks

pub returns-then-both-words-clause-used : goal.returns-then-both-words-clause-used
returns-then-both-words-clause-used g c =
    let r = c.requires in
    let b = has_behind g.row.SLI (r.live.0, r.live.1, r.live.2.0) r.own r.next r.some r.region in
    let bs = c.args.region.now.blocks in
    let size = b.size in
    let whole = c.with_next-whole.ensures.size in
    let change = (rw c.remove.ensures.blocks at (c.widen.ensures.change c.args.words c.args.tick (omega (arith, c.if-both-words.true, c.size-both.ensures.value)))) b.i b.between.stands in
    let sum = recut_used_small (take b.i bs) (drop (suc b.i) bs) (block_at bs b.i) c.args.words c.args.tick b.between.live (omega (arith, c.if-both-words.true, c.size-both.ensures.value, whole, b.is_own.size, size)) in
    omega (arith, sum, b.is_own.size, size, whole, c.size-both.ensures.value, ap words_used change.blocks, ap words_used (around bs c.args.at b.i b.between.stands).is)

pub returns-then-both-words-clause-relists : goal.returns-then-both-words-clause-relists
returns-then-both-words-clause-relists g c =
    let r = c.requires in
    let b = has_behind g.row.SLI (r.live.0, r.live.1, r.live.2.0) r.own r.next r.some r.region in
    let out = taken_out g.row.SLI b.some (ap (class_of g.row.SLI) (c.size-after.ensures.value ∙ b.size)) (ap (λ n. c.args.at + n) (c.size.ensures.value ∙ b.is_own.size)) c.remove.ensures.list c.remove.ensures.others in
    let change = (rw c.remove.ensures.blocks at (c.widen.ensures.change c.args.words c.args.tick (omega (arith, c.if-both-words.true, c.size-both.ensures.value)))) b.i b.between.stands in
    record {
      listed = wide_listed g.row.SLI b.between out c.args.words c.widen.new.self.blocks change.blocks (list_in c.widen.new.self.lists) change.lists (omega (arith, c.if-both-words.true, c.size-both.ensures.value, c.with_next-whole.ensures.size, b.is_own.size, b.size));
      edits = edits_both (omega arith) c.remove.ensures.edits (c.widen.ensures.change c.args.words c.args.tick (omega (arith, c.if-both-words.true, c.size-both.ensures.value)) b.i (rw c.remove.ensures.blocks b.between.stands)).edits;
      touched = λ k o. (rw c.remove.ensures.blocks at c.widen.ensures.touched) k o ∙ c.remove.ensures.touched k (any_word c.args.region.now.blocks c.args.at k o);
      groups = more_groups (omega arith) (groups_then c.remove.ensures.groups c.widen.ensures.groups);
    }

-- ---- a rest

pub returns-clause-used : goal.returns-clause-used
returns-clause-used g c =
    let r = c.requires in
    let b = has_behind g.row.SLI (r.live.0, r.live.1, r.live.2.0) r.own r.next r.some r.region in
    let change = (rw c.remove.ensures.blocks at c.recut-rest.ensures.change) b.i b.between.stands in
    let large : c.args.words + 4 ≤ size_of (block_at c.args.region.now.blocks b.i) + first_free (drop (suc b.i) c.args.region.now.blocks) = omega (arith, c.with_next-whole.ensures.size, c.if-both-words.false, c.size-both.ensures.value, b.is_own.size, b.size) in
    let bs = c.args.region.now.blocks in
    let sum = recut_used_large (take b.i bs) (drop (suc b.i) bs) (block_at bs b.i) c.args.words c.args.tick b.between.live large in
    omega (arith, sum, b.is_own.size, ap words_used (c.push.ensures.blocks ∙ change.blocks), ap words_used (around bs c.args.at b.i b.between.stands).is)

pub returns-clause-relists : goal.returns-clause-relists
returns-clause-relists g c =
    let r = c.requires in
    let b = has_behind g.row.SLI (r.live.0, r.live.1, r.live.2.0) r.own r.next r.some r.region in
    let out = taken_out g.row.SLI b.some (ap (class_of g.row.SLI) (c.size-after.ensures.value ∙ b.size)) (ap (λ n. c.args.at + n) (c.size.ensures.value ∙ b.is_own.size)) c.remove.ensures.list c.remove.ensures.others in
    let change = (rw c.remove.ensures.blocks at c.recut-rest.ensures.change) b.i b.between.stands in
    let large : c.args.words + 4 ≤ size_of (block_at c.args.region.now.blocks b.i) + first_free (drop (suc b.i) c.args.region.now.blocks) = omega (arith, c.with_next-whole.ensures.size, c.if-both-words.false, c.size-both.ensures.value, b.is_own.size, b.size) in
    let bs = c.args.region.now.blocks in
    let new = c.recut-rest.new.self in
    let rest : c.recut-rest.result ≡ size_of (block_at bs b.i) + first_free (drop (suc b.i) bs) - c.args.words = omega (arith, c.recut-rest.ensures.rest, c.with_next-whole.ensures.size, b.is_own.size, b.size) in
    record {
      listed = cut_listed g.row.SLI b.between out c.args.words new.blocks change.blocks (list_in new.lists) change.lists r.least large
          c.push.new.self.blocks c.push.ensures.blocks c.class_of.result (list_in c.push.new.self.lists) (c.class_of.ensures ∙ ap (class_of g.row.SLI) rest) c.push.ensures.list c.push.ensures.others;
      edits = edits_both (omega arith) c.remove.ensures.edits (edits_both {most = 14} (omega arith) (c.recut-rest.ensures.change b.i (rw c.remove.ensures.blocks b.between.stands)).edits c.push.ensures.edits);
      touched = λ k o. c.push.ensures.touched k (any_word new.blocks c.args.at k (recut_lasts bs new.blocks c.args.at b.i k c.args.words c.args.tick b.between.stands b.between.live (omega (arith, large)) change.blocks o))
          ∙ (rw c.remove.ensures.blocks at c.recut-rest.ensures.touched) k o ∙ c.remove.ensures.touched k (any_word bs c.args.at k o);
      groups = groups_then (groups_then c.remove.ensures.groups c.recut-rest.ensures.groups) c.push.ensures.groups;
    }
