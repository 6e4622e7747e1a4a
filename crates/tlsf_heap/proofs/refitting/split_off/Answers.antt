use Rattle.tlsf_heap.proofs.Common.{◌≡◌, ◌+◌, ◌-◌, ◌≤◌, suc, take, drop, ap, sym, ◌∙◌, arith, refl, false≢true, class_of, size_of, first_free, block_at, list_in}
use Rattle.tlsf_class.proofs.TwoLevels.{most_words_any}
use Rattle.tlsf_heap.proofs.lemmas.calls.Allocate.{tick_read}
use Rattle.tlsf_heap.proofs.lemmas.blocks.Around.{around}
use Rattle.tlsf_heap.proofs.lemmas.blocks.Neighbours.{whole_alone}
use Rattle.tlsf_heap.proofs.lemmas.blocks.Used.{recut_used_large}
use Rattle.tlsf_heap.proofs.lemmas.lists.Recut.{own_unlisted, cut_free, cut_unlisted, cut_listed}
use Rattle.tlsf_heap.proofs.lemmas.lists.Withheld.{is_between, nothing_out, end_within}
use Rattle.tlsf_heap.proofs.lemmas.words.Footprint.{any_word, recut_lasts}
use Rattle.tlsf_words.proofs.Touching.{more_groups, groups_then}
use Rattle.tlsf_heap.specs.WordsInUse.{words_used}
use Rattle.tlsf_heap.proofs.refitting.split_off.Goals as goal

pub next_tag-behind-requires : goal.next_tag-behind-requires
next_tag-behind-requires g c =
    let live = c.requires.live in
    (omega arith, ((live.0, live.1, c.requires.own live.0 live.1), c.requires.region.order))

-- ---- a free block follows

pub recut-requires : goal.recut-requires
recut-requires g c =
    let r = c.requires in
    let reads = c.next_tag-behind.ensures.reads in
    (omega arith, (tick_read r.region reads, (r.least, (rw reads.blocks r.live, (rw (reads.blocks, reads.words) r.own, (rw (reads.blocks, reads.words) c.next_tag-behind.ensures.tag, (sym c.is_free.ensures ∙ c.if-is_free.true, omega (arith, r.less))))))))

pub returns-then-is_free-clause-blocks : goal.returns-then-is_free-clause-blocks
returns-then-is_free-clause-blocks g c = rw c.next_tag-behind.ensures.reads.blocks at c.recut.ensures.blocks

pub returns-then-is_free-clause-used : goal.returns-then-is_free-clause-used
returns-then-is_free-clause-used g c = omega (arith, rw c.next_tag-behind.ensures.reads.blocks at c.recut.ensures.used, c.recut.ensures.cut (omega (arith, c.requires.less)))

pub returns-then-is_free-clause-relists : goal.returns-then-is_free-clause-relists
returns-then-is_free-clause-relists g c =
    let reads = c.next_tag-behind.ensures.reads in
    let done = c.recut.ensures.relists in
    let cut = done.edits in
    record {
      listed = done.listed;
      edits = record { words = cut.words ∙ reads.words; shows = cut.shows; linked = cut.linked; bits = cut.bits; stays = cut.stays ∙ reads.stays; touches = omega (arith, cut.touches, reads.touches); rise = omega (arith, cut.rise, reads.rise) };
      touched = λ k o. (rw reads.blocks at done.touched) k o ∙ c.next_tag-behind.ensures.touched k (any_word c.args.region.now.blocks c.args.at k o);
      groups = groups_then c.next_tag-behind.ensures.groups done.groups;
    }

-- ---- none does

pub recut-rest-requires : goal.recut-rest-requires
recut-rest-requires g c =
    let live = c.requires.live in
    let is = c.requires.own live.0 live.1 in
    let reads = c.next_tag-behind.ensures.reads in
    let next = c.next_tag-behind.ensures.tag in
    let alone = sym c.is_free.ensures ∙ c.if-is_free.false in
    let none = (next live.0 live.1).live alone in
    let f = is_between g.row.SLI (live.0, live.1, live.2.0) c.requires.region in
    let free = c.as_free.ensures in
    (omega arith, ((λ e. absurd (false≢true e), λ _. refl), (c.requires.least, (omega (arith, free.size, c.requires.less), (rw reads.blocks live, (rw (reads.blocks, reads.words) (λ i stands. whole_alone c.as_free.result (c.requires.own i stands) (next i stands) alone free.size free.free free.last free.back), rw reads.lists (λ k low high. own_unlisted g.row.SLI f (nothing_out g.row.SLI none) k low (omega (arith, high, free.size, is.size, none)))))))))

pub class_of-requires : goal.class_of-requires
class_of-requires g c =
    let live = c.requires.live in
    let is = c.requires.own live.0 live.1 in
    let f = is_between g.row.SLI (live.0, live.1, live.2.0) c.requires.region in
    let rest : c.recut-rest.result + c.args.words ≡ c.args.own.size = omega (arith, c.recut-rest.ensures.rest, c.as_free.ensures.size, c.requires.less) in
    (omega arith, (c.requires.region.order.level, (omega (arith, rest, c.requires.less), omega (arith, rest, is.size, end_within g.row.SLI f, c.requires.region.order.small, most_words_any g.row.SLI))))

pub overflow_add-at : goal.overflow_add-at
overflow_add-at g c =
    let live = c.requires.live in
    let f = is_between g.row.SLI (live.0, live.1, live.2.0) c.requires.region in
    omega (arith, (c.requires.own live.0 live.1).size, end_within g.row.SLI f, c.requires.less, c.requires.region.order.small, most_words_any g.row.SLI)

pub push-requires : goal.push-requires
push-requires g c =
    let live = c.requires.live in
    let is = c.requires.own live.0 live.1 in
    let reads = c.next_tag-behind.ensures.reads in
    let none = (c.next_tag-behind.ensures.tag live.0 live.1).live (sym c.is_free.ensures ∙ c.if-is_free.false) in
    let f = is_between g.row.SLI (live.0, live.1, live.2.0) c.requires.region in
    let out = nothing_out g.row.SLI none in
    let change = (rw reads.blocks at c.recut-rest.ensures.change) live.0 live.1 in
    let stay = rw reads.lists at change.lists in
    let large : c.args.words + 4 ≤ size_of (block_at c.args.region.now.blocks live.0) + first_free (drop (suc live.0) c.args.region.now.blocks) = omega (arith, c.requires.less, is.size) in (
      omega arith,
      (
        omega arith,
        (
          cut_free g.row.SLI f out c.args.words c.recut-rest.new.self.blocks change.blocks (list_in c.recut-rest.new.self.lists) stay c.requires.least large,
          cut_unlisted g.row.SLI f out c.args.words c.recut-rest.new.self.blocks change.blocks (list_in c.recut-rest.new.self.lists) stay c.requires.least large,
        ),
      ),
    )

pub returns-clause-blocks : goal.returns-clause-blocks
returns-clause-blocks g c i stands = c.push.ensures.blocks ∙ ((rw c.next_tag-behind.ensures.reads.blocks at c.recut-rest.ensures.change) i stands).blocks

pub returns-clause-used : goal.returns-clause-used
returns-clause-used g c =
    let live = c.requires.live in
    let bs = c.args.region.now.blocks in
    let is = c.requires.own live.0 live.1 in
    let change = (rw c.next_tag-behind.ensures.reads.blocks at c.recut-rest.ensures.change) live.0 live.1 in
    let sum = recut_used_large (take live.0 bs) (drop (suc live.0) bs) (block_at bs live.0) c.args.words c.args.tick live.2.0 (omega (arith, c.requires.less, is.size)) in
    omega (arith, sum, is.size, ap words_used (c.push.ensures.blocks ∙ change.blocks), ap words_used (around bs c.args.at live.0 live.1).is)

pub returns-clause-relists : goal.returns-clause-relists
returns-clause-relists g c =
    let live = c.requires.live in
    let bs = c.args.region.now.blocks in
    let new = c.recut-rest.new.self.blocks in
    let is = c.requires.own live.0 live.1 in
    let reads = c.next_tag-behind.ensures.reads in
    let none = (c.next_tag-behind.ensures.tag live.0 live.1).live (sym c.is_free.ensures ∙ c.if-is_free.false) in
    let f = is_between g.row.SLI (live.0, live.1, live.2.0) c.requires.region in
    let change = (rw reads.blocks at c.recut-rest.ensures.change) live.0 live.1 in
    let large : c.args.words + 4 ≤ size_of (block_at bs live.0) + first_free (drop (suc live.0) bs) = omega (arith, c.requires.less, is.size) in
    let rest : c.recut-rest.result ≡ size_of (block_at bs live.0) + first_free (drop (suc live.0) bs) - c.args.words = omega (arith, c.recut-rest.ensures.rest, c.as_free.ensures.size, is.size, none) in
    let cut = change.edits in
    let pushed = c.push.ensures.edits in
    record {
      listed = cut_listed g.row.SLI f (nothing_out g.row.SLI none) c.args.words new change.blocks (list_in c.recut-rest.new.self.lists) (rw reads.lists at change.lists) c.requires.least large
          c.push.new.self.blocks c.push.ensures.blocks c.class_of.result (list_in c.push.new.self.lists) (c.class_of.ensures ∙ ap (class_of g.row.SLI) rest) c.push.ensures.list c.push.ensures.others;
      edits = record { words = pushed.words ∙ cut.words ∙ reads.words; shows = pushed.shows; linked = pushed.linked; bits = pushed.bits; stays = pushed.stays ∙ cut.stays ∙ reads.stays; touches = omega (arith, pushed.touches, cut.touches, reads.touches); rise = omega (arith, pushed.rise, cut.rise, reads.rise) };
      touched = λ k o. c.push.ensures.touched k (any_word new c.args.at k (recut_lasts bs new c.args.at live.0 k c.args.words c.args.tick live.1 live.2.0 (omega (arith, large)) change.blocks o))
          ∙ (rw reads.blocks at c.recut-rest.ensures.touched) k o ∙ c.next_tag-behind.ensures.touched k (any_word bs c.args.at k o);
      groups = more_groups (omega arith) (groups_then (groups_then c.next_tag-behind.ensures.groups c.recut-rest.ensures.groups) c.push.ensures.groups);
    }
