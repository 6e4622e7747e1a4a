use Rattle.tlsf_heap.proofs.Common.{ℕ, ◌+◌, ◌<◌, ◌≤◌, ap, ◌∙◌, subst, arith, class_of, payload_byte, lying, block_at, site_at}
use Rattle.tlsf_class.proofs.TwoLevels.{most_words_any}
use Rattle.tlsf_heap.proofs.lemmas.lists.Carved.{is_out, out_unlisted, end_within, by_grant, by_split, split_rest_free, split_rest_unlisted}
use Rattle.tlsf_heap.proofs.lemmas.words.Bytes.{length-bytes_in}
use Rattle.tlsf_heap.proofs.lemmas.words.Footprint.{kept_others, free_elsewhere, any_word}
use Rattle.tlsf_heap.proofs.lemmas.blocks.Around.{one_index, around, region_around}
use Rattle.tlsf_heap.proofs.lemmas.blocks.Used.{used_site, free_used}
use Rattle.tlsf_heap.specs.CarvedUnset.{CarvedUnset}
use Rattle.tlsf_heap.specs.WordsInUse.{words_used}
use Rattle.tlsf_words.proofs.Touching.{more_groups, groups_then}
use Rattle.tlsf_heap.proofs.fitting.give.Goals as goal

pub grant-requires : goal.grant-requires
grant-requires g c =
    let t = is_out g.row.SLI {old = c.args.region.now} c.requires.free c.requires.own c.requires.sized c.requires.listed c.requires.stamped in (
      omega arith,
      (
        (c.requires.free.0, c.requires.free.1, t.is_own),
        ((t.is_own.free ∙ t.here.free), (omega (arith, c.requires.payload, c.requires.free.2.1, t.is_own.size), out_unlisted g.row.SLI t)),
      ),
    )

pub split-requires : goal.split-requires
split-requires g c =
    let t = is_out g.row.SLI {old = c.args.region.now} c.requires.free c.requires.own c.requires.sized c.requires.listed c.requires.stamped in
    let rest = c.rest_of-rest.ensures.rest in (
      omega arith,
      (
        (c.requires.free.0, c.requires.free.1, t.is_own),
        (
          (t.is_own.free ∙ t.here.free),
          (
            record { size = rest.size; free = rest.free; last = rest.last; back = rest.back },
            (
              omega (arith, c.requires.payload),
              (omega (arith, c.if-left-lt4.false, c.rest_of-rest.ensures.left), out_unlisted g.row.SLI t),
            ),
          ),
        ),
      ),
    )

pub overflow_add-at : goal.overflow_add-at
overflow_add-at g c =
    let t = is_out g.row.SLI {old = c.args.region.now} c.requires.free c.requires.own c.requires.sized c.requires.listed c.requires.stamped in
    omega (arith, c.requires.small, most_words_any g.row.SLI, end_within g.row.SLI t.here, c.requires.free.2.1)

pub push-requires : goal.push-requires
push-requires g c =
    let t = is_out g.row.SLI {old = c.args.region.now} c.requires.free c.requires.own c.requires.sized c.requires.listed c.requires.stamped in
    let bytes = lying c.split.new.self.stored c.args.at c.args.len in
    let large : c.args.words + 4 ≤ c.args.own.size = omega (arith, c.if-left-lt4.false, c.rest_of-rest.ensures.left) in (
      omega arith,
      (
        omega arith,
        (
          split_rest_free g.row.SLI t c.args.words c.args.len bytes large c.split.ensures.change,
          split_rest_unlisted g.row.SLI t c.args.words c.args.len bytes large c.split.ensures.change,
        ),
      ),
    )

pub returns-then-left-lt4-clause-carved : goal.returns-then-left-lt4-clause-carved
returns-then-left-lt4-clause-carved g c i stands =
    let bs = c.args.region.now.blocks in
    let free = c.requires.free in
    let t = is_out g.row.SLI {old = c.args.region.now} free c.requires.own c.requires.sized c.requires.listed c.requires.stamped in
    let small : c.args.own.size < c.args.words + 4 = omega (arith, c.if-left-lt4.true, c.rest_of-rest.ensures.left) in
    subst (λ (j : ℕ). CarvedUnset g.row.SLI c.args.region.now c.grant.new.self (site_at bs j) c.args.at c.args.words c.args.serial c.args.len 15) (one_index g.row.SLI bs c.args.at free.0 i c.requires.sized free.1 stands)
    (by_grant g.row.SLI t c.args.words c.args.len small c.grant.ensures.change)

-- the block that was free had no word in use
pub returns-then-left-lt4-clause-used : goal.returns-then-left-lt4-clause-used
returns-then-left-lt4-clause-used g c =
    let bs = c.args.region.now.blocks in
    let free = c.requires.free in
    let own = (c.requires.own free.0 free.1).size in
    omega (arith, used_site bs c.grant.new.self.blocks free.1 _ (c.grant.ensures.change free.0 free.1).blocks, free_used (block_at bs free.0) free.2.0, c.grant.ensures.size, own)

pub returns-clause-used : goal.returns-clause-used
returns-clause-used g c =
    let bs = c.args.region.now.blocks in
    let free = c.requires.free in
    omega (arith, used_site bs c.split.new.self.blocks free.1 _ (c.split.ensures.change free.0 free.1).blocks, free_used (block_at bs free.0) free.2.0, ap words_used c.push.ensures.blocks)

pub returns-clause-carved : goal.returns-clause-carved
returns-clause-carved g c i stands =
    let bs = c.args.region.now.blocks in
    let free = c.requires.free in
    let t = is_out g.row.SLI {old = c.args.region.now} free c.requires.own c.requires.sized c.requires.listed c.requires.stamped in
    let split = c.split.new.self.stored in
    let large : c.args.words + 4 ≤ c.args.own.size = omega (arith, c.if-left-lt4.false, c.rest_of-rest.ensures.left) in
    subst (λ (j : ℕ). CarvedUnset g.row.SLI c.args.region.now c.push.new.self (site_at bs j) c.args.at c.args.words c.args.serial c.args.len 15) (one_index g.row.SLI bs c.args.at free.0 i c.requires.sized free.1 stands)
    (by_split g.row.SLI t c.args.words c.args.len (lying split c.args.at c.args.len) large c.split.ensures.change (length-bytes_in split.words (payload_byte c.args.at 0) c.args.len)
    (c.class_of.ensures ∙ ap (class_of g.row.SLI) c.rest_of-rest.ensures.left) c.push.ensures)

-- ---- the payloads of live blocks

-- where the block has its header, the word is still one of a live block
pub returns-clause-touched : goal.returns-clause-touched
returns-clause-touched g c k live =
    let bs = c.args.region.now.blocks in
    let free = c.requires.free in
    let at = c.args.at in
    let own = (c.requires.own free.0 free.1).size in
    let some = (region_around g.row.SLI (around bs at free.0 free.1) c.requires.sized).0 in
    let large : c.args.words + 4 ≤ c.args.own.size = omega (arith, c.if-left-lt4.false, c.rest_of-rest.ensures.left) in
    let other = free_elsewhere bs at free.0 k free.1 free.2.0 (omega (arith, some)) live in
    let last = kept_others bs c.split.new.self.blocks _ at free.0 k free.1 (c.split.ensures.change free.0 free.1).blocks (omega (arith, large, own)) other in
    c.push.ensures.touched k (any_word c.split.new.self.blocks at k last) ∙ c.split.ensures.touched k live

-- ---- groups of eight words

pub returns-then-left-lt4-clause-groups : goal.returns-then-left-lt4-clause-groups
returns-then-left-lt4-clause-groups g c = more_groups (omega arith) c.grant.ensures.groups

pub returns-clause-groups : goal.returns-clause-groups
returns-clause-groups g c = groups_then c.split.ensures.groups c.push.ensures.groups
