use Rattle.tlsf_heap.proofs.Common.{◌≡◌, ℕ, ◌+◌, ◌-◌, List, take, drop, suc, refl, sym, ap, ◌∙◌, subst, arith, false≢true, class_of, list_in, first_free, last_free, size_of, Block, block_at, IsLiveWord}
use Rattle.tlsf_class.proofs.TwoLevels.{most_words_any}
use Rattle.tlsf_heap.proofs.lemmas.blocks.Neighbours.{inner_is}
use Rattle.tlsf_heap.proofs.lemmas.calls.Kept.{edits_both}
use Rattle.tlsf_heap.proofs.lemmas.words.Free.{with_both_are}
use Rattle.tlsf_heap.proofs.lemmas.words.Footprint.{others_last, any_word}
use Rattle.tlsf_heap.proofs.lemmas.lists.InFront.{was_taken}
use Rattle.tlsf_heap.proofs.lemmas.lists.Withheld.{tagged, ahead_is, ahead_within, ahead_region, ahead_out, behind_region, behind_listed, behind_out, size_region, end_within, before_within, contains_previous, withheld_listed, rest_unlisted, merged_free, merged_listed}
use Rattle.tlsf_words.proofs.Touching.{groups_then}
use Rattle.tlsf_heap.proofs.fitting.merge_both.Goals as goal

pub overflow_add-at : goal.overflow_add-at
overflow_add-at g c =
    let t = tagged g.row.SLI c.requires.live c.requires.tags c.requires.region in
    omega (arith, c.size.ensures.value, t.tags.is_own.size, end_within g.row.SLI t.between, c.requires.region.order.small, most_words_any g.row.SLI)

pub remove-requires : goal.remove-requires
remove-requires g c =
    let t = tagged g.row.SLI c.requires.live c.requires.tags c.requires.region in
    let next_free = c.requires.some in
    let region = behind_region g.row.SLI t next_free c.size-after.ensures.value in
    (omega arith, (c.requires.region.order.level, (region.0, (region.1, behind_listed g.row.SLI t next_free c.size-after.ensures.value c.size.ensures.value))))

pub overflow_sub-at : goal.overflow_sub-at
overflow_sub-at g c =
    let t = tagged g.row.SLI c.requires.live c.requires.tags c.requires.region in
    let previous_free = c.requires.both in
    ahead_within g.row.SLI t previous_free c.size-before.ensures.value

pub remove-requires-2 : goal.remove-requires-2
remove-requires-2 g c =
    let t = tagged g.row.SLI c.requires.live c.requires.tags c.requires.region in
    let next_free = c.requires.some in
    let previous_free = c.requires.both in
    let ahead = ahead_is g.row.SLI t previous_free c.size-before.ensures.value in
    let out = behind_out g.row.SLI t next_free c.size-after.ensures.value c.size.ensures.value c.remove.ensures in
    let region = ahead_region g.row.SLI t previous_free c.size-before.ensures.value in
    (omega arith, (c.requires.region.order.level, (region.0, (region.1, rw ahead (contains_previous g.row.SLI t.between out (t.tags.is_previous.some previous_free))))))

pub with_next-requires-clause-inner : goal.with_next-requires-clause-inner
with_next-requires-clause-inner g c =
    let t = tagged g.row.SLI c.requires.live c.requires.tags c.requires.region in
    let next_free = c.requires.some in
    inner_is c.requires.region.order.whole t.between.stands t.tags.is_own (t.tags.is_next.some next_free)

pub with_next-requires-clause-fits : goal.with_next-requires-clause-fits
with_next-requires-clause-fits g c =
    let t = tagged g.row.SLI c.requires.live c.requires.tags c.requires.region in
    let next_free = c.requires.some in
    omega (arith, t.tags.is_next.size next_free, t.tags.is_own.size, end_within g.row.SLI t.between, c.requires.region.order.small, most_words_any g.row.SLI)

pub with_previous-whole-requires-clause-fits : goal.with_previous-whole-requires-clause-fits
with_previous-whole-requires-clause-fits g c =
    let t = tagged g.row.SLI c.requires.live c.requires.tags c.requires.region in
    let next_free = c.requires.some in
    let previous_free = c.requires.both in
    omega (
      arith,
      t.tags.is_previous.size previous_free,
      c.with_next.ensures.size,
      t.tags.is_own.size,
      t.tags.is_next.size next_free,
      before_within g.row.SLI t.between,
      end_within g.row.SLI t.between,
      c.requires.region.order.small,
      most_words_any g.row.SLI,
    )

pub merge-requires : goal.merge-requires
merge-requires g c =
    let t = tagged g.row.SLI c.requires.live c.requires.tags c.requires.region in
    let next_free = c.requires.some in
    let previous_free = c.requires.both in
    let whole = c.with_previous-whole.ensures in
    let first = c.with_next.ensures in
    let are = with_both_are t.tags whole.free c.size-before.ensures.value c.size-after.ensures.value next_free previous_free (whole.size ∙ ap (λ n. c.args.previous.size + n) first.size) (whole.last ∙ first.last) whole.back in
    let out = behind_out g.row.SLI t next_free c.size-after.ensures.value c.size.ensures.value c.remove.ensures in
    let out_too = ahead_out g.row.SLI t previous_free c.size-before.ensures.value (was_taken c.remove.new.self.lists refl c.remove-2.ensures) in
    let blocks = c.remove-2.ensures.blocks ∙ c.remove.ensures.blocks in
    let left = withheld_listed g.row.SLI t.between out out_too (λ class. refl) t.i t.between.stands in
    let words = c.remove-2.ensures.edits.words ∙ c.remove.ensures.edits.words in
    let region = ahead_region g.row.SLI t previous_free c.size-before.ensures.value in
    let region_too = behind_region g.row.SLI t next_free c.size-after.ensures.value in (
      omega arith,
      (
        (λ _. omega (arith, region.0)),
        (
          (λ e. absurd (false≢true (sym e))),
          (
            (λ _. omega (arith, region_too.0)),
            (
              (λ e. absurd (false≢true (sym e))),
              (
                rw (blocks, words) (t.i, t.between.stands, are),
                λ k low high. rest_unlisted g.row.SLI t.between left k (omega (arith, low, are.before)) (omega (arith, high, are.size, are.before, before_within g.row.SLI t.between)),
              ),
            ),
          ),
        ),
      ),
    )

pub class_of-requires : goal.class_of-requires
class_of-requires g c =
    let t = tagged g.row.SLI c.requires.live c.requires.tags c.requires.region in
    let next_free = c.requires.some in
    let previous_free = c.requires.both in
    let size : c.size-2.result ≡ last_free (take t.i c.args.region.now.blocks) + size_of (block_at c.args.region.now.blocks t.i) + first_free (drop (suc t.i) c.args.region.now.blocks) =
    omega (arith, c.size-2.ensures.value, c.with_previous-whole.ensures.size, c.with_next.ensures.size, t.tags.is_own.size, t.tags.is_next.size next_free, t.tags.is_previous.size previous_free) in (
      omega arith,
      (
        c.requires.region.order.level,
        (
          omega (arith, size, (size_region g.row.SLI t.between).0),
          omega (arith, size, end_within g.row.SLI t.between, before_within g.row.SLI t.between, c.requires.region.order.small, most_words_any g.row.SLI),
        ),
      ),
    )

pub overflow_sub-at-2 : goal.overflow_sub-at-2
overflow_sub-at-2 g c =
    let t = tagged g.row.SLI c.requires.live c.requires.tags c.requires.region in
    let previous_free = c.requires.both in
    ahead_within g.row.SLI t previous_free c.size-before.ensures.value

pub push-requires : goal.push-requires
push-requires g c =
    let t = tagged g.row.SLI c.requires.live c.requires.tags c.requires.region in
    let next_free = c.requires.some in
    let previous_free = c.requires.both in
    let ahead = ahead_is g.row.SLI t previous_free c.size-before.ensures.value in
    let out = behind_out g.row.SLI t next_free c.size-after.ensures.value c.size.ensures.value c.remove.ensures in
    let out_too = ahead_out g.row.SLI t previous_free c.size-before.ensures.value (was_taken c.remove.new.self.lists refl c.remove-2.ensures) in
    let blocks = c.remove-2.ensures.blocks ∙ c.remove.ensures.blocks in
    let change = (rw blocks at c.merge.ensures.change) t.i t.between.stands in
    let left = withheld_listed g.row.SLI t.between out out_too change.lists t.i t.between.stands in
    let place : c.args.at - last_free (take t.i c.args.region.now.blocks) ≡ c.args.at - c.size-before.result = ap (λ (n : ℕ). c.args.at - n) (sym ahead) in (
      omega arith,
      (
        omega arith,
        (
          rw (sym place) (merged_free g.row.SLI t.between left c.merge.new.self.blocks change.blocks),
          rw (sym place) (rest_unlisted g.row.SLI t.between left _ (omega arith) (omega (arith, (size_region g.row.SLI t.between).0))),
        ),
      ),
    )

pub returns-clause-blocks : goal.returns-clause-blocks
returns-clause-blocks g c =
    let blocks = c.remove-2.ensures.blocks ∙ c.remove.ensures.blocks in λ i stands. c.push.ensures.blocks ∙ ((rw blocks at c.merge.ensures.change) i stands).blocks

pub returns-clause-relists : goal.returns-clause-relists
returns-clause-relists g c =
    let bs = c.args.region.now.blocks in
    let t = tagged g.row.SLI c.requires.live c.requires.tags c.requires.region in
    let next_free = c.requires.some in
    let previous_free = c.requires.both in
    let ahead = ahead_is g.row.SLI t previous_free c.size-before.ensures.value in
    let out = behind_out g.row.SLI t next_free c.size-after.ensures.value c.size.ensures.value c.remove.ensures in
    let out_too = ahead_out g.row.SLI t previous_free c.size-before.ensures.value (was_taken c.remove.new.self.lists refl c.remove-2.ensures) in
    let blocks = c.remove-2.ensures.blocks ∙ c.remove.ensures.blocks in
    let change = (rw blocks at c.merge.ensures.change) t.i t.between.stands in
    let merged = (c.merge.ensures.change t.i (rw blocks t.between.stands)).edits in
    let left = withheld_listed g.row.SLI t.between out out_too change.lists t.i t.between.stands in
    let size : c.size-2.result ≡ last_free (take t.i bs) + size_of (block_at bs t.i) + first_free (drop (suc t.i) bs) =
    omega (arith, c.size-2.ensures.value, c.with_previous-whole.ensures.size, c.with_next.ensures.size, t.tags.is_own.size, t.tags.is_next.size next_free, t.tags.is_previous.size previous_free) in
    let place : c.args.at - last_free (take t.i bs) ≡ c.args.at - c.size-before.result = ap (λ (n : ℕ). c.args.at - n) (sym ahead) in
    record {
      listed = merged_listed g.row.SLI t.between left c.push.new.self.blocks (c.push.ensures.blocks ∙ change.blocks) c.class_of.result (list_in c.merge.new.self.lists) (list_in c.push.new.self.lists) (c.class_of.ensures ∙ ap (class_of g.row.SLI) size) (λ class. refl)
          (rw place c.push.ensures.list) c.push.ensures.others;
      edits = edits_both (omega arith) c.remove.ensures.edits (edits_both {most = 19} (omega arith) c.remove-2.ensures.edits (edits_both {most = 13} (omega arith) merged c.push.ensures.edits));
      touched = λ k o. c.push.ensures.touched k (subst (λ (l : List Block). IsLiveWord l k) (sym change.blocks) (others_last c.args.tick bs c.args.at t.i k t.between.stands o))
          ∙ (rw blocks at c.merge.ensures.touched) k (any_word bs c.args.at k o) ∙ (rw c.remove.ensures.blocks at c.remove-2.ensures.touched) k (any_word bs c.args.at k o) ∙ c.remove.ensures.touched k (any_word bs c.args.at k o);
      groups = groups_then (groups_then (groups_then c.remove.ensures.groups c.remove-2.ensures.groups) c.merge.ensures.groups) c.push.ensures.groups;
    }
