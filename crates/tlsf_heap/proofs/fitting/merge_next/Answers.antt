use Rattle.tlsf_heap.proofs.Common.{◌≡◌, ◌+◌, ◌-◌, List, take, drop, suc, refl, sym, ap, ◌∙◌, subst, arith, false≢true, class_of, list_in, first_free, last_free, size_of, Block, block_at, IsLiveWord}
use Rattle.tlsf_class.proofs.TwoLevels.{most_words_any}
use Rattle.tlsf_heap.proofs.lemmas.blocks.Neighbours.{inner_is}
use Rattle.tlsf_heap.proofs.lemmas.calls.Kept.{edits_both}
use Rattle.tlsf_heap.proofs.lemmas.words.Free.{with_next_are}
use Rattle.tlsf_heap.proofs.lemmas.words.Footprint.{others_last, any_word}
use Rattle.tlsf_heap.proofs.lemmas.lists.Withheld.{tagged_next, behind_region, behind_listed, behind_out, nothing_out, size_region, end_within, before_within, withheld_listed, rest_unlisted, merged_free, merged_listed, none_ahead}
use Rattle.tlsf_words.proofs.Touching.{more_groups, groups_then}
use Rattle.tlsf_heap.proofs.fitting.merge_next.Goals as goal

pub overflow_add-at : goal.overflow_add-at
overflow_add-at g c =
    let t = tagged_next g.row.SLI c.requires.live c.requires.own c.requires.next c.requires.none c.requires.region in
    omega (arith, c.size.ensures.value, t.tags.is_own.size, end_within g.row.SLI t.between, c.requires.region.order.small, most_words_any g.row.SLI)

pub remove-requires : goal.remove-requires
remove-requires g c =
    let t = tagged_next g.row.SLI c.requires.live c.requires.own c.requires.next c.requires.none c.requires.region in
    let next_free = c.requires.some in
    let region = behind_region g.row.SLI t next_free c.size-after.ensures.value in
    (omega arith, (c.requires.region.order.level, (region.0, (region.1, behind_listed g.row.SLI t next_free c.size-after.ensures.value c.size.ensures.value))))

pub with_next-whole-requires-clause-inner : goal.with_next-whole-requires-clause-inner
with_next-whole-requires-clause-inner g c =
    let t = tagged_next g.row.SLI c.requires.live c.requires.own c.requires.next c.requires.none c.requires.region in
    let next_free = c.requires.some in
    inner_is c.requires.region.order.whole t.between.stands t.tags.is_own (t.tags.is_next.some next_free)

pub with_next-whole-requires-clause-fits : goal.with_next-whole-requires-clause-fits
with_next-whole-requires-clause-fits g c =
    let t = tagged_next g.row.SLI c.requires.live c.requires.own c.requires.next c.requires.none c.requires.region in
    let next_free = c.requires.some in
    omega (arith, t.tags.is_next.size next_free, t.tags.is_own.size, end_within g.row.SLI t.between, c.requires.region.order.small, most_words_any g.row.SLI)

pub merge-requires : goal.merge-requires
merge-requires g c =
    let t = tagged_next g.row.SLI c.requires.live c.requires.own c.requires.next c.requires.none c.requires.region in
    let next_free = c.requires.some in
    let whole = c.with_next-whole.ensures in
    let are = with_next_are t.tags whole.free c.size-after.ensures.value next_free refl (none_ahead g.row.SLI t.between (c.requires.none t.i t.between.stands)) whole.size whole.last whole.back in
    let left = withheld_listed g.row.SLI t.between (behind_out g.row.SLI t next_free c.size-after.ensures.value c.size.ensures.value c.remove.ensures) (nothing_out g.row.SLI (c.requires.none t.i t.between.stands)) (λ class. refl) t.i t.between.stands in
    let region = behind_region g.row.SLI t next_free c.size-after.ensures.value in (
      omega arith,
      (
        (λ e. absurd (false≢true e)),
        (
          (λ _. refl),
          (
            (λ _. omega (arith, region.0)),
            (
              (λ e. absurd (false≢true (sym e))),
              (
                rw (c.remove.ensures.blocks, c.remove.ensures.edits.words) (t.i, t.between.stands, are),
                λ k low high. rest_unlisted g.row.SLI t.between left k (omega (arith, low, are.before)) (omega (arith, high, are.size, are.before, before_within g.row.SLI t.between)),
              ),
            ),
          ),
        ),
      ),
    )

pub class_of-requires : goal.class_of-requires
class_of-requires g c =
    let t = tagged_next g.row.SLI c.requires.live c.requires.own c.requires.next c.requires.none c.requires.region in
    let next_free = c.requires.some in
    let whole = c.with_next-whole.ensures.size in (
      omega arith,
      (
        c.requires.region.order.level,
        (
          omega (arith, c.size-2.ensures.value, whole, t.tags.is_own.size, (size_region g.row.SLI t.between).0),
          omega (arith, c.size-2.ensures.value, whole, t.tags.is_own.size, t.tags.is_next.size next_free, end_within g.row.SLI t.between, c.requires.region.order.small, most_words_any g.row.SLI),
        ),
      ),
    )

pub push-requires : goal.push-requires
push-requires g c =
    let t = tagged_next g.row.SLI c.requires.live c.requires.own c.requires.next c.requires.none c.requires.region in
    let next_free = c.requires.some in
    let none = c.requires.none t.i t.between.stands in
    let change = (rw c.remove.ensures.blocks at c.merge.ensures.change) t.i t.between.stands in
    let left = withheld_listed g.row.SLI t.between (behind_out g.row.SLI t next_free c.size-after.ensures.value c.size.ensures.value c.remove.ensures) (nothing_out g.row.SLI none) change.lists t.i t.between.stands in
    let here : c.args.at - last_free (take t.i c.args.region.now.blocks) ≡ c.args.at = omega (arith, none) in (
      omega arith,
      (
        omega arith,
        (
          rw (sym here) (merged_free g.row.SLI t.between left c.merge.new.self.blocks change.blocks),
          rest_unlisted g.row.SLI t.between left c.args.at (omega arith) (omega (arith, (size_region g.row.SLI t.between).0)),
        ),
      ),
    )

pub returns-clause-relists : goal.returns-clause-relists
returns-clause-relists g c =
    let bs = c.args.region.now.blocks in
    let t = tagged_next g.row.SLI c.requires.live c.requires.own c.requires.next c.requires.none c.requires.region in
    let next_free = c.requires.some in
    let none = c.requires.none t.i t.between.stands in
    let change = (rw c.remove.ensures.blocks at c.merge.ensures.change) t.i t.between.stands in
    let merged = (c.merge.ensures.change t.i (rw c.remove.ensures.blocks t.between.stands)).edits in
    let left = withheld_listed g.row.SLI t.between (behind_out g.row.SLI t next_free c.size-after.ensures.value c.size.ensures.value c.remove.ensures) (nothing_out g.row.SLI none) change.lists t.i t.between.stands in
    let here : c.args.at - last_free (take t.i bs) ≡ c.args.at = omega (arith, none) in
    let size : c.size-2.result ≡ last_free (take t.i bs) + size_of (block_at bs t.i) + first_free (drop (suc t.i) bs) =
    omega (arith, c.size-2.ensures.value, c.with_next-whole.ensures.size, t.tags.is_own.size, t.tags.is_next.size next_free, none) in
    record {
      listed = merged_listed g.row.SLI t.between left c.push.new.self.blocks (c.push.ensures.blocks ∙ change.blocks) c.class_of.result (list_in c.merge.new.self.lists) (list_in c.push.new.self.lists) (c.class_of.ensures ∙ ap (class_of g.row.SLI) size) (λ class. refl)
          (rw here c.push.ensures.list) c.push.ensures.others;
      edits = edits_both (omega arith) c.remove.ensures.edits (edits_both {most = 13} (omega arith) merged c.push.ensures.edits);
      touched = λ k o. c.push.ensures.touched k (subst (λ (l : List Block). IsLiveWord l k) (sym change.blocks) (others_last c.args.tick bs c.args.at t.i k t.between.stands o))
          ∙ (rw c.remove.ensures.blocks at c.merge.ensures.touched) k (any_word bs c.args.at k o) ∙ c.remove.ensures.touched k (any_word bs c.args.at k o);
      groups = more_groups (omega arith) (groups_then (groups_then c.remove.ensures.groups c.merge.ensures.groups) c.push.ensures.groups);
    }
