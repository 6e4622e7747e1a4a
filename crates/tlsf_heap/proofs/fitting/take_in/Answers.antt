use Rattle.tlsf_heap.proofs.Common.{◌≡◌, ℕ, ◌+◌, ◌-◌, ◌∷◌, List, refl, sym, ap, ◌∙◌, subst, arith, Contains, false≢true, class_of, Block, IsLiveWord, list_in, take, without_place}
use Rattle.tlsf_heap.proofs.lemmas.blocks.Around.{last_words}
use Rattle.tlsf_heap.proofs.lemmas.lists.InFront.{without_in, is_without, was_taken, unlisted_behind, coalesced_free}
use Rattle.tlsf_heap.proofs.lemmas.words.Footprint.{others_last}
use Rattle.tlsf_words.proofs.Touching.{more_groups, groups_then}
use Rattle.tlsf_heap.proofs.fitting.take_in.Goals as goal

pub overflow_sub-place : goal.overflow_sub-place
overflow_sub-place g c =
    let around = c.requires.around in
    omega (arith, around.2.before, last_words (take around.0 c.args.region.now.blocks), around.1.place)

-- ---- the block before is the first of the list: it stays

pub merge-requires : goal.merge-requires
merge-requires g c =
    let reads = c.is_first.ensures.reads in (
      omega arith,
      (
        (λ _. omega (arith, c.requires.before.0)),
        (
          (λ e. absurd (false≢true (sym e))),
          (
            (λ e. absurd (false≢true e)),
            (
              (λ _. refl),
              (
                rw (reads.blocks, reads.words) c.requires.around,
                rw reads.lists (unlisted_behind (list_in c.args.region.now.lists) (class_of g.row.SLI c.args.before) (c.args.at - c.args.before) (c.args.at - c.args.before + c.args.tag.size) c.requires.unlisted),
              ),
            ),
          ),
        ),
      ),
    )

pub returns-then-number-clause-blocks : goal.returns-then-number-clause-blocks
returns-then-number-clause-blocks g c i stands = let change = (rw c.is_first.ensures.reads.blocks at c.merge.ensures.change) i stands in change.blocks

pub returns-then-number-clause-lists : goal.returns-then-number-clause-lists
returns-then-number-clause-lists g c =
    let place = c.args.at - c.args.before in
    let old = list_in c.args.region.now.lists in
    let from = class_of g.row.SLI c.args.before in
    let reads = c.is_first.ensures.reads in
    let head : old from ≡ place ∷ without_place place (old from) = (c.is_first.ensures.first from c.requires.listed).0 c.if-is_first.true in
    let to : from ≡ class_of g.row.SLI c.args.tag.size = sym c.class_of-from.ensures ∙ sym c.number.ensures.value ∙ c.if-number.true ∙ c.number-then-is_first.ensures.value ∙ c.class_of-to.ensures ∙ ap (class_of g.row.SLI) c.size.ensures.value in
    let left = is_without old from place in
    let around = c.requires.around in
    let change = (rw reads.blocks at c.merge.ensures.change) around.0 around.1 in
    let kept : (class : ℕ) → list_in c.merge.new.self.lists class ≡ old class = λ class. change.lists class ∙ ap (λ l. list_in l class) reads.lists in
    record {
      left = without_in old from place;
      without = left;
      list = subst (λ (class : ℕ). list_in c.merge.new.self.lists class ≡ place ∷ without_in old from place class) to
          (kept from ∙ head ∙ ap (λ (places : List ℕ). place ∷ places) (sym left.out));
      others = λ other n. kept other ∙ sym (left.others other (λ e. n (e ∙ to)));
    }

pub returns-then-number-clause-edits : goal.returns-then-number-clause-edits
returns-then-number-clause-edits g c =
    let reads = c.is_first.ensures.reads in
    let around = c.requires.around in
    let merged = ((rw reads.blocks at c.merge.ensures.change) around.0 around.1).edits in
    record { words = merged.words ∙ reads.words; shows = merged.shows; linked = merged.linked; bits = merged.bits; stays = merged.stays ∙ reads.stays; touches = omega (arith, merged.touches, reads.touches); rise = omega (arith, merged.rise, reads.rise) }

pub returns-then-number-clause-touched : goal.returns-then-number-clause-touched
returns-then-number-clause-touched g c k o =
    let reads = c.is_first.ensures.reads in
    (rw reads.blocks at c.merge.ensures.touched) k (o.0, o.1, o.2, o.3) ∙ c.is_first.ensures.touched k (o.0, o.1, o.2, o.3)

pub returns-then-number-clause-groups : goal.returns-then-number-clause-groups
returns-then-number-clause-groups g c = more_groups {n = 9} (omega arith) (groups_then c.is_first.ensures.groups c.merge.ensures.groups)

-- ---- it is taken out

pub remove-requires : goal.remove-requires
remove-requires g c =
    let reads = c.is_first.ensures.reads in
    (omega arith, (c.requires.level, (c.requires.before.0, (c.requires.before.1, rw reads.lists c.requires.listed))))

pub merge-requires-2 : goal.merge-requires-2
merge-requires-2 g c =
    let reads = c.is_first.ensures.reads in
    let out = c.remove.ensures in
    let blocks = out.blocks ∙ reads.blocks in
    let words = out.edits.words ∙ reads.words in
    let none = c.requires.unlisted (list_in c.remove.new.self.lists) (was_taken c.args.region.now.lists reads.lists out) in (
      omega arith,
      (
        (λ _. omega (arith, c.requires.before.0)),
        (
          (λ e. absurd (false≢true (sym e))),
          (
            (λ e. absurd (false≢true e)),
            (
              (λ _. refl),
              (rw (blocks, words) c.requires.around, λ k low high. none k (omega (arith, low)) high),
            ),
          ),
        ),
      ),
    )

pub push-requires : goal.push-requires
push-requires g c =
    let reads = c.is_first.ensures.reads in
    let out = c.remove.ensures in
    let blocks = out.blocks ∙ reads.blocks in
    let around = c.requires.around in
    let change = (rw blocks at c.merge-2.ensures.change) around.0 around.1 in
    let none = c.requires.unlisted (list_in c.remove.new.self.lists) (was_taken c.args.region.now.lists reads.lists out) in (
      omega arith,
      (
        omega arith,
        (
          coalesced_free c.args.tick around.1 around.2.before change.blocks,
          λ class listed. none (c.args.at - c.args.before) (omega arith) (omega (arith, c.requires.before.0, around.2.before, around.2.size)) class (subst (λ (places : List ℕ). Contains places (c.args.at - c.args.before)) (change.lists class) listed),
        ),
      ),
    )

pub returns-clause-blocks : goal.returns-clause-blocks
returns-clause-blocks g c i stands =
    let blocks = c.remove.ensures.blocks ∙ c.is_first.ensures.reads.blocks in
    let change = (rw blocks at c.merge-2.ensures.change) i stands in
    c.push.ensures.blocks ∙ change.blocks

pub returns-clause-lists : goal.returns-clause-lists
returns-clause-lists g c =
    let around = c.requires.around in
    let blocks = c.remove.ensures.blocks ∙ c.is_first.ensures.reads.blocks in
    let change = (rw blocks at c.merge-2.ensures.change) around.0 around.1 in
    let to : c.class_of.result ≡ class_of g.row.SLI c.args.tag.size = c.class_of.ensures ∙ ap (class_of g.row.SLI) c.size-2.ensures.value in
    record {
      left = list_in c.remove.new.self.lists;
      without = was_taken c.args.region.now.lists c.is_first.ensures.reads.lists c.remove.ensures;
      list = subst (λ (class : ℕ). list_in c.push.new.self.lists class ≡ (c.args.at - c.args.before) ∷ list_in c.remove.new.self.lists class) to
          (c.push.ensures.list ∙ ap (λ (places : List ℕ). (c.args.at - c.args.before) ∷ places) (change.lists c.class_of.result));
      others = λ other n. c.push.ensures.others other (λ e. n (e ∙ to)) ∙ change.lists other;
    }

pub returns-clause-edits : goal.returns-clause-edits
returns-clause-edits g c =
    let reads = c.is_first.ensures.reads in
    let around = c.requires.around in
    let merged = ((rw (c.remove.ensures.blocks ∙ reads.blocks) at c.merge-2.ensures.change) around.0 around.1).edits in
    let out = c.remove.ensures.edits in
    let put = c.push.ensures.edits in
    record { words = put.words ∙ merged.words ∙ out.words ∙ reads.words; shows = put.shows; linked = put.linked; bits = put.bits; stays = put.stays ∙ merged.stays ∙ out.stays ∙ reads.stays; touches = omega (arith, put.touches, merged.touches, out.touches, reads.touches); rise = omega (arith, put.rise, merged.rise, out.rise, reads.rise) }

pub returns-clause-touched : goal.returns-clause-touched
returns-clause-touched g c k o =
    let reads = c.is_first.ensures.reads in
    let out = c.remove.ensures in
    let blocks = out.blocks ∙ reads.blocks in
    let around = c.requires.around in
    let bs = c.args.region.now.blocks in
    let change = (rw blocks at c.merge-2.ensures.change) around.0 around.1 in
    let word : IsLiveWord bs k = (o.0, o.1, o.2, o.3) in
    c.push.ensures.touched k (subst (λ (l : List Block). IsLiveWord l k) (sym change.blocks) (others_last c.args.tick bs c.args.at around.0 k around.1 o))
    ∙ (rw blocks at c.merge-2.ensures.touched) k word ∙ (rw reads.blocks at out.touched) k word ∙ c.is_first.ensures.touched k word

pub returns-clause-groups : goal.returns-clause-groups
returns-clause-groups g c = groups_then (groups_then (groups_then c.is_first.ensures.groups c.remove.ensures.groups) c.merge-2.ensures.groups) c.push.ensures.groups
