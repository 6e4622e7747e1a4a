use Rattle.tlsf_heap.proofs.Common.{rules, ◌≡◌, ℕ, ◌+◌, refl, sym, ap, ◌∙◌, subst, Ok, Err, arith, class_of, HeapState, size_of, words_in, IsPlace, block_at, site_at, IsTagOf, Shown, state_of, Stale, NoRoom, Worn, InGroups, bytes_in}
use Rattle.tlsf_heap.proofs.lemmas.calls.Allocate.{lawful_regions}
use Rattle.tlsf_heap.proofs.lemmas.lists.Carved.{IsFreeHere, contains_here, region_here, taken_each}
use Rattle.tlsf_heap.proofs.lemmas.calls.AllocateFrom.{GivesFrom, from_nowhere, from_small, from_worn, from_done, free_not_wild}
use Rattle.tlsf_heap.proofs.lemmas.blocks.Lawful.{with_region}
use Rattle.tlsf_heap.proofs.lemmas.words.Says.{at_index}
use Rattle.tlsf_heap.proofs.lemmas.calls.Kept.{keeps_stored, more_use, stored_read}
use Rattle.tlsf_heap.proofs.lemmas.blocks.Used.{used_small}
use Rattle.tlsf_heap.proofs.lemmas.calls.Leaves.{seen_live}
use Rattle.tlsf_words.proofs.Touching.{more_groups, groups_then}
use Rattle.tlsf_heap.proofs.heap.Heap.words_from.Given.{Over}
use Rattle.tlsf_heap.proofs.lemmas.calls.Frames.{found_read, same_peak, settles_found}
use Rattle.tlsf_heap.proofs.heap.Heap.words_from.Goals as goal

-- ---- no free block begins there

nobody : (g : Over) (c : goal.In_default g) → GivesFrom c.args.self.now.heap c.args.at c.args.words (Err Stale) (with_region (state_of g.row.SLI c.self.inside) c.self.inside.tick c.free_at.new.self)
nobody g c =
    let reads = c.free_at.ensures.reads in
    let h : HeapState = state_of g.row.SLI c.self.inside in
    let k : HeapState = with_region h c.self.inside.tick c.free_at.new.self in
    let same : k ≡ h = rw (reads.words, reads.blocks) refl in
    subst (λ (s : HeapState). GivesFrom s c.args.at c.args.words (Err Stale) k) (ap (λ (s : Shown). s.heap) c.self.view_is)
    (from_nowhere h k c.args.at c.args.words c.self.invariant.lawful same c.in_default.ensures.answer)

pub returns-in_default-clause-answer : goal.returns-in_default-clause-answer
returns-in_default-clause-answer g c = (nobody g c).is_answer

pub returns-in_default-clause-heap : goal.returns-in_default-clause-heap
returns-in_default-clause-heap g c = (nobody g c).is_heap

pub returns-in_default-clause-cases : goal.returns-in_default-clause-cases
returns-in_default-clause-cases g c = (nobody g c).cases

pub returns-in_default-clause-frame : goal.returns-in_default-clause-frame
returns-in_default-clause-frame g c =
    let look = found_read g.row.SLI c.self.inside c.self.view_is c.self.invariant _ c.free_at.ensures.reads c.free_at.ensures.touched c.free_at.ensures.groups in
    settles_found (omega arith) (same_peak look.same look.keeps) look

-- ---- it has too few words

small : (g : Over) (c : goal.Then-size-words g) → GivesFrom c.args.self.now.heap c.args.at c.args.words (Err NoRoom) (with_region (state_of g.row.SLI c.self.inside) c.self.inside.tick c.free_at.new.self)
small g c =
    let reads = c.free_at.ensures.reads in
    let l = c.in-Some.ensures.answer in
    let h : HeapState = state_of g.row.SLI c.self.inside in
    let k : HeapState = with_region h c.self.inside.tick c.free_at.new.self in
    let same : k ≡ h = rw (reads.words, reads.blocks) refl in
    subst (λ (s : HeapState). GivesFrom s c.args.at c.args.words (Err NoRoom) k) (ap (λ (s : Shown). s.heap) c.self.view_is)
    (from_small h k c.args.at c.args.words c.self.invariant.lawful same l.0 l.1 (omega (arith, l.2.size, c.size-size.ensures.value, c.if-size-words.true)))

pub returns-then-size-words-clause-answer : goal.returns-then-size-words-clause-answer
returns-then-size-words-clause-answer g c = (small g c).is_answer

pub returns-then-size-words-clause-heap : goal.returns-then-size-words-clause-heap
returns-then-size-words-clause-heap g c = (small g c).is_heap

pub returns-then-size-words-clause-cases : goal.returns-then-size-words-clause-cases
returns-then-size-words-clause-cases g c = (small g c).cases

pub returns-then-size-words-clause-frame : goal.returns-then-size-words-clause-frame
returns-then-size-words-clause-frame g c =
    let look = found_read g.row.SLI c.self.inside c.self.view_is c.self.invariant _ c.free_at.ensures.reads c.free_at.ensures.touched c.free_at.ensures.groups in
    settles_found (omega arith) (same_peak look.same look.keeps) look

-- ---- the tick is at its last value

worn : (g : Over) (c : goal.Then-self g) → GivesFrom c.args.self.now.heap c.args.at c.args.words (Err Worn) (with_region (state_of g.row.SLI c.self.inside) c.self.inside.tick c.free_at.new.self)
worn g c =
    let reads = c.free_at.ensures.reads in
    let l = c.in-Some.ensures.answer in
    let h : HeapState = state_of g.row.SLI c.self.inside in
    let k : HeapState = with_region h c.self.inside.tick c.free_at.new.self in
    let same : k ≡ h = rw (reads.words, reads.blocks) refl in
    subst (λ (s : HeapState). GivesFrom s c.args.at c.args.words (Err Worn) k) (ap (λ (s : Shown). s.heap) c.self.view_is)
    (from_worn h k c.args.at c.args.words c.self.invariant.lawful same l.0 l.1 (omega (arith, l.2.size, c.size-size.ensures.value, c.if-size-words.false)) c.if-self.true)

pub returns-then-self-clause-answer : goal.returns-then-self-clause-answer
returns-then-self-clause-answer g c = (worn g c).is_answer

pub returns-then-self-clause-heap : goal.returns-then-self-clause-heap
returns-then-self-clause-heap g c = (worn g c).is_heap

pub returns-then-self-clause-cases : goal.returns-then-self-clause-cases
returns-then-self-clause-cases g c = (worn g c).cases

pub returns-then-self-clause-frame : goal.returns-then-self-clause-frame
returns-then-self-clause-frame g c =
    let look = found_read g.row.SLI c.self.inside c.self.view_is c.self.invariant _ c.free_at.ensures.reads c.free_at.ensures.touched c.free_at.ensures.groups in
    settles_found (omega arith) (same_peak look.same look.keeps) look

-- ---- it is taken out of its list, and given

pub remove-requires : goal.remove-requires
remove-requires g c =
    let reads = c.free_at.ensures.reads in
    let l = c.in-Some.ensures.answer in
    let sized = lawful_regions g.row.SLI (state_of g.row.SLI c.self.inside) c.self.invariant.lawful c.self.invariant.small in
    let f : IsFreeHere g.row.SLI c.self.inside.region.blocks c.args.at l.0 = record { stands = l.1.stands; free = l.1.free; regions = sized } in
    let size = c.size-size.ensures.value ∙ l.2.size in
    let region = region_here g.row.SLI f in
    (omega arith, (c.self.invariant.level, (omega (arith, size, region.0), (omega (arith, size, region.1), rw (reads.lists, size) (contains_here g.row.SLI f c.self.invariant.listed)))))

pub give-given-requires : goal.give-given-requires
give-given-requires g c =
    let reads = c.free_at.ensures.reads in
    let l = c.in-Some.ensures.answer in
    let sized = lawful_regions g.row.SLI (state_of g.row.SLI c.self.inside) c.self.invariant.lawful c.self.invariant.small in
    let blocks = c.remove.ensures.blocks ∙ reads.blocks in
    let words = c.remove.ensures.edits.words ∙ reads.words in
    let size = c.size-size.ensures.value ∙ l.2.size in
    let f : IsFreeHere g.row.SLI c.free_at.new.self.blocks c.args.at l.0 = rw reads.blocks (record { stands = l.1.stands; free = l.1.free; regions = sized }) in
    let left = taken_each g.row.SLI f (ap (class_of g.row.SLI) (size ∙ ap (λ bs. size_of (block_at bs l.0)) (sym reads.blocks))) (rw (reads.blocks, reads.lists) c.self.invariant.listed) c.remove.ensures in (
      omega arith,
      (
        c.self.invariant.level,
        (
          omega (arith, c.requires),
          (
            rw blocks (l.0, l.1.stands, (l.1.free, omega (arith, size, c.if-size-words.false))),
            (
              rw (blocks, words) (λ i stands. at_index c.self.invariant.shows (λ (i : ℕ). IsTagOf c.self.inside.region.words (site_at c.self.inside.region.blocks i) c.in-Some.own) (l.0, l.1.stands, l.2) stands),
              (
                rw blocks sized,
                (
                  omega (arith, ap words_in blocks, c.self.invariant.lawful.whole, c.self.invariant.small),
                  (left, rw blocks c.self.invariant.lawful.stamps_past),
                ),
              ),
            ),
          ),
        ),
      ),
    )

given : (g : Over) (c : goal.After-self-1 g)
    → GivesFrom c.args.self.now.heap c.args.at c.args.words (Ok (record { heap = c.self.inside.id; at = c.args.at; serial = c.self.inside.tick })) (with_region (state_of g.row.SLI c.self.inside) (c.self.inside.tick + 1) c.give-given.new.region)
unfolding bytes_in
given g c =
    let reads = c.free_at.ensures.reads in
    let l = c.in-Some.ensures.answer in
    let h : HeapState = state_of g.row.SLI c.self.inside in
    let was = c.remove.ensures.blocks ∙ reads.blocks in
    let blocks = ((rw was at c.give-given.ensures.carved) l.0 l.1.stands).blocks in
    let edits = ((rw was at c.give-given.ensures.carved) l.0 l.1.stands).edits in
    subst (λ (s : HeapState). GivesFrom s c.args.at c.args.words (Ok (record { heap = c.self.inside.id; at = c.args.at; serial = c.self.inside.tick })) (with_region h (c.self.inside.tick + 1) c.give-given.new.region)) (ap (λ (s : Shown). s.heap) c.self.view_is)
    (from_done h h c.args.at c.args.words c.self.invariant.lawful refl l.0 l.1 (omega (arith, l.2.size, c.size-size.ensures.value, c.if-size-words.false)) (omega (arith, c.requires)) c.if-self.false
    c.give-given.new.region (edits.words ∙ c.remove.ensures.edits.words ∙ reads.words) blocks)

-- no more words are in use than the region has
pub give-requires : goal.give-requires
give-requires g c =
    let l = c.in-Some.ensures.answer in
    let was = c.remove.ensures.blocks ∙ c.free_at.ensures.reads.blocks in
    let edits = ((rw was at c.give-given.ensures.carved) l.0 l.1.stands).edits in
    omega (arith, used_small edits.shows, (rw was at c.give-given.ensures.used), c.self.invariant.in_use)

pub invariant_of-self-2 : goal.invariant_of-self-2
invariant_of-self-2 g c =
    let reads = c.free_at.ensures.reads in
    let l = c.in-Some.ensures.answer in
    let edits = ((rw (c.remove.ensures.blocks ∙ reads.blocks) at c.give-given.ensures.carved) l.0 l.1.stands).edits in
    let used = more_use g.row.SLI c.self.inside c.self.view_is c.self.invariant c.give-given.new.region.blocks c.give-given.result c.give.new.self (rw (c.remove.ensures.blocks ∙ reads.blocks) at c.give-given.ensures.used) c.give.ensures in
    record {
      lawful = (given g c).lawful;
      shows = edits.shows;
      linked = edits.linked;
      bits = edits.bits;
      level = c.self.invariant.level;
      small = omega (arith, edits.words, c.remove.ensures.edits.words, reads.words, c.self.invariant.small);
      listed = ((rw (c.remove.ensures.blocks ∙ reads.blocks) at c.give-given.ensures.carved) l.0 l.1.stands).listed;
      in_use = used.words;
      most_in_use = used.most;
    }

pub returns-clause-answer : goal.returns-clause-answer
returns-clause-answer g c = (given g c).is_answer

pub returns-clause-heap : goal.returns-clause-heap
returns-clause-heap g c = (given g c).is_heap

pub returns-clause-cases : goal.returns-clause-cases
returns-clause-cases g c = (given g c).cases

pub returns-clause-frame : goal.returns-clause-frame
returns-clause-frame g c = record {
  err = search rules;
  keeps =
      let l = c.in-Some.ensures.answer in
      let edits = ((rw (c.remove.ensures.blocks ∙ c.free_at.ensures.reads.blocks) at c.give-given.ensures.carved) l.0 l.1.stands).edits in
      keeps_stored g.row.SLI c.self.inside c.self.view_is c.self.invariant _ (invariant_of-self-2 g c) (omega (arith, edits.rise, c.remove.ensures.edits.rise, c.free_at.ensures.reads.rise)) (edits.stays ∙ c.remove.ensures.edits.stays ∙ c.free_at.ensures.reads.stays);
  peak = search rules;
  groups = subst (λ (s : Shown). InGroups 11 s.touched c.give-given.new.region.touched) c.self.view_is (more_groups (omega arith) (groups_then (groups_then c.free_at.ensures.groups c.remove.ensures.groups) c.give-given.ensures.groups));
}

-- 2 to find the block, 6 to take it out, 9 for the headers, and 7 to list the rest
pub returns-clause-touches : goal.returns-clause-touches
returns-clause-touches g c =
    let reads = c.free_at.ensures.reads in
    let l = c.in-Some.ensures.answer in
    let edits = ((rw (c.remove.ensures.blocks ∙ reads.blocks) at c.give-given.ensures.carved) l.0 l.1.stands).edits in
    omega (arith, edits.touches, c.remove.ensures.edits.touches, reads.touches, ap (λ (s : Shown). s.touches) c.self.view_is)

-- ---- the place is one of the region

pub returns-then-size-words-clause-wild : goal.returns-then-size-words-clause-wild
returns-then-size-words-clause-wild g c = free_not_wild (ap (λ (s : Shown). s.heap) c.self.view_is) c.self.invariant.lawful (c.in-Some.ensures.answer.0, c.in-Some.ensures.answer.1) _ _

pub returns-then-self-clause-wild : goal.returns-then-self-clause-wild
returns-then-self-clause-wild g c = free_not_wild (ap (λ (s : Shown). s.heap) c.self.view_is) c.self.invariant.lawful (c.in-Some.ensures.answer.0, c.in-Some.ensures.answer.1) _ _

pub returns-clause-wild : goal.returns-clause-wild
returns-clause-wild g c = free_not_wild (ap (λ (s : Shown). s.heap) c.self.view_is) c.self.invariant.lawful (c.in-Some.ensures.answer.0, c.in-Some.ensures.answer.1) _ _

-- ---- the payloads of other blocks

pub returns-in_default-clause-leaves : goal.returns-in_default-clause-leaves
returns-in_default-clause-leaves g c = seen_live g.row.SLI c.self.inside c.self.view_is _ c.free_at.ensures.touched

pub returns-then-size-words-clause-leaves : goal.returns-then-size-words-clause-leaves
returns-then-size-words-clause-leaves g c = seen_live g.row.SLI c.self.inside c.self.view_is _ c.free_at.ensures.touched

pub returns-then-self-clause-leaves : goal.returns-then-self-clause-leaves
returns-then-self-clause-leaves g c = seen_live g.row.SLI c.self.inside c.self.view_is _ c.free_at.ensures.touched

pub returns-clause-leaves : goal.returns-clause-leaves
returns-clause-leaves g c = seen_live g.row.SLI c.self.inside c.self.view_is _ (λ k live.
    let blocks = c.free_at.ensures.reads.blocks in
    (rw (c.remove.ensures.blocks ∙ blocks) at c.give-given.ensures.touched) k live ∙ (rw blocks at c.remove.ensures.touched) k live ∙ c.free_at.ensures.touched k live)

-- ---- groups of eight words

pub returns-in_default-clause-unread : goal.returns-in_default-clause-unread
returns-in_default-clause-unread g c none = c.free_at.ensures.unread (λ place. none (subst (λ (s : Shown). IsPlace s.heap.blocks c.args.at) c.self.view_is place)) ∙ ap (λ (s : Shown). s.touched) c.self.view_is

pub returns-then-size-words-clause-unread : goal.returns-then-size-words-clause-unread
returns-then-size-words-clause-unread g c none = absurd (none (subst (λ (s : Shown). IsPlace s.heap.blocks c.args.at) c.self.view_is (c.in-Some.ensures.answer.0, c.in-Some.ensures.answer.1.stands)))

pub returns-then-self-clause-unread : goal.returns-then-self-clause-unread
returns-then-self-clause-unread g c none = absurd (none (subst (λ (s : Shown). IsPlace s.heap.blocks c.args.at) c.self.view_is (c.in-Some.ensures.answer.0, c.in-Some.ensures.answer.1.stands)))

pub returns-clause-unread : goal.returns-clause-unread
returns-clause-unread g c none = absurd (none (subst (λ (s : Shown). IsPlace s.heap.blocks c.args.at) c.self.view_is (c.in-Some.ensures.answer.0, c.in-Some.ensures.answer.1.stands)))

-- ---- a refused call only read

pub invariant_of-self-then-size-words : goal.invariant_of-self-then-size-words
invariant_of-self-then-size-words g c = stored_read g.row.SLI c.self.inside c.self.view_is c.self.invariant _ c.free_at.ensures.reads

pub invariant_of-self-then-self : goal.invariant_of-self-then-self
invariant_of-self-then-self g c = stored_read g.row.SLI c.self.inside c.self.view_is c.self.invariant _ c.free_at.ensures.reads
