use Rattle.tlsf_heap.proofs.Common.{◌∙◌, arith}
use Rattle.tlsf_heap.proofs.lemmas.lists.Carved.{IsFreeHere, head_stands, taken_each}
use Rattle.tlsf_words.proofs.Touching.{more_groups, groups_then}
use Rattle.tlsf_heap.proofs.fitting.carve.Goals as goal

pub give-words-requires : goal.give-words-requires
give-words-requires g c =
    let f : IsFreeHere g.row.SLI c.args.region.now.blocks c.pop_first-at.result c.requires.fits.1 = record { stands = head_stands g.row.SLI c.requires.fits.2 c.pop_first-at.ensures.place; free = c.requires.fits.3; regions = c.requires.region.order.sized } in
    let left = taken_each g.row.SLI f c.requires.fits.2.classed c.requires.region.order.listed c.pop_first-at.ensures.change in
    let reads = c.tag-own.ensures.reads in
    let blocks = reads.blocks ∙ c.pop_first-at.ensures.change.blocks in (
      omega arith,
      (
        c.requires.region.order.level,
        (
          c.requires.payload,
          (
            rw blocks (c.requires.fits.1, f.stands, (c.requires.fits.3, c.requires.fits.4)),
            (
              rw (reads.blocks, reads.words) c.tag-own.ensures.value,
              (
                rw blocks c.requires.region.order.sized,
                (rw blocks c.requires.region.order.small, (rw (reads.blocks, reads.lists) left, rw blocks c.requires.region.stamped)),
              ),
            ),
          ),
        ),
      ),
    )

pub returns-clause-carved : goal.returns-clause-carved
returns-clause-carved g c i stands =
    let reads = c.tag-own.ensures.reads in
    let out = c.pop_first-at.ensures.change in
    let unset = (rw (reads.blocks ∙ out.blocks) at c.give-words.ensures.carved) i stands in
    record {
      blocks = unset.blocks;
      listed = unset.listed;
      edits = record {
        words = unset.edits.words ∙ reads.words ∙ out.edits.words;
        shows = unset.edits.shows;
        linked = unset.edits.linked;
        bits = unset.edits.bits;
        stays = unset.edits.stays ∙ reads.stays ∙ out.edits.stays;
        touches = omega (arith, unset.edits.touches, reads.touches, out.edits.touches);
        rise = omega (arith, unset.edits.rise, reads.rise, out.edits.rise);
      };
    }

pub returns-clause-used : goal.returns-clause-used
returns-clause-used g c = rw (c.tag-own.ensures.reads.blocks ∙ c.pop_first-at.ensures.change.blocks) at c.give-words.ensures.used

pub returns-clause-touched : goal.returns-clause-touched
returns-clause-touched g c k live =
    let reads = c.tag-own.ensures.reads in
    let out = c.pop_first-at.ensures.change in
    (rw (reads.blocks ∙ out.blocks) at c.give-words.ensures.touched) k live ∙ (rw out.blocks at c.tag-own.ensures.touched) k live ∙ out.touched k live

-- 3 for the list, 1 for the tag, and those that give the block
pub returns-clause-groups : goal.returns-clause-groups
returns-clause-groups g c = more_groups (omega arith) (groups_then (groups_then c.pop_first-at.ensures.change.groups c.tag-own.ensures.groups) c.give-words.ensures.groups)
