use Rattle.tlsf_heap.proofs.Common.{◌+◌, arith, sym, ap, ◌∙◌, Tally}
use Rattle.tlsf_heap.proofs.lemmas.words.Tallies.{stands, ends, small, next_live, next_free}
use Rattle.tlsf_heap.proofs.tally.Tally.add.Goals as goal
use Rattle.tlsf_heap.proofs.tally.Tally.add.Goals.{then-is_free, else-is_free}

pub add_free-requires-clause-blocks : goal.add_free-requires-clause-blocks
add_free-requires-clause-blocks g c =
    let here = stands c.requires.rooms c.requires.sums.1 c.requires.within in
    omega (arith, c.requires.small, (small c.requires.rooms c.requires.sums.1 here).free_blocks)

pub add_free-requires-clause-words : goal.add_free-requires-clause-words
add_free-requires-clause-words g c =
    let here = stands c.requires.rooms c.requires.sums.1 c.requires.within in
    omega (arith, c.requires.small, c.size-size.ensures.value, (c.tag-tag.ensures.value c.requires.sums.1.index here).size, (small c.requires.rooms c.requires.sums.1 here).free_words)

pub add_live-requires-clause-blocks : goal.add_live-requires-clause-blocks
add_live-requires-clause-blocks g c =
    let here = stands c.requires.rooms c.requires.sums.1 c.requires.within in
    omega (arith, c.requires.small, (small c.requires.rooms c.requires.sums.1 here).live_blocks)

pub add_live-requires-clause-words : goal.add_live-requires-clause-words
add_live-requires-clause-words g c =
    let here = stands c.requires.rooms c.requires.sums.1 c.requires.within in
    omega (arith, c.requires.small, c.size-size.ensures.value, (c.tag-tag.ensures.value c.requires.sums.1.index here).size, (small c.requires.rooms c.requires.sums.1 here).live_words)

pub add_live-requires-clause-bytes : goal.add_live-requires-clause-bytes
add_live-requires-clause-bytes g c =
    let here = stands c.requires.rooms c.requires.sums.1 c.requires.within in
    let unread = c.tag-tag.ensures.reads.blocks in
    omega (arith, c.requires.small, rw unread at c.length.ensures.value c.requires.sums.1.index here, (small c.requires.rooms c.requires.sums.1 here).live_bytes)

pub overflow_add-result : goal.overflow_add-result
overflow_add-result g c =
    let here = stands c.requires.rooms c.requires.sums.1 c.requires.within in
    omega (arith, c.requires.small, c.size-size.ensures.value, (c.tag-tag.ensures.value c.requires.sums.1.index here).size, (ends c.requires.rooms c.requires.sums.1 here).1)

pub returns-clause-sums : goal.returns-clause-sums
returns-clause-sums g c tick so_far =
    let here = stands c.requires.rooms so_far c.requires.within in
    let i = so_far.index in
    let is = c.tag-tag.ensures.value i here in
    let unread = c.tag-tag.ensures.reads.blocks in
    elim c.if-is_free.branch [
      | then-is_free w ↦
          let stamp = (rw unread at w.mark.ensures.value) i here in
          let free = sym is.free ∙ sym c.is_free.ensures ∙ w.if-is_free.true in
          rw (w.self-is, w.add_free.ensures, c.size-size.ensures.value, is.size, stamp) (next_free c.requires.rooms so_far here free)
      | else-is_free w ↦
          let held = (rw unread at w.length.ensures.value) i here in
          let live = sym is.free ∙ sym c.is_free.ensures ∙ w.if-is_free.false in
          rw (w.self-is, w.add_live.ensures, c.size-size.ensures.value, is.size, held) (next_live c.requires.rooms so_far here live)
    ]

pub returns-clause-one : goal.returns-clause-one
returns-clause-one g c = elim c.if-is_free.branch [
  | then-is_free w ↦ omega (arith, ap (λ (t : Tally). t.live_blocks + t.free_blocks) (w.self-is ∙ w.add_free.ensures))
  | else-is_free w ↦ omega (arith, ap (λ (t : Tally). t.live_blocks + t.free_blocks) (w.self-is ∙ w.add_live.ensures))
]
