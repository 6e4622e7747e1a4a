use Rattle.tlsf_heap.proofs.Common.{length, arith, ap, ◌∙◌, inl, inr, bytes_of, overwritten, block_at, RegionState, image_of, times}
use Rattle.tlsf_heap.proofs.lemmas.words.Says.{shows_state}
use Rattle.tlsf_heap.proofs.lemmas.words.Bytes.{payload_inside, rewritten, held_within}
use Rattle.tlsf_heap.proofs.lemmas.words.Links.{linked_lists, marked_lists, Relists, holds_state}
use Rattle.tlsf_heap.proofs.lemmas.words.KeptLinks.{relisted_bytes}
use Rattle.tlsf_heap.proofs.lemmas.blocks.Stands.{behind_one}
use Rattle.tlsf_heap.proofs.lemmas.words.Image.{room_here}
use Rattle.tlsf_heap.proofs.lemmas.words.Footprint.{others_apart}
use Rattle.tlsf_heap.proofs.region.Region.write.Given.{Over}
use Rattle.tlsf_heap.proofs.region.Region.write.Goals as goal

pub copy_in-requires : goal.copy_in-requires
copy_in-requires g c = omega (arith, payload_inside (shows_state g.row.SLI c.self.invariant c.self.view_is) c.requires.1, c.requires.2)

relists : (g : Over) (c : goal.After-copy_in g) → Relists g.row.SLI (image_of c.copy_in.new.self) c.self.inside.lists c.args.self.now.lists
relists g c =
    let new = c.copy_in.ensures in
    let state = holds_state g.row.SLI c.self.invariant c.self.view_is in
    relisted_bytes g.row.SLI state c.args.offset (length c.args.bytes.now) (λ i. overwritten (bytes_of (block_at c.args.self.now.blocks i)) c.args.offset c.args.bytes.now) c.requires
    new.writes.changes.words_before new.writes.changes.words_behind new.writes.changes.length
    (rewritten c.args.offset state.shows c.requires new.bytes new.writes.changes.before new.writes.changes.behind new.writes.changes.words_before new.writes.changes.words_behind new.writes.changes.length new.writes.changes.starts)

pub invariant_of-self : goal.invariant_of-self
invariant_of-self g c = (relists g c).holds

pub returns-clause-change : goal.returns-clause-change
returns-clause-change g c i stands =
    let new = c.copy_in.ensures in
    let left = rewritten {v = image_of c.copy_in.new.self} c.args.offset (shows_state g.row.SLI c.self.invariant c.self.view_is) c.requires new.bytes new.writes.changes.before new.writes.changes.behind new.writes.changes.words_before new.writes.changes.words_behind new.writes.changes.length new.writes.changes.starts in
    let touches = ap (λ (r : RegionState). r.touches) c.self.view_is in
    let words = ap (λ (r : RegionState). r.words) c.self.view_is in
    record {
      blocks = left.blocks i stands ∙ behind_one i _ c.args.self.now.blocks;
      lists = (relists g c).same;
      edits = record { words = new.writes.changes.length ∙ words; shows = (relists g c).holds.shows; linked = linked_lists g.row.SLI _ _ (relists g c).holds; bits = marked_lists g.row.SLI _ _ (relists g c).holds; stays = c.copy_in.ensures.writes.changes.stays ∙ ap (λ (r : RegionState). r.extents) c.self.view_is; touches = omega (arith, new.writes.touches, touches); rise = omega (arith, new.writes.rise, touches) };
    }

pub returns-clause-touched : goal.returns-clause-touched
returns-clause-touched g c k o =
    let bs = c.args.self.now.blocks in
    let held = held_within (block_at bs c.requires.0) (room_here _ bs (shows_state g.row.SLI c.self.invariant c.self.view_is) c.args.at c.requires.0 c.requires.1) in
    elim (others_apart bs c.args.at c.requires.0 k c.requires.1 o) [
      | inl below ↦ c.copy_in.ensures.writes.touched_before k (omega (arith, below))
      | inr above ↦ c.copy_in.ensures.writes.touched_behind k (omega (arith, above, held, c.requires.2))
    ]
    ∙ ap (λ (r : RegionState). times r.touched k) c.self.view_is
