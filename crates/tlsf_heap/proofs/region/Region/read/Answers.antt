use Rattle.tlsf_heap.proofs.Common.{◌∙◌, arith, inl, inr, ap, times, RegionState, block_at}
use Rattle.tlsf_heap.proofs.lemmas.words.Says.{shows_state, holds_read}
use Rattle.tlsf_heap.proofs.lemmas.words.Bytes.{payload_inside, bytes_read, held_within}
use Rattle.tlsf_heap.proofs.lemmas.words.Image.{room_here}
use Rattle.tlsf_heap.proofs.lemmas.words.Footprint.{others_apart}
use Rattle.tlsf_heap.proofs.region.Region.read.Goals as goal

pub copy_out-requires : goal.copy_out-requires
copy_out-requires g c = omega (arith, payload_inside (shows_state g.row.SLI c.self.invariant c.self.view_is) c.requires.1, c.requires.2)

pub invariant_of-self : goal.invariant_of-self
invariant_of-self g c = holds_read g.row.SLI c.copy_out.ensures.reads.words c.copy_out.ensures.reads.starts c.self.invariant

pub returns-clause-bytes : goal.returns-clause-bytes
returns-clause-bytes g c i stands = c.copy_out.ensures.bytes ∙ bytes_read (shows_state g.row.SLI c.self.invariant c.self.view_is) stands c.args.offset _ c.requires

pub returns-clause-touched : goal.returns-clause-touched
returns-clause-touched g c k o =
    let bs = c.args.self.now.blocks in
    let held = held_within (block_at bs c.requires.0) (room_here _ bs (shows_state g.row.SLI c.self.invariant c.self.view_is) c.args.at c.requires.0 c.requires.1) in
    elim (others_apart bs c.args.at c.requires.0 k c.requires.1 o) [
      | inl below ↦ c.copy_out.ensures.reads.touched_before k (omega (arith, below))
      | inr above ↦ c.copy_out.ensures.reads.touched_behind k (omega (arith, above, held, c.requires.2))
    ]
    ∙ ap (λ (r : RegionState). times r.touched k) c.self.view_is
