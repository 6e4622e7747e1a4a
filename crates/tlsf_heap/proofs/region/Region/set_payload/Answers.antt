use Rattle.tlsf_heap.proofs.Common.{◌+◌, ◌-◌, ◌/◌, length, ap, ◌∙◌, subst, arith, inl, inr, bytes_of, block_at, RegionState, image_of, times, InGroups}
use Rattle.tlsf_heap.proofs.lemmas.words.Links.{linked_lists, marked_lists, Relists, holds_state}
use Rattle.tlsf_heap.proofs.lemmas.words.Bytes.{held_within, length_read}
use Rattle.tlsf_heap.proofs.lemmas.words.Says.{shows_state, says_here}
use Rattle.tlsf_heap.proofs.lemmas.words.NewPayload.{Refills, refilled, relisted_refill}
use Rattle.tlsf_heap.proofs.lemmas.words.Image.{room_here}
use Rattle.tlsf_heap.proofs.lemmas.blocks.Stands.{behind_one}
use Rattle.tlsf_heap.proofs.lemmas.words.Footprint.{others_apart}
use Rattle.tlsf_words.proofs.Touching.{more_groups}
use Rattle.tlsf_heap.proofs.region.Region.set_payload.Given.{Over}
use Rattle.tlsf_heap.proofs.region.Region.set_payload.Goals as goal

pub set_payload-requires : goal.set_payload-requires
set_payload-requires g c =
    let shows = shows_state g.row.SLI c.self.invariant c.self.view_is in
    let stands = c.requires.1 in
    let says = says_here shows stands in
    let held = held_within _ (room_here (image_of c.self.inside.words) c.args.self.now.blocks shows c.args.at c.requires.0 stands) in
    record {
      old = omega (arith, length_read shows stands (c.requires.0, stands, c.requires.2.0), held, says.ends);
      new = omega (arith, c.requires.2.1, says.ends);
      small = shows.small;
      grows = λ kept. let h = c.requires.2.2 kept in omega (arith, length_read shows stands (c.requires.0, stands, c.requires.2.0), h);
    }

refills : (g : Over) (c : goal.After-set_payload g) → Refills (image_of c.self.inside.words) (image_of c.set_payload.new.words) c.args.at c.args.len
refills g c = let new = c.set_payload.ensures in record { length = new.length; bytes = new.bytes; only = new.only; starts = new.starts }

relists : (g : Over) (c : goal.After-set_payload g) → Relists g.row.SLI (image_of c.set_payload.new.words) c.self.inside.lists c.args.self.now.lists
relists g c = relisted_refill g.row.SLI (holds_state g.row.SLI c.self.invariant c.self.view_is) (c.requires.0, c.requires.1, (c.requires.2.0, c.requires.2.1)) (refills g c)

pub invariant_of-self : goal.invariant_of-self
invariant_of-self g c = (relists g c).holds

pub returns-clause-change : goal.returns-clause-change
returns-clause-change g c i stands =
    let new = c.set_payload.ensures in
    let left = refilled (shows_state g.row.SLI c.self.invariant c.self.view_is) (c.requires.0, c.requires.1, (c.requires.2.0, c.requires.2.1)) (refills g c) in
    let touches = ap (λ (r : RegionState). r.touches) c.self.view_is in
    let words = ap (λ (r : RegionState). r.words) c.self.view_is in
    record {
      blocks = left.blocks i stands ∙ behind_one i _ c.args.self.now.blocks;
      lists = (relists g c).same;
      edits = record { words = new.only.length ∙ words; shows = (relists g c).holds.shows; linked = linked_lists g.row.SLI _ _ (relists g c).holds; bits = marked_lists g.row.SLI _ _ (relists g c).holds; stays = c.set_payload.ensures.stays ∙ ap (λ (r : RegionState). r.extents) c.self.view_is; touches = omega (arith, new.touches.within, touches); rise = omega (arith, new.touches.rise, touches) };
    }

pub returns-clause-grown : goal.returns-clause-grown
returns-clause-grown g c i stands =
    let shows = shows_state g.row.SLI c.self.invariant c.self.view_is in
    omega (arith, c.set_payload.ensures.grown, length_read shows stands (c.requires.0, c.requires.1, c.requires.2.0), ap (λ (r : RegionState). r.touches) c.self.view_is)

pub returns-clause-touched : goal.returns-clause-touched
returns-clause-touched g c k o =
    elim (others_apart c.args.self.now.blocks c.args.at c.requires.0 k c.requires.1 o) [
      | inl below ↦ c.set_payload.ensures.touched_before k (omega (arith, below))
      | inr above ↦ c.set_payload.ensures.touched_behind k (omega (arith, above, c.requires.2.1))
    ]
    ∙ ap (λ (r : RegionState). times r.touched k) c.self.view_is

pub returns-clause-groups : goal.returns-clause-groups
returns-clause-groups g c i stands =
    let new = c.args.len - length (bytes_of (block_at c.args.self.now.blocks i)) in
    let held = length_read (shows_state g.row.SLI c.self.invariant c.self.view_is) stands (c.requires.0, c.requires.1, c.requires.2.0) in
    subst (λ (r : RegionState). InGroups (3 + new / 64) r.touched c.set_payload.new.words.touched) c.self.view_is (more_groups (omega (arith, held)) c.set_payload.ensures.groups)
