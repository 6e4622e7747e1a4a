use Rattle.tlsf_crew.proofs.Common.{◌≡◌, ◌∙◌, ◌∷◌, ◌++◌, arith, refl, sym, ap, Some, None, length, take, length-take-le, option_copied_mut, slice_get_within, post_extent, take_extent, extent_of, end_extents}
use Rattle.tlsf_crew.proofs.lemmas.worker.StandingEnd.{same_end, end_stands}
use Rattle.tlsf_crew.proofs.lemmas.worker.Slots.{from_slot, slot_new, slot_other, same_extents}
use Rattle.tlsf_crew.proofs.lemmas.lanes.LaneSlices.{lane_slice}
use Rattle.tlsf_crew.proofs.lanes.lane_worker.LanesExchange.take_slice.Goals as goal

pub returns-clause-came : goal.returns-clause-came
returns-clause-came g c =
    let e = c.take_slice.ensures in
    let has = c.requires.source in
    let xs = c.args.self.now.takes.items in
    let at = c.args.source in
    let is = from_slot _ has.0 has.1 in
    let a : Some c.in-Some.end.now ≡ c.index_mut.result.now = sym (ap option_copied_mut c.in-Some.is) ∙ c.as_mut.ensures.value in
    let same : c.in-Some.end.now ≡ has.0 = same_end _ xs at _ _ c.index_mut.ensures.value is a in
    lane_slice c.args.self.now _ at (length c.args.places.now) c.take_slice.result c.in-Some.end.now c.take_slice.new.self (take c.take_slice.result c.take_slice.new.posts)
    (record { is = has.1 ∙ ap Some (sym same); new = slot_new xs _ at c.take_slice.new.self (slice_get_within xs at (Some has.0) is) refl; others = slot_other xs _ at c.take_slice.new.self refl; same = (refl, refl) })
    (record { lane = e.lane; still = e.waited; came = e.came.0; order = e.came.1 })
    (length-take-le _ _ (omega (arith, e.most))) c.requires.places e.left

pub returns-clause-still : goal.returns-clause-still
returns-clause-still g c =
    let xs = c.args.self.now.takes.items in
    let has = c.requires.source in
    (c.take_slice.new.self, slot_new xs _ c.args.source c.take_slice.new.self (slice_get_within xs c.args.source (Some has.0) (from_slot _ has.0 has.1)) refl)

pub index_mut-requires : goal.index_mut-requires
index_mut-requires g c =
    let xs = c.args.self.now.takes in
    let l = xs.ok in
    let has = c.requires.source in
    omega (arith, slice_get_within xs.items c.args.source (Some has.0) (from_slot _ has.0 has.1))

pub unreachable-requires : goal.unreachable-requires
unreachable-requires g c =
    let has = c.requires.source in
    let none : None ≡ c.index_mut.result.now = sym (ap option_copied_mut c.in_default.is) ∙ c.as_mut.ensures.value in
    absurd (end_stands _ c.args.self.now.takes.items c.args.source _ c.index_mut.ensures.value (from_slot _ has.0 has.1) none)

pub returns-clause-stays : goal.returns-clause-stays
returns-clause-stays g c =
    let a = c.args.self.now in
    let has = c.requires.source in
    let xs = a.takes.items in
    let is = from_slot _ has.0 has.1 in
    let here : Some c.in-Some.end.now ≡ c.index_mut.result.now = sym (ap option_copied_mut c.in-Some.is) ∙ c.as_mut.ensures.value in
    let same : c.in-Some.end.now ≡ has.0 = same_end _ xs c.args.source _ _ c.index_mut.ensures.value is here in
    ap (λ l. extent_of a.posts ∷ extent_of a.takes ∷ end_extents post_extent a.posts.items ++ l) (same_extents take_extent xs c.args.source has.0 c.take_slice.new.self is (c.take_slice.ensures.stays ∙ ap take_extent same))
