use Rattle.tlsf_crew.proofs.Common.{◌≡◌, ◌∙◌, ◌∷◌, ◌++◌, arith, refl, sym, ap, Some, None, option_copied_mut, slice_get_within, post_extent, take_extent, extent_of, end_extents}
use Rattle.tlsf_crew.proofs.lemmas.worker.StandingEnd.{same_end, end_stands}
use Rattle.tlsf_crew.proofs.lemmas.worker.Slots.{from_slot, slot_new, slot_other, same_extents}
use Rattle.tlsf_crew.proofs.lanes.lane_worker.LanesExchange.take.Goals as goal

pub returns-clause-took : goal.returns-clause-took
returns-clause-took g c =
    let e = c.take.ensures in
    let p = c.requires.0 in
    let xs = c.args.self.now.takes.items in
    let is = from_slot _ p c.requires.1 in
    let a : Some c.in-Some.end.now ≡ c.index_mut.result.now = sym (ap option_copied_mut c.in-Some.is) ∙ c.as_mut.ensures.value in
    let pe : c.in-Some.end.now ≡ p = same_end _ xs c.args.source _ _ c.index_mut.ensures.value is a in
    record {
      end = p;
      new_end = c.take.new.self;
      end_is = c.requires.1;
      new_end_is = slot_new xs _ c.args.source c.take.new.self (slice_get_within xs c.args.source (Some p) is) refl;
      others = slot_other xs _ c.args.source c.take.new.self refl;
      same = (refl, refl);
      lane = rw (← pe) e.lane;
      still = rw (← pe) e.waited;
      some = rw (← pe) e.some;
      none = rw (← pe) e.none;
      succeeds = rw (← pe) e.succeeds;
    }

pub returns-clause-still : goal.returns-clause-still
returns-clause-still g c =
    let xs = c.args.self.now.takes.items in
    (c.take.new.self, slot_new xs _ c.args.source c.take.new.self (slice_get_within xs c.args.source (Some c.requires.0) (from_slot _ c.requires.0 c.requires.1)) refl)

pub index_mut-requires : goal.index_mut-requires
index_mut-requires g c =
    let xs = c.args.self.now.takes in
    let l = xs.ok in
    omega (arith, slice_get_within xs.items c.args.source (Some c.requires.0) (from_slot _ c.requires.0 c.requires.1))

pub unreachable-requires : goal.unreachable-requires
unreachable-requires g c =
    let none : None ≡ c.index_mut.result.now = sym (ap option_copied_mut c.in_default.is) ∙ c.as_mut.ensures.value in
    absurd (end_stands _ c.args.self.now.takes.items c.args.source _ c.index_mut.ensures.value (from_slot _ c.requires.0 c.requires.1) none)

pub returns-clause-stays : goal.returns-clause-stays
returns-clause-stays g c =
    let a = c.args.self.now in
    let has = c.requires in
    let xs = a.takes.items in
    let is = from_slot _ has.0 has.1 in
    let here : Some c.in-Some.end.now ≡ c.index_mut.result.now = sym (ap option_copied_mut c.in-Some.is) ∙ c.as_mut.ensures.value in
    let same : c.in-Some.end.now ≡ has.0 = same_end _ xs c.args.source _ _ c.index_mut.ensures.value is here in
    ap (λ l. extent_of a.posts ∷ extent_of a.takes ∷ end_extents post_extent a.posts.items ++ l) (same_extents take_extent xs c.args.source has.0 c.take.new.self is (c.take.ensures.stays ∙ ap take_extent same))
