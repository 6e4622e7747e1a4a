use Rattle.tlsf_crew.proofs.Common.{◌≡◌, ◌∙◌, ◌∷◌, arith, refl, sym, ap, Some, None, option_copied_mut, slice_get_within, owner_extent, poster_extent, extent_of}
use Rattle.tlsf_crew.proofs.lemmas.worker.StandingEnd.{same_end, end_stands}
use Rattle.tlsf_crew.proofs.lemmas.worker.Slots.{from_slot, slot_new, slot_other, same_extents}
use Rattle.tlsf_crew.proofs.queues.queues.QueuesExchange.put.Goals as goal

pub returns-clause-put : goal.returns-clause-put
returns-clause-put g c =
    let e = c.put.ensures in
    let p = c.requires.0 in
    let j = c.args.name.heap in
    let xs = c.args.self.now.posts.items in
    let is = from_slot _ p c.requires.1 in
    let a : Some c.in-Some.end.now ≡ c.index_mut.result.now = sym (ap option_copied_mut c.in-Some.is) ∙ c.as_mut.ensures.value in
    let pe : c.in-Some.end.now ≡ p = same_end _ xs j _ _ c.index_mut.ensures.value is a in (
      c.put.result,
      record {
        end = p;
        new_end = c.put.new.self;
        end_is = c.requires.1;
        new_end_is = slot_new xs _ j c.put.new.self (slice_get_within xs j (Some p) is) refl;
        others = slot_other xs _ j c.put.new.self refl;
        same = refl;
        mailbox = rw (← pe) e.mailbox;
        ok = rw (← pe) e.ok;
        waits = rw (← pe) e.waits;
        full = rw (← pe) e.full;
        was_full = rw (← pe) e.was_full;
        alone = rw (← pe) e.alone;
      },
      c.put_answer.ensures,
    )

pub index_mut-requires : goal.index_mut-requires
index_mut-requires g c =
    let xs = c.args.self.now.posts in
    let l = xs.ok in
    omega (arith, slice_get_within xs.items c.args.name.heap (Some c.requires.0) (from_slot _ c.requires.0 c.requires.1))

pub unreachable-requires : goal.unreachable-requires
unreachable-requires g c =
    let none : None ≡ c.index_mut.result.now = sym (ap option_copied_mut c.in_default.is) ∙ c.as_mut.ensures.value in
    absurd (end_stands _ c.args.self.now.posts.items c.args.name.heap _ c.index_mut.ensures.value (from_slot _ c.requires.0 c.requires.1) none)

pub returns-clause-stays : goal.returns-clause-stays
returns-clause-stays g c =
    let a = c.args.self.now in
    let has = c.requires in
    let xs = a.posts.items in
    let is = from_slot _ has.0 has.1 in
    let here : Some c.in-Some.end.now ≡ c.index_mut.result.now = sym (ap option_copied_mut c.in-Some.is) ∙ c.as_mut.ensures.value in
    let same : c.in-Some.end.now ≡ has.0 = same_end _ xs c.args.name.heap _ _ c.index_mut.ensures.value is here in
    ap (λ l. owner_extent a.own ∷ extent_of a.posts ∷ l) (same_extents poster_extent xs c.args.name.heap has.0 c.put.new.self is (c.put.ensures.stays ∙ ap poster_extent same))
