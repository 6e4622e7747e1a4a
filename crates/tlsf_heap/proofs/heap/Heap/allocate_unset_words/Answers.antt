use Rattle.tlsf_heap.proofs.Common.{last_tick, ◌≡◌, List, ◌+◌, ap, ◌∙◌, subst, Ok, Err, arith, rules, Block, allocated_words, StandsAt, Shown, site_at, IsLawful, state_of, NoFit, Worn, InGroups, unset_from}
use Rattle.tlsf_heap.specs.CarvedUnset.{CarvedUnset}
use Rattle.tlsf_heap.proofs.lemmas.lists.Carved.{head_stands}
use Rattle.tlsf_heap.proofs.lemmas.calls.Allocate.{Allocates, allocates_none, allocates_worn, in_order, awaits_tick, tick_read, fits_size}
use Rattle.tlsf_heap.proofs.lemmas.calls.AllocateUnset.{given_zeros, given_lying, lying_lawful, zeroed}
use Rattle.tlsf_heap.proofs.lemmas.blocks.Lawful.{with_region}
use Rattle.tlsf_heap.proofs.lemmas.blocks.Find.{and_left}
use Rattle.tlsf_heap.proofs.lemmas.calls.Kept.{keeps_stored, stored_read, more_use}
use Rattle.tlsf_heap.proofs.lemmas.blocks.Used.{used_small}
use Rattle.tlsf_heap.proofs.lemmas.calls.Leaves.{seen_live}
use Rattle.tlsf_words.proofs.Touching.{no_groups, groups_then}
use Rattle.tlsf_heap.proofs.heap.Heap.allocate_unset_words.Given.{Over}
use Rattle.tlsf_heap.proofs.lemmas.calls.Frames.{found_read, same_peak, settles_found}
use Rattle.tlsf_heap.proofs.heap.Heap.allocate_unset_words.Goals as goal

pub choose-requires : goal.choose-requires
choose-requires g c = (omega arith, (omega arith, (in_order g.row.SLI c.self.inside c.self.invariant, omega (arith, c.requires))))

-- ---- nothing fits

nothing : (g : Over) (c : goal.In_default g) → Allocates g.row.SLI c.args.self.now.heap c.args.words c.args.len (Err NoFit) (with_region (state_of g.row.SLI c.self.inside) c.self.inside.tick c.choose.new.region)
nothing g c =
    allocates_none g.row.SLI c.self.invariant.level (state_of g.row.SLI c.self.inside) c.args.self.now.heap c.args.words c.args.len c.requires c.self.invariant.lawful (ap (λ (s : Shown). s.heap) c.self.view_is)
    c.choose.new.region c.choose.ensures.reads.words c.choose.ensures.reads.blocks c.in_default.ensures.best

pub returns-in_default-clause-allocates : goal.returns-in_default-clause-allocates
returns-in_default-clause-allocates g c =
    let none = nothing g c in
    record {
      answer_is = none.is_answer;
      heap = search rules;
      unchanged = search rules;
      no_fit = none.no_fit;
      ok = none.ok;
      touches = search rules;
      rise = search rules;
      leaves = seen_live g.row.SLI c.self.inside c.self.view_is _ c.choose.ensures.touched;
    }

-- ---- the tick is at its last value

worn : (g : Over) (c : goal.Then-self g) → Allocates g.row.SLI c.args.self.now.heap c.args.words c.args.len (Err Worn) (with_region (state_of g.row.SLI c.self.inside) c.self.inside.tick c.choose.new.region)
worn g c =
    let best = c.in-Some.ensures.best in
    allocates_worn g.row.SLI c.self.invariant.level (state_of g.row.SLI c.self.inside) c.args.self.now.heap c.args.words c.args.len c.requires c.self.invariant.lawful (ap (λ (s : Shown). s.heap) c.self.view_is)
    c.choose.new.region c.choose.ensures.reads.words best.1 best.3 c.choose.ensures.reads.blocks c.if-self.true

pub returns-then-self-clause-allocates : goal.returns-then-self-clause-allocates
returns-then-self-clause-allocates g c =
    let late = worn g c in
    record {
      answer_is = late.is_answer;
      heap = search rules;
      unchanged = search rules;
      no_fit = late.no_fit;
      ok = late.ok;
      touches = search rules;
      rise = search rules;
      leaves = seen_live g.row.SLI c.self.inside c.self.view_is _ c.choose.ensures.touched;
    }

pub invariant_of-self-then-self : goal.invariant_of-self-then-self
invariant_of-self-then-self g c = stored_read g.row.SLI c.self.inside c.self.view_is c.self.invariant _ c.choose.ensures.reads

-- ---- a block is given

pub carve-given-requires : goal.carve-given-requires
carve-given-requires g c =
    let best = c.in-Some.ensures.best in (
      omega arith,
      (
        omega arith,
        (
          tick_read (awaits_tick g.row.SLI c.self.inside c.self.invariant) c.choose.ensures.reads,
          (
            c.requires,
            rw (c.choose.ensures.reads.blocks, c.choose.ensures.reads.lists) (best.0, best.1, best.2, and_left _ _ best.3.fit, fits_size g.row.SLI c.self.invariant.level _ _ best.3.fit),
          ),
        ),
      ),
    )

-- the block that is given is the one that was chosen
stands : (g : Over) (c : goal.After-self-1 g) → StandsAt c.self.inside.region.blocks c.carve-given.result.at c.in-Some.ensures.best.1
stands g c = head_stands g.row.SLI c.in-Some.ensures.best.2 ((rw c.choose.ensures.reads.lists at c.carve-given.ensures.place))

unset : (g : Over) (c : goal.After-self-1 g)
    → CarvedUnset g.row.SLI c.choose.new.region c.carve-given.new.region (site_at c.self.inside.region.blocks c.in-Some.ensures.best.1) c.carve-given.result.at c.args.words c.self.inside.tick c.args.len 23
unset g c =
    let i = c.in-Some.ensures.best.1 in
    subst (λ (l : List Block). CarvedUnset g.row.SLI c.choose.new.region c.carve-given.new.region (site_at l i) c.carve-given.result.at c.args.words c.self.inside.tick c.args.len 23) c.choose.ensures.reads.blocks
    (c.carve-given.ensures.carved i (rw c.choose.ensures.reads.blocks (stands g c)))

fresh : (g : Over) (c : goal.After-self-1 g) → ¬ (c.self.inside.tick ≡ last_tick)
fresh g c = c.if-self.false

-- as an allocate, but for the bytes
zeros : (g : Over) (c : goal.After-self-1 g) → Allocates g.row.SLI c.args.self.now.heap c.args.words c.args.len (Ok (record { heap = c.self.inside.id; at = c.carve-given.result.at; serial = c.self.inside.tick }))
    (with_region (state_of g.row.SLI c.self.inside) (c.self.inside.tick + 1) (zeroed g.row.SLI c.self.invariant.level (state_of g.row.SLI c.self.inside) c.args.self.now.heap c.args.words c.args.len c.requires c.self.invariant.lawful (ap (λ (s : Shown). s.heap) c.self.view_is)
    c.carve-given.new.region ((unset g c).edits.words ∙ c.choose.ensures.reads.words) c.in-Some.ensures.best.1 c.in-Some.ensures.best.3))
zeros g c =
    let best = c.in-Some.ensures.best in
    given_zeros g.row.SLI c.self.invariant.level (state_of g.row.SLI c.self.inside) c.args.self.now.heap c.args.words c.args.len c.requires c.self.invariant.lawful (ap (λ (s : Shown). s.heap) c.self.view_is)
    c.carve-given.new.region ((unset g c).edits.words ∙ c.choose.ensures.reads.words) best.1 best.3 c.carve-given.result.at (stands g c).place (unset g c).blocks (fresh g c)

given : (g : Over) (c : goal.After-self-1 g)
    → let new = with_region (state_of g.row.SLI c.self.inside) (c.self.inside.tick + 1) c.carve-given.new.region in
    (new ≡ unset_from (allocated_words g.row.SLI c.args.self.now.heap c.args.words c.args.len).heap (record { heap = c.self.inside.id; at = c.carve-given.result.at; serial = c.self.inside.tick }) c.carve-given.new.region.stored 0 c.args.len) × IsLawful new
given g c =
    let best = c.in-Some.ensures.best in
    let h = state_of g.row.SLI c.self.inside in
    let same = ap (λ (s : Shown). s.heap) c.self.view_is in
    let words = (unset g c).edits.words ∙ c.choose.ensures.reads.words in (
      given_lying g.row.SLI c.self.invariant.level h c.args.self.now.heap c.args.words c.args.len c.requires c.self.invariant.lawful same c.carve-given.new.region words best.1 best.3 c.carve-given.result.at (stands g c).place (unset g c).blocks (fresh g c),
      lying_lawful g.row.SLI c.self.invariant.level h c.args.self.now.heap c.args.words c.args.len c.requires c.self.invariant.lawful same c.carve-given.new.region words best.1 best.3 c.carve-given.result.at (stands g c).place (unset g c).blocks (fresh g c),
    )

-- no more words are in use than the region has
pub give-requires : goal.give-requires
give-requires g c =
    let best = c.in-Some.ensures.best in
    let stands = head_stands g.row.SLI best.2 (rw c.choose.ensures.reads.lists at c.carve-given.ensures.place) in
    let edits = (c.carve-given.ensures.carved best.1 (rw c.choose.ensures.reads.blocks stands)).edits in
    omega (arith, used_small edits.shows, (rw c.choose.ensures.reads.blocks at c.carve-given.ensures.used), c.self.invariant.in_use)

pub invariant_of-self-2 : goal.invariant_of-self-2
invariant_of-self-2 g c =
    let used = more_use g.row.SLI c.self.inside c.self.view_is c.self.invariant c.carve-given.new.region.blocks c.carve-given.result.words c.give.new.self (rw c.choose.ensures.reads.blocks at c.carve-given.ensures.used) c.give.ensures in record {
      lawful = (given g c).1;
      shows = (unset g c).edits.shows;
      linked = (unset g c).edits.linked;
      bits = (unset g c).edits.bits;
      level = c.self.invariant.level;
      small = omega (arith, (unset g c).edits.words, c.choose.ensures.reads.words, c.self.invariant.small);
      listed = (unset g c).listed;
      in_use = used.words;
      most_in_use = used.most;
    }

pub returns-clause-allocates : goal.returns-clause-allocates
returns-clause-allocates g c =
    let edits = (unset g c).edits in
    let reads = c.choose.ensures.reads in
    let seen = ap (λ (s : Shown). s.touches) c.self.view_is in
    record {
      answer_is = (zeros g c).is_answer;
      heap = (given g c).0;
      unchanged = tt;
      no_fit = (zeros g c).no_fit;
      ok = (zeros g c).ok;
      touches = omega (arith, edits.touches, reads.touches, seen);
      rise = omega (arith, edits.rise, reads.rise, seen);
      leaves = seen_live g.row.SLI c.self.inside c.self.view_is _ (λ k live. (rw reads.blocks at c.carve-given.ensures.touched) k live ∙ c.choose.ensures.touched k live);
    }

-- ---- what is kept

pub returns-clause-frame : goal.returns-clause-frame
returns-clause-frame g c = record {
  err = search rules;
  keeps = keeps_stored g.row.SLI c.self.inside c.self.view_is c.self.invariant _ (invariant_of-self-2 g c) (omega (arith, (unset g c).edits.rise, c.choose.ensures.reads.rise)) ((unset g c).edits.stays ∙ c.choose.ensures.reads.stays);
  peak = search rules;
  groups = subst (λ (s : Shown). InGroups 11 s.touched c.carve-given.new.region.touched) c.self.view_is (groups_then (no_groups c.choose.ensures.untouched) c.carve-given.ensures.groups);
}

pub returns-in_default-clause-frame : goal.returns-in_default-clause-frame
returns-in_default-clause-frame g c =
    let look = found_read g.row.SLI c.self.inside c.self.view_is c.self.invariant _ c.choose.ensures.reads c.choose.ensures.touched (no_groups c.choose.ensures.untouched) in
    settles_found (omega arith) (same_peak look.same look.keeps) look

pub returns-then-self-clause-frame : goal.returns-then-self-clause-frame
returns-then-self-clause-frame g c =
    let look = found_read g.row.SLI c.self.inside c.self.view_is c.self.invariant _ c.choose.ensures.reads c.choose.ensures.touched (no_groups c.choose.ensures.untouched) in
    settles_found (omega arith) (same_peak look.same look.keeps) look
