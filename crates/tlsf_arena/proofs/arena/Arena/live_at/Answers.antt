use Rattle.tlsf_arena.proofs.Common.{◌≡◌, Some, None, sym, ap, ◌∙◌, arith, option_map, held_at}
use denote.RawPtr.{count_of}
use Rattle.tlsf_heap.specs.ByPlace.{serial_at}
use Rattle.tlsf_arena.proofs.Named.{at_a_unit, right_guess, seen_there, the_one}
use Rattle.tlsf_arena.proofs.Searching.{few_in_all}
use Rattle.tlsf_arena.proofs.arena.Arena.live_at.Goals as goal

pub returns-in_default-clause-held : goal.returns-in_default-clause-held
returns-in_default-clause-held g c = λ name units here holds.
    let a = c.self.inside in
    absurd (at_a_unit g.row.SLI g.row.UNIT a.units a.heap.value.heap a.space.free c.self.invariant.0 c.held_block-none.ensures.lawful c.args.self.now.heap (ap (λ s. s.heap) c.self.view_is) (count_of a.base) c.args.self.now.region.start (count_of c.args.ptr) (ap count_of (sym c.self.invariant.1.0 ∙ a.space.placed.0) ∙ ap (λ s. s.region.start) c.self.view_is) name units here holds c.in_default.ensures.place)

pub returns-in_default-clause-compared : goal.returns-in_default-clause-compared
returns-in_default-clause-compared g c =
    let few = few_in_all c.self.inside.compared.count c.unit_at.new.compared.count c.self.inside.units c.self.invariant.0.most c.unit_at.ensures.steps in
    omega (arith, few, ap (λ s. s.compared) c.self.view_is, c.held_block-none.ensures.looks.compared)

pub returns-in_err-serial-clause-held : goal.returns-in_err-serial-clause-held
returns-in_err-serial-clause-held g c = λ name units here holds.
    let a = c.self.inside in
    let none : held_at a.heap.value.heap.blocks c.in-Some.at ≡ None = c.held_block-2.ensures.held ∙ ap (option_map (λ p. p.1)) c.in_err-serial.was in
    absurd (seen_there g.row.SLI g.row.UNIT a.units a.heap.value.heap a.space.free c.self.invariant.0 c.held_block-2.ensures.lawful c.args.self.now.heap (ap (λ s. s.heap) c.self.view_is) (count_of a.base) c.args.self.now.region.start (count_of c.args.ptr) (ap count_of (sym c.self.invariant.1.0 ∙ a.space.placed.0) ∙ ap (λ s. s.region.start) c.self.view_is) name units here holds c.in-Some.at c.in-Some.ensures.place.1 none)

pub returns-in_err-serial-clause-compared : goal.returns-in_err-serial-clause-compared
returns-in_err-serial-clause-compared g c =
    let few = few_in_all c.self.inside.compared.count c.unit_at.new.compared.count c.self.inside.units c.self.invariant.0.most c.unit_at.ensures.steps in
    omega (arith, few, ap (λ s. s.compared) c.self.view_is, c.held_block-2.ensures.looks.compared)

pub returns-clause-held : goal.returns-clause-held
returns-clause-held g c = λ name units here holds.
    let a = c.self.inside in
    let blocks = a.heap.value.heap.blocks in
    let is : held_at blocks c.in-Some.at ≡ Some c.in_ok-serial.units = c.held_block-2.ensures.held ∙ ap (option_map (λ p. p.1)) c.in_ok-serial.was in
    let told : serial_at blocks c.in-Some.at ≡ Some c.in_ok-serial.serial = c.held_block-2.ensures.serial ∙ ap (option_map (λ p. p.0)) c.in_ok-serial.was in
    let guess = right_guess g.row.SLI g.row.UNIT a.units a.heap.value.heap a.space.free c.self.invariant.0 c.held_block-2.ensures.lawful c.args.self.now.heap (ap (λ s. s.heap) c.self.view_is) (count_of a.base) c.args.self.now.region.start (count_of c.args.ptr) (ap count_of (sym c.self.invariant.1.0 ∙ a.space.placed.0) ∙ ap (λ s. s.region.start) c.self.view_is) name units here holds in
    let before = ap (λ s. s.compared) c.self.view_is in (
      the_one g.row.SLI g.row.UNIT a.units a.heap.value.heap a.space.free c.self.invariant.0 c.held_block-2.ensures.lawful c.args.self.now.heap (ap (λ s. s.heap) c.self.view_is) (count_of a.base) c.args.self.now.region.start (count_of c.args.ptr) (ap count_of (sym c.self.invariant.1.0 ∙ a.space.placed.0) ∙ ap (λ s. s.region.start) c.self.view_is) name units here holds c.in-Some.at c.in-Some.ensures.place.1 a.id c.in_ok-serial.serial c.in_ok-serial.units c.self.invariant.2 is told,
      (
        λ is. let right = guess c.args.guesses.0 is in omega (arith, c.unit_at.ensures.first right.0 right.1, before, c.held_block-2.ensures.looks.compared),
        λ is. let right = guess c.args.guesses.1 is in omega (arith, c.unit_at.ensures.second right.0 right.1, before, c.held_block-2.ensures.looks.compared),
      ),
    )

pub returns-clause-compared : goal.returns-clause-compared
returns-clause-compared g c =
    let few = few_in_all c.self.inside.compared.count c.unit_at.new.compared.count c.self.inside.units c.self.invariant.0.most c.unit_at.ensures.steps in
    omega (arith, few, ap (λ s. s.compared) c.self.view_is, c.held_block-2.ensures.looks.compared)
