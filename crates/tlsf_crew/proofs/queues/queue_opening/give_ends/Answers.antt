use Rattle.tlsf_crew.proofs.Common.{◌≡◌, ◌<◌, ◌+◌, ◌-◌, ◌∙◌, ℕ, length, get_or, sym, ap, subst, arith, common_steps, length-set, slice_get-get_or, Worker, Queues, GaveEnds}
use Rattle.tlsf_crew.proofs.lemmas.queues.QueueOpened.{end_left, gave_none, gave_own, gave_more, last_end, below_but_own, popped_none, slots_set}
use Rattle.tlsf_crew.proofs.queues.queue_opening.give_ends.Goals as goal

pub loop-i-preserved-then-i-j : goal.loop-i-preserved-then-i-j
loop-i-preserved-then-i-j g c =
    let i = c.loop-i.i - 1 in
    let next : c.loop-i.i ≡ i + 1 = omega arith in
    let before = c.loop-i.invariant in
    record {
      inside = omega (arith, before.inside);
      slots = before.slots;
      numbers = before.numbers ∙ below_but_own c.args.j i c.loop-i.i next c.if-i-j.true;
      rest = λ vs gave. before.rest vs (gave_own c.loop-i.workers vs c.args.j i c.loop-i.i c.loop-i.posters.items next c.if-i-j.true gave);
      capacity = before.capacity;
    }

pub unreachable-requires : goal.unreachable-requires
unreachable-requires g c =
    let i = c.loop-i.i - 1 in
    let next : c.loop-i.i ≡ i + 1 = omega arith in
    let none : length c.pop.new.self.items ≡ 0 = grind (arith, common_steps) in
    absurd (end_left c.args.j i c.loop-i.i c.loop-i.posters.items next c.if-i-j.false c.loop-i.invariant.numbers (popped_none _ _ c.in_default.ensures.items none))

pub put_end-requires : goal.put_end-requires
put_end-requires g c =
    let ws = c.loop-i.workers in
    let i = c.loop-i.i - 1 in
    let inside : i < length ws = omega (arith, c.loop-i.invariant.inside) in
    let a : Worker g.row.SLI Queues = get_or ws i c.index-workers-i.result in
    (omega arith, omega (arith, a.ports.posts.ok, c.loop-i.invariant.slots i a c.if-i-j.false (slice_get-get_or ws i c.index-workers-i.result inside)))

pub loop-i-preserved : goal.loop-i-preserved
loop-i-preserved g c =
    let ws = c.loop-i.workers in
    let i = c.loop-i.i - 1 in
    let next : c.loop-i.i ≡ i + 1 = omega arith in
    let before = c.loop-i.invariant in
    let inside : i < length ws = omega (arith, before.inside) in
    let a : Worker g.row.SLI Queues = get_or ws i c.index-workers-i.result in
    let at = slice_get-get_or ws i c.index-workers-i.result inside in
    let last = last_end c.args.j i c.loop-i.i c.loop-i.posters.items _ c.in-Some.end next c.if-i-j.false c.in-Some.ensures.items before.numbers in
    let v = c.put_end.new.worker in
    let len : length v.ports.posts.items ≡ length a.ports.posts.items = ap length c.put_end.ensures.posts ∙ length-set a.ports.posts.items c.args.j _ in
    record {
      inside = omega (arith, length-set ws i v, before.inside);
      slots = slots_set ws i c.args.j a v at len before.slots;
      numbers = last.0;
      rest = λ vs gave.
          before.rest vs
          (gave_more ws vs c.args.j i c.loop-i.i c.loop-i.posters.items _ c.in-Some.end a v next c.in-Some.ensures.items c.if-i-j.false at last.1 c.put_end.ensures.posts c.put_end.ensures.same gave);
      capacity = c.pop.ensures.capacity ∙ before.capacity;
    }

pub returns-clause-gave : goal.returns-clause-gave
returns-clause-gave g c =
    let vs = c.loop-i.workers in
    let ps = c.loop-i.posters.items in
    let none : c.loop-i.i ≡ 0 = omega arith in
    c.loop-i.invariant.rest vs (subst (λ (k : ℕ). GaveEnds vs c.args.j k ps vs) (sym none) (gave_none vs c.args.j ps))
