use Rattle.tlsf_crew.proofs.Common.{◌≡◌, length, ap, ◌∙◌, arith, refl, opened, opened_heaps, heap_of, id_and_capacity, opened_numbers}
use Rattle.tlsf_crew.proofs.lemmas.lanes.NewLanes.{map_push, alone_push, alone_laid}
use Rattle.tlsf_crew.proofs.lanes.opening.open_alone.Goals as goal

pub loop-id-preserved : goal.loop-id-preserved
loop-id-preserved g c =
    let i = c.loop-id.invariant in
    let own = c.in_ok-open_worker.ensures in
    let e = c.push_reserved.ensures.items in
    record {
      count = omega (arith, i.count, c.push_reserved.ensures.len);
      room = omega (arith, i.room, c.push_reserved.ensures.capacity);
      heaps = rw e (map_push heap_of (λ j. opened j c.args.words 0) _ _ _ i.heaps own.heap);
      numbers = rw e (map_push id_and_capacity (λ j. (j, c.args.capacity)) _ _ _ i.numbers (rw (own.numbers.0, own.numbers.1) refl));
      alone = rw e (alone_push _ _ _ i.alone (rw own.numbers.1 c.in_ok-posts.ensures) (rw own.numbers.1 c.in_ok-takes.ensures));
    }

pub returns : goal.returns
returns g c =
    let i = c.loop-id.invariant in
    let e : c.loop-id.id ≡ c.args.n = omega arith in
    let len : length c.loop-id.workers.items ≡ c.args.n = omega (arith, i.count, c.loop-id.workers.ok) in
    alone_laid _ _ _ _ len (i.heaps ∙ ap (λ k. opened_heaps k c.args.words) e) (i.numbers ∙ ap (λ k. opened_numbers k c.args.capacity) e) i.alone
