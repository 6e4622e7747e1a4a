use Rattle.tlsf_crew.proofs.Common.{◌≡◌, ◌∙◌, length, drop, ap, arith, vec_len, AreGiven, rules}
use Rattle.std.proofs.lemmas.List.{take_at}
use Rattle.tlsf_crew.proofs.lemmas.queues.QueueOpened.{given_fresh, given_whole, given_world}
use Rattle.tlsf_crew.proofs.queues.queue_opening.open_queue_yard.Goals as goal

pub give_all-requires : goal.give_all-requires
give_all-requires g c =
    let given = c.in-Ok.ensures.given in
    let ends = c.in-Ok.ensures.ends in
    let value = c.deref_mut.ensures.value in
    let k : length c.deref_mut.result.now ≡ c.args.n = ap length value ∙ given.count in
    (omega arith, ((c.args.words, c.args.capacity, rw (k, ends.1, value) given), (rw value ends.0, omega (arith, ends.1, ap length value, given.count))))

pub returns-in-Ok : goal.returns-in-Ok
returns-in-Ok g c =
    let laid = c.give_all.new.workers in
    let ws = c.in-Ok.workers in
    let given = c.in-Ok.ensures.given in
    let value = c.deref_mut.ensures.value in
    let k : length c.deref_mut.result.now ≡ c.args.n = ap length value ∙ given.count in
    let start : AreGiven (length c.deref_mut.result.now) c.args.words c.args.capacity (vec_len c.in-Ok.ends) c.deref_mut.result.now = rw (k, c.in-Ok.ensures.ends.1, value) given in
    let l = rw k at (c.give_all.ensures c.args.words c.args.capacity start) in
    let m : length laid ≡ ws.len = omega (arith, l.count, given.count, ws.ok) in
    let all = take_at laid (drop (length laid) ws.items) ws.len m in
    record {
      yard = rw all (given_whole _ _ _ _ c.requires c.in_ok-check_sizes.ensures.sizes l);
      world = rw all (given_world _ _ _ _ c.in_ok-check_sizes.ensures.sizes l);
      fresh = rw all (given_fresh _ _ _ _ l);
      count = omega (arith, l.count, m);
      refused = search rules;
    }
