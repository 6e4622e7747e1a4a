use Rattle.std.proofs.Common.{◌≡◌, ◌∙◌, length, drop, ap, arith, rules}
use Rattle.std.proofs.lemmas.List.{take_at}
use Rattle.tlsf_crew.proofs.lemmas.lanes.NewLanes.{laid_yard, laid_world}
use Rattle.tlsf_crew.proofs.lanes.opening.open_yard.Goals as goal

pub lay_all-requires : goal.lay_all-requires
lay_all-requires g c =
    let k : length c.deref_mut.result.now ≡ c.args.n = ap length c.deref_mut.ensures.value ∙ c.in-Ok.ensures.len in
    (omega arith, (rw k c.in_ok-check_sizes.ensures.sizes, rw (k, c.deref_mut.ensures.value) c.in-Ok.ensures))

pub returns-in-Ok-lay_all : goal.returns-in-Ok-lay_all
returns-in-Ok-lay_all g c =
    let laid = c.lay_all.new.workers in
    let ws = c.in-Ok.workers in
    let k : length c.deref_mut.result.now ≡ c.args.n = ap length c.deref_mut.ensures.value ∙ c.in-Ok.ensures.len in
    let l = rw k at c.in-Ok-lay_all.ensures in
    let m : length laid ≡ ws.len = omega (arith, l.len, c.in-Ok.ensures.len, ws.ok) in
    let all = take_at laid (drop (length laid) ws.items) ws.len m in
    record {
      yard = rw all (laid_yard _ _ _ _ c.requires c.in_ok-check_sizes.ensures.sizes l);
      world = rw all (laid_world _ _ _ _ c.in_ok-check_sizes.ensures.sizes l);
      free = rw all l.free;
      fresh = rw all l.fresh;
      count = omega (arith, l.len, m);
      refused = search rules;
    }
