use Rattle.tlsf_heap.proofs.Common.{Ok, sym, subst, arith, err_from_is_err_and, HeapState, refl}
use Rattle.tlsf_heap.specs.ByPlace.{IsPlaceCheck}
use Rattle.tlsf_heap.proofs.lemmas.calls.GivenBack.{live_named, releases_unnamed, releases_worn, releases_found}
use Rattle.tlsf_heap.proofs.lemmas.calls.Frames.{done_then, settles_found}
use Rattle.tlsf_heap.proofs.heap.Heap.release.Goals as goal

pub returns-in_err-own-clause-releases : goal.returns-in_err-own-clause-releases
returns-in_err-own-clause-releases g c =
    let e = c.in_err-own.ensures in
    let p = err_from_is_err_and c.from_residual.result c.from_residual.ensures.1 in
    rw (p.1, p.2) (releases_unnamed g.row.SLI c.args.self.now c.check.new.self c.args.name e.frame.same e.frame.keeps e.frame.touches e.frame.leaves _ e.answer e.forged)

pub returns-in_err-check_tick-clause-releases : goal.returns-in_err-check_tick-clause-releases
returns-in_err-check_tick-clause-releases g c =
    let e = c.in_ok-own.ensures in
    let t = c.in_err-check_tick.ensures.answer in
    let p = err_from_is_err_and c.from_residual-in_err-check_tick.result c.from_residual-in_err-check_tick.ensures.1 in
    rw (p.1, p.2, t.0) (releases_worn g.row.SLI c.args.self.now c.check.new.self c.args.name e.frame.same e.frame.keeps e.frame.touches e.frame.leaves e.answer.0 t.1)

pub give_back-requires : goal.give_back-requires
give_back-requires g c =
    let e = c.in_ok-own.ensures in
    let l : IsPlaceCheck c.args.self.now.heap c.args.name.at (Ok c.in_ok-own.own) = live_named c.args.self.now.heap c.args.name c.in_ok-own.own e.answer in
    (omega arith, (subst (λ (s : HeapState). IsPlaceCheck s c.args.name.at (Ok c.in_ok-own.own)) (sym e.frame.same.heap) l, c.in_ok-check_tick.ensures.answer))

pub returns-clause-releases : goal.returns-clause-releases
returns-clause-releases g c =
    let e = c.in_ok-own.ensures in
    let r = c.give_back.ensures in
    releases_found g.row.SLI c.args.self.now c.check.new.self c.args.name e.frame.same e.frame.keeps e.frame.touches e.frame.leaves c.give_back.new.self e.answer.0 r.answer r.heap r.frame.keeps.touches_rise r.frame.touches r.leaves

pub returns-in_err-check_tick-clause-frame : goal.returns-in_err-check_tick-clause-frame
returns-in_err-check_tick-clause-frame g c = settles_found (omega arith) refl c.in_ok-own.ensures.frame

pub returns-clause-frame : goal.returns-clause-frame
returns-clause-frame g c = done_then (omega arith) c.in_ok-own.ensures.frame c.give_back.ensures.frame

pub returns-in_err-own-clause-frame : goal.returns-in_err-own-clause-frame
returns-in_err-own-clause-frame g c =
    rw (err_from_is_err_and c.from_residual.result c.from_residual.ensures.1).1 (settles_found (omega arith) refl c.in_err-own.ensures.frame)
