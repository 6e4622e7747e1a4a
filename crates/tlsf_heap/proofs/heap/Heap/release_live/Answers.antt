use Rattle.tlsf_heap.proofs.Common.{Ok, sym, ap, ◌∙◌, subst, arith, HeapState}
use Rattle.tlsf_heap.specs.ByPlace.{IsPlaceCheck}
use Rattle.tlsf_heap.proofs.lemmas.calls.GivenBack.{live_named, releases_found}
use Rattle.tlsf_heap.proofs.lemmas.calls.Kept.{keeps_both}
use Rattle.tlsf_words.proofs.Touching.{more_groups, groups_then}
use Rattle.tlsf_heap.proofs.heap.Heap.release_live.Goals as goal

pub give_back-requires : goal.give_back-requires
give_back-requires g c =
    let e = c.tag_of-own.ensures in
    let l = live_named c.args.self.now.heap c.args.name c.tag_of-own.result e.tag in
    (omega arith, (subst (λ (s : HeapState). IsPlaceCheck s c.args.name.at (Ok c.tag_of-own.result)) (sym e.frame.same.heap) l, λ worn. c.requires.tick (sym (ap (λ (s : HeapState). s.tick) e.frame.same.heap) ∙ worn)))

pub returns-clause-releases : goal.returns-clause-releases
returns-clause-releases g c =
    let e = c.tag_of-own.ensures in
    let r = c.give_back.ensures in
    let done = releases_found g.row.SLI c.args.self.now c.tag_of-own.new.self c.args.name e.frame.same e.frame.keeps (omega (arith, e.frame.touches)) e.frame.leaves c.give_back.new.self e.tag.0 r.answer r.heap r.frame.keeps.touches_rise r.frame.touches r.leaves in
    record { answer_is = done.answer_is; heap = done.heap; touches = omega (arith, e.frame.touches, r.frame.touches); rise = done.rise; leaves = done.leaves; refused = tt; forged = done.forged }

pub returns-clause-frame : goal.returns-clause-frame
returns-clause-frame g c =
    let e = c.tag_of-own.ensures.frame in
    let r = c.give_back.ensures.frame in
    record { keeps = keeps_both e.keeps r.keeps; most = r.most ∙ e.same.most_in_use; touches = omega (arith, e.touches, r.touches); groups = more_groups (omega arith) (groups_then e.groups r.groups) }
