use Rattle.tlsf_heap.proofs.Common.{payload_of, length, ap, false≢true, ◌∙◌, sym, subst, Ok, arith, HeapState, IsNameCheck, seen}
use Rattle.tlsf_heap.proofs.lemmas.calls.Named.{not_forged}
use Rattle.tlsf_heap.proofs.lemmas.calls.Leaves.{refused_both}
use Rattle.tlsf_heap.proofs.lemmas.words.Footprint.{any_word}
use Rattle.tlsf_heap.proofs.lemmas.calls.Frames.{peak_after, settles_then}
use Rattle.tlsf_heap.proofs.heap.Heap.resize_live.Goals as goal

pub refit-requires : goal.refit-requires
refit-requires g c =
    let e = c.tag_of-own.ensures in
    (omega arith, (c.requires.least, (subst (λ (s : HeapState). IsNameCheck s c.args.name (Ok c.tag_of-own.result)) (sym e.frame.same.heap) e.tag, λ kept. absurd (false≢true (sym kept)))))

pub returns-clause-resizes : goal.returns-clause-resizes
returns-clause-resizes g c =
    let e = c.tag_of-own.ensures in
    let r = rw e.frame.same.heap at c.refit.ensures in
    record {
      answer_is = r.answer;
      heap = r.heap;
      touches = omega (arith, r.touches, e.frame.touches);
      grown = omega (arith, r.grown, e.frame.touches);
      rise = omega (arith, r.frame.keeps.touches_rise, e.frame.keeps.touches_rise);
      leaves = λ k o. r.others.leaves k o ∙ e.frame.leaves k (any_word c.args.self.now.heap.blocks c.args.name.at k o);
      refused = refused_both c.refit.result _ _ _ _ e.frame.leaves r.others.refused;
      forged = not_forged (seen c.args.self.now) c.args.name e.frame.keeps.was_lawful e.tag.0 _;
    }

pub returns-clause-frame : goal.returns-clause-frame
returns-clause-frame g c =
    let e = c.tag_of-own.ensures.frame in
    settles_then (omega (arith, ap (λ (h : HeapState). length (payload_of h c.args.name)) e.same.heap)) (peak_after c.refit.new.self e) e c.refit.ensures.frame
