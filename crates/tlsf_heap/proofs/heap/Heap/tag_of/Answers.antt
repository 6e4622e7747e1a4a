use Rattle.tlsf_heap.proofs.Common.{ap, subst, arith, Ok, IsNameCheck, Shown, state_of}
use Rattle.tlsf_heap.proofs.lemmas.calls.Alter.{named_of}
use Rattle.tlsf_heap.proofs.lemmas.calls.Kept.{stored_read}
use Rattle.tlsf_heap.proofs.lemmas.calls.Named.{named_same, named_stands}
use Rattle.tlsf_heap.proofs.lemmas.calls.Frames.{found_read}
use Rattle.tlsf_heap.proofs.heap.Heap.tag_of.Goals as goal

pub tag-requires : goal.tag-requires
tag-requires g c =
    let k = c.args.self.now.heap in
    let named = (named_same (state_of g.row.SLI c.self.inside) k c.args.name (ap (λ (s : Shown). s.heap) c.self.view_is) (named_of k c.args.name c.requires)).1 in
    (omega arith, (named.0, named_stands _ _ _ _ named.1))

pub returns-clause-tag : goal.returns-clause-tag
returns-clause-tag g c =
    let k = c.args.self.now.heap in
    let named = named_same (state_of g.row.SLI c.self.inside) k c.args.name (ap (λ (s : Shown). s.heap) c.self.view_is) (named_of k c.args.name c.requires) in
    subst (λ (s : Shown). IsNameCheck s.heap c.args.name (Ok c.tag.result)) c.self.view_is (named, c.tag.ensures.value named.1.0 (named_stands _ _ _ _ named.1.1))

pub invariant_of-self : goal.invariant_of-self
invariant_of-self g c = stored_read g.row.SLI c.self.inside c.self.view_is c.self.invariant _ c.tag.ensures.reads

pub returns-clause-frame : goal.returns-clause-frame
returns-clause-frame g c = found_read g.row.SLI c.self.inside c.self.view_is c.self.invariant _ c.tag.ensures.reads c.tag.ensures.touched c.tag.ensures.groups
