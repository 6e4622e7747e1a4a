use Rattle.tlsf_heap.proofs.Common.{length, sym, ap, ◌∙◌, arith, Shown, state_of}
use Rattle.tlsf_heap.proofs.lemmas.calls.Kept.{stored_read}
use Rattle.tlsf_heap.proofs.lemmas.calls.Alter.{named_of, payload_is}
use Rattle.tlsf_heap.proofs.lemmas.calls.Named.{named_same, named_stands, named_live}
use Rattle.tlsf_heap.proofs.lemmas.calls.Write.{length_is}
use Rattle.tlsf_heap.proofs.lemmas.calls.Frames.{found_read}
use Rattle.tlsf_heap.proofs.heap.Heap.length.Goals as goal

pub length-requires : goal.length-requires
length-requires g c =
    let k = c.args.self.now.heap in
    let named = (named_same (state_of g.row.SLI c.self.inside) k c.args.name (ap (λ (s : Shown). s.heap) c.self.view_is) (named_of k c.args.name c.requires)).1 in
    (omega arith, (named.0, named_stands _ _ _ _ named.1, named_live _ _ _ _ named.1))

pub returns-clause-value : goal.returns-clause-value
returns-clause-value g c =
    let k = c.args.self.now.heap in
    let is_named = named_of k c.args.name c.requires in
    length_is (state_of g.row.SLI c.self.inside) k c.args.name 0 0 c.length.result (ap (λ (s : Shown). s.heap) c.self.view_is) is_named c.length.ensures.value
    ∙ sym (ap length (payload_is k c.args.name is_named))

pub invariant_of-self : goal.invariant_of-self
invariant_of-self g c = stored_read g.row.SLI c.self.inside c.self.view_is c.self.invariant _ c.length.ensures.reads

pub returns-clause-frame : goal.returns-clause-frame
returns-clause-frame g c =
    found_read g.row.SLI c.self.inside c.self.view_is c.self.invariant _ c.length.ensures.reads c.length.ensures.touched c.length.ensures.groups
