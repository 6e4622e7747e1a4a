use Rattle.tlsf_heap.proofs.Common.{ℕ, List, sym, ap, ◌∙◌, subst, arith, rules, Image, Shown, times, want}
use Rattle.tlsf_heap.specs.Around.{TellsTaken, FindsChoice}
use Rattle.tlsf_heap.proofs.lemmas.blocks.Find.{and_left}
use Rattle.tlsf_heap.proofs.lemmas.calls.Allocate.{in_order, fits_size}
use Rattle.tlsf_heap.proofs.lemmas.calls.Kept.{keeps_read, reads_both, stored_read}
use Rattle.tlsf_heap.proofs.lemmas.calls.Leaves.{seen_live}
use Rattle.tlsf_heap.proofs.lemmas.lists.Carved.{head_stands}
use Rattle.tlsf_heap.proofs.lemmas.words.Around.{chosen_sound}
use Rattle.tlsf_heap.proofs.heap.Heap.check_request.Given.{Over}
use Rattle.tlsf_heap.proofs.heap.Heap.check_request.Goals as goal

pub choose-requires : goal.choose-requires
choose-requires g c = (omega arith, (omega arith, (in_order g.row.SLI c.self.inside c.self.invariant, omega (arith, c.want-words.ensures))))

pub returns-in_err-class-clause-frame : goal.returns-in_err-class-clause-frame
returns-in_err-class-clause-frame g c = record { same = search rules; keeps = keeps_read g.row.SLI c.self.inside c.self.view_is c.self.invariant _ c.choose.ensures.reads }

-- ---- the block that serves the request

pub invariant_of-self-2 : goal.invariant_of-self-2
invariant_of-self-2 g c = stored_read g.row.SLI c.self.inside c.self.view_is c.self.invariant _ (reads_both (reads_both c.choose.ensures.reads c.head.ensures.reads) c.check_taken.ensures.reads)

found : (g : Over) (c : goal.After-check_taken g) → FindsChoice g.row.SLI (want c.args.len) c.args.self.now.stored c.args.self.now.heap.blocks c.check_taken.result
found g c =
    let is = c.self.invariant in
    let best = c.in_ok-class.ensures.best in
    let n = c.want-words.result in
    let stands = head_stands g.row.SLI best.2 (rw c.choose.ensures.reads.lists at (sym c.in_ok-at.ensures.place)) in
    let tells = subst (λ (m : Image). TellsTaken m c.in_ok-at.at n c.check_taken.result) (c.head.ensures.reads.stored ∙ c.choose.ensures.reads.stored) c.check_taken.ensures.answer in
    let found = chosen_sound is.shows g.row.SLI is.listed is.linked is.lawful.apart (in_order g.row.SLI c.self.inside is).sized best.3 stands (and_left _ _ best.3.fit) (fits_size g.row.SLI is.level n _ best.3.fit) c.check_taken.result tells in
    subst (λ (s : Shown). FindsChoice g.row.SLI (want c.args.len) s.stored s.heap.blocks c.check_taken.result) c.self.view_is
    (subst (λ (k : ℕ). FindsChoice g.row.SLI k c.self.inside.region.stored c.self.inside.region.blocks c.check_taken.result) c.want-words.ensures found)

pub returns-clause-frame : goal.returns-clause-frame
returns-clause-frame g c = record { same = search rules; keeps = keeps_read g.row.SLI c.self.inside c.self.view_is c.self.invariant _ (reads_both (reads_both c.choose.ensures.reads c.head.ensures.reads) c.check_taken.ensures.reads) }

pub returns-clause-checks : goal.returns-clause-checks
returns-clause-checks g c =
    record {
      sound = found g c;
      heap = search rules;
      touches = search rules;
      rise = search rules;
      leaves = seen_live g.row.SLI c.self.inside c.self.view_is _ (λ k live. (rw (c.head.ensures.reads.blocks ∙ c.choose.ensures.reads.blocks) at c.check_taken.ensures.touched) k live
          ∙ ap (λ (l : List ℕ). times l k) (c.head.ensures.untouched ∙ c.choose.ensures.untouched));
    }
