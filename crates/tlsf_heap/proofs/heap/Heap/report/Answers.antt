use Rattle.tlsf_heap.proofs.Common.{◌≡◌, ◌*◌, ◌≤◌, length, ap, sym, ◌∙◌, subst, arith, rules, HeapState, Shown, report_of, IsGrant, state_of}
use Rattle.tlsf_heap.specs.declared.report.Report.{Report}
use Rattle.tlsf_heap.proofs.lemmas.calls.Kept.{stored_read}
use Rattle.tlsf_heap.proofs.lemmas.blocks.Sums.{four_each}
use Rattle.tlsf_heap.proofs.lemmas.calls.Reports.{AreSums, sums_are, told_is, greatest_length}
use Rattle.tlsf_heap.proofs.lemmas.calls.Leaves.{seen_live}
use Rattle.tlsf_heap.proofs.heap.Heap.report.Given.{Over}
use Rattle.tlsf_heap.proofs.lemmas.calls.Frames.{nothing_read}
use Rattle.tlsf_heap.proofs.heap.Heap.report.Goals as goal

sums : (g : Over) (c : goal.After-of g) → AreSums g.row.SLI c.self.inside.tick c.of.result
sums g c = sums_are g.row.SLI c.self.invariant.level (state_of g.row.SLI c.self.inside) c.self.invariant.lawful c.self.invariant.small c.of.result c.of.ensures.sums

pub report-requires-clause-live : goal.report-requires-clause-live
report-requires-clause-live g c = (sums g c).live

pub report-requires-clause-free : goal.report-requires-clause-free
report-requires-clause-free g c = (sums g c).free

pub report-requires-clause-bytes : goal.report-requires-clause-bytes
report-requires-clause-bytes g c = (sums g c).bytes

pub report-requires-clause-largest : goal.report-requires-clause-largest
report-requires-clause-largest g c = (sums g c).largest

pub report-requires-clause-part : goal.report-requires-clause-part
report-requires-clause-part g c = (sums g c).part

pub report-requires-clause-past : goal.report-requires-clause-past
report-requires-clause-past g c = (sums g c).past

pub invariant_of-self : goal.invariant_of-self
invariant_of-self g c = stored_read g.row.SLI c.self.inside c.self.view_is c.self.invariant _ c.of.ensures.reads

-- ---- the report

shown : (g : Over) (c : goal.After-report g) → state_of g.row.SLI c.self.inside ≡ c.args.self.now.heap
shown g c = ap (λ (s : Shown). s.heap) c.self.view_is

is : (g : Over) (c : goal.After-report g) → c.report.result ≡ report_of g.row.SLI c.args.self.now.heap
is g c =
    c.report.ensures
    ∙ told_is g.row.SLI c.self.invariant.level (state_of g.row.SLI c.self.inside) c.self.invariant.lawful c.self.invariant.small c.of.result c.of.ensures.sums
    ∙ ap (report_of g.row.SLI) (shown g c)

pub returns-clause-reports : goal.returns-clause-reports
returns-clause-reports g c =
    let h = c.args.self.now.heap in
    let lawful = c.self.invariant.lawful in
    record {
      report_is = is g c;
      grant = subst (λ (r : Report). IsGrant g.row.SLI h.blocks r.grant) (sym (is g c)) (subst (λ (s : HeapState). IsGrant g.row.SLI s.blocks (report_of g.row.SLI s).grant) (shown g c) (greatest_length g.row.SLI c.self.invariant.level (state_of g.row.SLI c.self.inside) lawful));
      heap = search rules;
      touches = search rules;
      few = subst (λ (s : HeapState). 4 * length s.blocks ≤ s.words) (shown g c) (omega (arith, four_each c.self.inside.region.blocks lawful.rooms, lawful.whole));
      rise = search rules;
      leaves = seen_live g.row.SLI c.self.inside c.self.view_is _ c.of.ensures.touched;
    }

pub returns-clause-frame : goal.returns-clause-frame
returns-clause-frame g c = nothing_read g.row.SLI c.self.inside c.self.view_is c.self.invariant _ c.of.ensures.reads
