use Rattle.tlsf_picture.proofs.Common.{get_or, refl, sym, ap, ◌∙◌, report_of}
use Rattle.std.proofs.lemmas.Option.{slice_get-get_or}
use Rattle.tlsf_crew.proofs.lemmas.lanes.LaneChanges.{heap_in_is}
use Rattle.tlsf_picture.proofs.Yards.{heap_left}
use Rattle.tlsf_picture.proofs.plots.points.report_on.Goals as goal

pub returns-clause-shows : goal.returns-clause-shows
returns-clause-shows g c =
    let ws = c.args.workers.now in
    let is = slice_get-get_or ws c.args.heap c.index-workers-heap.result c.requires.heap in
    heap_left _ ws c.args.heap _ c.report.new.self (record { yard = c.requires.yard; world = refl }) is (record { heap = c.report.ensures.reports.heap; same = c.report.ensures.rest.same })

pub returns-clause-report : goal.returns-clause-report
returns-clause-report g c =
    let ws = c.args.workers.now in
    let found = c.index-workers-heap.result in
    let is = slice_get-get_or ws c.args.heap found c.requires.heap in
    c.report.ensures.reports.report_is ∙ ap (report_of g.row.SLI) (sym (heap_in_is ws c.args.heap (get_or ws c.args.heap found) is))
