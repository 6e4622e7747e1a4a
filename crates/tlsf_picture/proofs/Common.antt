-- The names that most proofs of this crate cite, passed on from one place. Declares nothing.
pub use Rattle.std.proofs.Common.{◌≡◌, arith, ℕ, ◌∙◌, length, List, ap, subst, ◌+◌, sym, refl, [], map, take, ◌∷◌, get_or, string_bytes, ◌++◌, ◌<◌, None, drop, suc, ◌≤◌, Option, rules, ◌-◌, Some, false, true, Bool, inl, inr, vec_len, zero, append-nil, append_assoc, cond, set, take_all, true≢false, ◌⊎◌}
pub use Rattle.std.specs.Prelude.{slice_index_or, fold, max, nat_lt, slice_index}
pub use Rattle.std.proofs.lemmas.List.{length-map, at_drop_all, at_drop_more, get_or_default, take_at, take_min, take_more}
pub use Rattle.std.proofs.lemmas.List.FromFn.{map-range_with_len_more, length-map-range_with_len}
pub use Rattle.std.proofs.lemmas.Result.{on_ok_weaker, IfOk-weaker}
pub use Rattle.std.specs.List.{range_with_len, AllZip, AllByRecursion, slice_get}
pub use Rattle.tlsf_crew.specs.lanes.Yard.{IsYard}
unfoldable pub use Rattle.tlsf_crew.specs.lanes.Yard.{world_of}
pub use Rattle.tlsf_crew.specs.model.World.{heap_in, World, no_heap}
pub use Rattle.tlsf_crew.specs.worker.Workers.{heap_of, SameButHeap}
pub use Rattle.tlsf_heap.specs.Blocks.{HeapState, Block, Free, StandsAt, words_in}
pub use Rattle.tlsf_heap.specs.Reports.{report_of}
pub use Rattle.tlsf_lines.specs.ScriptSoFar.{IsScript}
pub use Rattle.tlsf_lines.specs.Trace.{Trace}
pub use Rattle.tlsf_lines.specs.declared.header.Header.{Header}
pub use Rattle.tlsf_map.specs.Told.{Adds, all_told, moment_told, Moment, head_told, named_items, page_told}
pub use Rattle.tlsf_picture.specs.Drawn.{AreMaps, IsMap, IsMapBy, picture_told}
pub use Rattle.tlsf_picture.specs.Labelled.{known_in, label_of, labelled, with_label}
pub use Rattle.tlsf_picture.specs.Pages.{shown_until, IsNoted, is_shown, AreNoted, DrawsPage, IsMoment, is_among, lines_shown}
pub use Rattle.tlsf_picture.specs.Steps.{LeavesHeap, ShowsSame, HasShown, AddsMoment}
pub use Rattle.tlsf_picture.specs.declared.plots.point.Point.{Point}
pub use Rattle.tlsf_picture.specs.plots.Curves.{worst_of, bucket, curve_of, stride_for}
pub use Rattle.tlsf_picture.specs.plots.Plots.{heap_points, IsChart, AreCharts}
pub use Rattle.tlsf_picture.specs.plots.Points.{point_at, longest_among, request_of, words_asked, asked_at, asked_in, bytes_asked, has_refusal, point_of, points_of, told_at, words_by}
pub use Rattle.tlsf_picture.specs.plots.Standings.{IsLook, IsPeak, live_in, is_fuller, is_worse, standing_in}
pub use Rattle.tlsf_picture.specs.plots.Told.{chart_told}
pub use Rattle.tlsf_trace.specs.Output.{level_in}
pub use Rattle.tlsf_trace.specs.Players.{Stands}
