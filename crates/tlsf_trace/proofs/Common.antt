-- The names that most proofs of this crate cite, passed on from one place. Declares nothing.
pub use Rattle.std.proofs.Common.{◌≡◌, ap, arith, length, ℕ, ◌∙◌, sym, ◌++◌, List, string_bytes, map, subst, Option, refl, ◌≤◌, ◌<◌, ◌∷◌, [], drop, ◌+◌, IfSome, append_assoc, false, get_or, suc, true, ◌-◌, Bool, None, Some, append-nil, inr, max, min, take, zero, Bor, cond, inl, length-append, take_all, vec_len, ◌==◌, ◌≢◌}
pub use Rattle.std.specs.Prelude.{MatchOption, nat_lt}
pub use Rattle.std.proofs.lemmas.List.{length-map, at_drop_more, drop-take, length-take, take-append-drop, take-take, take_at, take_min}
pub use Rattle.std.proofs.lemmas.List.FromFn.{length-map-range_with_len, get_or-map-range_with_len}
pub use Rattle.std.specs.List.{All, AllByRecursion, range_with_len}
pub use Rattle.tlsf_calls.specs.declared.call.Call.{Call}
pub use Rattle.tlsf_calls.specs.declared.entry.Entry.{Entry}
pub use Rattle.tlsf_crew.specs.lanes.Yard.{IsYard}
unfoldable pub use Rattle.tlsf_crew.specs.lanes.Yard.{world_of}
pub use Rattle.tlsf_crew.specs.model.World.{World, Replayed, begun, heap_in, no_heap}
unfoldable pub use Rattle.tlsf_crew.specs.model.World.{replies, replies_behind}
pub use Rattle.tlsf_crew.specs.worker.Workers.{heap_of}
pub use Rattle.tlsf_heap.specs.Blocks.{HeapState}
pub use Rattle.tlsf_heap.specs.Calls.{opened}
pub use Rattle.tlsf_heap.specs.declared.name.Name.{Name}
pub use Rattle.tlsf_lines.specs.Events.{events_by, events_of, labels_of, width_in}
pub use Rattle.tlsf_lines.specs.Phases.{none_known, phases_of, known_below, known_in, scripts_in, own_lines, script_in, call_in, calls_from, in_first, is_line_of}
pub use Rattle.tlsf_lines.specs.Records.{records_text}
pub use Rattle.tlsf_lines.specs.ReplyLines.{labels_left, reply_text, is_taken}
pub use Rattle.tlsf_lines.specs.Trace.{Trace}
pub use Rattle.tlsf_lines.specs.declared.line.Line.{Line}
pub use Rattle.tlsf_trace.specs.Moments.{moment_at}
pub use Rattle.tlsf_trace.specs.Output.{yard_of, level_in, output_at, run_at}
pub use Rattle.tlsf_trace.specs.Players.{Stands, PlaysOn}
pub use Rattle.tlsf_trace.specs.RaceOutput.{IsOutputBy, IsRaceText, RaceRelation, IsQueueRaceOutput, IsRaceOutput}
pub use Rattle.tlsf_trace.specs.RaceSoFar.{point_at, IsPhaseRaced, IsRaceSoFar, RacePoint, race_start}
pub use Rattle.tlsf_trace.specs.RacedYards.{count_in, kind_in, races_over, world_in, IsWhole, HasRaced}
pub use Rattle.tlsf_trace.specs.ReportLines.{report_text, report_line, report_text_from}
pub use Rattle.tlsf_trace.specs.declared.raced_yard.RacedYard.TheVariants.{OverLanes, OverQueues}
