-- The names that most proofs of this crate cite, passed on from one place. Declares nothing.
pub use Rattle.std.proofs.Common.{◌≡◌, arith, refl, List, [], ℕ, ap, length, ◌∙◌, ◌∷◌, ◌+◌, None, ◌++◌, take, ◌<◌, Option, sym, Some, get_or, true, ◌≤◌, drop, false, eqb, rules, Err, suc, Bool, Ok, append_assoc, count_by, ◌-◌, Result, cond, inl, inr, map, zero, option_map, All, add-one, length-append, string_bytes, subst, ◌==◌, append-nil, vec_len, ◌*◌, ◌^◌, max, replicate, ◌%◌, ◌⊎◌, IfSome, if◌then◌else◌, length-take, min, nat_eq, nat_lt, reverse, slice_index, slice_set, take-add, ◌&&◌}
pub use Rattle.std.specs.Prelude.{IfErr, codes}
pub use Rattle.std.proofs.lemmas.Bool.{eqb-true, and_parts, false_from_ne_true, cases_lt, ltb-true, ne_eqb}
pub use Rattle.std.proofs.lemmas.Bool.Decides.{nat_tests, eqb_tells}
pub use Rattle.std.proofs.lemmas.Grind.{common_steps, get_or-set_at}
pub use Rattle.std.proofs.lemmas.List.{map-append, at_drop_more, nil_from_length, drop-map, get_or-append_right, get_or-map, get_or-set_other, get_or_append_left, length-map, length-reverse, length-set, length-take-le, length_push, replicate_more, reverse-append, take-map, take_all, take_more}
pub use Rattle.std.proofs.lemmas.List.Elements.{All-weaker, All-push, All-cons, All-get_or, All-head, All-more, All-nil, All-tail, recursion_from_All}
pub use Rattle.std.proofs.lemmas.List.FromFn.{map-range_with_len_more, get_or-map-range_with_len, length-range_with_len}
pub use Rattle.std.proofs.lemmas.List.Splits.{join_with_byte-slice_split, length-slice_split, slice_split-cons_no, slice_split-cons_yes, slice_split_none}
pub use Rattle.std.proofs.lemmas.List.Sums.{count_by-le-length, sum_by-append, AllPass-from_list_all, length-filter, sum_by-cons}
pub use Rattle.std.specs.Char.{is_ascii_digit, digit_value}
pub use Rattle.std.specs.Io.KnownBytes.{Appends, Consumes}
pub use Rattle.std.specs.List.{range_with_len, onto_first, AllByRecursion, concat, join_with_byte}
pub use Rattle.std.specs.Str.{all_ascii_digits, IsAscii}
pub use Rattle.tlsf_calls.specs.declared.event.Event.{Event}
pub use Rattle.tlsf_heap.specs.declared.name.Name.{Name}
pub use Rattle.tlsf_lines.specs.ByLabel.{kept_of, IsSet}
pub use Rattle.tlsf_lines.specs.CallMemory.{RecallsCallOf, RecallsCall, with_line}
pub use Rattle.tlsf_lines.specs.CutFields.{value_of, fields_left, fields_of, first_by, only_by, line_behind, with_rest}
pub use Rattle.tlsf_lines.specs.Events.{width_in, events_in, last_drain, last_drains, width_of, ends_from, events_from, events_of, labels_from, labels_in, labels_of, made_by}
pub use Rattle.tlsf_lines.specs.Fields.{values_in, digits_in, value_in, field, fields_in, number_within}
unfoldable pub use Rattle.tlsf_lines.specs.Header.{header_in, header_from}
pub use Rattle.tlsf_lines.specs.KeptEvents.{event_kept, Grows, IsCallWithin, IsWithin, call_kept}
pub use Rattle.tlsf_lines.specs.LabelMemory.{Memory, Recalls, Remembers, event_by, when_made}
pub use Rattle.tlsf_lines.specs.Lines.{label_in, is_call, kinds_of, request_in, keyword_of, keywords}
unfoldable pub use Rattle.tlsf_lines.specs.Lines.{line_from}
pub use Rattle.tlsf_lines.specs.Phases.{known_in, own_lines, calls_from, known_behind, call_in, call_that_makes, in_first, is_line_of, known_below, name_by, name_made, phases_of, script_in, scripts_in}
pub use Rattle.tlsf_lines.specs.Pieces.{pieces_of, AreCut, ArePieces, IsRest, IsWhole}
pub use Rattle.tlsf_lines.specs.Trace.{Trace, ◌>>=◌, at_line, some_or, unless}
unfoldable pub use Rattle.tlsf_lines.specs.Trace.{judged_line, lines_in, trace_of}
pub use Rattle.tlsf_lines.specs.TraceFaults.{IsTextFault, fault_by, fault_of_parse, fault_of_read, no_memory_fault, too_long_fault}
pub use Rattle.tlsf_lines.specs.Values.{Value, Bytes}
pub use Rattle.tlsf_lines.specs.declared.header.Header.{Header}
pub use Rattle.tlsf_lines.specs.declared.line.Line.{Line}
pub use Rattle.tlsf_lines.specs.declared.line.Line.TheVariants.{Allocate, Phase, Drain, Read, Release, Resize, Write}
pub use Rattle.tlsf_lines.specs.declared.line_fault.LineFault.{LineFault}
pub use Rattle.tlsf_lines.specs.declared.line_fault.LineFault.TheVariants.{BadHeader, BadLine, LabelOrder, BadNumber}
