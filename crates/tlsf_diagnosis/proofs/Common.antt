-- The names that most proofs of this crate cite, passed on from one place. Declares nothing.
pub use Rattle.std.proofs.Common.{◌≡◌, ℕ, List, arith, ap, subst, sym, ◌+◌, ◌∙◌, drop, Some, refl, None, Option, inl, length, ◌++◌, [], inr, take, ◌∷◌, Bool, Err, false, suc, ◌-◌, string_bytes, true, cond, ◌<◌, ◌≤◌, ◌⊎◌, is_some, map, rules, zero, Ok, codes, count_by, unwrap_or, ◌==◌, Bor, Result, add-one, append-nil, append_assoc, length-append, length-drop, min, option_and_then, option_map, slice_get, ◌&&◌, ◌≢◌}
pub use Rattle.std.specs.Prelude.{IfSome, MatchBool}
pub use Rattle.tlsf_diagnosis.specs.FieldFaults.{IsFieldOf, GoAstrayAt, is_line, CanBegin, IsFirstWrong, is_header, is_shaped, HasFirstBadNumberAt, IsFirstBad, IsFoundIn, IsWrongOrLast}
pub use Rattle.tlsf_diagnosis.specs.Kinds.{passes, header_kinds, workers_by, workers_in}
pub use Rattle.tlsf_diagnosis.specs.Passing.{all_pass, passing_count, FindsWrong, IsFirstFailing}
pub use Rattle.tlsf_diagnosis.specs.Shown.{HasBefore, spaces_in, IsFieldAt, MarksField, ShowsAt, ShowsField, columns_in, shown_byte, without_feed}
pub use Rattle.tlsf_lines.specs.declared.kind.Kind.{Kind}
pub use Rattle.tlsf_lines.specs.CutFields.{fields_of, fields_left}
pub use Rattle.tlsf_lines.specs.Fields.{field, fields_in, values_in, ◌>>=◌, is_digits, value_in}
pub use Rattle.tlsf_lines.specs.Header.{header_of, number_in, number_of_value}
unfoldable pub use Rattle.tlsf_lines.specs.Header.{header_in, header_from}
pub use Rattle.tlsf_lines.specs.Lines.{kinds_of, keyword_of, keywords, is_call}
unfoldable pub use Rattle.tlsf_lines.specs.Lines.{line_from}
pub use Rattle.tlsf_lines.specs.Pieces.{pieces_of}
pub use Rattle.tlsf_lines.specs.Trace.{Trace, some_or, unless}
unfoldable pub use Rattle.tlsf_lines.specs.Trace.{judged_line, trace_of}
pub use Rattle.tlsf_lines.specs.TraceFaults.{IsLineFault, fault_of, fault_by, fault_in, fault_numbered, no_memory_fault}
pub use Rattle.tlsf_lines.specs.declared.line.Line.{Line}
pub use Rattle.tlsf_lines.specs.declared.line_fault.LineFault.{LineFault}
pub use Rattle.tlsf_lines.specs.declared.line_fault.LineFault.TheVariants.{BadHeader}
pub use Rattle.tlsf_lines.specs.declared.trace_fault.TraceFault.{TraceFault}
