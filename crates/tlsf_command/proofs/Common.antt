-- The names that most proofs of this crate cite, passed on from one place. Declares nothing.
pub use Rattle.std.proofs.Common.{◌≡◌, ◌∙◌, ap, arith, refl, ℕ, List, codes, Some, [], sym, ◌++◌, ◌∷◌, length, Bool, rules, Option, subst, true, None, drop, false, inl, inr, map, suc, ◌+◌, ap₂, cond, ◌-◌, ◌<◌, ◌≤◌, Err, Ok, Result, append_assoc, fold, max, string_bytes, take, ◌^◌, flat_map, min, option_map, zero, ◌*◌, ◌==◌, append-nil, drop_of_length-le, find, get_or, le_trans, length-drop, length-take, nat_le, nat_lt, take-append-drop, take_all, true≢false, ◌||◌, ◌↔◌, ◌≢◌, ◌⊎◌}
pub use Rattle.std.specs.Prelude.{pos, IfSome, IfErr, IfOk, OnOk, is_some}
pub use Rattle.std.proofs.KnownBytes.{Appends-nil, Appends-trans}
pub use Rattle.std.proofs.lemmas.Bool.{lt-ltb, cases_lt, leb-true}
pub use Rattle.std.proofs.lemmas.Fmt.{contents_after_writes}
pub use Rattle.std.proofs.lemmas.Result.{IfOk-weaker}
pub use Rattle.std.specs.List.{AllByRecursion, list_all, after_first, before_first, position_or_len}
pub use Rattle.std.specs.Option.{unwrap_or, option_map_or}
pub use Rattle.std.specs.Str.{bytes_eq}
pub use Rattle.tlsf_class.specs.Classes.{most_words, IsLevel}
unfoldable pub use Rattle.tlsf_class.specs.Classes.{class_of, low, search_of}
pub use Rattle.tlsf_command.specs.Arguments.{Arguments, texts_of, first_number, number_of, texts_in}
pub use Rattle.tlsf_command.specs.CommandLine.{faults_of, IsOf, tlsf_app, Asks, IsCommand, IsPlainWord, Names, run_asked, arguments_of, IsAnswerable, IsArg, IsAskedBy, IsRunOn, IsTip, ReadsTrace, number_for, takes_number, tip_line}
pub use Rattle.tlsf_command.specs.Quotes.{within_quotes, is_plain}
pub use Rattle.tlsf_command.specs.Rivals.{rivals_given}
pub use Rattle.tlsf_command.specs.Runs.{Does, Streams, ChecksNote, Ends, IsNote, LacksMemory, Refuses, ReportsUnreached, RunsOrLacksMemory, ShowsAnswer, TipsOrLacksMemory, streams, tip_on}
pub use Rattle.tlsf_command.specs.SizeLines.{IsFiner, IsSplitOf, IsServable, asked_bytes, heap_lines, AreReached, IsCheapest, IsGreatest, IsReached, HasNoSplit, IsFirstUnreached, heap_line, longest_of, unreached_table_line}
pub use Rattle.tlsf_command.specs.declared.trace_run.TraceRun.{TraceRun}
pub use Rattle.tlsf_command.specs.declared.trace_run.TraceRun.TheVariants.{Map, Check, Held, HeldKinds, Least, MapHtml, MapWorst, Plot, Race, RaceQueues, Replay}
pub use Rattle.tlsf_heap.specs.Blocks.{want}
pub use Rattle.tlsf_pool.specs.declared.kind.Kind.{Kind}
pub use Rattle.tlsf_pool.specs.declared.sizes.split.Split.{Split}
pub use Rattle.tlsf_pool.specs.sizes.Splits.{cut_by, parts_of, IsCut, IsPart, joined, words_together}
