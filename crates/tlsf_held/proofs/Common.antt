-- The names that most proofs of this crate cite, passed on from one place. Declares nothing.
pub use Rattle.std.proofs.Common.{◌≡◌, arith, ℕ, length, ◌≤◌, ◌<◌, List, ◌+◌, sym, ◌∙◌, ap, [], subst, refl, get_or, false, inl, inr, true, ◌++◌, ◌∷◌, Option, Bool, ap₂, cond, ◌-◌, drop, fold, suc, ◌==◌, string_bytes, ◌^◌, Ok, Some, zero, Err, None, map, max, take, true≢false, ◌≢◌, All, Result, length-set, nat_le, replicate, ◌⊎◌, add-one, append_assoc, get_or-set_other, get_or-set_same, set, ◌*◌, IfSome, append-nil, le_trans, lit<, lit≤, nat_lt, option_map, vec_len}
pub use Rattle.std.specs.Prelude.{filter, not, is_some, is_ok}
pub use Rattle.std.proofs.lemmas.Bool.{cases_eq, cases_lt, le-leb, lt-leb, eqb-true, le-ltb, leb-true, lt-ltb, ltb-true}
pub use Rattle.std.proofs.lemmas.Bool.Decides.{nat_tests}
pub use Rattle.std.proofs.lemmas.List.Elements.{All-head, All-tail}
pub use Rattle.std.proofs.lemmas.List.FromFn.{length-map-range_with_len, get_or-map-range_with_len}
pub use Rattle.std.specs.List.{cons_option, AllByRecursion, range_with_len}
pub use Rattle.tlsf_calls.specs.declared.call.Call.TheVariants.{Allocate, Release, Resize, Take, Drain, Read, Write}
pub use Rattle.tlsf_calls.specs.declared.crew_refusal.CrewRefusal.TheVariants.{Heap}
pub use Rattle.tlsf_calls.specs.declared.entry.Entry.{Entry}
pub use Rattle.tlsf_calls.specs.declared.event.Event.{Event}
pub use Rattle.tlsf_calls.specs.declared.reply.Reply.{Reply}
pub use Rattle.tlsf_calls.specs.declared.reply.Reply.TheVariants.{Made, Resized, Refused, Freed, Took}
pub use Rattle.tlsf_class.specs.Classes.{IsLevel, most_words, last_class}
unfoldable pub use Rattle.tlsf_class.specs.Classes.{class_of}
pub use Rattle.tlsf_crew.specs.histories.History.{entries_of, answers_on, calls_on, answer_told, call_on_own, handed_on, meant, name_on_heap}
pub use Rattle.tlsf_crew.specs.model.World.{World, name_of, heap_in, no_heap, Replayed}
unfoldable pub use Rattle.tlsf_crew.specs.model.World.{replies}
pub use Rattle.tlsf_heap.specs.Blocks.{want, HeapState}
pub use Rattle.tlsf_heap.specs.Calls.{Call, Answer, Got, opened, run, Allocated, Released, Written, answered, read_of}
pub use Rattle.tlsf_heap.specs.declared.name.Name.{Name}
pub use Rattle.tlsf_heap.specs.declared.refusal.Refusal.{Refusal}
pub use Rattle.tlsf_held.specs.Divisions.{AddsMerged, cost_in, Divide, IsBest, part_words, no_split, rows_by, HasFirst, IsBestAmong, IsCheapest, lens_in, lens_of, words_by, AreBest, cheaper, AreCosts, HasAtMost, nothing, part_row, with_first}
pub use Rattle.tlsf_held.specs.HeldLines.{held_text}
unfoldable pub use Rattle.tlsf_held.specs.HeldLines.{held_region}
pub use Rattle.tlsf_held.specs.KindLines.{kinds_text, kinds_line, pairs_text}
pub use Rattle.tlsf_held.specs.KindTables.{IsLeastRow, IsOfRow, AreRows, KeepWithin, IsTable, kinds_of, lengths_with}
pub use Rattle.tlsf_held.specs.Least.{IsScriptBut, KeepsScript, with_words, AreLeastRows, AreLeastWords, IsBracket, least_text, with_least}
pub use Rattle.tlsf_held.specs.Loans.{inventory_of, with_len, others, with_loan, account_of, Account, accounted, wanted_in, with_resized, with_taken, IsMostWanted, WantAtMost, freed_by, no_loans, wanted_with}
pub use Rattle.tlsf_held.specs.Measures.{AreLeastBounds, IsRunOf, EachServed, HeldKindsSuffice, HeldPoolsSuffice, IsServed, HeldWordsSuffice, IsMostWantedOf, Measures, TellsKinds, TellsMerged}
pub use Rattle.tlsf_held.specs.Merges.{heaps_of, row_words, band_of, AreMerged, IsLeastMerge, IsMergedTable, IsBandRow, is_between, no_region, rows_words, starts_at}
pub use Rattle.tlsf_held.specs.RowTallies.{table_of, RowAccount, first_few, no_rows, row_accounted, with_lengths, rows_told, used_rows, rows_asked, rows_left}
pub use Rattle.tlsf_held.specs.Rows.{IsWithin, no_row, row_in, row_of, row_count, used, with_one, joined}
unfoldable pub use Rattle.tlsf_held.specs.Rows.{class_number}
pub use Rattle.tlsf_held.specs.Steps.{steps_told, StepAccount, freed_steps, moved_steps, no_band, band_after, stepped_all, entry_steps, no_steps, resized_steps, row_between, band_step, stepped, taken_steps, with_freed, with_held}
pub use Rattle.tlsf_held.specs.Tallies.{tally_of, noted, no_calls, with_release}
pub use Rattle.tlsf_held.specs.declared.row.Row.{Row}
pub use Rattle.tlsf_held.specs.declared.steps.Step.{Step}
pub use Rattle.tlsf_lines.specs.Events.{events_of}
pub use Rattle.tlsf_lines.specs.Trace.{Trace}
pub use Rattle.tlsf_lines.specs.Versions.{level_of, most_words_of}
pub use Rattle.tlsf_lines.specs.declared.header.Header.{Header}
pub use Rattle.tlsf_pool.specs.declared.sizes.split.Split.{Split}
pub use Rattle.tlsf_pool.specs.laws.Contents.{is_same}
pub use Rattle.tlsf_pool.specs.laws.Kinds.{Inventory, lengths, inventory_after, with_length, AreOfKinds, ArePlanned, IsPlanned}
pub use Rattle.tlsf_pool.specs.laws.MixedSizes.{AreModest, HasRoomFor, IsModest, mixed_region, mixed_words}
pub use Rattle.tlsf_trace.specs.Output.{level_in, yard_of, run_of, run_at}
