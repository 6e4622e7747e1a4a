-- The names that most proofs of this crate cite, passed on from one place. Declares nothing.
pub use Rattle.std.proofs.Common.{◌≡◌, arith, ◌∙◌, sym, ℕ, ap, subst, List, ◌+◌, ◌≤◌, length, ◌<◌, refl, [], ◌∷◌, true, false, Some, ◌-◌, Bool, None, inl, inr, cond, ◌*◌, suc, ◌++◌, Option, set, max, nat_lt, zero, Err, get_or, Ok, nat_le, ◌≢◌, map, replicate, drop, fold, ◌&&◌, le_trans, Result, ap₂, rules, take, append_assoc, filter, ◌^◌, ◌↔◌, ◌⊎◌, eqb, length-append, IsOk, add-zero, eq-eqb, find, slice_index, get_or-set_other, get_or-set_same, length-drop, length-set, min, not, ◌==◌, ◌||◌, add-one, append-nil, drop-drop, drop_of_length-le, get_or-drop, length-take, length-take-le, take-append-drop, take_all, zero-add, ◌/◌}
pub use Rattle.std.specs.Prelude.{IsSomeAnd, IfSome, is_some, OnOk, IfOk, IsErrOf, IsSome, OnErr, ⊤}
pub use Rattle.std.proofs.Math.Nat.{mul-le-mul_right, mul-le-mul}
pub use Rattle.std.proofs.lemmas.Bool.{cases_lt, false≢true, le-leb, le-ltb, leb-true, eqb-true, lt-leb, lt-ltb, ne_eqb, cases_eq, and_from}
pub use Rattle.std.proofs.lemmas.Bool.Decides.{nat_tests}
pub use Rattle.std.proofs.lemmas.List.{length-replicate, get_or-append-add, get_or_append_left, with_items_is, at_drop_all, at_drop_more, drop_at, set-append_left, set-append_right, take_at}
pub use Rattle.std.proofs.lemmas.List.Sums.{position_or_len_is, fails_before_first, sum_by-cons}
pub use Rattle.std.specs.List.{AllByRecursion, list_all, position_or_len, sum}
pub use Rattle.std.specs.Option.{option_map_or, option_map}
pub use Rattle.tlsf_class.specs.Classes.{IsLevel, most_words}
unfoldable pub use Rattle.tlsf_class.specs.Classes.{low, class_of, classes, search_of}
pub use Rattle.tlsf_heap.specs.Blocks.{HeapState, want, Block, Free, Live, words_in, bytes_of, size_of, is_free, serials}
pub use Rattle.tlsf_heap.specs.Calls.{opened, Allocate, Release, Call, Write, run, answered, Read, Resize, before_free, has_serial, Outcome, carved, past_free, refused, Allocated, first_free, named, refitted, with_bytes, is_named, is_worn, last_free, last_tick, overwritten, released, written, Released, Resized, allocated, allocated_words, fitted, Written, allocated_at, has_bytes, released_at, Answer, written_at, coalesced, read_at, read_of}
pub use Rattle.tlsf_heap.specs.Chosen.{NoneFits}
pub use Rattle.tlsf_heap.specs.Given.{payload_words_at, payload_words_given}
pub use Rattle.tlsf_heap.specs.GoodFit.{Site, is_fit, fits, place_of, choice, sites_behind, block_at, is_as_good}
pub use Rattle.tlsf_heap.specs.Lawful.{IsLawful, HasRoom, IsRegion, FreeBlocksAreApart}
pub use Rattle.tlsf_heap.specs.Reports.{live_among, free_among, IsGrant}
pub use Rattle.tlsf_heap.specs.declared.name.Name.{Name}
pub use Rattle.tlsf_heap.specs.declared.refusal.Refusal.{Refusal}
pub use Rattle.tlsf_heap.specs.declared.refusal.Refusal.TheVariants.{NoFit, Worn, Foreign, Range}
pub use Rattle.tlsf_heap.specs.ledger.Ledgers.{IsLedgered, SameLedger}
pub use Rattle.tlsf_pool.specs.declared.kind.Kind.{Kind}
pub use Rattle.tlsf_pool.specs.declared.pools.pool_refusal.PoolRefusal.{PoolRefusal}
pub use Rattle.tlsf_pool.specs.declared.pools.pool_refusal.PoolRefusal.TheVariants.{Full, TooLong}
pub use Rattle.tlsf_pool.specs.declared.pools.row_counts.RowCounts.{RowCounts}
pub use Rattle.tlsf_pool.specs.declared.sizes.split.Split.{Split}
pub use Rattle.tlsf_pool.specs.laws.Contents.{is_same, contents, ChangesOneName, Contents, HasWhatIsLive, ReadsBack, ReadsWhatWasWritten, WritesIntoContents, after, after_all, bytes_there, got, part, with_contents}
pub use Rattle.tlsf_pool.specs.laws.FixedSize.{fixed_size, fixed_words, HasFixedSize, fixed_kinds_words, IsMultiple, answered_fixed, IsWhole, WantsWords, BeginAtMultiples, BlocksAreWhole, FewerThanATable, FewerThanMixedSizes, FixedSizeFindsRoom, FixedSizeIsExact, FixedSizeIsKept, FixedSizeIsTight, FixedSizeServes, FixedSizeSuffices, HundredOfFixedSize, IsFixedSize, NewHasFixedSize, OneLengthSuffices, SureIsSure, run_fixed}
pub use Rattle.tlsf_pool.specs.laws.Held.{held_after, HoldsWhatIsLive, held_after_all}
pub use Rattle.tlsf_pool.specs.laws.Kinds.{count_in, used, AreOfKinds, HasClass, table_words, are_fours, words_with, resized_words, Inventory, inventory_after, lengths, ArePlanned, IsPlanned, kinds_words, EmptyKindsAreNothing, KindsSuffice, InventoryIsLive, OneKindHasMixedWords, OrderIsNothing, ResizedSuffice, StaysFour, inventory_after_all, with_length}
pub use Rattle.tlsf_pool.specs.laws.MixedSizes.{IsModest, mixed_words, HasRoomFor, AreModest, IsSmall, IsServed, HasMixedRegion, HundredBlocks, MixedSizesServe, MixedSizesSuffice, OneBlockIsTight, RegionHasMixedWords, mixed_region}
pub use Rattle.tlsf_pool.specs.laws.OneLarge.{longest_of, OneLargeSuffices, ResizesNone, ThousandsAndOne, one_large_words, scattered_words}
pub use Rattle.tlsf_pool.specs.laws.Room.{sure, live_count, IsSnug, free_words, BlocksAreSnug, RoomIsTight, SumSuffices, wanted_words}
pub use Rattle.tlsf_pool.specs.pools.Bounds.{IsPool, Bounds, pool_allocated, or_worn, TellsBounds, answered_within}
pub use Rattle.tlsf_pool.specs.pools.Parts.{PoolsState, Stay, rows_in, table_of, named_in, no_part, part_at, ArePools, part_in, part_named, AreNew, HasRow, held_by, held_in, part_of, Allocates, IsNew, memory_of, rows_before, IsRowOf, counts_at}
pub use Rattle.tlsf_pool.specs.pools.Tables.{TableRows, row_len, row_of, TableState, IsTable, table_allocated, HoldsOneMore, IsTabled, lengths_in, AreAllReached, HasPlace, held_of, most_at, IsFull, TableExtents, CountsOneMore, TellsTable, answered_by_table, answered_in}
pub use Rattle.tlsf_pool.specs.sizes.Cheapest.{AreSmall, AreBest, HasFirst, IsBest, IsBestAmong, cheaper, with_first}
pub use Rattle.tlsf_pool.specs.sizes.Rising.{Rises, len_at}
pub use Rattle.tlsf_pool.specs.sizes.Splits.{parts_of, HasWords, joined, IsPart, cut_by, HasAtMost, IsCut, IsLeast, IsLeastAmong, IsNoLater, CutAlike, words_together}
