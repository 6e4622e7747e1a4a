-- The names that most proofs of this crate cite, passed on from one place. Declares nothing.
pub use Rattle.std.proofs.Common.{◌≡◌, List, ◌∷◌, refl, [], sym, ◌∙◌, ap, ◌++◌, ℕ, ◌*◌, arith, ◌+◌, subst, ◌<◌, true, ◌^◌, ◌≤◌, ◌/◌, ◌-◌, false, Bool, Some, length, replicate, Ok, ◌%◌, None, eqb, inl, inr, suc, Option, lit<, Err, append_assoc, length-append, cond, take, zero, ◌&&◌, ◌||◌, ◌≢◌, IfSome, T, Vec, drop, nat_le, nat_lt, MatchResult, Result, rules, T_not, eq-eqb, eqb→eq, if◌then◌else◌, ltb, mul-le-mul_left, mul_assoc, not, pow_mono, suc-mul, ◌==◌}
pub use Rattle.std.specs.Prelude.{IsSome, OnErr, option_map}
pub use Rattle.core.proofs.alloc.Calls.{Goes-blank, Answer, Answer-Ok, Answer-err, answer_val, Al, seen, Answered, Gives, Gives-Gives, Gives-goes, Takes, Takes-gives, Takes-goes, answers, at_gives, at_takes}
pub use Rattle.core.proofs.alloc.Shapes.{after, arm_body, head}
pub use Rattle.core.proofs.atomic.Steps.{fm}
pub use Rattle.core.proofs.cell.Inside.{round, one, Good, unwraps, wraps}
pub use Rattle.core.proofs.ptr.Rows.{El, times_below, add_times, glued, room_split}
pub use Rattle.std.proofs.alloc.Calls.{handle_tells}
pub use Rattle.std.proofs.lemmas.Bool.{eqb-true, false≢true, cases_lt, true≢false, and_from, false_from_ne_true, ne_eqb, not_from_false, or_cases, or_from}
pub use Rattle.std.proofs.lemmas.Bool.Decides.{nat_tests, Decides-ltb}
pub use Rattle.std.proofs.lemmas.List.{length-replicate, append-nil, replicate-append-replicate}
pub use Rattle.std.proofs.raw_atomic.Walks.{leaves, proved_at}
pub use Rattle.std.specs.Allocator.{block_with_items, array_of, FitsBlock}
pub use Rattle.std.specs.Bool.{Decides}
pub use Rattle.std.specs.List.{AllByRecursion}
pub use Rattle.std_alloc.proofs.Pairs.{pair_of, pair_val, pair_Typed}
pub use Rattle.std_alloc.proofs.ResultValues.{and_tt}
pub use Rattle.std_alloc.specs.Vec.Ownership.{lodged, has_block, owns_if}
pub use Rattle.tlsf_arena.specs.Arenas.{ArenaState, Holds, IsMapped, SameArena, SameHome}
pub use Rattle.tlsf_arena.specs.Loans.{Loan, IsBook, is_out, without, right, units_of, rest_of, loan_of, name_of, same_loan, IsLoan, rights, row}
pub use Rattle.tlsf_arena.specs.Ownership.{Home, behind, ways, whole_token, free_rooms, ints, IsLoanAt, block_token}
pub use Rattle.tlsf_arena.specs.Units.{IsUnit, piece_size, IsPiece, IsRun, marked, held_at, free_map, free_units_in, held_units, lacking, spread, grain_of, units_for, held_in}
pub use Rattle.tlsf_class.specs.Classes.{IsLevel}
pub use Rattle.tlsf_heap.specs.Blocks.{HeapState, Block, Free, Live, size_of, words_in, bytes_of, StandsAt}
pub use Rattle.tlsf_heap.specs.Calls.{resized_words, allocated_words, has_serial, released, Outcome, first_free, named, past_free, refitted, carved, coalesced, fitted, room_of, before_free, is_worn, last_free, last_tick, opened, refused, released_at}
pub use Rattle.tlsf_heap.specs.GoodFit.{Site, place_of, block_at, is_fit}
pub use Rattle.tlsf_heap.specs.Lawful.{IsLawful, HasRoom, IsRegion}
pub use Rattle.tlsf_heap.specs.Laws.{IsLive}
pub use Rattle.tlsf_heap.specs.Placed.{placed_at, placed}
pub use Rattle.tlsf_heap.specs.declared.name.Name.{Name}
pub use Rattle.tlsf_heap.specs.declared.refusal.Refusal.{Refusal}
