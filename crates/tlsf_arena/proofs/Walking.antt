-- The names that the walks of this crate cite, passed on from one place, as Common does for its other proofs. Declares nothing.
pub use Rattle.tlsf_arena.proofs.Common.{[], ◌∷◌, refl, List, ◌≡◌, ◌++◌, leaves, proved_at, Goes-blank, ◌∙◌, ℕ, sym, ap, ◌*◌, arith, ◌^◌, ◌<◌, pair_of, pair_val, ◌+◌, subst, true, ◌-◌, ◌/◌, ◌≤◌, after, Home, and_tt, false, block_with_items, fm, IsPiece, El, suc, ◌%◌, piece_size, Loan, behind, Bool, IsUnit, right, ways, whole_token, lit<, length, replicate, free_rooms, rest_of, Some, ints, Ok, Err, head, arm_body, zero, length-replicate, IsRun, marked, None, IsLoanAt, block_token, array_of, is_out, lodged, round, times_below, Answer, answer_val, Answer-Ok, Answer-err, length-append, IfSome, name_of, eqb, eq-eqb, without, Vec, T, one, Decides, FitsBlock, Al, seen, units_for, MatchResult, room_split, glued, add_times, suc-mul, cond, not, ◌&&◌, ◌||◌, eqb-true, and_from, or_from, false_from_ne_true, true≢false, same_loan, rights, row, ne_eqb, not_from_false, handle_tells, owns_if, has_block, Good, wraps, unwraps, pair_Typed, ltb, Decides-ltb, eqb→eq, T_not, false≢true, grain_of, Takes, at_takes, Answered, Takes-goes, Takes-gives, answers, Gives, at_gives, Gives-goes, Gives-Gives}
pub use base.Fml.{ftrue, flft, Lft, Share, froom, fex, GName, fsep, ffalse, Fml, ftok, fwand, Incl-refl, fat, fbor, feq}
pub use base.Fraction.{full_share}
pub use base.Logic.{SProp, emp, id⊢, sep, ent, never, fst∗, wand, apply∗, via, ex, guard, guard_i, guard_e}
pub use base.Mask.{every, less}
pub use base.Shift.{Keyless}
pub use contract.BorrowLft.{◌⊑◌, ⊑_trans, ⊑_refl}
pub use contract.Monad.{fact, fact_i, Fun}
pub use contract.Running.{tables}
pub use denote.Array.{Array}
pub use denote.Builtin.{usize, unit, u8}
pub use denote.Exit.{yes, left, rest, Last, no}
pub use denote.Laws.{Lawful, Typed}
unfoldable pub use denote.Memory.{part_at, cell_at, hidden_shr, lone, part_of}
pub use denote.Param.{layout, param, layouts, number, bounded}
pub use denote.Param.Laws.{IsNumber, Laws, of_field}
pub use denote.Param.Send.{IsSend, AllSend, owning_send, struct_send, sendable}
pub use denote.RattleType.{owns, RattleType}
pub use denote.RawPtr.{Ptr, block_ptr, ptr_val, count_of, in_a_block, RawPtr, null_ptr, block_of, InBlock, at_block, tests_same, tests_order, room_for}
pub use denote.Shadow.{pure_l, shadow, makes_shadow}
pub use denote.Signature.{types_at, type_at}
pub use denote.Steps.{nothing, heard, only}
pub use denote.Struct.Owning.{shape, fields, to}
pub use denote.Struct.Struct.{exits_of}
pub use denote.Struct.Tuple.{Tuple}
pub use denote.Triple.Call.{calls_at, calls_at_last, calls_from}
pub use denote.Triple.Clauses.{Lasts, lasts}
pub use denote.Triple.Entry.{alive}
pub use denote.Triple.Spec.{triple_of}
pub use denote.Triple.Walked.{Stays, walk_of, stay_dropped, Goes-dropped}
pub use mir.MapTy.{inst_fn}
pub use mir.Syntax.{Fn, Args, Ty, a_type, a_number, ty_array, w8, dcons, dnil, place, Width, w64, ty_int, w16, w32, w128, given as dict_at}
pub use mir.Val.{Val, vint, vptr, vunit, vcons, vnil, bytes, vbool, of_list, vstruct, has_ty, WT}
pub use prog.Align.{Dv, align_w, dv→, dv_self, align-bytes, align_size}
pub use prog.Capped.{capped_is, capped_small}
pub use prog.Memory.{size, capped, align, Memory}
pub use prog.Wp.{Env, WpFn}
pub use seplogic.Ra.Ura.{Ura}
pub use types.ByLocal.{alloc_all, pass_all, free_all, look_at, get, sets, env, get_in, sets_last, lands_as, is, get_tag, lands_last, through}
pub use types.Kit.{‵, ◌$◌, ◌⊛◌, ◌∵◌, !, qed, move, split, fjoin, raw, by, drop, use0, fsplit, prop, regoal, use2, rewrite, use1, join, feq_i, fsplit3, later, await, at_ret, fpick, split3, fpack, fjoin3, some, pick, flt_i, keep, done, given, learn, Item, Goal, Seq, use3, feq_l, frame, settles, updating, now, Step, Soaks, step, drop as lose, flt_l, check, show}
pub use types.Logic.{sem, Logic, lfts}
pub use types.Match.{vrt, in_variant, live}
pub use types.Na.{na_acc_in, na_bor, bor_na}
pub use types.Part.{agg, whole, sub, look_in, store_in}
pub use types.Run.{returns, enter, of_opd, no_more, and_then, stop, fld, first, exec, lit, blocks, unit_lit, bin, switches_on, true_lit, false_lit, skips, branches, returns_within, num_lit, load, addr, assigns}
pub use Rattle.core.proofs.option.Made.{Some-of, none_of}
pub use Rattle.linked_list_allocator.proofs.Nodes.{resized, cuts, glues}
pub use Rattle.linked_list_allocator.proofs.Values.{sized_val, sized_own, sized_told, sized_made, lease_val, lease_own, lease_made, ptr_typed, lease_told, list_val, list_own, list_told, list_made, plainly}
pub use Rattle.linked_list_allocator.proofs.Walks.{slot_at, then_runs, out_of_block, learns, with_token, proved_with_token}
pub use Rattle.linked_list_allocator.specs.Ownership.{bytes_at, units_of, fields_with}
pub use Rattle.linked_list_allocator.specs.Region.{Region, IsRegionSize, region_of}
pub use Rattle.std_alloc.proofs.SendSync.{quiet}
pub use Rattle.std_alloc.specs.declared.vec.lodged.Lodged.{Lodged}
