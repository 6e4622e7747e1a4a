-- The names that the walks of this crate cite, passed on from one place, as Common does for its other proofs. Declares nothing.
pub use Rattle.tlsf_c.proofs.Common.{D, B, word, box_out, box_in, box_typed, Option, Some, None, Bx, handle_tells, box_ty, ghosts, dict, Global, quiet, lies, α, Fits, and_tt, is_some, token, R, Goes-blank, P, τ, LevelHeap, false≢true, args, no_counts, handle}
pub use base.Fml.{ftrue, fsep, flft, Lft, GName, Share, Fml, fobs, fbor}
pub use base.Logic.{SProp, ent, id⊢, emp, sep, never, fst∗}
pub use base.Shift.{Keyless}
pub use contract.BorrowLft.{◌⊑◌}
pub use contract.Monad.{Fun, fact}
unfoldable pub use contract.Running.{tables, tables_of}
pub use denote.Exit.{yes, no}
unfoldable pub use denote.Memory.{lone, cell_at, part_at, part_of, mem}
pub use denote.Param.Send.{IsSend, AllSend, owning_send, struct_send, sendable}
pub use denote.RattleType.{owns, Valss, RattleType}
pub use denote.RawPtr.{Ptr, block_ptr, RawPtr, null_ptr, ptr_val, in_a_block}
pub use denote.Signature.{type_at, plain, Slot, mut_ref_to}
pub use denote.Steps.{nothing, heard, only, opens}
pub use denote.Struct.Owning.{shape, fields, to}
pub use denote.Struct.Struct.{within, exits_of}
pub use denote.Triple.Call.{calls_at_last, calls_at}
pub use denote.Triple.Clauses.{Ended, Clauses}
pub use denote.Triple.Spec.{triple_of}
pub use denote.Triple.Statement.{Triple, Contract}
pub use denote.Triple.Table.{entered}
pub use denote.Triple.Walked.{says, Stays, stay_dropped, walk_of, ends_at, walk_Meets, Goes-dropped, needs, Goes-spent_ref}
pub use lib.Dec.{T, lit<}
pub use mathlib.Core.Bool.{true, Bool, false}
pub use mathlib.Core.List.{[], List, ◌∷◌, ◌++◌}
pub use mathlib.Core.Path.{refl, sym, subst, ◌≡◌, ap, ◌∙◌}
pub use mir.MapTy.{inst_fn}
pub use mir.Raw.{raw as bare}
pub use mir.Syntax.{dnil, impl, tnil, ty_ptr, Fn, named, Body, place, copy, assign, rv_opd, seq, return, Args, Dict, a_type, dcons}
pub use mir.Val.{Val, has_ty, WT, vstruct, vcons, vnil, vptr, of_list}
pub use prog.Memory.{Memory}
pub use prog.Routine.{Routine}
pub use prog.Wp.{WpFn, Tables, Env, Calls, Loops}
pub use seplogic.Ra.Ura.{Ura}
pub use sound.WpLaws.{WpFn-mono, fm_of}
pub use types.ByLocal.{alloc_all, pass_all, free_all, look_at, get, sets, get_in, env, through, sets_last, lands_last, lands_as}
pub use types.Kit.{Item, ‵, raw, ◌⊛◌, ◌$◌, ◌∵◌, !, qed, by, move, use1, join, split, fsplit, fjoin, suffices, done, drop, rewrite, feq_l, feq_i, fpack, some, later, await, pick, at_ret, split3, ⋆, keep, group, fsplit3, fjoin3, frame, fpick}
pub use types.Logic.{Logic, sem}
pub use types.Part.{agg, whole, sub, look_in}
pub use types.Run.{returns, enter, no_more, and_then, stop, fld, of_opd, first, blocks, exec, load, addr}
pub use Rattle.std_alloc.specs.Box.Ownership.{box_owns}
pub use Rattle.std.proofs.raw_atomic.Walks.{proved_at}
