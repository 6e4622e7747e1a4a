-- The names that most proofs of this crate cite, passed on from one place. Declares nothing.
pub use Rattle.std.proofs.Common.{ap, arith, ◌≡◌, sym, ◌∙◌, ℕ, Some, [], subst, length, refl, ◌∷◌, List, Option, None, ◌++◌, ◌≤◌, ◌-◌, Err, length-set, set, slice_get, ◌+◌, ◌<◌, Result, inl, inr, suc, ◌*◌, ◌≢◌, Bool, Ok, false, replicate, take, true, zero, ⊎_elim, ◌⊎◌, IsOk, cond, IsErrOf, append-nil, append_assoc, eq-eqb, eqb, get_or, is_none, length-append, map, slice_index_or, ◌^◌, ◌↔◌}
pub use Rattle.std.specs.Prelude.{IfErr, IfOk, IsSome}
pub use Rattle.std.proofs.lemmas.Bool.{false≢true, cases_eq, eqb-true, le-ltb}
pub use Rattle.tlsf_arena.specs.Arenas.{Holds, requested}
pub use Rattle.tlsf_arena.specs.Units.{IsUnit, lacking, units_for, piece_size}
pub use Rattle.tlsf_arena.specs.declared.block.Block.{Block}
pub use Rattle.tlsf_heap.specs.Blocks.{HeapState, size_of, want, Free, Live}
pub use Rattle.tlsf_heap.specs.Calls.{released, last_tick, Outcome, Release, Released, allocated_words, resized_words, Allocate, Allocated, Resize, has_serial, is_worn, named, refused, resized_at, room_of}
pub use Rattle.tlsf_pool.specs.laws.Room.{live_count, sure}
pub use Rattle.tlsf_pool_arena.specs.PoolArenas.{PoolArenaState, fixed_bytes, IsPoolArena, fixed_size}
pub use Rattle.tlsf_pool_arena.specs.Remotes.{GoesOn, RemoteState, LookedInTime, AreAway, AreIdle, idle_slots, IsFrom, NoneLost, TakesHome, home_from, home_released, looks_from, still_away}
pub use Rattle.tlsf_pool_arena.specs.declared.parcel.Parcel.{Parcel}
pub use Rattle.tlsf_pool_arena.specs.returns.Ends.{away_by}
pub use Rattle.tlsf_pool_arena.specs.returns.Steps.{Seated, out_by, is_away, looks_by, slot_of, ticket_of, value_of, announced, cleared, looked, put_back, reached, sent_out}
