-- The names that most proofs of this crate cite, passed on from one place. Declares nothing.
pub use Rattle.std.proofs.Common.{◌≡◌, ◌^◌, ◌≤◌, string_bytes, get_or, take, ◌+◌, rules, ◌*◌, ◌++◌, drop, ℕ, ◌-◌, List, [], ap, append-nil, append_assoc, arith, length, refl, subst, sym, take_all, ◌<◌, ◌∙◌, ◌∷◌}
pub use Rattle.tlsf_map.specs.Layouts.{IsScale}
pub use Rattle.tlsf_map.specs.Told.{Adds, all_told, title_of, heap_told, Tells, items_of, named_items}
