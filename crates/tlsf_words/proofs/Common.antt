-- The names that most proofs of this crate cite, passed on from one place. Declares nothing.
pub use Rattle.std.proofs.Common.{arith, ◌∙◌, ap, ◌≡◌, ◌+◌, length, get_or, sym, ℕ, ◌*◌, ◌<◌, refl, ◌-◌, List, inl, inr, ◌/◌, ◌≤◌, ◌%◌, drop, take, ◌++◌, length-take-le, w64, ◌∷◌, false, subst, ◌^◌, ◌≢◌, [], eqb, true, set, Bool, length-drop, suc, replicate, zero, cond, get_or-set_other, get_or-set_same, length-append, not, length-take, map, Some, eq-eqb, get_or-take, ◌&&◌, ◌||◌, ◌⊎◌}
pub use Rattle.std.specs.Prelude.{Contains}
pub use Rattle.std.proofs.lemmas.Bool.{cases_lt, cases_eq, ne_eqb, eqb-true, false≢true}
pub use Rattle.std.proofs.lemmas.Grind.{common_steps, get_or_default_zero}
pub use Rattle.std.proofs.lemmas.List.{get_or-drop, get_or_append_left, get_or-append_right, get_or-replicate, get_or_past, length-replicate, length-set, ext_get_or, append-nil, drop_all, drop_more, take-append-drop}
pub use Rattle.std.proofs.lemmas.List.Edits.{get_or-between, length-between}
pub use Rattle.std.proofs.lemmas.List.Elements.{Contains-append_left, Contains-append_right, filter_agree, All-contains, All-from_recursion}
pub use Rattle.std.proofs.lemmas.List.FromFn.{get_or-map-range_with_len, length-map-range_with_len, fill_by_all, get_or-range_with_len, length-range_with_len}
pub use Rattle.std.proofs.lemmas.Nat.{le_bytes_8, div-mul-add, mod-mul-add, mod-pow-add, pow-add, pow_pos}
pub use Rattle.std.specs.Int.{to_le_bytes, bit_at, from_le_bytes, bit_not, from_bool, rotate_left}
pub use Rattle.std.specs.List.{AllByRecursion, between, range_with_len, slice_get}
unfoldable pub use Rattle.std.specs.List.{IsDistinct}
pub use Rattle.tlsf_class.specs.Classes.{IsLevel, last_class}
unfoldable pub use Rattle.tlsf_class.specs.Classes.{classes, class_of}
unfoldable pub use Rattle.tlsf_class.specs.Members.{with_member, without_member}
pub use Rattle.tlsf_words.specs.Bytes.{Fills}
unfoldable pub use Rattle.tlsf_words.specs.Bytes.{byte_in, bytes_in}
pub use Rattle.tlsf_words.specs.Counted.{Notes, Within, CountedStarts, Tallied}
unfoldable pub use Rattle.tlsf_words.specs.Fields.{size_in, back_in, last_in, low_half, free_in, high_half, links_word, tag_word, length_word}
pub use Rattle.tlsf_words.specs.Lists.{nowhere, first_of, AreDistinct, AreThreaded, LinkedFrom, listed_classes, ListHeads, OnlyLinksChange, without_place, IsUnlisted}
unfoldable pub use Rattle.tlsf_words.specs.Lists.{list_of, places_from}
pub use Rattle.tlsf_words.specs.Memory.{Memory}
pub use Rattle.tlsf_words.specs.Ties.{AreTied}
pub use Rattle.tlsf_words.specs.Touched.{InGroups}
unfoldable pub use Rattle.tlsf_words.specs.Touched.{times}
