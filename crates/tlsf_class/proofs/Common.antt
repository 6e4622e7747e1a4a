-- The names that most proofs of this crate cite, passed on from one place. Declares nothing.
pub use Rattle.std.proofs.Common.{arith, ◌≡◌, ◌∙◌, sym, ◌+◌, ap, ℕ, inl, inr, refl, ◌<◌, ◌≤◌, ◌-◌, Some, true, ◌*◌, ◌^◌, false, ◌%◌, ◌/◌, None, [], eqb, suc, w32, zero, ◌∷◌, Bool, List, bit_and, cond, filter, find, nat_le, nat_lt, not, ◌&&◌, ◌||◌, add-zero, fold, get_or, get_or-set_other, get_or-set_same, length, map, max, min, replicate, set, ◌≢◌, ◌⊎◌}
pub use Rattle.std.specs.Prelude.{Contains, ◌↔◌}
pub use Rattle.std.proofs.Math.Nat.{add-mul, div-add-mod, div-le_self, mul-add, mul_assoc, mul_comm, pow-le-pow_right}
pub use Rattle.std.proofs.lemmas.Bool.{cases_lt, cases_eq, cond-false, eq-eqb, eqb-true, le-leb, leb-true, lt-leb, agree_below, agree_below_at, and_cases, and_from, and_left, and_parts, and_right, cases_Bool, cases_order, cond-true, cond_below, false≢true, le-ltb, leb-false, ltb-true, ne_eqb}
pub use Rattle.std.proofs.lemmas.Nat.{one_shl, div-mul-add, le_or_r, mod_below, and_le_l, div_below, le-div, le_or_l, mod-mul-add, or_lt, pow-add, pow_below, pow_pos, shl_whole, shr-shr, shr_split}
pub use Rattle.std.proofs.lemmas.Nat.Bits.{bit_at-zero, bit_at-lt, bit_at-trailing_zeros, bit_at_above, bit_at_and, bit_at_clear_other, bit_at_clear_same, bit_at_mask_below, bit_at_mask_inside, bit_at_set_other, bit_at_set_same, ones_shl, shr_and_one}
pub use Rattle.std.specs.Int.{bit_at, bit_not}
pub use Rattle.tlsf_class.specs.Classes.{IsLevel, last_class, level_classes, most_words, serves}
unfoldable pub use Rattle.tlsf_class.specs.Classes.{classes, low, class_of, search_of}
