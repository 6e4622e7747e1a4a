-- A request that has a place in its table finds room.
use Rattle.tlsf_pool.proofs.Common.{◌≡◌, ◌≢◌, ℕ, ◌+◌, ◌≤◌, List, [], ◌∷◌, length, Err, refl, ap, arith, le_trans, AllByRecursion, IsLevel, most_words, Block, HeapState, Live, Free, want, fits, NoFit, live_count, sure, AreOfKinds, HasClass, count_in, used, longest_of, fixed_size, fixed_words, IsModest, Allocate, Kind, IsTable, TableRows, lengths_in, table_allocated}
use Rattle.tlsf_heap.proofs.lemmas.laws.NoFit.{no_fit_words}
use Rattle.tlsf_pool.proofs.lemmas.laws.FixedCalls.{InFixed}
use Rattle.tlsf_pool.proofs.lemmas.laws.FixedSize.{finds_fixed, finds_sure, sure_again, sure_region}
use Rattle.tlsf_pool.proofs.lemmas.laws.Inventories.{sum_of}
use Rattle.tlsf_pool.proofs.lemmas.laws.Loads.{load}
use Rattle.tlsf_pool.proofs.lemmas.laws.PlannedCalls.{live_lengths}
use Rattle.tlsf_pool.proofs.lemmas.laws.Tables.{all_used, counted_in, has_kind, most_of}
use Rattle.tlsf_pool.proofs.lemmas.sizes.Sizes.{longest_class}

pub lengths_load : (f : ℕ → ℕ) (bs : List Block) → load f bs ≡ sum_of f (lengths_in bs)
lengths_load f [] = refl
lengths_load f (Live m s xs ∷ bs) = ap (λ (n : ℕ). f (length xs) + n) (lengths_load f bs)
lengths_load f (Free m s ∷ bs) = lengths_load f bs

-- a request that fits the table is no longer than the longest kind of which one is held
pub no_longer : (kinds : List Kind) (n : ℕ) (lens : List ℕ) → AreOfKinds kinds (n ∷ lens) → n ≤ longest_of (used kinds)
no_longer kinds n lens fit = let has = has_kind kinds n lens fit in le_trans has.short (most_of (λ kind. kind.len) (used kinds) 0 has.kind has.of)

-- some class has blocks for that kind
pub longest_used : (sli : ℕ) → IsLevel sli → (kinds : List Kind) → AllByRecursion (HasClass sli) kinds → want (longest_of (used kinds)) ≤ most_words sli
longest_used sli level kinds all = longest_class sli level (used kinds) (all_used (HasClass sli) kinds all)

module _ (sli : ℕ) (h : HeapState) (t : TableRows) (is : IsTable sli h t) where
  abbrev longest : ℕ
  longest = longest_of (used t.kinds)

  class : want longest ≤ most_words sli
  class = longest_used sli is.level t.kinds is.classes

  again : sure sli (fixed_size sli t.kinds) ≡ fixed_size sli t.kinds
  again = sure_again sli is.level (want longest) class

  pub four : 4 ≤ fixed_size sli t.kinds
  four = (sure_region sli is.level (fixed_size sli t.kinds) again).0

  pub in_table : InFixed h.words (fixed_size sli t.kinds) h
  in_table = record { lawful = is.lawful; words_are = refl; fixed = is.fixed }

  pub enough : fixed_words sli (count_in t.kinds) (longest_of (used t.kinds)) ≤ h.words
  enough = omega (arith, is.words)

  -- a request that fits the table is within the bounds of all its blocks
  pub modest : (n : ℕ) → AreOfKinds t.kinds (n ∷ lengths_in h.blocks) → IsModest (count_in t.kinds) (longest_of (used t.kinds)) (live_count h) (Allocate n)
  modest n fit = (
    no_longer t.kinds n (lengths_in h.blocks) fit,
    omega (arith, live_lengths h.blocks (lengths_in h.blocks) (λ f. lengths_load f h.blocks), counted_in t.kinds (n ∷ lengths_in h.blocks) fit),
  )

  -- so it finds room
  pub fits_table : (n : ℕ) → AreOfKinds t.kinds (n ∷ lengths_in h.blocks) → ¬ (fits sli (fixed_size sli t.kinds) h.blocks ≡ [])
  fits_table n fit = finds_fixed sli is.level (fixed_size sli t.kinds) (count_in t.kinds) h is.lawful is.fixed again (omega (arith, enough)) (modest n fit).1

  pub has_room : (n : ℕ) → AreOfKinds t.kinds (n ∷ lengths_in h.blocks) → (table_allocated sli h t n).answer ≢ Err NoFit
  has_room n fit none = fits_table n fit ((no_fit_words sli h (fixed_size sli t.kinds) n).0 none)

  -- and one of the longest kind would be served
  pub fits_longest : (n : ℕ) → AreOfKinds t.kinds (n ∷ lengths_in h.blocks) → ¬ (fits sli (want (longest_of (used t.kinds))) h.blocks ≡ [])
  fits_longest n fit = finds_sure sli is.level (want longest) (fixed_size sli t.kinds) (count_in t.kinds) h is.lawful is.fixed class refl (omega (arith, enough)) (modest n fit).1
