-- A walk over the blocks of a heap by their places.
use Rattle.tlsf_picture.proofs.Common.{◌≡◌, ℕ, ◌+◌, ◌<◌, ◌≤◌, List, [], ◌∷◌, ◌++◌, length, map, take, take_all, drop, Some, None, inl, inr, sym, ap, ◌∙◌, subst, arith, append_assoc, append-nil, AllByRecursion, at_drop_all, at_drop_more, HeapState, Block, Free, words_in, StandsAt}
use Rattle.std.proofs.lemmas.Bool.{cases_lt}
use Rattle.tlsf_heap.specs.GoodFit.{block_at}
use Rattle.tlsf_heap.specs.Lawful.{HasRoom, IsLawful}
use Rattle.tlsf_heap.specs.Placed.{placed, placed_from, placed_blocks, placed_at}
use Rattle.tlsf_heap.specs.declared.placed_block.PlacedBlock.{PlacedBlock}
use Rattle.tlsf_heap.proofs.lemmas.blocks.Replace.{words_in-take}
use Rattle.tlsf_heap.proofs.lemmas.blocks.Lawful.{all_right}
use Rattle.tlsf_heap.proofs.lemmas.blocks.ByPlace.{placed_found, placed_none}
use Rattle.tlsf_heap.proofs.lemmas.words.Image.{least, parted}
use Rattle.tlsf_heap.proofs.lemmas.blocks.Stands.{words_up_to}
use Rattle.tlsf_map.specs.declared.mapped_heap.LabelledBlock.{LabelledBlock}

-- this many blocks are behind the place, and those that are met and those that are left are all
pub record HasWalked (label : PlacedBlock → LabelledBlock) (bs : List Block) (at : ℕ) (met : List LabelledBlock) : Type 0 where
  pub count : ℕ
  pub within : count ≤ length bs
  pub place : words_in (take count bs) ≡ at
  pub so_far : met ++ map label (placed_from at (drop count bs)) ≡ map label (placed_blocks bs)

-- one block more is met
pub record GoesOn (label : PlacedBlock → LabelledBlock) (h : HeapState) (at : ℕ) (met : List LabelledBlock) (block : PlacedBlock) : Type 0 where
  pub long : 4 ≤ block.size
  pub inside : at + block.size ≤ h.words
  pub walked : HasWalked label h.blocks (at + block.size) (met ++ label block ∷ [])

same_some : (a b : PlacedBlock) → Some a ≡ Some b → a ≡ b
same_some a b same = cc

some_none : (b : PlacedBlock) → Some b ≡ None → ⊥
some_none b same = cc

module _ (label : PlacedBlock → LabelledBlock) (h : HeapState) (at : ℕ) (met : List LabelledBlock) (lawful : IsLawful h) (w : HasWalked label h.blocks at met) where
  abbrev bs : List Block
  bs = h.blocks

  stands_here : w.count < length bs → StandsAt bs at w.count
  stands_here lt = record { within = lt; place = w.place }

  found_here : w.count < length bs → placed_at bs at ≡ Some (placed at (block_at bs w.count))
  found_here lt = placed_found lawful.rooms (stands_here lt)

  next_here : w.count < length bs → GoesOn label h at met (placed at (block_at bs w.count))
  next_here lt =
      let here = block_at bs w.count in
      let room : HasRoom here = (all_right HasRoom (take w.count bs) (here ∷ drop (w.count + 1) bs) (subst (AllByRecursion HasRoom) (sym (parted bs w.count lt)) lawful.rooms)).0 in
      let ahead = words_up_to (stands_here lt) in
      let below = words_in-take bs (w.count + 1) in
      record {
        long = least here room;
        inside = omega (arith, ahead, below, lawful.whole);
        walked = record {
          count = w.count + 1;
          within = omega (arith, lt);
          place = ahead;
          so_far = append_assoc met (label (placed at here) ∷ []) _
              ∙ (sym (at_drop_more (λ (l : List Block). met ++ map label (placed_from at l)) bs w.count (Free 0 0) lt) ∙ w.so_far);
        };
      }

  -- behind the last block begins none
  none_here : length bs ≤ w.count → (i : ℕ) → StandsAt bs at i → ⊥
  none_here all i stands =
      let room : HasRoom (block_at bs i) =
      (all_right HasRoom (take i bs) (block_at bs i ∷ drop (i + 1) bs) (subst (AllByRecursion HasRoom) (sym (parted bs i stands.within)) lawful.rooms)).0 in
      let four = least (block_at bs i) room in
      let ahead = words_up_to stands in
      let below = words_in-take bs (i + 1) in
      let whole : words_in bs ≡ at = sym (ap words_in (take_all w.count bs all)) ∙ w.place in
      omega (arith, four, ahead, below, whole)

  -- the block that is found is the next
  pub walk_on : (block : PlacedBlock) → placed_at bs at ≡ Some block → GoesOn label h at met block
  walk_on block found = elim (cases_lt w.count (length bs)) [
    | inl lt ↦ subst (GoesOn label h at met) (same_some _ _ (sym (found_here lt) ∙ found)) (next_here lt)
    | inr all ↦ absurd (some_none _ (sym found ∙ placed_none (λ place. none_here all place.0 place.1)))
  ]

  -- and where none is found all are met
  pub walk_ends : placed_at bs at ≡ None → met ≡ map label (placed_blocks bs)
  walk_ends none = elim (cases_lt w.count (length bs)) [
    | inl lt ↦ absurd (some_none _ (sym (found_here lt) ∙ none))
    | inr all ↦ sym (append-nil met) ∙ (sym (at_drop_all (λ (l : List Block). met ++ map label (placed_from at l)) bs w.count all) ∙ w.so_far)
  ]

-- a heap that is looked at stays, so the walk goes on
pub goes_on : (label : PlacedBlock → LabelledBlock) (h now : HeapState) (at : ℕ) (met : List LabelledBlock) (block : PlacedBlock) → now ≡ h → IsLawful now → Some block ≡ placed_at now.blocks at
    → HasWalked label h.blocks at met → GoesOn label h at met block
goes_on label h now at met block same lawful found w =
    walk_on label h at met (subst IsLawful same lawful) w block (ap (λ (x : HeapState). placed_at x.blocks at) (sym same) ∙ sym found)
