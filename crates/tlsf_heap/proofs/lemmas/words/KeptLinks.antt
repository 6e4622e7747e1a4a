-- The free lists of a region with other payload bytes.
use Rattle.tlsf_heap.proofs.Common.{◌≡◌, ℕ, ◌+◌, ◌*◌, ◌≤◌, ◌⊎◌, inl, inr, true, List, [], ◌∷◌, ◌++◌, length, take, drop, ◌∙◌, arith, Image, payload_byte, ListHeads, Block, size_of, is_free, bytes_of, StandsAt, block_at, with_bytes, RegionState, list_in}
use Rattle.tlsf_heap.proofs.lemmas.words.Image.{word_at, room_here}
use Rattle.tlsf_heap.proofs.lemmas.blocks.Stands.{around}
use Rattle.tlsf_heap.proofs.lemmas.words.Bytes.{held_within, size_of-with_bytes, is_free-with_bytes}
use Rattle.tlsf_heap.proofs.lemmas.words.Edit.{Leaves}
use Rattle.tlsf_heap.proofs.lemmas.words.Links.{HoldsState, IsListed, Relists, relisted, free_edited, only_first, free_only, in_order}

module _ (sli : ℕ) {m v : Image} {l : ListHeads} {r : RegionState} (state : HoldsState sli m l r) {at : ℕ} where
  -- one block becomes another of its size, which is free where that was and is listed
  pub one_relisted : {i : ℕ} → StandsAt r.blocks at i → (new : ℕ → Block) → Leaves v r.blocks at (λ i. take i r.blocks ++ (new i ∷ []) ++ drop (i + 1) r.blocks)
      → length v.words ≡ length m.words → size_of (new i) ≡ size_of (block_at r.blocks i)
      → ((other : ℕ) → IsListed (list_in r.lists) other → other ≡ at → is_free (block_at r.blocks i) ≡ true → is_free (new i) ≡ true)
      → ((other : ℕ) → IsListed (list_in r.lists) other → (other ≡ at) ⊎ ((other + 4 ≤ at) ⊎ (at + size_of (block_at r.blocks i) ≤ other)) → word_at v (other + 2) ≡ word_at m (other + 2))
      → Relists sli v l r.lists
  one_relisted {i = i} stands new left as_long sized free words =
      relisted sli state v left.shows as_long (λ other listed h. (
        words other listed (in_order state.shows stands h.1),
        free_edited sli state v stands (block_at r.blocks i ∷ []) (new i ∷ []) (drop (i + 1) r.blocks) (around r.blocks i stands.within) (left.blocks i stands) (omega (arith, sized)) other
            (λ q e inside. let first = only_first (block_at r.blocks i) q inside in free_only (new i) q first.0 (free other listed (omega (arith, e, first.0)) first.1)) h,
      ))

  -- some payload bytes of a block become others
  pub relisted_bytes : (offset n : ℕ) (new : ℕ → List ℕ) → (i : ℕ) × StandsAt r.blocks at i × (offset + n ≤ length (bytes_of (block_at r.blocks i)))
      → ((k : ℕ) → 8 * k + 8 ≤ payload_byte at offset → word_at v k ≡ word_at m k) → ((k : ℕ) → payload_byte at offset + n ≤ 8 * k → word_at v k ≡ word_at m k) → length v.words ≡ length m.words
      → Leaves v r.blocks at (λ i. take i r.blocks ++ (with_bytes (block_at r.blocks i) (new i) ∷ []) ++ drop (i + 1) r.blocks) → Relists sli v l r.lists
  relisted_bytes offset n new (i, stands, fits) before behind as_long left =
      let within = held_within (block_at r.blocks i) (room_here m r.blocks state.shows at i stands) in
      one_relisted stands (λ i. with_bytes (block_at r.blocks i) (new i)) left as_long (size_of-with_bytes (block_at r.blocks i) (new i))
      (λ other listed e free. is_free-with_bytes (block_at r.blocks i) (new i) ∙ free)
      (λ other listed order. elim order [
        | inl same ↦ before (other + 2) (omega arith)
        | inr (inl below) ↦ before (other + 2) (omega arith)
        | inr (inr above) ↦ behind (other + 2) (omega arith)
      ])
