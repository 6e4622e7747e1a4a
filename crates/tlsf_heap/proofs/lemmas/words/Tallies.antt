-- The sums over the blocks of a region before a place, up to the next place and to the end.
use Rattle.tlsf_heap.proofs.Common.{◌≡◌, ℕ, ◌+◌, ◌*◌, ◌<◌, ◌≤◌, inl, inr, true, false, List, [], ◌∷◌, ◌++◌, length, take, drop, sym, ap, ◌∙◌, subst, arith, AllByRecursion, take_more, take_all, false≢true, cases_lt, Block, Live, Free, size_of, words_in, is_free, bytes_of, StandsAt, HasRoom, block_at, mark_of, live_among, free_among, payload_in, tally_of, IsTallyUpTo, Tally}
use Rattle.tlsf_heap.proofs.lemmas.blocks.Lawful.{all_left, all_right}
use Rattle.tlsf_heap.proofs.lemmas.blocks.Replace.{words_in-take}
use Rattle.tlsf_heap.proofs.lemmas.words.Image.{parted}
use Rattle.tlsf_heap.proofs.lemmas.blocks.Stands.{words_up_to}
use Rattle.tlsf_heap.proofs.lemmas.blocks.Sums.{with_live, with_free, tally-live, tally-free, words_apart, counts_apart, four_each, payload_small}

-- the sums with a block more, live or free
more_live : (tick : ℕ) (bs : List Block) (b : Block) → is_free b ≡ false → tally_of tick (bs ++ b ∷ []) ≡ with_live (tally_of tick bs) (size_of b) (length (bytes_of b))
more_live tick bs (Live size serial bytes) live = tally-live tick bs size serial bytes
more_live tick bs (Free size stamp) live = absurd (false≢true (sym live))

more_free : (tick : ℕ) (bs : List Block) (b : Block) → is_free b ≡ true → tally_of tick (bs ++ b ∷ []) ≡ with_free (tally_of tick bs) (size_of b) (mark_of b)
more_free tick bs (Live size serial bytes) free = absurd (false≢true free)
more_free tick bs (Free size stamp) free = tally-free tick bs size stamp

-- a block has four words, and holds its payload
roomy : (b : Block) → HasRoom b → (4 ≤ size_of b) × (length (bytes_of b) ≤ 8 * size_of b)
roomy (Live size serial bytes) room = (room.0, omega (arith, room.1))
roomy (Free size stamp) room = (room, omega arith)

module _ {tick at : ℕ} {bs : List Block} {t : Tally} (rooms : AllByRecursion HasRoom bs) (so_far : IsTallyUpTo tick bs at t) where
  -- the blocks before the place
  abbrev pub front : List Block
  front = take so_far.index bs

  -- the block at the place
  abbrev pub next : Block
  next = block_at bs so_far.index

  -- where blocks are left, one begins at the place
  pub stands : at < words_in bs → StandsAt bs at so_far.index
  stands more = elim (cases_lt so_far.index (length bs)) [
    | inl within ↦ record { within = within; place = so_far.place }
    | inr all ↦ absurd (omega (arith, more, so_far.place, ap words_in (take_all so_far.index bs all)))
  ]

  room_at : StandsAt bs at so_far.index → HasRoom next
  room_at here = (all_right HasRoom front (next ∷ drop (so_far.index + 1) bs) (subst (AllByRecursion HasRoom) (sym (parted bs so_far.index here.within)) rooms)).0

  rooms_before : StandsAt bs at so_far.index → AllByRecursion HasRoom front
  rooms_before here = all_left HasRoom front (next ∷ drop (so_far.index + 1) bs) (subst (AllByRecursion HasRoom) (sym (parted bs so_far.index here.within)) rooms)

  -- the block ends among the words
  pub ends : StandsAt bs at so_far.index → (4 ≤ size_of next) × (at + size_of next ≤ words_in bs)
  ends here = let four = roomy next (room_at here) in (four.0, omega (arith, words_up_to here, words_in-take bs (so_far.index + 1)))

  -- where none is left, the sums are over all
  pub all_summed : words_in bs ≤ at → t ≡ tally_of tick bs
  all_summed none = elim (cases_lt so_far.index (length bs)) [
    | inl within ↦ let e = ends (record { within = within; place = so_far.place }) in absurd (omega (arith, none, e.0, e.1))
    | inr all ↦ so_far.sums ∙ ap (tally_of tick) (take_all so_far.index bs all)
  ]

  -- with the next block the sums stay small
  pub record Small : Type 0 where
    pub live_blocks : t.live_blocks < words_in bs
    pub live_words : t.live_words + size_of next ≤ words_in bs
    pub live_bytes : t.live_bytes + length (bytes_of next) ≤ 8 * words_in bs
    pub free_blocks : t.free_blocks < words_in bs
    pub free_words : t.free_words + size_of next ≤ words_in bs

  pub small : StandsAt bs at so_far.index → Small
  small here =
      let end = ends here in
      let apart = words_apart front in
      let counts = counts_apart front in
      let few = four_each front (rooms_before here) in
      let held = payload_small front (rooms_before here) in
      let room = roomy next (room_at here) in
      let place = so_far.place in
      let live_blocks : t.live_blocks ≡ length (live_among front) = ap (λ (t : Tally). t.live_blocks) so_far.sums in
      let live_words : t.live_words ≡ words_in (live_among front) = ap (λ (t : Tally). t.live_words) so_far.sums in
      let live_bytes : t.live_bytes ≡ payload_in (live_among front) = ap (λ (t : Tally). t.live_bytes) so_far.sums in
      let free_blocks : t.free_blocks ≡ length (free_among front) = ap (λ (t : Tally). t.free_blocks) so_far.sums in
      let free_words : t.free_words ≡ words_in (free_among front) = ap (λ (t : Tally). t.free_words) so_far.sums in
      record {
        live_blocks = omega arith;
        live_words = omega arith;
        live_bytes = omega arith;
        free_blocks = omega arith;
        free_words = omega arith;
      }

  -- the sums up to the next place
  up_to_next : StandsAt bs at so_far.index → (u : Tally) → u ≡ tally_of tick (front ++ next ∷ []) → IsTallyUpTo tick bs (at + size_of next) u
  up_to_next here u sums = record {
    index = so_far.index + 1;
    within = omega (arith, here.within);
    place = words_up_to here;
    sums = sums ∙ ap (tally_of tick) (sym (take_more bs so_far.index (Free 0 0) here.within));
  }

  pub next_live : StandsAt bs at so_far.index → is_free next ≡ false → IsTallyUpTo tick bs (at + size_of next) (with_live t (size_of next) (length (bytes_of next)))
  next_live here live = up_to_next here _ (ap (λ (s : Tally). with_live s (size_of next) (length (bytes_of next))) so_far.sums ∙ sym (more_live tick front next live))

  pub next_free : StandsAt bs at so_far.index → is_free next ≡ true → IsTallyUpTo tick bs (at + size_of next) (with_free t (size_of next) (mark_of next))
  next_free here free = up_to_next here _ (ap (λ (s : Tally). with_free s (size_of next) (mark_of next)) so_far.sums ∙ sym (more_free tick front next free))
