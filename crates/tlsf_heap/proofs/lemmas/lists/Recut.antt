-- The lists of the free blocks when a live block takes the free block behind it in, and is cut.
use Rattle.tlsf_heap.proofs.Common.{◌≡◌, ◌≢◌, ℕ, suc, ◌+◌, ◌-◌, ◌<◌, ◌≤◌, true, List, [], ◌∷◌, ◌++◌, take, drop, sym, ap, ◌∙◌, subst, arith, class_of, Block, Live, Free, size_of, is_free, bytes_of, StandsAt, first_free, past_free, cut, recut, FreePlace, free_places, AreFreeLists, block_at, mark_of, AreUnlisted, SameLists, IsUnlisted}
use Rattle.tlsf_heap.proofs.lemmas.lists.Withheld.{Forgets, IsBetween, between, fresh_behind, left_next}
use Rattle.tlsf_heap.proofs.lemmas.lists.FreeLists.{AreListed, IsFresh, fresh_both, not_listed, same_lists, unlisted_same, given}
use Rattle.tlsf_heap.proofs.lemmas.words.Recut.{live_as, cut_small, cut_large}
use Rattle.tlsf_heap.proofs.lemmas.blocks.Around.{Around, around_next, block_around, stands_around, regions_front, places_behind, fresh_front, past_around, newest, past_past}

module _ (sli : ℕ) {bs : List Block} {at i before size after tick : ℕ} {lists : ℕ → List ℕ} (f : IsBetween sli bs at i before size after tick lists) where
  abbrev front : List Block
  front = take i bs

  abbrev block : Block
  block = block_at bs i

  abbrev back : List Block
  back = drop (suc i) bs

  abbrev serial : ℕ
  serial = mark_of block

  abbrev bytes : List ℕ
  bytes = bytes_of block

  abbrev ahead : List FreePlace
  ahead = free_places sli 0 front

  abbrev behind : List FreePlace
  behind = free_places sli (at + size + after) (past_free back)

  -- no free block but the one behind begins in their words
  fresh_own : (k : ℕ) → at ≤ k → k < at + size + after → IsFresh k (ahead ++ behind)
  fresh_own k low high =
      fresh_both k ahead behind (fresh_front sli front k (regions_front sli (between sli f) f.sized) (omega (arith, f.stands.place, low))) (fresh_behind sli f k high)

  cuts : (n : ℕ) (new : List Block) → cut (size + after) n tick serial bytes ≡ new → recut tick n block back ≡ new ++ past_free back
  cuts n new is =
      let room : size_of block + first_free back ≡ size + after = omega (arith, f.is_size, f.is_after) in
      ap (λ (b : Block). recut tick n b back) (live_as block f.live) ∙ ap (λ (k : ℕ). cut k n tick serial bytes ++ past_free back) room ∙ ap (λ (l : List Block). l ++ past_free back) is

  -- once the block behind is out
  module _ {left : ℕ → List ℕ} (out : Forgets sli after (at + size) lists left) where
    -- no place in their words is listed
    pub own_unlisted : AreUnlisted left at (at + size + after)
    own_unlisted k low high = not_listed (ahead ++ behind) left k (left_next sli f out) (fresh_own k low high)

    -- and the block is cut
    module _ (n : ℕ) (new : List Block) (is_new : new ≡ front ++ recut tick n block back) (kept : ℕ → List ℕ) (stay : SameLists kept left) where
      kept_listed : AreListed (ahead ++ behind) kept
      kept_listed = same_lists (ahead ++ behind) left kept stay (left_next sli f out)

      -- with no rest
      pub wide_listed : size + after < n + 4 → AreFreeLists sli new kept
      wide_listed small =
          let is = is_new ∙ ap (λ (l : List Block). front ++ l) (cuts n (Live (size + after) serial bytes ∷ []) (cut_small (size + after) n tick serial bytes small)) in
          let ends : at + (size + after) ≡ at + size + after = omega arith in
          subst (λ (l : List FreePlace). AreListed l kept)
          (sym (ap (free_places sli 0) is ∙ places_behind sli front (Live (size + after) serial bytes ∷ past_free back) at f.stands.place ∙ ap (λ (k : ℕ). ahead ++ free_places sli k (past_free back)) ends))
          kept_listed

      module _ (least : 4 ≤ n) (large : n + 4 ≤ size + after) where
        abbrev rest : ℕ
        rest = size + after - n

        cut_around : Around new at i front (Live n serial bytes) (Free rest tick ∷ past_free back)
        cut_around = record {
          is = is_new ∙ ap (λ (l : List Block). front ++ l) (cuts n (Live n serial bytes ∷ Free rest tick ∷ []) (cut_large (size + after) n tick serial bytes large));
          before = (between sli f).before;
          place = f.stands.place;
        }

        -- the rest is a free block, in no list
        pub cut_free : (j : ℕ) × StandsAt new (at + n) j × (is_free (block_at new j) ≡ true)
        cut_free = let next = around_next cut_around in (i + 1, stands_around next, ap is_free (block_around next))

        pub cut_unlisted : IsUnlisted kept (at + n)
        cut_unlisted = unlisted_same left kept (at + n) stay (own_unlisted (at + n) (omega arith) (omega (arith, large)))

        -- and once it is in the list of its class
        pub cut_listed : (now : List Block) → now ≡ new → (class : ℕ) (all : ℕ → List ℕ) → class ≡ class_of sli rest → all class ≡ (at + n) ∷ kept class → ((other : ℕ) → other ≢ class → all other ≡ kept other) → AreFreeLists sli now all
        cut_listed now same class all is_class came others =
            let e : FreePlace = record { class = class; at = at + n; stamp = tick } in
            let past = past_around (between sli f) tick f.past in
            let listed : AreListed (ahead ++ e ∷ behind) all =
            given e ahead behind kept all others (newest sli tick (at + size + after) front (past_free back) past.0 (past_past tick back past.1)) came kept_listed in
            let ends : at + n + rest ≡ at + size + after = omega (arith, large) in
            subst (λ (l : List FreePlace). AreListed l all)
            (sym (ap (free_places sli 0) (same ∙ cut_around.is) ∙ places_behind sli front (Live n serial bytes ∷ Free rest tick ∷ past_free back) at f.stands.place
            ∙ ap (λ (k : ℕ). ahead ++ record { class = class_of sli rest; at = at + n; stamp = tick } ∷ free_places sli k (past_free back)) ends
            ∙ ap (λ (k : ℕ). ahead ++ record { class = k; at = at + n; stamp = tick } ∷ behind) (sym is_class))) listed
