-- Words of payloads: where they lie, and that a change of other blocks leaves them so.
use Rattle.tlsf_heap.proofs.Common.{◌⊎◌, ◌++◌, ◌≡◌, ◌≢◌, ℕ, suc, ◌+◌, ◌-◌, ◌<◌, ◌≤◌, List, ◌∷◌, true, false, inl, inr, refl, sym, ap, ◌∙◌, subst, arith, take, drop, length, append_assoc, false≢true, cases_lt, Block, Live, Free, is_free, words_in, size_of, StandsAt, block_at, site_at, IsWordOf, LeavesLive, IsLiveWord, IsOthersWord, Image, Shows, first_free, past_free, last_free, coalesced, cut, recut, times}
use Rattle.tlsf_heap.proofs.lemmas.words.Says.{says_here}
use Rattle.tlsf_heap.proofs.lemmas.words.Recut.{cut_small, cut_large}
use Rattle.tlsf_heap.proofs.lemmas.blocks.Neighbours.{place_behind}
use Rattle.tlsf_heap.proofs.lemmas.laws.Lasting.{HasFrom, of_index, to_index, moved, in_left, in_right, in_either, past_lasts, released_lasts}
use Rattle.tlsf_heap.proofs.lemmas.blocks.Around.{Around, around, around_first, around_last, stands_around, block_around, last_words}
use Rattle.tlsf_words.proofs.Touching.{times_other}
use Rattle.tlsf_heap.proofs.lemmas.blocks.Order.{ends_before}

-- a word is one of one block
pub one_block : (bs : List Block) (i j at other s t k : ℕ) → IsWordOf bs i at s k → IsWordOf bs j other t k → i ≡ j
one_block bs i j at other s t k a b = elim (cases_lt i j) [
  | inl l ↦ absurd (let e = ends_before bs i j l b.stands.within in omega (arith, e, a.stands.place, b.stands.place, a.within, b.behind))
  | inr g ↦ elim (cases_lt j i) [
    | inl l ↦ absurd (let e = ends_before bs j i l a.stands.within in omega (arith, e, a.stands.place, b.stands.place, b.within, a.behind))
    | inr h ↦ omega (arith, g, h)
  ]
]

-- so the blocks begin at one place
pub one_place : (bs : List Block) (i j at other s t k : ℕ) → IsWordOf bs i at s k → IsWordOf bs j other t k → at ≡ other
one_place bs i j at other s t k a b = sym a.stands.place ∙ ap (λ (n : ℕ). words_in (take n bs)) (one_block bs i j at other s t k a b) ∙ b.stands.place

-- a word of the header of a block is none of a payload
pub header_apart : {m : Image} {bs : List Block} → Shows m bs → {at i : ℕ} → StandsAt bs at i → (d : ℕ) → d < 3 → (k : ℕ) → IsLiveWord bs k → k ≢ at + d
header_apart {bs = bs} shows {at = at} {i = i} stands d low k live e =
    let says = says_here shows stands in
    let word : IsWordOf bs i at 0 k = record { stands = stands; behind = omega (arith, e); within = omega (arith, e, low, says.least) } in
    let same = one_place bs live.0 i live.1 at 3 0 k live.2 word in
    omega (arith, e, low, same, live.2.behind)

-- a read of one leaves all payloads
pub reads_header : {m : Image} {bs : List Block} → Shows m bs → {at i : ℕ} → StandsAt bs at i → (d p : ℕ) → d < 3 → p ≡ at + d → (old new : List ℕ) → new ≡ p ∷ old → LeavesLive bs old new
reads_header shows {at = at} stands d p low e old new is k live =
    ap (λ (l : List ℕ). times l k) is ∙ times_other p k old (λ f. header_apart shows stands d low k live (f ∙ e))

module _ {m : Image} {bs : List Block} (shows : Shows m bs) where
  -- nor is the word behind a block: a header begins there, or the region ends
  pub behind_apart : {at i : ℕ} → StandsAt bs at i → (k : ℕ) → IsLiveWord bs k → k ≢ at + size_of (block_at bs i)
  behind_apart {at = at} {i = i} stands k live e = elim (cases_lt (at + size_of (block_at bs i)) (length m.words)) [
    | inl short ↦ header_apart shows (place_behind shows.whole stands short).1 0 (omega arith) k live (omega (arith, e))
    | inr past ↦ let ends = (says_here shows live.2.stands).ends in omega (arith, ends, past, e, live.2.within)
  ]

  module _ {at i : ℕ} (stands : StandsAt bs at i) {before tag_size : ℕ} (is_before : before ≡ last_free (take i bs)) (is_size : tag_size ≡ last_free (take i bs) + size_of (block_at bs i) + first_free (drop (suc i) bs)) where
    here : Around bs at i (take i bs) (block_at bs i) (drop (suc i) bs)
    here = around bs at i stands

    -- what a merge writes
    pub front_apart : (d : ℕ) → d < 3 → (k : ℕ) → IsLiveWord bs k → k ≢ at - before + d
    front_apart d low k live e = elim (cases_lt 0 (last_free (take i bs))) [
      | inl some ↦ header_apart shows (stands_around (around_last here some)) d low k live (omega (arith, e, is_before))
      | inr none ↦ header_apart shows stands d low k live (omega (arith, e, is_before, none))
    ]

    pub end_apart : (k : ℕ) → IsLiveWord bs k → k ≢ at - before + tag_size
    end_apart k live e =
        let inside : last_free (take i bs) ≤ at = omega (arith, last_words (take i bs), stands.place) in
        let there : k ≡ at + size_of (block_at bs i) + first_free (drop (suc i) bs) = omega (arith, e, is_before, is_size, inside) in
        elim (cases_lt 0 (first_free (drop (suc i) bs))) [
          | inl some ↦ let a = around_first here some in let size = ap size_of (block_around a) in behind_apart (stands_around a) k live (omega (arith, there, size))
          | inr none ↦ behind_apart stands k live (omega (arith, there, none))
        ]

-- ---- what a release leaves

-- a live block of which word k is one
abbrev pub HoldsWord : ℕ → ℕ → Block → Type 0
HoldsWord other k b = (is_free b ≡ false) × (k < other + size_of b)

-- the blocks with such a word of one that begins elsewhere
pub holder : (bs : List Block) (at k : ℕ) (o : IsOthersWord bs at k) → HasFrom (HoldsWord o.1 k) o.1 0 bs
holder bs at k o = of_index (HoldsWord o.1 k) o.1 0 bs o.0 o.2.stands.within (omega (arith, o.2.stands.place)) (o.3, o.2.within)

pub held_at : (bs old : List Block) (at to k : ℕ) (o : IsOthersWord old at k) → HasFrom (HoldsWord o.1 k) o.1 0 bs → o.1 ≢ to → IsOthersWord bs to k
held_at bs old at to k o has differ =
    let r = to_index (HoldsWord o.1 k) o.1 0 bs has in
    (r.0, o.1, record { stands = record { within = r.1; place = omega (arith, r.2) }; behind = o.2.behind; within = r.3.1 }, r.3.0, differ)

pub held_word : (bs old : List Block) (at k : ℕ) (o : IsOthersWord old at k) → HasFrom (HoldsWord o.1 k) o.1 0 bs → IsOthersWord bs at k
held_word bs old at k o has = held_at bs old at at k o has o.4

-- as a word of any live block
pub any_word : (bs : List Block) (at k : ℕ) → IsOthersWord bs at k → IsLiveWord bs k
any_word bs at k o = (o.0, o.1, o.2, o.3)

-- a release leaves them words of live blocks
pub others_last : (tick : ℕ) (bs : List Block) (at i k : ℕ) → StandsAt bs at i → IsOthersWord bs at k → IsLiveWord (coalesced tick (site_at bs i)) k
others_last tick bs at i k stands o =
    let P = HoldsWord o.1 k in
    let whole = (around bs at i stands).is in
    let new = released_lasts P o.1 (λ m s h. false≢true (sym h.0)) tick (take i bs) (drop (suc i) bs) (block_at bs i) (λ h e. o.4 (sym e ∙ stands.place)) (subst (HasFrom P o.1 0) whole (holder bs at k o)) in
    any_word (coalesced tick (site_at bs i)) at k (held_word (coalesced tick (site_at bs i)) bs at k o new)

-- so does another block in place of one, or several of equally many words, and of the block at the place they are none
pub kept_others : (bs new mid : List Block) (at i k : ℕ) → StandsAt bs at i → new ≡ take i bs ++ mid ++ drop (suc i) bs → words_in mid ≡ size_of (block_at bs i) → IsOthersWord bs at k → IsOthersWord new at k
kept_others bs new mid at i k stands is size o =
    let P = HoldsWord o.1 k in
    let front = take i bs in
    let back = drop (suc i) bs in
    let old = subst (HasFrom P o.1 0) (around bs at i stands).is (holder bs at k o) in
    held_word new bs at k o (subst (HasFrom P o.1 0) (sym (is ∙ append_assoc front mid back)) (elim (in_either P o.1 0 front (block_at bs i ∷ back) old) [
      | inl l ↦ in_left P o.1 0 front (mid ++ back) l
      | inr r ↦ elim r [
        | inl e ↦ absurd (o.4 (omega (arith, e.1, stands.place)))
        | inr t ↦ in_right P o.1 0 front (mid ++ back) (in_right P o.1 (0 + words_in front) mid back (moved P o.1 _ _ back (omega (arith, size)) t))
      ]
    ]))

-- a block that takes the free block behind it in leaves them so too
pub recut_others : (bs new mid : List Block) (at i k : ℕ) → StandsAt bs at i → new ≡ take i bs ++ (mid ++ past_free (drop (suc i) bs)) → words_in mid ≡ size_of (block_at bs i) + first_free (drop (suc i) bs) → IsOthersWord bs at k → IsOthersWord new at k
recut_others bs new mid at i k stands is size o =
    let P = HoldsWord o.1 k in
    let front = take i bs in
    let back = drop (suc i) bs in
    let old = subst (HasFrom P o.1 0) (around bs at i stands).is (holder bs at k o) in
    held_word new bs at k o (subst (HasFrom P o.1 0) (sym is) (elim (in_either P o.1 0 front (block_at bs i ∷ back) old) [
      | inl l ↦ in_left P o.1 0 front (mid ++ past_free back) l
      | inr r ↦ elim r [
        | inl e ↦ absurd (o.4 (omega (arith, e.1, stands.place)))
        | inr t ↦ in_right P o.1 0 front (mid ++ past_free back) (in_right P o.1 (0 + words_in front) mid (past_free back)
            (moved P o.1 _ _ (past_free back) (omega (arith, size)) (past_lasts P o.1 (λ m s h. false≢true (sym h.0)) (0 + words_in front + size_of (block_at bs i)) back t)))
      ]
    ]))

-- a block that is cut keeps its words
pub cut_words : (room n tick serial : ℕ) (bytes : List ℕ) → n ≤ room → words_in (cut room n tick serial bytes) ≡ room
cut_words room n tick serial bytes fits = elim (cases_lt room (n + 4)) [
  | inl small ↦ ap words_in (cut_small room n tick serial bytes small) ∙ omega arith
  | inr large ↦ ap words_in (cut_large room n tick serial bytes large) ∙ omega (arith, large)
]

pub recut_words : (b : Block) (back : List Block) (n tick : ℕ) → is_free b ≡ false → (mid : List Block) × (recut tick n b back ≡ mid ++ past_free back) × (n ≤ size_of b + first_free back → words_in mid ≡ size_of b + first_free back)
recut_words (Free m s) back n tick live = absurd (false≢true (sym live))
recut_words (Live m s xs) back n tick live =
    let room = m + first_free back in (
      cut room n tick s xs,
      refl,
      cut_words room n tick s xs,
    )

pub recut_lasts : (bs new : List Block) (at i k n tick : ℕ) → StandsAt bs at i → is_free (block_at bs i) ≡ false → n ≤ size_of (block_at bs i) + first_free (drop (suc i) bs)
    → new ≡ take i bs ++ recut tick n (block_at bs i) (drop (suc i) bs) → IsOthersWord bs at k → IsOthersWord new at k
recut_lasts bs new at i k n tick stands live fits is o =
    let r = recut_words (block_at bs i) (drop (suc i) bs) n tick live in
    recut_others bs new r.0 at i k stands (is ∙ ap (λ (l : List Block). take i bs ++ l) r.1) (r.2 fits) o

-- ---- words of one block and of another

-- a payload word of a block that begins elsewhere, or lies in this block
pub word_apart : (bs : List Block) (at i j other k : ℕ) → StandsAt bs at i → IsWordOf bs j other 3 k → (i ≡ j) ⊎ ((k < at) ⊎ (at + size_of (block_at bs i) ≤ other))
word_apart bs at i j other k stands word = elim (cases_lt i j) [
  | inl l ↦ inr (inr (let e = ends_before bs i j l word.stands.within in omega (arith, e, stands.place, word.stands.place)))
  | inr g ↦ elim (cases_lt j i) [
    | inl l ↦ inr (inl (let e = ends_before bs j i l stands.within in omega (arith, e, stands.place, word.stands.place, word.within)))
    | inr h ↦ inl (omega (arith, g, h))
  ]
]

-- another block's lies before a block or behind it
pub others_apart : (bs : List Block) (at i k : ℕ) → StandsAt bs at i → IsOthersWord bs at k → (k < at) ⊎ (at + size_of (block_at bs i) + 3 ≤ k)
others_apart bs at i k stands o = elim (word_apart bs at i o.0 o.1 k stands o.2) [
  | inl e ↦ absurd (o.4 (sym o.2.stands.place ∙ ap (λ (n : ℕ). words_in (take n bs)) (sym e) ∙ stands.place))
  | inr (inl below) ↦ inl below
  | inr (inr above) ↦ inr (omega (arith, above, o.2.behind))
]

-- where a block is free, each word of a live one is another block's
pub elsewhere : (bs : List Block) (at i k : ℕ) → StandsAt bs at i → is_free (block_at bs i) ≡ true → 0 < size_of (block_at bs i) → (live : IsLiveWord bs k) → live.1 ≢ at
elsewhere bs at i k stands free some live same = elim (word_apart bs at i live.0 live.1 k stands live.2) [
  | inl e ↦ false≢true (sym live.3 ∙ ap (λ (n : ℕ). is_free (block_at bs n)) (sym e) ∙ free)
  | inr (inl below) ↦ omega (arith, below, same, live.2.behind)
  | inr (inr above) ↦ omega (arith, above, same, some)
]

pub free_elsewhere : (bs : List Block) (at i k : ℕ) → StandsAt bs at i → is_free (block_at bs i) ≡ true → 0 < size_of (block_at bs i) → IsLiveWord bs k → IsOthersWord bs at k
free_elsewhere bs at i k stands free some live = (live.0, live.1, live.2, live.3, elsewhere bs at i k stands free some live)

-- and before it or behind the free block that follows it
pub past_apart : (bs : List Block) (at i k : ℕ) → StandsAt bs at i → IsOthersWord bs at k → (k < at) ⊎ (at + size_of (block_at bs i) + first_free (drop (suc i) bs) < k)
past_apart bs at i k stands o = elim (others_apart bs at i k stands o) [
  | inl below ↦ inl below
  | inr above ↦ inr (elim (cases_lt 0 (first_free (drop (suc i) bs))) [
    | inl some ↦ let a = around_first (around bs at i stands) some in
        let size = ap size_of (block_around a) in
        let next = free_elsewhere bs (at + size_of (block_at bs i)) (i + 1) k (stands_around a) (ap is_free (block_around a)) (omega (arith, size, some)) (any_word bs at k o) in
        elim (others_apart bs (at + size_of (block_at bs i)) (i + 1) k (stands_around a) next) [ inl ahead ↦ absurd (omega (arith, ahead, above)) | inr past ↦ omega (arith, past, size) ]
    | inr none ↦ omega (arith, above, none)
  ])
]
