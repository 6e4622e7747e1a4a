-- Names by the sites of their blocks.
use Rattle.tlsf_pool.proofs.Common.{◌≡◌, ℕ, ◌+◌, ◌<◌, ◌≤◌, true, List, [], ◌∷◌, length, take, refl, sym, ap, ◌∙◌, inl, inr, arith, eqb-true, cases_lt, IsLevel, Block, Live, Free, HeapState, size_of, words_in, block_at, IsLawful, FreeBlocksAreApart, has_serial, opened, run, live_among, Name}
use Rattle.tlsf_heap.proofs.lemmas.blocks.Find.{and_left, and_right}
use Rattle.tlsf_heap.proofs.lemmas.blocks.Around.{Around, block_around, stands_around}
use Rattle.tlsf_heap.proofs.lemmas.blocks.Order.{ends_before}
use Rattle.tlsf_heap.proofs.lemmas.blocks.Order as lying
use Rattle.tlsf_heap.proofs.lemmas.calls.Outcomes.{named_site, lawful_run}
use Rattle.tlsf_heap.proofs.lemmas.blocks.Lawful.{opened_lawful}
use Rattle.tlsf_pool.specs.laws.Places.{Occupies, ShareNoWord, StayInside, NothingLeaks}
use Rattle.tlsf_pool.proofs.lemmas.laws.Around.{words_run}
use Rattle.tlsf_pool.proofs.lemmas.laws.Held.{holds}
use Rattle.tlsf_heap.proofs.lemmas.laws.Live.{one_serial, same_name}

alone : (bs : List Block) → FreeBlocksAreApart bs → live_among bs ≡ [] → 0 < words_in bs → (stamp : ℕ) × (bs ≡ Free (words_in bs) stamp ∷ [])
alone [] a e h = absurd (omega arith)
alone (Live m s xs ∷ bs) a e h = absurd cc
alone (Free m s ∷ []) a e h = let z : m ≡ m + 0 = omega arith in (s, ap (λ (n : ℕ). Free n s ∷ []) z)
alone (Free m s ∷ Live n t xs ∷ bs) a e h = absurd cc
alone (Free m s ∷ Free n t ∷ bs) a e h = absurd a

pub whole : (h : HeapState) → IsLawful h → 0 < h.words → live_among h.blocks ≡ [] → (stamp : ℕ) × (h.blocks ≡ Free h.words stamp ∷ [])
whole h lawful some none = let is = alone h.blocks lawful.apart none (omega (arith, lawful.whole)) in rw lawful.whole at is

pub no_leak : (sli : ℕ) (level : IsLevel sli) → NothingLeaks sli
no_leak sli level id words first calls four none =
    let end : HeapState = (run sli (opened id words first) calls).1 in
    let lawful : IsLawful end = lawful_run sli level (opened id words first) calls (opened_lawful id words first four) in
    let count : length (live_among end.blocks) ≡ 0 = holds sli id words first calls four ∙ none in
    let words_same : end.words ≡ words = words_run sli (opened id words first) calls in
    let is = whole end lawful (omega (arith, words_same, four)) (empty (live_among end.blocks) count) in
    (is.0, is.1 ∙ ap (λ (n : ℕ). Free n is.0 ∷ []) words_same)
  where
    empty : (bs : List Block) → length bs ≡ 0 → bs ≡ []
    empty [] e = refl
    empty (b ∷ bs) e = absurd (omega (arith, e))

-- a name by the index of its block
record Stands (bs : List Block) (name : Name) (words i : ℕ) (front back : List Block) (block : Block) : Type 0 where
  around : Around bs name.at i front block back
  serial : has_serial name.serial block ≡ true
  sized : size_of block ≡ words

stands : (h : HeapState) (name : Name) (words : ℕ) → (s : Occupies h name words) → Stands h.blocks name words (length s.site.before) s.site.before s.site.after s.site.block
stands h name words s =
    let is = named_site name h.blocks s.site s.found in record {
      around = record { is = sym is.0; before = refl; place = eqb-true _ _ (and_right (has_serial name.serial s.site.block) _ is.1) };
      serial = and_left _ _ is.1;
      sized = s.sized;
    }

-- a block with an earlier index ends before the other begins
earlier : (bs : List Block) (a b : Name) (m n i j : ℕ) (af ab bf bb : List Block) (x y : Block) → Stands bs a m i af ab x → Stands bs b n j bf bb y → i < j → a.at + m ≤ b.at
earlier bs a b m n i j af ab bf bb x y s t l =
    let at_i = stands_around s.around in
    let at_j = stands_around t.around in
    omega (arith, ends_before bs i j l (stands_around t.around).within, at_i.place, at_j.place, ap size_of (block_around s.around), s.sized)

pub apart : ShareNoWord
apart h a b m n s t ne =
    let x = stands h a m s in
    let y = stands h b n t in
    elim (cases_lt (length s.site.before) (length t.site.before)) [
      | inl l ↦ inl (earlier h.blocks a b m n _ _ _ _ _ _ _ _ x y l)
      | inr g ↦ elim (cases_lt (length t.site.before) (length s.site.before)) [
        | inl l ↦ inr (earlier h.blocks b a n m _ _ _ _ _ _ _ _ y x l)
        | inr f ↦
            let e : length s.site.before ≡ length t.site.before = omega arith in
            let at_same : a.at ≡ b.at = sym (stands_around x.around).place ∙ ap (λ (i : ℕ). words_in (take i h.blocks)) e ∙ (stands_around y.around).place in
            let block_same : s.site.block ≡ t.site.block = sym (block_around x.around) ∙ ap (λ (i : ℕ). block_at h.blocks i) e ∙ block_around y.around in
            let serial_same : a.serial ≡ b.serial = one_serial a.serial b.serial t.site.block (rw block_same at x.serial) y.serial in
            absurd (ne (same_name a b (s.own ∙ sym t.own) at_same serial_same))
      ]
    ]

pub inside : StayInside
inside h name words lawful s =
    let x = stands h name words s in
    let at_i = stands_around x.around in
    omega (arith, lying.inside h lawful (length s.site.before) at_i.within, at_i.place, ap size_of (block_around x.around), s.sized, lawful.whole)
