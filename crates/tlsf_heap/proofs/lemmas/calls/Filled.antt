-- A request that fills nothing, and zeros after it, are a request that fills.
use Rattle.tlsf_heap.proofs.Common.{◌≡◌, ℕ, suc, [], ◌∷◌, ◌+◌, ◌≤◌, List, length, replicate, drop, Option, Ok, refl, sym, ap, ◌∙◌, subst, arith, length-replicate, ◌-◌, IsLevel, HeapState, bytes_of, payload_words, want, allocated_words, named, Site, payload_words_at, bytes_at, payload_of, with_blocks, IsLawful, IsLive, LeavesPayloads, IsOthersWord, Image, lying, with_payload, Name, Put}
use Rattle.tlsf_heap.specs.Effects.{Allocates, AllocatesUnset}
use Rattle.tlsf_heap.specs.Shown.{Seen}
use Rattle.tlsf_heap.proofs.lemmas.calls.Allocate.{fits_size}
use Rattle.tlsf_heap.proofs.lemmas.calls.Leaves.{given_word, word_step}
use Rattle.tlsf_heap.proofs.lemmas.calls.OtherBytes.{rebyted, rebyted_same, rebytes-twice, with_payload_rebyted, live_rebyted, payload_rebyted}
use Rattle.tlsf_heap.proofs.lemmas.calls.Outcomes.{lawful_allocated_words}
use Rattle.tlsf_heap.proofs.lemmas.calls.Unset.{given_block, given_length, unset_is}
use Rattle.tlsf_heap.proofs.lemmas.laws.Live.{given_words}
use Rattle.tlsf_heap.proofs.lemmas.words.Bytes.{length-bytes_in}

module _ (sli n len : ℕ) (level : IsLevel sli) (enough : want len ≤ n) {most : ℕ} {old mid : Seen} {stored : Image} {name : Name} (lawful : IsLawful old.heap) (left : IsLawful mid.heap) (unset : AllocatesUnset most sli n len old mid stored (Ok name)) where
  abbrev given : HeapState
  given = (allocated_words sli old.heap n len).heap

  abbrev lies : List ℕ
  lies = lying stored name.at len

  given_lawful : IsLawful given
  given_lawful = lawful_allocated_words sli level old.heap n len enough lawful

  given_lives : IsLive given name
  given_lives = given_words sli old.heap n len name (sym unset.answer_is)

  mid_is : mid.heap ≡ rebyted name.serial lies given
  mid_is = unset.heap ∙ unset_is given name stored 0 len given_lawful given_lives (omega arith) (sym (given_length sli old.heap n len name lawful (sym unset.answer_is)))

  -- the name is live, and its payload has this many bytes
  pub mid_lives : IsLive mid.heap name
  mid_lives = subst (λ (s : HeapState). IsLive s name) (sym mid_is) (live_rebyted name.serial lies given name given_lives)

  pub mid_length : length (payload_of mid.heap name) ≡ len
  mid_length = ap (λ (s : HeapState). length (payload_of s name)) mid_is ∙ ap length (payload_rebyted given name lies given_lives) ∙ length-bytes_in stored.words _ len

  given_zeros : rebyted name.serial (replicate len 0) given ≡ given
  given_zeros =
      let has = given_block (λ b. bytes_of b ≡ replicate len 0) sli old.heap n len name lawful (sym unset.answer_is) refl (λ b fit. refl) in
      ap (λ (l : List ℕ). rebyted name.serial l given) (sym (ap (λ (o : Option Site). bytes_at o) has.1 ∙ has.2)) ∙ rebyted_same given name given_lawful given_lives

  -- with zeros it is as an allocate leaves it
  pub filled_is : with_payload mid.heap name (replicate len 0) ≡ given
  filled_is =
      let zeros : List ℕ = replicate len 0 in
      with_payload_rebyted mid.heap name zeros left mid_lives ∙ ap (rebyted name.serial zeros) mid_is ∙ ap (with_blocks given) (rebytes-twice name.serial lies zeros given.blocks) ∙ given_zeros

  -- so it is as it stands, where there are no bytes
  pub unfilled : len ≡ 0 → mid.heap ≡ given
  unfilled none = mid_is ∙ ap (λ (l : List ℕ). rebyted name.serial l given) (no_entries lies zeros (length-bytes_in stored.words _ len ∙ none) (length-replicate {A = ℕ} len 0 ∙ none)) ∙ given_zeros
    where
      zeros : List ℕ
      zeros = replicate len 0

      no_entries : (xs ys : List ℕ) → length xs ≡ 0 → length ys ≡ 0 → xs ≡ ys
      no_entries [] [] e f = refl
      no_entries [] (y ∷ ys) e f = absurd (omega (arith, f))
      no_entries (x ∷ xs) ys e f = absurd (omega (arith, e))

  -- the block has the words wanted
  given_room : n ≤ 3 + payload_words_at (named name given.blocks)
  given_room =
      let has = given_block (λ b. n ≤ 3 + payload_words b) sli old.heap n len name lawful (sym unset.answer_is) (omega arith) (λ b fit. let many = fits_size sli level n b fit in omega (arith, many)) in
      omega (arith, ap (λ (o : Option Site). payload_words_at o) has.1, has.2)

  module _ (new : Seen) (zeros : new.heap ≡ with_payload mid.heap name (replicate len 0)) where
    pub filled_room : n ≤ 3 + payload_words_at (named name new.heap.blocks)
    filled_room = subst (λ (h : HeapState). n ≤ 3 + payload_words_at (named name h.blocks)) (sym (zeros ∙ filled_is)) given_room

    pub filled : new.touches ≤ mid.touches + (want len - 3) → mid.touches ≤ new.touches → LeavesPayloads mid.heap.blocks name.at mid.touched new.touched → Allocates most sli n len old new (Ok name)
    filled few rise leaves = record {
      answer_is = unset.answer_is;
      heap = zeros ∙ filled_is;
      no_fit = unset.no_fit;
      ok = unset.ok;
      touches = omega (arith, few, unset.touches, filled_room, enough);
      few = omega (arith, few, unset.touches);
      rise = omega (arith, rise, unset.rise);
      leaves = λ k live.
          let at = suc live.1 in
          let other = given_word old.heap at k (live.0, live.1, live.2, live.3, λ e. omega (arith, e)) sli n len lawful name (sym unset.answer_is) in
          leaves k (subst (λ (s : HeapState). IsOthersWord s.blocks name.at k) (sym unset.heap) (word_step given name.at k other sli (Put name 0 (drop 0 lies)) tt))
          ∙ unset.leaves k live;
    }
