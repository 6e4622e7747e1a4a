-- The block that a name names, and its payload words.
use Rattle.tlsf_heap.proofs.Common.{◌≡◌, ℕ, length, Option, Some, None, refl, sym, ap, ◌∙◌, IsSome, eqb-true, false≢true, HeapState, payload_words, StandsAt, Site, block_at, AreRegions, has_serial, named, payload_words_at, IsLive, Name}
use Rattle.tlsf_heap.proofs.lemmas.blocks.Find.{and_right}
use Rattle.tlsf_heap.proofs.lemmas.blocks.Around.{Around, block_around, stands_around, one_index}
use Rattle.tlsf_heap.proofs.lemmas.calls.Outcomes.{named_site}

-- the block that a live name names is the one at its place
pub named_payload : (sli : ℕ) (h : HeapState) (name : Name) (i : ℕ) → AreRegions sli h.blocks → StandsAt h.blocks name.at i → IsLive h name → payload_words_at (named name h.blocks) ≡ payload_words (block_at h.blocks i)
named_payload sli h name i regions stands live = found (named name h.blocks) refl live.1
  where
    found : (o : Option Site) → named name h.blocks ≡ o → IsSome o → payload_words_at o ≡ payload_words (block_at h.blocks i)
    found None e some = absurd (false≢true some)
    found (Some s) e some =
        let site = named_site name h.blocks s e in
        let a : Around h.blocks name.at (length s.before) s.before s.block s.after = record { is = sym site.0; before = refl; place = eqb-true _ _ (and_right (has_serial name.serial s.block) _ site.1) } in
        ap payload_words (sym (block_around a) ∙ ap (block_at h.blocks) (one_index sli h.blocks name.at (length s.before) i regions (stands_around a) stands))
