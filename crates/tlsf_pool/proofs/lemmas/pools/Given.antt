-- The block that a pool gave has just the words of each.
use Rattle.tlsf_pool.proofs.Common.{◌≡◌, ℕ, ◌-◌, ◌≤◌, Option, Some, None, refl, arith, HeapState, Site, payload_words_at, IsLawful, named, Name, HasFixedSize, IsMultiple, IsWhole}
use Rattle.tlsf_heap.proofs.lemmas.blocks.Find.{and_left}
use Rattle.tlsf_heap.proofs.lemmas.calls.Outcomes.{named_site}
use Rattle.tlsf_pool.proofs.lemmas.laws.Around.{around_site, live_named}
use Rattle.tlsf_pool.proofs.lemmas.laws.FixedSize.{blocks_whole}

pub given_whole : (s : ℕ) (name : Name) (h : HeapState) → 4 ≤ s → IsLawful h → HasFixedSize s h → IsMultiple s h.words → payload_words_at (named name h.blocks) ≤ s - 3
given_whole s name h four lawful fixed words = at (named name h.blocks) refl
  where
    at : (o : Option Site) → named name h.blocks ≡ o → payload_words_at o ≤ s - 3
    at None e = omega arith
    at (Some t) e =
        let site = named_site name h.blocks t e in
        let size = (around_site (IsWhole s) h t site.0 (blocks_whole s h four lawful fixed words)).1.0 (live_named name.serial t.block (and_left _ _ site.1)) in
        omega (arith, size)
