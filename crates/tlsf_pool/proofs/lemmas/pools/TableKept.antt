-- A table stays one through its calls.
use Rattle.tlsf_pool.proofs.Common.{◌≡◌, ℕ, ◌+◌, ◌-◌, ◌*◌, ◌≤◌, max, eqb, List, [], ◌∷◌, length, replicate, get_or, set, Option, Some, None, Ok, refl, sym, ap, ◌∙◌, subst, AllByRecursion, arith, IsLevel, HasWords, HeapState, bytes_of, Site, Outcome, Call, Allocate, Release, Write, allocated_words, released, written, named, released_at, refused, is_worn, opened, IsLawful, Name, Foreign, Worn, live_count, answered_fixed, fixed_kinds_words, fixed_size, longest_of, IsModest, AreOfKinds, HasClass, count_in, used, Kind, IsTable, TableRows, held_of, lengths_in, table_allocated}
use Rattle.tlsf_heap.specs.InPlace.{payload_of, bytes_at}
use Rattle.tlsf_heap.proofs.lemmas.blocks.Lawful.{opened_lawful}
use Rattle.tlsf_heap.proofs.lemmas.calls.Alone.{opened_again}
use Rattle.tlsf_heap.proofs.lemmas.calls.Outcomes.{by_test, by_allocated_words, by_written, named_site, gives_words, takes, writes}
use Rattle.tlsf_pool.proofs.lemmas.laws.FixedCalls.{kept}
use Rattle.tlsf_pool.proofs.lemmas.laws.FixedSize.{new_fixed}
use Rattle.tlsf_pool.proofs.lemmas.laws.Loads.{load_given, load_taken, load_written}
use Rattle.tlsf_pool.proofs.lemmas.pools.RowTotals.{SameTotals, same_fit, same_held, held_none, fit_none, fit_less, held_more, place}
use Rattle.tlsf_pool.proofs.lemmas.pools.Served.{enough, in_table, lengths_load, longest_used, modest}

-- ---- what the calls leave of the lengths

pub given_lengths : (sli words : ℕ) (h : HeapState) (n : ℕ) (name : Name) → Ok name ≡ (allocated_words sli h words n).answer
    → SameTotals (lengths_in (allocated_words sli h words n).heap.blocks) (n ∷ lengths_in h.blocks)
given_lengths sli words h n name = by_allocated_words sli (λ o. Ok name ≡ o.answer → SameTotals (lengths_in o.heap.blocks) (n ∷ lengths_in h.blocks)) h words n (λ why ok. absurd cc)
    (λ s site fit ok f. sym (lengths_load f (gives_words h words n s).heap.blocks) ∙ (load_given sli f h s words n site fit ∙ ap (λ (m : ℕ). f n + m) (lengths_load f h.blocks)))

pub taken_lengths : (h : HeapState) (name : Name) → Ok tt ≡ (released h name).answer → SameTotals (length (payload_of h name) ∷ lengths_in (released h name).heap.blocks) (lengths_in h.blocks)
taken_lengths h name =
    by_test (λ (o : Outcome (Unit {0})). Ok tt ≡ o.answer → SameTotals (length (payload_of h name) ∷ lengths_in o.heap.blocks) (lengths_in h.blocks))
    (eqb name.heap h.id) (released_at h (named name h.blocks)) (refused h Foreign) (λ _. on (named name h.blocks) refl) (λ ok. absurd cc)
  where
    on : (o : Option Site) → named name h.blocks ≡ o → Ok tt ≡ (released_at h o).answer → SameTotals (length (bytes_at o) ∷ lengths_in (released_at h o).heap.blocks) (lengths_in h.blocks)
    on None e = λ ok. absurd cc
    on (Some s) e =
        let site = named_site name h.blocks s e in
        by_test (λ (o : Outcome (Unit {0})). Ok tt ≡ o.answer → SameTotals (length (bytes_of s.block) ∷ lengths_in o.heap.blocks) (lengths_in h.blocks)) (is_worn h) (refused h Worn) (takes h s) (λ _ ok. absurd cc)
        (λ ok f. ap (λ (m : ℕ). f (length (bytes_of s.block)) + m) (sym (lengths_load f (takes h s).heap.blocks)) ∙ (load_taken f h s name.at name.serial site.0 site.1 ∙ lengths_load f h.blocks))

pub written_lengths : (h : HeapState) (name : Name) (at : ℕ) (bytes : List ℕ) → SameTotals (lengths_in h.blocks) (lengths_in (written h name at bytes).heap.blocks)
written_lengths h name at bytes = by_written (λ o. SameTotals (lengths_in h.blocks) (lengths_in o.heap.blocks)) h name at bytes (λ why f. refl)
    (λ s site has f. sym (lengths_load f h.blocks) ∙ (sym (load_written f h s at bytes site has) ∙ lengths_load f (writes h at bytes s).heap.blocks))

-- ---- a new table

pub new_table : (sli id first : ℕ) (kinds : List Kind) (h : HeapState) (t : TableRows) → IsLevel sli → AllByRecursion (HasClass sli) kinds → length kinds ≤ 64 → t.kinds ≡ kinds → t.held ≡ replicate (length kinds) 0
    → IsLawful h → h ≡ opened id (fixed_kinds_words sli kinds) first → IsTable sli h t
new_table sli id first kinds h t level classes few own none lawful is =
    let whole = is ∙ ap (λ (ks : List Kind). opened id (fixed_kinds_words sli ks) first) (sym own) in
    subst (λ (x : HeapState). IsLawful x → IsTable sli x t) (sym whole) (λ lawful. record {
      level = level;
      lawful = lawful;
      words = refl;
      classes = subst (λ (ks : List Kind). AllByRecursion (HasClass sli) ks) (sym own) classes;
      few = omega (arith, few, ap (λ (ks : List Kind). length ks) own);
      held = none ∙ ap (λ (ks : List Kind). replicate (length ks) 0) (sym own) ∙ sym (held_none t.kinds);
      fit = fit_none t.kinds;
      fixed = new_fixed (fixed_size sli t.kinds) id (fixed_kinds_words sli t.kinds) first;
    }) lawful

-- where no block is held, a table has the words of the least region
least_words : (n : ℕ) → 4 ≡ max 4 (0 * n)
least_words n = omega arith

-- a table without kinds, of a heap of four words
pub least_table : (sli id first : ℕ) (h : HeapState) (t : TableRows) → IsLevel sli → t.kinds ≡ [] → t.held ≡ [] → IsLawful h → h ≡ opened id 4 first → IsTable sli h t
least_table sli id first h t level own none lawful is =
    let four : 4 ≡ fixed_kinds_words sli [] = least_words (fixed_size sli []) in
    new_table sli id first [] h t level tt (omega arith) own none lawful (is ∙ ap (λ (n : ℕ). opened id n first) four)

-- a new table, once a heap of four words has the words for its kinds
pub begun_table : (sli id first words : ℕ) (kinds : List Kind) (h : HeapState) (t : TableRows) → IsLevel sli → HasWords sli kinds × (words ≡ fixed_kinds_words sli kinds) → length kinds ≤ 64 → t.kinds ≡ kinds → t.held ≡ replicate (length kinds) 0
    → h ≡ opened id 4 first → IsTable sli (opened h.id words (h.tick - 1)) t
begun_table sli id first words kinds h t level has few own held is =
    let whole = opened_again h id 4 words first is ∙ ap (λ (n : ℕ). opened id n first) has.1 in
    let four : 4 ≤ words = omega (arith, has.1) in
    new_table sli id first kinds (opened h.id words (h.tick - 1)) t level has.0.0 few own held (opened_lawful h.id words (h.tick - 1) four) whole

module _ (sli : ℕ) (h : HeapState) (t : TableRows) (is : IsTable sli h t) where
  -- after a call that leaves lengths which fit the table
  after : (call : Call) (held : List ℕ) → IsModest (count_in t.kinds) (longest_of (used t.kinds)) (live_count h) call
      → AreOfKinds t.kinds (lengths_in (answered_fixed sli (fixed_size sli t.kinds) h call).1.blocks) → held ≡ held_of t.kinds (lengths_in (answered_fixed sli (fixed_size sli t.kinds) h call).1.blocks)
      → IsTable sli (answered_fixed sli (fixed_size sli t.kinds) h call).1 (record { kinds = t.kinds; held = held; extents = t.extents })
  after call held modestly fit counts =
      let left = kept sli is.level h.words (count_in t.kinds) (longest_of (used t.kinds)) (longest_used sli is.level t.kinds is.classes) (enough sli h t is) h call (in_table sli h t is) modestly in record {
        level = is.level;
        lawful = left.lawful;
        words = left.words_are ∙ is.words;
        classes = is.classes;
        few = is.few;
        held = counts;
        fit = fit;
        fixed = left.fixed;
      }

  -- after an allocate that gave a name
  pub given_table : (n : ℕ) (name : Name) (held : List ℕ) → AreOfKinds t.kinds (n ∷ lengths_in h.blocks) → held ≡ set t.held (place t.kinds n) (get_or t.held (place t.kinds n) 0 + 1)
      → Ok name ≡ (table_allocated sli h t n).answer → IsTable sli (table_allocated sli h t n).heap (record { kinds = t.kinds; held = held; extents = t.extents })
  given_table n name held fit counts answer =
      let left : List ℕ = lengths_in (table_allocated sli h t n).heap.blocks in
      let back : SameTotals (n ∷ lengths_in h.blocks) left = λ f. sym ((given_lengths sli (fixed_size sli t.kinds) h n name answer) f) in
      after (Allocate n) held (modest sli h t is n fit) (same_fit t.kinds (n ∷ lengths_in h.blocks) left back fit)
      (counts ∙ (ap (λ (xs : List ℕ). set xs (place t.kinds n) (get_or xs (place t.kinds n) 0 + 1)) is.held ∙ (sym (held_more t.kinds n (lengths_in h.blocks)) ∙ same_held t.kinds (n ∷ lengths_in h.blocks) left back)))

  -- a release that was done leaves lengths to which that of its block is one more
  pub taken_fit : (name : Name) → Ok tt ≡ (released h name).answer → AreOfKinds t.kinds (length (payload_of h name) ∷ lengths_in (released h name).heap.blocks)
  taken_fit name answer = same_fit t.kinds (lengths_in h.blocks) (length (payload_of h name) ∷ lengths_in (released h name).heap.blocks) (λ f. sym (taken_lengths h name answer f)) is.fit

  -- after a release that was done
  pub taken_table : (name : Name) (held : List ℕ) → Ok tt ≡ (released h name).answer → held ≡ held_of t.kinds (lengths_in (released h name).heap.blocks)
      → IsTable sli (released h name).heap (record { kinds = t.kinds; held = held; extents = t.extents })
  taken_table name held answer counts =
      after (Release name) held tt (fit_less t.kinds (length (payload_of h name)) (lengths_in (released h name).heap.blocks) (taken_fit name answer)).0 counts

  -- after a write
  pub written_table : (name : Name) (at : ℕ) (bytes : List ℕ) → IsTable sli (written h name at bytes).heap t
  written_table name at bytes =
      let totals = written_lengths h name at bytes in
      after (Write name at bytes) t.held tt (same_fit t.kinds (lengths_in h.blocks) (lengths_in (written h name at bytes).heap.blocks) totals is.fit)
      (is.held ∙ same_held t.kinds (lengths_in h.blocks) (lengths_in (written h name at bytes).heap.blocks) totals)
