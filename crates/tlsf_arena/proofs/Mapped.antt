-- An arena's map of free grains under the calls of its heap.
use Rattle.tlsf_arena.proofs.Common.{cases_lt, IsRegion, Holds, Loan, IsBook, is_out, name_of, units_of, ◌≡◌, ℕ, ◌+◌, ◌-◌, ◌*◌, ◌/◌, ◌%◌, ◌^◌, ◌<◌, ◌≤◌, Bool, true, false, List, length, replicate, Some, Ok, inl, inr, sym, ap, subst, ◌∙◌, arith, length-replicate, append-nil, IsLevel, HeapState, allocated_words, opened, released, resized_words, IsLawful, placed_at, Name, IsMapped, IsUnit, IsRun, lacking, marked, spread, free_map, held_at, free_units_in}
use Rattle.tlsf_arena.proofs.Maps.{Bits, Tells, arena_carves, arena_frees, held_of, whole_map}
use Rattle.tlsf_arena.proofs.Resizes.{arena_refits}
use Rattle.tlsf_arena.proofs.Rooms.{marked_length}
use Rattle.tlsf_arena.proofs.Spread.{spread-replicate, length-spread}
use Rattle.tlsf_arena.proofs.Stretches.{grown, shrunk}
use Rattle.tlsf_arena.proofs.UnitCases.{first_grain, grains_of, units_apart}
use Rattle.tlsf_class.proofs.TwoLevels.{most_words_any}

pub lacks : (k : ℕ) → Tells k (lacking k)
lacks k size least most = omega (arith, least, most)

-- the heap has the units of one run of grains marked so
marks : (sli u units : ℕ) (old new : HeapState) (free : Bits) (at j : ℕ) → IsMapped sli u units old free → (v w : Bool) → IsRun free at j v × (spread (u / 16) (free_map new.blocks) ≡ marked free at j w)
    → (at' size : ℕ) → at' ≡ at → size / 16 ≡ j → IsRun free at' (size / 16) v × ((after : Bits) → after ≡ marked free at' (size / 16) w → IsMapped sli u units new after)
marks sli u units old new free at j mapped v w got at' size starts long =
    let run : IsRun free at' (size / 16) v = subst (λ (p : ℕ × ℕ). IsRun free p.0 p.1 v) (λ i. (sym starts i, sym long i)) got.0 in (
      run,
      λ after is. record {
        level = mapped.level;
        unit = mapped.unit;
        least = mapped.least;
        most = mapped.most;
        map = is ∙ (λ i. marked free (starts i) (long i) w) ∙ sym got.1;
        whole = ap length is ∙ marked_length free at' (size / 16) v w run ∙ mapped.whole;
      },
    )

-- an allocate lends the grains of its block
pub carves : {sli u units : ℕ} {was old new : HeapState} {free : Bits} {name : Name} (k : ℕ) {lack : ℕ} (value : old ≡ was) (maps : IsMapped sli u units was free) → IsLawful old → lack ≡ lacking k → Ok name ≡ (allocated_words sli old k lack).answer
    → new ≡ (allocated_words sli old k lack).heap → (at size : ℕ) → at ≡ u / 16 * name.at → size / 16 ≡ u / 16 * k
    → IsRun free at (size / 16) true × ((after : Bits) → after ≡ marked free at (size / 16) false → IsMapped sli u units new after)
carves {sli} {u} {units} {was} {old} {new} {free} {name} k {lack} value maps lawful fills answer heap at size starts long =
    let mapped = subst (λ (h : HeapState). IsMapped sli u units h free) (sym value) maps in
    marks sli u units old new free (u / 16 * name.at) (u / 16 * k) mapped true false (arena_carves sli (u / 16) mapped.level old new free k lack name mapped.map lawful (subst (Tells k) (sym fills) (lacks k)) answer heap) at size starts long

-- a call on a block whose right the book knows. Before the call the heap is lawful, and maps the grains of the arena
module _ {sli u units : ℕ} {was old : HeapState} {free : Bits} (out : List Loan) (t : Loan) {name : Name} (value : old ≡ was) (maps : IsMapped sli u units was free) (book : IsBook out was) (there : is_out out t ≡ true)
    (own : name_of t ≡ name) (lawful : IsLawful old) where
  mapped : IsMapped sli u units old free
  mapped = subst (λ (h : HeapState). IsMapped sli u units h free) (sym value) maps

  held : held_at old.blocks name.at ≡ Some (units_of t)
  held = let its = subst (λ (p : HeapState × Name). Holds p.0 p.1 (units_of t)) (λ i. (sym value i, own i)) (book t there) in held_of old name (units_of t) its.0 lawful its.2 its.3

  has : u * units_of t ≡ 16 * (u / 16 * units_of t)
  has = grains_of u (units_of t) mapped.unit

  begins : (start at : ℕ) → at ≡ start + u * name.at → (at - start) / 16 ≡ u / 16 * name.at
  begins start at place = first_grain u start at name.at mapped.unit place

  -- a release takes its grains back
  pub frees : {new : HeapState} → Ok tt ≡ (released old name).answer → new ≡ (released old name).heap → (start at size : ℕ) → at ≡ start + u * name.at → size ≡ u * units_of t
      → IsRun free ((at - start) / 16) (size / 16) false × ((after : Bits) → after ≡ marked free ((at - start) / 16) (size / 16) true → IsMapped sli u units new after)
  frees {new} answer heap start at size place long =
      marks sli u units old new free (u / 16 * name.at) (u / 16 * units_of t) mapped false true (arena_frees (u / 16) old new free (units_of t) name mapped.map lawful held answer heap) ((at - start) / 16) size (begins start at place) (omega (arith, long, has))

  -- a resize of it to n units keeps the grains of the fewer
  module _ {new : HeapState} (n : ℕ) {lack : ℕ} (fills : lack ≡ lacking n) (answer : Ok tt ≡ (resized_words old name n lack).answer) (heap : new ≡ (resized_words old name n lack).heap) where
    abbrev g : ℕ
    g = u / 16

    abbrev k : ℕ
    k = units_of t

    abbrev place : ℕ
    place = g * name.at

    wants : u * n ≡ 16 * (g * n)
    wants = grains_of u n mapped.unit

    resized : IsRun free place (g * k) false × (IsRun (marked free place (g * k) true) place (g * n) true × (spread g (free_map new.blocks) ≡ marked (marked free place (g * k) true) place (g * n) false))
    resized = arena_refits g old new free n lack k name mapped.map lawful (subst (Tells n) (sym fills) (lacks n)) held answer heap

    -- those after it are lent
    pub extends : (at bytes size : ℕ) → at ≡ place → bytes ≡ u * n → size ≡ u * k → size < bytes
        → (IsRun free (at + size / 16) ((bytes - size) / 16) true × (16 ≤ bytes - size) × ((bytes - size) % 16 ≡ 0))
        × ((after : Bits) → after ≡ marked free (at + size / 16) ((bytes - size) / 16) false → IsMapped sli u units new after)
    extends at bytes size starts all first within =
        let more = grown free place (g * k) (g * n) (omega (arith, all, first, within, has, wants)) resized.0 resized.1.0 in
        let got = marks sli u units old new free (place + g * k) (g * n - g * k) mapped true false (more.0, resized.1.1 ∙ more.1) (at + size / 16) (bytes - size) (omega (arith, starts, first, has)) (omega (arith, all, first, has, wants)) in
        ((got.0, omega (arith, all, first, within, has, wants), omega (arith, all, first, has, wants)), got.1)

    -- those at its end come back
    pub shortens : (start at size : ℕ) → at ≡ start + u * name.at + u * n → u * k ≡ u * n + size
        → IsRun free ((at - start) / 16) (size / 16) false × ((after : Bits) → after ≡ marked free ((at - start) / 16) (size / 16) true → IsMapped sli u units new after)
    shortens start at size starts sums =
        let less = shrunk free place (g * k) (g * n) (omega (arith, sums, has, wants)) resized.0 in
        marks sli u units old new free (place + g * n) (g * k - g * n) mapped false true (less.0, resized.1.1 ∙ less.1) ((at - start) / 16) size (omega (arith, starts, grains_of u name.at mapped.unit, wants)) (omega (arith, sums, has, wants))

    -- all come back, and those from the same place on are lent
    pub refits : (start at size at' size' : ℕ) → at ≡ start + u * name.at → size ≡ u * k → at' ≡ place → size' / 16 ≡ g * n
        → IsRun free ((at - start) / 16) (size / 16) false × ((opened : Bits) → opened ≡ marked free ((at - start) / 16) (size / 16) true
        → IsRun opened at' (size' / 16) true × ((after : Bits) → after ≡ marked opened at' (size' / 16) false → IsMapped sli u units new after))
    refits start at size at' size' place' long starts' long' =
        let starts = begins start at place' in
        let grains : size / 16 ≡ g * k = omega (arith, long, has) in
        let first : IsRun free ((at - start) / 16) (size / 16) false = subst (λ (p : ℕ × ℕ). IsRun free p.0 p.1 false) (λ i. (sym starts i, sym grains i)) resized.0 in (
          first,
          λ opened is.
              let same = is ∙ (λ i. marked free (starts i) (grains i) true) in
              let run : IsRun opened at' (size' / 16) true = subst (λ (p : Bits × ℕ × ℕ). IsRun p.0 p.1 p.2 true) (λ i. (sym same i, sym starts' i, sym long' i)) resized.1.0 in (
                run,
                λ after given. record {
                  level = mapped.level;
                  unit = mapped.unit;
                  least = mapped.least;
                  most = mapped.most;
                  map = given ∙ (λ i. marked (same i) (starts' i) (long' i) false) ∙ sym resized.1.1;
                  whole = ap length given ∙ marked_length opened at' (size' / 16) true false run ∙ ap length is ∙ marked_length free ((at - start) / 16) (size / 16) false true first ∙ mapped.whole;
                },
              ),
        )

-- a region that isn't refused is no larger than the greatest
pub few_units : (sli units : ℕ) → ¬ (¬ (IsRegion sli units)) → units ≤ 2 ^ 24
few_units sli units h = elim (cases_lt (2 ^ 24) units) [ inl over ↦ absurd (h (λ r. omega (arith, over, r.1, most_words_any sli))) | inr within ↦ within ]

-- a new arena
pub opens : (sli u units id size : ℕ) (heap : HeapState) (free : Bits) → IsLevel sli → IsUnit u → 4 ≤ units → units ≤ 2 ^ 24 → heap ≡ opened id units 0 → size / 16 ≡ u / 16 * units → free ≡ replicate (size / 16) true → IsMapped sli u units heap free
opens sli u units id size heap free level unit least most is long all =
    let whole = all ∙ ap (λ (j : ℕ). replicate j true) long in
    record {
      level = level;
      unit = unit;
      least = least;
      most = most;
      map = whole ∙ sym (spread-replicate (u / 16) units true) ∙ ap (spread (u / 16)) (sym (append-nil (replicate units true))) ∙ ap (λ (h : HeapState). spread (u / 16) (free_map h.blocks)) (sym is);
      whole = ap length whole ∙ length-replicate {A = Bool} (u / 16 * units) true;
    }

-- an arena whose heap is one free block is whole
pub whole_arena : (sli u units size : ℕ) (heap : HeapState) (free : Bits) → IsMapped sli u units heap free → free_units_in (placed_at heap.blocks 0) ≡ units → size / 16 ≡ u / 16 * units → free ≡ replicate (size / 16) true
whole_arena sli u units size heap free mapped first long =
    let n = u / 16 in
    let blocks = free_map heap.blocks in
    let counted : n * length blocks ≡ n * units = sym (length-spread n blocks) ∙ ap length (sym mapped.map) ∙ mapped.whole in
    let many : length blocks ≡ units = units_apart u (length blocks) units mapped.unit (grains_of u (length blocks) mapped.unit ∙ ap (λ (j : ℕ). 16 * j) counted ∙ sym (grains_of u units mapped.unit)) in
    mapped.map ∙ ap (spread n) (whole_map heap.blocks units first many) ∙ spread-replicate n units true ∙ ap (λ (j : ℕ). replicate j true) (sym long)
