-- The map of free units once a block is resized where it stands.
use Rattle.tlsf_arena.proofs.Common.{◌≡◌, ℕ, ◌+◌, ◌-◌, ◌*◌, ◌<◌, ◌≤◌, Bool, true, false, eqb, nat_le, nat_lt, ◌&&◌, List, [], ◌∷◌, ◌++◌, length, replicate, Some, Ok, refl, sym, ap, subst, ◌∙◌, arith, cond, AllByRecursion, eqb-true, false≢true, nat_tests, Block, Live, Free, HeapState, size_of, Site, place_of, IsLawful, HasRoom, Outcome, fitted, refitted, room_of, resized_words, first_free, past_free, has_serial, Name, IsRun, marked, spread, free_map, held_units, held_at}
use Rattle.tlsf_heap.proofs.lemmas.blocks.Find.{and_left, and_right}
use Rattle.tlsf_heap.proofs.lemmas.blocks.Lawful.{all_left, all_right}
use Rattle.tlsf_heap.proofs.lemmas.calls.Outcomes.{IsSiteOf, by_resized_words, resizes}
use Rattle.tlsf_heap.proofs.lemmas.words.NewBytes.{length-fitted}
use Rattle.tlsf_arena.proofs.Rooms.{marked_run}
use Rattle.tlsf_arena.proofs.Maps.{Bits, Tells, map-append, past_map, joined, length-map, held_fit, seen_held}
use Rattle.tlsf_arena.proofs.Spread.{spread_run, spread_marked}

whether : {X : Type 0} (P : X → Type 0) (b : Bool) (x y : X) → (b ≡ true → P x) → (b ≡ false → P y) → P (cond b x y)
whether P true x y f g = f refl
whether P false x y f g = g refl

-- a live block and those after it, once it is resized. It keeps its words, or n of its own and those of the free block after it. Or it
-- has all of these
pub by_refit : (P : List Block → Type 0) (tick n len m serial : ℕ) (bytes : List ℕ) (after : List Block)
    → (n ≤ m → m < n + 4 → P (Live m serial (fitted bytes len) ∷ after))
    → (n + 4 ≤ m + first_free after → P (Live n serial (fitted bytes len) ∷ Free (m + first_free after - n) tick ∷ past_free after))
    → (m + first_free after < n + 4 → P (Live (m + first_free after) serial (fitted bytes len) ∷ past_free after))
    → P (refitted tick n len (Live m serial bytes) after)
by_refit P tick n len m serial bytes after if_kept if_cut if_all =
    let new = fitted bytes len in
    let room = m + first_free after in
    whether P (nat_le n m && nat_lt m (n + 4)) (Live m serial new ∷ after) _ (λ t. if_kept (grind (arith, nat_tests)) (grind (arith, nat_tests)))
    (λ _. whether (λ (l : List Block). P (l ++ past_free after)) (nat_le (n + 4) room) (Live n serial new ∷ Free (room - n) tick ∷ []) (Live room serial new ∷ [])
    (λ t. if_cut (grind (arith, nat_tests))) (λ t. if_all (grind (arith, nat_tests))))

-- its payload then tells as many units as were wanted
pub told : (n len : ℕ) (bytes : List ℕ) → Tells n len → Tells n (length (fitted bytes len))
told n len bytes tells size least most = ap (held_units size) (length-fitted bytes len) ∙ tells size least most

-- what stands at a block and behind it, once n units of it are held: of this many free ones
refitted_map : (tick n len m serial : ℕ) (bytes : List ℕ) (after : List Block) → Tells n len → n ≤ m + first_free after
    → free_map (refitted tick n len (Live m serial bytes) after) ≡ replicate n false ++ (replicate (m + first_free after - n) true ++ free_map (past_free after))
refitted_map tick n len m serial bytes after tells fits =
    let own : Tells n (length (fitted bytes len)) = told n len bytes tells in
    let room = m + first_free after in
    let rest : Bits = free_map (past_free after) in
    by_refit (λ l. free_map l ≡ replicate n false ++ (replicate (room - n) true ++ rest)) tick n len m serial bytes after
    (λ least most. ap (λ (j : ℕ). replicate j false ++ (replicate (m - j) true ++ free_map after)) (own m least most)
    ∙ ap (λ (l : Bits). replicate n false ++ (replicate (m - n) true ++ l)) (past_map after)
    ∙ ap (λ (l : Bits). replicate n false ++ l) (joined (m - n) (first_free after) true rest)
    ∙ ap (λ (j : ℕ). replicate n false ++ (replicate j true ++ rest)) (let z : m - n + first_free after ≡ room - n = omega (arith, least) in z))
    (λ large. ap (λ (j : ℕ). replicate j false ++ (replicate (n - j) true ++ (replicate (room - n) true ++ rest))) (own n (omega arith) (omega arith))
    ∙ ap (λ (j : ℕ). replicate n false ++ (replicate j true ++ (replicate (room - n) true ++ rest))) (let z : n - n ≡ 0 = omega arith in z))
    (λ small. ap (λ (j : ℕ). replicate j false ++ (replicate (room - j) true ++ rest)) (own room fits small))

-- k units of the block of this name are free, and n from the same place on are held
abbrev pub Refits : HeapState → Name → ℕ → ℕ → Outcome (Unit {0}) → Type 0
Refits h name k n o =
    o.answer ≡ Ok tt → IsRun (free_map h.blocks) name.at k false × (IsRun (marked (free_map h.blocks) name.at k true) name.at n true × (free_map o.heap.blocks ≡ marked (marked (free_map h.blocks) name.at k true) name.at n false))

pub resized_map : (h : HeapState) (name : Name) (n len k : ℕ) → IsLawful h → Tells n len → held_at h.blocks name.at ≡ Some k → Refits h name k n (resized_words h name n len)
resized_map h name n len k lawful tells live = by_resized_words (Refits h name k n) h name n len (λ why e. cc) at
  where
    on : (s : Site) (b : Block) → s.block ≡ b → IsSiteOf h.blocks s → has_serial name.serial b ≡ true → place_of s ≡ name.at → n ≤ room_of s.block s.after → Refits h name k n (resizes h n len s)
    on s (Free m t) same site has place room = absurd (false≢true has)
    on s (Live m t xs) same site has place room =
        λ _.
        let Mb : Bits = free_map s.before in let Ma : Bits = free_map s.after in let Mp : Bits = free_map (past_free s.after) in let ff = first_free s.after in
        let whole : s.before ++ Live m t xs ∷ s.after ≡ h.blocks = ap (λ (b : Block). s.before ++ b ∷ s.after) (sym same) ∙ site in
        let all = subst (AllByRecursion HasRoom) (sym whole) lawful.rooms in
        let long : length Mb ≡ name.at = length-map s.before (all_left HasRoom s.before (Live m t xs ∷ s.after) all) ∙ place in
        let wants : held_units m (length xs) ≡ k = seen_held h s m t xs name k lawful same site place live in
        let fits : k ≤ m = omega (arith, held_fit m t xs (all_right HasRoom s.before (Live m t xs ∷ s.after) all).0, wants) in
        let grown : n ≤ m + ff = omega (arith, room, ap (λ (b : Block). size_of b) same) in
        let was : free_map h.blocks ≡ Mb ++ (replicate k false ++ (replicate (m - k) true ++ Ma)) =
        ap free_map (sym whole) ∙ map-append s.before (Live m t xs ∷ s.after) ∙ ap (λ (j : ℕ). Mb ++ (replicate j false ++ (replicate (m - j) true ++ Ma))) wants in
        let run : IsRun (free_map h.blocks) name.at k false = ((Mb, replicate (m - k) true ++ Ma), was, long) in
        let open_map : marked (free_map h.blocks) name.at k true ≡ Mb ++ (replicate n true ++ (replicate (m + ff - n) true ++ Mp)) =
        marked_run (free_map h.blocks) name.at k false true run
        ∙ ap (λ (l : Bits). Mb ++ (replicate k true ++ (replicate (m - k) true ++ l))) (past_map s.after)
        ∙ ap (λ (l : Bits). Mb ++ (replicate k true ++ l)) (joined (m - k) ff true Mp)
        ∙ ap (λ (l : Bits). Mb ++ l) (joined k (m - k + ff) true Mp)
        ∙ ap (λ (j : ℕ). Mb ++ (replicate j true ++ Mp)) (let z : k + (m - k + ff) ≡ n + (m + ff - n) = omega (arith, fits, grown) in z)
        ∙ ap (λ (l : Bits). Mb ++ l) (sym (joined n (m + ff - n) true Mp)) in
        let run_open : IsRun (marked (free_map h.blocks) name.at k true) name.at n true = ((Mb, replicate (m + ff - n) true ++ Mp), open_map, long) in
        let now : free_map (s.before ++ refitted h.tick n len s.block s.after) ≡ Mb ++ (replicate n false ++ (replicate (m + ff - n) true ++ Mp)) =
        map-append s.before (refitted h.tick n len s.block s.after) ∙ ap (λ (b : Block). Mb ++ free_map (refitted h.tick n len b s.after)) same
        ∙ ap (λ (l : Bits). Mb ++ l) (refitted_map h.tick n len m t xs s.after tells grown) in
        (run, (run_open, now ∙ sym (marked_run (marked (free_map h.blocks) name.at k true) name.at n true false run_open)))

    at : (s : Site) → name.heap ≡ h.id → IsSiteOf h.blocks s → has_serial name.serial s.block && eqb (place_of s) name.at ≡ true → n ≤ room_of s.block s.after → Refits h name k n (resizes h n len s)
    at s own site is room = on s s.block refl site (and_left (has_serial name.serial s.block) (eqb (place_of s) name.at) is) (eqb-true (place_of s) name.at (and_right (has_serial name.serial s.block) (eqb (place_of s) name.at) is)) room

-- the same of what an arena has: a map of grains, g for each unit
pub arena_refits : (g : ℕ) (old new : HeapState) (free : Bits) (n len k : ℕ) (name : Name) → free ≡ spread g (free_map old.blocks) → IsLawful old → Tells n len → held_at old.blocks name.at ≡ Some k
    → Ok tt ≡ (resized_words old name n len).answer → new ≡ (resized_words old name n len).heap
    → IsRun free (g * name.at) (g * k) false × (IsRun (marked free (g * name.at) (g * k) true) (g * name.at) (g * n) true × (spread g (free_map new.blocks) ≡ marked (marked free (g * name.at) (g * k) true) (g * name.at) (g * n) false))
arena_refits g old new free n len k name mapped lawful tells held answer heap =
    let all = resized_map old name n len k lawful tells held (sym answer) in
    let was : Bits = free_map old.blocks in
    let opened = spread_marked g was name.at k false true all.0 in
    let now = ap (λ (h : HeapState). spread g (free_map h.blocks)) heap ∙ ap (spread g) all.1.1 ∙ spread_marked g (marked was name.at k true) name.at n true false all.1.0
    ∙ ap (λ (f : Bits). marked f (g * name.at) (g * n) false) opened in
    subst (λ (f : Bits). IsRun f (g * name.at) (g * k) false × (IsRun (marked f (g * name.at) (g * k) true) (g * name.at) (g * n) true × (spread g (free_map new.blocks) ≡ marked (marked f (g * name.at) (g * k) true) (g * name.at) (g * n) false))) (sym mapped)
    (spread_run g was name.at k false all.0, (subst (λ (f : Bits). IsRun f (g * name.at) (g * n) true) opened (spread_run g (marked was name.at k true) name.at n true all.1.0), now))
