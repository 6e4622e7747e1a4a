-- The map of free units under the calls of the heap.
use Rattle.tlsf_arena.proofs.Common.{◌≡◌, ℕ, ◌+◌, ◌-◌, ◌*◌, ◌<◌, ◌≤◌, Bool, true, false, eqb, ◌&&◌, List, [], ◌∷◌, ◌++◌, length, replicate, Some, None, Option, Ok, refl, sym, ap, subst, ◌∙◌, arith, append_assoc, inl, inr, length-append, IsSome, AllByRecursion, eqb-true, false≢true, cases_lt, length-replicate, append-nil, replicate-append-replicate, IsLevel, Block, Live, Free, HeapState, size_of, bytes_of, words_in, StandsAt, Site, place_of, is_fit, block_at, IsLawful, HasRoom, IsLive, Holds, placed_at, placed, Outcome, carved, allocated_words, released, coalesced, named, first_free, past_free, last_free, before_free, has_serial, Name, IsRun, marked, spread, free_map, held_units, held_at, held_in, free_units_in}
use Rattle.tlsf_heap.proofs.lemmas.blocks.Find.{and_left, and_right}
use Rattle.tlsf_heap.proofs.lemmas.blocks.Replace.{carved_small, carved_large}
use Rattle.tlsf_heap.proofs.lemmas.calls.Allocate.{fits_size}
use Rattle.tlsf_heap.proofs.lemmas.blocks.Coalesce.{by_last}
use Rattle.tlsf_heap.proofs.lemmas.blocks.Lawful.{all_left, all_right}
use Rattle.tlsf_heap.proofs.lemmas.blocks.ByPlace.{placed_found}
use Rattle.tlsf_heap.proofs.lemmas.laws.Live.{given_words}
use Rattle.tlsf_heap.proofs.lemmas.calls.Outcomes.{IsSiteOf, gives_words, takes, named_site, by_allocated_words, by_released}
use Rattle.tlsf_arena.proofs.Rooms.{marked_run}
use Rattle.tlsf_arena.proofs.Spread.{spread_run, spread_marked}
use Rattle.std.proofs.lemmas.List.{get_or_at, take_at}

abbrev pub Bits : Type 0
Bits = List Bool

-- ---- the map of a list of blocks

pub map-append : (xs ys : List Block) → free_map (xs ++ ys) ≡ free_map xs ++ free_map ys
map-append [] ys = refl
map-append (Live m s b ∷ xs) ys =
    let k = held_units m (length b) in
    let H : Bits = replicate k false in let T : Bits = replicate (m - k) true in
    ap (λ (l : Bits). H ++ (T ++ l)) (map-append xs ys) ∙ ap (λ (l : Bits). H ++ l) (sym (append_assoc T (free_map xs) (free_map ys))) ∙ sym (append_assoc H (T ++ free_map xs) (free_map ys))
map-append (Free m s ∷ xs) ys = ap (λ (l : Bits). replicate m true ++ l) (map-append xs ys) ∙ sym (append_assoc (replicate m true) (free_map xs) (free_map ys))

pub held_fit : (m : ℕ) (s : ℕ) (b : List ℕ) → HasRoom (Live m s b) → held_units m (length b) ≤ m
held_fit m s b h = omega (arith, h.0, h.1)

pub length-map : (bs : List Block) → AllByRecursion HasRoom bs → length (free_map bs) ≡ words_in bs
length-map [] h = refl
length-map (Live m s b ∷ bs) h =
    let k = held_units m (length b) in
    omega (arith, length-map bs h.1, held_fit m s b h.0, length-append (replicate k false) (replicate (m - k) true ++ free_map bs), length-append (replicate (m - k) true) (free_map bs), length-replicate {A = Bool} k false, length-replicate {A = Bool} (m - k) true)
length-map (Free m s ∷ bs) h = omega (arith, length-map bs h.1, length-append (replicate m true) (free_map bs), length-replicate {A = Bool} m true)

pub joined : (a b : ℕ) (v : Bool) (l : Bits) → replicate a v ++ (replicate b v ++ l) ≡ replicate (a + b) v ++ l
joined a b v l = sym (append_assoc (replicate a v) (replicate b v) l) ∙ ap (λ (f : Bits). f ++ l) (replicate-append-replicate a b v)

-- ---- allocate

-- a payload of this many bytes tells that k units were wanted for its block
abbrev pub Tells : ℕ → ℕ → Type 0
Tells k len = (size : ℕ) → k ≤ size → size < k + 4 → held_units size len ≡ k

-- k units of a free block of m are held from now on
carved_map : (m k tick len : ℕ) → Tells k len → k ≤ m → free_map (carved m k tick len) ≡ replicate k false ++ replicate (m - k) true
carved_map m k tick len tells fits =
    let long : length {A = ℕ} (replicate len 0) ≡ len = length-replicate {A = ℕ} len 0 in
    elim (cases_lt m (k + 4)) [
      | inl small ↦ ap free_map (carved_small m k tick len small)
          ∙ ap (λ (j : ℕ). replicate j false ++ (replicate (m - j) true ++ [])) (ap (held_units m) long ∙ tells m fits small)
          ∙ ap (λ (l : Bits). replicate k false ++ l) (append-nil (replicate (m - k) true))
      | inr large ↦ ap free_map (carved_large m k tick len large)
          ∙ ap (λ (j : ℕ). replicate j false ++ (replicate (k - j) true ++ (replicate (m - k) true ++ []))) (ap (held_units k) long ∙ tells k (omega arith) (omega arith))
          ∙ ap (λ (j : ℕ). replicate k false ++ (replicate j true ++ (replicate (m - k) true ++ []))) (let z : k - k ≡ 0 = omega arith in z)
          ∙ ap (λ (l : Bits). replicate k false ++ l) (append-nil (replicate (m - k) true))
    ]

abbrev pub Carves : HeapState → ℕ → Outcome Name → Type 0
Carves h k o = (name : Name) → o.answer ≡ Ok name → IsRun (free_map h.blocks) name.at k true × (free_map o.heap.blocks ≡ marked (free_map h.blocks) name.at k false)

pub allocated_map : (sli : ℕ) → IsLevel sli → (h : HeapState) (k len : ℕ) → IsLawful h → Tells k len → Carves h k (allocated_words sli h k len)
allocated_map sli level h k len lawful tells = by_allocated_words sli (Carves h k) h k len (λ why name e. cc) at
  where
    on : (s : Site) (b : Block) → s.block ≡ b → IsSiteOf h.blocks s → is_fit sli k b ≡ true → Carves h k (gives_words h k len s)
    on s (Live m t xs) same site fit = absurd (false≢true fit)
    on s (Free m t) same site fit =
        λ name e.
        let Mb : Bits = free_map s.before in let Ma : Bits = free_map s.after in
        let fits : k ≤ m = fits_size sli level k (Free m t) fit in
        let whole : s.before ++ Free m t ∷ s.after ≡ h.blocks = ap (λ (b : Block). s.before ++ b ∷ s.after) (sym same) ∙ site in
        let rooms : AllByRecursion HasRoom s.before = all_left HasRoom s.before (Free m t ∷ s.after) (subst (AllByRecursion HasRoom) (sym whole) lawful.rooms) in
        let place : name.at ≡ words_in s.before = cc in
        let was : free_map h.blocks ≡ Mb ++ (replicate k true ++ (replicate (m - k) true ++ Ma)) =
        ap free_map (sym whole) ∙ map-append s.before (Free m t ∷ s.after) ∙ ap (λ (l : Bits). Mb ++ l) (sym (joined k (m - k) true Ma ∙ ap (λ (j : ℕ). replicate j true ++ Ma) (let z : k + (m - k) ≡ m = omega arith in z))) in
        let run : IsRun (free_map h.blocks) name.at k true = ((Mb, replicate (m - k) true ++ Ma), was, length-map s.before rooms ∙ sym place) in
        let now : free_map (s.before ++ carved (size_of s.block) k h.tick len ++ s.after) ≡ Mb ++ (replicate k false ++ (replicate (m - k) true ++ Ma)) =
        map-append (s.before ++ carved (size_of s.block) k h.tick len) s.after ∙ ap (λ (l : Bits). l ++ Ma) (map-append s.before (carved (size_of s.block) k h.tick len))
        ∙ ap (λ (b : Block). (Mb ++ free_map (carved (size_of b) k h.tick len)) ++ Ma) same
        ∙ ap (λ (l : Bits). (Mb ++ l) ++ Ma) (carved_map m k h.tick len tells fits)
        ∙ append_assoc Mb (replicate k false ++ replicate (m - k) true) Ma ∙ ap (λ (l : Bits). Mb ++ l) (append_assoc (replicate k false) (replicate (m - k) true) Ma) in
        (run, now ∙ sym (marked_run (free_map h.blocks) name.at k true false run))

    at : (s : Site) → IsSiteOf h.blocks s → is_fit sli k s.block ≡ true → Carves h k (gives_words h k len s)
    at s site fit = on s s.block refl site fit

-- ---- release

pub past_map : (bs : List Block) → free_map bs ≡ replicate (first_free bs) true ++ free_map (past_free bs)
past_map [] = refl
past_map (Live m s b ∷ bs) = refl
past_map (Free m s ∷ bs) = refl

before_map : (bs : List Block) → free_map bs ≡ free_map (before_free bs) ++ replicate (last_free bs) true
before_map bs = by_last (λ l k left. free_map l ≡ free_map left ++ replicate k true) bs
    refl
    (λ l m s xs. sym (append-nil (free_map (l ++ Live m s xs ∷ []))))
    (λ l m s. map-append l (Free m s ∷ []) ∙ ap (λ (f : Bits). free_map l ++ f) (append-nil (replicate m true)))

abbrev pub Frees : HeapState → Name → ℕ → Outcome (Unit {0}) → Type 0
Frees h name k o = o.answer ≡ Ok tt → IsRun (free_map h.blocks) name.at k false × (free_map o.heap.blocks ≡ marked (free_map h.blocks) name.at k true)

pub stands : (bs : List Block) (s : Site) → IsSiteOf bs s → StandsAt bs (place_of s) (length s.before) × (block_at bs (length s.before) ≡ s.block)
stands bs s site = subst (λ (l : List Block). StandsAt l (place_of s) (length s.before) × (block_at l (length s.before) ≡ s.block)) site (front s.before s.block s.after)
  where
    front : (f : List Block) (b : Block) (r : List Block) → StandsAt (f ++ b ∷ r) (words_in f) (length f) × (block_at (f ++ b ∷ r) (length f) ≡ b)
    front f b r = (record { within = omega (arith, length-append f (b ∷ r)); place = ap words_in (take_at f (b ∷ r) (length f) refl) }, get_or_at f b r _ (length f) refl)

-- a block that is seen at its place is seen to hold its units
pub seen_held : (h : HeapState) (s : Site) (m t : ℕ) (xs : List ℕ) (name : Name) (k : ℕ) → IsLawful h → s.block ≡ Live m t xs → IsSiteOf h.blocks s → place_of s ≡ name.at
    → held_at h.blocks name.at ≡ Some k → held_units m (length xs) ≡ k
seen_held h s m t xs name k lawful same site place live =
    let there = stands h.blocks s site in
    let seen : placed_at h.blocks name.at ≡ Some (placed name.at (Live m t xs)) =
    subst (λ (p : ℕ). placed_at h.blocks p ≡ Some (placed p (block_at h.blocks (length s.before)))) place (placed_found lawful.rooms there.0) ∙ ap (λ (b : Block). Some (placed name.at b)) (there.1 ∙ same) in
    let told : Some (held_units m (length xs)) ≡ Some k = ap held_in (sym seen) ∙ live in
    cc

pub released_map : (h : HeapState) (name : Name) (k : ℕ) → IsLawful h → held_at h.blocks name.at ≡ Some k → Frees h name k (released h name)
released_map h name k lawful live = by_released (Frees h name k) h name (λ why e. cc) at
  where
    on : (s : Site) (b : Block) → s.block ≡ b → IsSiteOf h.blocks s → has_serial name.serial b ≡ true → place_of s ≡ name.at → Frees h name k (takes h s)
    on s (Free m t) same site has place = absurd (false≢true has)
    on s (Live m t xs) same site has place =
        λ _.
        let Mb : Bits = free_map s.before in let Ma : Bits = free_map s.after in
        let whole : s.before ++ Live m t xs ∷ s.after ≡ h.blocks = ap (λ (b : Block). s.before ++ b ∷ s.after) (sym same) ∙ site in
        let all = subst (AllByRecursion HasRoom) (sym whole) lawful.rooms in
        let rooms : AllByRecursion HasRoom s.before = all_left HasRoom s.before (Live m t xs ∷ s.after) all in
        let room : HasRoom (Live m t xs) = (all_right HasRoom s.before (Live m t xs ∷ s.after) all).0 in
        let wants : held_units m (length xs) ≡ k = seen_held h s m t xs name k lawful same site place live in
        let fits : k ≤ m = omega (arith, held_fit m t xs room, wants) in
        let R : Bits = replicate (m - k) true in
        let was : free_map h.blocks ≡ Mb ++ (replicate k false ++ (R ++ Ma)) =
        ap free_map (sym whole) ∙ map-append s.before (Live m t xs ∷ s.after) ∙ ap (λ (j : ℕ). Mb ++ (replicate j false ++ (replicate (m - j) true ++ Ma))) wants in
        let run : IsRun (free_map h.blocks) name.at k false = ((Mb, R ++ Ma), was, length-map s.before rooms ∙ place) in
        let Mp : Bits = free_map (past_free s.after) in let Mf : Bits = free_map (before_free s.before) in
        let lf = last_free s.before in let ff = first_free s.after in
        let marks : marked (free_map h.blocks) name.at k true ≡ Mf ++ (replicate (lf + m + ff) true ++ Mp) =
        marked_run (free_map h.blocks) name.at k false true run
        ∙ (λ i. before_map s.before i ++ (replicate k true ++ (R ++ past_map s.after i)))
        ∙ append_assoc Mf (replicate lf true) (replicate k true ++ (R ++ (replicate ff true ++ Mp)))
        ∙ ap (λ (l : Bits). Mf ++ (replicate lf true ++ (replicate k true ++ l))) (joined (m - k) ff true Mp)
        ∙ ap (λ (l : Bits). Mf ++ (replicate lf true ++ l)) (joined k (m - k + ff) true Mp)
        ∙ ap (λ (l : Bits). Mf ++ l) (joined lf (k + (m - k + ff)) true Mp)
        ∙ ap (λ (j : ℕ). Mf ++ (replicate j true ++ Mp)) (let z : lf + (k + (m - k + ff)) ≡ lf + m + ff = omega arith in z) in
        let now : free_map (coalesced h.tick s) ≡ Mf ++ (replicate (lf + m + ff) true ++ Mp) =
        map-append (before_free s.before) (Free (lf + size_of s.block + ff) h.tick ∷ past_free s.after) ∙ ap (λ (b : Block). Mf ++ (replicate (lf + size_of b + ff) true ++ Mp)) same in
        (run, now ∙ sym marks)

    at : (s : Site) → name.heap ≡ h.id → IsSiteOf h.blocks s → has_serial name.serial s.block && eqb (place_of s) name.at ≡ true → Frees h name k (takes h s)
    at s own site is = on s s.block refl site (and_left (has_serial name.serial s.block) (eqb (place_of s) name.at) is) (eqb-true (place_of s) name.at (and_right (has_serial name.serial s.block) (eqb (place_of s) name.at) is))

-- ---- the same of what an arena has: a map of grains, n for each unit

pub arena_carves : (sli n : ℕ) → IsLevel sli → (old new : HeapState) (free : Bits) (k len : ℕ) (name : Name) → free ≡ spread n (free_map old.blocks) → IsLawful old → Tells k len
    → Ok name ≡ (allocated_words sli old k len).answer → new ≡ (allocated_words sli old k len).heap → IsRun free (n * name.at) (n * k) true × (spread n (free_map new.blocks) ≡ marked free (n * name.at) (n * k) false)
arena_carves sli n level old new free k len name mapped lawful tells answer heap =
    let both = allocated_map sli level old k len lawful tells name (sym answer) in
    subst (λ (f : Bits). IsRun f (n * name.at) (n * k) true × (spread n (free_map new.blocks) ≡ marked f (n * name.at) (n * k) false)) (sym mapped)
    (spread_run n (free_map old.blocks) name.at k true both.0, ap (λ (h : HeapState). spread n (free_map h.blocks)) heap ∙ ap (spread n) both.1 ∙ spread_marked n (free_map old.blocks) name.at k true false both.0)

pub arena_frees : (n : ℕ) (old new : HeapState) (free : Bits) (k : ℕ) (name : Name) → free ≡ spread n (free_map old.blocks) → IsLawful old → held_at old.blocks name.at ≡ Some k
    → Ok tt ≡ (released old name).answer → new ≡ (released old name).heap → IsRun free (n * name.at) (n * k) false × (spread n (free_map new.blocks) ≡ marked free (n * name.at) (n * k) true)
arena_frees n old new free k name mapped lawful held answer heap =
    let both = released_map old name k lawful held (sym answer) in
    subst (λ (f : Bits). IsRun f (n * name.at) (n * k) false × (spread n (free_map new.blocks) ≡ marked f (n * name.at) (n * k) true)) (sym mapped)
    (spread_run n (free_map old.blocks) name.at k false both.0, ap (λ (h : HeapState). spread n (free_map h.blocks)) heap ∙ ap (spread n) both.1 ∙ spread_marked n (free_map old.blocks) name.at k false true both.0)

-- ---- a heap that holds nothing

first_is : (bs : List Block) → free_units_in (placed_at bs 0) ≡ first_free bs
first_is [] = refl
first_is (Live m s xs ∷ bs) = refl
first_is (Free m s ∷ bs) = refl

none_left : (l : Bits) → length l ≡ 0 → l ≡ []
none_left [] e = refl
none_left (b ∷ l) e = absurd (omega (arith, e))

pub whole_map : (bs : List Block) (words : ℕ) → free_units_in (placed_at bs 0) ≡ words → length (free_map bs) ≡ words → free_map bs ≡ replicate words true
whole_map bs words first long =
    let size : first_free bs ≡ words = sym (first_is bs) ∙ first in
    let P : Bits = free_map (past_free bs) in
    let was : free_map bs ≡ replicate words true ++ P = past_map bs ∙ ap (λ (j : ℕ). replicate j true ++ P) size in
    let rest : P ≡ [] = none_left P (omega (arith, ap length was, length-append (replicate words true) P, length-replicate {A = Bool} words true, long)) in
    was ∙ ap (λ (l : Bits). replicate words true ++ l) rest ∙ append-nil (replicate words true)

-- ---- a name that is live

pub held_of : (h : HeapState) (name : Name) (k : ℕ) (s : Site) → IsLawful h → named name h.blocks ≡ Some s → held_units (size_of s.block) (length (bytes_of s.block)) ≡ k → held_at h.blocks name.at ≡ Some k
held_of h name k s lawful found wants =
    let site = named_site name h.blocks s found in
    let place : place_of s ≡ name.at = eqb-true (place_of s) name.at (and_right (has_serial name.serial s.block) (eqb (place_of s) name.at) site.1) in
    let there = stands h.blocks s site.0 in
    let seen : placed_at h.blocks name.at ≡ Some (placed name.at s.block) =
    subst (λ (p : ℕ). placed_at h.blocks p ≡ Some (placed p (block_at h.blocks (length s.before)))) place (placed_found lawful.rooms there.0) ∙ ap (λ (b : Block). Some (placed name.at b)) there.1 in
    ap held_in seen ∙ holds s.block (and_left (has_serial name.serial s.block) (eqb (place_of s) name.at) site.1) wants
  where
    holds : (b : Block) → has_serial name.serial b ≡ true → held_units (size_of b) (length (bytes_of b)) ≡ k → held_in (Some (placed name.at b)) ≡ Some k
    holds (Live m t xs) has w = ap Some w
    holds (Free m t) has w = absurd (false≢true has)

-- ---- a block that was given

-- the units of a block are seen where it stands
pub stands_held : (h : HeapState) (s : Site) (m t k : ℕ) (xs : List ℕ) → IsLawful h → s.block ≡ Live m t xs → IsSiteOf h.blocks s → held_units m (length xs) ≡ k → held_at h.blocks (place_of s) ≡ Some k
stands_held h s m t k xs lawful same site holds =
    let there = stands h.blocks s site in
    ap held_in (placed_found lawful.rooms there.0 ∙ ap (λ (b : Block). Some (placed (place_of s) b)) (there.1 ∙ same)) ∙ ap Some holds

-- k units are held by the block that k units were wanted for
abbrev pub Gives : ℕ → Outcome Name → Type 0
Gives k o = (name : Name) → o.answer ≡ Ok name → IsLawful o.heap → held_at o.heap.blocks name.at ≡ Some k

pub allocated_held : (sli : ℕ) → IsLevel sli → (h : HeapState) (k len : ℕ) → Tells k len → Gives k (allocated_words sli h k len)
allocated_held sli level h k len tells = by_allocated_words sli (Gives k) h k len (λ why name e lawful. cc) at
  where
    on : (s : Site) (b : Block) → s.block ≡ b → is_fit sli k b ≡ true → Gives k (gives_words h k len s)
    on s (Live m t xs) same fit = absurd (false≢true fit)
    on s (Free m t) same fit =
        λ name e lawful.
        let place : name.at ≡ words_in s.before = cc in
        let fits : k ≤ m = fits_size sli level k (Free m t) fit in
        let zeros : List ℕ = replicate len 0 in
        let long : length zeros ≡ len = length-replicate {A = ℕ} len 0 in
        let new : HeapState = (gives_words h k len s).heap in
        let blocks : new.blocks ≡ (s.before ++ carved m k h.tick len) ++ s.after = ap (λ (b : Block). (s.before ++ carved (size_of b) k h.tick len) ++ s.after) same in
        ap (held_at new.blocks) place ∙ elim (cases_lt m (k + 4)) [
          | inl small ↦ stands_held new (record { before = s.before; block = Live m h.tick zeros; after = s.after }) m h.tick k zeros lawful refl
              (sym (blocks ∙ ap (λ (l : List Block). (s.before ++ l) ++ s.after) (carved_small m k h.tick len small) ∙ append_assoc s.before (Live m h.tick zeros ∷ []) s.after))
              (ap (held_units m) long ∙ tells m fits small)
          | inr large ↦ stands_held new (record { before = s.before; block = Live k h.tick zeros; after = Free (m - k) h.tick ∷ s.after }) k h.tick k zeros lawful refl
              (sym (blocks ∙ ap (λ (l : List Block). (s.before ++ l) ++ s.after) (carved_large m k h.tick len large) ∙ append_assoc s.before (Live k h.tick zeros ∷ Free (m - k) h.tick ∷ []) s.after))
              (ap (held_units k) long ∙ tells k (omega arith) (omega arith))
        ]

    at : (s : Site) → IsSiteOf h.blocks s → is_fit sli k s.block ≡ true → Gives k (gives_words h k len s)
    at s site fit = on s s.block refl fit

-- a live name is that of a block that holds what is seen at its place
pub holds_live : (h : HeapState) (name : Name) (k : ℕ) → IsLawful h → IsLive h name → held_at h.blocks name.at ≡ Some k → Holds h name k
holds_live h name k lawful live held = on (named name h.blocks) refl live.1
  where
    told : (s : Site) (b : Block) → s.block ≡ b → IsSiteOf h.blocks s → place_of s ≡ name.at → has_serial name.serial b ≡ true → held_units (size_of b) (length (bytes_of b)) ≡ k
    told s (Live m t xs) same site place has = seen_held h s m t xs name k lawful same site place held
    told s (Free m t) same site place has = absurd (false≢true has)

    on : (o : Option Site) → named name h.blocks ≡ o → IsSome o → Holds h name k
    on None e some = absurd (false≢true some)
    on (Some s) e some =
        let site = named_site name h.blocks s e in
        let place : place_of s ≡ name.at = eqb-true (place_of s) name.at (and_right (has_serial name.serial s.block) (eqb (place_of s) name.at) site.1) in
        (s, live.0, e, told s s.block refl site.0 place (and_left (has_serial name.serial s.block) (eqb (place_of s) name.at) site.1))

pub holds_given : (sli : ℕ) → IsLevel sli → (h : HeapState) (k len : ℕ) (name : Name) → Tells k len → (allocated_words sli h k len).answer ≡ Ok name → IsLawful (allocated_words sli h k len).heap → Holds (allocated_words sli h k len).heap name k
holds_given sli level h k len name tells gives lawful =
    holds_live (allocated_words sli h k len).heap name k lawful (given_words sli h k len name gives) (allocated_held sli level h k len tells name gives lawful)
