-- An arena of blocks of a fixed size: what its calls answer and leave.
use Rattle.tlsf_pool_arena.proofs.Common.{◌↔◌, IfErr, IsSome, ◌≡◌, ◌≢◌, ℕ, ◌+◌, ◌-◌, ◌*◌, ◌<◌, ◌≤◌, Bool, true, false, cond, [], ◌∷◌, Option, Some, Result, Ok, Err, IsOk, refl, sym, ap, ◌∙◌, subst, arith, eq-eqb, false≢true, eqb-true, le-ltb, Live, Free, HeapState, size_of, Outcome, Allocate, Allocated, Release, Released, Resize, allocated_words, has_serial, is_worn, last_tick, named, refused, released, resized_at, resized_words, room_of, live_count, sure, Holds, requested, lacking, piece_size, units_for, IsPoolArena, PoolArenaState, fixed_bytes, fixed_size}
use base.Fml.{GName}
use Rattle.std.proofs.Math.Nat.{mul-le-mul}
use Rattle.linked_list_allocator.specs.Region.{Region}
use Rattle.tlsf_heap.specs.Blocks.{Block}
use Rattle.tlsf_heap.specs.GoodFit.{Site, fits}
use Rattle.tlsf_heap.specs.Memory.{Extents}
use Rattle.tlsf_heap.specs.Lawful.{IsLawful}
use Rattle.tlsf_heap.specs.Laws.{IsLive}
use Rattle.tlsf_heap.specs.declared.name.Name.{Name}
use Rattle.tlsf_heap.specs.declared.refusal.Refusal.{Refusal}
use Rattle.tlsf_heap.specs.declared.refusal.Refusal.TheVariants.{Foreign, NoRoom, Worn}
use Rattle.tlsf_heap.proofs.lemmas.blocks.Find.{and_left}
use Rattle.tlsf_heap.proofs.lemmas.laws.Live.{new_words}
use Rattle.tlsf_heap.proofs.lemmas.calls.Outcomes.{by_allocated_words, by_resized_words, lawful_allocated_words, lawful_resized_words, lawful_run, named_site, resizes}
use Rattle.tlsf_pool.specs.laws.FixedSize.{HasFixedSize, IsFixedSize}
use Rattle.tlsf_pool.specs.laws.Held.{held_after}
use Rattle.tlsf_pool.proofs.lemmas.laws.Around.{around_site, words_kept}
use Rattle.tlsf_pool.proofs.lemmas.laws.FixedCalls.{held_fixed}
use Rattle.tlsf_pool.proofs.lemmas.laws.FixedSize.{finds_fixed, fixed_kept, sure_again, sure_region}
use Rattle.tlsf_pool.proofs.lemmas.laws.FreeRoom.{sure_enough}
use Rattle.tlsf_pool.proofs.lemmas.laws.Held.{held_is}
use Rattle.tlsf_arena.specs.Arenas.{refitted as refitted_to}
use Rattle.tlsf_arena.specs.Effects.{answer_of}
use Rattle.tlsf_pool_arena.proofs.UnitWords.{lacks_few, units_again, units_rise}

-- where a block has the words that are wanted, a resize is refused at the last tick alone
resize_of : (h : HeapState) (name : Name) (n len : ℕ) (t : Site) → name.heap ≡ h.id → named name h.blocks ≡ Some t → n ≤ room_of t.block t.after
    → resized_words h name n len ≡ cond (is_worn h) (refused h Worn) (resizes h n len t)
resize_of h name n len t own found room =
    ap (λ (b : Bool). cond b (resized_at h n len (named name h.blocks)) (refused h Foreign)) (eq-eqb name.heap h.id own)
    ∙ ap (resized_at h n len) found
    ∙ ap (λ (b : Bool). cond b (refused h NoRoom) (cond (is_worn h) (refused h Worn) (resizes h n len t))) (le-ltb (room_of t.block t.after) n room)

sized : (s serial : ℕ) (b : Block) → has_serial serial b ≡ true → IsFixedSize s b → s ≤ size_of b
sized s serial (Live m k xs) own size = (size refl).0
sized s serial (Free m k) own size = absurd (false≢true own)

module _ (sli u : ℕ) (p : PoolArenaState) (is : IsPoolArena sli u p) where
  abbrev s : ℕ
  s = fixed_size sli u p.longest

  again : sure sli s ≡ s
  again = sure_again sli is.level (units_for u p.longest) is.class

  pub four : 4 ≤ fixed_size sli u p.longest
  four = (sure_region sli is.level s again).0

  -- a request takes the units of each block
  pub units_are : units_for u (fixed_bytes sli u p.longest) ≡ fixed_size sli u p.longest
  units_are = units_again u s is.unit four

  -- while fewer blocks are held than may be, it finds room
  pub room : p.held < p.most → ¬ (fits sli (fixed_size sli u p.longest) p.heap.blocks ≡ [])
  room few = finds_fixed sli is.level s p.most p.heap is.lawful is.fixed again is.words (omega (arith, is.live, few))

  -- a block is no shorter than its request gets
  pub is_long : (len : ℕ) → len ≤ p.longest → piece_size u len ≤ fixed_bytes sli u p.longest
  is_long len short =
      let enough : units_for u len ≤ s = omega (arith, units_rise u len p.longest is.unit short, sure_enough sli is.level (units_for u p.longest) is.class) in
      mul-le-mul (same u) enough
    where
      same : (n : ℕ) → n ≤ n
      same n = omega arith

  module _ (bytes : ℕ) (bytes_are : bytes ≡ fixed_bytes sli u p.longest) where
    pub units_of_each : units_for u bytes ≡ fixed_size sli u p.longest
    units_of_each = ap (units_for u) bytes_are ∙ units_are

    pub size_of_each : piece_size u bytes ≡ fixed_bytes sli u p.longest
    size_of_each = ap (λ (k : ℕ). u * k) units_of_each

    -- what the heap is asked for
    asked : requested sli u p.heap bytes ≡ allocated_words sli p.heap s (lacking s)
    asked = ap (requested sli u p.heap) bytes_are ∙ ap (λ (k : ℕ). allocated_words sli p.heap k (lacking k)) units_are

    asked_again : (name : Name) → refitted_to u p.heap name bytes ≡ resized_words p.heap name s (lacking s)
    asked_again name = ap (refitted_to u p.heap name) bytes_are ∙ ap (λ (k : ℕ). resized_words p.heap name k (lacking k)) units_are

    -- after an allocate that gave a name
    pub given : (name : Name) (left : HeapState) (region : Region) (book : GName) (extents : Extents) (leased : Bool) (touches compared : ℕ) → p.held < p.most → (requested sli u p.heap bytes).answer ≡ Ok name → left ≡ (requested sli u p.heap bytes).heap
        → IsPoolArena sli u (record { heap = left; region = region; book = book; most = p.most; longest = p.longest; held = p.held + 1; extents = extents; leased = leased; touches = touches; compared = compared })
    given name left region book extents leased touches compared few answer heap =
        let o : Outcome Name = allocated_words sli p.heap s (lacking s) in
        let there : left ≡ o.heap = heap ∙ ap (λ (o : Outcome Name). o.heap) asked in
        let named : o.answer ≡ Ok name = sym (ap (λ (o : Outcome Name). o.answer) asked) ∙ answer in
        let words : o.heap.words ≡ p.heap.words = by_allocated_words sli (λ o. o.heap.words ≡ p.heap.words) p.heap s (lacking s) (λ why. refl) (λ t site fit. refl) in
        let counts = ap (λ (r : Result Name Refusal). held_after (live_count p.heap) (Allocate (lacking s)) (Allocated r)) named in
        record {
          level = is.level;
          unit = is.unit;
          lawful = subst IsLawful (sym there) (lawful_allocated_words sli is.level p.heap s (lacking s) (lacks_few s four) is.lawful);
          words = omega (arith, is.words, words, ap (λ (h : HeapState). h.words) there);
          class = is.class;
          live = ap live_count there ∙ held_fixed sli s p.heap (Allocate (lacking s)) ∙ counts ∙ ap (λ (n : ℕ). n + 1) is.live;
          few = omega (arith, few);
          fixed = subst (HasFixedSize s) (sym there) ((fixed_kept sli is.level s p.heap is.fixed).allocate (lacking s));
        }

    -- an arena that refuses within the bounds is at its last tick
    pub worn : (q : PoolArenaState) (len : ℕ) → q ≡ p → ((¬ (fits sli (units_for u bytes) p.heap.blocks ≡ []) × ¬ (p.heap.tick ≡ last_tick)) → false ≡ true)
        → ((len ≤ q.longest) × (q.held < q.most) × ¬ (q.heap.tick ≡ last_tick)) → false ≡ true
    worn q len same refused =
        subst (λ (x : PoolArenaState). ((len ≤ x.longest) × (x.held < x.most) × ¬ (x.heap.tick ≡ last_tick)) → false ≡ true) (sym same)
        (λ h. refused (subst (λ (k : ℕ). ¬ (fits sli k p.heap.blocks ≡ [])) (sym units_of_each) (room h.1), h.2))

    -- the name that is given is no block's that is held
    pub is_new : (name other : Name) (units : ℕ) → (requested sli u p.heap bytes).answer ≡ Ok name → Holds p.heap other units → other ≢ name
    is_new name other units answer holds same =
        new_words sli p.heap (units_for u bytes) (lacking (units_for u bytes)) name is.lawful answer
        (subst (IsLive p.heap) same (holds.1, subst (λ (o : Option Site). IsSome o) (sym holds.2) refl))

    -- after a resize, done or refused
    pub refit : (name : Name) (left : HeapState) (region : Region) (book : GName) (extents : Extents) (leased : Bool) (touches compared : ℕ) → left ≡ (refitted_to u p.heap name bytes).heap
        → IsPoolArena sli u (record { heap = left; region = region; book = book; most = p.most; longest = p.longest; held = p.held; extents = extents; leased = leased; touches = touches; compared = compared })
    refit name left region book extents leased touches compared heap =
        let o : Outcome (Unit {0}) = resized_words p.heap name s (lacking s) in
        let there : left ≡ o.heap = heap ∙ ap (λ (o : Outcome (Unit {0})). o.heap) (asked_again name) in
        let words : o.heap.words ≡ p.heap.words = by_resized_words (λ o. o.heap.words ≡ p.heap.words) p.heap name s (lacking s) (λ why. refl) (λ t own site it room. refl) in
        record {
          level = is.level;
          unit = is.unit;
          lawful = subst IsLawful (sym there) (lawful_resized_words p.heap name s (lacking s) (lacks_few s four) is.lawful);
          words = omega (arith, is.words, words, ap (λ (h : HeapState). h.words) there);
          class = is.class;
          live = ap live_count there ∙ held_fixed sli s p.heap (Resize name (lacking s)) ∙ is.live;
          few = is.few;
          fixed = subst (HasFixedSize s) (sym there) ((fixed_kept sli is.level s p.heap is.fixed).resize name (lacking s));
        }

    -- a resize of a block that is held is refused at the last tick alone
    resize_is : (name : Name) (units : ℕ) (answer : Result (Unit {0}) Refusal) → Holds p.heap name units → (refitted_to u p.heap name bytes).answer ≡ answer
        → (IsOk answer ↔ ¬ (p.heap.tick ≡ last_tick)) × ((why : Refusal) → answer ≡ Err why → why ≡ Worn)
    resize_is name units answer holds is_answer = at (is_worn p.heap) refl
      where
        room_there : s ≤ room_of holds.0.block holds.0.after
        room_there =
            let site = named_site name p.heap.blocks holds.0 holds.2 in
            let around = around_site (IsFixedSize s) p.heap holds.0 site.0 is.fixed.sizes in
            omega (arith, sized s name.serial holds.0.block (and_left _ _ site.1) around.1)

        same : refitted_to u p.heap name bytes ≡ cond (is_worn p.heap) (refused p.heap Worn) (resizes p.heap s (lacking s) holds.0)
        same = asked_again name ∙ resize_of p.heap name s (lacking s) holds.0 holds.1 holds.2 room_there

        told : (b : Bool) → is_worn p.heap ≡ b → answer ≡ (cond b (refused p.heap Worn) (resizes p.heap s (lacking s) holds.0)).answer
        told b worn = sym is_answer ∙ ap (λ (o : Outcome (Unit {0})). o.answer) (same ∙ ap (λ (b : Bool). cond b (refused p.heap Worn) (resizes p.heap s (lacking s) holds.0)) worn)

        at : (b : Bool) → is_worn p.heap ≡ b → (IsOk answer ↔ ¬ (p.heap.tick ≡ last_tick)) × ((why : Refusal) → answer ≡ Err why → why ≡ Worn)
        at true worn = (((λ ok. absurd (false≢true (subst IsOk (told true worn) ok))), (λ fresh. absurd (fresh (eqb-true p.heap.tick last_tick worn)))), λ why is. let told = told true worn in cc)
        at false worn = (((λ ok last. false≢true (sym worn ∙ eq-eqb p.heap.tick last_tick last)), (λ fresh. subst IsOk (sym (told false worn)) refl)), λ why is. let told = told false worn in absurd cc)

    pub resize_ok : {A B : Type 0} (result : Result A (Refusal × B)) (name : Name) (units : ℕ) → Holds p.heap name units → answer_of (λ e. e.0) result ≡ (refitted_to u p.heap name bytes).answer → IsOk result ↔ ¬ (p.heap.tick ≡ last_tick)
    resize_ok (Ok done) name units holds answer = (resize_is name units (Ok tt) holds (sym answer)).0
    resize_ok (Err e) name units holds answer = (resize_is name units (Err e.0) holds (sym answer)).0

    pub resize_worn : {A B : Type 0} (result : Result A (Refusal × B)) (name : Name) (units : ℕ) → Holds p.heap name units → answer_of (λ e. e.0) result ≡ (refitted_to u p.heap name bytes).answer → IfErr result (λ e. e.0 ≡ Worn)
    resize_worn (Ok done) name units holds answer = tt
    resize_worn (Err e) name units holds answer = (resize_is name units (Err e.0) holds (sym answer)).1 e.0 refl

  -- after a release that was done
  pub taken : (name : Name) (left : HeapState) (region : Region) (book : GName) (extents : Extents) (leased : Bool) (touches compared : ℕ) → (released p.heap name).answer ≡ Ok tt → left ≡ (released p.heap name).heap
      → IsPoolArena sli u (record { heap = left; region = region; book = book; most = p.most; longest = p.longest; held = p.held - 1; extents = extents; leased = leased; touches = touches; compared = compared })
  taken name left region book extents leased touches compared answer heap =
      let counts = held_is sli p.heap (Release name) ∙ ap (λ (r : Result (Unit {0}) Refusal). held_after (live_count p.heap) (Release name) (Released r)) answer in
      record {
        level = is.level;
        unit = is.unit;
        lawful = subst IsLawful (sym heap) (lawful_run sli is.level p.heap (Release name ∷ []) is.lawful);
        words = omega (arith, is.words, words_kept sli p.heap (Release name), ap (λ (h : HeapState). h.words) heap);
        class = is.class;
        live = ap live_count heap ∙ counts ∙ ap (λ (n : ℕ). n - 1) is.live;
        few = omega (arith, is.few);
        fixed = subst (HasFixedSize s) (sym heap) ((fixed_kept sli is.level s p.heap is.fixed).release name);
      }
