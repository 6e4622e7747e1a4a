-- Spans that an arena of offsets holds: they lie apart, and calls leave those of other names.
use Rattle.std.proofs.Common.{◌≡◌, ◌≢◌, ℕ, zero, suc, ◌+◌, ◌-◌, ◌*◌, ◌/◌, ◌%◌, ◌<◌, ◌≤◌, Bool, true, cond, eqb, List, [], ◌∷◌, ◌++◌, length, take, min, max, Option, Some, None, Result, Ok, Err, sym, ◌∙◌, ap, subst, refl, inl, inr, arith, append_assoc, eq-eqb, mul-le-mul_left, mul-add, mul_comm, div-add-mod', mod-lt}
use Rattle.std.specs.Prelude.{nat_lt, ◌^◌, IsSome, OnOk}
use Rattle.std.specs.List.{AllByRecursion}
use Rattle.std.proofs.lemmas.Bool.{eqb-true, false≢true, cases_lt}
use Rattle.std.proofs.lemmas.Bool.Decides.{nat_tests}
use Rattle.tlsf_class.specs.Classes.{IsLevel, most_words}
use Rattle.tlsf_class.proofs.TwoLevels.{by_level}
use Rattle.tlsf_heap.specs.Blocks.{Block, Live, Free, HeapState, StandsAt, size_of, words_in}
use Rattle.tlsf_heap.specs.Calls.{Outcome, allocated_at, allocated_words, carved, first_free, fitted, has_serial, is_worn, named, past_free, recut, refitted, refused, released, resized_at, resized_words, room_of}
use Rattle.tlsf_heap.specs.GoodFit.{Site, block_at, place_of}
use Rattle.tlsf_heap.specs.Lawful.{HasRoom, IsLawful}
use Rattle.tlsf_heap.specs.Laws.{IsLive}
use Rattle.tlsf_heap.specs.Shown.{Shown}
use Rattle.tlsf_heap.specs.Steps.{Step, Give, Take, Fit, stepped, IsOfOthers}
use Rattle.tlsf_heap.specs.Touched.{allocate_touches, resize_touches}
use Rattle.tlsf_heap.specs.declared.name.Name.{Name}
use Rattle.tlsf_heap.specs.declared.refusal.Refusal.{Refusal}
use Rattle.tlsf_heap.specs.declared.refusal.Refusal.TheVariants.{NoFit, NoRoom, Worn, Foreign}
use Rattle.tlsf_heap.proofs.lemmas.calls.Allocate.{fits_size}
use Rattle.tlsf_heap.proofs.lemmas.lists.Chosen.{none_above}
use Rattle.tlsf_heap.proofs.lemmas.blocks.Replace.{carved_small, carved_large, first_free-words}
use Rattle.tlsf_heap.proofs.lemmas.blocks.Find.{and_left, and_right}
use Rattle.tlsf_heap.proofs.lemmas.laws.Gone.{gone_dead, gone_taken}
use Rattle.tlsf_heap.proofs.lemmas.laws.Lasting.{HasFrom, in_left, in_right, of_index, to_index}
use Rattle.tlsf_heap.proofs.lemmas.blocks.Lawful.{words_in-append}
use Rattle.tlsf_heap.proofs.lemmas.laws.Live.{new_words, shown, one_serial, same_name, lasts_named}
use Rattle.tlsf_heap.proofs.lemmas.blocks.Order.{ends_before, inside}
use Rattle.tlsf_heap.proofs.lemmas.calls.Alter.{named_of}
use Rattle.tlsf_heap.proofs.lemmas.calls.Outcomes.{by_allocated_words, by_released, by_resized_found, by_resized_words, gives_words, ids_step, named_site, resizes}
use Rattle.tlsf_heap.proofs.lemmas.words.Recut.{cut_small, cut_large}
use Rattle.tlsf_heap.proofs.lemmas.lists.Refit.{refitted_grown, refitted_cut, refitted_kept}
use Rattle.tlsf_heap.proofs.lemmas.words.Image.{least}
use Rattle.tlsf_heap.proofs.lemmas.blocks.Sites.{choice_none}
use Rattle.tlsf_offsets.specs.Offsets.{Offsets, IsOffsets, IsHeld, SpansAreApart, KeepsOthers, span_units, seen_of, IsServed, Looks}
use Rattle.tlsf_offsets.specs.declared.span.Span.{Span}
use Rattle.tlsf_heap.specs.Effects.{Allocates, Resizes}
use Rattle.tlsf_heap.specs.Named.{IsNamed}
use Rattle.tlsf_heap.specs.WordsInUse.{words_at}
use Rattle.tlsf_heap.proofs.lemmas.calls.Named.{named_stands}
use Rattle.tlsf_heap.proofs.lemmas.laws.WordsInUse.{words_named}
use Rattle.tlsf_heap.proofs.lemmas.calls.Looked.{allocates_same, resizes_same}

-- ---- held

-- the block of a span
abbrev pub IsBlock : ℕ → ℕ → Block → Type 0
IsBlock serial size b = (has_serial serial b ≡ true) × (size_of b ≡ size)

-- a block of equally many words under the same name stands there: the span is held
pub held : (o p : Offsets) (span : Span) → p.heap.id ≡ o.heap.id → p.unit ≡ o.unit
    → ((size : ℕ) → HasFrom (IsBlock span.name.serial size) span.name.at 0 o.heap.blocks → HasFrom (IsBlock span.name.serial size) span.name.at 0 p.heap.blocks) → IsHeld o span → IsHeld p span
held o p span ids units goes h =
    let size : ℕ = size_of (block_at o.heap.blocks h.index) in
    let P : Block → Type 0 = IsBlock span.name.serial size in
    let there = to_index P span.name.at 0 p.heap.blocks (goes size (of_index P span.name.at 0 o.heap.blocks h.index h.stands.within (omega (arith, h.stands.place)) (h.live, refl))) in
    record {
      own = h.own ∙ sym ids;
      index = there.0;
      stands = record { within = there.1; place = omega (arith, there.2) };
      live = there.3.0;
      offset = h.offset ∙ ap (λ (u : ℕ). u * span.name.at) (sym units);
      size = h.size ∙ ap (λ (u : ℕ). u * size) (sym units) ∙ ap (λ (s : ℕ). p.unit * s) (sym there.3.1);
    }

-- ---- apart

-- the end of a block, in bytes
ends : (o : Offsets) (span : Span) (h : IsHeld o span) → span.offset + span.size ≡ o.unit * (words_in (take h.index o.heap.blocks) + size_of (block_at o.heap.blocks h.index))
ends o span h =
    let place : o.unit * span.name.at ≡ o.unit * words_in (take h.index o.heap.blocks) = ap (λ (a : ℕ). o.unit * a) (sym h.stands.place) in
    omega (arith, h.offset, h.size, place, mul-add o.unit (words_in (take h.index o.heap.blocks)) (size_of (block_at o.heap.blocks h.index)))

before : (o : Offsets) (a b : Span) (x : IsHeld o a) (y : IsHeld o b) → x.index < y.index → a.offset + a.size ≤ b.offset
before o a b x y l =
    let place : o.unit * b.name.at ≡ o.unit * words_in (take y.index o.heap.blocks) = ap (λ (a : ℕ). o.unit * a) (sym y.stands.place) in
    omega (arith, ends o a x, mul-le-mul_left o.unit (ends_before o.heap.blocks x.index y.index l y.stands.within), place, y.offset)

-- two spans of one block have one name
names : (o : Offsets) (a b : Span) (x : IsHeld o a) (y : IsHeld o b) → x.index ≡ y.index → a.name ≡ b.name
names o a b x y e =
    let block : block_at o.heap.blocks x.index ≡ block_at o.heap.blocks y.index = ap (λ (i : ℕ). block_at o.heap.blocks i) e in
    same_name a.name b.name (x.own ∙ sym y.own) (sym x.stands.place ∙ ap (λ (i : ℕ). words_in (take i o.heap.blocks)) e ∙ y.stands.place)
    (one_serial a.name.serial b.name.serial (block_at o.heap.blocks x.index) x.live (ap (has_serial b.name.serial) block ∙ y.live))

pub apart : (sli : ℕ) (o : Offsets) (a b : Span) → IsOffsets sli o → IsHeld o a → IsHeld o b → a.name ≢ b.name → SpansAreApart a b
apart sli o a b is x y other =
    elim (cases_lt x.index y.index) [
      | inl l ↦ inl (before o a b x y l)
      | inr k ↦ elim (cases_lt y.index x.index) [
        | inl l ↦ inr (before o b a y x l)
        | inr j ↦ absurd (other (names o a b x y (omega (arith, k, j))))
      ]
    ]

pub within : (sli : ℕ) (o : Offsets) (a : Span) → IsOffsets sli o → IsHeld o a → a.offset + a.size ≤ o.unit * o.heap.words
within sli o a is x =
    omega (arith, ends o a x, mul-le-mul_left o.unit (inside o.heap is.lawful x.index x.stands.within))

-- ---- one span a name

room_at : (bs : List Block) (i : ℕ) → AllByRecursion HasRoom bs → i < length bs → 4 ≤ size_of (block_at bs i)
room_at [] i all h = absurd (omega (arith, h))
room_at (b ∷ bs) zero all h = least b all.0
room_at (b ∷ bs) (suc i) all h = room_at bs i all.1 (omega (arith, h))

-- no two blocks begin at one place
one_index : (sli : ℕ) (o : Offsets) (a b : Span) (is : IsOffsets sli o) (x : IsHeld o a) (y : IsHeld o b) → a.name ≡ b.name → x.index < y.index → ⊥
one_index sli o a b is x y e l =
    let four = room_at o.heap.blocks x.index is.lawful.rooms x.stands.within in
    let far = ends_before o.heap.blocks x.index y.index l y.stands.within in
    omega (arith, four, far, x.stands.place, y.stands.place, ap (λ (n : Name). n.at) e)

same_span : (a b : Span) → a.name ≡ b.name → a.offset ≡ b.offset → a.size ≡ b.size → a ≡ b
same_span a b e f g =
    let same : ◌≡◌ {A = Span} (record { name = a.name; offset = a.offset; size = a.size }) (record { name = b.name; offset = b.offset; size = b.size }) = cc in same

pub one : (sli : ℕ) (o : Offsets) (a b : Span) → IsOffsets sli o → IsHeld o a → IsHeld o b → a.name ≡ b.name → a ≡ b
one sli o a b is x y e =
    elim (cases_lt x.index y.index) [
      | inl l ↦ absurd (one_index sli o a b is x y e l)
      | inr k ↦ elim (cases_lt y.index x.index) [
        | inl l ↦ absurd (one_index sli o b a is y x (sym e) l)
        | inr j ↦
            let i : x.index ≡ y.index = omega (arith, k, j) in
            same_span a b e (x.offset ∙ ap (λ (n : Name). o.unit * n.at) e ∙ sym y.offset) (x.size ∙ ap (λ (i : ℕ). o.unit * size_of (block_at o.heap.blocks i)) i ∙ sym y.size)
      ]
    ]

-- ---- what calls leave of a span

no_free : (serial size m s : ℕ) → IsBlock serial size (Free m s) → ⊥
no_free serial size m s e = false≢true e.0

module _ (o p : Offsets) (units : p.unit ≡ o.unit) where
  kept : (sli : ℕ) (step : Step) (span : Span) → IsOfOthers span.name step → p.heap ≡ stepped sli o.heap step → IsHeld o span → IsHeld p span
  kept sli step span others is h = held o p span (ap (λ (k : HeapState). k.id) is ∙ ids_step sli o.heap step) units (λ size there.
      let P : Block → Type 0 = IsBlock span.name.serial size in
      subst (λ (k : HeapState). HasFrom P span.name.at 0 k.blocks) (sym is)
      (lasts_named P span.name (no_free span.name.serial size) (λ a b e f. one_serial a span.name.serial b e f.0) sli o.heap step (inl others) (h.own, there)).1) h

  pub kept_allocated : (sli n : ℕ) → p.heap ≡ (allocated_words sli o.heap n 0).heap → (span : Span) → IsHeld o span → IsHeld p span
  kept_allocated sli n is span = kept sli (Give n 0) span tt is

  pub kept_released : (name : Name) → p.heap ≡ (released o.heap name).heap → KeepsOthers o p name
  kept_released name is span other = kept 0 (Take name) span (λ same. other (sym same)) is

  pub kept_resized : (name : Name) (n : ℕ) → p.heap ≡ (resized_words o.heap name n 0).heap → KeepsOthers o p name
  kept_resized name n is span other = kept 0 (Fit name n 0) span (λ same. other (sym same)) is

-- ---- the span of a live name

-- a span that is held has a live name
pub live : (o : Offsets) (span : Span) → IsHeld o span → IsLive o.heap span.name
live o span h = shown o.heap span.name h.own (of_index (λ b. has_serial span.name.serial b ≡ true) span.name.at 0 o.heap.blocks h.index h.stands.within (omega (arith, h.stands.place)) h.live)

-- the block that stands at the place of a live name is its block
pub held_at : (sli : ℕ) (o : Offsets) (name : Name) (span : Span) → IsOffsets sli o → IsLive o.heap name → span.name ≡ name → span.offset ≡ o.unit * name.at → span.size ≡ o.unit * words_at o.heap name.at → IsHeld o span
held_at sli o name span is alive e offset size =
    let there = named_of o.heap name alive in
    let i = there.1.0 in
    record {
      own = ap (λ (n : Name). n.heap) e ∙ there.0;
      index = i;
      stands = subst (λ (n : Name). StandsAt o.heap.blocks n.at i) (sym e) (named_stands _ _ _ _ there.1.1);
      live = subst (λ (n : Name). has_serial n.serial (block_at o.heap.blocks i) ≡ true) (sym e) (and_left (has_serial name.serial (block_at o.heap.blocks i)) _ there.1.1.here);
      offset = offset ∙ ap (λ (n : Name). o.unit * n.at) (sym e);
      size = size ∙ ap (λ (w : ℕ). o.unit * w) (words_named o.heap name is.lawful there);
    }

-- ---- what a call leaves of the arena

-- its heap is lawful, of equally many words, over units of equally many bytes
pub stays : (sli : ℕ) (o p : Offsets) → IsOffsets sli o → p.unit ≡ o.unit → p.heap.words ≡ o.heap.words → IsLawful p.heap → IsOffsets sli p
stays sli o p is unit words lawful = record { level = is.level; lawful = lawful; words = omega (arith, is.words, words); some = omega (arith, is.some, unit) }

pub words_allocated : (sli : ℕ) (h : HeapState) (n : ℕ) → (allocated_words sli h n 0).heap.words ≡ h.words
words_allocated sli h n = by_allocated_words sli (λ out. out.heap.words ≡ h.words) h n 0 (λ why. refl) (λ s site fit. refl)

pub words_released : (h : HeapState) (name : Name) → (released h name).heap.words ≡ h.words
words_released h name = by_released (λ out. out.heap.words ≡ h.words) h name (λ why. refl) (λ s own site is. refl)

pub words_resized : (h : HeapState) (name : Name) (n : ℕ) → (resized_words h name n 0).heap.words ≡ h.words
words_resized h name n = by_resized_words (λ out. out.heap.words ≡ h.words) h name n 0 (λ why. refl) (λ s own site is room. refl)

-- a span of a released name is held no more
pub gone : (o p : Offsets) (name : Name) (answer : Result (Unit {0}) Refusal) → IsLawful o.heap → answer ≡ (released o.heap name).answer → p.heap ≡ (released o.heap name).heap
    → OnOk answer ((span : Span) → IsHeld p span → span.name ≢ name)
gone o p name (Ok done) lawful e is = λ span h same.
    gone_dead (released o.heap name).heap name (gone_taken o.heap name lawful (sym e)) (subst (λ (n : Name). IsLive (released o.heap name).heap n) same (subst (λ (k : HeapState). IsLive k span.name) is (live p span h)))
gone o p name (Err why) lawful e is = tt

-- ---- more units than a number of 32 bits tells

module _ (sli : ℕ) (level : IsLevel sli) where
  few : most_words sli < 2 ^ 32 - 1
  few = by_level (λ s. most_words s < 2 ^ 32 - 1) (omega arith) (omega arith) sli level

  allocated_none : (h : HeapState) (n : ℕ) → most_words sli < n → allocated_words sli h n 0 ≡ refused h NoFit
  allocated_none h n far = ap (allocated_at h n 0) (choice_none sli n h.blocks (none_above sli level n h.blocks far))

  -- that number finds as little room
  pub allocated_clamped : (h : HeapState) (n : ℕ) → allocated_words sli h (min n (2 ^ 32 - 1)) 0 ≡ allocated_words sli h n 0
  allocated_clamped h n =
      elim (cases_lt (2 ^ 32 - 1) n) [
        | inl far ↦
            let clamped : min n (2 ^ 32 - 1) ≡ 2 ^ 32 - 1 = omega arith in
            ap (λ (k : ℕ). allocated_words sli h k 0) clamped ∙ allocated_none h (2 ^ 32 - 1) few ∙ sym (allocated_none h n (omega (arith, few, far)))
        | inr near ↦ ap (λ (k : ℕ). allocated_words sli h k 0) (omega (arith, near))
      ]

  pub resized_clamped : (h : HeapState) (name : Name) (n : ℕ) → IsLawful h → h.words ≤ most_words sli → resized_words h name (min n (2 ^ 32 - 1)) 0 ≡ resized_words h name n 0
  resized_clamped h name n lawful words =
      elim (cases_lt (2 ^ 32 - 1) n) [
        | inl far ↦
            let clamped : min n (2 ^ 32 - 1) ≡ 2 ^ 32 - 1 = omega arith in
            ap (λ (k : ℕ). resized_words h name k 0) clamped ∙ resized_none h name (2 ^ 32 - 1) n lawful (omega (arith, words, few)) (omega (arith, words, few, far))
        | inr near ↦ ap (λ (k : ℕ). resized_words h name k 0) (omega (arith, near))
      ]
    where
      too_long : (h : HeapState) (s : Site) (k : ℕ) → room_of s.block s.after < k → resized_at h k 0 (Some s) ≡ refused h NoRoom
      too_long h s k far =
          let less : nat_lt (room_of s.block s.after) k ≡ true = grind (arith, nat_tests) in
          ap (λ (b : Bool). cond b (refused h NoRoom) (cond (is_worn h) (refused h Worn) (resizes h k 0 s))) less

      resized_none : (h : HeapState) (name : Name) (n m : ℕ) → IsLawful h → h.words < n → h.words < m → resized_words h name n 0 ≡ resized_words h name m 0
      resized_none h name n m lawful far farther = ap (λ (o : Outcome (Unit {0})). cond (eqb name.heap h.id) o (refused h Foreign)) (at (named name h.blocks) refl)
        where
          at : (o : Option Site) → named name h.blocks ≡ o → resized_at h n 0 o ≡ resized_at h m 0 o
          at None e = refl
          at (Some s) e =
              let site = (named_site name h.blocks s e).0 in
              let all : words_in (s.before ++ s.block ∷ s.after) ≡ h.words = ap words_in site ∙ lawful.whole in
              let room : room_of s.block s.after ≤ h.words = omega (arith, all, words_in-append s.before (s.block ∷ s.after), first_free-words s.after) in
              too_long h s n (omega (arith, room, far)) ∙ sym (too_long h s m (omega (arith, room, farther)))

-- ---- what a call makes

-- the heap k has a live block of this name, of n words or more
pub record Made (name : Name) (n : ℕ) (k : HeapState) : Type 0 where
  pub own : name.heap ≡ k.id
  pub size : ℕ
  pub least : n ≤ size
  pub there : HasFrom (IsBlock name.serial size) name.at 0 k.blocks

-- a live block of that name, of n words or more and fewer than four more
abbrev pub MadeClose : Name → ℕ → HeapState → Type 0
MadeClose name n k = (made : Made name n k) × (made.size < n + 4)

pub made_live : (name : Name) (n : ℕ) (k : HeapState) → Made name n k → IsLive k name
made_live name n k made =
    let at = to_index (IsBlock name.serial made.size) name.at 0 k.blocks made.there in
    shown k name made.own (of_index (λ b. has_serial name.serial b ≡ true) name.at 0 k.blocks at.0 at.1 at.2 at.3.0)

-- a span of that name has equally many bytes
made_size : (sli : ℕ) (p : Offsets) (span : Span) (n : ℕ) (made : Made span.name n p.heap) → IsOffsets sli p → IsHeld p span → span.size ≡ p.unit * made.size
made_size sli p span n made is h =
    let at = to_index (IsBlock span.name.serial made.size) span.name.at 0 p.heap.blocks made.there in
    let other : Span = record { name = span.name; offset = p.unit * span.name.at; size = p.unit * made.size } in
    let held : IsHeld p other = record {
      own = made.own;
      index = at.0;
      stands = record { within = at.1; place = omega (arith, at.2) };
      live = at.3.0;
      offset = refl;
      size = ap (λ (s : ℕ). p.unit * s) (sym at.3.1);
    } in
    ap (λ (s : Span). s.size) (one sli p span other is h held refl)

-- whole units hold the bytes that they are wanted for
units_hold : (unit len : ℕ) → 0 < unit → len ≤ unit * (len / unit + min 1 (len % unit))
units_hold unit len some =
    let parts = div-add-mod' len unit in
    elim (cases_lt 0 (len % unit)) [
      | inl more ↦
          let up : len / unit + min 1 (len % unit) ≡ len / unit + 1 = omega (arith, more) in
          omega (arith, parts, mod-lt len some, ap (λ (k : ℕ). unit * k) up, mul-add unit (len / unit) 1, mul_comm unit (len / unit))
      | inr none ↦
          let up : len / unit + min 1 (len % unit) ≡ len / unit = omega (arith, none) in
          omega (arith, parts, none, ap (λ (k : ℕ). unit * k) up, mul_comm unit (len / unit))
    ]

pub enough : (sli : ℕ) (p : Offsets) (span : Span) (len : ℕ) → IsOffsets sli p → IsHeld p span → Made span.name (span_units p.unit len) p.heap → len ≤ span.size
enough sli p span len is h made =
    let four = mul-le-mul_left p.unit (max_right 4 (len / p.unit + min 1 (len % p.unit))) in
    let least = mul-le-mul_left p.unit made.least in
    omega (arith, units_hold p.unit len is.some, four, least, made_size sli p span (span_units p.unit len) made is h)
  where
    max_right : (a b : ℕ) → b ≤ max a b
    max_right a b = omega arith

-- ---- by an allocate

abbrev Given : ℕ → HeapState → ℕ → Outcome Name → Type 0
Given sli h n o = (name : Name) → o.answer ≡ Ok name → MadeClose name n o.heap

pub given_made : (sli n : ℕ) (h : HeapState) → IsLevel sli → Given sli h n (allocated_words sli h n 0)
given_made sli n h level = by_allocated_words sli (Given sli h n) h n 0 (λ why name e. absurd cc) (λ s site fit name e.
    let same : record { heap = h.id; at = place_of s; serial = h.tick } ≡ name = cc in
    subst (λ (m : Name). (made : Made m n (gives_words h n 0 s).heap) × (made.size < n + 4)) same (elim (cases_lt (size_of s.block) (n + 4)) [
      | inl small ↦ made h s n (size_of s.block) [] (carved_small (size_of s.block) n h.tick 0 small) (fits_size sli level n s.block fit) small
      | inr large ↦ made h s n n (Free (size_of s.block - n) h.tick ∷ []) (carved_large (size_of s.block) n h.tick 0 large) (omega arith) (omega arith)
    ]))
  where
    made : (h : HeapState) (s : Site) (n size : ℕ) (more : List Block) → carved (size_of s.block) n h.tick 0 ≡ Live size h.tick [] ∷ more → n ≤ size → size < n + 4
        → (made : Made (record { heap = h.id; at = place_of s; serial = h.tick }) n (gives_words h n 0 s).heap) × (made.size < n + 4)
    made h s n size more e least close =
        let P : Block → Type 0 = IsBlock h.tick size in
        let new : List Block = carved (size_of s.block) n h.tick 0 in
        let first : HasFrom P (place_of s) (0 + place_of s) new = subst (HasFrom P (place_of s) (0 + place_of s)) (sym e) (inl ((eq-eqb h.tick h.tick refl, refl), omega arith)) in (
          record {
            own = refl;
            size = size;
            least = least;
            there = subst (HasFrom P (place_of s) 0) (sym (append_assoc s.before new s.after)) (in_right P (place_of s) 0 s.before (new ++ s.after) (in_left P (place_of s) _ new s.after first));
          },
          close,
        )

-- a span of fewer than four units more than n
pub close : (sli : ℕ) (p : Offsets) (span : Span) (n : ℕ) → IsOffsets sli p → IsHeld p span → (made : Made span.name n p.heap) → made.size < n + 4 → span.size < p.unit * (n + 4)
close sli p span n is h made few =
    omega (arith, made_size sli p span n made is h, mul-le-mul_left p.unit few, is.some, mul-add p.unit made.size 1)

-- ---- by a resize

-- what holds of each way to refit a live block, and of how close to n words it then is, holds of the block refitted
by_sized : (P : List Block → Type 0) (tick n m s : ℕ) (xs : List ℕ) (back : List Block) → n ≤ m + first_free back
    → (n ≤ m → m < n + 4 → P (Live m s (fitted xs 0) ∷ back))
    → (m + first_free back < n + 4 → P (Live (m + first_free back) s (fitted xs 0) ∷ past_free back))
    → P (Live n s (fitted xs 0) ∷ Free (m + first_free back - n) tick ∷ past_free back)
    → P (refitted tick n 0 (Live m s xs) back)
by_sized P tick n m s xs back room kept wide cuts = elim (cases_lt m n) [
  | inl small ↦ subst P (sym (refitted_grown tick n 0 (Live m s xs) back small)) by_cut
  | inr enough ↦ elim (cases_lt m (n + 4)) [
    | inl close ↦ subst P (sym (refitted_kept tick n 0 (Live m s xs) back enough close)) (kept enough close)
    | inr far ↦ subst P (sym (refitted_cut tick n 0 (Live m s xs) back far)) by_cut
  ]
]
  where
    by_cut : P (recut tick n (Live m s (fitted xs 0)) back)
    by_cut = elim (cases_lt (m + first_free back) (n + 4)) [
      | inl small ↦ subst (λ (l : List Block). P (l ++ past_free back)) (sym (cut_small (m + first_free back) n tick s (fitted xs 0) small)) (wide small)
      | inr large ↦ subst (λ (l : List Block). P (l ++ past_free back)) (sym (cut_large (m + first_free back) n tick s (fitted xs 0) large)) cuts
    ]

abbrev Left : HeapState → Name → ℕ → Outcome (Unit {0}) → Type 0
Left h name n o = o.answer ≡ Ok tt → MadeClose name n o.heap

pub left_made : (h : HeapState) (name : Name) (n : ℕ) → Left h name n (resized_words h name n 0)
left_made h name n = by_resized_words (Left h name n) h name n 0 (λ why e. absurd cc) (λ s own site is room e. made h s name n own (and_left _ _ is) (eqb-true _ _ (and_right (has_serial name.serial s.block) _ is)) s.block refl room)
  where
    whole : (h : HeapState) (s : Site) (name : Name) (n : ℕ) (block : Block) (rest : List Block) → name.heap ≡ h.id → place_of s ≡ name.at → has_serial name.serial block ≡ true → n ≤ size_of block → size_of block < n + 4
        → refitted h.tick n 0 s.block s.after ≡ block ∷ rest → MadeClose name n (resizes h n 0 s).heap
    whole h s name n block rest own at live least few e =
        let P : Block → Type 0 = IsBlock name.serial (size_of block) in (
          record {
            own = own;
            size = size_of block;
            least = least;
            there = in_right P name.at 0 s.before (refitted h.tick n 0 s.block s.after) (subst (HasFrom P name.at (0 + words_in s.before)) (sym e) (inl ((live, refl), omega (arith, at))));
          },
          few,
        )

    made : (h : HeapState) (s : Site) (name : Name) (n : ℕ) → name.heap ≡ h.id → has_serial name.serial s.block ≡ true → place_of s ≡ name.at → (b : Block) → s.block ≡ b → n ≤ room_of s.block s.after → MadeClose name n (resizes h n 0 s).heap
    made h s name n own live at (Free m t) is room = absurd (false≢true (ap (has_serial name.serial) (sym is) ∙ live))
    made h s name n own live at (Live m t xs) is room =
        let room_is : n ≤ m + first_free s.after = subst (λ (b : Block). n ≤ room_of b s.after) is room in
        let serial : has_serial name.serial (Live m t xs) ≡ true = subst (λ (b : Block). has_serial name.serial b ≡ true) is live in
        by_sized (λ l. refitted h.tick n 0 s.block s.after ≡ l → MadeClose name n (resizes h n 0 s).heap) h.tick n m t xs s.after room_is
        (λ enough few e. whole h s name n (Live m t (fitted xs 0)) s.after own at serial enough few e)
        (λ few e. whole h s name n (Live (m + first_free s.after) t (fitted xs 0)) (past_free s.after) own at serial room_is few e)
        (λ e. whole h s name n (Live n t (fitted xs 0)) _ own at serial (omega arith) (omega arith) e)
        (ap (λ (b : Block). refitted h.tick n 0 b s.after) is)

-- ---- a call of allocate and one of resize, from the arena o, which the code shows as i, to the arena p

-- an arena of this unit with this heap
abbrev pub with_heap : ℕ → Shown → Offsets
with_heap unit h = record { heap = h.heap; unit = unit; extents = h.extents; touches = h.touches; touched = h.touched }

-- the span of the block that was made, also after a look
served : (sli : ℕ) (o p left : Offsets) (len : ℕ) (span : Span) (name : Name) → IsOffsets sli p → p.unit ≡ o.unit → IsHeld p span → span.name ≡ name → MadeClose name (span_units o.unit len) p.heap → Looks 1 p left → IsServed o left len span
served sli o p left len span name after unit h named close_to looks = let made = subst (λ (m : Name). MadeClose m (span_units o.unit len) p.heap) (sym named) close_to in record {
  held = subst (λ (x : HeapState × ℕ). IsHeld (record left { heap = x.0; unit = x.1 }) span) (λ i. (sym looks.heap i, sym looks.unit i)) (held_in left h);
  enough = enough sli p span len after h (subst (λ (u : ℕ). Made span.name (span_units u len) p.heap) (sym unit) made.0);
  close = subst (λ (u : ℕ). span.size < u * (span_units o.unit len + 4)) unit (close sli p span (span_units o.unit len) after h made.0 made.1);
}
  where
    held_in : (x : Offsets) → IsHeld p span → IsHeld (record x { heap = p.heap; unit = p.unit }) span
    held_in x h = record { own = h.own; index = h.index; stands = h.stands; live = h.live; offset = h.offset; size = h.size }

pub record Asks (sli : ℕ) (o p : Offsets) (len : ℕ) (answer : Result Name Refusal) : Type 0 where
  pub allocates : Allocates allocate_touches sli (span_units o.unit len) 0 (seen_of o) (seen_of p) answer
  pub unit_is : p.unit ≡ o.unit
  pub before : IsOffsets sli o
  pub after : IsOffsets sli p

pub asks : (sli : ℕ) (i o p : Offsets) (len m : ℕ) (answer : Result Name Refusal) → IsOffsets sli o → i ≡ o → m ≡ min (span_units i.unit len) (2 ^ 32 - 1)
    → Allocates allocate_touches sli m 0 (seen_of i) (seen_of p) answer → p.unit ≡ i.unit → IsLawful p.heap → Asks sli o p len answer
asks sli i o p len m answer is same units r g lawful =
    let n = span_units o.unit len in
    let here : Allocates allocate_touches sli m 0 (seen_of o) (seen_of p) answer = subst (λ (x : Offsets). Allocates allocate_touches sli m 0 (seen_of x) (seen_of p) answer) same r in
    let all : allocated_words sli o.heap m 0 ≡ allocated_words sli o.heap n 0 =
    ap (λ (k : ℕ). allocated_words sli o.heap k 0) (units ∙ ap (λ (x : Offsets). min (span_units x.unit len) (2 ^ 32 - 1)) same) ∙ allocated_clamped sli is.level o.heap n in
    let unit = g ∙ ap (λ (x : Offsets). x.unit) same in
    let asked = allocates_same allocate_touches sli m n 0 (seen_of o) (seen_of p) answer all here in
    record { allocates = asked; unit_is = unit; before = is; after = stays sli o p is unit (ap (λ (h : HeapState). h.words) asked.heap ∙ words_allocated sli o.heap n) lawful }

module _ (sli : ℕ) (o p : Offsets) (len : ℕ) (name : Name) (a : Asks sli o p len (Ok name)) where
  pub asks_made : MadeClose name (span_units o.unit len) p.heap
  asks_made = subst (MadeClose name (span_units o.unit len)) (sym a.allocates.heap) (given_made sli (span_units o.unit len) o.heap a.before.level name (sym a.allocates.answer_is))

  pub asks_served : (span : Span) → span.name ≡ name → IsHeld p span → (left : Offsets) → Looks 1 p left → IsServed o left len span
  asks_served span named h left looks = served sli o p left len span name a.after a.unit_is h named asks_made looks

  pub asks_new : (other : Span) → IsHeld o other → other.name ≢ name
  asks_new other h same = new_words sli o.heap (span_units o.unit len) 0 name a.before.lawful (sym a.allocates.answer_is) (subst (IsLive o.heap) same (live o other h))

pub record Alters (sli : ℕ) (o p : Offsets) (name : Name) (len : ℕ) (answer : Result (Unit {0}) Refusal) : Type 0 where
  pub resizes : Resizes resize_touches (span_units o.unit len) 0 (seen_of o) (seen_of p) name answer
  pub unit_is : p.unit ≡ o.unit
  pub after : IsOffsets sli p

pub alters : (sli : ℕ) (i o p : Offsets) (name : Name) (len m : ℕ) (answer : Result (Unit {0}) Refusal) → IsOffsets sli o → i ≡ o → m ≡ min (span_units i.unit len) (2 ^ 32 - 1)
    → Resizes resize_touches m 0 (seen_of i) (seen_of p) name answer → p.unit ≡ i.unit → IsLawful p.heap → Alters sli o p name len answer
alters sli i o p name len m answer is same units r g lawful =
    let n = span_units o.unit len in
    let here : Resizes resize_touches m 0 (seen_of o) (seen_of p) name answer = subst (λ (x : Offsets). Resizes resize_touches m 0 (seen_of x) (seen_of p) name answer) same r in
    let all : resized_words o.heap name m 0 ≡ resized_words o.heap name n 0 =
    ap (λ (k : ℕ). resized_words o.heap name k 0) (units ∙ ap (λ (x : Offsets). min (span_units x.unit len) (2 ^ 32 - 1)) same) ∙ resized_clamped sli is.level o.heap name n is.lawful is.words in
    let unit = g ∙ ap (λ (x : Offsets). x.unit) same in
    let altered = resizes_same resize_touches m n 0 (seen_of o) (seen_of p) name answer all here in
    record { resizes = altered; unit_is = unit; after = stays sli o p is unit (ap (λ (h : HeapState). h.words) altered.heap ∙ words_resized o.heap name n) lawful }

module _ (sli : ℕ) (o p : Offsets) (name : Name) (len : ℕ) (a : Alters sli o p name len (Ok tt)) where
  pub alters_made : MadeClose name (span_units o.unit len) p.heap
  alters_made = subst (MadeClose name (span_units o.unit len)) (sym a.resizes.heap) (left_made o.heap name (span_units o.unit len) (sym a.resizes.answer_is))

  pub alters_served : (span : Span) → span.name ≡ name → IsHeld p span → (left : Offsets) → Looks 1 p left → IsServed o left len span
  alters_served span named h left looks = served sli o p left len span name a.after a.unit_is h named alters_made looks

-- the name of a resize that was done names a block
pub resized_named : (h : HeapState) (name : Name) (n : ℕ) → (resized_words h name n 0).answer ≡ Ok tt → IsNamed h name
resized_named h name n =
    by_resized_found (λ o. o.answer ≡ Ok tt → IsNamed h name) h name n 0 (λ why e. absurd cc)
    (λ s own found room done. named_of h name (own, subst (λ (o : Option Site). IsSome o) (sym found) refl))
