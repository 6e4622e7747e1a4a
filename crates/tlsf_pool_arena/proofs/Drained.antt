-- The slots after a look at each in turn.
use Rattle.tlsf_pool_arena.proofs.Common.{◌≡◌, ℕ, suc, ◌+◌, ◌*◌, ◌<◌, ◌≤◌, Bool, true, false, List, [], ◌∷◌, ◌++◌, length, length-append, length-set, set, slice_get, subst, take, Option, Some, None, refl, sym, ap, ◌∙◌, inl, inr, append_assoc, append-nil, arith, cases_eq, false≢true, HeapState, last_tick, released, GoesOn, RemoteState, LookedInTime, TakesHome, home_from, home_released, looks_from, still_away, Parcel}
use Rattle.std.proofs.lemmas.List.{take-append-le, take_all}

-- ---- what one look more comes to

next_slot : (k : ℕ) (seen : List Bool) → k + 1 + length seen ≡ k + suc (length seen)
next_slot k seen = omega arith

looks_on : (k : ℕ) (seen : List Bool) (home : Bool) → looks_from k (seen ++ home ∷ []) ≡ looks_from k seen ++ (k + length seen, home) ∷ []
looks_on k [] home = ap (λ (j : ℕ). (j, home) ∷ []) (let e : k ≡ k + 0 = omega arith in e)
looks_on k (was ∷ seen) home =
    ap (λ (l : List (ℕ × Bool)). (k, was) ∷ l) (looks_on (k + 1) seen home ∙ ap (λ (j : ℕ). looks_from (k + 1) seen ++ (j, home) ∷ []) (next_slot k seen))

home_on : (k : ℕ) (seen : List Bool) → home_from k (seen ++ true ∷ []) ≡ home_from k seen ++ (k + length seen) ∷ []
home_on k [] = ap (λ (j : ℕ). j ∷ []) (let e : k ≡ k + 0 = omega arith in e)
home_on k (true ∷ seen) = ap (λ (l : List ℕ). k ∷ l) (home_on (k + 1) seen ∙ ap (λ (j : ℕ). home_from (k + 1) seen ++ j ∷ []) (next_slot k seen))
home_on k (false ∷ seen) = home_on (k + 1) seen ∙ ap (λ (j : ℕ). home_from (k + 1) seen ++ j ∷ []) (next_slot k seen)

home_off : (k : ℕ) (seen : List Bool) → home_from k (seen ++ false ∷ []) ≡ home_from k seen
home_off k [] = refl
home_off k (true ∷ seen) = ap (λ (l : List ℕ). k ∷ l) (home_off (k + 1) seen)
home_off k (false ∷ seen) = home_off (k + 1) seen

abbrev Away : ℕ → Type 0
Away u = List (Option (Parcel u))

module _ {u : ℕ} where
  -- the next slot is as it was
  away_next : (away : Away u) (seen : List Bool) → slice_get (still_away away seen) (length seen) ≡ slice_get away (length seen)
  away_next [] seen = refl
  away_next (b ∷ away) [] = refl
  away_next (b ∷ away) (true ∷ seen) = away_next away seen
  away_next (b ∷ away) (false ∷ seen) = away_next away seen

  away_on : (away : Away u) (seen : List Bool) → still_away away (seen ++ true ∷ []) ≡ set (still_away away seen) (length seen) None
  away_on [] seen = refl
  away_on (b ∷ []) [] = refl
  away_on (b ∷ (d ∷ away)) [] = refl
  away_on (b ∷ away) (true ∷ seen) = ap (λ (l : Away u). None ∷ l) (away_on away seen)
  away_on (b ∷ away) (false ∷ seen) = ap (λ (l : Away u). b ∷ l) (away_on away seen)

  away_off : (away : Away u) (seen : List Bool) → still_away away (seen ++ false ∷ []) ≡ still_away away seen
  away_off [] seen = refl
  away_off (b ∷ []) [] = refl
  away_off (b ∷ (d ∷ away)) [] = refl
  away_off (b ∷ away) (true ∷ seen) = ap (λ (l : Away u). None ∷ l) (away_off away seen)
  away_off (b ∷ away) (false ∷ seen) = ap (λ (l : Away u). b ∷ l) (away_off away seen)

  none_taken : (away : Away u) → still_away away [] ≡ away
  none_taken [] = refl
  none_taken (b ∷ away) = refl

  nothing_seen : (h : HeapState) (away : Away u) → home_released h away [] ≡ h
  nothing_seen h [] = refl
  nothing_seen h (b ∷ away) = refl

  heap_on : (h : HeapState) (away : Away u) (seen : List Bool) (b : Parcel u) → slice_get away (length seen) ≡ Some (Some b) → home_released h away (seen ++ true ∷ []) ≡ (released (home_released h away seen) b.block.name).heap
  heap_on h [] seen b here = absurd (let no : ⊥ = cc in no)
  heap_on h (None ∷ away) [] b here = absurd (let no : ⊥ = cc in no)
  heap_on h (Some d ∷ away) [] b here = let same : d ≡ b = cc in nothing_seen (released h d.block.name).heap away ∙ ap (λ (d : Parcel u). (released h d.block.name).heap) same
  heap_on h (None ∷ away) (true ∷ seen) b here = heap_on h away seen b here
  heap_on h (Some d ∷ away) (true ∷ seen) b here = heap_on (released h d.block.name).heap away seen b here
  heap_on h (d ∷ away) (false ∷ seen) b here = heap_on h away seen b here

  heap_off : (h : HeapState) (away : Away u) (seen : List Bool) → home_released h away (seen ++ false ∷ []) ≡ home_released h away seen
  heap_off h [] seen = refl
  heap_off h (d ∷ away) [] = nothing_seen h away
  heap_off h (None ∷ away) (true ∷ seen) = heap_off h away seen
  heap_off h (Some d ∷ away) (true ∷ seen) = heap_off (released h d.block.name).heap away seen
  heap_off h (d ∷ away) (false ∷ seen) = heap_off h away seen

  in_time_on : (h : HeapState) (away : Away u) (seen : List Bool) (home : Bool) → LookedInTime h away seen → ¬ ((home_released h away seen).tick ≡ last_tick) → LookedInTime h away (seen ++ home ∷ [])
  in_time_on h away seen home was fresh k inside = elim (cases_eq k (length seen)) [
    | inl last ↦ subst (λ (l : List Bool). ¬ ((home_released h away l).tick ≡ last_tick)) (sym (ap (λ (j : ℕ). take j (seen ++ home ∷ [])) last ∙ take-append-le (length seen) seen (home ∷ []) (omega arith) ∙ take_all (length seen) seen (omega arith))) fresh
    | inr before ↦
        let sooner : k < length seen = omega (arith, inside, before, length-append seen (home ∷ [])) in
        subst (λ (l : List Bool). ¬ ((home_released h away l).tick ≡ last_tick)) (sym (take-append-le k seen (home ∷ []) (omega (arith, sooner)))) (was k sooner)
  ]

-- the first n slots were looked at, unless the last tick came
pub record Drained {u : ℕ} (first now : RemoteState u) (n : ℕ) : Type 0 where
  pub on : GoesOn (60 * n) n first now
  pub held : now.arena.held ≤ first.arena.held
  pub long : length now.away ≡ length first.away
  pub seen : List Bool
  pub looks : now.looks ≡ first.looks ++ looks_from 0 seen
  pub away : now.away ≡ still_away first.away seen
  pub heap : now.arena.heap ≡ home_released first.arena.heap first.away seen
  pub idle : now.idle ≡ first.idle ++ home_from 0 seen
  pub whole : ¬ (now.arena.heap.tick ≡ last_tick) → length seen ≡ n
  pub in_time : LookedInTime first.arena.heap first.away seen

-- before the first look
pub none_drained : {u : ℕ} (first : RemoteState u) → Drained first first 0
none_drained first = record {
  on = record { own = refl; plan = record { region = refl; book = refl; most = refl; longest = refl; stays = refl; leased = refl }; stays = refl; touches = omega arith; compared = refl; steps = omega arith };
  held = omega arith;
  long = refl;
  seen = [];
  looks = sym (append-nil first.looks);
  away = sym (none_taken first.away);
  heap = sym (nothing_seen first.arena.heap first.away);
  idle = sym (append-nil first.idle);
  whole = λ _. refl;
  in_time = λ k inside. absurd (omega (arith, inside));
}

-- after the last
pub all_drained : {u : ℕ} (first now : RemoteState u) (n : ℕ) → Drained first now n → n ≡ length first.away → (seen : List Bool) × TakesHome first now seen
all_drained first now n d long = (d.seen, record { looks = d.looks; away = d.away; heap = d.heap; idle = d.idle; whole = λ fresh. d.whole fresh ∙ long; in_time = d.in_time })

module _ {u : ℕ} (first old new : RemoteState u) (at : ℕ) (was : Drained first old at) (next : GoesOn 60 1 old new) where
  goes_on : GoesOn (60 * (at + 1)) (at + 1) first new
  goes_on =
      let plan = next.plan in
      let before = was.on.plan in record {
        own = next.own ∙ was.on.own;
        plan = record { region = plan.region ∙ before.region; book = plan.book ∙ before.book; most = plan.most ∙ before.most; longest = plan.longest ∙ before.longest; stays = plan.stays ∙ before.stays; leased = plan.leased ∙ before.leased };
        stays = next.stays ∙ was.on.stays;
        touches = omega (arith, was.on.touches, next.touches);
        compared = next.compared ∙ was.on.compared;
        steps = omega (arith, was.on.steps, next.steps);
      }

  from_first : length was.seen ≡ at → at ≡ 0 + length was.seen
  from_first long = omega (arith, long)

  -- one look more, that saw this
  seen_on : (home : Bool) → length was.seen ≡ at → new.looks ≡ old.looks ++ (at, home) ∷ [] → new.looks ≡ first.looks ++ looks_from 0 (was.seen ++ home ∷ [])
  seen_on home long looks =
      looks ∙ ap (λ (l : List (ℕ × Bool)). l ++ (at, home) ∷ []) was.looks ∙ append_assoc first.looks (looks_from 0 was.seen) ((at, home) ∷ [])
      ∙ ap (λ (j : ℕ). first.looks ++ (looks_from 0 was.seen ++ (j, home) ∷ [])) (from_first long) ∙ ap (λ (l : List (ℕ × Bool)). first.looks ++ l) (sym (looks_on 0 was.seen home))

  one_longer : (home : Bool) → length was.seen ≡ at → length (was.seen ++ home ∷ []) ≡ at + 1
  one_longer home long = length-append was.seen (home ∷ []) ∙ ap (λ (j : ℕ). j + 1) long

  one_in_time : (home : Bool) → ¬ (old.arena.heap.tick ≡ last_tick) → LookedInTime first.arena.heap first.away (was.seen ++ home ∷ [])
  one_in_time home fresh = in_time_on first.arena.heap first.away was.seen home was.in_time (λ last. fresh (ap (λ (s : HeapState). s.tick) was.heap ∙ last))

  pub one_drained : (result : Bool)
      → (result ≡ true → (b : Parcel u) × (slice_get old.away at ≡ Some (Some b)) × (new.away ≡ set old.away at None) × (new.arena.heap ≡ (released old.arena.heap b.block.name).heap) × (new.arena.held + 1 ≡ old.arena.held) × (new.idle ≡ old.idle ++ at ∷ []))
      → (result ≡ false → (new.away ≡ old.away) × (new.arena.heap ≡ old.arena.heap) × (new.arena.held ≡ old.arena.held) × (new.idle ≡ old.idle))
      → (¬ (old.arena.heap.tick ≡ last_tick) → new.looks ≡ old.looks ++ (at, result) ∷ []) → (old.arena.heap.tick ≡ last_tick → (result ≡ false) × (new.looks ≡ old.looks)) → Drained first new (at + 1)
  one_drained true home none looks worn =
      let h = home refl in
      let fresh : ¬ (old.arena.heap.tick ≡ last_tick) = λ last. false≢true (sym (worn last).0) in
      let long : length was.seen ≡ at = was.whole fresh in
      let there : slice_get first.away (length was.seen) ≡ Some (Some h.0) =
      sym (away_next first.away was.seen) ∙ ap (λ (l : List (Option (Parcel u))). slice_get l (length was.seen)) (sym was.away) ∙ ap (λ (j : ℕ). slice_get old.away j) long ∙ h.1 in
      record {
        on = goes_on;
        held = omega (arith, was.held, h.4);
        long = ap (λ (l : List (Option (Parcel u))). length l) h.2 ∙ length-set old.away at None ∙ was.long;
        seen = was.seen ++ true ∷ [];
        looks = seen_on true long (looks fresh);
        away = h.2 ∙ (λ i. set (was.away i) (sym long i) None) ∙ sym (away_on first.away was.seen);
        heap = h.3 ∙ ap (λ (s : HeapState). (released s h.0.block.name).heap) was.heap ∙ sym (heap_on first.arena.heap first.away was.seen h.0 there);
        idle = h.5 ∙ ap (λ (l : List ℕ). l ++ at ∷ []) was.idle ∙ append_assoc first.idle (home_from 0 was.seen) (at ∷ [])
            ∙ ap (λ (j : ℕ). first.idle ++ (home_from 0 was.seen ++ j ∷ [])) (from_first long) ∙ ap (λ (l : List ℕ). first.idle ++ l) (sym (home_on 0 was.seen));
        whole = λ _. one_longer true long;
        in_time = one_in_time true fresh;
      }
  one_drained false home none looks worn = elim (cases_eq old.arena.heap.tick last_tick) [
    | inl last ↦
        let h = none refl in record {
          on = goes_on;
          held = omega (arith, was.held, h.2);
          long = ap (λ (l : List (Option (Parcel u))). length l) h.0 ∙ was.long;
          seen = was.seen;
          looks = (worn last).1 ∙ was.looks;
          away = h.0 ∙ was.away;
          heap = h.1 ∙ was.heap;
          idle = h.3 ∙ was.idle;
          whole = λ fresh. absurd (fresh (ap (λ (s : HeapState). s.tick) h.1 ∙ last));
          in_time = was.in_time;
        }
    | inr fresh ↦
        let h = none refl in
        let long : length was.seen ≡ at = was.whole fresh in record {
          on = goes_on;
          held = omega (arith, was.held, h.2);
          long = ap (λ (l : List (Option (Parcel u))). length l) h.0 ∙ was.long;
          seen = was.seen ++ false ∷ [];
          looks = seen_on false long (looks fresh);
          away = h.0 ∙ was.away ∙ sym (away_off first.away was.seen);
          heap = h.1 ∙ was.heap ∙ sym (heap_off first.arena.heap first.away was.seen);
          idle = h.3 ∙ was.idle ∙ ap (λ (l : List ℕ). first.idle ++ l) (sym (home_off 0 was.seen));
          whole = λ _. one_longer false long;
          in_time = one_in_time false fresh;
        }
  ]
