-- Each step keeps the rule of the slots.
use Rattle.tlsf_pool_arena.proofs.Common.{◌≡◌, ◌≢◌, ℕ, zero, suc, ◌<◌, Bool, true, false, eqb, List, [], ◌∷◌, ◌++◌, map, length, replicate, set, get_or, slice_get, Option, Some, None, refl, sym, ap, subst, ◌∙◌, ◌⊎◌, inl, inr, ⊎_elim, length-set, arith, false≢true, Seated, announced, sent_out, ticket_of, reached, put_back, looked, cleared, is_away, slot_of, value_of, out_by, looks_by}
use mathlib.Core.Option.{some, none, some-injective, some-ne-none}
use mathlib.Core.Option as maybe
use lib.ListN.{get_elem?}
use prog.Atomic.{either}
use Rattle.atomic_table.specs.Table.{State, step, Allows, Splits, Act, Valid, keeps, takes, gives, opening, stepped, carried_after, rest}
use Rattle.atomic_table.proofs.Lists.{at_set, set_here, set_else, set_again, at_map, exchanged}
use Rattle.tlsf_pool_arena.specs.declared.returns.role.Role.{Role}
use Rattle.tlsf_pool_arena.specs.declared.returns.role.Role.TheVariants.{Owns, Sends, Takes, Away, Puts, Gave}
use Rattle.tlsf_pool_arena.specs.returns.Slots.{Spot, idle, away, moving, home, taken, word_of, home_of, value_at, OwnerFits, Fits, Kept, first_role}
use Rattle.std.proofs.lemmas.List.{map-set, set-get_or, length-map}
use Rattle.std.proofs.lemmas.Option.{get_or_from_slice_get, slice_get_within}

-- ---- lists

-- an entry that looks the same changes no list of looks
map_same : {A B : Type 0} (f : A → B) (l : List A) (i : ℕ) (a b : A) → get_elem? l i ≡ some b → f b ≡ f a → map f (set l i a) ≡ map f l
map_same f l i a b at same = map-set f l i a ∙ set_again (map f l) i (f a) (at_map f l i b at ∙ ap some same)

-- what the std's index finds
got : {A : Type 0} (l : List A) (i : ℕ) (a : A) → slice_get l i ≡ Some a → get_elem? l i ≡ some a
got [] i a e = absurd (let no : ⊥ = cc in no)
got (x ∷ l) zero a e = let same : x ≡ a = cc in ap some same
got (x ∷ l) (suc i) a e = got l i a e

gets : {A : Type 0} (l : List A) (i : ℕ) (a : A) → get_elem? l i ≡ some a → slice_get l i ≡ Some a
gets [] i a e = absurd (some-ne-none a (sym e))
gets (x ∷ l) zero a e = ap Some (some-injective x a e)
gets (x ∷ l) (suc i) a e = gets l i a e

there : {A : Type 0} (l : List A) (i : ℕ) → i < length l → (a : A) × (get_elem? l i ≡ some a)
there [] i h = absurd (omega arith)
there (x ∷ l) zero h = (x, refl)
there (x ∷ l) (suc i) h = there l i (omega arith)

index_is : (l : List ℕ) (i n : ℕ) → get_elem? l i ≡ some n → get_or l i 0 ≡ n
index_is l i n e = get_or_from_slice_get l i n 0 (gets l i n e)

-- what stands at an entry of a list of looks
looked_at : {A B : Type 0} (f : A → B) (l : List A) (i : ℕ) (b : B) → get_elem? (map f l) i ≡ some b → (a : A) × (get_elem? l i ≡ some a) × (f a ≡ b)
looked_at f [] i b e = absurd (some-ne-none b (sym e))
looked_at f (x ∷ l) zero b e = (x, refl, some-injective (f x) b e)
looked_at f (x ∷ l) (suc i) b e = looked_at f l i b e

-- the last of a list, and those before it
at_end : {A : Type 0} (l : List A) (a b : A) (j : ℕ) → get_elem? (l ++ a ∷ []) j ≡ some b → (get_elem? l j ≡ some b) ⊎ ((j ≡ length l) × (a ≡ b))
at_end [] a b zero e = inr (refl, some-injective a b e)
at_end [] a b (suc j) e = absurd (some-ne-none b (sym e))
at_end (x ∷ l) a b zero e = inl e
at_end (x ∷ l) a b (suc j) e = ⊎_elim (λ t. inl t) (λ t. inr (ap suc t.0, t.1)) (at_end l a b j e)

map_all : {A B : Type 0} (f : A → B) (n : ℕ) (a : A) → map f (replicate n a) ≡ replicate n (f a)
map_all f zero a = refl
map_all f (suc n) a = ap (λ (l : List _). f a ∷ l) (map_all f n a)

inside : {A : Type 0} (l : List A) (i : ℕ) (a : A) → get_elem? l i ≡ some a → i < length l
inside l i a e = slice_get_within l i a (gets l i a e)

abbrev Spots : Type 0 → Type 0
Spots T = List (Spot T)

module _ {T : Type 0} where
  -- ---- a slot that changes, for the seats whose it isn't

  -- the slot isn't that seat's
  abbrev IsOthers : ℕ → ℕ → Spot T → Type 0
  IsOthers owner id idle = id ≢ owner
  IsOthers owner id (away j x) = id ≢ j
  IsOthers owner id (moving j x) = id ≢ j
  IsOthers owner id (home x) = Unit {0}
  IsOthers owner id (taken x) = id ≢ owner

  -- to the owner it looks as before
  abbrev LooksSame : Spot T → Spot T → Type 0
  LooksSame old new = (value_at old ≡ value_at new) × ((x : T) → new ≢ taken x)

  module _ (spots : Spots T) (k : ℕ) (old new : Spot T) (here : get_elem? spots k ≡ some old) (owner id : ℕ) (others : IsOthers owner id old) where
    elsewhere : (j : ℕ) (b : Spot T) → ¬ (IsOthers owner id b) → get_elem? spots j ≡ some b → get_elem? (set spots k new) j ≡ some b
    elsewhere j b own at = set_else spots k j new (λ e. own (subst (IsOthers owner id) (some-injective old b (sym here ∙ ap (get_elem? spots) (sym e) ∙ at)) others)) ∙ at

    owner_stays : (out : List (Option T)) (hand : ℕ → Type 0) → (id ≡ owner → LooksSame old new) → OwnerFits spots owner id out hand → OwnerFits (set spots k new) owner id out hand
    owner_stays out hand same f = record {
      owns = f.owns;
      out_is = f.out_is ∙ sym (map_same value_at spots k new old here (same f.owns).0);
      in_hand = λ j x e. ⊎_elim (λ t. absurd ((same f.owns).1 x t.1)) (λ t. f.in_hand j x t.1) (at_set spots k j new (taken x) e);
    }

    stays : (v : Role T) → (id ≡ owner → LooksSame old new) → Fits spots owner id v → Fits (set spots k new) owner id v
    stays (Owns out looks) same f = owner_stays out (λ k. ⊥) same f
    stays (Sends out looks at x) same f = (owner_stays out (λ k. ⊥) same f.0, elsewhere at idle (λ o. o f.0.owns) f.1)
    stays (Takes out looks at) same f = (owner_stays out (λ k. k ≡ at) same f.0, (f.1.0, elsewhere at (taken f.1.0) (λ o. o f.0.owns) f.1.1))
    stays (Away at x) same f = elsewhere at (away id x) (λ o. o refl) f
    stays (Puts at x) same f = elsewhere at (moving id x) (λ o. o refl) f
    stays (Gave at x) same f = f

  -- ---- a step by one seat on one slot

  pub record Steps (s : State (Option T) (Role T)) (r : Kept s) (k me : ℕ) (old new : Spot T) (w : Role T) : Type 0 where
    pub here : get_elem? r.spots k ≡ some old
    pub others : (id : ℕ) → id ≢ me → IsOthers r.owner id old
    pub same : (id : ℕ) → id ≢ me → id ≡ r.owner → LooksSame old new
    pub mine : Fits (set r.spots k new) r.owner me w

  all_fit : (s : State (Option T) (Role T)) (r : Kept s) (k me : ℕ) (old new : Spot T) (w : Role T) → Steps s r k me old new w
      → (id : ℕ) (v : Role T) → get_elem? (set s.views me w) id ≡ some v → Fits (set r.spots k new) r.owner id v
  all_fit s r k me old new w t id v e = ⊎_elim
      (λ h. subst (λ (p : ℕ × Role T). Fits (set r.spots k new) r.owner p.0 p.1) (λ i. (sym h.0 i, h.1 i)) t.mine)
      (λ h. stays r.spots k old new t.here r.owner id (t.others id h.0) v (t.same id h.0) (r.fits id v h.1))
      (at_set s.views me id w v e)

  after : (s : State (Option T) (Role T)) (r : Kept s) (k me : ℕ) (old new : Spot T) (w : Role T) (words : List ℕ) (homes : List (maybe.Option (Option T))) → Steps s r k me old new w
      → words ≡ map word_of (set r.spots k new) → homes ≡ map home_of (set r.spots k new) → Kept (record { words = words; homes = homes; views = set s.views me w })
  after s r k me old new w words homes t words_are homes_are = record { spots = set r.spots k new; owner = r.owner; words = words_are; homes = homes_are; fits = all_fit s r k me old new w t }

  -- the word as it was found, where the slot looks the same
  word_stays : (s : State (Option T) (Role T)) (r : Kept s) (k : ℕ) (old new : Spot T) → get_elem? r.spots k ≡ some old → word_of old ≡ word_of new → set s.words k (get_or s.words k 0) ≡ map word_of (set r.spots k new)
  word_stays s r k old new here same = set-get_or s.words k 0 ∙ r.words ∙ sym (map_same word_of r.spots k new old here same)

  word_set : (s : State (Option T) (Role T)) (r : Kept s) (k : ℕ) (new : Spot T) → set s.words k (word_of new) ≡ map word_of (set r.spots k new)
  word_set s r k new = ap (λ (l : List ℕ). set l k (word_of new)) r.words ∙ sym (map-set word_of r.spots k new)

  home_set : (s : State (Option T) (Role T)) (r : Kept s) (k : ℕ) (new : Spot T) → set s.homes k (home_of new) ≡ map home_of (set r.spots k new)
  home_set s r k new = ap (λ (l : List (maybe.Option (Option T))). set l k (home_of new)) r.homes ∙ sym (map-set home_of r.spots k new)

  home_stays : (s : State (Option T) (Role T)) (r : Kept s) (k : ℕ) (old new : Spot T) → get_elem? r.spots k ≡ some old → home_of old ≡ home_of new → s.homes ≡ map home_of (set r.spots k new)
  home_stays s r k old new here same = r.homes ∙ sym (map_same home_of r.spots k new old here same)

  home_here : (s : State (Option T) (Role T)) (r : Kept s) (k : ℕ) (old : Spot T) → get_elem? r.spots k ≡ some old → get_elem? s.homes k ≡ some (home_of old)
  home_here s r k old here = ap (λ (l : List (maybe.Option (Option T))). get_elem? l k) r.homes ∙ at_map home_of r.spots k old here

  word_here : (s : State (Option T) (Role T)) (r : Kept s) (k : ℕ) (old : Spot T) → get_elem? r.spots k ≡ some old → get_or s.words k 0 ≡ word_of old
  word_here s r k old here = index_is s.words k (word_of old) (ap (λ (l : List ℕ). get_elem? l k) r.words ∙ at_map word_of r.spots k old here)

  set_there : (spots : Spots T) (k : ℕ) (old new : Spot T) → get_elem? spots k ≡ some old → get_elem? (set spots k new) k ≡ some new
  set_there spots k old new here = set_here spots k new (inside spots k old here)

  -- ---- a ticket's steps

  pub reaches : (n id at : ℕ) (x : T) → Allows Kept n id (Away at x, []) at (λ m. m) (reached (step n at 0 0 none) (Away at x, []))
  reaches n id at x = λ s r long seen small.
      let here : get_elem? r.spots at ≡ some (away id x) = r.fits id (Away at x) seen in
      let t : Steps s r at id (away id x) (moving id x) (Puts at x) = record {
        here = here;
        others = λ j ne. ne;
        same = λ j ne own. (refl, λ y e. let no : ⊥ = cc in no);
        mine = set_there r.spots at (away id x) (moving id x) here;
      } in (
        Puts at x,
        takes at None,
        home_here s r at (away id x) here,
        after s r at id (away id x) (moving id x) (Puts at x) _ _ t (word_stays s r at (away id x) (moving id x) here refl) (home_set s r at (moving id x)),
        λ y e. let same : x ≡ y = cc in ap (λ (y : T). (Puts at y, (at, None) ∷ [])) same,
      )

  pub puts : (n id at : ℕ) (x : T) → Allows Kept n id (Puts at x, (at, Some x) ∷ []) at (λ _. 1) (λ _. put_back (step n at 1 0 none) (Puts at x, (at, Some x) ∷ []) 1)
  puts n id at x = λ s r long seen small.
      let here : get_elem? r.spots at ≡ some (moving id x) = r.fits id (Puts at x) seen in
      let t : Steps s r at id (moving id x) (home x) (Gave at x) = record {
        here = here;
        others = λ j ne. ne;
        same = λ j ne own. (refl, λ y e. let no : ⊥ = cc in no);
        mine = tt;
      } in (
        Gave at x,
        gives,
        tt,
        after s r at id (moving id x) (home x) (Gave at x) _ _ t (word_set s r at (home x)) (home_set s r at (home x)),
        λ y e. let same : x ≡ y = cc in ap (λ (y : T). (Gave at y, [])) same,
      )

  -- ---- the owner's

  -- where nothing is away the slot is free
  idle_at : (a : Spot T) → value_at a ≡ None → a ≡ idle
  idle_at idle e = refl
  idle_at (away id x) e = absurd (let no : ⊥ = cc in no)
  idle_at (moving id x) e = absurd (let no : ⊥ = cc in no)
  idle_at (home x) e = absurd (let no : ⊥ = cc in no)
  idle_at (taken x) e = absurd (let no : ⊥ = cc in no)

  free_at : (spots : Spots T) (out : List (Option T)) (at : ℕ) → out ≡ map value_at spots → slice_get out at ≡ Some None → get_elem? spots at ≡ some idle
  free_at spots out at is none_out =
      let a = looked_at value_at spots at None (ap (λ (l : List (Option T)). get_elem? l at) (sym is) ∙ got out at None none_out) in
      a.1 ∙ ap some (idle_at a.0 a.2)

  pub announces : (n id at : ℕ) (out : List (Option T)) (looks : List (ℕ × Bool)) (x : T) → slice_get out at ≡ Some None
      → Allows Kept n id (Owns out looks, []) at (λ m. either (eqb m 0) 0 m) (announced (step n at 0 0 (some (Some x))) (Owns out looks, []))
  announces n id at out looks x none_out = λ s r long seen small.
      let f : OwnerFits r.spots r.owner id out (λ k. ⊥) = r.fits id (Owns out looks) seen in
      let here = free_at r.spots out at f.out_is none_out in
      let again : set r.spots at idle ≡ r.spots = set_again r.spots at idle here in
      let t : Steps s r at id idle idle (Sends out looks at x) = record {
        here = here;
        others = λ j ne own. ne (own ∙ sym f.owns);
        same = λ j ne own. (refl, λ y e. let no : ⊥ = cc in no);
        mine = (subst (λ (l : Spots T). OwnerFits l r.owner id out (λ k. ⊥)) (sym again) f, ap (λ (l : Spots T). get_elem? l at) again ∙ here);
      } in
      let m : ℕ = get_or s.words at 0 in
      let found : either (eqb m 0) 0 m ≡ m = exchanged m 0 0 (λ z. z ≡ m) (λ e. sym e) (λ ne. refl) in (
        Sends out looks at x,
        keeps,
        tt,
        after s r at id idle idle (Sends out looks at x) _ _ t (ap (λ (z : ℕ). set s.words at z) found ∙ word_stays s r at idle idle here refl) (home_stays s r at idle idle here refl),
        λ y e. let same : x ≡ y = cc in ap (λ (y : T). (Sends out looks at y, [])) same,
      )

  pub sends : (id at : ℕ) (out : List (Option T)) (looks : List (ℕ × Bool)) (x : T) → Splits Kept id (Sends out looks at x) (sent_out (Sends out looks at x)) (ticket_of (Sends out looks at x))
  sends id at out looks x = λ s r seen.
      let f : OwnerFits r.spots r.owner id out (λ k. ⊥) × (get_elem? r.spots at ≡ some idle) = r.fits id (Sends out looks at x) seen in
      let new : Spot T = away (length s.views) x in
      let left : Role T = Owns (set out at (Some x)) looks in
      let t : Steps s r at id idle new left = record {
        here = f.1;
        others = λ j ne own. ne (own ∙ sym f.0.owns);
        same = λ j ne own. absurd (ne (own ∙ sym f.0.owns));
        mine = record {
          owns = f.0.owns;
          out_is = ap (λ (l : List (Option T)). set l at (Some x)) f.0.out_is ∙ sym (map-set value_at r.spots at new);
          in_hand = λ j y e. ⊎_elim (λ h. let no : ⊥ = cc in no) (λ h. f.0.in_hand j y h.1) (at_set r.spots at j new (taken y) e);
        };
      } in
      record {
        spots = set r.spots at new;
        owner = r.owner;
        words = r.words ∙ sym (map_same word_of r.spots at new idle f.1 refl);
        homes = home_stays s r at idle new f.1 refl;
        fits = λ j v e. ⊎_elim
            (λ h. all_fit s r at id idle new left t j v h)
            (λ h. subst (λ (p : ℕ × Role T). Fits (set r.spots at new) r.owner p.0 p.1) (λ i. (sym (h.0 ∙ length-set s.views id left) i, h.1 i)) (set_there r.spots at idle new f.1))
            (at_end (set s.views id left) (Away at x) v j e);
      }

  pub looks : (n id at : ℕ) (out : List (Option T)) (seen_before : List (ℕ × Bool)) → at < n
      → Allows Kept n id (Owns out seen_before, []) at (λ m. m) (looked (step n at 0 0 none) (Owns out seen_before, []))
  looks n id at out before small_at = λ s r long seen small.
      let many : length s.homes ≡ length r.spots = ap (λ (l : List (maybe.Option (Option T))). length l) r.homes ∙ length-map r.spots home_of in
      let a = there r.spots at (omega (arith, small_at, long, many)) in
      by_spot s r (r.fits id (Owns out before) seen) seen a.0 a.1
    where
      now : Bool → List (ℕ × Bool)
      now seen = before ++ (at, seen) ∷ []

      Told : (s : State (Option T) (Role T)) → Type 0
      Told s = (w : Role T) × (a : Act (Option T)) × Valid s.homes [] a × Kept (stepped s at (get_or s.words at 0) id [] w a) × looked (step n at 0 0 none) (Owns out before, []) (get_or s.words at 0) (w, carried_after [] a)

      -- nothing came home
      none_home : (s : State (Option T) (Role T)) (r : Kept s) → OwnerFits r.spots r.owner id out (λ k. ⊥) → (a : Spot T) → get_elem? r.spots at ≡ some a → word_of a ≡ 0 → Told s
      none_home s r f a here zero_word =
          let again : set r.spots at a ≡ r.spots = set_again r.spots at a here in
          let fits : (j : ℕ) (v : Role T) → get_elem? (set s.views id (Owns out (now false))) j ≡ some v → Fits r.spots r.owner j v =
          λ j v e. ⊎_elim (λ h. subst (λ (p : ℕ × Role T). Fits r.spots r.owner p.0 p.1) (λ i. (sym h.0 i, h.1 i)) f) (λ h. r.fits j v h.1) (at_set s.views id j (Owns out (now false)) v e) in (
            Owns out (now false),
            keeps,
            tt,
            record { spots = r.spots; owner = r.owner; words = set-get_or s.words at 0 ∙ r.words; homes = r.homes; fits = fits },
            ((λ e. absurd (let z = word_here s r at a here in omega (arith, z, e, zero_word))), (λ ne. refl)),
          )

      by_spot : (s : State (Option T) (Role T)) (r : Kept s) → OwnerFits r.spots r.owner id out (λ k. ⊥) → get_elem? s.views id ≡ some (Owns out before) → (a : Spot T) → get_elem? r.spots at ≡ some a → Told s
      by_spot s r f seen idle here = none_home s r f idle here refl
      by_spot s r f seen (away j x) here = none_home s r f (away j x) here refl
      by_spot s r f seen (moving j x) here = none_home s r f (moving j x) here refl
      by_spot s r f seen (taken x) here = absurd (f.in_hand at x here)
      by_spot s r f seen (home x) here =
          let w : Role T = Takes out (now true) at in
          let t : Steps s r at id (home x) (taken x) w = record {
            here = here;
            others = λ j ne. tt;
            same = λ j ne own. absurd (ne (own ∙ sym f.owns));
            mine = (
              record {
                owns = f.owns;
                out_is = f.out_is ∙ sym (map_same value_at r.spots at (taken x) (home x) here refl);
                in_hand = λ j y e. ⊎_elim (λ h. h.0) (λ h. absurd (f.in_hand j y h.1)) (at_set r.spots at j (taken x) (taken y) e);
              },
              (x, set_there r.spots at (home x) (taken x) here),
            );
          } in
          let out_here : slice_get out at ≡ Some (Some x) = gets out at (Some x) (ap (λ (l : List (Option T)). get_elem? l at) f.out_is ∙ at_map value_at r.spots at (home x) here) in (
            w,
            takes at (Some x),
            home_here s r at (home x) here,
            after s r at id (home x) (taken x) w _ _ t (word_stays s r at (home x) (taken x) here refl) (home_set s r at (taken x)),
            ((λ e. (x, out_here, refl)), (λ ne. absurd (ne (word_here s r at (home x) here)))),
          )

  pub clears : (n id at : ℕ) (out : List (Option T)) (before : List (ℕ × Bool))
      → Allows Kept n id (Takes out before at, (at, None) ∷ []) at (λ _. 0) (λ _. cleared (step n at 0 0 none) (Takes out before at, (at, None) ∷ []) 0)
  clears n id at out before = λ s r long seen small.
      let f : OwnerFits r.spots r.owner id out (λ k. k ≡ at) × ((x : T) × (get_elem? r.spots at ≡ some (taken x))) = r.fits id (Takes out before at) seen in
      let x : T = f.1.0 in
      let w : Role T = Owns (set out at None) before in
      let t : Steps s r at id (taken x) idle w = record {
        here = f.1.1;
        others = λ j ne own. ne (own ∙ sym f.0.owns);
        same = λ j ne own. absurd (ne (own ∙ sym f.0.owns));
        mine = record {
          owns = f.0.owns;
          out_is = ap (λ (l : List (Option T)). set l at None) f.0.out_is ∙ sym (map-set value_at r.spots at idle);
          in_hand = λ j y e. ⊎_elim (λ h. let no : ⊥ = cc in no) (λ h. h.0 (f.0.in_hand j y h.1)) (at_set r.spots at j idle (taken y) e);
        };
      } in (
        w,
        gives,
        tt,
        after s r at id (taken x) idle w _ _ t (word_set s r at idle) (home_set s r at idle),
        refl,
      )

  -- ---- at first

  pub opens : (n : ℕ) (words : List ℕ) → words ≡ replicate n 0 → Kept {T = T} (opening words (replicate n None) (first_role n))
  opens n words are = record {
    spots = replicate n idle;
    owner = 0;
    words = are ∙ sym (map_all word_of n idle);
    homes = map_all some n None ∙ sym (map_all home_of n idle);
    fits = first_fits;
  }
    where
      own : OwnerFits {T = T} (replicate n idle) 0 0 (replicate n None) (λ k. ⊥)
      own = record { owns = refl; out_is = sym (map_all value_at n idle); in_hand = λ k x e. none_taken n k x e }
        where
          none_taken : (n k : ℕ) (x : T) → get_elem? (replicate n idle) k ≡ some (taken x) → ⊥
          none_taken zero k x e = some-ne-none (taken x) (sym e)
          none_taken (suc n) zero x e = let same = some-injective idle (taken x) e in let no : ⊥ = cc in no
          none_taken (suc n) (suc k) x e = none_taken n k x e

      first_fits : (id : ℕ) (v : Role T) → get_elem? (first_role n ∷ []) id ≡ some v → Fits (replicate n idle) 0 id v
      first_fits zero v e = subst (λ (v : Role T). Fits (replicate n idle) 0 0 v) (some-injective (first_role n) v e) own
      first_fits (suc id) v e = absurd (some-ne-none v (sym e))

  -- ---- what an end's seat is

  pub ticket_is : (v : Role T) → is_away v ≡ true → (x : T) × (v ≡ Away (slot_of v) x) × (value_of v ≡ Some x)
  ticket_is (Owns out before) e = absurd (false≢true e)
  ticket_is (Sends out before at x) e = absurd (false≢true e)
  ticket_is (Takes out before at) e = absurd (false≢true e)
  ticket_is (Away at x) e = (x, refl, refl)
  ticket_is (Puts at x) e = absurd (false≢true e)
  ticket_is (Gave at x) e = absurd (false≢true e)

  -- ---- what the ends' calls ask, of what their seats know

  pub reaches_at : (n id at : ℕ) (m : Seated T) → is_away m.0 ≡ true → m.1 ≡ [] → slot_of m.0 ≡ at → Allows Kept n id m at (λ w. w) (reached (step n at 0 0 none) m)
  reaches_at n id at m is empty slot =
      let t = ticket_is m.0 is in
      let known : m ≡ (Away at t.0, []) = λ i. ((t.1 ∙ ap (λ (p : ℕ). Away p t.0) slot) i, empty i) in
      subst (λ (m : Seated T). Allows Kept n id m at (λ w. w) (reached (step n at 0 0 none) m)) (sym known) (reaches n id at t.0)

  -- a ticket that has its slot in hand, with the value in it
  pub filled : (first second third : Seated T) (at : ℕ) (x : T) → second ≡ (Puts (slot_of first.0) x, (slot_of first.0, None) ∷ first.1) → first.1 ≡ [] → slot_of first.0 ≡ at
      → third ≡ (second.0, (at, Some x) ∷ rest second.1) → third ≡ (Puts at x, (at, Some x) ∷ [])
  filled first second third at x took empty slot wrote =
      wrote ∙ ap (λ (m : Seated T). (m.0, (at, Some x) ∷ rest m.1)) took ∙ (λ i. (Puts (slot i) x, (at, Some x) ∷ empty i))

  pub puts_at : (n id at : ℕ) (x : T) (m : Seated T) → m ≡ (Puts at x, (at, Some x) ∷ []) → Allows Kept n id m at (λ _. 1) (λ _. put_back (step n at 1 0 none) m 1)
  puts_at n id at x m known = subst (λ (m : Seated T). Allows Kept n id m at (λ _. 1) (λ _. put_back (step n at 1 0 none) m 1)) (sym known) (puts n id at x)

  pub announces_at : (n id at : ℕ) (x : T) (m : Seated T) → m ≡ (Owns (out_by m.0) (looks_by m.0), []) → slice_get (out_by m.0) at ≡ Some None
      → Allows Kept n id m at (λ w. either (eqb w 0) 0 w) (announced (step n at 0 0 (some (Some x))) m)
  announces_at n id at x m known idle_there =
      subst (λ (m : Seated T). Allows Kept n id m at (λ w. either (eqb w 0) 0 w) (announced (step n at 0 0 (some (Some x))) m)) (sym known) (announces n id at (out_by m.0) (looks_by m.0) x idle_there)

  pub sends_at : (id at : ℕ) (out : List (Option T)) (before : List (ℕ × Bool)) (x : T) (v : Role T) → v ≡ Sends out before at x → Splits Kept id v (sent_out v) (ticket_of v)
  sends_at id at out before x v known = subst (λ (v : Role T). Splits Kept id v (sent_out v) (ticket_of v)) (sym known) (sends id at out before x)

  pub looks_at : (n id at : ℕ) (m : Seated T) → m ≡ (Owns (out_by m.0) (looks_by m.0), []) → at < n → Allows Kept n id m at (λ w. w) (looked (step n at 0 0 none) m)
  looks_at n id at m known small = subst (λ (m : Seated T). Allows Kept n id m at (λ w. w) (looked (step n at 0 0 none) m)) (sym known) (looks n id at (out_by m.0) (looks_by m.0) small)

  pub clears_at : (n id at : ℕ) (out : List (Option T)) (before : List (ℕ × Bool)) (m : Seated T) → m ≡ (Takes out before at, (at, None) ∷ []) → Allows Kept n id m at (λ _. 0) (λ _. cleared (step n at 0 0 none) m 0)
  clears_at n id at out before m known = subst (λ (m : Seated T). Allows Kept n id m at (λ _. 0) (λ _. cleared (step n at 0 0 none) m 0)) (sym known) (clears n id at out before)

  -- the owner's seat once a value went out
  pub owner_sent : (first second third : Seated T) (at : ℕ) (x : T) → first ≡ (Owns (out_by first.0) (looks_by first.0), []) → second ≡ (Sends (out_by first.0) (looks_by first.0) at x, first.1)
      → third ≡ (sent_out second.0, second.1) → third ≡ (Owns (set (out_by first.0) at (Some x)) (looks_by first.0), [])
  owner_sent first second third at x rests said went =
      went ∙ ap (λ (m : Seated T). (sent_out m.0, m.1)) said ∙ (λ i. (Owns (set (out_by first.0) at (Some x)) (looks_by first.0), ap (λ (m : Seated T). m.1) rests i))

  pub rests_as : (m : Seated T) (out : List (Option T)) (before : List (ℕ × Bool)) → m ≡ (Owns out before, []) → m ≡ (Owns (out_by m.0) (looks_by m.0), [])
  rests_as m out before e = e ∙ sym (ap (λ (m : Seated T). (Owns (out_by m.0) (looks_by m.0), [])) e)

  -- as many slots as before
  pub sized_as : (m : Seated T) (out : List (Option T)) (before : List (ℕ × Bool)) (at : ℕ) (x : Option T) → m ≡ (Owns (set out at x) before, []) → length (out_by m.0) ≡ length out
  sized_as m out before at x e = ap (λ (m : Seated T). length (out_by m.0)) e ∙ length-set out at x

  -- a slot of which something is known is one of the slots
  pub is_slot : (out : List (Option T)) (at : ℕ) (x : Option T) → slice_get out at ≡ Some x → at < length out
  is_slot out at x e = inside out at x (got out at x e)

  -- the owner's seat with nothing in the slot that it has in hand
  pub emptied : (first second third : Seated T) (at : ℕ) (x : T) → first ≡ (Owns (out_by first.0) (looks_by first.0), []) → second ≡ (Takes (out_by first.0) (looks_by first.0 ++ (at, true) ∷ []) at, (at, Some x) ∷ first.1)
      → third ≡ (second.0, (at, None) ∷ rest second.1) → third ≡ (Takes (out_by first.0) (looks_by first.0 ++ (at, true) ∷ []) at, (at, None) ∷ [])
  emptied first second third at x rests found wrote =
      wrote ∙ ap (λ (m : Seated T). (m.0, (at, None) ∷ rest m.1)) found ∙ (λ i. (Takes (out_by first.0) (looks_by first.0 ++ (at, true) ∷ []) at, (at, None) ∷ ap (λ (m : Seated T). m.1) rests i))
