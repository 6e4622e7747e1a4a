-- The slots by which no block is away, while blocks go out and come home.
use Rattle.tlsf_pool_arena.proofs.Common.{◌≡◌, ◌≢◌, ◌↔◌, ℕ, zero, suc, ◌+◌, ◌-◌, ◌<◌, ◌≤◌, cond, List, [], ◌∷◌, ◌++◌, length, length-set, set, take, slice_get, slice_index_or, replicate, Option, Some, None, is_none, Result, IsErrOf, Err, refl, sym, ap, subst, ◌∙◌, ◌⊎◌, inl, inr, ⊎_elim, arith, PoolArenaState, Parcel, AreIdle, NoneLost, RemoteState, idle_slots}
use Rattle.std.specs.List.{range_with_len}
use Rattle.std.proofs.lemmas.List.FromFn.{length-range_with_len, map-range_with_len_more}
use Rattle.std.proofs.lemmas.List.Sums.{sum_by-cons, sum_by-set}
use Rattle.std.proofs.lemmas.Option.{slice_get-get_or, slice_get_within}
use Rattle.tlsf_pool.specs.declared.pools.pool_refusal.PoolRefusal.{PoolRefusal}
use Rattle.tlsf_pool.specs.declared.pools.pool_refusal.PoolRefusal.TheVariants.{Full}
use Rattle.tlsf_pool_arena.proofs.Lent.{got_set}
use Rattle.std.proofs.lemmas.List.{map-id, length-replicate, get_or-replicate, get_or-set_same, take_more_set}

pub next_range : (at : ℕ) → range_with_len 0 at ++ at ∷ [] ≡ range_with_len 0 (at + 1)
next_range at =
    ap (λ (l : List ℕ). l ++ at ∷ []) (sym (map-id (range_with_len 0 at))) ∙ sym (map-range_with_len_more (λ (j : ℕ). j) 0 at at (omega arith)) ∙ map-id (range_with_len 0 (at + 1))

got_range : (a n k at : ℕ) → slice_get (range_with_len a n) k ≡ Some at → at ≡ a + k
got_range a zero k at e = absurd (let no : ⊥ = cc in no)
got_range a (suc n) zero at e = let same : a ≡ at = cc in omega (arith, same)
got_range a (suc n) (suc k) at e = let h = got_range (a + 1) n k at e in omega (arith, h)

got_copy : {A : Type 0} (n k : ℕ) (a : A) → k < n → slice_get (replicate n a) k ≡ Some a
got_copy n k a lt = slice_get-get_or (replicate n a) k a (omega (arith, lt, length-replicate n a)) ∙ ap Some (get_or-replicate n k a a lt)

-- the entries up to one, with it
up_to : (l : List ℕ) (m at : ℕ) → slice_get l m ≡ Some at → take (suc m) l ≡ take m l ++ at ∷ []
up_to [] m at e = absurd (let no : ⊥ = cc in no)
up_to (x ∷ l) zero at e = let same : x ≡ at = cc in ap (λ (j : ℕ). j ∷ []) same
up_to (x ∷ l) (suc m) at e = ap (λ (l : List ℕ). x ∷ l) (up_to l m at e)

up_to_set : (l : List ℕ) (m at : ℕ) → m < length l → take (suc m) (set l m at) ≡ take m l ++ at ∷ []
up_to_set l m at lt = let next : suc m ≡ m + 1 = omega arith in ap (λ (j : ℕ). take j (set l m at)) next ∙ take_more_set l m at lt

-- an entry that was changed, or another
same_or_other : {A : Type 0} (l : List A) (at k : ℕ) (a : A) → (k ≡ at) ⊎ (slice_get (set l at a) k ≡ slice_get l k)
same_or_other [] at k a = inr refl
same_or_other (x ∷ l) zero zero a = inl refl
same_or_other (x ∷ l) zero (suc k) a = inr refl
same_or_other (x ∷ l) (suc at) zero a = inr refl
same_or_other (x ∷ l) (suc at) (suc k) a = ⊎_elim (λ e. inl (ap suc e)) (λ e. inr e) (same_or_other l at k a)

got_there : {A : Type 0} (l : List A) (at : ℕ) (a b : A) → slice_get l at ≡ Some a → slice_get (set l at b) at ≡ Some b
got_there l at a b e =
    let within = slice_get_within l at a e in slice_get-get_or (set l at b) at b (omega (arith, within, length-set l at b)) ∙ ap Some (get_or-set_same l at b b within)

-- how many slots are idle at first, once a block went out by one of them, and once it came home
fresh_slots : (u n : ℕ) → idle_slots {u = u} (replicate n None) ≡ n
fresh_slots u zero = refl
fresh_slots u (suc n) = sum_by-cons (λ (o : Option (Parcel u)). cond (is_none o) 1 0) None (replicate n None) ∙ (let rest = fresh_slots u n in omega (arith, rest))

module _ {u : ℕ} (away : List (Option (Parcel u))) (at : ℕ) (was now : Option (Parcel u)) (here : slice_get away at ≡ Some was) where
  changed_slots : idle_slots (set away at now) + cond (is_none was) 1 0 ≡ idle_slots away + cond (is_none now) 1 0
  changed_slots =
      let inside = slice_get_within away at was here in
      let same : Some (slice_index_or away at was) ≡ Some was = sym (slice_get-get_or away at was inside) ∙ here in
      let is : slice_index_or away at was ≡ was = cc in
      subst (λ (o : Option (Parcel u)). idle_slots (set away at now) + cond (is_none o) 1 0 ≡ idle_slots away + cond (is_none now) 1 0) is (sum_by-set (λ (o : Option (Parcel u)). cond (is_none o) 1 0) away at now was inside)

one_out : {u : ℕ} (away : List (Option (Parcel u))) (at : ℕ) (b : Parcel u) → slice_get away at ≡ Some None → suc (idle_slots (set away at (Some b))) ≡ idle_slots away
one_out away at b here = let e = changed_slots away at None (Some b) here in omega (arith, e)

one_back : {u : ℕ} (away : List (Option (Parcel u))) (at : ℕ) (b : Parcel u) → slice_get away at ≡ Some (Some b) → idle_slots (set away at None) ≡ suc (idle_slots away)
one_back away at b here = let e = changed_slots away at (Some b) None here in omega (arith, e)

-- how many are idle before one more is held, and that there is one
pub one_more_held : (count most held now : ℕ) → count ≡ most → now ≡ held + 1 → now ≤ most → (count - held ≡ suc (count - now)) × (count - now < count)
one_more_held count most held now same more few = (omega (arith, same, more, few), omega (arith, same, more, few))

-- and once one fewer is held, where there is room for it
pub one_fewer_held : (count most held now : ℕ) → count ≡ most → now + 1 ≡ held → held ≤ most → (count - now ≡ suc (count - held)) × (count - held < count)
one_fewer_held count most held now same fewer few = (omega (arith, same, fewer, few), omega (arith, same, fewer, few))

module _ {u : ℕ} where
  -- at first all slots are idle
  pub all_idle : (count n : ℕ) (idle : List ℕ) (away : List (Option (Parcel u))) → idle ≡ range_with_len 0 count → away ≡ replicate count None → n ≡ count → AreIdle u count n idle away
  all_idle count n idle away is none most = record {
    long = ap (λ (l : List ℕ). length l) is ∙ length-range_with_len 0 count;
    all = ap (λ (l : List (Option (Parcel u))). idle_slots l) none ∙ fresh_slots u count ∙ sym most;
    free = λ k at lt e.
        let slot = got_range 0 count k at (ap (λ (l : List ℕ). slice_get l k) (sym is) ∙ e) in
        ap (λ (l : List (Option (Parcel u))). slice_get l at) none ∙ got_copy count at None (omega (arith, slot, lt, most));
    apart = λ j k at lt_j lt_k at_j at_k.
        let second = got_range 0 count k at (ap (λ (l : List ℕ). slice_get l k) (sym is) ∙ at_k) in
        omega (arith, got_range 0 count j at (ap (λ (l : List ℕ). slice_get l j) (sym is) ∙ at_j), second);
  }

  -- equally many of them by another count
  pub as_many : (count n m : ℕ) (idle : List ℕ) (away : List (Option (Parcel u))) → n ≡ m → AreIdle u count n idle away → AreIdle u count m idle away
  as_many count n m idle away e is = subst (λ (k : ℕ). AreIdle u count k idle away) e is

  -- it is one of those that were opened
  pub is_there : (at : ℕ) (away : List (Option (Parcel u))) → slice_get away at ≡ Some None → at < length away
  is_there at away free = slice_get_within away at None free

  -- a block went out by the last of them
  pub last_lent : (count m : ℕ) (idle : List ℕ) (away now : List (Option (Parcel u))) (at : ℕ) (b : Parcel u) → AreIdle u count (suc m) idle away → slice_get idle m ≡ Some at → now ≡ set away at (Some b) → AreIdle u count m idle now
  last_lent count m idle away now at b is last now_is =
      record {
        long = is.long;
        all = ap (λ (l : List (Option (Parcel u))). idle_slots l) now_is ∙ (let one = one_out away at b (is.free m at (omega arith) last) in omega (arith, one, is.all));
        free = λ k x lt found.
            let before : slice_get away x ≡ Some None = is.free k x (omega (arith, lt)) found in
            let still : slice_get (set away at (Some b)) x ≡ Some None = ⊎_elim
            (λ same. absurd (let k_is = is.apart k m x (omega (arith, lt)) (omega arith) found (last ∙ ap Some (sym same)) in omega (arith, k_is, lt)))
            (λ other. other ∙ before)
            (same_or_other away at x (Some b)) in
            ap (λ (l : List (Option (Parcel u))). slice_get l x) now_is ∙ still;
        apart = λ j k x lt_j lt_k at_j at_k. is.apart j k x (omega (arith, lt_j)) (omega (arith, lt_k)) at_j at_k;
      }

  -- a block came home by a slot, which stands behind them from now on
  module _ (count n : ℕ) (idle next : List ℕ) (away now : List (Option (Parcel u))) (at : ℕ) (b : Parcel u) (is : AreIdle u count n idle away) (here : slice_get away at ≡ Some (Some b)) (next_is : next ≡ set idle n at) (now_is : now ≡ set away at None) where
    was_next : (k x : ℕ) → slice_get next k ≡ Some x → ((k ≡ n) × (at ≡ x)) ⊎ ((k ≢ n) × (slice_get idle k ≡ Some x))
    was_next k x e = got_set idle n k at x (ap (λ (l : List ℕ). slice_get l k) (sym next_is) ∙ e)

    below : (k : ℕ) → k < suc n → k ≢ n → k < n
    below k lt other = omega (arith, lt, other)

    not_here : (k : ℕ) → k < n → slice_get idle k ≡ Some at → ⊥
    not_here k lt e = let clash = sym (is.free k at lt e) ∙ here in let no : ⊥ = cc in no

    free_now : (k x : ℕ) → k < suc n → slice_get next k ≡ Some x → slice_get (set away at None) x ≡ Some None
    free_now k x lt e = ⊎_elim
        (λ t. subst (λ (x : ℕ). slice_get (set away at None) x ≡ Some None) t.1 (got_there away at (Some b) None here))
        (λ t. ⊎_elim
        (λ same. absurd (not_here k (below k lt t.0) (t.1 ∙ ap Some same)))
        (λ other. other ∙ is.free k x (below k lt t.0) t.1)
        (same_or_other away at x None))
        (was_next k x e)

    pub one_home : AreIdle u count (suc n) next now
    one_home = record {
      long = ap (λ (l : List ℕ). length l) next_is ∙ length-set idle n at ∙ is.long;
      all = ap (λ (l : List (Option (Parcel u))). idle_slots l) now_is ∙ one_back away at b here ∙ ap suc is.all;
      free = λ k x lt e. ap (λ (l : List (Option (Parcel u))). slice_get l x) now_is ∙ free_now k x lt e;
      apart = λ j k x lt_j lt_k at_j at_k. ⊎_elim
          (λ t. ⊎_elim (λ s. t.0 ∙ sym s.0) (λ s. absurd (not_here k (below k lt_k s.0) (s.1 ∙ ap Some (sym t.1)))) (was_next k x at_k))
          (λ t. ⊎_elim (λ s. absurd (not_here j (below j lt_j t.0) (t.1 ∙ ap Some (sym s.1)))) (λ s. is.apart j k x (below j lt_j t.0) (below k lt_k s.0) t.1 s.1) (was_next k x at_k))
          (was_next j x at_j);
    }

  -- one more is held, and went out by the slot that stands behind those that are idle from now on
  module _ (count most held more at : ℕ) (idle : List ℕ) (away : List (Option (Parcel u))) (is : AreIdle u count (count - held) idle away) (same : count ≡ most) (one : more ≡ held + 1) (few : more ≤ most) (at_is : slice_get idle (count - more) ≡ Some at) where
    before : AreIdle u count (suc (count - more)) idle away
    before = as_many count (count - held) (suc (count - more)) idle away (one_more_held count most held more same one few).0 is

    pub lent_from : slice_get away at ≡ Some None
    lent_from = before.free (count - more) at (omega arith) at_is

    pub lent_idle : (now : List (Option (Parcel u))) (b : Parcel u) → now ≡ set away at (Some b) → AreIdle u count (count - more) idle now
    lent_idle now b now_is = last_lent count (count - more) idle away now at b before at_is now_is

    -- they are those before it
    pub lent_last : take (count - held) idle ≡ take (count - more) idle ++ at ∷ []
    lent_last = ap (λ (j : ℕ). take j idle) (one_more_held count most held more same one few).0 ∙ up_to idle (count - more) at at_is

  -- one fewer is held, and came home
  pub home_idle : (count most held fewer at : ℕ) (idle next : List ℕ) (away now : List (Option (Parcel u))) (b : Parcel u) → AreIdle u count (count - held) idle away → count ≡ most → fewer + 1 ≡ held → held ≤ most → slice_get away at ≡ Some (Some b) → next ≡ set idle (count - held) at → now ≡ set away at None
      → AreIdle u count (count - fewer) next now
  home_idle count most held fewer at idle next away now b is same one few here next_is now_is =
      as_many count (suc (count - held)) (count - fewer) next now (sym (one_fewer_held count most held fewer same one few).0) (one_home count (count - held) idle next away now at b is here next_is now_is)

  -- it stands last of them
  pub home_last : (count most held fewer at : ℕ) (idle : List ℕ) (away : List (Option (Parcel u))) → AreIdle u count (count - held) idle away → count ≡ most → fewer + 1 ≡ held → held ≤ most
      → take (count - fewer) (set idle (count - held) at) ≡ take (count - held) idle ++ at ∷ []
  home_last count most held fewer at idle away is same one few =
      let one_less = one_fewer_held count most held fewer same one few in
      ap (λ (j : ℕ). take j (set idle (count - held) at)) one_less.0 ∙ up_to_set idle (count - held) at (omega (arith, one_less.1, is.long))

  -- no slot is lost
  pub kept_slots : (count most held : ℕ) (idle : List ℕ) (away : List (Option (Parcel u))) → AreIdle u count (count - held) idle away → count ≡ length away → count ≡ most → held ≤ count → (length away ≡ most) × (idle_slots away + held ≡ most)
  kept_slots count most held idle away is long same few = (sym long ∙ same, let all = is.all in omega (arith, all, same, few))

  pub none_lost : (r now : RemoteState u) (count : ℕ) (idle : List ℕ) → r ≡ now → AreIdle u count (count - r.arena.held) idle r.away → count ≡ length r.away → count ≡ r.arena.most → r.arena.held ≤ count → NoneLost now
  none_lost r now count idle view is long same few =
      subst (λ (r : RemoteState u). NoneLost r) view (let k = kept_slots count r.arena.most r.arena.held idle r.away is long same few in record { all = k.0; idle = k.1 })

  -- while fewer are held than may be, one is idle, and otherwise none is
  pub none_idle : (r : RemoteState u) → NoneLost r → (idle_slots r.away ≡ 0) ↔ (r.arena.held ≡ r.arena.most)
  none_idle r kept = let all = kept.idle in (λ none. omega (arith, all, none), λ full. omega (arith, all, full))

  pub full_is : {A B : Type 0} (a : Result A PoolRefusal) (b : Result B PoolRefusal) (arena : PoolArenaState) (r : RemoteState u) (len : ℕ) → arena ≡ r.arena → NoneLost r → (IsErrOf b Full ↔ ((len ≤ arena.longest) × (arena.held ≡ arena.most)))
      → (IsErrOf a Full → IsErrOf b Full) → (IsErrOf b Full → IsErrOf a Full) → IsErrOf a Full ↔ ((len ≤ r.arena.longest) × (idle_slots r.away ≡ 0))
  full_is a b arena r len same kept is there back =
      let full : IsErrOf b Full ↔ ((len ≤ r.arena.longest) × (r.arena.held ≡ r.arena.most)) = subst (λ (p : PoolArenaState). IsErrOf b Full ↔ ((len ≤ p.longest) × (p.held ≡ p.most))) same is in
      (λ yes. let t = full.0 (there yes) in (t.0, (none_idle r kept).1 t.1), λ t. back (full.1 (t.0, (none_idle r kept).0 t.1)))

  -- where the refusal is passed on
  pub full_err : {A B : Type 0} (a : Result A PoolRefusal) (b : Result B PoolRefusal) (passed why : PoolRefusal) (arena : PoolArenaState) (r : RemoteState u) (len : ℕ) → a ≡ Err passed → passed ≡ why → arena ≡ r.arena → NoneLost r
      → (IsErrOf b Full ↔ ((len ≤ arena.longest) × (arena.held ≡ arena.most))) → b ≡ Err why → IsErrOf a Full ↔ ((len ≤ r.arena.longest) × (idle_slots r.away ≡ 0))
  full_err a b passed why arena r len is passes same kept given other = full_is a b arena r len same kept given (λ yes. cc) (λ yes. cc)
