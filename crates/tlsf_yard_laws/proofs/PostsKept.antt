-- A take or a drain keeps the names.
use Rattle.tlsf_yard_laws.proofs.Common.{suc, [], ◌∷◌, ◌++◌, ◌≡◌, ℕ, ◌-◌, ◌<◌, List, Some, length, drop, sym, ◌∙◌, ap, arith, refl, inl, inr, subst, ◌⊎◌, slice_get, All-push, Post, Name, IsLive, released, Took, Entry, World, with_waiting, heap_in, took, DrainState, after_drain, IsNotStale, NoneStale, edited_same, edited_other, drain_by, cases_both}
use Rattle.tlsf_yard_laws.proofs.HeapNames.{released_known, released_id, released_stays}
use Rattle.tlsf_yard_laws.proofs.NamesKept.{IsKept, heap_kept}

-- post z of the lane from i to j is post k once the first post of the lane from `from` to `at` is taken
abbrev IsNext : (from at i j k z : ℕ) → Type 0
IsNext from at i j k z = ((i ≡ from) × (j ≡ at) × (z ≡ suc k)) ⊎ ((i ≡ from → j ≡ at → ⊥) × (z ≡ k))

seen_taken : {sli : ℕ} (w : World sli) (from at : ℕ) (p : Post) (rest : List Post) → w.waiting from at ≡ p ∷ rest → (i j k : ℕ) (q : Post)
    → slice_get ((with_waiting w from at rest).waiting i j) k ≡ Some q → (z : ℕ) × (slice_get (w.waiting i j) z ≡ Some q) × IsNext from at i j k z
seen_taken w from at p rest waits i j k q e =
    elim (cases_both i from j at) [
      | inl lane ↦
          let same : (with_waiting w from at rest).waiting i j ≡ rest = rw (lane.0, lane.1) (edited_same w.waiting from at rest) in
          let here : slice_get rest k ≡ Some q = sym (ap (λ l. slice_get l k) same) ∙ e in
          let there : slice_get (w.waiting i j) (suc k) ≡ Some q = rw (lane.0, lane.1, waits) here in
          (suc k, there, inl (lane.0, lane.1, refl))
      | inr away ↦ (k, sym (ap (λ l. slice_get l k) (edited_other w.waiting from at i j rest away)) ∙ e, inr (away, refl))
    ]

places : (i j x y from at k z s t : ℕ) → IsNext from at i j k s → IsNext from at x y z t → i ≡ x → j ≡ y → s ≡ t → k ≡ z
places i j x y from at k z s t a b ix jy st =
    elim a [
      | inl p ↦ elim b [ inl q ↦ omega (arith, p.2, q.2, st) | inr q ↦ absurd (q.0 (sym ix ∙ p.0) (sym jy ∙ p.1)) ]
      | inr p ↦ elim b [ inl q ↦ absurd (p.0 (ix ∙ q.0) (jy ∙ q.1)) | inr q ↦ omega (arith, p.1, q.1, st) ]
    ]

-- the first post of a lane is taken out
shift_kept : {sli : ℕ} (made gone : Name → Type 0) (w : World sli) (from at : ℕ) (p : Post) (rest : List Post) → w.waiting from at ≡ p ∷ rest
    → IsKept made gone w → IsKept made gone (with_waiting w from at rest)
shift_kept made gone w from at p rest waits kept = record {
  ids = kept.ids;
  live = kept.live;
  waits = λ i j k q e. let s = seen_taken w from at p rest waits i j k q e in kept.waits i j s.0 q s.1;
  once = λ i j k x y z a b e f same.
      let s = seen_taken w from at p rest waits i j k a e in
      let t = seen_taken w from at p rest waits x y z b f in
      let u = kept.once i j s.0 x y t.0 a b s.1 t.1 same in
      (u.0, u.1, places i j x y from at k z s.0 t.0 s.2 t.2 u.0 u.1 u.2);
}

-- and the block that it names is released
pub took_kept : {sli : ℕ} (made gone : Name → Type 0) (w : World sli) (at from : ℕ) (p : Post) (rest : List Post) → w.waiting from at ≡ p ∷ rest → IsKept made gone w
    → IsNotStale (took w at from p rest).reply × IsKept made gone (took w at from p rest).world
took_kept made gone w at from p rest waits kept =
    let v = with_waiting w from at rest in
    let first : slice_get (w.waiting from at) 0 ≡ Some p = rw waits refl in
    let own = kept.waits from at 0 p first in
    let at_in : at < length w.heaps = omega (arith, own.0, own.1.0) in
    let block : IsLive (heap_in w at) p.name = subst (λ (z : ℕ). IsLive (heap_in w z) p.name) own.0 own.1.1 in
    let apart : (i j k : ℕ) (q : Post) → slice_get (v.waiting i j) k ≡ Some q → q.name ≡ p.name → ⊥ =
    λ i j k q e same.
    let s = seen_taken w from at p rest waits i j k q e in
    let u = kept.once i j s.0 from at 0 q p s.1 first same in
    elim s.2 [ inl a ↦ omega (arith, a.2, u.2) | inr a ↦ a.0 u.0 u.1 ] in
    let known = released_known (heap_in w at) p.name block in (
      ((λ e. cc), λ t e stale. let same : ◌≡◌ {A = Took} (record { from = p.from; name = p.name; answer = (released (heap_in w at) p.name).answer }) t = cc in known (ap (λ (x : Took). x.answer) same ∙ stale)),
      heap_kept made gone (λ m. m ≡ p.name → ⊥) v at (released (heap_in w at) p.name).heap at_in (released_id (heap_in w at) p.name)
          (λ m other live. released_stays (heap_in w at) p.name m other live) (λ m a b e. b (subst gone (sym e) own.2)) apart
          (shift_kept made gone w from at p rest waits kept),
    )

-- ---- a drain

abbrev IsDrainKept : {sli : ℕ} (made gone : Name → Type 0) → DrainState sli → Type 0
IsDrainKept made gone d = IsKept made gone d.world × NoneStale d.entries

pub none_push : (es : List Entry) (e : Entry) → NoneStale es → IsNotStale e.reply → NoneStale (es ++ e ∷ [])
none_push es e none not = All-push (λ entry. IsNotStale entry.reply) es e none not

pub all_kept : {sli : ℕ} (made gone : Name → Type 0) (at most : ℕ) (d : DrainState sli) → IsDrainKept made gone d → IsDrainKept made gone (after_drain at most d)
all_kept made gone at most d k = drain_by (IsDrainKept made gone) at most d (λ from b p lt ne full kept.
    let t = took_kept made gone b.world at from p (drop 1 (b.world.waiting from at)) full kept.0 in
    (t.1, none_push b.entries _ kept.1 t.0)) k
