-- Names stay live while they are not gone, and each that waits is gone.
use Rattle.tlsf_yard_laws.proofs.Common.{[], ◌∷◌, ◌++◌, ◌≡◌, ◌≢◌, ℕ, ◌<◌, Some, length, sym, ◌∙◌, ap, arith, inl, inr, subst, ◌⊎◌, slice_get, cases_eq, length-set, get_or-set_same, get_or-set_other, Post, Name, HeapState, IsLive, World, with_waiting, with_heap, heap_in, no_heap, HasIds, IsLiveIn, at_push, edited_same, edited_other, cases_both}

-- of the names made so far all are live but those that are gone. A name that waits is gone, but live still, and waits once
pub record IsKept {sli : ℕ} (made gone : Name → Type 0) (w : World sli) : Type 0 where
  pub ids : HasIds w
  pub live : (n : Name) → made n → ¬ (gone n) → IsLiveIn w n
  pub waits : (i j k : ℕ) (p : Post) → slice_get (w.waiting i j) k ≡ Some p → (p.name.heap ≡ j) × IsLiveIn w p.name × gone p.name
  pub once : (i j k x y z : ℕ) (p q : Post) → slice_get (w.waiting i j) k ≡ Some p → slice_get (w.waiting x y) z ≡ Some q → p.name ≡ q.name → (i ≡ x) × (j ≡ y) × (k ≡ z)

-- fewer names may be made, and more gone
pub kept_by : {sli : ℕ} (made made2 gone gone2 : Name → Type 0) (w : World sli) → ((n : Name) → made2 n → made n) → ((n : Name) → gone n → gone2 n)
    → IsKept made gone w → IsKept made2 gone2 w
kept_by made made2 gone gone2 w fewer more kept = record {
  ids = kept.ids;
  live = λ n a b. kept.live n (fewer n a) (λ g. b (more n g));
  waits = λ i j k p e. let o = kept.waits i j k p e in (o.0, o.1, more p.name o.2);
  once = kept.once;
}

-- ---- one heap becomes another

with_heap_in : {sli : ℕ} (w : World sli) (at : ℕ) (h : HeapState) → at < length w.heaps → heap_in (with_heap w at h) at ≡ h
with_heap_in w at h at_in = get_or-set_same w.heaps at h no_heap at_in

heap_other : {sli : ℕ} (w : World sli) (at j : ℕ) (h : HeapState) → j ≢ at → heap_in (with_heap w at h) j ≡ heap_in w j
heap_other w at j h ne = get_or-set_other w.heaps at j h no_heap ne

-- a name that is live in the new heap, where it was in the old, is so in the world
live_after : {sli : ℕ} (w : World sli) (at : ℕ) (h : HeapState) (m : Name) → at < length w.heaps → (IsLive (heap_in w at) m → IsLive h m) → IsLiveIn w m → IsLiveIn (with_heap w at h) m
live_after w at h m at_in stays live =
    let v = with_heap w at h in
    let within : m.heap < length v.heaps = omega (arith, length-set w.heaps at h, live.0) in
    elim (cases_eq m.heap at) [
      | inl e ↦
          let was : IsLive (heap_in w at) m = subst (λ (z : ℕ). IsLive (heap_in w z) m) e live.1 in
          (within, subst (λ (z : HeapState). IsLive z m) (sym (ap (heap_in v) e ∙ with_heap_in w at h at_in)) (stays was))
      | inr e ↦ (within, subst (λ (z : HeapState). IsLive z m) (sym (heap_other w at m.heap h e)) live.1)
    ]

ids_after : {sli : ℕ} (w : World sli) (at : ℕ) (h : HeapState) → at < length w.heaps → h.id ≡ (heap_in w at).id → HasIds w → HasIds (with_heap w at h)
ids_after w at h at_in same ids j j_in =
    let v = with_heap w at h in
    let j_was : j < length w.heaps = omega (arith, length-set w.heaps at h, j_in) in
    elim (cases_eq j at) [
      | inl e ↦ ap (λ z. (heap_in v z).id) e ∙ (ap (λ z. z.id) (with_heap_in w at h at_in) ∙ (same ∙ (ids at at_in ∙ sym e)))
      | inr e ↦ ap (λ z. z.id) (heap_other w at j h e) ∙ ids j j_was
    ]

-- the heap keeps these names live; each that waits or isn't gone is one of them
pub heap_kept : {sli : ℕ} (made gone keeps : Name → Type 0) (w : World sli) (at : ℕ) (h : HeapState) → at < length w.heaps → h.id ≡ (heap_in w at).id
    → ((m : Name) → keeps m → IsLive (heap_in w at) m → IsLive h m) → ((m : Name) → made m → ¬ (gone m) → keeps m)
    → ((i j k : ℕ) (p : Post) → slice_get (w.waiting i j) k ≡ Some p → keeps p.name) → IsKept made gone w → IsKept made gone (with_heap w at h)
heap_kept made gone keeps w at h at_in same stays if_live if_waits kept = record {
  ids = ids_after w at h at_in same kept.ids;
  live = λ m a b. live_after w at h m at_in (stays m (if_live m a b)) (kept.live m a b);
  waits = λ i j k p e. let o = kept.waits i j k p e in (o.0, live_after w at h p.name at_in (stays p.name (if_waits i j k p e)) o.1, o.2);
  once = kept.once;
}

-- a live name more
pub more_kept : {sli : ℕ} (made gone : Name → Type 0) (w : World sli) (n : Name) → IsLiveIn w n → IsKept made gone w → IsKept (λ m. (m ≡ n) ⊎ made m) gone w
more_kept made gone w n new kept = record {
  ids = kept.ids;
  live = λ m a b. elim a [ inl e ↦ subst (IsLiveIn w) (sym e) new | inr c ↦ kept.live m c b ];
  waits = kept.waits;
  once = kept.once;
}

pub live_here : {sli : ℕ} (w : World sli) (at : ℕ) (h : HeapState) (n : Name) → at < length w.heaps → n.heap ≡ at → IsLive h n → IsLiveIn (with_heap w at h) n
live_here w at h n at_in here live =
    (omega (arith, length-set w.heaps at h), subst (λ (z : HeapState). IsLive z n) (sym (ap (heap_in (with_heap w at h)) here ∙ with_heap_in w at h at_in)) live)

-- ---- a post more

seen_pushed : {sli : ℕ} (w : World sli) (at to : ℕ) (x : Post) (i j k : ℕ) (p : Post) → slice_get ((with_waiting w at to (w.waiting at to ++ x ∷ [])).waiting i j) k ≡ Some p
    → (slice_get (w.waiting i j) k ≡ Some p) ⊎ ((i ≡ at) × (j ≡ to) × (k ≡ length (w.waiting at to)) × (p ≡ x))
seen_pushed w at to x i j k p e =
    let all = w.waiting at to ++ x ∷ [] in
    elim (cases_both i at j to) [
      | inl lane ↦
          let same : (with_waiting w at to all).waiting i j ≡ all = rw (lane.0, lane.1) (edited_same w.waiting at to all) in
          elim (at_push (w.waiting at to) x k p (sym (ap (λ l. slice_get l k) same) ∙ e)) [
            | inl g ↦ inl (rw (lane.0, lane.1) g)
            | inr g ↦ inr (lane.0, lane.1, g.0, sym g.1)
          ]
      | inr away ↦ inl (sym (ap (λ l. slice_get l k) (edited_other w.waiting at to i j all away)) ∙ e)
    ]

-- a name that is not gone is posted, and then is
pub posted_kept : {sli : ℕ} (made gone gone2 : Name → Type 0) (w : World sli) (at : ℕ) (n : Name) → made n → ¬ (gone n) → ((m : Name) → gone m → gone2 m) → gone2 n
    → IsKept made gone w → IsKept made gone2 (with_waiting w at n.heap (w.waiting at n.heap ++ record { from = at; name = n } ∷ []))
posted_kept made gone gone2 w at n mine fresh more now kept =
    let x : Post = record { from = at; name = n } in
    let old_list = w.waiting at n.heap in
    let v = with_waiting w at n.heap (old_list ++ x ∷ []) in
    let seen : (i j k : ℕ) (p : Post) → slice_get (v.waiting i j) k ≡ Some p → (slice_get (w.waiting i j) k ≡ Some p) ⊎ ((i ≡ at) × (j ≡ n.heap) × (k ≡ length old_list) × (p ≡ x)) =
    λ i j k p e. seen_pushed w at n.heap x i j k p e in
    record {
      ids = kept.ids;
      live = λ m a b. kept.live m a (λ g. b (more m g));
      waits = λ i j k p e. elim (seen i j k p e) [
        | inl a ↦ let o = kept.waits i j k p a in (o.0, o.1, more p.name o.2)
        | inr a ↦
            let same : p.name ≡ n = ap (λ z. z.name) a.3 in
            (ap (λ z. z.heap) same ∙ sym a.1, subst (IsLiveIn w) (sym same) (kept.live n mine fresh), subst gone2 (sym same) now)
      ];
      once = λ i j k y z t p q e f same. elim (seen i j k p e) [
        | inl a ↦ elim (seen y z t q f) [
          | inl b ↦ kept.once i j k y z t p q a b same
          | inr b ↦ absurd (fresh (subst gone (same ∙ ap (λ z. z.name) b.3) (kept.waits i j k p a).2))
        ]
        | inr a ↦ elim (seen y z t q f) [
          | inl b ↦ absurd (fresh (subst gone (sym same ∙ ap (λ z. z.name) a.3) (kept.waits y z t q b).2))
          | inr b ↦ (a.0 ∙ sym b.0, a.1 ∙ sym b.1, a.2 ∙ sym b.2)
        ]
      ];
    }
