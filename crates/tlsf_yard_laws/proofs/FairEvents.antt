-- A fair event is not answered Stale, and keeps the names.
use Rattle.tlsf_yard_laws.proofs.Common.{suc, zero, [], ◌∷◌, ◌++◌, ◌≡◌, ◌≢◌, ℕ, ◌<◌, List, Option, Some, None, Result, Ok, Err, length, sym, ◌∙◌, ap, arith, refl, inl, inr, subst, ◌⊎◌, ⊤, Contains, slice_index_or, Contains-append_cases, HeapState, IsLive, Name, Refusal, Stale, allocated, released, Freed, Posted, Refused, CrewRefusal, Heap, Full, World, WorldReply, Replayed, with_heap, with_waiting, heap_in, made_by, reply_made, reply_freed, releasing, posting, IsNotStale, some_same, posting_by, releasing_by}
use Rattle.tlsf_yard_laws.proofs.HeapNames.{allocated_known, allocated_id, allocated_stays, allocated_new, released_known, released_id, released_stays, refused_stays}
use Rattle.tlsf_yard_laws.proofs.NamesKept.{IsKept, kept_by, heap_kept, more_kept, live_here, posted_kept}

-- the names that events so far made
abbrev pub IsMade : List (Option Name) → Name → Type 0
IsMade names name = Contains names (Some name)

only_one : (x y : Option Name) (k : ℕ) → k < 1 → slice_index_or (x ∷ []) k y ≡ y → x ≡ y
only_one x y zero lt e = e
only_one x y (suc k) lt e = absurd (omega (arith, lt))

made_push : (names : List (Option Name)) (x : Option Name) (n : Name) → IsMade (names ++ x ∷ []) n → IsMade names n ⊎ (x ≡ Some n)
made_push names x n has = elim (Contains-append_cases names (x ∷ []) (Some n) has) [ inl a ↦ inl a | inr b ↦ inr (only_one x (Some n) b.0 b.1 b.2) ]

module _ {sli : ℕ} (r : Replayed sli) (gone gone2 : Name → Type 0) (more : (n : Name) → gone n → gone2 n) where
  abbrev pub Before : Type 0
  Before = IsKept (IsMade r.made) gone r.world

  -- one answer more
  abbrev pub After : WorldReply sli → Type 0
  After x = IsKept (IsMade (r.made ++ made_by x.reply ∷ [])) gone2 x.world × IsNotStale x.reply

  -- with no name more
  pub same_made : (w : World sli) → IsKept (IsMade r.made) gone2 w → IsKept (IsMade (r.made ++ None ∷ [])) gone2 w
  same_made w kept = kept_by (IsMade r.made) (IsMade (r.made ++ None ∷ [])) gone2 gone2 w
      (λ n a. elim (made_push r.made None n a) [ inl b ↦ b | inr b ↦ cc ]) (λ n g. g) kept

  pub more_gone : (w : World sli) → IsKept (IsMade r.made) gone w → IsKept (IsMade r.made) gone2 w
  more_gone w kept = kept_by (IsMade r.made) (IsMade r.made) gone gone2 w (λ n a. a) more kept

  -- nothing done
  pub idle : Before → IsKept (IsMade (r.made ++ None ∷ [])) gone2 r.world
  idle kept = same_made r.world (more_gone r.world kept)

  pub refused_kept : (why : CrewRefusal) → why ≢ Heap Stale → Before → After (record { reply = Refused why; world = r.world })
  refused_kept why not kept = (idle kept, (λ e. not cc, λ t e. cc))

  -- every name stays live
  pub stays_kept : (at : ℕ) (h : HeapState) → at < length r.world.heaps → h.id ≡ (heap_in r.world at).id → ((m : Name) → IsLive (heap_in r.world at) m → IsLive h m)
      → Before → IsKept (IsMade r.made) gone2 (with_heap r.world at h)
  stays_kept at h at_in same stays kept =
      heap_kept (IsMade r.made) gone2 (λ m. ⊤) r.world at h at_in same (λ m _ live. stays m live) (λ m a b. tt) (λ i j k p e. tt) (more_gone r.world kept)

  pub allocate_kept : (at len : ℕ) → at < length r.world.heaps → Before → (answer : Result Name Refusal) → (allocated sli (heap_in r.world at) len).answer ≡ answer
      → After (record { reply = reply_made answer; world = with_heap r.world at (allocated sli (heap_in r.world at) len).heap })
  allocate_kept at len at_in kept (Ok n) e =
      let h = heap_in r.world at in
      let g = (allocated sli h len).heap in
      let v = with_heap r.world at g in
      let live = allocated_new sli h len n e in
      let here : n.heap ≡ at = live.0 ∙ (allocated_id sli h len ∙ kept.ids at at_in) in
      let all = stays_kept at g at_in (allocated_id sli h len) (λ m l. allocated_stays sli h len m l) kept in
      let new = more_kept (IsMade r.made) gone2 v n (live_here r.world at g n at_in here live) all in (
        kept_by (λ m. (m ≡ n) ⊎ IsMade r.made m) (IsMade (r.made ++ Some n ∷ [])) gone2 gone2 v
            (λ m a. elim (made_push r.made (Some n) m a) [ inl b ↦ inr b | inr b ↦ inl (sym (some_same n m b)) ]) (λ m x. x) new,
        (λ f. cc, λ t f. cc),
      )
  allocate_kept at len at_in kept (Err why) e =
      let h = heap_in r.world at in
      let g = (allocated sli h len).heap in (
        same_made (with_heap r.world at g) (stays_kept at g at_in (allocated_id sli h len) (λ m l. allocated_stays sli h len m l) kept),
        (λ f. allocated_known sli h len (e ∙ (let same : why ≡ Stale = cc in ap Err same)), λ t f. cc),
      )

  -- a release of an own name
  free_kept : (at : ℕ) (n : Name) → at < length r.world.heaps → n.heap ≡ at → IsMade r.made n → ¬ (gone n) → Before
      → (answer : Result (Unit {0}) Refusal) → (released (heap_in r.world at) n).answer ≡ answer → (reply_freed answer ≡ Freed → gone2 n)
      → After (record { reply = reply_freed answer; world = with_heap r.world at (released (heap_in r.world at) n).heap })
  free_kept at n at_in here mine fresh kept (Ok done) e now =
      let h = heap_in r.world at in
      let g = (released h n).heap in (
        same_made (with_heap r.world at g) (heap_kept (IsMade r.made) gone2 (λ m. m ≡ n → ⊥) r.world at g at_in (released_id h n)
            (λ m other live. released_stays h n m other live) (λ m a b f. b (subst gone2 (sym f) (now refl)))
            (λ i j k p f same. fresh (subst gone same (kept.waits i j k p f).2)) (more_gone r.world kept)),
        (λ f. cc, λ t f. cc),
      )
  free_kept at n at_in here mine fresh kept (Err why) e now =
      let h = heap_in r.world at in
      let g = (released h n).heap in
      let live : IsLive h n = subst (λ (z : ℕ). IsLive (heap_in r.world z) n) here (kept.live n mine fresh).1 in (
        same_made (with_heap r.world at g) (stays_kept at g at_in (released_id h n) (λ m l. refused_stays h n m why e l) kept),
        (λ f. released_known h n live (e ∙ (let same : why ≡ Stale = cc in ap Err same)), λ t f. cc),
      )

  post_kept : (at : ℕ) (n : Name) → IsMade r.made n → ¬ (gone n) → Before → ((posting r.world at n).reply ≡ Posted → gone2 n) → After (posting r.world at n)
  post_kept at n mine fresh kept = posting_by (λ x. (x.reply ≡ Posted → gone2 n) → After x) r.world at n (λ full now. refused_kept (Full n) (λ f. cc) kept) (λ room now. (
    same_made (with_waiting r.world at n.heap (r.world.waiting at n.heap ++ record { from = at; name = n } ∷ []))
        (posted_kept (IsMade r.made) gone gone2 r.world at n mine fresh more (now refl) kept),
    (λ f. cc, λ t f. cc),
  ))

  pub release_kept : (at : ℕ) (n : Name) → at < length r.world.heaps → IsMade r.made n → ¬ (gone n) → Before
      → (((releasing r.world at n).reply ≡ Freed) ⊎ ((releasing r.world at n).reply ≡ Posted) → gone2 n) → After (releasing r.world at n)
  release_kept at n at_in mine fresh kept = releasing_by (λ x. ((x.reply ≡ Freed) ⊎ (x.reply ≡ Posted) → gone2 n) → After x) r.world at n
      (λ own now. free_kept at n at_in own mine fresh kept (released (heap_in r.world at) n).answer refl (λ f. now (inl f))) (λ ne lt now. post_kept at n mine fresh kept (λ f. now (inr f)))
      (λ ne ge. let near = (kept.live n mine fresh).0 in absurd (omega arith))
