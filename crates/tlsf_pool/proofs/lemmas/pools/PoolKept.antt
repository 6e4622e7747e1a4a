-- A pool stays one through its calls.
use Rattle.tlsf_pool.proofs.Common.{◌≡◌, ◌≢◌, ℕ, ◌+◌, ◌-◌, ◌*◌, ◌<◌, ◌≤◌, List, [], max, Result, Ok, Err, refl, sym, ap, ◌∙◌, subst, arith, mul-le-mul_right, IsLevel, most_words, HeapState, want, fits, IsGrant, Call, Allocate, Release, Write, Allocated, Released, released, written, opened, Name, Refusal, NoFit, live_count, sure, IsMultiple, answered_fixed, fixed_words, held_after, IsModest, Bounds, IsPool, pool_allocated}
use Rattle.tlsf_heap.proofs.lemmas.blocks.Lawful.{opened_lawful}
use Rattle.tlsf_heap.proofs.lemmas.laws.NoFit.{no_fit_words}
use Rattle.tlsf_pool.proofs.lemmas.laws.FixedCalls.{InFixed, held_fixed, kept}
use Rattle.tlsf_pool.proofs.lemmas.laws.FixedSize.{finds_fixed, finds_sure, new_fixed, sure_again, sure_region}

-- a new pool
pub new_pool : (sli id most longest first : ℕ) (h : HeapState) → IsLevel sli → want longest ≤ most_words sli → h ≡ opened id (fixed_words sli most longest) first
    → IsPool sli h (record { most = most; longest = longest; held = 0 })
new_pool sli id most longest first h level class is =
    subst (λ (x : HeapState). IsPool sli x (record { most = most; longest = longest; held = 0 })) (sym is) (record {
      level = level;
      lawful = opened_lawful id (fixed_words sli most longest) first (omega arith);
      words = refl;
      class = class;
      live = refl;
      few = omega arith;
      fixed = new_fixed (sure sli (want longest)) id (fixed_words sli most longest) first;
    })

-- the words of one block or more are those of this many
pub whole_words : (s most words : ℕ) → 4 ≤ s → 0 < most → words ≡ max 4 (most * s) → IsMultiple s words
whole_words s most words four some is =
    (most, omega (arith, is, mul-le-mul_right s (next most some), four))
  where
    next : (n : ℕ) → 0 < n → 1 ≤ n
    next n h = omega (arith, h)

module _ (sli : ℕ) (h : HeapState) (p : Bounds) (is : IsPool sli h p) where
  abbrev s : ℕ
  s = sure sli (want p.longest)

  again : sure sli s ≡ s
  again = sure_again sli is.level (want p.longest) is.class

  pub four : 4 ≤ sure sli (want p.longest)
  four = (sure_region sli is.level s again).0

  in_pool : InFixed h.words s h
  in_pool = record { lawful = is.lawful; words_are = refl; fixed = is.fixed }

  enough : fixed_words sli p.most p.longest ≤ h.words
  enough = omega (arith, is.words)

  -- while fewer blocks are held than may be, a request finds room
  pub fits_pool : p.held < p.most → ¬ (fits sli (sure sli (want p.longest)) h.blocks ≡ [])
  fits_pool few = finds_fixed sli is.level s p.most h is.lawful is.fixed again (omega (arith, enough)) (omega (arith, is.live, few))

  pub room : (len : ℕ) → p.held < p.most → (pool_allocated sli h p len).answer ≢ Err NoFit
  room len few none = fits_pool few ((no_fit_words sli h s len).0 none)

  -- and the longest would be served
  pub granted : (grant : ℕ) → IsGrant sli h.blocks grant → p.held < p.most → p.longest ≤ grant
  granted grant served few = served.greatest p.longest (finds_sure sli is.level (want p.longest) s p.most h is.lawful is.fixed is.class refl (omega (arith, enough)) (omega (arith, is.live, few)))

  -- after a call within the bounds, with this many blocks held
  after : (call : Call) (held : ℕ) → IsModest p.most p.longest (live_count h) call → held_after (live_count h) call (answered_fixed sli s h call).0 ≡ held → held ≤ p.most
      → IsPool sli (answered_fixed sli s h call).1 (record p { held = held })
  after call held modest counts few =
      let left = kept sli is.level h.words p.most p.longest is.class enough h call in_pool modest in record {
        level = is.level;
        lawful = left.lawful;
        words = left.words_are ∙ is.words;
        class = is.class;
        live = held_fixed sli s h call ∙ counts;
        few = few;
        fixed = left.fixed;
      }

  -- after an allocate that gave a name
  pub given_pool : (len : ℕ) (name : Name) → len ≤ p.longest → p.held < p.most → Ok name ≡ (pool_allocated sli h p len).answer → IsPool sli (pool_allocated sli h p len).heap (record p { held = p.held + 1 })
  given_pool len name short few answer =
      after (Allocate len) (p.held + 1) (short, omega (arith, is.live, few))
      (ap (λ (r : Result Name Refusal). held_after (live_count h) (Allocate len) (Allocated r)) (sym answer) ∙ ap (λ (n : ℕ). n + 1) is.live) (omega (arith, few))

  -- after a release that was done
  pub taken_pool : (name : Name) → Ok tt ≡ (released h name).answer → IsPool sli (released h name).heap (record p { held = p.held - 1 })
  taken_pool name answer =
      after (Release name) (p.held - 1) tt
      (ap (λ (r : Result (Unit {0}) Refusal). held_after (live_count h) (Release name) (Released r)) (sym answer) ∙ ap (λ (n : ℕ). n - 1) is.live) (omega (arith, is.few))

  -- after a write, done or refused
  pub written_pool : (name : Name) (at : ℕ) (bytes : List ℕ) → IsPool sli (written h name at bytes).heap p
  written_pool name at bytes = after (Write name at bytes) p.held tt is.live is.few
