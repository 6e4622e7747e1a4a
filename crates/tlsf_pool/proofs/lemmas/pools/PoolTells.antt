-- The facts that the answers of a pool tell, and those that all answers within bounds do.
use Rattle.tlsf_pool.proofs.Common.{◌≡◌, ℕ, ◌-◌, ◌<◌, ◌≤◌, ◌↔◌, [], cond, Result, Ok, Err, IfOk, IsErrOf, IsOk, refl, sym, subst, arith, nat_lt, nat_le, false≢true, nat_tests, HeapState, allocated_words, fits, last_tick, named, payload_words_at, payload_words_given, want, Name, Refusal, PoolRefusal, TooLong, Full, sure, Bounds, IsPool, TellsBounds, answered_within, or_worn, pool_allocated}
use Rattle.tlsf_heap.proofs.lemmas.laws.NoFit.{ok_words}
use Rattle.tlsf_pool.proofs.lemmas.pools.Given.{given_whole}
use Rattle.tlsf_pool.proofs.lemmas.pools.PoolKept.{fits_pool, four, given_pool, room, whole_words}
use Rattle.tlsf_pool.proofs.lemmas.laws.Refits.{whether}

-- a request that is too long (L), or one too many (F), or has a place (P) is answered by which it is. It takes this many words
pub record Answers (sli : ℕ) (h : HeapState) (words len : ℕ) (L F P : Type 0) (answer : Result Name PoolRefusal) : Type 0 where
  pub ok : IsOk answer ↔ (P × ¬ (h.tick ≡ last_tick))
  pub too_long : IsErrOf answer TooLong ↔ L
  pub full : IsErrOf answer Full ↔ F
  pub given : payload_words_given answer (allocated_words sli h words len).heap ≤ words - 3
  pub name : IfOk answer (λ name. (allocated_words sli h words len).answer ≡ Ok name)

module _ {L F P : Type 0} (sli : ℕ) (h : HeapState) (words len : ℕ) where
  pub tells_long : L → ¬ F → ¬ P → Answers sli h words len L F P (Err TooLong)
  tells_long l f p = record {
    ok = (λ e. absurd (false≢true e), λ b. absurd (p b.0));
    too_long = (λ e. l, λ b. refl);
    full = (λ e. absurd (let no : ⊥ = cc in no), λ b. absurd (f b));
    given = omega arith;
    name = tt;
  }

  pub tells_full : ¬ L → F → ¬ P → Answers sli h words len L F P (Err Full)
  tells_full l f p = record {
    ok = (λ e. absurd (false≢true e), λ b. absurd (p b.0));
    too_long = (λ e. absurd (let no : ⊥ = cc in no), λ b. absurd (l b));
    full = (λ e. f, λ b. refl);
    given = omega arith;
    name = tt;
  }

  pub tells_served : ¬ L → ¬ F → P → ¬ (fits sli words h.blocks ≡ []) → ((name : Name) → Ok name ≡ (allocated_words sli h words len).answer → payload_words_at (named name (allocated_words sli h words len).heap.blocks) ≤ words - 3)
      → (a : Result Name Refusal) → (allocated_words sli h words len).answer ≡ a → Answers sli h words len L F P (or_worn a)
  tells_served l f p some few (Ok name) e = record {
    ok = (λ o. (p, ((ok_words sli h words len).0 (rw e refl)).1), λ b. refl);
    too_long = (λ e. absurd (let no : ⊥ = cc in no), λ b. absurd (l b));
    full = (λ e. absurd (let no : ⊥ = cc in no), λ b. absurd (f b));
    given = few name (sym e);
    name = e;
  }
  tells_served l f p some few (Err why) e = record {
    ok = (λ o. absurd (false≢true o), λ b. absurd (false≢true (subst (λ (a : Result Name Refusal). IsOk a) e ((ok_words sli h words len).1 (some, b.1)))));
    too_long = (λ e. absurd (let no : ⊥ = cc in no), λ b. absurd (l b));
    full = (λ e. absurd (let no : ⊥ = cc in no), λ b. absurd (f b));
    given = omega arith;
    name = tt;
  }

module _ (sli : ℕ) (h : HeapState) (p : Bounds) (len : ℕ) (is : IsPool sli h p) where
  abbrev s : ℕ
  s = sure sli (want p.longest)

  abbrev Tells : Result Name PoolRefusal → Type 0
  Tells answer = TellsBounds sli h p len answer

  told : (answer : Result Name PoolRefusal) → Answers sli h s len (p.longest < len) ((len ≤ p.longest) × (p.held ≡ p.most)) ((len ≤ p.longest) × (p.held < p.most)) answer → Tells answer
  told answer a = record {
    ok = (λ o. let b = a.ok.0 o in (b.0.0, b.0.1, b.1), λ b. a.ok.1 ((b.0, b.1), b.2));
    too_long = a.too_long;
    full = a.full;
    room = λ short few. room sli h p is len few;
    given = a.given;
    name = a.name;
  }

  few_words : len ≤ p.longest → p.held < p.most → (name : Name) → Ok name ≡ (pool_allocated sli h p len).answer → payload_words_at (named name (pool_allocated sli h p len).heap.blocks) ≤ s - 3
  few_words short few name answer =
      let given = given_pool sli h p is len name short few answer in
      given_whole s name (pool_allocated sli h p len).heap (four sli h p is) given.lawful given.fixed (whole_words s p.most _ (four sli h p is) (omega (arith, few)) given.words)

  pub bounds_tell : Tells (answered_within p len (pool_allocated sli h p len).answer)
  bounds_tell = whether Tells (nat_lt p.longest len) (Err TooLong) (cond (nat_le p.most p.held) (Err Full) (or_worn (pool_allocated sli h p len).answer)) (λ t.
      let more : p.longest < len = grind (arith, nat_tests, t) in
      told (Err TooLong) (tells_long sli h s len more (λ b. omega (arith, more, b.0)) (λ b. omega (arith, more, b.0)))) (λ s'.
      let short : len ≤ p.longest = grind (arith, nat_tests, s') in
      whether Tells (nat_le p.most p.held) (Err Full) (or_worn (pool_allocated sli h p len).answer) (λ t.
      let all : p.most ≤ p.held = grind (arith, nat_tests, t) in
      told (Err Full) (tells_full sli h s len (λ l. omega (arith, short, l)) (short, omega (arith, all, is.few)) (λ b. omega (arith, all, b.1)))) (λ f.
      let few : p.held < p.most = grind (arith, nat_tests, f) in
      told (or_worn (pool_allocated sli h p len).answer) (tells_served sli h s len (λ l. omega (arith, short, l)) (λ b. omega (arith, few, b.1)) (short, few) (fits_pool sli h p is few) (few_words short few) (pool_allocated sli h p len).answer refl)))
