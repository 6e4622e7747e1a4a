-- The effects of the calls of an arena, by those on its heap.
use Rattle.tlsf_arena.proofs.Common.{◌≡◌, ◌≢◌, ℕ, true, List, Result, Ok, sym, ap, subst, ◌∙◌, OnErr, HeapState, IsLawful, Name, Refusal, ArenaState, Holds, SameArena, SameHome, Loan, IsBook, is_out, name_of, units_of, lacking, released, resized_words, units_for}
use Rattle.tlsf_arena.specs.Arenas.{refitted}
use Rattle.tlsf_arena.specs.Effects.{OnBlock, Releases, Resizes}
use Rattle.tlsf_arena.proofs.Holding.{stays_released, stays_resized}

-- ---- an accepted call, whose block the book has: before it the arena's heap, which was so, is h

module _ (old new : ArenaState) {was h : HeapState} (out : List Loan) (t : Loan) {name : Name} (value : h ≡ was) (view : was ≡ old.heap) (book : IsBook out was) (there : is_out out t ≡ true) (own : name_of t ≡ name) (home : SameHome old new)
    (lawful : IsLawful new.heap) where
  same : h ≡ old.heap
  same = value ∙ view

  done : ((other : Name) (units : ℕ) → other ≢ name → Holds old.heap other units → Holds new.heap other units) → OnBlock old new name (units_of t) (Ok tt)
  done others = record {
    live = subst (λ (p : HeapState × Name). Holds p.0 p.1 (units_of t)) (λ i. (view i, own i)) (book t there);
    unchanged = tt;
    lawful = lawful;
    others = others;
    home = home;
  }

  pub releases_done : Ok tt ≡ (released h name).answer → new.heap ≡ (released h name).heap → Releases old new name (units_of t) (Ok tt)
  releases_done answer heap =
      let left = heap ∙ ap (λ (g : HeapState). (released g name).heap) same in
      record {
        answer_is = answer ∙ ap (λ (g : HeapState). (released g name).answer) same;
        heap = left;
        worn = tt;
        on = done (λ other units apart its. stays_released old.heap new.heap other name units lawful apart its left);
      }

  pub resizes_done : (u len n lack : ℕ) → n ≡ units_for u len → lack ≡ lacking n → Ok tt ≡ (resized_words h name n lack).answer → new.heap ≡ (resized_words h name n lack).heap → Resizes u len old new name (units_of t) (Ok tt)
  resizes_done u len n lack wants fills answer heap =
      let n' = units_for u len in
      let all : ◌≡◌ {A = HeapState × ℕ × ℕ} (h, n, lack) (old.heap, n', lacking n') = λ i. (same i, wants i, (fills ∙ ap lacking wants) i) in
      let left = heap ∙ ap (λ (x : HeapState × ℕ × ℕ). (resized_words x.0 name x.1 x.2).heap) all in
      record {
        answer_is = answer ∙ ap (λ (x : HeapState × ℕ × ℕ). (resized_words x.0 name x.1 x.2).answer) all;
        heap = left;
        named = tt;
        on = done (λ other units apart its. stays_resized old.heap new.heap other name units lawful apart its n' (lacking n') left);
      }

-- ---- a call after a look

module _ (old mid new : ArenaState) (name : Name) (k : ℕ) (answer : Result (Unit {0}) Refusal) (same : SameArena old mid) where
  later : OnBlock mid new name k answer → OnBlock old new name k answer
  later on = record {
    live = subst (λ (h : HeapState). Holds h name k) same.0 on.live;
    unchanged = subst (λ (h : HeapState). OnErr answer (new.heap ≡ h)) same.0 on.unchanged;
    lawful = on.lawful;
    others = λ other units apart its. on.others other units apart (subst (λ (h : HeapState). Holds h other units) (sym same.0) its);
    home = (on.home.0 ∙ same.1.0, on.home.1 ∙ same.1.1, on.home.2 ∙ same.1.2, on.home.3 ∙ same.1.3);
  }

  pub releases_later : Releases mid new name k answer → Releases old new name k answer
  releases_later r = record {
    answer_is = r.answer_is ∙ ap (λ (h : HeapState). (released h name).answer) same.0;
    heap = r.heap ∙ ap (λ (h : HeapState). (released h name).heap) same.0;
    worn = r.worn;
    on = later r.on;
  }

  pub resizes_later : (u len : ℕ) → Resizes u len mid new name k answer → Resizes u len old new name k answer
  resizes_later u len r = record {
    answer_is = r.answer_is ∙ ap (λ (h : HeapState). (refitted u h name len).answer) same.0;
    heap = r.heap ∙ ap (λ (h : HeapState). (refitted u h name len).heap) same.0;
    named = r.named;
    on = later r.on;
  }
