-- Where the lanes of a column, and then the columns, were settled one after another, all lanes were.
use Rattle.tlsf_crew.proofs.Common.{◌≡◌, ◌≢◌, ℕ, ◌+◌, ◌<◌, ◌≤◌, List, length, sym, ◌∙◌, arith, refl, inl, inr, cases_eq, Worker, Lanes, IsYard, KeepsWorld, LaneSettled, OnlyLaneSettled, SameLane, ColumnSettled, EachColumnSettled}
use Rattle.tlsf_crew.proofs.lemmas.lanes.LaneSlots.{step_change, step_same, same_then}

pub keeps_none : {sli : ℕ} (ws : List (Worker sli Lanes)) → IsYard ws → KeepsWorld ws ws
keeps_none ws yard = record { yard = yard; count = refl; world = refl; heaps = refl }

pub keeps_then : {sli : ℕ} (ws vs us : List (Worker sli Lanes)) → KeepsWorld ws vs → KeepsWorld vs us → KeepsWorld ws us
keeps_then ws vs us first next = record { yard = next.yard; count = next.count ∙ first.count; world = next.world ∙ first.world; heaps = next.heaps ∙ first.heaps }

pub step_settled : {sli : ℕ} (ws vs : List (Worker sli Lanes)) (i j : ℕ) → i ≢ j → OnlyLaneSettled ws i j vs → LaneSettled ws vs i j
step_settled ws vs i j ne s =
    let c = step_change ws vs i j ne s in
    record {
      post = s.settled.post;
      take = s.settled.take;
      new_post = s.settled.new_post;
      new_take = s.settled.new_take;
      post_is = c.post_is;
      take_is = c.take_is;
      new_post_is = c.new_post_is;
      new_take_is = c.new_take_is;
      beside = s.settled.beside;
    }

settled_before_same : {sli : ℕ} (ws vs us : List (Worker sli Lanes)) (i j : ℕ) → LaneSettled ws vs i j → SameLane vs us i j → LaneSettled ws us i j
settled_before_same ws vs us i j m s = record {
  post = m.post;
  take = m.take;
  new_post = m.new_post;
  new_take = m.new_take;
  post_is = m.post_is;
  take_is = m.take_is;
  new_post_is = s.0 ∙ m.new_post_is;
  new_take_is = s.1 ∙ m.new_take_is;
  beside = m.beside;
}

settled_behind_same : {sli : ℕ} (ws vs us : List (Worker sli Lanes)) (i j : ℕ) → SameLane ws vs i j → LaneSettled vs us i j → LaneSettled ws us i j
settled_behind_same ws vs us i j s m = record {
  post = m.post;
  take = m.take;
  new_post = m.new_post;
  new_take = m.new_take;
  post_is = sym s.0 ∙ m.post_is;
  take_is = sym s.1 ∙ m.take_is;
  new_post_is = m.new_post_is;
  new_take_is = m.new_take_is;
  beside = m.beside;
}

-- ---- the lanes to one worker

pub column_first : {sli : ℕ} (ws : List (Worker sli Lanes)) (j : ℕ) → ColumnSettled ws ws 0 j
column_first ws j = record { len = refl; done = λ x lt ne. absurd (omega arith); same = λ x y low. (refl, refl) }

-- one lane more
pub column_step : {sli : ℕ} (ws vs us : List (Worker sli Lanes)) (i j : ℕ) → ColumnSettled ws vs i j → i ≢ j → OnlyLaneSettled vs i j us → ColumnSettled ws us (i + 1) j
column_step ws vs us i j r ne s =
    record {
      len = (step_change vs us i j ne s).len ∙ r.len;
      done = λ x lt apart.
          elim (cases_eq x i) [
            | inl e ↦ rw e (settled_behind_same ws vs us i j (r.same i j (λ _. omega arith)) (step_settled vs us i j ne s))
            | inr n ↦ settled_before_same ws vs us x j (r.done x (omega arith) apart) (step_same vs us i j x j ne s (λ e _. n e))
          ];
      same = λ x y low.
          same_then ws vs us x y (r.same x y (λ e. let h : i + 1 ≤ x = low e in omega arith))
          (step_same vs us i j x y ne s (λ e f. let h : i + 1 ≤ x = low f in omega arith));
    }

pub column_skip : {sli : ℕ} (ws vs : List (Worker sli Lanes)) (i j : ℕ) → ColumnSettled ws vs i j → i ≡ j → ColumnSettled ws vs (i + 1) j
column_skip ws vs i j r e =
    record {
      len = r.len;
      done = λ x lt apart. let n : x ≢ i = λ f. apart (f ∙ e) in r.done x (omega arith) apart;
      same = λ x y low. r.same x y (λ f. let h : i + 1 ≤ x = low f in omega arith);
    }

-- ---- the lanes to all workers

pub yard_first : {sli : ℕ} (ws : List (Worker sli Lanes)) → EachColumnSettled ws ws 0
yard_first ws = record { len = refl; done = λ x y lt _ _. absurd (omega arith); same = λ x y low. (refl, refl) }

-- one column more
pub yard_step : {sli : ℕ} (ws vs us : List (Worker sli Lanes)) (j : ℕ) → EachColumnSettled ws vs j → ColumnSettled vs us (length vs) j → EachColumnSettled ws us (j + 1)
yard_step ws vs us j a r =
    record {
      len = r.len ∙ a.len;
      done = λ x y lt inside ne.
          elim (cases_eq y j) [
            | inl e ↦ let apart : x ≢ j = λ f. ne (f ∙ sym e) in let m : x < length vs = omega (arith, a.len) in
                rw e (settled_behind_same ws vs us x j (a.same x j (omega arith)) (r.done x m apart))
            | inr n ↦ settled_before_same ws vs us x y (a.done x y (omega arith) inside ne) (r.same x y (λ e. absurd (n e)))
          ];
      same = λ x y low. same_then ws vs us x y (a.same x y (omega arith)) (r.same x y (λ e. absurd (omega arith)));
    }
