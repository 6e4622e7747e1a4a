-- A touch of one place is none of another.
use Rattle.tlsf_words.proofs.Common.{◌≡◌, ◌≢◌, ℕ, suc, ◌+◌, ◌/◌, ◌<◌, ◌≤◌, List, [], ◌∷◌, ◌++◌, cond, refl, sym, ap, ◌∙◌, subst, arith, Contains, length-append, Contains-append_left, Contains-append_right, ne_eqb, Tallied, Notes, Within, times, InGroups}

pub times_other : (at k : ℕ) (l : List ℕ) → k ≢ at → times (at ∷ l) k ≡ times l k
unfolding times
times_other at k l apart = ap (λ t. cond t (suc (times l k)) (times l k)) (ne_eqb at k (λ e. apart (sym e)))

-- ---- groups of eight words

-- a list of one number has it, and so has a longer one
one_group : (g : ℕ) (gs : List ℕ) → Contains (g ∷ gs) g
one_group g gs = (0, omega arith, refl)

later_group : (g h : ℕ) (gs : List ℕ) → Contains gs h → Contains (g ∷ gs) h
later_group g h gs c = Contains-append_right (g ∷ []) gs h c

pub no_groups : {old new : List ℕ} → new ≡ old → InGroups 0 old new
no_groups is = record { groups = []; few = omega arith; only = λ k out. ap (λ (l : List ℕ). times l k) is }

pub more_groups : {m n : ℕ} {old new : List ℕ} → m ≤ n → InGroups m old new → InGroups n old new
more_groups more i = record { groups = i.groups; few = omega (arith, i.few, more); only = i.only }

pub groups_then : {m n : ℕ} {old mid new : List ℕ} → InGroups m old mid → InGroups n mid new → InGroups (m + n) old new
groups_then a b = record {
  groups = a.groups ++ b.groups;
  few = omega (arith, length-append a.groups b.groups, a.few, b.few);
  only = λ k out.
      b.only k (λ c. out (Contains-append_right a.groups b.groups (k / 8) c)) ∙ a.only k (λ c. out (Contains-append_left a.groups b.groups (k / 8) c));
}

-- where no word but these is touched
pub one_word : (p : ℕ) {old new : List ℕ} → ((k : ℕ) → k ≢ p → times new k ≡ times old k) → InGroups 1 old new
one_word p only = record {
  groups = p / 8 ∷ [];
  few = omega arith;
  only = λ k out. only k (λ e. out (subst (λ (x : ℕ). Contains (p / 8 ∷ []) (x / 8)) (sym e) (one_group (p / 8) [])));
}

pub two_words : (p q : ℕ) {old new : List ℕ} → ((k : ℕ) → k ≢ p → k ≢ q → times new k ≡ times old k) → InGroups 2 old new
two_words p q only = record {
  groups = p / 8 ∷ q / 8 ∷ [];
  few = omega arith;
  only = λ k out. only k (λ e. out (subst (λ (x : ℕ). Contains (p / 8 ∷ q / 8 ∷ []) (x / 8)) (sym e) (one_group (p / 8) (q / 8 ∷ []))))
      (λ e. out (subst (λ (x : ℕ). Contains (p / 8 ∷ q / 8 ∷ []) (x / 8)) (sym e) (later_group (p / 8) (q / 8) (q / 8 ∷ []) (one_group (q / 8) []))));
}

pub three_words : (p q r : ℕ) {old new : List ℕ} → ((k : ℕ) → k ≢ p → k ≢ q → k ≢ r → times new k ≡ times old k) → InGroups 3 old new
three_words p q r only = record {
  groups = p / 8 ∷ q / 8 ∷ r / 8 ∷ [];
  few = omega arith;
  only = λ k out. only k (λ e. out (subst (λ (x : ℕ). Contains (p / 8 ∷ q / 8 ∷ r / 8 ∷ []) (x / 8)) (sym e) (one_group (p / 8) (q / 8 ∷ r / 8 ∷ []))))
      (λ e. out (subst (λ (x : ℕ). Contains (p / 8 ∷ q / 8 ∷ r / 8 ∷ []) (x / 8)) (sym e) (later_group (p / 8) (q / 8) (q / 8 ∷ r / 8 ∷ []) (one_group (q / 8) (r / 8 ∷ [])))))
      (λ e. out (subst (λ (x : ℕ). Contains (p / 8 ∷ q / 8 ∷ r / 8 ∷ []) (x / 8)) (sym e)
      (later_group (p / 8) (r / 8) (q / 8 ∷ r / 8 ∷ []) (later_group (q / 8) (r / 8) (r / 8 ∷ []) (one_group (r / 8) [])))));
}

-- one touch
pub one_touch : (p : ℕ) {old new : List ℕ} → new ≡ p ∷ old → InGroups 1 old new
one_touch p {old = old} is = one_word p (λ k apart. ap (λ (l : List ℕ). times l k) is ∙ times_other p k old apart)

-- ---- touches of a run of words

-- none
pub within_none : (n from past : ℕ) (t : Tallied) → n ≡ 0 → Within n from past t t
within_none n from past t none = record { touches = omega (arith, none); before = λ k low. refl; behind = λ k high. refl }

-- one, of a word of the run
pub within_one : (n from past at : ℕ) (old new : Tallied) → n ≡ 1 → from ≤ at → at < past → Notes (at ∷ []) old new → Within n from past old new
within_one n from past at old new one low high notes = record {
  touches = omega (arith, one, notes.touches);
  before = λ k below. ap (λ (l : List ℕ). times l k) notes.touched ∙ times_other at k old.touched (λ e. omega (arith, e, low, below));
  behind = λ k above. ap (λ (l : List ℕ). times l k) notes.touched ∙ times_other at k old.touched (λ e. omega (arith, e, high, above));
}

-- those of two, which lie in a wider run
pub within_then : (total from past : ℕ) {m n f p g q : ℕ} {old mid new : Tallied} → Within m f p old mid → Within n g q mid new
    → from ≤ f → p ≤ past → from ≤ g → q ≤ past → total ≡ m + n → Within total from past old new
within_then total from past a b low high low_too high_too both = record {
  touches = omega (arith, a.touches, b.touches, both);
  before = λ k below. b.before k (omega (arith, below, low_too)) ∙ a.before k (omega (arith, below, low));
  behind = λ k above. b.behind k (omega (arith, above, high_too)) ∙ a.behind k (omega (arith, above, high));
}
