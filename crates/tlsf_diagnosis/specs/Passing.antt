-- Fields that are judged by their kinds, one after another. This serves the contracts of private functions alone.
use Rattle.std.specs.Prelude.{◌≡◌, ℕ, suc, Bool, true, false, if◌then◌else◌, List, [], ◌∷◌, Option, Some, None}

-- how many fields pass before the first that doesn't, or that has no kind
abbrev pub passing_count : {A : Type 0} → (A → List ℕ → Bool) → List A → List (List ℕ) → ℕ
passing_count pass (kind ∷ kinds) (field ∷ fields) = if pass kind field then suc (passing_count pass kinds fields) else 0
passing_count pass _ _ = 0

-- each field passes as one of its kind, and there are equally many
abbrev pub all_pass : {A : Type 0} → (A → List ℕ → Bool) → List A → List (List ℕ) → Bool
all_pass pass [] [] = true
all_pass pass (kind ∷ kinds) (field ∷ fields) = if pass kind field then all_pass pass kinds fields else false
all_pass pass _ _ = false

-- not all pass, and this many do before the first that doesn't; or all do
abbrev pub IsFirstFailing : {A : Type 0} → (A → List ℕ → Bool) → List A → List (List ℕ) → Option ℕ → Type 0
IsFirstFailing pass kinds fields (Some n) = (all_pass pass kinds fields ≡ false) × (n ≡ passing_count pass kinds fields)
IsFirstFailing pass kinds fields None = all_pass pass kinds fields ≡ true

-- the fields are not whole, and this one is the first wrong one; or they are
abbrev pub FindsWrong : (List (List ℕ) → Bool) → (List (List ℕ) → ℕ → Type 0) → List (List ℕ) → Option ℕ → Type 0
FindsWrong is_whole IsWrong fields (Some n) = (is_whole fields ≡ false) × IsWrong fields n
FindsWrong is_whole IsWrong fields None = is_whole fields ≡ true
