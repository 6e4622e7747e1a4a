-- Fields that are cut off a line, one after another.
use Rattle.tlsf_lines.proofs.Common.{◌≡◌, ℕ, zero, suc, ◌+◌, ◌-◌, ◌<◌, ◌==◌, count_by, false, eqb, List, [], ◌∷◌, length, get_or, take, drop, Option, Some, None, option_map, refl, arith, add-one, common_steps, length-slice_split, fields_of, first_by, with_rest, value_in, values_in, line_from, Value}
use Rattle.std.proofs.lemmas.Option.{some_pair_parts}
use Rattle.tlsf_lines.specs.Fields.{◌>>=◌}
use Rattle.tlsf_lines.specs.declared.keyword.Keyword.{Keyword}
use Rattle.tlsf_lines.specs.declared.kind.Kind.{Kind}
use Rattle.tlsf_lines.specs.declared.kind.Kind.TheVariants.{Worker, Label}

-- ---- the first field of a line

-- no space among the first n bytes
abbrev pub NoSpaces : List ℕ → ℕ → Type 0
NoSpaces line n = (k : ℕ) → k < n → eqb (get_or line k 0) 32 ≡ false

-- where no space stands before place n, and one at n
first_field : (line : List ℕ) (n : ℕ) → NoSpaces line n → n < length line → get_or line n 0 ≡ 32
    → fields_of line ≡ take n line ∷ fields_of (drop (suc n) line)
first_field [] n free lt at = absurd (omega arith)
first_field (x ∷ xs) zero free lt at = rw at refl
first_field (x ∷ xs) (suc n) free lt at =
    let here : eqb x 32 ≡ false = free 0 (omega arith) in
    let rest = first_field xs n (λ k below. free (suc k) (omega arith)) (omega arith) at in
    rw (here, rest) refl

pub cut_at : (line : List ℕ) (n : ℕ) → NoSpaces line n → n < length line → get_or line n 0 ≡ 32
    → fields_of line ≡ take n line ∷ fields_of (take (length line - (n + 1)) (drop (n + 1) line))
cut_at line n free lt at =
    let whole : take (length line - (n + 1)) (drop (n + 1) line) ≡ drop (n + 1) line = grind (arith, common_steps) in
    rw (whole, add-one) (first_field line n free lt at)

-- where no space stands at all
pub not_cut : (line : List ℕ) → NoSpaces line (length line) → fields_of line ≡ line ∷ []
not_cut [] free = refl
not_cut (x ∷ xs) free =
    let here : eqb x 32 ≡ false = free 0 (omega arith) in
    let rest = not_cut xs (λ k below. free (suc k) (omega arith)) in
    rw (here, rest) refl

-- each line has a field, if only an empty one
pub fields_count : (line : List ℕ) → length (fields_of line) ≡ count_by (λ byte. byte == 32) line + 1
fields_count line = length-slice_split (λ byte. byte == 32) line

-- ---- what they say

-- the first field says its value, and the fields after it say the others
said : (found : Option Value) (fields rest : List (List ℕ)) (value : Value) (more : List (List ℕ) → Option (List Value)) → option_map (λ v. with_rest v fields) found ≡ Some (value, rest)
    → (found >>= λ v. (more fields >>= λ values. Some (v ∷ values))) ≡ (more rest >>= λ values. Some (value ∷ values))
said None fields rest value more h = cc
said (Some v) fields rest value more h = let parts = some_pair_parts v value fields rest h in rw (← parts.0, ← parts.1) refl

one_more : (workers : ℕ) (kind : Kind) (kinds : List Kind) (fields rest : List (List ℕ)) (value : Value) → first_by (λ f. value_in workers kind f) fields ≡ Some (value, rest)
    → values_in workers (kind ∷ kinds) fields ≡ (values_in workers kinds rest >>= λ values. Some (value ∷ values))
one_more workers kind kinds [] rest value h = cc
one_more workers kind kinds (field ∷ fields) rest value h = said (value_in workers kind field) fields rest value (λ fs. values_in workers kinds fs) h

fused : (keyword : Keyword) (worker label : Value) (values : Option (List Value)) → option_map (λ vs. line_from keyword vs) ((values >>= λ vs. Some (label ∷ vs)) >>= λ vs. Some (worker ∷ vs))
    ≡ option_map (λ vs. line_from keyword (worker ∷ label ∷ vs)) values
fused keyword worker label None = refl
fused keyword worker label (Some values) = refl

-- a worker, a label, and what stands after them
pub behind_block : (workers : ℕ) (keyword : Keyword) (kinds : List Kind) (fields mid rest : List (List ℕ)) (worker label : Value)
    → first_by (λ f. value_in workers Worker f) fields ≡ Some (worker, mid) → first_by (λ f. value_in workers Label f) mid ≡ Some (label, rest)
    → option_map (λ vs. line_from keyword vs) (values_in workers (Worker ∷ Label ∷ kinds) fields) ≡ option_map (λ vs. line_from keyword (worker ∷ label ∷ vs)) (values_in workers kinds rest)
behind_block workers keyword kinds fields mid rest worker label first second =
    rw (one_more workers Worker (Label ∷ kinds) fields mid worker first, one_more workers Label kinds mid rest label second) (fused keyword worker label (values_in workers kinds rest))

-- ---- a field that is left over

none_wanted : (workers : ℕ) (fields : List (List ℕ)) → 0 < length fields → values_in workers [] fields ≡ None
none_wanted workers [] some = absurd (omega arith)
none_wanted workers (field ∷ fields) some = refl

pub left_over : (workers : ℕ) (line : List ℕ) → values_in workers [] (fields_of line) ≡ None
left_over workers line = none_wanted workers (fields_of line) (omega (arith, fields_count line))
