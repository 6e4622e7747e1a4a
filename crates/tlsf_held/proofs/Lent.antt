-- Loans as an inventory.
use Rattle.tlsf_held.proofs.Common.{◌≡◌, ℕ, Bool, true, false, cond, List, [], ◌∷◌, fold, map, refl, ap, ◌∙◌, filter, not, Name, is_same, Inventory, with_length, inventory_of, others, with_len, with_loan}
use Rattle.tlsf_held.specs.declared.loans.Loan.{Loan}

-- ---- a name taken back

kept : (test : Bool) (loan : Loan) (acc : Inventory) (loans : List Loan) → fold with_loan acc (cond test (loan ∷ loans) loans) ≡ fold with_loan (cond test ((loan.name, loan.len) ∷ acc) acc) loans
kept true loan acc loans = refl
kept false loan acc loans = refl

abbrev without : Name → Inventory → Inventory
without name inventory = filter (λ entry. not (is_same name entry.0)) inventory

filtered_onto : (name : Name) (acc : Inventory) (loans : List Loan) → fold with_loan (without name acc) (others name loans) ≡ without name (fold with_loan acc loans)
filtered_onto name acc [] = refl
filtered_onto name acc (loan ∷ loans) = kept (not (is_same name loan.name)) loan (without name acc) (others name loans) ∙ filtered_onto name ((loan.name, loan.len) ∷ acc) loans

pub inventory_filtered : (name : Name) (loans : List Loan) → inventory_of (others name loans) ≡ filter (λ entry. not (is_same name entry.0)) (inventory_of loans)
inventory_filtered name loans = filtered_onto name [] loans

-- ---- a name resized

relent : (test : Bool) (loan : Loan) (len : ℕ) (acc : Inventory) → with_loan acc (cond test (record loan { len = len }) loan) ≡ cond test (loan.name, len) (loan.name, loan.len) ∷ acc
relent true loan len acc = refl
relent false loan len acc = refl

mapped_onto : (name : Name) (len : ℕ) (acc : Inventory) (loans : List Loan) → fold with_loan (with_length acc name len) (map (with_len name len) loans) ≡ with_length (fold with_loan acc loans) name len
mapped_onto name len acc [] = refl
mapped_onto name len acc (loan ∷ loans) =
    ap (λ (inventory : Inventory). fold with_loan inventory (map (with_len name len) loans)) (relent (is_same name loan.name) loan len (with_length acc name len))
    ∙ mapped_onto name len ((loan.name, loan.len) ∷ acc) loans

pub inventory_mapped : (name : Name) (len : ℕ) (loans : List Loan) → inventory_of (map (with_len name len) loans) ≡ with_length (inventory_of loans) name len
inventory_mapped name len loans = mapped_onto name len [] loans
