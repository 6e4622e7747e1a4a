-- The lines on the kinds of blocks that workers hold, as options of `tlsf size`.
use Rattle.std.specs.Prelude.{ℕ, zero, suc, List, [], ◌∷◌, ◌++◌, codes, max}
use Rattle.std.specs.Fmt.{decimal}
use Rattle.tlsf_held.specs.declared.row.Row.{Row}

-- a pair: an option takes 1 byte at least
abbrev pub pair_text : Row → List ℕ
pair_text row = codes " --blocks " ++ decimal row.most ++ codes " --bytes " ++ decimal (max 1 row.longest)

abbrev pub pairs_text : List Row → List ℕ
pairs_text [] = []
pairs_text (row ∷ rows) = pair_text row ++ pairs_text rows

-- that of the least heap, for a worker that asks for no block: `tlsf size` takes one pair at least
abbrev pub least_row : Row
least_row = record { most = 1; longest = 1 }

-- the rows that are written of a table
abbrev pub rows_written : List Row → List Row
rows_written [] = least_row ∷ []
rows_written (row ∷ rows) = row ∷ rows

-- --level S --blocks B --bytes N .., with a pair for each row that is written
abbrev pub kinds_line : ℕ → List Row → List ℕ
kinds_line sli rows = codes "--level " ++ decimal sli ++ pairs_text (rows_written rows) ++ codes "\n"

-- the lines of the workers below a number
abbrev pub kinds_text : ℕ → (ℕ → List Row) → ℕ → List ℕ
kinds_text sli tables zero = []
kinds_text sli tables (suc j) = kinds_text sli tables j ++ kinds_line sli (tables j)
