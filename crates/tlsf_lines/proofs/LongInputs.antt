-- An input that passes a limit.
use Rattle.tlsf_lines.proofs.Common.{◌≡◌, ℕ, ◌+◌, ◌++◌, ◌≤◌, List, length, Option, Some, None, Result, Ok, Err, inl, inr, refl, arith, ap, subst, length-append, IfErr, IfSome, Consumes, fault_of_read, too_long_fault}
use Rattle.tlsf_lines.specs.Limits.{IsTooLong, Passes}
use Rattle.tlsf_lines.specs.ReadCounts.{IsOver, ReadsSoFar}
use Rattle.tlsf_lines.specs.declared.limit.Limit.{Limit}
use Rattle.tlsf_lines.specs.declared.limit.Limit.TheVariants.{Bytes, Lines, Reads}
use Rattle.tlsf_lines.specs.declared.read_error.ReadError.{ReadError}
use Rattle.tlsf_lines.specs.declared.read_error.ReadError.TheVariants.{NoMemory, TooLong, Read}
use Rattle.tlsf_lines.specs.declared.trace_fault.TraceFault.{TraceFault}
use Rattle.tlsf_lines.proofs.PieceCounts.{length-pieces_of-prefix}

-- a text was not read, for this
abbrev failed : {T : Type 0} → ReadError → Result T ReadError
failed why = Err why

-- what is over a limit and was given of an input, where each read gave a byte, passes it
over_passes : (limit : Limit) (reads : ReadsSoFar) (given : List ℕ) → 65536 ≤ reads.left + length given → IsOver limit reads given → Passes limit given
over_passes Bytes reads given each over = over
over_passes Lines reads given each over = over
over_passes Reads reads given each over = omega (arith, each, over.0)

-- and so does an input that begins with it
longer_passes : (limit : Limit) (prefix rest : List ℕ) → Passes limit prefix → Passes limit (prefix ++ rest)
longer_passes Bytes prefix rest is = omega (arith, length-append prefix rest, is)
longer_passes Lines prefix rest is = omega (arith, length-pieces_of-prefix prefix rest, is)
longer_passes Reads prefix rest is = omega (arith, length-append prefix rest, is)

pub input_passes : (limit : Limit) (reads : ReadsSoFar) (old new : Option (List ℕ)) (given : List ℕ) → Consumes old new given
    → 65536 ≤ reads.left + length given → IsOver limit reads given → IfSome old (Passes limit)
input_passes limit reads None new given taken each over = tt
input_passes limit reads (Some xs) None given taken each over = absurd taken
input_passes limit reads (Some xs) (Some ys) given taken each over = rw taken (longer_passes limit given ys (over_passes limit reads given each over))

-- the limit that is named is the one that is passed
pub over_named : {T : Type 0} (this limit : Limit) (reads : ReadsSoFar) (given : List ℕ) → failed {T = T} (TooLong this) ≡ Err (TooLong limit) → IsOver this reads given → IsOver limit reads given
over_named this limit reads given named over = let same : this ≡ limit = cc in subst (λ (l : Limit). IsOver l reads given) same over

-- what passes a limit is too long
too_long : (limit : Limit) (text : List ℕ) → Passes limit text → IsTooLong text
too_long Bytes text is = inr (omega (arith, is))
too_long Lines text is = inl is
too_long Reads text is = inr (omega (arith, is))

pub if_too_long : (limit : Limit) (left : Option (List ℕ)) → IfSome left (Passes limit) → IfSome left IsTooLong
if_too_long limit None is = tt
if_too_long limit (Some text) is = too_long limit text is

-- the fault of a text that is too long is that of a limit which it passes
fault_too_long : (error : ReadError) (left : Option (List ℕ)) → ((limit : Limit) → error ≡ TooLong limit → IfSome left (Passes limit)) → fault_of_read error ≡ too_long_fault → IfSome left IsTooLong
fault_too_long NoMemory left passed is = let no : 6 ≡ 15 = ap (λ (f : TraceFault). f.no) is in absurd (omega (arith, no))
fault_too_long (TooLong limit) left passed is = if_too_long limit left (passed limit refl)
fault_too_long Read left passed is = let no : 16 ≡ 15 = ap (λ (f : TraceFault). f.no) is in absurd (omega (arith, no))

pub fails_too_long : {T : Type 0} (result : Result T ReadError) (left : Option (List ℕ)) → ((limit : Limit) → result ≡ Err (TooLong limit) → IfSome left (Passes limit))
    → IfErr result (λ error. fault_of_read error ≡ too_long_fault → IfSome left IsTooLong)
fails_too_long (Ok text) left passed = tt
fails_too_long (Err error) left passed = fault_too_long error left (λ limit is. passed limit (ap Err is))
