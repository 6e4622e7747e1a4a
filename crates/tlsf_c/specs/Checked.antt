-- The answer to C on a look at blocks.
use Rattle.std.specs.Prelude.{ℕ, Option, Some, None}
use Rattle.tlsf_heap.specs.Numbers.{number_of}
use Rattle.tlsf_heap.specs.declared.checked.Checked.{Checked}
use Rattle.tlsf_heap.specs.declared.checked.Checked.TheVariants.{Sound, Damaged}
use Rattle.tlsf_heap.specs.declared.refusal.Refusal.TheVariants.{NoFit, Stale}
use Rattle.tlsf_c.specs.Refusals.{damage}

-- its number: Stale where no block begins at the first place
abbrev pub check_number_of : Option Checked → ℕ
check_number_of None = number_of Stale
check_number_of (Some (Sound next)) = 0
check_number_of (Some (Damaged at)) = damage

-- that of a look for a request: NoFit where no block fits
abbrev pub request_number_of : Option Checked → ℕ
request_number_of None = number_of NoFit
request_number_of (Some checked) = check_number_of (Some checked)

-- the place behind the blocks, where all are sound; else what was there stays
abbrev pub next_told : ℕ → Option Checked → ℕ
next_told before None = before
next_told before (Some (Sound next)) = next
next_told before (Some (Damaged at)) = before

-- the place of the first block that is not, where there is one; else what was there stays
abbrev pub damaged_told : ℕ → Option Checked → ℕ
damaged_told before None = before
damaged_told before (Some (Sound next)) = before
damaged_told before (Some (Damaged at)) = at
