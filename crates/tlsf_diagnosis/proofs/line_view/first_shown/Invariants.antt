use Rattle.tlsf_diagnosis.proofs.Common.{◌≡◌, ◌≤◌, ◌+◌, ◌-◌, length, take, columns_in}
use Rattle.tlsf_diagnosis.proofs.line_view.first_shown.Given as goal

-- the bytes so far take the columns that are gone
abbrev pub invariant-loop-count : goal.invariant-loop-count
invariant-loop-count l = (l.count ≤ length l.bytes) × (l.left + columns_in (take l.count l.bytes) ≡ l.fn.columns)

abbrev pub decreases-loop-count : goal.decreases-loop-count
decreases-loop-count l = length l.bytes - l.count
