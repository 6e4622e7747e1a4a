use Rattle.tlsf_diagnosis.proofs.Common.{◌≡◌, ◌≤◌, ◌+◌, length, drop, columns_in}
use Rattle.tlsf_diagnosis.proofs.line_view.last_shown.Given as goal

-- the bytes from here on take the columns that are gone
abbrev pub invariant-loop-from : goal.invariant-loop-from
invariant-loop-from l = (l.from ≤ length l.bytes) × (l.left + columns_in (drop l.from l.bytes) ≡ l.fn.columns)

abbrev pub decreases-loop-from : goal.decreases-loop-from
decreases-loop-from l = l.from
