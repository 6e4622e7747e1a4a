use Rattle.tlsf_pool.proofs.Common.{◌≡◌, ◌+◌, ◌≤◌, length, rows_before}
use Rattle.tlsf_pool.proofs.pools.pools.counts.part_with.Given as goal

-- the rows of the parts so far, and those that are left to pass over
abbrev pub invariant-loop-at : goal.invariant-loop-at
invariant-loop-at g l = record {
  within : l.at ≤ length l.parts;
  row_is : rows_before l.parts l.at + l.own ≡ l.row;
}
