use Rattle.tlsf_pool.proofs.Common.{◌≡◌, ◌<◌, ◌≤◌, ℕ, false, get_or, length, is_some, no_part, row_of}
use Rattle.tlsf_pool.proofs.pools.pools.part_of.Given as goal

-- no part so far has a row that is long enough
abbrev pub invariant-loop-at : goal.invariant-loop-at
invariant-loop-at g l = record {
  within : l.at ≤ length l.parts;
  before : (k : ℕ) → k < l.at → is_some (row_of (get_or l.parts k no_part).ledger.kinds l.len) ≡ false;
}
