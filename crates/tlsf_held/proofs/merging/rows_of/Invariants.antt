use Rattle.tlsf_held.proofs.Common.{◌≡◌, ◌++◌, ◌≤◌, length, lens_in, lens_of, rows_by, Divide}
use Rattle.tlsf_held.proofs.merging.rows_of.Given as goal

-- with the rows of what is left, the rows so far are all
abbrev pub invariant-loop-left : goal.invariant-loop-left
invariant-loop-left l = record {
  upto : l.left ≤ 8;
  divide : Divide (length l.table) l.at (lens_in l.left l.split.lens);
  so_far : l.rows.items ++ rows_by l.steps l.table l.at (lens_in l.left l.split.lens) ≡ rows_by l.steps l.table 0 (lens_of l.split);
}

abbrev pub decreases-loop-left : goal.decreases-loop-left
decreases-loop-left l = l.left
