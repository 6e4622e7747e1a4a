use Rattle.tlsf_held.proofs.Common.{◌≡◌, ◌-◌, first_few, table_of, used_rows}
use Rattle.tlsf_held.proofs.rows.table_of.Given as goal

-- the coarser ones are left to be tried
abbrev pub invariant-loop-grain : goal.invariant-loop-grain
invariant-loop-grain g l = first_few (used_rows g.row.SLI l.worker l.made l.entries) l.grain (4 - l.grain) ≡ table_of g.row.SLI l.worker l.made l.entries
