use Rattle.tlsf_held.proofs.Common.{◌≡◌, drop, fold, length, entries_of, row_accounted, rows_told, RowAccount, row_count, row_of}
use Rattle.tlsf_held.proofs.rows.rows_told.Given as goal

-- with what is left, the rows so far are those of all
abbrev pub invariant-loop-entry : goal.invariant-loop-entry
invariant-loop-entry g l = record {
  so_far : let now : RowAccount = record { account = l.loans; rows = l.rows.items } in
      fold (λ told e. row_accounted (row_of g.row.SLI l.grain) l.made told e.call e.reply) now (entries_of l.worker (drop l.entry-index l.entries))
      ≡ rows_told g.row.SLI l.grain l.worker l.made l.entries;
  whole : length l.rows.items ≡ row_count g.row.SLI l.grain;
}
