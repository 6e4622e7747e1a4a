use Rattle.tlsf_command.proofs.Common.{◌≡◌, ℕ, List, [], ◌∷◌, Option, length, refl, arith, ReportsUnreached, unreached_table_line, IsFiner, IsFirstUnreached, IsSplitOf, Kind, Split}
use Rattle.tlsf_lines.specs.Prefixes.{AppendsFront}
use Rattle.tlsf_command.proofs.size_run.report_unreached.Goals as goal

-- what is reported of a table that isn't of one kind
reported : (sli : ℕ) (kinds : List Kind) (old new : Option (List ℕ)) → (length kinds ≡ 1 → ⊥)
    → (n : ℕ) × (next : Kind) × (split : Option Split) × (finer : Option ℕ) × IsFirstUnreached sli kinds n next × IsSplitOf sli kinds split
    × IsFiner kinds finer × AppendsFront old new (unreached_table_line n next split finer)
    → ReportsUnreached sli kinds old new
reported sli [] old new many is = is
reported sli (kind ∷ []) old new many is = absurd (many refl)
reported sli (kind ∷ (other ∷ kinds)) old new many is = is

pub returns-else-kinds-eq1 : goal.returns-else-kinds-eq1
returns-else-kinds-eq1 g c =
    reported g.row.SLI c.args.kinds.now _ _ (λ (one : length c.args.kinds.now ≡ 1). omega arith) c.write_unreached_table_line.ensures
