use Rattle.tlsf_diagnosis.proofs.Common.{◌+◌, ℕ, ap, sym, subst, fields_of, IsFieldOf}
use Rattle.tlsf_diagnosis.proofs.LineSpots.{ended, unended}
use Rattle.tlsf_diagnosis.proofs.field_spots.line_spot.Goals as goal

pub returns-in-Some : goal.returns-in-Some
returns-in-Some c = λ before why refused.
    subst (λ (n : ℕ). IsFieldOf c.args.workers why c.args.piece.now n) (sym c.unwrap_or.ensures)
    (ended c.args.workers before c.args.piece.now why (fields_of c.in-Some.line.now) c.wrong_in_line.result (sym c.in-Some.ensures) c.wrong_in_line.ensures refused)

pub returns-in-None : goal.returns-in-None
returns-in-None c = λ before why refused.
    subst (λ (n : ℕ). IsFieldOf c.args.workers why c.args.piece.now n) (sym c.unwrap_or-in-None.ensures)
    (unended c.args.workers before c.args.piece.now why c.wrong_in_line-in-None.result (c.count_spaces.result + 1) (sym c.in-None.ensures) c.wrong_in_line-in-None.ensures
    (ap (λ (n : ℕ). n + 1) c.count_spaces.ensures.count) refused)
