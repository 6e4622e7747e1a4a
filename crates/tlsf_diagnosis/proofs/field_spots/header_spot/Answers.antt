use Rattle.tlsf_diagnosis.proofs.Common.{◌+◌, ℕ, ap, sym, subst, fields_of, BadHeader, IsFieldOf}
use Rattle.tlsf_diagnosis.proofs.HeaderSpots.{ended, unended}
use Rattle.tlsf_diagnosis.proofs.field_spots.header_spot.Goals as goal

pub returns-in-Some : goal.returns-in-Some
returns-in-Some c = λ none workers.
    subst (λ (n : ℕ). IsFieldOf workers BadHeader c.args.piece.now n) (sym c.unwrap_or.ensures)
    (ended c.args.piece.now c.wrong_in_header.result (fields_of c.in-Some.line.now) (sym c.in-Some.ensures) c.wrong_in_header.ensures none workers)

pub returns-in-None : goal.returns-in-None
returns-in-None c = λ none workers.
    subst (λ (n : ℕ). IsFieldOf workers BadHeader c.args.piece.now n) (sym c.unwrap_or-in-None.ensures)
    (unended c.args.piece.now c.wrong_in_header-in-None.result (c.count_spaces.result + 1) (sym c.in-None.ensures) c.wrong_in_header-in-None.ensures
    (ap (λ (n : ℕ). n + 1) c.count_spaces.ensures.count) workers)
