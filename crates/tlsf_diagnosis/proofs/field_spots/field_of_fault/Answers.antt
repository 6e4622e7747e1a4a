use Rattle.tlsf_diagnosis.proofs.Common.{◌≡◌, ℕ, List, Err, sym, ap, subst, ◌∙◌, field, header_in, pieces_of, judged_line, Line, LineFault, BadHeader, IsFieldOf}
use Rattle.tlsf_diagnosis.proofs.TextSpots.{found_in_header, found_in_line}
use Rattle.tlsf_diagnosis.proofs.field_spots.field_of_fault.Goals as goal

pub returns-in-None : goal.returns-in-None
returns-in-None c =
    let n = c.header_spot.result in
    let first : c.piece_at-first.result.now ≡ field (pieces_of c.args.text.now) 0 = c.piece_at-first.ensures in
    found_in_header c.args.text.now c.args.fault n c.requires (ap (λ (p : List ℕ). header_in p) (sym first) ∙ sym c.in-None.ensures.header)
    (subst (λ (p : List ℕ). (workers : ℕ) → IsFieldOf workers BadHeader p n) first (c.header_spot.ensures (sym c.in-None.ensures.header)))

pub returns-in-Some : goal.returns-in-Some
returns-in-Some c =
    let n = c.line_spot.result in
    let workers = c.in-Some.header.workers in
    let first : c.piece_at-first.result.now ≡ field (pieces_of c.args.text.now) 0 = c.piece_at-first.ensures in
    found_in_line c.args.text.now c.args.fault n c.in-Some.header c.requires (ap (λ (p : List ℕ). header_in p) (sym first) ∙ sym c.in-Some.ensures.header)
    (subst (λ (p : List ℕ). (before : List Line) (w : LineFault) → judged_line workers before p ≡ Err w → IsFieldOf workers w p n)
    c.piece_at.ensures c.line_spot.ensures)
