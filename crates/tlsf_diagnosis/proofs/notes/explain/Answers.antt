use Rattle.std.proofs.Common.{◌≡◌, ◌-◌, ◌∙◌, string_bytes}
use Rattle.tlsf_lines.specs.Fields.{field}
use Rattle.tlsf_lines.specs.Pieces.{pieces_of}
use Rattle.tlsf_diagnosis.specs.Notes.{field_row}
use Rattle.tlsf_diagnosis.specs.Shown.{bytes_of}
use Rattle.tlsf_diagnosis.specs.Tips.{is_number_wanted}
use Rattle.tlsf_diagnosis.proofs.FieldSteps.{shows_field, tip_follows, tipped}
use Rattle.tlsf_diagnosis.proofs.notes.explain.Goals as goal

pub returns : goal.returns
returns c =
    let is : c.piece_at-piece.result.now ≡ field (pieces_of c.args.text.now) (c.args.fault.line - 1) = c.piece_at-piece.ensures in
    let tip = c.wants_tip.ensures
    ∙ tipped c.args.text.now c.args.fault.line c.args.field c.piece_at-piece.result.now c.of-spot.result.line.now (bytes_of c.of-spot.result.field) (is_number_wanted c.wanted_in-wanted.result)
    is c.of-spot.ensures.line c.of-spot.ensures.bytes c.wanted_in-wanted.ensures in
    record {
      shown = string_bytes c.in_ok-note.note;
      words = c.deref.result.now;
      shows = shows_field c.args.text.now c.args.fault.line c.args.field c.marked-mark.result c.piece_at-piece.result.now c.of-spot.result.line.now (string_bytes c.in_ok-note.note)
          is c.of-spot.ensures.line c.marked-mark.ensures.marks c.marked-mark.ensures.within c.in_ok-note.ensures;
      note_is = tip_follows (string_bytes c.in_ok-note.note) (field_row c.args.field c.deref.result.now) _ _ _ _ c.in_ok-push_tip.ensures c.in_ok-push_field.ensures tip;
    }
