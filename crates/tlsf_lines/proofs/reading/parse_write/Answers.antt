use Rattle.tlsf_lines.proofs.Common.{[], ◌∷◌, ◌∙◌, sym, fields_left, value_of}
use Rattle.tlsf_lines.specs.declared.keyword.Keyword.TheVariants as keyword
use Rattle.tlsf_lines.specs.declared.kind.Kind.TheVariants.{Offset, Payload}
use Rattle.tlsf_lines.proofs.CutSteps.{behind_block}
use Rattle.tlsf_lines.proofs.reading.parse_write.Goals as goal

pub returns : goal.returns
returns c =
    c.write_behind.ensures ∙ sym (behind_block c.args.workers keyword.Write (Offset ∷ Payload ∷ []) (fields_left c.args.fields) (fields_left c.in_ok-worker.fields) (fields_left c.in_ok-label.fields) (value_of c.in_ok-worker.worker) (value_of c.in_ok-label.label)
    c.in_ok-worker.ensures c.in_ok-label.ensures)
