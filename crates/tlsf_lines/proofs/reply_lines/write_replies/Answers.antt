use Rattle.std.proofs.Common.{rules, ◌++◌, string_bytes, sym, ap, ◌∙◌, append_assoc}
use Rattle.tlsf_lines.proofs.ReplySteps.{next_called, next_taken}
use Rattle.tlsf_lines.proofs.reply_lines.write_replies.Goals.{then-is_taken+in_ok-write_line, else-is_taken+in_ok-write_line-2}
use Rattle.tlsf_lines.proofs.reply_lines.write_replies.Goals as goal

pub loop-entry-preserved : goal.loop-entry-preserved
loop-entry-preserved c =
    let inv = c.loop-entry.invariant in
    let i = c.loop-entry.entry-index in
    let left = c.loop-entry.left.now in
    let old = string_bytes c.loop-entry.text in
    elim c.if-is_taken.branch [
      | then-is_taken+in_ok-write_line w ↦
          let step = next_taken c.args.entries.now left i _ c.loop-entry-test.true (search rules) in
          record {
            so_far = rw (w.text-is, w.left-is, w.in_ok-write_line.ensures) (append_assoc old _ _ ∙ (ap (λ l. old ++ l) (sym step.0) ∙ inv.so_far));
            left = rw w.left-is (sym step.1 ∙ inv.left);
          }
      | else-is_taken+in_ok-write_line-2 w ↦
          let step = next_called c.args.entries.now left i _ c.loop-entry-test.true (search rules) in
          let line = rw w.first_label-label.ensures.first at w.in_ok-write_line-2.ensures in
          record {
            so_far = rw (w.text-is, w.left-is, w.first_label-label.ensures.rest, line) (append_assoc old _ _ ∙ (ap (λ l. old ++ l) (sym step.0) ∙ inv.so_far));
            left = rw (w.left-is, w.first_label-label.ensures.rest) (sym step.1 ∙ inv.left);
          }
    ]
