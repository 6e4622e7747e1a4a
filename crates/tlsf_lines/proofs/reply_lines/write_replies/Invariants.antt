use Rattle.std.proofs.Common.{◌≡◌, ◌++◌, string_bytes, drop}
use Rattle.tlsf_lines.specs.ReplyLines.{labels_left, reply_text}
use Rattle.tlsf_lines.proofs.reply_lines.write_replies.Given as goal

-- the lines so far and those of what is left, with the labels that are left, are the lines of all
abbrev pub invariant-loop-entry : goal.invariant-loop-entry
invariant-loop-entry l = record {
  so_far : string_bytes l.text ++ reply_text (drop l.entry-index l.entries) l.left ≡ string_bytes l.fn.text ++ reply_text l.entries l.labels;
  left : labels_left (drop l.entry-index l.entries) l.left ≡ labels_left l.entries l.labels;
}
