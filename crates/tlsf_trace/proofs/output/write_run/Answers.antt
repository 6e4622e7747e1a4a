use Rattle.tlsf_trace.proofs.Common.{◌≡◌, ℕ, ◌+◌, ◌++◌, ◌<◌, ◌≤◌, List, length, sym, ap, subst, ◌∙◌, arith, append_assoc, append-nil, string_bytes, Entry, labels_of, labels_left, reply_text, moment_at, Stands}
use Rattle.tlsf_lines.proofs.ReplySteps.{reply_text-append}
use Rattle.tlsf_lines.proofs.ScriptSteps.{ends_count}
use Rattle.tlsf_trace.proofs.PartByPart.{labels_left-append}
use Rattle.tlsf_trace.proofs.Onward.{ends, nothing_told, plays_on}
use Rattle.tlsf_trace.proofs.output.write_run.Goals as goal

pub loop-line-init : goal.loop-line-init
loop-line-init g c = record {
  yard = c.requires.yard;
  within = omega arith;
  so_far = λ trace is new.
      let none = nothing_told g.row.SLI trace in
      (new, rw none (sym (append-nil (string_bytes c.args.text.now))), rw none (c.deref-labels.ensures.value ∙ is.labels));
}

pub loop-line-preserved : goal.loop-line-preserved
loop-line-preserved g c =
    let inv = c.loop-line.invariant in
    let here = c.loop-line.line in
    let on : here ≤ here + c.min-line.result = omega arith in
    record {
      yard = c.step_to.ensures.yard;
      within = omega (arith, c.min-line.ensures, c.len-end.ensures, inv.within);
      so_far = λ trace is new.
          let before = inv.so_far trace is new in
          let plays = plays_on on (c.in_ok-entries.ensures.plays here trace is before.0) in
          let told = (moment_at g.row.SLI here trace).entries in
          let entries = c.in_ok-entries.entries.items in
          let labels = labels_of trace in
          let old = string_bytes c.args.text.now in
          let text = rw (c.deref.ensures.value, before.2, before.1) at c.in_ok-labels.ensures.text in
          let left = rw (c.deref.ensures.value, before.2) at c.in_ok-labels.ensures.left in
          let both = ap (λ (es : List Entry). reply_text es labels) plays.told ∙ reply_text-append told entries labels in
          let rest = ap (λ (es : List Entry). labels_left es labels) plays.told ∙ labels_left-append told entries labels in
          (plays.stands, text ∙ (append_assoc old (reply_text told labels) (reply_text entries (labels_left told labels)) ∙ ap (λ (l : List ℕ). old ++ l) (sym both)), left ∙ sym rest);
    }

pub returns-clause-text : goal.returns-clause-text
returns-clause-text g c = λ trace is new.
    let many = ap (λ (l : List ℕ). length l) is.ends ∙ ends_count trace.header.workers 0 trace.lines in
    let past : length trace.lines + 1 < c.loop-line.line = omega (arith, many, c.len-end.ensures, c.loop-line-test.false) in
    let all = ends g.row.SLI c.loop-line.line trace past in
    rw all at (c.loop-line.invariant.so_far trace is new).1

pub returns-clause-stands : goal.returns-clause-stands
returns-clause-stands g c = λ trace is new.
    let many = ap (λ (l : List ℕ). length l) is.ends ∙ ends_count trace.header.workers 0 trace.lines in
    let end : c.loop-line.line ≡ length trace.lines + 2 = omega (arith, many, c.len-end.ensures, c.loop-line-test.false, c.loop-line.invariant.within) in
    subst (λ (n : ℕ). Stands n trace c.loop-line.player) end (c.loop-line.invariant.so_far trace is new).0
