use Rattle.tlsf_picture.proofs.Common.{◌≡◌, ℕ, ◌+◌, List, length, ap, subst, ◌∙◌, arith, string_bytes, shown_until, HasShown}
use Rattle.tlsf_lines.proofs.ScriptSteps.{ends_count}
use Rattle.tlsf_picture.proofs.page_drawing.add_moments.Goals as goal

pub loop-number-init : goal.loop-number-init
loop-number-init g c = record {
  yard = c.requires.yard;
  shown = λ trace level is new none. (0, omega arith, new, none);
}

pub loop-number-preserved : goal.loop-number-preserved
loop-number-preserved g c = record {
  yard = c.add_line.ensures.yard;
  shown = λ trace level is new none.
      let before = c.loop-number.invariant.shown trace level is new none in
      c.in_ok-add_line.ensures.shown before.0 trace before.1 level is before.2 before.3;
}

pub returns : goal.returns
returns g c = λ trace level is new none.
    let number = c.loop-number.number in
    let many = ap (λ (l : List ℕ). length l) is.ends ∙ ends_count trace.header.workers 0 trace.lines in
    let all : number ≡ length trace.lines + 2 = omega (arith, c.loop-number-test.false, c.loop-number.auto.number-end, c.len-number-end.ensures, many) in
    subst (λ (n : ℕ). HasShown (shown_until (length trace.lines) c.args.named.now n) trace (string_bytes c.loop-number.text)) all
    (c.loop-number.invariant.shown trace level is new none).3
