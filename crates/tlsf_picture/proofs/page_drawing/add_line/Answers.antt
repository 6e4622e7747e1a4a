use Rattle.tlsf_picture.proofs.Common.{◌≡◌, ℕ, ◌+◌, ◌≤◌, false, true, List, length, sym, ap, subst, ◌∙◌, arith, string_bytes, on_ok_weaker, is_shown, shown_until, HasShown}
use Rattle.tlsf_lines.proofs.ScriptSteps.{ends_count}
use Rattle.tlsf_picture.proofs.Onward.{line_left, line_shown, shown_more}
use Rattle.tlsf_trace.proofs.Onward.{plays_on}
use Rattle.tlsf_picture.proofs.page_drawing.add_line.Goals as goal

pub returns-then-not-is_shown-clause-shown : goal.returns-then-not-is_shown-clause-shown
returns-then-not-is_shown-clause-shown g c = λ from trace le level is stands shown.
    let number = c.args.number in
    let named = c.args.named.now in
    let many = ap (λ (l : List ℕ). length l) is.ends ∙ ends_count trace.header.workers 0 trace.lines in
    let lines_are : length trace.lines ≡ c.len.result = omega (arith, c.len.ensures, many) in
    let none : is_shown (length trace.lines) named (number + 1) ≡ false =
    ap (λ (n : ℕ). is_shown n named (number + 1)) lines_are ∙ (sym c.is_shown.ensures ∙ c.if-not-is_shown.true) in (
      from,
      omega (arith, le),
      stands,
      subst (λ (lines : List ℕ). HasShown lines trace (string_bytes c.args.text.now)) (line_left (length trace.lines) named number none) shown,
    )

pub returns-clause-shown : goal.returns-clause-shown
returns-clause-shown g c = λ from trace le level is stands shown.
    let number = c.args.number in
    let named = c.args.named.now in
    let many = ap (λ (l : List ℕ). length l) is.ends ∙ ends_count trace.header.workers 0 trace.lines in
    let lines_are : length trace.lines ≡ c.len.result = omega (arith, c.len.ensures, many) in
    let some : is_shown (length trace.lines) named (number + 1) ≡ true =
    ap (λ (n : ℕ). is_shown n named (number + 1)) lines_are ∙ (sym c.is_shown.ensures ∙ c.if-not-is_shown.false) in
    let here : from ≤ number + 1 = omega (arith, le) in
    let plays = plays_on here (c.in_ok-step_to.ensures.plays from trace is stands) in
    let so_far = shown_until (length trace.lines) named number in
    on_ok_weaker c.add_moment.result (λ adds. (
      number + 1,
      omega arith,
      c.add_moment.ensures.stands (number + 1) trace plays.stands,
      subst (λ (lines : List ℕ). HasShown lines trace (string_bytes c.add_moment.new.text)) (line_shown (length trace.lines) named number some)
          (shown_more so_far (number + 1) trace (string_bytes c.args.text.now) (string_bytes c.add_moment.new.text) shown adds),
    )) (c.add_moment.ensures.added trace level is plays.stands)
