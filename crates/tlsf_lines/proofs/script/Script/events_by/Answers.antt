use Rattle.tlsf_lines.proofs.Common.{◌≡◌, ℕ, ◌+◌, ◌-◌, ◌<◌, true, false, List, length, get_or, take, ap, ◌∙◌, arith, nat_lt, nat_tests, Event, width_in}
use Rattle.tlsf_lines.proofs.ScriptSteps.{end_of, ends_count}
use Rattle.tlsf_lines.proofs.script.Script.events_by.Goals as goal

pub returns-then-before-len : goal.returns-then-before-len
returns-then-before-len c = λ trace is.
    let many = ends_count trace.header.workers 0 trace.lines in
    let count = ap (λ (l : List ℕ). length l) is.ends in
    let past : length trace.lines + 1 < c.args.line = omega (arith, c.if-before-len.true, c.len.ensures, c.saturating_sub-before.ensures, many, count) in
    let yes : nat_lt (length trace.lines + 1) c.args.line ≡ true = grind (arith, nat_tests) in
    rw yes (c.len-then-before-len.ensures ∙ ap (λ (l : List Event). length l) is.events)

pub returns-else-before-eq0 : goal.returns-else-before-eq0
returns-else-before-eq0 c = λ trace is.
    let before = c.saturating_sub-before.result in
    let found = c.index.result.now in
    let workers = trace.header.workers in
    let lines = trace.lines in
    let many = ends_count workers 0 lines in
    let count = ap (λ (l : List ℕ). length l) is.ends in
    let within : before - 1 < length lines = omega (arith, c.if-before-len.false, c.if-before-eq0.false, c.len.ensures, many, count) in
    let next : before - 1 + 1 ≡ c.args.line - 1 = omega (arith, c.if-before-eq0.false, c.saturating_sub-before.ensures) in
    let inside : c.args.line < length lines + 1 + 1 = omega (arith, within, next) in
    let no : nat_lt (length lines + 1) c.args.line ≡ false = grind (arith, nat_tests) in
    rw no (c.index.ensures ∙ (ap (λ (l : List ℕ). get_or l (before - 1) found) is.ends
    ∙ (end_of workers lines (before - 1) found within ∙ ap (λ (n : ℕ). width_in workers (take n lines)) next)))
