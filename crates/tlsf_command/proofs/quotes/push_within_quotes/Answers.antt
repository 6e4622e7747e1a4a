use Rattle.std.proofs.Common.{◌++◌, List, ℕ, rules, ap, arith, string_bytes}
use Rattle.tlsf_command.proofs.Quoting.{less_left, text_split, within_none}
use Rattle.tlsf_command.proofs.quotes.push_within_quotes.Goals as goal

pub loop-front-smaller : goal.loop-front-smaller
loop-front-smaller c =
    let found = c.in-Some.ensures.byte (omega arith) (λ w o finds. finds) in
    less_left c.in-Some.behind.now c.loop-front.left.now found.1 found.2

pub loop-front-preserved : goal.loop-front-preserved
loop-front-preserved c =
    let found = c.in-Some.ensures.byte (omega arith) (λ w o finds. finds) in
    let whole = text_split (string_bytes c.loop-front.word) c.in-Some.front.now c.in-Some.behind.now c.loop-front.left.now _ found.0 found.1 found.2 c.loop-front.invariant.text in
    record { utf8 = search rules; text = rw (c.in_ok-push_str-2.ensures.bytes, c.in_ok-push_str.ensures.bytes) whole }

pub returns : goal.returns
returns c =
    let none = c.in_default.ensures.byte (omega arith) (λ w o finds. finds) in
    let text = ap (λ (rest : List ℕ). string_bytes c.loop-front.word ++ rest) (within_none c.loop-front.left.now none) in
    rw c.in_ok-push_str-3.ensures.bytes (rw (← text) c.loop-front.invariant.text)
