use Rattle.std.proofs.Common.{Some, ap, sym, ◌∙◌}
use Rattle.tlsf_lines.proofs.LineJudged.{with_keyword, without_feed, without_keyword}
use Rattle.tlsf_lines.proofs.line.judge_line.Goals as goal

pub returns-in_default-clause-line : goal.returns-in_default-clause-line
returns-in_default-clause-line c = λ before remembers. without_feed c.args.workers before c.args.piece.now (sym c.in_default.ensures)

pub returns-in_default-keyword_of-clause-line : goal.returns-in_default-keyword_of-clause-line
returns-in_default-keyword_of-clause-line c = λ before remembers.
    without_keyword c.args.workers before c.args.piece.now _ _ (sym c.in-Some.ensures ∙ ap (λ fields. Some fields) c.cut_field.ensures)
    (sym c.keyword_of.ensures ∙ c.in_default-keyword_of.is)

pub returns-in_default-parse_fields-clause-line : goal.returns-in_default-parse_fields-clause-line
returns-in_default-parse_fields-clause-line c = λ before remembers.
    with_keyword c.args.workers before c.args.piece.now _ _ _ _ (sym c.in-Some.ensures ∙ ap (λ fields. Some fields) c.cut_field.ensures)
    (sym c.keyword_of.ensures ∙ c.in-Some-keyword_of.is) (sym c.parse_fields.ensures ∙ c.in_default-parse_fields.is)

pub returns-in_default-said-clause-line : goal.returns-in_default-said-clause-line
returns-in_default-said-clause-line c = λ before remembers.
    with_keyword c.args.workers before c.args.piece.now _ _ _ _ (sym c.in-Some.ensures ∙ ap (λ fields. Some fields) c.cut_field.ensures)
    (sym c.keyword_of.ensures ∙ c.in-Some-keyword_of.is)
    (sym c.parse_fields.ensures ∙ (c.in-Some-parse_fields.is ∙ ap (λ said. Some said) c.in_default-said.is))

pub returns-in-None-clause-line : goal.returns-in-None-clause-line
returns-in-None-clause-line c = λ before remembers.
    let order = sym (c.in-None.ensures.order before remembers) in
    let judged_is = with_keyword c.args.workers before c.args.piece.now _ _ _ _ (sym c.in-Some.ensures ∙ ap (λ fields. Some fields) c.cut_field.ensures)
    (sym c.keyword_of.ensures ∙ c.in-Some-keyword_of.is)
    (sym c.parse_fields.ensures ∙ (c.in-Some-parse_fields.is ∙ ap (λ said. Some said) c.in-Some-said.is)) in
    rw order at judged_is

pub returns-in-Some-judge-clause-line : goal.returns-in-Some-judge-clause-line
returns-in-Some-judge-clause-line c = λ before remembers.
    let order = sym (c.in-Some-judge.ensures.order before remembers) in
    let judged_is = with_keyword c.args.workers before c.args.piece.now _ _ _ _ (sym c.in-Some.ensures ∙ ap (λ fields. Some fields) c.cut_field.ensures)
    (sym c.keyword_of.ensures ∙ c.in-Some-keyword_of.is)
    (sym c.parse_fields.ensures ∙ (c.in-Some-parse_fields.is ∙ ap (λ said. Some said) c.in-Some-said.is)) in
    rw order at judged_is
