use Rattle.tlsf_picture.proofs.Common.{rules, ◌≡◌, suc, ◌-◌, None, ap, ◌∙◌, arith, slice_index_or, words_asked}
use Rattle.tlsf_picture.proofs.Lines.{asked_is}
use Rattle.tlsf_picture.proofs.plots.points.asked_by.Goals as goal

pub returns : goal.returns
returns c =
    let i = c.args.number - 1 in
    let is : c.args.number ≡ suc i = omega (arith, c.if-number-eq0.false) in
    let found : c.flatten-request.result ≡ slice_index_or c.args.requests.now i None = search rules in
    c.words_asked.ensures ∙ (ap words_asked c.request_of.ensures ∙ asked_is c.args.worker c.args.requests.now i c.args.number c.flatten-request.result is found)
