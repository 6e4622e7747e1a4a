use Rattle.tlsf_picture.proofs.Common.{ℕ, List, Option, ap, ◌∙◌, fold, max, bytes_asked, longest_among, request_of}
use Rattle.tlsf_lines.specs.declared.request.Request.{Request}
use Rattle.tlsf_picture.proofs.Lines.{of_lines}
use Rattle.tlsf_picture.proofs.plots.points.longest_of.Goals as goal

pub returns : goal.returns
returns c = λ trace is.
    c.longest_among.ensures ∙ (ap (λ (rs : List (Option Request)). longest_among c.args.worker rs) (c.deref.ensures.value ∙ is.requests)
    ∙ ap (λ (ns : List ℕ). fold max 0 ns) (of_lines (λ request. bytes_asked (request_of c.args.worker request)) trace.lines))
