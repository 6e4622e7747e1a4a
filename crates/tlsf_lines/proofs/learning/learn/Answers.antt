use Rattle.tlsf_lines.proofs.Common.{rules, ◌≡◌, ℕ, Option, None, get_or, take, ap, sym, ◌∙◌, Name, known_behind, known_in, with_line, Allocate}
use Rattle.tlsf_lines.proofs.NamesLearned.{behind_more_at}
use Rattle.tlsf_lines.proofs.learning.learn.Goals as goal

pub loop-k-preserved : goal.loop-k-preserved
loop-k-preserved c =
    let k = c.loop-k.k in
    let lines = c.args.lines.now in
    let made = c.args.made.now in
    let line = get_or lines k (Allocate 0 0 0) in
    let name : c.flatten.result ≡ get_or made k None = search rules in
    c.in_ok-learn_line.ensures ∙ (ap (λ (known : ℕ → Option Name). with_line known line c.flatten.result) c.loop-k.invariant
    ∙ (ap (λ (n : Option Name). with_line (known_behind (known_in c.args.names.now) (take k lines) made) line n) name
    ∙ sym (behind_more_at (known_in c.args.names.now) lines k made c.loop-k-test.true)))
