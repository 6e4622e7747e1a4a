use Rattle.tlsf_picture.proofs.Common.{rules, ◌≡◌, ℕ, suc, ◌-◌, drop, get_or, None, subst, refl, ◌∙◌, arith, slice_index_or, label_of, known_in}
use Rattle.tlsf_picture.proofs.Labels.{one_more}
use Rattle.tlsf_picture.proofs.block_labels.BlockLabels.of.Goals as goal

pub loop-left-preserved : goal.loop-left-preserved
loop-left-preserved c =
    let made = c.args.made.now in
    let labels = c.args.labels.now in
    let i = c.loop-left.left - 1 in
    let is : c.loop-left.left ≡ suc i = omega (arith, c.loop-left-test.true) in
    let label : c.flatten.result ≡ slice_index_or labels i None = search rules in
    record {
      within = omega (arith, c.loop-left.invariant.within);
      known = c.in_ok-note.ensures
          ∙ one_more c.args.heap made labels c.loop-left.left i (known_in c.loop-left.known) c.flatten.result (get_or made i None)
          (omega (arith, is, c.loop-left.invariant.within)) is c.loop-left.invariant.known refl label;
    }

pub returns : goal.returns
returns c =
    let none : c.loop-left.left ≡ 0 = omega (arith, c.loop-left-test.false) in
    subst (λ (n : ℕ). known_in c.loop-left.known ≡ label_of c.args.heap (drop n c.args.made.now) (drop n c.args.labels.now)) none c.loop-left.invariant.known
