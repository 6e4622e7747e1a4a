use Rattle.tlsf_picture.proofs.Common.{◌≡◌, ◌≤◌, length, drop, label_of, known_in}
use Rattle.tlsf_picture.proofs.block_labels.BlockLabels.of.Given as goal

-- the labels of the events from here on are known
abbrev pub invariant-loop-left : goal.invariant-loop-left
invariant-loop-left l = record {
  within : l.left ≤ length l.made;
  known : known_in l.known ≡ label_of l.heap (drop l.left l.made) (drop l.left l.labels);
}

abbrev pub decreases-loop-left : goal.decreases-loop-left
decreases-loop-left l = l.left
