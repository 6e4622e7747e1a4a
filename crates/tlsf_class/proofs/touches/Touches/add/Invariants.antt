use Rattle.std.proofs.Common.{◌≡◌, ◌+◌}
use Rattle.tlsf_class.proofs.touches.Touches.add.Given as goal

abbrev pub invariant-loop-i : goal.invariant-loop-i
invariant-loop-i l = l.self.count ≡ l.initial.self.count + l._i
