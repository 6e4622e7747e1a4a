use Rattle.std.proofs.Common.{◌≡◌, ◌++◌, drop, map}
use Rattle.tlsf_command.specs.SizeQuestions.{kinds_in}
use Rattle.tlsf_command.proofs.size_question.kinds_of.Given as goal

-- the kinds so far and those of the texts that are left are all
abbrev pub invariant-loop-index : goal.invariant-loop-index
invariant-loop-index l = record {
  so_far : l.kinds.items ++ kinds_in (map (λ text. text.now) (drop l.index l.blocks)) (map (λ text. text.now) (drop l.index l.bytes))
      ≡ kinds_in (map (λ text. text.now) l.blocks) (map (λ text. text.now) l.bytes);
}
