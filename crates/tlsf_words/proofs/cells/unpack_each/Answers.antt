use Rattle.tlsf_words.proofs.Common.{arith, ◌∙◌, inl, inr, ◌*◌, cases_lt}
use Rattle.tlsf_words.proofs.Touching.{within_then}
use Rattle.tlsf_words.proofs.cells.unpack_each.Goals as goal

pub loop-i-preserved : goal.loop-i-preserved
loop-i-preserved c = record {
  bytes = λ k h. elim (cases_lt k (8 * c.loop-i.i)) [
    | inl low ↦ c.unpack_one.ensures.bytes.before k low ∙ c.loop-i.invariant.bytes k low
    | inr from ↦ c.unpack_one.ensures.bytes.filled k from (omega arith)
  ];
  tally = within_then _ _ _ c.loop-i.invariant.tally c.unpack_one.ensures.tally (omega arith) (omega arith) (omega arith) (omega arith) (omega arith);
}
