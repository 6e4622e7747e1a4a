use Rattle.tlsf_heap.proofs.Common.{refl, ◌+◌, ◌*◌, ◌-◌, sym, subst, arith, Memory, words_for}
use Rattle.tlsf_heap.proofs.lemmas.words.Zeros.{Clears, clears_more}
use Rattle.tlsf_heap.proofs.payload.zero_bytes.Goals as goal
use Rattle.tlsf_heap.proofs.payload.zero_bytes.Goals.{then-from-gt0, else-from-gt0}

-- the rest of the first word, where a part of it stays
first : (c : goal.After-zero) → Clears c.args.words.now.words c.if-from-gt0.words.words (c.args.at + 3) (8 * (c.args.at + 3) + c.args.from) (c.args.at + 3 + c.div_ceil-first.result) (c.args.at + words_for c.args.to)
first c =
    let old = c.args.words.now.words in
    let from = 8 * (c.args.at + 3) + c.args.from in
    let word = c.args.at + 3 + c.div_ceil-first.result in
    let end = c.args.at + words_for c.args.to in
    let is = c.div_ceil-first.ensures in
    elim c.if-from-gt0.branch [
      | then-from-gt0 w ↦
          let z = w.zero_rest.ensures in
          subst (λ (m : Memory). Clears old m.words (c.args.at + 3) from word end) (sym w.words-is) (record {
            zero = λ k l g. z.zero k l (omega (arith, is, g));
            before = z.writes.changes.before;
            only = record {
              before = λ k h. z.writes.changes.words_before k (omega (arith, h));
              behind = λ k h. z.writes.changes.words_behind k (omega (arith, h, c.requires.some));
              length = z.writes.changes.length;
            };
          })
      | else-from-gt0 w ↦
          subst (λ (m : Memory). Clears old m.words (c.args.at + 3) from word end) (sym w.words-is) (record {
            zero = λ k l g. absurd (omega (arith, is, w.if-from-gt0.false, l, g));
            before = λ k h. refl;
            only = record { before = λ k h. refl; behind = λ k h. refl; length = refl };
          })
    ]

clears : (c : goal.After-zero) → Clears c.args.words.now.words c.zero.new.self.words (c.args.at + 3) (8 * (c.args.at + 3) + c.args.from) (c.args.at + 3 + c.div_ceil-first.result + (c.div_ceil.result - c.div_ceil-first.result)) (c.args.at + words_for c.args.to)
clears c = clears_more (c.div_ceil.result - c.div_ceil-first.result) (first c) (omega (arith, c.div_ceil-first.ensures)) (omega arith) (omega (arith, c.div_ceil-first.ensures, c.div_ceil.ensures)) c.requires.within c.zero.ensures.words

pub returns-clause-zero : goal.returns-clause-zero
returns-clause-zero c k low high = (clears c).zero k low (omega (arith, c.div_ceil-first.ensures, c.div_ceil.ensures))

pub returns-clause-before : goal.returns-clause-before
returns-clause-before c = (clears c).before

pub returns-clause-only : goal.returns-clause-only
returns-clause-only c = (clears c).only
