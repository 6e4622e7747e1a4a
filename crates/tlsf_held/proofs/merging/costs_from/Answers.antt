use Rattle.tlsf_held.proofs.Common.{◌∙◌, ◌+◌, ◌^◌, ◌<◌, ◌≤◌, ℕ, List, inl, inr, ap, length, length-set, get_or-set_other, refl, subst, sym, arith, cases_eq, part_words, row_words, Row, Step}
use Rattle.tlsf_held.proofs.Costs.{set_here, zeros}
use Rattle.tlsf_held.proofs.merging.costs_from.Goals as goal

pub loop-last-init : goal.loop-last-init
loop-last-init g c = record { room = refl; are = λ k low below inside. absurd (omega (arith, low, below)); small = λ k. zeros 64 k }

pub loop-last-preserved : goal.loop-last-preserved
loop-last-preserved g c =
    let steps : List Step = c.args.steps.now in
    let table : List Row = c.args.table.now in
    let costs : List ℕ = c.loop-last.costs in
    let at : ℕ = c.args.at in
    let last : ℕ = c.loop-last.last in
    let words : ℕ = c.row_words.result in
    let inside : last < length costs = omega (arith, c.loop-last.invariant.room, c.requires.table.few, c.loop-last-test.true) in
    record {
      room = length-set costs last words ∙ c.loop-last.invariant.room;
      are = λ k low below within. elim (cases_eq k last) [
        | inl is ↦ set_here costs last k words inside is
            ∙ (c.row_words.ensures.words ∙ (ap (λ (row : Row). row_words g.row.SLI row) c.merged_row.ensures ∙ ap (λ (n : ℕ). part_words g.row.SLI steps table at (n + 1)) (sym is)))
        | inr ne ↦ get_or-set_other costs last k words 0 ne ∙ c.loop-last.invariant.are k low (omega (arith, ne, below)) within
      ];
      small = λ k. elim (cases_eq k last) [
        | inl is ↦ subst (λ (n : ℕ). n ≤ 2 ^ 32) (sym (set_here costs last k words inside is)) c.row_words.ensures.small
        | inr ne ↦ subst (λ (n : ℕ). n ≤ 2 ^ 32) (sym (get_or-set_other costs last k words 0 ne)) (c.loop-last.invariant.small k)
      ];
    }
