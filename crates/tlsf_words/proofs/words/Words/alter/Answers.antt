use Rattle.tlsf_words.proofs.Common.{◌≡◌, ℕ, List, length, get_or, ap, ◌∙◌, arith, Memory}
use Rattle.tlsf_words.proofs.Altered.{altered_before, altered_behind}
use Rattle.tlsf_words.proofs.words.Words.alter.Goals as goal

pub returns-clause-before : goal.returns-clause-before
returns-clause-before g c k low =
    let was : c.self.inside.words.words ≡ c.args.self.now.words = ap (λ (m : Memory). m.words) c.self.view_is in
    altered_before _ _ _ _ _ c.alter.ensures.words k low (omega (arith, c.requires.within, ap (λ (l : List ℕ). length l) was)) ∙ ap (λ (l : List ℕ). get_or l k 0) was

pub returns-clause-behind : goal.returns-clause-behind
returns-clause-behind g c k past =
    let was : c.self.inside.words.words ≡ c.args.self.now.words = ap (λ (m : Memory). m.words) c.self.view_is in
    let long = ap (λ (l : List ℕ). length l) was in
    altered_behind _ _ _ _ _ c.alter.ensures.words k past (omega (arith, c.requires.within, long)) c.alter.ensures.length ∙ ap (λ (l : List ℕ). get_or l k 0) was
