use Rattle.tlsf_words.proofs.Common.{◌≡◌, ℕ, ◌+◌, ◌/◌, List, get_or, ap, ◌∙◌, arith, Memory}
use Rattle.std.proofs.Common.{rules}
use Rattle.tlsf_words.proofs.Bytes.{byte_in-moved}
use Rattle.tlsf_words.proofs.Changing.{whole_changes}
use Rattle.tlsf_words.proofs.words.Words.copy_words.Goals as goal

pub returns-clause-copied : goal.returns-clause-copied
returns-clause-copied c k low =
    let was : c.self.inside.words.words ≡ c.args.self.now.words = ap (λ (m : Memory). m.words) c.self.view_is in
    byte_in-moved _ _ c.args.from c.args.to k (c.copy.ensures.copied (k / 8) (omega arith) ∙ ap (λ (l : List ℕ). get_or l (c.args.from + k / 8) 0) was)

pub returns-clause-changes : goal.returns-clause-changes
returns-clause-changes c = whole_changes c.args.to (c.args.to + c.args.n) (search rules) (search rules) (search rules) (search rules) (search rules)
