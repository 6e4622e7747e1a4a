use Rattle.std.proofs.Common.{rules}
use Rattle.std.proofs.lemmas.Fn.{filter_same}
use Rattle.tlsf_held.proofs.rows.keep_used.Goals as goal

pub returns-clause-used : goal.returns-clause-used
returns-clause-used c = filter_same _ _ _ (λ x b f' k. search rules) _ _ c.retain.ensures.filtered
