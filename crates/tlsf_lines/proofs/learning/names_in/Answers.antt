use Rattle.tlsf_lines.proofs.Common.{rules, name_made}
use Rattle.std.proofs.lemmas.Iterator.{YieldsList-from_slice}
use Rattle.std.proofs.lemmas.Iterator.Adapters.{items_from_extend}
use Rattle.std.proofs.lemmas.Iterator.Consumers.{YieldsList-from_filter_map}
use Rattle.tlsf_lines.proofs.learning.names_in.Goals as goal

pub returns : goal.returns
returns c =
    let all = items_from_extend c.extend.result c.extend.ensures.ran (YieldsList-from_filter_map _ name_made (YieldsList-from_slice c.args.entries.now (cc)) (cc) (λ x r q k. search rules)) in
    search rules
