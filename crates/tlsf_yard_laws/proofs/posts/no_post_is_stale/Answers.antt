use Rattle.tlsf_yard_laws.proofs.NoStale.{none_stale}
use Rattle.tlsf_yard_laws.proofs.posts.no_post_is_stale.Goals as goal

pub returns : goal.returns
returns c = none_stale
