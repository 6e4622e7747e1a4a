use Rattle.std.proofs.Common.{vec_len}
use Rattle.tlsf_post.proofs.rounds.+come_back.Given as goal

abbrev pub decreases-come_back : goal.decreases-come_back
decreases-come_back l = vec_len l.posters.now
