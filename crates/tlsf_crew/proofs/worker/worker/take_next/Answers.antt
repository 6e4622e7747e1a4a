use Rattle.std.proofs.Common.{refl, arith, Some, None}
use Rattle.tlsf_crew.proofs.lemmas.worker.Works.{works_ports, works_then}
use Rattle.tlsf_crew.proofs.worker.worker.take_next.Goals as goal

pub returns-clause-taken : goal.returns-clause-taken
returns-clause-taken g c =
    record {
      between = record { heap = c.args.worker.now.heap; id = c.args.worker.now.id; ports = c.take.new.self };
      post = Some c.in_ok-post.post;
      took = ((refl, refl), c.in_ok-post.ensures.took);
      then = c.release_post.ensures.released;
    }

pub returns-in_err-post-clause-taken : goal.returns-in_err-post-clause-taken
returns-in_err-post-clause-taken g c =
    record {
      between = record { heap = c.args.worker.now.heap; id = c.args.worker.now.id; ports = c.take.new.self };
      post = None;
      took = ((refl, refl), c.in_err-post.ensures.took);
      then = (c.from_residual.ensures, refl);
    }

pub returns-clause-within : goal.returns-clause-within
returns-clause-within g c = works_then _ 0 64 64 _ _ _ (works_ports _ _ _ _ c.in_ok-post.ensures.stays) c.release_post.ensures.within (omega arith)

pub returns-in_err-post-clause-within : goal.returns-in_err-post-clause-within
returns-in_err-post-clause-within g c = works_ports _ _ _ _ c.in_err-post.ensures.stays
