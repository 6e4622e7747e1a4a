use Rattle.std.proofs.Common.{refl}
use Rattle.tlsf_crew.proofs.worker.worker.post.Goals as goal

pub returns-then-name-worker : goal.returns-then-name-worker
returns-then-name-worker g c = record {
  posts = record { own = λ e. (refl, refl); there = λ ne has. absurd (ne c.if-name-worker.true); nowhere = λ ne no. absurd (ne c.if-name-worker.true); heap = refl };
  stays = (refl, refl);
}

pub returns-then-not-has_port : goal.returns-then-not-has_port
returns-then-not-has_port g c = record {
  posts = record { own = λ e. absurd (c.if-name-worker.false e); there = λ ne has. absurd (c.has_port.ensures.no c.if-not-has_port.true has); nowhere = λ ne no. (refl, refl); heap = refl };
  stays = (refl, refl);
}

pub returns : goal.returns
returns g c = record {
  posts = record {
    own = λ e. absurd (c.if-name-worker.false e);
    there = λ ne has. record { through = c.put.ensures.put; same = (refl, refl) };
    nowhere = λ ne no. absurd (no (c.has_port.ensures.yes c.if-not-has_port.false));
    heap = refl;
  };
  stays = (refl, c.put.ensures.stays);
}
