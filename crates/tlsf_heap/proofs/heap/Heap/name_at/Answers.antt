use Rattle.tlsf_heap.proofs.Common.{rules}
use Rattle.tlsf_heap.proofs.lemmas.calls.Named.{live_is}
use Rattle.tlsf_heap.proofs.heap.Heap.name_at.Goals as goal

pub returns-in-None-clause-names : goal.returns-in-None-clause-names
returns-in-None-clause-names g c =
    record {
      answer_is = search rules;
      live = search rules;
      heap = search rules;
      touches = search rules;
      rise = search rules;
      leaves = search rules;
      wild = search rules;
      unread = search rules;
    }

pub returns-in-Some-clause-names : goal.returns-in-Some-clause-names
returns-in-Some-clause-names g c =
    let f = c.in-Some.ensures.found in
    record {
      answer_is = search rules;
      live = (live_is c.args.self.now.heap c.in-Some.block.0 f.1.0, f.2, f.3);
      heap = search rules;
      touches = search rules;
      rise = search rules;
      leaves = search rules;
      wild = search rules;
      unread = search rules;
    }
