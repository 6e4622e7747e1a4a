use Rattle.tlsf_heap.proofs.Common.{Ok, Err, refl, sym, ◌∙◌, rules, false≢true, ◌↔◌, Result, IsOk, HeapState, IsLive, IsNamed, IsNameCheck, RefusesName, Name, Refusal, NoFit, Worn, Foreign, Stale, Range, NoRoom, Tag}
use Rattle.tlsf_heap.proofs.lemmas.calls.Named.{live_is}
use Rattle.tlsf_heap.proofs.lemmas.calls.Alter.{named_of}
use Rattle.tlsf_heap.proofs.heap.Heap.is_live.Goals as goal

-- where a name is refused, no live block has it
not_named : (h : HeapState) (name : Name) (why : Refusal) → RefusesName h name why → IsNamed h name → ⊥
not_named h name Foreign r is_named = r is_named.0
not_named h name Stale r is_named = false≢true (sym (r.1 is_named.1.0 is_named.1.1.within) ∙ is_named.1.1.here)
not_named h name NoFit r is_named = absurd r
not_named h name Worn r is_named = absurd r
not_named h name Range r is_named = absurd r
not_named h name NoRoom r is_named = absurd r

-- the check of a name tells whether it is live
live_if_found : (h : HeapState) (name : Name) (found : Result Tag Refusal) → IsNameCheck h name found → IsOk found ↔ IsLive h name
live_if_found h name (Ok tag) check = (λ _. live_is h name check.0, λ _. refl)
live_if_found h name (Err why) refuses = (λ e. absurd (false≢true e), λ live. absurd (not_named h name why refuses (named_of h name live)))

pub returns-clause-asks : goal.returns-clause-asks
returns-clause-asks g c =
    let both = live_if_found c.args.self.now.heap c.args.name c.check.result c.check.ensures.answer in
    record {
      live = search (rules, both.0, both.1);
      heap = search rules;
      touches = search rules;
      rise = search rules;
      leaves = search rules;
      forged = search rules;
    }
