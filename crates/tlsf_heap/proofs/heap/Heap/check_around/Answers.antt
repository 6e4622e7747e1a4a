use Rattle.tlsf_heap.proofs.Common.{ap, ◌∙◌, subst, arith, rules, MatchOption, IsPlace, FindsSound, Shown}
use Rattle.tlsf_heap.proofs.lemmas.words.Around.{checked_around}
use Rattle.tlsf_heap.proofs.lemmas.words.Undamaged.{begins_there}
use Rattle.tlsf_heap.proofs.lemmas.calls.Frames.{nothing_read}
use Rattle.tlsf_heap.proofs.heap.Heap.check_around.Goals as goal

pub returns-clause-checks : goal.returns-clause-checks
returns-clause-checks g c =
    let is = c.self.invariant in
    let answer = subst (λ (s : Shown). MatchOption c.check_around.result (¬ (IsPlace s.heap.blocks c.args.at)) (FindsSound s.heap.blocks c.args.at 1)) c.self.view_is
    (checked_around is.shows g.row.SLI is.listed is.linked is.lawful.apart c.args.at c.check_around.result c.check_around.ensures.answer) in
    record {
      sound = answer;
      looks = search rules;
      heap = search rules;
      touches = search rules;
      rise = search rules;
      leaves = search rules;
      wild = record {
        outside = search rules;
        nowhere = λ none.
            let unlooked = c.check_around.ensures.nowhere (λ begins. none (subst (λ (s : Shown). IsPlace s.heap.blocks c.args.at) c.self.view_is (begins_there c.self.invariant.shows begins))) in
            omega (arith, unlooked, ap (λ (s : Shown). s.touches) c.self.view_is);
      };
    }

pub returns-clause-frame : goal.returns-clause-frame
returns-clause-frame g c = nothing_read g.row.SLI c.self.inside c.self.view_is c.self.invariant _ c.check_around.ensures.reads

pub returns-clause-unread : goal.returns-clause-unread
returns-clause-unread g c none = c.check_around.ensures.unread (λ begins. none (subst (λ (s : Shown). IsPlace s.heap.blocks c.args.at) c.self.view_is (begins_there c.self.invariant.shows begins))) ∙ ap (λ (s : Shown). s.touched) c.self.view_is
