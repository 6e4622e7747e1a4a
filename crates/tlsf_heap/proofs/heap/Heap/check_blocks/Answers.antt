use Rattle.tlsf_heap.proofs.Common.{ap, ◌∙◌, subst, arith, rules, MatchOption, IsPlace, FindsSound, Shown}
use Rattle.tlsf_heap.proofs.lemmas.words.Undamaged.{checked_sound, begins_there}
use Rattle.tlsf_heap.proofs.lemmas.calls.Frames.{nothing_read}
use Rattle.tlsf_heap.proofs.heap.Heap.check_blocks.Goals as goal

pub returns-clause-frame : goal.returns-clause-frame
returns-clause-frame g c = nothing_read g.row.SLI c.self.inside c.self.view_is c.self.invariant _ c.check.ensures.reads

pub returns-clause-checks : goal.returns-clause-checks
returns-clause-checks g c =
    let is = c.self.invariant in
    let answer = subst (λ (s : Shown). MatchOption c.check.result (¬ (IsPlace s.heap.blocks c.args.from)) (FindsSound s.heap.blocks c.args.from c.args.most)) c.self.view_is
    (checked_sound is.shows g.row.SLI is.listed is.linked is.lawful.apart c.args.from c.args.most c.check.result c.check.ensures.answer) in
    record {
      sound = answer;
      looks = search rules;
      heap = search rules;
      touches = search rules;
      few = search rules;
      rise = search rules;
      leaves = search rules;
      wild = record {
        outside = search rules;
        nowhere = λ none.
            let unlooked = c.check.ensures.nowhere (λ begins. none (subst (λ (s : Shown). IsPlace s.heap.blocks c.args.from) c.self.view_is (begins_there c.self.invariant.shows begins))) in
            omega (arith, unlooked, ap (λ (s : Shown). s.touches) c.self.view_is);
      };
    }

pub returns-clause-unread : goal.returns-clause-unread
returns-clause-unread g c none = c.check.ensures.unread (λ begins. none (subst (λ (s : Shown). IsPlace s.heap.blocks c.args.from) c.self.view_is (begins_there c.self.invariant.shows begins))) ∙ ap (λ (s : Shown). s.touched) c.self.view_is
