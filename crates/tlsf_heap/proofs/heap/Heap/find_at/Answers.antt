use Rattle.tlsf_heap.proofs.Common.{◌≡◌, ℕ, ◌<◌, None, Some, Ok, refl, sym, ap, ◌∙◌, subst, arith, IsPlace, name_at, name_with, IsNameCheck, Shown, state_of}
use Rattle.tlsf_heap.proofs.lemmas.calls.ByPlace.{name_found, checked_here, live_here, live_not_wild}
use Rattle.tlsf_heap.proofs.lemmas.calls.Kept.{reads_both}
use Rattle.tlsf_words.proofs.Touching.{groups_then}
use Rattle.tlsf_heap.proofs.lemmas.calls.Frames.{finds_more, found_read}
use Rattle.tlsf_heap.proofs.heap.Heap.find_at.Goals as goal

pub returns-in_default-clause-found : goal.returns-in_default-clause-found
returns-in_default-clause-found g c = subst (λ (s : Shown). name_at s.heap c.args.at ≡ None) c.self.view_is (ap (name_with c.self.inside.id c.args.at) c.in_default.ensures.answer)

pub returns-clause-found : goal.returns-clause-found
returns-clause-found g c =
    let l = c.in-Some.ensures.answer in
    let h = state_of g.row.SLI c.self.inside in
    let mark = (rw c.live_at.ensures.reads.blocks at c.mark-serial.ensures.value) l.0 l.1.stands in
    subst (λ (s : Shown). (name_at s.heap c.args.at ≡ Some (record { heap = c.self.inside.id; at = c.args.at; serial = c.mark-serial.result })) × IsNameCheck s.heap (record { heap = c.self.inside.id; at = c.args.at; serial = c.mark-serial.result }) (Ok c.in-Some.own) × (c.args.at ≡ c.args.at) × (c.args.at < s.heap.words)) c.self.view_is
    (subst (λ (n : ℕ). (name_at h c.args.at ≡ Some (record { heap = c.self.inside.id; at = c.args.at; serial = n })) × IsNameCheck h (record { heap = c.self.inside.id; at = c.args.at; serial = n }) (Ok c.in-Some.own) × (c.args.at ≡ c.args.at) × (c.args.at < h.words)) (sym mark)
    (name_found h c.self.invariant.lawful.rooms l.1, checked_here h c.self.invariant.lawful.rooms l.1 l.2, refl, (live_here h c.self.invariant.lawful l.1).2))

pub returns-clause-wild : goal.returns-clause-wild
returns-clause-wild g c = live_not_wild (ap (λ (s : Shown). s.heap) c.self.view_is) c.self.invariant.lawful c.in-Some.ensures.answer.1 _ _

-- ---- what is kept

pub returns-in_default-clause-frame : goal.returns-in_default-clause-frame
returns-in_default-clause-frame g c =
    finds_more (omega arith) (omega arith) (found_read g.row.SLI c.self.inside c.self.view_is c.self.invariant _ c.live_at.ensures.reads c.live_at.ensures.touched c.live_at.ensures.groups)

pub returns-clause-frame : goal.returns-clause-frame
returns-clause-frame g c =
    let first = c.live_at.ensures.reads in
    found_read g.row.SLI c.self.inside c.self.view_is c.self.invariant _ (reads_both first c.mark-serial.ensures.reads) (λ k live. (rw first.blocks at c.mark-serial.ensures.touched) k live ∙ c.live_at.ensures.touched k live) (groups_then c.live_at.ensures.groups c.mark-serial.ensures.groups)

-- ---- groups of eight words

pub returns-in_default-clause-unread : goal.returns-in_default-clause-unread
returns-in_default-clause-unread g c none = c.live_at.ensures.unread (λ place. none (subst (λ (s : Shown). IsPlace s.heap.blocks c.args.at) c.self.view_is place)) ∙ ap (λ (s : Shown). s.touched) c.self.view_is

pub returns-clause-unread : goal.returns-clause-unread
returns-clause-unread g c none = absurd (none (subst (λ (s : Shown). IsPlace s.heap.blocks c.args.at) c.self.view_is (c.in-Some.ensures.answer.0, c.in-Some.ensures.answer.1.stands)))
