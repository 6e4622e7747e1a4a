-- The lists are those of the words, and the links of a place lie in no payload.
use Rattle.tlsf_heap.proofs.Common.{◌≡◌, ◌↔◌, true, ℕ, ◌+◌, List, ◌∷◌, sym, ap, ◌∙◌, subst, arith, Contains, without_place, RegionState, times, InGroups}
use Rattle.tlsf_words.proofs.Touching.{one_touch, times_other}
use Rattle.tlsf_heap.proofs.lemmas.words.Says.{holds_read}
use Rattle.tlsf_heap.proofs.lemmas.words.Links.{holds_state}
use Rattle.tlsf_heap.proofs.lemmas.words.Footprint.{header_apart}
use Rattle.tlsf_heap.proofs.region.Region.is_first.Goals as goal

pub is_first-requires : goal.is_first-requires
is_first-requires g c =
    let state = holds_state g.row.SLI c.self.invariant c.self.view_is in
    let class = c.requires.listed.0 in (
      omega arith,
      (c.self.invariant.threaded, (class, subst (λ (places : List ℕ). Contains places c.args.at) (state.lists class) c.requires.listed.1)),
    )

pub invariant_of-self : goal.invariant_of-self
invariant_of-self g c = holds_read g.row.SLI c.is_first.ensures.reads.words c.is_first.ensures.reads.starts c.self.invariant

pub returns-clause-first : goal.returns-clause-first
returns-clause-first g c class there =
    let state = holds_state g.row.SLI c.self.invariant c.self.view_is in
    let P : List ℕ → Type 0 = λ places. Contains places c.args.at → (c.is_first.result ≡ true) ↔ (places ≡ c.args.at ∷ without_place c.args.at places) in
    subst P (sym (state.lists class)) (c.is_first.ensures.first class) there

pub returns-clause-touched : goal.returns-clause-touched
returns-clause-touched g c k live =
    let state = holds_state g.row.SLI c.self.invariant c.self.view_is in
    let class = c.requires.listed.0 in
    let listed = subst (λ (places : List ℕ). Contains places c.args.at) (state.lists class) c.requires.listed.1 in
    ap (λ (l : List ℕ). times l k) c.is_first.ensures.reads.touched
    ∙ times_other (c.args.at + 2) k c.self.inside.words.touched (header_apart state.shows (state.free class c.args.at listed).1 2 (omega arith) k live)
    ∙ ap (λ (r : RegionState). times r.touched k) c.self.view_is

pub returns-clause-groups : goal.returns-clause-groups
returns-clause-groups g c = subst (λ (r : RegionState). InGroups 1 r.touched c.is_first.new.words.touched) c.self.view_is (one_touch (c.args.at + 2) c.is_first.ensures.reads.touched)
