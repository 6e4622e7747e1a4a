use Rattle.tlsf_heap.proofs.Common.{sym, ◌∙◌, ap, arith, false≢true, RegionState}
use Rattle.tlsf_heap.proofs.lemmas.words.Says.{shows_state, in_region, says_here, starts_here}
use Rattle.tlsf_heap.proofs.region.Region.begins.Goals as goal

pub returns-then-at-len-clause-yes : goal.returns-then-at-len-clause-yes
returns-then-at-len-clause-yes g c set = starts_here (shows_state g.row.SLI c.self.invariant c.self.view_is) c.len.ensures.words (omega (arith, c.if-at-len.true)) c.starts.ensures.value set

pub returns-then-at-len-clause-no : goal.returns-then-at-len-clause-no
returns-then-at-len-clause-no g c unset place = absurd (false≢true (sym unset ∙ c.starts.ensures.value ∙ (says_here (shows_state g.row.SLI c.self.invariant c.self.view_is) place.1).starts.first))

pub returns-then-at-len-clause-inside : goal.returns-then-at-len-clause-inside
returns-then-at-len-clause-inside g c set = omega (arith, c.if-at-len.true, c.len.ensures.words, ap (λ (r : RegionState). r.words) c.self.view_is)

pub returns-then-at-len-clause-rooms : goal.returns-then-at-len-clause-rooms
returns-then-at-len-clause-rooms g c = (shows_state g.row.SLI c.self.invariant c.self.view_is).rooms

pub returns-else-at-len-clause-no : goal.returns-else-at-len-clause-no
returns-else-at-len-clause-no g c past place = let inside = in_region (shows_state g.row.SLI c.self.invariant c.self.view_is) place in absurd (omega (arith, inside, past, c.len.ensures.words))

pub returns-else-at-len-clause-rooms : goal.returns-else-at-len-clause-rooms
returns-else-at-len-clause-rooms g c = (shows_state g.row.SLI c.self.invariant c.self.view_is).rooms
