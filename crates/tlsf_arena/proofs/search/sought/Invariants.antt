use denote.RawPtr.{count_of}
use Rattle.tlsf_arena.proofs.Searching.{Halves}
use Rattle.tlsf_arena.proofs.search.sought.Given as goal

abbrev pub invariant-halves : goal.invariant-halves
invariant-halves l = Halves l.fn.compared.count l.compared.count l.units l.unit (count_of l.base) (count_of l.ptr) l.at l.count

abbrev pub decreases-halves : goal.decreases-halves
decreases-halves l = l.count
