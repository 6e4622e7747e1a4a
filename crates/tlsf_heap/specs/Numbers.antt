-- The numbers that stand for refusals and faults.
use Rattle.std.specs.Prelude.{ℕ}
use Rattle.tlsf_heap.specs.declared.refusal.Refusal.{Refusal}
use Rattle.tlsf_heap.specs.declared.refusal.Refusal.TheVariants.{NoFit, Worn, Foreign, Stale, Range, NoRoom}
use Rattle.tlsf_heap.specs.declared.open_fault.OpenFault.{OpenFault}
use Rattle.tlsf_heap.specs.declared.open_fault.OpenFault.TheVariants as fault

abbrev pub number_of : Refusal → ℕ
number_of NoFit = 1
number_of Worn = 2
number_of Foreign = 3
number_of Stale = 4
number_of Range = 7
number_of NoRoom = 10

abbrev pub fault_number_of : OpenFault → ℕ
fault_number_of fault.BadSize = 5
fault_number_of fault.Worn = 2
fault_number_of fault.NoMemory = 6
