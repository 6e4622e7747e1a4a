-- A call on one part of several heaps leaves the others, the table and all memory.
use Rattle.tlsf_pool.proofs.Common.{◌≡◌, ℕ, ◌<◌, ◌↔◌, List, length, get_or, set, Option, Some, refl, sym, ap, ◌∙◌, subst, HeapState, IfSome, IsSomeAnd, Name, OnErr, OnOk, Result, Ok, Err, PoolRefusal, Release, Write, released, written, fixed_size, table_allocated, SameLedger, IsTabled, TableState, ArePools, PoolsState, named_in, part_at, part_in}
use Rattle.tlsf_heap.proofs.lemmas.calls.Outcomes.{by_allocated_words, ids}
use Rattle.tlsf_pool.specs.pools.Parts.{AtPart, OnPart}
use Rattle.tlsf_pool.specs.pools.Tables.{SameTable}
use Rattle.tlsf_pool.proofs.lemmas.pools.Heaps.{if_part, iff_part, is_part, kept, named_within, new_part, part_has}
use Rattle.tlsf_pool.proofs.lemmas.pools.WholeTable.{all_stay, rows_kept}

-- ---- the heap of the part keeps its number, its table and its memory

pub record KeepsPart (sli : ℕ) (old new : TableState) : Type 0 where
  pub is : IsTabled sli new
  pub number : new.heap.id ≡ old.heap.id
  pub kinds : new.ledger.kinds ≡ old.ledger.kinds
  pub heap : new.extents ≡ old.extents
  pub table : new.ledger.extents ≡ old.ledger.extents

pub keeps_same : {sli : ℕ} {old new : TableState} → IsTabled sli new → new.extents ≡ old.extents → SameLedger old new → KeepsPart sli old new
keeps_same is memory same = record {
  is = is;
  number = λ i. (same.heap i).id;
  kinds = λ i. (same.ledger i).kinds;
  heap = memory;
  table = λ i. (same.ledger i).extents;
}

pub keeps_taken : {sli : ℕ} {old new : TableState} (name : Name) → IsTabled sli new → new.extents ≡ old.extents → new.heap ≡ (released old.heap name).heap → SameTable old.ledger new.ledger → KeepsPart sli old new
keeps_taken {sli} {old} {new} name is memory heap limits = record { is = is; number = ap (λ (h : HeapState). h.id) heap ∙ ids 4 old.heap (Release name); kinds = limits.kinds; heap = memory; table = limits.stays }

pub keeps_written : {sli : ℕ} {old new : TableState} (name : Name) (at : ℕ) (bytes : List ℕ) → IsTabled sli new → new.extents ≡ old.extents → new.heap ≡ (written old.heap name at bytes).heap → new.ledger ≡ old.ledger → KeepsPart sli old new
keeps_written {sli} {old} {new} name at bytes is memory heap ledger = record {
  is = is;
  number = ap (λ (h : HeapState). h.id) heap ∙ ids 4 old.heap (Write name at bytes);
  kinds = λ i. (ledger i).kinds;
  heap = memory;
  table = λ i. (ledger i).extents;
}

pub keeps_given : {sli : ℕ} {old new : TableState} (len : ℕ) (answer : Result Name PoolRefusal) → IsTabled sli new → new.extents ≡ old.extents → OnOk answer (new.heap ≡ (table_allocated sli old.heap old.ledger len).heap) → OnErr answer (SameLedger old new)
    → SameTable old.ledger new.ledger → KeepsPart sli old new
keeps_given {sli} {old} {new} len answer is memory ok err limits = record { is = is; number = number answer ok err; kinds = limits.kinds; heap = memory; table = limits.stays }
  where
    number : (answer : Result Name PoolRefusal) → OnOk answer (new.heap ≡ (table_allocated sli old.heap old.ledger len).heap) → OnErr answer (SameLedger old new) → new.heap.id ≡ old.heap.id
    number (Ok name) ok err = ap (λ (h : HeapState). h.id) ok ∙ by_allocated_words sli (λ o. o.heap.id ≡ old.heap.id) old.heap (fixed_size sli old.ledger.kinds) len (λ why. refl) (λ s site fit. refl)
    number (Err why) ok err = λ i. (err.heap i).id

-- ---- which part it is, as it was found in what was read

pub named_part : (id : ℕ) (parts read : List TableState) (name : Name) (part : ℕ) → Some part ≡ named_in id read name → read ≡ parts → (named_in id parts name ≡ Some part) × (part < length parts)
named_part id parts read name part is same =
    let found : named_in id parts name ≡ Some part = sym (is ∙ ap (λ (ts : List TableState). named_in id ts name) same) in
    (found, (named_within id parts name part found).0)

pub long_part : (parts read : List TableState) (len part : ℕ) → Some part ≡ part_in read len → read ≡ parts → (part_in parts len ≡ Some part) × (part < length parts)
long_part parts read len part is same =
    let found : part_in parts len ≡ Some part = sym (is ∙ ap (λ (ts : List TableState). part_in ts len) same) in
    (found, (part_has parts len part found).0)

-- ---- so all are pools for the table, as before

module _ {sli : ℕ} {p : PoolsState} (part : ℕ) {old new : TableState} (are : ArePools sli p) (is : old ≡ get_or p.parts part old) (within : part < length p.parts) (keeps : KeepsPart sli old new) where
  abbrev left : PoolsState
  left = record { id = p.id; parts = set p.parts part new; extent = p.extent }

  own : old ≡ part_at p part
  own = is_part p part old within is

  pub pools_kept : ArePools sli left
  pools_kept = kept sli p part new are keeps.is (keeps.number ∙ ap (λ (t : TableState). t.heap.id) own)

  both : (R : TableState → TableState → Type 0) → R old new → R (part_at p part) (part_at left part)
  both R here = subst (λ (t : TableState). R (part_at p part) t) (new_part p part new within) (subst (λ (t : TableState). R t new) own here)

  pub at_part : (was : PoolsState) → p ≡ was → (R : TableState → TableState → Type 0) → R old new → AtPart sli was left part R
  at_part was seen R here = subst (λ (q : PoolsState). AtPart sli q left part R) seen (record {
    here = both R here;
    others = λ _. record { id = refl; parts = ap (λ (t : TableState). set p.parts part t) (new_part p part new within) };
    kinds = rows_kept p part old new within is keeps.kinds;
    stays = all_stay p part old new within is keeps.heap keeps.table;
    were_pools = are;
    pools = pools_kept;
  })

  pub on_part : (was : PoolsState) → p ≡ was → (of : PoolsState → Option ℕ) → of p ≡ Some part → (R : TableState → TableState → Type 0) → R old new → OnPart sli was left (of was) R
  on_part was seen of found R here =
      let done = at_part p refl R here in
      subst (λ (q : PoolsState). OnPart sli q left (of q) R) seen (record {
        here = if_part (λ i. R (part_at p i) (part_at left i)) (of p) part found done.here;
        others = if_part _ (of p) part found (done.others within);
        kinds = done.kinds;
        stays = done.stays;
        were_pools = are;
        pools = pools_kept;
      })

-- ---- a fact of the part that there is

module _ {sli : ℕ} {p : PoolsState} (part : ℕ) {old : TableState} (are : ArePools sli p) (is : old ≡ get_or p.parts part old) (within : part < length p.parts) (was : PoolsState) (seen : p ≡ was) (of : PoolsState → Option ℕ) (found : of p ≡ Some part) (P : TableState → Type 0) where
  pub told_by : {A : Type 0} → A ↔ P old → A ↔ IsSomeAnd (of was) (λ i. P (part_at was i))
  told_by {A} tells =
      subst (λ (q : PoolsState). A ↔ IsSomeAnd (of q) (λ i. P (part_at q i))) seen (iff_part (λ i. P (part_at p i)) (of p) part found (subst (λ (t : TableState). A ↔ P t) (is_part p part old within is) tells))

  pub found_in : P old → IfSome (of was) (λ i. P (part_at was i))
  found_in here = subst (λ (q : PoolsState). IfSome (of q) (λ i. P (part_at q i))) seen (if_part (λ i. P (part_at p i)) (of p) part found (subst P (is_part p part old within is) here))
