-- Which payloads a call by name on pools leaves: of the part that the name names what its heap leaves, and of the others all.
use Rattle.tlsf_c.proofs.Common.{◌≡◌, ◌≢◌, ℕ, List, Option, Some, None, Result, inl, inr, refl, sym, ap, ◌∙◌, subst, get_or, IfSome, LeavesLive, LeavesPayloads, Name, Refusal, ReleasesInPools, WritesInPools, ReadsInPools, PartsLeavePayloads}
use Rattle.std.proofs.lemmas.Bool.Decides.{eqb_tells}
use Rattle.std.proofs.lemmas.List.{get_or-set_other}
use Rattle.std.proofs.lemmas.Option.{IfSome_then}
use Rattle.tlsf_words.specs.Touched.{times}
use Rattle.tlsf_pool.specs.pools.Parts.{PoolsState, OnlyPart, no_part, part_at, part_named}
use Rattle.tlsf_pool.specs.pools.Tables.{TableState}

-- another part is as it was
other_part : (old new : PoolsState) (i j : ℕ) → OnlyPart old new i → j ≢ i → part_at new j ≡ part_at old j
other_part old new i j only apart = ap (λ (l : List TableState). get_or l j no_part) only.parts ∙ get_or-set_other old.parts i j (part_at new i) no_part apart

module _ (old new : PoolsState) (name : Name) where
  abbrev LeavesAt : ℕ → Type 0
  LeavesAt i = LeavesPayloads (part_at old i).heap.blocks name.at (part_at old i).touched (part_at new i).touched

  there_in : (o : Option ℕ) → IfSome o LeavesAt → IfSome o (OnlyPart old new) → (o ≡ None → new ≡ old) → (j : ℕ) → LeavesAt j
  there_in None left only none j = λ k others. ap (λ (p : PoolsState). times (part_at p j).touched k) (none refl)
  there_in (Some i) left only none j = elim (eqb_tells j i) [
    | inl e ↦ subst LeavesAt (sym e.1) left
    | inr e ↦ λ k others. ap (λ (t : TableState). times t.touched k) (other_part old new i j only e.1)
  ]

  elsewhere_in : (o : Option ℕ) → IfSome o (OnlyPart old new) → (o ≡ None → new ≡ old)
      → (j : ℕ) → o ≢ Some j → LeavesLive (part_at old j).heap.blocks (part_at old j).touched (part_at new j).touched
  elsewhere_in None only none j apart = λ k live. ap (λ (p : PoolsState). times (part_at p j).touched k) (none refl)
  elsewhere_in (Some i) only none j apart = λ k live. ap (λ (t : TableState). times t.touched k) (other_part old new i j only (λ e. apart (ap Some (sym e))))

  by_name : IfSome (part_named old name) LeavesAt → IfSome (part_named old name) (OnlyPart old new) → (part_named old name ≡ None → new ≡ old) → PartsLeavePayloads old new name
  by_name left only none = record { there = there_in (part_named old name) left only none; elsewhere = elsewhere_in (part_named old name) only none }

  pub release_left : (answer : Result (Unit {0}) Refusal) → ReleasesInPools old new name answer → PartsLeavePayloads old new name
  release_left answer is = by_name (IfSome_then (part_named old name) is.releases (λ i r. r.releases.leaves)) is.others (λ e. (is.foreign e).1)

  pub write_left : (at : ℕ) (bytes : List ℕ) (answer : Result (Unit {0}) Refusal) → WritesInPools old new name at bytes answer → PartsLeavePayloads old new name
  write_left at bytes answer is = by_name (IfSome_then (part_named old name) is.writes (λ i w. w.writes.leaves)) is.others (λ e. (is.foreign e).1)

  pub read_left : (at : ℕ) (bytes filled : List ℕ) (answer : Result (Unit {0}) Refusal) → ReadsInPools old new name at bytes filled answer → PartsLeavePayloads old new name
  read_left at bytes filled answer is = by_name (IfSome_then (part_named old name) is.reads (λ i r. r.reads.leaves)) is.others (λ e. (is.foreign e).2)
