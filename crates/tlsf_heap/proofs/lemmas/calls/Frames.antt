-- The frame of a call, by those of its parts.
use Rattle.tlsf_heap.proofs.Common.{◌≡◌, ℕ, ◌+◌, ◌≤◌, Result, Ok, Err, OnErr, refl, ap, ◌∙◌, subst, arith, max, HeapState, LeavesLive, InGroups, RegionState, OnlyReads, Shown, IsStored, state_of, Inside, Refusal, words_in_use}
use Rattle.tlsf_heap.specs.Kept.{ChangesNothing, DoesPart, FindsOut, IsAsBefore, Keeps, Settles, SparesOthers}
use Rattle.tlsf_heap.specs.WordsInUse.{peak_of}
use Rattle.tlsf_heap.proofs.lemmas.blocks.Lawful.{with_region}
use Rattle.tlsf_heap.proofs.lemmas.calls.Kept.{shown_of, keeps_both, keeps_read, keeps_same}
use Rattle.tlsf_heap.proofs.lemmas.words.Footprint.{any_word}
use Rattle.tlsf_words.proofs.Touching.{no_groups, more_groups, groups_then}

on_err : {A E : Type 0} {P : Type 0} (answer : Result A E) → P → OnErr answer P
on_err (Ok done) p = tt
on_err (Err why) p = p

-- ---- what was found out

pub finds_more : {sli few many more wide : ℕ} {old new : Shown} → few ≤ more → many ≤ wide → FindsOut sli few many old new → FindsOut sli more wide old new
finds_more less narrow f = record { same = f.same; keeps = f.keeps; touches = omega (arith, f.touches); leaves = f.leaves; groups = more_groups narrow f.groups }

pub finds_both : {sli m n k l : ℕ} {first between last : Shown} → FindsOut sli m n first between → FindsOut sli k l between last → FindsOut sli (m + k) (n + l) first last
finds_both {first} {between} {last} a b = record {
  same = record { heap = b.same.heap ∙ a.same.heap; stored = b.same.stored ∙ a.same.stored; most_in_use = b.same.most_in_use ∙ a.same.most_in_use };
  keeps = keeps_both a.keeps b.keeps;
  touches = omega (arith, a.touches, b.touches);
  leaves = λ k live. subst (λ (h : HeapState). LeavesLive h.blocks between.touched last.touched) a.same.heap b.leaves k live ∙ a.leaves k live;
  groups = groups_then a.groups b.groups;
}

-- it touches no payload, so none of another block
pub spares_found : {A : Type 0} {sli few many at : ℕ} {old new : Shown} {answer : Result A Refusal} → FindsOut sli few many old new → SparesOthers at old new answer
spares_found {at = at} {old = old} {answer = answer} f = record { leaves = λ k o. f.leaves k (any_word old.heap.blocks at k o); refused = on_err answer f.leaves }

-- as many words were ever in use as before
pub same_peak : {sli : ℕ} {old new : Shown} → IsAsBefore old new → Keeps sli old new → old.most_in_use ≡ peak_of old new
same_peak same keeps = omega (arith, ap words_in_use same.heap, keeps.was_reached)

-- the call ends there
pub settles_found : {A : Type 0} {sli few many wide high : ℕ} {old new : Shown} {answer : Result A Refusal} → many ≤ wide → old.most_in_use ≡ high → FindsOut sli few many old new → Settles sli wide high old new answer
settles_found {answer = answer} narrow peak f = record { err = on_err answer f.same; keeps = f.keeps; peak = f.same.most_in_use ∙ peak; groups = more_groups narrow f.groups }

-- or goes on
settled_err : {A : Type 0} (old mid new : Shown) (answer : Result A Refusal) → IsAsBefore old mid → OnErr answer (IsAsBefore mid new) → OnErr answer (IsAsBefore old new)
settled_err old mid new (Ok done) same err = tt
settled_err old mid new (Err why) same err = record { heap = err.heap ∙ same.heap; stored = err.stored ∙ same.stored; most_in_use = err.most_in_use ∙ same.most_in_use }

pub settles_then : {A : Type 0} {sli few many more wide high top : ℕ} {old mid new : Shown} {answer : Result A Refusal} → many + more ≤ wide → high ≡ top → FindsOut sli few many old mid → Settles sli more high mid new answer → Settles sli wide top old new answer
settles_then {old = old} {mid = mid} {new = new} {answer = answer} narrow peak f s =
    record { err = settled_err old mid new answer f.same s.err; keeps = keeps_both f.keeps s.keeps; peak = s.peak ∙ peak; groups = more_groups narrow (groups_then f.groups s.groups) }

pub peak_after : (new : Shown) {sli few many : ℕ} {old mid : Shown} → FindsOut sli few many old mid → peak_of mid new ≡ peak_of old new
peak_after new f = ap (λ (n : ℕ). max n (words_in_use new.heap)) f.same.most_in_use

pub done_then : {A : Type 0} {sli few many more n wide : ℕ} {old mid new : Shown} {done : A} → many + more ≤ wide → FindsOut sli few many old mid → DoesPart sli n more mid new → Settles sli wide old.most_in_use old new (Ok done)
done_then narrow f p = record { err = tt; keeps = keeps_both f.keeps p.keeps; peak = p.most ∙ f.same.most_in_use; groups = more_groups narrow (groups_then f.groups p.groups) }

-- ---- by what the region shows

module _ (sli : ℕ) (h : Inside sli) {old : Shown} (same : shown_of sli h ≡ old) (was : IsStored sli h) where
  -- nothing was done
  pub found_none : FindsOut sli 0 0 old old
  found_none = record { same = record { heap = refl; stored = refl; most_in_use = refl }; keeps = keeps_same sli h same was; touches = omega arith; leaves = λ k live. refl; groups = no_groups refl }

  -- the region was only read
  abbrev with_read : RegionState → Shown
  with_read region = record { heap = with_region (state_of sli h) h.tick region; stored = region.stored; marked = region.marked; extents = region.extents; most_in_use = h.usage.most; touches = region.touches; touched = region.touched }

  same_read : (region : RegionState) {n : ℕ} → OnlyReads h.region region n → IsAsBefore old (with_read region)
  same_read region reads = subst (λ (s : Shown). IsAsBefore s (with_read region)) same (record { heap = rw (reads.words, reads.blocks) refl; stored = reads.stored; most_in_use = refl })

  pub nothing_read : (region : RegionState) {n : ℕ} → OnlyReads h.region region n → ChangesNothing sli old (with_read region)
  nothing_read region reads = record { same = same_read region reads; keeps = keeps_read sli h same was region reads }

  pub found_read : (region : RegionState) {n many : ℕ} → OnlyReads h.region region n → LeavesLive h.region.blocks h.region.touched region.touched → InGroups many h.region.touched region.touched → FindsOut sli n many old (with_read region)
  found_read region {n} {many} reads leaves groups = record {
    same = same_read region reads;
    keeps = keeps_read sli h same was region reads;
    touches = omega (arith, reads.touches, ap (λ (s : Shown). s.touches) same);
    leaves = subst (λ (s : Shown). LeavesLive s.heap.blocks s.touched region.touched) same leaves;
    groups = subst (λ (s : Shown). InGroups many s.touched region.touched) same groups;
  }
