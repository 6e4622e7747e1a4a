-- The tallies are the least bounds of the calls that the entries tell.
use Rattle.tlsf_held.proofs.Common.{◌≡◌, ℕ, ◌+◌, ◌<◌, ◌≤◌, true≢false, List, [], ◌∷◌, length, max, Option, Result, Ok, Err, refl, sym, subst, arith, is_ok, is_some, Name, Refusal, AreModest, IsModest, Allocate, Release, Write, Read, Resize, Take, Drain, Heap, Event, Reply, Made, Freed, Resized, Took, Refused, answer_told, answers_on, call_on_own, calls_on, meant, name_on_heap, World, replies, AreLeastBounds, no_calls, noted, tally_of, with_release}
use Rattle.tlsf_heap.specs.Calls as heap
use Rattle.tlsf_pool.specs.laws.Held.{held_after}
use Rattle.tlsf_calls.specs.Bytes.{bytes_of}
use Rattle.tlsf_calls.specs.declared.call.Call.{Call}
use Rattle.tlsf_crew.proofs.lemmas.histories.AllEntries.{replies_tell}
use Rattle.tlsf_held.specs.declared.tally.Tally.{Tally}
use Rattle.tlsf_held.proofs.Entries.{after_all, after_one, by_call, entries_told, no_answer, quiet}

-- ---- by the calls on the heap and its answers

abbrev most_after : Tally → heap.Call → ℕ
most_after t (heap.Allocate n) = max t.most (t.held + 1)
most_after t call = t.most

abbrev longest_after : Tally → heap.Call → ℕ
longest_after t (heap.Allocate n) = max t.longest n
longest_after t (heap.Resize name n) = max t.longest n
longest_after t call = t.longest

-- a call more
abbrev tally_after : Tally → heap.Call → heap.Answer → Tally
tally_after t call answer = record { held = held_after t.held call answer; most = most_after t call; longest = longest_after t call }

-- ---- one entry

written : (t : Tally) (at : ℕ) (bytes : List ℕ) (name : Name) (answer : heap.Answer) → t ≡ tally_after t (heap.Write name at bytes) answer
written t at bytes name (heap.Allocated r) = refl
written t at bytes name answer = refl

read : (t : Tally) (at n : ℕ) (name : Name) (answer : heap.Answer) → t ≡ tally_after t (heap.Read name at n) answer
read t at n name (heap.Allocated r) = refl
read t at n name answer = refl

of_post : (t : Tally) (name : Name) (r : Result (Unit {0}) Refusal) → with_release t (is_ok r) ≡ tally_after t (heap.Release name) (heap.Released r)
of_post t name (Ok done) = refl
of_post t name (Err why) = refl

-- what is noted of an entry that tells an answer of its worker's heap where it tells a call
entry_noted : (made : List (Option Name)) (at : ℕ) (t : Tally) (call : Call) (reply : Reply) → is_some (call_on_own made at call reply) ≡ is_some (answer_told call reply)
    → noted t call reply ≡ after_one tally_after t (call_on_own made at call reply) (answer_told call reply)
entry_noted made at t (Allocate len) (Made name) even = refl
entry_noted made at t (Allocate len) (Refused (Heap why)) even = refl
entry_noted made at t (Allocate len) reply even = absurd (true≢false even)
entry_noted made at t (Release target) Freed even = by_call tally_after t _ heap.Release (name_on_heap at (meant made target Freed)) (heap.Released (Ok tt)) even (λ name. refl)
entry_noted made at t (Release target) (Refused (Heap why)) even =
    by_call tally_after t _ heap.Release (name_on_heap at (meant made target (Refused (Heap why)))) (heap.Released (Err why)) even (λ name. refl)
entry_noted made at t (Release target) reply even = no_answer tally_after t (call_on_own made at (Release target) reply)
entry_noted made at t (Write target from bytes) reply even =
    quiet tally_after t (λ name. heap.Write name from (bytes_of bytes)) (meant made target reply) (answer_told (Write target from bytes) reply) (written t from (bytes_of bytes))
entry_noted made at t (Read target from n) reply even =
    quiet tally_after t (λ name. heap.Read name from n) (meant made target reply) (answer_told (Read target from n) reply) (read t from n)
entry_noted made at t (Resize target len) Resized even =
    by_call tally_after t _ (λ name. heap.Resize name len) (meant made target Resized) (heap.Resized (Ok tt)) even (λ name. refl)
entry_noted made at t (Resize target len) (Refused (Heap why)) even =
    by_call tally_after t _ (λ name. heap.Resize name len) (meant made target (Refused (Heap why))) (heap.Resized (Err why)) even (λ name. refl)
entry_noted made at t (Resize target len) reply even = no_answer tally_after t (call_on_own made at (Resize target len) reply)
entry_noted made at t (Take from) (Took took) even = of_post t took.name took.answer
entry_noted made at t (Take from) reply even = refl
entry_noted made at t (Drain most) reply even = refl

-- ---- the least bounds

-- a tally is within two bounds
abbrev IsWithin : ℕ → ℕ → Tally → Type 0
IsWithin m n t = (t.most ≤ m) × (t.longest ≤ n)

module _ (m n : ℕ) where
  call_keeps : (t : Tally) (call : heap.Call) (answer : heap.Answer) → IsModest m n t.held call → IsWithin m n t → IsWithin m n (tally_after t call answer)
  call_keeps t (heap.Allocate len) answer modest within = (omega (arith, modest.1, within.0), omega (arith, modest.0, within.1))
  call_keeps t (heap.Resize name len) answer modest within = (within.0, omega (arith, modest, within.1))
  call_keeps t call answer modest within = within

  call_kept : (t : Tally) (call : heap.Call) (answer : heap.Answer) → IsWithin m n (tally_after t call answer) → IsModest m n t.held call × IsWithin m n t
  call_kept t (heap.Allocate len) answer within = ((omega (arith, within.1), omega (arith, within.0)), (omega (arith, within.0), omega (arith, within.1)))
  call_kept t (heap.Resize name len) answer within = (omega (arith, within.1), (within.0, omega (arith, within.1)))
  call_kept t call answer within = (tt, within)

  calls_keep : (t : Tally) (calls : List heap.Call) (answers : List heap.Answer) → AreModest m n t.held calls answers → IsWithin m n t → IsWithin m n (after_all tally_after t calls answers)
  calls_keep t [] answers modest within = within
  calls_keep t (call ∷ calls) [] modest within = within
  calls_keep t (call ∷ calls) (answer ∷ answers) modest within =
      calls_keep (tally_after t call answer) calls answers modest.1 (call_keeps t call answer modest.0 within)

  calls_kept : (t : Tally) (calls : List heap.Call) (answers : List heap.Answer) → IsWithin m n (after_all tally_after t calls answers) → AreModest m n t.held calls answers × IsWithin m n t
  calls_kept t [] answers within = (tt, within)
  calls_kept t (call ∷ calls) [] within = (tt, within)
  calls_kept t (call ∷ calls) (answer ∷ answers) within =
      let rest = calls_kept (tally_after t call answer) calls answers within in
      let one = call_kept t call answer rest.1 in
      ((one.0, rest.0), one.1)

least : (calls : List heap.Call) (answers : List heap.Answer)
    → AreLeastBounds calls answers (after_all tally_after no_calls calls answers).most (after_all tally_after no_calls calls answers).longest
least calls answers m n =
    ((λ modest. calls_keep m n no_calls calls answers modest (omega arith, omega arith)), (λ within. (calls_kept m n no_calls calls answers within).0))

-- what the entries of a run tell of a heap comes to its least bounds
pub tally_bounds : {sli : ℕ} (w : World sli) (es : List Event) (j : ℕ) → j < length w.heaps
    → let r = replies w es in AreLeastBounds (calls_on j r.made r.entries) (answers_on j r.entries) (tally_of j r.entries).most (tally_of j r.entries).longest
tally_bounds w es j inside =
    let r = replies w es in
    let calls = calls_on j r.made r.entries in
    let answers = answers_on j r.entries in
    subst (λ (t : Tally). AreLeastBounds calls answers t.most t.longest)
    (sym (entries_told tally_after r.made (length w.heaps) j inside noted (entry_noted r.made) no_calls r.entries (replies_tell w es).history.each)) (least calls answers)
