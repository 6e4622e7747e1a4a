-- The entries of a run account for the most words that the calls want at once.
use Rattle.tlsf_held.proofs.Common.{◌≡◌, ℕ, ◌+◌, ◌<◌, ◌≤◌, Bool, true, false, cond, List, [], ◌∷◌, length, Ok, refl, sym, subst, arith, filter, not, want, Name, is_same, Inventory, inventory_after, Event, answers_on, calls_on, World, replies, accounted, account_of, no_loans, wanted_in, wanted_with, Account, IsMostWanted, WantAtMost}
use Rattle.tlsf_heap.specs.Calls as heap
use Rattle.tlsf_crew.proofs.lemmas.histories.AllEntries.{replies_tell}
use Rattle.tlsf_held.proofs.Entries.{after_all, entries_told}
use Rattle.tlsf_held.proofs.RowEntries.{account_after, entry_accounted, most_after, most_resized}

-- ---- the most words

kept_words : (test : Bool) (entry : Name × ℕ) (inventory rest : Inventory) → wanted_in rest ≤ wanted_in inventory → wanted_in (cond test (entry ∷ rest) rest) ≤ want entry.1 + wanted_in inventory
kept_words true entry inventory rest fewer = omega (arith, fewer)
kept_words false entry inventory rest fewer = omega (arith, fewer)

fewer_words : (name : Name) (inventory : Inventory) → wanted_in (filter (λ entry. not (is_same name entry.0)) inventory) ≤ wanted_in inventory
fewer_words name [] = omega arith
fewer_words name (entry ∷ inventory) = kept_words (not (is_same name entry.0)) entry inventory (filter (λ entry. not (is_same name entry.0)) inventory) (fewer_words name inventory)

given_words : (inventory : Inventory) (len : ℕ) (answer : heap.Answer) → wanted_in (inventory_after inventory (heap.Allocate len) answer) ≤ want len + wanted_in inventory
given_words inventory len (heap.Allocated (Ok name)) = omega arith
given_words inventory len answer = omega arith

freed_words : (inventory : Inventory) (name : Name) (answer : heap.Answer) → wanted_in (inventory_after inventory (heap.Release name) answer) ≤ wanted_in inventory
freed_words inventory name (heap.Released (Ok done)) = fewer_words name inventory
freed_words inventory name answer = omega arith

-- the inventory is that of the law
pub written_inventory : (inventory : Inventory) (name : Name) (at : ℕ) (bytes : List ℕ) (answer : heap.Answer) → inventory ≡ inventory_after inventory (heap.Write name at bytes) answer
written_inventory inventory name at bytes (heap.Allocated r) = refl
written_inventory inventory name at bytes answer = refl

pub read_inventory : (inventory : Inventory) (name : Name) (at n : ℕ) (answer : heap.Answer) → inventory ≡ inventory_after inventory (heap.Read name at n) answer
read_inventory inventory name at n (heap.Allocated r) = refl
read_inventory inventory name at n answer = refl

-- no more is wanted than the account has
abbrev IsWithin : Account → Type 0
IsWithin a = wanted_in a.inventory ≤ a.most

resized_words : (a : Account) (name : Name) (len : ℕ) (answer : heap.Answer) → IsWithin a → wanted_in (inventory_after a.inventory (heap.Resize name len) answer) ≤ most_resized a name len answer
resized_words a name len (heap.Resized (Ok done)) within = omega arith
resized_words a name len answer within = within

within_after : (a : Account) (call : heap.Call) (answer : heap.Answer) → IsWithin a → IsWithin (account_after a call answer)
within_after a (heap.Allocate len) answer within = omega (arith, given_words a.inventory len answer)
within_after a (heap.Release name) answer within = omega (arith, freed_words a.inventory name answer, within)
within_after a (heap.Resize name len) answer within = resized_words a name len answer within
within_after a call (heap.Allocated r) within = within
within_after a call answer within = within

wanted_first : (words : ℕ) (inventory : Inventory) (call : heap.Call) → wanted_with inventory call ≤ words → wanted_in inventory ≤ words
wanted_first words inventory (heap.Allocate len) upto = omega (arith, upto)
wanted_first words inventory call upto = upto

module _ (words : ℕ) where
  wanted_now : (inventory : Inventory) (calls : List heap.Call) (answers : List heap.Answer) → WantAtMost words inventory calls answers → wanted_in inventory ≤ words
  wanted_now inventory [] answers upto = upto
  wanted_now inventory (call ∷ calls) [] upto = upto
  wanted_now inventory (call ∷ calls) (answer ∷ answers) upto = wanted_first words inventory call upto.0

  resize_keeps : (a : Account) (name : Name) (len : ℕ) (answer : heap.Answer) → wanted_in (inventory_after a.inventory (heap.Resize name len) answer) ≤ words → a.most ≤ words → most_resized a name len answer ≤ words
  resize_keeps a name len (heap.Resized (Ok done)) upto most = omega (arith, upto, most)
  resize_keeps a name len answer upto most = most

  call_keeps : (a : Account) (call : heap.Call) (answer : heap.Answer) → wanted_with a.inventory call ≤ words → wanted_in (inventory_after a.inventory call answer) ≤ words → a.most ≤ words → most_after a call answer ≤ words
  call_keeps a (heap.Allocate len) answer upto behind most = omega (arith, upto, most)
  call_keeps a (heap.Resize name len) answer upto behind most = resize_keeps a name len answer behind most
  call_keeps a call answer upto behind most = most

  calls_keep : (a : Account) (calls : List heap.Call) (answers : List heap.Answer) → WantAtMost words a.inventory calls answers → a.most ≤ words → (after_all account_after a calls answers).most ≤ words
  calls_keep a [] answers upto most = most
  calls_keep a (call ∷ calls) [] upto most = most
  calls_keep a (call ∷ calls) (answer ∷ answers) upto most =
      let next = account_after a call answer in
      calls_keep next calls answers upto.1 (call_keeps a call answer upto.0 (wanted_now next.inventory calls answers upto.1) most)

  resize_kept : (a : Account) (name : Name) (len : ℕ) (answer : heap.Answer) → most_resized a name len answer ≤ words → a.most ≤ words
  resize_kept a name len (heap.Resized (Ok done)) most = omega (arith, most)
  resize_kept a name len answer most = most

  call_kept : (a : Account) (call : heap.Call) (answer : heap.Answer) → IsWithin a → most_after a call answer ≤ words → (wanted_with a.inventory call ≤ words) × (a.most ≤ words)
  call_kept a (heap.Allocate len) answer within most = (omega (arith, most), omega (arith, most))
  call_kept a (heap.Resize name len) answer within most = let was = resize_kept a name len answer most in (omega (arith, within, was), was)
  call_kept a call answer within most = (omega (arith, within, most), most)

  calls_kept : (a : Account) (calls : List heap.Call) (answers : List heap.Answer) → IsWithin a → (after_all account_after a calls answers).most ≤ words → WantAtMost words a.inventory calls answers × (a.most ≤ words)
  calls_kept a [] answers within most = (omega (arith, within, most), most)
  calls_kept a (call ∷ calls) [] within most = (omega (arith, within, most), most)
  calls_kept a (call ∷ calls) (answer ∷ answers) within most =
      let rest = calls_kept (account_after a call answer) calls answers (within_after a call answer within) most in
      let one = call_kept a call answer within rest.1 in
      ((one.0, rest.0), one.1)

most_wanted : (calls : List heap.Call) (answers : List heap.Answer) → IsMostWanted calls answers (after_all account_after no_loans calls answers).most
most_wanted calls answers words =
    ((λ upto. calls_keep words no_loans calls answers upto (omega arith)), (λ most. (calls_kept words no_loans calls answers (omega arith) most).0))

-- what the entries of a run account for is the most words that the calls on the heap want at once
pub account_bounds : {sli : ℕ} (w : World sli) (es : List Event) (j : ℕ) → j < length w.heaps
    → let r = replies w es in IsMostWanted (calls_on j r.made r.entries) (answers_on j r.entries) (account_of j r.made r.entries).most
account_bounds w es j inside =
    let r = replies w es in
    let calls = calls_on j r.made r.entries in
    let answers = answers_on j r.entries in
    subst (λ (a : Account). IsMostWanted calls answers a.most)
    (sym (entries_told account_after r.made (length w.heaps) j inside (accounted r.made) (entry_accounted r.made) no_loans r.entries (replies_tell w es).history.each)) (most_wanted calls answers)
