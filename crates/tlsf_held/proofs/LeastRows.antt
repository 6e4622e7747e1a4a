-- The rows that calls come to are the least that they keep within.
use Rattle.tlsf_held.proofs.Common.{◌≡◌, ◌≢◌, ◌⊎◌, ◌==◌, ℕ, ◌<◌, Bool, true, false, cond, List, [], ◌∷◌, length, get_or, max, replicate, Ok, inl, inr, refl, sym, ap, ap₂, ◌∙◌, subst, arith, filter, not, cases_eq, cases_lt, eqb-true, nat_tests, get_or-set_other, length-set, Call, Answer, Allocated, Released, Name, is_same, Inventory, inventory_after, lengths, with_length, lengths_with, IsLeastRow, IsOfRow, KeepWithin, with_lengths, joined, no_row, row_in, with_one, IsWithin, Row}
use Rattle.std.proofs.lemmas.Grind.{get_or-set_at}
use Rattle.std.proofs.lemmas.List.{get_or-replicate, length-replicate}
use Rattle.tlsf_heap.specs.Calls.{Allocate, Release, Write, Resize, Read, Resized}
use Rattle.tlsf_held.proofs.MostWanted.{read_inventory, written_inventory}
use Rattle.tlsf_held.proofs.RowEntries.{rows_after, rows_after_all, rows_behind}

zero_max : (n : ℕ) → max 0 n ≡ n
zero_max n = omega arith

max_zero : (n : ℕ) → max n 0 ≡ n
max_zero n = omega arith

-- ---- the order of rows

pub same_within : (r : Row) → IsWithin r r
same_within r = (omega arith, omega arith)

pub within_trans : (a b c : Row) → IsWithin a b → IsWithin b c → IsWithin a c
within_trans a b c p q = (omega (arith, p.0, q.0), omega (arith, p.1, q.1))

-- ---- how many rows there are

module _ (row : ℕ → ℕ) where
  pub noted_whole : (rows : List Row) (len : ℕ) (lens : List ℕ) → length (with_lengths row rows len lens) ≡ length rows
  noted_whole rows len lens = length-set rows (row len) (joined (get_or rows (row len) no_row) (row_in row (row len) lens))

  behind_whole : (rows : List Row) (len : ℕ) (answer : Answer) (inventory : Inventory) → length (rows_behind row rows len answer inventory) ≡ length rows
  behind_whole rows len (Resized (Ok done)) inventory = noted_whole rows len (lengths inventory)
  behind_whole rows len answer inventory = refl

  after_whole : (rows : List Row) (call : Call) (answer : Answer) (inventory behind : Inventory) → length (rows_after row rows call answer inventory behind) ≡ length rows
  after_whole rows (Allocate len) answer inventory behind = noted_whole rows len (len ∷ lengths inventory)
  after_whole rows (Resize name len) answer inventory behind = behind_whole rows len answer behind
  after_whole rows call answer inventory behind = refl

  pub all_whole : (rows : List Row) (inventory : Inventory) (calls : List Call) (answers : List Answer) → length (rows_after_all row rows inventory calls answers) ≡ length rows
  all_whole rows inventory [] answers = refl
  all_whole rows inventory (call ∷ calls) [] = refl
  all_whole rows inventory (call ∷ calls) (answer ∷ answers) =
      all_whole (rows_after row rows call answer inventory (inventory_after inventory call answer)) (inventory_after inventory call answer) calls answers
      ∙ after_whole rows call answer inventory (inventory_after inventory call answer)

-- ---- what lengths come to in one row

module _ (row : ℕ → ℕ) (at : ℕ) where
  pub one_within : (test : Bool) (r s : Row) (len : ℕ) → IsWithin r s → IsWithin r (cond test (with_one s len) s)
  one_within true r s len within = (omega (arith, within.0), omega (arith, within.1))
  one_within false r s len within = within

  pub cons_within : (len : ℕ) (lens : List ℕ) → IsWithin (row_in row at lens) (row_in row at (len ∷ lens))
  cons_within len lens = one_within (row len == at) (row_in row at lens) (row_in row at lens) len (same_within (row_in row at lens))

  pub both_within : (test : Bool) (r s : Row) (len : ℕ) → IsWithin r s → IsWithin (cond test (with_one r len) r) (cond test (with_one s len) s)
  both_within true r s len within = (omega (arith, within.0), omega (arith, within.1))
  both_within false r s len within = within

  -- fewer lengths come to no more
  pub fewer_within : (p : ℕ → Bool) (lens : List ℕ) → IsWithin (row_in row at (filter p lens)) (row_in row at lens)
  fewer_within p [] = same_within (row_in row at [])
  fewer_within p (len ∷ lens) = by (p len) (fewer_within p lens)
    where
      by : (b : Bool) → IsWithin (row_in row at (filter p lens)) (row_in row at lens) → IsWithin (row_in row at (cond b (len ∷ filter p lens) (filter p lens))) (row_in row at (len ∷ lens))
      by true within = both_within (row len == at) _ _ len within
      by false within = one_within (row len == at) _ _ len within

  kept_within : (test : Bool) (entry : Name × ℕ) (inventory rest : Inventory) → IsWithin (row_in row at (lengths rest)) (row_in row at (lengths inventory))
      → IsWithin (row_in row at (lengths (cond test (entry ∷ rest) rest))) (row_in row at (entry.1 ∷ lengths inventory))
  kept_within true entry inventory rest within = both_within (row entry.1 == at) _ _ entry.1 within
  kept_within false entry inventory rest within = one_within (row entry.1 == at) _ _ entry.1 within

  pub freed_within : (name : Name) (inventory : Inventory) → IsWithin (row_in row at (lengths (filter (λ entry. not (is_same name entry.0)) inventory))) (row_in row at (lengths inventory))
  freed_within name [] = same_within no_row
  freed_within name (entry ∷ inventory) = kept_within (not (is_same name entry.0)) entry inventory (filter (λ entry. not (is_same name entry.0)) inventory) (freed_within name inventory)

  -- a length that is of another row
  other_cons : (len : ℕ) (lens : List ℕ) → row len ≢ at → row_in row at (len ∷ lens) ≡ row_in row at lens
  other_cons len lens ne = let b : (row len == at) ≡ false = grind (arith, nat_tests) in rw b refl

  moved_within : (test : Bool) (entry : Name × ℕ) (len : ℕ) (inventory rest : Inventory) → row len ≢ at → IsWithin (row_in row at (lengths rest)) (row_in row at (lengths inventory))
      → IsWithin (row_in row at (lengths (cond test (entry.0, len) entry ∷ rest))) (row_in row at (lengths (entry ∷ inventory)))
  moved_within true entry len inventory rest ne within = rw (other_cons len (lengths rest) ne) (one_within (row entry.1 == at) _ _ entry.1 within)
  moved_within false entry len inventory rest ne within = both_within (row entry.1 == at) _ _ entry.1 within

  pub resized_within : (name : Name) (len : ℕ) (inventory : Inventory) → row len ≢ at → IsWithin (row_in row at (lengths (with_length inventory name len))) (row_in row at (lengths inventory))
  resized_within name len [] ne = same_within no_row
  resized_within name len (entry ∷ inventory) ne = moved_within (is_same name entry.0) entry len inventory (with_length inventory name len) ne (resized_within name len inventory ne)

  -- ---- a row that is raised

  -- these lengths are within the row, which rose no more than it had to
  record IsRaised (rows new : List Row) (lens : List ℕ) : Type 0 where
    whole : length new ≡ length rows
    within : IsWithin (row_in row at lens) (get_or new at no_row)
    rises : IsWithin (get_or rows at no_row) (get_or new at no_row)
    least : (bound : Row) → IsWithin (get_or rows at no_row) bound → IsWithin (row_in row at lens) bound → IsWithin (get_or new at no_row) bound

  by_join : (old found new : Row) → new ≡ joined old found → (IsWithin found new × IsWithin old new) × ((bound : Row) → IsWithin old bound → IsWithin found bound → IsWithin new bound)
  by_join old found new is =
      subst (λ (r : Row). (IsWithin found r × IsWithin old r) × ((bound : Row) → IsWithin old bound → IsWithin found bound → IsWithin r bound)) (sym is)
      (((omega arith, omega arith), (omega arith, omega arith)), λ bound p q. (omega (arith, p.0, q.0), omega (arith, p.1, q.1)))

  pub noted_here : (rows : List Row) (len : ℕ) (lens : List ℕ) → row len ≡ at → at < length rows
      → get_or (with_lengths row rows len lens) at no_row ≡ joined (get_or rows at no_row) (row_in row at lens)
  noted_here rows len lens is inside =
      get_or-set_at rows (row len) at (joined (get_or rows (row len) no_row) (row_in row (row len) lens)) no_row (sym is) (omega (arith, is, inside))
      ∙ ap (λ (k : ℕ). joined (get_or rows k no_row) (row_in row k lens)) is

  pub noted_other : (rows : List Row) (len : ℕ) (lens : List ℕ) → row len ≢ at → get_or (with_lengths row rows len lens) at no_row ≡ get_or rows at no_row
  noted_other rows len lens ne = get_or-set_other rows (row len) at (joined (get_or rows (row len) no_row) (row_in row (row len) lens)) no_row (λ e. ne (sym e))

  raising : (rows : List Row) (len : ℕ) (lens : List ℕ) → at < length rows → (row len ≢ at → IsWithin (row_in row at lens) (get_or rows at no_row))
      → IsRaised rows (with_lengths row rows len lens) lens
  raising rows len lens inside others = elim (cases_eq (row len) at) [
    | inl is ↦
        let join = by_join (get_or rows at no_row) (row_in row at lens) (get_or (with_lengths row rows len lens) at no_row) (noted_here rows len lens is inside) in
        record { whole = noted_whole row rows len lens; within = join.0.0; rises = join.0.1; least = join.1 }
    | inr ne ↦
        let same = noted_other rows len lens ne in
        record {
          whole = noted_whole row rows len lens;
          within = subst (λ (r : Row). IsWithin (row_in row at lens) r) (sym same) (others ne);
          rises = subst (λ (r : Row). IsWithin (get_or rows at no_row) r) (sym same) (same_within (get_or rows at no_row));
          least = λ bound old found. subst (λ (r : Row). IsWithin r bound) (sym same) old;
        }
  ]

  -- ---- the longest of a row

  abbrev HasOwn : Row → Type 0
  HasOwn r = (r ≡ no_row) ⊎ (row r.longest ≡ at)

  own_max : (a b : ℕ) → row a ≡ at → row b ≡ at → row (max a b) ≡ at
  own_max a b p q = elim (cases_lt a b) [
    | inl below ↦ let e : max a b ≡ b = omega (arith, below) in ap row e ∙ q
    | inr above ↦ let e : max a b ≡ a = omega (arith, above) in ap row e ∙ p
  ]

  own_one : (test : Bool) (r : Row) (len : ℕ) → (test ≡ true → row len ≡ at) → HasOwn r → HasOwn (cond test (with_one r len) r)
  own_one true r len is (inl none) = let e : max r.longest len ≡ len = ap (λ (s : Row). max s.longest len) none ∙ zero_max len in inr (ap row e ∙ is refl)
  own_one true r len is (inr own) = inr (own_max r.longest len own (is refl))
  own_one false r len is own = own

  own_in : (lens : List ℕ) → HasOwn (row_in row at lens)
  own_in [] = inl refl
  own_in (len ∷ lens) = own_one (row len == at) (row_in row at lens) len (λ same. eqb-true (row len) at same) (own_in lens)

  own_joined : (a b : Row) → HasOwn a → HasOwn b → HasOwn (joined a b)
  own_joined a b (inl none) (inl empty) = inl (ap₂ joined none empty)
  own_joined a b (inl none) (inr own) = inr (ap row (ap (λ (s : Row). max s.longest b.longest) none ∙ zero_max b.longest) ∙ own)
  own_joined a b (inr own) (inl empty) = inr (ap row (ap (λ (s : Row). max a.longest s.longest) empty ∙ max_zero a.longest) ∙ own)
  own_joined a b (inr own) (inr its) = inr (own_max a.longest b.longest own its)

  own_raised : (rows : List Row) (len : ℕ) (lens : List ℕ) → at < length rows → HasOwn (get_or rows at no_row) → HasOwn (get_or (with_lengths row rows len lens) at no_row)
  own_raised rows len lens inside own = elim (cases_eq (row len) at) [
    | inl is ↦ subst HasOwn (sym (noted_here rows len lens is inside)) (own_joined (get_or rows at no_row) (row_in row at lens) own (own_in lens))
    | inr ne ↦ subst HasOwn (sym (noted_other rows len lens ne)) own
  ]

  own_behind : (rows : List Row) (len : ℕ) (answer : Answer) (inventory : Inventory) → at < length rows → HasOwn (get_or rows at no_row) → HasOwn (get_or (rows_behind row rows len answer inventory) at no_row)
  own_behind rows len (Resized (Ok done)) inventory inside own = own_raised rows len (lengths inventory) inside own
  own_behind rows len answer inventory inside own = own

  own_after : (rows : List Row) (call : Call) (answer : Answer) (inventory behind : Inventory) → at < length rows → HasOwn (get_or rows at no_row)
      → HasOwn (get_or (rows_after row rows call answer inventory behind) at no_row)
  own_after rows (Allocate len) answer inventory behind inside own = own_raised rows len (len ∷ lengths inventory) inside own
  own_after rows (Resize name len) answer inventory behind inside own = own_behind rows len answer behind inside own
  own_after rows call answer inventory behind inside own = own

  own_all : (rows : List Row) (inventory : Inventory) (calls : List Call) (answers : List Answer) → at < length rows → HasOwn (get_or rows at no_row)
      → HasOwn (get_or (rows_after_all row rows inventory calls answers) at no_row)
  own_all rows inventory [] answers inside own = own
  own_all rows inventory (call ∷ calls) [] inside own = own
  own_all rows inventory (call ∷ calls) (answer ∷ answers) inside own =
      let behind = inventory_after inventory call answer in
      own_all (rows_after row rows call answer inventory behind) behind calls answers (omega (arith, after_whole row rows call answer inventory behind, inside)) (own_after rows call answer inventory behind inside own)

  own_told : (r : Row) → HasOwn r → IsOfRow row at r
  own_told r (inl none) = λ some. let count : r.most ≡ 0 = ap (λ (s : Row). s.most) none in absurd (omega (arith, count, some))
  own_told r (inr own) = λ some. own

  pub own_row : (count : ℕ) (calls : List Call) (answers : List Answer) → at < count → IsOfRow row at (get_or (rows_after_all row (replicate count no_row) [] calls answers) at no_row)
  own_row count calls answers inside =
      let rows = replicate count no_row in
      own_told (get_or (rows_after_all row rows [] calls answers) at no_row)
      (own_all rows [] calls answers (omega (arith, length-replicate count no_row, inside)) (inl (get_or-replicate count at no_row no_row inside)))

  -- ---- a call

  -- what is held stays within the row, also with what is asked for, and the row rises no more than it has to
  record IsStep (rows new : List Row) (inventory behind : Inventory) (call : Call) : Type 0 where
    whole : length new ≡ length rows
    asked : IsWithin (row_in row at (lengths_with inventory call)) (get_or new at no_row)
    left : IsWithin (row_in row at (lengths behind)) (get_or new at no_row)
    rises : IsWithin (get_or rows at no_row) (get_or new at no_row)
    least : (bound : Row) → IsWithin (get_or rows at no_row) bound → IsWithin (row_in row at (lengths_with inventory call)) bound → IsWithin (row_in row at (lengths behind)) bound
        → IsWithin (get_or new at no_row) bound

  given_within : (inventory : Inventory) (len : ℕ) (answer : Answer) → IsWithin (row_in row at (lengths (inventory_after inventory (Allocate len) answer))) (row_in row at (len ∷ lengths inventory))
  given_within inventory len (Allocated (Ok name)) = same_within (row_in row at (len ∷ lengths inventory))
  given_within inventory len answer = cons_within len (lengths inventory)

  taken_within : (inventory : Inventory) (name : Name) (answer : Answer) → IsWithin (row_in row at (lengths (inventory_after inventory (Release name) answer))) (row_in row at (lengths inventory))
  taken_within inventory name (Released (Ok done)) = freed_within name inventory
  taken_within inventory name answer = same_within (row_in row at (lengths inventory))

  -- the rows stay, and what is held is no more
  module _ (rows : List Row) (inventory : Inventory) (inside : at < length rows) (held : IsWithin (row_in row at (lengths inventory)) (get_or rows at no_row)) where
    stays : (behind : Inventory) (call : Call) → lengths_with inventory call ≡ lengths inventory → IsWithin (row_in row at (lengths behind)) (row_in row at (lengths inventory)) → IsStep rows rows inventory behind call
    stays behind call same fewer = record {
      whole = refl;
      asked = subst (λ (lens : List ℕ). IsWithin (row_in row at lens) (get_or rows at no_row)) (sym same) held;
      left = within_trans _ _ _ fewer held;
      rises = same_within (get_or rows at no_row);
      least = λ bound old asked left. old;
    }

    resizing : (name : Name) (len : ℕ) (answer : Answer) → let behind = inventory_after inventory (Resize name len) answer in IsStep rows (rows_behind row rows len answer behind) inventory behind (Resize name len)
    resizing name len (Resized (Ok done)) =
        let behind = with_length inventory name len in
        let raised = raising rows len (lengths behind) inside (λ ne. within_trans _ _ _ (resized_within name len inventory ne) held) in
        record {
          whole = raised.whole;
          asked = within_trans _ _ _ held raised.rises;
          left = raised.within;
          rises = raised.rises;
          least = λ bound old asked left. raised.least bound old left;
        }
    resizing name len answer = stays inventory (Resize name len) refl (same_within (row_in row at (lengths inventory)))

    step : (call : Call) (answer : Answer) → let behind = inventory_after inventory call answer in IsStep rows (rows_after row rows call answer inventory behind) inventory behind call
    step (Allocate len) answer =
        let raised = raising rows len (len ∷ lengths inventory) inside (λ ne. rw (other_cons len (lengths inventory) ne) held) in
        record {
          whole = raised.whole;
          asked = raised.within;
          left = within_trans _ _ _ (given_within inventory len answer) raised.within;
          rises = raised.rises;
          least = λ bound old asked left. raised.least bound old asked;
        }
    step (Release name) answer = stays (inventory_after inventory (Release name) answer) (Release name) refl (taken_within inventory name answer)
    step (Write name from bytes) answer =
        subst (λ (behind : Inventory). IsStep rows rows inventory behind (Write name from bytes)) (written_inventory inventory name from bytes answer)
        (stays inventory (Write name from bytes) refl (same_within (row_in row at (lengths inventory))))
    step (Resize name len) answer = resizing name len answer
    step (Read name from n) answer =
        subst (λ (behind : Inventory). IsStep rows rows inventory behind (Read name from n)) (read_inventory inventory name from n answer)
        (stays inventory (Read name from n) refl (same_within (row_in row at (lengths inventory))))

  -- ---- calls in turn

  asked_first : (bound : Row) (inventory : Inventory) (call : Call) → IsWithin (row_in row at (lengths_with inventory call)) bound → IsWithin (row_in row at (lengths inventory)) bound
  asked_first bound inventory (Allocate len) within = within_trans _ _ _ (cons_within len (lengths inventory)) within
  asked_first bound inventory call within = within

  held_now : (bound : Row) (inventory : Inventory) (calls : List Call) (answers : List Answer) → KeepWithin row at bound inventory calls answers → IsWithin (row_in row at (lengths inventory)) bound
  held_now bound inventory [] answers keep = keep
  held_now bound inventory (call ∷ calls) [] keep = keep
  held_now bound inventory (call ∷ calls) (answer ∷ answers) keep = asked_first bound inventory call keep.0

  calls_keep : (bound : Row) (rows : List Row) (inventory : Inventory) (calls : List Call) (answers : List Answer) → at < length rows → IsWithin (row_in row at (lengths inventory)) (get_or rows at no_row)
      → KeepWithin row at bound inventory calls answers → IsWithin (get_or rows at no_row) bound → IsWithin (get_or (rows_after_all row rows inventory calls answers) at no_row) bound
  calls_keep bound rows inventory [] answers inside held keep old = old
  calls_keep bound rows inventory (call ∷ calls) [] inside held keep old = old
  calls_keep bound rows inventory (call ∷ calls) (answer ∷ answers) inside held keep old =
      let behind = inventory_after inventory call answer in
      let new = rows_after row rows call answer inventory behind in
      let one : IsStep rows new inventory behind call = step rows inventory inside held call answer in
      calls_keep bound new behind calls answers (omega (arith, one.whole, inside)) one.left keep.1
      (one.least bound old keep.0 (held_now bound behind calls answers keep.1))

  calls_kept : (bound : Row) (rows : List Row) (inventory : Inventory) (calls : List Call) (answers : List Answer) → at < length rows → IsWithin (row_in row at (lengths inventory)) (get_or rows at no_row)
      → IsWithin (get_or (rows_after_all row rows inventory calls answers) at no_row) bound → KeepWithin row at bound inventory calls answers × IsWithin (get_or rows at no_row) bound
  calls_kept bound rows inventory [] answers inside held old = (within_trans _ _ _ held old, old)
  calls_kept bound rows inventory (call ∷ calls) [] inside held old = (within_trans _ _ _ held old, old)
  calls_kept bound rows inventory (call ∷ calls) (answer ∷ answers) inside held old =
      let behind = inventory_after inventory call answer in
      let new = rows_after row rows call answer inventory behind in
      let one : IsStep rows new inventory behind call = step rows inventory inside held call answer in
      let rest = calls_kept bound new behind calls answers (omega (arith, one.whole, inside)) one.left old in
      ((within_trans _ _ _ one.asked rest.1, rest.0), within_trans _ _ _ one.rises rest.1)

  -- from no row, and nothing of it is held
  pub least_row : (count : ℕ) (calls : List Call) (answers : List Answer) → at < count
      → IsLeastRow row at calls answers (get_or (rows_after_all row (replicate count no_row) [] calls answers) at no_row)
  least_row count calls answers inside bound =
      let rows = replicate count no_row in
      let within : at < length rows = omega (arith, length-replicate count no_row, inside) in
      let none : get_or rows at no_row ≡ no_row = get_or-replicate count at no_row no_row inside in
      let held : IsWithin no_row (get_or rows at no_row) = (omega arith, omega arith) in (
        (λ keep. calls_keep bound rows [] calls answers within held keep (subst (λ (r : Row). IsWithin r bound) (sym none) (omega arith, omega arith))),
        (λ old. (calls_kept bound rows [] calls answers within held old).0),
      )
