-- The row that steps tell of a band of lengths is the one that the calls come to.
use Rattle.tlsf_held.proofs.Common.{◌≡◌, ◌≢◌, ◌==◌, ℕ, ◌+◌, ◌-◌, ◌<◌, ◌≤◌, Bool, true, false, cond, List, [], ◌∷◌, ◌++◌, fold, length, get_or, max, Option, Some, None, inl, inr, refl, sym, ap, ap₂, ◌∙◌, subst, arith, filter, not, cases_eq, Name, is_same, Inventory, lengths, with_length, Allocate, Release, Resize, Take, Entry, Reply, Made, Resized, name_of, accounted, freed_by, with_resized, with_taken, Account, is_between, band_of, no_rows, row_accounted, with_lengths, RowAccount, no_row, row_in, with_one, IsWithin, entry_steps, freed_steps, moved_steps, no_band, no_steps, resized_steps, band_after, band_step, stepped, stepped_all, taken_steps, with_freed, with_held, StepAccount, Row, Step}
use Rattle.tlsf_calls.specs.declared.call.Call.{Call}
use Rattle.tlsf_held.specs.declared.band.Band.{Band}
use Rattle.tlsf_held.specs.declared.steps.Step.TheVariants.{Held, Freed, Reached}
use Rattle.tlsf_held.proofs.LeastRows.{freed_within, noted_here, noted_other, noted_whole, resized_within}

-- ---- a band by its numbers

record Is (band : Band) (held most longest : ℕ) : Type 0 where
  held_is : band.held ≡ held
  most_is : band.row.most ≡ most
  longest_is : band.row.longest ≡ longest

same_is : {s : Band} {h m l k n o : ℕ} → Is s h m l → h ≡ k → m ≡ n → l ≡ o → Is s k n o
same_is is held most longest = record { held_is = is.held_is ∙ held; most_is = is.most_is ∙ most; longest_is = is.longest_is ∙ longest }

-- 1 for a length of the band
abbrev one : Bool → ℕ
one b = cond b 1 0

by_held : (b : Bool) (s : Band) (len h m l : ℕ) → Is s h m l → Is (cond b (with_held s len) s) (h + one b) m (max l (cond b len 0))
by_held true s len h m l is = record { held_is = omega (arith, is.held_is); most_is = is.most_is; longest_is = ap (λ (n : ℕ). max n len) is.longest_is }
by_held false s len h m l is = same_is is (omega arith) refl (omega arith)

by_freed : (b : Bool) (s : Band) (h m l : ℕ) → Is s h m l → Is (cond b (with_freed s) s) (h - one b) m l
by_freed true s h m l is = record { held_is = omega (arith, is.held_is); most_is = is.most_is; longest_is = is.longest_is }
by_freed false s h m l is = same_is is (omega arith) refl refl

-- steps in turn
after_more : (from to : ℕ) (s : Band) (steps more : List Step) → band_after from to s (steps ++ more) ≡ band_after from to (band_after from to s steps) more
after_more from to s [] more = refl
after_more from to s (step ∷ steps) more = after_more from to (band_step from to s step) steps more

module _ (from to : ℕ) where
  abbrev between : ℕ → Bool
  between len = is_between from to len

  -- the row of lengths, and how many and how long they are
  abbrev in_band : List ℕ → Row
  in_band lens = row_in (band_of from to) 1 lens

  abbrev count : List ℕ → ℕ
  count lens = (in_band lens).most

  abbrev long : List ℕ → ℕ
  long lens = (in_band lens).longest

  after_reached : (s : Band) (h m l : ℕ) → Is s h m l → Is (band_step from to s Reached) h (max m h) l
  after_reached s h m l is = record { held_is = is.held_is; most_is = ap₂ max is.most_is is.held_is; longest_is = is.longest_is }

  -- a length more
  counted : (b : Bool) (r : Row) (len : ℕ) → (cond (cond b 1 0 == 1) (with_one r len) r).most ≡ one b + r.most
  counted true r len = omega arith
  counted false r len = omega arith

  longed : (b : Bool) (r : Row) (len : ℕ) → (cond (cond b 1 0 == 1) (with_one r len) r).longest ≡ max r.longest (cond b len 0)
  longed true r len = refl
  longed false r len = omega arith

  count_cons : (len : ℕ) (lens : List ℕ) → count (len ∷ lens) ≡ one (between len) + count lens
  count_cons len lens = counted (between len) (in_band lens) len

  long_cons : (len : ℕ) (lens : List ℕ) → long (len ∷ lens) ≡ max (long lens) (cond (between len) len 0)
  long_cons len lens = longed (between len) (in_band lens) len

  -- ---- blocks taken back

  abbrev kept : Name → Inventory → Inventory
  kept name inventory = filter (λ entry. not (is_same name entry.0)) inventory

  by_taken : (t : Bool) (s : Band) (entry : Name × ℕ) (rest : Inventory) (m l d : ℕ) → Is s (count (lengths rest) + (one (between entry.1) + d)) m l
      → Is (band_after from to s (cond t (Freed entry.1 ∷ []) [])) (count (lengths (cond (not t) (entry ∷ rest) rest)) + d) m l
  by_taken true s entry rest m l d is = same_is (by_freed (between entry.1) s _ m l is) (omega arith) refl refl
  by_taken false s entry rest m l d is = let more = count_cons entry.1 (lengths rest) in same_is is (omega (arith, more)) refl refl

  all_taken : (name : Name) (inventory : Inventory) (s : Band) (m l d : ℕ) → Is s (count (lengths inventory) + d) m l
      → Is (band_after from to s (freed_steps name inventory)) (count (lengths (kept name inventory)) + d) m l
  all_taken name [] s m l d is = is
  all_taken name (entry ∷ inventory) s m l d is =
      let more = count_cons entry.1 (lengths inventory) in
      let same = is_same name entry.0 in
      let before = all_taken name inventory s m l (one (between entry.1) + d) (same_is is (omega (arith, more)) refl refl) in
      subst (λ (now : Band). Is now (count (lengths (cond (not same) (entry ∷ kept name inventory) (kept name inventory))) + d) m l)
      (sym (after_more from to s (freed_steps name inventory) (cond same (Freed entry.1 ∷ []) [])))
      (by_taken same (band_after from to s (freed_steps name inventory)) entry (kept name inventory) m l d before)

  -- ---- blocks of another length

  by_moved : (t : Bool) (s : Band) (entry : Name × ℕ) (len : ℕ) (rest : Inventory) (m l d : ℕ) → cond (between entry.1) entry.1 0 ≤ l
      → Is s (count (lengths rest) + (one (between entry.1) + d)) m (max l (long (lengths rest)))
      → Is (band_after from to s (cond t (Freed entry.1 ∷ (Held len ∷ [])) [])) (count (lengths (cond t (entry.0, len) entry ∷ rest)) + d) m
      (max l (long (lengths (cond t (entry.0, len) entry ∷ rest))))
  by_moved true s entry len rest m l d upto is =
      let more = count_cons len (lengths rest) in
      let longer = long_cons len (lengths rest) in
      let freed = by_freed (between entry.1) s _ m (max l (long (lengths rest))) is in
      same_is (by_held (between len) (band_step from to s (Freed entry.1)) len _ m _ freed) (omega (arith, more)) refl (omega (arith, longer))
  by_moved false s entry len rest m l d upto is =
      let more = count_cons entry.1 (lengths rest) in
      let longer = long_cons entry.1 (lengths rest) in
      same_is is (omega (arith, more)) refl (omega (arith, longer, upto))

  all_moved : (name : Name) (len : ℕ) (inventory : Inventory) (s : Band) (m l d : ℕ) → long (lengths inventory) ≤ l → Is s (count (lengths inventory) + d) m l
      → Is (band_after from to s (moved_steps name len inventory)) (count (lengths (with_length inventory name len)) + d) m (max l (long (lengths (with_length inventory name len))))
  all_moved name len [] s m l d upto is = same_is is refl refl (omega arith)
  all_moved name len (entry ∷ inventory) s m l d upto is =
      let more = count_cons entry.1 (lengths inventory) in
      let longer = long_cons entry.1 (lengths inventory) in
      let same = is_same name entry.0 in
      let rest = with_length inventory name len in
      let before = all_moved name len inventory s m l (one (between entry.1) + d) (omega (arith, longer, upto)) (same_is is (omega (arith, more)) refl refl) in
      subst (λ (now : Band). Is now (count (lengths (cond same (entry.0, len) entry ∷ rest)) + d) m (max l (long (lengths (cond same (entry.0, len) entry ∷ rest)))))
      (sym (after_more from to s (moved_steps name len inventory) (cond same (Freed entry.1 ∷ (Held len ∷ [])) [])))
      (by_moved same (band_after from to s (moved_steps name len inventory)) entry len rest m l d (omega (arith, longer, upto)) before)

  -- ---- what is told of a row

  -- a band tells what is held, and the row that is told
  record Tells (band : Band) (told : RowAccount) : Type 0 where
    inside : 1 < length told.rows
    is : Is band (count (lengths told.account.inventory)) (get_or told.rows 1 no_row).most (get_or told.rows 1 no_row).longest
    within : IsWithin (in_band (lengths told.account.inventory)) (get_or told.rows 1 no_row)

  -- a row that may have risen to these lengths; one of them is the newest
  record Rises (rows : List Row) (len : ℕ) (lens : List ℕ) (most longest : ℕ) : Type 0 where
    inside : 1 < length (with_lengths (band_of from to) rows len lens)
    most_is : (get_or (with_lengths (band_of from to) rows len lens) 1 no_row).most ≡ most
    longest_is : (get_or (with_lengths (band_of from to) rows len lens) 1 no_row).longest ≡ longest

  outside : (len : ℕ) → between len ≡ false → band_of from to len ≢ 1
  outside len is = λ same. let none : band_of from to len ≡ 0 = ap (λ (b : Bool). cond b 1 0) is in absurd (omega (arith, none, same))

  rising : (rows : List Row) (len : ℕ) (lens : List ℕ) → 1 < length rows
      → (between len ≡ false → IsWithin (in_band lens) (get_or rows 1 no_row))
      → Rises rows len lens (max (get_or rows 1 no_row).most (count lens)) (max (get_or rows 1 no_row).longest (long lens))
  rising rows len lens inside others = elim (cases_eq (band_of from to len) 1) [
    | inl is ↦
        let new = noted_here (band_of from to) 1 rows len lens is inside in
        record {
          inside = omega (arith, noted_whole (band_of from to) rows len lens, inside);
          most_is = ap (λ (r : Row). r.most) new;
          longest_is = ap (λ (r : Row). r.longest) new;
        }
    | inr ne ↦
        let same = noted_other (band_of from to) 1 rows len lens ne in
        let within = others (no_one (between len) ne) in
        record {
          inside = omega (arith, noted_whole (band_of from to) rows len lens, inside);
          most_is = ap (λ (r : Row). r.most) same ∙ omega (arith, within.0);
          longest_is = ap (λ (r : Row). r.longest) same ∙ omega (arith, within.1);
        }
  ]
    where
      no_one : (b : Bool) → one b ≢ 1 → b ≡ false
      no_one true ne = absurd (ne refl)
      no_one false ne = refl

  -- ---- an entry

  module _ (band : Band) (told : RowAccount) (tells : Tells band told) where
    abbrev inventory : Inventory
    inventory = told.account.inventory

    abbrev row : Row
    row = get_or told.rows 1 no_row

    -- blocks are taken back
    of_taken : (o : Option Name) → Tells (band_after from to band (taken_steps inventory o)) (record { account = with_taken told.account o; rows = told.rows })
    of_taken None = tells
    of_taken (Some name) =
        let less = freed_within (band_of from to) 1 name inventory in
        record {
          inside = tells.inside;
          is = same_is (all_taken name inventory band row.most row.longest 0 (same_is tells.is (omega arith) refl refl)) (omega arith) refl refl;
          within = (omega (arith, less.0, tells.within.0), omega (arith, less.1, tells.within.1));
        }

    -- a block is asked for
    module _ (len : ℕ) where
      abbrev rows_asked : List Row
      rows_asked = with_lengths (band_of from to) told.rows len (len ∷ lengths inventory)

      rise : Rises told.rows len (len ∷ lengths inventory) (max row.most (count (len ∷ lengths inventory))) (max row.longest (long (len ∷ lengths inventory)))
      rise = rising told.rows len (len ∷ lengths inventory) tells.inside
          (λ is. let none : one (between len) ≡ 0 = ap one is in
          let short : cond (between len) len 0 ≡ 0 = ap (λ (b : Bool). cond b len 0) is in
          (omega (arith, none, count_cons len (lengths inventory), tells.within.0), omega (arith, short, long_cons len (lengths inventory), tells.within.1)))

      abbrev asked : Band
      asked = band_step from to (band_step from to band (Held len)) Reached

      asked_is : Is asked (count (lengths inventory) + one (between len)) (get_or rows_asked 1 no_row).most (get_or rows_asked 1 no_row).longest
      asked_is =
          let more = count_cons len (lengths inventory) in
          let longer = long_cons len (lengths inventory) in
          same_is (after_reached (band_step from to band (Held len)) _ _ _ (by_held (between len) band len _ _ _ tells.is)) refl
          (omega (arith, more, rise.most_is)) (omega (arith, longer, rise.longest_is, tells.within.1))

      given : (most : ℕ) (name : Name) → Tells asked (record { account = record { inventory = (name, len) ∷ inventory; most = most }; rows = rows_asked })
      given most name = record {
        inside = rise.inside;
        is = same_is asked_is (omega (arith, count_cons len (lengths inventory))) refl refl;
        within = (omega (arith, rise.most_is), omega (arith, rise.longest_is));
      }

      not_given : (most : ℕ) → Tells (band_step from to asked (Freed len)) (record { account = record { inventory = inventory; most = most }; rows = rows_asked })
      not_given most = record {
        inside = rise.inside;
        is = same_is (by_freed (between len) asked _ _ _ asked_is) (omega arith) refl refl;
        within = (omega (arith, rise.most_is, tells.within.0), omega (arith, rise.longest_is, tells.within.1));
      }

      -- one is resized
      resized : (o : Option Name) → Tells (band_after from to band (resized_steps inventory len o))
          (record { account = with_resized told.account len o; rows = with_lengths (band_of from to) told.rows len (lengths (with_resized told.account len o).inventory) })
      resized None =
          let same = rising told.rows len (lengths inventory) tells.inside (λ is. tells.within) in
          record {
            inside = same.inside;
            is = same_is tells.is refl (omega (arith, same.most_is, tells.within.0)) (omega (arith, same.longest_is, tells.within.1));
            within = (omega (arith, same.most_is), omega (arith, same.longest_is));
          }
      resized (Some name) =
          let behind = with_length inventory name len in
          let rose = rising told.rows len (lengths behind) tells.inside
          (λ is. let fewer = resized_within (band_of from to) 1 name len inventory (outside len is) in
          (omega (arith, fewer.0, tells.within.0), omega (arith, fewer.1, tells.within.1))) in
          let moved = all_moved name len inventory band row.most row.longest 0 tells.within.1 (same_is tells.is (omega arith) refl refl) in
          record {
            inside = rose.inside;
            is = subst (λ (now : Band). Is now (count (lengths behind)) (get_or (with_lengths (band_of from to) told.rows len (lengths behind)) 1 no_row).most (get_or (with_lengths (band_of from to) told.rows len (lengths behind)) 1 no_row).longest)
                (sym (after_more from to band (moved_steps name len inventory) (Reached ∷ [])))
                (same_is (after_reached (band_after from to band (moved_steps name len inventory)) _ _ _ moved) (omega arith) (omega (arith, rose.most_is)) (omega (arith, rose.longest_is)));
            within = (omega (arith, rose.most_is), omega (arith, rose.longest_is));
          }

    entry : (made : List (Option Name)) (call : Call) (reply : Reply) → Tells (band_after from to band (entry_steps made inventory call reply)) (row_accounted (band_of from to) made told call reply)
    entry made (Allocate len) (Made name) = given len _ name
    entry made (Allocate len) reply = not_given len _
    entry made (Release target) reply = of_taken (freed_by made (Release target) reply)
    entry made (Take from) reply = of_taken (freed_by made (Take from) reply)
    entry made (Resize target len) Resized = resized len (name_of made target)
    entry made (Resize target len) reply = tells
    entry made other reply = tells

  -- ---- all entries

  abbrev rows_of_all : List (Option Name) → RowAccount → List Entry → RowAccount
  rows_of_all made told entries = fold (λ told e. row_accounted (band_of from to) made told e.call e.reply) told entries

  all_told : (made : List (Option Name)) (so_far : StepAccount) (told : RowAccount) (entries : List Entry) → so_far.account ≡ told.account
      → Tells (band_after from to no_band so_far.steps) told → Tells (band_after from to no_band (stepped_all made so_far entries).steps) (rows_of_all made told entries)
  all_told made so_far told [] same tells = tells
  all_told made so_far told (e ∷ entries) same tells =
      let next = row_accounted (band_of from to) made told e.call e.reply in
      all_told made (stepped made so_far e.call e.reply) next entries (ap (λ (a : Account). accounted made a e.call e.reply) same)
      (subst (λ (a : Account). Tells (band_after from to no_band (so_far.steps ++ entry_steps made a.inventory e.call e.reply)) next) (sym same)
      (subst (λ (s : Band). Tells s next) (sym (after_more from to no_band so_far.steps (entry_steps made told.account.inventory e.call e.reply)))
      (entry (band_after from to no_band so_far.steps) told tells made e.call e.reply)))

  same_row : (a b : Row) → a.most ≡ b.most → a.longest ≡ b.longest → a ≡ b
  same_row a b most longest = ap₂ (λ (m n : ℕ). let r : Row = record { most = m; longest = n } in r) most longest

  -- what the steps of a worker tell of the band
  pub band_told : (made : List (Option Name)) (entries : List Entry)
      → (band_after from to no_band (stepped_all made no_steps entries).steps).row ≡ get_or (rows_of_all made (no_rows 2) entries).rows 1 no_row
  band_told made entries =
      let all = all_told made no_steps (no_rows 2) entries refl (record { inside = omega arith; is = record { held_is = refl; most_is = refl; longest_is = refl }; within = (omega arith, omega arith) }) in
      same_row (band_after from to no_band (stepped_all made no_steps entries).steps).row (get_or (rows_of_all made (no_rows 2) entries).rows 1 no_row) all.is.most_is all.is.longest_is
