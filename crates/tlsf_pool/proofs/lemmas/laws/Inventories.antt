-- An inventory agrees with the heap: it has the length of each live block, under its name.
use Rattle.tlsf_pool.proofs.Common.{◌≡◌, ℕ, ◌+◌, Bool, true, false, not, cond, List, [], ◌∷◌, length, replicate, filter, Option, Some, None, refl, sym, ap, ◌∙◌, subst, arith, ⊤, option_map, length-replicate, false≢true, IsLevel, HeapState, bytes_of, want, Site, place_of, is_fit, IsLawful, Call, Allocate, Release, Write, Resize, Read, Allocated, Released, Written, Resized, is_named, fitted, overwritten, has_bytes, answered, opened, run, Name, live_count, contents, is_same, Inventory, lengths, with_length, inventory_after, inventory_after_all, InventoryIsLive}
use Rattle.tlsf_heap.proofs.lemmas.calls.Write.{length-overwritten, range_fits}
use Rattle.tlsf_heap.proofs.lemmas.calls.Outcomes.{by_test, IsSiteOf, gives, by_allocated, takes, by_released, resizes, by_resized_words, writes, by_written_named, lawful_run}
use Rattle.tlsf_heap.proofs.lemmas.blocks.Lawful.{opened_lawful}
use Rattle.tlsf_heap.proofs.lemmas.words.NewBytes.{length-fitted}
use Rattle.tlsf_pool.proofs.lemmas.laws.Names.{same_is, same_flip}
use Rattle.tlsf_pool.proofs.lemmas.laws.Loads.{load, load_given, load_taken, load_resized, load_written}
use Rattle.tlsf_pool.proofs.lemmas.laws.Held.{one, counted}
use Rattle.tlsf_pool.proofs.lemmas.laws.Looks.{found_bytes, given_name, taken_name, resized_name, written_name, fresh, new_empty}
use Rattle.tlsf_pool.proofs.lemmas.laws.Orders.{swap_sum}

-- the sum of a number for each length
abbrev pub sum_of : (ℕ → ℕ) → List ℕ → ℕ
sum_of f [] = 0
sum_of f (n ∷ lens) = f n + sum_of f lens

-- the length under a name
abbrev pub lookup : Name → Inventory → Option ℕ
lookup name [] = None
lookup name (e ∷ l) = cond (is_same e.0 name) (Some e.1) (lookup name l)

-- no name stands twice
abbrev pub AreNamesApart : Inventory → Type 0
AreNamesApart [] = ⊤
AreNamesApart (e ∷ l) = (lookup e.0 l ≡ None) × AreNamesApart l

pub record Agrees (h : HeapState) (l : Inventory) : Type 0 where
  pub totals : (f : ℕ → ℕ) → load f h.blocks ≡ sum_of f (lengths l)
  pub found : (name : Name) → lookup name l ≡ option_map length (contents h name)
  pub apart : AreNamesApart l

-- ---- the inventory without a name

abbrev pub without : Name → Inventory → Inventory
without name l = filter (λ entry. not (is_same name entry.0)) l

none_both : (c : Bool) → cond {A = Option ℕ} c None None ≡ None
none_both true = refl
none_both false = refl

other_name : (name own other : Name) → is_same name own ≡ false → is_same name other ≡ true → is_same own other ≡ false
other_name name own other differ agree = same_flip other own false (subst (λ (n : Name). is_same n own ≡ false) (same_is name other agree) differ)

pub lookup_without : (name other : Name) (l : Inventory) → lookup other (without name l) ≡ cond (is_same name other) None (lookup other l)
lookup_without name other [] = sym (none_both (is_same name other))
lookup_without name other (e ∷ l) = step (lookup_without name other l) (is_same name e.0) refl
  where
    both : (c d : Bool) (x y : Option ℕ) → c ≡ d → cond c None x ≡ cond c None (cond d y x)
    both true d x y same = refl
    both false true x y same = absurd (false≢true same)
    both false false x y same = refl

    swapped : (c d : Bool) (x y : Option ℕ) → (c ≡ true → d ≡ false) → cond d y (cond c None x) ≡ cond c None (cond d y x)
    swapped true d x y f = ap (λ (b : Bool). cond b y None) (f refl)
    swapped false d x y f = refl

    step : lookup other (without name l) ≡ cond (is_same name other) None (lookup other l)
        → (c : Bool) → is_same name e.0 ≡ c → lookup other (cond (not c) (e ∷ without name l) (without name l)) ≡ cond (is_same name other) None (cond (is_same e.0 other) (Some e.1) (lookup other l))
    step rest true agree =
        rest ∙ both (is_same name other) (is_same e.0 other) (lookup other l) (Some e.1) (ap (λ (n : Name). is_same n other) (same_is name e.0 agree))
    step rest false differ =
        ap (λ (o : Option ℕ). cond (is_same e.0 other) (Some e.1) o) rest
        ∙ swapped (is_same name other) (is_same e.0 other) (lookup other l) (Some e.1) (other_name name e.0 other differ)

without_none : (name : Name) (l : Inventory) → lookup name l ≡ None → without name l ≡ l
without_none name [] none = refl
without_none name (e ∷ l) none = step (without_none name l) (is_same e.0 name) refl none
  where
    step : (lookup name l ≡ None → without name l ≡ l) → (c : Bool) → is_same e.0 name ≡ c → cond c (Some e.1) (lookup name l) ≡ None → without name (e ∷ l) ≡ e ∷ l
    step rest true agree none = absurd cc
    step rest false differ none =
        ap (λ (b : Bool). cond (not b) (e ∷ without name l) (without name l)) (same_flip e.0 name false differ) ∙ ap (λ (left : Inventory). e ∷ left) (rest none)

next : (a b c d : ℕ) → a + b ≡ c → a + (d + b) ≡ d + c
next a b c d e = omega (arith, e)

total_without : (f : ℕ → ℕ) (name : Name) (n : ℕ) (l : Inventory) → AreNamesApart l → lookup name l ≡ Some n → f n + sum_of f (lengths (without name l)) ≡ sum_of f (lengths l)
total_without f name n [] apart found = absurd cc
total_without f name n (e ∷ l) apart found = step (total_without f name n l apart.1) (is_same e.0 name) refl found
  where
    step : (lookup name l ≡ Some n → f n + sum_of f (lengths (without name l)) ≡ sum_of f (lengths l))
        → (c : Bool) → is_same e.0 name ≡ c → cond c (Some e.1) (lookup name l) ≡ Some n → f n + sum_of f (lengths (without name (e ∷ l))) ≡ f e.1 + sum_of f (lengths l)
    step rest true agree found =
        let len : e.1 ≡ n = cc in
        let none : lookup name l ≡ None = subst (λ (other : Name). lookup other l ≡ None) (same_is e.0 name agree) apart.0 in
        ap (λ (b : Bool). f n + sum_of f (lengths (cond (not b) (e ∷ without name l) (without name l)))) (same_flip e.0 name true agree)
        ∙ ap (λ (left : Inventory). f n + sum_of f (lengths left)) (without_none name l none)
        ∙ ap (λ (m : ℕ). f m + sum_of f (lengths l)) (sym len)
    step rest false differ found =
        ap (λ (b : Bool). f n + sum_of f (lengths (cond (not b) (e ∷ without name l) (without name l)))) (same_flip e.0 name false differ)
        ∙ next (f n) (sum_of f (lengths (without name l))) (sum_of f (lengths l)) (f e.1) (rest found)

apart_without : (name : Name) (l : Inventory) → AreNamesApart l → AreNamesApart (without name l)
apart_without name [] apart = tt
apart_without name (e ∷ l) apart =
    by_test AreNamesApart (not (is_same name e.0)) (e ∷ without name l) (without name l)
    (λ _. (lookup_without name e.0 l ∙ ap (λ (o : Option ℕ). cond (is_same name e.0) None o) apart.0 ∙ none_both (is_same name e.0), apart_without name l apart.1))
    (apart_without name l apart.1)

-- ---- the inventory with another length under a name

pub lookup_with : (name other : Name) (len : ℕ) (l : Inventory) → lookup other (with_length l name len) ≡ cond (is_same name other) (option_map (λ _. len) (lookup other l)) (lookup other l)
lookup_with name other len [] = sym (none_both (is_same name other))
lookup_with name other len (e ∷ l) = step (lookup_with name other len l) (is_same name e.0) refl
  where
    both : (c d : Bool) (x : Option ℕ) → c ≡ d → cond d (Some len) (cond c (option_map (λ _. len) x) x) ≡ cond c (option_map (λ _. len) (cond d (Some e.1) x)) (cond d (Some e.1) x)
    both true true x same = refl
    both true false x same = absurd (false≢true (sym same))
    both false true x same = absurd (false≢true same)
    both false false x same = refl

    swapped : (c d : Bool) (x : Option ℕ) → (c ≡ true → d ≡ false) → cond d (Some e.1) (cond c (option_map (λ _. len) x) x) ≡ cond c (option_map (λ _. len) (cond d (Some e.1) x)) (cond d (Some e.1) x)
    swapped true true x f = absurd (false≢true (sym (f refl)))
    swapped true false x f = refl
    swapped false d x f = refl

    step : lookup other (with_length l name len) ≡ cond (is_same name other) (option_map (λ _. len) (lookup other l)) (lookup other l) → (c : Bool) → is_same name e.0 ≡ c
        → lookup other (cond {A = Name × ℕ} c (e.0, len) e ∷ with_length l name len) ≡ cond (is_same name other) (option_map (λ _. len) (lookup other (e ∷ l))) (lookup other (e ∷ l))
    step rest true agree =
        ap (λ (o : Option ℕ). cond (is_same e.0 other) (Some len) o) rest
        ∙ both (is_same name other) (is_same e.0 other) (lookup other l) (ap (λ (n : Name). is_same n other) (same_is name e.0 agree))
    step rest false differ =
        ap (λ (o : Option ℕ). cond (is_same e.0 other) (Some e.1) o) rest
        ∙ swapped (is_same name other) (is_same e.0 other) (lookup other l) (other_name name e.0 other differ)

with_none : (name : Name) (len : ℕ) (l : Inventory) → lookup name l ≡ None → with_length l name len ≡ l
with_none name len [] none = refl
with_none name len (e ∷ l) none = step (with_none name len l) (is_same e.0 name) refl none
  where
    step : (lookup name l ≡ None → with_length l name len ≡ l) → (c : Bool) → is_same e.0 name ≡ c → cond c (Some e.1) (lookup name l) ≡ None → with_length (e ∷ l) name len ≡ e ∷ l
    step rest true agree none = absurd cc
    step rest false differ none =
        ap (λ (b : Bool). cond {A = Name × ℕ} b (e.0, len) e ∷ with_length l name len) (same_flip e.0 name false differ) ∙ ap (λ (left : Inventory). e ∷ left) (rest none)

shift : (a b c d e : ℕ) → a + b ≡ c + d → a + (e + b) ≡ c + (e + d)
shift a b c d e same = omega (arith, same)

total_with : (f : ℕ → ℕ) (name : Name) (n len : ℕ) (l : Inventory) → AreNamesApart l → lookup name l ≡ Some n → f n + sum_of f (lengths (with_length l name len)) ≡ f len + sum_of f (lengths l)
total_with f name n len [] apart found = absurd cc
total_with f name n len (e ∷ l) apart found = step (total_with f name n len l apart.1) (is_same e.0 name) refl found
  where
    step : (lookup name l ≡ Some n → f n + sum_of f (lengths (with_length l name len)) ≡ f len + sum_of f (lengths l))
        → (c : Bool) → is_same e.0 name ≡ c → cond c (Some e.1) (lookup name l) ≡ Some n → f n + sum_of f (lengths (with_length (e ∷ l) name len)) ≡ f len + (f e.1 + sum_of f (lengths l))
    step rest true agree found =
        let old : e.1 ≡ n = cc in
        let none : lookup name l ≡ None = subst (λ (other : Name). lookup other l ≡ None) (same_is e.0 name agree) apart.0 in
        ap (λ (b : Bool). f n + sum_of f (lengths (cond {A = Name × ℕ} b (e.0, len) e ∷ with_length l name len))) (same_flip e.0 name true agree)
        ∙ ap (λ (left : Inventory). f n + (f len + sum_of f (lengths left))) (with_none name len l none)
        ∙ swap_sum (f n) (f len) (sum_of f (lengths l))
        ∙ ap (λ (m : ℕ). f len + (f m + sum_of f (lengths l))) (sym old)
    step rest false differ found =
        ap (λ (b : Bool). f n + sum_of f (lengths (cond {A = Name × ℕ} b (e.0, len) e ∷ with_length l name len))) (same_flip e.0 name false differ)
        ∙ shift (f n) (sum_of f (lengths (with_length l name len))) (f len) (sum_of f (lengths l)) (f e.1) (rest found)

apart_with : (name : Name) (len : ℕ) (l : Inventory) → AreNamesApart l → AreNamesApart (with_length l name len)
apart_with name len [] apart = tt
apart_with name len (e ∷ l) apart =
    let none : lookup e.0 (with_length l name len) ≡ None =
    lookup_with name e.0 len l ∙ ap (λ (o : Option ℕ). cond (is_same name e.0) (option_map (λ _. len) o) o) apart.0 ∙ none_both (is_same name e.0) in
    let rest = apart_with name len l apart.1 in
    by_test (λ (x : Name × ℕ). AreNamesApart (x ∷ with_length l name len)) (is_same name e.0) (e.0, len) e (λ _. (none, rest)) (none, rest)

-- ---- what the calls make of it

mapped : (c : Bool) (new old : Option (List ℕ)) → option_map length (cond c new old) ≡ cond c (option_map length new) (option_map length old)
mapped true new old = refl
mapped false new old = refl

given : (sli : ℕ) (h : HeapState) (n : ℕ) (s : Site) (l : Inventory) → Agrees h l → IsLawful h → IsSiteOf h.blocks s → is_fit sli (want n) s.block ≡ true
    → Agrees (gives h n s).heap ((record { heap = h.id; at = place_of s; serial = h.tick }, n) ∷ l)
given sli h n s l agrees lawful site fit = record {
  totals = λ f. load_given sli f h s (want n) n site fit ∙ ap (λ (t : ℕ). f n + t) (agrees.totals f);
  found = λ other.
      ap (λ (o : Option ℕ). cond (is_same name other) (Some n) o) (agrees.found other)
      ∙ ap (λ (k : ℕ). cond (is_same name other) (Some k) (option_map length (contents h other))) (sym (length-replicate n 0))
      ∙ sym (ap (option_map length) (given_name sli h n s other lawful site fit) ∙ mapped (is_same name other) (Some (replicate n 0)) (contents h other));
  apart = (agrees.found name ∙ ap (option_map length) (fresh h (place_of s) lawful), agrees.apart);
}
  where
    name : Name
    name = record { heap = h.id; at = place_of s; serial = h.tick }

cancelled : (a b c d e : ℕ) → a + b ≡ c → a + d ≡ e → c ≡ e → b ≡ d
cancelled a b c d e f g h = omega (arith, f, g, h)

taken : (h : HeapState) (s : Site) (name : Name) (l : Inventory) → Agrees h l → IsLawful h → name.heap ≡ h.id → IsSiteOf h.blocks s → is_named name.at name.serial s ≡ true
    → Agrees (takes h s).heap (without name l)
taken h s name l agrees lawful own site is =
    let len = agrees.found name ∙ ap (option_map length) (found_bytes h name s lawful own site is) in record {
      totals = λ f.
          cancelled (f (length (bytes_of s.block))) (load f (takes h s).heap.blocks) (load f h.blocks) (sum_of f (lengths (without name l))) (sum_of f (lengths l))
          (load_taken f h s name.at name.serial site is) (total_without f name (length (bytes_of s.block)) l agrees.apart len) (agrees.totals f);
      found = λ other.
          lookup_without name other l
          ∙ ap (λ (o : Option ℕ). cond (is_same name other) None o) (agrees.found other)
          ∙ sym (ap (option_map length) (taken_name h s name other lawful own site is) ∙ mapped (is_same name other) None (contents h other));
      apart = apart_without name l agrees.apart;
    }

changed : (h : HeapState) (s : Site) (at : ℕ) (bytes : List ℕ) (name : Name) (l : Inventory) → Agrees h l → IsLawful h → name.heap ≡ h.id → IsSiteOf h.blocks s
    → is_named name.at name.serial s ≡ true → has_bytes s.block at (length bytes) ≡ true → Agrees (writes h at bytes s).heap l
changed h s at bytes name l agrees lawful own site is has = record {
  totals = λ f. load_written f h s at bytes site has ∙ agrees.totals f;
  found = λ other.
      agrees.found other
      ∙ same_length other (is_same name other) refl
      ∙ sym (ap (option_map length) (written_name h s at bytes name other lawful own site is) ∙ mapped (is_same name other) (Some (overwritten (bytes_of s.block) at bytes)) (contents h other));
  apart = agrees.apart;
}
  where
    kept : length (overwritten (bytes_of s.block) at bytes) ≡ length (bytes_of s.block)
    kept = length-overwritten (bytes_of s.block) bytes at (range_fits s.block at (length bytes) has)

    same_length : (other : Name) (c : Bool) → is_same name other ≡ c
        → option_map length (contents h other) ≡ cond c (Some (length (overwritten (bytes_of s.block) at bytes))) (option_map length (contents h other))
    same_length other true agree = subst (λ (n : Name). option_map length (contents h n) ≡ Some (length (overwritten (bytes_of s.block) at bytes))) (same_is name other agree)
        (ap (option_map length) (found_bytes h name s lawful own site is) ∙ ap Some (sym kept))
    same_length other false differ = refl

lengthened : (h : HeapState) (s : Site) (name : Name) (len : ℕ) (l : Inventory) → Agrees h l → IsLawful h → name.heap ≡ h.id → IsSiteOf h.blocks s → is_named name.at name.serial s ≡ true
    → Agrees (resizes h (want len) len s).heap (with_length l name len)
lengthened h s name len l agrees lawful own site is = record {
  totals = λ f.
      resum (f old) (load f (resizes h (want len) len s).heap.blocks) (f len) (load f h.blocks) (sum_of f (lengths (with_length l name len))) (sum_of f (lengths l))
      (load_resized f h s name.at name.serial (want len) len site is) (total_with f name old len l agrees.apart held) (agrees.totals f);
  found = λ other.
      lookup_with name other len l
      ∙ new_length other (is_same name other) refl
      ∙ ap (λ (k : ℕ). cond (is_same name other) (Some k) (option_map length (contents h other))) (sym (length-fitted (bytes_of s.block) len))
      ∙ sym (ap (option_map length) (resized_name h s name len other lawful own site is) ∙ mapped (is_same name other) (Some (fitted (bytes_of s.block) len)) (contents h other));
  apart = apart_with name len l agrees.apart;
}
  where
    old : ℕ
    old = length (bytes_of s.block)

    held : lookup name l ≡ Some old
    held = agrees.found name ∙ ap (option_map length) (found_bytes h name s lawful own site is)

    resum : (a b c d u v : ℕ) → a + b ≡ c + d → a + u ≡ c + v → d ≡ v → b ≡ u
    resum a b c d u v f g k = omega (arith, f, g, k)

    new_length : (other : Name) (c : Bool) → is_same name other ≡ c → cond c (option_map (λ _. len) (lookup other l)) (lookup other l) ≡ cond c (Some len) (option_map length (contents h other))
    new_length other true agree = ap (option_map (λ _. len)) (subst (λ (n : Name). lookup n l ≡ Some old) (same_is name other agree) held)
    new_length other false differ = agrees.found other

pub agrees_call : (sli : ℕ) (h : HeapState) (call : Call) (l : Inventory) → Agrees h l → IsLawful h → Agrees (answered sli h call).1 (inventory_after l call (answered sli h call).0)
agrees_call sli h (Allocate n) l agrees lawful =
    by_allocated sli (λ o. Agrees o.heap (inventory_after l (Allocate n) (Allocated o.answer))) h n (λ why. agrees) (λ s site fit. given sli h n s l agrees lawful site fit)
agrees_call sli h (Release name) l agrees lawful =
    by_released (λ o. Agrees o.heap (inventory_after l (Release name) (Released o.answer))) h name (λ why. agrees) (λ s own site is. taken h s name l agrees lawful own site is)
agrees_call sli h (Write name at bytes) l agrees lawful =
    by_written_named (λ o. Agrees o.heap (inventory_after l (Write name at bytes) (Written o.answer))) h name at bytes (λ why. agrees) (λ s own site is has. changed h s at bytes name l agrees lawful own site is has)
agrees_call sli h (Resize name len) l agrees lawful =
    by_resized_words (λ o. Agrees o.heap (inventory_after l (Resize name len) (Resized o.answer))) h name (want len) len (λ why. agrees) (λ s own site is room. lengthened h s name len l agrees lawful own site is)
agrees_call sli h (Read name at n) l agrees lawful = agrees

pub agrees_run : (sli : ℕ) (level : IsLevel sli) (h : HeapState) (calls : List Call) (l : Inventory) → Agrees h l → IsLawful h → Agrees (run sli h calls).1 (inventory_after_all l calls (run sli h calls).0)
agrees_run sli level h [] l agrees lawful = agrees
agrees_run sli level h (call ∷ calls) l agrees lawful = agrees_run sli level (answered sli h call).1 calls (inventory_after l call (answered sli h call).0) (agrees_call sli h call l agrees lawful) (lawful_run sli level h (call ∷ []) lawful)

pub new_agrees : (id words first : ℕ) → Agrees (opened id words first) []
new_agrees id words first = record { totals = λ f. refl; found = λ name. sym (ap (option_map length) (new_empty id words first name)); apart = tt }

pub sum_one : (lens : List ℕ) → sum_of one lens ≡ length lens
sum_one [] = refl
sum_one (n ∷ lens) = let e = sum_one lens in omega arith

lengths_count : (l : Inventory) → length (lengths l) ≡ length l
lengths_count [] = refl
lengths_count (e ∷ l) = let same = lengths_count l in omega arith

-- as many blocks are live as an inventory has entries that agrees with the heap
pub live_agrees : (h : HeapState) (l : Inventory) → Agrees h l → live_count h ≡ length l
live_agrees h l agrees = counted h.blocks ∙ agrees.totals one ∙ sum_one (lengths l) ∙ lengths_count l

pub inventory_live : (sli : ℕ) (level : IsLevel sli) → InventoryIsLive sli
inventory_live sli level id words first calls four =
    let start : HeapState = opened id words first in
    live_agrees (run sli start calls).1 (inventory_after_all [] calls (run sli start calls).0) (agrees_run sli level start calls [] (new_agrees id words first) (opened_lawful id words first four))
