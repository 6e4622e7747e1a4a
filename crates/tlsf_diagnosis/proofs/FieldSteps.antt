-- The fields of a line as bytes of it.
use Rattle.tlsf_diagnosis.proofs.Common.{◌≡◌, ℕ, ◌+◌, ◌-◌, ◌<◌, ◌≤◌, Bool, true, false, cond, List, [], ◌∷◌, ◌++◌, Option, Some, None, length, take, drop, min, refl, sym, ap, subst, ◌∙◌, arith, append_assoc, append-nil, length-append, ◌==◌, ◌&&◌, Bor, fields_left, fields_of, field, fields_in, pieces_of, HasBefore, IsFieldAt, MarksField, ShowsAt, ShowsField, spaces_in, without_feed}
use Rattle.std.specs.List.{join_with_byte}
use Rattle.tlsf_diagnosis.specs.Notes.{tip_row}
use Rattle.tlsf_diagnosis.specs.Tips.{is_tipped, takes_number, wants_tip}
use Rattle.std.proofs.lemmas.List.{length-take-le, take-append-drop, take_at}
use Rattle.std.proofs.lemmas.List.Splits.{join_with_byte-slice_split}
use Rattle.tlsf_lines.proofs.CutSteps.{fields_count}
use Rattle.std.proofs.lemmas.List.Sums.{sum_by-append, sum_by-cons}

pub spaces_both : (a b : List ℕ) → spaces_in (a ++ b) ≡ spaces_in a + spaces_in b
spaces_both a b = sum_by-append (λ byte. cond (byte == 32) 1 0) a b

space_more : (bytes : List ℕ) → spaces_in (32 ∷ bytes) ≡ 1 + spaces_in bytes
space_more bytes = sum_by-cons (λ byte. cond (byte == 32) 1 0) 32 bytes

join_more : (field : List ℕ) (fields : List (List ℕ)) → 0 < length fields → join_with_byte 32 (field ∷ fields) ≡ field ++ 32 ∷ join_with_byte 32 fields
join_more field [] some = absurd (omega (arith, some))
join_more field (next ∷ fields) some = refl

fields_joined : (line : List ℕ) → join_with_byte 32 (fields_of line) ≡ line
fields_joined line = join_with_byte-slice_split 32 line

-- a field that is cut off stands before a space and the fields that are left, and has no space
pub cut_is : (rest behind field : List ℕ) → fields_of rest ≡ field ∷ fields_of behind → rest ≡ field ++ 32 ∷ behind
cut_is rest behind field e =
    sym (fields_joined rest) ∙ (ap (join_with_byte 32) e ∙ (join_more field (fields_of behind) (omega (arith, fields_count behind))
    ∙ ap (λ (l : List ℕ). field ++ 32 ∷ l) (fields_joined behind)))

pub cut_none : (rest behind field : List ℕ) → fields_of rest ≡ field ∷ fields_of behind → spaces_in field ≡ 0
cut_none rest behind field e =
    let parts : spaces_in rest ≡ spaces_in field + spaces_in (32 ∷ behind) = ap spaces_in (cut_is rest behind field e) ∙ spaces_both field (32 ∷ behind) in
    omega (arith, ap length e, fields_count rest, fields_count behind, parts, space_more behind)

-- and the last one is all that is left
pub last_is : (rest field : List ℕ) → fields_of rest ≡ field ∷ [] → rest ≡ field
last_is rest field e = sym (fields_joined rest) ∙ ap (join_with_byte 32) e

pub last_none : (rest field : List ℕ) → fields_of rest ≡ field ∷ [] → spaces_in rest ≡ 0
last_none rest field e = omega (arith, ap length e, fields_count rest)

-- after one field more
pub one_more : (line rest behind field : List ℕ) (count : ℕ) → HasBefore line rest count → fields_of rest ≡ field ∷ fields_of behind → HasBefore line behind (count + 1)
one_more line rest behind field count has e = record {
  front = has.front ++ (field ++ 32 ∷ []);
  line_is = has.line_is ∙ (ap (λ (l : List ℕ). has.front ++ l) (cut_is rest behind field e ∙ sym (append_assoc field (32 ∷ []) behind)) ∙ sym (append_assoc has.front (field ++ 32 ∷ []) behind));
  spaces = omega (arith, spaces_both has.front (field ++ 32 ∷ []), spaces_both field (32 ∷ []), space_more [], cut_none rest behind field e, has.spaces);
}

-- no field is left after the last
pub no_more : (line rest field : List ℕ) (count most : ℕ) → HasBefore line rest count → fields_of rest ≡ field ∷ [] → count < most → length (fields_of line) ≤ most
no_more line rest field count most has e lt =
    let parts : spaces_in line ≡ spaces_in has.front + spaces_in rest = ap spaces_in has.line_is ∙ spaces_both has.front rest in
    omega (arith, fields_count line, parts, last_none rest field e, has.spaces, lt)

pub rest_within : (line rest : List ℕ) (count : ℕ) → HasBefore line rest count → length rest ≤ length line
rest_within line rest count has = omega (arith, ap length has.line_is ∙ length-append has.front rest)

-- the next field, where it begins
pub field_at : (line rest field : List ℕ) (left : Option (Bor (List ℕ))) (n start : ℕ) → HasBefore line rest (n - 1) → fields_of rest ≡ field ∷ fields_left left
    → start + length rest ≡ length line → IsFieldAt line n start field
field_at line rest field None n start has e at = record {
  front = has.front;
  more = [];
  line_is = has.line_is ∙ (ap (λ (l : List ℕ). has.front ++ l) (last_is rest field e) ∙ sym (append-nil (has.front ++ field)));
  start_is = omega (arith, at, ap length has.line_is ∙ length-append has.front rest);
  spaces = has.spaces;
  none = omega (arith, last_none rest field e, ap spaces_in (last_is rest field e));
}
field_at line rest field (Some behind) n start has e at = record {
  front = has.front;
  more = 32 ∷ behind.now;
  line_is = has.line_is ∙ (ap (λ (l : List ℕ). has.front ++ l) (cut_is rest behind.now field e) ∙ sym (append_assoc has.front field (32 ∷ behind.now)));
  start_is = omega (arith, at, ap length has.line_is ∙ length-append has.front rest);
  spaces = has.spaces;
  none = cut_none rest behind.now field e;
}

-- no space stands before a byte of a field but those before the field
few_before : (field : List ℕ) (k : ℕ) → spaces_in field ≡ 0 → spaces_in (take k field) ≡ 0
few_before field k none =
    let parts : spaces_in field ≡ spaces_in (take k field) + spaces_in (drop k field) = ap spaces_in (sym (take-append-drop k field)) ∙ spaces_both (take k field) (drop k field) in
    omega (arith, parts, none)

pub before_mark : (line field : List ℕ) (n start k : ℕ) → IsFieldAt line n start field → k ≤ length field → spaces_in (take (start + k) line) ≡ n - 1
before_mark line field n start k is le =
    let parts : (is.front ++ (take k field ++ drop k field)) ++ is.more ≡ (is.front ++ take k field) ++ (drop k field ++ is.more) = simp append_assoc in
    let whole : line ≡ (is.front ++ take k field) ++ (drop k field ++ is.more) =
    is.line_is ∙ (ap (λ (f : List ℕ). is.front ++ f ++ is.more) (sym (take-append-drop k field)) ∙ parts) in
    let long : length (is.front ++ take k field) ≡ start + k = omega (arith, length-append is.front (take k field), length-take-le k field le, is.start_is) in
    ap (λ (l : List ℕ). spaces_in (take (start + k) l)) whole
    ∙ (ap spaces_in (take_at (is.front ++ take k field) (drop k field ++ is.more) (start + k) long)
    ∙ (spaces_both is.front (take k field) ∙ omega (arith, few_before field k is.none, is.spaces)))

-- ---- a line feed

fed_by : (t : Bool) (line front piece : List ℕ) → Some (fields_of line) ≡ cond t (Some (fields_of front)) None → line ≡ cond t front piece
fed_by true line front piece e = let same : fields_of line ≡ fields_of front = cc in sym (fields_joined line) ∙ (ap (join_with_byte 32) same ∙ fields_joined front)
fed_by false line front piece e = cc

bare_by : (t : Bool) (fields : List (List ℕ)) (front piece : List ℕ) → None ≡ cond t (Some fields) None → piece ≡ cond t front piece
bare_by true fields front piece e = cc
bare_by false fields front piece e = refl

pub fed : (piece line : List ℕ) → Some (fields_of line) ≡ fields_in piece → line ≡ without_feed piece
fed piece line e = fed_by _ line (take (length piece - 1) piece) piece e

pub bare : (piece : List ℕ) → None ≡ fields_in piece → piece ≡ without_feed piece
bare piece e = bare_by _ _ (take (length piece - 1) piece) piece e

-- ---- the rows of a line

pub shows_field : (text : List ℕ) (number n at : ℕ) (piece line rows : List ℕ) → piece ≡ field (pieces_of text) (number - 1) → line ≡ without_feed piece
    → MarksField piece n at → at ≤ length (without_feed piece) → ShowsAt line (min at (length line)) rows → ShowsField text number n rows
shows_field text number n at piece line rows is fed_is marks within shows =
    let same : min at (length line) ≡ at = omega (arith, ap length fed_is, within) in
    let own : ShowsAt line at rows = subst (λ (k : ℕ). ShowsAt line k rows) same shows in
    record {
      at = at;
      marks = subst (λ (p : List ℕ). MarksField p n at) is marks;
      shows = subst (λ (p : List ℕ). ShowsAt (without_feed p) at rows) is (subst (λ (l : List ℕ). ShowsAt l at rows) fed_is own);
    }

-- ---- the tip on numbers

-- it stands there by the bytes of a field, and by what is wanted there
pub tipped : (text : List ℕ) (number n : ℕ) (piece line bytes : List ℕ) (wanted : Bool) → piece ≡ field (pieces_of text) (number - 1) → line ≡ without_feed piece
    → bytes ≡ field (fields_of line) (n - 1) → wanted ≡ takes_number number (fields_of (without_feed piece)) n
    → (is_tipped bytes && wanted) ≡ wants_tip text number n
tipped text number n piece line bytes wanted is fed_is at takes =
    let own : line ≡ without_feed (field (pieces_of text) (number - 1)) = fed_is ∙ ap (λ (p : List ℕ). without_feed p) is in
    let stands : bytes ≡ field (fields_of (without_feed (field (pieces_of text) (number - 1)))) (n - 1) = at ∙ ap (λ (l : List ℕ). field (fields_of l) (n - 1)) own in
    ap (λ (b : List ℕ). is_tipped b && wanted) stands
    ∙ ap (λ (b : Bool). is_tipped (field (fields_of (without_feed (field (pieces_of text) (number - 1)))) (n - 1)) && b)
    (takes ∙ ap (λ (p : List ℕ). takes_number number (fields_of (without_feed p)) n) is)

-- and it follows the words
pub tip_follows : (shown row named note : List ℕ) (said tip : Bool) → note ≡ named ++ tip_row said → named ≡ shown ++ row → said ≡ tip → note ≡ shown ++ row ++ tip_row tip
tip_follows shown row named note said tip ends begins same = ends ∙ (ap (λ (bytes : List ℕ). bytes ++ tip_row said) begins ∙ ap (λ (b : Bool). shown ++ row ++ tip_row b) same)
