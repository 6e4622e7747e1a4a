-- The field by which a first line is no header.
use Rattle.tlsf_diagnosis.proofs.Common.{◌≡◌, inl, inr, ℕ, suc, ◌+◌, ◌==◌, ◌&&◌, Bool, true, false, cond, is_some, List, [], ◌∷◌, ◌++◌, length, take, drop, map, codes, count_by, Option, Some, None, unwrap_or, refl, ap, ◌∙◌, arith, fields_of, ◌>>=◌, field, fields_in, header_from, header_in, header_of, number_in, BadHeader, CanBegin, GoAstrayAt, IsFieldOf, is_header, header_kinds, passes, FindsWrong, IsFirstFailing, all_pass, passing_count, Kind}
use Rattle.std.proofs.lemmas.Bool.{ne_eqb}
use Rattle.std.specs.Str.{bytes_eq}
use Rattle.tlsf_lines.specs.Versions.{most_words_of, version_in}
use Rattle.tlsf_lines.specs.declared.header.Header.{Header}
use Rattle.tlsf_lines.specs.declared.version.Version.{Version}
use Rattle.tlsf_lines.specs.declared.version.Version.TheVariants.{One, Two}
use Rattle.hex.proofs.OnLiterals.{hex_on_literals}
use Rattle.tlsf_diagnosis.specs.declared.judge.Judge.TheVariants as judge
use Rattle.tlsf_lines.specs.declared.kind.Kind.TheVariants.{Worker, Payload, Workers, Words, Capacity}
use Rattle.tlsf_diagnosis.proofs.Astray.{astray_at, never}
use Rattle.tlsf_diagnosis.proofs.LineSpots.{last_of, wrong_or_last}
use Rattle.tlsf_diagnosis.proofs.PassingSteps.{front_passes, next_fails}

abbrev pub good : Kind → List ℕ → Bool
good kind field = passes (judge.Number 0) kind field

-- a good field of each kind
abbrev sample : Kind → List ℕ
sample Worker = codes "0"
sample Payload = codes "00"
sample (Words version) = codes "4"
sample _ = codes "1"

words_pass : (version : Version) → good (Words version) (codes "4") ≡ true
words_pass One = refl
words_pass Two = refl

sample_passes : (kind : Kind) → good kind (sample kind) ≡ true
unfolding hex_on_literals
sample_passes (Words version) = words_pass version
sample_passes kind = refl

-- ---- whether fields are a header, by the first of them

guarded : (five named : Bool) (found : Option Header) → named ≡ false → is_some (cond (five && named) found None) ≡ false
guarded true true found other = cc
guarded true false found other = refl
guarded false named found other = refl

unknown : (both : Bool) (version : Option Version) (next : Version → Option Header) → version ≡ None → is_some (cond both (version >>= next) None) ≡ false
unknown true None next none = refl
unknown true (Some version) next none = cc
unknown false version next none = refl

known : (five named : Bool) (found : Option Version) (next : Version → Option Header) (version : Version) → named ≡ true → found ≡ Some version
    → is_some (cond (five && named) (found >>= next) None) ≡ is_some (cond five (next version) None)
known true true None next version is same = cc
known true true (Some v) next version is same = let one : v ≡ version = cc in ap (λ x. is_some (next x)) one
known true false found next version is same = cc
known false named found next version is same = refl

neither : (b : Bool) → false ≡ cond b false false
neither true = refl
neither false = refl

nor : (a b : Bool) → false ≡ cond a (cond b false false) false
nor true b = neither b
nor false b = refl

nor_third : (a b c : Bool) → false ≡ cond a (cond b (cond c false false) false) false
nor_third true b c = nor b c
nor_third false b c = refl

three_found : (version : Version) (a b c : Option ℕ) → is_some {T = Header} (a >>= λ workers. (b >>= λ words. (c >>= λ capacity. Some (record { version = version; workers = workers; words = words; capacity = capacity }))))
    ≡ cond (is_some a) (cond (is_some b) (cond (is_some c) true false) false) false
three_found version None b c = refl
three_found version (Some a) None c = refl
three_found version (Some a) (Some b) None = refl
three_found version (Some a) (Some b) (Some c) = refl

three : (version : Version) (a b c : List ℕ) → is_some (header_from version a b c) ≡ all_pass good (header_kinds version) (a ∷ b ∷ c ∷ [])
unfolding header_from
three version a b c = three_found version (number_in (1, 8) a) (number_in (4, most_words_of version) b) (number_in (1, 1024) c)

too_many : (five : Bool) (found : Option Header) → five ≡ false → is_some (cond five found None) ≡ false
too_many true found over = cc
too_many false found over = refl

module _ (name second : List ℕ) (version : Version) where
  counted : (fields : List (List ℕ)) → is_some (cond (length (name ∷ second ∷ fields) == 5)
      (header_from version (field (name ∷ second ∷ fields) 2) (field (name ∷ second ∷ fields) 3) (field (name ∷ second ∷ fields) 4)) None) ≡ all_pass good (header_kinds version) fields
  counted [] = refl
  counted (a ∷ []) = neither (good Workers a)
  counted (a ∷ b ∷ []) = nor (good Workers a) (good (Words version) b)
  counted (a ∷ b ∷ c ∷ []) = three version a b c
  counted (a ∷ b ∷ c ∷ d ∷ more) =
      too_many (length (name ∷ second ∷ a ∷ b ∷ c ∷ d ∷ more) == 5) _ (ne_eqb (length (name ∷ second ∷ a ∷ b ∷ c ∷ d ∷ more)) 5 (λ same. absurd (omega (arith, same))))
      ∙ nor_third (good Workers a) (good (Words version) b) (good Capacity c)

  header_told : (fields : List (List ℕ)) → bytes_eq name (codes "tlsf") ≡ true → version_in second ≡ Some version
      → is_header (name ∷ second ∷ fields) ≡ all_pass good (header_kinds version) fields
  header_told fields named is =
      known (length (name ∷ second ∷ fields) == 5) (bytes_eq name (codes "tlsf")) (version_in second) _ version named is ∙ counted fields

-- ---- the field by which they are none

-- another name
pub bad_name : (name : List ℕ) (fields : List (List ℕ)) → bytes_eq name (codes "tlsf") ≡ false → FindsWrong is_header (GoAstrayAt is_header) (name ∷ fields) (Some 1)
unfolding header_from
bad_name name fields other = (
  guarded (length (name ∷ fields) == 5) (bytes_eq name (codes "tlsf")) _ other,
  astray_at is_header (name ∷ fields) 0 1 refl (codes "tlsf" ∷ codes "1" ∷ codes "1" ∷ codes "4" ∷ codes "1" ∷ [], refl)
      (inl (never is_header (name ∷ []) (λ more. guarded (length (name ∷ more) == 5) (bytes_eq name (codes "tlsf")) _ other))),
)

-- the name can begin a header
named_begins : (name : List ℕ) → bytes_eq name (codes "tlsf") ≡ true → CanBegin is_header (name ∷ [])
unfolding header_from
named_begins name named = (codes "1" ∷ codes "1" ∷ codes "4" ∷ codes "1" ∷ [], rw named refl)

-- no version, and none that is known
pub no_version : (name : List ℕ) → bytes_eq name (codes "tlsf") ≡ true → FindsWrong is_header (GoAstrayAt is_header) (name ∷ []) (Some 2)
no_version name named = (refl, astray_at is_header (name ∷ []) 1 2 refl (named_begins name named) (inr refl))

pub bad_version : (name second : List ℕ) (fields : List (List ℕ)) → bytes_eq name (codes "tlsf") ≡ true → version_in second ≡ None
    → FindsWrong is_header (GoAstrayAt is_header) (name ∷ second ∷ fields) (Some 2)
bad_version name second fields named none = (
  unknown (length (name ∷ second ∷ fields) == 5 && bytes_eq name (codes "tlsf")) (version_in second) _ none,
  astray_at is_header (name ∷ second ∷ fields) 1 2 refl (named_begins name named)
      (inl (never is_header (name ∷ second ∷ []) (λ more. unknown (length (name ∷ second ∷ more) == 5 && bytes_eq name (codes "tlsf")) (version_in second) _ none))),
)

module _ (name second : List ℕ) (version : Version) (fields : List (List ℕ)) (named : bytes_eq name (codes "tlsf") ≡ true) (is : version_in second ≡ Some version) where
  -- a number after the version
  pub bad_number : (m : ℕ) → IsFirstFailing good (header_kinds version) fields (Some m) → FindsWrong is_header (GoAstrayAt is_header) (name ∷ second ∷ fields) (Some (m + 3))
  bad_number m found =
      let kinds = header_kinds version in
      let count = passing_count good kinds fields in
      let begun = header_told name second version (take count fields ++ map sample (drop count kinds)) named is ∙ front_passes good sample sample_passes kinds fields in (
        header_told name second version fields named is ∙ found.0,
        astray_at is_header (name ∷ second ∷ fields) (suc (suc count)) (m + 3) (omega (arith, found.1)) (map sample (drop count kinds), begun)
            (elim (next_fails good kinds fields found.0) [
              | inl refused ↦ inl (never is_header (name ∷ second ∷ take (suc count) fields)
                  (λ more. header_told name second version (take (suc count) fields ++ more) named is ∙ refused more))
              | inr ends ↦ inr (ap (λ k. suc (suc k)) ends)
            ]),
      )

  -- nothing
  pub no_wrong : all_pass good (header_kinds version) fields ≡ true → FindsWrong is_header (GoAstrayAt is_header) (name ∷ second ∷ fields) None
  no_wrong all = header_told name second version fields named is ∙ all

-- ---- the field of a first line as it stands

-- the fields of a piece that is no header are none
fields_are_none : (piece : List ℕ) (fields : List (List ℕ)) → fields_in piece ≡ Some fields → header_in piece ≡ None → is_header fields ≡ false
unfolding header_in
fields_are_none piece fields are none = let none_is : header_of fields ≡ None = rw are at none in ap (λ (h : Option Header). is_some h) none_is

found_astray : (fields : List (List ℕ)) (found : Option ℕ) → FindsWrong is_header (GoAstrayAt is_header) fields found → is_header fields ≡ false → GoAstrayAt is_header fields (unwrap_or found 1)
found_astray fields None whole none = absurd cc
found_astray fields (Some n) wrong none = wrong.1

module _ (piece : List ℕ) (found : Option ℕ) where
  -- one that ends with a line feed
  pub ended : (fields : List (List ℕ)) → fields_in piece ≡ Some fields → FindsWrong is_header (GoAstrayAt is_header) fields found → header_in piece ≡ None
      → (workers : ℕ) → IsFieldOf workers BadHeader piece (unwrap_or found 1)
  ended fields are finds none workers = let field = found_astray fields found finds (fields_are_none piece fields are none) in rw are field

  -- and one that doesn't
  pub unended : (last : ℕ) → fields_in piece ≡ None → FindsWrong is_header (GoAstrayAt is_header) (fields_of piece) found → last ≡ count_by (λ byte. byte == 32) piece + 1
      → (workers : ℕ) → IsFieldOf workers BadHeader piece (unwrap_or found last)
  unended last none finds at workers =
      let field = wrong_or_last is_header (GoAstrayAt is_header) (fields_of piece) found last finds (last_of piece last at) in
      rw none field
