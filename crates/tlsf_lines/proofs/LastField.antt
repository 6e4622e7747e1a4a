-- The last field of a line. A kind that refuses a space may read all that is left: where another field follows, it refuses both.
use Rattle.tlsf_lines.proofs.Common.{◌≡◌, ℕ, true, false, Bool, ◌==◌, List, [], ◌∷◌, Option, None, option_map, Result, Ok, Err, refl, arith, is_ascii_digit, All, AllByRecursion, join_with_byte, all_ascii_digits, and_parts, eqb-true, false_from_ne_true, nat_tests, All-cons, All-nil, recursion_from_All, join_with_byte-slice_split, slice_split_none, fields_of, only_by, digits_in, Value, Bytes}
use Rattle.hex.specs.Hex.{decode_of, is_hex_digit}
use Rattle.hex.specs.declared.error.FromHexError.{FromHexError}
use Rattle.hex.proofs.HexLemmas.{decode_of-ok}
use Rattle.tlsf_lines.specs.Payloads.{chunk_in}

-- no byte is a space
abbrev pub HasNoSpace : List ℕ → Type 0
HasNoSpace line = All (λ byte. (byte == 32) ≡ false) line

-- ---- what the whole line says is what its one field says

whole : (say : List ℕ → Option Value) (line : List ℕ) → HasNoSpace line → say line ≡ only_by say (fields_of line)
whole say line free = rw (slice_split_none (λ byte. byte == 32) line free) refl

joined : (say : List ℕ → Option Value) (line : List ℕ) (fields : List (List ℕ)) → join_with_byte 32 fields ≡ line → say line ≡ None → say line ≡ only_by say fields
joined say line [] same none = none
joined say line (field ∷ []) same none = rw same refl
joined say line (field ∷ next ∷ fields) same none = none

nothing : (say : List ℕ → Option Value) (line : List ℕ) → say line ≡ None → say line ≡ only_by say (fields_of line)
nothing say line none = joined say line (fields_of line) (join_with_byte-slice_split 32 line) none

-- ---- digits

pub digit_is : (byte : ℕ) → is_ascii_digit byte ≡ true → (byte == 32) ≡ false
digit_is byte digit = grind (arith, nat_tests)

digits_free : (line : List ℕ) → all_ascii_digits line ≡ true → HasNoSpace line
digits_free [] all = All-nil _
digits_free (x ∷ xs) all =
    let parts = and_parts (is_ascii_digit x) (all_ascii_digits xs) all in
    All-cons (λ byte. (byte == 32) ≡ false) x xs (digit_is x parts.0) (digits_free xs parts.1)

digits_told : (range : ℕ × ℕ) (line : List ℕ) (b : Bool) → all_ascii_digits line ≡ b → digits_in range line ≡ only_by (λ f. digits_in range f) (fields_of line)
digits_told range line true all = whole (λ f. digits_in range f) line (digits_free line all)
digits_told range line false some =
    let none : digits_in range line ≡ None = grind (arith, some) in
    nothing (λ f. digits_in range f) line none

pub last_digits : (range : ℕ × ℕ) (line : List ℕ) → digits_in range line ≡ only_by (λ f. digits_in range f) (fields_of line)
last_digits range line = digits_told range line (all_ascii_digits line) refl

-- ---- payloads

space_is : (byte : ℕ) → byte ≡ 32 → is_hex_digit byte ≡ true → ⊥
space_is byte space digit = cc (rw space at digit)

hex_is : (byte : ℕ) → is_hex_digit byte ≡ true → (byte == 32) ≡ false
hex_is byte digit = false_from_ne_true (byte == 32) (λ e. absurd (space_is byte (eqb-true byte 32 e) digit))

hex_free : (line : List ℕ) → AllByRecursion (λ byte. is_hex_digit byte ≡ true) line → HasNoSpace line
hex_free [] all = All-nil _
hex_free (x ∷ xs) all = All-cons (λ byte. (byte == 32) ≡ false) x xs (hex_is x all.0) (hex_free xs all.1)

chunk_told : (line : List ℕ) (read : Result (List ℕ) FromHexError) → decode_of line ≡ read
    → option_map (λ chunk. Bytes chunk) (chunk_in line) ≡ only_by (λ f. option_map (λ chunk. Bytes chunk) (chunk_in f)) (fields_of line)
chunk_told line (Ok bytes) ok =
    whole (λ f. option_map (λ chunk. Bytes chunk) (chunk_in f)) line (hex_free line (recursion_from_All (λ byte. is_hex_digit byte ≡ true) line (decode_of-ok line bytes ok).1))
chunk_told line (Err error) err =
    let none : option_map (λ chunk. Bytes chunk) (chunk_in line) ≡ None = grind (arith, err) in
    nothing (λ f. option_map (λ chunk. Bytes chunk) (chunk_in f)) line none

pub last_chunk : (line : List ℕ) → option_map (λ chunk. Bytes chunk) (chunk_in line) ≡ only_by (λ f. option_map (λ chunk. Bytes chunk) (chunk_in f)) (fields_of line)
last_chunk line = chunk_told line (decode_of line) refl
