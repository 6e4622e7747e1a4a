-- The words and start bits of a region that is one free block.
use Rattle.tlsf_heap.proofs.Common.{◌≡◌, ℕ, ◌+◌, ◌≤◌, ◌^◌, ◌<◌, ◌≢◌, Bool, true, false, List, [], ◌∷◌, length, set, replicate, refl, sym, ap, ◌∙◌, arith, get_or-set_same, get_or-set_other, ◌==◌, nat_tests, length-replicate, get_or-replicate, length-set, Image, Shows, StartsOnce, tag_word, Free, nowhere}
use Rattle.tlsf_heap.proofs.lemmas.words.Image.{word_at}

-- a new start map with its first bit set
one_start : (n : ℕ) (starts : List Bool) → 4 ≤ n → starts ≡ set (replicate n false) 0 true → StartsOnce starts 0 n
one_start n starts some e = record {
  first = let within : 0 < length (replicate n false) = omega (arith, length-replicate n false) in rw e (rw get_or-set_same refl);
  others = λ k l g. let other : k ≢ 0 = omega arith in rw e (rw get_or-set_other (get_or-replicate n k false false (omega arith)));
}

pub one_free : (m : Image) (n stamp : ℕ) → 4 ≤ n → n ≤ 2 ^ 24 → length m.words ≡ n → word_at m 0 ≡ tag_word n true true nowhere → word_at m 1 ≡ stamp
    → m.starts ≡ set (replicate n false) 0 true → Shows m (Free n stamp ∷ [])
one_free m n stamp some most long tag mark starts =
    let last : (0 + n == length m.words) ≡ true = grind (arith, nat_tests) in
    record {
      shown = (record { tag = rw last tag; mark = mark; payload = tt; starts = one_start n m.starts some starts }, tt);
      whole = omega arith;
      mapped = ap length starts ∙ length-set (replicate n false) 0 true ∙ length-replicate n false ∙ sym long;
      rooms = (some, tt);
      small = omega arith;
    }
