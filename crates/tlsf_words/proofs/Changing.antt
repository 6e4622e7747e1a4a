-- The bytes and words that a write isn't of: they stay.
use Rattle.tlsf_words.proofs.Common.{◌≡◌, ◌≢◌, ℕ, [], ◌∷◌, ◌+◌, ◌*◌, ◌/◌, ◌<◌, ◌≤◌, List, get_or, set, length, ap, ◌∙◌, arith, get_or-set_other, length-set, Memory, byte_in, times}
use Rattle.tlsf_words.proofs.Bytes.{byte_in-same, HasPiece, byte_in-before_piece, byte_in-behind_piece}
use Rattle.tlsf_words.proofs.Touching.{times_other}
use Rattle.tlsf_words.specs.Frame.{Reads, Writes, Changes, WritesBytes}

-- a write of whole words, from a place up to another
pub whole_changes : (place past : ℕ) {old new : Memory} → ((k : ℕ) → k < place → get_or new.words k 0 ≡ get_or old.words k 0) → ((k : ℕ) → past ≤ k → get_or new.words k 0 ≡ get_or old.words k 0)
    → length new.words ≡ length old.words → new.starts ≡ old.starts → new.extents ≡ old.extents → Changes (8 * place) (8 * past) old new
whole_changes place past low high long starts stays = record {
  before = λ k h. byte_in-same _ _ k (low (k / 8) (omega (arith, h)));
  behind = λ k h. byte_in-same _ _ k (high (k / 8) (omega (arith, h)));
  words_before = λ k h. low k (omega (arith, h));
  words_behind = λ k h. high k (omega (arith, h));
  length = long;
  starts = starts;
  stays = stays;
}

-- a word that is read and written with a piece of it replaced
pub piece_written : (first past place at : ℕ) (piece : List ℕ) (word : ℕ) {old mid new : Memory} → HasPiece old.words place at piece word → Reads place old mid
    → Writes (place ∷ []) (set mid.words place word) mid new → 0 < length piece → first ≤ 8 * place + at → 8 * place + at + length piece ≤ past → WritesBytes 2 first past old new
piece_written first past place at piece word {old = old} {mid = mid} has reads writes some from to =
    let is = writes.words ∙ ap (λ (l : List ℕ). set l place word) reads.words in
    let untouched = λ (k : ℕ) (other : k ≢ place). ap (λ (l : List ℕ). times l k) writes.touched ∙ times_other place k mid.touched other
    ∙ ap (λ (l : List ℕ). times l k) reads.touched ∙ times_other place k old.touched other in
    record {
      changes = record {
        before = λ k h. ap (λ (l : List ℕ). byte_in l k) is ∙ byte_in-before_piece _ _ _ _ _ k has (omega (arith, h, from));
        behind = λ k h. ap (λ (l : List ℕ). byte_in l k) is ∙ byte_in-behind_piece _ _ _ _ _ k has (omega (arith, h, to));
        words_before = λ k h. ap (λ (l : List ℕ). get_or l k 0) is ∙ get_or-set_other old.words place k word 0 (λ e. omega (arith, e, h, from, some, has.within));
        words_behind = λ k h. ap (λ (l : List ℕ). get_or l k 0) is ∙ get_or-set_other old.words place k word 0 (λ e. omega (arith, e, h, to, some, has.within));
        length = ap length is ∙ length-set old.words place word;
        starts = writes.starts ∙ reads.starts;
        stays = writes.stays ∙ reads.stays;
      };
      touches = omega (arith, writes.touches, reads.touches);
      touched_before = λ k h. untouched k (λ e. omega (arith, e, h, from, some, has.within));
      touched_behind = λ k h. untouched k (λ e. omega (arith, e, h, to, some, has.within));
      rise = omega (arith, writes.touches, reads.touches);
    }
