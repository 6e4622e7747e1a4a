-- The pieces of a text, joined, are the text.
use Rattle.tlsf_lines.proofs.Common.{◌≡◌, ℕ, Bool, true, false, cond, eqb, List, [], ◌∷◌, refl, ap, ◌∙◌, arith, inl, inr, concat, onto_first, eqb-true, AreCut, ArePieces, IsRest, IsWhole, pieces_of}

-- a line feed alone
feed : IsWhole (10 ∷ [])
feed = ([], refl, refl)

feed_first : (pieces : List (List ℕ)) → AreCut pieces → AreCut ((10 ∷ []) ∷ pieces)
feed_first [] cut = inl feed
feed_first (piece ∷ pieces) cut = (feed, cut)

-- another byte in front of a piece
more_whole : (byte : ℕ) (piece : List ℕ) → eqb byte 10 ≡ false → IsWhole piece → IsWhole (byte ∷ piece)
more_whole byte piece other whole = (byte ∷ whole.0, ap (λ (bytes : List ℕ). byte ∷ bytes) whole.1, rw other whole.2)

more_rest : (byte : ℕ) (piece : List ℕ) → eqb byte 10 ≡ false → IsRest piece → IsRest (byte ∷ piece)
more_rest byte piece other rest = (omega arith, rw other rest.1)

byte_first : (byte : ℕ) (pieces : List (List ℕ)) → eqb byte 10 ≡ false → AreCut pieces → AreCut (onto_first byte pieces)
byte_first byte [] other cut = inr (omega arith, rw other refl)
byte_first byte (piece ∷ []) other cut = elim cut [ inl whole ↦ inl (more_whole byte piece other whole) | inr rest ↦ inr (more_rest byte piece other rest) ]
byte_first byte (piece ∷ next ∷ pieces) other cut = (more_whole byte piece other cut.0, cut.1)

concat-onto_first : (byte : ℕ) (pieces : List (List ℕ)) → concat (onto_first byte pieces) ≡ byte ∷ concat pieces
concat-onto_first byte [] = refl
concat-onto_first byte (piece ∷ pieces) = refl

-- a byte in front of a text, by whether it is a line feed
more : (byte : ℕ) (bytes : List ℕ) (is_feed : Bool) → eqb byte 10 ≡ is_feed → ArePieces bytes (pieces_of bytes)
    → ArePieces (byte ∷ bytes) (cond is_feed ((byte ∷ []) ∷ pieces_of bytes) (onto_first byte (pieces_of bytes)))
more byte bytes true is rest = record {
  joined = ap (λ (tail : List ℕ). byte ∷ tail) rest.joined;
  cut = rw (eqb-true byte 10 is) (feed_first (pieces_of bytes) rest.cut);
}
more byte bytes false is rest = record {
  joined = concat-onto_first byte (pieces_of bytes) ∙ ap (λ (tail : List ℕ). byte ∷ tail) rest.joined;
  cut = byte_first byte (pieces_of bytes) is rest.cut;
}

pub are_pieces : (text : List ℕ) → ArePieces text (pieces_of text)
are_pieces [] = record { joined = refl; cut = tt }
are_pieces (byte ∷ bytes) = more byte bytes (eqb byte 10) refl (are_pieces bytes)
