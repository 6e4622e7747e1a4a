use Rattle.tlsf_words.proofs.Common.{◌≡◌, ℕ, ◌+◌, ◌-◌, ◌*◌, List, ◌++◌, take, w64, get_or, set, length, ap, ◌∙◌, arith, length-take-le, to_le_bytes, get_or-take, byte_in}
use Rattle.tlsf_words.proofs.Bytes.{with_piece_at_end, HasPiece, byte_in-piece}
use Rattle.tlsf_words.proofs.Changing.{piece_written}
use Rattle.tlsf_words.proofs.words.Words.write_head.Goals as goal

abbrev piece : (c : goal.After-write) → List ℕ
piece c = take (8 - c.args.first) (to_le_bytes w64 c.first_word.result)

-- as many bytes as the word has from there on
long : (c : goal.After-write) → length (piece c) ≡ 8 - c.args.first
long c = length-take-le (8 - c.args.first) (to_le_bytes w64 c.first_word.result) (omega arith)

has_piece : (c : goal.After-write) → HasPiece c.args.self.now.words c.args.place c.args.first (piece c) c.join_bytes.result
has_piece c = record {
  inside = c.requires.inside (omega arith);
  within = omega (arith, long c, c.requires.within);
  is =
      c.join_bytes.ensures
      ∙ ap (λ word. take c.args.first (to_le_bytes w64 word) ++ piece c) c.read-word.ensures.value
      ∙ with_piece_at_end (to_le_bytes w64 (get_or c.args.self.now.words c.args.place 0)) c.args.first (piece c) (omega (arith, long c, c.requires.within));
}

-- the words after it
written : (c : goal.After-write) → c.write.new.self.words ≡ set c.args.self.now.words c.args.place c.join_bytes.result
written c = c.write.ensures.writes.words ∙ ap (λ words. set words c.args.place c.join_bytes.result) c.read-word.ensures.reads.words

pub returns-clause-bytes : goal.returns-clause-bytes
returns-clause-bytes c k some h =
    ap (λ words. byte_in words (8 * c.args.place + c.args.first + k)) (written c)
    ∙ byte_in-piece _ _ _ _ _ k (has_piece c) (omega (arith, long c))
    ∙ get_or-take (8 - c.args.first) (to_le_bytes w64 c.first_word.result) k 0 (omega arith)
    ∙ ap (λ bytes. get_or bytes k 0) c.first_word.ensures
    ∙ get_or-take 8 c.args.bytes.now k 0 (omega arith)

pub returns-clause-writes : goal.returns-clause-writes
returns-clause-writes c = piece_written (8 * c.args.place + c.args.first) (8 * c.args.place + 8) c.args.place c.args.first (piece c) _ (has_piece c) c.read-word.ensures.reads c.write.ensures.writes (omega (arith, long c, c.requires.within)) (omega arith) (omega (arith, long c))
