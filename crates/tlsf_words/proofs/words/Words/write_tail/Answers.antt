use Rattle.tlsf_words.proofs.Common.{◌≡◌, ℕ, ◌+◌, ◌-◌, ◌*◌, ◌<◌, List, ◌++◌, take, drop, w64, get_or, set, length, ap, sym, ◌∙◌, arith, length-take-le, to_le_bytes, get_or-take, get_or-drop, get_or-between, byte_in}
use Rattle.tlsf_words.proofs.Bytes.{HasPiece, byte_in-piece}
use Rattle.tlsf_words.proofs.Changing.{piece_written}
use Rattle.tlsf_words.proofs.words.Words.write_tail.Goals as goal

abbrev piece : (c : goal.After-write) → List ℕ
piece c = take c.args.n (to_le_bytes w64 c.drop_bytes-last.result)

long : (c : goal.After-write) → length (piece c) ≡ c.args.n
long c = length-take-le c.args.n (to_le_bytes w64 c.drop_bytes-last.result) (omega arith)

has_piece : (c : goal.After-write) → HasPiece c.args.self.now.words c.args.place 0 (piece c) c.join_bytes.result
has_piece c = record {
  inside = c.requires.inside (omega arith);
  within = omega (arith, long c, c.requires.within);
  is =
      c.join_bytes.ensures
      ∙ ap (λ rest. piece c ++ rest) c.drop_bytes-rest.ensures
      ∙ ap (λ word. piece c ++ drop c.args.n (to_le_bytes w64 word)) c.read.ensures.value
      ∙ ap (λ n. piece c ++ drop n (to_le_bytes w64 (get_or c.args.self.now.words c.args.place 0))) (sym (long c));
}

written : (c : goal.After-write) → c.write.new.self.words ≡ set c.args.self.now.words c.args.place c.join_bytes.result
written c = c.write.ensures.writes.words ∙ ap (λ words. set words c.args.place c.join_bytes.result) c.read.ensures.reads.words

-- byte k of the piece is byte k of the last ones
byte_of_piece : (c : goal.After-write) (k : ℕ) → k < c.args.n → get_or (piece c) k 0 ≡ get_or c.args.bytes.now (length c.args.bytes.now - c.args.n + k) 0
byte_of_piece c k h =
    let eight = to_le_bytes w64 c.first_word.result in
    let count : 8 - (8 - c.args.n) ≡ c.args.n = omega (arith, c.requires.within) in
    let at : length c.args.bytes.now - 8 + (8 - c.args.n + k) ≡ length c.args.bytes.now - c.args.n + k = omega (arith, c.requires.enough, c.requires.within) in
    ap (λ n. get_or (take n (to_le_bytes w64 c.drop_bytes-last.result)) k 0) (sym count)
    ∙ ap (λ bytes. get_or bytes k 0) c.drop_bytes-last.ensures
    ∙ get_or-drop (8 - c.args.n) eight k 0
    ∙ ap (λ bytes. get_or bytes (8 - c.args.n + k) 0) c.first_word.ensures
    ∙ get_or-take 8 _ (8 - c.args.n + k) 0 (omega (arith, c.requires.within))
    ∙ get_or-between c.args.bytes.now (length c.args.bytes.now - 8) (length c.args.bytes.now) (8 - c.args.n + k) 0 (omega (arith, c.requires.enough, c.requires.within))
    ∙ ap (λ n. get_or c.args.bytes.now n 0) at

pub returns-clause-bytes : goal.returns-clause-bytes
returns-clause-bytes c k h =
    let at : 8 * c.args.place + k ≡ 8 * c.args.place + 0 + k = omega arith in
    ap (byte_in c.write.new.self.words) at
    ∙ ap (λ words. byte_in words (8 * c.args.place + 0 + k)) (written c)
    ∙ byte_in-piece _ _ _ _ _ k (has_piece c) (omega (arith, long c))
    ∙ byte_of_piece c k h

pub returns-clause-writes : goal.returns-clause-writes
returns-clause-writes c = piece_written (8 * c.args.place) (8 * c.args.place + c.args.n) c.args.place 0 (piece c) _ (has_piece c) c.read.ensures.reads c.write.ensures.writes (omega (arith, long c)) (omega arith) (omega (arith, long c))
