use Rattle.tlsf_words.proofs.Common.{◌+◌, ◌-◌, ◌*◌, get_or, w64, length, ap, sym, ◌∙◌, arith, to_le_bytes, get_or-take, get_or-drop, get_or_append_left}
use Rattle.tlsf_words.proofs.Bytes.{byte_in-word}
use Rattle.tlsf_words.proofs.words.Words.read_head.Goals as goal

pub returns-clause-bytes : goal.returns-clause-bytes
returns-clause-bytes c k some h =
    let are = c.copy_from_slice.ensures.after ∙ c.to_le_bytes.ensures in
    get_or_append_left c.copy_from_slice.new.self _ 0 k (omega (arith, ap length are))
    ∙ ap (λ bytes. get_or bytes k 0) are
    ∙ sym (get_or-take (8 - c.args.first) (to_le_bytes w64 c.drop_bytes-word.result) k 0 (omega arith))
    ∙ ap (λ bytes. get_or bytes k 0) c.drop_bytes-word.ensures
    ∙ get_or-drop c.args.first (to_le_bytes w64 c.read.result) k 0
    ∙ ap (λ word. get_or (to_le_bytes w64 word) (c.args.first + k) 0) c.read.ensures.value
    ∙ sym (byte_in-word c.args.self.now.words c.args.place (c.args.first + k) (8 * c.args.place + c.args.first + k) (omega arith) (omega arith))
