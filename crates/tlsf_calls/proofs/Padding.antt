-- The bytes of a chunk are those that it was made of, whatever zeros stand behind them.
use Rattle.std.proofs.Common.{◌≡◌, ◌-◌, ◌∙◌, length, min, take, replicate, ap, arith, refl, ℕ, ◌≤◌, ◌++◌, List}
use Rattle.std.proofs.lemmas.List.{take_at}
use Rattle.tlsf_calls.specs.Bytes.{bytes_of, chunk_of}

pub bytes_back : (bytes : List ℕ) → length bytes ≤ 64 → bytes_of (chunk_of bytes) ≡ bytes
bytes_back bytes le =
    let n : min (length bytes) 64 ≡ length bytes = omega arith in
    ap (λ k. take k (bytes ++ replicate (64 - length bytes) 0)) n ∙ take_at bytes (replicate (64 - length bytes) 0) (length bytes) refl
