-- A piece owns room alone, which names no thread.
use Rattle.tlsf_arena.proofs.Walking.{ℕ, Keyless, Ptr, block_ptr, null_ptr, exits_of, shape, fields, to, IsSend, AllSend, owning_send, struct_send, sendable, quiet, bytes_at}
use Rattle.tlsf_arena.specs.contracts.piece.Piece.{the_row, the_type}

room : (p : Ptr) (n : ℕ) → Keyless (bytes_at p n)
room (block_ptr b o) n = tt
room null_ptr n = tt

pub send : IsSend the_row
send =
    let all : AllSend (fields the_type) = (search sendable, (search sendable, tt)) in
    owning_send the_type all (λ d. room d.ptr d.size) (λ k. quiet (to the_type) (exits_of k (fields the_type)) ((struct_send (shape the_type) all).leaving k))
