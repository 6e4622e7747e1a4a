-- A husk owns the ways back to room alone, which name no thread.
use Rattle.tlsf_arena.proofs.Walking.{ℕ, zero, suc, ◌+◌, ◌/◌, ways, Keyless, w8, exits_of, shape, fields, to, IsSend, AllSend, owning_send, struct_send, sendable, quiet}
use Rattle.tlsf_arena.specs.contracts.husk.Husk.{the_row, the_type}

room : (b x k : ℕ) → Keyless (ways w8 b x k)
room b x zero = tt
room b x (suc k) = ((tt, tt), room b (x + 16) k)

pub send : IsSend the_row
send =
    let all : AllSend (fields the_type) = (search sendable, (search sendable, tt)) in
    owning_send the_type all (λ d. room d.region.block d.at (d.size / 16)) (λ k. quiet (to the_type) (exits_of k (fields the_type)) ((struct_send (shape the_type) all).leaving k))
