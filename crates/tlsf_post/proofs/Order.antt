-- The posts that were taken from a lane, and then those that wait, are those that had waited and then those that were sent.
use Rattle.tlsf_post.proofs.Common.{◌≡◌, ◌≤◌, List, ◌++◌, length, take, drop, append_assoc, drop-append-le, take-append-drop}
use Rattle.std.proofs.Math.Seq.{drop-append_seam}

-- at the mark `rec` had been received, `known` waited and `marked` had been sent; now they are `taken`, `waiting` and `sent`
pub in_order : {A : Type 0} → (rec known marked taken waiting sent : List A)
    → rec ++ known ≡ marked → take (length marked) sent ≡ marked → length rec ≤ length taken → taken ++ waiting ≡ sent
    → drop (length rec) taken ++ waiting ≡ known ++ drop (length marked) sent
in_order rec known marked taken waiting sent at_mark before more now =
    let since = drop (length marked) sent in
    let left = drop-append-le (length rec) taken waiting more in
    let whole = take-append-drop (length marked) sent in
    let right = drop-append_seam rec (known ++ since) in
    let joined = append_assoc rec known since in
    cc
