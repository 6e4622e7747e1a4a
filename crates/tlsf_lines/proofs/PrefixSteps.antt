-- A prefix that grows by what the writer took.
use Rattle.tlsf_lines.proofs.Common.{◌≡◌, ℕ, ◌+◌, List, take, drop, Option, sym, subst, take-add, Appends}
use Rattle.std.proofs.KnownBytes.{Appends-trans}

pub prefix_grows : (a b c : Option (List ℕ)) (done count : ℕ) (text rest : List ℕ) → Appends a b (take done text) → rest ≡ drop done text → Appends b c (take count rest) → Appends a c (take (done + count) text)
prefix_grows a b c done count text rest p e q =
    let q' : Appends b c (take count (drop done text)) = rw e at q in
    subst (Appends a c) (sym (take-add done count text)) (Appends-trans a b c _ _ p q')
