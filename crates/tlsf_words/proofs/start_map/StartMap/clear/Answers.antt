use Rattle.std.proofs.Common.{take_all}
use Rattle.tlsf_words.proofs.Common.{◌≡◌, ◌++◌, ℕ, false, List, arith, ap, ◌∙◌, length, replicate, take, drop, drop_all, append-nil, length-replicate, length-take-le, CountedStarts}
use Rattle.tlsf_words.specs.Starts.{starts_in}
use Rattle.tlsf_words.proofs.StartBits.{length-starts_in, starts_in-replicate}
use Rattle.tlsf_words.proofs.start_map.StartMap.clear.Goals as goal

-- all words of a vector are those of the slice that was made zero
all_zero : (len k n : ℕ) (new old : List ℕ) → new ≡ replicate k 0 → k ≡ n → len ≡ n → length old ≡ n → take len (new ++ drop (length new) old) ≡ replicate n 0
all_zero len k n new old zeros whole all long =
    let is : new ≡ replicate n 0 = zeros ∙ ap (λ (m : ℕ). replicate m 0) whole in
    let many : length new ≡ n = ap length is ∙ length-replicate n 0 in
    ap (λ (rest : List ℕ). take len (new ++ rest)) (drop_all (length new) old (omega (arith, many, long)))
    ∙ ap (take len) (append-nil new) ∙ take_all len new (omega (arith, many, all)) ∙ is

pub returns : goal.returns
returns c =
    let bits = c.self.inside.bits in
    let ok = bits.ok.0 in
    let slice = length-take-le bits.len bits.items (omega (arith, ok)) in
    let long = length-starts_in c.self.inside.len bits.items in
    let view = ap (λ (m : CountedStarts). length m.starts) c.self.view_is in
    let count = ap (λ (m : CountedStarts). m.touches) c.self.view_is in
    record {
      leaves = record {
        starts = ap (starts_in c.self.inside.len) (all_zero bits.len _ (length bits.items) c.zero_bits.new.bits bits.items c.zero_bits.ensures.bits (omega (arith, ok, slice)) (omega (arith, ok)) (omega arith))
            ∙ starts_in-replicate c.self.inside.len (length bits.items) (omega (arith, c.self.invariant))
            ∙ ap (λ (n : ℕ). replicate n false) (omega (arith, long, view));
        stays = ap (λ (m : CountedStarts). m.extent) c.self.view_is;
        touches = omega (arith, ok, slice, long, view, count, c.self.invariant, c.zero_bits.ensures.touches);
      };
    }
