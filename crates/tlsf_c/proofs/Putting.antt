-- Names go into a lane by slices.
use Rattle.tlsf_c.proofs.Common.{◌≡◌, ℕ, ◌+◌, ◌≤◌, List, ◌++◌, take, drop, ap, sym, ◌∙◌, append_assoc, Post, post_of, posts_named, name_of}
use Rattle.std.proofs.Math.Seq.{take-add}
use Rattle.std.proofs.lemmas.List.{take-take, take-map, map-append}
use Rattle.tlsf_c.specs.declared.names.BlockName.{BlockName}

-- the first names, and then those of a slice of the rest that went
named_more : (names some : List BlockName) (count sent many : ℕ) → some ≡ take many (drop count names) → sent ≤ many
    → posts_named (take (count + sent) names) ≡ posts_named (take count names) ++ posts_named (take sent some)
named_more names some count sent many is few =
    ap posts_named (take-add count sent names) ∙ (map-append (λ (n : BlockName). post_of (name_of n)) (take count names) (take sent (drop count names))
    ∙ ap (λ (l : List BlockName). posts_named (take count names) ++ posts_named l) (sym (ap (λ (l : List BlockName). take sent l) is ∙ take-take sent many (drop count names) few)))

pub sent_more : (first last now : List Post) (names some : List BlockName) (count sent many : ℕ) → some ≡ take many (drop count names) → sent ≤ many
    → last ≡ first ++ posts_named (take count names) → now ≡ last ++ posts_named (take sent some) → now ≡ first ++ posts_named (take (count + sent) names)
sent_more first last now names some count sent many is few before more =
    more ∙ (ap (λ (l : List Post). l ++ posts_named (take sent some)) before
    ∙ (append_assoc first (posts_named (take count names)) (posts_named (take sent some))
    ∙ ap (λ (l : List Post). first ++ l) (sym (named_more names some count sent many is few))))

-- a slice of posts, each of which has one of the names
pub sent_named : (first now posts some : List Post) (names : List BlockName) (went many : ℕ) → some ≡ take many posts → take many posts ≡ posts_named (take many names)
    → went ≤ many → now ≡ first ++ take went some → now ≡ first ++ posts_named (take went names)
sent_named first now posts some names went many is named few put =
    put ∙ ap (λ (l : List Post). first ++ l) (ap (λ (l : List Post). take went l) (is ∙ named)
    ∙ (take-map (λ (n : BlockName). post_of (name_of n)) went (take many names) ∙ ap posts_named (take-take went many names few)))
