use Rattle.tlsf_held.proofs.Common.{◌≡◌, ◌≤◌, ℕ, List, Option, ap, ap₂, sym, subst, ◌∙◌, arith, lit<, Name, Entry, held_region, account_of, Account, tally_of, level_of, most_words_of, Header}
use Rattle.std.specs.Option.{unwrap_or}
use Rattle.tlsf_held.specs.declared.tally.Tally.{Tally}
use Rattle.tlsf_held.proofs.LeastFound.{row_told, words_within}
use Rattle.tlsf_held.proofs.least.least_row.Goals as goal

pub replayed-requires : goal.replayed-requires
replayed-requires g c =
    let version = c.least_words.new.script.header.version in
    let is : c.unwrap_or.result ≡ unwrap_or c.in_ok-words.words (most_words_of version) =
    c.unwrap_or.ensures ∙ ap (λ (most : ℕ). unwrap_or c.in_ok-words.words most) c.most_words-most.ensures in
    let within = subst (λ (words : ℕ). (4 ≤ words) × (words ≤ most_words_of version)) (sym is) (words_within version c.in_ok-words.words c.in_ok-words.ensures.range) in
    (lit< tt, (c.in_ok-words.ensures.script.ready, within))

pub returns-clause-row : goal.returns-clause-row
returns-clause-row g c = λ trace is.
    let kept = c.in_ok-words.ensures.script.kept trace is in
    let level = ap (λ (h : Header). level_of h.version) (sym is.header) ∙ c.requires.ready.level in
    let workers = ap (λ (h : Header). h.workers) is.header in
    let version = ap (λ (h : Header). most_words_of h.version) kept.header in
    row_told g.row.SLI trace c.args.worker c.unwrap_or.result c.in_ok-player.player.made.items c.in_ok-player.entries.items
    c.in_ok-words.words c.region-law.result c.most.result level (omega (arith, workers, c.requires.worker))
    (c.unwrap_or.ensures ∙ ap (λ (most : ℕ). unwrap_or c.in_ok-words.words most) (c.most_words-most.ensures ∙ version))
    (c.in_ok-player.ensures.run trace kept)
    (c.in_ok-words.ensures.least trace is)
    (c.region-law.ensures ∙ ap (λ (t : Tally). held_region g.row.SLI t.most t.longest) (c.of.ensures ∙ ap (λ (es : List Entry). tally_of c.args.worker es) c.deref.ensures.value))
    (c.most.ensures ∙ (ap (λ (a : Account). a.most) c.in_ok-loans.ensures
    ∙ ap₂ (λ (m : List (Option Name)) (es : List Entry). (account_of c.args.worker m es).most) c.deref-2.ensures.value c.deref-3.ensures.value))
