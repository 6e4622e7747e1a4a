-- A page, one moment after another.
use Rattle.tlsf_picture.proofs.Common.{◌≡◌, ℕ, suc, ◌+◌, Bool, false, true, cond, List, [], ◌∷◌, ◌++◌, length, sym, ap, ◌∙◌, subst, arith, Trace, Adds, all_told, head_told, moment_told, named_items, page_told, AreNoted, DrawsPage, IsMoment, is_shown, lines_shown, shown_until, AddsMoment, HasShown}
use Rattle.tlsf_map.specs.declared.named_lines.NamedLines.{NamedLines}
use Rattle.tlsf_map.proofs.Telling.{adds_then, tells_whole, told_more}
use Rattle.tlsf_picture.proofs.Maps.{push_both}

-- the lines up to one more, which has a moment or not
line_more : (lines : ℕ) (named : List NamedLines) (number : ℕ) (b : Bool) → is_shown lines named (number + 1) ≡ b
    → cond b (shown_until lines named number ++ (number + 1) ∷ []) (shown_until lines named number) ≡ shown_until lines named (number + 1)
line_more lines named number b is =
    let next : suc number ≡ number + 1 = omega arith in
    ap (λ (b : Bool). cond b (shown_until lines named number ++ (number + 1) ∷ []) (shown_until lines named number)) (sym is) ∙ ap (λ (n : ℕ). shown_until lines named n) next

pub line_left : (lines : ℕ) (named : List NamedLines) (number : ℕ) → is_shown lines named (number + 1) ≡ false → shown_until lines named number ≡ shown_until lines named (number + 1)
line_left lines named number none = line_more lines named number false none

pub line_shown : (lines : ℕ) (named : List NamedLines) (number : ℕ) → is_shown lines named (number + 1) ≡ true
    → shown_until lines named number ++ (number + 1) ∷ [] ≡ shown_until lines named (number + 1)
line_shown lines named number some = line_more lines named number true some

-- one moment more
pub shown_more : (lines : List ℕ) (line : ℕ) (trace : Trace) (before after : List ℕ) → HasShown lines trace before → AddsMoment line trace before after
    → HasShown (lines ++ line ∷ []) trace after
shown_more lines line trace before after shown adds = let told = moment_told trace.header.words in record {
  moments = shown.moments ++ adds.moment ∷ [];
  shown = push_both (IsMoment trace) lines shown.moments line adds.moment shown.shown adds.is;
  so_far = subst (λ (more : List (List ℕ)). Adds (head_told ++ more) [] after) (sym (told_more told shown.moments adds.moment))
      (adds_then (head_told ++ all_told told shown.moments) (told adds.moment) [] before after shown.so_far adds.added);
}

-- no moment yet
pub none_shown : (trace : Trace) (text : List ℕ) → Adds head_told [] text → HasShown [] trace text
none_shown trace text head = record { moments = []; shown = tt; so_far = head }

-- all of them
pub page_shown : (trace : Trace) (named : List NamedLines) (before after : List ℕ) → AreNoted trace named
    → HasShown (lines_shown (length trace.lines) named) trace before → Adds (named_items named ∷ []) before after → DrawsPage trace after
page_shown trace named before after noted shown foot = let moments = all_told (moment_told trace.header.words) shown.moments in record {
  named = named;
  noted = noted;
  moments = shown.moments;
  shown = shown.shown;
  drawn = tells_whole (page_told trace.header.words shown.moments named) after (adds_then (head_told ++ moments) (named_items named ∷ []) [] before after shown.so_far foot);
}
