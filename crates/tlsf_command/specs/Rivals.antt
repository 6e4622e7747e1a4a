-- Options of a command that exclude each other.
use Rattle.std.specs.Prelude.{Bool, false, true, ◌++◌, Option, Some, None, codes, nat_lt, if◌then◌else◌}
use Rattle.std.specs.Str.{bytes_eq}
use Rattle.clap.specs.Words.{Text}
use Rattle.tlsf_command.specs.Arguments.{Arguments, first_number, is_set}
use Rattle.tlsf_command.specs.declared.rivals.Rivals.{Rivals}
use Rattle.tlsf_command.specs.declared.rivals.Rivals.TheVariants.{HeldKinds, HeldHeaps, HeldLeast, KindsLeast, HeapsLeast, TextHtml, AtHtml, WorstHtml, AtWorst}

-- two of them that are given, of `replay` and of `map`, where there are such
abbrev pub rivals_of_replay : (held kinds heaps least : Bool) → Option Rivals
rivals_of_replay true true heaps least = Some HeldKinds
rivals_of_replay true false true least = Some HeldHeaps
rivals_of_replay true false false true = Some HeldLeast
rivals_of_replay false true heaps true = Some KindsLeast
rivals_of_replay false false true true = Some HeapsLeast
rivals_of_replay held kinds heaps least = None

abbrev pub rivals_of_map : (text at worst html : Bool) → Option Rivals
rivals_of_map true at worst true = Some TextHtml
rivals_of_map false true worst true = Some AtHtml
rivals_of_map false false true true = Some WorstHtml
rivals_of_map text true true false = Some AtWorst
rivals_of_map text at worst html = None

-- those that are given to the command of this name: `--at` has the id K, `--heaps` the id H, and their numbers are above 0
abbrev pub rivals_given : (name : Text) → Arguments → Option Rivals
rivals_given name given =
    let is_given = λ (flag : Text). is_set (given flag) in
    let has_number = λ (id : Text). nat_lt 0 (first_number 0 (given id)) in
    if bytes_eq name (codes "replay") then
    rivals_of_replay (is_given (codes "held")) (is_given (codes "kinds")) (has_number (codes "H")) (is_given (codes "least"))
    else (if bytes_eq name (codes "map") then
    rivals_of_map (is_given (codes "text")) (has_number (codes "K")) (is_given (codes "worst")) (is_given (codes "html"))
    else None)

-- the refusal of two options of these names
abbrev pub excludes : (first second : Text) → Text
excludes first second = codes "tlsf: --" ++ (first ++ (codes " and --" ++ (second ++ codes " exclude each other: give one of them\n")))

abbrev pub rivals_line : Rivals → Text
rivals_line HeldKinds = excludes (codes "held") (codes "kinds")
rivals_line HeldHeaps = excludes (codes "held") (codes "heaps")
rivals_line HeldLeast = excludes (codes "held") (codes "least")
rivals_line KindsLeast = excludes (codes "kinds") (codes "least")
rivals_line HeapsLeast = excludes (codes "heaps") (codes "least")
rivals_line TextHtml = excludes (codes "text") (codes "html")
rivals_line AtHtml = excludes (codes "at") (codes "html")
rivals_line WorstHtml = excludes (codes "worst") (codes "html")
rivals_line AtWorst = excludes (codes "at") (codes "worst")
