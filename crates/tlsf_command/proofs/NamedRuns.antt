-- Words that are written out, and name a run of a trace.
use Rattle.tlsf_command.proofs.Common.{◌≡◌, ◌≢◌, ◌==◌, ◌++◌, ℕ, false, List, [], ◌∷◌, None, codes, refl, arith, bytes_eq, Arguments, faults_of, run_asked, tlsf_app, arguments_of, IsPlainWord, Names, rivals_given, TraceRun, Replay, Held, HeldKinds, Least, Race, RaceQueues, Map, MapHtml, MapWorst, Plot, Check}
use Rattle.std.proofs.lemmas.Bool.Decides.{nat_tests}
use Rattle.clap.specs.Lexer.{long_of, short_of}
use Rattle.clap.specs.Words.{Text, subcommand_of}
use Rattle.clap.proofs.OnLiterals.{clap_on_literals}
use Rattle.tlsf_picture.specs.declared.form.Form.TheVariants.{Svg, Text as Characters}

-- the name is none of those of the commands that read no trace
abbrev pub IsNoOther : Text → Type 0
IsNoOther name = (bytes_eq name (codes "classes") ≡ false) × (bytes_eq name (codes "size") ≡ false)

-- the command of this name is asked for a run, with these words behind it, no number and no two options that exclude each other
abbrev pub NamesRun : TraceRun → (files : List Text) → Text → Arguments → Type 0
NamesRun run files name given = IsNoOther name × (run_asked name given ≡ run) × (given (codes "FILE") ≡ files) × (given (codes "K") ≡ []) × (given (codes "H") ≡ [])
    × (rivals_given name given ≡ None)

-- the words ask for it
pub record NameRun (words : List Text) (run : TraceRun) (files : List Text) : Type 0 where
  pub faultless : faults_of words ≡ []
  pub named : Names (NamesRun run files) (subcommand_of tlsf_app words)

-- the program's name, whatever that is, and the words of a run
pub run_named : (called : Text) (run : TraceRun) → NameRun (called ∷ arguments_of run) run []
unfolding clap_on_literals
run_named called Replay = record { faultless = refl; named = ((refl, refl), refl, refl, refl, refl, refl) }
run_named called Held = record { faultless = refl; named = ((refl, refl), refl, refl, refl, refl, refl) }
run_named called HeldKinds = record { faultless = refl; named = ((refl, refl), refl, refl, refl, refl, refl) }
run_named called Least = record { faultless = refl; named = ((refl, refl), refl, refl, refl, refl, refl) }
run_named called Race = record { faultless = refl; named = ((refl, refl), refl, refl, refl, refl, refl) }
run_named called RaceQueues = record { faultless = refl; named = ((refl, refl), refl, refl, refl, refl, refl) }
run_named called (Map Svg) = record { faultless = refl; named = ((refl, refl), refl, refl, refl, refl, refl) }
run_named called (Map Characters) = record { faultless = refl; named = ((refl, refl), refl, refl, refl, refl, refl) }
run_named called MapHtml = record { faultless = refl; named = ((refl, refl), refl, refl, refl, refl, refl) }
run_named called (MapWorst Svg) = record { faultless = refl; named = ((refl, refl), refl, refl, refl, refl, refl) }
run_named called (MapWorst Characters) = record { faultless = refl; named = ((refl, refl), refl, refl, refl, refl, refl) }
run_named called (Plot Svg) = record { faultless = refl; named = ((refl, refl), refl, refl, refl, refl, refl) }
run_named called (Plot Characters) = record { faultless = refl; named = ((refl, refl), refl, refl, refl, refl, refl) }
run_named called Check = record { faultless = refl; named = ((refl, refl), refl, refl, refl, refl, refl) }

no_hyphen : (code : ℕ) → code ≢ 45 → (code == 45) ≡ false
no_hyphen code ne = grind (arith, nat_tests)

-- no text of a flag
abbrev pub IsPlain : Text → Type 0
IsPlain text = (bytes_eq text (45 ∷ 45 ∷ []) ≡ false) × (long_of text ≡ None) × (short_of text ≡ None)

plain_word : (text : Text) → IsPlainWord text → IsPlain text
plain_word [] plain = (refl, refl, refl)
plain_word (code ∷ rest) plain = let no = no_hyphen code plain in (rw no refl, rw no refl, rw no refl)

by_plain : (called : Text) (run : TraceRun) (file : Text) → IsPlain file → NameRun (called ∷ (arguments_of run ++ file ∷ [])) run (file ∷ [])
unfolding clap_on_literals
by_plain called Replay file plain = record { faultless = rw (plain.0, plain.1, plain.2) refl; named = rw (plain.0, plain.1, plain.2) ((refl, refl), refl, refl, refl, refl, refl) }
by_plain called Held file plain = record { faultless = rw (plain.0, plain.1, plain.2) refl; named = rw (plain.0, plain.1, plain.2) ((refl, refl), refl, refl, refl, refl, refl) }
by_plain called HeldKinds file plain = record { faultless = rw (plain.0, plain.1, plain.2) refl; named = rw (plain.0, plain.1, plain.2) ((refl, refl), refl, refl, refl, refl, refl) }
by_plain called Least file plain = record { faultless = rw (plain.0, plain.1, plain.2) refl; named = rw (plain.0, plain.1, plain.2) ((refl, refl), refl, refl, refl, refl, refl) }
by_plain called Race file plain = record { faultless = rw (plain.0, plain.1, plain.2) refl; named = rw (plain.0, plain.1, plain.2) ((refl, refl), refl, refl, refl, refl, refl) }
by_plain called RaceQueues file plain = record { faultless = rw (plain.0, plain.1, plain.2) refl; named = rw (plain.0, plain.1, plain.2) ((refl, refl), refl, refl, refl, refl, refl) }
by_plain called (Map Svg) file plain = record { faultless = rw (plain.0, plain.1, plain.2) refl; named = rw (plain.0, plain.1, plain.2) ((refl, refl), refl, refl, refl, refl, refl) }
by_plain called (Map Characters) file plain = record { faultless = rw (plain.0, plain.1, plain.2) refl; named = rw (plain.0, plain.1, plain.2) ((refl, refl), refl, refl, refl, refl, refl) }
by_plain called MapHtml file plain = record { faultless = rw (plain.0, plain.1, plain.2) refl; named = rw (plain.0, plain.1, plain.2) ((refl, refl), refl, refl, refl, refl, refl) }
by_plain called (MapWorst Svg) file plain = record { faultless = rw (plain.0, plain.1, plain.2) refl; named = rw (plain.0, plain.1, plain.2) ((refl, refl), refl, refl, refl, refl, refl) }
by_plain called (MapWorst Characters) file plain = record { faultless = rw (plain.0, plain.1, plain.2) refl; named = rw (plain.0, plain.1, plain.2) ((refl, refl), refl, refl, refl, refl, refl) }
by_plain called (Plot Svg) file plain = record { faultless = rw (plain.0, plain.1, plain.2) refl; named = rw (plain.0, plain.1, plain.2) ((refl, refl), refl, refl, refl, refl, refl) }
by_plain called (Plot Characters) file plain = record { faultless = rw (plain.0, plain.1, plain.2) refl; named = rw (plain.0, plain.1, plain.2) ((refl, refl), refl, refl, refl, refl, refl) }
by_plain called Check file plain = record { faultless = rw (plain.0, plain.1, plain.2) refl; named = rw (plain.0, plain.1, plain.2) ((refl, refl), refl, refl, refl, refl, refl) }

-- and a word behind them that begins with no hyphen
pub file_named : (called : Text) (run : TraceRun) (file : Text) → IsPlainWord file → NameRun (called ∷ (arguments_of run ++ file ∷ [])) run (file ∷ [])
file_named called run file plain = by_plain called run file (plain_word file plain)
