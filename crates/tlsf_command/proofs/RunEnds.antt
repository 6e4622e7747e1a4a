-- How a run ends, by what its words name.
use Rattle.tlsf_command.proofs.Common.{◌≡◌, ◌⊎◌, ◌∷◌, ◌++◌, ◌∙◌, ℕ, Bool, List, [], inl, inr, ap, subst, sym, Asks, faults_of, arguments_of, IsPlainWord, Streams, Does, Ends, LacksMemory, RunsOrLacksMemory, ShowsAnswer, TipsOrLacksMemory, TraceRun}
use Rattle.clap.specs.Words.{IsAmong, Text}
use Rattle.clap.specs.declared.error.kind.ErrorKind.{ErrorKind}
use Rattle.clap.specs.declared.error.kind.ErrorKind.TheVariants.{OutOfMemory}
use Rattle.tlsf_command.specs.declared.command_line.Choice.{Choice}
use Rattle.tlsf_command.proofs.ChosenCommands.{only_run, only_tip}
use Rattle.tlsf_command.proofs.NamedRuns.{file_named, run_named, NameRun}

-- ---- where `clap` ends it by an error

-- an answer of a kind that the words come to, or for want of memory
pub answer_ends : (tips : Bool) (words : List Text) (kind : ErrorKind) (status : ℕ) (old new : Streams) → ShowsAnswer kind status old new
    → (kind ≡ OutOfMemory) ⊎ IsAmong kind (faults_of words) → Ends tips words status old new
answer_ends tips words kind status old new shows (inl is) = inl (subst (λ k. ShowsAnswer k status old new) is shows)
answer_ends tips words kind status old new shows (inr among) = inr (inr (kind, among, shows))

-- words that come to no fault are answered for want of memory alone
answer_lacks : (words named : List Text) (kind : ErrorKind) (status : ℕ) (old new : Streams) → ShowsAnswer kind status old new
    → (kind ≡ OutOfMemory) ⊎ IsAmong kind (faults_of words) → words ≡ named → faults_of named ≡ [] → LacksMemory status old new
answer_lacks words named kind status old new shows (inl is) same none = subst (λ k. ShowsAnswer k status old new) is shows
answer_lacks words named kind status old new shows (inr among) same none = absurd (subst (IsAmong kind) (ap faults_of same ∙ none) among)

-- how a run ends: it does what the words ask for, or it is ended by an error
pub data Run (tips : Bool) (words : List Text) (status : ℕ) (old new : Streams) : Type 0 where
  does : (choice : Choice) → Asks words choice → Does tips choice status old new → Run tips words status old new
  fails : (kind : ErrorKind) → (kind ≡ OutOfMemory) ⊎ IsAmong kind (faults_of words) → ShowsAnswer kind status old new → Run tips words status old new

-- ---- what words that are written out come to

module _ (tips : Bool) (words : List Text) (called : Text) (status : ℕ) (old new : Streams) (run : Run tips words status old new) where
  by_run : (wanted : TraceRun) → words ≡ called ∷ arguments_of wanted → Run tips words status old new → RunsOrLacksMemory tips wanted status old new
  by_run wanted is (does choice asks done) =
      let names = subst (λ (given : List Text). NameRun given wanted []) (sym is) (run_named called wanted) in
      inl (subst (λ (c : Choice). Does tips c status old new) (only_run wanted choice _ names.named asks.asked) done)
  by_run wanted is (fails kind among shows) = inr (answer_lacks words _ kind status old new shows among is (run_named called wanted).faultless)

  pub ends_run : (wanted : TraceRun) → words ≡ called ∷ arguments_of wanted → RunsOrLacksMemory tips wanted status old new
  ends_run wanted is = by_run wanted is run

  by_file : (wanted : TraceRun) (file : Text) → IsPlainWord file → words ≡ called ∷ (arguments_of wanted ++ file ∷ []) → Run tips words status old new → TipsOrLacksMemory wanted file status old new
  by_file wanted file plain is (does choice asks done) =
      let names = subst (λ (given : List Text). NameRun given wanted (file ∷ [])) (sym is) (file_named called wanted file plain) in
      inl (only_tip tips wanted file choice status old new _ names.named asks.asked done)
  by_file wanted file plain is (fails kind among shows) = inr (answer_lacks words _ kind status old new shows among is (file_named called wanted file plain).faultless)

  pub ends_file : (wanted : TraceRun) (file : Text) → IsPlainWord file → words ≡ called ∷ (arguments_of wanted ++ file ∷ []) → TipsOrLacksMemory wanted file status old new
  ends_file wanted file plain is = by_file wanted file plain is run
