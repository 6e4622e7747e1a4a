use Rattle.tlsf_diagnosis.proofs.Common.{◌≡◌, ◌∙◌, ◌+◌, ◌-◌, ◌≤◌, ℕ, zero, suc, refl, arith, header_kinds}
use Rattle.std.specs.Prelude.{slice_get}
use Rattle.std.proofs.lemmas.Bool.Decides.{nat_tests}
use Rattle.tlsf_lines.specs.declared.version.Version.{Version}
use Rattle.tlsf_diagnosis.specs.Tips.{is_number_kind, takes_number_in_header}
use Rattle.tlsf_diagnosis.proofs.findings.wanted_in_header.Goals as goal

-- the three fields after the version are numbers, and no field is left after these
behind_version : (version : Version) (k n : ℕ) → n ≡ k + 3 → is_number_kind (slice_get (header_kinds version) k) ≡ takes_number_in_header n
behind_version version zero n at = let is : n ≡ 3 = omega (arith, at) in rw is refl
behind_version version (suc zero) n at = let is : n ≡ 4 = omega (arith, at) in rw is refl
behind_version version (suc (suc zero)) n at = let is : n ≡ 5 = omega (arith, at) in rw is refl
behind_version version (suc (suc (suc k))) n at = let far : 6 ≤ n = omega (arith, at) in grind (arith, nat_tests)

pub returns-in_default : goal.returns-in_default
returns-in_default c = c.value_at.ensures ∙ behind_version c.unwrap_or-version.result (c.args.n - 3) c.args.n (omega arith)
