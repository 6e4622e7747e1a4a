use Rattle.std.proofs.Common.{◌≡◌, ◌∙◌, true, codes, ap}
use Rattle.clap.specs.Simple.{app_of_fields}
use Rattle.clap.specs.Words.{App, app_of, new_app}
use Rattle.tlsf_command.proofs.command_line.bare_command.Goals as goal

-- the program with its version
abbrev versioned : App → App
versioned app = record app { top = record app.top { has_version = true } }

-- of which a command must be named
abbrev commanded : App → App
commanded app = record app { top = record app.top { subcommand_required = true } }

pub returns : goal.returns
returns c =
    let versioned_is : app_of c.version.result ≡ versioned (new_app (codes "tlsf")) =
    ap app_of_fields c.version.ensures ∙ ap versioned c.described.ensures.0 in
    ap app_of_fields c.subcommand_required.ensures ∙ ap commanded versioned_is
