use Rattle.std.proofs.Common.{rules, ◌+◌}
use Rattle.tlsf_words.proofs.Changing.{whole_changes}
use Rattle.tlsf_words.proofs.words.Words.write_whole.Goals as goal

pub returns-clause-writes : goal.returns-clause-writes
returns-clause-writes c = record {
  changes = whole_changes c.args.place (c.args.place + c.args.n) (search rules) (search rules) (search rules) (search rules) (search rules);
  touches = search rules;
  touched_before = search rules;
  touched_behind = search rules;
  rise = search rules;
}
