use Rattle.tlsf_command.proofs.Common.{rules, map, inl, inr, streams}
use Rattle.tlsf_command.proofs.ChosenCommands.{answerable}
use Rattle.tlsf_command.proofs.RunEnds.{Run, answer_ends, does, ends_file, ends_run, fails}
use Rattle.tlsf_command.proofs.commands.run.Goals as goal

pub act-requires : goal.act-requires
act-requires g c = let answers = answerable _ c.in-Ok.choice c.in-Ok.ensures.asked in search (rules, answers)

pub returns-in-Ok : goal.returns-in-Ok
returns-in-Ok g c =
    let words = map g.S.AsStr.text c.args.words.now in
    let status = c.act.result in
    let old = streams (g.R.Read.remaining c.args.reader.now) (g.W.Write.contents c.args.writer.now) (g.E.Write.contents c.args.errors.now) in
    let new = streams (g.R.Read.remaining c.act.new.reader) (g.W.Write.contents c.act.new.writer) (g.E.Write.contents c.act.new.errors) in
    let run : Run c.args.tips words status old new = does c.in-Ok.choice c.in-Ok.ensures.asked c.act.ensures in record {
      ends = inr (inl (c.in-Ok.choice, c.in-Ok.ensures.asked, c.act.ensures));
      trace = λ called wanted is. ends_run c.args.tips words called status old new run wanted is;
      file = λ called file wanted plain is. ends_file c.args.tips words called status old new run wanted file plain is;
    }

pub returns-in-Err : goal.returns-in-Err
returns-in-Err g c =
    let words = map g.S.AsStr.text c.args.words.now in
    let status = c.answer.result in
    let old = streams (g.R.Read.remaining c.args.reader.now) (g.W.Write.contents c.args.writer.now) (g.E.Write.contents c.args.errors.now) in
    let new = streams (g.R.Read.remaining c.args.reader.now) (g.W.Write.contents c.answer.new.writer) (g.E.Write.contents c.answer.new.errors) in
    let shows = c.answer.ensures (g.R.Read.remaining c.args.reader.now) in
    let run : Run c.args.tips words status old new = fails _ c.in-Err.ensures.kinds shows in record {
      ends = answer_ends c.args.tips words _ status old new shows c.in-Err.ensures.kinds;
      trace = λ called wanted is. ends_run c.args.tips words called status old new run wanted is;
      file = λ called file wanted plain is. ends_file c.args.tips words called status old new run wanted file plain is;
    }
