use Rattle.jpg_spec_words.specs.Work.{first_picture, first_text, turned_choice}
use Rattle.jpg_cli.proofs.Encoding.Worked.{file_after}
use Rattle.jpg_cli.proofs.tools.jpgwork.report_of.Goals as goal

pub report_turned-requires-clause-turned : goal.report_turned-requires-clause-turned
report_turned-requires-clause-turned g c =
    let n = c.args.size in
    file_after turned_choice (first_picture n) (first_text n) c.output.result.now c.in-Some.first c.in-Some-turned_file.turned c.in-Some.ensures c.output.ensures c.in-Some-turned_file.ensures
