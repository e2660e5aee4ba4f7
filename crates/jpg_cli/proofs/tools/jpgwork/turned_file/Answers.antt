use Rattle.jpg_words.specs.TransformWords.{script_view}
use Rattle.jpg_cli.proofs.Encoding.Worked.{turned_done}
use Rattle.jpg_cli.proofs.tools.jpgwork.turned_file.Goals as goal

pub returns-in-Done : goal.returns-in-Done
returns-in-Done c =
    turned_done c.args.transformed c.args.progressive (script_view c.scans_from.result) c.args.input.now c.in-Some.desk c.transform.new.desk c.scans_from.ensures c.in-Some.ensures c.in-Done.ensures.transformed
