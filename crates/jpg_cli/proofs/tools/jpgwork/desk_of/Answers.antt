use Rattle.jpg_cli.proofs.Encoding.Worked.{holds_input}
use Rattle.jpg_cli.proofs.tools.jpgwork.desk_of.Goals as goal

pub returns-in-Ok : goal.returns-in-Ok
returns-in-Ok c = holds_input c.args.input.now c.new-desk.result c.add_file.new.self c.new-desk.ensures.nothing c.in-Ok.ensures.ok
