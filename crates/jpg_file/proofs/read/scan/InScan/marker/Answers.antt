use Rattle.jpg_file.proofs.Scans.ScanBytes.{short_marker, last_marker, wrong_marker, right_marker, next_one, next_ready, next_count, next_work}
use Rattle.std.proofs.Common.{◌∙◌, sym, arith}
use Rattle.jpg_file.proofs.read.scan.InScan.marker.Goals as goal

pub restart-requires-clause-ready : goal.restart-requires-clause-ready
restart-requires-clause-ready c =
    let (limits, p, bytes, now, m) = c.requires in let w = c.args.self.now in let e = c.if-not-self.false in
    let b = right_marker limits bytes p c.args.code w now m e c.if-self-eq0.false c.if-code-self.false in
    (next_one limits bytes p c.args.code w now m e b, next_ready limits bytes p c.args.code w now m e b, (next_count limits bytes p c.args.code w now m e b).0 ∙ sym c.min-units.ensures)

pub restart-requires-clause-some : goal.restart-requires-clause-some
restart-requires-clause-some c =
    let (limits, p, bytes, now, m) = c.requires in let w = c.args.self.now in let e = c.if-not-self.false in
    let b = right_marker limits bytes p c.args.code w now m e c.if-self-eq0.false c.if-code-self.false in
    let n = next_count limits bytes p c.args.code w now m e b in
    omega (arith, n.0, n.1, c.min-units.ensures)

pub returns-then-not-self-clause-takes : goal.returns-then-not-self-clause-takes
returns-then-not-self-clause-takes c = λ now limits p bytes m. short_marker limits bytes p c.args.code c.args.self.now now m c.if-not-self.true

pub returns-then-self-eq0-clause-takes : goal.returns-then-self-eq0-clause-takes
returns-then-self-eq0-clause-takes c = λ now limits p bytes m. last_marker limits bytes p c.args.code c.args.self.now now m c.if-not-self.false c.if-self-eq0.true

pub returns-then-code-self-clause-takes : goal.returns-then-code-self-clause-takes
returns-then-code-self-clause-takes c = λ now limits p bytes m.
    wrong_marker limits bytes p c.args.code c.args.self.now now m c.if-not-self.false c.if-self-eq0.false c.if-code-self.true

pub returns-clause-takes : goal.returns-clause-takes
returns-clause-takes c = λ now limits p bytes m.
    let w = c.args.self.now in let e = c.if-not-self.false in
    let b = right_marker limits bytes p c.args.code w now m e c.if-self-eq0.false c.if-code-self.false in
    next_work limits bytes p c.args.code w now m e b c.restart.new.self c.min-units.result c.min-units.ensures c.restart.ensures.begun
