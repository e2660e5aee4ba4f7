use Rattle.std.proofs.Common.{◌++◌, ap, get_or, refl, subst, sym, take}
use Rattle.jpg_file.specs.Read.File.{limits_of}
use Rattle.jpg_file.specs.Read.ReadFile.{TakesOne}
use Rattle.jpg_file.specs.Read.Strips.{FileSeen, StripGoes, seen_of}
use Rattle.jpg_file.specs.Read.Window.{rows_in}
use Rattle.jpg_file.specs.declared.read.file.FileState.{FileState}
use Rattle.jpg_file.specs.declared.read.window.Window.{Window}
use Rattle.jpg_file.proofs.ByRow.StripBytes.{strip_passed, strip_read}
use Rattle.jpg_file.proofs.ByRow.StripWorks.{one_byte}
use Rattle.jpg_file.proofs.read.file.FileState.some.Goals as goal

-- A BYTE, after those that cause no event

pub front-n-requires-clause-stands : goal.front-n-requires-clause-stands
front-n-requires-clause-stands c = (let o = c.requires.stands in let k = strip_read (limits_of c.args.self.now) o.0 (rows_in c.args.self.now.window) c.args.self.now o.1 in (k.0, o.0, k.1))

pub byte-requires-clause-stands : goal.byte-requires-clause-stands
byte-requires-clause-stands c =
    let w = c.args.self.now in
    let mid = c.front-n.new.self in
    let o = c.requires.stands in
    let p = c.front-n.ensures.after in
    let all = o.0 ++ take c.front-n.result c.args.bytes.now in
    let k = strip_passed (limits_of w) o.0 c.args.bytes.now c.front-n.result (rows_in w.window) w mid o.1 refl p in
    (all, subst (λ l. StripGoes l all (rows_in mid.window) mid) (sym p.limits) (subst (λ (x : Window). StripGoes (limits_of w) all (rows_in x) mid) (sym (ap (λ (x : FileState). x.window) p.is)) k))

pub returns : goal.returns
returns c =
    let w = c.args.self.now in
    let mid = c.front-n.new.self in
    let p = c.front-n.ensures.after in
    let same = ap (λ (x : FileState). let s : FileSeen = record { file = mid; by_row = x.by_row; rows = rows_in x.window; strip = x.strip } in s) p.is in
    one_byte (seen_of w) (seen_of c.byte.new.self) mid c.args.bytes.now c.front-n.result c.byte.result p (subst (λ (x : FileSeen). TakesOne x (get_or c.args.bytes.now c.front-n.result 0) c.byte.result (seen_of c.byte.new.self)) same c.byte.ensures)
