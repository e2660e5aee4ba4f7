use Rattle.std.proofs.Common.{◌≡◌, ap, is_some, rules, subst, true, Option}
use Rattle.jpg_spec.proofs.Basics.Common.{clash}
use Rattle.jpg_file.specs.Read.Strips.{HasHeader, seen_of}
use Rattle.jpg_file.specs.Read.Window.{rows_in}
use Rattle.jpg_file.specs.declared.read.rows.RowWork.{RowWork}
use Rattle.jpg_file.specs.declared.read.window.Window.{Window}
use Rattle.jpg_file.proofs.Scans.ScanBytes.{none_some}
use Rattle.jpg_file.proofs.ByRow.StripWorks.{head_plain, not_row}
use Rattle.jpg_file.proofs.read.file.FileState.take_head.Goals.{then-not-self-via-then-not-self, then-not-self-via-else-not-self+then-is_some}
use Rattle.jpg_file.proofs.read.file.FileState.take_head.Goals as goal

-- AFTER a scan of all components

pub later_head-requires : goal.later_head-requires
later_head-requires c = subst (λ (o : Window). HasHeader (rows_in o) c.args.self.now) c.in-Row.is c.requires

pub returns-in-Row-clause-first : goal.returns-in-Row-clause-first
returns-in-Row-clause-first c = λ none. absurd (none_some (rows_in c.args.self.now.window) c.in-Row.field-0 (ap rows_in c.in-Row.is) none)

-- WITHOUT a current MCU row

pub begin_scan-requires : goal.begin_scan-requires
begin_scan-requires c =
    let none = not_row c.args.self.now.window c.in_default.not-Row in
    record { stands = subst (λ (o : Option RowWork). HasHeader o c.args.self.now) none c.requires; none = none }

pub returns-then-not-self : goal.returns-then-not-self
returns-then-not-self c =
    let w = c.args.self.now in
    let t = c.begin_scan.ensures in
    record {
      first = λ none. head_plain (seen_of w) c.begin_scan.result c.begin_scan.new.self t.all t.keeps.by_row t.after t.no t.head t.keeps.keeping (λ by first. absurd (elim c.then-not-self.branch [
        | then-not-self-via-then-not-self v ↦ clash w.by_row by (search rules)
        | then-not-self-via-else-not-self+then-is_some v ↦ (let some : is_some w.head ≡ true = search rules in clash (is_some w.head) some (ap is_some first))
      ]));
      later = λ rows is. absurd (none_some (rows_in w.window) rows is (not_row w.window c.in_default.not-Row));
    }

pub begin_scan-requires-in_default-head_of_all : goal.begin_scan-requires-in_default-head_of_all
begin_scan-requires-in_default-head_of_all c =
    let none = not_row c.args.self.now.window c.in_default.not-Row in
    record { stands = subst (λ (o : Option RowWork). HasHeader o c.args.self.now) none c.requires; none = none }

pub returns-in_default-head_of_all : goal.returns-in_default-head_of_all
returns-in_default-head_of_all c =
    let w = c.args.self.now in
    let t = c.begin_scan-in_default-head_of_all.ensures in
    record {
      first = λ none. head_plain (seen_of w) c.begin_scan-in_default-head_of_all.result c.begin_scan-in_default-head_of_all.new.self t.all t.keeps.by_row t.after t.no t.head t.keeps.keeping (λ by first. c.in_default-head_of_all.ensures.none);
      later = λ rows is. absurd (none_some (rows_in w.window) rows is (not_row w.window c.in_default.not-Row));
    }

pub begin_rows-requires-clause-stands : goal.begin_rows-requires-clause-stands
begin_rows-requires-clause-stands c = subst (λ (o : Option RowWork). HasHeader o c.args.self.now) (not_row c.args.self.now.window c.in_default.not-Row) c.requires

pub begin_rows-requires-clause-none : goal.begin_rows-requires-clause-none
begin_rows-requires-clause-none c = not_row c.args.self.now.window c.in_default.not-Row

pub returns-clause-later : goal.returns-clause-later
returns-clause-later c = λ rows is. absurd (none_some (rows_in c.args.self.now.window) rows is (not_row c.args.self.now.window c.in_default.not-Row))
