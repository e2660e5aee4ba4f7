use Rattle.std.proofs.Common.{[], refl, arith, ap, sym, subst, is_some, Option}
use Rattle.jpg_spec.specs.FrameHeader.{AreLimits}
use Rattle.jpg_spec.specs.declared.frame.Limits.{Limits}
use Rattle.jpg_spec.proofs.Basics.Common.{clash}
use Rattle.jpg_file.specs.Read.File.{RepresentsFile, limits_of}
use Rattle.jpg_file.specs.Read.Strips.{RepresentsStrip}
use Rattle.jpg_file.specs.declared.read.rows.RowWork.{RowWork}
use Rattle.jpg_file.proofs.Files.FileSteps.{head_is, stands_file}
use Rattle.jpg_file.proofs.read.reader.Reader.begin.Goals as goal

pub returns-clause-read : goal.returns-clause-read
returns-clause-read c =
    let some = c.requires.some in
    let limits = limits_of c.new.result in
    let input = ap (λ l. l.input) c.new.ensures.limits in
    let stands = subst (λ (l : Limits). RepresentsFile l [] c.new.result) (sym c.new.ensures.limits) c.new.ensures.stands in
    record {
      skip_ahead = refl;
      undone = refl;
      short = omega (arith, some, input);
      stands = stands_file limits [] c.new.result stands;
      «open» = stands;
      head = head_is limits [] c.new.result stands;
    }

pub invariant_of-result : goal.invariant_of-result
invariant_of-result c =
    let none = c.new.ensures.none in
    let limits = limits_of c.new.result in
    let stands = subst (λ (l : Limits). RepresentsFile l [] c.new.result) (sym c.new.ensures.limits) c.new.ensures.stands in
    record {
      limited = subst (λ (l : Limits). AreLimits l) (sym c.new.ensures.limits) c.requires;
      in_rows = λ e. absurd cc;
      keeping = λ e. absurd cc;
      sparing = λ e. absurd cc;
      «open» = λ e d. (
        [],
        record {
          stands = subst (λ (o : Option RowWork). RepresentsStrip limits [] o c.new.result) (sym none) stands;
          last = λ some. absurd (clash _ some (ap is_some none));
        },
      );
      ended = λ e. absurd cc;
      begun = λ e. absurd cc;
    }
