use Rattle.std.proofs.Common.{map, subst, sym, Option, Some, Ok, Err}
use Rattle.std.specs.Prelude.{string_bytes}
use Rattle.jpg_spec_words.specs.Requests.{ParsedWords}
use Rattle.jpg_spec_words.specs.declared.answers.Usage.{Usage}
use Rattle.jpg_words.specs.Commands.{Command, IsCommand, command_asked}
use Rattle.jpg_cli.specs.Tools.Ends.{formats_of}
use Rattle.jpg_cli.specs.Run.{IsMissing, Worked}
use Rattle.jpg_words.specs.declared.files.WordsStop.{WordsStop}
use Rattle.jpg_words.specs.declared.tools.Asked.{Asked}
use Rattle.jpg_cli.proofs.Comments.InsertedThen.{asked_inserted}
use Rattle.jpg_cli.proofs.ByRow.ImageShown.{asked_shown}
use Rattle.jpg_desk.proofs.PiecesRead.{reads_none}
use Rattle.jpg_cli.proofs.Outcomes.Running.{names_wanting, worked_missing}
use Rattle.jpg_cli.proofs.top.work.Goals as goal

pub returns-in-Ok-Jpegtran : goal.returns-in-Ok-Jpegtran
returns-in-Ok-Jpegtran g c =
    let state = g.D.Desk.state in
    let asked = command_asked (map string_bytes c.args.words.now) in
    let told = subst (λ (a : Asked). IsCommand asked (Ok a)) c.in-Ok-Jpegtran.field-0-is c.in-Ok-Jpegtran.ensures.asked in
    record {
      worked =
          (let P : ParsedWords Command → Type 0 = λ a. Worked (formats_of (map (λ e. (goal.ImageEnd-dyn g (e.vtable, e.value)).progress e.value) c.args.ends.items)) a (state c.args.desk.now) c.transform.result (state c.transform.new.desk) in
          subst P (sym told) c.transform.ensures.transformed);
      kept = c.transform.ensures.kept;
    }

pub returns-in-Ok-Wrjpgcom : goal.returns-in-Ok-Wrjpgcom
returns-in-Ok-Wrjpgcom g c =
    let state = g.D.Desk.state in
    let asked = command_asked (map string_bytes c.args.words.now) in
    let told = subst (λ (a : Asked). IsCommand asked (Ok a)) c.in-Ok-Wrjpgcom.field-0-is c.in-Ok-Wrjpgcom.ensures.asked in
    let done = c.insert_comment.ensures in
    record {
      worked =
          (let P : ParsedWords Command → Type 0 = λ a. Worked (formats_of (map (λ e. (goal.ImageEnd-dyn g (e.vtable, e.value)).progress e.value) c.args.ends.items)) a (state c.args.desk.now) c.insert_comment.result (state c.insert_comment.new.desk) in
          subst P (sym told) (asked_inserted c.in-Ok-Wrjpgcom.words (state c.args.desk.now) (state c.insert_comment.new.desk) c.insert_comment.result done.inserted));
      kept = done.kept;
    }

pub returns-in-Ok-Djpeg : goal.returns-in-Ok-Djpeg
returns-in-Ok-Djpeg g c =
    let state = g.D.Desk.state in
    let asked = command_asked (map string_bytes c.args.words.now) in
    let told = subst (λ (a : Asked). IsCommand asked (Ok a)) c.in-Ok-Djpeg.field-0-is c.in-Ok-Djpeg.ensures.asked in
    record {
      worked =
          (let P : ParsedWords Command → Type 0 = λ a. Worked (formats_of (map (λ e. (goal.ImageEnd-dyn g (e.vtable, e.value)).progress e.value) c.args.ends.items)) a (state c.args.desk.now) c.show_by.result (state c.show_by.new.desk) in
          subst P (sym told) (asked_shown _ c.in-Ok-Djpeg.words (state c.args.desk.now) (state c.show_by.new.desk) c.show_by.result c.show_by.ensures.shown));
      kept = c.show_by.ensures.kept;
    }

pub returns-in-Err-NoMemory : goal.returns-in-Err-NoMemory
returns-in-Err-NoMemory g c =
    let state = g.D.Desk.state in
    let s = state c.args.desk.now in
    let told = subst (λ (x : WordsStop). IsCommand (command_asked (map string_bytes c.args.words.now)) (Err x)) c.in-Err-NoMemory.field-0-is c.in-Err-NoMemory.ensures.asked in
    let formats = formats_of (map (λ e. (goal.ImageEnd-dyn g (e.vtable, e.value)).progress e.value) c.args.ends.items) in
    let there = subst (λ (o : Option Usage). IsMissing formats (command_asked (map string_bytes c.args.words.now)) o) c.in_default.is
    (subst (λ l. IsMissing (formats_of (map (λ e. (goal.ImageEnd-dyn g (e.vtable, e.value)).progress e.value) l)) (command_asked (map string_bytes c.args.words.now)) c.missing_end.result) c.deref.ensures.value c.missing_end.ensures) in
    record { worked = names_wanting formats _ s there told; kept = (reads_none s).copies.works }

pub returns-in-Some : goal.returns-in-Some
returns-in-Some g c =
    let s = g.D.Desk.state c.args.desk.now in
    record {
      worked = worked_missing (formats_of (map (λ e. (goal.ImageEnd-dyn g (e.vtable, e.value)).progress e.value) c.args.ends.items)) _ s c.in-Some.usage
          (subst (λ l. IsMissing (formats_of (map (λ e. (goal.ImageEnd-dyn g (e.vtable, e.value)).progress e.value) l)) (command_asked (map string_bytes c.args.words.now)) (Some c.in-Some.usage)) c.deref.ensures.value c.in-Some.ensures);
      kept = (reads_none s).copies.works;
    }

pub returns : goal.returns
returns g c =
    let state = g.D.Desk.state in
    let asked = command_asked (map string_bytes c.args.words.now) in
    let told = subst (λ (a : Asked). IsCommand asked (Ok a)) c.in-Ok-Jpgwork.field-0-is c.in-Ok-Jpgwork.ensures.asked in
    record {
      worked =
          (let P : ParsedWords Command → Type 0 = λ a. Worked (formats_of (map (λ e. (goal.ImageEnd-dyn g (e.vtable, e.value)).progress e.value) c.args.ends.items)) a (state c.args.desk.now) c.do_work.result (state c.do_work.new.desk) in
          subst P (sym told) c.do_work.ensures.worked);
      kept = c.do_work.ensures.kept;
    }
