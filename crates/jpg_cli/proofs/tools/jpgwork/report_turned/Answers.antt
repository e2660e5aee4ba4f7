use Rattle.std.proofs.Common.{◌≤◌, length, List, ℕ, subst, sym}
use Rattle.jpg_spec_image.specs.ImageText.{pnm_header}
use Rattle.jpg_spec_words.specs.Work.{back_choice, back_picture, back_text, first_text, turned_picture, turned_text, work_info}
use Rattle.jpg_cli.proofs.Encoding.Worked.{file_after, image_text, one_output, output_is, report_done, shown_after, work_header}
use Rattle.jpg_cli.proofs.tools.jpgwork.report_turned.Goals as goal

pub output-requires-2 : goal.output-requires-2
output-requires-2 g c =
    let n = c.args.size in
    let back = file_after back_choice (turned_picture n) (turned_text n) c.output.result.now c.args.turned.now c.in-Some.back c.requires.turned c.output.ensures c.in-Some.ensures in
    one_output (back_text n) c.in-Some.back back.output

pub output-requires-in-Some-shown_file-3 : goal.output-requires-in-Some-shown_file-3
output-requires-in-Some-shown_file-3 g c =
    let n = c.args.size in
    let back = file_after back_choice (turned_picture n) (turned_text n) c.output.result.now c.args.turned.now c.in-Some.back c.requires.turned c.output.ensures c.in-Some.ensures in
    one_output (back_text n) c.in-Some.back back.output

pub output-requires-in-Some-shown_file-4 : goal.output-requires-in-Some-shown_file-4
output-requires-in-Some-shown_file-4 g c =
    let n = c.args.size in
    let back = file_after back_choice (turned_picture n) (turned_text n) c.output.result.now c.args.turned.now c.in-Some.back c.requires.turned c.output.ensures c.in-Some.ensures in
    one_output (image_text n) c.in-Some-shown_file.shown
    (shown_after (back_picture n) (back_text n) c.output-2.result.now c.in-Some.back c.in-Some-shown_file.shown back c.output-2.ensures c.in-Some-shown_file.ensures)

pub report_shown-requires-clause-header : goal.report_shown-requires-clause-header
report_shown-requires-clause-header g c =
    let n = c.args.size in
    let back = file_after back_choice (turned_picture n) (turned_text n) c.output.result.now c.args.turned.now c.in-Some.back c.requires.turned c.output.ensures c.in-Some.ensures in
    let shown = shown_after (back_picture n) (back_text n) c.output-2.result.now c.in-Some.back c.in-Some-shown_file.shown back c.output-2.ensures c.in-Some-shown_file.ensures in
    let image = output_is (image_text n) c.in-Some-shown_file.shown c.output-in-Some-shown_file-4.result.now shown c.output-in-Some-shown_file-4.ensures in
    subst (λ (t : List ℕ). length (pnm_header (work_info n)) ≤ length t) (sym image) (work_header n)

pub returns : goal.returns
returns g c =
    let n = c.args.size in
    let back = file_after back_choice (turned_picture n) (turned_text n) c.output.result.now c.args.turned.now c.in-Some.back c.requires.turned c.output.ensures c.in-Some.ensures in
    let shown = shown_after (back_picture n) (back_text n) c.output-2.result.now c.in-Some.back c.in-Some-shown_file.shown back c.output-2.ensures c.in-Some-shown_file.ensures in
    report_done n c.output-in-Some-shown_file.result.now c.output-in-Some-shown_file-2.result.now c.output-in-Some-shown_file-3.result.now c.output-in-Some-shown_file-4.result.now c.report_shown.result
    (output_is (first_text n) c.args.first.now c.output-in-Some-shown_file.result.now (c.requires.first).output c.output-in-Some-shown_file.ensures)
    (output_is (turned_text n) c.args.turned.now c.output-in-Some-shown_file-2.result.now (c.requires.turned).output c.output-in-Some-shown_file-2.ensures)
    (output_is (back_text n) c.in-Some.back c.output-in-Some-shown_file-3.result.now back.output c.output-in-Some-shown_file-3.ensures)
    (output_is (image_text n) c.in-Some-shown_file.shown c.output-in-Some-shown_file-4.result.now shown c.output-in-Some-shown_file-4.ensures) c.report_shown.ensures
