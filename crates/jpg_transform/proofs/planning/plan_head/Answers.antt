use Rattle.std.proofs.Common.{refl, sym, ◌∙◌}
use Rattle.jpg_transform.specs.Planned.{choice_view}
use Rattle.jpg_transform.proofs.MovedScript.{checked_fault, checked_none}
use Rattle.jpg_transform.proofs.PlannedHead.{head_by, head_gray, head_refused}
use Rattle.jpg_transform.proofs.planning.plan_head.Goals as goal

pub returns-in-Err : goal.returns-in-Err
returns-in-Err c = λ p is.
    (let choice = choice_view c.args.choice.now in
    let h = c.args.head.now in
    checked_fault p choice c.head_of-out.result c.script_due-script.result c.in-Err.fault refl (head_by choice h c.head_of-out.result p is c.head_of-out.ensures) c.script_due-script.ensures
    (head_gray choice.gray h p is ∙ sym c.in_default.ensures) c.in-Err.ensures)

pub returns-in-Ok : goal.returns-in-Ok
returns-in-Ok c = λ p is.
    (let choice = choice_view c.args.choice.now in
    let h = c.args.head.now in
    let out = head_by choice h c.head_of-out.result p is c.head_of-out.ensures in
    record {
      planned = record {
        admitted = checked_none p choice c.head_of-out.result c.script_due-script.result refl out c.script_due-script.ensures (head_gray choice.gray h p is ∙ sym c.in_default.ensures) c.in-Ok.ensures;
        head = out;
        script = c.script_due-script.ensures;
        huffman = refl;
        restart = refl;
        counted = c.counted.ensures;
      };
      whole = refl;
      transform = refl;
      gray = refl;
    })

pub returns-in-Some : goal.returns-in-Some
returns-in-Some c = λ p is. head_refused (choice_view c.args.choice.now) c.args.head.now c.in-Some.fault p is c.in-Some.ensures
