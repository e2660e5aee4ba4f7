use Rattle.std.proofs.Common.{◌∙◌, ℕ, Option, map, subst, sym}
use Rattle.std.specs.Prelude.{string_bytes}
use Rattle.jpg_spec_image.specs.declared.image.EndKind.{EndKind}
use Rattle.jpg_words.specs.Commands.{IsFormatAsked, command_asked}
use Rattle.jpg_cli.specs.Tools.Ends.{formats_of}
use Rattle.jpg_cli.proofs.Outcomes.Running.{missing_has, missing_none, missing_some}
use Rattle.jpg_cli.proofs.top.missing_end.Goals as goal

pub returns-in_default : goal.returns-in_default
returns-in_default g c =
    let told = command_asked (map string_bytes c.args.words.now) in
    missing_none (formats_of (map (λ e. (goal.ImageEnd-dyn g (e.vtable, e.value)).progress e.value) c.args.ends.now)) told
    (subst (λ (o : Option (EndKind × ℕ)). IsFormatAsked told o) c.in_default.is c.format_asked.ensures)

pub returns-then-has_end : goal.returns-then-has_end
returns-then-has_end g c =
    let told = command_asked (map string_bytes c.args.words.now) in
    missing_has (formats_of (map (λ e. (goal.ImageEnd-dyn g (e.vtable, e.value)).progress e.value) c.args.ends.now)) told c.in-Some.format c.in-Some.ensures (sym c.has_end.ensures ∙ c.if-has_end.true)

pub returns : goal.returns
returns g c =
    let told = command_asked (map string_bytes c.args.words.now) in
    missing_some (formats_of (map (λ e. (goal.ImageEnd-dyn g (e.vtable, e.value)).progress e.value) c.args.ends.now)) told c.in-Some.format c.in-Some.ensures (sym c.has_end.ensures ∙ c.if-has_end.false)
