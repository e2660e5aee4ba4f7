use Rattle.std.proofs.Common.{◌++◌, sym, ap, ◌∙◌}
use Rattle.jpg_spec_words.specs.Messages.{text_of}
use Rattle.jpg_cli.proofs.message.add_text.Goals as goal

pub returns-in-WriteFault-clause-text : goal.returns-in-WriteFault-clause-text
returns-in-WriteFault-clause-text c =
    c.add-in-WriteFault.ensures.text ∙ ap (λ w. c.args.message.now.items ++ text_of w) (sym c.in-WriteFault.is)
