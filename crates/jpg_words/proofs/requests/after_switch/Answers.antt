use Rattle.std.proofs.Common.{◌+◌, ◌<◌, map, sym, ap, ◌∙◌, arith, length, string_bytes, Some}
use Rattle.std.proofs.lemmas.List.{length-map}
use Rattle.jpg_spec_words.specs.Requests.{then_asks}
use Rattle.jpg_words.specs.Requests.{asked_from, word_at}
use Rattle.jpg_words.specs.Switches.{switch_view}
use Rattle.jpg_words.proofs.WordsAsked.Asking.{flag_at, same_purpose, setting_at}
use Rattle.jpg_words.proofs.requests.after_switch.Goals as goal

pub returns-in-Ok-clause-told : goal.returns-in-Ok-clause-told
returns-in-Ok-clause-told g c =
    let a = g.A.Asks in
    let ws = map string_bytes c.args.words.now in
    let i = c.args.index in
    let less : i < length ws = omega (arith, length-map c.args.words.now string_bytes, c.requires.within) in
    let is = same_purpose (map switch_view c.args.switches.now) a.tool.switches c.word_at.result.now (word_at ws i) c.purpose_of.result c.requires.table c.word_at.ensures c.purpose_of.ensures in
    flag_at a.tool ws i (a.said c.args.said) c.in-Some-Alone.flag less c.requires.switch (is ∙ c.in-Some-Alone.is ∙ ap (λ p. Some p) c.in-Some-Alone.field-0-is)
    ∙ ap (λ told. then_asks told (asked_from a.tool ws (i + 1))) c.in-Ok.ensures

pub returns-in-Ok-setting-clause-told : goal.returns-in-Ok-setting-clause-told
returns-in-Ok-setting-clause-told g c =
    let a = g.A.Asks in
    let ws = map string_bytes c.args.words.now in
    let i = c.args.index in
    let is = same_purpose (map switch_view c.args.switches.now) a.tool.switches c.word_at.result.now (word_at ws i) c.purpose_of.result c.requires.table c.word_at.ensures c.purpose_of.ensures in
    setting_at a.tool ws i (a.said c.args.said) c.in-Some-Valued.setting c.requires.switch (is ∙ c.in-Some-Valued.is ∙ ap (λ p. Some p) c.in-Some-Valued.field-0-is) c.in-Ok-value_of.ensures.0
    ∙ ap (λ v. then_asks (a.tool.setting c.in-Some-Valued.setting i v (a.said c.args.said)) (asked_from a.tool ws (i + 2))) (sym c.in-Ok-value_of.ensures.1)
    ∙ ap (λ told. then_asks told (asked_from a.tool ws (i + 2))) c.in-Ok-setting.ensures
