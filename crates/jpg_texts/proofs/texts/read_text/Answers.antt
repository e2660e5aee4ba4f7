use Rattle.std.proofs.Common.{◌≡◌, ◌<◌, ◌+◌, refl, sym, ap, ◌∙◌, arith, subst, get_or, Some, inl, inr}
use Rattle.std.specs.Prelude.{option_map}
use Rattle.std.proofs.lemmas.Bool.Decides.{nat_tests}
use Rattle.std.proofs.lemmas.List.{take_all}
use Rattle.jpg_spec.specs.TextForms.{IsWrongByte, IsTooLong}
use Rattle.jpg_spec.specs.TextReaders.{read_by, reader_step, plain, taken}
use Rattle.jpg_spec.proofs.Texts.TextRuns.{run_nil}
use Rattle.jpg_spec.proofs.Texts.TextsRead.{byte_read, wrong_byte, too_long, ends_early, told_spells}
use Rattle.jpg_texts.proofs.TextSteps.{behind_as, stepped}
use Rattle.jpg_texts.proofs.texts.read_text.Goals as goal

pub loop-byte-init : goal.loop-byte-init
loop-byte-init g c = let k = g.S.TextBytes.kind in (refl, omega arith, run_nil (reader_step k.reader.step) (plain k.reader.start) ∙ ap (λ s. Some (plain s)) (sym c.requires.start))

pub returns-then-before-eq-LONGEST : goal.returns-then-before-eq-LONGEST
returns-then-before-eq-LONGEST g c =
    let k = g.S.TextBytes.kind in
    let text = c.args.text.now in
    let n = c.loop-byte.byte-index in
    let same = c.loop-byte.invariant.0 in
    let last : n ≡ 65536 = grind (arith, nat_tests, same, c.if-before-eq-LONGEST.true) in
    (c.requires.fault, inr (inr (subst (λ m. IsTooLong k.A k.form text (m + 1)) (sym same) (too_long c.requires.reads text n (behind_as c.loop-byte.behind c.loop-byte.state) c.loop-byte-test.true last c.loop-byte.invariant.2))))

pub returns-then-not-byte : goal.returns-then-not-byte
returns-then-not-byte g c =
    let k = g.S.TextBytes.kind in
    let text = c.args.text.now in
    let l = c.loop-byte in
    let n = l.byte-index in
    let same = l.invariant.0 in
    let most = l.invariant.1 in
    let early : n < 65536 = grind (arith, nat_tests, same, most, c.if-before-eq-LONGEST.false) in (
      c.requires.fault,
      inl (subst (λ m. IsWrongByte k.A k.form text (m + 1)) (sym same) (wrong_byte c.requires.reads text n (get_or text n 0) (behind_as l.behind l.state) c.loop-byte-test.true early refl l.invariant.2
          (stepped k.reader.step l.state l.behind c.in_comment-behind.result (get_or text n 0) c.seen.result c.byte.result c.byte.new.self c.in_comment-behind.ensures c.seen.ensures c.byte.ensures ∙ ap (λ v. option_map (behind_as c.in_comment-behind.result) (taken v c.byte.new.self)) c.if-not-byte.true))),
    )

pub loop-byte-preserved : goal.loop-byte-preserved
loop-byte-preserved g c =
    let k = g.S.TextBytes.kind in
    let text = c.args.text.now in
    let l = c.loop-byte in
    let n = l.byte-index in
    let same = l.invariant.0 in
    let most = l.invariant.1 in (
      ap (λ m. m + 1) same,
      grind (arith, nat_tests, most, c.if-before-eq-LONGEST.false),
      byte_read c.requires.reads text n (get_or text n 0) (behind_as l.behind l.state) (Some (behind_as c.in_comment-behind.result c.byte.new.self)) c.loop-byte-test.true refl l.invariant.2
          (stepped k.reader.step l.state l.behind c.in_comment-behind.result (get_or text n 0) c.seen.result c.byte.result c.byte.new.self c.in_comment-behind.ensures c.seen.ensures c.byte.ensures ∙ ap (λ v. option_map (behind_as c.in_comment-behind.result) (taken v c.byte.new.self)) c.if-not-byte.false),
    )

pub returns-in-None : goal.returns-in-None
returns-in-None g c =
    let k = g.S.TextBytes.kind in
    let text = c.args.text.now in
    let l = c.loop-byte in
    let same = l.invariant.0 in
    let most = l.invariant.1 in
    let past = c.loop-byte-test.false in
    let read = ap (λ x. read_by k.reader x) (sym (take_all l.byte-index text (omega (arith, past)))) ∙ l.invariant.2 in
    (c.requires.fault, inr (inl (ends_early c.requires.reads text (behind_as l.behind l.state) (omega (arith, same, most, past)) read (sym c.in-None.ensures))))

pub returns-in-Some : goal.returns-in-Some
returns-in-Some g c =
    let k = g.S.TextBytes.kind in
    let text = c.args.text.now in
    let l = c.loop-byte in
    let s = behind_as l.behind l.state in
    let same = l.invariant.0 in
    let most = l.invariant.1 in
    let past = c.loop-byte-test.false in
    let read = ap (λ x. read_by k.reader x) (sym (take_all l.byte-index text (omega (arith, past)))) ∙ l.invariant.2 in
    (omega (arith, same, most, past), told_spells c.requires.reads text s (k.value c.in-Some.told) read (sym c.in-Some.ensures))
