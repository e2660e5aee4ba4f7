use Rattle.std.proofs.Common.{◌∷◌, [], ◌++◌, Bool, Result, Ok, Err, refl, sym, subst}
use Rattle.std.proofs.lemmas.Result.{err_from_is_err_and}
use Rattle.jpg_spec.specs.Markers.{at_soi, at_frame, at_part}
use Rattle.jpg_base.specs.declared.stop.Stop.{Stop}
use Rattle.jpg_markers.specs.declared.segments.SegStep.{SegStep}
use Rattle.jpg_markers.specs.Reading.{reading_of, Comes, AfterWhole}
use Rattle.jpg_comments.specs.Printing.{HasPrinted, AfterPrinted}
use Rattle.jpg_comments.proofs.Taken.{appends_none}
use Rattle.jpg_comments.proofs.ByByte.{printed_on, printed_stop, printed_whole}
use Rattle.jpg_comments.proofs.comments.read_byte.Goals as goal

pub returns-in_err-byte-clause-answered : goal.returns-in_err-byte-clause-answered
returns-in_err-byte-clause-answered c = λ limits bytes text h.
    let r = reading_of c.args.reader.now in
    let next = reading_of c.byte.new.self in
    let all = bytes ++ c.args.byte ∷ [] in
    let back = err_from_is_err_and c.from_residual.result c.from_residual.ensures.1 in
    let stops = printed_stop limits r next bytes text c.args.byte h (record { short = c.requires.limit; same = c.in_err-byte.ensures.limits; one = c.in_err-byte.ensures.taken h.1.stands.0 }) c.in_err-byte.field-0.0 (c.in_err-byte.ensures.memory bytes h.0 h.1.stands c.requires.room) (c.in_err-byte.ensures.answered bytes h.0 h.1.stands) in
    appends_none (λ t. AfterPrinted limits all t c.from_residual.result next) text c.args.out.now
    (subst (λ (e : Result Bool Stop). AfterPrinted limits all text e next) (sym back.1) (subst (λ (e : Stop). AfterPrinted limits all text (Err e) next) (sym back.2) stops))

pub returns-in-Whole-clause-answered : goal.returns-in-Whole-clause-answered
returns-in-Whole-clause-answered c = λ limits bytes text h.
    let r = reading_of c.args.reader.now in
    let next = reading_of c.byte.new.self in
    let comes = c.in_ok-byte.ensures.answered bytes h.0 h.1.stands in
    printed_whole limits r next bytes text c.args.byte h (record { short = c.requires.limit; same = c.in_ok-byte.ensures.limits; one = c.in_ok-byte.ensures.taken h.1.stands.0 }) c.args.out.now c.print_segment.new.out c.print_segment.result
    (subst (λ (s : SegStep). AfterWhole {X = Stop} (Ok s) next) c.in-Whole.is c.in_ok-byte.ensures.whole)
    (subst (λ (s : SegStep). Comes (bytes ++ c.args.byte ∷ []) h.0 (Ok s) next) c.in-Whole.is comes) c.print_segment.ensures

pub returns-in-More : goal.returns-in-More
returns-in-More c =
    let r = reading_of c.args.reader.now in
    let next = reading_of c.byte.new.self in
    record {
      answered = λ limits bytes text h.
          (let comes = subst (λ (s : SegStep). Comes (bytes ++ c.args.byte ∷ []) h.0 (Ok s) next) c.in-More.is (c.in_ok-byte.ensures.answered bytes h.0 h.1.stands) in
          appends_none (λ t. HasPrinted limits (bytes ++ c.args.byte ∷ []) t next) text c.args.out.now
          (printed_on limits r next bytes text c.args.byte h (record { short = c.requires.limit; same = c.in_ok-byte.ensures.limits; one = c.in_ok-byte.ensures.taken h.1.stands.0 }) at_part refl comes.0 comes.1));
      limits = c.in_ok-byte.ensures.limits;
      room = c.in_ok-byte.ensures.room c.requires.room;
    }

pub returns-in-Start-clause-answered : goal.returns-in-Start-clause-answered
returns-in-Start-clause-answered c = λ limits bytes text h.
    let r = reading_of c.args.reader.now in
    let next = reading_of c.byte.new.self in
    let comes = subst (λ (s : SegStep). Comes (bytes ++ c.args.byte ∷ []) h.0 (Ok s) next) c.in-Start.is (c.in_ok-byte.ensures.answered bytes h.0 h.1.stands) in
    appends_none (λ t. HasPrinted limits (bytes ++ c.args.byte ∷ []) t next) text c.args.out.now
    (printed_on limits r next bytes text c.args.byte h (record { short = c.requires.limit; same = c.in_ok-byte.ensures.limits; one = c.in_ok-byte.ensures.taken h.1.stands.0 }) at_soi refl comes.0 comes.1)

pub returns-in-Frame-clause-answered : goal.returns-in-Frame-clause-answered
returns-in-Frame-clause-answered c = λ limits bytes text h.
    let r = reading_of c.args.reader.now in
    let next = reading_of c.byte.new.self in
    let comes = subst (λ (s : SegStep). Comes (bytes ++ c.args.byte ∷ []) h.0 (Ok s) next) c.in-Frame.is (c.in_ok-byte.ensures.answered bytes h.0 h.1.stands) in
    appends_none (λ t. HasPrinted limits (bytes ++ c.args.byte ∷ []) t next) text c.args.out.now
    (printed_on limits r next bytes text c.args.byte h (record { short = c.requires.limit; same = c.in_ok-byte.ensures.limits; one = c.in_ok-byte.ensures.taken h.1.stands.0 }) at_frame refl comes.0 comes.1)
