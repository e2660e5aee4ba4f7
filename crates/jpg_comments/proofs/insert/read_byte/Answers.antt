use Rattle.std.proofs.Common.{◌∷◌, [], ◌++◌, Ok, refl, subst}
use Rattle.std.proofs.lemmas.Result.{err_from_is_err_and}
use Rattle.jpg_spec.specs.Markers.{at_soi, at_part}
use Rattle.jpg_base.specs.declared.stop.Stop.{Stop}
use Rattle.jpg_markers.specs.declared.segments.SegStep.{SegStep}
use Rattle.jpg_markers.specs.Reading.{reading_of, Comes, AfterWhole}
use Rattle.jpg_comments.proofs.HeadByBytes.{kept_on, kept_short, kept_stop, kept_eoi, kept_frame, kept_whole}
use Rattle.jpg_comments.proofs.insert.read_byte.Goals as goal

pub returns-in_err-byte-clause-answered : goal.returns-in_err-byte-clause-answered
returns-in_err-byte-clause-answered c = λ limits bytes h.
    let r = reading_of c.args.reader.now in
    let back = err_from_is_err_and c.from_residual.result c.from_residual.ensures.1 in
    rw (back.1, back.2) (kept_stop limits c.args.replace r bytes c.args.head.now h (reading_of c.byte.new.self) c.args.byte c.in_err-byte.field-0.0 (record { short = c.requires.limit; same = c.in_err-byte.ensures.limits; one = c.in_err-byte.ensures.taken h.1.stands.0 })
    (c.in_err-byte.ensures.memory bytes h.0 h.1.stands c.requires.room) (c.in_err-byte.ensures.answered bytes h.0 h.1.stands))

pub returns-in_err-keep_segment-in-Whole-clause-answered : goal.returns-in_err-keep_segment-in-Whole-clause-answered
returns-in_err-keep_segment-in-Whole-clause-answered c = λ limits bytes h.
    let r = reading_of c.args.reader.now in
    let next = reading_of c.byte.new.self in
    let comes = subst (λ (s : SegStep). Comes (bytes ++ c.args.byte ∷ []) h.0 (Ok s) next) c.in-Whole.is (c.in_ok-byte.ensures.answered bytes h.0 h.1.stands) in
    let back = err_from_is_err_and c.from_residual-in_err-keep_segment-in-Whole.result c.from_residual-in_err-keep_segment-in-Whole.ensures.1 in
    rw (back.1, back.2) (kept_short limits c.args.replace r bytes c.args.head.now h next c.args.byte (record { short = c.requires.limit; same = c.in_ok-byte.ensures.limits; one = c.in_ok-byte.ensures.taken h.1.stands.0 }) comes)

pub returns-in_ok-keep_segment-in-Whole-clause-answered : goal.returns-in_ok-keep_segment-in-Whole-clause-answered
returns-in_ok-keep_segment-in-Whole-clause-answered c = λ limits bytes h.
    let r = reading_of c.args.reader.now in
    let next = reading_of c.byte.new.self in
    let comes = subst (λ (s : SegStep). Comes (bytes ++ c.args.byte ∷ []) h.0 (Ok s) next) c.in-Whole.is (c.in_ok-byte.ensures.answered bytes h.0 h.1.stands) in
    kept_whole limits c.args.replace r bytes c.args.head.now h next c.keep_segment.new.head c.args.byte (record { short = c.requires.limit; same = c.in_ok-byte.ensures.limits; one = c.in_ok-byte.ensures.taken h.1.stands.0 })
    (subst (λ (s : SegStep). AfterWhole {X = Stop} (Ok s) next) c.in-Whole.is c.in_ok-byte.ensures.whole) comes (λ fits. c.in_ok-keep_segment-in-Whole.ensures fits)

pub returns-in-Frame-clause-answered : goal.returns-in-Frame-clause-answered
returns-in-Frame-clause-answered c = λ limits bytes h.
    let r = reading_of c.args.reader.now in
    let next = reading_of c.byte.new.self in
    let comes = subst (λ (s : SegStep). Comes (bytes ++ c.args.byte ∷ []) h.0 (Ok s) next) c.in-Frame.is (c.in_ok-byte.ensures.answered bytes h.0 h.1.stands) in
    kept_frame limits c.args.replace r bytes c.args.head.now h next c.args.byte (record { short = c.requires.limit; same = c.in_ok-byte.ensures.limits; one = c.in_ok-byte.ensures.taken h.1.stands.0 }) comes

pub returns-in-More-clause-answered : goal.returns-in-More-clause-answered
returns-in-More-clause-answered c = λ limits bytes h.
    let r = reading_of c.args.reader.now in
    let next = reading_of c.byte.new.self in
    let comes = subst (λ (s : SegStep). Comes (bytes ++ c.args.byte ∷ []) h.0 (Ok s) next) c.in-More.is (c.in_ok-byte.ensures.answered bytes h.0 h.1.stands) in
    kept_on limits c.args.replace r bytes c.args.head.now h next c.args.byte at_part (record { short = c.requires.limit; same = c.in_ok-byte.ensures.limits; one = c.in_ok-byte.ensures.taken h.1.stands.0 }) refl comes.0 comes.1

pub returns-in-Start-clause-answered : goal.returns-in-Start-clause-answered
returns-in-Start-clause-answered c = λ limits bytes h.
    let r = reading_of c.args.reader.now in
    let next = reading_of c.byte.new.self in
    let comes = subst (λ (s : SegStep). Comes (bytes ++ c.args.byte ∷ []) h.0 (Ok s) next) c.in-Start.is (c.in_ok-byte.ensures.answered bytes h.0 h.1.stands) in
    kept_on limits c.args.replace r bytes c.args.head.now h next c.args.byte at_soi (record { short = c.requires.limit; same = c.in_ok-byte.ensures.limits; one = c.in_ok-byte.ensures.taken h.1.stands.0 }) refl comes.0 comes.1

pub returns-in-Eoi-clause-answered : goal.returns-in-Eoi-clause-answered
returns-in-Eoi-clause-answered c = λ limits bytes h.
    let r = reading_of c.args.reader.now in
    let next = reading_of c.byte.new.self in
    let comes = subst (λ (s : SegStep). Comes (bytes ++ c.args.byte ∷ []) h.0 (Ok s) next) c.in-Eoi.is (c.in_ok-byte.ensures.answered bytes h.0 h.1.stands) in
    absurd (kept_eoi limits c.args.replace r bytes c.args.head.now h next (bytes ++ c.args.byte ∷ []) comes.1)
