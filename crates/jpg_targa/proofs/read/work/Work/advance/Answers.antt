use Rattle.std.proofs.Common.{rules, [], ◌∷◌, ◌++◌, get_or, take, sym, ap, subst}
use Rattle.jpg_spec_image.specs.TargaSteps.{head_so_far, identifier_left, step, run}
use Rattle.jpg_targa.specs.Reader.{standing, standing_of, IsBody, IsReached, Reaches}
use Rattle.jpg_targa.proofs.Led.{one_led, copies_reached, pixels_reached}
use Rattle.jpg_targa.proofs.ShownNone.{head_short}
use Rattle.jpg_targa.proofs.read.work.Work.advance.Goals as goal

pub returns-in-Head-clause-led : goal.returns-in-Head-clause-led
returns-in-Head-clause-led c = λ front before r.
    let s = c.args.self.now in
    one_led front (standing front s) c.args.piece.now c.head_byte.result c.head_byte.new.self c.one_byte.result c.one_byte.ensures c.requires
    (subst (λ st. Reaches front (step (standing_of front st s) (get_or c.args.piece.now 0 0)) c.head_byte.result c.head_byte.new.self) (sym c.in-Head.is)
    (subst (λ f. Reaches f (head_so_far (take c.in-Head.n s.head ++ get_or c.args.piece.now 0 0 ∷ [])) c.head_byte.result c.head_byte.new.self) (sym (before.none (λ b. subst IsBody c.in-Head.is b)))
    (c.head_byte.ensures.led (head_short s.head c.in-Head.n (search rules) (subst IsReached (ap (λ st. standing_of front st s) c.in-Head.is) r)))))

pub returns-in-Identifier-clause-led : goal.returns-in-Identifier-clause-led
returns-in-Identifier-clause-led c = λ front before r.
    let s = c.args.self.now in
    one_led front (standing front s) c.args.piece.now c.identifier_left.result c.identifier_left.new.self c.one_byte-in-Identifier.result c.one_byte-in-Identifier.ensures c.requires
    (subst (λ st. Reaches front (step (standing_of front st s) (get_or c.args.piece.now 0 0)) c.identifier_left.result c.identifier_left.new.self) (sym c.in-Identifier.is)
    (subst (λ k. Reaches front (identifier_left s.head k) c.identifier_left.result c.identifier_left.new.self) c.saturating_sub.ensures
    (subst (λ f. Reaches f (identifier_left s.head c.saturating_sub.result) c.identifier_left.result c.identifier_left.new.self) (sym (before.none (λ b. subst IsBody c.in-Identifier.is b))) c.identifier_left.ensures.led)))

pub returns-in-Packet-clause-led : goal.returns-in-Packet-clause-led
returns-in-Packet-clause-led c = λ front before r.
    let s = c.args.self.now in
    one_led front (standing front s) c.args.piece.now c.packet_byte.result c.packet_byte.new.self c.one_byte-in-Packet.result c.one_byte-in-Packet.ensures c.requires
    (subst (λ st. Reaches front (step (standing_of front st s) (get_or c.args.piece.now 0 0)) c.packet_byte.result c.packet_byte.new.self) (sym c.in-Packet.is) (c.packet_byte.ensures.led front before.long))

pub returns-in-Copies-clause-led : goal.returns-in-Copies-clause-led
returns-in-Copies-clause-led c = λ front before r.
    let s = c.args.self.now in
    let room = copies_reached front s c.in-Copies.count before.long (subst IsReached (ap (λ st. standing_of front st s) c.in-Copies.is) r) in
    one_led front (standing front s) c.args.piece.now c.copies_byte.result c.copies_byte.new.self c.one_byte-in-Copies.result c.one_byte-in-Copies.ensures c.requires
    (subst (λ st. Reaches front (step (standing_of front st s) (get_or c.args.piece.now 0 0)) c.copies_byte.result c.copies_byte.new.self) (sym c.in-Copies.is) (c.copies_byte.ensures.led room front before.long))

pub returns-in-Pixels-clause-led : goal.returns-in-Pixels-clause-led
returns-in-Pixels-clause-led c = λ front before r.
    let s = c.args.self.now in
    let can = pixels_reached front s c.in-Pixels.left before.long (subst IsReached (ap (λ st. standing_of front st s) c.in-Pixels.is) r) in
    subst (λ t. Reaches front (run t (take c.stretch.result.used c.args.piece.now)) c.stretch.result.answer c.stretch.new.self) (sym (ap (λ st. standing_of front st s) c.in-Pixels.is)) (c.stretch.ensures.led can front before.long)
