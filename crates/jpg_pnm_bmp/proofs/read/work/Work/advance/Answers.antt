use Rattle.std.proofs.Common.{◌≡◌, ℕ, ◌≤◌, ◌++◌, List, [], length, take, get_or, sym, ap, ◌∙◌, subst}
use Rattle.std.proofs.Math.Logic.{∥∥₁_elim}
use native.Mathlib.Bridge.{le_prop}
use Rattle.jpg_spec_image.specs.BmpFile.{height}
use Rattle.jpg_spec_image.specs.ImageFaults.{pnm, bmp, body_of}
use Rattle.jpg_spec_image.specs.ImageSteps.{ImageState, step, run}
use Rattle.jpg_pnm_bmp.specs.Known.{list_of}
use Rattle.jpg_pnm_bmp.specs.Reader.{standing, standing_of, image_by, numbers_list, AreGivenIn, IsReached, Reaches}
use Rattle.jpg_pnm_bmp.specs.Shapes.{body_view}
use Rattle.jpg_pnm_bmp.specs.declared.read.piece.Answer.{Answer}
use Rattle.jpg_pnm_bmp.specs.declared.read.work.Work.{Work}
use Rattle.jpg_pnm_bmp.proofs.Advance.{one_led, due_reached, gap_due, body_reached, stretch_led, pnm_numbers, pnm_can, bmp_can}
use Rattle.jpg_pnm_bmp.proofs.AllThere.{all_bmp, all_pnm, all_prop, body_head, body_high, gap_scale, head_reached, numbers_reached, scale_prop, scale_reached}
use Rattle.jpg_pnm_bmp.proofs.ShownNone.{short_reached}
use Rattle.jpg_pnm_bmp.proofs.read.work.Work.advance.Goals as goal

-- before the numbers of a PNM file's header are known, and in a BMP file
none_given : (front : List ℕ) (s : ImageState) (a : Answer) (w : Work) → front ≡ [] → Reaches [] s a w → Reaches front s a w
none_given front s a w e r = subst (λ f. Reaches f s a w) (sym e) r

pub returns-in-Start-clause-led : goal.returns-in-Start-clause-led
returns-in-Start-clause-led c = λ front before r.
    let s = c.args.self.now in
    one_led front (standing front s) c.args.piece.now c.first_byte.result c.first_byte.new.self c.one_byte.result c.one_byte.ensures c.requires.some
    (none_given front _ c.first_byte.result c.first_byte.new.self (subst (λ st. AreGivenIn st s.numbers front) c.in-Start.is before.known)
    (subst (λ st. Reaches [] (step (standing_of front st s) (get_or c.args.piece.now 0 0)) c.first_byte.result c.first_byte.new.self) (sym c.in-Start.is) c.first_byte.ensures.led))

pub returns-in-First-clause-led : goal.returns-in-First-clause-led
returns-in-First-clause-led c = λ front before r.
    let s = c.args.self.now in
    one_led front (standing front s) c.args.piece.now c.second_byte.result c.second_byte.new.self c.one_byte-in-First.result c.one_byte-in-First.ensures c.requires.some
    (none_given front _ c.second_byte.result c.second_byte.new.self (subst (λ st. AreGivenIn st s.numbers front) c.in-First.is before.known)
    (subst (λ st. Reaches [] (step (standing_of front st s) (get_or c.args.piece.now 0 0)) c.second_byte.result c.second_byte.new.self) (sym c.in-First.is) c.second_byte.ensures.led))

pub returns-in-Gap-clause-led : goal.returns-in-Gap-clause-led
returns-in-Gap-clause-led c = λ front before r.
    let s = c.args.self.now in
    let m = c.gap_bytes in
    let known = subst (λ st. AreGivenIn st s.numbers front) c.in-Gap.is before.known in
    let due = gap_due s.format (numbers_list front s) c.in-Gap.some c.in-Gap.commented (subst IsReached (ap (λ st. standing_of front st s) c.in-Gap.is) r) in
    subst (λ st. Reaches front (run (standing_of front st s) (take m.result.used c.args.piece.now)) m.result.answer m.new.self) (sym c.in-Gap.is) (m.ensures.led front before.long known due)

pub returns-in-Number-clause-led : goal.returns-in-Number-clause-led
returns-in-Number-clause-led c = λ front before r.
    let s = c.args.self.now in
    let m = c.number_bytes in
    let known = subst (λ st. AreGivenIn st s.numbers front) c.in-Number.is before.known in
    let due = due_reached s.format (numbers_list front s) c.in-Number.n (subst IsReached (ap (λ st. standing_of front st s) c.in-Number.is) r) in
    subst (λ st. Reaches front (run (standing_of front st s) (take m.result.used c.args.piece.now)) m.result.answer m.new.self) (sym c.in-Number.is) (m.ensures.led front before.long known due)

pub returns-in-BmpHead-clause-led : goal.returns-in-BmpHead-clause-led
returns-in-BmpHead-clause-led c = λ front before r.
    let s = c.args.self.now in
    one_led front (standing front s) c.args.piece.now c.head_byte.result c.head_byte.new.self c.one_byte-in-BmpHead.result c.one_byte-in-BmpHead.ensures c.requires.some
    (none_given front _ c.head_byte.result c.head_byte.new.self (subst (λ st. AreGivenIn st s.numbers front) c.in-BmpHead.is before.known)
    (subst (λ st. Reaches [] (step (standing_of front st s) (get_or c.args.piece.now 0 0)) c.head_byte.result c.head_byte.new.self) (sym c.in-BmpHead.is) c.head_byte.ensures.led))

pub returns-in-BmpFront-clause-led : goal.returns-in-BmpFront-clause-led
returns-in-BmpFront-clause-led c = λ front before r.
    let s = c.args.self.now in
    one_led front (standing front s) c.args.piece.now c.front_byte.result c.front_byte.new.self c.one_byte-in-BmpFront.result c.one_byte-in-BmpFront.ensures c.requires.some
    (none_given front _ c.front_byte.result c.front_byte.new.self (subst (λ st. AreGivenIn st s.numbers front) c.in-BmpFront.is before.known)
    (subst (λ st. Reaches [] (step (standing_of front st s) (get_or c.args.piece.now 0 0)) c.front_byte.result c.front_byte.new.self) (sym c.in-BmpFront.is) c.front_byte.ensures.led))

pub returns-in-PnmBody-clause-led : goal.returns-in-PnmBody-clause-led
returns-in-PnmBody-clause-led c = λ front before r.
    let s = c.args.self.now in
    let head = pnm s.format (list_of s.numbers []) in
    let body : List ℕ = front ++ s.samples in
    let b = body_reached head body (subst IsReached (ap (λ st. standing_of front st s) c.in-PnmBody.is) r) in
    let k = pnm_numbers s.format s.numbers b.0 body b.1 in
    let e : body_view c.pnm_shape-shape.result ≡ body_of head = c.pnm_shape-shape.ensures k.0 k.1 k.2 k.3 ∙ ap (λ x. body_of (pnm s.format (list_of x []))) (sym k.3) in
    let led = c.stretch.ensures.led head e front before.long (pnm_can s.format (list_of s.numbers []) b.0 body b.1) in
    subst (λ t. Reaches front (run t (take c.stretch.result.used c.args.piece.now)) c.stretch.result.answer c.stretch.new.self) (sym (ap (λ st. standing_of front st s) c.in-PnmBody.is))
    (stretch_led front s head _ c.stretch.result.answer c.stretch.new.self (λ x. ap (λ st. standing_of front st (record s { samples = x })) c.in-PnmBody.is) (λ x. ap (λ st. image_by front st (record s { samples = x })) c.in-PnmBody.is) led)

pub returns-in-BmpBody-clause-led : goal.returns-in-BmpBody-clause-led
returns-in-BmpBody-clause-led c = λ front before r.
    let s = c.args.self.now in
    let head = bmp s.head s.palette in
    let none = subst (λ st. AreGivenIn st s.numbers front) c.in-BmpBody.is before.known in
    let b = body_reached head s.samples (subst IsReached (ap (λ st. standing_of [] st s) c.in-BmpBody.is) (subst (λ f. IsReached (standing f s)) none r)) in
    let high = body_high s.head s.palette b.0 s.samples b.1 in
    let e : body_view c.bmp_shape-shape.result ≡ body_of head = subst (λ x. height x ≤ 65500 → body_view c.bmp_shape-shape.result ≡ body_of (bmp x s.palette)) c.as_slice.ensures (c.bmp_shape-shape.ensures s.palette) high in
    let led = c.stretch-in-BmpBody.ensures.led head e [] (subst (λ (f : List ℕ). length f ≡ s.before) none before.long) (bmp_can s.head s.palette b.0 s.samples b.1) in
    subst (λ f. Reaches f (run (standing f s) (take c.stretch-in-BmpBody.result.used c.args.piece.now)) c.stretch-in-BmpBody.result.answer c.stretch-in-BmpBody.new.self) (sym none)
    (subst (λ t. Reaches [] (run t (take c.stretch-in-BmpBody.result.used c.args.piece.now)) c.stretch-in-BmpBody.result.answer c.stretch-in-BmpBody.new.self) (sym (ap (λ st. standing_of [] st s) c.in-BmpBody.is))
    (stretch_led [] s head _ c.stretch-in-BmpBody.result.answer c.stretch-in-BmpBody.new.self (λ x. ap (λ st. standing_of [] st (record s { samples = x })) c.in-BmpBody.is) (λ x. ap (λ st. image_by [] st (record s { samples = x })) c.in-BmpBody.is) led))

pub gap_bytes-requires-clause-scale : goal.gap_bytes-requires-clause-scale
gap_bytes-requires-clause-scale c =
    let s = c.args.self.now in
    ∥∥₁_elim c.requires.going (scale_prop s.numbers) (λ r. gap_scale s.format s.numbers (r.0 ++ s.samples) c.in-Gap.some c.in-Gap.commented (subst IsReached (ap (λ st. standing_of r.0 st s) c.in-Gap.is) r.2))

pub number_bytes-requires : goal.number_bytes-requires
number_bytes-requires c =
    let s = c.args.self.now in
    ∥∥₁_elim c.requires.going (scale_prop s.numbers) (λ r. scale_reached s.format s.numbers (r.0 ++ s.samples) c.in-Number.n (subst IsReached (ap (λ st. standing_of r.0 st s) c.in-Number.is) r.2))

pub front_byte-requires : goal.front_byte-requires
front_byte-requires c =
    let s = c.args.self.now in
    ∥∥₁_elim c.requires.going le_prop (λ r. head_reached s.head s.palette c.in-BmpFront.passed (subst IsReached (ap (λ st. standing_of r.0 st s) c.in-BmpFront.is) r.2))

pub bmp_shape-shape-requires : goal.bmp_shape-shape-requires
bmp_shape-shape-requires c =
    let s = c.args.self.now in
    subst (λ x. 54 ≤ length x) (sym c.as_slice.ensures)
    (∥∥₁_elim c.requires.going le_prop (λ r. (let b = body_reached (bmp s.head s.palette) (r.0 ++ s.samples) (subst IsReached (ap (λ st. standing_of r.0 st s) c.in-BmpBody.is) r.2) in body_head s.head s.palette b.0 (r.0 ++ s.samples) b.1)))

pub returns-in-PnmBody-clause-all : goal.returns-in-PnmBody-clause-all
returns-in-PnmBody-clause-all c =
    let s = c.args.self.now in
    ∥∥₁_elim c.requires.going (all_prop c.stretch.result.answer c.stretch.new.self) (λ r.
    (let head = pnm s.format (list_of s.numbers []) in
    let body : List ℕ = r.0 ++ s.samples in
    let b = body_reached head body (subst IsReached (ap (λ st. standing_of r.0 st s) c.in-PnmBody.is) r.2) in
    let k = pnm_numbers s.format s.numbers b.0 body b.1 in
    let e : body_view c.pnm_shape-shape.result ≡ body_of head = c.pnm_shape-shape.ensures k.0 k.1 k.2 k.3 ∙ ap (λ x. body_of (pnm s.format (list_of x []))) (sym k.3) in
    let led = c.stretch.ensures.led head e r.0 r.1.long (pnm_can s.format (list_of s.numbers []) b.0 body b.1) in
    all_pnm r.0 s head _ c.stretch.result.answer c.stretch.new.self c.in-PnmBody.is (numbers_reached s.format s.numbers b.0 body b.1) led))

pub returns-in-BmpBody-clause-all : goal.returns-in-BmpBody-clause-all
returns-in-BmpBody-clause-all c =
    let s = c.args.self.now in
    ∥∥₁_elim c.requires.going (all_prop c.stretch-in-BmpBody.result.answer c.stretch-in-BmpBody.new.self) (λ r.
    (let head = bmp s.head s.palette in
    let none = subst (λ st. AreGivenIn st s.numbers r.0) c.in-BmpBody.is r.1.known in
    let b = body_reached head s.samples (subst IsReached (ap (λ st. standing_of [] st s) c.in-BmpBody.is) (subst (λ f. IsReached (standing f s)) none r.2)) in
    let high = body_high s.head s.palette b.0 s.samples b.1 in
    let e : body_view c.bmp_shape-shape.result ≡ body_of head = subst (λ x. height x ≤ 65500 → body_view c.bmp_shape-shape.result ≡ body_of (bmp x s.palette)) c.as_slice.ensures (c.bmp_shape-shape.ensures s.palette) high in
    let led = c.stretch-in-BmpBody.ensures.led head e [] (subst (λ (f : List ℕ). length f ≡ s.before) none r.1.long) (bmp_can s.head s.palette b.0 s.samples b.1) in
    all_bmp s b.0 _ c.stretch-in-BmpBody.result.answer c.stretch-in-BmpBody.new.self c.in-BmpBody.is b.1 led))

pub head_byte-requires : goal.head_byte-requires
head_byte-requires c =
    let s = c.args.self.now in
    ∥∥₁_elim c.requires.going le_prop (λ r. short_reached s.head (subst IsReached (ap (λ st. standing_of r.0 st s) c.in-BmpHead.is) r.2))
