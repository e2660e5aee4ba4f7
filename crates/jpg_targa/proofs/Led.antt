-- What reading some bytes leads to, by the state before them.
use Rattle.std.proofs.Common.{◌≡◌, ℕ, ◌+◌, ◌-◌, ◌≤◌, List, [], ◌∷◌, ◌++◌, length, take, flat_map, get_or, refl, sym, ap, ◌∙◌, subst, arith}
use Rattle.std.proofs.lemmas.List.{append_assoc, length-append, length-take-le}
use Rattle.std.proofs.Math.Seq.{take-append-add}
use Rattle.jpg_spec.specs.Lists.{below}
use Rattle.jpg_spec_image.specs.TargaSteps.{TargaState, in_copies, in_pixels, total, grown, pixels_so_far, step, run}
use Rattle.jpg_spec_image.specs.TargaReading.{RepresentsTarga, InCopies, InPixels}
use Rattle.jpg_spec_image.proofs.TargaRuns.{pixels_run}
use Rattle.jpg_spec_image.proofs.TargaStands.{stands}
use Rattle.jpg_targa.specs.Reader.{standing_of, after_pixels, IsReached, Reaches, ShowsNone, HasRoom, CanStretch}
use Rattle.jpg_targa.proofs.ShownNone.{pixels_right}
use Rattle.jpg_pnm_bmp.specs.declared.read.piece.Answer.{Answer}
use Rattle.jpg_pnm_bmp.specs.declared.read.piece.Moved.{Moved}
use Rattle.jpg_targa.specs.declared.read.work.Stage.{Stage}
use Rattle.jpg_targa.specs.declared.read.work.Work.{Work}

first_run : (s : TargaState) (piece : List ℕ) → 1 ≤ length piece → run s (take 1 piece) ≡ step s (get_or piece 0 0)
unfolding run
first_run s [] h = absurd (omega (arith, h))
first_run s (b ∷ piece) h = refl

pub one_led : (front : List ℕ) (s : TargaState) (piece : List ℕ) (a : Answer) (w : Work) (m : Moved) → m ≡ record { used = 1; answer = a } → 1 ≤ length piece → Reaches front (step s (get_or piece 0 0)) a w
    → Reaches front (run s (take m.used piece)) m.answer w
one_led front s piece a w m e h r =
    subst (λ (x : Moved). Reaches front (run s (take x.used piece)) x.answer w) (sym e) (subst (λ t. Reaches front t a w) (sym (first_run s piece h)) r)

-- as many bytes of pixels as were given away and are held
pub held : (front : List ℕ) (w : Work) → length front ≡ w.before → length (front ++ w.pixels) ≡ w.before + length w.pixels
held front w long = length-append front w.pixels ∙ ap (λ n. n + length w.pixels) long

-- bytes of pixels are missing before a pixel is copied
pub copies_reached : (front : List ℕ) (w : Work) (count : ℕ) → length front ≡ w.before → IsReached (in_copies w.head (front ++ w.pixels) count w.pixel) → HasRoom w
copies_reached front w count long (bytes, e) = by (subst (RepresentsTarga bytes) e (stands bytes))
  where
    by : InCopies bytes w.head (front ++ w.pixels) count w.pixel → HasRoom w
    by i = let r = i.packets.room in let l = held front w long in omega (arith, r, l)

pub pixels_reached : (front : List ℕ) (w : Work) (left : ℕ) → length front ≡ w.before → IsReached (in_pixels w.head (front ++ w.pixels) left) → CanStretch left w
pixels_reached front w left long (bytes, e) = by (subst (RepresentsTarga bytes) e (stands bytes))
  where
    by : InPixels bytes w.head (front ++ w.pixels) left → CanStretch left w
    by i = let r = i.room in let l = held front w long in record { some = i.some; room = omega (arith, r, l) }

-- COPIES of a pixel, up to the end
pub copies_after : (front old pixel new : List ℕ) (end before count : ℕ) → length front ≡ before → before ≤ end → new ≡ take (end - before) (old ++ flat_map (λ n. pixel) (below count))
    → front ++ new ≡ take end ((front ++ old) ++ flat_map (λ n. pixel) (below count))
copies_after front old pixel new end before count long room is =
    let copies = flat_map (λ (n : ℕ). pixel) (below count) in
    let n : length front + (end - before) ≡ end = omega (arith, long, room) in
    ap (λ x. front ++ x) is ∙ sym (take-append-add front (old ++ copies) (end - before)) ∙ ap (λ k. take k (front ++ (old ++ copies))) n ∙ ap (take end) (sym (append_assoc front old copies))

-- A PART of pixels

-- what is known of a part that is taken
pub record PartFits (left : ℕ) (w : Work) (part : List ℕ) : Type 0 where
  pub some : 1 ≤ length part
  pub few : length part ≤ left
  pub room : w.before + length (w.pixels ++ part) ≤ total w.head

pub part_fits : (left : ℕ) (w : Work) (piece : List ℕ) (long missing : ℕ) → CanStretch left w → long ≤ length piece → 1 ≤ long → (1 ≤ left → long ≤ left) → (1 ≤ missing → long ≤ missing) → missing ≡ total w.head - w.before - length w.pixels
    → PartFits left w (take long piece)
part_fits left w piece long missing can within least few short is =
    let l = length-take-le long piece within in
    let a = length-append w.pixels (take long piece) in
    let some = can.some in
    let room = can.room in
    record { some = omega (arith, l, least); few = omega (arith, l, few, some); room = omega (arith, l, a, is, short, room) }

-- no fault is shown with it
with_part : (front : List ℕ) (left : ℕ) (w : Work) (part : List ℕ) → length front ≡ w.before → PartFits left w part → length ((front ++ w.pixels) ++ part) ≤ total w.head
with_part front left w part long f =
    let a = length-append (front ++ w.pixels) part in
    let b = held front w long in
    let c = length-append w.pixels part in
    let r = f.room in
    omega (arith, a, b, c, r)

pub part_right : (front : List ℕ) (left : ℕ) (w : Work) (part : List ℕ) → length front ≡ w.before → PartFits left w part → ShowsNone (run (in_pixels w.head (front ++ w.pixels) left) part)
part_right front left w part long f =
    subst ShowsNone (sym (pixels_run w.head (front ++ w.pixels) part left f.some f.few (with_part front left w part long f))) (pixels_right w.head ((front ++ w.pixels) ++ part) (left - length part))

-- a part was appended, and it goes on by what is left
pub record Stretches (front : List ℕ) (old w new : Work) (left : ℕ) (part : List ℕ) (s : Stage) (a : Answer) : Type 0 where
  pub long : length front ≡ old.before
  pub fits : PartFits left old part
  pub appended : w ≡ record old { pixels = old.pixels ++ part }
  pub goes_on : standing_of front s w ≡ after_pixels front (left - length part) w
  pub grown_to : Reaches front (grown w.head (front ++ w.pixels) (standing_of front s w)) a new

pub stretch_led : (front : List ℕ) (old w new : Work) (left : ℕ) (part : List ℕ) (s : Stage) (a : Answer) → Stretches front old w new left part s a → Reaches front (run (in_pixels old.head (front ++ old.pixels) left) part) a new
stretch_led front old w new left part s a h =
    let f = h.fits in
    let e : grown w.head (front ++ w.pixels) (standing_of front s w) ≡ run (in_pixels old.head (front ++ old.pixels) left) part =
    ap (grown w.head (front ++ w.pixels)) h.goes_on
    ∙ ap (λ (x : Work). grown x.head (front ++ x.pixels) (after_pixels front (left - length part) x)) h.appended
    ∙ ap (λ x. pixels_so_far old.head x (left - length part)) (sym (append_assoc front old.pixels part))
    ∙ sym (pixels_run old.head (front ++ old.pixels) part left f.some f.few (with_part front left old part h.long f))
    in
    subst (λ t. Reaches front t a new) e h.grown_to
