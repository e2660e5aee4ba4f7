-- A piece that is read part by part, in any format.
use Rattle.std.proofs.Common.{◌≡◌, ℕ, ◌+◌, ◌-◌, ◌<◌, ◌≤◌, List, ◌++◌, length, get_or, take, drop, sym, ap, ◌∙◌, subst, arith, Result, Ok, Err}
use Rattle.std.proofs.lemmas.List.{append_assoc, length-append, length-drop, length-take-le, take-append-drop, take_rest}
use Rattle.std.proofs.lemmas.List.Elements.{All-append, All-from_get_or}
use Rattle.std.proofs.Math.Seq.{take-add}
use Rattle.jpg_base.specs.declared.stop.Stop.{Stop}
use Rattle.jpg_base.specs.declared.stop.Stop.TheVariants as stop
use Rattle.jpg_spec_image.specs.Images.{Image}
use Rattle.jpg_spec_image.specs.declared.image.ImageInfo.{ImageInfo}
use Rattle.jpg_pnm_bmp.specs.Made.{AreBytes, Makes, image_by_parts}
use Rattle.jpg_pnm_bmp.specs.Pieces.{PieceKind, AfterRead, AfterSome, AsksRightly, GoesOn, GoesRight, MakesWhole}
use Rattle.jpg_pnm_bmp.specs.PiecesFed.{AfterFeed, HasFed, image_of}
use Rattle.jpg_pnm_bmp.specs.declared.read.piece.Answer.{Answer}
use Rattle.jpg_pnm_bmp.specs.declared.read.piece.Fed2.{Fed2}
use Rattle.jpg_pnm_bmp.specs.declared.read.piece.Fed2.TheVariants as fed
use Rattle.jpg_pnm_bmp.specs.declared.read.piece.PieceReader.{PieceReader}

pub further : (piece : List ℕ) (at used : ℕ) → at ≤ length piece → used ≤ length (take (length piece - at) (drop at piece)) → at + used ≤ length piece
further piece at used h l =
    let d = length-drop at piece in
    let k : used ≤ length (drop at piece) = subst (λ (x : List ℕ). used ≤ length x) (take_rest piece at) l in
    omega (arith, d, h, k)

pub place : (bytes piece : List ℕ) (taken n : ℕ) → taken ≡ length bytes → n ≤ length piece → length (bytes ++ take n piece) ≡ taken + n
place bytes piece taken n e h = let a = length-append bytes (take n piece) in let b = length-take-le n piece h in omega (arith, e, a, b)

module _ {W : Type 0} (k : PieceKind W) (bytes piece : List ℕ) where
  -- one more part
  pub some_led : (at used : ℕ) (a b : Answer) (w : W) → a ≡ b
      → AfterSome k ((bytes ++ take at piece) ++ take used (take (length piece - at) (drop at piece))) ((bytes ++ take at piece) ++ take (length piece - at) (drop at piece)) a w → AfterSome k (bytes ++ take (at + used) piece) (bytes ++ piece) b w
  some_led at used a b w is h =
      let part = append_assoc bytes (take at piece) (take used (drop at piece)) ∙ ap (λ x. bytes ++ x) (sym (take-add at used piece)) in
      let all = append_assoc bytes (take at piece) (drop at piece) ∙ ap (λ x. bytes ++ x) (take-append-drop at piece) in
      subst (λ x. AfterSome k (bytes ++ take (at + used) piece) (bytes ++ piece) x w) is
      (subst (λ x. AfterSome k x (bytes ++ piece) a w) part
      (subst (λ x. AfterSome k ((bytes ++ take at piece) ++ take used (drop at piece)) x a w) all
      (subst (λ x. AfterSome k ((bytes ++ take at piece) ++ take used x) ((bytes ++ take at piece) ++ x) a w) (take_rest piece at) h)))

  -- the image is made
  pub made_read : (image made : Image) (answer : Result Fed2 Stop) (w : W) → MakesWhole image answer made → k.means (bytes ++ piece) image → AreBytes image.samples → AfterRead k bytes piece answer w made
  made_read image made (Ok fed.More) w m is all = absurd m
  made_read image made (Ok fed.Done) w m is all = subst (k.means (bytes ++ piece)) (m all) is
  made_read image made (Err (stop.Fault f)) w m is all = absurd m
  made_read image made (Err stop.NoMemory) w m is all = tt

  pub made_asks : (image made : Image) (answer : Result Fed2 Stop) → MakesWhole image answer made → GoesRight k bytes piece → AsksRightly k bytes piece answer
  made_asks image made (Ok fed.More) m h = absurd m
  made_asks image made (Ok fed.Done) m h = h
  made_asks image made (Err (stop.Fault f)) m h = absurd m
  made_asks image made (Err stop.NoMemory) m h = h

pub made_goes : {W : Type 0} (k : PieceKind W) (image made : Image) (answer : Result Fed2 Stop) (w : W) → MakesWhole image answer made → GoesOn k answer w
made_goes k image made (Ok fed.More) w m = absurd m
made_goes k image made (Ok fed.Done) w m = tt
made_goes k image made (Err e) w m = tt

pub bytes_more : (bytes piece : List ℕ) → AreBytes bytes → ((k : ℕ) → k < length piece → get_or piece k 0 < 256) → AreBytes (bytes ++ piece)
bytes_more bytes piece all more = All-append (λ b. b < 256) bytes piece all (All-from_get_or (λ b. b < 256) piece 0 more)

pub made_is : (image : Image) (info : ImageInfo) (made : List ℕ) → Makes image (Ok info) made → AreBytes image.samples → image ≡ image_by_parts info made
made_is image info made (told, samples) bytes = sym (ap (λ i. image_by_parts i made) told ∙ ap (image_by_parts image.info) (samples bytes))

-- a piece was fed, and more is needed
pub fed_more : {W : Type 0} (k : PieceKind W) (old next : PieceReader W) (bytes piece : List ℕ) (answer : Result Fed2 Stop) → answer ≡ Ok fed.More → HasFed k bytes old → AreBytes (bytes ++ piece) → next.stop ≡ old.stop → next.done ≡ old.done → next.taken ≡ old.taken + length piece
    → AfterRead k bytes piece answer next.work (image_of next) → AfterFeed k bytes piece answer next
fed_more k old next bytes piece answer e h all stop done taken after =
    subst (λ x. AfterFeed k bytes piece x next) (sym e)
    (stop ∙ h.0, done ∙ h.1, all, record { stands = subst (λ x. AfterRead k bytes piece x next.work (image_of next)) e after; taken_is = taken ∙ ap (λ n. n + length piece) h.3.taken_is ∙ sym (length-append bytes piece) })
