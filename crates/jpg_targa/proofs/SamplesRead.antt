-- Targa files whose samples are given as they are read: where they can be given, and which numbers the image has.
use Rattle.std.proofs.Common.{◌≡◌, ℕ, ◌+◌, ◌<◌, ◌≤◌, List, [], ◌++◌, length, take, drop, refl, sym, ap, ◌∙◌, subst, arith, Option, None, Some, ⊎_elim}
use Rattle.std.specs.Prelude.{IfSome, IfNone}
use Rattle.std.proofs.lemmas.List.{append_assoc, length-append, take_at, take-append-drop}
use Rattle.jpg_spec.specs.declared.fault.Fault.TheVariants.{ImageShort}
use Rattle.jpg_spec_image.specs.Images.{Image}
use Rattle.jpg_spec_image.specs.TargaFile.{identifier_length, is_from_top, targa_info, targa_kind, IsTargaFront}
use Rattle.jpg_spec_image.specs.TargaFaults.{IsOpenTarga, IsTargaFault, TargaMeans}
use Rattle.jpg_spec_image.specs.TargaSteps.{at_start, run}
use Rattle.jpg_spec_image.specs.TargaReading.{RepresentsTarga, InIdentifier, InPackets, InCopies, InPixels, InPacket, InRaw}
use Rattle.jpg_spec_image.specs.declared.image.ImageInfo.{ImageInfo}
use Rattle.jpg_spec_image.proofs.TargaJudged.{IsLive, live_open, short_at}
use Rattle.jpg_spec_image.proofs.TargaRuns.{right_header}
use Rattle.jpg_spec_image.proofs.TargaStands.{stands}
use Rattle.jpg_pnm_bmp.specs.PlainSamples.{AreRightNumbers}
use Rattle.jpg_pnm_bmp.proofs.ImageRight.{right_numbers}
use Rattle.jpg_targa.specs.Reader.{IsBody, standing, standing_of}
use Rattle.jpg_targa.specs.Reader as reader
use Rattle.jpg_targa.specs.Samples.{HasBegun, HasGivenTarga}
use Rattle.jpg_targa.specs.TargaGiven.{GoesOnTarga, IsBegunTarga, TellsGiven, TellsNotGiven}
use Rattle.jpg_targa.specs.declared.read.reader.TargaReader.{TargaReader}
use Rattle.jpg_targa.specs.declared.read.work.Stage.{Stage}
use Rattle.jpg_targa.specs.declared.read.work.Stage.TheVariants as stage
use Rattle.jpg_targa.specs.declared.read.work.Work.{Work}
use Rattle.jpg_targa.proofs.PiecesRead.{standing_live}
use Rattle.jpg_targa.proofs.SamplesGiven.{no_samples}

-- THE HEADER is in the bytes

front_head : (bytes head front body : List ℕ) → IsTargaFront head front → bytes ≡ front ++ body → take 18 bytes ≡ head
front_head bytes head front body f cut = ap (take 18) (cut ∙ ap (λ (x : List ℕ). x ++ body) f.cut ∙ append_assoc head f.identifier body) ∙ take_at head (f.identifier ++ body) 18 f.long

one_head : (bytes head front body head2 front2 body2 : List ℕ) → IsTargaFront head front → bytes ≡ front ++ body → IsTargaFront head2 front2 → bytes ≡ front2 ++ body2 → head2 ≡ head
one_head bytes head front body head2 front2 body2 f cut f2 cut2 = sym (front_head bytes head2 front2 body2 f2 cut2) ∙ front_head bytes head front body f cut

-- a header, and what follows it
record IsFront (head bytes : List ℕ) : Type 0 where
  front : List ℕ
  body : List ℕ
  header : IsTargaFront head front
  cut : bytes ≡ front ++ body

in_packets : (bytes head pixels part : List ℕ) → InPackets bytes head pixels part → IsFront head bytes
in_packets bytes head pixels part p = record { front = p.front; body = _; header = p.header; cut = p.cut }

body_front : (bytes front : List ℕ) (w : Work) (st : Stage) → IsBody st → RepresentsTarga bytes (standing_of front st w) → IsFront w.head bytes
body_front bytes front w (stage.Head n) b r = absurd b
body_front bytes front w (stage.Identifier left) b r = absurd b
body_front bytes front w stage.Packet b r = in_packets bytes w.head (front ++ w.pixels) [] r
body_front bytes front w (stage.Copies count) b r = by r
  where
    by : InCopies bytes w.head (front ++ w.pixels) count w.pixel → IsFront w.head bytes
    by r = in_packets bytes w.head (front ++ w.pixels) _ r.packets
body_front bytes front w (stage.Pixels left) b r = by r
  where
    by : InPixels bytes w.head (front ++ w.pixels) left → IsFront w.head bytes
    by r =
        ⊎_elim (λ (p : InPacket bytes w.head (front ++ w.pixels) left). in_packets bytes w.head p.before _ p.packets)
        (λ (p : InRaw bytes w.head (front ++ w.pixels) left). (let f : IsFront w.head bytes = record { front = p.front; body = front ++ w.pixels; header = p.header; cut = p.cut } in f)) r.where_it_is

stands_front : (bytes front : List ℕ) (w : Work) → IsBody w.stage → standing front w ≡ run at_start bytes → IsFront w.head bytes
stands_front bytes front w b e = body_front bytes front w w.stage b (subst (RepresentsTarga bytes) (sym e) (stands bytes))

pub begun_of : (bytes front : List ℕ) (w : Work) → HasBegun w → standing front w ≡ run at_start bytes → IsBegunTarga (targa_info w.head) bytes
begun_of bytes front w b e = let f = stands_front bytes front w b.body e in record { head = w.head; front = f.front; body = f.body; header = f.header; cut = f.cut; top = b.top; info_is = refl }

-- WHERE THEY HAVE BEGUN, so has the reader

begun_long : (info : ImageInfo) (bytes : List ℕ) (b : IsBegunTarga info bytes) → 18 + identifier_length b.head ≤ length bytes
begun_long info bytes b =
    let l = ap length b.cut ∙ length-append b.front b.body in
    let f = ap length b.header.cut ∙ length-append b.head b.header.identifier in
    let long = b.header.long in
    let same = b.header.identifier_long in
    omega (arith, l, f, long, same)

identifier_short : (bytes head : List ℕ) (left : ℕ) → InIdentifier bytes head left → length bytes < 18 + identifier_length head
identifier_short bytes head left i =
    let l = ap length i.cut ∙ length-append head i.part in
    let long = i.long in
    let same = i.identifier_long in
    let room = i.room in
    omega (arith, l, long, same, room)

identifier_head : (bytes head : List ℕ) (left : ℕ) → InIdentifier bytes head left → take 18 bytes ≡ head
identifier_head bytes head left i = ap (take 18) i.cut ∙ take_at head i.part 18 i.long

begun_head : (info : ImageInfo) (bytes : List ℕ) (b : IsBegunTarga info bytes) → take 18 bytes ≡ b.head
begun_head info bytes b = front_head bytes b.head b.front b.body b.header b.cut

begun_body : (info : ImageInfo) (bytes front : List ℕ) (w : Work) (st : Stage) → IsBegunTarga info bytes → RepresentsTarga bytes (standing_of front st w) → IsBody st
begun_body info bytes front w (stage.Head n) b (e, few) = let l = begun_long info bytes b in let same = ap length e in absurd (omega (arith, l, few, same))
begun_body info bytes front w (stage.Identifier left) b i =
    let l = begun_long info bytes b in
    let short = identifier_short bytes w.head left i in
    let same = ap identifier_length (sym (identifier_head bytes w.head left i) ∙ begun_head info bytes b) in
    absurd (omega (arith, l, short, same))
begun_body info bytes front w stage.Packet b r = tt
begun_body info bytes front w (stage.Copies count) b r = tt
begun_body info bytes front w (stage.Pixels left) b r = tt

has_begun : (info : ImageInfo) (bytes front : List ℕ) (w : Work) → IsBegunTarga info bytes → standing front w ≡ run at_start bytes → HasBegun w
has_begun info bytes front w b e =
    let body = begun_body info bytes front w w.stage b (subst (RepresentsTarga bytes) (sym e) (stands bytes)) in
    let f = stands_front bytes front w body e in
    record { body = body; top = ap is_from_top (one_head bytes b.head b.front b.body w.head f.front f.body b.header b.cut f.header f.cut) ∙ b.top }

pub tells_given : (r : TargaReader) (a : Option ImageInfo) → IfSome a (λ info. HasBegun r.reader.work × (info ≡ targa_info r.reader.work.head)) → IfSome a (TellsGiven r)
tells_given r None t = tt
tells_given r (Some info) (b, e) = λ bytes h. subst (λ i. IsBegunTarga i bytes) (sym e) (begun_of bytes [] r.reader.work b h.3.stands.1)

pub tells_not_given : (r : TargaReader) (a : Option ImageInfo) → IfNone a (HasBegun r.reader.work → ⊥) → IfNone a (TellsNotGiven r)
tells_not_given r None t = λ bytes info h b. t (has_begun info bytes [] r.reader.work b h.3.stands.1)
tells_not_given r (Some info) t = tt

-- THE NUMBERS stay, and are those of the image

begun_more : (info : ImageInfo) (bytes rest : List ℕ) → IsBegunTarga info bytes → IsBegunTarga info (bytes ++ rest)
begun_more info bytes rest b = record {
  head = b.head;
  front = b.front;
  body = b.body ++ rest;
  header = b.header;
  cut = ap (λ (x : List ℕ). x ++ rest) b.cut ∙ append_assoc b.front b.body rest;
  top = b.top;
  info_is = b.info_is;
}

begun_image : (info : ImageInfo) (bytes : List ℕ) (image : Image) → IsBegunTarga info bytes → TargaMeans bytes image → image.info ≡ info
begun_image info bytes image b (n, few, w) =
    let cut : bytes ≡ w.front ++ (w.body ++ drop n bytes) = sym (take-append-drop n bytes) ∙ ap (λ (x : List ℕ). x ++ drop n bytes) w.cut ∙ append_assoc w.front w.body (drop n bytes) in
    ap (λ (x : Image). x.info) w.same
    ∙ ap targa_info (one_head bytes b.head b.front b.body w.head w.front (w.body ++ drop n bytes) b.header b.cut w.header cut)
    ∙ sym b.info_is

begun_numbers : (info : ImageInfo) (bytes : List ℕ) → IsBegunTarga info bytes → AreRightNumbers info
begun_numbers info bytes b =
    let r = right_header b.head b.header.right in
    subst AreRightNumbers (sym b.info_is) (right_numbers (targa_info b.head) (record { wide = r.wide; high = r.high; few = r.few }))

pub goes_on_targa : (info : ImageInfo) (bytes : List ℕ) → IsBegunTarga info bytes → GoesOnTarga info bytes
goes_on_targa info bytes b = record {
  more = λ rest. begun_more info bytes rest b;
  same = λ other o. o.info_is ∙ ap targa_info (one_head bytes b.head b.front b.body o.head o.front o.body b.header b.cut o.header o.cut) ∙ sym b.info_is;
  image = λ rest image m. begun_image info (bytes ++ rest) image (begun_more info bytes rest b) m;
  numbers = begun_numbers info bytes b;
}

-- THE READER of samples, which were not given yet

pub none_given_yet : (bytes : List ℕ) (w : Work) → HasBegun w → reader.targa_kind.stands bytes w → HasGivenTarga bytes [] w
none_given_yet bytes w b s =
    let none = s.0 in
    record {
      front = [];
      long = sym none;
      whole = (0, omega (arith, none));
      body = b.body;
      top = b.top;
      stands = s.1;
      given_is = sym (no_samples (targa_kind w.head));
    }

given_live : (bytes given : List ℕ) (w : Work) → HasGivenTarga bytes given w → IsLive (run at_start bytes)
given_live bytes given w g = subst IsLive g.stands (standing_live g.front w.stage w)

pub given_open : (bytes given : List ℕ) (w : Work) → HasGivenTarga bytes given w → IsOpenTarga bytes
given_open bytes given w g = live_open bytes (given_live bytes given w g)

pub given_short : (bytes given : List ℕ) (w : Work) → HasGivenTarga bytes given w → IsTargaFault bytes ImageShort (length bytes)
given_short bytes given w g = short_at bytes (given_live bytes given w g)

pub given_begun : (bytes given : List ℕ) (w : Work) → HasGivenTarga bytes given w → IsBegunTarga (targa_info w.head) bytes
given_begun bytes given w g = begun_of bytes g.front w (record { body = g.body; top = g.top }) g.stands
