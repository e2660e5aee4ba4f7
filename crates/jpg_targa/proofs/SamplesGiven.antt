-- The samples of a Targa file whose rows come from the top, given part by part.
use Rattle.std.proofs.Common.{◌≡◌, ℕ, zero, suc, ◌+◌, ◌-◌, ◌*◌, ◌<◌, ◌≤◌, Bool, true, cond, List, [], ◌∷◌, ◌++◌, length, take, drop, flat_map, refl, sym, ap, ◌∙◌, subst, arith, ⊎_elim, None}
use Rattle.std.proofs.lemmas.List.{append_assoc, append-nil, length-append, length-take-le, take-append-drop}
use Rattle.std.proofs.lemmas.Grind.{flat_map-append}
use Rattle.std.proofs.Math.Seq.{take-add, take-append-add}
use Rattle.jpg_spec.specs.Lists.{below}
use Rattle.jpg_spec.proofs.Basics.Common.{le_of}
use Rattle.jpg_spec.specs.declared.fault.Fault.{Fault}
use Rattle.jpg_spec_image.specs.ImageText.{row_bytes, file_samples, turned_round}
use Rattle.jpg_spec_image.specs.TargaFile.{pixel_size, is_from_top, targa_kind, targa_width, targa_height, targa_info, targa_fault, targa_image}
use Rattle.jpg_spec_image.specs.TargaSteps.{TargaState, at_start, at_packet, in_copies, in_pixels, whole, total, run}
use Rattle.jpg_spec_image.specs.TargaReading.{RepresentsTarga, InPackets, InCopies, InPixels, InPacket, InRaw}
use Rattle.jpg_spec_image.specs.declared.image.ImageInfo.{ImageInfo}
use Rattle.jpg_spec_image.specs.declared.image.ImageKind.{ImageKind}
use Rattle.jpg_spec_image.specs.declared.image.ImageKind.TheVariants.{Gray, Rgb}
use Rattle.jpg_spec_image.proofs.TargaRuns.{right_header, run_join}
use Rattle.jpg_spec_image.proofs.TargaStands.{stands}
use Rattle.jpg_pnm_bmp.specs.Made.{image_by_parts}
use Rattle.jpg_pnm_bmp.specs.Samples.{AfterGiven, Appends}
use Rattle.jpg_pnm_bmp.specs.declared.read.piece.Answer.{Answer}
use Rattle.jpg_pnm_bmp.specs.declared.read.piece.Answer.TheVariants as answer
use Rattle.jpg_targa.specs.Reader.{AreBefore, HasAll, IsBody, Reaches, ShowsNone, Stays, image_view, standing, standing_of}
use Rattle.jpg_targa.specs.Samples.{HasGivenTarga, IsWhole, GivesFirst, GivesMore, GivesLast, targa_samples_kind}
use Rattle.jpg_targa.specs.declared.read.work.Stage.{Stage}
use Rattle.jpg_targa.specs.declared.read.work.Stage.TheVariants as stage
use Rattle.jpg_targa.specs.declared.read.work.Work.{Work}
use Rattle.jpg_targa.proofs.Led.{held}
use Rattle.jpg_targa.proofs.PiecesRead.{fault_taken, image_taken}
use Rattle.jpg_targa.proofs.ShownNone.{no_fault, whole_right}

-- THE SAMPLES of whole pixels, and of others after them

turned_join : (n : ℕ) (a b : List ℕ) → length a ≡ n * 3 → turned_round (a ++ b) ≡ turned_round a ++ turned_round b
turned_join n [] b h = refl
turned_join n (x ∷ []) b h = absurd (omega (arith, h))
turned_join n (x ∷ y ∷ []) b h = absurd (omega (arith, h))
turned_join zero (x ∷ y ∷ z ∷ a) b h = absurd (omega (arith, h))
turned_join (suc n) (x ∷ y ∷ z ∷ a) b h = ap (λ (l : List ℕ). (let m : List ℕ = z ∷ y ∷ x ∷ l in m)) (turned_join n a b (omega (arith, h)))

pub samples_join : (kind : ImageKind) (a b : List ℕ) → IsWhole kind (length a) → file_samples kind (a ++ b) ≡ file_samples kind a ++ file_samples kind b
samples_join Gray a b h = refl
samples_join Rgb a b (n, h) = turned_join n a b h

pub no_samples : (kind : ImageKind) → file_samples kind [] ≡ []
no_samples Gray = refl
no_samples Rgb = refl

both_whole : (kind : ImageKind) (a b : ℕ) → IsWhole kind a → IsWhole kind b → IsWhole kind (a + b)
both_whole kind a b (n, e) (m, f) = (n + m, ap (λ k. k + b) e ∙ ap (λ k. n * pixel_size kind + k) f ∙ more n m (pixel_size kind))
  where
    more : (n m k : ℕ) → n * k + m * k ≡ (n + m) * k
    more n m k = omega arith

-- as many rows of whole pixels
rows_whole : (kind : ImageKind) (n k : ℕ) → IsWhole kind n → IsWhole kind (n * k)
rows_whole kind n k (m, e) = (k * m, ap (λ x. x * k) e ∙ more m k (pixel_size kind))
  where
    more : (m k p : ℕ) → m * p * k ≡ k * m * p
    more m k p = omega arith

lines_join : (kind : ImageKind) (n k : ℕ) (bytes : List ℕ) → IsWhole kind n → n * k ≤ length bytes → flat_map (λ y. file_samples kind (take n (drop (n * y) bytes))) (below k) ≡ file_samples kind (take (n * k) bytes)
lines_join kind n zero bytes w h = let none : 0 ≡ n * 0 = omega arith in sym (no_samples kind) ∙ ap (λ m. file_samples kind (take m bytes)) none
lines_join kind n (suc k) bytes w h =
    let line : ℕ → List ℕ = λ y. file_samples kind (take n (drop (n * y) bytes)) in
    let more : n * k + n ≡ n * suc k = omega arith in
    let inside : n * k ≤ length bytes = omega (arith, h, more) in
    flat_map-append line (below k) (k ∷ [])
    ∙ ap (λ x. x ++ (line k ++ [])) (lines_join kind n k bytes w inside)
    ∙ ap (λ x. file_samples kind (take (n * k) bytes) ++ x) (append-nil (line k))
    ∙ sym (samples_join kind (take (n * k) bytes) (take n (drop (n * k) bytes)) (subst (IsWhole kind) (sym (length-take-le (n * k) bytes inside)) (rows_whole kind n k w)))
    ∙ ap (file_samples kind) (sym (take-add (n * k) n bytes) ∙ ap (λ m. take m bytes) more)

row_pixels : (info : ImageInfo) → IsWhole info.kind (row_bytes info)
row_pixels info = by info.kind
  where
    by : (kind : ImageKind) → IsWhole kind (row_bytes (record info { kind = kind }))
    by Gray = (info.width, omega arith)
    by Rgb = (info.width, omega arith)

-- the samples of an image whose rows come from the top
pub image_samples : (head bytes : List ℕ) → is_from_top head ≡ true → total head ≤ length bytes → (targa_image head bytes).samples ≡ file_samples (targa_kind head) (take (total head) bytes)
image_samples head bytes top long =
    let n = row_bytes (targa_info head) in
    let h = targa_height head in
    let row : Bool → ℕ → List ℕ = λ v y. file_samples (targa_kind head) (take n (drop (n * cond v y (h - 1 - y)) bytes)) in
    let all : n * h ≡ h * n = omega arith in
    ap (λ v. flat_map (row v) (below h)) top ∙ lines_join (targa_kind head) n h bytes (row_pixels (targa_info head)) (omega (arith, long, all)) ∙ ap (λ m. file_samples (targa_kind head) (take m bytes)) all

-- HOW MANY BYTES of pixels there are

total_few : (head : List ℕ) → targa_fault head ≡ None → total head ≤ 805306368
total_few head none = by (targa_kind head)
  where
    by : (kind : ImageKind) → targa_height head * row_bytes (record (targa_info head) { kind = kind }) ≤ 805306368
    by Gray = let few = le_of (targa_width head * targa_height head) 268435456 (right_header head none).few in let e = turn (targa_height head) (targa_width head) in omega (arith, few, e)
      where
        turn : (a b : ℕ) → a * b ≡ b * a
        turn a b = omega arith
    by Rgb = let few = le_of (targa_width head * targa_height head) 268435456 (right_header head none).few in let e = turn (targa_height head) (targa_width head) in omega (arith, few, e)
      where
        turn : (a b : ℕ) → a * (3 * b) ≡ 3 * (b * a)
        turn a b = omega arith

-- some are missing
record IsInRoom (w : Work) : Type 0 where
  room : w.before + length w.pixels < total w.head
  few : total w.head ≤ 805306368

in_room : (front : List ℕ) (w : Work) → length front ≡ w.before → length (front ++ w.pixels) < total w.head → targa_fault w.head ≡ None → IsInRoom w
in_room front w long room none = let l = held front w long in record { room = omega (arith, l, room); few = total_few w.head none }

body_room : (bytes front : List ℕ) (w : Work) → length front ≡ w.before → (st : Stage) → IsBody st → RepresentsTarga bytes (standing_of front st w) → IsInRoom w
body_room bytes front w long (stage.Head n) b r = absurd b
body_room bytes front w long (stage.Identifier left) b r = absurd b
body_room bytes front w long stage.Packet b r = by r
  where
    by : InPackets bytes w.head (front ++ w.pixels) [] → IsInRoom w
    by r = in_room front w long r.room r.header.right
body_room bytes front w long (stage.Copies count) b r = by r
  where
    by : InCopies bytes w.head (front ++ w.pixels) count w.pixel → IsInRoom w
    by r = in_room front w long r.packets.room r.packets.header.right
body_room bytes front w long (stage.Pixels left) b r = by r
  where
    by : InPixels bytes w.head (front ++ w.pixels) left → IsInRoom w
    by r =
        in_room front w long r.room
        (⊎_elim (λ (p : InPacket bytes w.head (front ++ w.pixels) left). p.packets.header.right) (λ (p : InRaw bytes w.head (front ++ w.pixels) left). p.header.right) r.where_it_is)

given_room : (bytes given : List ℕ) (w : Work) → HasGivenTarga bytes given w → IsInRoom w
given_room bytes given w g = body_room bytes g.front w g.long w.stage g.body (subst (RepresentsTarga bytes) (sym g.stands) (stands bytes))

-- SOME BYTES, and more are needed

pub were_before : (old : Work) (bytes given : List ℕ) (g : HasGivenTarga bytes given old) → AreBefore g.front old
were_before old bytes given g = record { long = g.long; none = λ h. absurd (h g.body) }

same_standing : (front next : List ℕ) (w v : Work) (st : Stage) → v.head ≡ w.head → v.pixel ≡ w.pixel → next ++ v.pixels ≡ front ++ w.pixels → standing_of next st v ≡ standing_of front st w
same_standing front next w v (stage.Head n) h x p = ap (λ (l : List ℕ). (let s : TargaState = standing_of [] (stage.Head n) (record w { head = l }) in s)) h
same_standing front next w v (stage.Identifier left) h x p = ap (λ (l : List ℕ). (let s : TargaState = standing_of [] (stage.Identifier left) (record w { head = l }) in s)) h
same_standing front next w v stage.Packet h x p = ap (λ l. at_packet l (next ++ v.pixels)) h ∙ ap (at_packet w.head) p
same_standing front next w v (stage.Copies count) h x p =
    ap (λ l. in_copies l (next ++ v.pixels) count v.pixel) h ∙ ap (λ l. in_copies w.head l count v.pixel) p ∙ ap (in_copies w.head (front ++ w.pixels) count) x
same_standing front next w v (stage.Pixels left) h x p = ap (λ l. in_pixels l (next ++ v.pixels) left) h ∙ ap (λ l. in_pixels w.head l left) p

-- the whole pixels leave
first_given : (bytes given before made : List ℕ) (w v : Work) (count : ℕ) → HasGivenTarga bytes given w → count ≤ length w.pixels → IsWhole (targa_kind w.head) count → GivesFirst count w before v made
    → HasGivenTarga bytes (given ++ file_samples (targa_kind w.head) (take count w.pixels)) v
first_given bytes given before made w v count g inside some f =
    let part = take count w.pixels in
    let r = given_room bytes given w g in
    let room = r.room in
    let few = r.few in
    let long = length-take-le count w.pixels inside in
    let next = f.before_is (omega (arith, room, few, inside)) in
    record {
      front = g.front ++ part;
      long = length-append g.front part ∙ ap (λ n. n + length part) g.long ∙ ap (λ n. w.before + n) long ∙ sym next;
      whole = subst (λ h. IsWhole (targa_kind h) v.before) (sym f.head) (subst (IsWhole (targa_kind w.head)) (sym next) (both_whole (targa_kind w.head) w.before count g.whole some));
      body = subst IsBody (sym f.stage) g.body;
      top = ap is_from_top f.head ∙ g.top;
      stands =
          ap (λ st. standing_of (g.front ++ part) st v) f.stage
          ∙ same_standing g.front (g.front ++ part) w v w.stage f.head f.pixel (append_assoc g.front part v.pixels ∙ ap (λ x. g.front ++ (part ++ x)) f.rest ∙ ap (λ x. g.front ++ x) (take-append-drop count w.pixels))
          ∙ g.stands;
      given_is =
          ap (λ (x : List ℕ). x ++ file_samples (targa_kind w.head) part) g.given_is
          ∙ sym (samples_join (targa_kind w.head) g.front part (subst (IsWhole (targa_kind w.head)) (sym g.long) g.whole))
          ∙ ap (λ h. file_samples (targa_kind h) (g.front ++ part)) (sym f.head);
    }

-- the same samples, after some bytes
more_led : (old w : Work) (bytes part given : List ℕ) (g : HasGivenTarga bytes given old) → Stays old w → Reaches g.front (run (standing g.front old) part) answer.More w → HasGivenTarga (bytes ++ part) given w
more_led old w bytes part given g s r =
    let head = s.head g.body in
    record {
      front = g.front;
      long = g.long ∙ sym s.before;
      whole = subst (λ h. IsWhole (targa_kind h) w.before) (sym head) (subst (IsWhole (targa_kind old.head)) (sym s.before) g.whole);
      body = s.body g.body;
      top = ap is_from_top head ∙ g.top;
      stands = r ∙ ap (λ t. run t part) g.stands ∙ sym (run_join at_start bytes part);
      given_is = g.given_is ∙ ap (λ h. file_samples (targa_kind h) g.front) (sym head);
    }

standing_right : (front : List ℕ) (st : Stage) (w : Work) → ShowsNone (standing_of front st w)
standing_right front (stage.Head n) w = tt
standing_right front (stage.Identifier left) w = tt
standing_right front stage.Packet w = tt
standing_right front (stage.Copies count) w = tt
standing_right front (stage.Pixels left) w = tt

pub more_given : (old w v : Work) (bytes piece given before made : List ℕ) (used : ℕ) (a : Answer) (g : HasGivenTarga bytes given old) → Stays old w → Reaches g.front (run (standing g.front old) (take used piece)) answer.More w → GivesMore w before a v made
    → Appends before made (λ more. AfterGiven targa_samples_kind (bytes ++ take used piece) (bytes ++ piece) (given ++ more) a v)
more_given old w v bytes piece given before made used a g s r = by a
  where
    now : HasGivenTarga (bytes ++ take used piece) given w
    now = more_led old w bytes (take used piece) given g s r

    by : (a : Answer) → GivesMore w before a v made → Appends before made (λ more. AfterGiven targa_samples_kind (bytes ++ take used piece) (bytes ++ piece) (given ++ more) a v)
    by answer.More (count, inside, some, f) = (file_samples (targa_kind w.head) (take count w.pixels), f.given, first_given (bytes ++ take used piece) given before made w v count now inside some f)
    by answer.Whole m = absurd m
    by (answer.Fault fault) m = absurd m
    by answer.NoMemory (more, e) = (more, e, no_fault (bytes ++ take used piece) (subst ShowsNone now.stands (standing_right now.front w.stage w)))

-- SOME BYTES, and all pixels are there

last_samples : (old w : Work) (bytes given : List ℕ) (g : HasGivenTarga bytes given old) → Stays old w → total w.head ≤ w.before + length w.pixels
    → image_view g.front w ≡ image_by_parts (targa_info w.head) (given ++ file_samples (targa_kind w.head) (take (total w.head - w.before) w.pixels))
last_samples old w bytes given g s all =
    let head = s.head g.body in
    let kind = targa_kind w.head in
    let rest = take (total w.head - w.before) w.pixels in
    let room = (given_room bytes given old g).room in
    let long : length g.front ≡ w.before = g.long ∙ sym s.before in
    let l = held g.front w long in
    let before = s.before in
    let totals = ap total head in
    let n : length g.front + (total w.head - w.before) ≡ total w.head = omega (arith, long, room, before, totals) in
    let same : (targa_image w.head (g.front ++ w.pixels)).samples ≡ given ++ file_samples kind rest =
    image_samples w.head (g.front ++ w.pixels) (ap is_from_top head ∙ g.top) (omega (arith, l, all))
    ∙ ap (file_samples kind) (ap (λ k. take k (g.front ++ w.pixels)) (sym n) ∙ take-append-add g.front w.pixels (total w.head - w.before))
    ∙ samples_join kind g.front rest (subst (IsWhole kind) (sym g.long) (subst (λ h. IsWhole (targa_kind h) old.before) (sym head) g.whole))
    ∙ ap (λ (x : List ℕ). x ++ file_samples kind rest) (ap (λ h. file_samples (targa_kind h) g.front) head ∙ sym g.given_is)
    in
    ap (image_by_parts (targa_info w.head)) same

pub last_given : (old w v : Work) (bytes piece given before made : List ℕ) (used : ℕ) (a : Answer) (g : HasGivenTarga bytes given old) → used ≤ length piece → Stays old w → HasAll answer.Whole w
    → Reaches g.front (run (standing g.front old) (take used piece)) answer.Whole w → GivesLast w before a v made → Appends before made (λ more. AfterGiven targa_samples_kind (bytes ++ take used piece) (bytes ++ piece) (given ++ more) a v)
last_given old w v bytes piece given before made used a g few s all r = by a
  where
    now : run at_start (bytes ++ take used piece) ≡ whole (image_view g.front w)
    now = run_join at_start bytes (take used piece) ∙ ap (λ t. run t (take used piece)) (sym g.stands) ∙ r

    is : targa_samples_kind.reads.means (bytes ++ piece) (image_view g.front w)
    is = image_taken bytes piece used (image_view g.front w) few now

    by : (a : Answer) → GivesLast w before a v made → Appends before made (λ more. AfterGiven targa_samples_kind (bytes ++ take used piece) (bytes ++ piece) (given ++ more) a v)
    by answer.More m = absurd m
    by answer.Whole (m, head) =
        let rest = file_samples (targa_kind w.head) (take (total w.head - w.before) w.pixels) in
        let image = last_samples old w bytes given g s all ∙ ap (λ h. image_by_parts (targa_info h) (given ++ rest)) (sym head) in (
          rest,
          m,
          (
            subst (targa_samples_kind.reads.means (bytes ++ piece)) image is,
            no_fault (bytes ++ take used piece) (whole_right (run at_start (bytes ++ take used piece)) (image_view g.front w) now),
          ),
        )
    by (answer.Fault fault) m = absurd m
    by answer.NoMemory (more, e) = (more, e, no_fault (bytes ++ take used piece) (whole_right (run at_start (bytes ++ take used piece)) (image_view g.front w) now))

-- SOME BYTES, and nothing is given

pub fault_given : (old w : Work) (bytes piece given before : List ℕ) (used : ℕ) (fault : Fault) (g : HasGivenTarga bytes given old) → used ≤ length piece → Reaches g.front (run (standing g.front old) (take used piece)) (answer.Fault fault) w
    → Appends before before (λ more. AfterGiven targa_samples_kind (bytes ++ take used piece) (bytes ++ piece) (given ++ more) (answer.Fault fault) w)
fault_given old w bytes piece given before used fault g few r =
    ([], sym (append-nil before), fault_taken bytes piece used fault few (run_join at_start bytes (take used piece) ∙ ap (λ t. run t (take used piece)) (sym g.stands) ∙ r))

pub none_given : (old w : Work) (bytes piece given before : List ℕ) (used : ℕ) (g : HasGivenTarga bytes given old) → Reaches g.front (run (standing g.front old) (take used piece)) answer.NoMemory w
    → Appends before before (λ more. AfterGiven targa_samples_kind (bytes ++ take used piece) (bytes ++ piece) (given ++ more) answer.NoMemory w)
none_given old w bytes piece given before used g r =
    ([], sym (append-nil before), no_fault (bytes ++ take used piece) (subst ShowsNone (ap (λ t. run t (take used piece)) g.stands ∙ sym (run_join at_start bytes (take used piece))) r))
