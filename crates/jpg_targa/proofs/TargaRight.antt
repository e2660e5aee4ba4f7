-- The numbers of an image in a Targa file are within bounds, and it has as many samples as they say, all bytes.
use Rattle.std.proofs.Common.{◌≡◌, ℕ, zero, suc, ◌+◌, ◌-◌, ◌*◌, ◌<◌, ◌≤◌, Bool, true, false, cond, List, [], ◌∷◌, ◌++◌, length, take, drop, flat_map, sym, ap, ◌∙◌, subst, arith, None}
use Rattle.std.proofs.lemmas.List.{append-nil, length-append, length-drop, length-take-le}
use Rattle.std.proofs.lemmas.List.Elements.{All-nil, All-tail, All-append, All-take, All-drop}
use Rattle.std.proofs.lemmas.List.Concat.{flat_map-append}
use Rattle.std.proofs.Math.Seq.{take-append-add}
use Rattle.std.proofs.lemmas.Nat.{mul-le}
use Rattle.jpg_spec.specs.Lists.{below}
use Rattle.jpg_spec_image.specs.Images.{Image}
use Rattle.jpg_spec_image.specs.ImageText.{row_bytes, file_samples}
use Rattle.jpg_spec_image.specs.TargaFile.{Packet, copies, pixels, is_packed, is_from_top, targa_kind, targa_height, targa_info, targa_fault, targa_row, targa_image, packet_text, packet_bytes, last_text, IsPackedBody, IsBodyOf}
use Rattle.jpg_spec_image.specs.TargaFaults.{IsWholeTarga, TargaMeans}
use Rattle.jpg_spec_image.specs.TargaSteps.{total, size}
use Rattle.jpg_spec_image.proofs.TargaRuns.{right_header, one_more}
use Rattle.jpg_spec_image.proofs.TargaText.{samples_long}
use Rattle.jpg_spec_image.specs.declared.image.ImageKind.{ImageKind}
use Rattle.jpg_spec_image.specs.declared.image.ImageKind.TheVariants.{Gray, Rgb}
use Rattle.jpg_pnm_bmp.specs.Made.{AreBytes, IsRightImage}
use Rattle.jpg_pnm_bmp.proofs.ImageBytes.{front_bytes, rest_bytes, flat_bytes, turned_bytes}
use Rattle.jpg_pnm_bmp.proofs.ImageRight.{right_image}

-- THE BYTES OF PIXELS are as many as they should be, and bytes

record ArePixels (head bytes : List ℕ) : Type 0 where
  long : length bytes ≡ total head
  all : AreBytes bytes

packet_right : (p : Packet) → AreBytes (packet_text p) → AreBytes (packet_bytes p)
packet_right (copies count pixel) h = flat_bytes (λ n. pixel) (below count) (λ n. All-tail (λ b. b < 256) (127 + count) pixel h)
packet_right (pixels count bytes) h = All-tail (λ b. b < 256) (count - 1) bytes h

packets_right : (packets : List Packet) → AreBytes (flat_map packet_text packets) → AreBytes (flat_map packet_bytes packets)
packets_right [] h = All-nil (λ b. b < 256)
packets_right (p ∷ packets) h =
    All-append (λ b. b < 256) (packet_bytes p) (flat_map packet_bytes packets) (packet_right p (front_bytes (packet_text p) (flat_map packet_text packets) h))
    (packets_right packets (rest_bytes (packet_text p) (flat_map packet_text packets) h))

-- up to the end in the last packet
last_right : (end : ℕ) (done : List ℕ) (p : Packet) → length done < end → AreBytes done → AreBytes (last_text (end - length done) p) → AreBytes (take end (done ++ packet_bytes p))
last_right end done (copies count pixel) room d h =
    All-take (λ b. b < 256) end (done ++ packet_bytes (copies count pixel)) (All-append (λ b. b < 256) done (packet_bytes (copies count pixel)) d (packet_right (copies count pixel) h))
last_right end done (pixels count bytes) room d h =
    let missing = end - length done in
    let n : length done + missing ≡ end = omega (arith, room) in
    let text = All-tail (λ b. b < 256) (count - 1) (take missing bytes) (subst AreBytes (one_more missing (count - 1) bytes) h) in
    subst AreBytes (sym (take-append-add done bytes missing) ∙ ap (λ k. take k (done ++ bytes)) n) (All-append (λ b. b < 256) done (take missing bytes) d text)

packed_right : (head body bytes : List ℕ) → IsPackedBody (size head) (total head) body bytes → AreBytes body → ArePixels head bytes
packed_right head body bytes b all =
    let done = flat_map packet_bytes b.packets in
    let text = subst AreBytes b.cut all in
    let first = packets_right b.packets (front_bytes (flat_map packet_text b.packets) (last_text (total head - length done) b.last) text) in
    let last = rest_bytes (flat_map packet_text b.packets) (last_text (total head - length done) b.last) text in
    record {
      long = ap length b.same ∙ length-take-le (total head) (done ++ packet_bytes b.last) b.enough;
      all = subst AreBytes (sym b.same) (last_right (total head) done b.last b.unfinished first last);
    }

body_right : (v : Bool) (head body bytes : List ℕ) → IsBodyOf v (size head) (total head) body bytes → AreBytes body → ArePixels head bytes
body_right true head body bytes b all = packed_right head body bytes b all
body_right false head body bytes (same, long) all = record { long = ap length same ∙ long; all = subst AreBytes (sym same) all }

-- ROWS

rows_long : (f : ℕ → List ℕ) (n h : ℕ) → ((y : ℕ) → y < h → length (f y) ≡ n) → (k : ℕ) → k ≤ h → length (flat_map f (below k)) ≡ k * n
rows_long f n h all zero l = omega arith
rows_long f n h all (suc k) l =
    let a = ap length (flat_map-append f (below k) (k ∷ [])) ∙ length-append (flat_map f (below k)) (f k ++ []) in
    let b = ap length (append-nil (f k)) ∙ all k (omega (arith, l)) in
    let c = rows_long f n h all k (omega (arith, l)) in
    let m = more k n in
    omega (arith, a, b, c, m)
  where
    more : (k n : ℕ) → suc k * n ≡ k * n + n
    more k n = omega arith

line_long : (line at h : ℕ) (bytes : List ℕ) → length bytes ≡ h * line → at + 1 ≤ h → length (take line (drop (line * at) bytes)) ≡ line
line_long line at h bytes long l =
    let d = length-drop (line * at) bytes in
    let m = mul-le (at + 1) line h line l (omega arith) in
    let n = more at line in
    length-take-le line (drop (line * at) bytes) (omega (arith, d, m, n, long))
  where
    more : (k n : ℕ) → (k + 1) * n ≡ n * k + n
    more k n = omega arith

row_long : (head bytes : List ℕ) (y : ℕ) → length bytes ≡ total head → y < targa_height head → length (targa_row head bytes y) ≡ row_bytes (targa_info head)
row_long head bytes y long h = line_long (row_bytes (targa_info head)) (cond (is_from_top head) y (targa_height head - 1 - y)) (targa_height head) bytes long (by (is_from_top head))
  where
    by : (v : Bool) → cond v y (targa_height head - 1 - y) + 1 ≤ targa_height head
    by true = omega (arith, h)
    by false = omega (arith, h)

kind_bytes : (kind : ImageKind) (row : List ℕ) → AreBytes row → AreBytes (file_samples kind row)
kind_bytes Gray row h = h
kind_bytes Rgb row h = turned_bytes row h

row_right : (head bytes : List ℕ) (y : ℕ) → AreBytes bytes → AreBytes (file_samples (targa_kind head) (targa_row head bytes y))
row_right head bytes y all =
    let at = cond (is_from_top head) y (targa_height head - 1 - y) in
    let line = row_bytes (targa_info head) in
    kind_bytes (targa_kind head) (targa_row head bytes y) (All-take (λ b. b < 256) line (drop (line * at) bytes) (All-drop (λ b. b < 256) (line * at) bytes all))

-- THE IMAGE

pixels_right : (head bytes : List ℕ) → targa_fault head ≡ None → ArePixels head bytes → IsRightImage (targa_image head bytes)
pixels_right head bytes none p =
    let r = right_header head none in
    let row : ℕ → List ℕ = λ y. file_samples (targa_kind head) (targa_row head bytes y) in
    let h = targa_height head in
    right_image (targa_image head bytes) (record { wide = r.wide; high = r.high; few = r.few })
    (rows_long row (row_bytes (targa_info head)) h (λ y l. samples_long (targa_kind head) (targa_row head bytes y) ∙ row_long head bytes y p.long l) h (omega arith))
    (flat_bytes row (below h) (λ y. row_right head bytes y p.all))

whole_right : (bytes : List ℕ) (image : Image) → IsWholeTarga bytes image → AreBytes bytes → IsRightImage image
whole_right bytes image w all =
    let body = rest_bytes w.front w.body (subst AreBytes w.cut all) in
    subst IsRightImage (sym w.same) (pixels_right w.head w.pixels w.header.right (body_right (is_packed w.head) w.head w.body w.pixels w.all body))

pub targa_right : (bytes : List ℕ) (image : Image) → TargaMeans bytes image → AreBytes bytes → IsRightImage image
targa_right bytes image (n, h, w) all = whole_right (take n bytes) image w (All-take (λ b. b < 256) n bytes all)
