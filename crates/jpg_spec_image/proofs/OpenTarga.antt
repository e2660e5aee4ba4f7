-- The bytes of a Targa file that has no image and no fault yet are few.
use Rattle.std.proofs.Common.{◌≡◌, ℕ, suc, ◌+◌, ◌-◌, ◌*◌, ◌<◌, ◌≤◌, true, ◌&&◌, ◌==◌, List, [], ◌∷◌, ◌++◌, length, ap, ◌∙◌, arith, inl, inr, None}
use Rattle.std.specs.Prelude.{◌⊎◌, flat_map, nat_le, slice_index, All}
use Rattle.std.proofs.lemmas.List.{append_assoc, length-append, get_or_append_left}
use Rattle.std.proofs.lemmas.List.Elements.{All-get_or}
use Rattle.std.proofs.lemmas.Nat.{mul-le}
use Rattle.jpg_spec.specs.Lists.{all_of, below}
use Rattle.jpg_spec.proofs.Basics.Common.{both, le_of, same_of, length_below}
use Rattle.jpg_spec_image.specs.Images.{sample_count}
use Rattle.jpg_spec_image.specs.TargaFile.{Packet, copies, pixels, identifier_length, pixel_size, targa_kind, targa_width, targa_height, targa_fault, is_packet, packet_text, packet_bytes, IsTargaFront}
use Rattle.jpg_spec_image.specs.TargaFaults.{IsOpenTarga}
use Rattle.jpg_spec_image.specs.TargaSteps.{TargaState, in_head, in_identifier, at_packet, in_copies, in_pixels, whole, failed, past, lost, at_start, total, size, run}
use Rattle.jpg_spec_image.specs.TargaReading.{RepresentsTarga, InPackets, InPacket, InRaw}
use Rattle.jpg_spec_image.proofs.TargaRuns.{right_header, size_some}
use Rattle.jpg_spec_image.proofs.TargaStands.{stands}
use Rattle.jpg_spec_image.proofs.TargaJudged.{IsLive}
use Rattle.jpg_spec_image.proofs.OneTarga.{open_live}
use Rattle.jpg_spec_image.specs.declared.image.ImageKind.{ImageKind}
use Rattle.jpg_spec_image.specs.declared.image.ImageKind.TheVariants.{Gray, Rgb}

-- HOW MANY BYTES an image's pixels have

three_each : (kind : ImageKind) (w h : ℕ) → w * h ≤ 268435456 → sample_count (record { width = w; height = h; kind = kind; x_metre = 0; y_metre = 0 }) ≤ 805306368
three_each Gray w h few = let e = swapped w h in omega (arith, e, few)
  where
    swapped : (w h : ℕ) → h * w ≡ w * h
    swapped w h = omega arith
three_each Rgb w h few = let e = thrice w h in omega (arith, e, few)
  where
    thrice : (w h : ℕ) → h * (3 * w) ≡ 3 * (w * h)
    thrice w h = omega arith

total_few : (head : List ℕ) → targa_fault head ≡ None → total head ≤ 805306368
total_few head e = let r = right_header head e in three_each (targa_kind head) (targa_width head) (targa_height head) (le_of (targa_width head * targa_height head) 268435456 r.few)

three_at_most : (kind : ImageKind) → pixel_size kind ≤ 3
three_at_most Gray = omega arith
three_at_most Rgb = omega arith

size_few : (head : List ℕ) → size head ≤ 3
size_few head = three_at_most (targa_kind head)

-- A FRONT, AND PACKETS

byte_of : (bytes : List ℕ) → All (λ b. b < 256) bytes → (head part : List ℕ) → bytes ≡ head ++ part → length head ≡ 18 → identifier_length head < 256
byte_of bytes all head part cut long =
    let l = ap length cut ∙ length-append head part in
    let e : slice_index bytes 0 ≡ slice_index head 0 = ap (λ (x : List ℕ). slice_index x 0) cut ∙ get_or_append_left head part 0 0 (omega (arith, long)) in
    let h = All-get_or (λ b. b < 256) bytes 0 0 (omega (arith, l, long)) all in
    omega (arith, e, h)

front_few : (bytes head front part : List ℕ) → All (λ b. b < 256) bytes → IsTargaFront head front → bytes ≡ front ++ part → length front < 274
front_few bytes head front part all f cut =
    let l = ap length f.cut ∙ length-append head f.identifier in
    let long = f.long in
    let same = f.identifier_long in
    let h = byte_of bytes all head (f.identifier ++ part) (cut ∙ ap (λ x. x ++ part) f.cut ∙ append_assoc head f.identifier part) f.long in
    omega (arith, l, long, same, h)

-- copies of a list
copies_long : (pixel : List ℕ) (ns : List ℕ) → length (flat_map (λ n. pixel) ns) ≡ length ns * length pixel
copies_long pixel [] = omega arith
copies_long pixel (n ∷ ns) =
    let l = length-append pixel (flat_map (λ n. pixel) ns) in
    let e = copies_long pixel ns in
    let m = more (length ns) (length pixel) in
    omega (arith, l, e, m)
  where
    more : (k n : ℕ) → suc k * n ≡ k * n + n
    more k n = omega arith

packet_few : (head : List ℕ) (p : Packet) → is_packet (size head) p ≡ true → length (packet_text p) ≤ 2 * length (packet_bytes p)
packet_few head (copies count pixel) e =
    let s = both (nat_le 1 count && nat_le count 128) (length pixel == size head) e in
    let t = both (nat_le 1 count) (nat_le count 128) s.0 in
    let some = size_some head in
    let long = same_of (length pixel) (size head) s.1 in
    let l = copies_long pixel (below count) in
    let c = length_below count in
    let k = mul-le 1 (length pixel) count (length pixel) (le_of 1 count t.0) (omega arith) in
    let all : length (packet_bytes (copies count pixel)) ≡ count * length pixel = l ∙ ap (λ n. n * length pixel) c in
    omega (arith, some, long, all, k)
packet_few head (pixels count bytes) e =
    let s = both (nat_le 1 count && nat_le count 128) (length bytes == count * size head) e in
    let t = both (nat_le 1 count) (nat_le count 128) s.0 in
    let some = size_some head in
    let long = same_of (length bytes) (count * size head) s.1 in
    let k = mul-le 1 1 count (size head) (le_of 1 count t.0) some in
    omega (arith, long, k)

packets_few : (head : List ℕ) (packets : List Packet) → all_of (is_packet (size head)) packets ≡ true → length (flat_map packet_text packets) ≤ 2 * length (flat_map packet_bytes packets)
packets_few head [] e = omega arith
packets_few head (p ∷ packets) e =
    let s = both (is_packet (size head) p) (all_of (is_packet (size head)) packets) e in
    let a = length-append (packet_text p) (flat_map packet_text packets) in
    let b = length-append (packet_bytes p) (flat_map packet_bytes packets) in
    let x = packet_few head p s.0 in
    let y = packets_few head packets s.1 in
    omega (arith, a, b, x, y)

some_packets : (bytes head done part : List ℕ) → All (λ b. b < 256) bytes → InPackets bytes head done part → length bytes < 1610613010 + length part
some_packets bytes head done part all i =
    let f = front_few bytes head i.front (flat_map packet_text i.packets ++ part) all i.header i.cut in
    let l = ap length i.cut ∙ length-append i.front (flat_map packet_text i.packets ++ part) in
    let m = length-append (flat_map packet_text i.packets) part in
    let p = packets_few head i.packets i.formed in
    let d = ap length i.same in
    let r = i.room in
    let t = total_few head i.header.right in
    omega (arith, f, l, m, p, d, r, t)

-- BY THE STATE

pixels_few : (bytes head done : List ℕ) (left : ℕ) → All (λ b. b < 256) bytes → InPacket bytes head done left ⊎ InRaw bytes head done left → length bytes < 2147483648
pixels_few bytes head done left all (inl i) =
    let l = some_packets bytes head i.before ((i.count - 1) ∷ i.part) all i.packets in
    let long = i.long in
    let m = mul-le i.count (size head) 128 3 i.few (size_few head) in
    omega (arith, l, long, m)
pixels_few bytes head done left all (inr r) =
    let f = front_few bytes head r.front done all r.header r.cut in
    let l = ap length r.cut ∙ length-append r.front done in
    let long = r.long in
    let t = total_few head r.header.right in
    omega (arith, f, l, long, t)

state_few : (bytes : List ℕ) (s : TargaState) → All (λ b. b < 256) bytes → RepresentsTarga bytes s → IsLive s → length bytes < 2147483648
state_few bytes (in_head head) all (e, short) l = let k = ap length e in omega (arith, k, short)
state_few bytes (in_identifier head left) all i l =
    let k = ap length i.cut ∙ length-append head i.part in
    let long = i.long in
    let same = i.identifier_long in
    let h = byte_of bytes all head i.part i.cut i.long in
    omega (arith, k, long, same, h)
state_few bytes (at_packet head done) all i l = let k = some_packets bytes head done [] all i in omega (arith, k)
state_few bytes (in_copies head done count pixel) all i l =
    let k = some_packets bytes head done ((127 + count) ∷ pixel) all i.packets in
    let u = i.unfinished in
    let m = size_few head in
    omega (arith, k, u, m)
state_few bytes (in_pixels head done left) all i l = pixels_few bytes head done left all i.where_it_is
state_few bytes (whole image) all i l = absurd l
state_few bytes (failed fault) all i l = absurd l
state_few bytes past all i l = absurd l
state_few bytes lost all (n, h, big) l = let k = All-get_or (λ b. b < 256) bytes n 0 h all in absurd (omega (arith, k, big))

pub open_few : (bytes : List ℕ) → All (λ b. b < 256) bytes → IsOpenTarga bytes → length bytes < 2147483648
open_few bytes all q = state_few bytes (run at_start bytes) all (stands bytes) (open_live bytes (run at_start bytes) (stands bytes) q)
