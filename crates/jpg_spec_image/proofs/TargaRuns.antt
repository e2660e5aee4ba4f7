-- Reading a Targa file that is complete, or has a fault, gives its image, or the fault.
use Rattle.std.proofs.Common.{◌≡◌, ℕ, suc, ◌+◌, ◌-◌, ◌*◌, ◌<◌, ◌≤◌, Bool, true, false, cond, ◌&&◌, ◌==◌, List, [], ◌∷◌, ◌++◌, length, take, refl, sym, ap, ◌∙◌, subst, arith, None, Some}
use Rattle.std.specs.Prelude.{flat_map, nat_lt, nat_le}
use Rattle.std.proofs.lemmas.Bool.Decides.{nat_tests}
use Rattle.std.proofs.lemmas.List.{append_assoc, append-nil, length-append, length-take-le, take_all}
use Rattle.std.proofs.Math.Seq.{take-append-add}
use Rattle.jpg_spec.specs.Lists.{all_of}
use Rattle.jpg_spec.proofs.Basics.Common.{both, le_of, lt_yes, lt_no, same_of, zero_is}
use Rattle.jpg_spec_image.specs.Images.{Image, is_side, are_few_pixels}
use Rattle.jpg_spec_image.specs.TargaFile.{Packet, copies, pixels, identifier_length, is_packed, pixel_size, targa_kind, targa_width, targa_height, targa_fault, targa_image, is_left_out_targa, has_targa_sides, is_packet, packet_text, packet_bytes, last_text, IsPackedBody, IsBodyOf, IsTargaBody, IsTargaFront}
use Rattle.jpg_spec_image.specs.TargaFaults.{IsWholeTarga, ShowsTargaFault}
use Rattle.jpg_spec_image.specs.TargaSteps.{TargaState, in_head, in_identifier, at_packet, in_copies, in_pixels, whole, failed, lost, at_start, fault_or, total, size, grown, body_begun, identifier_left, packet_byte, with_copies, copied, copies_so_far, pixels_so_far, step, run}
use Rattle.jpg_spec_image.proofs.ImageBodyRuns.{side_some, take_in_row}
use Rattle.jpg_spec.specs.declared.fault.Fault.{Fault}
use Rattle.jpg_spec.specs.declared.fault.Fault.TheVariants.{ImageHeader, ImageUnsupported}
use Rattle.jpg_spec_image.specs.declared.image.ImageKind.{ImageKind}
use Rattle.jpg_spec_image.specs.declared.image.ImageKind.TheVariants.{Gray, Rgb}
use Rattle.jpg_spec.proofs.Places.PlacesSome.{product_some}

pub run_join : (s : TargaState) (xs ys : List ℕ) → run s (xs ++ ys) ≡ run (run s xs) ys
unfolding run
run_join s [] ys = refl
run_join s (x ∷ xs) ys = run_join (step s x) xs ys

-- A HEADER with which nothing is wrong

pub record RightHeader (head : List ℕ) : Type 0 where
  pub read : is_left_out_targa head ≡ false
  pub wide : is_side (targa_width head) ≡ true
  pub high : is_side (targa_height head) ≡ true
  pub few : are_few_pixels (targa_width head) (targa_height head) ≡ true

pub right_header : (head : List ℕ) → targa_fault head ≡ None → RightHeader head
right_header head e = by (is_left_out_targa head) (has_targa_sides head) refl refl e
  where
    by : (u v : Bool) → is_left_out_targa head ≡ u → has_targa_sides head ≡ v → cond u (Some ImageUnsupported) (cond v None (Some ImageHeader)) ≡ None → RightHeader head
    by true v p q e = cc
    by false true p q e =
        let a = both (is_side (targa_width head) && is_side (targa_height head)) (are_few_pixels (targa_width head) (targa_height head)) q in
        let b = both (is_side (targa_width head)) (is_side (targa_height head)) a.0 in
        record { read = p; wide = b.0; high = b.1; few = a.1 }
    by false false p q e = cc

-- its pixels have some bytes
pub total_some : (head : List ℕ) → targa_fault head ≡ None → 1 ≤ total head
total_some head e =
    let r = right_header head e in
    take_in_row (targa_kind head) (targa_width head) (targa_height head) (side_some (targa_width head) r.wide) (side_some (targa_height head) r.high)

kind_some : (kind : ImageKind) → 1 ≤ pixel_size kind
kind_some Gray = omega arith
kind_some Rgb = omega arith

pub size_some : (head : List ℕ) → 1 ≤ size head
size_some head = kind_some (targa_kind head)

-- THE STATE after some bytes of pixels

pub grown_on : (head bytes : List ℕ) (s : TargaState) → length bytes < total head → grown head bytes s ≡ s
grown_on head bytes s h = ap (λ (v : Bool). cond v s (whole (targa_image head bytes))) (lt_yes (length bytes) (total head) h)

pub grown_whole : (head bytes : List ℕ) (s : TargaState) → total head ≤ length bytes → grown head bytes s ≡ whole (targa_image head bytes)
grown_whole head bytes s h = ap (λ (v : Bool). cond v s (whole (targa_image head bytes))) (lt_no (length bytes) (total head) h)

is_some : (n : ℕ) → 0 < n → (n == 0) ≡ false
is_some n h = grind (arith, nat_tests)

pub pixels_on : (head bytes : List ℕ) (left : ℕ) → length bytes < total head → 0 < left → pixels_so_far head bytes left ≡ in_pixels head bytes left
pixels_on head bytes left h some =
    grown_on head bytes (cond (left == 0) (at_packet head bytes) (in_pixels head bytes left)) h
    ∙ ap (λ (v : Bool). cond v (at_packet head bytes) (in_pixels head bytes left)) (is_some left some)

pub pixels_end : (head bytes : List ℕ) (left : ℕ) → length bytes < total head → left ≡ 0 → pixels_so_far head bytes left ≡ at_packet head bytes
pixels_end head bytes left h none =
    grown_on head bytes (cond (left == 0) (at_packet head bytes) (in_pixels head bytes left)) h
    ∙ ap (λ (v : Bool). cond v (at_packet head bytes) (in_pixels head bytes left)) (zero_is left none)

-- THE 18 BYTES, AND THE IDENTIFIER

abbrev pub headed : List ℕ → TargaState
headed head = fault_or (targa_fault head) (identifier_left head (identifier_length head))

pub head_run : (head more : List ℕ) → 1 ≤ length more → length (head ++ more) ≡ 18 → run (in_head head) more ≡ headed (head ++ more)
unfolding run
head_run head [] some h = absurd (omega (arith, some))
head_run head (b ∷ []) some h = ap (λ (v : Bool). cond v (in_head (head ++ b ∷ [])) (headed (head ++ b ∷ []))) (lt_no (length (head ++ b ∷ [])) 18 (omega (arith, h)))
head_run head (b ∷ c ∷ more) some h =
    let l1 = length-append head (b ∷ c ∷ more) in
    let l2 = length-append head (b ∷ []) in
    let j : (head ++ b ∷ []) ++ c ∷ more ≡ head ++ b ∷ c ∷ more = append_assoc head (b ∷ []) (c ∷ more) in
    ap (λ x. run x (c ∷ more)) (ap (λ (v : Bool). cond v (in_head (head ++ b ∷ [])) (headed (head ++ b ∷ []))) (lt_yes (length (head ++ b ∷ [])) 18 (omega (arith, l1, l2, h))))
    ∙ head_run (head ++ b ∷ []) (c ∷ more) (omega arith) (ap length j ∙ h)
    ∙ ap headed j

pub identifier_on : (head : List ℕ) (left : ℕ) → 0 < left → identifier_left head left ≡ in_identifier head left
identifier_on head left h = ap (λ (v : Bool). cond v (body_begun head) (in_identifier head left)) (is_some left h)

pub identifier_end : (head : List ℕ) (left : ℕ) → left ≡ 0 → identifier_left head left ≡ body_begun head
identifier_end head left e = ap (λ (v : Bool). cond v (body_begun head) (in_identifier head left)) (zero_is left e)

pub identifier_run : (head more : List ℕ) (left : ℕ) → length more ≤ left → run (identifier_left head left) more ≡ identifier_left head (left - length more)
unfolding run
identifier_run head [] left h = ap (identifier_left head) (omega arith)
identifier_run head (b ∷ more) left h =
    let e : left - 1 - length more ≡ left - length (b ∷ more) = omega arith in
    ap (λ s. run (step s b) more) (identifier_on head left (omega (arith, h)))
    ∙ identifier_run head more (left - 1) (omega (arith, h))
    ∙ ap (identifier_left head) e

pub front_run : (head front : List ℕ) → IsTargaFront head front → run at_start front ≡ body_begun head
front_run head front f =
    let long = f.long in
    let same = f.identifier_long in
    ap (run at_start) f.cut
    ∙ run_join at_start head f.identifier
    ∙ ap (λ s. run s f.identifier) (head_run [] head (omega (arith, long)) f.long ∙ ap (λ o. fault_or o (identifier_left head (identifier_length head))) f.right)
    ∙ identifier_run head f.identifier (identifier_length head) (omega (arith, same))
    ∙ identifier_end head (identifier_length head - length f.identifier) (omega (arith, same))

-- BYTES OF PIXELS

pub pixels_run : (head bytes more : List ℕ) (left : ℕ) → 1 ≤ length more → length more ≤ left → length (bytes ++ more) ≤ total head
    → run (in_pixels head bytes left) more ≡ pixels_so_far head (bytes ++ more) (left - length more)
unfolding run
pixels_run head bytes [] left some h few = absurd (omega (arith, some))
pixels_run head bytes (b ∷ []) left some h few = refl
pixels_run head bytes (b ∷ c ∷ more) left some h few =
    let l1 = length-append bytes (b ∷ c ∷ more) in
    let l2 = length-append bytes (b ∷ []) in
    let j : (bytes ++ b ∷ []) ++ c ∷ more ≡ bytes ++ b ∷ c ∷ more = append_assoc bytes (b ∷ []) (c ∷ more) in
    let e : left - 1 - length (c ∷ more) ≡ left - length (b ∷ c ∷ more) = omega arith in
    ap (λ x. run x (c ∷ more)) (pixels_on head (bytes ++ b ∷ []) (left - 1) (omega (arith, l1, l2, few)) (omega (arith, h)))
    ∙ pixels_run head (bytes ++ b ∷ []) (c ∷ more) (left - 1) (omega arith) (omega (arith, h)) (subst (λ x. length x ≤ total head) (sym j) few)
    ∙ ap (λ x. pixels_so_far head x (left - 1 - length (c ∷ more))) j
    ∙ ap (pixels_so_far head (bytes ++ b ∷ c ∷ more)) e

-- A PIXEL TO BE COPIED

pub copies_run : (head bytes : List ℕ) (count : ℕ) (pixel more : List ℕ) → 1 ≤ length more → length (pixel ++ more) ≤ size head
    → run (in_copies head bytes count pixel) more ≡ copies_so_far head bytes count (pixel ++ more)
unfolding run
copies_run head bytes count pixel [] some h = absurd (omega (arith, some))
copies_run head bytes count pixel (b ∷ []) some h = refl
copies_run head bytes count pixel (b ∷ c ∷ more) some h =
    let l1 = length-append pixel (b ∷ c ∷ more) in
    let l2 = length-append pixel (b ∷ []) in
    let j : (pixel ++ b ∷ []) ++ c ∷ more ≡ pixel ++ b ∷ c ∷ more = append_assoc pixel (b ∷ []) (c ∷ more) in
    ap (λ x. run x (c ∷ more)) (copies_on head bytes count (pixel ++ b ∷ []) (omega (arith, l1, l2, h)))
    ∙ copies_run head bytes count (pixel ++ b ∷ []) (c ∷ more) (omega arith) (subst (λ x. length x ≤ size head) (sym j) h)
    ∙ ap (copies_so_far head bytes count) j
  where
    copies_on : (head bytes : List ℕ) (count : ℕ) (pixel : List ℕ) → length pixel < size head → copies_so_far head bytes count pixel ≡ in_copies head bytes count pixel
    copies_on head bytes count pixel h = ap (λ (v : Bool). cond v (in_copies head bytes count pixel) (copied head (with_copies head bytes count pixel))) (lt_yes (length pixel) (size head) h)

pub copies_end : (head bytes : List ℕ) (count : ℕ) (pixel : List ℕ) → size head ≤ length pixel → copies_so_far head bytes count pixel ≡ copied head (with_copies head bytes count pixel)
copies_end head bytes count pixel h = ap (λ (v : Bool). cond v (in_copies head bytes count pixel) (copied head (with_copies head bytes count pixel))) (lt_no (length pixel) (size head) h)

-- PACKETS

-- what is known of a packet's count and bytes
pub record HasCount (count : ℕ) : Type 0 where
  pub some : 1 ≤ count
  pub few : count ≤ 128

counted : (count long n : ℕ) → ((nat_le 1 count && nat_le count 128) && long == n) ≡ true → HasCount count × (long ≡ n)
counted count long n e =
    let s = both (nat_le 1 count && nat_le count 128) (long == n) e in
    let t = both (nat_le 1 count) (nat_le count 128) s.0 in
    (record { some = le_of 1 count t.0; few = le_of count 128 t.1 }, same_of long n s.1)

pub copies_begin : (head bytes : List ℕ) (count : ℕ) → HasCount count → packet_byte head bytes (127 + count) ≡ in_copies head bytes count []
copies_begin head bytes count c =
    let some = c.some in
    let few = c.few in
    let e : 127 + count - 127 ≡ count = omega arith in
    ap (λ (v : Bool). cond v (in_pixels head bytes ((127 + count + 1) * size head)) (cond (nat_lt (127 + count) 256) (in_copies head bytes (127 + count - 127) []) lost)) (lt_no (127 + count) 128 (omega (arith, some)))
    ∙ ap (λ (v : Bool). cond v (in_copies head bytes (127 + count - 127) []) lost) (lt_yes (127 + count) 256 (omega (arith, few)))
    ∙ ap (λ n. in_copies head bytes n []) e

pub pixels_begin : (head bytes : List ℕ) (count : ℕ) → HasCount count → packet_byte head bytes (count - 1) ≡ in_pixels head bytes (count * size head)
pixels_begin head bytes count c =
    let some = c.some in
    let few = c.few in
    let e : count - 1 + 1 ≡ count = omega (arith, some) in
    ap (λ (v : Bool). cond v (in_pixels head bytes ((count - 1 + 1) * size head)) (cond (nat_lt (count - 1) 256) (in_copies head bytes (count - 1 - 127) []) lost)) (lt_yes (count - 1) 128 (omega (arith, few)))
    ∙ ap (λ n. in_pixels head bytes (n * size head)) e

copies_all : (head bytes : List ℕ) (count : ℕ) (pixel : List ℕ) → HasCount count → length pixel ≡ size head
    → run (at_packet head bytes) (packet_text (copies count pixel)) ≡ copied head (take (total head) (bytes ++ packet_bytes (copies count pixel)))
unfolding run
copies_all head bytes count pixel c long =
    let some = size_some head in
    ap (λ s. run s pixel) (copies_begin head bytes count c)
    ∙ copies_run head bytes count [] pixel (omega (arith, some, long)) (omega (arith, long))
    ∙ copies_end head bytes count pixel (omega (arith, long))

-- some pixels of a packet
pixels_all : (head bytes : List ℕ) (count : ℕ) (part : List ℕ) → HasCount count → 1 ≤ length part → length part ≤ count * size head → length (bytes ++ part) ≤ total head
    → run (at_packet head bytes) ((count - 1) ∷ part) ≡ pixels_so_far head (bytes ++ part) (count * size head - length part)
unfolding run
pixels_all head bytes count part c some few room = ap (λ s. run s part) (pixels_begin head bytes count c) ∙ pixels_run head bytes part (count * size head) some few room

pub some_pixels : (head : List ℕ) (count : ℕ) → HasCount count → 1 ≤ count * size head
some_pixels head count c = product_some count (size head) c.some (size_some head)

pub packet_run : (head bytes : List ℕ) (p : Packet) → is_packet (size head) p ≡ true → length (bytes ++ packet_bytes p) < total head → run (at_packet head bytes) (packet_text p) ≡ at_packet head (bytes ++ packet_bytes p)
packet_run head bytes (copies count pixel) e h =
    let c = counted count (length pixel) (size head) e in
    let all = bytes ++ packet_bytes (copies count pixel) in
    copies_all head bytes count pixel c.0 c.1
    ∙ ap (copied head) (take_all (total head) all (omega (arith, h)))
    ∙ grown_on head all (at_packet head all) h
packet_run head bytes (pixels count part) e h =
    let c = counted count (length part) (count * size head) e in
    let long = c.1 in
    let some = some_pixels head count c.0 in
    pixels_all head bytes count part c.0 (omega (arith, long, some)) (omega (arith, long)) (omega (arith, h))
    ∙ pixels_end head (bytes ++ part) (count * size head - length part) h (omega (arith, long))

-- a byte, and some bytes after it
pub one_more : (n b : ℕ) (bytes : List ℕ) → take (1 + n) (b ∷ bytes) ≡ b ∷ take n bytes
one_more n b bytes = let e : 1 + n ≡ suc n = omega arith in ap (λ k. take k (b ∷ bytes)) e

last_run : (head bytes : List ℕ) (p : Packet) → is_packet (size head) p ≡ true → length bytes < total head → total head ≤ length (bytes ++ packet_bytes p)
    → run (at_packet head bytes) (last_text (total head - length bytes) p) ≡ whole (targa_image head (take (total head) (bytes ++ packet_bytes p)))
last_run head bytes (copies count pixel) e room h =
    let c = counted count (length pixel) (size head) e in
    let all = bytes ++ packet_bytes (copies count pixel) in
    let l = length-take-le (total head) all h in
    copies_all head bytes count pixel c.0 c.1
    ∙ grown_whole head (take (total head) all) (at_packet head (take (total head) all)) (omega (arith, l))
last_run head bytes (pixels count part) e room h =
    let c = counted count (length part) (count * size head) e in
    let missing = total head - length bytes in
    let a = length-append bytes part in
    let long = c.1 in
    let l = length-take-le missing part (omega (arith, a, h)) in
    let b = length-append bytes (take missing part) in
    let n : length bytes + missing ≡ total head = omega (arith, room) in
    ap (run (at_packet head bytes)) (one_more missing (count - 1) part)
    ∙ pixels_all head bytes count (take missing part) c.0 (omega (arith, l, room)) (omega (arith, l, a, h, long)) (omega (arith, b, l, room))
    ∙ grown_whole head (bytes ++ take missing part) _ (omega (arith, b, l, room))
    ∙ ap (λ x. whole (targa_image head x)) (sym (take-append-add bytes part missing) ∙ ap (λ k. take k (bytes ++ part)) n)

pub packets_run : (head bytes : List ℕ) (packets : List Packet) → all_of (is_packet (size head)) packets ≡ true → length (bytes ++ flat_map packet_bytes packets) < total head
    → run (at_packet head bytes) (flat_map packet_text packets) ≡ at_packet head (bytes ++ flat_map packet_bytes packets)
unfolding run
packets_run head bytes [] e h = ap (at_packet head) (sym (append-nil bytes))
packets_run head bytes (p ∷ packets) e h =
    let s = both (is_packet (size head) p) (all_of (is_packet (size head)) packets) e in
    let more = flat_map packet_bytes packets in
    let j : (bytes ++ packet_bytes p) ++ more ≡ bytes ++ flat_map packet_bytes (p ∷ packets) = append_assoc bytes (packet_bytes p) more in
    let l = length-append (bytes ++ packet_bytes p) more in
    let k = ap length j in
    run_join (at_packet head bytes) (packet_text p) (flat_map packet_text packets)
    ∙ ap (λ x. run x (flat_map packet_text packets)) (packet_run head bytes p s.0 (omega (arith, l, k, h)))
    ∙ packets_run head (bytes ++ packet_bytes p) packets s.1 (subst (λ x. length x < total head) (sym j) h)
    ∙ ap (at_packet head) j

-- WHAT IS COMPLETE, AND WHAT HAS A FAULT

packed_run : (head body bytes : List ℕ) → IsPackedBody (size head) (total head) body bytes → run (at_packet head []) body ≡ whole (targa_image head bytes)
packed_run head body bytes b =
    let done = flat_map packet_bytes b.packets in
    ap (run (at_packet head [])) b.cut
    ∙ run_join (at_packet head []) (flat_map packet_text b.packets) (last_text (total head - length done) b.last)
    ∙ ap (λ s. run s (last_text (total head - length done) b.last)) (packets_run head [] b.packets b.formed b.unfinished)
    ∙ last_run head done b.last b.last_formed b.unfinished b.enough
    ∙ ap (λ x. whole (targa_image head x)) (sym b.same)

body_run : (head body bytes : List ℕ) → 1 ≤ total head → IsTargaBody head body bytes → run (body_begun head) body ≡ whole (targa_image head bytes)
body_run head body bytes some all = by (is_packed head) all
  where
    by : (v : Bool) → IsBodyOf v (size head) (total head) body bytes → run (cond v (at_packet head []) (in_pixels head [] (total head))) body ≡ whole (targa_image head bytes)
    by true b = packed_run head body bytes b
    by false (same, long) =
        pixels_run head [] body (total head) (omega (arith, some, long)) (omega (arith, long)) (omega (arith, long))
        ∙ grown_whole head body _ (omega (arith, long))
        ∙ ap (λ x. whole (targa_image head x)) (sym same)

pub whole_run : (bytes : List ℕ) (image : Image) → IsWholeTarga bytes image → run at_start bytes ≡ whole image
whole_run bytes image w =
    ap (run at_start) w.cut
    ∙ run_join at_start w.front w.body
    ∙ ap (λ s. run s w.body) (front_run w.head w.front w.header)
    ∙ body_run w.head w.body w.pixels (total_some w.head w.header.right) w.all
    ∙ ap whole (sym w.same)

pub shows_run : (fault : Fault) (bytes : List ℕ) → ShowsTargaFault fault bytes → run at_start bytes ≡ failed fault
shows_run fault bytes (long, e) = head_run [] bytes (omega (arith, long)) long ∙ ap (λ o. fault_or o (identifier_left bytes (identifier_length bytes))) e
