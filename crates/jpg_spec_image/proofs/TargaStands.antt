-- After each byte the state represents the bytes of a Targa file so far.
use Rattle.std.proofs.Common.{◌≡◌, ℕ, ◌+◌, ◌-◌, ◌*◌, ◌<◌, ◌≤◌, Bool, true, false, cond, ◌&&◌, ◌==◌, List, [], ◌∷◌, ◌++◌, length, take, replicate, refl, sym, ap, ◌∙◌, subst, arith, inl, inr, ⊎_elim, Option, None, Some}
use Rattle.std.specs.Prelude.{◌⊎◌, flat_map, nat_lt, nat_le, slice_index}
use Rattle.std.proofs.lemmas.Bool.{cases_lt}
use Rattle.std.proofs.lemmas.Bool.Decides.{nat_tests}
use Rattle.std.proofs.lemmas.List.{append_assoc, append-nil, length-append, length-replicate, length-take-le, take_all, take-append-le, get_or_at, get_or_append_left}
use Rattle.std.proofs.lemmas.List.Concat.{flat_map-append}
use Rattle.std.proofs.Math.Seq.{take-append_seam}
use Rattle.jpg_spec.proofs.Basics.Common.{and_intro, lt_of, not_lt_of, same_of}
use Rattle.jpg_spec.proofs.Texts.TextRuns.{all_join, one_of}
use Rattle.jpg_spec_image.specs.TargaFile.{Packet, copies, pixels, identifier_length, is_packed, targa_fault, targa_image, is_packet, packet_text, packet_bytes, last_text, IsPackedBody, IsBodyOf, IsTargaFront}
use Rattle.jpg_spec_image.specs.TargaFaults.{IsWholeTarga}
use Rattle.jpg_spec_image.specs.TargaSteps.{TargaState, in_head, in_identifier, at_packet, in_copies, in_pixels, whole, failed, past, lost, at_start, fault_or, total, size, body_begun, identifier_left, head_so_far, packet_byte, with_copies, copied, copies_so_far, pixels_so_far, step, run}
use Rattle.jpg_spec_image.specs.TargaReading.{RepresentsTarga, IsAnswered, IsPastTarga, InIdentifier, InPackets, InCopies, InPacket, InRaw, InPixels, HasNoByte}
use Rattle.jpg_spec_image.proofs.TargaRuns.{HasCount, total_some, size_some, some_pixels, one_more}
use Rattle.jpg_spec.specs.declared.fault.Fault.{Fault}

zero_is : (n : ℕ) → (n == 0) ≡ false → 0 < n
zero_is n e = grind (arith, nat_tests)

-- THE HEADER, AND THE IDENTIFIER

begun_stands : (bytes head : List ℕ) → IsTargaFront head bytes → RepresentsTarga bytes (body_begun head)
begun_stands bytes head f = by (is_packed head) refl
  where
    some : 1 ≤ total head
    some = total_some head f.right

    by : (v : Bool) → is_packed head ≡ v → RepresentsTarga bytes (cond v (at_packet head []) (in_pixels head [] (total head)))
    by true p = record { front = bytes; packets = []; header = f; packed = p; cut = sym (append-nil bytes); formed = refl; same = refl; room = some }
    by false p = record {
      where_it_is = inr (record { front = bytes; header = f; raw = p; cut = sym (append-nil bytes); long = omega arith });
      some = some;
      room = some;
    }

record BehindHeader (bytes head part : List ℕ) (left : ℕ) : Type 0 where
  cut : bytes ≡ head ++ part
  long : length head ≡ 18
  right : targa_fault head ≡ None
  identifier_long : length part + left ≡ identifier_length head

identifier_stands : (bytes head part : List ℕ) (left : ℕ) → BehindHeader bytes head part left → RepresentsTarga bytes (identifier_left head left)
identifier_stands bytes head part left h = by (left == 0) refl
  where
    by : (v : Bool) → (left == 0) ≡ v → RepresentsTarga bytes (cond v (body_begun head) (in_identifier head left))
    by true p =
        let none = same_of left 0 p in
        let l = h.identifier_long in
        begun_stands bytes head (record { identifier = part; cut = h.cut; long = h.long; right = h.right; identifier_long = omega (arith, l, none) })
    by false p = record { part = part; cut = h.cut; long = h.long; right = h.right; identifier_long = h.identifier_long; room = zero_is left p }

head_stands : (bytes head : List ℕ) (b : ℕ) → bytes ≡ head → length head < 18 → RepresentsTarga (bytes ++ b ∷ []) (head_so_far (head ++ b ∷ []))
head_stands bytes head b e short = by (nat_lt (length (head ++ b ∷ [])) 18) refl
  where
    new : bytes ++ b ∷ [] ≡ head ++ b ∷ []
    new = ap (λ x. x ++ b ∷ []) e

    by_fault : (o : Option Fault) → targa_fault (head ++ b ∷ []) ≡ o → length (head ++ b ∷ []) ≡ 18
        → RepresentsTarga (bytes ++ b ∷ []) (fault_or o (identifier_left (head ++ b ∷ []) (identifier_length (head ++ b ∷ []))))
    by_fault (Some fault) f l = (ap length new ∙ l, ap targa_fault new ∙ f)
    by_fault None f l =
        identifier_stands (bytes ++ b ∷ []) (head ++ b ∷ []) [] (identifier_length (head ++ b ∷ []))
        (record { cut = new ∙ sym (append-nil (head ++ b ∷ [])); long = l; right = f; identifier_long = omega arith })

    by : (v : Bool) → nat_lt (length (head ++ b ∷ [])) 18 ≡ v
        → RepresentsTarga (bytes ++ b ∷ []) (cond v (in_head (head ++ b ∷ [])) (fault_or (targa_fault (head ++ b ∷ [])) (identifier_left (head ++ b ∷ []) (identifier_length (head ++ b ∷ [])))))
    by true p = (new, lt_of (length (head ++ b ∷ [])) 18 p)
    by false p =
        let l = length-append head (b ∷ []) in
        let g = not_lt_of (length (head ++ b ∷ [])) 18 p in
        by_fault (targa_fault (head ++ b ∷ [])) refl (omega (arith, l, g, short))

more_identifier : (bytes head : List ℕ) (left b : ℕ) → InIdentifier bytes head left → RepresentsTarga (bytes ++ b ∷ []) (identifier_left head (left - 1))
more_identifier bytes head left b i =
    let l = length-append i.part (b ∷ []) in
    let long = i.identifier_long in
    let room = i.room in
    identifier_stands (bytes ++ b ∷ []) head (i.part ++ b ∷ []) (left - 1)
    (record { cut = ap (λ x. x ++ b ∷ []) i.cut ∙ append_assoc head i.part (b ∷ []); long = i.long; right = i.right; identifier_long = omega (arith, l, long, room) })

-- PACKETS

part_more : (bytes head before part : List ℕ) (b : ℕ) → InPackets bytes head before part → InPackets (bytes ++ b ∷ []) head before (part ++ b ∷ [])
part_more bytes head before part b i = record {
  front = i.front;
  packets = i.packets;
  header = i.header;
  packed = i.packed;
  cut = ap (λ x. x ++ b ∷ []) i.cut ∙ append_assoc i.front (flat_map packet_text i.packets ++ part) (b ∷ []) ∙ ap (λ x. i.front ++ x) (append_assoc (flat_map packet_text i.packets) part (b ∷ []));
  formed = i.formed;
  same = i.same;
  room = i.room;
}

-- one more packet is complete, and the image isn't
packet_more : (bytes head before : List ℕ) (p : Packet) → InPackets bytes head before (packet_text p) → is_packet (size head) p ≡ true → length (before ++ packet_bytes p) < total head
    → InPackets bytes head (before ++ packet_bytes p) []
packet_more bytes head before p i e h = record {
  front = i.front;
  packets = i.packets ++ p ∷ [];
  header = i.header;
  packed = i.packed;
  cut = i.cut ∙ ap (λ x. i.front ++ x) (sym (append-nil (flat_map packet_text (i.packets ++ p ∷ [])) ∙ flat_map-append packet_text i.packets (p ∷ []) ∙ ap (λ x. flat_map packet_text i.packets ++ x) (append-nil (packet_text p))));
  formed = all_join (is_packet (size head)) i.packets (p ∷ []) i.formed (one_of (is_packet (size head)) p e);
  same = flat_map-append packet_bytes i.packets (p ∷ []) ∙ ap (λ x. flat_map packet_bytes i.packets ++ x) (append-nil (packet_bytes p)) ∙ ap (λ x. x ++ packet_bytes p) i.same;
  room = h;
}

-- with the text of a last packet the image is complete
packet_last : (bytes head before : List ℕ) (p : Packet) → InPackets bytes head before (last_text (total head - length before) p) → is_packet (size head) p ≡ true → total head ≤ length (before ++ packet_bytes p)
    → IsWholeTarga bytes (targa_image head (take (total head) (before ++ packet_bytes p)))
packet_last bytes head before p i e h = record {
  head = head;
  front = i.front;
  body = flat_map packet_text i.packets ++ last_text (total head - length before) p;
  pixels = take (total head) (before ++ packet_bytes p);
  header = i.header;
  cut = i.cut;
  all = by (is_packed head) i.packed;
  same = refl;
}
  where
    packed : IsPackedBody (size head) (total head) (flat_map packet_text i.packets ++ last_text (total head - length before) p) (take (total head) (before ++ packet_bytes p))
    packed = record {
      packets = i.packets;
      last = p;
      formed = i.formed;
      last_formed = e;
      unfinished = subst (λ x. length x < total head) (sym i.same) i.room;
      enough = subst (λ x. total head ≤ length (x ++ packet_bytes p)) (sym i.same) h;
      cut = ap (λ x. flat_map packet_text i.packets ++ last_text (total head - length x) p) (sym i.same);
      same = ap (λ x. take (total head) (x ++ packet_bytes p)) (sym i.same);
    }

    by : (v : Bool) → v ≡ true → IsBodyOf v (size head) (total head) (flat_map packet_text i.packets ++ last_text (total head - length before) p) (take (total head) (before ++ packet_bytes p))
    by true f = packed
    by false f = cc

is_counted : (count long n : ℕ) → HasCount count → long ≡ n → ((nat_le 1 count && nat_le count 128) && long == n) ≡ true
is_counted count long n c e =
    let some = c.some in
    let few = c.few in
    let a : nat_le 1 count ≡ true = grind (arith, nat_tests, some) in
    let b : nat_le count 128 ≡ true = grind (arith, nat_tests, few) in
    let d : (long == n) ≡ true = grind (arith, nat_tests, e) in
    and_intro (nat_le 1 count && nat_le count 128) (long == n) (and_intro (nat_le 1 count) (nat_le count 128) a b) d

-- THE FIRST BYTE of a packet

no_byte : (bytes : List ℕ) (b : ℕ) → 256 ≤ b → HasNoByte (bytes ++ b ∷ [])
no_byte bytes b h =
    let l = length-append bytes (b ∷ []) in
    let e : slice_index (bytes ++ b ∷ []) (length bytes) ≡ b = get_or_at bytes b [] 0 (length bytes) refl in
    (length bytes, omega (arith, l), omega (arith, e, h))

packet_stands : (bytes head before : List ℕ) (b : ℕ) → InPackets bytes head before [] → RepresentsTarga (bytes ++ b ∷ []) (packet_byte head before b)
packet_stands bytes head before b i = by (nat_lt b 128) (nat_lt b 256) refl refl
  where
    new : InPackets (bytes ++ b ∷ []) head before (b ∷ [])
    new = part_more bytes head before [] b i

    by : (u v : Bool) → nat_lt b 128 ≡ u → nat_lt b 256 ≡ v → RepresentsTarga (bytes ++ b ∷ []) (cond u (in_pixels head before ((b + 1) * size head)) (cond v (in_copies head before (b - 127) []) lost))
    by true v p q =
        let h = lt_of b 128 p in
        let c : HasCount (b + 1) = record { some = omega arith; few = omega (arith, h) } in
        let first : b ≡ b + 1 - 1 = omega arith in
        record {
          where_it_is = inl (record {
            before = before;
            count = b + 1;
            part = [];
            packets = subst (λ n. InPackets (bytes ++ b ∷ []) head before (n ∷ [])) first new;
            some = c.some;
            few = c.few;
            so_far = append-nil before;
            long = omega arith;
          });
          some = some_pixels head (b + 1) c;
          room = i.room;
        }
    by false true p q =
        let h = not_lt_of b 128 p in
        let k = lt_of b 256 q in
        let first : b ≡ 127 + (b - 127) = omega (arith, h) in
        record {
          packets = subst (λ n. InPackets (bytes ++ b ∷ []) head before (n ∷ [])) first new;
          some = omega (arith, h);
          few = omega (arith, k);
          unfinished = size_some head;
        }
    by false false p q = no_byte bytes b (not_lt_of b 256 q)

-- A PIXEL TO BE COPIED

copied_stands : (bytes head before : List ℕ) (count : ℕ) (pixel : List ℕ) → InPackets bytes head before ((127 + count) ∷ pixel) → HasCount count → length pixel ≡ size head
    → RepresentsTarga bytes (copied head (with_copies head before count pixel))
copied_stands bytes head before count pixel i c long = by (cases_lt (length all) (total head))
  where
    p : Packet
    p = copies count pixel

    all : List ℕ
    all = before ++ packet_bytes (copies count pixel)

    formed : is_packet (size head) (copies count pixel) ≡ true
    formed = is_counted count (length pixel) (size head) c long

    done : (v : Bool) → nat_lt (length (take (total head) all)) (total head) ≡ v
        → RepresentsTarga bytes (cond v (at_packet head (take (total head) all)) (whole (targa_image head (take (total head) all))))
    done true e =
        let h : length all < total head = shorter (lt_of (length (take (total head) all)) (total head) e) in
        subst (λ x. InPackets bytes head x []) (sym (take_all (total head) all (omega (arith, h)))) (packet_more bytes head before (copies count pixel) i formed h)
      where
        shorter : length (take (total head) all) < total head → length all < total head
        shorter l = ⊎_elim (λ (a : length all < total head). a) (λ (a : total head ≤ length all). (let k = length-take-le (total head) all a in absurd (omega (arith, k, l)))) (cases_lt (length all) (total head))
    done false e = packet_last bytes head before (copies count pixel) i formed (longer (not_lt_of (length (take (total head) all)) (total head) e))
      where
        longer : total head ≤ length (take (total head) all) → total head ≤ length all
        longer l = ⊎_elim (λ (a : length all < total head). (let k = ap length (take_all (total head) all (omega (arith, a))) in absurd (omega (arith, k, l, a)))) (λ (a : total head ≤ length all). a) (cases_lt (length all) (total head))

    by : (length all < total head) ⊎ (total head ≤ length all) → RepresentsTarga bytes (copied head (with_copies head before count pixel))
    by x = done (nat_lt (length (take (total head) all)) (total head)) refl

copies_stand : (bytes head before : List ℕ) (count : ℕ) (pixel : List ℕ) (b : ℕ) → InCopies bytes head before count pixel → RepresentsTarga (bytes ++ b ∷ []) (copies_so_far head before count (pixel ++ b ∷ []))
copies_stand bytes head before count pixel b i = by (nat_lt (length (pixel ++ b ∷ [])) (size head)) refl
  where
    new : InPackets (bytes ++ b ∷ []) head before ((127 + count) ∷ (pixel ++ b ∷ []))
    new = part_more bytes head before ((127 + count) ∷ pixel) b i.packets

    by : (v : Bool) → nat_lt (length (pixel ++ b ∷ [])) (size head) ≡ v
        → RepresentsTarga (bytes ++ b ∷ []) (cond v (in_copies head before count (pixel ++ b ∷ [])) (copied head (with_copies head before count (pixel ++ b ∷ []))))
    by true p = record { packets = new; some = i.some; few = i.few; unfinished = lt_of (length (pixel ++ b ∷ [])) (size head) p }
    by false p =
        let l = length-append pixel (b ∷ []) in
        let g = not_lt_of (length (pixel ++ b ∷ [])) (size head) p in
        let u = i.unfinished in
        copied_stands (bytes ++ b ∷ []) head before count (pixel ++ b ∷ []) new (record { some = i.some; few = i.few }) (omega (arith, l, g, u))

-- PIXELS

-- raw pixels, with one more byte
raw_stands : (bytes head done : List ℕ) (left b : ℕ) → InRaw bytes head done left → 0 < left → RepresentsTarga (bytes ++ b ∷ []) (pixels_so_far head (done ++ b ∷ []) (left - 1))
raw_stands bytes head done left b r some = by (nat_lt (length (done ++ b ∷ [])) (total head)) refl (left - 1 == 0) refl
  where
    long : length (done ++ b ∷ []) + (left - 1) ≡ total head
    long = let l = length-append done (b ∷ []) in let k = r.long in omega (arith, l, k, some)

    cut : bytes ++ b ∷ [] ≡ r.front ++ (done ++ b ∷ [])
    cut = ap (λ x. x ++ b ∷ []) r.cut ∙ append_assoc r.front done (b ∷ [])

    all : (v : Bool) → v ≡ false → length (done ++ b ∷ []) ≡ total head → IsBodyOf v (size head) (total head) (done ++ b ∷ []) (done ++ b ∷ [])
    all true e l = cc
    all false e l = (refl, l)

    by : (v : Bool) → nat_lt (length (done ++ b ∷ [])) (total head) ≡ v → (z : Bool) → (left - 1 == 0) ≡ z
        → RepresentsTarga (bytes ++ b ∷ []) (cond v (cond z (at_packet head (done ++ b ∷ [])) (in_pixels head (done ++ b ∷ []) (left - 1))) (whole (targa_image head (done ++ b ∷ []))))
    by true p true q =
        let h = lt_of (length (done ++ b ∷ [])) (total head) p in
        let n = same_of (left - 1) 0 q in
        absurd (omega (arith, h, n, long))
    by true p false q = record {
      where_it_is = inr (record { front = r.front; header = r.header; raw = r.raw; cut = cut; long = long });
      some = zero_is (left - 1) q;
      room = lt_of (length (done ++ b ∷ [])) (total head) p;
    }
    by false p z q =
        let g = not_lt_of (length (done ++ b ∷ [])) (total head) p in
        let l : length (done ++ b ∷ []) ≡ total head = omega (arith, g, long) in
        record { head = head; front = r.front; body = done ++ b ∷ []; pixels = done ++ b ∷ []; header = r.header; cut = cut; all = all (is_packed head) r.raw l; same = refl }

-- pixels of a packet, of which so many bytes are left
record InPart (bytes head done : List ℕ) (left : ℕ) : Type 0 where
  is : InPacket bytes head done left
  few : length done ≤ total head

-- the part of a packet that has the image's last pixel, whatever follows in the packet
part_last : (bytes head done : List ℕ) (left : ℕ) → InPart bytes head done left → length done ≡ total head → IsWholeTarga bytes (targa_image head done)
part_last bytes head done left next all =
    let i = next.is in
    let behind = i.part ++ replicate left 0 in
    let p : Packet = pixels i.count behind in
    let l = length-append i.part (replicate left 0) in
    let z = length-replicate {A = ℕ} left 0 in
    let long = i.long in
    let d = ap length i.so_far in
    let a = length-append i.before i.part in
    let b = length-append i.before behind in
    let missing : total head - length i.before ≡ length i.part = omega (arith, a, d, all) in
    let text : ((i.count - 1) ∷ i.part) ≡ last_text (total head - length i.before) p =
    ap (λ x. (i.count - 1) ∷ x) (sym (take-append_seam i.part (replicate left 0)) ∙ ap (λ n. take n behind) (sym missing)) ∙ sym (one_more (total head - length i.before) (i.count - 1) behind)
    in
    let bytes_are : take (total head) (i.before ++ behind) ≡ done =
    ap (take (total head)) (sym (append_assoc i.before i.part (replicate left 0)) ∙ ap (λ x. x ++ replicate left 0) i.so_far) ∙ ap (λ n. take n (done ++ replicate left 0)) (sym all) ∙ take-append_seam done (replicate left 0)
    in
    let formed = is_counted i.count (length behind) (i.count * size head) (record { some = i.some; few = i.few }) (omega (arith, l, z, long)) in
    subst (λ x. IsWholeTarga bytes (targa_image head x)) bytes_are (packet_last bytes head i.before p (subst (InPackets bytes head i.before) text i.packets) formed (omega (arith, b, a, d, l, all)))

part_stands : (bytes head done : List ℕ) (left : ℕ) → InPart bytes head done left → RepresentsTarga bytes (pixels_so_far head done left)
part_stands bytes head done left next = by (nat_lt (length done) (total head)) refl (left == 0) refl
  where
    ended : InPacket bytes head done left → left ≡ 0 → length done < total head → InPackets bytes head done []
    ended i none h =
        let long = i.long in
        let f = is_counted i.count (length i.part) (i.count * size head) (record { some = i.some; few = i.few }) (omega (arith, long, none)) in
        subst (λ x. InPackets bytes head x []) i.so_far (packet_more bytes head i.before (pixels i.count i.part) i.packets f (subst (λ x. length x < total head) (sym i.so_far) h))

    by : (v : Bool) → nat_lt (length done) (total head) ≡ v → (z : Bool) → (left == 0) ≡ z
        → RepresentsTarga bytes (cond v (cond z (at_packet head done) (in_pixels head done left)) (whole (targa_image head done)))
    by true q true r = ended next.is (same_of left 0 r) (lt_of (length done) (total head) q)
    by true q false r = record { where_it_is = inl next.is; some = zero_is left r; room = lt_of (length done) (total head) q }
    by false q z r =
        let g = not_lt_of (length done) (total head) q in
        let few = next.few in
        part_last bytes head done left next (omega (arith, g, few))

pixels_stand : (bytes head done : List ℕ) (left b : ℕ) → InPixels bytes head done left → RepresentsTarga (bytes ++ b ∷ []) (pixels_so_far head (done ++ b ∷ []) (left - 1))
pixels_stand bytes head done left b i = by i.where_it_is
  where
    by : InPacket bytes head done left ⊎ InRaw bytes head done left → RepresentsTarga (bytes ++ b ∷ []) (pixels_so_far head (done ++ b ∷ []) (left - 1))
    by (inl k) =
        let l = length-append k.part (b ∷ []) in
        let m = length-append done (b ∷ []) in
        let long = k.long in
        let some = i.some in
        let room = i.room in
        part_stands (bytes ++ b ∷ []) head (done ++ b ∷ []) (left - 1)
        (record {
          is = record {
            before = k.before;
            count = k.count;
            part = k.part ++ b ∷ [];
            packets = part_more bytes head k.before ((k.count - 1) ∷ k.part) b k.packets;
            some = k.some;
            few = k.few;
            so_far = sym (append_assoc k.before k.part (b ∷ [])) ∙ ap (λ x. x ++ b ∷ []) k.so_far;
            long = omega (arith, l, long, some);
          };
          few = omega (arith, m, room);
        })
    by (inr r) = raw_stands bytes head done left b r i.some

-- BYTES AFTER AN ANSWER

now_past : (bytes : List ℕ) (b : ℕ) → IsAnswered bytes → IsPastTarga (bytes ++ b ∷ [])
now_past bytes b s =
    let l = length-append bytes (b ∷ []) in
    (length bytes, omega (arith, l), subst IsAnswered (sym (take-append_seam bytes (b ∷ []))) s)

still_past : (bytes : List ℕ) (b : ℕ) → IsPastTarga bytes → IsPastTarga (bytes ++ b ∷ [])
still_past bytes b (n, h, s) =
    let l = length-append bytes (b ∷ []) in
    (n, omega (arith, l, h), subst IsAnswered (sym (take-append-le n bytes (b ∷ []) (omega (arith, h)))) s)

still_none : (bytes : List ℕ) (b : ℕ) → HasNoByte bytes → HasNoByte (bytes ++ b ∷ [])
still_none bytes b (n, h, s) =
    let l = length-append bytes (b ∷ []) in
    let e = get_or_append_left bytes (b ∷ []) 0 n h in
    (n, omega (arith, l, h), omega (arith, e, s))

pub byte_stands : (bytes : List ℕ) (s : TargaState) (b : ℕ) → RepresentsTarga bytes s → RepresentsTarga (bytes ++ b ∷ []) (step s b)
byte_stands bytes (in_head head) b (e, short) = head_stands bytes head b e short
byte_stands bytes (in_identifier head left) b i = more_identifier bytes head left b i
byte_stands bytes (at_packet head done) b i = packet_stands bytes head done b i
byte_stands bytes (in_copies head done count pixel) b i = copies_stand bytes head done count pixel b i
byte_stands bytes (in_pixels head done left) b i = pixels_stand bytes head done left b i
byte_stands bytes (whole image) b s = now_past bytes b (inl (image, s))
byte_stands bytes (failed fault) b s = now_past bytes b (inr (fault, s))
byte_stands bytes past b s = still_past bytes b s
byte_stands bytes lost b s = still_none bytes b s

pub bytes_stand : (done : List ℕ) (s : TargaState) (bytes : List ℕ) → RepresentsTarga done s → RepresentsTarga (done ++ bytes) (run s bytes)
unfolding run
bytes_stand done s [] h = subst (λ x. RepresentsTarga x s) (sym (append-nil done)) h
bytes_stand done s (b ∷ bytes) h = subst (λ x. RepresentsTarga x (run (step s b) bytes)) (append_assoc done (b ∷ []) bytes) (bytes_stand (done ++ b ∷ []) (step s b) bytes (byte_stands done s b h))

pub stands : (bytes : List ℕ) → RepresentsTarga bytes (run at_start bytes)
stands bytes = bytes_stand [] at_start bytes (refl, omega arith)
