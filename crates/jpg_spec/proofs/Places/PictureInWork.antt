-- The current picture: from the one before a scan, interval by interval, to what the scan means.
use Rattle.std.proofs.Common.{◌≡◌, ℕ, ◌≤◌, Bool, true, false, ◌==◌, ◌&&◌, List, [], ◌∷◌, ◌++◌, length, refl, sym, ap, ◌∙◌, subst, arith, inl, ℤ, pos, ◌+◌}
use Rattle.std.specs.Prelude.{◌||◌, map, flat_map, nat_le, slice_index_or}
use Rattle.std.proofs.lemmas.Bool.Decides.{nat_tests}
use Rattle.std.proofs.lemmas.List.{append_assoc, append-nil, length-append}
use Rattle.std.proofs.lemmas.List.Concat.{flat_map-append}
use Rattle.jpg_spec.specs.Bits.{Packs, bits_of, bits_of_bytes}
use Rattle.jpg_spec.specs.Lists.{any_of, chunks, joined}
use Rattle.jpg_spec.specs.Elements.{Coding, UnitLeft, SpellsUnits, at_start}
use Rattle.jpg_spec.specs.Scan.{Blocks, Scan, unit_at, band, block_at, SpellsInterval, SpellsIntervals, coefficient, is_named, ScanMeans}
use Rattle.jpg_spec.specs.ScanFaults.{DataReveals}
use Rattle.jpg_spec.specs.Items.{Item, segment, scan}
use Rattle.jpg_spec.specs.FileMeaning.{Leads}
use Rattle.jpg_spec.specs.declared.fault.Fault.{Fault}
use Rattle.jpg_spec.specs.declared.frame.Place.{Place}
use Rattle.jpg_spec.specs.declared.frame.Limits.{Limits}
use Rattle.jpg_spec.proofs.Basics.Strings.{length-bits_of}
use Rattle.jpg_spec.specs.Parts.{StandsInUnits, in_code}
use Rattle.jpg_spec.specs.PictureInWork.{is_at, AreDistinct, IntervalRead, ScanSoFar}
use Rattle.jpg_spec.proofs.Files.BlocksOnce.{joined_chunks}
use Rattle.jpg_spec.proofs.Bits.DataFacts.{bits_join, shows_more}
use Rattle.jpg_spec.proofs.Basics.Common.{neither, or_assoc}

-- the pictures of items have blocks of 64 values
pub leads_sizes : (limits : Limits) (items : List Item) (blocks : Blocks) → Leads limits items blocks → (i x y : ℕ) → length (blocks i x y) ≡ 64
leads_sizes limits [] blocks l i x y = ap (λ (b : Blocks). length (b i x y)) l
leads_sizes limits (segment code contents ∷ items) blocks l i x y = leads_sizes limits items blocks l.2 i x y
leads_sizes limits (scan contents intervals ∷ items) blocks l i x y = (l.4).sizes i x y

-- before the first interval
pub so_far_first : (s : Scan) (before : Blocks) → ((i x y : ℕ) → length (before i x y) ≡ 64) → ScanSoFar s before before [] (chunks s.interval s.places)
so_far_first s before sizes = record {
  front = [];
  cut = refl;
  spelled = tt;
  changes = record { elsewhere = λ i x y h. refl; outside = λ i x y k h. refl; sizes = sizes };
}

-- TESTS on places
pub any_join : (test : Place → Bool) (a b : List Place) → any_of test (a ++ b) ≡ (any_of test a || any_of test b)
any_join test [] b = refl
any_join test (p ∷ a) b = ap (λ r. test p || r) (any_join test a b) ∙ or_assoc (test p) (any_of test a) (any_of test b)

pub joined_join : (a b : List (List Place)) → joined (a ++ b) ≡ joined a ++ joined b
joined_join a b = flat_map-append (λ row. row) a b

pub is_at_same : (p : Place) → is_at p.component p.x p.y p ≡ true
is_at_same p =
    let a : (p.component == p.component) ≡ true = grind (arith, nat_tests) in
    let b : (p.x == p.x) ≡ true = grind (arith, nat_tests) in
    let c : (p.y == p.y) ≡ true = grind (arith, nat_tests) in
    ap (λ t. t && p.x == p.x && p.y == p.y) a ∙ ap (λ t. t && p.y == p.y) b ∙ c

-- places of the one list aren't among the other's
abbrev pub AreApart : List Place → List Place → Type 0
AreApart [] others = Unit {0}
AreApart (p ∷ places) others = (any_of (is_at p.component p.x p.y) others ≡ false) × AreApart places others

pub apart_of : (a b : List Place) → AreDistinct (a ++ b) → AreApart a b
apart_of [] b d = tt
apart_of (p ∷ a) b d = ((neither (any_of (is_at p.component p.x p.y) a) (any_of (is_at p.component p.x p.y) b) (sym (any_join (is_at p.component p.x p.y) a b) ∙ d.0)).1, apart_of a b d.1)

pub distinct_behind : (a b : List Place) → AreDistinct (a ++ b) → AreDistinct b
distinct_behind [] b d = d
distinct_behind (p ∷ a) b d = distinct_behind a b d.1

pub is_at_swap : (p q : Place) → is_at p.component p.x p.y q ≡ is_at q.component q.x q.y p
is_at_swap p q =
    let a : (q.component == p.component) ≡ (p.component == q.component) = swap q.component p.component in
    let b : (q.x == p.x) ≡ (p.x == q.x) = swap q.x p.x in
    let c : (q.y == p.y) ≡ (p.y == q.y) = swap q.y p.y in
    ap (λ t. t && q.x == p.x && q.y == p.y) a ∙ ap (λ t. p.component == q.component && t && q.y == p.y) b ∙ ap (λ t. p.component == q.component && p.x == q.x && t) c
  where
    swap : (m n : ℕ) → (m == n) ≡ (n == m)
    swap m n = grind (arith, nat_tests)

apart_one : (p : Place) (a : List Place) → AreApart a (p ∷ []) → any_of (is_at p.component p.x p.y) a ≡ false
apart_one p [] d = refl
apart_one p (q ∷ a) d =
    let h = neither (is_at q.component q.x q.y p) false d.0 in
    ap (λ t. t || any_of (is_at p.component p.x p.y) a) (is_at_swap p q ∙ h.0) ∙ apart_one p a d.1

pub apart_less : (a b c : List Place) → AreApart a (b ++ c) → AreApart a b × AreApart a c
apart_less [] b c d = (tt, tt)
apart_less (p ∷ a) b c d =
    let h = neither (any_of (is_at p.component p.x p.y) b) (any_of (is_at p.component p.x p.y) c) (sym (any_join (is_at p.component p.x p.y) b c) ∙ d.0) in
    let k = apart_less a b c d.1 in
    ((h.0, k.0), (h.1, k.1))

pub apart_swap : (a b : List Place) → AreApart a b → AreApart b a
apart_swap a [] d = tt
apart_swap a (p ∷ b) d = let k = apart_less a (p ∷ []) b d in (apart_one p a k.0, apart_swap a b k.1)

-- BLOCKS at places that nothing changed
pub same_at : (old new : Blocks) (others : List Place) → ((i x y : ℕ) → any_of (is_at i x y) others ≡ false → new i x y ≡ old i x y) → (places : List Place) → AreApart places others
    → (f : List ℤ → List ℤ) → flat_map (λ p. f (block_at new p)) places ≡ flat_map (λ p. f (block_at old p)) places
same_at old new others same [] d f = refl
same_at old new others same (p ∷ places) d f =
    ap (λ b. f b ++ flat_map (λ q. f (block_at new q)) places) (same p.component p.x p.y d.0) ∙ ap (λ l. f (block_at old p) ++ l) (same_at old new others same places d.1 f)

pub same_units : (s : Scan) (old new : Blocks) (others : List Place) → ((i x y : ℕ) → any_of (is_at i x y) others ≡ false → new i x y ≡ old i x y) → (places : List Place) → AreApart places others
    → map (unit_at s new) places ≡ map (unit_at s old) places
same_units s old new others same [] d = refl
same_units s old new others same (p ∷ places) d =
    ap (λ b. (let u : UnitLeft = record { component = p.component; has_dc = s.ss == 0; old = band s b } in u ∷ map (unit_at s new) places)) (same p.component p.x p.y d.0)
    ∙ ap (λ l. unit_at s old p ∷ l) (same_units s old new others same places d.1)

-- intervals that were read encode the same of a picture that changes after them
pub spelled_still : (s : Scan) (before old new : Blocks) (others : List Place) → ((i x y : ℕ) → any_of (is_at i x y) others ≡ false → new i x y ≡ old i x y) → (front : List (List Place)) (done : List (List ℕ)) → AreApart (joined front) others
    → SpellsIntervals s before old front done → SpellsIntervals s before new front done
spelled_still s before old new others same (places ∷ front) (c ∷ done) d k =
    let h = split places (joined front) d in
    let here = k.0 in (
      (here.0, here.1, subst (λ told. SpellsUnits s.coding (map (unit_at s before) places) told here.0) (sym (same_at old new others same places h.0 (λ b. band s b))) here.2),
      spelled_still s before old new others same front done h.1 k.1,
    )
  where
    split : (a b : List Place) → AreApart (a ++ b) others → AreApart a others × AreApart b others
    split [] b d = (tt, d)
    split (p ∷ a) b d = let r = split a b d.1 in ((d.0, r.0), r.1)
spelled_still s before old new others same front done d k = k

spelled_join : (s : Scan) (before after : Blocks) (front : List (List Place)) (done : List (List ℕ)) (places : List Place) (coded : List ℕ) → SpellsIntervals s before after front done → SpellsInterval s before after places coded
    → SpellsIntervals s before after (front ++ places ∷ []) (done ++ coded ∷ [])
spelled_join s before after [] [] places coded k h = (h, tt)
spelled_join s before after [] (c ∷ done) places coded k h = absurd k
spelled_join s before after (p ∷ front) [] places coded k h = absurd k
spelled_join s before after (p ∷ front) (c ∷ done) places coded k h = (k.0, spelled_join s before after front done places coded k.1 h)

module _ (s : Scan) (before work : Blocks) where
  -- The places of the scan, the next interval's among them.
  all_places : (done : List (List ℕ)) (places : List Place) (later : List (List Place)) (w : ScanSoFar s before work done (places ∷ later)) → s.places ≡ joined w.front ++ (places ++ joined later)
  all_places done places later w = sym (joined_chunks s.interval s.places) ∙ ap joined w.cut ∙ joined_join w.front (places ∷ later)

  pub due_apart : (done : List (List ℕ)) (places : List Place) (later : List (List Place)) → AreDistinct s.places → (w : ScanSoFar s before work done (places ∷ later)) → AreApart (joined w.front) places
  due_apart done places later distinct w =
      (apart_less (joined w.front) places (joined later) (apart_of (joined w.front) (places ++ joined later) (subst (λ l. AreDistinct l) (all_places done places later w) distinct))).0

  -- The units that are left are in the current picture as before the scan: so a machine may read them there.
  pub so_far_units : (done : List (List ℕ)) (places : List Place) (later : List (List Place)) → AreDistinct s.places → ScanSoFar s before work done (places ∷ later)
      → map (unit_at s work) places ≡ map (unit_at s before) places
  so_far_units done places later distinct w =
      same_units s before work (joined w.front) (w.changes).elsewhere places (apart_swap (joined w.front) places (due_apart done places later distinct w))

  -- THE STEP: one more interval was read
  pub so_far_next : (new : Blocks) (done : List (List ℕ)) (coded : List ℕ) (bits : List Bool) (places : List Place) (later : List (List Place)) → AreDistinct s.places
      → ScanSoFar s before work done (places ∷ later) → Packs bits coded → IntervalRead s places work new bits → ScanSoFar s before new (done ++ coded ∷ []) later
  so_far_next new done coded bits places later distinct w packs r = record {
    front = w.front ++ places ∷ [];
    cut = w.cut ∙ sym (append_assoc w.front (places ∷ []) later);
    spelled =
        spelled_join s before new w.front done places coded
        (spelled_still s before work new places (r.changes).elsewhere w.front done (due_apart done places later distinct w) w.spelled)
        (bits, packs, subst (λ us. SpellsUnits s.coding us (flat_map (λ p. band s (block_at new p)) places) bits) (so_far_units done places later distinct w) r.spelled);
    changes = record {
      elsewhere = λ i x y h. (let k = neither (any_of (is_at i x y) (joined w.front)) (any_of (is_at i x y) places) (sym (any_join (is_at i x y) (joined w.front) places) ∙ ap (any_of (is_at i x y)) (sym all_front) ∙ h) in
          (r.changes).elsewhere i x y k.1 ∙ (w.changes).elsewhere i x y k.0);
      outside = λ i x y k h. (r.changes).outside i x y k h ∙ (w.changes).outside i x y k h;
      sizes = (r.changes).sizes;
    };
  }
    where
      all_front : joined (w.front ++ places ∷ []) ≡ joined w.front ++ places
      all_front = joined_join w.front (places ∷ []) ∙ ap (λ l. joined w.front ++ l) (append-nil places)

-- after the last interval the picture is what the scan means
pub so_far_last : (s : Scan) (before work : Blocks) (intervals : List (List ℕ)) → ScanSoFar s before work intervals [] → ScanMeans s intervals before work
so_far_last s before work intervals w = record {
  spelled = subst (λ q. SpellsIntervals s before work q intervals) (sym (w.cut ∙ append-nil w.front)) w.spelled;
  rest = rest;
  sizes = (w.changes).sizes;
}
  where
    all : joined w.front ≡ s.places
    all = ap joined (sym (append-nil w.front) ∙ sym w.cut) ∙ joined_chunks s.interval s.places

    rest : (i x y k : ℕ) → is_named s i x y k ≡ false → coefficient work i x y k ≡ coefficient before i x y k
    rest i x y k h = by (any_of (is_at i x y) s.places) refl
      where
        by : (b : Bool) → any_of (is_at i x y) s.places ≡ b → coefficient work i x y k ≡ coefficient before i x y k
        by false e = ap (λ l. slice_index_or l k (pos 0)) ((w.changes).elsewhere i x y (ap (any_of (is_at i x y)) all ∙ e))
        by true e = (w.changes).outside i x y k (sym (ap (λ b. b && nat_le s.ss k && nat_le k s.se) e) ∙ h)

-- THE LAST BYTE of an interval's data: its bits are taken one by one

-- a part of an element with all bits of the byte
-- the last unit's last bit, and the rest of its byte
pub byte_packs : (coded : List ℕ) (byte : ℕ) (bits rest : List Bool) → bits_of 8 byte ≡ bits ++ rest → 1 ≤ length bits → Packs (bits_of_bytes coded ++ bits) (coded ++ byte ∷ [])
byte_packs coded byte bits rest e some =
    let l0 = ap length e in
    let l1 = length-append bits rest in
    let l2 = length-bits_of 8 byte in
    (rest, omega (arith, l0, l1, l2, some), bits_join coded (byte ∷ []) ∙ ap (λ l. bits_of_bytes coded ++ l) (append-nil (bits_of 8 byte) ∙ e) ∙ sym (append_assoc (bits_of_bytes coded) bits rest))

-- a fault with some bits of a byte is one of the byte
pub byte_shows : (c : Coding) (units : List UnitLeft) (fault : Fault) (coded : List ℕ) (byte : ℕ) (bits rest : List Bool) → bits_of 8 byte ≡ bits ++ rest → DataReveals c units fault (bits_of_bytes coded ++ bits)
    → DataReveals c units fault (bits_of_bytes (coded ++ byte ∷ []))
byte_shows c units fault coded byte bits rest e d =
    subst (λ l. DataReveals c units fault l) (append_assoc (bits_of_bytes coded) bits rest ∙ ap (λ l. bits_of_bytes coded ++ l) (sym (append-nil (bits_of 8 byte) ∙ e)) ∙ sym (bits_join coded (byte ∷ [])))
    (shows_more c units fault (bits_of_bytes coded ++ bits) rest d)

-- all bits of a byte
pub byte_bits : (coded : List ℕ) (byte : ℕ) → bits_of_bytes (coded ++ byte ∷ []) ≡ bits_of_bytes coded ++ bits_of 8 byte
byte_bits coded byte = bits_join coded (byte ∷ []) ∙ ap (λ l. bits_of_bytes coded ++ l) (append-nil (bits_of 8 byte))

-- before the first bit units are left, if there are any
pub starts_due : (c : Coding) (unit : UnitLeft) (units : List UnitLeft) → StandsInUnits c (unit ∷ units) [] (unit ∷ units) []
starts_due c unit units = record {
  elements = [];
  before = [];
  front = [];
  standing = at_start (unit ∷ units);
  unit = unit;
  others = units;
  here = [];
  part = [];
  cut = refl;
  covers = (refl, refl, refl);
  same = refl;
  first = refl;
  is_part = in_code (record { left = refl; none = refl; front = inl refl; no_code = λ h k. refl });
  in_bounds = refl;
}

-- the place of the current unit isn't among those done
pub next_apart : (done : List Place) (next : Place) (more : List Place) → AreDistinct (done ++ next ∷ more) → any_of (is_at next.component next.x next.y) done ≡ false
next_apart done next more d = (apart_swap done (next ∷ more) (apart_of done (next ∷ more) d)).0

pub some_places : (places : List Place) → 1 ≤ length places → (p : Place) × (more : List Place) × (places ≡ p ∷ more)
some_places [] h = absurd (omega arith)
some_places (p ∷ more) h = (p, more, refl)
