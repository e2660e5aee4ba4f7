-- If data of one scan encode blocks up to two places, the blocks that both encode are the same.
use Rattle.std.proofs.Common.{◌≡◌, ℕ, ◌+◌, ◌%◌, ◌<◌, Bool, true, false, ◌==◌, ◌&&◌, List, [], ◌∷◌, ◌++◌, length, refl, sym, ap, ◌∙◌, subst, arith, inl, inr, ⊎_elim, ℤ}
use Rattle.std.specs.Prelude.{◌⊎◌, ◌||◌, map, flat_map}
use Rattle.std.proofs.lemmas.List.{append_assoc, append-nil, length-append}
use Rattle.jpg_spec.specs.Bits.{bits_of_bytes}
use Rattle.jpg_spec.specs.Lists.{any_of, joined}
use Rattle.jpg_spec.specs.Elements.{at_start, UnitLeft}
use Rattle.jpg_spec.specs.Scan.{Blocks, Scan, SpellsInterval, SpellsIntervals, band, block_at, unit_at}
use Rattle.jpg_spec.specs.Sound.{IsSound}
use Rattle.jpg_spec.specs.Items.{SpellsIntervalsText}
use Rattle.jpg_spec.specs.FileMeaning.{no_blocks}
use Rattle.jpg_spec.specs.PictureInWork.{is_at}
use Rattle.jpg_spec.specs.RowsParsed.{TellsFirst}
use Rattle.jpg_spec.specs.declared.frame.Place.{Place}
use Rattle.jpg_spec.proofs.Files.BlocksOnce.{band_of, length_band}
use Rattle.jpg_spec.proofs.Basics.Common.{both, heads, same_of}
use Rattle.jpg_spec.proofs.Bits.DataFacts.{bits_join}
use Rattle.jpg_spec.proofs.Bits.Gate.{DataGoOn, data_once}
use Rattle.jpg_spec.proofs.Bits.Once.{BeginsElements, Continues, elements_once}
use Rattle.jpg_spec.proofs.Places.PictureInWork.{any_join}
use Rattle.jpg_spec.proofs.Basics.Rows.{append_apart}
use Rattle.jpg_spec.proofs.Bits.Sound.{decodes}
use Rattle.jpg_spec.proofs.Files.ScansOnce.{cut_interval, marked, marked_once, places_apart}

abbrev pub AreBlocks : Blocks → Type 0
AreBlocks told = (i x y : ℕ) → length (told i x y) ≡ 64

-- both encode the same of a block at one of these places, and at one of those
abbrev pub AgreeAt : Scan → List Place → List Place → Blocks → Blocks → Type 0
AgreeAt s a b told other = (i x y : ℕ) → any_of (is_at i x y) a ≡ true → any_of (is_at i x y) b ≡ true → band s (told i x y) ≡ band s (other i x y)

agree_back : (s : Scan) (a b : List Place) (told other : Blocks) → AgreeAt s a b told other → AgreeAt s b a other told
agree_back s a b told other h i x y m n = sym (h i x y n m)

-- AT THE PLACES OF ONE INTERVAL

members : (s : Scan) (told other : Blocks) (a r b q : List Place) (values : List ℤ) → AreBlocks told → AreBlocks other
    → a ++ r ≡ b ++ q → flat_map (band_of s other) b ≡ flat_map (band_of s told) a ++ values → AgreeAt s a b told other
members s told other [] r b q values sizes others e f i x y m n = cc
members s told other (p ∷ a) r [] q values sizes others e f i x y m n = cc
members s told other (p ∷ a) r (p' ∷ b) q values sizes others e f i x y m n =
    by (is_at i x y p) refl m n' (λ u v. members s told other a r b q values sizes others h.1 k.1 i x y u v)
  where
    h : (p ≡ p') × (a ++ r ≡ b ++ q)
    h = heads p p' (a ++ r) (b ++ q) e

    n' : any_of (is_at i x y) (p ∷ b) ≡ true
    n' = ap (λ z. any_of (is_at i x y) (z ∷ b)) h.0 ∙ n

    k : (band_of s other p ≡ band_of s told p) × (flat_map (band_of s other) b ≡ flat_map (band_of s told) a ++ values)
    k =
        append_apart (band_of s other p) (band_of s told p) (flat_map (band_of s other) b) (flat_map (band_of s told) a ++ values)
        (length_band s (block_at other p) (block_at told p) (others p.component p.x p.y ∙ sym (sizes p.component p.x p.y)))
        (ap (λ z. band_of s other z ++ flat_map (band_of s other) b) h.0 ∙ f ∙ append_assoc (band_of s told p) (flat_map (band_of s told) a) values)

    Same : ℕ → ℕ → ℕ → Type 0
    Same i x y = band s (told i x y) ≡ band s (other i x y)

    by : (t : Bool) → is_at i x y p ≡ t → (is_at i x y p || any_of (is_at i x y) a) ≡ true → (is_at i x y p || any_of (is_at i x y) b) ≡ true
        → (any_of (is_at i x y) a ≡ true → any_of (is_at i x y) b ≡ true → Same i x y) → Same i x y
    by true g u v later =
        let w = both (p.component == i && p.x == x) (p.y == y) g in
        let z = both (p.component == i) (p.x == x) w.0 in
        subst (λ c. Same i x c) (same_of p.y y w.1) (subst (λ c. Same i c p.y) (same_of p.x x z.1) (subst (λ c. Same c p.x p.y) (same_of p.component i z.0) (sym k.0)))
    by false g u v later = later (sym (ap (λ t. t || any_of (is_at i x y) a) g) ∙ u) (sym (ap (λ t. t || any_of (is_at i x y) b) g) ∙ v)

abbrev pub units_before : Scan → List Place → List UnitLeft
units_before s places = map (unit_at s no_blocks) places

-- the first bits of an interval encode the blocks at some of its places
pub record DecodesFirst (s : Scan) (told : Blocks) (places part : List Place) (stream : List Bool) : Type 0 where
  pub rest : List Place
  pub bits : List Bool
  pub unread : List Bool
  pub all : places ≡ part ++ rest
  pub cut : stream ≡ bits ++ unread
  pub first : TellsFirst s.coding (units_before s places) (flat_map (band_of s told) part) bits

abbrev pub first_elements : {s : Scan} {told : Blocks} {places part : List Place} {stream : List Bool} (k : DecodesFirst s told places part stream) → BeginsElements s.coding (at_start (units_before s places)) (k.first).0 stream
first_elements {s = s} {told = told} {part = part} k = record { told = flat_map (band_of s told) part; front = k.bits; rest = k.unread; standing = (k.first).1; cut = k.cut; covers = (k.first).2 }

interval_agrees : (s : Scan) (told other : Blocks) (places a b : List Place) (stream : List Bool) → IsSound s.coding → AreBlocks told → AreBlocks other → DecodesFirst s told places a stream → DecodesFirst s other places b stream
    → AgreeAt s a b told other
interval_agrees s told other places a b stream sound sizes others k l =
    ⊎_elim
    (λ (g : Continues (first_elements k) (first_elements l)). members s told other a k.rest b l.rest g.values sizes others (sym k.all ∙ l.all) g.joined.1)
    (λ (g : Continues (first_elements l) (first_elements k)). agree_back s b a other told (members s other told b l.rest a k.rest g.values others sizes (sym l.all ∙ k.all) g.joined.1))
    (elements_once s.coding (at_start (units_before s places)) (k.first).0 (l.first).0 stream (decodes s.coding sound) (first_elements k) (first_elements l))

-- AT ANY PLACES

-- The data of a scan, decoded up to some place: the intervals that are done, the data bytes of the current one, and the
-- bytes behind them; the blocks, at the places of the intervals that are done and at some of the current one's.
pub record DecodedTo : Type 0 where
  pub done : List (List ℕ)
  pub coded : List ℕ
  pub behind : List ℕ
  pub told : Blocks
  pub whole : List (List Place)
  pub part : List Place

abbrev pub reached : DecodedTo → List Place
reached a = joined a.whole ++ a.part

-- with these intervals done, and with one more before them
abbrev pub at_intervals : List (List ℕ) → List (List Place) → DecodedTo → DecodedTo
at_intervals done whole a = record a { done = done; whole = whole }

abbrev pub after_interval : List ℕ → List Place → DecodedTo → DecodedTo
after_interval c q a = at_intervals (c ∷ a.done) (q ∷ a.whole) a

-- What the data encode whose first intervals have these places: the scan's text begins with `turn` intervals that
-- aren't among them.
pub record TellsAt (s : Scan) (all : List (List Place)) (a : DecodedTo) : Type 0 where
  pub rest : List Place
  pub later : List (List Place)
  pub bits : List Bool
  pub unread : List Bool
  pub intervals : all ≡ a.whole ++ (a.part ++ rest) ∷ later
  pub spelled : SpellsIntervals s no_blocks a.told a.whole a.done
  pub cut : bits_of_bytes a.coded ≡ bits ++ unread
  pub first : TellsFirst s.coding (units_before s (a.part ++ rest)) (flat_map (band_of s a.told) a.part) bits
  pub sizes : AreBlocks a.told

-- the same bytes, decoded up to two places
pub record TwoDecoded (s : Scan) (all : List (List Place)) (turn : ℕ) (a b : DecodedTo) : Type 0 where
  pub text : List ℕ
  pub other : List ℕ
  pub first : TellsAt s all a
  pub second : TellsAt s all b
  pub spelled : SpellsIntervalsText turn (a.done ++ a.coded ∷ []) text
  pub other_spelled : SpellsIntervalsText turn (b.done ++ b.coded ∷ []) other
  pub same : text ++ a.behind ≡ other ++ b.behind

pub two_back : (s : Scan) (all : List (List Place)) (turn : ℕ) (a b : DecodedTo) → TwoDecoded s all turn a b → TwoDecoded s all turn b a
two_back s all turn a b w = record { text = w.other; other = w.text; first = w.second; second = w.first; spelled = w.other_spelled; other_spelled = w.spelled; same = sym w.same }

-- a complete interval encodes all its units
pub whole_first : (s : Scan) (told : Blocks) (places : List Place) (coded : List ℕ) → (h : SpellsInterval s no_blocks told places coded) → TellsFirst s.coding (units_before s places) (flat_map (band_of s told) places) h.0
whole_first s told places coded h = (h.2.0, h.2.1, h.2.2)

decodes_whole : (s : Scan) (told : Blocks) (places : List Place) (coded : List ℕ) (x stream : List Bool) → stream ≡ bits_of_bytes coded ++ x → SpellsInterval s no_blocks told places coded → DecodesFirst s told places places stream
decodes_whole s told places coded x stream e h = record {
  rest = [];
  bits = h.0;
  unread = h.1.0 ++ x;
  all = sym (append-nil places);
  cut = e ∙ ap (λ l. l ++ x) h.1.2 ∙ append_assoc h.0 h.1.0 x;
  first = whole_first s told places coded h;
}

-- bits of data that begin the same bytes
bits_meet : (c t u d r v : List ℕ) → DataGoOn c t u d r v ⊎ DataGoOn d r v c t u → (x : List Bool) × (y : List Bool) × (bits_of_bytes c ++ x ≡ bits_of_bytes d ++ y)
bits_meet c t u d r v (inl g) = (bits_of_bytes g.more, [], sym (bits_join c g.more) ∙ ap bits_of_bytes (sym g.joined) ∙ sym (append-nil (bits_of_bytes d)))
bits_meet c t u d r v (inr g) = ([], bits_of_bytes g.more, append-nil (bits_of_bytes c) ∙ ap bits_of_bytes g.joined ∙ bits_join d g.more)

or_of : (a b : Bool) → (a || b) ≡ true → (a ≡ true) ⊎ (b ≡ true)
or_of true b e = inl e
or_of false b e = inr e

-- a block at one of more places
agree_more : (s : Scan) (a b c : List Place) (told other : Blocks) → ((i x y : ℕ) → any_of (is_at i x y) a ≡ true → any_of (is_at i x y) b ≡ true) → AgreeAt s a b told other → AgreeAt s a (b ++ c) told other
agree_more s a b c told other within h i x y m n = h i x y m (within i x y m)

pub front_within : (p a r : List Place) → p ≡ a ++ r → (i x y : ℕ) → any_of (is_at i x y) a ≡ true → any_of (is_at i x y) p ≡ true
front_within p a r e i x y m = ap (any_of (is_at i x y)) e ∙ any_join (is_at i x y) a r ∙ ap (λ t. t || any_of (is_at i x y) r) m

agree_join : (s : Scan) (p a b : List Place) (told other : Blocks) → AgreeAt s p p told other → AgreeAt s a b told other → AgreeAt s (p ++ a) (p ++ b) told other
agree_join s p a b told other h k i x y m n =
    ⊎_elim (λ (t : any_of (is_at i x y) p ≡ true). h i x y t t)
    (λ (u : any_of (is_at i x y) a ≡ true). ⊎_elim (λ (t : any_of (is_at i x y) p ≡ true). h i x y t t) (λ (v : any_of (is_at i x y) b ≡ true). k i x y u v)
    (or_of (any_of (is_at i x y) p) (any_of (is_at i x y) b) (sym (any_join (is_at i x y) p b) ∙ n)))
    (or_of (any_of (is_at i x y) p) (any_of (is_at i x y) a) (sym (any_join (is_at i x y) p a) ∙ m))

-- THE FIRST INTERVAL of the data
module _ (s : Scan) (sound : IsSound s.coding) (p : List Place) (all : List (List Place)) (turn : ℕ) where
  pub decodes_part : (a : DecodedTo) (x stream : List Bool) → stream ≡ bits_of_bytes a.coded ++ x → TellsAt s (p ∷ all) (at_intervals [] [] a) → DecodesFirst s a.told p a.part stream
  decodes_part a x stream e w =
      let same = (places_apart p (a.part ++ w.rest) all w.later w.intervals).0 in
      record {
        rest = w.rest;
        bits = w.bits;
        unread = w.unread ++ x;
        all = same;
        cut = e ∙ ap (λ l. l ++ x) w.cut ∙ append_assoc w.bits w.unread x;
        first = subst (λ q. TellsFirst s.coding (units_before s q) (flat_map (band_of s a.told) a.part) w.bits) (sym same) w.first;
      }

  -- what is encoded after it, and in it
  abbrev pub tells_later : (c : List ℕ) (q : List Place) (a : DecodedTo) → TellsAt s (p ∷ all) (after_interval c q a) → TellsAt s all a
  tells_later c q a w = record {
    rest = w.rest;
    later = w.later;
    bits = w.bits;
    unread = w.unread;
    intervals = (places_apart p q all (a.whole ++ (a.part ++ w.rest) ∷ w.later) w.intervals).1;
    spelled = (w.spelled).1;
    cut = w.cut;
    first = w.first;
    sizes = w.sizes;
  }

  pub tells_interval : (c : List ℕ) (q : List Place) (a : DecodedTo) → TellsAt s (p ∷ all) (after_interval c q a) → (p ≡ q) × SpellsInterval s no_blocks a.told p c
  tells_interval c q a w =
      let same = (places_apart p q all (a.whole ++ (a.part ++ w.rest) ∷ w.later) w.intervals).0 in
      (same, subst (λ x. SpellsInterval s no_blocks a.told x c) (sym same) (w.spelled).0)

  abbrev pub two_later : (f g : List ℕ) (q q' : List Place) (a b : DecodedTo) → TwoDecoded s (p ∷ all) turn (after_interval f q a) (after_interval g q' b) → (f ≡ g) × TwoDecoded s all (turn + 1) a b
  two_later f g q q' a b w =
      let code = 0xd0 + turn % 8 in
      let k = cut_interval turn f a.done a.coded w.text w.spelled in
      let l = cut_interval turn g b.done b.coded w.other w.other_spelled in
      let stream = w.text ++ a.behind in
      let h = marked_once code code f g stream (k.rest ++ a.behind) (l.rest ++ b.behind) (marked turn f (a.done ++ a.coded ∷ []) w.text a.behind stream refl k) (marked turn g (b.done ++ b.coded ∷ []) w.other b.behind stream w.same l) in
      (h.0, record { text = k.rest; other = l.rest; first = tells_later f q a w.first; second = tells_later g q' b w.second; spelled = k.later; other_spelled = l.later; same = h.1 })

  -- both are in it
  first_both : (a b : DecodedTo) → TwoDecoded s (p ∷ all) turn (at_intervals [] [] a) (at_intervals [] [] b) → AgreeAt s a.part b.part a.told b.told
  first_both a b w =
      let m = bits_meet a.coded w.text a.behind b.coded w.other b.behind (data_once a.coded b.coded w.text w.other a.behind b.behind w.spelled w.other_spelled w.same) in
      let stream = bits_of_bytes a.coded ++ m.0 in
      interval_agrees s a.told b.told p a.part b.part stream sound (w.first).sizes (w.second).sizes (decodes_part a m.0 stream refl w.first) (decodes_part b m.1 stream m.2 w.second)

  -- the first is in it, and the second after it
  first_after : (a b : DecodedTo) (g : List ℕ) (q : List Place) → TwoDecoded s (p ∷ all) turn (at_intervals [] [] a) (after_interval g q b) → AgreeAt s a.part (joined (q ∷ b.whole) ++ b.part) a.told b.told
  first_after a b g q w =
      let cut = cut_interval turn g b.done b.coded w.other w.other_spelled in
      let rest = cut.rest ++ b.behind in
      let k = marked turn g (b.done ++ b.coded ∷ []) w.other b.behind (w.text ++ a.behind) w.same cut in
      let m = bits_meet a.coded w.text a.behind g k.front (k.marker ++ rest) (data_once a.coded g w.text k.front a.behind (k.marker ++ rest) w.spelled k.spelled k.cut) in
      let stream = bits_of_bytes a.coded ++ m.0 in
      let h = tells_interval g q b w.second in
      let here = decodes_part a m.0 stream refl w.first in
      let agree = interval_agrees s a.told b.told p a.part p stream sound (w.first).sizes (w.second).sizes here (decodes_whole s b.told p g m.1 stream m.2 h.1) in
      let all_of_it : p ++ reached b ≡ joined (q ∷ b.whole) ++ b.part = ap (λ x. x ++ reached b) h.0 ∙ sym (append_assoc q (joined b.whole) b.part) in
      subst (λ x. AgreeAt s a.part x a.told b.told) all_of_it (agree_more s a.part p (reached b) a.told b.told (front_within p a.part here.rest here.all) agree)

  -- both are after it
  both_after : (f g : List ℕ) (q q' : List Place) (a b : DecodedTo) → f ≡ g → TwoDecoded s (p ∷ all) turn (after_interval f q a) (after_interval g q' b) → AgreeAt s (reached a) (reached b) a.told b.told
      → AgreeAt s (joined (q ∷ a.whole) ++ a.part) (joined (q' ∷ b.whole) ++ b.part) a.told b.told
  both_after f g q q' a b same w agree =
      let h = tells_interval f q a w.first in
      let k = tells_interval g q' b w.second in
      let bits = bits_of_bytes f in
      let other = subst (λ x. SpellsInterval s no_blocks b.told p x) (sym same) k.1 in
      let first = interval_agrees s a.told b.told p p p (bits ++ []) sound (w.first).sizes (w.second).sizes (decodes_whole s a.told p f [] (bits ++ []) refl h.1) (decodes_whole s b.told p f [] (bits ++ []) refl other) in
      let x1 : p ++ reached a ≡ joined (q ∷ a.whole) ++ a.part = ap (λ x. x ++ reached a) h.0 ∙ sym (append_assoc q (joined a.whole) a.part) in
      let x2 : p ++ reached b ≡ joined (q' ∷ b.whole) ++ b.part = ap (λ x. x ++ reached b) k.0 ∙ sym (append_assoc q' (joined b.whole) b.part) in
      subst (λ x. AgreeAt s x (joined (q' ∷ b.whole) ++ b.part) a.told b.told) x1 (subst (λ x. AgreeAt s (p ++ reached a) x a.told b.told) x2 (agree_join s p (reached a) (reached b) a.told b.told first agree))

-- as many intervals are done as have places, and there are more
pub as_many : (s : Scan) (before told : Blocks) (whole : List (List Place)) (done : List (List ℕ)) → SpellsIntervals s before told whole done → length whole ≡ length done
as_many s before told [] [] k = refl
as_many s before told [] (c ∷ done) k = absurd k
as_many s before told (p ∷ whole) [] k = absurd k
as_many s before told (p ∷ whole) (c ∷ done) k = let n = as_many s before told whole done k.1 in omega (arith, n)

pub some_left : (s : Scan) (all : List (List Place)) (a : DecodedTo) → TellsAt s all a → length a.done < length all
some_left s all a w = omega (arith, as_many s no_blocks a.told a.whole a.done w.spelled, ap length w.intervals, length-append a.whole ((a.part ++ w.rest) ∷ w.later))

module _ (s : Scan) (sound : IsSound s.coding) where
  alike_from : (all : List (List Place)) (turn : ℕ) (done done' : List (List ℕ)) (whole whole' : List (List Place)) (a b : DecodedTo) → TwoDecoded s all turn (at_intervals done whole a) (at_intervals done' whole' b)
      → AgreeAt s (joined whole ++ a.part) (joined whole' ++ b.part) a.told b.told
  alike_from (p ∷ all) turn [] [] [] [] a b w = first_both s sound p all turn a b w
  alike_from (p ∷ all) turn [] (g ∷ done') [] (q ∷ whole') a b w = first_after s sound p all turn a (at_intervals done' whole' b) g q w
  alike_from (p ∷ all) turn (f ∷ done) [] (q ∷ whole) [] a b w =
      let a' = at_intervals done whole a in
      let back = two_back s (p ∷ all) turn (after_interval f q a') (at_intervals [] [] b) w in
      agree_back s b.part (joined (q ∷ whole) ++ a.part) b.told a.told (first_after s sound p all turn b a' f q back)
  alike_from (p ∷ all) turn (f ∷ done) (g ∷ done') (q ∷ whole) (q' ∷ whole') a b w =
      let a' = at_intervals done whole a in
      let b' = at_intervals done' whole' b in
      let h = two_later s sound p all turn f g q q' a' b' w in
      both_after s sound p all turn f g q q' a' b' h.0 w (alike_from all (turn + 1) done done' whole whole' a b h.1)
  alike_from all turn done done' whole whole' a b w =
      absurd (omega (arith, as_many s no_blocks a.told whole done (w.first).spelled, as_many s no_blocks b.told whole' done' (w.second).spelled, some_left s all (at_intervals done whole a) w.first))

  -- THE LAW
  pub told_alike : (all : List (List Place)) (turn : ℕ) (a b : DecodedTo) → TwoDecoded s all turn a b → AgreeAt s (reached a) (reached b) a.told b.told
  told_alike all turn a b w = alike_from all turn a.done b.done a.whole b.whole a b w
