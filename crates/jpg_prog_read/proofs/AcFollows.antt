-- If old values take the next bit, they still do after an earlier interval.
use Rattle.std.proofs.Common.{◌≡◌, ℕ, ◌≤◌, false, List, [], ◌∷◌, ◌++◌, sym, subst, ℤ}
use Rattle.std.specs.List.{All}
use Rattle.std.proofs.lemmas.List.Elements.{All-nil, All-cons, All-head, All-tail}
use Rattle.jpg_spec.specs.Lists.{any_of}
use Rattle.jpg_spec.specs.Scan.{Blocks, Scan, band, block_at}
use Rattle.jpg_spec.specs.PictureInWork.{is_at, AreDistinct}
use Rattle.jpg_spec.specs.declared.frame.Place.{Place}
use Rattle.jpg_spec.proofs.Places.PictureInWork.{AreApart, apart_of, apart_swap}
use Rattle.jpg_spec.proofs.Basics.Rows.{all_back}
use Rattle.jpg_coefs.specs.Picture.{Picture, map_of}
use Rattle.jpg_coefs.specs.Machine.{Interval}
use Rattle.jpg_prog_read.specs.RepresentsAcScan.{HasCorrectionRoom, BandHasRoom, IsAcInterval, NextIsAc}

room_kept : (s : Scan) (old new : Blocks) (places later : List Place) → ((i x y : ℕ) → any_of (is_at i x y) places ≡ false → new i x y ≡ old i x y) → AreApart later places → All (BandHasRoom s old) later → All (BandHasRoom s new) later
room_kept s old new places [] same apart room = All-nil (BandHasRoom s new)
room_kept s old new places (p ∷ later) same apart room =
    let here : block_at new p ≡ block_at old p = same p.component p.x p.y apart.0 in
    All-cons (BandHasRoom s new) p later (subst (λ (l : List ℤ). All (HasCorrectionRoom s.coding) (band s l)) (sym here) (All-head (BandHasRoom s old) p later room))
    (room_kept s old new places later same apart.1 (All-tail (BandHasRoom s old) p later room))

pub next_is_ac : (i : Interval) → AreDistinct (i.places ++ i.later) → IsAcInterval i → NextIsAc i
next_is_ac i distinct is bits now j whole follows =
    let apart = apart_swap i.places i.later (apart_of i.places i.later distinct) in
    let old = all_back (BandHasRoom i.scan (map_of i.before)) i.places i.later is.room in
    let new = room_kept i.scan (map_of i.before) (map_of now) i.places i.later ((whole.read).changes).elsewhere apart old in
    let S : Scan → Type 0 = λ s. All (BandHasRoom s (map_of j.before)) (j.places ++ j.later) in
    let L : List Place → Type 0 = λ l. All (BandHasRoom i.scan (map_of j.before)) l in
    let Q : Picture → Type 0 = λ q. All (BandHasRoom i.scan (map_of q)) i.later in
    record {
      some = subst (λ (s : Scan). 1 ≤ s.ss) (sym follows.scan) is.some;
      band = subst (λ (s : Scan). s.ss ≤ s.se) (sym follows.scan) is.band;
      most = subst (λ (s : Scan). s.se ≤ 63) (sym follows.scan) is.most;
      room = subst S (sym follows.scan) (subst L (sym follows.places) (subst Q (sym follows.before) new));
    }
