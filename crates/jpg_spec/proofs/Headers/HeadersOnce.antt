-- Segments before the first scan, and the items of a file that begin the same bytes: one continues the other.
use Rattle.std.proofs.Common.{◌≡◌, ℕ, Bool, true, false, ◌||◌, ◌==◌, List, [], ◌∷◌, ◌++◌, map, refl, ap, ◌∙◌, arith}
use Rattle.std.proofs.lemmas.List.{append_assoc}
use Rattle.std.proofs.lemmas.Bool.Decides.{nat_tests}
use Rattle.jpg_spec.specs.Markers.{Segment, soi, has_scan}
use Rattle.jpg_spec.specs.Items.{Item, segment, segments_of, SpellsItem, SpellsFront}

-- LISTS OF ITEMS, the newest first

-- these items with no SOI before them
abbrev pub SpellsItems : List Item → List ℕ → Type 0
SpellsItems [] bytes = bytes ≡ []
SpellsItems (item ∷ before) bytes = (front : List ℕ) × (rest : List ℕ) × (bytes ≡ front ++ rest) × SpellsItems before front × SpellsItem item rest

pub after_front : (items : List Item) (bytes : List ℕ) → SpellsFront items bytes → (text : List ℕ) × (bytes ≡ soi ++ text) × SpellsItems items text
after_front [] bytes s = ([], s, refl)
after_front (item ∷ items) bytes s =
    let h = after_front items s.0 s.3 in
    (h.0 ++ s.1, s.2 ∙ ap (λ l. l ++ s.1) h.1 ∙ append_assoc soi h.0 s.1, (h.0, s.1, refl, h.2, s.4))

-- segments as items
abbrev pub item_of : Segment → Item
item_of s = segment s.0 s.1

abbrev pub items_of : List Segment → List Item
items_of xs = map item_of xs

-- whether they are only segments
abbrev pub AreSegments : List Item → Type 0
AreSegments items = items ≡ items_of (segments_of items)

pub segments_of_items : (xs : List Segment) → segments_of (items_of xs) ≡ xs
segments_of_items [] = refl
segments_of_items (x ∷ xs) = ap (λ l. x ∷ l) (segments_of_items xs)

-- The bytes b of the items continue the bytes a of segments, by further items.
abbrev pub ItemsGoOn : List Segment → List ℕ → List Item → List ℕ → Type 0
ItemsGoOn xs a items b = (more : List Item) × (text : List ℕ) × (items ≡ more ++ items_of xs) × (b ≡ a ++ text) × SpellsItems more text

-- no segment among others is an SOS segment where none of all is
no_scan : (xs ys : List Segment) (s : Segment) → has_scan (xs ++ s ∷ [] ++ ys) ≡ false → s.0 ≡ 0xda → ⊥
no_scan [] ys s e h = let t : (s.0 == 0xda) ≡ true = grind (arith, nat_tests) in of (s.0 == 0xda) (has_scan ys) t e
  where
    of : (a b : Bool) → a ≡ true → (a || b) ≡ false → ⊥
    of a b f g = grind arith
no_scan (x ∷ xs) ys s e h = no_scan xs ys s (of (x.0 == 0xda) (has_scan (xs ++ s ∷ [] ++ ys)) e) h
  where
    of : (a b : Bool) → (a || b) ≡ false → b ≡ false
    of true b f = grind arith
    of false b f = f
