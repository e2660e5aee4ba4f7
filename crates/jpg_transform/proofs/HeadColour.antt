-- The colours of a picture with the output's head are those of the picture without, whatever markers are passed on.
use Rattle.std.proofs.Common.{◌≡◌, ◌⊎◌, ℕ, Bool, true, false, cond, ◌==◌, ◌&&◌, List, [], ◌∷◌, ◌++◌, length, Option, Some, None, map, refl, sym, ap, ◌∙◌, subst, inl, inr}
use Rattle.std.specs.Prelude.{◌||◌, nat_le, not, find, filter, reverse}
use Rattle.std.proofs.lemmas.List.{reverse-append}
use Rattle.jpg_spec.specs.Colours.{colours_of, four_colours, three_colours, is_some_zero, is_some_number}
use Rattle.jpg_spec.specs.Jfif.{adobe_transform, begins_adobe, begins_jfif, is_adobe, is_jfif, jfif_of, parsed_jfif}
use Rattle.jpg_spec.specs.Lists.{any_of, are_equal}
use Rattle.jpg_spec.specs.Markers.{Segment}
use Rattle.jpg_spec.specs.Meaning.{Meaning, colour_of}
use Rattle.jpg_spec_move.specs.Moved.{Choice, headed_as}
use Rattle.jpg_spec_write.specs.Headed.{adobe_contents, copied, headed_kept, jfif_contents}
use Rattle.jpg_spec.specs.declared.frame.Colour.{Colour}
use Rattle.jpg_spec.specs.declared.frame.Colour.TheVariants.{Gray, YCbCr, Rgb, Cmyk, Ycck, Unknown}
use Rattle.jpg_spec.specs.declared.frame.Copying.{Copying}
use Rattle.jpg_spec.specs.declared.frame.Copying.TheVariants as copying
use Rattle.jpg_spec.specs.declared.jfif.Jfif.{Jfif}
use Rattle.jpg_spec.proofs.Basics.Common.{negated, neither, same_of}

-- NONE IS FOUND

nothing_found : (x : Segment) → Some x ≡ None → ⊥
nothing_found x e = cc

abbrev HasNone : (Segment → Bool) → List Segment → Type 0
HasNone t xs = find t xs ≡ None

none_any : (t : Segment → Bool) (xs : List Segment) → HasNone t xs → any_of t xs ≡ false
none_any t [] e = refl
none_any t (x ∷ xs) e = by (t x) e (λ h. none_any t xs h)
  where
    by : (b : Bool) → cond b (Some x) (find t xs) ≡ None → (HasNone t xs → any_of t xs ≡ false) → (b || any_of t xs) ≡ false
    by true h later = absurd (nothing_found x h)
    by false h later = later h

find_behind : (t : Segment → Bool) (a b : List Segment) → HasNone t a → find t (a ++ b) ≡ find t b
find_behind t [] b h = refl
find_behind t (x ∷ a) b h = by (t x) h (find_behind t a b)
  where
    by : (v : Bool) → cond v (Some x) (find t a) ≡ None → (HasNone t a → find t (a ++ b) ≡ find t b) → cond v (Some x) (find t (a ++ b)) ≡ find t b
    by true e next = absurd (nothing_found x e)
    by false e next = next e

last_one : (t : Segment → Bool) (own : Segment) (b : Bool) (rest : List Segment) → t own ≡ b → HasNone t (reverse rest) → find t (reverse (own ∷ rest)) ≡ cond b (Some own) None
last_one t own b rest e none =
    ap (find t) (reverse-append (own ∷ []) rest) ∙ find_behind t (reverse rest) (own ∷ []) none ∙ ap (λ b. cond b (Some own) (let n : Option Segment = None in n)) e

-- by each
from_each : (t : Segment → Bool) (rest : List Segment) → any_of t rest ≡ false → HasNone t (reverse rest)
from_each t [] e = refl
from_each t (x ∷ rest) e = (let n = neither (t x) (any_of t rest) e in last_one t x false rest n.0 (from_each t rest n.1))

any_after : (t : Segment → Bool) (a : List Segment) (x : Segment) → any_of t (a ++ x ∷ []) ≡ false → (any_of t a ≡ false) × (t x ≡ false)
any_after t [] x e = (refl, (neither (t x) false e).0)
any_after t (y ∷ a) x e = (let n = neither (t y) (any_of t (a ++ x ∷ [])) e in let h = any_after t a x n.1 in (ap (λ b. b || any_of t a) n.0 ∙ h.0, h.1))

to_each : (t : Segment → Bool) (rest : List Segment) → any_of t (reverse rest) ≡ false → any_of t rest ≡ false
to_each t [] e = refl
to_each t (x ∷ rest) e =
    let h = any_after t (reverse rest) x (ap (any_of t) (sym (reverse-append (x ∷ []) rest)) ∙ e) in
    ap (λ b. b || any_of t rest) h.1 ∙ to_each t rest h.0

-- those that pass
passed : (t pass : Segment → Bool) (xs : List Segment) → any_of t xs ≡ false → any_of t (filter pass xs) ≡ false
passed t pass [] e = refl
passed t pass (x ∷ xs) e = (let n = neither (t x) (any_of t xs) e in by (pass x) n.0 (passed t pass xs n.1))
  where
    by : (b : Bool) → t x ≡ false → any_of t (filter pass xs) ≡ false → any_of t (cond b (x ∷ filter pass xs) (filter pass xs)) ≡ false
    by true e later = ap (λ b. b || any_of t (filter pass xs)) e ∙ later
    by false e later = later

left_out : (t pass : Segment → Bool) → ((s : Segment) → pass s ≡ true → t s ≡ false) → (xs : List Segment) → any_of t (filter pass xs) ≡ false
left_out t pass out [] = refl
left_out t pass out (x ∷ xs) = by (pass x) refl (left_out t pass out xs)
  where
    by : (b : Bool) → pass x ≡ b → any_of t (filter pass xs) ≡ false → any_of t (cond b (x ∷ filter pass xs) (filter pass xs)) ≡ false
    by true e later = ap (λ b. b || any_of t (filter pass xs)) (out x e) ∙ later
    by false e later = later

no_jfif : (s : Segment) → not (begins_jfif s.0 s.1) ≡ true → is_jfif s ≡ false
no_jfif s e = ap (λ b. b && nat_le 14 (length s.1)) (negated (begins_jfif s.0 s.1) e)

no_adobe : (s : Segment) → not (begins_adobe s.0 s.1) ≡ true → is_adobe s ≡ false
no_adobe s e = ap (λ b. b && nat_le 12 (length s.1)) (negated (begins_adobe s.0 s.1) e)

comment_no_jfif : (s : Segment) → (s.0 == 0xfe) ≡ true → is_jfif s ≡ false
comment_no_jfif s e = ap (λ c. begins_jfif c s.1 && nat_le 14 (length s.1)) (same_of s.0 0xfe e)

-- WHAT THE DEFAULT HEADER SAYS

abbrev others_than_jfif : List Segment → List Segment
others_than_jfif rest = filter (λ s. not (begins_jfif s.0 s.1)) rest

abbrev others_than_adobe : List Segment → List Segment
others_than_adobe rest = filter (λ s. not (begins_adobe s.0 s.1)) rest

own_jfif : (j : Jfif) (rest : List Segment) → (jfif_of ((0xe0, jfif_contents j) ∷ others_than_jfif rest)).seen ≡ true
own_jfif j rest =
    ap (λ o. (parsed_jfif o).seen) (last_one is_jfif (0xe0, jfif_contents j) true (others_than_jfif rest) refl (from_each is_jfif (others_than_jfif rest) (left_out is_jfif (λ s. not (begins_jfif s.0 s.1)) no_jfif rest)))

own_transform : (n : ℕ) (rest : List Segment) → adobe_transform ((0xee, adobe_contents n) ∷ others_than_adobe rest) ≡ Some n
own_transform n rest =
    rw (last_one is_adobe (0xee, adobe_contents n) true (others_than_adobe rest) refl (from_each is_adobe (others_than_adobe rest) (left_out is_adobe (λ s. not (begins_adobe s.0 s.1)) no_adobe rest))) refl

-- a JFIF header isn't found if there was none
own_unseen : (n : ℕ) (rest : List Segment) → any_of is_jfif rest ≡ false → (jfif_of ((0xee, adobe_contents n) ∷ others_than_adobe rest)).seen ≡ false
own_unseen n rest none =
    ap (λ o. (parsed_jfif o).seen) (last_one is_jfif (0xee, adobe_contents n) false (others_than_adobe rest) refl (from_each is_jfif (others_than_adobe rest) (passed is_jfif (λ s. not (begins_adobe s.0 s.1)) rest none)))

-- of what is passed on
unseen_copied : (c : Copying) (kept : List Segment) → any_of is_jfif kept ≡ false → any_of is_jfif (copied c kept) ≡ false
unseen_copied copying.None kept none = refl
unseen_copied copying.Comments kept none = left_out is_jfif (λ s. s.0 == 0xfe) comment_no_jfif kept
unseen_copied copying.All kept none = none

seen_none : (kept : List Segment) → (jfif_of kept).seen ≡ false → any_of is_jfif kept ≡ false
seen_none kept e = to_each is_jfif kept (none_any is_jfif (reverse kept) (by (find is_jfif (reverse kept)) e))
  where
    by : (o : Option Segment) → (parsed_jfif o).seen ≡ false → o ≡ None
    by None h = refl
    by (Some s) h = cc

-- COLOURS by the tests of the number of components

abbrev IsThree : Bool → Colour → Type 0
IsThree seen c = (c ≡ YCbCr) ⊎ ((c ≡ Rgb) × (seen ≡ false))

abbrev IsFour : Colour → Type 0
IsFour c = (c ≡ Cmyk) ⊎ (c ≡ Ycck)

is_three : (ids : List ℕ) (seen : Bool) (adobe : Option ℕ) → IsThree seen (three_colours ids seen adobe)
is_three ids seen adobe = by seen (is_some_zero adobe) (is_some_number adobe) (are_equal ids (82 ∷ 71 ∷ 66 ∷ []))
  where
    by : (a b c d : Bool) → IsThree a (cond a YCbCr (cond b Rgb (cond c YCbCr (cond d Rgb YCbCr))))
    by true b c d = inl refl
    by false true c d = inr (refl, refl)
    by false false true d = inl refl
    by false false false true = inr (refl, refl)
    by false false false false = inl refl

is_four : (adobe : Option ℕ) → IsFour (four_colours adobe)
is_four adobe = by (is_some_zero adobe) (is_some_number adobe)
  where
    by : (a b : Bool) → IsFour (cond a Cmyk (cond b Ycck Cmyk))
    by true b = inl refl
    by false true = inr refl
    by false false = inl refl

keeps : (c : Colour) (seen : Bool) (count : ℕ) (t f u g : Colour) → IsThree seen t → IsFour f → (IsThree seen c → u ≡ c) → (IsFour c → g ≡ c)
    → cond (count == 1) Gray (cond (count == 3) t (cond (count == 4) f Unknown)) ≡ c → cond (count == 1) Gray (cond (count == 3) u (cond (count == 4) g Unknown)) ≡ c
keeps c seen count t f u g a b x y h = by (count == 1) (count == 3) (count == 4) h
  where
    by : (one three four : Bool) → cond one Gray (cond three t (cond four f Unknown)) ≡ c → cond one Gray (cond three u (cond four g Unknown)) ≡ c
    by true three four h = h
    by false true four h = x (subst (IsThree seen) h a)
    by false false true h = y (subst IsFour h b)
    by false false false h = h

abbrev own_kept : Colour → Copying → List Segment → List Segment
own_kept c copying kept = headed_kept c (jfif_of kept) (copied copying kept)

tells_three : (c : Colour) (ids : List ℕ) (copying : Copying) (kept : List Segment) → IsThree (jfif_of kept).seen c → three_colours ids (jfif_of (own_kept c copying kept)).seen (adobe_transform (own_kept c copying kept)) ≡ c
tells_three c ids copying kept (inl e) =
    subst (λ k. three_colours ids (jfif_of (own_kept k copying kept)).seen (adobe_transform (own_kept k copying kept)) ≡ k) (sym e)
    (ap (λ s. three_colours ids s (adobe_transform (own_kept YCbCr copying kept))) (own_jfif (jfif_of kept) (copied copying kept)))
tells_three c ids copying kept (inr (e, unseen)) =
    subst (λ k. three_colours ids (jfif_of (own_kept k copying kept)).seen (adobe_transform (own_kept k copying kept)) ≡ k) (sym e)
    (ap (λ s. three_colours ids s (adobe_transform (own_kept Rgb copying kept))) (own_unseen 0 (copied copying kept) (unseen_copied copying kept (seen_none kept unseen)))
    ∙ ap (three_colours ids false) (own_transform 0 (copied copying kept)))

tells_four : (c : Colour) (copying : Copying) (kept : List Segment) → IsFour c → four_colours (adobe_transform (own_kept c copying kept)) ≡ c
tells_four c copying kept (inl e) = subst (λ k. four_colours (adobe_transform (own_kept k copying kept)) ≡ k) (sym e) (ap four_colours (own_transform 0 (copied copying kept)))
tells_four c copying kept (inr e) = subst (λ k. four_colours (adobe_transform (own_kept k copying kept)) ≡ k) (sym e) (ap four_colours (own_transform 2 (copied copying kept)))

own_colour : (count : ℕ) (ids : List ℕ) (c : Colour) (copying : Copying) (kept : List Segment) → colours_of count ids (jfif_of kept).seen (adobe_transform kept) ≡ c
    → colours_of count ids (jfif_of (own_kept c copying kept)).seen (adobe_transform (own_kept c copying kept)) ≡ c
own_colour count ids c copying kept e =
    keeps c (jfif_of kept).seen count (three_colours ids (jfif_of kept).seen (adobe_transform kept)) (four_colours (adobe_transform kept)) _ _
    (is_three ids (jfif_of kept).seen (adobe_transform kept)) (is_four (adobe_transform kept)) (tells_three c ids copying kept) (tells_four c copying kept) e

pub headed_colour : (choice : Choice) (M : Meaning) → colour_of (headed_as choice M) ≡ colour_of M
headed_colour choice M = own_colour (length M.components) (map (λ c. c.id) M.components) (colour_of M) choice.copying M.kept refl
