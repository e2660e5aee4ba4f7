-- What an image writer's calls append, one after another, is the text of its image.
use Rattle.std.proofs.Common.{◌≡◌, ℕ, ◌+◌, ◌-◌, ◌<◌, ◌≤◌, Bool, true, false, List, [], ◌∷◌, ◌++◌, length, take, get_or, min, append_assoc, refl, sym, ap, ◌∙◌, arith, subst, Ok, ⊎_elim}
use Rattle.std.specs.Prelude.{flat_map, nat_le, if◌then◌else◌}
use Rattle.std.proofs.lemmas.Bool.{cases_lt}
use Rattle.std.proofs.lemmas.Bool.Decides.{nat_tests}
use Rattle.std.proofs.lemmas.Grind.{flat_map-append}
use Rattle.std.proofs.lemmas.List.{append-nil, length-append, take_all, take_more, get_or_past}
use Rattle.jpg_spec_image.specs.ImageText.{first_piece, row_piece, rest, end_text}
use Rattle.jpg_spec_image.specs.declared.image.EndKind.{EndKind}
use Rattle.jpg_spec_image.specs.declared.image.EndKind.TheVariants.{Pnm, Bmp, Targa}
use Rattle.jpg_spec_image.specs.declared.image.ImageInfo.{ImageInfo}
use Rattle.jpg_pnm_bmp.specs.EndState.{EndState, info_given, held_of, new_end, with_part, is_last, parts_due, next_part, CanTakeRow, CanFinish, Starts, TakesRow, Finishes}
use Rattle.jpg_pnm_bmp.specs.Written.{WrittenImage, Wrote, PartsGoOn, begun, with_next, text_up_to}
use Rattle.jpg_pnm_bmp.specs.declared.write.end.Finish.{Finish}
use Rattle.jpg_pnm_bmp.specs.declared.write.end.Finish.TheVariants.{More, Done}

abbrev flat : List (List ℕ) → List ℕ
flat parts = flat_map (λ part. part) parts

pub none_held : (kind : EndKind) → [] ≡ held_of kind []
none_held Pnm = refl
none_held Bmp = refl
none_held Targa = refl

pub text_begins : (k : EndKind) (i : ImageInfo) (s t : List ℕ) (e : EndState) → Starts (new_end k) s i (Ok tt) e t → Wrote e (begun i s) t
text_begins k i s t e h =
    let first = first_piece k i in
    let text : s ++ first ≡ s ++ text_up_to k (begun i s) 0 = ap (λ x. s ++ x) (sym (append-nil (first ++ []) ∙ append-nil first)) in
    subst (λ n. Wrote n (begun i s) t) (sym h.0) (record { told = refl; taken = refl; held = none_held k; text = h.1 ∙ text; whole = λ d. (let z : false ≡ true = d in cc) })

-- one more row
pub more_held : (kind : EndKind) (rows : List (List ℕ)) (row : List ℕ) → held_of kind rows ++ held_of kind (row ∷ []) ≡ held_of kind (rows ++ row ∷ [])
more_held Pnm rows row = refl
more_held Bmp rows row = refl
more_held Targa rows row = refl

row_text : (k : EndKind) (i : WrittenImage) (r : List ℕ) → text_up_to k i 0 ++ row_piece k i.info r ≡ text_up_to k (with_next i r) 0
row_text k i r =
    let first = first_piece k i.info in
    let rows = flat_map (row_piece k i.info) i.rows in
    let next = row_piece k i.info r in
    let last : flat_map (row_piece k i.info) (r ∷ []) ≡ next = append-nil next in
    ap (λ t. t ++ next) (append-nil (first ++ rows)) ∙ append_assoc first rows next
    ∙ ap (λ t. first ++ t) (ap (λ t. rows ++ t) (sym last) ∙ sym (flat_map-append (row_piece k i.info) i.rows (r ∷ [])))
    ∙ sym (append-nil (first ++ flat_map (row_piece k i.info) (i.rows ++ r ∷ [])))

pub text_grows : (i : WrittenImage) (r s t : List ℕ) (e n : EndState) → Wrote e i s → CanTakeRow e r → TakesRow e s r (Ok tt) n t → Wrote n (with_next i r) t
text_grows i r s t e n w c h =
    let none = c.unfinished in
    let so_far : s ≡ i.before ++ text_up_to e.kind i 0 = w.text ∙ ap (λ p. i.before ++ text_up_to e.kind i p) none in
    let piece : row_piece e.kind (info_given e.info) r ≡ row_piece e.kind i.info r = ap (λ o. row_piece e.kind (info_given o) r) w.told in
    let text : t ≡ i.before ++ text_up_to e.kind (with_next i r) e.parts =
    h.1 ∙ ap (λ x. x ++ row_piece e.kind (info_given e.info) r) so_far ∙ ap (λ x. (i.before ++ text_up_to e.kind i 0) ++ x) piece
    ∙ append_assoc i.before (text_up_to e.kind i 0) (row_piece e.kind i.info r) ∙ ap (λ x. i.before ++ x) (row_text e.kind i r)
    ∙ ap (λ p. i.before ++ text_up_to e.kind (with_next i r) p) (sym none) in
    subst (λ m. Wrote m (with_next i r) t) (sym h.0) (record {
      told = w.told;
      taken = ap (λ m. m + 1) w.taken ∙ sym (length-append i.rows (r ∷ []));
      held = ap (λ rows. rows ++ held_of e.kind (r ∷ [])) w.held ∙ more_held e.kind i.rows r;
      text = text;
      whole = λ d. (let z : false ≡ true = sym c.before ∙ d in cc);
    })

-- the parts after the rows
pub due_held : (kind : EndKind) (info : ImageInfo) (rows : List (List ℕ)) → rest kind info (held_of kind rows) ≡ rest kind info rows
due_held Pnm info rows = refl
due_held Bmp info rows = refl
due_held Targa info rows = refl

due_is : (i : WrittenImage) (s : List ℕ) (e : EndState) → Wrote e i s → parts_due e ≡ rest e.kind i.info i.rows
due_is i s e w = ap (rest e.kind (info_given e.info)) w.held ∙ due_held e.kind (info_given e.info) i.rows ∙ ap (λ o. rest e.kind (info_given o) i.rows) w.told

part_more : (due : List (List ℕ)) (parts : ℕ) → flat (take (min (parts + 1) (length due)) due) ≡ flat (take parts due) ++ get_or due parts []
part_more due parts =
    ⊎_elim
    (λ (h : parts < length due). (
    let count : min (parts + 1) (length due) ≡ parts + 1 = omega (arith, h) in
    ap (λ m. flat (take m due)) count ∙ ap flat (take_more due parts [] h) ∙ flat_map-append (λ part. part) (take parts due) (get_or due parts [] ∷ [])
    ∙ ap (λ x. flat (take parts due) ++ x) (append-nil (get_or due parts []))))
    (λ (h : length due ≤ parts). (
    let count : length due ≤ min (parts + 1) (length due) = omega (arith, h) in
    ap flat (take_all (min (parts + 1) (length due)) due count ∙ sym (take_all parts due h)) ∙ sym (append-nil (flat (take parts due)))
    ∙ ap (λ x. flat (take parts due) ++ x) (sym (get_or_past due parts [] h))))
    (cases_lt parts (length due))

part_text : (i : WrittenImage) (s t : List ℕ) (e n : EndState) → Wrote e i s → n ≡ with_part e → t ≡ s ++ next_part e → Wrote n i t
part_text i s t e n w is h =
    let due = rest e.kind i.info i.rows in
    let now = min (e.parts + 1) (length (parts_due e)) in
    let same : parts_due e ≡ due = due_is i s e w in
    let front = first_piece e.kind i.info ++ flat_map (row_piece e.kind i.info) i.rows in
    let part : next_part e ≡ get_or due e.parts [] = ap (λ ps. get_or ps e.parts []) same in
    let count : min (e.parts + 1) (length due) ≡ now = ap (λ ps. min (e.parts + 1) (length ps)) (sym same) in
    let grown : text_up_to e.kind i e.parts ++ get_or due e.parts [] ≡ text_up_to e.kind i now =
    append_assoc front (flat (take e.parts due)) (get_or due e.parts []) ∙ ap (λ x. front ++ x) (sym (part_more due e.parts) ∙ ap (λ m. flat (take m due)) count) in
    let text : t ≡ i.before ++ text_up_to e.kind i now =
    h ∙ ap (λ x. x ++ next_part e) w.text ∙ ap (λ x. (i.before ++ text_up_to e.kind i e.parts) ++ x) part ∙ append_assoc i.before (text_up_to e.kind i e.parts) (get_or due e.parts []) ∙ ap (λ x. i.before ++ x) grown in
    subst (λ m. Wrote m i t) (sym is) (record { told = w.told; taken = w.taken; held = w.held; text = text; whole = λ d. all (length (parts_due e)) e.parts (length due) d (ap length same) })
  where
    all : (most parts due : ℕ) → nat_le most (parts + 1) ≡ true → most ≡ due → due ≤ min (parts + 1) most
    all most parts due d e =
        let low : most ≤ parts + 1 = grind (arith, nat_tests) in
        omega (arith, low, e)

pub text_continues : (i : WrittenImage) (s t : List ℕ) (e n : EndState) → Wrote e i s → Finishes e s (Ok More) n t → Wrote n i t
text_continues i s t e n w h = part_text i s t e n w h.1 h.2

-- the answer says whether a part is the last
abbrev is_done : Finish → Bool
is_done More = false
is_done Done = true

told_done : (b : Bool) → is_done (if b then Done else More) ≡ b
told_done true = refl
told_done false = refl

pub parts_go_on : (s t : List ℕ) (e n : EndState) → CanFinish e → Finishes e s (Ok More) n t → PartsGoOn e n
parts_go_on s t e n c h =
    let last : is_last e ≡ false = sym (told_done (is_last e)) ∙ sym (ap is_done h.0) in
    subst (PartsGoOn e) (sym h.1) (record { can = record { started = c.started; all = c.all; before = last }; fewer = fewer (length (parts_due e)) e.parts last })
  where
    fewer : (most parts : ℕ) → nat_le most (parts + 1) ≡ false → most - min (parts + 1) most < most - parts
    fewer most parts l =
        let high : parts + 1 < most = grind (arith, nat_tests) in
        omega (arith, high)

pub text_ends : (i : WrittenImage) (s t : List ℕ) (e n : EndState) → Wrote e i s → Finishes e s (Ok Done) n t → t ≡ i.before ++ end_text e.kind i.info i.rows
text_ends i s t e n w h =
    let last : is_last e ≡ true = sym (told_done (is_last e)) ∙ sym (ap is_done h.0) in
    let p : Wrote (with_part e) i t = part_text i s t e (with_part e) w refl h.2 in
    let due = rest e.kind i.info i.rows in
    let front = first_piece e.kind i.info ++ flat_map (row_piece e.kind i.info) i.rows in
    p.text ∙ ap (λ ps. i.before ++ (front ++ flat ps)) (take_all (min (e.parts + 1) (length (parts_due e))) due (p.whole last))
