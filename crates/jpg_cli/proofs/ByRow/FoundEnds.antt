-- The image writer of a format, among writers that are tried one after another.
use Rattle.std.proofs.Common.{◌≡◌, ◌||◌, suc, arith, length, true, false, List, [], ◌∷◌, ◌++◌, map, refl, sym, ap, ◌∙◌, subst}
use Rattle.std.proofs.lemmas.List.{map-append}
use Rattle.std.proofs.lemmas.List.Elements.{All-push}
use Rattle.jpg_spec_image.specs.declared.image.EndKind.{EndKind}
use Rattle.jpg_spec_image.specs.declared.image.EndKind.TheVariants.{Pnm, Bmp, Targa}
use Rattle.jpg_pnm_bmp.specs.EndState.{new_end, EndState}
use Rattle.jpg_cli.specs.Tools.Ends.{AreNewEnds, formats_of, has_format, is_same_format}

abbrev pub HasSameFormat : {X : Type 0} → List X → List X → (X → EndState) → EndKind → Type 0
HasSameFormat all left at kind = has_format kind (formats_of (map at all)) ≡ has_format kind (formats_of (map at left))

pub same_format : (a b : EndKind) → is_same_format a b ≡ true → a ≡ b
same_format Pnm Pnm e = refl
same_format Bmp Bmp e = refl
same_format Targa Targa e = refl
same_format Pnm Bmp e = cc
same_format Pnm Targa e = cc
same_format Bmp Pnm e = cc
same_format Bmp Targa e = cc
same_format Targa Pnm e = cc
same_format Targa Bmp e = cc

-- ONE MORE image writer, a new one
pub one_more_new : {X : Type 0} (at : X → EndState) (now more : List X) (x : X) → more ≡ now ++ x ∷ [] → AreNewEnds (map at now) → at x ≡ new_end (at x).kind → AreNewEnds (map at more)
one_more_new at now more x is new one =
    subst (λ xs. AreNewEnds (map at xs)) (sym is) (subst AreNewEnds (sym (map-append at now (x ∷ []))) (All-push (λ e. e ≡ new_end e.kind) (map at now) (at x) new one))

-- THE NEXT of the image writers that are left

pub new_first : {X : Type 0} (now rest : List X) (x : X) (at : X → EndState) → now ≡ x ∷ rest → AreNewEnds (map at now) → at x ≡ new_end (at x).kind
new_first now rest x at is new =
    let all : AreNewEnds (map at (x ∷ rest)) = subst (λ xs. AreNewEnds (map at xs)) is new in
    all 0 (at x) (let n = length (map at rest) in omega arith)

pub first_of : {X : Type 0} (now rest : List X) (x : X) (at : X → EndState) (kind : EndKind) → now ≡ x ∷ rest → AreNewEnds (map at now) → is_same_format kind (at x).kind ≡ true → at x ≡ new_end kind
first_of now rest x at kind is new same = new_first now rest x at is new ∙ ap new_end (sym (same_format kind (at x).kind same))

pub new_left : {X : Type 0} (now rest : List X) (x : X) (at : X → EndState) → now ≡ x ∷ rest → AreNewEnds (map at now) → AreNewEnds (map at rest)
new_left now rest x at is new =
    let all : AreNewEnds (map at (x ∷ rest)) = subst (λ xs. AreNewEnds (map at xs)) is new in
    λ k d h. all (suc k) d (let a = h in omega (arith, a))

pub one_less : {X : Type 0} (all now rest : List X) (x : X) (at : X → EndState) (kind : EndKind) → now ≡ x ∷ rest → HasSameFormat all now at kind → is_same_format kind (at x).kind ≡ false → HasSameFormat all rest at kind
one_less all now rest x at kind is e other =
    e ∙ ap (λ xs. has_format kind (formats_of (map at xs))) is ∙ ap (λ b. b || has_format kind (formats_of (map at rest))) other

pub none_left : {X : Type 0} (all now : List X) (at : X → EndState) (kind : EndKind) → length now ≡ 0 → HasSameFormat all now at kind → has_format kind (formats_of (map at all)) ≡ false
none_left all [] at kind none e = e
none_left all (x ∷ now) at kind none e = cc

pub some_left : {X : Type 0} (all now rest : List X) (x : X) (at : X → EndState) (kind : EndKind) → now ≡ x ∷ rest → HasSameFormat all now at kind → is_same_format kind (at x).kind ≡ true → has_format kind (formats_of (map at all)) ≡ true
some_left all now rest x at kind is e same =
    e ∙ ap (λ xs. has_format kind (formats_of (map at xs))) is ∙ ap (λ b. b || has_format kind (formats_of (map at rest))) same
