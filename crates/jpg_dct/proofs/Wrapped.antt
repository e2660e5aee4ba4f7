-- Sums that are correct in the low bits of a width: wrapping on the way changes nothing.
use Rattle.std.proofs.Common.{◌≡◌, List, ℤ, ◌+ℤ◌, ◌-ℤ◌, ◌*ℤ◌, neg_ℤ, to_z, of_z, FitsSigned as SFits, sym, ap, ◌∙◌}
use Rattle.std.specs.Int.{Width, int_wrap}
use Rattle.std.proofs.lemmas.Int.{to_z-of_z, int_wrap_fits, SFits-int_wrap, int_wrap-add_left, int_wrap-add_right, int_wrap-sub_right, int_wrap-mul_left}
use Rattle.jpg_dct.proofs.Several.{EightOf, on, same8}

-- a number of the width itself
pub given : (w : Width) (a : ℤ) → SFits w a → to_z w (of_z w a) ≡ int_wrap w a
given w a f = to_z-of_z w a f ∙ sym (int_wrap_fits w a f)

-- arguments of a call
pub plain : (w : Width) (f : ℤ → ℤ → ℤ → ℤ → List ℤ) (a b c d : ℤ) → SFits w a → SFits w b → SFits w c → SFits w d
    → f (to_z w (of_z w a)) (to_z w (of_z w b)) (to_z w (of_z w c)) (to_z w (of_z w d)) ≡ f a b c d
plain w f a b c d fa fb fc fd =
    ap (λ x. f x (to_z w (of_z w b)) (to_z w (of_z w c)) (to_z w (of_z w d))) (to_z-of_z w a fa)
    ∙ ap (λ x. f a x (to_z w (of_z w c)) (to_z w (of_z w d))) (to_z-of_z w b fb)
    ∙ ap (λ x. f a b x (to_z w (of_z w d))) (to_z-of_z w c fc)
    ∙ ap (f a b c) (to_z-of_z w d fd)

pub start : (w : Width) (r a : ℤ) → r ≡ int_wrap w a → to_z w (of_z w r) ≡ int_wrap w a
start w r a e = ap (λ x. to_z w (of_z w x)) e ∙ to_z-of_z w (int_wrap w a) (SFits-int_wrap w a)

pub summed : (w : Width) (x y a b r : ℤ) → x ≡ int_wrap w a → y ≡ int_wrap w b → r ≡ int_wrap w (x +ℤ y) → to_z w (of_z w r) ≡ int_wrap w (a +ℤ b)
summed w x y a b r ex ey e =
    start w r (x +ℤ y) e
    ∙ ap (λ z. int_wrap w (z +ℤ y)) ex ∙ int_wrap-add_left w a y
    ∙ ap (λ z. int_wrap w (a +ℤ z)) ey ∙ int_wrap-add_right w a b

pub less : (w : Width) (x y a b r : ℤ) → x ≡ int_wrap w a → y ≡ int_wrap w b → r ≡ int_wrap w (x -ℤ y) → to_z w (of_z w r) ≡ int_wrap w (a -ℤ b)
less w x y a b r ex ey e =
    start w r (x -ℤ y) e
    ∙ ap (λ z. int_wrap w (z -ℤ y)) ex ∙ int_wrap-add_left w a (neg_ℤ y)
    ∙ ap (λ z. int_wrap w (a -ℤ z)) ey ∙ int_wrap-sub_right w a b

pub scaled : (w : Width) (x a k r : ℤ) → x ≡ int_wrap w a → r ≡ int_wrap w (x *ℤ k) → to_z w (of_z w r) ≡ int_wrap w (a *ℤ k)
scaled w x a k r ex e = start w r (x *ℤ k) e ∙ ap (λ z. int_wrap w (z *ℤ k)) ex ∙ int_wrap-mul_left w a k

-- eight arguments of a call
pub plain8 : (w : Width) (f : ℤ → ℤ → ℤ → ℤ → ℤ → ℤ → ℤ → ℤ → List ℤ) {d : EightOf ℤ} → SFits w d.at0 → SFits w d.at1 → SFits w d.at2 → SFits w d.at3
    → SFits w d.at4 → SFits w d.at5 → SFits w d.at6 → SFits w d.at7
    → f (to_z w (of_z w d.at0)) (to_z w (of_z w d.at1)) (to_z w (of_z w d.at2)) (to_z w (of_z w d.at3))
    (to_z w (of_z w d.at4)) (to_z w (of_z w d.at5)) (to_z w (of_z w d.at6)) (to_z w (of_z w d.at7)) ≡ on f d
plain8 w f {d} f0 f1 f2 f3 f4 f5 f6 f7 =
    same8 f (to_z-of_z w d.at0 f0) (to_z-of_z w d.at1 f1) (to_z-of_z w d.at2 f2) (to_z-of_z w d.at3 f3)
    (to_z-of_z w d.at4 f4) (to_z-of_z w d.at5 f5) (to_z-of_z w d.at6 f6) (to_z-of_z w d.at7 f7)

-- a number that is another one and fits
pub as_seen : (w : Width) (r x : ℤ) → r ≡ x → SFits w x → to_z w (of_z w r) ≡ x
as_seen w r x e f = ap (λ y. to_z w (of_z w y)) e ∙ to_z-of_z w x f
