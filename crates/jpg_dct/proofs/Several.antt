-- Four or eight of a kind.
use Rattle.std.proofs.Common.{◌≡◌, ℕ, zero, suc, ◌<◌, List, [], ◌∷◌, slice_index_or, All, arith}
use Rattle.std.proofs.lemmas.List.Elements.{All-cons, All-nil}

pub record FourOf (A : Type 0) : Type 0 where
  pub at0 : A
  pub at1 : A
  pub at2 : A
  pub at3 : A

pub record EightOf (A : Type 0) : Type 0 where
  pub at0 : A
  pub at1 : A
  pub at2 : A
  pub at3 : A
  pub at4 : A
  pub at5 : A
  pub at6 : A
  pub at7 : A

abbrev pub eight_of : {A : Type 0} → A → A → A → A → A → A → A → A → EightOf A
eight_of a b c d e f g h = record { at0 = a; at1 = b; at2 = c; at3 = d; at4 = e; at5 = f; at6 = g; at7 = h }

abbrev pub listed4 : {A : Type 0} → FourOf A → List A
listed4 d = d.at0 ∷ d.at1 ∷ d.at2 ∷ d.at3 ∷ []

abbrev pub listed : {A : Type 0} → EightOf A → List A
listed d = d.at0 ∷ d.at1 ∷ d.at2 ∷ d.at3 ∷ d.at4 ∷ d.at5 ∷ d.at6 ∷ d.at7 ∷ []

-- functions of them
abbrev pub on4 : {A B : Type 0} → (A → A → A → A → B) → FourOf A → B
on4 f d = f d.at0 d.at1 d.at2 d.at3

abbrev pub on : {A B : Type 0} → (A → A → A → A → A → A → A → A → B) → EightOf A → B
on f d = f d.at0 d.at1 d.at2 d.at3 d.at4 d.at5 d.at6 d.at7

-- THE SAME ONES

pub four : {A : Type 0} {d e : FourOf A} → d.at0 ≡ e.at0 → d.at1 ≡ e.at1 → d.at2 ≡ e.at2 → d.at3 ≡ e.at3 → listed4 d ≡ listed4 e
four e0 e1 e2 e3 = cc

pub eight : {A : Type 0} {d e : EightOf A} → d.at0 ≡ e.at0 → d.at1 ≡ e.at1 → d.at2 ≡ e.at2 → d.at3 ≡ e.at3
    → d.at4 ≡ e.at4 → d.at5 ≡ e.at5 → d.at6 ≡ e.at6 → d.at7 ≡ e.at7 → listed d ≡ listed e
eight e0 e1 e2 e3 e4 e5 e6 e7 = cc

pub same4 : {A B : Type 0} (f : A → A → A → A → B) {d e : FourOf A} → d.at0 ≡ e.at0 → d.at1 ≡ e.at1 → d.at2 ≡ e.at2 → d.at3 ≡ e.at3 → on4 f d ≡ on4 f e
same4 f e0 e1 e2 e3 = cc

pub same8 : {A B : Type 0} (f : A → A → A → A → A → A → A → A → B) {d e : EightOf A} → d.at0 ≡ e.at0 → d.at1 ≡ e.at1 → d.at2 ≡ e.at2 → d.at3 ≡ e.at3
    → d.at4 ≡ e.at4 → d.at5 ≡ e.at5 → d.at6 ≡ e.at6 → d.at7 ≡ e.at7 → on f d ≡ on f e
same8 f e0 e1 e2 e3 e4 e5 e6 e7 = cc

-- WHAT HOLDS OF EACH

pub all8 : {A : Type 0} (P : A → Type 0) {d : EightOf A} → P d.at0 → P d.at1 → P d.at2 → P d.at3 → P d.at4 → P d.at5 → P d.at6 → P d.at7 → All P (listed d)
all8 P {d} h0 h1 h2 h3 h4 h5 h6 h7 =
    All-cons P d.at0 (d.at1 ∷ d.at2 ∷ d.at3 ∷ d.at4 ∷ d.at5 ∷ d.at6 ∷ d.at7 ∷ []) h0
    (All-cons P d.at1 (d.at2 ∷ d.at3 ∷ d.at4 ∷ d.at5 ∷ d.at6 ∷ d.at7 ∷ []) h1
    (All-cons P d.at2 (d.at3 ∷ d.at4 ∷ d.at5 ∷ d.at6 ∷ d.at7 ∷ []) h2
    (All-cons P d.at3 (d.at4 ∷ d.at5 ∷ d.at6 ∷ d.at7 ∷ []) h3
    (All-cons P d.at4 (d.at5 ∷ d.at6 ∷ d.at7 ∷ []) h4
    (All-cons P d.at5 (d.at6 ∷ d.at7 ∷ []) h5
    (All-cons P d.at6 (d.at7 ∷ []) h6
    (All-cons P d.at7 [] h7
    (All-nil P))))))))

pub each_of_eight : {A : Type 0} (P : ℕ → List A → Type 0) {d : EightOf (List A)} → P 0 d.at0 → P 1 d.at1 → P 2 d.at2 → P 3 d.at3
    → P 4 d.at4 → P 5 d.at5 → P 6 d.at6 → P 7 d.at7 → (v : ℕ) → v < 8 → P v (slice_index_or (listed d) v [])
each_of_eight P h0 h1 h2 h3 h4 h5 h6 h7 zero lt = h0
each_of_eight P h0 h1 h2 h3 h4 h5 h6 h7 (suc zero) lt = h1
each_of_eight P h0 h1 h2 h3 h4 h5 h6 h7 (suc (suc zero)) lt = h2
each_of_eight P h0 h1 h2 h3 h4 h5 h6 h7 (suc (suc (suc zero))) lt = h3
each_of_eight P h0 h1 h2 h3 h4 h5 h6 h7 (suc (suc (suc (suc zero)))) lt = h4
each_of_eight P h0 h1 h2 h3 h4 h5 h6 h7 (suc (suc (suc (suc (suc zero))))) lt = h5
each_of_eight P h0 h1 h2 h3 h4 h5 h6 h7 (suc (suc (suc (suc (suc (suc zero)))))) lt = h6
each_of_eight P h0 h1 h2 h3 h4 h5 h6 h7 (suc (suc (suc (suc (suc (suc (suc zero))))))) lt = h7
each_of_eight P h0 h1 h2 h3 h4 h5 h6 h7 (suc (suc (suc (suc (suc (suc (suc (suc n)))))))) lt = absurd (omega (arith, lt))
