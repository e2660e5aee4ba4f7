-- Data bytes in a file are split in one way: of two lists of them that begin the same bytes one continues the other,
-- and no marker begins as they do.
use Rattle.std.proofs.Common.{◌≡◌, ℕ, zero, suc, List, [], ◌∷◌, ◌++◌, refl, sym, ap, ◌∙◌, arith, inl, inr, ⊎_elim}
use Rattle.std.specs.Prelude.{◌⊎◌, replicate}
use Rattle.std.proofs.lemmas.List.{append_assoc, append-nil}
use Rattle.jpg_spec.specs.Bits.{SpellsByte, SpellsData}
use Rattle.jpg_spec.specs.Markers.{SpellsMarker}
use Rattle.jpg_spec.proofs.Segments.MarkersOnce.{no_head, fills_once, stuffed_no_marker, byte_no_marker}
use Rattle.jpg_spec.proofs.Basics.Common.{heads}

-- one byte
pub byte_once : (x y : ℕ) (f g u v : List ℕ) → SpellsByte x f → SpellsByte y g → f ++ u ≡ g ++ v → (x ≡ y) × (f ≡ g) × (u ≡ v)
byte_once x y f g u v (inl s) (inl t) e =
    let h = heads x y u v (ap (λ l. l ++ u) (sym s.1) ∙ e ∙ ap (λ l. l ++ v) t.1) in
    (h.0, s.1 ∙ ap (λ n. n ∷ []) h.0 ∙ sym t.1, h.1)
byte_once x y f g u v (inl s) (inr t) e =
    absurd (s.0 (heads x 255 u ((replicate t.1.0 255 ++ 0 ∷ []) ++ v) (ap (λ l. l ++ u) (sym s.1) ∙ e ∙ ap (λ l. l ++ v) t.1.1)).0)
byte_once x y f g u v (inr s) (inl t) e =
    absurd (t.0 (sym (heads 255 y ((replicate s.1.0 255 ++ 0 ∷ []) ++ u) v (ap (λ l. l ++ u) (sym s.1.1) ∙ e ∙ ap (λ l. l ++ v) t.1)).0))
byte_once x y f g u v (inr s) (inr t) e =
    let no : 0 ≡ 255 → ⊥ = λ h. omega (arith, h) in
    let r = fills_once (suc s.1.0) (suc t.1.0) 0 0 u v no no (ap (λ l. l ++ u) (sym s.1.1) ∙ e ∙ ap (λ l. l ++ v) t.1.1) in
    (s.0 ∙ sym t.0, s.1.1 ∙ ap (λ n. replicate n 255 ++ 0 ∷ []) r.0 ∙ sym t.1.1, r.2)

-- The data d in a file as r, with v after them, continue the data c in a file as t, with u after them.
pub record DataGoOn (c : List ℕ) (t u d r v : List ℕ) : Type 0 where
  pub more : List ℕ
  pub text : List ℕ
  pub joined : d ≡ c ++ more
  pub spelled : SpellsData more text
  pub texts : r ≡ t ++ text
  pub behind : u ≡ text ++ v

-- THE LAW
pub data_once : (c d t r u v : List ℕ) → SpellsData c t → SpellsData d r → t ++ u ≡ r ++ v → DataGoOn c t u d r v ⊎ DataGoOn d r v c t u
data_once [] d t r u v s k e =
    inl (record { more = d; text = r; joined = refl; spelled = k; texts = ap (λ l. l ++ r) (sym s); behind = ap (λ l. l ++ u) (sym s) ∙ e })
data_once (x ∷ c) [] t r u v s k e =
    inr (record { more = x ∷ c; text = t; joined = refl; spelled = s; texts = ap (λ l. l ++ t) (sym k); behind = ap (λ l. l ++ v) (sym k) ∙ sym e })
data_once (x ∷ c) (y ∷ d) t r u v s k e =
    let all : s.0 ++ (s.1 ++ u) ≡ k.0 ++ (k.1 ++ v) = sym (append_assoc s.0 s.1 u) ∙ ap (λ l. l ++ u) (sym s.2) ∙ e ∙ ap (λ l. l ++ v) k.2 ∙ append_assoc k.0 k.1 v in
    let h = byte_once x y s.0 k.0 (s.1 ++ u) (k.1 ++ v) s.3 k.3 all in
    ⊎_elim
    (λ (g : DataGoOn c s.1 u d k.1 v). inl (record {
      more = g.more;
      text = g.text;
      joined = ap (λ n. n ∷ d) (sym h.0) ∙ ap (λ l. x ∷ l) g.joined;
      spelled = g.spelled;
      texts = k.2 ∙ ap (λ l. l ++ k.1) (sym h.1) ∙ ap (λ l. s.0 ++ l) g.texts ∙ sym (append_assoc s.0 s.1 g.text) ∙ ap (λ l. l ++ g.text) (sym s.2);
      behind = g.behind;
    }))
    (λ (g : DataGoOn d k.1 v c s.1 u). inr (record {
      more = g.more;
      text = g.text;
      joined = ap (λ n. n ∷ c) h.0 ∙ ap (λ l. y ∷ l) g.joined;
      spelled = g.spelled;
      texts = s.2 ∙ ap (λ l. l ++ s.1) h.1 ∙ ap (λ l. k.0 ++ l) g.texts ∙ sym (append_assoc k.0 k.1 g.text) ∙ ap (λ l. l ++ g.text) (sym k.2);
      behind = g.behind;
    }))
    (data_once c d s.1 k.1 u v s.4 k.4 h.2)

-- a marker begins no data
pub data_no_marker : (code : ℕ) (m t a u v : List ℕ) → SpellsData m t → SpellsMarker code a → t ++ u ≡ a ++ v → (m ≡ []) × (t ≡ [])
data_no_marker code [] t a u v s k e = (refl, s)
data_no_marker code (x ∷ m) t a u v s k e =
    absurd (by s.3 (sym (append_assoc s.0 s.1 u) ∙ ap (λ l. l ++ u) (sym s.2) ∙ e))
  where
    by : SpellsByte x s.0 → s.0 ++ (s.1 ++ u) ≡ a ++ v → ⊥
    by (inl h) f = byte_no_marker x code a (s.1 ++ u) v h.0 k (ap (λ l. l ++ (s.1 ++ u)) (sym h.1) ∙ f)
    by (inr h) f = stuffed_no_marker h.1.0 code a (s.1 ++ u) v k (ap (λ l. l ++ (s.1 ++ u)) (sym h.1.1) ∙ f)

-- nor do only FF bytes
other_in_fill : (n k b : ℕ) (u : List ℕ) → (b ≡ 255 → ⊥) → (replicate k 255 ++ b ∷ []) ++ u ≡ replicate n 255 → ⊥
other_in_fill zero zero b u h e = no_head b u (sym e)
other_in_fill zero (suc k) b u h e = no_head 255 ((replicate k 255 ++ b ∷ []) ++ u) (sym e)
other_in_fill (suc n) zero b u h e = h (heads b 255 u (replicate n 255) e).0
other_in_fill (suc n) (suc k) b u h e = other_in_fill n k b u h (heads 255 255 ((replicate k 255 ++ b ∷ []) ++ u) (replicate n 255) e).1

pub data_no_fill : (n : ℕ) (m t u : List ℕ) → SpellsData m t → t ++ u ≡ replicate n 255 → (m ≡ []) × (t ≡ [])
data_no_fill n [] t u s e = (refl, s)
data_no_fill n (x ∷ m) t u s e =
    absurd (by s.3 (sym (append_assoc s.0 s.1 u) ∙ ap (λ l. l ++ u) (sym s.2) ∙ e))
  where
    by : SpellsByte x s.0 → s.0 ++ (s.1 ++ u) ≡ replicate n 255 → ⊥
    by (inl h) f = other_in_fill n 0 x (s.1 ++ u) h.0 (ap (λ l. l ++ (s.1 ++ u)) (sym h.1) ∙ f)
    by (inr h) f = other_in_fill n (suc h.1.0) 0 (s.1 ++ u) (λ z. omega (arith, z)) (ap (λ l. l ++ (s.1 ++ u)) (sym h.1.1) ∙ f)

-- data bytes joined
pub data_join : (c d t r : List ℕ) → SpellsData c t → SpellsData d r → SpellsData (c ++ d) (t ++ r)
data_join [] d t r s k = rw s k
data_join (x ∷ c) d t r s k = (s.0, s.1 ++ r, ap (λ l. l ++ r) s.2 ∙ append_assoc s.0 s.1 r, s.3, data_join c d s.1 r s.4 k)

pub one_data : (x : ℕ) (f : List ℕ) → SpellsByte x f → SpellsData (x ∷ []) f
one_data x f s = (f, [], sym (append-nil f), s, refl)
