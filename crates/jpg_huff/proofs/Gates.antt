-- Bytes that go through a gate one by one.
use Rattle.std.proofs.Common.{◌≡◌, ◌≢◌, ℕ, zero, suc, ◌-◌, Bool, true, false, List, [], ◌∷◌, ◌++◌, length, replicate, refl, sym, ap, ◌∙◌, subst, arith, inl, inr}
use Rattle.std.proofs.lemmas.List.{length-append, length-replicate}
use Rattle.jpg_spec.specs.Bits.{SpellsByte}
use Rattle.jpg_huff.specs.declared.gate.Passed.{Passed}
use Rattle.jpg_huff.specs.declared.gate.Passed.TheVariants.{More, Data, Marker}
use Rattle.jpg_huff.specs.Gate.{Passes}
use Rattle.jpg_huff.specs.Laws.{PassesAll, AtLast}

as_more : (answer : Passed) (answers : List Passed) (fill : ℕ) (last : Passed) → answer ≡ More → answers ≡ replicate fill More ++ last ∷ [] → answer ∷ answers ≡ replicate (suc fill) More ++ last ∷ []
as_more answer answers fill last e f = ap (λ (a : Passed). (let l : List Passed = a ∷ answers in l)) e ∙ ap (λ (l : List Passed). (let m : List Passed = More ∷ l in m)) f

-- FF
at_fill : (old : Bool) (answer : Passed) (mid : Bool) → Passes old 255 answer mid → (answer ≡ More) × (mid ≡ true)
at_fill old More mid p = (refl, p.1)
at_fill false (Data passed) mid p = absurd (p.0.0 refl)
at_fill true (Data passed) mid p = absurd (let e : 255 ≡ 0 = p.0.0 in omega (arith, e))
at_fill old (Marker code) mid p = absurd (p.1 refl)

-- another byte, where nothing waits
at_plain : (byte : ℕ) (answer : Passed) (mid : Bool) → byte ≢ 255 → Passes false byte answer mid → (answer ≡ Data byte) × (mid ≡ false)
at_plain byte More mid n p = absurd (n p.0)
at_plain byte (Data passed) mid n p = (ap (λ (b : ℕ). (let a : Passed = Data b in a)) p.0.1, p.1)
at_plain byte (Marker code) mid n p = let e : false ≡ true = p.0 in cc

-- 00, and another byte, where FF waits
at_zero : (answer : Passed) (mid : Bool) → Passes true 0 answer mid → (answer ≡ Data 255) × (mid ≡ false)
at_zero More mid p = absurd (let e : 0 ≡ 255 = p.0 in omega (arith, e))
at_zero (Data passed) mid p = (ap (λ (b : ℕ). (let a : Passed = Data b in a)) p.0.1, p.1)
at_zero (Marker code) mid p = absurd (p.2 refl)

at_code : (byte : ℕ) (answer : Passed) (mid : Bool) → byte ≢ 0 → byte ≢ 255 → Passes true byte answer mid → (answer ≡ Marker byte) × (mid ≡ false)
at_code byte More mid m n p = absurd (n p.0)
at_code byte (Data passed) mid m n p = absurd (m p.0.0)
at_code byte (Marker code) mid m n p = (ap (λ (b : ℕ). (let a : Passed = Marker b in a)) p.3, p.4)

fed_none : (old : Bool) (answers : List Passed) (new : Bool) → PassesAll old [] answers new → answers ≡ []
fed_none old answers new f = f.0

fed_same : (old : Bool) (answers : List Passed) (new : Bool) → PassesAll old [] answers new → new ≡ old
fed_same old answers new f = f.1

fed_plain : (byte : ℕ) (answers : List Passed) (new : Bool) → (byte ≡ 255 → ⊥) → PassesAll false (byte ∷ []) answers new → AtLast (Data byte) (byte ∷ []) answers × (new ≡ false)
fed_plain byte [] new n f = absurd f
fed_plain byte (answer ∷ answers) new n f =
    let one = at_plain byte answer f.0 n f.1 in
    let none : answers ≡ [] = fed_none f.0 answers new f.2 in
    (cc, fed_same f.0 answers new f.2 ∙ one.1)

-- FF again and again, and then a last byte
fed_fill : (fill byte : ℕ) (last : Passed) (answers : List Passed) (new : Bool) → ((answer : Passed) (mid : Bool) → Passes true byte answer mid → (answer ≡ last) × (mid ≡ false))
    → PassesAll true (replicate fill 255 ++ byte ∷ []) answers new → (answers ≡ replicate fill More ++ last ∷ []) × (new ≡ false)
fed_fill zero byte last (answer ∷ answers) new at f =
    let one = at answer f.0 f.1 in
    let none : answers ≡ [] = fed_none f.0 answers new f.2 in
    (cc, fed_same f.0 answers new f.2 ∙ one.1)
fed_fill (suc fill) byte last (answer ∷ answers) new at f =
    let one = at_fill true answer f.0 f.1 in
    let P : Bool → Type 0 = λ mid. PassesAll mid (replicate fill 255 ++ byte ∷ []) answers new in
    let later = fed_fill fill byte last answers new at (subst P one.1 f.2) in
    (as_more answer answers fill last one.0 later.0, later.1)
fed_fill fill byte last none new at f = absurd f

-- from a gate at which nothing waits
fed_marker : (fill byte : ℕ) (last : Passed) (answers : List Passed) (new : Bool) → ((answer : Passed) (mid : Bool) → Passes true byte answer mid → (answer ≡ last) × (mid ≡ false))
    → PassesAll false (replicate (suc fill) 255 ++ byte ∷ []) answers new → (answers ≡ replicate (suc fill) More ++ last ∷ []) × (new ≡ false)
fed_marker fill byte last [] new at f = absurd f
fed_marker fill byte last (answer ∷ answers) new at f =
    let one = at_fill false answer f.0 f.1 in
    let P : Bool → Type 0 = λ mid. PassesAll mid (replicate fill 255 ++ byte ∷ []) answers new in
    let later = fed_fill fill byte last answers new at (subst P one.1 f.2) in
    (as_more answer answers fill last one.0 later.0, later.1)

long : (fill byte : ℕ) → length (replicate (suc fill) 255 ++ byte ∷ []) - 1 ≡ suc fill
long fill byte = let a = length-append (replicate (suc fill) 255) (byte ∷ []) in let b = length-replicate {A = ℕ} (suc fill) 255 in omega (arith, a, b)

-- a data byte as it is in a file
pub feeds_data : (byte : ℕ) (bytes : List ℕ) (answers : List Passed) (new : Bool) → SpellsByte byte bytes → PassesAll false bytes answers new → AtLast (Data byte) bytes answers × (new ≡ false)
feeds_data byte bytes answers new (inl s) f =
    let P : List ℕ → Type 0 = λ l. PassesAll false l answers new → AtLast (Data byte) l answers × (new ≡ false) in
    subst P (sym s.1) (fed_plain byte answers new s.0) f
feeds_data byte bytes answers new (inr s) f =
    let P : List ℕ → Type 0 = λ l. PassesAll false l answers new → AtLast (Data byte) l answers × (new ≡ false) in
    let R : ℕ → Type 0 = λ b. AtLast (Data b) (replicate (suc s.1.0) 255 ++ 0 ∷ []) answers × (new ≡ false) in
    let Q : ℕ → Type 0 = λ n. answers ≡ replicate n More ++ Data 255 ∷ [] in
    subst P (sym s.1.1)
    (λ g. let fed = fed_marker s.1.0 0 (Data 255) answers new at_zero g in
    subst R (sym s.0) (subst Q (sym (long s.1.0 0)) fed.0, fed.1)) f

-- a marker after one or more FF
pub feeds_marker : (fill code : ℕ) (answers : List Passed) (new : Bool) → code ≢ 0 → code ≢ 255 → PassesAll false (replicate (suc fill) 255 ++ code ∷ []) answers new
    → AtLast (Marker code) (replicate (suc fill) 255 ++ code ∷ []) answers × (new ≡ false)
feeds_marker fill code answers new m n f =
    let fed = fed_marker fill code (Marker code) answers new (λ answer mid p. at_code code answer mid m n p) f in
    let Q : ℕ → Type 0 = λ n. answers ≡ replicate n More ++ Marker code ∷ [] in
    (subst Q (sym (long fill code)) fed.0, fed.1)
