-- Prefixes of the codes of valid tables: none is a complete code, and if one more bit begins no code, the bits have a
-- fault.
use Rattle.std.proofs.Common.{◌≡◌, ℕ, ◌≤◌, Bool, true, false, cond, List, [], ◌∷◌, ◌++◌, length, refl, sym, ap, ◌∙◌, arith, inl, inr}
use Rattle.std.specs.List.{Contains}
use Rattle.std.proofs.lemmas.List.{append_assoc, append-nil, length-append}
use Rattle.jpg_spec.specs.Codes.{Code}
use Rattle.jpg_spec.specs.Elements.{Coding, UnitLeft, codes_due}
use Rattle.jpg_spec.specs.ScanFaults.{BeginsNone}
use Rattle.jpg_spec.specs.Sound.{AreTableCodes, IsSound}
use Rattle.jpg_spec.proofs.Bits.Once.{OneWay}
use Rattle.jpg_spec.proofs.Bits.Sound.{one_way}
use Rattle.jpg_spec.proofs.Bits.PartStands.{codes_some}
use Rattle.jpg_huff.specs.Walk.{BeginsNoCode}
use Rattle.jpg_spec.specs.Parts.{IsFront}

-- no code begins another, and none is empty
pub record IsPrefixCode (table : List Code) : Type 0 where
  pub one : OneWay table
  pub some : (code : Code) → Contains table code → 1 ≤ length code.0

not_empty : (bits : List Bool) → (bits ≡ [] → ⊥) → 1 ≤ length bits
not_empty [] h = absurd (h refl)
not_empty (b ∷ bits) h = omega arith

table_is : (table : List Code) → AreTableCodes table → IsPrefixCode table
table_is table t = record { one = one_way table t; some = λ code h. not_empty code.0 (codes_some table t code h) }

due_by : (c : Coding) (i : ℕ) (has_dc : Bool) → IsSound c → IsPrefixCode (cond has_dc (c.dc i) (c.ac i))
due_by c i true s = table_is (c.dc i) (s.dc i)
due_by c i false s = table_is (c.ac i) (s.ac i)

pub due_apart : (c : Coding) (u : UnitLeft) → IsSound c → IsPrefixCode (codes_due c u)
due_apart c u s = due_by c u.component u.has_dc s

push_front : (walk c m : List Bool) (next d : Bool) → walk ++ next ∷ [] ≡ c ++ d ∷ m → (k : List Bool) × (walk ≡ c ++ k)
push_front walk [] m next d e = (walk, refl)
push_front [] (b ∷ []) m next d e = absurd cc
push_front [] (b ∷ q ∷ c) m next d e = absurd cc
push_front (a ∷ walk) (b ∷ c) m next d e =
    let h : a ≡ b = cc in
    let t : walk ++ next ∷ [] ≡ c ++ d ∷ m = cc in
    let r = push_front walk c m next d t in
    (r.0, ap (λ z. a ∷ z) r.1 ∙ ap (λ (z : Bool). z ∷ (c ++ r.0)) h)

-- a walk has no complete code
pub walk_no_code : (table : List Code) (walk c k : List Bool) (s : ℕ) → IsPrefixCode table → IsFront table walk → Contains table (c, s) → walk ≡ c ++ k → ⊥
walk_no_code table walk c k s apart (inl n) h e = omega (arith, apart.some (c, s) h, ap length n, ap length e, length-append c k)
walk_no_code table walk c k s apart (inr g) h e =
    let l : g.0.0 ++ [] ≡ c ++ (k ++ g.1 ∷ g.2) = append-nil g.0.0 ∙ g.4 ∙ ap (λ z. z ++ g.1 ∷ g.2) e ∙ append_assoc c k (g.1 ∷ g.2) in
    let q = ap (λ (z : Code). length z.0) (apart.one g.0 (c, s) [] (k ++ g.1 ∷ g.2) g.3 h l) in
    omega (arith, q, ap length g.4, ap length e, length-append c k, length-append walk (g.1 ∷ g.2))

-- A walk that begins no code with one more bit finds that fault.
pub walk_shows : (table : List Code) (walk : List Bool) (next : Bool) → IsPrefixCode table → IsFront table walk → BeginsNoCode table (walk ++ next ∷ []) → BeginsNone table (walk ++ next ∷ [])
walk_shows table walk next apart w none = (omega (arith, length-append walk (next ∷ [])), λ code more h e. none code more h e, λ code more h e. held code more h e)
  where
    held : (code : Code) (more : List Bool) → Contains table code → walk ++ next ∷ [] ≡ code.0 ++ more → ⊥
    held code [] h e = none code [] h (sym (append-nil code.0) ∙ sym e ∙ sym (append-nil (walk ++ next ∷ [])))
    held code (d ∷ m) h e = (let q = push_front walk code.0 m next d e in walk_no_code table walk code.0 q.0 code.1 apart w h q.1)
