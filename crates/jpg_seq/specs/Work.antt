-- The bounds of values (T.81, F.1.2).
use Rattle.std.specs.Prelude.{◌-◌, ◌^◌, ◌≤◌, ℤ, ◌≤ℤ◌, negsuc, pos, ◌≡◌, ℕ, ◌+◌, ◌<◌, false, List, [], ◌∷◌, length, ◌⊎◌, ◌*◌, Bool, ◌++◌, take, drop, ◌+ℤ◌, Contains, Option, None, Some}
use Rattle.jpg_spec.specs.declared.frame.Bounds.{Bounds}
use Rattle.jpg_spec.specs.Codes.{Code}
use Rattle.jpg_spec.specs.Elements.{Coding, UnitLeft, Standing, codes_due, going_on, predicted, zeros, new_unit, Element, Covers}
use Rattle.jpg_spec.specs.Sound.{IsSound}
use Rattle.jpg_spec.specs.ScanFaults.{BitsShow}
use Rattle.jpg_spec.specs.Parts.{BeginsCode}
use Rattle.jpg_coefs.specs.declared.machine.UnitFault.{UnitFault}
use Rattle.jpg_coefs.specs.declared.machine.UnitFault.TheVariants.{CoefRange}
use Rattle.jpg_coefs.specs.Machine.{fault_of}
use Rattle.jpg_seq.specs.declared.work.NextElement.{NextElement}
use Rattle.jpg_seq.specs.declared.work.NextElement.TheVariants.{Part, Value, Zeros, Bad}
use Rattle.jpg_seq.specs.declared.work.UnitEnd.{UnitEnd}
use Rattle.jpg_seq.specs.declared.work.UnitEnd.TheVariants.{Empty, Done, Fault}
use Rattle.jpg_seq.specs.declared.work.Coder.{Coder}
use Rattle.jpg_seq.specs.declared.work.UnitEnv.{UnitEnv}

-- bounds of values that fit into 16 bits, and categories below sixteen, those of AC values up to nine at least
pub record AreSane (b : Bounds) : Type 0 where
  pub low : negsuc 32767 ≤ℤ b.dc_low
  pub high : b.dc_high ≤ℤ pos 32767
  pub ac : pos (2 ^ b.ac_cat - 1) ≤ℤ b.ac
  pub dc_cat : b.dc_cat ≤ 15
  pub ac_cat : b.ac_cat ≤ 15
  pub nine : 9 ≤ b.ac_cat

abbrev pub InRange : Bounds → ℤ → Type 0
InRange b v = (b.dc_low ≤ℤ v) × (v ≤ℤ b.dc_high)

-- What bits of a sequential unit mean, and what its reader returns (T.81, F.2.2).

-- A sequential coding with these bounds, whose codes for a component are these.
pub record IsCodingOf (b : Bounds) (dc ac : List Code) (c : Coding) (i : ℕ) : Type 0 where
  pub sound : IsSound c
  pub plain : c.al ≡ 0
  pub first : c.refines ≡ false
  pub categories : c.most_category ≡ b.ac_cat
  pub runs : c.most_run ≡ 0
  pub bounds : c.bounds ≡ b
  pub dc_codes : c.dc i ≡ dc
  pub ac_codes : c.ac i ≡ ac

-- a unit whose first value is covered
abbrev pub open_unit : ℕ → List ℤ → UnitLeft
open_unit i old = record { component = i; has_dc = false; old = old }

-- what is left of a unit of which these values are covered
abbrev pub unit_in_work : ℕ → List ℤ → UnitLeft
unit_in_work i [] = new_unit i
unit_in_work i (v ∷ values) = open_unit i (zeros (63 - length values))

-- after these values of a unit, with others after it
abbrev pub standing_at : (ℕ → ℤ) → ℕ → List UnitLeft → List ℤ → Standing
standing_at p i others [] = record { predictions = p; left = new_unit i ∷ others }
standing_at p i others (v ∷ values) = record { predictions = predicted p i v; left = going_on (open_unit i []) (zeros (63 - length values)) others }

-- the codes for the next element
abbrev pub codes_next : Coding → ℕ → List ℤ → List Code
codes_next c i values = codes_due c (unit_in_work i values)

-- a size that is allowed after these values
abbrev pub MayStand : Bounds → List ℤ → ℕ → ℕ → Type 0
MayStand b [] run size = (run ≡ 0) × (size ≤ b.dc_cat)
MayStand b (v ∷ values) run size = (size ≤ b.ac_cat) × (run + length values < 63) × (run ≤ 15)

-- The current sequential unit: complete elements, and the bits of the next one so far (T.81, F.2.2).

-- the values that are covered, and the bits after them
pub record Work : Type 0 where
  pub values : List ℤ
  pub part : List Bool

-- what a unit is decoded with
pub record Env : Type 0 where
  pub bounds : Bounds
  pub dc : List Code
  pub ac : List Code
  pub prediction : ℤ

-- the codes for the next element
abbrev pub next_codes : Env → List ℤ → List Code
next_codes e [] = e.dc
next_codes e (v ∷ values) = e.ac

-- a part of an element: a proper prefix of a code, or a code with some of the bits after it
abbrev pub IsPartOf : Env → List ℤ → List Bool → Type 0
IsPartOf e values part =
    (part ≡ []) ⊎ (BeginsCode (next_codes e values) part
    ⊎ ((code : List Bool) × (rest : List Bool) × (run : ℕ) × (size : ℕ) × Contains (next_codes e values) (code, 16 * run + size) × (part ≡ code ++ rest) × (length rest < size) × MayStand e.bounds values run size))

-- the coding of a scan decodes this component in this way
abbrev pub ReadsComponent : Env → Coding → ℕ → (ℕ → ℤ) → Type 0
ReadsComponent e c i p = IsCodingOf e.bounds e.dc e.ac c i × (p i ≡ e.prediction)

-- after these values the bits are elements that encode these
abbrev pub Adds : Env → List ℤ → List Bool → List ℤ → Type 0
Adds e values bits here =
    (c : Coding) (i : ℕ) (p : ℕ → ℤ) (others : List UnitLeft) → ReadsComponent e c i p → (elements : List Element) × Covers c (standing_at p i others values) elements here bits (standing_at p i others (values ++ here))

-- after these values the bits have a fault
abbrev pub BitsRevealAfter : Env → List ℤ → UnitFault → List Bool → Type 0
BitsRevealAfter e values fault bits =
    (c : Coding) (i : ℕ) (p : ℕ → ℤ) (others : List UnitLeft) → ReadsComponent e c i p → BitsShow c (standing_at p i others values) (unit_in_work i values) others (fault_of fault) bits

-- each proper prefix of the bits is a part of an element
abbrev pub FrontsAre : Env → List ℤ → List Bool → Type 0
FrontsAre e values bits = (x y : List Bool) → bits ≡ x ++ y → 1 ≤ length y → IsPartOf e values x

-- no part of an element begins with the bits
abbrev pub NoPartBegins : Env → List ℤ → List Bool → Type 0
NoPartBegins e values bits = (part z : List Bool) → IsPartOf e values part → part ≡ bits ++ z → ⊥

-- an element of these bits, and bits whose last one reveals a fault
pub record IsElement (e : Env) (values : List ℤ) (bits : List Bool) (here : List ℤ) : Type 0 where
  pub some : 1 ≤ length here
  pub room : length values + length here ≤ 64
  pub adds : Adds e values bits here
  pub fronts : FrontsAre e values bits
  pub ends : NoPartBegins e values bits

pub record IsShownFault (e : Env) (values : List ℤ) (bits : List Bool) (fault : UnitFault) : Type 0 where
  pub shows : BitsRevealAfter e values fault bits
  pub fronts : FrontsAre e values bits
  pub ends : NoPartBegins e values bits

-- what bits begin with
abbrev pub IsNextElement : Env → List ℤ → List Bool → NextElement → Type 0
IsNextElement e values bits Part = IsPartOf e values bits × (length bits < 32)
IsNextElement e values bits (Value run v n) = (1 ≤ n) × (n ≤ length bits) × IsElement e values (take n bits) (zeros run ++ v ∷ [])
IsNextElement e values bits (Zeros count n) = (1 ≤ n) × (n ≤ length bits) × IsElement e values (take n bits) (zeros count)
IsNextElement e values bits (Bad fault n) = (1 ≤ n) × (n ≤ length bits) × IsShownFault e values (take n bits) fault

-- ONE BIT of a unit that goes on: a part of an element, or the last bit of one
abbrev pub StepsTo : Env → Work → Bool → Work → Type 0
StepsTo e s bit t =
    ((t ≡ record { values = s.values; part = s.part ++ bit ∷ [] }) × IsPartOf e s.values (s.part ++ bit ∷ []))
    ⊎ ((here : List ℤ) × (t ≡ record { values = s.values ++ here; part = [] }) × Adds e s.values (s.part ++ bit ∷ []) here × (length (s.values ++ here) < 64))

-- such bits, one after another
abbrev pub StepsThrough : Env → Work → List Bool → Work → Type 0
StepsThrough e s [] t = t ≡ s
StepsThrough e s (bit ∷ bits) t = (mid : Work) × StepsTo e s bit mid × StepsThrough e mid bits t

-- the last bit of a unit, and one that reveals a fault
abbrev pub IsLast : Env → Work → Bool → List ℤ → Type 0
IsLast e s bit block = (here : List ℤ) × Adds e s.values (s.part ++ bit ∷ []) here × (block ≡ s.values ++ here) × (length block ≡ 64)

abbrev pub IsWrong : Env → Work → Bool → UnitFault → Type 0
IsWrong e s bit fault = BitsRevealAfter e s.values fault (s.part ++ bit ∷ [])

-- the result of bits of a unit, which goes on or has ended
abbrev pub BitsComeTo : Env → Work → List Bool → Option UnitEnd → Work → Type 0
BitsComeTo e s bits None t = StepsThrough e s bits t
BitsComeTo e s bits (Some Empty) t = StepsThrough e s bits t
BitsComeTo e s bits (Some Done) t = (front : List Bool) × (bit : Bool) × (mid : Work) × (bits ≡ front ++ bit ∷ []) × StepsThrough e s front mid × IsLast e mid bit t.values
BitsComeTo e s bits (Some (Fault fault)) t = (front : List Bool) × (bit : Bool) × (mid : Work) × (bits ≡ front ++ bit ∷ []) × StepsThrough e s front mid × IsWrong e mid bit fault

-- values are left, and the bits after them are a part of an element
pub record IsAtWork (e : Env) (s : Work) : Type 0 where
  pub left : length s.values < 64
  pub part : IsPartOf e s.values s.part

-- what is left of a unit after a result
abbrev pub StaysAtWork : Env → Option UnitEnd → Work → Type 0
StaysAtWork e None t = (length t.values < 64) × (t.part ≡ [])
StaysAtWork e (Some Empty) t = IsAtWork e t
StaysAtWork e (Some Done) t = (length t.values ≡ 64) × (t.part ≡ [])
StaysAtWork e (Some (Fault fault)) t = Unit {0}

-- Bits are taken from the start of a store, all of them if the result is Empty.
abbrev pub TakesFromStore : Env → Work → List Bool → Option UnitEnd → Work → List Bool → Type 0
TakesFromStore e s store answer t rest = (taken : List Bool) × (store ≡ taken ++ rest) × BitsComeTo e s taken answer t × StaysAtWork e answer t × (answer ≡ Some Empty → rest ≡ [])

-- One element is taken from the start of a store.
abbrev pub TakesElement : Env → Work → List Bool → Work → List Bool → Type 0
TakesElement e s store t rest =
    (n : ℕ) × (here : List ℤ) × (1 ≤ n) × (n ≤ length store) × IsElement e s.values (take n store) here × (rest ≡ drop n store) × (t ≡ record { values = s.values ++ here; part = [] })

-- the bits that an element is looked for in: those that wait, followed by a store's, by all of them if they are few
pub record AreNext (part store bits : List Bool) : Type 0 where
  pub rest : List Bool
  pub split : part ++ store ≡ bits ++ rest
  pub all : length bits < 32 → rest ≡ []

-- the invariant of the struct
pub record IsBlockSoFar (values : List ℤ) (at : ℕ) (part : List Bool) : Type 0 where
  pub whole : length values ≡ 64
  pub at_most : at ≤ 64
  pub rest : drop at values ≡ zeros (64 - at)
  pub few : length part < 32

abbrev pub no_work : Work
no_work = record { values = []; part = [] }

-- whether the unit is complete
abbrev pub IsUnitCovered : Work → Option UnitEnd → Type 0
IsUnitCovered s None = length s.values < 64
IsUnitCovered s (Some Done) = length s.values ≡ 64
IsUnitCovered s (Some Empty) = ⊥
IsUnitCovered s (Some (Fault fault)) = ⊥

-- the first value if it is within the bounds
abbrev pub IsFirstValue : Env → ℤ → ℕ → NextElement → Type 0
IsFirstValue e d n Part = ⊥
IsFirstValue e d n (Value run v m) = (run ≡ 0) × (v ≡ e.prediction +ℤ d) × (m ≡ n) × InRange e.bounds (e.prediction +ℤ d)
IsFirstValue e d n (Zeros count m) = ⊥
IsFirstValue e d n (Bad fault m) = (fault ≡ CoefRange) × (m ≡ n) × (InRange e.bounds (e.prediction +ℤ d) → ⊥)

-- What a unit is decoded with, from the tables of its component.

abbrev pub env_in : Bounds → Coder → ℤ → Env
env_in b coder prediction = record { bounds = b; dc = coder.dc; ac = coder.ac; prediction = prediction }

abbrev pub env_by : UnitEnv → Env
env_by u = env_in u.bounds.now u.coder.now u.prediction
