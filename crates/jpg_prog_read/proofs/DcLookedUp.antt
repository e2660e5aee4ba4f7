-- Bits of a unit of a first DC pass that are taken at once.
use Rattle.std.proofs.Common.{◌≡◌, ℕ, ◌+◌, ◌<◌, ◌≤◌, Bool, List, [], ◌∷◌, ◌++◌, length, take, drop, set, refl, sym, ap, ◌∙◌, subst, arith, ⊎_elim}
use Rattle.std.specs.Prelude.{Option, None, Some, slice_get}
use Rattle.std.proofs.lemmas.Bool.{cases_eq}
use Rattle.std.specs.List.{Contains}
use Rattle.std.proofs.lemmas.List.{append_assoc, append-nil, length-append, take-append-drop, length-take-le, length-set}
use Rattle.jpg_spec.specs.Codes.{Code}
use Rattle.jpg_huff.specs.Look.{Spots}
use Rattle.jpg_huff.specs.declared.look.Spotted.TheVariants.{Symbol}
use Rattle.jpg_spec.specs.Lists.{slot_value}
use Rattle.jpg_spec.proofs.Basics.Common.{some_once}
use Rattle.jpg_huff.specs.declared.set.TableSet.{TableSet}
use Rattle.jpg_huff.specs.declared.table.Table.{Table}
use Rattle.jpg_huff.specs.Sets.{dc_tables, in_slot}
use Rattle.jpg_huff.specs.Tables.{symbol_codes}
use Rattle.jpg_prog_read.specs.declared.dc_looks.DcLooks.{DcLooks}
use Rattle.jpg_prog_read.specs.declared.scan.DcScan.{DcScan}
use Rattle.jpg_prog_read.specs.DcWork.{DcWork, IsDcOpen}
use Rattle.jpg_prog_read.specs.DcLookedUp.{AreDcLookedUp, IsOfSlot, DcGoesOn, DcThrough, Hurries}
use Rattle.jpg_prog_read.proofs.Slots.{at_set, other_set, all_empty}
use Rattle.jpg_prog_read.proofs.BandBits.{begins_more, last_taken}
use Rattle.jpg_prog_read.proofs.DcUnits.{dc_more, dc_begun, dc_wanting}

through_then : (b : DcScan) (dc : List Code) (old : DcWork) (xs : List Bool) (mid : DcWork) (ys : List Bool) (new : DcWork) → DcThrough b dc old xs mid → DcThrough b dc mid ys new → DcThrough b dc old (xs ++ ys) new
through_then b dc old [] mid ys new x y = subst (λ (s : DcWork). DcThrough b dc s ys new) x y
through_then b dc old (bit ∷ xs) mid ys new x y = (x.0, x.1, through_then b dc x.0 xs mid ys new x.2 y)

-- none at all
pub none_hurried : (b : DcScan) (dc : List Code) (s : DcWork) (store : List Bool) → IsDcOpen s → Hurries b dc s store s store
none_hurried b dc s store o = record { bits = []; split = refl; goes_on = o; through = refl }

pub hurries_then : (b : DcScan) (dc : List Code) (old : DcWork) (store : List Bool) (mid : DcWork) (here : List Bool) (new : DcWork) (rest : List Bool) → Hurries b dc old store mid here → Hurries b dc mid here new rest → Hurries b dc old store new rest
hurries_then b dc old store mid here new rest x y = record {
  bits = x.bits ++ y.bits;
  split = x.split ∙ ap (λ (l : List Bool). x.bits ++ l) y.split ∙ sym (append_assoc x.bits y.bits rest);
  goes_on = y.goes_on;
  through = through_then b dc old x.bits mid y.bits new x.through y.through;
}

-- A COMPLETE CODE

abbrev walked : DcWork → List Bool → DcWork
walked s w = record s { walked = w }

code_through : (b : DcScan) (dc : List Code) (s : DcWork) (w rest : List Bool) (last : Bool) (size : ℕ) → s.size ≡ 0 → Contains dc (w ++ (rest ++ last ∷ []), size) → DcThrough b dc (walked s w) rest (walked s (w ++ rest))
code_through b dc s w [] last size z is = ap (λ (l : List Bool). walked s l) (append-nil w)
code_through b dc s w (bit ∷ rest) last size z is =
    let join : (w ++ bit ∷ []) ++ rest ≡ w ++ bit ∷ rest = append_assoc w (bit ∷ []) rest in
    let all : (w ++ bit ∷ []) ++ (rest ++ last ∷ []) ≡ w ++ (bit ∷ (rest ++ last ∷ [])) = append_assoc w (bit ∷ []) (rest ++ last ∷ []) in
    let begins = begins_more dc w rest bit last size is in (
      walked s (w ++ bit ∷ []),
      record {
        goes_on = λ some. absurd (omega (arith, some, z));
        answered = λ prediction. dc_more b dc prediction (walked s w) (walked s (w ++ bit ∷ [])) bit z refl begins refl;
      },
      subst (λ (l : List Bool). DcThrough b dc (walked s (w ++ bit ∷ [])) rest (walked s l)) join
          (code_through b dc s (w ++ bit ∷ []) rest last size z (subst (λ (l : List Bool). Contains dc (l, size)) (sym all) is)),
    )

pub code_hurried : (b : DcScan) (dc : List Code) (old new : DcWork) (store : List Bool) (n size : ℕ) (rest : List Bool) → old.size ≡ 0 → old.walked ≡ []
    → Spots dc store (Symbol n size) → 1 ≤ size → size ≤ b.most_category → new ≡ record old { size = size; extra = [] } → rest ≡ drop n store
    → Hurries b dc old store new rest
code_hurried b dc old new store n size rest z quiet (some, short, fits, is) positive most begun r =
    let c = last_taken n store some fits in
    let code : Contains dc (c.0 ++ c.1 ∷ [], size) = subst (λ (l : List Bool). Contains dc (l, size)) c.2 is in
    let none : walked old [] ≡ old = ap (λ (l : List Bool). walked old l) (sym quiet) in
    let x : DcThrough b dc old c.0 (walked old c.0) = subst (λ (s : DcWork). DcThrough b dc s c.0 (walked old c.0)) none (code_through b dc old [] c.0 c.1 size z code) in
    let o : IsDcOpen new = subst (λ (s : DcWork). IsDcOpen s) (sym begun) (λ h. (let t : length (new_extra) < size = omega (arith, positive) in t)) in
    let last : DcGoesOn b dc (walked old c.0) c.1 new = record { goes_on = o; answered = λ prediction. dc_begun b dc prediction (walked old c.0) old new c.1 size z quiet code positive most begun } in
    record {
      bits = c.0 ++ c.1 ∷ [];
      split = c.3 ∙ ap (λ (l : List Bool). (c.0 ++ c.1 ∷ []) ++ l) (sym r);
      goes_on = o;
      through = through_then b dc old c.0 (walked old c.0) (c.1 ∷ []) new x (new, last, refl);
    }
  where
    new_extra : List Bool
    new_extra = []

-- THE FIRST BITS OF A NUMBER

abbrev pub taken : DcWork → List Bool → DcWork
taken s x = record s { extra = x }

number_through : (b : DcScan) (dc : List Code) (s : DcWork) (w rest : List Bool) → 1 ≤ s.size → length w + length rest < s.size → DcThrough b dc (taken s w) rest (taken s (w ++ rest))
number_through b dc s w [] some short = ap (λ (l : List Bool). taken s l) (append-nil w)
number_through b dc s w (bit ∷ rest) some short =
    let long : length (w ++ bit ∷ []) ≡ length w + 1 = length-append w (bit ∷ []) in (
      taken s (w ++ bit ∷ []),
      record {
        goes_on = λ h. (let t : length (w ++ bit ∷ []) < s.size = omega (arith, long, short) in t);
        answered = λ prediction. dc_wanting b dc prediction (taken s w) (taken s (w ++ bit ∷ [])) bit some refl;
      },
      subst (λ (l : List Bool). DcThrough b dc (taken s (w ++ bit ∷ [])) rest (taken s l)) (append_assoc w (bit ∷ []) rest) (number_through b dc s (w ++ bit ∷ []) rest some (omega (arith, long, short))),
    )

pub number_hurried : (b : DcScan) (dc : List Code) (old new : DcWork) (store : List Bool) (n : ℕ) (rest : List Bool) → 1 ≤ old.size → old.extra ≡ [] → n < old.size → n ≤ length store → new ≡ taken old (take n store) → rest ≡ drop n store → Hurries b dc old store new rest
number_hurried b dc old new store n rest some none short fits is r =
    let long : length (take n store) ≡ n = length-take-le n store fits in
    let same : taken old [] ≡ old = ap (λ (l : List Bool). taken old l) (sym none) in
    let x : DcThrough b dc old (take n store) (taken old (take n store)) = subst (λ (s : DcWork). DcThrough b dc s (take n store) (taken old (take n store))) same (number_through b dc old [] (take n store) some (omega (arith, long, short))) in
    record {
      bits = take n store;
      split = sym (take-append-drop n store) ∙ ap (λ (l : List Bool). take n store ++ l) (sym r);
      goes_on = subst (λ (s : DcWork). IsDcOpen s) (sym is) (λ h. (let t : length (take n store) < old.size = omega (arith, long, short) in t));
      through = subst (λ (s : DcWork). DcThrough b dc old (take n store) s) (sym is) x;
    }

-- THE CODES OF TABLES

abbrev pub slot_of : List (Option (List Code)) → ℕ → Option (List Code)
slot_of each k = slot_value (slice_get each k)

-- each slot that has codes has those of its table
pub record AreOf (tables : TableSet) (each : List (Option (List Code))) : Type 0 where
  pub four : length each ≡ 4
  pub found : (k : ℕ) (codes : List Code) → slot_of each k ≡ Some codes → (table : Table) × (in_slot (dc_tables tables) k ≡ Some table) × (codes ≡ symbol_codes table)

pub none_of : (tables : TableSet) → AreOf tables (None ∷ None ∷ None ∷ None ∷ [])
none_of tables = record { four = refl; found = λ k codes e. absurd (all_empty k codes e) }

-- the codes of one more slot
pub one_of : (tables : TableSet) (each : List (Option (List Code))) (slot : ℕ) (more : Option (List Code)) → AreOf tables each → slot < 4 → IsOfSlot tables slot more → AreOf tables (set each slot more)
one_of tables each slot more f small is =
    let here : slot_of (set each slot more) slot ≡ more = at_set each slot more (omega (arith, f.four, small)) in
    record {
      four = length-set each slot more ∙ f.four;
      found = λ k codes e.
          ⊎_elim
          (λ (s : k ≡ slot). (let r = is codes (sym here ∙ ap (λ q. slot_of (set each slot more) q) (sym s) ∙ e) in (r.0, ap (λ q. in_slot (dc_tables tables) q) s ∙ r.1, r.2)))
          (λ (d : k ≡ slot → ⊥). f.found k codes (sym (ap slot_value (other_set each slot k more d)) ∙ e))
          (cases_eq k slot);
    }

pub all_looked_up : (tables : TableSet) (looks : DcLooks) → AreOf tables looks.each → AreDcLookedUp tables looks
all_looked_up tables looks f k table codes there is =
    let r = f.found k codes is in
    r.2 ∙ ap symbol_codes (some_once r.0 table (sym r.1 ∙ there))
