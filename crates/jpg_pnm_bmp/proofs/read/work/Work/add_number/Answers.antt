use Rattle.std.proofs.Common.{◌≡◌, ℕ, ◌≤◌, arith, Bool, true, false, cond, List, [], ◌∷◌, refl, subst, None, Some}
use Rattle.std.specs.Prelude.{nat_lt}
use Rattle.jpg_spec.proofs.Basics.Common.{not_lt_of}
use Rattle.jpg_spec.specs.declared.fault.Fault.TheVariants.{ImageValue}
use Rattle.jpg_spec_image.specs.PnmText.{number_fault}
use Rattle.jpg_pnm_bmp.specs.Known.{list_of}
use Rattle.jpg_pnm_bmp.specs.declared.read.numbers.Numbers.TheVariants.{All}
use Rattle.jpg_pnm_bmp.proofs.AllThere.{most_some, third_added}
use Rattle.jpg_pnm_bmp.proofs.read.work.Work.add_number.Goals as goal

low : (a b m : ℕ) (samples : List ℕ) (n : ℕ) → number_fault (a ∷ b ∷ m ∷ samples) n ≡ None → n ≤ m
low a b m samples n e = by (nat_lt m n) refl e
  where
    by : (v : Bool) → nat_lt m n ≡ v → cond v (Some ImageValue) None ≡ None → n ≤ m
    by true p e = cc
    by false p e = not_lt_of m n p

pub sample_byte-requires : goal.sample_byte-requires
sample_byte-requires c = low c.in-All.field-0 c.in-All.field-1 c.in-All.most [] c.args.n (subst (λ k. number_fault (list_of k []) c.args.n ≡ None) c.in-All.is (c.requires []))

pub returns-in-Sides-clause-all : goal.returns-in-Sides-clause-all
returns-in-Sides-clause-all c =
    let old = c.args.self.now in
    let w = c.in-Sides.width in
    let h = c.in-Sides.height in
    let some : 1 ≤ c.args.n = most_some w h c.args.n (subst (λ k. number_fault (list_of k []) c.args.n ≡ None) c.in-Sides.is (c.requires [])) in
    let least : 1 ≤ c.min-in-Sides.result = omega (arith, some, c.min-in-Sides.ensures) in
    third_added old.numbers w h c.min-in-Sides.result (record old { numbers = All w h c.min-in-Sides.result; samples = c.clear.new.self }) c.in-Sides.is c.clear.ensures refl least
