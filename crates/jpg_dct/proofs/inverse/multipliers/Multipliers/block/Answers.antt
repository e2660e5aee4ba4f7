use Rattle.std.proofs.Common.{◌≡◌, ◌≤◌, List, ℕ, ℤ, All, nat_abs, ap, subst, sym, arith, ◌∙◌}
use Rattle.jpg_spec_image.specs.Dct.{dequantised, inverse_dct}
use Rattle.jpg_dct.specs.Multipliers.{scaled}
use Rattle.jpg_dct.specs.Natural.{natural}
use Rattle.jpg_dct.proofs.Multiplied.{in_natural, products_are, products_small}
use Rattle.jpg_dct.proofs.Swizzled.{natural_all}
use Rattle.jpg_dct.proofs.inverse.multipliers.Multipliers.block.Goals as goal
use Rattle.jpg_dct.proofs.inverse.multipliers.Multipliers.block.Goals.{After-products-products}

-- the products are exact
exact : (c : After-products-products) → c.products-products.result ≡ scaled c.self.inside.quants c.args.given.now
exact c =
    products_are c.args.given.now c.products-products.result c.self.invariant (c.are_limited.ensures.limited c.if-are_limited.true) c.products-products.ensures.long
    c.products-products.ensures.at

few : (c : After-products-products) → All (λ x. nat_abs x ≤ 1090) c.products-products.result
few c = subst (λ (xs : List ℤ). All (λ x. nat_abs x ≤ 1090) xs) (sym (exact c)) (products_small c.args.given.now c.self.invariant (c.are_limited.ensures.limited c.if-are_limited.true))

pub in_order-requires : goal.in_order-requires
in_order-requires c = few (goal.at.in_order-requires c).After-products-products

pub idct_short-requires : goal.idct_short-requires
idct_short-requires c =
    let d = (goal.at.idct_short-requires c).After-products-products in
    subst (λ (xs : List ℤ). All (λ x. nat_abs x ≤ 1090) xs) (sym c.in_order.ensures) (natural_all (λ x. nat_abs x ≤ 1090) d.products-products.result (omega arith) (few d))

pub returns-then-are_limited : goal.returns-then-are_limited
returns-then-are_limited c =
    let d = (goal.at.returns-then-are_limited c).After-products-products in
    c.idct_short.ensures ∙ ap inverse_dct (c.in_order.ensures ∙ ap natural (exact d) ∙ in_natural c.self.inside.quants c.args.given.now)
    ∙ ap (λ (q : List ℕ). inverse_dct (dequantised q c.args.given.now)) c.self.view_is

pub returns : goal.returns
returns c = c.large_block.ensures ∙ ap (λ (q : List ℕ). inverse_dct (dequantised q c.args.given.now)) c.self.view_is
