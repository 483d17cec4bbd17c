-- The tables: the generator polynomials have the roots of their codes, and each row is a multiple.
use Rattle.std.proofs.Common.{◌≡◌, ◌<◌, ◌+◌, ◌∙◌, ℕ, [], ◌∷◌, get_or, refl, ap, arith, eqb, true}
use Rattle.tm_gf256.specs.Field.{times, power, bit_product, remainder}
use Rattle.tm_gf256.specs.Poly.{value_at}
use Rattle.tm_gf256.proofs.Below.{all_below, same_below}
use Rattle.tm_rs_code.specs.Code.{root}
use Rattle.tm_rs_code.specs.Register.{multiple}
use Rattle.tm_rs.specs.Generator.{IsGenerator}
use Rattle.tm_rs.specs.declared.rs16.TheConstants.{GENERATOR as GENERATOR_16}
use Rattle.tm_rs.specs.declared.rs16.rows.TheConstants.{ROWS as ROWS_16}
use Rattle.tm_rs.specs.declared.rs8.TheConstants.{GENERATOR as GENERATOR_8}
use Rattle.tm_rs.specs.declared.rs8.rows.TheConstants.{ROWS as ROWS_8}
use Rattle.tm_rs_code.proofs.ProductRows.{are_products, are_rows, row_at}

roots_pass_16 : all_below 32 (λ k. eqb (value_at (1 ∷ GENERATOR_16) (root 16 k)) 0) ≡ true
unfolding times power bit_product remainder
roots_pass_16 = refl

pub generator_16 : IsGenerator 16 GENERATOR_16
generator_16 =
    record {
      degree = refl;
      roots = same_below 32 (λ k. value_at (1 ∷ GENERATOR_16) (root 16 k))
          (λ k. 0) roots_pass_16;
    }

rows_pass_16 : are_rows 0 GENERATOR_16 ROWS_16 ≡ true
unfolding are_rows are_products times bit_product remainder
rows_pass_16 = refl

pub row_16 : (f : ℕ) → f < 256 → get_or ROWS_16 f [] ≡ multiple f GENERATOR_16
row_16 f lt =
    let same : 0 + f ≡ f = omega arith in
    row_at 0 GENERATOR_16 ROWS_16 f rows_pass_16 lt ∙ ap (λ (v : ℕ). multiple v GENERATOR_16) same

roots_pass_8 : all_below 16 (λ k. eqb (value_at (1 ∷ GENERATOR_8) (root 8 k)) 0) ≡ true
unfolding times power bit_product remainder
roots_pass_8 = refl

pub generator_8 : IsGenerator 8 GENERATOR_8
generator_8 =
    record { degree = refl; roots = same_below 16 (λ k. value_at (1 ∷ GENERATOR_8) (root 8 k)) (λ k. 0) roots_pass_8 }

rows_pass_8 : are_rows 0 GENERATOR_8 ROWS_8 ≡ true
unfolding are_rows are_products times bit_product remainder
rows_pass_8 = refl

pub row_8 : (f : ℕ) → f < 256 → get_or ROWS_8 f [] ≡ multiple f GENERATOR_8
row_8 f lt =
    let same : 0 + f ≡ f = omega arith in
    row_at 0 GENERATOR_8 ROWS_8 f rows_pass_8 lt ∙ ap (λ (v : ℕ). multiple v GENERATOR_8) same
