-- Texts of tables that are right and wrong (the manual of cjpeg, "-qtables").
use Rattle.std.specs.Prelude.{ℕ, zero, suc, List, [], ◌∷◌, ◌++◌, codes, Err}
use Rattle.jpg_spec_image.specs.TableText.{TellsTables}
use Rattle.jpg_spec.specs.declared.fault.Fault.TheVariants.{TableText}

abbrev pub IsWrongAt : List ℕ → ℕ → Type 0
IsWrongAt text place = TellsTables text (Err (record { fault = TableText; at = place }))

-- a number of ones, each with a space after it
abbrev pub ones_text : ℕ → List ℕ
ones_text zero = []
ones_text (suc n) = 49 ∷ 32 ∷ ones_text n

-- 0 to 63 with comments among them, the last one without an end of its line
abbrev pub counting_text : List ℕ
counting_text =
    codes "# a table\n0 1 2 3 4 5 6 7#eight\n8 09 010 11 12 13 14 15 16 17 18 19 20 21 22 23 24 25 26 27 28 29 30 31 "
    ++ codes "32 33 34 35 36 37 38 39 40 41 42 43 44 45 46 47 48 49 50 51 52 53 54 55 56 57 58 59 60 61 62 63# done"
