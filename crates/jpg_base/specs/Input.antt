-- An input whose bytes are in memory.
use Rattle.std.specs.Prelude.{◌+◌, [], ◌∷◌, ℕ, List, Option, None, Some, min, drop, length}
use Rattle.jpg_base.specs.declared.names.Got.{Got}
use Rattle.jpg_base.specs.declared.names.Got.TheVariants as got
use Rattle.jpg_base.specs.declared.input.Input.{Input}

-- the bytes that are left
abbrev pub input_rest : Input → List ℕ
input_rest i = drop i.at i.bytes.items

-- the result of a read of at most this many bytes, where these are left
abbrev pub given : ℕ → List ℕ → Got
given most [] = got.End
given most (byte ∷ rest) = got.Bytes (min most (length rest + 1))

abbrev pub given_of : ℕ → Option (List ℕ) → Got
given_of most None = got.Failed
given_of most (Some rest) = given most rest
