-- What is written of an element of a band: the symbol, whose code is first, extra bits after it, and then corrections.
use Rattle.std.specs.Prelude.{◌≡◌, ◌^◌, ◌<◌, ◌≤◌, Bool, false, List, ◌++◌, flat_map}
use Rattle.jpg_spec.specs.Bits.{bits_of}
use Rattle.jpg_spec.specs.Codes.{Code}
use Rattle.jpg_spec.specs.Elements.{Element, symbol_of, bits_after}
use Rattle.jpg_spec.specs.Codes.{code_of}
use Rattle.jpg_spec_write.specs.ScanText.{is_dc}
use Rattle.jpg_spec_write.specs.Sending.{Sent, correction, newly_significant}
use Rattle.jpg_prog_write.specs.declared.item.Item.{Item}
use Rattle.jpg_prog_write.specs.declared.band.Sending.{Sending}
use Rattle.jpg_prog_write.specs.declared.band.Sending.TheVariants.{Correction, NewlySignificant}

pub record IsItem (e : Element) (item : Item) (corrections : List Bool) : Type 0 where
  pub band : is_dc e ≡ false
  pub symbol : item.symbol ≡ symbol_of e
  pub bits : bits_of item.size item.extra ++ corrections ≡ bits_after e
  pub short : item.size ≤ 16
  pub fits : item.extra < 2 ^ item.size
  pub small : item.symbol < 255

-- what is sent of a value
abbrev pub sent_by : Sending → Sent
sent_by (Correction bit) = correction bit
sent_by (NewlySignificant v) = newly_significant v

-- the first code of an element's symbol, and the bits after it
abbrev pub spelled : List Code → Element → List Bool
spelled codes e = code_of codes (symbol_of e) ++ bits_after e

unfoldable pub texts : List Code → List Element → List Bool
texts codes elements = flat_map (spelled codes) elements
