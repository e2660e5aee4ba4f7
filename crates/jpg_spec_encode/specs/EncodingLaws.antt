-- Terms of the laws on encoded images. No definition uses them.
use Rattle.std.specs.Prelude.{ℕ, ◌≤◌, All}
use Rattle.jpg_spec.specs.Segments.{AreQuantisers}
use Rattle.jpg_spec_write.specs.WrittenFile.{IsRestart}
use Rattle.jpg_spec_encode.specs.Encoded.{Encoding}
use Rattle.jpg_spec_image.specs.Images.{Image}
use Rattle.jpg_spec.specs.EncodingLaws.{AreSamples}

-- horizontal and vertical factors
pub record AreFactors (factors : ℕ × ℕ) : Type 0 where
  pub h_low : 1 ≤ factors.0
  pub h_high : factors.0 ≤ 4
  pub v_low : 1 ≤ factors.1
  pub v_high : factors.1 ≤ 4

-- An image with sides that a frame can have and samples of eight bits; factors from 1 to 4, tables, and restarts that
-- fit into two bytes.
pub record IsEncodable (e : Encoding) (image : Image) : Type 0 where
  pub width_low : 1 ≤ image.info.width
  pub width_high : image.info.width ≤ 65500
  pub height_low : 1 ≤ image.info.height
  pub height_high : image.info.height ≤ 65500
  pub samples : AreSamples image.samples
  pub factors : All AreFactors e.factors
  pub first : AreQuantisers e.first
  pub others : AreQuantisers e.others
  pub restart : IsRestart e.restart
