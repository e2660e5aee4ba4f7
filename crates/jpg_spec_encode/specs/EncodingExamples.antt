-- IMAGES OF THE WORKED EXAMPLES, what is asked for, and the results.
use Rattle.std.specs.Prelude.{ℕ, false, Bool, List, [], ◌∷◌, ℤ, pos, negsuc}
use Rattle.jpg_spec.specs.Elements.{zeros}
use Rattle.jpg_spec_write.specs.ScansAsked.{sequential}
use Rattle.jpg_spec_write.specs.declared.huffman.Huffman.TheVariants.{Plain}
use Rattle.jpg_spec_write.specs.FileText.{off}
use Rattle.jpg_spec_image.specs.Quality.{quality_scale, scaled_table, luminance_table, chrominance_table}
use Rattle.jpg_spec_encode.specs.Encoded.{Encoding}
use Rattle.jpg_spec_image.specs.Images.{Image}
use Rattle.jpg_spec_image.specs.declared.image.ImageKind.TheVariants.{Gray, Rgb}

-- one white pixel
abbrev pub white_pixel : Image
white_pixel = record { info = record { width = 1; height = 1; kind = Gray; x_metre = 0; y_metre = 0 }; samples = 255 ∷ [] }

-- 3 by 2: red, green and blue above white, black and gray
abbrev pub six_colours : Image
six_colours = record {
  info = record { width = 3; height = 2; kind = Rgb; x_metre = 0; y_metre = 0 };
  samples = 255 ∷ 0 ∷ 0 ∷ 0 ∷ 255 ∷ 0 ∷ 0 ∷ 0 ∷ 255 ∷ 255 ∷ 255 ∷ 255 ∷ 0 ∷ 0 ∷ 0 ∷ 128 ∷ 128 ∷ 128 ∷ [];
}

-- in one sequential scan, by the tables of a quality
abbrev pub of_quality : ℕ → Bool → List (ℕ × ℕ) → Encoding
of_quality quality baseline factors = record {
  gray = false;
  scans = sequential;
  huffman = Plain;
  restart = off;
  factors = factors;
  first = scaled_table (quality_scale quality) baseline luminance_table;
  others = scaled_table (quality_scale quality) baseline chrominance_table;
}

-- the default factors: 2x2,1x1,1x1
abbrev pub usual_factors : List (ℕ × ℕ)
usual_factors = (2, 2) ∷ (1, 1) ∷ (1, 1) ∷ []

-- its blocks of luminance, and of chrominance
abbrev pub six_luminance : List ℤ
six_luminance =
    negsuc 9 ∷ pos 8 ∷ negsuc 17 ∷ negsuc 14 ∷ pos 5 ∷ pos 20 ∷ pos 21 ∷ pos 1 ∷ pos 4 ∷ negsuc 12 ∷ negsuc 8 ∷ pos 3 ∷ pos 1 ∷ negsuc 2 ∷ pos 18 ∷ pos 11 ∷
    negsuc 3 ∷ negsuc 1 ∷ pos 0 ∷ pos 2 ∷ negsuc 4 ∷ negsuc 1 ∷ pos 1 ∷ pos 0 ∷ negsuc 1 ∷ negsuc 2 ∷ negsuc 1 ∷ pos 7 ∷ pos 3 ∷ negsuc 1 ∷ negsuc 1 ∷ negsuc 1 ∷
    negsuc 0 ∷ pos 0 ∷ pos 0 ∷ negsuc 0 ∷ pos 0 ∷ pos 0 ∷ negsuc 0 ∷ negsuc 0 ∷ negsuc 0 ∷ negsuc 1 ∷ negsuc 0 ∷ negsuc 0 ∷ negsuc 0 ∷ negsuc 0 ∷ negsuc 0 ∷ pos 0 ∷
    pos 0 ∷ pos 0 ∷ pos 0 ∷ negsuc 0 ∷ negsuc 0 ∷ negsuc 0 ∷ negsuc 0 ∷ negsuc 0 ∷ zeros 8

abbrev pub six_blue : List ℤ
six_blue =
    pos 46 ∷ negsuc 14 ∷ pos 0 ∷ pos 0 ∷ pos 0 ∷ negsuc 9 ∷ negsuc 4 ∷ pos 0 ∷ pos 0 ∷ pos 0 ∷ pos 0 ∷ pos 0 ∷ pos 0 ∷ pos 0 ∷ negsuc 1 ∷ negsuc 1 ∷
    pos 0 ∷ pos 0 ∷ pos 0 ∷ pos 0 ∷ pos 0 ∷ pos 0 ∷ pos 0 ∷ pos 0 ∷ pos 0 ∷ pos 0 ∷ pos 0 ∷ negsuc 0 ∷ negsuc 0 ∷ zeros 35

abbrev pub six_red : List ℤ
six_red =
    negsuc 7 ∷ pos 2 ∷ pos 0 ∷ pos 0 ∷ pos 0 ∷ pos 2 ∷ pos 1 ∷ zeros 57

-- from the scan header on
abbrev pub six_coded : List ℕ
six_coded =
    0xff ∷ 0xda ∷ 0x00 ∷ 0x0c ∷ 0x03 ∷ 0x01 ∷ 0x00 ∷ 0x02 ∷ 0x11 ∷ 0x03 ∷ 0x11 ∷ 0x00 ∷ 0x3f ∷ 0x00 ∷ 0xab ∷ 0x71 ∷ 0xa6 ∷ 0xd8 ∷ 0x4b ∷ 0xaa ∷ 0x6a ∷ 0xa6 ∷ 0x4b ∷ 0x2b ∷
    0x67 ∷ 0x29 ∷ 0xa9 ∷ 0x5d ∷ 0xc6 ∷ 0xbb ∷ 0xa2 ∷ 0x53 ∷ 0xb5 ∷ 0x16 ∷ 0x77 ∷ 0x55 ∷ 0x51 ∷ 0xc7 ∷ 0x00 ∷ 0x28 ∷ 0x00 ∷ 0x0e ∷ 0xc0 ∷ 0x01 ∷ 0x45 ∷ 0x14 ∷ 0x57 ∷ 0xd7 ∷
    0x60 ∷ 0x3f ∷ 0xdd ∷ 0x69 ∷ 0x7f ∷ 0x86 ∷ 0x3f ∷ 0x92 ∷ 0x39 ∷ 0xe5 ∷ 0xf1 ∷ 0x33 ∷ 0xff ∷ 0xd9 ∷ []
