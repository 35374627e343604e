-- 01, 'The listing program': the paper's two listings, by the definitions. One table, one proof. Assumes nothing.
use Prim.Native.String.{String}
use mathlib.Core.Path.{◌≡◌, refl}
use mathlib.Core.List.{List, [], ◌∷◌, ◌++◌, map}
use Prim.Native.Nat.{ℕ}
use Rattle.bits.specs.Tests.{every}
use Rattle.bits.specs.Numbers.{num_of, sum_of}
use Rattle.frame.proofs.Images.{image_t, image_n}
use Rattle.pair.specs.Pairs.{pair_of}
use Rattle.pair.specs.Opening.{open_refusal, open_of}
use Rattle.text.specs.Text.{octets, dec_by, dec, dec_then, row}
use Rattle.image_lines.specs.ImageLines.{image_line, last_line}
use Rattle.listing.specs.Listing.{image_at, image_lines, listing_of}

-- a log, and its listing
pub record Example : Type 0 where
  pub log : List ℕ
  pub text : String

abbrev pub examples : List Example
examples =
    record { log = []; text = "LINK1\nEND 0 0\n" }
    ∷ record { log = image_t ++ image_n; text = "LINK1\n1 0 46 46\n2 7 0\nEND 2 0\n" } ∷ []

pub examples_listed : map (λ (e : Example). listing_of e.log) examples ≡ map (λ (e : Example). octets e.text) examples
unfolding listing_of image_lines image_at image_line last_line row dec_then dec dec_by
    open_of open_refusal pair_of every sum_of num_of
examples_listed = refl
