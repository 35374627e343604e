-- Small captures and what is written of them, by the definitions. One table, one proof. Assumes nothing.
use Prim.Native.String.{String}
use mathlib.Core.Path.{◌≡◌, refl}
use mathlib.Core.List.{List, [], ◌∷◌, ◌++◌, map}
use Prim.Native.Nat.{ℕ}
use lib.ListN.{take, drop}
use Rattle.bits.specs.Tests.{every}
use Rattle.bits.specs.Numbers.{sum_of}
use Rattle.frame.specs.Frame.{good_frame}
use Rattle.sieve.specs.Capture.{good_at}
use Rattle.frame.proofs.Images.{image_t, image_n}
use Rattle.text.specs.Text.{octets, dec_by, dec, dec_then, row}
use Rattle.hearing.specs.Ends.{ends_after, ends_to}
use Rattle.hearing.specs.Hearing.{lines_of, hearing_of}

-- a capture, and what is written of it
pub record Example : Type 0 where
  pub capture : List ℕ
  pub text : String

-- no octet; T; T without its last octet, and without its first; an octet of ones, T and N, which is a good frame though no pair of the
-- table
abbrev pub examples : List Example
examples =
    record { capture = []; text = "" }
    ∷ record { capture = image_t; text = "128\n" }
    ∷ record { capture = take 15 image_t; text = "" }
    ∷ record { capture = drop 1 image_t; text = "" }
    ∷ record { capture = 0xff ∷ image_t ++ image_n; text = "136\n264\n" }
    ∷ []

pub examples_heard : map (λ (e : Example). hearing_of e.capture) examples ≡ map (λ (e : Example). octets e.text) examples
unfolding hearing_of lines_of ends_to ends_after good_at good_frame every sum_of row dec_then dec dec_by
examples_heard = refl
