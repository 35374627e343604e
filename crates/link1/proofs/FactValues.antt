-- Messages with values that are all different, and their images and levels, which model/ worked out: what the rows of facts ask with.
use mathlib.Core.Bool.{Bool, true, false}
use mathlib.Core.List.{List, [], ◌∷◌, ◌++◌}
use Prim.Native.Nat.{ℕ}
use lib.IntN.{ℤ, pos, negsuc}
use lib.ListN.{replicate}
use Rattle.std.specs.Prelude.{Some, None}
use Rattle.message.specs.declared.Iff.{Iff}
use Rattle.message.specs.declared.Track.{Track}
use Rattle.message.specs.declared.Amplifying.{Amplifying}
use Rattle.message.specs.declared.Strobe.{Strobe}
use Rattle.message.specs.declared.Corner.{Corner}
use Rattle.message.specs.declared.Message.{Message}
use Rattle.link1.proofs.Asking.{track, at, digits, octets_in, sixteen, seven}

-- ---- messages with values that are all different; in three of them a code is left open

-- an S.5's and an S.6's values, in the order of their bits
abbrev amplifying : ℕ → ℕ → ℕ → ℕ → Bool → Bool → ℕ → ℤ → ℕ → ℕ → ℤ → Amplifying
amplifying altitude strength identification special simulated drop traffic vx allocation special' vy =
    record {
      altitude = record { 0 = altitude };
      strength = strength;
      identification = identification;
      special23 = special;
      simulated = simulated;
      drop = drop;
      traffic = traffic;
      vx = vx;
      allocation = allocation;
      special39 = special';
      vy = vy;
    }

abbrev strobe : Bool → ℕ → ℕ → Bool → ℕ → ℕ → ℕ → ℕ → ℕ → ℕ → Strobe
strobe acquisition width type simulated azimuth site sensor number elevation age =
    record {
      acquisition = acquisition;
      width = width;
      strobe_type = type;
      simulated = simulated;
      azimuth = azimuth;
      site = site;
      sensor = sensor;
      number = number;
      elevation = elevation;
      age = age;
    }

abbrev pub track_a : Track
track_a = track 12345 1 (negsuc 1233) (pos 3007)

abbrev pub track_b : Track
track_b = track 20001 2 (pos 77) (negsuc 3999)

abbrev pub iff_a : ℕ → Iff
iff_a n = record { mode3a = Some 1234; request = n; emergency = true; validation = false; mode1 = None; mode2 = Some 3001 }

abbrev pub iff_b : Iff
iff_b = record { mode3a = None; request = 2; emergency = false; validation = true; mode1 = Some 21; mode2 = None }

-- Mode 2 alone is present
abbrev pub iff_c : Iff
iff_c = record { mode3a = None; request = 4; emergency = true; validation = false; mode1 = None; mode2 = Some 3001 }

-- with an altitude, a strength and an X velocity
abbrev pub amplifying_of : ℕ → ℕ → ℤ → Amplifying
amplifying_of altitude strength vx = amplifying altitude strength 9 1 true false 2 vx 3 5 (pos 101)

abbrev pub amplifying_a : ℕ → Amplifying
amplifying_a n = amplifying_of 300 n (negsuc 76)

abbrev pub amplifying_b : Amplifying
amplifying_b = amplifying 77 3 6 2 false true 1 (pos 60) 1 2 (negsuc 18)

abbrev pub strobe_a : ℕ → Strobe
strobe_a n = strobe true 3 1 false 1717 37 5 19 n 50

abbrev pub strobe_b : Strobe
strobe_b = strobe false 6 2 true 2900 22 1 9 2 33

-- a corner at x and y, and another
abbrev pub corner_a : ℤ → ℤ → Corner
corner_a x y = record { area = 2; site = 37; number = 1; drop = true; x = record { 0 = x }; y = record { 0 = y } }

abbrev pub corner_b : Corner
corner_b = record { area = 1; site = 22; number = 3; drop = false; x = record { 0 = pos 77 }; y = record { 0 = negsuc 3999 } }

-- their images: the octets of the first message behind those of the start group, of the second, and the check group's
abbrev pub image_ab : List ℕ
image_ab = sixteen 0x00c59c86cecdffbad584b9b6a081c1d9

abbrev pub image_strobes : List ℕ
image_strobes = sixteen 0x0095e9adb59bced394b6aaeba992a1e5

abbrev pub image_iff_a : List ℕ
image_iff_a = sixteen 0x00c79c86cecdffbae492e4b68093dd8f

abbrev pub image_iff_b : List ℕ
image_iff_b = sixteen 0x00d784b9b6a081c1e48080c9958080fb

abbrev pub image_iff_c : List ℕ
image_iff_c = sixteen 0x00c79c86cecdffbae48080b48093ddfb

-- the same with digits left in the modes that are absent: Mode 1's, those of Modes 3/A and 2, those of Modes 3/A and 1
abbrev pub image_digits_a : List ℕ
image_digits_a = sixteen 0x00c79c86cecdffbae492e4b69f93dd91

abbrev pub image_digits_b : List ℕ
image_digits_b = sixteen 0x00d784b9b6a081c1e4bffec9959fffdb

abbrev pub image_digits_c : List ℕ
image_digits_c = sixteen 0x00c79c86cecdffbae4bffeb49f93dda5

abbrev pub image_amplifying_a : List ℕ
image_amplifying_a = sixteen 0x00c79c86cecdffbaa4b4dce9e6fba6fb

abbrev pub image_amplifying_b : List ℕ
image_amplifying_b = sixteen 0x00d784b9b6a081c1a5b2b3969ea5b7fd

abbrev pub image_corners : List ℕ
image_corners = sixteen 0x00d0cab48ecdffbad186d896a081c1af

-- the images with positions moved by 1125 feet on X and -1125 on Y; the third has lost the digits
abbrev pub relayed_ab : List ℕ
relayed_ab = sixteen 0x00c59c86decddfbad584b9bea09ec1ff

abbrev pub relayed_amplifying_a : List ℕ
relayed_amplifying_a = sixteen 0x00c79c86decddfbaa4b4dce9e6fba6cb

abbrev pub relayed_iff_b : List ℕ
relayed_iff_b = sixteen 0x00d784b9bea09ec1e48080c9958080ed

abbrev pub relayed_corners : List ℕ
relayed_corners = sixteen 0x00d0cab49ecddfbad186d89ea09ec189

-- an S.4 at -4096 and -4096, the sign bits alone, and Blank; an S.4+ of zeros, and an S.5 of traffic class 3 with both velocities at -128
abbrev pub image_lowest : List ℕ
image_lowest = sixteen 0x00c480808080c08180808080808080fb

abbrev pub image_slowest : List ℕ
image_slowest = sixteen 0x00c6808080808080a480808380c081df

abbrev pub slowest : Amplifying
slowest = amplifying 0 0 0 0 false false 3 (negsuc 127) 0 0 (negsuc 127)

-- an S.4 and an S.8 with every X and Y at 4095; an S.4 at 0 with the same S.8; an S.4 with Y at 4095 and an S.8 with X at 4095
abbrev pub image_edges : List ℕ
image_edges = sixteen 0x00c480809fffbffed480809fffbffeef

abbrev pub image_edge : List ℕ
image_edge = sixteen 0x00c4808080808080d480809fffbffecf

abbrev pub image_cross : List ℕ
image_cross = sixteen 0x00c480808080bffed480809fff8080cf

-- an image of two messages' octets and a check group; a message that is but a label; an S.5 of strength 1; an S.6 of elevation 13; an S.9
-- with spare bit 20 or 9; an S.3 with spare bit 8 and request 1, and one with request 1 and spare bits 29 and 30; a Blank with bits 30 and
-- 49
abbrev pub image : List ℕ → List ℕ → ℕ → List ℕ
image first second check = 0 ∷ first ++ second ++ check ∷ []

abbrev pub label : ℕ → List ℕ
label octet = octet ∷ replicate 6 0x80

abbrev pub strength1 : List ℕ
strength1 = seven 0xa480a080808080

abbrev pub elevation13 : List ℕ
elevation13 = seven 0x948080808085c0

abbrev pub spare20 : List ℕ
spare20 = seven 0xd0808280808080

abbrev pub spare9 : List ℕ
spare9 = seven 0xd0a08080808080

abbrev pub spare8request1 : List ℕ
spare8request1 = seven 0xe4c08180808080

abbrev pub request1spare29 : List ℕ
request1spare29 = seven 0xe4808180e08080

abbrev pub blank30and49 : List ℕ
blank30and49 = seven 0x80808080a08081

-- S.0 as it is; with bits 14 and 15 turned; with bits 8 and 49
abbrev pub test : List ℕ
test = replicate 7 0xba

abbrev pub test14and15 : List ℕ
test14and15 = seven 0xbabbfababababa

abbrev pub test8and49 : List ℕ
test8and49 = seven 0xbafabababababb

-- a buffer with something in it, and no octets of a frame
abbrev pub fives : ℕ → List ℕ
fives n = replicate n 5

abbrev pub no_octets : List ℕ
no_octets = replicate 16 0

-- the levels of T after 0, and after 1
abbrev pub levels_t0 : List ℕ
levels_t0 = digits "00000000110100110010110011010011001011001101001100101100110100110010110011010011001011001101001100101100110100110010110010101010"

abbrev pub levels_t1 : List ℕ
levels_t1 = digits "11111111001011001101001100101100110100110010110011010011001011001101001100101100110100110010110011010011001011001101001101010101"

-- T behind three ones, and ones behind it
abbrev pub shifted_t : List ℕ
shifted_t = octets_in 17 0xe017575757575757575757575757575fff

-- eight offsets with sum 1125
abbrev pub eight : List ℤ
eight = pos 2000 ∷ negsuc 999 ∷ pos 40 ∷ pos 70 ∷ negsuc 9 ∷ pos 3 ∷ pos 7 ∷ pos 15 ∷ []

-- one offset too many
abbrev pub nine : List ℤ
nine = replicate 9 (pos 0)

-- X one step beyond the range
abbrev pub far : Message
far = at (pos 4096)
