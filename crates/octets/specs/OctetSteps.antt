-- What the steps of the octet receiver promise one another; Feeding.antt says what the receiver is.
use Rattle.std.specs.Prelude.{true, false, ℕ, ◌/◌, ◌%◌, ◌^◌}
use Rattle.std.specs.Int.Count.{count_leading_zeros}
use Rattle.bits.specs.Tests.{pick}
use Rattle.line.specs.Machine.{no_image}
use Rattle.line.specs.declared.Window.{Window}
use Rattle.line.specs.declared.Handed.{Handed}
use Rattle.octets.specs.declared.OctetReceiver.{OctetReceiver}
use Rattle.octets.specs.declared.HeardOctet.{HeardOctet}

-- the zeros at the front of the window's second octet
abbrev pub lead_of : Window → ℕ
lead_of w = count_leading_zeros 8 (w.older / 2 ^ 48 % 256)

-- no frame
abbrev pub nothing_heard : OctetReceiver → HeardOctet
nothing_heard s = record { receiver = s; frame = false; bit = 0; image = no_image }

-- what is handed over at a bit
abbrev pub heard_as : OctetReceiver → Handed → ℕ → HeardOctet
heard_as s handed bit = pick handed.frame (record { receiver = s; frame = true; bit = bit; image = handed.image }) (nothing_heard s)
