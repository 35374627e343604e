-- WHAT IS TOLD OF A MESSAGE IS ITS FIRST TROUBLE (02, item 4): of a word of any kind, and of the values of any message. No trouble begins
-- at a lower bit, said of every field and without going up the layout (`Begins`, `Misfits`, `IsFirst`: bits/specs/Begins.antt); the bit is
-- one of 7 to 49; and where nothing is told, no trouble begins. Assumes nothing.
use mathlib.Core.Path.{◌≡◌, sym, subst}
use Prim.Native.Nat.{ℕ, ◌+◌, ◌^◌, ◌<◌}
use native.Mathlib.Omega.{arith}
use Rattle.std.specs.Prelude.{Ok, Err}
use Rattle.layout.specs.Begins.{Begins, Misfits, IsFirst}
use Rattle.layout.specs.Rules.{slots_of, total}
use Rattle.layout.specs.declared.Cause.{Cause}
use Rattle.layout.specs.Trouble.{Checked}
use Rattle.kind.specs.Layouts.{layout_of}
use Rattle.kind.specs.declared.Kind.{Kind}
use Rattle.message.specs.Messages.{kind_of, parts_of}
use Rattle.message.specs.Codec.{content_trouble, message_trouble}
use Rattle.message.specs.declared.Message.{Message}
use Rattle.layout.proofs.TroubleLaws.{trouble_first, misfit_first, begins_above, begins_below, misfits_in, begins_cause, misfits_cause, first_one}
use Rattle.refusal.proofs.CheckLaws.{InMessage}
use Rattle.kind.proofs.TableLaws.{wide, sound}

-- ---- a word as a message of a kind

module _ (k : Kind) (word : ℕ) where
  -- a trouble of cause c begins at bit b of the word
  abbrev pub BeginsAt : Cause → ℕ → Type 0
  BeginsAt = Begins 6 (layout_of k) word

  pub content_first : IsFirst BeginsAt (content_trouble k word)
  content_first = trouble_first 6 (layout_of k) word (sound k)

  -- and no other is first
  pub content_only : (t : Checked) → IsFirst BeginsAt t → t ≡ content_trouble k word
  content_only t f = first_one BeginsAt t (content_trouble k word) (begins_cause 6 (layout_of k) word (sound k)) f content_first

  pub content_bit : word < 2 ^ 49 → InMessage (content_trouble k word)
  content_bit short = go (content_trouble k word) content_first
    where
      there : word < 2 ^ (6 + total (slots_of (layout_of k)))
      there = subst (λ (n : ℕ). word < 2 ^ (6 + n)) (sym (wide k)) short

      go : (t : Checked) → IsFirst BeginsAt t → InMessage t
      go (Ok u) f = tt
      go (Err t) f =
          (begins_above 6 (layout_of k) word (sound k) t.cause t.bit f.0, omega (arith, begins_below 6 (layout_of k) word (sound k) there t.cause t.bit f.0, wide k))

-- ---- the values of a message

module _ (msg : Message) where
  -- a trouble of cause c begins at bit b where the message is written
  abbrev pub MisfitsAt : Cause → ℕ → Type 0
  MisfitsAt = Misfits 6 (layout_of (kind_of msg)) (parts_of msg)

  pub message_first : IsFirst MisfitsAt (message_trouble msg)
  unfolding message_trouble
  message_first = misfit_first 6 (layout_of (kind_of msg)) (parts_of msg) (sound (kind_of msg))

  pub message_only : (t : Checked) → IsFirst MisfitsAt t → t ≡ message_trouble msg
  message_only t f =
      first_one MisfitsAt t (message_trouble msg) (misfits_cause 6 (layout_of (kind_of msg)) (parts_of msg) (sound (kind_of msg))) f message_first

  pub message_bit : InMessage (message_trouble msg)
  message_bit = go (message_trouble msg) message_first
    where
      go : (t : Checked) → IsFirst MisfitsAt t → InMessage t
      go (Ok u) f = tt
      go (Err t) f =
          let p = misfits_in 6 (layout_of (kind_of msg)) (parts_of msg) (sound (kind_of msg)) t.cause t.bit f.0 in
          (p.0, omega (arith, p.1, wide (kind_of msg)))
