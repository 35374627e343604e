-- What a content, and the word of a message, say of the first trouble. Assumes nothing.
use mathlib.Core.Path.{◌≡◌}
use mathlib.Core.List.{List, ◌∷◌}
use Prim.Native.Nat.{ℕ}
use Rattle.std.specs.Prelude.{Ok, Err}
use Rattle.layout.specs.declared.Cause.{Cause}
use Rattle.layout.specs.Trouble.{nothing, wrong}
use Rattle.refusal.specs.Refusals.{inside_at}
use Rattle.refusal.specs.Checks.{Check, inside, first_refusal}
use Rattle.refusal.specs.declared.Refusal.{Refusal}
use Rattle.kind.specs.declared.Kind.{Kind}
use Rattle.message.specs.Codec.{content_trouble, message_in, content_of, message_trouble, message_word, encoded_of}
use Rattle.message.specs.declared.Message.{Message}
use Rattle.refusal.proofs.CheckLaws.{Refuses, inside_wrong, inside_value, inside_refused}

module _ (place : ℕ) (k : Kind) (w : ℕ) where
  pub content_right : content_trouble k w ≡ nothing → content_of place k w ≡ Ok (message_in k w)
  unfolding content_of
  content_right e = rw e

  pub content_wrong : (c : Cause) (b : ℕ) → content_trouble k w ≡ wrong c b → content_of place k w ≡ Err (inside_at place c b)
  unfolding content_of
  content_wrong c b e = rw e (inside_wrong (message_in k w) place c b)

  pub content_good : (m : Message) → content_of place k w ≡ Ok m → (content_trouble k w ≡ nothing) × (message_in k w ≡ m)
  unfolding content_of
  content_good m e =
      let p = inside_value (message_in k w) place (content_trouble k w) m e in
      let same = p.1 in
      (p.0, cc)

  pub content_refused : (r : Refusal) → content_of place k w ≡ Err r → Refuses r × ((cs : List Check) → first_refusal (inside place (content_trouble k w) ∷ cs) ≡ r)
  unfolding content_of
  content_refused r e = inside_refused (message_in k w) place (content_trouble k w) r e

module _ (place : ℕ) (m : Message) where
  pub word_right : message_trouble m ≡ nothing → encoded_of place m ≡ Ok (message_word m)
  unfolding encoded_of
  word_right e = rw e

  pub word_wrong : (c : Cause) (b : ℕ) → message_trouble m ≡ wrong c b → encoded_of place m ≡ Err (inside_at place c b)
  unfolding encoded_of
  word_wrong c b e = rw e (inside_wrong (message_word m) place c b)

  pub word_good : (w : ℕ) → encoded_of place m ≡ Ok w → (message_trouble m ≡ nothing) × (message_word m ≡ w)
  unfolding encoded_of
  word_good w e =
      let p = inside_value (message_word m) place (message_trouble m) w e in
      let same = p.1 in
      (p.0, cc)

  pub word_refused : (r : Refusal) → encoded_of place m ≡ Err r → Refuses r × ((cs : List Check) → first_refusal (inside place (message_trouble m) ∷ cs) ≡ r)
  unfolding encoded_of
  word_refused r e = inside_refused (message_word m) place (message_trouble m) r e
