-- `writing::encode` meets its contract. Assumes nothing.
use borrow.Author.Rules.{rules}
use mathlib.Core.Path.{◌≡◌, refl, sym, ap, ◌∙◌}
use Prim.Native.Nat.{ℕ}
use Rattle.std.specs.Prelude.{Result, Ok, Err}
use Rattle.refusal.specs.declared.Refusal.{Refusal}
use Rattle.message.specs.Codec.{message_trouble, message_word, encoded_of}
use Rattle.layout.proofs.RuleLaws.{packed_word, packed_wrong}
use Rattle.message.proofs.CodecLaws.{word_right, word_wrong}
use Rattle.refusal.proofs.Mapped.{mapped_ok, mapped_err}
use Rattle.writing.proofs.encode.Goals as goal

pub returns : goal.returns
returns c = told c.map_err.result refl
  where
    told : (s : Result ℕ Refusal) → c.map_err.result ≡ s → s ≡ encoded_of c.args.place c.args.m
    told (Ok word) e =
        let a = c.args in
        let is = packed_word (message_trouble a.m) (message_word a.m) _ (sym c.pack.ensures ∙ mapped_ok _ _ _ c.map_err.ensures.cases e) in
        sym (word_right a.place a.m is.0 ∙ ap Ok is.1)
    told (Err refusal) e =
        let a = c.args in
        let trouble = mapped_err _ _ _ c.map_err.ensures.cases e in
        let t = trouble.0 in
        let wrong = word_wrong a.place a.m t.cause t.bit (packed_wrong (message_trouble a.m) (message_word a.m) t (sym c.pack.ensures ∙ trouble.1)) in
        search rules
