-- Laws of texts that are put into a buffer. Assumes nothing.
use mathlib.Core.Path.{◌≡◌, refl, sym, ap, ◌∙◌}
use mathlib.Core.List.{List, [], ◌++◌, append_assoc, append-nil}
use Prim.Native.Nat.{ℕ, ◌+◌, ◌-◌, ◌≤◌}
use native.Mathlib.Nat.{add-zero}
use native.Mathlib.Omega.{arith}
use lib.ListN.{length, take, drop, length-append, length-drop, drop_of_length-le}
use lib.Seq.{take_all, take_at, drop_at, paste-zero, drop-drop, take-length, length-take-le}
use borrow.Rule.Slice.PartMut.{put_mid}
use Rattle.std.proofs.lemmas.Slice.{put_mid-paste}
use Rattle.std.proofs.lemmas.List.Edits.{paste_all}
use Rattle.text.specs.Wrote.{Wrote, pasted}

-- what stands before a text and the text itself
head_length : (d : List ℕ) (at : ℕ) (xs : List ℕ) → at + length xs ≤ length d → length (take at d ++ xs) ≡ at + length xs
head_length d at xs h = length-append (take at d) xs ∙ ap (λ (k : ℕ). k + length xs) (length-take-le at d (omega arith))

-- nothing is put
pub put_none : (d : List ℕ) (at : ℕ) → Wrote d at [] d at
unfolding pasted
put_none d at = record { next = sym (add-zero at); text = paste-zero d at [] }

-- one text after another is the two together
pub put_put : {d xs ys e f : List ℕ} {at r s : ℕ} → r ≤ length d → Wrote d at xs e r → Wrote e r ys f s → Wrote d at (xs ++ ys) f s
unfolding pasted
put_put {d} {xs} {ys} {e} {f} {at} {r} {s} h w v =
    let hd : length (take at d ++ xs) ≡ r = head_length d at xs (omega (arith, w.next)) ∙ sym w.next in
    let tk : take r e ≡ take at d ++ xs = ap (take r) w.text ∙ take_at (take at d ++ xs) (drop (at + length xs) d) r hd in
    let dr : drop r e ≡ drop r d =
    ap (drop r) w.text ∙ drop_at (take at d ++ xs) (drop (at + length xs) d) r hd ∙ ap (λ (k : ℕ). drop k d) (sym w.next) in
    let past : r + length ys ≡ at + length (xs ++ ys) = omega (arith, w.next, length-append xs ys) in
    let rest : drop (r + length ys) e ≡ drop (at + length (xs ++ ys)) d =
    sym (drop-drop (length ys) r e) ∙ ap (drop (length ys)) dr ∙ drop-drop (length ys) r d ∙ ap (λ (k : ℕ). drop k d) past in
    record {
      next = v.next ∙ past;
      text = v.text ∙ ap (λ (l : List ℕ). l ++ ys ++ drop (r + length ys) e) tk
          ∙ ap (λ (l : List ℕ). take at d ++ xs ++ ys ++ l) rest
          ∙ ap (λ (l : List ℕ). l ++ drop (at + length (xs ++ ys)) d) (append_assoc (take at d) xs ys);
    }

-- what a copy of xs into the part from at on leaves
pub put_copy : (d : List ℕ) (at : ℕ) (xs : List ℕ) → at + length xs ≤ length d
    → take at d ++ ((take (length xs) xs ++ drop (length xs) (take (length d - at) (drop at d))) ++ drop (length d - at) (drop at d))
    ≡ pasted d at xs
unfolding pasted
put_copy d at xs h =
    let whole : take (length d - at) (drop at d) ≡ drop at d = take_all (length d - at) (drop at d) (omega (arith, length-drop at d)) in
    let ends : length (drop at d) ≤ length d - at = omega (arith, length-drop at d) in
    let over : drop (length d - at) (drop at d) ≡ [] = drop_of_length-le (drop at d) ends in
    rw (whole, over, take-length, append-nil, drop-drop, append_assoc)

-- what a copy of xs into the part from at to e leaves
pub put_part : (d ys : List ℕ) (at e : ℕ) (xs : List ℕ) → ys ≡ xs → e ≡ at + length xs → Wrote d at xs (put_mid at (e - at) d ys) e
unfolding pasted
put_part d ys at e xs same h =
    record {
      next = h;
      text = put_mid-paste at (e - at) d ys xs (length xs) same (omega arith) refl ∙ paste_all d at xs (length xs) refl
          ∙ sym (append_assoc (take at d) xs (drop (at + length xs) d));
    }

-- what stands in front of the index after a text that is put at the start
pub put_first : {d xs e : List ℕ} {r : ℕ} → Wrote d 0 xs e r → take r e ≡ xs
unfolding pasted
put_first {d} {xs} {e} {r} w = ap (take r) w.text ∙ take_at xs (drop (0 + length xs) d) r (omega (arith, w.next))
