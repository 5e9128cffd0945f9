-- What is copied behind the text so far is set there, byte by byte.
-- Assumes nothing.
use Rattle.std.proofs.Common.{◌≡◌, ◌∙◌, ◌≤◌, ◌+◌, ◌++◌, ℕ, List, length, drop, take, sym, ap, arith, append_assoc, rules}
use Rattle.std.proofs.lemmas.List.{drop-drop}
use Rattle.std.proofs.lemmas.List.Edits.{sets, sets-eq}
use borrow.Rule.Slice.PartMut.{put_mid}
use Rattle.printing.proofs.page.Page.put_text.Goals as goal

copied : (l text part : List ℕ) (i k : ℕ) → part ≡ text → k ≡ length text → i + length text ≤ length l → put_mid i k l part ≡ sets l i text
copied l text part i k e n h =
    rw (e, n)
    (ap (λ (rest : List ℕ). take i l ++ (text ++ rest)) (drop-drop (length text) i l)
    ∙ sym (append_assoc (take i l) text (drop (i + length text) l))
    ∙ sym (sets-eq text l i h))

pub returns : goal.returns
returns c = record {
  count = omega arith;
  bytes = copied _ _ _ _ _ c.copy_from_slice.ensures.after (omega arith) c.requires;
  within = omega arith;
  same_bytes = search rules;
}
