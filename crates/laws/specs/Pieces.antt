-- A list's elements from one place up to another.
-- Assumes nothing.
use Rattle.std.specs.Prelude.{ℕ, ◌+◌, ◌-◌, ◌≤◌, ◌<◌, ◌≡◌, List, [], ◌∷◌, ◌++◌, length, get_or, take, drop}
use Rattle.std.proofs.Common.{sym, ap, ◌∙◌, arith, add-one, take-append-drop, drop-cons, drop-drop, take-add}

unfoldable pub part : List ℕ → ℕ → ℕ → List ℕ
part piece i j = take (j - i) (drop i piece)

pub part_none : (piece : List ℕ) (i : ℕ) → part piece i i ≡ []
unfolding part
part_none piece i = ap (λ (n : ℕ). take n (drop i piece)) {x = i - i} {y = 0} (omega arith)

pub part_join : (piece : List ℕ) (i j k : ℕ) → i ≤ j → j ≤ k → part piece i k ≡ part piece i j ++ part piece j k
unfolding part
part_join piece i j k h l =
    ap (λ (n : ℕ). take n (drop i piece)) {x = k - i} {y = (j - i) + (k - j)} (omega arith)
    ∙ take-add (j - i) (k - j) (drop i piece)
    ∙ ap (λ (m : List ℕ). take (j - i) (drop i piece) ++ take (k - j) m)
    (drop-drop (j - i) i piece ∙ ap (λ (n : ℕ). drop n piece) {x = i + (j - i)} {y = j} (omega arith))

pub part_one : (piece : List ℕ) (i : ℕ) → i < length piece → part piece i (i + 1) ≡ get_or piece i 0 ∷ []
unfolding part
part_one piece i h = ap (λ (n : ℕ). take n (drop i piece)) {x = i + 1 - i} {y = 1} (omega arith) ∙ ap (λ (m : List ℕ). take 1 m) (drop-cons piece i 0 h)

pub part_more : (piece : List ℕ) (i j : ℕ) → i ≤ j → j < length piece → part piece i (j + 1) ≡ part piece i j ++ (get_or piece j 0 ∷ [])
part_more piece i j h l = part_join piece i j (j + 1) h (omega arith) ∙ ap (λ (m : List ℕ). part piece i j ++ m) (part_one piece j l)

pub part-first : (piece : List ℕ) (i j : ℕ) → i < j → i < length piece → part piece i j ≡ get_or piece i 0 ∷ part piece (i + 1) j
part-first piece i j h l = part_join piece i (i + 1) j (omega arith) (omega arith) ∙ ap (λ (m : List ℕ). m ++ part piece (i + 1) j) (part_one piece i l)

pub part_rest : (piece : List ℕ) (i j : ℕ) → i ≤ j → drop i piece ≡ part piece i j ++ drop j piece
unfolding part
part_rest piece i j h =
    sym (take-append-drop (j - i) (drop i piece))
    ∙ ap (λ (m : List ℕ). take (j - i) (drop i piece) ++ m) (drop-drop (j - i) i piece ∙ ap (λ (n : ℕ). drop n piece) {x = i + (j - i)} {y = j} (omega arith))

-- from a place on, that place's element first
pub drop_next : (piece : List ℕ) (n b : ℕ) → n < length piece → get_or piece n 0 ≡ b → drop n piece ≡ b ∷ drop (n + 1) piece
drop_next piece n b h e = rw (add-one n, ← e) (drop-cons piece n 0 h)
