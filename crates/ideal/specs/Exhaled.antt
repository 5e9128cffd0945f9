-- The exhaled list: an output's four words are those of the record that it emits. That as many outputs show a cell as records are emitted stands in
-- proofs/Exhaled.antt.
-- Assumes nothing.
use Rattle.std.specs.Prelude.{◌≡◌, refl, List, ℕ, ◌+◌, ◌*◌, ◌<◌, length, Option, Some, None}
use Rattle.std.proofs.Math.Path.{sym, ap}
use Rattle.std.proofs.Common.{◌∙◌, arith, add-zero}
use Rattle.std.proofs.Math.Bool.{So}
use Rattle.std.proofs.Math.ListN.{get_or}
use borrow.Author.Tests.{eqb-true, eq-eqb}
use Rattle.laws.specs.Lists.{get_or-blocks}
use Rattle.rules.specs.declared.Cell.{Cell}
use Rattle.rules.specs.Cells.{output_of, nth}
use Rattle.rules.specs.Answers.{exhaled_width}
use Rattle.rules.specs.Phases.{oldest_ready, is_emitted, emitted_words, exhaled}
use Rattle.rules.specs.Demands.{emits, emitted}
use Rattle.ideal.specs.Cells.{same-cell, ready_for→}
use Rattle.ideal.specs.Exhale.{OldestReady, oldest_is, found-emitted}

-- an entry has as many words whether a cell is emitted or none
pub length-emitted : (cs : List Cell) (x : Option ℕ) → length (emitted_words cs x) ≡ exhaled_width
length-emitted cs (Some k) = refl
length-emitted cs None = refl

module _ (n : ℕ) (cs : List Cell) where
  abbrev words : ℕ → List ℕ
  words o = emitted_words cs (oldest_ready cs (output_of o))

  -- word r of output o
  word_at : (o r : ℕ) → o < n → r < exhaled_width → get_or (exhaled n cs) (o * exhaled_width + r) 0 ≡ get_or (words o) r 0
  unfolding exhaled
  word_at o r l m = get_or-blocks words exhaled_width (λ o. length-emitted cs (oldest_ready cs (output_of o))) n o r 0 l m

  first_word : (o : ℕ) → o < n → get_or (exhaled n cs) (o * exhaled_width) 0 ≡ get_or (words o) 0 0
  first_word o l = ap (λ (i : ℕ). get_or (exhaled n cs) i 0) (sym (add-zero (o * exhaled_width))) ∙ word_at o 0 l (omega arith)

  -- an output that finds record k shows its cell
  pub shows : (o k : ℕ) → o < n → oldest_ready cs (output_of o) ≡ Some k → OldestReady cs (output_of o) (Some k)
      → So (emits (exhaled n cs) o) × (emitted (exhaled n cs) o ≡ nth cs k)
  unfolding emits emitted
  shows o k l e s =
      let r = ready_for→ (output_of o) (nth cs k) s.1 in (
        eq-eqb _ 1 (first_word o l ∙ ap (λ (x : Option ℕ). get_or (emitted_words cs x) 0 0) e),
        same-cell _ (nth cs k) (sym r.0)
            (record { input = word 1 (omega arith); output = sym r.1; entered = word 2 (omega arith); tag = word 3 (omega arith) }),
      )
    where
      word : (r : ℕ) → r < exhaled_width → get_or (exhaled n cs) (o * exhaled_width + r) 0 ≡ get_or (emitted_words cs (Some k)) r 0
      word r m = word_at o r l m ∙ ap (λ (x : Option ℕ). get_or (emitted_words cs x) r 0) e

  silent : (o : ℕ) → o < n → oldest_ready cs (output_of o) ≡ None → So (emits (exhaled n cs) o) → ⊥
  unfolding emits
  silent o l e h =
      omega (arith, eqb-true (get_or (exhaled n cs) (o * exhaled_width) 0) 1 h, first_word o l, ap (λ (x : Option ℕ). get_or (emitted_words cs x) 0 0) e)

  -- and what an output shows is a record that it emits
  pub shown→ : (o : ℕ) → o < n → So (emits (exhaled n cs) o)
      → (k : ℕ) × (k < length cs) × So (is_emitted n cs k) × ((nth cs k).output.0 ≡ o) × (emitted (exhaled n cs) o ≡ nth cs k)
  shown→ o l h = go (oldest_ready cs (output_of o)) refl (oldest_is cs (output_of o))
    where
      go : (x : Option ℕ) → oldest_ready cs (output_of o) ≡ x → OldestReady cs (output_of o) x
          → (k : ℕ) × (k < length cs) × So (is_emitted n cs k) × ((nth cs k).output.0 ≡ o) × (emitted (exhaled n cs) o ≡ nth cs k)
      go None e s = absurd (silent o l e h)
      go (Some k) e s = (k, s.0, found-emitted n cs (output_of o) k l e s, (ready_for→ (output_of o) (nth cs k) s.1).1, (shows o k l e s).1)
