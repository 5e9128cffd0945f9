-- A first line, taken byte by byte, is what its fields say.
use Rattle.std.specs.Prelude.{ℕ, ◌≡◌, refl}
use Rattle.std.proofs.Common.{◌∙◌}
use mathlib.Core.List.{List, [], ◌∷◌}
use Rattle.laws.specs.Folds.{fold}
use Rattle.text.specs.declared.number.Number.TheVariants.{Empty}
use Rattle.text.specs.Lines.{line_fields, three, first_line}
use Rattle.text.specs.Steps.{first_start, first_step, first_answer}
use Rattle.text.specs.Reading.{after, first_steps, too_many, three_is}

after_is : (fs : List (List ℕ)) → after 0 Empty Empty Empty fs ≡ three fs
unfolding first_answer
after_is [] = refl
after_is (n ∷ []) = refl
after_is (n ∷ (s ∷ [])) = refl
after_is (n ∷ (s ∷ (k ∷ []))) = three_is n s k
after_is (n ∷ (s ∷ (k ∷ (x ∷ xs)))) = too_many _ _ Empty (x ∷ xs)

-- THE LAW of a first line
pub first_law : (line : List ℕ) → first_answer (fold first_step first_start line) ≡ first_line line
unfolding first_line
first_law line = first_steps 0 Empty Empty Empty line ∙ after_is (line_fields line)
