-- The rules' fresh start and slot on words alone: the switch's numbers as three words, the answer as its number.
-- Assumes nothing.
use Rattle.std.specs.Prelude.{ℕ, zero, suc, ◌<◌, ◌≡◌, cond, List, [], ◌∷◌, eqb, length, get_or}
use Rattle.std.proofs.Math.Path.{refl}
use Rattle.std.proofs.Common.{sym, arith, eq-eqb, ne_eqb, ext_get_or}
use Rattle.std.proofs.lemmas.List.Edits.{sets}
use Rattle.laws.specs.Lists.{sets_all}
use Rattle.rules.specs.declared.Switch.{Switch}
use Rattle.rules.specs.Cells.{switch}
use Rattle.rules.specs.Answers.{Lists, number_of}
use Rattle.rules.specs.Calls.{Started, Outcome, fresh_start, slot}

-- N, S and t
abbrev pub number_width : ℕ
number_width = 3

-- given back for a list of numbers of another length; document 01 gives no such number
abbrev pub no_numbers : ℕ
no_numbers = 255

abbrev pub switch_of : List ℕ → Switch
switch_of numbers = switch (get_or numbers 0 0) (get_or numbers 1 0) (get_or numbers 2 0)

abbrev pub numbers_of : Switch → List ℕ
numbers_of w = w.ports ∷ w.speedup ∷ w.next.0 ∷ []

-- Fresh start ----------------------------------------------------------------------------------

pub record StartedWords : Type 0 where
  pub number : ℕ
  pub numbers : List ℕ
  pub table : List ℕ

abbrev pub started_words : Started → StartedWords
started_words s = record { number = number_of s.answer; numbers = numbers_of s.numbers; table = s.table }

-- the numbers are none: all is left as found
abbrev pub start_unnumbered : List ℕ → List ℕ → StartedWords
start_unnumbered numbers table = record { number = no_numbers; numbers = numbers; table = table }

unfoldable pub start_of_words : List ℕ → List ℕ → StartedWords
start_of_words numbers table =
    cond (eqb (length numbers) number_width) (started_words (fresh_start (switch_of numbers) table)) (start_unnumbered numbers table)

pub started_numbered : (numbers table : List ℕ) → length numbers ≡ number_width → start_of_words numbers table ≡ started_words (fresh_start (switch_of numbers) table)
unfolding start_of_words
started_numbered numbers table e = rw (eq-eqb (length numbers) number_width e) refl

pub started_unnumbered : (numbers table : List ℕ) → (length numbers ≡ number_width → ⊥) → start_of_words numbers table ≡ start_unnumbered numbers table
unfolding start_of_words
started_unnumbered numbers table d = rw (ne_eqb (length numbers) number_width d) refl

-- A slot ---------------------------------------------------------------------------------------

pub record OutcomeWords : Type 0 where
  pub number : ℕ
  pub numbers : List ℕ
  pub table : List ℕ
  pub matches : List ℕ
  pub exhaled : List ℕ

abbrev pub outcome_words : Outcome → OutcomeWords
outcome_words s =
    record { number = number_of s.answer; numbers = numbers_of s.numbers; table = s.table; matches = s.matches; exhaled = s.exhaled }

abbrev pub slot_unnumbered : List ℕ → List ℕ → Lists → OutcomeWords
slot_unnumbered numbers table l = record { number = no_numbers; numbers = numbers; table = table; matches = l.matches; exhaled = l.exhaled }

unfoldable pub slot_of_words : List ℕ → List ℕ → Lists → OutcomeWords
slot_of_words numbers table l = cond (eqb (length numbers) number_width) (outcome_words (slot (switch_of numbers) table l)) (slot_unnumbered numbers table l)

module _ (numbers table : List ℕ) (l : Lists) where
  pub slot_numbered : length numbers ≡ number_width → slot_of_words numbers table l ≡ outcome_words (slot (switch_of numbers) table l)
  unfolding slot_of_words
  slot_numbered e = rw (eq-eqb (length numbers) number_width e) refl

  pub slot_unnumbered_lem : (length numbers ≡ number_width → ⊥) → slot_of_words numbers table l ≡ slot_unnumbered numbers table l
  unfolding slot_of_words
  slot_unnumbered_lem d = rw (ne_eqb (length numbers) number_width d) refl

-- The words of the numbers -----------------------------------------------------------------------

-- the numbers of a refused call come back as they came
pub as_found : (ns : List ℕ) → length ns ≡ number_width → numbers_of (switch_of ns) ≡ ns
as_found ns e = ext_get_or 0 (numbers_of (switch_of ns)) ns (sym e) (λ i l. each i l)
  where
    each : (i : ℕ) → i < number_width → get_or (numbers_of (switch_of ns)) i 0 ≡ get_or ns i 0
    each zero l = refl
    each (suc zero) l = refl
    each (suc (suc zero)) l = refl
    each (suc (suc (suc i))) l = absurd (omega arith)

-- stores of all of them make the list of the numbers
pub all_set : (ns : List ℕ) (w : Switch) → length ns ≡ number_width → sets ns 0 (numbers_of w) ≡ numbers_of w
all_set ns w e = sets_all ns (numbers_of w) e
