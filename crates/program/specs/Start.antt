-- The first line's fresh start: the lent part of the table answers as the table asked for, however long that is.
-- Assumes nothing.
use Prim.Native.Nat.{ℕ, ◌*◌, ◌/◌, ◌%◌, ◌≤◌, ◌<◌}
use Rattle.std.specs.Prelude.{◌≡◌, ◌⊎◌, Bool, List, ◌++◌, eqb, replicate}
use Rattle.std.proofs.Math.Path.{refl, sym, ap}
use Rattle.std.proofs.Common.{◌∙◌, arith, eq-eqb, ltb-true, ltb-false, lt-ltb}
use Rattle.std.proofs.Math.Logic.{inl, inr, ⊎_elim}
use Rattle.std.proofs.Math.Bool.{So, true, false, cond}
use Rattle.std.proofs.Math.Dec.{ltb}
use Rattle.std.proofs.Math.ListN.{length}
use Rattle.std.proofs.lemmas.List.{length-replicate}
use Rattle.laws.specs.Tests.{No, refuted, on_right, cond_true, cond_false}
use Rattle.rules.specs.declared.Switch.{Switch}
use Rattle.rules.specs.Cells.{width, is_whole, records, most_records, most_ports, most_speedup}
use Rattle.rules.specs.Answers.{number_of, is_done, outside, fresh_answer}
use Rattle.rules.specs.Calls.{Started, fresh_start}
use Rattle.ideal.specs.Calls.{fresh_sizes, fresh_accepted, fresh_refused}
use Rattle.printing.specs.Printed.{header_line, refused_line}
use Rattle.program.specs.Program.{slots_text, start_text}
use Rattle.program.specs.Lent.{most_lent, lent_table_words, lent_words}

-- a table's length is all that a fresh start sees of it, and a table that is too long is refused whatever its length
module _ (w : Switch) (k : ℕ) (t : List ℕ) (e : length t ≡ lent_words k) where
  abbrev asked : List ℕ
  asked = replicate (k * width) 0

  -- whether the table asked for is lent whole, or is too long as the lent one is
  abbrev Lends : Type 0
  Lends = ((k < most_lent) × (length t ≡ k * width)) ⊎ ((most_lent ≤ k) × (length t ≡ lent_table_words))

  lent : Lends
  unfolding lent_words
  lent = go (ltb k most_lent) refl e
    where
      go : (b : Bool) → ltb k most_lent ≡ b → length t ≡ cond b (k * width) lent_table_words → Lends
      go true h q = inl (ltb-true k most_lent h, q)
      go false h q = inr (ltb-false k most_lent h, q)

  asked_long : length asked ≡ k * width
  asked_long = length-replicate (k * width) 0

  same_whole : is_whole t ≡ is_whole asked
  unfolding is_whole
  same_whole = ⊎_elim (λ h. rw (h.1, asked_long)) (λ h. rw (h.1, asked_long) (sym (eq-eqb (k * width % width) 0 (omega arith)))) lent

  same-outside : outside (records t) most_records ≡ outside (records asked) most_records
  unfolding outside records
  same-outside =
      ⊎_elim (λ h. rw (h.1, asked_long))
      (λ h.
      let n : ℕ = k * width / width in
      rw (h.1, asked_long) (sym (on_right (eqb n 0) (ltb most_records n) (lt-ltb most_records n (omega arith)))))
      lent

  same_answer : fresh_answer w t ≡ fresh_answer w asked
  unfolding fresh_answer
  same_answer = rw (same_whole, same-outside)

  -- an accepted table is lent whole
  same_length : So (is_done (fresh_answer w t)) → length t ≡ length asked
  unfolding records
  same_length h = ⊎_elim (λ q. q.1 ∙ sym asked_long) (λ q. absurd (omega (arith, (fresh_sizes w t h).size.1, q.1))) lent

  pub start_same : (ls : List (List ℕ)) → start_text (fresh_start w asked) ls ≡ start_text (fresh_start w t) ls
  unfolding start_text
  start_same ls = go (is_done (fresh_answer w t)) refl
    where
      go : (b : Bool) → is_done (fresh_answer w t) ≡ b → start_text (fresh_start w asked) ls ≡ start_text (fresh_start w t) ls
      go true h = rw (fresh_accepted w t h, fresh_accepted w asked (ap is_done (sym same_answer) ∙ h), same_length h)
      go false h =
          let i : No (is_done (fresh_answer w asked)) = ap is_done (sym same_answer) ∙ h in
          rw (fresh_refused w t h, fresh_refused w asked i, same_answer, i)

  -- the fresh start's message, or the header and what the slot lines then print
  module _ (f : Started) (is : f ≡ fresh_start w t) where
    first_is : (ls : List (List ℕ)) → start_text (fresh_start w asked) ls ≡ start_text f ls
    first_is ls = start_same ls ∙ ap (λ (g : Started). start_text g ls) (sym is)

    pub start_refused_lem : No (is_done f.answer) → (ls : List (List ℕ)) → start_text (fresh_start w asked) ls ≡ refused_line (number_of f.answer)
    unfolding start_text
    start_refused_lem h ls = first_is ls ∙ cond_false (is_done f.answer) _ _ h

    pub start_done : So (is_done f.answer) → (ls : List (List ℕ))
        → start_text (fresh_start w asked) ls ≡ header_line ++ slots_text (record { numbers = f.numbers; table = f.table }) ls
    unfolding start_text
    start_done h ls = first_is ls ∙ cond_true (is_done f.answer) _ _ h

    pub start_sizes : So (is_done f.answer) → (f.numbers.ports ≤ most_ports) × (f.numbers.speedup ≤ most_speedup)
    start_sizes h = go (is_done (fresh_answer w t)) refl
      where
        go : (b : Bool) → is_done (fresh_answer w t) ≡ b → (f.numbers.ports ≤ most_ports) × (f.numbers.speedup ≤ most_speedup)
        go true q = let z = fresh_sizes w t q in rw (is, fresh_accepted w t q) (z.ports.1, z.speedup.1)
        go false q = absurd (refuted h (ap (λ (g : Started). is_done g.answer) (is ∙ fresh_refused w t q) ∙ q))

pub lent_small : (k : ℕ) → lent_words k ≤ lent_table_words
unfolding lent_words
lent_small k = go (ltb k most_lent) refl
  where
    go : (b : Bool) → ltb k most_lent ≡ b → cond b (k * width) lent_table_words ≤ lent_table_words
    go true h = omega (arith, ltb-true k most_lent h)
    go false h = omega arith
