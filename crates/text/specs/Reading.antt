-- The law of the readers: from a line's start, a step for each byte, and the line's end come to what the line says as a whole.
-- The steps over a line are its fields taken in turn; then by induction on the fields. Of a first line the law itself stands in proofs/Reading.antt.
-- Assumes nothing.
use Rattle.std.specs.Prelude.{ℕ, suc, ◌+◌, ◌*◌, ◌≤◌, ◌<◌, ◌≡◌, refl, Bool, true, false, cond, ◌&&◌, leb, eqb, length, take, drop, Option, Some, None}
use Rattle.std.proofs.Common.{sym, ap, ◌∙◌, arith, length-append, length-take-le, take_at, take_all, leb-true, leb-false, eqb-true, eq-eqb, ne_eqb}
use Rattle.std.proofs.Math.Bool.{So, and-false}
use Rattle.std.proofs.lemmas.Bool.{false≢true}
use mathlib.Core.List.{List, [], ◌∷◌, ◌++◌, append_assoc, append-nil, flat_map}
use Rattle.std.proofs.lemmas.List.Edits.{sets, sets-eq}
use Rattle.std.proofs.Math.Seq.{length-sets}
use Rattle.laws.specs.Tests.{both, join, same_test}
use Rattle.laws.specs.Folds.{fold, each}
use Rattle.rules.specs.Answers.{arrival_width}
use Rattle.text.specs.declared.number.Number.{Number}
use Rattle.text.specs.declared.number.Number.TheVariants.{Empty}
use Rattle.text.specs.declared.field.Field.TheVariants.{Start, NoField}
use Rattle.text.specs.declared.field.Arrival.{Arrival}
use Rattle.text.specs.declared.FirstLine.{FirstLine}
use Rattle.characters.specs.Characters.{space, value}
use Rattle.text.specs.Lines.{prepended, cut, line_fields, is_number, numbers, unreadable, three, field_arrival, is_read, field_words, is_slot_line, slot_line_words}
use Rattle.text.specs.Steps.{number_step, value_of, field_step, LineState, line_state, slot_start, written, end_field, slot_step, is_complete, Finished}
use Rattle.text.specs.Steps.{first, one_more, first_step, three_of, first_answer}
use Rattle.text.specs.Numbers.{number_is, number_value}
use Rattle.text.specs.Fields.{cut_some, broken_stays, field_law}

-- the first line ------------------------------------------------------------------------------

-- what the fields that are left come to
abbrev pub after : ℕ → Number → Number → Number → List (List ℕ) → Option FirstLine
after k n s r [] = unreadable
after k n s r (f ∷ []) = first_answer (first k n s (fold number_step r f))
after k n s r (f ∷ (g ∷ gs)) = after (one_more k) s (fold number_step r f) Empty (g ∷ gs)

pub first_steps : (k : ℕ) (n s r : Number) (line : List ℕ) → first_answer (fold first_step (first k n s r) line) ≡ after k n s r (cut space line)
unfolding fold cut first_step
first_steps k n s r [] = refl
first_steps k n s r (b ∷ line) =
    go (eqb b space) (cut space line) (cut_some space line) (first_steps (one_more k) s r Empty line) (first_steps k n s (number_step r b) line)
  where
    go : (t : Bool) (ps : List (List ℕ)) → (ps ≡ [] → ⊥)
        → first_answer (fold first_step (first (one_more k) s r Empty) line) ≡ after (one_more k) s r Empty ps
        → first_answer (fold first_step (first k n s (number_step r b)) line) ≡ after k n s (number_step r b) ps
        → first_answer (fold first_step (cond t (first (one_more k) s r Empty) (first k n s (number_step r b))) line)
        ≡ after k n s r (cond t ([] ∷ ps) (prepended b ps))
    go t [] i x y = absurd (i refl)
    go true (p ∷ ps) i x y = x
    go false (p ∷ []) i x y = y
    go false (p ∷ (q ∷ qs)) i x y = y

-- a fourth field is one too many
pub too_many : (n s r : Number) (fs : List (List ℕ)) → after 3 n s r fs ≡ unreadable
unfolding first_answer
too_many n s r [] = refl
too_many n s r (f ∷ []) = refl
too_many n s r (f ∷ (g ∷ gs)) = too_many s (fold number_step r f) Empty (g ∷ gs)

pub three_is : (n s k : List ℕ) → three_of (fold number_step Empty n) (fold number_step Empty s) (fold number_step Empty k) ≡ three (n ∷ (s ∷ (k ∷ [])))
unfolding three_of
three_is n s k = rw (number_is n, number_is s, number_is k) (go (is_number n) refl (is_number s) refl (is_number k) refl)
  where
    go : (a : Bool) → is_number n ≡ a → (b : Bool) → is_number s ≡ b → (c : Bool) → is_number k ≡ c
        → cond (a && (b && c)) (numbers (value_of (fold number_step Empty n)) (value_of (fold number_step Empty s)) (value_of (fold number_step Empty k))) unreadable
        ≡ cond (a && (b && c)) (numbers (value n) (value s) (value k)) unreadable
    go true h true i true j = rw (number_value n h, number_value s i, number_value k j)
    go true h true i false j = refl
    go true h false i c j = refl
    go false h b i c j = refl

-- a slot line ---------------------------------------------------------------------------------

-- a whole field, to its end
abbrev take_field : LineState → List ℕ → LineState
take_field s f = end_field (line_state s.reader.at (fold field_step s.reader.field f) s.words)

slot_steps : (s : LineState) (line : List ℕ) → end_field (fold slot_step s line) ≡ fold take_field s (cut space line)
unfolding fold cut slot_step
slot_steps s [] = refl
slot_steps s (b ∷ line) = go (eqb b space) (cut space line) (cut_some space line) (slot_steps (end_field s) line) (slot_steps stepped line)
  where
    stepped : LineState
    stepped = line_state s.reader.at (field_step s.reader.field b) s.words

    go : (t : Bool) (ps : List (List ℕ)) → (ps ≡ [] → ⊥)
        → end_field (fold slot_step (end_field s) line) ≡ fold take_field (end_field s) ps → end_field (fold slot_step stepped line) ≡ fold take_field stepped ps
        → end_field (fold slot_step (cond t (end_field s) stepped) line) ≡ fold take_field s (cond t ([] ∷ ps) (prepended b ps))
    go t [] i x y = absurd (i refl)
    go true (p ∷ ps) i x y = x
    go false (p ∷ ps) i x y = y

broken_line : (at : ℕ) (ws : List ℕ) (fs : List (List ℕ)) → fold take_field (line_state at NoField ws) fs ≡ line_state at NoField ws
unfolding fold end_field written
broken_line at ws [] = refl
broken_line at ws (f ∷ fs) = rw (broken_stays f) (broken_line at ws fs)

-- words stored at `at` stand behind what stood before it
take-sets : (ws : List ℕ) (at : ℕ) (vs : List ℕ) → at + length vs ≤ length ws → take (at + length vs) (sets ws at vs) ≡ take at ws ++ vs
take-sets ws at vs h =
    ap (take (at + length vs)) (sets-eq vs ws at h)
    ∙ take_at (take at ws ++ vs) (drop (at + length vs) ws) (at + length vs)
    (length-append (take at ws) vs ∙ ap (λ (n : ℕ). n + length vs) (length-take-le at ws (omega arith)))

abbrev good : List (List ℕ) → Bool
good fs = each (λ f. is_read (field_arrival f)) fs

abbrev meant : List (List ℕ) → List ℕ
meant fs = flat_map (λ f. field_words (field_arrival f)) fs

-- what the fields from `at` on come to
record Comes (at : ℕ) (ws : List ℕ) (fs : List (List ℕ)) (s : LineState) : Type 0 where
  whole : is_complete s ≡ (good fs && eqb (at + length fs * arrival_width) (length ws))
  size : length s.words ≡ length ws
  words : So (is_complete s) → s.words ≡ take at ws ++ meant fs

broken_comes : (at : ℕ) (ws : List ℕ) (fs gs : List (List ℕ)) → (good gs && eqb (at + length gs * arrival_width) (length ws)) ≡ false
    → Comes at ws gs (fold take_field (line_state at NoField ws) fs)
unfolding is_complete
broken_comes at ws fs gs h = rw (broken_line at ws fs) (record { whole = sym h; size = refl; words = λ k. absurd (false≢true k) })

-- a field that says nothing, or one that has no room, breaks the line; another is followed by the rest
none-comes : (at : ℕ) (ws f : List ℕ) (fs : List (List ℕ)) → field_arrival f ≡ None → Comes at ws (f ∷ fs) (fold take_field (written None at ws) fs)
unfolding written each
none-comes at ws f fs e = broken_comes at ws fs (f ∷ fs) (rw e)

words_come : (at : ℕ) (ws f : List ℕ) (fs : List (List ℕ)) (a : Arrival) → field_arrival f ≡ Some a
    → let vs : List ℕ = sets ws at (field_words (Some a)) in
    Comes (at + arrival_width) vs fs (fold take_field (line_state (at + arrival_width) Start vs) fs)
    → Comes at ws (f ∷ fs) (fold take_field (written (Some a) at ws) fs)
unfolding written each flat_map
words_come at ws f fs a e x = go (leb (at + arrival_width) (length ws)) refl
  where
    size : length (sets ws at (field_words (Some a))) ≡ length ws
    size = length-sets ws at (field_words (Some a))

    go : (t : Bool) → leb (at + arrival_width) (length ws) ≡ t
        → Comes at ws (f ∷ fs)
        (fold take_field (cond t (line_state (at + arrival_width) Start (sets ws at (field_words (Some a)))) (line_state at NoField ws)) fs)
    go true i =
        let h : at + arrival_width ≤ length ws = leb-true (at + arrival_width) (length ws) i in
        let m : at + arrival_width + length fs * arrival_width ≡ at + suc (length fs) * arrival_width = omega arith in
        record {
          whole = rw e (rw (← m, ← size) x.whole);
          size = x.size ∙ size;
          words = λ k.
              rw e
              (x.words k ∙ ap (λ (l : List ℕ). l ++ meant fs) (take-sets ws at (field_words (Some a)) h)
              ∙ append_assoc (take at ws) (field_words (Some a)) (meant fs));
        }
    go false i =
        let h : length ws < at + arrival_width = leb-false (at + arrival_width) (length ws) i in
        broken_comes at ws fs (f ∷ fs)
        (rw (ne_eqb (at + suc (length fs) * arrival_width) (length ws) (λ q. omega arith), and-false (is_read (field_arrival f) && good fs)))

take-field : (at : ℕ) (ws f : List ℕ) → take_field (line_state at Start ws) f ≡ written (field_arrival f) at ws
unfolding end_field
take-field at ws f = ap (λ (r : Option Arrival). written r at ws) (field_law f)

comes : (at : ℕ) (ws : List ℕ) (fs : List (List ℕ)) → Comes at ws fs (fold take_field (line_state at Start ws) fs)
unfolding fold is_complete each flat_map
comes at ws [] = record {
  whole = ap (λ (n : ℕ). eqb n (length ws)) (omega arith);
  size = refl;
  words = λ h. sym (append-nil (take at ws) ∙ take_all at ws (omega (arith, eqb-true at (length ws) h)));
}
comes at ws (f ∷ fs) = rw (take-field at ws f) (taken (field_arrival f) refl (λ a. comes (at + arrival_width) (sets ws at (field_words (Some a))) fs))
  where
    taken : (r : Option Arrival) → field_arrival f ≡ r
        → ((a : Arrival) → Comes (at + arrival_width) (sets ws at (field_words (Some a))) fs
        (fold take_field (line_state (at + arrival_width) Start (sets ws at (field_words (Some a)))) fs))
        → Comes at ws (f ∷ fs) (fold take_field (written r at ws) fs)
    taken (Some a) e rec = words_come at ws f fs a e (rec a)
    taken None e rec = none-comes at ws f fs e

-- what is promised of a slot line for n inputs: the answer, and for a line that is read every word of the list. Any other line leaves what it wrote.
pub record Reads (n : ℕ) (line : List ℕ) (answer : Bool) (ws : List ℕ) : Type 0 where
  pub answered : answer ≡ is_slot_line n line
  pub size : length ws ≡ n * arrival_width
  pub words : So (is_slot_line n line) → ws ≡ slot_line_words line

-- THE LAW of a slot line
pub slot_law : (n : ℕ) (line old : List ℕ) → length old ≡ n * arrival_width → (answer : Bool) (ws : List ℕ)
    → Finished (fold slot_step (slot_start old) line) answer ws → Reads n line answer ws
unfolding is_slot_line slot_line_words
slot_law n line old h answer ws done = record {
  answered = done.read ∙ whole;
  size = ap length done.left ∙ c.size ∙ h;
  words = λ k. done.left ∙ c.words (whole ∙ k);
}
  where
    c : Comes 0 old (line_fields line) (end_field (fold slot_step (slot_start old) line))
    c = rw (slot_steps (slot_start old) line) (comes 0 old (line_fields line))

    whole : is_complete (end_field (fold slot_step (slot_start old) line)) ≡ (eqb (length (line_fields line)) n && good (line_fields line))
    whole = c.whole ∙ same_test (good fs && eqb (0 + count * arrival_width) (length old)) (eqb count n && good fs) there back
      where
        fs : List (List ℕ)
        fs = line_fields line

        count : ℕ
        count = length fs

        there : So (good fs && eqb (0 + count * arrival_width) (length old)) → So (eqb count n && good fs)
        there k =
            let b = both (good fs) _ k in
            join (eqb count n) _ (eq-eqb count n (omega (arith, h, eqb-true (0 + count * arrival_width) (length old) b.1))) b.0

        back : So (eqb count n && good fs) → So (good fs && eqb (0 + count * arrival_width) (length old))
        back k =
            let b = both (eqb count n) _ k in
            join (good fs) _ b.1 (eq-eqb (0 + count * arrival_width) (length old) (omega (arith, h, eqb-true count n b.0)))
