-- Bytes that end no line and one that does, and a line's beginning: what is to come from there is what the whole line says.
-- Assumes nothing.
use Rattle.std.specs.Prelude.{ℕ, ◌*◌, ◌≡◌, refl, Bool, true, false, cond, not, List, [], ◌∷◌, ◌++◌, Option, eqb, length}
use Rattle.std.proofs.Common.{sym, ap, ◌∙◌}
use Rattle.std.proofs.Math.Bool.{So}
use Rattle.laws.specs.Tests.{No, both, denied}
use Rattle.laws.specs.Folds.{fold, each}
use Rattle.rules.specs.Calls.{State}
use Rattle.text.specs.declared.FirstLine.{FirstLine}
use Rattle.text.specs.declared.FirstReader.{FirstReader}
use Rattle.rules.specs.Answers.{arrival_width}
use Rattle.characters.specs.Characters.{newline}
use Rattle.text.specs.Lines.{prepended, cut, is_slot_line, slot_line_words}
use Rattle.text.specs.Fields.{cut_some}
use Rattle.text.specs.Steps.{LineState, slot_start, end_field, slot_step, is_complete, first_start, first_step, first_answer}
use Rattle.text.specs.Reading.{Reads, slot_law}
use Rattle.text.proofs.Reading.{first_law}
use Rattle.program.specs.Program.{lines_of, end_text, line_text, line_after, slots_text, first_text, opening_text}
use Rattle.program.specs.Coming.{opening_from, line_end, line_from}

-- a byte that ends no line, and one that does -----------------------------------------------

pub opening_byte : (r : FirstReader) (b : ℕ) (input : List ℕ) → No (eqb b newline)
    → opening_from r (lines_of (b ∷ input)) ≡ opening_from (first_step r b) (lines_of input)
unfolding lines_of cut opening_from fold
opening_byte r b input h = rw h (go (cut newline input) (cut_some newline input))
  where
    go : (ps : List (List ℕ)) → (ps ≡ [] → ⊥) → opening_from r (prepended b ps) ≡ opening_from (first_step r b) ps
    go [] i = absurd (i refl)
    go (p ∷ []) i = refl
    go (p ∷ (q ∷ qs)) i = refl

pub opening_end : (r : FirstReader) (b : ℕ) (input : List ℕ) (line : Option FirstLine) → b ≡ newline → first_answer r ≡ line
    → opening_from r (lines_of (b ∷ input)) ≡ first_text line (lines_of input)
unfolding lines_of cut opening_from fold
opening_end r b input line e q = rw (e, ← q) (go (cut newline input) (cut_some newline input))
  where
    go : (ps : List (List ℕ)) → (ps ≡ [] → ⊥) → opening_from r ([] ∷ ps) ≡ first_text (first_answer r) ps
    go [] i = absurd (i refl)
    go (q ∷ qs) i = refl

line_byte : (x : State) (s : LineState) (b : ℕ) (input : List ℕ) → No (eqb b newline)
    → line_from x s (lines_of (b ∷ input)) ≡ line_from x (slot_step s b) (lines_of input)
unfolding lines_of cut line_from fold
line_byte x s b input h = rw h (go (cut newline input) (cut_some newline input))
  where
    go : (ps : List (List ℕ)) → (ps ≡ [] → ⊥) → line_from x s (prepended b ps) ≡ line_from x (slot_step s b) ps
    go [] i = absurd (i refl)
    go (p ∷ []) i = refl
    go (p ∷ (q ∷ qs)) i = refl

-- many bytes that end no line
pub line_bytes_lem : (x : State) (s : LineState) (l input : List ℕ) → So (each (λ b. not (eqb b newline)) l)
    → line_from x s (lines_of (l ++ input)) ≡ line_from x (fold slot_step s l) (lines_of input)
unfolding fold each
line_bytes_lem x s [] input h = refl
line_bytes_lem x s (b ∷ l) input h =
    let y = both (not (eqb b newline)) _ h in
    line_byte x s b (l ++ input) (denied (eqb b newline) y.0) ∙ line_bytes_lem x (slot_step s b) l input y.1

pub line_end_lem : (x : State) (s : LineState) (input : List ℕ) → line_from x s (lines_of (newline ∷ input)) ≡ line_end x (end_field s) (lines_of input)
unfolding lines_of cut line_from fold
line_end_lem x s input = go (cut newline input) (cut_some newline input)
  where
    go : (ps : List (List ℕ)) → (ps ≡ [] → ⊥) → line_from x s ([] ∷ ps) ≡ line_end x (end_field s) ps
    go [] i = absurd (i refl)
    go (q ∷ qs) i = refl

-- a line begins -------------------------------------------------------------------------------

pub opening_start : (ps : List (List ℕ)) → opening_from first_start ps ≡ opening_text ps
unfolding opening_from opening_text
opening_start [] = refl
opening_start (p ∷ []) = refl
opening_start (p ∷ (q ∷ qs)) = rw (first_law p)

-- the steps over a whole line are what the line says
slots_line : (x : State) (old line l : List ℕ) (ls : List (List ℕ)) → length old ≡ x.numbers.ports * arrival_width
    → slots_text x (line ∷ (l ∷ ls)) ≡ line_from x (slot_start old) (line ∷ (l ∷ ls))
unfolding slots_text line_from line_end
slots_line x old line l ls h = rw r.answered (go (is_slot_line x.numbers.ports line) refl)
  where
    e : LineState
    e = end_field (fold slot_step (slot_start old) line)

    r : Reads x.numbers.ports line (is_complete e) e.words
    r = slot_law x.numbers.ports line old h (is_complete e) e.words (record { read = refl; left = refl })

    goes_on : List ℕ → List ℕ
    goes_on words = line_text x words ++ slots_text (line_after x words) (l ∷ ls)

    go : (t : Bool) → is_slot_line x.numbers.ports line ≡ t → cond t (goes_on (slot_line_words line)) (end_text x) ≡ cond t (goes_on e.words) (end_text x)
    go true k = ap goes_on (sym (r.words k))
    go false k = refl

pub between : (x : State) (old : List ℕ) (b : ℕ) (input : List ℕ) → length old ≡ x.numbers.ports * arrival_width
    → slots_text x (lines_of (b ∷ input)) ≡ line_from x (slot_start old) (lines_of (b ∷ input))
unfolding lines_of cut slots_text line_from
between x old b input h = go (eqb b newline) (cut newline input) (cut_some newline input)
  where
    go : (t : Bool) (ps : List (List ℕ)) → (ps ≡ [] → ⊥)
        → slots_text x (cond t ([] ∷ ps) (prepended b ps)) ≡ line_from x (slot_start old) (cond t ([] ∷ ps) (prepended b ps))
    go t [] i = absurd (i refl)
    go true (q ∷ qs) i = slots_line x old [] q qs h
    go false (p ∷ []) i = refl
    go false (p ∷ (q ∷ qs)) i = slots_line x old (b ∷ p) q qs h
