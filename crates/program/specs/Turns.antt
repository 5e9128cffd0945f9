-- Slot lines, and the turns that the program's functions take: a text put on the page, and the stand that prints the rest.
-- Assumes nothing.
use Rattle.std.specs.Prelude.{ℕ, ◌+◌, ◌*◌, ◌≤◌, ◌<◌, ◌≡◌, refl, Bool, true, false, cond, eqb, length, get_or, take, drop}
use Rattle.std.proofs.Math.Path.{sym, ap}
use Rattle.std.proofs.Common.{◌∙◌, arith, mul-le-mul, take_at}
use Rattle.std.proofs.Math.Bool.{So}
use mathlib.Core.List.{List, [], ◌∷◌, ◌++◌, append_assoc, append-nil}
use Rattle.laws.specs.Tests.{No, cond_true, cond_false}
use Rattle.laws.specs.Count.{count_le}
use Rattle.laws.specs.Lists.{blocks_zero, blocks_more}
use Rattle.laws.specs.Pieces.{part, part_rest, drop_next}
use Rattle.rules.specs.declared.Switch.{Switch}
use Rattle.rules.specs.Cells.{most_ports, most_speedup, nth, is_live, records, cells_of}
use Rattle.rules.specs.Answers.{Lists, lists, is_done, live, slot_answer}
use Rattle.rules.specs.Calls.{State, Outcome, slot, slot_runs, slot_refused}
use Rattle.words.specs.Words.{length-cells_of}
use Rattle.characters.specs.Characters.{newline}
use Rattle.text.specs.declared.FirstReader.{FirstReader}
use Rattle.text.specs.declared.SlotReader.{SlotReader}
use Rattle.text.specs.declared.piece.Piece.{Piece}
use Rattle.text.specs.Steps.{LineState, line_state_of, end_field, is_complete, first_step}
use Rattle.text.specs.Parts.{LineTaken}
use Rattle.printing.specs.declared.page.Page.{Page}
use Rattle.printing.specs.Prints.{Put, put_none, put_then, put_within, put_fits}
use Rattle.program.specs.declared.running.Running.{Running}
use Rattle.program.specs.declared.Program.{Program}
use Rattle.program.specs.declared.Program.TheVariants.{First, Between, Within, Over}
use Rattle.program.specs.Program.{lines_of, end_text, cell_text, slot_text, slot_on, answer_text, line_text, line_after, slots_text}
use Rattle.program.specs.Lent.{end_room, moved_words, Blank}
use Rattle.program.specs.Coming.{state_of, line_words, line_of, line_end, line_from, Stand, stand, coming_by, coming, on_byte, on_newline, on_words, Turns, unread, Goes}
use Rattle.program.specs.Bytes.{opening_byte, line_bytes_lem, line_end_lem}

-- the slots --------------------------------------------------------------------------------------

-- the numbers of a switch but its next slot stay
abbrev SameSizes : Switch → Switch → Type 0
SameSizes v w = (v.ports ≡ w.ports) × (v.speedup ≡ w.speedup)

slot_keeps : (w : Switch) (table : List ℕ) (l : Lists) → SameSizes (slot w table l).numbers w
unfolding slot slot_runs
slot_keeps w table l = go (is_done (slot_answer w table l))
  where
    go : (b : Bool) → SameSizes (cond b (slot_runs w table l.arrivals) (slot_refused (slot_answer w table l) w table l)).numbers w
    go true = (refl, refl)
    go false = (refl, refl)

-- what a slot's outcome says of a line
module _ (x : State) (words : List ℕ) (o : Outcome) (is : o ≡ slot_on x words) where
  line_text_lem : line_text x words ≡ answer_text x.numbers o.answer o.exhaled
  unfolding line_text
  line_text_lem = rw (← is)

  line_after_lem : line_after x words ≡ record { numbers = o.numbers; table = o.table }
  unfolding line_after
  line_after_lem = rw (← is)

pub on_blank : (x : Running) (table words matches exhaled : List ℕ) (o : Outcome)
    → o ≡ slot x.crossbar.numbers (take x.words table) (lists words matches exhaled) → Blank x.crossbar.numbers matches exhaled
    → o ≡ slot_on (state_of x table) words
unfolding slot_on
on_blank x table words matches exhaled o is b = rw (← b.no_matches, ← b.none-exhaled) is

-- a slot leaves the sizes as they were
pub sizes_after : (x : Running) (table words : List ℕ) (o : Outcome) → o ≡ slot_on (state_of x table) words → SameSizes o.numbers x.crossbar.numbers
unfolding slot_on
sizes_after x table words o is = rw is (slot_keeps x.crossbar.numbers (take x.words table) (lists words _ _))

pub moved_small : (x : Running) → x.crossbar.numbers.speedup * x.crossbar.numbers.ports ≤ moved_words
moved_small x =
    mul-le-mul {n₁ = x.crossbar.numbers.speedup} {m₁ = x.crossbar.numbers.ports} {n₂ = most_speedup} {m₂ = most_ports} x.speedup x.ports

pub live_small : (ws : List ℕ) → live (cells_of ws) ≤ length ws
unfolding live records
live_small ws = omega (arith, count_le (λ k. is_live (nth (cells_of ws) k)) (length (cells_of ws)), length-cells_of ws)

pub slot-none : (t : ℕ) (e : List ℕ) → slot_text t 0 e ≡ []
unfolding slot_text
slot-none t e = blocks_zero (cell_text t e)

pub slot_more : (t n : ℕ) (e : List ℕ) → slot_text t (n + 1) e ≡ slot_text t n e ++ cell_text t e n
unfolding slot_text
slot_more t n e = blocks_more (cell_text t e) n

-- turns --------------------------------------------------------------------------------------------

module _ {whole : List ℕ → List ℕ} {out out' : Page} {table : List ℕ} where
  pub turns_as : {other : List ℕ → List ℕ} {d : Program} → Turns whole out d table out' → ((rest : List ℕ) → other rest ≡ whole rest)
      → Turns other out d table out'
  turns_as x h = record { text = x.text; put = x.put; comes = λ ws rest. h rest ∙ x.comes ws rest }

  -- the last text
  pub turns_over : {most : ℕ} {text : List ℕ} → Put most out text out' → most ≤ end_room → ((rest : List ℕ) → whole rest ≡ text)
      → Turns whole out Over table out'
  unfolding coming_by
  turns_over {text = text} p l h = record { text = text; put = put_within p l; comes = λ ws rest. h rest ∙ sym (append-nil text) }

  -- a text, and then slot lines
  pub turns_between : {most : ℕ} {text : List ℕ} {y : Running} → Put most out text out' → most ≤ end_room
      → ((rest : List ℕ) → whole rest ≡ text ++ slots_text (state_of y table) (lines_of rest)) → Turns whole out (Between y) table out'
  unfolding coming_by
  turns_between {text = text} p l h = record { text = text; put = put_within p l; comes = λ ws rest. h rest }

-- nothing is put
pub turns_first : (r : FirstReader) (b : ℕ) (out : Page) (table : List ℕ) → No (eqb b newline) → Turns (on_byte r b) out (First (first_step r b)) table out
unfolding coming_by
turns_first r b out table h = record { text = []; put = put_none end_room out; comes = λ ws rest. opening_byte r b rest h }

-- a lent front that came back, the rest being kept
pub state_front : (w : Switch) (words : ℕ) (front rest : List ℕ) → length front ≡ words
    → ◌≡◌ {A = State} (record { numbers = w; table = take words (front ++ rest) }) (record { numbers = w; table = front })
state_front w words front rest h = ap (λ (l : List ℕ). record { numbers = w; table = l }) (take_at front rest words h)

-- a slot line's text, and the switch between two lines; the lent front of the table came back
pub turns_line : (x y : Running) (table words rest : List ℕ) {out out' : Page} (o : Outcome) → o ≡ slot_on (state_of x table) words
    → y.crossbar.numbers ≡ o.numbers → y.words ≡ x.words → length o.table ≡ x.words
    → Put end_room out (answer_text x.crossbar.numbers o.answer o.exhaled) out'
    → Turns (on_words (state_of x table) words) out (Between y) (o.table ++ rest) out'
turns_line x y table words rest o is n w l p =
    let after = state_front y.crossbar.numbers y.words o.table rest (l ∙ sym w) in
    turns_between p (omega arith)
    (λ more. rw (line_text_lem (state_of x table) words o is, line_after_lem (state_of x table) words o is, ← n, ← after))

-- a slot line's end, where it was not read and where it was
module _ (x : State) (s : LineState) {out out' : Page} {table : List ℕ} where
  pub turns_unread : No (is_complete (end_field s)) → Put end_room out (end_text x) out' → Turns (on_newline x s) out Over table out'
  unfolding line_end
  turns_unread h p = turns_over p (omega arith) (λ rest. line_end_lem x s rest ∙ cond_false (is_complete (end_field s)) _ _ h)

  pub turns_read : {d : Program} (words : List ℕ) → So (is_complete (end_field s)) → words ≡ (end_field s).words → Turns (on_words x words) out d table out'
      → Turns (on_newline x s) out d table out'
  unfolding line_end
  turns_read words h q t =
      turns_as t (λ rest. line_end_lem x s rest ∙ cond_true (is_complete (end_field s)) _ _ h ∙ ap (λ (ws : List ℕ). on_words x ws rest) (sym q))

-- many bytes -----------------------------------------------------------------------------------

pub goes_none : (most : ℕ) (p : Piece) (s : Stand) (out : Page) → Goes most p s out p s out
goes_none most p s out = record { text = []; put = put_none most out; comes = λ rest. refl; bytes = refl; order = omega arith }

-- two ways, one behind the other
pub goes_then : {m n most : ℕ} {p q r : Piece} {s a c : Stand} {out mid new : Page} → Goes m p s out q a mid → Goes n q a mid r c new
    → new.count ≤ out.count + most → Goes most p s out r c new
goes_then {m} {n} {r = r} {c = c} x y h = record {
  text = x.text ++ y.text;
  put = put_fits (put_then {most = m + n} x.put y.put (omega arith)) h;
  comes = λ more. x.comes more ∙ ap (λ (l : List ℕ). x.text ++ l) (y.comes more) ∙ sym (append_assoc x.text y.text (coming c (unread r ++ more)));
  bytes = y.bytes ∙ x.bytes;
  order = omega (arith, x.order, y.order);
}

-- a piece with one byte more taken
pub record Steps (p p' : Piece) : Type 0 where
  pub bytes : p'.bytes.now ≡ p.bytes.now
  pub next : p'.next ≡ p.next + 1

pub goes_byte : {most : ℕ} {p p' : Piece} {s : Stand} {d : Program} {out new : Page} {table : List ℕ} (b : ℕ) (arrivals : List ℕ) → p.next < length p.bytes.now
    → get_or p.bytes.now p.next 0 ≡ b → Steps p p' → Turns (λ rest. coming s (b ∷ rest)) out d table new → end_room ≤ most
    → Goes most p s out p' (stand d table arrivals) new
goes_byte {p = p} {p' = p'} {s = s} {d = d} {table = table} b arrivals h e n y l = record {
  text = y.text;
  put = put_within y.put l;
  comes = λ more.
      ap (λ (m : List ℕ). coming s (m ++ more)) (drop_next p.bytes.now p.next b h e)
      ∙ y.comes arrivals (drop (p.next + 1) p.bytes.now ++ more)
      ∙ ap (λ (m : List ℕ). y.text ++ coming (stand d table arrivals) (m ++ more)) (sym rest);
  bytes = n.bytes;
  order = omega (arith, n.next);
}
  where
    rest : unread p' ≡ drop (p.next + 1) p.bytes.now
    rest = rw (n.bytes, n.next)

-- the end of the reading takes any input
pub goes_over : (most : ℕ) (p p' : Piece) (table arrivals : List ℕ) (out : Page) → p'.bytes.now ≡ p.bytes.now → p.next ≤ p'.next
    → Goes most p (stand Over table arrivals) out p' (stand Over table arrivals) out
unfolding coming_by
goes_over most p p' table arrivals out e h = record { text = []; put = put_none most out; comes = λ rest. refl; bytes = e; order = h }

-- a slot line as far as a piece has it; the lent front of its words came back
pub goes_line : (most : ℕ) (x : Running) (table arrivals : List ℕ) (r r' : SlotReader) (front back : List ℕ) (out : Page) (p p' : Piece)
    → length front ≡ line_words x → LineTaken p.bytes.now (line_of x r arrivals) p.next (line_state_of r' front) p'.next → p'.bytes.now ≡ p.bytes.now
    → Goes most p (stand (Within x r) table arrivals) out p' (stand (Within x r') table (front ++ back)) out
unfolding coming_by
goes_line most x table arrivals r r' front back out p p' l t e = record {
  text = [];
  put = put_none most out;
  comes = λ rest.
      ap (λ (m : List ℕ). onward s (m ++ rest)) (part_rest bytes p.next p'.next t.place.span.order)
      ∙ ap (onward s) (append_assoc (part bytes p.next p'.next) (drop p'.next bytes) rest)
      ∙ line_bytes_lem (state_of x table) s (part bytes p.next p'.next) (drop p'.next bytes ++ rest) t.place.span.all
      ∙ ap (λ (y : LineState). onward y (drop p'.next bytes ++ rest)) (sym t.steps ∙ ap (line_state_of r') (sym (take_at front back (line_words x) l)))
      ∙ ap (λ (m : List ℕ). onward (line_of x r' (front ++ back)) (drop p'.next m ++ rest)) (sym e);
  bytes = e;
  order = t.place.span.order;
}
  where
    bytes : List ℕ
    bytes = p.bytes.now

    s : LineState
    s = line_of x r arrivals

    onward : LineState → List ℕ → List ℕ
    onward y input = line_from (state_of x table) y (lines_of input)
