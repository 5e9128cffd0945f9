-- Whole runs: what the program prints for an input is `program_text` of it, however the input comes in pieces and the output goes out.
-- Assumes nothing.
use Rattle.std.specs.Prelude.{ℕ, ◌≡◌, refl, List, [], ◌++◌}
use Rattle.std.proofs.Common.{sym, ap, ◌∙◌, append_assoc, append-nil}
use Rattle.std.proofs.Math.Bool.{So}
use Rattle.std.proofs.lemmas.Bool.{false≢true}
use Rattle.text.specs.Lines.{cut}
use Rattle.text.specs.Steps.{first_start}
use Rattle.text.specs.declared.piece.Piece.{Piece}
use Rattle.printing.specs.declared.page.Page.{Page}
use Rattle.printing.specs.Prints.{text_of, Put, put_text_of}
use Rattle.program.specs.declared.Program.{Program}
use Rattle.program.specs.declared.Program.TheVariants.{First, Between, Within, Over}
use Rattle.program.specs.Program.{lines_of, slots_text, program_text}
use Rattle.program.specs.Lent.{end_room}
use Rattle.program.specs.Coming.{opening_from, line_from, Stand, stand, coming_by, coming, closing, is_over, unread, Goes}
use Rattle.program.specs.Bytes.{opening_start}

pub closing_is : (d : Program) (table arrivals : List ℕ) → coming_by d table arrivals [] ≡ closing d table
unfolding coming_by closing opening_from line_from slots_text lines_of cut
closing_is (First r) table arrivals = refl
closing_is (Between x) table arrivals = refl
closing_is (Within x r) table arrivals = refl
closing_is Over table arrivals = refl

pub over_silent : (d : Program) (table arrivals input : List ℕ) → So (is_over d) → coming_by d table arrivals input ≡ []
unfolding coming_by
over_silent (First r) table arrivals input h = absurd (false≢true h)
over_silent (Between x) table arrivals input h = absurd (false≢true h)
over_silent (Within x r) table arrivals input h = absurd (false≢true h)
over_silent Over table arrivals input h = refl

-- where a run stands: `read` are all bytes that came in, of which the last, `left`, are still to be taken; `printed` are all that went out.
-- Whatever comes in yet, the whole output begins with what is printed, and the rest is to come.
pub record Stands (read printed : List ℕ) (s : Stand) (left : List ℕ) : Type 0 where
  pub so : (rest : List ℕ) → program_text (read ++ rest) ≡ printed ++ coming s (left ++ rest)

-- how far one pass goes is left open. Whichever way it went, what it put and what is to come are the same, for every rest of the input.
pub goes_settled : {m n : ℕ} {p q r : Piece} {out mid new : Page} {s a b : Stand}
    (x : Goes m p s out q a mid) (y : Goes n p s out r b new) (rest : List ℕ)
    → x.text ++ coming a (unread q ++ rest) ≡ y.text ++ coming b (unread r ++ rest)
goes_settled x y rest = sym (x.comes rest) ∙ y.comes rest

-- THE LAW of a run, by the contracts of `Program::start`, `pass`, `finish` and `is_over`: a run that writes out what the passes leave on the page
-- has printed, at the end of the input, all of `program_text` and nothing else; where the program is over it has done so before. What is `written`
-- went out and is on the page no more: a page that was cleared has no text.
pub record RunLaw : Type 0 where
  pub begins : (d : Program) (table arrivals : List ℕ) → d ≡ First first_start → Stands [] [] (stand d table arrivals) []
  pub reads : (read printed : List ℕ) (s : Stand) → Stands read printed s [] → (piece : List ℕ) → Stands (read ++ piece) printed s piece
  pub clears : (read printed left : List ℕ) (s : Stand) (out : Page) → Stands read printed s left → out.count ≡ 0
      → Stands read (printed ++ text_of out) s left
  pub passes : (read written : List ℕ) (out out' : Page) (most : ℕ) (p p' : Piece) (s s' : Stand) → Stands read (written ++ text_of out) s (unread p)
      → Goes most p s out p' s' out' → Stands read (written ++ text_of out') s' (unread p')
  pub ends : (read written : List ℕ) (out out' : Page) (s : Stand) → Stands read (written ++ text_of out) s []
      → Put end_room out (closing s.program s.table) out' → program_text read ≡ written ++ text_of out'
  pub ends_early : (read printed left : List ℕ) (s : Stand) → Stands read printed s left → So (is_over s.program) → (rest : List ℕ)
      → program_text (read ++ rest) ≡ printed

pub run_law : RunLaw
unfolding coming_by program_text
run_law = record {
  begins = λ d table arrivals e. record { so = λ rest. rw e (sym (opening_start (lines_of rest))) };
  reads = λ read printed s x piece. record { so = λ rest. ap program_text (append_assoc read piece rest) ∙ x.so (piece ++ rest) };
  clears = λ read printed left s out x e. record {
    so = λ rest. x.so rest ∙ rw e (ap (λ (l : List ℕ). l ++ coming s (left ++ rest)) (sym (append-nil printed)));
  };
  passes = λ read written out out' most p p' s s' x g. record {
    so = λ rest.
        x.so rest
        ∙ ap (λ (l : List ℕ). (written ++ text_of out) ++ l) (g.comes rest)
        ∙ sym (append_assoc (written ++ text_of out) g.text (coming s' (unread p' ++ rest)))
        ∙ ap (λ (l : List ℕ). l ++ coming s' (unread p' ++ rest)) (goes_on written out out' g.text g.put);
  };
  ends = λ read written out out' s x p.
      ap program_text (sym (append-nil read))
      ∙ x.so []
      ∙ ap (λ (l : List ℕ). (written ++ text_of out) ++ l) (closing_is s.program s.table s.arrivals)
      ∙ goes_on written out out' (closing s.program s.table) p;
  ends_early = λ read printed left s x h rest.
      x.so rest ∙ ap (λ (l : List ℕ). printed ++ l) (over_silent s.program s.table s.arrivals (left ++ rest) h) ∙ append-nil printed;
}
  where
    goes_on : {most : ℕ} (written : List ℕ) (out out' : Page) (text : List ℕ) → Put most out text out'
        → (written ++ text_of out) ++ text ≡ written ++ text_of out'
    goes_on written out out' text x = append_assoc written (text_of out) text ∙ ap (λ (l : List ℕ). written ++ l) (sym (put_text_of x))
