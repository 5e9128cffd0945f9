-- What a turn within a line comes to, seen from between lines.
use Rattle.std.proofs.Common.{◌∙◌, ◌≡◌, ◌<◌, ◌+◌, ◌++◌, ◌∷◌, List, ℕ, length, get_or, take, drop, arith, refl, sym, ap, length-take-le}
use Rattle.laws.specs.Pieces.{drop_next}
use Rattle.text.specs.declared.piece.Piece.{Piece}
use Rattle.text.specs.Steps.{line_state_of, reader_start}
use Rattle.printing.specs.declared.page.Page.{Page}
use Rattle.program.specs.declared.running.Running.{Running}
use Rattle.program.specs.declared.Program.TheVariants.{Between, Within}
use Rattle.program.specs.Program.{lines_of, slots_text}
use Rattle.program.specs.Lent.{arrival_words}
use Rattle.program.specs.Coming.{state_of, line_words, line_from, Stand, stand, coming_by, unread, Goes}
use Rattle.program.specs.Bytes.{between}

-- a line begins with its first byte
pub goes_begins : {most : ℕ} {p p' : Piece} {table arrivals : List ℕ} {out out' : Page} {s : Stand} (x : Running) → length arrivals ≡ arrival_words
    → p.next < length p.bytes.now → Goes most p (stand (Within x reader_start) table arrivals) out p' s out'
    → Goes most p (stand (Between x) table arrivals) out p' s out'
unfolding coming_by
goes_begins {p = p} {table = table} {arrivals = arrivals} x l h g = record {
  text = g.text;
  put = g.put;
  comes = λ more.
      ap (λ (m : List ℕ). slots_text (state_of x table) (lines_of (m ++ more))) first
      ∙ between (state_of x table) words byte (rest ++ more) (length-take-le (line_words x) arrivals (omega (arith, l, x.ports)))
      ∙ sym (ap (λ (m : List ℕ). line_from (state_of x table) (line_state_of reader_start words) (lines_of (m ++ more))) first)
      ∙ g.comes more;
  bytes = g.bytes;
  order = g.order;
}
  where
    words : List ℕ
    words = take (line_words x) arrivals

    byte : ℕ
    byte = get_or p.bytes.now p.next 0

    rest : List ℕ
    rest = drop (p.next + 1) p.bytes.now

    first : unread p ≡ byte ∷ rest
    first = drop_next p.bytes.now p.next byte h refl
