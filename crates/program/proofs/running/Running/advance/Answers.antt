-- What the reader took is the line's so far; where it stopped before the piece's end, the newline is next.
use Rattle.std.proofs.Common.{◌∙◌, ◌≡◌, ◌<◌, get_or, length, arith, sym, eqb-true, length-take-le}
use Rattle.std.proofs.lemmas.Bool.{eqb-false}
use Rattle.characters.specs.Characters.{newline}
use Rattle.printing.specs.Prints.{put_size}
use Rattle.program.specs.Lent.{end_room}
use Rattle.program.specs.Coming.{coming_by}
use Rattle.program.specs.Turns.{goes_byte, goes_line, goes_then}
use Rattle.program.proofs.running.Running.advance.Goals as goal

pub returns-then-is_empty-clause-goes : goal.returns-then-is_empty-clause-goes
returns-then-is_empty-clause-goes c =
    let width = c.line_words-width.result in
    let long = length-take-le width c.args.memory.now.arrivals.now (omega (arith, c.line_words-width.ensures.within, c.args.memory.now.line_long)) in
    let came = c.read-reader.auto.words ∙ long ∙ c.line_words-width.ensures.value in
    let took = rw c.line_words-width.ensures.value at c.read-reader.ensures.taken in
    goes_line end_room c.args.self _ _ c.args.reader _ _ _ _ c.args.piece.now _ came took c.read-reader.ensures.same_bytes

-- the piece goes on with the newline
pub returns-clause-goes : goal.returns-clause-goes
unfolding coming_by
returns-clause-goes c =
    let a = c.args in
    let q = c.read-reader.new.piece in
    let width = c.line_words-width.result in
    let long = length-take-le width a.memory.now.arrivals.now (omega (arith, c.line_words-width.ensures.within, a.memory.now.line_long)) in
    let came = c.read-reader.auto.words ∙ long ∙ c.line_words-width.ensures.value in
    let took = rw c.line_words-width.ensures.value at c.read-reader.ensures.taken in
    let same = c.read-reader.ensures.same_bytes in
    let more : q.next < length q.bytes.now = omega (arith, eqb-false _ _ (sym c.is_empty.ensures ∙ c.if-is_empty.false), q.inside) in
    let here = eqb-true _ newline (took.place.here (rw same at more)) in
    let ends : get_or q.bytes.now q.next 0 ≡ newline = rw same here in
    goes_then {n = end_room} (goes_line 0 a.self a.memory.now.table.now a.memory.now.arrivals.now a.reader _ _ _ a.out.now a.piece.now q came took same)
    (goes_byte newline _ more ends (record { bytes = c.advance.ensures.same_bytes; next = c.advance.ensures.next }) c.end_line.ensures.turns (omega arith))
    (omega (arith, put_size c.end_line.ensures.turns.put))
