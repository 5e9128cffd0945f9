-- The example of document 01, "The program", whole, and the messages that stand by themselves, by computing `program_text`.
-- Assumes nothing.
use Rattle.std.specs.Prelude.{ℕ, ◌≡◌, refl, List}
use Prim.Native.String.{String}
use Rattle.laws.specs.Texts.{bytes}
use Rattle.laws.specs.Pieces.{part}
use Rattle.rules.specs.Computing.{Computing}
use Rattle.text.specs.Examples.{Lining}
use Rattle.printing.specs.Examples.{Printing}
use Rattle.program.specs.Program.{lines_of, held_text, end_text, cell_text, slot_text, slot_on, answer_text}
use Rattle.program.specs.Program.{line_text, line_after, slots_text, start_text, first_text, opening_text, program_text}

unfoldable pub prints : String → List ℕ
prints s = program_text (bytes s)

pub record ProgramExamples : Type 0 where
  pub whole : prints "2 3 4\n0:10 0:11\n1:12 -\n- -\n" ≡ bytes "slot output input entered tag\n0 0 0 0 10\n1 0 1 0 11\n1 1 0 1 12\nheld 0\n"
  -- one message stands by itself
  pub missing : prints "" ≡ bytes "unreadable\n"
  pub unended : prints "2 3 4" ≡ bytes "unreadable\n"
  pub both_wrong : prints "17 3 x\n- -\n" ≡ bytes "unreadable\n"
  pub ports : prints "17 9 0\n- -\n" ≡ bytes "refused 1\n"
  pub speedup : prints "2 9 0\n- -\n" ≡ bytes "refused 2\n"
  pub records : prints "2 3 0\n- -\n" ≡ bytes "refused 3\n"
  -- a refused slot, tried again at the same slot; a line that was not read; bytes after the last newline
  pub refused : prints "2 3 1\n2:1 -\n0:2 0:3\n0:4 -\n" ≡ bytes "slot output input entered tag\nrefused 6\nrefused 8\n0 0 0 0 4\nheld 0\n"
  pub unreadable : prints "2 3 1\n7:5 x\n0:4 -\n" ≡ bytes "slot output input entered tag\nunreadable\nheld 0\n"
  pub after_last : prints "2 3 2\n0:1 0:2\n- -" ≡ bytes "slot output input entered tag\n0 0 0 0 1\nunreadable\nheld 1\n"

pub program_examples : ProgramExamples
unfolding Computing Lining Printing bytes part lines_of held_text end_text cell_text slot_text slot_on answer_text line_text line_after slots_text
    start_text first_text opening_text program_text prints
program_examples = record {
  whole = refl;
  missing = refl;
  unended = refl;
  both_wrong = refl;
  ports = refl;
  speedup = refl;
  records = refl;
  refused = refl;
  unreadable = refl;
  after_last = refl;
}
