-- The number's line comes behind the word.
-- Assumes nothing.
use Rattle.std.proofs.Common.{◌≡◌, ◌≤◌, ◌∙◌, ◌+◌, ◌++◌, [], List, ℕ, length, ap, arith, append-nil}
use Rattle.characters.specs.Characters.{newline}
use Rattle.printing.specs.Printed.{field, field_bytes}
use Rattle.printing.specs.Prints.{put_then, put_room}
use Rattle.printing.proofs.put_message.Goals as goal

-- a line that was made of nothing
line_short : (bytes line start : List ℕ) → bytes ≡ line → length line ≤ length start + field_bytes → start ≡ [] → length bytes ≤ field_bytes
line_short bytes line start e size none = omega (arith, ap length e, size, ap length none)

pub put_text-requires-2 : goal.put_text-requires-2
put_text-requires-2 c =
    put_room c.put_text.ensures _ (omega (arith, c.requires, line_short _ _ _ c.bytes.ensures c.prepend.ensures.size c.new-line.ensures))

pub returns : goal.returns
returns c =
    let line : c.bytes.result.now ≡ field c.args.number newline =
    c.bytes.ensures
    ∙ c.prepend.ensures.text
    ∙ ap (λ (l : List ℕ). field c.args.number newline ++ l) c.new-line.ensures
    ∙ append-nil (field c.args.number newline) in
    rw (← line)
    (put_then c.put_text.ensures c.put_text-2.ensures (omega (arith, line_short _ _ _ c.bytes.ensures c.prepend.ensures.size c.new-line.ensures)))
