-- The words of the block lie within the table; where their or is 0, its records are free.
use Rattle.std.proofs.Common.{◌≡◌, ◌+◌, ◌*◌, ◌∙◌, sym, arith}
use Rattle.sift.specs.Stretch.{block}
use Rattle.fit_check.specs.Blocks.{block_inside, block_in_words, zeros-free}
use Rattle.fit_check.proofs.or_of_block.Goals as goal

pub overflow_mul-at-2 : goal.overflow_mul-at-2
overflow_mul-at-2 c = let inside = block_in_words c.args.stretch c.args.b c.requires in record { fits = omega arith }

pub overflow_add-at-2 : goal.overflow_add-at-2
overflow_add-at-2 c = let inside = block_in_words c.args.stretch c.args.b c.requires in record { fits = omega arith }

pub offset_bounds-stretch-at : goal.offset_bounds-stretch-at
offset_bounds-stretch-at c = let inside = block_in_words c.args.stretch c.args.b c.requires in record { fits = omega arith }

pub slice_bounds-or_of-end : goal.slice_bounds-or_of-end
slice_bounds-or_of-end c = let inside = block_in_words c.args.stretch c.args.b c.requires in omega arith

pub returns : goal.returns
returns c = λ e j l.
    let s = c.args.stretch in
    let q : s.start + c.args.b * block + j ≡ s.start + (c.args.b * block + j) = omega arith in
    rw q at (zeros-free s.table.now (s.start + c.args.b * block) (block_inside s c.args.b c.requires) (sym c.or_of.ensures ∙ e) j l)
