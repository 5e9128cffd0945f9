-- Each turn takes what is next of the piece, and what was put fits on the page.
use Rattle.std.proofs.Common.{◌∙◌, arith}
use Rattle.printing.specs.Prints.{put_size}
use Rattle.program.specs.Turns.{goes_then}
use Rattle.program.proofs.Program.pass.Goals as goal

pub loop-out-preserved : goal.loop-out-preserved
loop-out-preserved c =
    let i = c.loop-out.invariant in
    let a = c.advance-program.ensures in
    record {
      same_memory = record {
        table = a.same_memory.table ∙ i.same_memory.table;
        arrivals = a.same_memory.arrivals ∙ i.same_memory.arrivals;
      };
      idle = λ q. absurd (omega (arith, i.goes.order, a.further, q));
      goes = goes_then i.goes a.goes (omega (arith, put_size a.goes.put, put_size i.goes.put));
    }
