-- The loop begins with no digit, and takes one more at each turn; it ends at a byte that is not taken.
-- Assumes nothing.
use Rattle.std.proofs.Common.{ℕ, ◌≡◌, refl, ◌∙◌, sym, false}
use Rattle.text.specs.declared.number.Number.{Number}
use Rattle.text.specs.declared.number.Number.TheVariants.{Empty, Value, NoNumber}
use Rattle.text.specs.Steps.{grown, is_value}
use Rattle.text.specs.Parts.{stepped_none, stepped_more, grown-digit, grown-none}
use Rattle.text.proofs.Places.{stands, ended}
use Rattle.text.proofs.number.read_digits.Goals as goal

-- what is no value by its variant is none by the test
no_value : (n : Number) → ((v : ℕ) → n ≡ Value v → ⊥) → is_value n ≡ false
no_value Empty h = refl
no_value (Value v) h = absurd (h v refl)
no_value NoNumber h = refl

pub loop-byte-init : goal.loop-byte-init
loop-byte-init c = record { digits = stepped_none _ _ _ _ _ c.args.piece.now.inside; same_bytes = refl }

pub loop-byte-preserved : goal.loop-byte-preserved
loop-byte-preserved c =
    let same = c.loop-byte.invariant.same_bytes in
    let byte = stands _ _ same _ _ c.peek.ensures _ c.in-Some.is in
    let grows : grown c.loop-byte.read c.in-Some.byte ≡ Value c.in-Value.sum = sym c.grown.ensures ∙ c.in-Value.is in
    record {
      digits = rw c.advance.ensures.next
          (stepped_more _ _ _ _ _ _ _ _ c.loop-byte.invariant.digits byte.inside (rw byte.here (grown-digit _ _ _ grows)) (rw byte.here (sym grows)));
      same_bytes = c.advance.ensures.same_bytes ∙ same;
    }

pub returns-in_default-grown : goal.returns-in_default-grown
returns-in_default-grown c =
    let same = c.loop-byte.invariant.same_bytes in
    let byte = stands _ _ same _ _ c.peek.ensures _ c.in-Some.is in
    record {
      taken = record {
        digits = c.loop-byte.invariant.digits;
        here = λ l. rw byte.here (grown-none _ _ (rw (← c.grown.ensures) (no_value c.grown.result c.in_default-grown.not-Value)));
      };
      same_bytes = same;
    }

pub returns-in_default-clause-taken : goal.returns-in_default-clause-taken
returns-in_default-clause-taken c = record {
  digits = c.loop-byte.invariant.digits;
  here = λ l. absurd (ended _ _ c.loop-byte.invariant.same_bytes _ _ c.peek.ensures c.in_default.not-Some l);
}
