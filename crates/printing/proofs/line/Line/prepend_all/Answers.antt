-- The last number stands first, and each round one more stands before what stands.
-- Assumes nothing.
use Rattle.std.proofs.Common.{◌≡◌, ◌∙◌, ℕ, List, ◌∷◌, [], ◌+◌, ◌-◌, ◌++◌, ◌<◌, refl, sym, ap, arith, append_assoc, length, length-append, take, get_or}
use Rattle.std.proofs.lemmas.Bool.{eq-eqb, ne_eqb}
use Rattle.std.proofs.lemmas.List.{get_or-take, get_or_at, length-take-le}
use Rattle.std.proofs.Math.ListN.{get_or-append}
use Rattle.std.specs.Iterator.Adapters.{rev_source}
use Rattle.std.specs.Slice.Iter.{iter_rest}
use Rattle.characters.specs.Characters.{space, newline}
use Rattle.laws.specs.Lists.{blocks, blocks_zero, blocks_more}
use Rattle.printing.specs.Printed.{field, field_at, numbers_line}
use Rattle.printing.proofs.line.Line.prepend_all.Goals as goal

-- a newline is behind the last number, and a space behind each one before it
last_field : (ns : List ℕ) (k : ℕ) → k + 1 ≡ length ns → field (get_or ns k 0) newline ≡ field_at ns k
last_field ns k h = rw (eq-eqb (k + 1) (length ns) h) refl

early_field : (ns : List ℕ) (k : ℕ) → k + 1 < length ns → field (get_or ns k 0) space ≡ field_at ns k
early_field ns k h = rw (ne_eqb (k + 1) (length ns) (λ e. omega (arith, e, h))) refl

-- the last of the blocks goes over to what stands
one_over : (f : ℕ → List ℕ) (k n : ℕ) (stood : List ℕ) → k + 1 ≡ n → blocks k f ++ (f k ++ stood) ≡ blocks n f ++ stood
one_over f k n stood q =
    sym (append_assoc (blocks k f) (f k) stood)
    ∙ ap (λ (l : List ℕ). l ++ stood) (sym (blocks_more f k) ∙ ap (λ (m : ℕ). blocks m f) q)

no_blocks : (f : ℕ → List ℕ) (k : ℕ) (stood : List ℕ) → k ≡ 0 → stood ≡ blocks k f ++ stood
no_blocks f k stood q = sym (ap (λ (l : List ℕ). l ++ stood) (ap (λ (n : ℕ). blocks n f) q ∙ blocks_zero f))

pub loop-number-init : goal.loop-number-init
unfolding numbers_line
loop-number-init c =
    let ns = c.args.numbers.now in
    let old = c.args.self.now in
    let n = length ns - 1 in
    let all : n + 1 ≡ length ns = omega (arith, c.in-len1-up.len_at_least) in
    let rest = iter_rest (rev_source c.into_iter-number-iterator.result) in
    let e : rest ≡ take n ns = rw (c.into_iter-number-iterator.ensures.into_iter_gives, c.rev-number-items.ensures.source) c.iter.ensures.rest in
    let l : length rest ≡ n = ap length e ∙ length-take-le n ns (omega arith) in
    record {
      few = omega (arith, l, all);
      same = λ k h. ap (λ (r : List ℕ). get_or r k 0) e ∙ get_or-take n ns k 0 (omega (arith, h, l));
      size = omega (arith, l, all, c.prepend.ensures.size);
      text =
          ap (λ (k : ℕ). blocks k (field_at ns) ++ c.prepend.new.self) l
          ∙ ap (λ (s : List ℕ). blocks n (field_at ns) ++ s) (c.prepend.ensures.text ∙ ap (λ (b : List ℕ). b ++ old) (last_field ns n all))
          ∙ one_over (field_at ns) n (length ns) old all;
    }

pub loop-number-preserved : goal.loop-number-preserved
loop-number-preserved c =
    let ns = c.args.numbers.now in
    let x = c.in-Some.number.now in
    let stood = c.loop-number.self in
    let before = iter_rest (rev_source c.loop-number.number-iterator) in
    let rest = iter_rest (rev_source c.next.new.self) in
    let n = length rest in
    let i = c.loop-number.invariant in
    let step : before ≡ rest ++ (x ∷ []) = c.in-Some.ensures.steps in
    let more : n + 1 ≡ length before = sym (ap length step ∙ length-append rest (x ∷ [])) in
    let read : (k : ℕ) → k < length before → get_or (rest ++ (x ∷ [])) k 0 ≡ get_or ns k 0 =
    λ k h. sym (ap (λ (r : List ℕ). get_or r k 0) step) ∙ i.same k h in
    let is_x : x ≡ get_or ns n 0 = sym (get_or_at rest x [] 0 n refl) ∙ read n (omega (arith, more)) in
    record {
      few = omega (arith, more, i.few);
      same = λ k h. sym (get_or-append rest (x ∷ []) 0 k h) ∙ read k (omega (arith, h, more));
      size = omega (arith, more, i.size, c.prepend-in-loop-number.ensures.size);
      text =
          ap (λ (s : List ℕ). blocks n (field_at ns) ++ s)
          (c.prepend-in-loop-number.ensures.text
          ∙ ap (λ (b : List ℕ). b ++ stood) (ap (λ (y : ℕ). field y space) is_x ∙ early_field ns n (omega (arith, more, i.few))))
          ∙ one_over (field_at ns) n (length before) stood more
          ∙ i.text;
    }

pub returns-in_default-clause-text : goal.returns-in_default-clause-text
unfolding numbers_line
returns-in_default-clause-text c =
    no_blocks (field_at c.args.numbers.now) (length c.args.numbers.now) c.args.self.now (omega (arith, c.in_default.len_below))

pub returns-in-None-clause-text : goal.returns-in-None-clause-text
returns-in-None-clause-text c =
    no_blocks (field_at c.args.numbers.now) (length (iter_rest (rev_source c.loop-number.number-iterator))) c.loop-number.self c.in-None.ensures.steps.0
    ∙ c.loop-number.invariant.text
