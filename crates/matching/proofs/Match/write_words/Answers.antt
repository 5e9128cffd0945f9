-- Each output that is visited is a taken one: there is a word for it, and what is served there is an input.
use Rattle.std.proofs.Common.{◌≡◌, ℕ, suc, ◌<◌, Bool, List, length, get_or, set, rules, arith, length-set}
use Rattle.laws.specs.SetWalk.{also, Filled, walk_none, filled_nobody, filled_visit}
use Rattle.ports.specs.PortLaws.{walk_visit, walk_done}
use Rattle.matching.proofs.Match.write_words.Goals as goal

-- the word of an output is written: 1 + what is served there
word-written : (served : List ℕ) {words : List ℕ} {v : ℕ → Bool} {word : ℕ} (o : ℕ) → word ≡ suc (get_or served o 0) → o < length words
    → Filled (λ o. suc (get_or served o 0)) v words → Filled (λ o. suc (get_or served o 0)) (also v o) (set words o word)
word-written served o e l h = rw e (filled_visit o l h)

pub loop-o-init : goal.loop-o-init
loop-o-init c =
    let whole : c.into_iter-o-iterator.result.left.mask ≡ c.args.self.now.taken.outputs.mask = cc in
    record {
      long = c.fill.ensures.len;
      walk = rw (c.fill.ensures.after (λ y h. search rules), whole) (walk_none (filled_nobody _ (length c.args.words.now)));
    }

pub loop-o-preserved : goal.loop-o-preserved
loop-o-preserved c =
    let v = (c.in-Some.ensures {u = tt}).steps in
    let w = c.loop-o.invariant in
    let inside : c.in-Some.o < length c.loop-o.words = omega (arith, c.requires.below _ (w.walk.part _ v.lowest.inside)) in
    record {
      long = simp length-set w.long;
      walk = rw c.from-at.ensures (walk_visit v w.walk (λ u f. word-written c.args.self.now.served _ (omega arith) inside f));
    }

pub returns-clause-written : goal.returns-clause-written
returns-clause-written c = walk_done (c.in-None.ensures {u = tt}).steps c.loop-o.invariant.walk
