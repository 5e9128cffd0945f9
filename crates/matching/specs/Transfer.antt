-- A whole phase: from what the rounds keep to the match words and the number of moves.
-- Assumes nothing.
use Rattle.std.specs.Prelude.{◌≡◌, Bool, cond, ◌&&◌, List, ltb, length, Option, Some, None}
use Rattle.std.proofs.Math.Path.{sym, ap}
use Rattle.std.proofs.Common.{◌∙◌, arith}
use Rattle.std.proofs.Math.Bool.{So}
use Prim.Native.Nat.{ℕ, suc, ◌<◌}
use Rattle.std.proofs.Math.ListN.{get_or}
use Rattle.std.proofs.Math.Seq.{ext_get_or}
use borrow.Author.Tests.{eqb-true}
use Rattle.laws.specs.Tests.{to_no, both, cond_true, cond_false}
use Rattle.laws.specs.Count.{count, count_same, count-above, any→, →any}
use Rattle.laws.specs.Least.{Least, lowest}
use Rattle.laws.proofs.Least.{lowest_is}
use Rattle.laws.specs.Lists.{length-tabulate, get_or-tabulate}
use Rattle.laws.specs.SetWalk.{Filled}
use Rattle.ports.specs.Ports.{mask_ports, has}
use Rattle.rules.specs.declared.Cell.{Cell}
use Rattle.rules.specs.Cells.{most_ports, nth, output_of, cells_of, same_output}
use Rattle.rules.specs.Phases.{match_of, is_taken_output, moves, phase, served_word, match_words}
use Rattle.words.specs.Words.{with_records}
use Rattle.words.proofs.Words.{with_long}
use Rattle.ideal.specs.Match.{taken→, match_waits}
use Rattle.ideal.specs.Phases.{length_moved}
use Rattle.queues.specs.declared.PairQueues.{PairQueues}
use Rattle.queues.specs.Queues.{All, Queues}
use Rattle.matching.specs.declared.Taken.{Taken}
use Rattle.matching.specs.Ready.{Orderly}
use Rattle.matching.specs.Picking.{Shows}

-- The match words ------------------------------------------------------------------------------------

-- what is written: 1 + the input served at a taken output, 0 at the others
abbrev pub Written : (ℕ → Bool) → List ℕ → List ℕ → Type 0
Written taken served ws = Filled (λ o. suc (get_or served o 0)) taken ws

-- it can be written in n words: every taken output is below n, and what is served there is an input
pub record Writable (taken : ℕ) (served : List ℕ) (n : ℕ) : Type 0 where
  pub below : (o : ℕ) → So (has taken o) → o < n
  pub inputs : (o : ℕ) → So (has taken o) → get_or served o 0 < most_ports

module _ {n : ℕ} {ws : List ℕ} (order : Orderly n ws) (r : List ℕ) {us : List ℕ} {q : Taken} {ns : List ℕ}
    (s : Shows ws (match_of n r (cells_of ws)) us q ns) where
  abbrev cs : List Cell
  cs = cells_of ws

  -- the record of a taken output
  serves : (o : ℕ) → So (has q.outputs.mask o)
      → (k : ℕ) × (k < length cs) × So (match_of n r cs k) × ((nth cs k).output.0 ≡ o) × ((nth cs k).place ≡ 1)
  serves o x =
      let d = taken→ cs (match_of n r cs) (output_of o) (sym (s.outputs o) ∙ x) in
      (d.0, d.1, d.2, d.3, (match_waits n r cs d.0 d.2).1)

  pub shows_writable : Writable q.outputs.mask ns n
  shows_writable =
      record {
        below = λ o x. let d = serves o x in rw (← d.3) (order.inside.outputs d.0 d.1 d.4);
        inputs = λ o x.
            let d = serves o x in
            rw (← d.3, s.served d.0 d.1 d.2) (omega (arith, order.small, order.inside.inputs d.0 d.1 d.4));
      }

  -- the record that an output's word is of
  chosen : ℕ → ℕ → Bool
  chosen o k = match_of n r cs k && same_output (nth cs k).output (output_of o)

  shown_word : (o : ℕ) (x : Option ℕ) → Least (chosen o) ltb (length cs) x → cond (has q.outputs.mask o) (suc (get_or ns o 0)) 0 ≡ served_word cs x
  unfolding chosen same_output is_taken_output
  shown_word o (Some k) d =
      let b = both (match_of n r cs k) _ d.1 in
      let e : (nth cs k).output.0 ≡ o = eqb-true _ _ b.1 in
      cond_true _ (suc (get_or ns o 0)) 0 (s.outputs o ∙ →any (chosen o) (length cs) k d.0 d.1)
      ∙ ap suc (ap (λ (i : ℕ). get_or ns i 0) (sym e) ∙ s.served k d.0 b.0)
  shown_word o None d =
      cond_false _ (suc (get_or ns o 0)) 0 (s.outputs o ∙ to_no (λ x. let k = any→ (chosen o) (length cs) x in d k.0 k.1 k.2))

  pub shows-words : (vs : List ℕ) → length vs ≡ n → Written (has q.outputs.mask) ns vs → vs ≡ match_words n (match_of n r (cells_of ws)) (cells_of ws)
  unfolding match_words chosen
  shows-words vs l w =
      ext_get_or 0 vs (match_words n (match_of n r cs) cs) (l ∙ sym (length-tabulate _ n))
      (λ o m.
      w.word o m
      ∙ shown_word o (lowest (chosen o) (length cs)) (lowest_is (chosen o) (length cs))
      ∙ sym (get_or-tabulate (λ o. served_word cs (lowest (chosen o) (length cs))) n 0 o (rw l at m)))

  -- as many ports are in the mask as cells move
  pub shows_moves : count (has q.outputs.mask) mask_ports ≡ moves n (match_of n r (cells_of ws)) (cells_of ws)
  unfolding moves
  shows_moves =
      count-above (has q.outputs.mask) n mask_ports order.small
      (λ o a b x. let d = serves o x in omega (arith, d.3, order.inside.outputs d.0 d.1 d.4))
      ∙ count_same (has q.outputs.mask) (λ o. is_taken_output (match_of n r cs) cs (output_of o)) n (λ o l x. sym (s.outputs o) ∙ x)
      (λ o l x. s.outputs o ∙ x)

-- one phase: the table, its queues, the words and the number of moves
pub record Transferred (n : ℕ) (r table table' : List ℕ) (qs : PairQueues) (ws : List ℕ) (q : ℕ) : Type 0 where
  pub words : table' ≡ with_records table (phase n r (cells_of table))
  pub queues : Queues All (cells_of table') qs
  pub matched : ws ≡ match_words n (match_of n r (cells_of table)) (cells_of table)
  pub moved : q ≡ moves n (match_of n r (cells_of table)) (cells_of table)

pub transferred_long : {n : ℕ} {r table table' : List ℕ} {qs : PairQueues} {ws : List ℕ} {q : ℕ} → Transferred n r table table' qs ws q
    → length table' ≡ length table
unfolding phase
transferred_long {n} {r} {table} t =
    with_long table (phase n r (cells_of table)) t.words (length_moved (match_of n r (cells_of table)) (cells_of table))
