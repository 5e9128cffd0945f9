-- One output's emission, and that the outputs one after the other come to the rules' exhale, where all emit at once.
-- Assumes nothing.
use Prim.Native.Nat.{ℕ, ◌+◌, ◌*◌, ◌<◌, ◌≤◌}
use Rattle.std.specs.Prelude.{◌≡◌, refl, Bool, cond, ◌&&◌, ◌||◌, List, [], ◌∷◌, ltb, length, take, Option, Some, None}
use Rattle.std.proofs.Common.{sym, ◌∙◌, subst, ⊎_elim, arith, ext_get_or, ltb-true, ltb-false, lt-ltb, le-ltb}
use Rattle.std.proofs.Math.Path.{ap, ap₂}
use Rattle.std.proofs.Math.Bool.{So, true, false}
use Rattle.std.proofs.lemmas.Bool.{false≢true}
use Rattle.std.proofs.lemmas.List.Edits.{sets}
use Rattle.laws.specs.Tests.{both, join, either, on_left, on_right, passes, same_test}
use Rattle.laws.specs.Least.{is_at, is_at→}
use Rattle.laws.proofs.Least.{least_at, least_alike}
use Rattle.laws.specs.Lists.{tabulate-same, tabulate-get_or, blocks_zero, blocks_next}
use Rattle.rules.specs.declared.Cell.{Cell}
use Rattle.rules.specs.declared.Output.{Output}
use Rattle.rules.specs.Cells.{output_of, free, nth, records, cells_of, is_ready, is_ready_for, older}
use Rattle.rules.specs.Answers.{exhaled_width}
use Rattle.rules.specs.Phases.{store_at, oldest_ready, is_emitted, exhale, emitted_words, exhaled}
use Rattle.words.specs.Words.{length-cells_of, with_records}
use Rattle.words.proofs.Words.{with_own, with_long, with_cells, with_then}
use Rattle.ideal.specs.Cells.{ready_for→}
use Rattle.ideal.specs.Exhale.{length-exhale, nth-exhale}
use Rattle.ideal.specs.Exhaled.{length-emitted}
use Rattle.table.specs.Table.{stored}
use Rattle.buffers.specs.Stores.{length-store_at, nth-store_at}

-- the words of an entry, of the cell that is emitted or of none: what the rules show of it
abbrev pub entry_of : Option Cell → List ℕ
entry_of (Some c) = emitted_words (c ∷ []) (Some 0)
entry_of None = emitted_words [] None

-- the words ws of the table and l of the list become vs and m when output o emits
pub record Emitted (o : Output) (ws l vs m : List ℕ) : Type 0 where
  pub table : vs ≡ with_records ws (store_at (oldest_ready (cells_of ws) o) free (cells_of ws))
  pub list : m ≡ sets l (o.0 * exhaled_width) (emitted_words (cells_of ws) (oldest_ready (cells_of ws) o))

found-ready : (cs : List Cell) (o : Output) (k : ℕ) → oldest_ready cs o ≡ Some k → (k < length cs) × So (is_ready_for o (nth cs k))
unfolding oldest_ready
found-ready cs o k e = least_at _ _ (length cs) k e

pub found_inside : (ws : List ℕ) (o : Output) (k : ℕ) → oldest_ready (cells_of ws) o ≡ Some k → k < records ws
found_inside ws o k f = rw (length-cells_of ws) at (found-ready (cells_of ws) o k f).0

-- what the code does for output o: nothing found, or record k
module _ {o : Output} {ws l m : List ℕ} where
  pub emits_nothing : oldest_ready (cells_of ws) o ≡ None → m ≡ sets l (o.0 * exhaled_width) (entry_of None) → Emitted o ws l ws m
  emits_nothing f e = record { table = rw f (sym (with_own ws)); list = rw f e }

  pub emits_record : {k : ℕ} {vs : List ℕ} → oldest_ready (cells_of ws) o ≡ Some k
      → m ≡ sets l (o.0 * exhaled_width) (entry_of (Some (nth (cells_of ws) k))) → vs ≡ stored ws k free → Emitted o ws l vs m
  emits_record f e s = record { table = rw f s; list = rw f e }

-- Output by output -----------------------------------------------------------------------------

module _ (cs : List Cell) (o : ℕ) where
  -- what output o finds
  abbrev found : Option ℕ
  found = oldest_ready cs (output_of o)

  -- after the outputs below o, a record for output o is as it was
  kept : (k : ℕ) → k < length cs → So (is_ready_for (output_of o) (nth cs k)) → nth (exhale o cs) k ≡ nth cs k
  unfolding is_emitted
  kept k l h = nth-exhale o cs k l ∙ rw (le-ltb (nth cs k).output.0 o (omega (arith, (ready_for→ (output_of o) (nth cs k) h).1)))

  -- what was emitted is not ready, and was for a lower output
  same-ready : (k : ℕ) → k < length cs → is_ready_for (output_of o) (nth (exhale o cs) k) ≡ is_ready_for (output_of o) (nth cs k)
  unfolding is_ready_for is_ready
  same-ready k l =
      same_test _ _
      (λ h. go (is_emitted o cs k) (ap (is_ready_for (output_of o)) (sym (nth-exhale o cs k l)) ∙ h))
      (λ h. ap (is_ready_for (output_of o)) (kept k l h) ∙ h)
    where
      go : (b : Bool) → So (is_ready_for (output_of o) (cond b free (nth cs k))) → So (is_ready_for (output_of o) (nth cs k))
      go true h = absurd (false≢true h)
      go false h = h

  -- so it finds what it found at first, and emits the same
  found-same : oldest_ready (exhale o cs) (output_of o) ≡ found
  unfolding oldest_ready
  found-same =
      rw (length-exhale o cs)
      (least_alike _ _ _ _ (length cs) same-ready (λ j k i l x y. ap₂ older (kept j i x) (kept k l y)))

  words_same : emitted_words (exhale o cs) found ≡ emitted_words cs found
  words_same = go found refl
    where
      go : (x : Option ℕ) → found ≡ x → emitted_words (exhale o cs) x ≡ emitted_words cs x
      go (Some k) e = let r = found-ready cs (output_of o) k e in ap (λ c. entry_of (Some c)) (kept k r.0 r.1)
      go None e = refl

  -- with output o, what it finds is emitted besides
  emitted_more : (j : ℕ) → is_emitted (o + 1) cs j ≡ is_at j found || is_emitted o cs j
  unfolding is_emitted
  emitted_more j = same_test _ _ forth back
    where
      out : ℕ
      out = (nth cs j).output.0

      own : Bool
      own = is_at j (oldest_ready cs (nth cs j).output)

      same : out ≡ o → (nth cs j).output ≡ output_of o
      same e = λ i. record { 0 = e i }

      forth : So (ltb out (o + 1) && own) → So (is_at j found || ltb out o && own)
      forth h =
          let b = both (ltb out (o + 1)) _ h in
          ⊎_elim
          (λ l. on_right (is_at j found) _ (join (ltb out o) _ l b.1))
          (λ l. on_left _ _ (subst (λ q. So (is_at j (oldest_ready cs q))) (same (omega (arith, ltb-true out (o + 1) b.0, ltb-false out o l))) b.1))
          (passes (ltb out o))

      back : So (is_at j found || ltb out o && own) → So (ltb out (o + 1) && own)
      back h =
          ⊎_elim
          (λ x.
          let e : out ≡ o = (ready_for→ (output_of o) (nth cs j) (found-ready cs (output_of o) j (is_at→ j found x)).1).1 in
          join (ltb out (o + 1)) _ (lt-ltb out (o + 1) (omega arith)) (subst (λ q. So (is_at j (oldest_ready cs q))) (sym (same e)) x))
          (λ x. let b = both (ltb out o) _ x in join (ltb out (o + 1)) _ (lt-ltb out (o + 1) (omega (arith, ltb-true out o b.0))) b.1)
          (either (is_at j found) _ h)

  -- so the outputs below o + 1 leave what those below o do, with what output o finds free
  exhale_more : exhale (o + 1) cs ≡ store_at found free (exhale o cs)
  exhale_more =
      ext_get_or free (exhale (o + 1) cs) (store_at found free (exhale o cs))
      (length-exhale (o + 1) cs ∙ sym (length-store_at found free (exhale o cs) ∙ length-exhale o cs))
      (λ j h.
      let l : j < length cs = rw (length-exhale (o + 1) cs) at h in
      nth-exhale (o + 1) cs j l ∙ ap (λ (b : Bool). cond b free (nth cs j)) (emitted_more j) ∙ twice (is_at j found) (is_emitted o cs j) (nth cs j)
      ∙ sym (nth-store_at found free (exhale o cs) j (rw (length-exhale o cs) l) ∙ ap (cond (is_at j found) free) (nth-exhale o cs j l)))
    where
      twice : (a b : Bool) (c : Cell) → cond (a || b) free c ≡ cond a free (cond b free c)
      twice true b c = refl
      twice false b c = refl

exhale_zero : (cs : List Cell) → exhale 0 cs ≡ cs
unfolding exhale is_emitted
exhale_zero cs = tabulate-same free _ (nth cs) (length cs) (λ k l. rw (le-ltb (nth cs k).output.0 0 (omega arith))) ∙ tabulate-get_or free cs

-- the outputs below o have emitted: the words ws of the table have become vs, and the front of the list's words l is theirs
pub record Exhaling (ws : List ℕ) (o : ℕ) (vs l : List ℕ) : Type 0 where
  pub table : vs ≡ with_records ws (exhale o (cells_of ws))
  pub list : take (o * exhaled_width) l ≡ exhaled o (cells_of ws)

pub exhaling_none : (ws l : List ℕ) → Exhaling ws 0 ws l
unfolding exhaled
exhaling_none ws l = record { table = sym (ap (with_records ws) (exhale_zero (cells_of ws)) ∙ with_own ws); list = sym (blocks_zero _) }

pub exhaling_long : {ws vs l : List ℕ} {o : ℕ} → Exhaling ws o vs l → length vs ≡ length ws
exhaling_long {ws} {o = o} x = with_long ws _ x.table (length-exhale o (cells_of ws))

pub exhaling_more : {ws : List ℕ} {o : ℕ} {vs l us m : List ℕ} → o * exhaled_width + exhaled_width ≤ length l → Exhaling ws o vs l
    → Emitted (output_of o) vs l us m → Exhaling ws (o + 1) us m
unfolding exhaled
exhaling_more {ws} {o} {vs} {l} {us} {m} h x e =
    record {
      table = with_then ws _ x.table long _ then (length-store_at (found cs o) free (exhale o cs)) ∙ ap (with_records ws) (sym (exhale_more cs o));
      list = ap (take ((o + 1) * exhaled_width)) shown ∙ blocks_next words exhaled_width (λ o. length-emitted cs (found cs o)) l o h x.list;
    }
  where
    cs : List Cell
    cs = cells_of ws

    words : ℕ → List ℕ
    words o = emitted_words cs (found cs o)

    long : length (exhale o cs) ≡ length cs
    long = length-exhale o cs

    cells : cells_of vs ≡ exhale o cs
    cells = with_cells ws _ x.table long

    then : us ≡ with_records vs (store_at (found cs o) free (exhale o cs))
    then = rw (cells, found-same cs o) at e.table

    shown : m ≡ sets l (o * exhaled_width) (emitted_words cs (found cs o))
    shown = rw (cells, found-same cs o) at e.list ∙ ap (sets l (o * exhaled_width)) (words_same cs o)
