-- S phases one after the other: the words phase by phase, and that after a phase that moves nothing no phase moves anything.
-- Assumes nothing.
use Rattle.std.specs.Prelude.{◌≡◌, ◌&&◌, length, take, replicate}
use Rattle.std.proofs.Math.Path.{refl, sym, ap}
use Rattle.std.proofs.Common.{ap₂, ◌∙◌, arith, add-suc, suc-mul, add-mul, mul-le-mul_right, add-one, length-append, take_at}
use Rattle.std.proofs.Math.Bool.{Bool}
use mathlib.Core.List.{List, [], ◌++◌, append_assoc, append-nil}
use Prim.Native.Nat.{ℕ, zero, suc, ◌+◌, ◌-◌, ◌*◌, ◌≤◌, ◌<◌}
use Rattle.std.proofs.Math.Nat.{add-zero}
use Rattle.std.proofs.lemmas.List.{length-replicate, get_or-replicate, replicate-append-replicate}
use Rattle.std.proofs.Math.Seq.{ext_get_or, take-length, drop-length}
use borrow.Rule.Slice.PartMut.{mid_of, post_of, put_mid, mid_len, Post-is}
use Rattle.laws.specs.Tests.{No, to_no, fails_left}
use Rattle.laws.specs.Walk.{over, over_more}
use Rattle.laws.specs.Count.{count_hit}
use Rattle.laws.specs.Least.{lowest}
use Rattle.laws.proofs.Least.{lowest_nothing}
use Rattle.laws.specs.Lists.{blocks, blocks_zero, blocks_more, length-blocks, length-tabulate, get_or-tabulate}
use Rattle.rules.specs.declared.Cell.{Cell}
use Rattle.rules.specs.Cells.{free, nth, output_of, same_output, cells_of}
use Rattle.rules.specs.Phases.{match_of, moves, moved, phase, phases, match_words, served_word, is_taken_output}
use Rattle.rules.specs.Phases.{matches as matches_of}
use Rattle.ideal.specs.Match.{→taken, match_waits}
use Rattle.words.specs.Words.{same-records, with_records}
use Rattle.words.proofs.Words.{with_long, with_cells, with_then, with_own}
use Rattle.ideal.specs.InPorts.{InPorts, in_ports_phases}
use Rattle.ideal.specs.Phases.{length_moved, moved_no, phases_zero, length-phases}
use Rattle.queues.specs.declared.PairQueues.{PairQueues}
use Rattle.queues.specs.Queues.{All, Queues}
use Rattle.matching.specs.Ready.{Orderly, Ready}
use Rattle.matching.specs.Transfer.{Transferred}

-- the match words of phase j
unfoldable pub row_of : ℕ → List ℕ → List Cell → ℕ → List ℕ
row_of n r cs j = match_words n (match_of n r (phases n r cs j)) (phases n r cs j)

length-row : (n : ℕ) (r : List ℕ) (cs : List Cell) (j : ℕ) → length (row_of n r cs j) ≡ n
unfolding row_of match_words
length-row n r cs j = length-tabulate _ n

matches_rows : (n : ℕ) (r : List ℕ) (cs : List Cell) (s : ℕ) → matches_of n r cs s ≡ blocks s (row_of n r cs)
unfolding matches_of row_of
matches_rows n r cs s = refl

phase_more : (n : ℕ) (r : List ℕ) (cs : List Cell) (j : ℕ) → phases n r cs (j + 1) ≡ phase n r (phases n r cs j)
unfolding phases
phase_more n r cs j = over_more _ _ j

-- the table after j phases: its records, and that it is as long
module _ (n : ℕ) (r ws us : List ℕ) (j : ℕ) (e : us ≡ with_records ws (phases n r (cells_of ws) j)) where
  cells_after : cells_of us ≡ phases n r (cells_of ws) j
  cells_after = with_cells ws (phases n r (cells_of ws) j) e (length-phases n r (cells_of ws) j)

  length-after : length us ≡ length ws
  length-after = with_long ws (phases n r (cells_of ws) j) e (length-phases n r (cells_of ws) j)

  orderly_after : Orderly n ws → Orderly n us
  orderly_after o = record {
    small = o.small;
    few = rw (same-records us ws length-after) o.few;
    inside = rw cells_after (in_ports_phases r o.inside j);
  }

row_is : (n : ℕ) (r : List ℕ) (cs us : List Cell) (j : ℕ) → us ≡ phases n r cs j → match_words n (match_of n r us) us ≡ row_of n r cs j
unfolding row_of
row_is n r cs us j e = ap (λ (u : List Cell). match_words n (match_of n r u) u) e

-- one more phase of a table after j of them
words_more : (n : ℕ) (r ws us vs : List ℕ) (j : ℕ) → us ≡ with_records ws (phases n r (cells_of ws) j) → vs ≡ with_records us (phase n r (cells_of us))
    → vs ≡ with_records ws (phases n r (cells_of ws) (j + 1))
words_more n r ws us vs j e h =
    let next : List Cell = phases n r (cells_of ws) (j + 1) in
    let is-next : phase n r (cells_of us) ≡ next = ap (phase n r) (cells_after n r ws us j e) ∙ sym (phase_more n r (cells_of ws) j) in
    with_then ws (phases n r (cells_of ws) j) e (length-phases n r (cells_of ws) j) next (h ∙ ap (with_records us) is-next)
    (length-phases n r (cells_of ws) (j + 1) ∙ sym (length-phases n r (cells_of ws) j))

-- Quiet phases ---------------------------------------------------------------------------------------

module _ {n : ℕ} {cs : List Cell} (f : InPorts n cs) (r : List ℕ) where
  -- where no output is taken nothing is picked
  quiet_none : moves n (match_of n r cs) cs ≡ 0 → (k : ℕ) → No (match_of n r cs k)
  unfolding moves
  quiet_none h k =
      to_no (λ x.
      let w = match_waits n r cs k x in
      let o : ℕ = (nth cs k).output.0 in
      let taken = →taken cs (match_of n r cs) (nth cs k).output k w.0 x refl in
      omega (arith, h, count_hit (λ o. is_taken_output (match_of n r cs) cs (output_of o)) n o (f.outputs k w.0 w.1) taken))

  -- so the table stays
  quiet_stays : moves n (match_of n r cs) cs ≡ 0 → phase n r cs ≡ cs
  unfolding phase
  quiet_stays h =
      ext_get_or free (moved (match_of n r cs) cs) cs (length_moved _ cs)
      (λ k l. moved_no (match_of n r cs) cs k (omega (arith, length_moved (match_of n r cs) cs)) (quiet_none h k))

  quiet_word : moves n (match_of n r cs) cs ≡ 0 → match_words n (match_of n r cs) cs ≡ replicate n 0
  unfolding match_words
  quiet_word h =
      ext_get_or 0 (match_words n (match_of n r cs) cs) (replicate n 0) (length-tabulate _ n ∙ sym (length-replicate {A = ℕ} n 0))
      (λ o l.
      let m : o < n = rw (length-tabulate (λ o. served_word cs (lowest (chosen o) (length cs))) n) at l in
      get_or-tabulate _ n 0 o m
      ∙ ap (served_word cs) (lowest_nothing (chosen o) (length cs) (λ k i. fails_left (match_of n r cs k) _ (quiet_none h k)))
      ∙ sym (get_or-replicate n o 0 0 m))
    where
      chosen : ℕ → ℕ → Bool
      chosen o k = match_of n r cs k && same_output (nth cs k).output (output_of o)

module _ {n : ℕ} {cs : List Cell} (f : InPorts n cs) (r : List ℕ) (j : ℕ) (h : moves n (match_of n r (phases n r cs j)) (phases n r cs j) ≡ 0) where
  later : (d : ℕ) → phases n r cs (j + d) ≡ phases n r cs j
  unfolding phases over
  later zero = rw add-zero
  later (suc d) = rw (add-suc, later d) (quiet_stays (in_ports_phases r f j) r h)

  -- after a phase that moves nothing the table is that of the last phase
  quiet_phases : (s : ℕ) → j ≤ s → phases n r cs j ≡ phases n r cs s
  quiet_phases s l = let q : j + (s - j) ≡ s = omega arith in sym (rw q at (later (s - j)))

  quiet_row : (d : ℕ) → row_of n r cs (j + d) ≡ replicate n 0
  unfolding row_of
  quiet_row d = ap (λ (u : List Cell). match_words n (match_of n r u) u) (later d) ∙ quiet_word (in_ports_phases r f j) r h

  zeros_on : (d : ℕ) → blocks (j + 1 + d) (row_of n r cs) ≡ blocks (j + 1) (row_of n r cs) ++ replicate (d * n) 0
  zeros_on zero =
      let z : 0 * n ≡ 0 = omega arith in
      rw z (ap (λ (i : ℕ). blocks i (row_of n r cs)) (add-zero (j + 1)) ∙ sym (append-nil (blocks (j + 1) (row_of n r cs))))
  zeros_on (suc d) =
      let e : j + 1 + suc d ≡ j + 1 + d + 1 = omega arith in
      let q : j + 1 + d ≡ j + suc d = omega arith in
      ap (λ (i : ℕ). blocks i (row_of n r cs)) e
      ∙ blocks_more (row_of n r cs) (j + 1 + d)
      ∙ ap₂ (λ (a b : List ℕ). a ++ b) (zeros_on d) (ap (row_of n r cs) q ∙ quiet_row (suc d))
      ∙ append_assoc (blocks (j + 1) (row_of n r cs)) (replicate (d * n) 0) (replicate n 0)
      ∙ ap (λ (a : List ℕ). blocks (j + 1) (row_of n r cs) ++ a) (replicate-append-replicate (d * n) n 0 ∙ ap (λ (i : ℕ). replicate i 0) (sym (suc-mul d n)))

  -- and the words of the later phases are 0
  quiet_words : (s : ℕ) → j + 1 ≤ s → blocks (j + 1) (row_of n r cs) ++ replicate (s * n - (j + 1) * n) 0 ≡ blocks s (row_of n r cs)
  quiet_words s l =
      let q : j + 1 + (s - (j + 1)) ≡ s = omega arith in
      let h : s * n ≡ (j + 1) * n + (s - (j + 1)) * n = ap (λ (i : ℕ). i * n) (sym q) ∙ add-mul (j + 1) (s - (j + 1)) n in
      let e : (s - (j + 1)) * n ≡ s * n - (j + 1) * n = omega arith in
      sym (rw (q, e) at (zeros_on (s - (j + 1))))

  -- so they are whole where the rest of the words, from row j + 1 on, are made 0
  quiet_end : (s end : ℕ) (ms zs : List ℕ) → j + 1 ≤ s → end ≡ (j + 1) * n → length ms ≡ s * n → take ((j + 1) * n) ms ≡ blocks (j + 1) (row_of n r cs)
      → zs ≡ replicate (length (mid_of end (length ms - end) ms)) 0 → put_mid end (length ms - end) ms zs ≡ blocks s (row_of n r cs)
  quiet_end s end ms zs l e long front z =
      let inside : end ≤ length ms = omega (arith, mul-le-mul_right {m = j + 1} {n = s} n l) in
      let size : length (mid_of end (length ms - end) ms) ≡ s * n - (j + 1) * n = mid_len end (length ms) ms (omega arith) ∙ omega arith in
      let rest : post_of end (length ms - end) ms ≡ [] = Post-is end (length ms) ms inside ∙ drop-length ms in
      ap₂ (λ (u v : List ℕ). u ++ v) (ap (λ (i : ℕ). take i ms) e ∙ front)
      (ap₂ (λ (u v : List ℕ). u ++ v) (z ∙ ap (λ (i : ℕ). replicate i 0) size) rest ∙ append-nil (replicate (s * n - (j + 1) * n) 0))
      ∙ quiet_words s l

-- Row by row -------------------------------------------------------------------------------------------

-- the first j rows, then row j in the place of what stood there
rows_next : (n : ℕ) (r : List ℕ) (cs : List Cell) (j at : ℕ) (ms ys post : List ℕ) → at ≡ j * n → take (j * n) ms ≡ blocks j (row_of n r cs)
    → ys ≡ row_of n r cs j
    → take ((j + 1) * n) (take at ms ++ (ys ++ post)) ≡ blocks (j + 1) (row_of n r cs)
rows_next n r cs j at ms ys post a e y =
    ap (take ((j + 1) * n))
    (ap₂ (λ (u v : List ℕ). u ++ (v ++ post)) (ap (λ (i : ℕ). take i ms) a ∙ e) y ∙ sym (append_assoc (blocks j (row_of n r cs)) (row_of n r cs j) post))
    ∙ take_at (blocks j (row_of n r cs) ++ row_of n r cs j) post ((j + 1) * n) long
    ∙ sym (blocks_more (row_of n r cs) j)
  where
    long : length (blocks j (row_of n r cs) ++ row_of n r cs j) ≡ (j + 1) * n
    long =
        length-append (blocks j (row_of n r cs)) (row_of n r cs j)
        ∙ omega (arith, length-blocks (row_of n r cs) n (length-row n r cs) j, length-row n r cs j, ap (λ (i : ℕ). i * n) (add-one j), suc-mul j n)

-- Phase by phase -------------------------------------------------------------------------------------

-- after j phases of s on the table ws: the table, its queues, and the rows of match words so far; the next row begins at `at`
pub record AfterPhases (n s : ℕ) (r ws us : List ℕ) (qs : PairQueues) (ms : List ℕ) (j at : ℕ) : Type 0 where
  pub few : j ≤ s
  pub place : at ≡ j * n
  pub words : us ≡ with_records ws (phases n r (cells_of ws) j)
  pub queues : Queues All (cells_of us) qs
  pub long : length ms ≡ s * n
  pub rows : take (j * n) ms ≡ blocks j (row_of n r (cells_of ws))

pub phases-none : (n s : ℕ) (r ws : List ℕ) (qs : PairQueues) (ms : List ℕ) → Queues All (cells_of ws) qs → length ms ≡ s * n
    → AfterPhases n s r ws ws qs ms 0 0
phases-none n s r ws qs ms q l =
    let z : 0 * n ≡ 0 = omega arith in
    record {
      few = omega arith;
      place = omega arith;
      words = sym (with_own ws) ∙ ap (with_records ws) (sym (phases_zero n r (cells_of ws)));
      queues = q;
      long = l;
      rows = ap (λ n. take n ms) z ∙ sym (blocks_zero _);
    }

module _ {n s : ℕ} {r ws us : List ℕ} {qs : PairQueues} {ms : List ℕ} {j at : ℕ} (a : AfterPhases n s r ws us qs ms j at) where
  pub phases_long : length us ≡ length ws
  phases_long = length-after n r ws us j a.words

  pub phases-ready : Orderly n ws → Ready n us qs
  phases-ready o = record { orderly = orderly_after n r ws us j a.words o; queues = a.queues }

  -- row j lies within s rows
  pub phases_room : j < s → at + n ≤ length ms
  phases_room l = omega (arith, a.place, a.long, mul-le-mul_right {m = suc j} {n = s} n l, suc-mul j n)

  -- all phases
  pub phases_all : j ≡ s → (us ≡ with_records ws (phases n r (cells_of ws) s)) × (ms ≡ matches_of n r (cells_of ws) s)
  phases_all e = (
    a.words ∙ ap (λ (i : ℕ). with_records ws (phases n r (cells_of ws) i)) e,
    sym (take-length ms) ∙ ap (λ (i : ℕ). take i ms) (a.long ∙ ap (λ (i : ℕ). i * n) (sym e)) ∙ a.rows
        ∙ ap (λ (i : ℕ). blocks i (row_of n r (cells_of ws))) e ∙ sym (matches_rows n r (cells_of ws) s),
  )

  -- one more phase, whose row ys stands in the place of what stood there
  module _ {us' : List ℕ} {qs' : PairQueues} {ys : List ℕ} {q : ℕ} (l : j < s) (t : Transferred n r us us' qs' ys q) (post : List ℕ)
      (same : length (take at ms ++ (ys ++ post)) ≡ length ms) where
    pub phases_more : AfterPhases n s r ws us' qs' (take at ms ++ (ys ++ post)) (j + 1) (at + n)
    phases_more = record {
      few = omega arith;
      place = omega (arith, a.place, ap (λ (i : ℕ). i * n) (add-one j), suc-mul j n);
      words = words_more n r ws us us' j a.words t.words;
      queues = t.queues;
      long = same ∙ a.long;
      rows =
          rows_next n r (cells_of ws) j at ms ys post a.place a.rows
          (t.matched ∙ row_is n r (cells_of ws) (cells_of us) j (cells_after n r ws us j a.words));
    }

    -- one that moves nothing: the table stays from then on, and the words behind its row become 0
    pub phases_quiet : Orderly n ws → q ≡ 0 → (end : ℕ) (zs : List ℕ) → end ≡ at + n
        → zs ≡ replicate (length (mid_of end (length (take at ms ++ (ys ++ post)) - end) (take at ms ++ (ys ++ post)))) 0
        → (us' ≡ with_records ws (phases n r (cells_of ws) s))
        × (put_mid end (length (take at ms ++ (ys ++ post)) - end) (take at ms ++ (ys ++ post)) zs ≡ matches_of n r (cells_of ws) s)
    phases_quiet o none end zs e z =
        let f = o.inside in
        let h : moves n (match_of n r (phases n r (cells_of ws) j)) (phases n r (cells_of ws) j) ≡ 0 =
        ap (λ (cs : List Cell). moves n (match_of n r cs) cs) (sym (cells_after n r ws us j a.words)) ∙ sym t.moved ∙ none in
        let b = phases_more in (
          b.words ∙ ap (with_records ws) (sym (quiet_phases f r j h (j + 1) (omega arith)) ∙ quiet_phases f r j h s (omega arith)),
          quiet_end f r j h s end (take at ms ++ (ys ++ post)) zs (omega arith) (e ∙ b.place) b.long b.rows z ∙ sym (matches_rows n r (cells_of ws) s),
        )
