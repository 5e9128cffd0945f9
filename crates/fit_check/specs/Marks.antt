-- Marks of live cells, by the remainders of slot and input. Two records with the same slot and input have the same mark, so a cell whose mark is
-- new is alone. Nothing here asks whether a record is sound.
-- Assumes nothing.
use Rattle.std.specs.Prelude.{ℕ, ◌+◌, ◌%◌, ◌<◌, ◌≡◌, refl, Bool, true, false, not, eqb, length, get_or, set}
use Rattle.std.proofs.Common.{sym, ap₂, ◌∙◌, arith, add-one, eqb-true, get_or-set_same, get_or-set_other}
use Rattle.std.proofs.Math.Path.{ap}
use Rattle.std.proofs.Math.Bool.{So}
use mathlib.Core.List.{List, []}
use Rattle.std.proofs.lemmas.Bool.{eqb-false}
use Rattle.laws.specs.Tests.{No, both, refuted, to_no, denied, deny}
use Rattle.laws.specs.Walk.{below_suc}
use Rattle.laws.specs.Count.{→every}
use Rattle.rules.specs.declared.Cell.{Cell}
use Rattle.rules.specs.Cells.{most_ports, free, nth, is_free, is_live, same_slot, same_input, same_entry, is_alone}
use Rattle.ports.specs.declared.PortSet.{PortSet}
use Rattle.ports.specs.Ports.{has, set_of, Added}

-- how many sets there are: `MARK_ROWS` of the source
abbrev pub mark_rows : ℕ
mark_rows = 1024

-- the set that a cell is marked in, and its port there
abbrev row_of : Cell → ℕ
row_of c = c.entered.0 % mark_rows

abbrev port_of : Cell → ℕ
port_of c = c.input.0 % most_ports

-- set x of the marks
abbrev set_at : List PortSet → ℕ → ℕ
set_at ms x = (get_or ms x (set_of 0)).mask

-- the mark of c is in the sets
unfoldable pub marked : List PortSet → Cell → Bool
marked ms c = has (set_at ms (row_of c)) (port_of c)

-- the sets hold each live record below k
pub record Seen (ms : List PortSet) (cs : List Cell) (k : ℕ) : Type 0 where
  pub each : (j : ℕ) → j < k → So (is_live (nth cs j)) → So (marked ms (nth cs j))

-- the sets ms become ns by the cell c, whose mark is new if r
pub record Marked (ms : List PortSet) (c : Cell) (r : Bool) (ns : List PortSet) : Type 0 where
  pub fresh : So r → So (is_live c) → No (marked ms c)
  pub here : So (is_live c) → So (marked ns c)
  pub kept : (d : Cell) → So (marked ms d) → So (marked ns d)

pub free-marked : (ms : List PortSet) (c : Cell) → So (is_free c) → Marked ms c true ms
unfolding is_live
free-marked ms c e =
    let n : No (is_live c) = rw e in
    record { fresh = λ r l. absurd (refuted l n); here = λ l. absurd (refuted l n); kept = λ d h. h }

pub live-marked : (ms : List PortSet) (c : Cell) (b : Bool) (r : PortSet) → length ms ≡ mark_rows → Added (set_at ms (row_of c)) (port_of c) r.mask
    → b ≡ has (set_at ms (row_of c)) (port_of c) → Marked ms c (not b) (set ms (row_of c) r)
unfolding marked
live-marked ms c b r n a e =
    record {
      fresh = λ h l. sym e ∙ denied b h;
      here = λ l. at (row_of c) (port_of c) refl a.inside;
      kept = λ d h. go d h (eqb (row_of d) (row_of c)) (eqb (port_of d) (port_of c)) refl refl;
    }
  where
    at : (x q : ℕ) → x ≡ row_of c → So (has r.mask q) → So (has (set_at (set ms (row_of c) r) x) q)
    at x q e h = ap (λ (m : PortSet). has m.mask q) (ap (λ (y : ℕ). get_or (set ms (row_of c) r) y (set_of 0)) e ∙ get_or-set_same ms (row_of c) r (set_of 0) (omega (arith, n))) ∙ h

    go : (d : Cell) → So (has (set_at ms (row_of d)) (port_of d)) → (x y : Bool) → eqb (row_of d) (row_of c) ≡ x
        → eqb (port_of d) (port_of c) ≡ y → So (has (set_at (set ms (row_of c) r) (row_of d)) (port_of d))
    go d h false y p q = ap (λ (m : PortSet). has m.mask (port_of d)) (get_or-set_other ms (row_of c) (row_of d) r (set_of 0) (eqb-false _ _ p)) ∙ h
    go d h true true p q = at (row_of d) (port_of d) (eqb-true _ _ p) (ap (has r.mask) (eqb-true _ _ q) ∙ a.inside)
    go d h true false p q =
        at (row_of d) (port_of d) (eqb-true _ _ p)
        (a.others (port_of d) (eqb-false _ _ q) ∙ ap (λ (y : ℕ). has (set_at ms y) (port_of d)) (sym (eqb-true _ _ p)) ∙ h)

pub seen_none : (ms : List PortSet) (cs : List Cell) → Seen ms cs 0
seen_none ms cs = record { each = λ j l. absurd (omega arith) }

-- what is told of record k: whether it is alone; it is marked
pub record Told (cs : List Cell) (k : ℕ) (r : Bool) (ms : List PortSet) : Type 0 where
  pub alone : r ≡ is_alone cs k
  pub seen : Seen ms cs (k + 1)

-- two records with the same slot and input are live and have the same mark
one_mark : (ms : List PortSet) (c d : Cell) → So (same_entry c d) → So (is_live c) × So (is_live d) × (marked ms c ≡ marked ms d)
unfolding same_entry same_slot same_input marked
one_mark ms c d h =
    let x = both _ (eqb c.input.0 d.input.0) h in
    let y = both _ (eqb c.entered.0 d.entered.0) x.0 in
    let z = both (is_live c) (is_live d) y.0 in
    (z.0, z.1, ap₂ (λ (s i : ℕ). has (set_at ms (s % mark_rows)) (i % most_ports)) (eqb-true _ _ y.1) (eqb-true _ _ x.1))

-- record k, read as c, is marked
module _ {ms ns : List PortSet} {r : Bool} {c : Cell} (cs : List Cell) (k : ℕ) (s : Seen ms cs k) (e : c ≡ nth cs k) (m : Marked ms c r ns) where
  pub seen_more : Seen ns cs (k + 1)
  seen_more =
      record {
        each = rw (add-one k) (below_suc (λ (j : ℕ). So (is_live (nth cs j)) → So (marked ns (nth cs j))) k (λ j l h. m.kept (nth cs j) (s.each j l h))
            (λ h. ap (marked ns) (sym e) ∙ m.here (ap is_live e ∙ h)));
      }

  pub new_alone : So r → So (is_alone cs k)
  unfolding is_alone
  new_alone h =
      →every _ k
      (λ j l.
      deny _
      (to_no
      (λ q.
      let t = one_mark ms (nth cs k) (nth cs j) q in
      refuted (s.each j l t.1) (sym t.2 ∙ ap (marked ms) (sym e) ∙ m.fresh h (ap is_live e ∙ t.0)))))

-- a free record is alone, and needs no mark
free-not-live : No (is_live free)
unfolding is_live is_free
free-not-live = refl

module _ (cs : List Cell) (k : ℕ) (e : nth cs k ≡ free) where
  pub free_alone : So (is_alone cs k)
  unfolding is_alone
  free_alone = →every _ k (λ j l. deny _ (to_no (λ q. refuted (one_mark [] (nth cs k) (nth cs j) q).0 (ap is_live e ∙ free-not-live))))

  pub seen_free : {ms : List PortSet} → Seen ms cs k → Seen ms cs (k + 1)
  seen_free {ms} s = record {
    each =
        rw (add-one k)
        (below_suc (λ (j : ℕ). So (is_live (nth cs j)) → So (marked ms (nth cs j))) k s.each (λ h. absurd (refuted h (ap is_live e ∙ free-not-live))));
  }
