-- What the byte that `peek` finds, or its absence, says of a place in a piece.
-- Assumes nothing.
use Rattle.std.specs.Prelude.{ℕ, ◌<◌, ◌≡◌, refl, Bool, eqb, List, length, get_or, Option, Some, None, slice_get}
use Rattle.std.specs.Option.{option_eq}
use Rattle.std.proofs.Common.{sym, ap, ◌∙◌, eqb-true}
use Rattle.std.proofs.Math.Bool.{So}
use Rattle.std.proofs.lemmas.Bool.{false≢true}
use Rattle.std.proofs.lemmas.Option.{slice_get_within, slice_get-get_or, get_or_from_slice_get}
use Rattle.laws.specs.Tests.{No, eqb_self, refuted}
use Rattle.text.specs.Parts.{is_byte}

-- a byte stands at a place
pub record Stands (piece : List ℕ) (at byte : ℕ) : Type 0 where
  pub inside : at < length piece
  pub here : get_or piece at 0 ≡ byte

some_eq : (found : Option ℕ) (byte : ℕ) → So (option_eq eqb found (Some byte)) → found ≡ Some byte
some_eq None byte h = absurd (false≢true h)
some_eq (Some b) byte h = ap Some (eqb-true b byte h)

module _ (piece now : List ℕ) (same : now ≡ piece) (at : ℕ) where
  module _ (found : Option ℕ) (is : found ≡ slice_get now at) where
    pub stands : (byte : ℕ) → found ≡ Some byte → Stands piece at byte
    stands byte e =
        let here : slice_get piece at ≡ Some byte = rw (← same) (sym is ∙ e) in
        record { inside = slice_get_within piece at byte here; here = get_or_from_slice_get piece at byte 0 here }

    pub ended : ((byte : ℕ) → found ≡ Some byte → ⊥) → at < length piece → ⊥
    ended none l = none (get_or piece at 0) (is ∙ rw same (slice_get-get_or piece at 0 l))

  -- the same by whether `take` takes a byte
  module _ (byte : ℕ) (taken : Bool) (is : taken ≡ is_byte byte (slice_get now at)) where
    pub passed : So taken → Stands piece at byte
    passed h = stands (slice_get now at) refl byte (some_eq (slice_get now at) byte (sym is ∙ h))

    pub failed : No taken → at < length piece → get_or piece at 0 ≡ byte → ⊥
    failed h l e =
        let there : slice_get now at ≡ Some byte = rw same (slice_get-get_or piece at 0 l) ∙ ap Some e in
        refuted (is ∙ rw there (eqb_self byte)) h
