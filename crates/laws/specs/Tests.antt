-- Tests that pass (`So b`) and tests that fail (`No b`): how the two are joined, told apart and refuted.
-- Assumes nothing.
use Rattle.std.specs.Prelude.{◌≡◌, refl, ◌⊎◌, Bool, true, false, not, cond, ◌&&◌, ◌||◌, ℕ, eqb}
use Rattle.std.proofs.Common.{sym, ◌∙◌, inl, inr, ⊎_elim, eq-eqb}
use Rattle.std.proofs.Math.Bool.{So}
use Rattle.std.proofs.lemmas.Bool.{false≢true, not-true}

abbrev pub No : Bool → Type 0
No b = b ≡ false

pub passes : (b : Bool) → So b ⊎ No b
passes true = inl refl
passes false = inr refl

pub refuted : {b : Bool} → So b → No b → ⊥
refuted h k = false≢true (sym k ∙ h)

pub to_no : {b : Bool} → (So b → ⊥) → No b
to_no {b} f = ⊎_elim (λ h. absurd (f h)) (λ h. h) (passes b)

-- and, or, not
pub both : (a b : Bool) → So (a && b) → So a × So b
both true b h = (refl, h)
both false b h = absurd (false≢true h)

pub join : (a b : Bool) → So a → So b → So (a && b)
join a b h k = rw h k

pub fails_left : (a b : Bool) → No a → No (a && b)
fails_left a b h = rw h

pub fails_right : (a b : Bool) → No b → No (a && b)
fails_right a b h = to_no (λ x. refuted (both a b x).1 h)

pub either : (a b : Bool) → So (a || b) → So a ⊎ So b
either true b h = inl refl
either false b h = inr h

pub on_left : (a b : Bool) → So a → So (a || b)
on_left a b h = rw h

pub on_right : (a b : Bool) → So b → So (a || b)
on_right true b h = refl
on_right false b h = h

pub neither : (a b : Bool) → No (a || b) → No a × No b
neither a b h = (to_no (λ x. refuted (on_left a b x) h), to_no (λ x. refuted (on_right a b x) h))

pub denied : (b : Bool) → So (not b) → No b
denied b h = not-true b h

pub deny : (b : Bool) → No b → So (not b)
deny b h = rw h

pub to_so : (b : Bool) → No (not b) → So b
to_so true h = refl
to_so false h = absurd (false≢true (sym h))

-- two tests that pass for each other are one
pub same_test : (a b : Bool) → (So a → So b) → (So b → So a) → a ≡ b
same_test true b f g = sym (f refl)
same_test false b f g = sym (to_no (λ h. false≢true (g h)))

pub eqb_self : (n : ℕ) → So (eqb n n)
eqb_self n = eq-eqb n n refl

-- a choice is its first side where the test passes, its second where it fails
pub cond_true : {A : Type 0} (b : Bool) (x y : A) → So b → cond b x y ≡ x
cond_true b x y h = rw h

pub cond_false : {A : Type 0} (b : Bool) (x y : A) → No b → cond b x y ≡ y
cond_false b x y h = rw h
