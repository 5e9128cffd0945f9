-- A number's steps over a field come to what the whole field says: whether it is a number, and which.
-- Once the sum is above the largest number it stays above, so the steps may stop adding.
-- Assumes nothing.
use Rattle.std.specs.Prelude.{ℕ, ◌≤◌, ◌≡◌, refl, Bool, true, false, cond, not, ◌&&◌, List, [], ◌∷◌, leb}
use Rattle.std.proofs.Math.Bool.{So, and-false}
use Rattle.std.proofs.lemmas.Bool.{false≢true, lt-leb}
use Rattle.std.proofs.Common.{arith, leb-true, leb-false, le-leb}
use Rattle.laws.specs.Folds.{fold, each}
use Rattle.text.specs.declared.number.Number.{Number}
use Rattle.text.specs.declared.number.Number.TheVariants.{Empty, Value, NoNumber}
use Rattle.characters.specs.Characters.{is_digit, push, value}
use Rattle.text.specs.Lines.{largest_number, is_empty, is_number}
use Rattle.text.specs.Steps.{grown, number_step, is_value, value_of}

-- a number is what some more digits come to, or none
abbrev pub sized : Bool → ℕ → Number
sized digits v = cond (digits && leb v largest_number) (Value v) NoNumber

pub none_stays : (f : List ℕ) → fold number_step NoNumber f ≡ NoNumber
unfolding fold
none_stays [] = refl
none_stays (b ∷ f) = none_stays f

grown_is : (v b : ℕ) → grown v b ≡ sized (is_digit b) (push v b)
unfolding grown
grown_is v b = refl

push_grows : (v : ℕ) (f : List ℕ) → v ≤ fold push v f
unfolding fold push
push_grows v [] = omega arith
push_grows v (b ∷ f) = omega (arith, push_grows (push v b) f)

pub value_steps : (v : ℕ) (f : List ℕ) → v ≤ largest_number → fold number_step (Value v) f ≡ sized (each is_digit f) (fold push v f)
unfolding fold each
value_steps v [] h = rw (le-leb v largest_number h)
value_steps v (b ∷ f) h = go (value_steps (push v b) f) (is_digit b) refl (leb (push v b) largest_number) refl
  where
    go : (push v b ≤ largest_number → fold number_step (Value (push v b)) f ≡ sized (each is_digit f) (fold push (push v b) f))
        → (d : Bool) → is_digit b ≡ d → (s : Bool) → leb (push v b) largest_number ≡ s
        → fold number_step (grown v b) f ≡ sized (is_digit b && each is_digit f) (fold push (push v b) f)
    go rec true e true i = rw (grown_is, e, i) (rec (leb-true _ _ i))
    go rec true e false i =
        let l = lt-leb (fold push (push v b) f) largest_number (omega (arith, push_grows (push v b) f, leb-false (push v b) largest_number i)) in
        rw (grown_is, e, i, none_stays f, l, and-false (each is_digit f))
    go rec false e s i = rw (grown_is, e, none_stays f)

-- what a whole field's steps come to
pub number_steps : (f : List ℕ) → fold number_step Empty f ≡ cond (is_empty f) Empty (sized (each is_digit f) (value f))
unfolding fold value
number_steps [] = refl
number_steps (b ∷ f) = value_steps 0 (b ∷ f) (omega arith)

pub number_is : (f : List ℕ) → is_value (fold number_step Empty f) ≡ is_number f
unfolding is_number
number_is f = rw (number_steps f) (go (is_empty f) (each is_digit f && leb (value f) largest_number))
  where
    go : (e s : Bool) → is_value (cond e Empty (cond s (Value (value f)) NoNumber)) ≡ (not e && s)
    go true s = refl
    go false true = refl
    go false false = refl

pub number_value : (f : List ℕ) → So (is_number f) → value_of (fold number_step Empty f) ≡ value f
unfolding is_number
number_value f h = rw (number_steps f) (go (is_empty f) (each is_digit f && leb (value f) largest_number) h)
  where
    go : (e s : Bool) → So (not e && s) → value_of (cond e Empty (cond s (Value (value f)) NoNumber)) ≡ value f
    go true s k = absurd (false≢true k)
    go false true k = refl
    go false false k = absurd (false≢true k)
