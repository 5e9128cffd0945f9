-- A field's steps come to what the whole field says: `-`, or the parts at its colon as two numbers.
-- By induction on the bytes: a byte that is no colon joins the first part, and a colon in a tag is no digit.
-- Assumes nothing.
use Rattle.std.specs.Prelude.{ℕ, ◌+◌, ◌≡◌, refl, Bool, true, false, cond, ◌&&◌, leb, eqb, Option, None}
use Rattle.std.proofs.Common.{sym, ap, ◌∙◌, eqb-true}
use Rattle.std.proofs.Math.Bool.{So}
use mathlib.Core.List.{List, [], ◌∷◌, cons≢nil}
use Rattle.laws.specs.Tests.{No, both}
use Rattle.laws.specs.Folds.{fold, each}
use Rattle.text.specs.declared.number.Number.{Number}
use Rattle.text.specs.declared.number.Number.TheVariants.{Empty, Value, NoNumber}
use Rattle.text.specs.declared.field.Field.TheVariants.{Start, Dash, Output, Tag, NoField}
use Rattle.text.specs.declared.field.Arrival.{Arrival}
use Rattle.characters.specs.Characters.{dash, colon, is_digit, value}
use Rattle.text.specs.Lines.{prepended, cut, is_number, largest_output, is_output, arrival, output_tag, field_arrival}
use Rattle.text.specs.Steps.{grown, number_step, value_of, may_lead, colon_step, output_step, field_step, tag_end, field_end}
use Rattle.text.specs.Numbers.{none_stays, number_is, number_value}

-- there is a part, however short the text
pub cut_some : (s : ℕ) (f : List ℕ) → cut s f ≡ [] → ⊥
unfolding cut
cut_some s [] h = cons≢nil h
cut_some s (b ∷ f) h = go (eqb b s) (cut s f) h
  where
    go : (t : Bool) (ps : List (List ℕ)) → cond t ([] ∷ ps) (prepended b ps) ≡ [] → ⊥
    go true ps k = cons≢nil k
    go false [] k = cons≢nil k
    go false (p ∷ ps) k = cons≢nil k

-- a field that cannot be read stays so, and a tag's steps are its number's
pub broken_stays : (f : List ℕ) → fold field_step NoField f ≡ NoField
unfolding fold field_step
broken_stays [] = refl
broken_stays (b ∷ f) = broken_stays f

pub tag_steps : (w : ℕ) (n : Number) (f : List ℕ) → fold field_step (Tag w n) f ≡ Tag w (fold number_step n f)
unfolding fold field_step
tag_steps w n [] = refl
tag_steps w n (b ∷ f) = tag_steps w (number_step n b) f

-- what the parts say from a number on: one part for a tag, two for an output and a tag
abbrev tag_from : ℕ → Number → List (List ℕ) → Option Arrival
tag_from w n [] = None
tag_from w n (t ∷ []) = tag_end w (fold number_step n t)
tag_from w n (t ∷ (x ∷ xs)) = None

abbrev pair_from : Number → List (List ℕ) → Option Arrival
pair_from n [] = None
pair_from n (o ∷ ps) = cond (may_lead (fold number_step n o)) (tag_from (value_of (fold number_step n o) + 1) Empty ps) None

colon_no_digit : (n : Number) → number_step n colon ≡ NoNumber
unfolding grown is_digit
colon_no_digit Empty = refl
colon_no_digit (Value v) = refl
colon_no_digit NoNumber = refl

tag_law : (w : ℕ) (n : Number) (f : List ℕ) → tag_end w (fold number_step n f) ≡ tag_from w n (cut colon f)
unfolding fold cut tag_end
tag_law w n [] = refl
tag_law w n (b ∷ f) = go (eqb b colon) refl (cut colon f) (cut_some colon f) (tag_law w (number_step n b) f)
  where
    go : (t : Bool) → eqb b colon ≡ t → (ps : List (List ℕ)) → (ps ≡ [] → ⊥) → tag_end w (fold number_step (number_step n b) f) ≡ tag_from w (number_step n b) ps
        → tag_end w (fold number_step (number_step n b) f) ≡ tag_from w n (cond t ([] ∷ ps) (prepended b ps))
    go t e [] i rec = absurd (i refl)
    go true e (p ∷ ps) i rec = rw (eqb-true b colon e, colon_no_digit n, none_stays f)
    go false e (p ∷ []) i rec = rec
    go false e (p ∷ (x ∷ xs)) i rec = rec

no_either : (t : Bool) → ◌≡◌ {A = Option Arrival} None (cond t None None)
no_either true = refl
no_either false = refl

output_law : (n : Number) (f : List ℕ) → field_end (fold field_step (Output n) f) ≡ pair_from n (cut colon f)
unfolding fold cut field_step output_step colon_step
output_law n [] = no_either (may_lead n)
output_law n (b ∷ f) =
    go (eqb b colon) (cut colon f) (cut_some colon f) (output_law (number_step n b) f) (λ w. ap field_end (tag_steps w Empty f) ∙ tag_law w Empty f)
  where
    go : (t : Bool) (ps : List (List ℕ)) → (ps ≡ [] → ⊥) → field_end (fold field_step (Output (number_step n b)) f) ≡ pair_from (number_step n b) ps
        → ((w : ℕ) → field_end (fold field_step (Tag w Empty) f) ≡ tag_from w Empty ps)
        → field_end (fold field_step (cond t (colon_step n) (Output (number_step n b))) f) ≡ pair_from n (cond t ([] ∷ ps) (prepended b ps))
    go true ps i rec tag = led (may_lead n)
      where
        led : (m : Bool) → field_end (fold field_step (cond m (Tag (value_of n + 1) Empty) NoField) f) ≡ cond m (tag_from (value_of n + 1) Empty ps) None
        led true = tag (value_of n + 1)
        led false = ap field_end (broken_stays f)
    go false [] i rec tag = absurd (i refl)
    go false (p ∷ ps) i rec tag = rec

-- the steps' end of a part and the part read as a whole agree
leads_is : (o : List ℕ) → may_lead (fold number_step Empty o) ≡ is_output o
unfolding may_lead is_output
leads_is o = rw (number_is o) (go (is_number o) refl)
  where
    go : (t : Bool) → is_number o ≡ t → (t && leb (value_of (fold number_step Empty o)) largest_output) ≡ (t && leb (value o) largest_output)
    go true e = rw (number_value o e)
    go false e = refl

output_value : (o : List ℕ) → So (is_output o) → value_of (fold number_step Empty o) ≡ value o
unfolding is_output
output_value o h = number_value o (both (is_number o) _ h).0

tag_end_is : (w : ℕ) (t : List ℕ) → tag_end w (fold number_step Empty t) ≡ cond (is_number t) (arrival w (value t)) None
unfolding tag_end
tag_end_is w t = rw (number_is t) (go (is_number t) refl)
  where
    go : (m : Bool) → is_number t ≡ m → cond m (arrival w (value_of (fold number_step Empty t))) None ≡ cond m (arrival w (value t)) None
    go true e = rw (number_value t e)
    go false e = refl

pair_is : (ps : List (List ℕ)) → pair_from Empty ps ≡ output_tag ps
pair_is [] = refl
pair_is (o ∷ []) = sym (no_either (may_lead (fold number_step Empty o)))
pair_is (o ∷ (t ∷ [])) = rw (leads_is o) (go (is_output o) refl)
  where
    go : (m : Bool) → is_output o ≡ m
        → cond m (tag_end (value_of (fold number_step Empty o) + 1) (fold number_step Empty t)) None
        ≡ cond (m && is_number t) (arrival (value o + 1) (value t)) None
    go true e = rw (output_value o e) (tag_end_is (value o + 1) t)
    go false e = refl
pair_is (o ∷ (t ∷ (x ∷ xs))) = sym (no_either (may_lead (fold number_step Empty o)))

-- what begins with a byte that is no digit is no pair
no_pair : (b : ℕ) (ps : List (List ℕ)) → No (is_digit b) → None ≡ output_tag (prepended b ps)
unfolding is_output is_number each
no_pair b [] h = refl
no_pair b (o ∷ []) h = refl
no_pair b (o ∷ (t ∷ [])) h = rw h
no_pair b (o ∷ (t ∷ (x ∷ xs))) h = refl

cut_other : (b : ℕ) (f : List ℕ) → b ≡ dash → cut colon (b ∷ f) ≡ prepended b (cut colon f)
unfolding cut
cut_other b f e = rw e

dash_no_digit : (b : ℕ) → eqb b dash ≡ true → is_digit b ≡ false
unfolding is_digit
dash_no_digit b e = rw (eqb-true b dash e)

pub field_law : (f : List ℕ) → field_end (fold field_step Start f) ≡ field_arrival f
unfolding fold field_step cut field_arrival
field_law [] = refl
field_law (b ∷ []) = go (eqb b dash) refl
  where
    go : (t : Bool) → eqb b dash ≡ t → field_end (cond t Dash (output_step Empty b)) ≡ cond t (arrival 0 0) (output_tag (cut colon (b ∷ [])))
    go true e = refl
    go false e = output_law Empty (b ∷ []) ∙ pair_is (cut colon (b ∷ []))
field_law (b ∷ (c ∷ f)) = go (eqb b dash) refl
  where
    go : (t : Bool) → eqb b dash ≡ t → field_end (fold field_step (cond t Dash (output_step Empty b)) (c ∷ f)) ≡ output_tag (cut colon (b ∷ (c ∷ f)))
    go true e = ap field_end (broken_stays f) ∙ no_pair b (cut colon (c ∷ f)) (dash_no_digit b e) ∙ ap output_tag (sym (cut_other b (c ∷ f) (eqb-true b dash e)))
    go false e = output_law Empty (b ∷ (c ∷ f)) ∙ pair_is (cut colon (b ∷ (c ∷ f)))
