-- What the code does with the part of a line that a piece of the input has: the steps over its bytes, up to the byte that ends what is read.
-- Definitions that its contracts cite, then the laws by which parts are joined, and numbers, fields and lines read at once.
-- Assumes nothing.
use Rattle.std.specs.Prelude.{ℕ, zero, suc, ◌+◌, ◌≤◌, ◌<◌, ◌≡◌, Bool, true, false, cond, ◌&&◌, ◌||◌, leb, ltb, eqb, nat_lt, drop, Option, Some, None, unwrap_or, position, slice_get}
use Rattle.std.specs.List.{position_or_len}
use Rattle.std.specs.Option.{option_eq}
use Rattle.std.proofs.Math.Path.{refl, sym, ap}
use Rattle.std.proofs.Common.{◌∙◌, ⊎_elim, arith, add-zero, eqb-true, eq-eqb, ne_eqb, ltb-true, ltb-false, length-drop}
use Rattle.std.proofs.lemmas.List.{get_or-drop}
use Rattle.std.proofs.lemmas.Option.{slice_get_within, slice_get-get_or, get_or_from_slice_get}
use Rattle.std.proofs.lemmas.List.Sums.{prefix_len-le-length, fails_before_first, passes_at_first}
use Rattle.std.proofs.Math.Bool.{So, not}
use Rattle.std.proofs.lemmas.Bool.{false≢true}
use mathlib.Core.List.{List, [], ◌∷◌, ◌++◌}
use Rattle.std.proofs.Math.ListN.{length, get_or}
use Rattle.laws.specs.Tests.{No, both, either, on_right, neither, refuted, denied, deny}
use Rattle.laws.specs.Folds.{fold, fold_join, fold_more, each, each_join, each_more, each_as}
use Rattle.laws.specs.Pieces.{part, part_none, part_join, part_more, part-first}
use Rattle.text.specs.declared.number.Number.{Number}
use Rattle.text.specs.declared.number.Number.TheVariants.{Empty, Value, NoNumber}
use Rattle.text.specs.declared.field.Field.{Field}
use Rattle.text.specs.declared.field.Field.TheVariants.{Start, Dash, Output, Tag, NoField}
use Rattle.text.specs.declared.SlotReader.{SlotReader}
use Rattle.characters.specs.Characters.{space, newline, dash, colon, is_digit, push}
use Rattle.text.specs.Lines.{largest_number}
use Rattle.text.specs.Steps.{grown, number_step, is_value, colon_step, output_step, field_step, LineState, line_state, line_state_of, end_field, slot_step}
use Rattle.text.specs.Numbers.{none_stays}
use Rattle.text.specs.Fields.{broken_stays, tag_steps}

-- what ends a field, and a number that may end at `stop` too
unfoldable pub ends : ℕ → ℕ → Bool
ends stop b = eqb b stop || (eqb b space || eqb b newline)

abbrev pub ends_line : ℕ → Bool
ends_line b = eqb b newline

-- what the byte at a place says, where the piece has one there: whether it is this one, and whether what is read ends
abbrev pub is_byte : ℕ → Option ℕ → Bool
is_byte b found = option_eq eqb found (Some b)

abbrev pub is_end : (ℕ → Bool) → Option ℕ → Bool
is_end end None = true
is_end end (Some b) = end b

-- every byte between two places passes a test
pub record Span (p : ℕ → Bool) (piece : List ℕ) (from next : ℕ) : Type 0 where
  pub order : from ≤ next
  pub inside : next ≤ length piece
  pub all : So (each p (part piece from next))

-- the first place from `from` on whose byte ends what is read, or the piece's end
pub record Upto (end : ℕ → Bool) (piece : List ℕ) (from next : ℕ) : Type 0 where
  pub span : Span (λ b. not (end b)) piece from next
  pub here : next < length piece → So (end (get_or piece next 0))

-- a state went by its steps from one place to another, over bytes that pass a test
pub record Stepped {S : Type 0} (step : S → ℕ → S) (p : ℕ → Bool) (piece : List ℕ) (s : S) (from : ℕ) (s' : S) (next : ℕ) : Type 0 where
  pub span : Span p piece from next
  pub steps : s' ≡ fold step s (part piece from next)

-- the same up to the first byte that ends what is read
pub record Taken {S : Type 0} (step : S → ℕ → S) (end : ℕ → Bool) (piece : List ℕ) (s : S) (from : ℕ) (s' : S) (next : ℕ) : Type 0 where
  pub place : Upto end piece from next
  pub steps : s' ≡ fold step s (part piece from next)

-- of a number that may end at `stop` too, of a field, and of a slot line
abbrev pub NumberTaken : ℕ → List ℕ → Number → ℕ → Number → ℕ → Type 0
NumberTaken stop piece n i m j = Taken number_step (ends stop) piece n i m j

abbrev pub FieldTaken : List ℕ → Field → ℕ → Field → ℕ → Type 0
FieldTaken piece f i g j = Taken field_step (ends space) piece f i g j

abbrev pub LineTaken : List ℕ → LineState → ℕ → LineState → ℕ → Type 0
LineTaken piece s i t j = Taken slot_step ends_line piece s i t j

-- and over digits, up to a byte that makes the number none
pub record Grows (piece : List ℕ) (v from v' next : ℕ) : Type 0 where
  pub digits : Stepped number_step is_digit piece (Value v) from (Value v') next
  pub here : next < length piece → grown v' (get_or piece next 0) ≡ NoNumber

-- spans ---------------------------------------------------------------------------------------

module _ (p : ℕ → Bool) (piece : List ℕ) where
  pub span_none : (i : ℕ) → i ≤ length piece → Span p piece i i
  unfolding each
  span_none i h = record { order = omega arith; inside = h; all = rw (part_none piece i) }

  pub span_more : (i j : ℕ) → Span p piece i j → j < length piece → So (p (get_or piece j 0)) → Span p piece i (j + 1)
  span_more i j x l h = record {
    order = omega (arith, x.order);
    inside = omega arith;
    all = rw (part_more piece i j x.order l) (each_more p (part piece i j) (get_or piece j 0) x.all h);
  }

  span_join : (i j k : ℕ) → Span p piece i j → Span p piece j k → Span p piece i k
  span_join i j k x y = record {
    order = omega (arith, x.order, y.order);
    inside = y.inside;
    all = rw (part_join piece i j k x.order y.order) (each_join p (part piece i j) (part piece j k) x.all y.all);
  }

  span_as : (q : ℕ → Bool) → ((b : ℕ) → So (p b) → So (q b)) → (i j : ℕ) → Span p piece i j → Span q piece i j
  span_as q f i j x = record { order = x.order; inside = x.inside; all = each_as p q f (part piece i j) x.all }

-- up to the first byte that ends what is read
abbrev pub first_place : (ℕ → Bool) → List ℕ → ℕ
first_place end l = unwrap_or (position end l) (length l)

first_is : (end : ℕ → Bool) (l : List ℕ) → first_place end l ≡ position_or_len end l
first_is end l = go (nat_lt (position_or_len end l) (length l)) refl
  where
    go : (t : Bool) → nat_lt (position_or_len end l) (length l) ≡ t → unwrap_or (cond t (Some (position_or_len end l)) None) (length l) ≡ position_or_len end l
    go true e = refl
    go false e = omega (arith, ltb-false (position_or_len end l) (length l) e, prefix_len-le-length (λ b. not (end b)) l)

first_span : (end : ℕ → Bool) (piece : List ℕ) (i k : ℕ) → i ≤ length piece → k ≤ position_or_len end (drop i piece)
    → Span (λ b. not (end b)) piece i (i + k)
first_span end piece i zero h l = rw add-zero (span_none (λ b. not (end b)) piece i h)
first_span end piece i (suc k) h l =
    let inside : i + k < length piece = omega (arith, length-drop i piece, prefix_len-le-length (λ b. not (end b)) (drop i piece)) in
    let clear : No (end (get_or piece (i + k) 0)) = ap end (sym (get_or-drop i piece k 0)) ∙ fails_before_first end (drop i piece) k 0 (omega arith) in
    let e : i + k + 1 ≡ i + suc k = omega arith in
    rw (← e) (span_more (λ b. not (end b)) piece i (i + k) (first_span end piece i k h (omega arith)) inside (deny (end (get_or piece (i + k) 0)) clear))

pub upto_first : (end : ℕ → Bool) (piece : List ℕ) (i : ℕ) → i ≤ length piece → Upto end piece i (i + first_place end (drop i piece))
upto_first end piece i h = rw first_is (record {
  span = first_span end piece i (position_or_len end (drop i piece)) h (omega arith);
  here = λ l.
      ap end (sym (get_or-drop i piece (position_or_len end (drop i piece)) 0))
      ∙ passes_at_first end (drop i piece) 0 (omega (arith, length-drop i piece));
})

-- what ends at the place where it begins, and what goes on
upto_here : (end : ℕ → Bool) (piece : List ℕ) (i : ℕ) → i ≤ length piece → So (is_end end (slice_get piece i)) → Upto end piece i i
upto_here end piece i h e = record { span = span_none (λ b. not (end b)) piece i h; here = λ l. rw (slice_get-get_or piece i 0 l) at e }

pub upto_further : (end : ℕ → Bool) (piece : List ℕ) (i k : ℕ) → No (is_end end (slice_get piece i)) → Upto end piece i k → i < k
upto_further end piece i k h u = go (slice_get piece i) refl (ltb i k) refl
  where
    go : (found : Option ℕ) → slice_get piece i ≡ found → (t : Bool) → ltb i k ≡ t → i < k
    go found e true l = ltb-true i k l
    go None e false l = absurd (refuted (ap (is_end end) e) h)
    go (Some b) e false l =
        let same : k ≡ i = omega (arith, ltb-false i k l, u.span.order) in
        let passes : So (end b) = rw (get_or_from_slice_get piece i b 0 e) at (rw same at u.here) (slice_get_within piece i b e) in
        absurd (refuted passes (rw e at h))

-- what is passed and what is taken ---------------------------------------------------------------

module _ {S : Type 0} (step : S → ℕ → S) (p : ℕ → Bool) (piece : List ℕ) where
  pub stepped_none : (s : S) (i : ℕ) → i ≤ length piece → Stepped step p piece s i s i
  unfolding fold
  stepped_none s i h = record { span = span_none p piece i h; steps = rw (part_none piece i) }

  pub stepped_more : (s m t : S) (i j : ℕ) → Stepped step p piece s i m j → j < length piece → So (p (get_or piece j 0)) → t ≡ step m (get_or piece j 0)
      → Stepped step p piece s i t (j + 1)
  stepped_more s m t i j x l h e = record {
    span = span_more p piece i j x.span l h;
    steps =
        e
        ∙ ap (λ (y : S). step y (get_or piece j 0)) x.steps
        ∙ sym (fold_more step s (part piece i j) (get_or piece j 0))
        ∙ sym (ap (λ (y : List ℕ). fold step s y) (part_more piece i j x.span.order l));
  }

  stepped_join : (s m t : S) (i j k : ℕ) → Stepped step p piece s i m j → Stepped step p piece m j t k → Stepped step p piece s i t k
  stepped_join s m t i j k x y = record {
    span = span_join p piece i j k x.span y.span;
    steps =
        y.steps
        ∙ ap (λ (u : S). fold step u (part piece j k)) x.steps
        ∙ sym (fold_join step s (part piece i j) (part piece j k))
        ∙ sym (ap (λ (l : List ℕ). fold step s l) (part_join piece i j k x.span.order y.span.order));
  }

module _ {S : Type 0} (step : S → ℕ → S) (end : ℕ → Bool) (piece : List ℕ) where
  taken_none : (s : S) (i : ℕ) → Upto end piece i i → Taken step end piece s i s i
  unfolding fold
  taken_none s i u = record { place = u; steps = rw (part_none piece i) }

  -- nothing is taken where what is read ends already
  pub taken_here : (s : S) (i : ℕ) → i ≤ length piece → So (is_end end (slice_get piece i)) → Taken step end piece s i s i
  taken_here s i h e = taken_none s i (upto_here end piece i h e)

  pub taken_still : (s : S) (i k : ℕ) → Upto end piece i k → No (ltb i k) → Taken step end piece s i s k
  taken_still s i k u h = let e : k ≡ i = omega (arith, u.span.order, ltb-false i k h) in rw e (taken_none s i (rw e at u))

  -- a part, and then what is taken from its state
  taken_then : (s m t : S) (i j k : ℕ) → Stepped step (λ b. not (end b)) piece s i m j → Taken step end piece m j t k → Taken step end piece s i t k
  taken_then s m t i j k x y =
      let z = stepped_join step (λ b. not (end b)) piece s m t i j k x (record { span = y.place.span; steps = y.steps }) in
      record { place = record { span = z.span; here = y.place.here }; steps = z.steps }

  taken_byte : (s m t : S) (i k : ℕ) → i < length piece → No (end (get_or piece i 0)) → m ≡ step s (get_or piece i 0) → Taken step end piece m (i + 1) t k
      → Taken step end piece s i t k
  taken_byte s m t i k l h e y = taken_then s m t i (i + 1) k one y
    where
      q : ℕ → Bool
      q b = not (end b)

      one : Stepped step q piece s i m (i + 1)
      one = stepped_more step q piece s s m i i (stepped_none step q piece s i (omega arith)) l (deny (end (get_or piece i 0)) h) e

  -- from another state, which the first byte takes to the same
  taken_as : (s s' t : S) (i k : ℕ) → i < k → step s' (get_or piece i 0) ≡ step s (get_or piece i 0) → Taken step end piece s i t k → Taken step end piece s' i t k
  unfolding fold
  taken_as s s' t i k h e x = record {
    place = x.place;
    steps =
        x.steps
        ∙ ap (λ (l : List ℕ). fold step s l) first
        ∙ ap (λ (m : S). fold step m (part piece (i + 1) k)) (sym e)
        ∙ sym (ap (λ (l : List ℕ). fold step s' l) first);
  }
    where
      first : part piece i k ≡ get_or piece i 0 ∷ part piece (i + 1) k
      first = part-first piece i k h (omega (arith, x.place.span.inside))

-- so what is taken is settled ----------------------------------------------------------------------

each_back : (p : ℕ → Bool) (l m : List ℕ) → So (each p (l ++ m)) → So (each p m)
unfolding each
each_back p [] m h = h
each_back p (b ∷ l) m h = each_back p l m (both (p b) _ h).1

span_at : (p : ℕ → Bool) (piece : List ℕ) (i j k : ℕ) → Span p piece i j → i ≤ k → k < j → So (p (get_or piece k 0))
unfolding each
span_at p piece i j k x l h = (both (p (get_or piece k 0)) _ (rw (part-first piece k j h (omega (arith, x.inside))) at behind)).0
  where
    behind : So (each p (part piece k j))
    behind = each_back p (part piece i k) (part piece k j) (rw (part_join piece i k j l (omega arith)) at x.all)

not-before : (end : ℕ → Bool) (piece : List ℕ) (i j k : ℕ) → Upto end piece i j → Upto end piece i k → j < k → ⊥
not-before end piece i j k x y h =
    let e : So (end (get_or piece j 0)) = x.here (omega (arith, y.span.inside)) in
    refuted e (denied (end (get_or piece j 0)) (span_at (λ b. not (end b)) piece i k j y.span x.span.order h))

upto_settled : (end : ℕ → Bool) (piece : List ℕ) (i j k : ℕ) → Upto end piece i j → Upto end piece i k → j ≡ k
upto_settled end piece i j k x y = go (ltb j k) refl (ltb k j) refl
  where
    go : (b : Bool) → ltb j k ≡ b → (c : Bool) → ltb k j ≡ c → j ≡ k
    go true e c f = absurd (not-before end piece i j k x y (ltb-true j k e))
    go false e true f = absurd (not-before end piece i k j y x (ltb-true k j f))
    go false e false f = omega (arith, ltb-false j k e, ltb-false k j f)

pub taken_settled : {S : Type 0} (step : S → ℕ → S) (end : ℕ → Bool) (piece : List ℕ) (s t u : S) (i j k : ℕ)
    → Taken step end piece s i t j → Taken step end piece s i u k → (t ≡ u) × (j ≡ k)
taken_settled step end piece s t u i j k x y =
    let e = upto_settled end piece i j k x.place y.place in
    (x.steps ∙ ap (λ (n : ℕ). fold step s (part piece i n)) e ∙ sym y.steps, e)

-- a number --------------------------------------------------------------------------------------

-- a byte that a number takes is a digit
pub grown-digit : (v b w : ℕ) → grown v b ≡ Value w → So (is_digit b)
unfolding grown
grown-digit v b w e = go (is_digit b) (leb (push v b) largest_number) e
  where
    go : (d s : Bool) → cond (d && s) (Value (push v b)) NoNumber ≡ Value w → So d
    go true s h = refl
    go false s h = let z : ◌≡◌ {A = ℕ} 0 1 = cc in absurd (omega arith)

-- and what it does not take makes it none
pub grown-none : (v b : ℕ) → is_value (grown v b) ≡ false → grown v b ≡ NoNumber
unfolding grown
grown-none v b e = go (is_digit b && leb (push v b) largest_number) e
  where
    go : (t : Bool) → is_value (cond t (Value (push v b)) NoNumber) ≡ false → cond t (Value (push v b)) NoNumber ≡ NoNumber
    go true h = absurd (false≢true (sym h))
    go false h = refl

no_digits : (is_digit space ≡ false) × (is_digit newline ≡ false)
unfolding is_digit
no_digits = (refl, refl)

-- a digit ends nothing
stop_digit : (stop b : ℕ) → No (is_digit stop) → So (is_digit b) → So (not (ends stop b))
unfolding ends
stop_digit stop b h d = deny (eqb b stop || (eqb b space || eqb b newline)) (go (eqb b stop) refl (eqb b space) refl (eqb b newline) refl)
  where
    no : (c : ℕ) → No (is_digit c) → eqb b c ≡ true → ⊥
    no c k e = refuted d (ap is_digit (eqb-true b c e) ∙ k)

    go : (x : Bool) → eqb b stop ≡ x → (y : Bool) → eqb b space ≡ y → (z : Bool) → eqb b newline ≡ z → No (x || (y || z))
    go true e y f z g = absurd (no stop h e)
    go false e true f z g = absurd (no space no_digits.0 f)
    go false e false f true g = absurd (no newline no_digits.1 g)
    go false e false f false g = refl

module _ (piece : List ℕ) (stop : ℕ) (no : No (is_digit stop)) where
  grows_clear : {v i v' j : ℕ} → Grows piece v i v' j → Stepped number_step (λ b. not (ends stop b)) piece (Value v) i (Value v') j
  grows_clear {i = i} {j = j} x = record {
    span = span_as is_digit piece (λ b. not (ends stop b)) (λ b d. stop_digit stop b no d) i j x.digits.span;
    steps = x.digits.steps;
  }

  -- digits up to the number's end, or up to a byte that makes it none, however many follow
  pub value_whole : (v i v' j : ℕ) → Grows piece v i v' j → Upto (ends stop) piece j j → NumberTaken stop piece (Value v) i (Value v') j
  value_whole v i v' j x u = let y = grows_clear x in record { place = record { span = y.span; here = u.here }; steps = y.steps }

  pub value_none : (v i v' j k : ℕ) → Grows piece v i v' j → Upto (ends stop) piece j k → j < k → NumberTaken stop piece (Value v) i NoNumber k
  unfolding fold
  value_none v i v' j k x u h =
      taken_then number_step (ends stop) piece (Value v) (Value v') NoNumber i j k (grows_clear x) (record { place = u; steps = sym broken })
    where
      l : j < length piece
      l = omega (arith, u.span.inside)

      broken : fold number_step (Value v') (part piece j k) ≡ NoNumber
      broken =
          ap (λ (m : List ℕ). fold number_step (Value v') m) (part-first piece j k h l)
          ∙ ap (λ (n : Number). fold number_step n (part piece (j + 1) k)) (x.here l)
          ∙ none_stays (part piece (j + 1) k)

  -- no digit yet, and none any more
  pub empty_taken : (n : Number) (i k : ℕ) → i < k → NumberTaken stop piece (Value 0) i n k → NumberTaken stop piece Empty i n k
  empty_taken n i k h x = taken_as number_step (ends stop) piece (Value 0) Empty n i k h refl x

  pub none_taken : (i k : ℕ) → Upto (ends stop) piece i k → NumberTaken stop piece NoNumber i NoNumber k
  none_taken i k u = record { place = u; steps = sym (none_stays (part piece i k)) }

-- a field ---------------------------------------------------------------------------------------

-- an output's number in a field
output_steps : (n : Number) (f : List ℕ) → So (each (λ b. not (ends colon b)) f) → fold field_step (Output n) f ≡ Output (fold number_step n f)
unfolding fold each field_step output_step ends
output_steps n [] h = refl
output_steps n (b ∷ f) h =
    let x = both (not (ends colon b)) _ h in
    rw (neither (eqb b colon) _ (denied (ends colon b) x.0)).0 (output_steps (number_step n b) f x.1)

-- what ends no number ends no field
clear_colon : (b : ℕ) → So (not (ends colon b)) → So (not (ends space b))
unfolding ends
clear_colon b h = let x = neither (eqb b space) (eqb b newline) (neither (eqb b colon) _ (denied (ends colon b) h)).1 in deny (ends space b) (rw (x.0, x.1))

-- what ends a number and is no colon ends the field
ends-field : (b : ℕ) → (b ≡ colon → ⊥) → So (ends colon b) → So (ends space b)
unfolding ends
ends-field b h k = ⊎_elim (λ e. absurd (h (eqb-true b colon e))) (λ s. on_right (eqb b space) _ s) (either (eqb b colon) _ k)

module _ (piece : List ℕ) where
  output_stepped : (n n' : Number) (i k : ℕ) → NumberTaken colon piece n i n' k → Stepped field_step (λ b. not (ends space b)) piece (Output n) i (Output n') k
  output_stepped n n' i k x = record {
    span = span_as (λ b. not (ends colon b)) piece (λ b. not (ends space b)) clear_colon i k x.place.span;
    steps = ap Output x.steps ∙ sym (output_steps n (part piece i k) x.place.span.all);
  }

  -- an output without a colon, and one up to its colon with what the field is from there
  pub output_taken : (n n' : Number) (i k : ℕ) → (k < length piece → get_or piece k 0 ≡ colon → ⊥) → NumberTaken colon piece n i n' k
      → FieldTaken piece (Output n) i (Output n') k
  output_taken n n' i k h x =
      let y = output_stepped n n' i k x in
      record { place = record { span = y.span; here = λ l. ends-field (get_or piece k 0) (h l) (x.place.here l) }; steps = y.steps }

  pub output_then : (n n' : Number) (f : Field) (i j k : ℕ) → NumberTaken colon piece n i n' j → FieldTaken piece (Output n') j f k
      → FieldTaken piece (Output n) i f k
  output_then n n' f i j k x y = taken_then field_step (ends space) piece (Output n) (Output n') f i j k (output_stepped n n' i j x) y

  pub colon-taken : (n : Number) (m f : Field) (i k : ℕ) → i < length piece → get_or piece i 0 ≡ colon → m ≡ colon_step n → FieldTaken piece m (i + 1) f k
      → FieldTaken piece (Output n) i f k
  unfolding field_step output_step ends
  colon-taken n m f i k l e q x = taken_byte field_step (ends space) piece (Output n) m f i k l (rw e) (rw e q) x

  pub tag_taken : (w : ℕ) (n n' : Number) (i k : ℕ) → NumberTaken space piece n i n' k → FieldTaken piece (Tag w n) i (Tag w n') k
  tag_taken w n n' i k x = record { place = x.place; steps = ap (Tag w) x.steps ∙ sym (tag_steps w n (part piece i k)) }

  pub broken_taken : (i k : ℕ) → Upto (ends space) piece i k → FieldTaken piece NoField i NoField k
  broken_taken i k u = record { place = u; steps = sym (broken_stays (part piece i k)) }

  -- a byte behind a dash
  pub dash_taken : (f : Field) (i k : ℕ) → i < k → FieldTaken piece NoField i f k → FieldTaken piece Dash i f k
  unfolding field_step
  dash_taken f i k h x = taken_as field_step (ends space) piece NoField Dash f i k h refl x

  -- a field begins
  pub start_dash : (f : Field) (i k : ℕ) → i < length piece → get_or piece i 0 ≡ dash → FieldTaken piece Dash (i + 1) f k → FieldTaken piece Start i f k
  unfolding field_step ends
  start_dash f i k l e x = taken_byte field_step (ends space) piece Start Dash f i k l (rw e) (rw e) x

  pub start_output : (f : Field) (i k : ℕ) → i < k → (get_or piece i 0 ≡ dash → ⊥) → FieldTaken piece (Output Empty) i f k → FieldTaken piece Start i f k
  unfolding field_step
  start_output f i k h e x = taken_as field_step (ends space) piece (Output Empty) Start f i k h (rw (ne_eqb (get_or piece i 0) dash e)) x

-- a slot line -----------------------------------------------------------------------------------

-- a field's part in a line
field_steps : (at : ℕ) (f : Field) (ws l : List ℕ) → So (each (λ b. not (ends space b)) l)
    → fold slot_step (line_state at f ws) l ≡ line_state at (fold field_step f l) ws
unfolding fold each slot_step ends
field_steps at f ws [] h = refl
field_steps at f ws (b ∷ l) h =
    let x = both (not (ends space b)) _ h in
    rw (neither (eqb b space) _ (denied (ends space b) x.0)).0 (field_steps at (field_step f b) ws l x.1)

-- what ends no field ends no line
clear_space : (b : ℕ) → So (not (ends space b)) → So (not (ends_line b))
unfolding ends
clear_space b h = deny (eqb b newline) (neither (eqb b space) _ (neither (eqb b space) _ (denied (ends space b) h)).1).1

-- what ends a field and is no newline is a space
ends-space : (b : ℕ) → (b ≡ newline → ⊥) → So (ends space b) → b ≡ space
unfolding ends
ends-space b h k =
    ⊎_elim (λ e. eqb-true b space e)
    (λ s. ⊎_elim (λ e. eqb-true b space e) (λ e. absurd (h (eqb-true b newline e))) (either (eqb b space) _ s))
    (either (eqb b space) _ k)

-- and what ends a field and is no space is a newline
pub ends-newline : (b : ℕ) → (b ≡ space → ⊥) → So (ends space b) → b ≡ newline
unfolding ends
ends-newline b h k =
    ⊎_elim (λ e. absurd (h (eqb-true b space e)))
    (λ s. ⊎_elim (λ e. absurd (h (eqb-true b space e))) (λ e. eqb-true b newline e) (either (eqb b space) _ s))
    (either (eqb b space) _ k)

-- how far a line was read
abbrev pub Reached : List ℕ → LineState → ℕ → LineState → ℕ → Type 0
Reached piece s i s' j = Stepped slot_step (λ b. not (ends_line b)) piece s i s' j

module _ (piece : List ℕ) (s : LineState) (i : ℕ) where
  -- by what a piece has of a field, and by the space that ends it
  pub line_field : (r r' : SlotReader) (ws : List ℕ) (j k : ℕ) → Reached piece s i (line_state_of r ws) j → r'.at ≡ r.at
      → FieldTaken piece r.field j r'.field k → Reached piece s i (line_state_of r' ws) k
  line_field r r' ws j k x e y = stepped_join slot_step (λ b. not (ends_line b)) piece s (line_state_of r ws) (line_state_of r' ws) i j k x (record {
    span = span_as (λ b. not (ends space b)) piece (λ b. not (ends_line b)) clear_space j k y.place.span;
    steps =
        ap (λ (n : ℕ). line_state n r'.field ws) e
        ∙ ap (λ (g : Field). line_state r.at g ws) y.steps
        ∙ sym (field_steps r.at r.field ws (part piece j k) y.place.span.all);
  })

  pub line_space : (m m' : LineState) (j : ℕ) → Reached piece s i m j → j < length piece → So (ends space (get_or piece j 0)) → (get_or piece j 0 ≡ newline → ⊥)
      → m' ≡ end_field m → Reached piece s i m' (j + 1)
  unfolding slot_step
  line_space m m' j x l h n e =
      stepped_more slot_step (λ b. not (ends_line b)) piece s m m' i j x l
      (deny (eqb (get_or piece j 0) newline) (ne_eqb (get_or piece j 0) newline n))
      (e ∙ sym (rw (ends-space (get_or piece j 0) n h)))

  pub line_taken : (s' : LineState) (j : ℕ) → Reached piece s i s' j → (j < length piece → get_or piece j 0 ≡ newline) → LineTaken piece s i s' j
  line_taken s' j x h = record { place = record { span = x.span; here = λ l. eq-eqb (get_or piece j 0) newline (h l) }; steps = x.steps }
