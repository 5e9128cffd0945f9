-- Texts put on a page one behind the other, and the laws of decimal numbers that printing needs: the last digit apart, and how many there are.
-- Assumes nothing.
use Rattle.std.specs.Prelude.{ℕ, zero, suc, ◌+◌, ◌*◌, ◌/◌, ◌%◌, ◌^◌, ◌≤◌, ◌<◌, ◌≡◌, refl, Bool, true, false, cond, List, [], ◌∷◌, ◌++◌, leb, ltb, length, take, drop, set}
use Rattle.std.proofs.Common.{sym, ap, ◌∙◌, arith, pow-suc, length-append, length-take-le, take_at, ltb-true, ltb-false, lt-ltb, le-ltb, le-leb}
use Rattle.std.proofs.Math.Bool.{So}
use Rattle.std.proofs.Math.Nat.{one-le-pow}
use Rattle.std.proofs.lemmas.List.Edits.{sets, sets-eq}
use Rattle.std.proofs.Math.Seq.{length-sets}
use Rattle.std.specs.Fmt.{decimal as std_decimal}
use Rattle.std.proofs.lemmas.Fmt.{decimal_by_steps}
use Rattle.laws.specs.Tests.{join}
use Rattle.laws.specs.Folds.{fold, fold_more, each, each_more}
use Rattle.characters.specs.Characters.{first_digit, last_digit, is_digit, digit_byte, push, value}
use Rattle.printing.specs.declared.page.Page.{Page}
use Rattle.printing.specs.Printed.{digits, decimal, number_bytes}

-- the bytes of a page that are text
abbrev pub text_of : Page → List ℕ
text_of p = take p.count p.bytes.now

-- `text` was put on a page behind what stood there, and no byte but its own was written. It takes no more than `most` bytes. The bytes are still
-- those that the caller lent.
pub record Put (most : ℕ) (old : Page) (text : List ℕ) (new : Page) : Type 0 where
  pub count : new.count ≡ old.count + length text
  pub bytes : new.bytes.now ≡ sets old.bytes.now old.count text
  pub within : length text ≤ most
  pub same_bytes : new.bytes.ghost_name ≡ old.bytes.ghost_name

-- so what is put settles the bytes and how many are text
pub put_settled : {most : ℕ} {old : Page} {text : List ℕ} {new other : Page} → Put most old text new → Put most old text other
    → (new.bytes.now ≡ other.bytes.now) × (new.count ≡ other.count)
put_settled x y = (x.bytes ∙ sym y.bytes, x.count ∙ sym y.count)

pub put_none : (most : ℕ) (old : Page) → Put most old [] old
put_none most old = record { count = omega arith; bytes = refl; within = omega arith; same_bytes = refl }

-- a text behind another
sets_join : (l : List ℕ) (i : ℕ) (s t : List ℕ) → sets (sets l i s) (i + length s) t ≡ sets l i (s ++ t)
sets_join l i [] t = ap (λ (k : ℕ). sets l k t) {x = i + 0} {y = i} (omega arith)
sets_join l i (b ∷ s) t =
    ap (λ (k : ℕ). sets (sets l i (b ∷ s)) k t) {x = i + suc (length s)} {y = suc i + length s} (omega arith) ∙ sets_join (set l i b) (suc i) s t

pub put_then : {m n most : ℕ} {old mid new : Page} {s t : List ℕ} → Put m old s mid → Put n mid t new → m + n ≤ most → Put most old (s ++ t) new
put_then {old = old} {s = s} {t = t} x y h = record {
  count = omega (arith, x.count, y.count, length-append s t);
  bytes = y.bytes ∙ rw (x.bytes, x.count) (sets_join old.bytes.now old.count s t);
  within = omega (arith, x.within, y.within, length-append s t);
  same_bytes = y.same_bytes ∙ x.same_bytes;
}

pub put_within : {m most : ℕ} {old : Page} {text : List ℕ} {new : Page} → Put m old text new → m ≤ most → Put most old text new
put_within x h = record { count = x.count; bytes = x.bytes; within = omega (arith, x.within); same_bytes = x.same_bytes }

-- the page stays as long as it was, and its text grows by no more than `most`
pub put_size : {most : ℕ} {old : Page} {text : List ℕ} {new : Page} → Put most old text new
    → (length new.bytes.now ≡ length old.bytes.now) × (new.count ≤ old.count + most)
put_size {old = old} {text = text} x = (ap length x.bytes ∙ length-sets old.bytes.now old.count text, omega (arith, x.within, x.count))

-- so there is room for what comes behind
pub put_room : {most : ℕ} {old : Page} {text : List ℕ} {new : Page} → Put most old text new → (k : ℕ) → old.count + most + k ≤ length old.bytes.now
    → new.count + k ≤ length new.bytes.now
put_room x k h = omega (arith, h, put_size x)

pub put_fits : {m most : ℕ} {old : Page} {text : List ℕ} {new : Page} → Put m old text new → new.count ≤ old.count + most → Put most old text new
put_fits x h = record { count = x.count; bytes = x.bytes; within = omega (arith, h, x.count); same_bytes = x.same_bytes }

-- the text stands behind what stood before it
pub put_text_of : {most : ℕ} {old : Page} {text : List ℕ} {new : Page} → Put most old text new → text_of new ≡ text_of old ++ text
put_text_of {old = old} {text = text} {new = new} x =
    rw (x.bytes, x.count) (ap (take end) (sets-eq text bytes old.count fits) ∙ take_at (take old.count bytes ++ text) (drop end bytes) end front)
  where
    bytes : List ℕ
    bytes = old.bytes.now

    end : ℕ
    end = old.count + length text

    fits : old.count + length text ≤ length bytes
    fits = omega (arith, x.count, new.inside, put_size x)

    front : length (take old.count bytes ++ text) ≡ end
    front = length-append (take old.count bytes) text ∙ ap (λ (n : ℕ). n + length text) (length-take-le old.count bytes (omega (arith, fits)))

-- a decimal number ----------------------------------------------------------------------------

digits_step : (k n : ℕ) → digits (suc k) n ≡ cond (ltb n 10) (digit_byte n ∷ []) (digits k (n / 10) ++ (digit_byte (n % 10) ∷ []))
unfolding digits
digits_step k n = go (ltb n 10)
  where
    go : (t : Bool) → elim t [ true ↦ digit_byte n ∷ [] | false ↦ digits k (n / 10) ++ (digit_byte (n % 10) ∷ []) ]
        ≡ cond t (digit_byte n ∷ []) (digits k (n / 10) ++ (digit_byte (n % 10) ∷ []))
    go true = refl
    go false = refl

-- more room than there are digits changes nothing
digits_same : (k m n : ℕ) → n < k → n < m → digits k n ≡ digits m n
digits_same zero m n h i = absurd (omega arith)
digits_same (suc k) zero n h i = absurd (omega arith)
digits_same (suc k) (suc m) n h i = digits_step k n ∙ go (ltb n 10) refl (digits_same k m (n / 10)) ∙ sym (digits_step m n)
  where
    go : (t : Bool) → ltb n 10 ≡ t → (n / 10 < k → n / 10 < m → digits k (n / 10) ≡ digits m (n / 10))
        → cond t (digit_byte n ∷ []) (digits k (n / 10) ++ (digit_byte (n % 10) ∷ []))
        ≡ cond t (digit_byte n ∷ []) (digits m (n / 10) ++ (digit_byte (n % 10) ∷ []))
    go true e rec = refl
    go false e rec =
        let l : 10 ≤ n = ltb-false n 10 e in
        ap (λ (d : List ℕ). d ++ (digit_byte (n % 10) ∷ [])) (rec (omega arith) (omega arith))

pub decimal_one : (n : ℕ) → n < 10 → decimal n ≡ digit_byte n ∷ []
unfolding decimal
decimal_one n h = digits_step n n ∙ rw (lt-ltb n 10 h)

pub decimal_more : (n : ℕ) → 10 ≤ n → decimal n ≡ decimal (n / 10) ++ (digit_byte (n % 10) ∷ [])
unfolding decimal
decimal_more n h =
    digits_step n n
    ∙ rw (le-ltb n 10 h) (ap (λ (d : List ℕ). d ++ (digit_byte (n % 10) ∷ [])) (digits_same n (suc (n / 10)) (n / 10) (omega arith) (omega arith)))

digit_byte_lem : (n : ℕ) → n < 10 → So (is_digit (digit_byte n))
unfolding is_digit
digit_byte_lem n h = join (leb first_digit (digit_byte n)) _ (le-leb first_digit (digit_byte n) (omega arith)) (le-leb (digit_byte n) last_digit (omega arith))

-- digits, and the number that they read as
abbrev pub ReadsAs : List ℕ → ℕ → Type 0
ReadsAs l v = So (each is_digit l) × (value l ≡ v)

reads_more : (l : List ℕ) (v d n : ℕ) → ReadsAs l v → d < 10 → v * 10 + d ≡ n → ReadsAs (l ++ (digit_byte d ∷ [])) n
unfolding value push
reads_more l v d n x h e = (each_more is_digit l (digit_byte d) x.0 (digit_byte_lem d h), fold_more push 0 l (digit_byte d) ∙ omega (arith, x.1, e))

digits_read : (k n : ℕ) → n < k → ReadsAs (digits k n) n
unfolding value each fold
digits_read zero n h = absurd (omega arith)
digits_read (suc k) n h = rw (digits_step k n) (go (ltb n 10) refl (digits_read k (n / 10)))
  where
    go : (t : Bool) → ltb n 10 ≡ t → (n / 10 < k → ReadsAs (digits k (n / 10)) (n / 10))
        → ReadsAs (cond t (digit_byte n ∷ []) (digits k (n / 10) ++ (digit_byte (n % 10) ∷ []))) n
    go true e rec = reads_more [] 0 n n (refl, refl) (ltb-true n 10 e) (omega arith)
    go false e rec =
        let l : 10 ≤ n = ltb-false n 10 e in
        reads_more (digits k (n / 10)) (n / 10) (n % 10) n (rec (omega arith)) (omega arith) (omega arith)

pub decimal_longer : (n : ℕ) → 10 ≤ n → length (decimal n) ≡ length (decimal (n / 10)) + 1
decimal_longer n h = ap length (decimal_more n h) ∙ length-append (decimal (n / 10)) (digit_byte (n % 10) ∷ [])

-- how many digits: no more, no fewer, and so just as many, as the powers of ten say
decimal-length : (k n : ℕ) → n < 10 ^ suc k → length (decimal n) ≤ suc k
decimal-length zero n h = rw (decimal_one n (omega arith)) (omega arith)
decimal-length (suc k) n h = go (ltb n 10) refl (decimal-length k (n / 10))
  where
    go : (t : Bool) → ltb n 10 ≡ t → (n / 10 < 10 ^ suc k → length (decimal (n / 10)) ≤ suc k) → length (decimal n) ≤ suc (suc k)
    go true e rec = rw (decimal_one n (ltb-true n 10 e)) (omega arith)
    go false e rec =
        let l : 10 ≤ n = ltb-false n 10 e in
        let i : n / 10 < 10 ^ suc k = omega (arith, pow-suc 10 (suc k)) in
        omega (arith, rec i, decimal_longer n l)

decimal_long : (k n : ℕ) → 10 ^ k ≤ n → suc k ≤ length (decimal n)
decimal_long zero n h = go (ltb n 10) refl
  where
    go : (t : Bool) → ltb n 10 ≡ t → suc zero ≤ length (decimal n)
    go true e = rw (decimal_one n (ltb-true n 10 e)) (omega arith)
    go false e = omega (arith, decimal_longer n (ltb-false n 10 e))
decimal_long (suc k) n h =
    let p : 1 ≤ 10 ^ k = one-le-pow k 10 (omega arith) in
    let l : 10 ≤ n = omega (arith, pow-suc 10 k) in
    let i : 10 ^ k ≤ n / 10 = omega (arith, pow-suc 10 k) in
    omega (arith, decimal_long k (n / 10) i, decimal_longer n l)

pub decimal-count : (k n : ℕ) → 10 ^ k ≤ n → n < 10 ^ suc k → length (decimal n) ≡ suc k
decimal-count k n l h = omega (arith, decimal-length k n h, decimal_long k n l)

pub decimal_short : (n : ℕ) → n ≤ 4294967295 → length (decimal n) ≤ number_bytes
decimal_short n h = decimal-length 9 n (omega arith)

-- what is printed is a number's digits, and reads as the number
pub decimal-reads : (n : ℕ) → ReadsAs (decimal n) n
unfolding decimal
decimal-reads n = digits_read (suc n) n (omega arith)

-- std's decimal digits are these
pub decimal_std : (n : ℕ) → n < 2 ^ 64 → std_decimal n ≡ decimal n
decimal_std =
    decimal_by_steps (λ m ds. ds ≡ decimal m) (λ m l. sym (decimal_one m l))
    (λ m ds l h. ap (λ (d : List ℕ). d ++ (digit_byte (m % 10) ∷ [])) h ∙ sym (decimal_more m l))
