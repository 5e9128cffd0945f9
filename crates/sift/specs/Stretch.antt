-- A stretch of the table, the records of it whose places have some of the bits that are asked for (the waiting ones, the ready ones or all live
-- ones), and what a pass over these alone may leave out: records whose places have none of the bits, and whole blocks of them.
-- Assumes nothing.
use Rattle.std.specs.Prelude.{ℕ, ◌+◌, ◌-◌, ◌*◌, ◌≤◌, ◌<◌, ◌≡◌, refl, Bool, List, [], ◌∷◌, ◌++◌, eqb, length, get_or, take}
use Rattle.std.proofs.Common.{sym, ◌∙◌, arith, add-one, add-zero}
use Rattle.std.proofs.Math.Path.{ap}
use Rattle.std.proofs.Math.Seq.{take-length}
use Rattle.std.proofs.Math.Bool.{not}
use borrow.Author.Tests.{eqb-true, eq-eqb}
use Rattle.std.proofs.Math.ListN.{get_or-append}
use Rattle.std.proofs.lemmas.List.{get_or_push, length_push}
use Rattle.std.specs.Int.Bits.{bit_and, bit_or}
use Rattle.laws.specs.Bits.{or_none}
use Rattle.laws.specs.Walk.{below_suc}
use Rattle.laws.specs.Tests.{No, to_so}
use Rattle.laws.specs.Sifted.{Sifted, Block, Chosen, past, chosen_settled, chosen_none, chosen_skip, chosen_sifted, sifted_as, to_sifted, to_end}
use Rattle.sift.specs.Lists.{Lists}
use Rattle.rules.specs.declared.Cell.{Cell}
use Rattle.rules.specs.Cells.{nth, width, records, cells_of}
use Rattle.words.specs.Words.{nth-cells_of}

-- at most how many records a stretch has, how many a block, and how many blocks a stretch
abbrev pub stretch_size : ℕ
stretch_size = 256

abbrev pub block : ℕ
block = 8

abbrev pub block_count : ℕ
block_count = 32

-- the bits that the code asks for: of waiting cells, of ready ones, of all live ones
abbrev pub waiting_bit : ℕ
waiting_bit = 1

abbrev pub ready_bit : ℕ
ready_bit = 2

abbrev pub live_bits : ℕ
live_bits = 4294967295

-- the records from k to `end` are a stretch of the table
pub record IsStretch (ws : List ℕ) (k end : ℕ) : Type 0 where
  pub forth : k ≤ end
  pub inside : end ≤ records ws
  pub short : end ≤ k + stretch_size

-- each word is one of 32 bits, so that a place with none of the live bits is 0
pub record Words (ws : List ℕ) : Type 0 where
  pub small : (i : ℕ) → get_or ws i 0 ≤ live_bits

-- the place of record x of the stretch that begins at record k has one of `bits`
unfoldable pub has_bits : List ℕ → ℕ → ℕ → ℕ → Bool
has_bits ws k bits x = not (eqb (bit_and (nth (cells_of ws) (k + x)).place bits) 0)

-- it has none of them
abbrev pub Lacks : List ℕ → ℕ → ℕ → ℕ → Type 0
Lacks ws k bits x = bit_and (nth (cells_of ws) (k + x)).place bits ≡ 0

-- nor has a record of its block b
abbrev pub BlockLacks : List ℕ → ℕ → ℕ → ℕ → Type 0
BlockLacks ws k bits = Block block (Lacks ws k bits)

-- the first m numbers of the list are those of the n records from k on that have one of `bits`, in rising order
pub record Listed (ws : List ℕ) (k n bits : ℕ) (list : List ℕ) (m : ℕ) : Type 0 where
  pub numbers : Chosen (has_bits ws k bits) n list m

-- the records from `from` to `end` are a stretch and listed, where all from k on before them lack the bits; it is the last one if it lists none
pub record NextListed (ws : List ℕ) (k bits from end : ℕ) (list : List ℕ) (m : ℕ) : Type 0 where
  pub stretch : IsStretch ws from end
  pub listed : Listed ws from (end - from) bits list m
  pub forth : k ≤ from
  pub between : (x : ℕ) → k ≤ x → x < from → bit_and (nth (cells_of ws) x).place bits ≡ 0
  pub last : m ≡ 0 → end ≡ records ws

-- which settles how many they are and which; what stands behind them is left open, and whoever reads m of them cannot tell
pub listed_settled : {ws : List ℕ} {k n bits : ℕ} {list other : List ℕ} {m r : ℕ} → Listed ws k n bits list m → Listed ws k n bits other r
    → (m ≡ r) × (take m list ≡ take r other)
listed_settled d e = chosen_settled d.numbers e.numbers

module _ (ws : List ℕ) (k bits : ℕ) where
  lacks_has : (x : ℕ) → No (has_bits ws k bits x) → Lacks ws k bits x
  unfolding has_bits
  lacks_has x h = eqb-true _ 0 (to_so _ h)

  has-not : (x : ℕ) → Lacks ws k bits x → No (has_bits ws k bits x)
  unfolding has_bits
  has-not x e = rw (eq-eqb _ 0 e)

  -- by the word that was read
  word_has : (x : ℕ) → k + x < records ws → has_bits ws k bits x ≡ not (eqb (bit_and (get_or ws ((k + x) * width) 0) bits) 0)
  unfolding has_bits
  word_has x l = ap (λ (c : Cell). not (eqb (bit_and c.place bits) 0)) (nth-cells_of ws (k + x) l)

  pub lacks_word : (x : ℕ) → k + x < records ws → bit_and (get_or ws ((k + x) * width) 0) bits ≡ 0 → Lacks ws k bits x
  lacks_word x l e = ap (λ (c : Cell). bit_and c.place bits) (nth-cells_of ws (k + x) l) ∙ e

-- Where r is 0, the words of the places of the listed records, counted from record k on, have none of `bits`; and one record more.
module _ (ws : List ℕ) (k bits : ℕ) where
  abbrev pub NoneOf : List ℕ → ℕ → Type 0
  NoneOf xs r = r ≡ 0 → (i : ℕ) → i < length xs → bit_and (get_or ws ((k + get_or xs i 0) * width) 0) bits ≡ 0

  pub none_of-none : NoneOf [] 0
  none_of-none e i l = absurd (omega arith)

  pub none_of-more : (xs : List ℕ) {r : ℕ} → NoneOf xs r → (x : ℕ) → NoneOf (xs ++ x ∷ []) (bit_or r (bit_and (get_or ws ((k + x) * width) 0) bits))
  none_of-more xs {r} d x e i l =
      let z = or_none r _ e in
      below_suc (λ (j : ℕ). bit_and (get_or ws ((k + get_or (xs ++ x ∷ []) j 0) * width) 0) bits ≡ 0) (length xs)
      (λ j m. rw (get_or-append xs (x ∷ []) 0 j m) (d z.0 j m))
      (rw (get_or_push xs x 0 (length xs) refl) z.1)
      i (omega (arith, length_push xs x))

-- A pass that lists: where it begins, one record more, and records that it need not look at
pub listed_none : (ws : List ℕ) (k bits : ℕ) (list : List ℕ) → Listed ws k 0 bits list 0
listed_none ws k bits list = record { numbers = chosen_none (has_bits ws k bits) list }

module _ {ws : List ℕ} {k n bits : ℕ} {list : List ℕ} {m : ℕ} (d : Listed ws k n bits list m) where
  pub listed_sifted : Sifted (Lacks ws k bits) list m n
  listed_sifted = sifted_as (λ x l h. lacks_has ws k bits x h) (chosen_sifted (has_bits ws k bits) d.numbers)

  -- the numbers of the next records are listed by the words of their places
  pub listed_on : {gives : ℕ → Bool → Type 0} {to r : ℕ} {new : List ℕ} → Lists gives n to list m new r → k + to ≤ records ws
      → ((x : ℕ) → n ≤ x → x < to → (b : Bool) → gives x b → b ≡ not (eqb (bit_and (get_or ws ((k + x) * width) 0) bits) 0))
      → Listed ws k to bits new r
  listed_on l i h = record {
    numbers = l.chosen (has_bits ws k bits) (λ x a b. word_has ws k bits x (omega arith) ∙ sym (h x a b (l.stays x) (l.given x a b))) d.numbers;
  }

  -- where none is listed all lack the bits
  pub listed_bare : m ≡ 0 → (x : ℕ) → k ≤ x → x < k + n → bit_and (nth (cells_of ws) x).place bits ≡ 0
  listed_bare z x a b =
      let e : k + (x - k) ≡ x = omega arith in
      rw e at ((rw z at listed_sifted).rest (x - k) (omega arith) (omega arith))

  -- the first m numbers by themselves
  pub listed_front : {xs : List ℕ} → (xs ≡ take m list) × (length xs ≡ m) → Listed ws k n bits xs (length xs)
  listed_front {xs} e = record { numbers = record { many = e.1 ∙ d.numbers.many; front = take-length xs ∙ e.0 ∙ d.numbers.front } }

  pub listed_skip : (x : ℕ) → n ≤ x → ((y : ℕ) → n ≤ y → y < x → Lacks ws k bits y) → Listed ws k x bits list m
  listed_skip x l h = record { numbers = chosen_skip (has_bits ws k bits) x d.numbers l (λ y a b. has-not ws k bits y (h y a b)) }

-- A pass over the records listed of a stretch ---------------------------------------------------------

-- before turn j: P holds of the records below the next one listed
pub record Pass (P : ℕ → Type 0) (ws : List ℕ) (k end bits : ℕ) (list : List ℕ) (m j : ℕ) : Type 0 where
  pub stretch : IsStretch ws k end
  pub listed : Listed ws k (end - k) bits list m
  pub turn : j ≤ m
  pub below : P (k + past list j)

-- in turn j: the record listed is one of the stretch, and P holds of those below it
pub record Visit (P : ℕ → Type 0) (ws : List ℕ) (k end : ℕ) (list : List ℕ) (j : ℕ) : Type 0 where
  pub small : get_or list j 0 < stretch_size
  pub here : k + get_or list j 0 < end
  pub inside : k + get_or list j 0 < records ws
  pub below : P (k + get_or list j 0)

pub pass_begins : {P : ℕ → Type 0} {ws : List ℕ} {k end bits : ℕ} {list : List ℕ} {m : ℕ} → IsStretch ws k end → Listed ws k (end - k) bits list m → P k
    → Pass P ws k end bits list m 0
pass_begins {k = k} s d p = record { stretch = s; listed = d; turn = omega arith; below = rw (add-zero k) p }

module _ {P : ℕ → Type 0} {ws : List ℕ} {k end bits : ℕ} {list : List ℕ} {m j : ℕ} (p : Pass P ws k end bits list m j) where
  -- the next turn, after the state has become one of which Q holds
  pub pass_more : {Q : ℕ → Type 0} → j < m → Q (k + get_or list j 0 + 1) → Pass Q ws k end bits list m (j + 1)
  pass_more l q =
      let e : k + past list (j + 1) ≡ k + get_or list j 0 + 1 = rw (add-one j) (omega arith) in
      record { stretch = p.stretch; listed = p.listed; turn = omega arith; below = rw e q }

  -- P is kept by each record that lacks the bits
  module _ (keeps : (x : ℕ) → x < records ws → bit_and (nth (cells_of ws) x).place bits ≡ 0 → P x → P (x + 1)) where
    kept : (x : ℕ) → x < end - k → Lacks ws k bits x → P (k + x) → P (k + (x + 1))
    kept x h i q = let e : k + x + 1 ≡ k + (x + 1) = omega arith in rw e at (keeps (k + x) (omega (arith, p.stretch)) i q)

    pub pass_turn : j < m → Visit P ws k end list j
    pass_turn l =
        let d = listed_sifted p.listed in
        let s = p.stretch in
        let r = d.rising j l in
        record {
          small = omega (arith, r.1);
          here = omega (arith, r.1);
          inside = omega (arith, r.1);
          below = to_sifted d (λ (x : ℕ). P (k + x)) kept j l p.below;
        }

    -- after the last turn it holds of the whole stretch
    pub pass_ends : m ≤ j → P end
    pass_ends l =
        let e : j ≡ m = omega (arith, p.turn) in
        let q : k + (end - k) ≡ end = omega (arith, p.stretch) in
        rw q at (to_end (listed_sifted p.listed) (λ (x : ℕ). P (k + x)) kept (rw e at p.below))
