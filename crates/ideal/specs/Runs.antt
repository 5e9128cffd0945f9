-- Runs of calls: what an accepted or a refused call leaves, and the one principle for runs. What an accepted fresh start makes and every
-- accepted slot keeps holds throughout; a refused call changes nothing.
-- Assumes nothing.
use Rattle.std.specs.Prelude.{◌≡◌, refl, not, ℕ, zero, suc, ◌<◌, length, replicate, take, get_or}
use Rattle.std.proofs.Math.Path.{sym, subst, ap}
use Rattle.std.proofs.Common.{◌∙◌, arith}
use Rattle.std.proofs.Math.Logic.{⊎_elim}
use Rattle.std.proofs.Math.Bool.{So}
use Rattle.std.proofs.lemmas.Bool.{false≢true}
use mathlib.Core.List.{List, [], ◌∷◌}
use Rattle.laws.specs.Tests.{No, passes, refuted, both, join, denied, cond_false}
use Rattle.rules.specs.declared.Switch.{Switch}
use Rattle.rules.specs.Answers.{Answer, Lists, is_done, fresh_answer, slot_answer}
use Rattle.rules.specs.Calls.{State, Call, starts, slots, restarted, Started, Outcome, slot_runs, Answered, by_start, by_slot, does, run}
use Rattle.rules.specs.Demands.{is_accepted, restarts, unbroken, call_at, state_at, Met, Ran, left}
use Rattle.ideal.specs.Calls.{Accepted, accepted→, slot_accepted, slot_refused_lem, fresh_accepted, fresh_refused}

-- A call -----------------------------------------------------------------------------------------

module _ (x : State) (l : Lists) where
  abbrev answer_of : Answer
  answer_of = slot_answer x.numbers x.table l

  -- a slot is accepted as its checks say
  slot_says : is_accepted x (slots l) ≡ is_done answer_of
  unfolding is_accepted does is_done slot_runs
  slot_says =
      ⊎_elim (λ h. ap (λ (s : Outcome). is_done s.answer) (slot_accepted x.numbers x.table l h) ∙ sym h)
      (λ h. ap (λ (s : Outcome). is_done s.answer) (slot_refused_lem x.numbers x.table l h))
      (passes (is_done answer_of))

  pub slot_accepts : So (is_accepted x (slots l)) → Accepted x.numbers x.table l
  slot_accepts h = accepted→ x.numbers x.table l (sym slot_says ∙ h)

  pub slot-does : So (is_accepted x (slots l)) → does x (slots l) ≡ by_slot (slot_runs x.numbers x.table l.arrivals)
  unfolding does
  slot-does h = ap by_slot (slot_accepted x.numbers x.table l (sym slot_says ∙ h))

  pub slot-lists : No (is_accepted x (slots l)) → ((does x (slots l)).matches ≡ l.matches) × ((does x (slots l)).exhaled ≡ l.exhaled)
  unfolding does
  slot-lists h =
      let e = ap by_slot (slot_refused_lem x.numbers x.table l (sym slot_says ∙ h)) in
      (ap (λ (a : Answered). a.matches) e, ap (λ (a : Answered). a.exhaled) e)

  slot_leaves : No (is_accepted x (slots l)) → (does x (slots l)).after ≡ x
  unfolding does
  slot_leaves h = ap (λ (s : Outcome). (by_slot s).after) (slot_refused_lem x.numbers x.table l (sym slot_says ∙ h))

module _ (x : State) (w : Switch) where
  start_says : is_accepted x (starts w) ≡ is_done (fresh_answer w x.table)
  unfolding is_accepted does is_done
  start_says =
      ⊎_elim (λ h. ap (λ (s : Started). is_done s.answer) (fresh_accepted w x.table h) ∙ sym h)
      (λ h. ap (λ (s : Started). is_done s.answer) (fresh_refused w x.table h))
      (passes (is_done (fresh_answer w x.table)))

  pub start_accepts : So (is_accepted x (starts w)) → So (is_done (fresh_answer w x.table))
  start_accepts h = sym start_says ∙ h

  pub start_does : So (is_accepted x (starts w)) → (does x (starts w)).after ≡ record { numbers = restarted w; table = replicate (length x.table) 0 }
  unfolding does is_done
  start_does h = ap (λ (s : Started). (by_start x.numbers s).after) (fresh_accepted w x.table (start_accepts h))

  start_leaves : No (is_accepted x (starts w)) → (does x (starts w)).after ≡ x
  unfolding does
  start_leaves h =
      let k : No (is_done (fresh_answer w x.table)) = sym start_says ∙ h in
      ap (λ (s : Started). (by_start x.numbers s).after) (fresh_refused w x.table k)
      ∙ λ i. record { numbers = cond_false _ w x.numbers k i; table = x.table }

-- a refused call changes nothing
pub refused_leaves : (x : State) (c : Call) → No (is_accepted x c) → (does x c).after ≡ x
refused_leaves x (starts w) = start_leaves x w
refused_leaves x (slots l) = slot_leaves x l

-- Runs -------------------------------------------------------------------------------------------

-- every accepted slot keeps P; an accepted fresh start makes it
abbrev pub KeptBySlots : (State → Type 0) → Type 0
KeptBySlots P = (x : State) (l : Lists) → So (is_accepted x (slots l)) → P x → P (does x (slots l)).after

abbrev pub MadeByStarts : (State → Type 0) → Type 0
MadeByStarts P = (x : State) (w : Switch) → So (is_accepted x (starts w)) → P (does x (starts w)).after

unbroken-take : (x : State) (calls : List Call) (j : ℕ) → So (unbroken x calls) → So (unbroken x (take j calls))
unfolding unbroken
unbroken-take x calls zero u = refl
unbroken-take x [] (suc j) u = refl
unbroken-take x (c ∷ cs) (suc j) u = let b = both (not (restarts x c)) _ u in join _ _ b.0 (unbroken-take (does x c).after cs j b.1)

module _ (P : State → Type 0) (kept : KeptBySlots P) where
  -- one call, of which an accepted fresh start is told apart
  call_keeps : (x : State) (c : Call) → (So (restarts x c) → P (does x c).after) → P x → P (does x c).after
  unfolding restarts
  call_keeps x c start p = ⊎_elim (by c start) (λ h. subst P (sym (refused_leaves x c h)) p) (passes (is_accepted x c))
    where
      by : (c : Call) → (So (restarts x c) → P (does x c).after) → So (is_accepted x c) → P (does x c).after
      by (starts w) s h = s h
      by (slots l) s h = kept x l h p

  -- through calls of which none is an accepted fresh start
  pub unbroken_keeps : (x : State) (calls : List Call) → So (unbroken x calls) → P x → P (run x calls)
  unfolding unbroken run
  unbroken_keeps x [] u p = p
  unbroken_keeps x (c ∷ cs) u p =
      let b = both (not (restarts x c)) _ u in
      unbroken_keeps (does x c).after cs b.1 (call_keeps x c (λ h. absurd (refuted h (denied _ b.0))) p)

  -- and before each of them
  pub unbroken-at : (x : State) (calls : List Call) → So (unbroken x calls) → P x → (j : ℕ) → P (state_at x calls j)
  unfolding state_at
  unbroken-at x calls u p j = unbroken_keeps x (take j calls) (unbroken-take x calls j u) p

  module _ (made : MadeByStarts P) where
    restarts_make : (x : State) (c : Call) → So (restarts x c) → P (does x c).after
    unfolding restarts
    restarts_make x (starts w) h = made x w h
    restarts_make x (slots l) h = absurd (false≢true h)

    through : (x : State) (calls : List Call) → P x → P (run x calls)
    unfolding run
    through x [] p = p
    through x (c ∷ cs) p = through (does x c).after cs (call_keeps x c (restarts_make x c) p)

    -- "a run from one accepted fresh start": whatever the state before it, and whatever the calls after it
    pub from_fresh : (x : State) (w : Switch) → So (is_accepted x (starts w)) → (calls : List Call) → P (run x (starts w ∷ calls))
    unfolding run
    from_fresh x w h calls = through (does x (starts w)).after calls (made x w h)

-- Programs ---------------------------------------------------------------------------------------

-- a call that met its contract did what the rules do
met_does : (x : State) (c : Call) (a : Answered) → Met x c a → a ≡ does x c
unfolding does
met_does x (starts w) a m = m.2 ∙ ap (by_start x.numbers) m.1
met_does x (slots l) a m = m.2 ∙ ap by_slot m.1

-- so a program's calls leave what the run leaves, and answer what it answers
pub ran_left : (x : State) (calls : List Call) (l : List Answered) → Ran x calls l → left x l ≡ run x calls
unfolding left run
ran_left x [] [] r = refl
ran_left x [] (a ∷ l) r = absurd r
ran_left x (c ∷ cs) [] r = absurd r
ran_left x (c ∷ cs) (a ∷ l) r = ran_left a.after cs l r.1 ∙ ap (λ (b : Answered). run b.after cs) (met_does x c a r.0)

pub ran_answers : (x : State) (calls : List Call) (l : List Answered) → Ran x calls l → (d : Answered) (j : ℕ) → j < length calls
    → get_or l j d ≡ does (state_at x calls j) (call_at calls j)
unfolding state_at run
ran_answers x [] [] r d j m = absurd (omega arith)
ran_answers x [] (a ∷ l) r d j m = absurd r
ran_answers x (c ∷ cs) [] r d j m = absurd r
ran_answers x (c ∷ cs) (a ∷ l) r d zero m = met_does x c a r.0
ran_answers x (c ∷ cs) (a ∷ l) r d (suc j) m =
    ran_answers a.after cs l r.1 d j (omega arith) ∙ ap (λ (b : Answered). does (state_at b.after cs j) (call_at cs j)) (met_does x c a r.0)
