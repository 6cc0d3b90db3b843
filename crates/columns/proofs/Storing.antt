-- The words of the full table after one event's columns are stored, and what the table then holds: `filled_step`.
use Prim.Native.Nat.{ℕ, suc, ◌+◌, ◌<◌, ◌≤◌}
use mathlib.Core.Path.{◌≡◌, subst, ◌∙◌}
use mathlib.Core.Logic.{◌≢◌}
use mathlib.Core.Bool.{true, cond}
use mathlib.Core.List.{List}
use native.Mathlib.Omega.{arith}
use lib.Dec.{leb}
use lib.ListN.{length, get_or, set, length-set}
use lib.Seq.{get_or-set_same, get_or-set_other}
use Rattle.words.proofs.Cases.{by_lt}
use Rattle.trace.specs.Trace.{Trace}
use Rattle.theory.specs.Events.{size, at, sends, recvs, sent, rcvd, send_of, recv_of}
use Rattle.theory.specs.Epochs.{epoch_at, phase_at, logged_by, rule_of}
use Rattle.columns.specs.Inner.Columns.{number_base, epoch_base, phase_base, match_base, full_words}
use Rattle.columns.specs.Inner.Filling.{placed, stored, Filled}

-- the three words of any event, and the others
module _ (full : List ℕ) (e ep ph m : ℕ) (whole : length full ≡ full_words) (few : e ≤ 2048) where
  pub length_placed : length (placed full e ep ph m) ≡ full_words
  length_placed = simp length-set whole

  f₁ : List ℕ
  f₁ = set full (8212 + e) ep

  f₂ : List ℕ
  f₂ = set f₁ (10261 + e) ph

  l₁ : length f₁ ≡ 14359
  unfolding f₁
  l₁ = simp length-set whole

  l₂ : length f₂ ≡ 14359
  unfolding f₁ f₂
  l₂ = simp length-set whole

  pub placed_match : get_or (placed full e ep ph m) (match_base + e) 0 ≡ m
  unfolding f₁ f₂
  placed_match = get_or-set_same f₂ (12310 + e) m 0 (omega (arith, l₂))

  pub placed_other : (k : ℕ) → k ≢ 8212 + e → k ≢ 10261 + e → k ≢ 12310 + e → get_or (placed full e ep ph m) k 0 ≡ get_or full k 0
  unfolding f₁ f₂
  placed_other k b c d =
      get_or-set_other f₂ (12310 + e) k m 0 d ∙ get_or-set_other f₁ (10261 + e) k ph 0 c ∙ get_or-set_other full (8212 + e) k ep 0 b

  pub placed_phase : get_or (placed full e ep ph m) (phase_base + e) 0 ≡ ph
  unfolding f₁ f₂
  placed_phase = get_or-set_other f₂ (12310 + e) (10261 + e) m 0 (λ q. omega arith) ∙ get_or-set_same f₁ (10261 + e) ph 0 (omega (arith, l₁))

  pub placed_epoch : get_or (placed full e ep ph m) (epoch_base + e) 0 ≡ ep
  unfolding f₁ f₂
  placed_epoch =
      get_or-set_other f₂ (12310 + e) (8212 + e) m 0 (λ q. omega arith) ∙ get_or-set_other f₁ (10261 + e) (8212 + e) ph 0 (λ q. omega arith)
      ∙ get_or-set_same full (8212 + e) ep 0 (omega arith)

-- and those of one that has a number
module _ (full : List ℕ) (e n ep ph m : ℕ) (whole : length full ≡ full_words) (few : e ≤ 2048) where
  abbrev f₀ : List ℕ
  f₀ = set full (6163 + e) n

  l₀ : length f₀ ≡ full_words
  l₀ = simp length-set whole

  pub length_stored : length (stored full e n ep ph m) ≡ full_words
  length_stored = length_placed f₀ e ep ph m l₀ few

  pub stored_match : get_or (stored full e n ep ph m) (match_base + e) 0 ≡ m
  stored_match = placed_match f₀ e ep ph m l₀ few

  pub stored_other : (k : ℕ) → k ≢ 6163 + e → k ≢ 8212 + e → k ≢ 10261 + e → k ≢ 12310 + e → get_or (stored full e n ep ph m) k 0 ≡ get_or full k 0
  stored_other k a b c d = placed_other f₀ e ep ph m l₀ few k b c d ∙ get_or-set_other full (6163 + e) k n 0 a

  pub stored_phase : get_or (stored full e n ep ph m) (phase_base + e) 0 ≡ ph
  stored_phase = placed_phase f₀ e ep ph m l₀ few

  pub stored_epoch : get_or (stored full e n ep ph m) (epoch_base + e) 0 ≡ ep
  stored_epoch = placed_epoch f₀ e ep ph m l₀ few

  pub stored_number : get_or (stored full e n ep ph m) (number_base + e) 0 ≡ n
  stored_number =
      placed_other f₀ e ep ph m l₀ few (6163 + e) (λ q. omega arith) (λ q. omega arith) (λ q. omega arith) ∙ get_or-set_same full (6163 + e) n 0 (omega arith)

-- What a table with one event more must have, to be filled so far: its words but those of the event as they were, the
-- event's own columns, and the matching of every event so far.
module _ (t : Trace) (x : ℕ) (full next : List ℕ) (F : Filled t x full) (few : size t ≤ 2048) (l : suc x ≤ size t) where
  pub record Step : Type 0 where
    pub whole : length next ≡ full_words
    pub others : (k : ℕ) → k < 12310 → k ≢ 6163 + suc x → k ≢ 8212 + suc x → k ≢ 10261 + suc x → get_or next k 0 ≡ get_or full k 0
    pub number_send : (p q : ℕ) → sends t p q (suc x) ≡ true → get_or next (6163 + suc x) 0 ≡ sent t p q (suc x)
    pub epoch : get_or next (8212 + suc x) 0 ≡ epoch_at t (rule_of t) (at t (suc x)) (suc x)
    pub phase : get_or next (10261 + suc x) 0 ≡ phase_at t (rule_of t) (at t (suc x)) (suc x)
    pub match_send : (p q e : ℕ) → sends t p q e ≡ true → 0 < e → e ≤ suc x
        → get_or next (12310 + e) 0 ≡ cond (leb (sent t p q e) (rcvd t p q (suc x))) (recv_of t p q (sent t p q e)) 0
    pub match_recv : (p q e : ℕ) → recvs t p q e ≡ true → 0 < e → e ≤ suc x → get_or next (12310 + e) 0 ≡ send_of t p q (rcvd t p q e)
    pub flags : (e : ℕ) → e ≤ x → get_or next (6163 + e) 0 ≡ get_or full (6163 + e) 0
    pub flag : (p q : ℕ) → recvs t p q (suc x) ≡ true → get_or next (6163 + suc x) 0 ≡ cond (logged_by t (rule_of t) p q (rcvd t p q (suc x))) 1 0

  -- an event so far, or the new one
  pub by_event {ℓ} : (B : ℕ → Type ℓ) (e : ℕ) → e ≤ suc x → (e ≤ x → B e) → B (suc x) → B e
  by_event B e h f g = by_lt e (suc x) (λ q. f (omega arith)) (λ q. let i : suc x ≡ e = omega arith in subst B i g)

  pub filled_step : Step → Filled t (suc x) next
  filled_step S = record {
    whole = S.whole;
    number_none = S.others 6163 (omega arith) (λ q. omega arith) (λ q. omega arith) (λ q. omega arith) ∙ F.number_none;
    number_send = λ p q e s a b. by_event (λ e. sends t p q e ≡ true → 0 < e → get_or next (6163 + e) 0 ≡ sent t p q e) e b
        (λ h s a. S.others (6163 + e) (omega arith) (λ i. omega arith) (λ i. omega arith) (λ i. omega arith) ∙ F.number_send p q e s a h)
        (λ s a. S.number_send p q s) s a;
    epoch = λ e a b. by_event (λ e. 0 < e → get_or next (8212 + e) 0 ≡ epoch_at t (rule_of t) (at t e) e) e b
        (λ h a. S.others (8212 + e) (omega arith) (λ i. omega arith) (λ i. omega arith) (λ i. omega arith) ∙ F.epoch e a h)
        (λ a. S.epoch) a;
    phase = λ e a b. by_event (λ e. 0 < e → get_or next (10261 + e) 0 ≡ phase_at t (rule_of t) (at t e) e) e b
        (λ h a. S.others (10261 + e) (omega arith) (λ i. omega arith) (λ i. omega arith) (λ i. omega arith) ∙ F.phase e a h)
        (λ a. S.phase) a;
    match_send = S.match_send;
    match_recv = S.match_recv;
    flags = λ p q e s a b. by_event (λ e. recvs t p q e ≡ true → 0 < e → get_or next (6163 + e) 0 ≡ cond (logged_by t (rule_of t) p q (rcvd t p q e)) 1 0) e b
        (λ h s a. S.flags e h ∙ F.flags p q e s a h)
        (λ s a. S.flag p q s) s a;
  }
