-- MANUAL 5.2 and 5.3: which choices are allowed in a state of the machine, each claim under its sentence of the
-- requirements. Of every run and state; what a replay reaches is Demand3's `leaves_its_record`.
use Prim.Native.Nat.{ℕ, ◌+◌, ◌*◌, ◌≤◌, ◌<◌}
use mathlib.Core.Path.{◌≡◌, refl, sym, ◌∙◌}
use mathlib.Core.Logic.{◌↔◌}
use mathlib.Core.Bool.{Bool, true, false}
use mathlib.Core.List.{List, [], ◌∷◌}
use native.Mathlib.Omega.{arith}
use mathlib.Core.Option.{some, none-ne-some}
use Rattle.theory.specs.Events.{Kind, send, recv, other, kind}
use Rattle.theory.specs.Line.{Run}
use Rattle.theory.specs.Replay.{hand, State, ready, gate, sending, taking, moved, handing, send_step, recv_step, event_step, process_step, hand_step, step}
use Rattle.theory.specs.Order.{choose}
use Rattle.theory.specs.Inner.Orders.{Allowed}
use Rattle.theory.proofs.Base.{by}
use Rattle.theory.proofs.Orders.{choice_process, choice_hand, none_high, choose_of, choose_none}

module _ (R : Run) (s : State) where
  -- "A send on P to Q waits until every kept message of that channel is handed over. A receive needs a message in the
  -- channel and takes the oldest. .. Any other event only moves the zone on.": nothing makes event e of process z wait
  abbrev pub Free : ℕ → Kind → Type 0
  Free z (send q) = s.left z q ≡ []
  Free z (recv p) = (m : ℕ) × (ms : List ℕ) × (s.chan p z ≡ m ∷ ms)
  Free z other = Unit

  send_free : (z q e : ℕ) (es l : List ℕ) → s.left z q ≡ l → ((u : State) × (send_step R s z q e es l ≡ some u)) ↔ (s.left z q ≡ [])
  unfolding send_step
  send_free z q e es [] h = (λ x. h, λ x. (sending R s z q e es, refl))
  send_free z q e es (m ∷ ms) h = (λ x. absurd (none-ne-some x.0 x.1), λ x. absurd (not_empty m ms (sym h ∙ x)))
    where
      not_empty : (m : ℕ) (ms : List ℕ) → m ∷ ms ≡ [] → ⊥
      not_empty m ms e = let z : ◌≡◌ {A = ℕ} 0 1 = cc in omega arith

  recv_free : (z p : ℕ) (es l : List ℕ) → s.chan p z ≡ l → ((u : State) × (recv_step R s z p es l ≡ some u)) ↔ ((m : ℕ) × (ms : List ℕ) × (s.chan p z ≡ m ∷ ms))
  unfolding recv_step
  recv_free z p es [] h = (λ x. absurd (none-ne-some x.0 x.1), λ x. absurd (no_message x.0 x.1 (sym h ∙ x.2)))
    where
      no_message : (m : ℕ) (ms : List ℕ) → [] ≡ m ∷ ms → ⊥
      no_message m ms e = let z : ◌≡◌ {A = ℕ} 0 1 = cc in omega arith
  recv_free z p es (m ∷ ms) h = (λ x. (m, ms, h), λ x. (taking R s z p es m ms, refl))

  event_free : (z e : ℕ) (es : List ℕ) (k : Kind) → ((u : State) × (event_step R s z e es k ≡ some u)) ↔ Free z k
  unfolding event_step
  event_free z e es (send q) = send_free z q e es (s.left z q) refl
  event_free z e es (recv p) = recv_free z p es (s.chan p z) refl
  event_free z e es other = (λ x. tt, λ x. (moved R s z es, refl))

  -- "0 to 63: that zone does its next listed event" "A choice is allowed when its gate is ready, the event or message
  -- is there and nothing here makes it wait."
  pub zone_allowed : (z : ℕ) → z < 64
      → Allowed R s z ↔ ((e : ℕ) × (es : List ℕ) × (s.todo z ≡ e ∷ es) × (ready R s (gate R z) ≡ true) × Free z (kind R.trace e))
  unfolding step process_step
  zone_allowed z h =
      let c = choose_of R s z _ (choice_process z h) in (
        λ x. there (s.todo z) refl (ready R s (gate R z)) refl x.0 (sym c ∙ x.1),
        λ (e, es, a, b, f). let g = (event_free z e es (kind R.trace e)).1 f in (g.0, c ∙ rw (a, b) g.1),
      )
    where
      there : (l : List ℕ) → s.todo z ≡ l → (b : Bool) → ready R s (gate R z) ≡ b → (u : State) → process_step R s z l b ≡ some u
          → (e : ℕ) × (es : List ℕ) × (s.todo z ≡ e ∷ es) × (ready R s (gate R z) ≡ true) × Free z (kind R.trace e)
      there [] a b c u k = absurd (none-ne-some u k)
      there (e ∷ es) a false c u k = absurd (none-ne-some u k)
      there (e ∷ es) a true c u k = (e, es, a, c, (event_free z e es (kind R.trace e)).0 (u, k))

  -- "64 + 64·P + Q: the oldest kept message from P to Q not yet handed over goes into the channel."
  pub hand_does : (p q m : ℕ) (ms : List ℕ) → p < 64 → q < 64 → s.left p q ≡ m ∷ ms → ready R s (R.carries p q m) ≡ true
      → choose R s (64 + 64 * p + q) ≡ some (handing R s p q m ms)
  unfolding step hand_step
  hand_does p q m ms hp hq a b = choose_of R s (64 + 64 * p + q) (hand p q) (choice_hand p q hp hq) ∙ rw (a, b)

  -- "A kept message may be handed over when its own phase is ready."
  pub hand_allowed : (p q : ℕ) → p < 64 → q < 64
      → Allowed R s (64 + 64 * p + q) ↔ ((m : ℕ) × (ms : List ℕ) × (s.left p q ≡ m ∷ ms) × (ready R s (R.carries p q m) ≡ true))
  unfolding step hand_step
  hand_allowed p q hp hq =
      let k = choose_of R s (64 + 64 * p + q) (hand p q) (choice_hand p q hp hq) in (
        λ x. there (s.left p q) refl x.0 (sym k ∙ x.1),
        λ (m, ms, a, b). (handing R s p q m ms, k ∙ rw (a, b)),
      )
    where
      there : (l : List ℕ) → s.left p q ≡ l → (u : State) → hand_step R s p q l ≡ some u
          → (m : ℕ) × (ms : List ℕ) × (s.left p q ≡ m ∷ ms) × (ready R s (R.carries p q m) ≡ true)
      there [] a u k = absurd (none-ne-some u k)
      there (m ∷ ms) a u k = (m, ms, a, by (ready R s (R.carries p q m)) (λ b. b) (λ b. absurd (none-ne-some u (rw b at k))))

  -- "Any other number isn't allowed."
  pub no_other_number : (c : ℕ) → 4160 ≤ c → Allowed R s c → ⊥
  no_other_number c h x = none-ne-some x.0 (sym (choose_none R s c (none_high c h)) ∙ x.1)
