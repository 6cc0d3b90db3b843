-- A channel by two numbers: what flows through it is an ascending list told by one test, up to the first number it is
-- taken, up to the second put in. For code that has no queues. From the laws of the run and the invariants of Flow.
use mathlib.Core.Path.{◌≡◌, refl, sym, ◌∙◌, ap}
use mathlib.Core.Bool.{Bool, true, false, ◌||◌}
use mathlib.Core.List.{List, [], ◌∷◌, ◌++◌, append_assoc}
use Prim.Native.Nat.{ℕ, zero, suc, ◌+◌, ◌-◌, ◌≤◌}
use native.Mathlib.Omega.{arith}
use lib.Dec.{leb, ltb}
use borrow.Author.Tests.{leb-false, lt-ltb, le-ltb, le-leb, lt-leb}
use Rattle.theory.specs.Lists.{iv, keep}
use Rattle.theory.specs.Events.{size, sent}
use Rattle.theory.specs.Line.{Run}
use Rattle.theory.specs.Replay.{State, start}
use Rattle.theory.specs.Inner.Laws.{Laws}
use Rattle.theory.proofs.Base.{by, on, le?, iv_split, keep_append, keep_iv_cong, keep_iv_all, keep_iv_none, keep_above}
use Rattle.theory.proofs.Events.{sent_le, rcvd_le}
use Rattle.theory.proofs.Classes.{restart_n, kept_list}
use Rattle.theory.specs.Inner.Flow.{r_before, s_before, keptb, ahead, flow, Inv}
use Rattle.theory.proofs.Loss.{taken_iv, ahead_listed}

-- the parts of what a test keeps of an interval are what it keeps of the interval's parts
abbrev Cut : (ℕ → Bool) → ℕ → ℕ → List ℕ → List ℕ → Type 0
Cut f x d xs ys = (e : ℕ) × (e ≤ d) × (xs ≡ keep f (iv x e)) × (ys ≡ keep f (iv (x + e) (d - e)))

cut_here : (f : ℕ → Bool) (x d : ℕ) (ys : List ℕ) → keep f (iv x d) ≡ ys → Cut f x d [] ys
unfolding keep iv
cut_here f x d ys h = let a : x + 0 ≡ x = omega arith in let b : d - 0 ≡ d = omega arith in (0, omega arith, refl, rw (a, b) (sym h))

cut_on : (f : ℕ → Bool) (x d : ℕ) (xs ys : List ℕ) → f (suc x) ≡ false → Cut f (suc x) d xs ys → Cut f x (suc d) xs ys
unfolding keep iv
cut_on f x d xs ys t c =
    let a : x + suc c.0 ≡ suc x + c.0 = omega arith in
    let b : suc d - suc c.0 ≡ d - c.0 = omega arith in
    (suc c.0, omega (arith, c.1), rw t c.2, rw (a, b) c.3)

cut_past : (f : ℕ → Bool) (x d a : ℕ) (xs ys : List ℕ) → f (suc x) ≡ true → a ≡ suc x → Cut f (suc x) d xs ys → Cut f x (suc d) (a ∷ xs) ys
unfolding keep iv
cut_past f x d h xs ys t e c =
    let a : x + suc c.0 ≡ suc x + c.0 = omega arith in
    let b : suc d - suc c.0 ≡ d - c.0 = omega arith in
    (suc c.0, omega (arith, c.1), rw (t, e) (ap (λ r. suc x ∷ r) c.2), rw (a, b) c.3)

keep_cut : (f : ℕ → Bool) (x d : ℕ) (xs ys : List ℕ) → keep f (iv x d) ≡ xs ++ ys → Cut f x d xs ys
unfolding keep iv
keep_cut f x zero [] ys h = cut_here f x zero ys h
keep_cut f x zero (a ∷ xs) ys h = absurd (let z : ◌≡◌ {A = ℕ} 0 1 = cc in omega arith)
keep_cut f x (suc d) [] ys h = cut_here f x (suc d) ys h
keep_cut f x (suc d) (a ∷ xs) ys h = by (f (suc x))
    (λ t. let g : suc x ∷ keep f (iv (suc x) d) ≡ a ∷ (xs ++ ys) = rw t at h in
    let e : a ≡ suc x = cc in
    let k : keep f (iv (suc x) d) ≡ xs ++ ys = cc in
    cut_past f x d a xs ys t e (keep_cut f (suc x) d xs ys k))
    (λ t. cut_on f x d (a ∷ xs) ys t (keep_cut f (suc x) d (a ∷ xs) ys (rw t at h)))

module _ (R : Run) where
  -- message k of the channel goes through it in a replay, or was received before
  unfoldable pub through : ℕ → ℕ → ℕ → Bool
  through p q k = leb k (r_before R p q) || (ltb (s_before R p q) k || keptb R p q k)

  module _ (L : Laws R) where
    kept_low : (p q k : ℕ) → k ≤ r_before R p q → keptb R p q k ≡ false
    unfolding keptb
    kept_low p q k h = let a : ltb (r_before R p q) k ≡ false = le-ltb (r_before R p q) k h in rw a

    pub flow_keep : (p q : ℕ) → flow R (start R) p q ≡ keep (through p q) (iv 0 (sent R.trace p q (size R.trace)))
    unfolding through
    flow_keep p q =
        let rb = r_before R p q in
        let sb = s_before R p q in
        let sn = sent R.trace p q (size R.trace) in
        let a : sb ≤ sn = sent_le R.trace p q (R.restart p) (size R.trace) (restart_n R L p) in
        let b : rb ≤ sn = omega (arith, rcvd_le R.trace p q (R.restart q) (size R.trace) (restart_n R L q), L.causal p q (size R.trace) (omega arith)) in
        let z : 0 + sb ≡ sb = omega arith in
        let z' : 0 + rb ≡ rb = omega arith in
        on (le? rb sb)
        (λ h.
        let c : rb + (sb - rb) ≡ sb = omega arith in
        let t₁ : keep (through p q) (iv 0 rb) ≡ iv 0 rb = keep_iv_all (through p q) 0 rb
        (λ y u v. let w : leb y rb ≡ true = le-leb y rb (omega arith) in rw w) in
        let t₂ : keep (through p q) (iv rb (sb - rb)) ≡ keep (keptb R p q) (iv rb (sb - rb)) = keep_iv_cong (through p q) (keptb R p q) rb (sb - rb)
        (λ y u v. let w : leb y rb ≡ false = lt-leb y rb u in let x : ltb sb y ≡ false = le-ltb sb y (omega arith) in rw (w, x)) in
        let t₃ : keep (through p q) (iv sb (sn - sb)) ≡ iv sb (sn - sb) = keep_iv_all (through p q) sb (sn - sb)
        (λ y u v. let w : leb y rb ≡ false = lt-leb y rb (omega arith) in let x : ltb sb y ≡ true = lt-ltb sb y u in rw (w, x)) in
        let t₄ : keep (λ k. ltb rb k) (iv sb (sn - sb)) ≡ iv sb (sn - sb) = keep_iv_all (λ k. ltb rb k) sb (sn - sb) (λ y u v. lt-ltb rb y (omega arith)) in
        let t₅ : keep (keptb R p q) (iv 0 rb) ≡ [] = keep_iv_none (keptb R p q) 0 rb (λ y u v. kept_low p q y (omega arith)) in
        let i : iv 0 sb ≡ iv 0 rb ++ iv rb (sb - rb) = iv_split 0 rb sb h ∙ rw z' in
        let j : iv 0 sn ≡ iv 0 sb ++ iv sb (sn - sb) = iv_split 0 sb sn a ∙ rw z in
        rw (
          taken_iv R,
          kept_list R L p q,
          ahead_listed R p q (R.restart p) (restart_n R L p),
          t₄,
          j,
          keep_append (through p q) (iv 0 sb),
          t₃,
          i,
          keep_append (through p q) (iv 0 rb),
          t₁,
          t₂,
          keep_append (keptb R p q) (iv 0 rb),
          t₅,
        )
        (sym (append_assoc (iv 0 rb) (keep (keptb R p q) (iv rb (sb - rb))) (iv sb (sn - sb)))))
        (λ h.
        let t₁ : keep (keptb R p q) (iv 0 sb) ≡ [] = keep_iv_none (keptb R p q) 0 sb (λ y u v. kept_low p q y (omega arith)) in
        let t₂ : keep (through p q) (iv 0 sn) ≡ iv 0 sn = keep_iv_all (through p q) 0 sn
        (λ y u v. by (leb y rb) (λ w. rw w)
        (λ w. let x : ltb sb y ≡ true = lt-ltb sb y (omega (arith, leb-false y rb w)) in rw (w, x))) in
        let t₃ : keep (λ k. ltb rb k) (iv 0 sb) ≡ [] = keep_iv_none (λ k. ltb rb k) 0 sb (λ y u v. le-ltb rb y (omega arith)) in
        let j : iv 0 sn ≡ iv 0 sb ++ iv sb (sn - sb) = iv_split 0 sb sn a ∙ rw z in
        let t₄ : keep (λ k. ltb rb k) (iv sb (sn - sb)) ≡ iv rb (sn - rb) =
        rw t₃ at (sym (keep_append (λ k. ltb rb k) (iv 0 sb) (iv sb (sn - sb)))) ∙ ap (keep (λ k. ltb rb k)) (sym j) ∙ keep_above rb sn in
        let i : iv 0 sn ≡ iv 0 rb ++ iv rb (sn - rb) = iv_split 0 rb sn b ∙ rw z' in
        rw (taken_iv R, kept_list R L p q, ahead_listed R p q (R.restart p) (restart_n R L p), t₁, t₄, t₂) (sym i))

  module _ (s : State) (i : Inv R s) (p q : ℕ) where
    -- a channel by two numbers: t, up to which messages are taken, and u, up to which they are put in
    pub record Counted : Type 0 where
      pub t : ℕ
      pub u : ℕ
      pub t_le : t ≤ u
      pub u_le : u ≤ sent R.trace p q (size R.trace)
      pub took : s.got p q ≡ keep (through p q) (iv 0 t)
      pub inside : s.chan p q ≡ keep (through p q) (iv t (u - t))
      pub coming : s.left p q ++ ahead R p q (s.todo p) ≡ keep (through p q) (iv u (sent R.trace p q (size R.trace) - u))

    pub counted : Laws R → Counted
    counted L =
        let sn = sent R.trace p q (size R.trace) in
        let a = keep_cut (through p q) 0 sn (s.got p q) (s.chan p q ++ (s.left p q ++ ahead R p q (s.todo p))) (sym (flow_keep L p q) ∙ sym (i.flows p q)) in
        let t = a.0 in
        let z : 0 + t ≡ t = omega arith in
        let b = keep_cut (through p q) t (sn - t) (s.chan p q) (s.left p q ++ ahead R p q (s.todo p)) (sym (rw z at a.3)) in
        let e = b.0 in
        let y : t + e - t ≡ e = omega arith in
        let w : sn - t - e ≡ sn - (t + e) = omega (arith, a.1, b.1) in
        record { t = t; u = t + e; t_le = omega arith; u_le = omega (arith, a.1, b.1); took = a.2; inside = rw y b.2; coming = rw w at b.3 }
