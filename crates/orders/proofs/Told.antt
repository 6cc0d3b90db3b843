-- The words of a record tell its lists: read from a run area they are those of the order's state, whatever the line,
-- complete or not; so two orders of one trace, or of two that receive alike, leave the same words exactly if they leave
-- the same lists.
use mathlib.Core.Path.{◌≡◌, refl, sym, ap, ◌∙◌}
use mathlib.Core.Logic.{◌↔◌, inl, inr}
use mathlib.Core.Bool.{true, false, ◌&&◌}
use mathlib.Core.List.{List, [], ◌∷◌, map}
use Prim.Native.Nat.{ℕ, zero, suc, ◌+◌, ◌-◌, ◌≤◌, ◌<◌}
use native.Mathlib.Omega.{arith}
use lib.ListN.{length, get_or, length-map}
use lib.Dec.{leb, ltb, eqb}
use borrow.Author.Tests.{eqb-true, eq-eqb, lt-ltb, le-ltb, le-leb}
use Rattle.words.specs.Area.{words_from}
use Rattle.words.specs.Halves.{half}
use Rattle.words.proofs.Halves.{halves_back}
use Rattle.words.proofs.Area.{words_at_lem}
use Rattle.trace.specs.Trace.{Trace}
use Rattle.theory.specs.Lists.{iv, keep, cnt}
use Rattle.theory.specs.Inner.Lists.{has}
use Rattle.theory.specs.Events.{Kind, send, recv, other, size, at, kind, recvs, rcvd, value}
use Rattle.theory.specs.Epochs.{rule_of}
use Rattle.theory.specs.Line.{Run, run_at}
use Rattle.theory.specs.Replay.{State, start, taken_by, listed}
use Rattle.theory.specs.Record.{entry, delivered, faultless}
use Rattle.theory.specs.Order.{carried_out, run}
use Rattle.theory.specs.Inner.Laws.{Laws}
use Rattle.theory.specs.Inner.Flow.{r_before, s_before, keptb, ahead, flow, Inv}
use Rattle.theory.proofs.Base.{by, on, le?, both, clash, false_or, or_right, eqb_self, keep_keep, keep_iv_cong, length_iv, has_append, has_keep, has_keep_is, has_iv_not}
use Rattle.theory.proofs.WellFormed.{Valid}
use Rattle.theory.proofs.Epochs.{laws}
use Rattle.theory.proofs.Classes.{restart_n, kept_list}
use Rattle.theory.proofs.Events.{recvs_is, recvs_of, rcvd_le, rcvd_lt}
use Rattle.theory.proofs.Loss.{taken_iv, ahead_listed, inv}
use Rattle.theory.proofs.Orders.{run_reaches}
use Rattle.machine.specs.Taken.{taken_base, record_end, took_number, took_value, taken_number, taken_value}
use Rattle.orders.specs.Record.{record_word, record_at, received_number, received_value, faultless_at, entry_in, list_in}
use Rattle.links.proofs.Matches.{get_d_iv, get_d_map}
use Rattle.orders.specs.Inner.Alike.{Alike}
use Rattle.orders.proofs.Records.{words_cong}

-- ---- No message has the number 0

module _ (R : Run) (L : Laws R) where
  start_no_zero : (p q : ℕ) → has 0 (flow R (start R) p q) ≡ false
  start_no_zero p q =
      let a : has 0 (taken_by R p q (R.restart q)) ≡ false = rw (taken_iv R p q (R.restart q)) (has_iv_not 0 0 (r_before R p q) (inl (omega arith))) in
      let b = has_keep 0 (keptb R p q) (iv 0 (s_before R p q)) (has_iv_not 0 0 (s_before R p q) (inl (omega arith))) in
      let c : has 0 (ahead R p q (listed R p (R.restart p))) ≡ false =
      rw (ahead_listed R p q (R.restart p) (restart_n R L p)) (has_keep 0 (λ k. ltb (r_before R p q) k) _ (has_iv_not 0 (s_before R p q) _ (inl (omega arith)))) in
      rw (kept_list R L p q, has_append, a, has_append, b) c

  got_no_zero : (s : State) → Inv R s → (p q : ℕ) → has 0 (s.got p q) ≡ false
  got_no_zero s i p q = false_or _ _ (rw has_append at (rw (← i.flows p q) at (start_no_zero p q)))

-- ---- Receives that take the messages of a list one after another, and none when it is used up

has_map : (r : ℕ → ℕ) (e : ℕ) (es : List ℕ) → has e es ≡ true → has (r e) (map r es) ≡ true
unfolding has
has_map r e [] h = clash {b = false} h refl
has_map r e (x ∷ es) h = by (eqb e x)
    (λ u. let q : e ≡ x = eqb-true e x u in rw (q, eqb_self (r x)))
    (λ u. or_right (eqb (r e) (r x)) (has (r e) (map r es)) (has_map r e es (rw u at h)))

above : (x d k : ℕ) → has k (iv x d) ≡ true → x < k
above x d k h = on (le? k x) (λ l. clash h (has_iv_not k x d (inl l))) (λ l. l)

module _ (num val r v : ℕ → ℕ) where
  -- receive e takes number `r e` on its channel: the messages of gs, from number x + 1 on
  abbrev Takes : List ℕ → ℕ → List ℕ → Type 0
  Takes es x gs = (e : ℕ) → has e es ≡ true → (num e ≡ get_or gs (r e - suc x) 0) × (val e ≡ get_or (map v gs) (r e - suc x) 0)

  taken_list : (es gs : List ℕ) (x : ℕ) → map r es ≡ iv x (length es) → Takes es x gs → length gs ≤ length es → has 0 gs ≡ false
      → map {B = ℕ × ℕ} (λ e. (num e, val e)) (keep (λ e. ltb 0 (num e)) es) ≡ map {B = ℕ × ℕ} (λ k. (k, v k)) gs
  unfolding keep iv has
  taken_list [] [] x m h l z = refl
  taken_list [] (g ∷ gs) x m h l z = absurd (let y : ⊥ = omega arith in y)
  taken_list (e ∷ es) [] x m h l z =
      let m' : map r es ≡ iv (suc x) (length es) = cc in
      let n : num e ≡ 0 = (h e (rw (eqb_self e))).0 in
      rw n (taken_list es [] (suc x) m' (λ y u. h y (or_right (eqb y e) (has y es) u)) (omega arith) z)
  taken_list (e ∷ es) (g ∷ gs) x m h l z =
      let m' : map r es ≡ iv (suc x) (length es) = cc in
      let k : r e ≡ suc x = cc in
      let first : r e - suc x ≡ 0 = omega arith in
      let t = h e (rw (eqb_self e)) in
      let n : num e ≡ g = rw first at t.0 in
      let w : val e ≡ v g = rw first at t.1 in
      let z' = false_or (eqb 0 g) (has 0 gs) z in
      let some : ltb 0 (num e) ≡ true = rw n (on (le? g 0) (λ u. let q : eqb 0 g ≡ true = eq-eqb 0 g (omega arith) in clash q z') (λ u. lt-ltb 0 g u)) in
      let rest : has 0 gs ≡ false = rw z' at z in
      let t' : Takes es (suc x) gs = λ y u.
      let a : suc x < r y = above (suc x) (length es) (r y) (rw (← m') (has_map r y es u)) in
      let b : r y - suc x ≡ suc (r y - suc (suc x)) = omega arith in
      let c = h y (or_right (eqb y e) (has y es) u) in
      rw b at c in
      rw (some, n, w) (ap (λ (xs : List (ℕ × ℕ)). (g, v g) ∷ xs) (taken_list es gs (suc x) m' t' (omega arith) rest))

-- ---- The lists of a run area

module _ (R : Run) where
  abbrev t : Trace
  t = R.trace

  abbrev n : ℕ
  n = size R.trace

  -- the receives on a channel
  abbrev receives : ℕ → ℕ → List ℕ
  receives p q = keep (recvs t p q) (iv 0 n)

  receives_are : (p q : ℕ) → map (rcvd t p q) (receives p q) ≡ iv 0 (rcvd t p q n)
  receives_are p q = unfold taken_by in taken_iv R p q n

  receives_count : (p q : ℕ) → length (receives p q) ≡ rcvd t p q n
  receives_count p q = sym (length-map (receives p q) (rcvd t p q)) ∙ ap length (receives_are p q) ∙ length_iv 0 (rcvd t p q n)

  receive_at : (p q e : ℕ) → has e (receives p q) ≡ true → (0 < e) × (e ≤ n) × (recvs t p q e ≡ true)
  receive_at p q e h =
      let b = both (recvs t p q e) (has e (iv 0 n)) (sym (has_keep_is e (recvs t p q) (iv 0 n)) ∙ h) in (
        above 0 n e b.1,
        on (le? e n) (λ l. l) (λ l. clash b.1 (has_iv_not e 0 n (inr (omega arith)))),
        b.0,
      )

  -- an area in which the receives of a channel have taken the messages gs, one after another, has this list
  list_is : (w : List ℕ) (p q : ℕ) (gs : List ℕ)
      → ((e : ℕ) → 0 < e → e ≤ n → recvs t p q e ≡ true
      → (get_or w e 0 ≡ get_or gs (rcvd t p q e - 1) 0) × ((entry_in w e).1 ≡ get_or (map (value t p q) gs) (rcvd t p q e - 1) 0))
      → length gs ≤ rcvd t p q n → has 0 gs ≡ false → list_in t w p q ≡ map (entry R p q) gs
  unfolding list_in
  list_is w p q gs h most z =
      let count = receives_count p q in
      let takes : Takes (λ e. get_or w e 0) (λ e. (entry_in w e).1) (rcvd t p q) (value t p q) (receives p q) 0 gs = λ e l.
      let r = receive_at p q e l in h e r.0 r.1 r.2 in
      ap (map (entry_in w)) (sym (keep_keep (λ e. ltb 0 (get_or w e 0)) (recvs t p q) (iv 0 n)))
      ∙ taken_list (λ e. get_or w e 0) (λ e. (entry_in w e).1) (rcvd t p q) (value t p q) (receives p q) gs 0
      (receives_are p q ∙ ap (iv 0) (sym count)) takes (omega arith) z

-- no value of a list is larger than the largest
mapped_most : (f : ℕ → ℕ) (most : ℕ) → ((k : ℕ) → f k ≤ most) → (ks : List ℕ) (i : ℕ) → get_or (map f ks) i 0 ≤ most
mapped_most f most h [] i = omega arith
mapped_most f most h (k ∷ ks) zero = h k
mapped_most f most h (k ∷ ks) (suc i) = mapped_most f most h ks i

-- the words of a value in a record
half_word : (b e : ℕ) (number value : ℕ → ℕ) → b < 2 → e ≤ 2048 → record_word number value (taken_base b + e) ≡ half b (value e)
unfolding record_word
half_word zero e number value l h =
    let q : 2049 + e - 2049 ≡ e = omega arith in
    rw (le-ltb (2049 + e) 2049 (omega arith), lt-ltb (2049 + e) 4098 (omega arith), q)
half_word (suc zero) e number value l h =
    let q : 4098 + e - 4098 ≡ e = omega arith in
    rw (le-ltb (4098 + e) 2049 (omega arith), le-ltb (4098 + e) 4098 (omega arith), lt-ltb (4098 + e) 6147 (omega arith), q)
half_word (suc (suc b)) e number value l h = absurd (let z : ⊥ = omega arith in z)

-- values of 64 bits: those of every well-formed trace (`message_most` of crate columns)
abbrev Values64 : Trace → Type 0
Values64 t = (p q k : ℕ) → value t p q k ≤ 18446744073709551615

module _ (R : Run) (few : size R.trace ≤ 2048) (bits : Values64 R.trace) where
  -- the words of a receive are among those of the record
  module _ (e : ℕ) (h : 0 < e) (k : e ≤ size R.trace) where
    low : ltb e (taken_base 0) ≡ true
    low = lt-ltb e (taken_base 0) (omega (arith, few))

    event : (ltb 0 e && leb e (size R.trace)) ≡ true
    event = rw (lt-ltb 0 e h, le-leb e (size R.trace) k)

  -- words that are the halves of a message's value say it
  whole_value : (w : List ℕ) (e v : ℕ) → ((b : ℕ) → b < 2 → get_or w (taken_base b + e) 0 ≡ half b v) → v ≤ 18446744073709551615 → (entry_in w e).1 ≡ v
  whole_value w e v h most =
      let low = h 0 (omega arith) in
      let high = h 1 (omega arith) in
      omega (arith, low, high, halves_back v most)

  module _ (L : Laws R) (s : State) (i : Inv R s) where
    -- what the state has at the place of a receive
    words_of : (p q e : ℕ) → 0 < e → e ≤ n R → recvs (t R) p q e ≡ true
        → (record_at R s e ≡ get_or (s.got p q) (rcvd (t R) p q e - 1) 0)
        × (taken_value R s e ≡ get_or (map (value (t R) p q) (s.got p q)) (rcvd (t R) p q e - 1) 0)
    unfolding record_at record_word taken_number taken_value
    words_of p q e h k r =
        let (u, v) = recvs_is (t R) p q e r in
        (rw (low e h k, event e h k, v, u), rw (event e h k, v, u))

    halves_of : (b e : ℕ) → b < 2 → e ≤ n R → record_at R s (taken_base b + e) ≡ half b (taken_value R s e)
    unfolding record_at
    halves_of b e l k = half_word b e (taken_number R s) (taken_value R s) l (omega (arith, few))

    -- an area whose words are those of the state's record has its lists
    pub told : (w : List ℕ) → ((k : ℕ) → k < record_end → get_or w k 0 ≡ record_at R s k) → (p q : ℕ) → list_in (t R) w p q ≡ delivered R s p q
    unfolding delivered
    told w h p q =
        list_is R w p q (s.got p q)
        (λ e a b r.
        let x = words_of p q e a b r in
        let most = mapped_most (value (t R) p q) 18446744073709551615 (bits p q) (s.got p q) (rcvd (t R) p q e - 1) in (
          h e (omega (arith, few)) ∙ x.0,
          whole_value w e (taken_value R s e) (λ c l. h (taken_base c + e) (omega (arith, few)) ∙ halves_of c e l b) (omega (arith, x.1, most)) ∙ x.1,
        ))
        (omega (arith, i.taken p q)) (got_no_zero R L s i p q)

    pub told_words : (p q : ℕ) → list_in (t R) (words_from (record_at R s) 0 16384) p q ≡ delivered R s p q
    told_words = told (words_from (record_at R s) 0 16384) (λ k l. words_at_lem (record_at R s) 16384 k (omega arith))

  -- the words of the run without failure have its lists
  faultless_of : (p q e : ℕ) → 0 < e → e ≤ n R → recvs (t R) p q e ≡ true
      → (faultless_at (t R) e ≡ rcvd (t R) p q e) × (received_value (t R) e (kind (t R) e) ≡ value (t R) p q (rcvd (t R) p q e))
  unfolding faultless_at record_word value
  faultless_of p q e h k r =
      let (u, v) = recvs_is (t R) p q e r in
      (rw (low e h k, v, u), rw (v, u))

  faultless_halves : (b e : ℕ) → b < 2 → e ≤ n R → faultless_at (t R) (taken_base b + e) ≡ half b (received_value (t R) e (kind (t R) e))
  unfolding faultless_at
  faultless_halves b e l k =
      half_word b e (λ d. received_number (t R) d (kind (t R) d)) (λ d. received_value (t R) d (kind (t R) d)) l (omega (arith, few))

  pub faultless_told : (p q : ℕ) → list_in (t R) (words_from (faultless_at (t R)) 0 16384) p q ≡ faultless R p q
  unfolding faultless
  faultless_told p q =
      let w = words_from (faultless_at (t R)) 0 16384 in
      let m = rcvd (t R) p q (n R) in
      list_is R w p q (iv 0 m)
      (λ e a b r.
      let x = faultless_of p q e a b r in
      let j = rcvd (t R) p q e in
      let pos : 0 < j = omega (arith, rcvd_lt (t R) p q 0 e r a) in
      let most : j ≤ m = rcvd_le (t R) p q e (n R) b in
      let g : get_or (iv 0 m) (j - 1) 0 ≡ j = get_d_iv 0 m (j - 1) (omega arith) ∙ omega arith in (
        words_at_lem (faultless_at (t R)) 16384 e (omega (arith, few)) ∙ x.0 ∙ sym g,
        whole_value w e (received_value (t R) e (kind (t R) e))
            (λ c l. words_at_lem (faultless_at (t R)) 16384 (taken_base c + e) (omega (arith, few)) ∙ faultless_halves c e l b)
            (omega (arith, x.1, bits p q j))
            ∙ x.1 ∙ sym (get_d_map (value (t R) p q) (iv 0 m) (j - 1) (omega (arith, length_iv 0 m)) ∙ ap (value (t R) p q) g),
      ))
      (omega (arith, length_iv 0 m)) (has_iv_not 0 0 m (inl (omega arith)))
      ∙ ap (map (entry R p q)) (sym (taken_iv R p q (n R)))

-- ---- Two orders of traces that receive alike, or of one, from any cuts and lines, complete or not

module _ (f : ℕ → ℕ) where
  entry_numbers : (ks : List ℕ) → map (λ (r : ℕ × ℕ). r.0) (map {B = ℕ × ℕ} (λ k. (k, f k)) ks) ≡ ks
  entry_numbers [] = refl
  entry_numbers (k ∷ ks) = ap (λ (l : List ℕ). k ∷ l) (entry_numbers ks)

  entry_values : (ks : List ℕ) → map (λ (r : ℕ × ℕ). r.1) (map {B = ℕ × ℕ} (λ k. (k, f k)) ks) ≡ map f ks
  entry_values [] = refl
  entry_values (k ∷ ks) = ap (λ (l : List ℕ). f k ∷ l) (entry_values ks)

pub alike_self : (t : Trace) → Alike t t
alike_self t = record { size_same = refl; receives_same = λ p q e. refl }

module _ (t u : Trace) (A : Alike t u) where
  alike_rcvd : (p q x : ℕ) → rcvd t p q x ≡ rcvd u p q x
  unfolding rcvd cnt
  alike_rcvd p q zero = refl
  alike_rcvd p q (suc x) = rw (A.receives_same p q (suc x), alike_rcvd p q x)

  alike_list : (w : List ℕ) (p q : ℕ) → list_in t w p q ≡ list_in u w p q
  unfolding list_in
  alike_list w p q = rw A.size_same (ap (map (entry_in w)) (keep_iv_cong _ _ 0 (size u) (λ e h k. rw (A.receives_same p q e))))

  -- a receive of one is a receive of the other
  alike_recv : (p e : ℕ) → kind t e ≡ recv p → (at u e ≡ at t e) × (kind u e ≡ recv p)
  alike_recv p e k = recvs_is u p (at t e) e (sym (A.receives_same p (at t e) e) ∙ recvs_of t p (at t e) e refl k)

alike_back : (t u : Trace) → Alike t u → Alike u t
alike_back t u A = record { size_same = sym A.size_same; receives_same = λ p q e. sym (A.receives_same p q e) }

module _ (t u : Trace) (A : Alike t u) (valid : Valid t) (other_valid : Valid u) (few : size t ≤ 2048) (bits : Values64 t) (other_64 : Values64 u)
    (cut other_cut : ℕ) (cl : cut ≤ size t) (ocl : other_cut ≤ size u) (line other_line : ℕ → ℕ) (order other_order : List ℕ) (s v : State)
    (h : run (run_at t cut line) order ≡ carried_out s) (k : run (run_at u other_cut other_line) other_order ≡ carried_out v) where
  abbrev F : Run
  F = run_at t cut line

  abbrev G : Run
  G = run_at u other_cut other_line

  LF : Laws F
  LF = laws t (rule_of t) valid cut line cl

  LG : Laws G
  LG = laws u (rule_of u) other_valid other_cut other_line ocl

  other_few : size u ≤ 2048
  other_few = omega (arith, few, A.size_same)

  abbrev Same : Type 0
  Same = (p q : ℕ) → delivered F s p q ≡ delivered G v p q

  module _ (d : Same) where
    same_got : (p q : ℕ) → s.got p q ≡ v.got p q
    unfolding delivered
    same_got p q =
        sym (entry_numbers (value t p q) (s.got p q)) ∙ ap (map (λ (r : ℕ × ℕ). r.0)) (d p q) ∙ entry_numbers (value u p q) (v.got p q)

    same_values : (p q : ℕ) → map (value t p q) (s.got p q) ≡ map (value u p q) (v.got p q)
    unfolding delivered
    same_values p q =
        sym (entry_values (value t p q) (s.got p q)) ∙ ap (map (λ (r : ℕ × ℕ). r.1)) (d p q) ∙ entry_values (value u p q) (v.got p q)

    same_took : (e : ℕ) (c b : Kind) → kind t e ≡ c → kind u e ≡ b
        → (took_number F s.got e c ≡ took_number G v.got e b) × (took_value F s.got e c ≡ took_value G v.got e b)
    same_took e (recv p) b i j =
        let (x, y) = alike_recv t u A p e i in
        let z : b ≡ recv p = sym j ∙ y in
        rw (z, x, alike_rcvd t u A p (at t e) e, same_values p (at t e), same_got p (at t e)) (refl, refl)
    same_took e (send q) (recv p) i j =
        let z : send q ≡ recv p = sym i ∙ (alike_recv u t (alike_back t u A) p e j).1 in
        let o : ◌≡◌ {A = ℕ} 0 1 = cc in absurd (let y : ⊥ = omega arith in y)
    same_took e other (recv p) i j =
        let z : other ≡ recv p = sym i ∙ (alike_recv u t (alike_back t u A) p e j).1 in
        let o : ◌≡◌ {A = ℕ} 0 1 = cc in absurd (let y : ⊥ = omega arith in y)
    same_took e (send q) (send p) i j = (refl, refl)
    same_took e (send q) other i j = (refl, refl)
    same_took e other (send p) i j = (refl, refl)
    same_took e other other i j = (refl, refl)

    same_taken : (e : ℕ) → (taken_number F s e ≡ taken_number G v e) × (taken_value F s e ≡ taken_value G v e)
    unfolding taken_number taken_value
    same_taken e = let x = same_took e (kind t e) (kind u e) refl refl in rw (A.size_same, x.0, x.1) (refl, refl)

    same_word : (x : ℕ) → record_at F s x ≡ record_at G v x
    unfolding record_at record_word
    same_word x = rw ((same_taken x).0, (same_taken (x - taken_base 0)).1, (same_taken (x - taken_base 1)).1)

  -- the same words exactly if the same list of numbers and values on every channel
  pub record_told : (words_from (record_at F s) 0 16384 ≡ words_from (record_at G v) 0 16384) ↔ Same
  record_told = (
    λ w p q.
        sym (told_words F few bits LF s (inv F LF s (length order) (run_reaches F order s h)) p q)
        ∙ ap (λ (x : List ℕ). list_in t x p q) w
        ∙ alike_list t u A (words_from (record_at G v) 0 16384) p q
        ∙ told_words G other_few other_64 LG v (inv G LG v (length other_order) (run_reaches G other_order v k)) p q,
    λ d. words_cong (record_at F s) (record_at G v) 16384 (λ x l. same_word d x),
  )
