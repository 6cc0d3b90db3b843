-- What a new least phase opens. Gates: those below it open. Kept messages: one that is ready now and was not has a
-- phase that the least one has passed, so it is on a list that was walked.
use mathlib.Core.Path.{◌≡◌, refl, sym, ◌∙◌, ap}
use mathlib.Core.Logic.{◌⊎◌, inl, inr, ⊎_elim, ◌≢◌}
use mathlib.Core.Bool.{true, false, or-true}
use mathlib.Core.List.{List, [], ◌∷◌}
use Prim.Native.Nat.{ℕ, ◌+◌, ◌-◌, ◌*◌, ◌%◌, ◌^◌, ◌≤◌, ◌<◌}
use native.Mathlib.Omega.{arith}
use lib.ListN.{length, get_or, set}
use lib.Seq.{get_or-set_same, get_or-set_other}
use lib.Dec.{eqb}
use borrow.Author.Tests.{lt-ltb, le-ltb, eq-eqb, ne_eqb}
use Rattle.words.proofs.Cases.{by_bool, by_lt, by_eq, clash}
use Rattle.theory.specs.Events.{size}
use Rattle.theory.specs.Line.{Run, in_set}
use Rattle.theory.specs.Replay.{State}
use Rattle.theory.specs.Inner.Flow.{Inv}
use Rattle.theory.specs.Inner.Lists.{head0}
use Rattle.theory.proofs.Events.{sends_is}
use Rattle.columns.specs.Inner.Full.{events_w, at_w, peer_w, phase_w}
use Rattle.machine.specs.Inner.Words.{no_phase, take_w, put_w, send_ok, lesser, kept_phase, Small}
use Rattle.machine.specs.Inner.Related.{goes, Chan, Rel, Started}
use Rattle.machine.proofs.Facts.{evs_head, goes_send}
use Rattle.sets.specs.Inner.Sets.{first_in, rest_of, with_in}
use Rattle.sets.proofs.Sets.{none_in, rest_out, with_out, with_members}
use Rattle.links.specs.Inner.Listed.{OnList, here, later, ListsRising, KeptListed}
use Rattle.search.specs.Inner.Lowest.{Unready, Waiting}
use Rattle.search.specs.Inner.Opened.{GatesOpened, Grown, Joined, ListJoined, PhasesJoined}

-- ---- Members

with_cases : {A : Type 0} (m z y : ℕ) → z < 64 → in_set (with_in m z) y ≡ true → (y ≡ z → A) → (in_set m y ≡ true → A) → A
with_cases m z y h i f k = by_bool (in_set m y) k
    (λ o. by_eq y z f
    (λ n. let e : z % 64 ≡ z = omega arith in clash i (with_members m z y ∙ rw (o, e, ne_eqb y z n))))

with_itself : (m z : ℕ) → z < 64 → in_set (with_in m z) z ≡ true
with_itself m z h = by_bool (in_set (with_in m z) z) (λ i. i) (λ o. absurd ((with_out m z z h o).1 refl))

-- ---- Gates

module _ (g : List ℕ) (low may shut : ℕ) where
  -- none was opened: the least phase is not above any of them
  pub gates_same : (gate : ℕ) → low ≤ gate → ((z : ℕ) → z < 64 → in_set shut z ≡ true → gate ≤ get_or g z 0) → GatesOpened g low may shut 0 may shut gate
  gates_same gate h k = record {
    runners = λ z l o. o;
    closed = λ z l n i o. omega (arith, h, k z l i);
    opened = λ z l n i o. clash i o;
    still = record { least = k; below = h };
  }

  pub gates_start : low ≤ no_phase → GatesOpened g low may shut shut may 0 no_phase
  gates_start h = record {
    runners = λ z l o. o;
    closed = λ z l n i o. clash i n;
    opened = λ z l n i o. clash i n;
    still = record { least = λ z l i. clash i (none_in z); below = h };
  }

  pub gates_end : (left may' shut' gate' : ℕ) → left ≡ 0 → GatesOpened g low may shut left may' shut' gate' → GatesOpened g low may shut 0 may' shut' gate'
  gates_end left may' shut' gate' e G = rw e at G

  module _ (left may' shut' gate' z left' : ℕ) (p : 0 < left) (lt : left < 2 ^ 64) (ez : z ≡ first_in left) (hz : z < 64) (el : left' ≡ rest_of left)
      (G : GatesOpened g low may shut left may' shut' gate') where
    was_out : (y : ℕ) → in_set left' y ≡ false → y ≢ z → in_set left y ≡ false
    was_out y o n = rest_out left p lt y (rw el at o) (λ x. n (x ∙ sym ez))

    -- the gate of the first of them is open; it is shut
    pub gates_open : get_or g z 0 < low → (m s k : ℕ) → m ≡ with_in may' z → s ≡ shut' → k ≡ gate' → GatesOpened g low may shut left' m s k
    gates_open h m s k em es ek = rw (es, ek) (record {
      runners = λ y l o. G.runners y l (with_out may' z y hz (rw em at o)).0;
      closed = λ y l n i o. let w = with_out may' z y hz (rw em at o) in G.closed y l (was_out y n w.1) i w.0;
      opened = λ y l n i o. by_eq y z (λ e. rw e h) (λ d. G.opened y l (was_out y n d) i o);
      still = G.still;
    })

    pub gates_shut : low ≤ get_or g z 0 → (m s k : ℕ) → m ≡ may' → s ≡ with_in shut' z → k ≡ lesser (get_or g z 0) gate' → GatesOpened g low may shut left' m s k
    gates_shut h m s k em es ek = rw em (record {
      runners = G.runners;
      closed = λ y l n i o. by_eq y z (λ e. rw e h) (λ d. G.closed y l (was_out y n d) i o);
      opened = λ y l n i o. let w = with_out shut' z y hz (rw es at o) in G.opened y l (was_out y n w.1) i w.0;
      still = record {
        least = λ y l i. with_cases shut' z y hz (rw es at i) (λ e. rw e less.1) (λ j. omega (arith, less.0, G.still.least y l j));
        below = less.2;
      };
    })
      where
        less : (k ≤ gate') × (k ≤ get_or g z 0) × (low ≤ k)
        less = by_lt (get_or g z 0) gate'
            (λ x. let e : k ≡ get_or g z 0 = ek ∙ rw (lt-ltb (get_or g z 0) gate' x) in (omega arith, omega arith, omega arith))
            (λ x. let e : k ≡ gate' = ek ∙ rw (le-ltb (get_or g z 0) gate' x) in (omega arith, omega arith, omega (arith, G.still.below)))

-- ---- Lists

pub grown_same : (rs : List ℕ) (m : ℕ) → Grown rs m rs m
grown_same rs m = record { ready = λ p hp q hq o. o; sends = λ p hp o. o }

grown_more : (rs rs' rs'' : List ℕ) (m m' m'' : ℕ) → Grown rs m rs' m' → Grown rs' m' rs'' m'' → Grown rs m rs'' m''
grown_more rs rs' rs'' m m' m'' G H = record {
  ready = λ p hp q hq o. G.ready p hp q hq (H.ready p hp q hq o);
  sends = λ p hp o. G.sends p hp (H.sends p hp o);
}

joined_more : (t rs rs' : List ℕ) (m m' k : ℕ) → Grown rs m rs' m' → Joined t rs m k → Joined t rs' m' k
joined_more t rs rs' m m' k G J = (
  by_bool (in_set (get_or rs' (at_w t k) 0) (peer_w t k)) (λ i. i) (λ o. clash J.0 (G.ready (at_w t k) (omega arith) (peer_w t k) (omega arith) o)),
  by_bool (in_set m' (at_w t k)) (λ i. i) (λ o. clash J.1 (G.sends (at_w t k) (omega arith) o)),
)

-- the ends of one channel join
module _ (t rs : List ℕ) (m k p q : ℕ) (n : length rs ≡ 64) (ep : p ≡ at_w t k) (eq : q ≡ peer_w t k) (v m' : ℕ) (ev : v ≡ with_in (get_or rs p 0) q) (em : m' ≡ with_in m p) where
  p_lt : p < 64
  p_lt = rw ep (omega arith)

  q_lt : q < 64
  q_lt = rw eq (omega arith)

  at_p : get_or (set rs p v) p 0 ≡ v
  at_p = get_or-set_same rs p v 0 (omega (arith, n, p_lt))

  end_grown : Grown rs m (set rs p v) m'
  end_grown = record {
    ready = λ x hx y hy o. by_eq x p
        (λ e. rw e (with_out (get_or rs p 0) q y q_lt (rw (e, at_p, ev) at o)).0)
        (λ d. rw (get_or-set_other rs p x v 0 d) at o);
    sends = λ x hx o. (with_out m p x p_lt (rw em at o)).0;
  }

  end_joined : Joined t (set rs p v) m' k
  end_joined = (rw (← ep, ← eq, at_p, ev) (with_itself (get_or rs p 0) q q_lt), rw (← ep, em) (with_itself m p p_lt))

-- the next event on a list is a later one, or there is none
pub link_lt : (l : List ℕ) (k : ℕ) → Small l → get_or l k 0 < 2049
unfolding Small
link_lt l k s = s k

pub link_more : (l : List ℕ) (m : ℕ) → ListsRising l → 0 < get_or l (4 * m + 3) 0 → m < get_or l (4 * m + 3) 0
unfolding ListsRising
link_more l m r = r m

pub link_down : (m n : ℕ) → 0 < m → m < 2049 → n < 2049 → (0 < n → m < n) → (2049 - n) % 2049 < (2049 - m) % 2049
link_down m n p h k r = by_eq n 0 (λ e. rw e (omega arith)) (λ d. let x = r (omega arith) in omega arith)

-- the list from x on has been walked to event m
module _ (t l : List ℕ) (x : ℕ) (rs₀ : List ℕ) (m₀ : ℕ) where
  pub record Walking (rs : List ℕ) (senders m : ℕ) : Type 0 where
    pub long : length rs ≡ 64
    pub event_lt : m < 2049
    pub grown : Grown rs₀ m₀ rs senders
    pub joined : (k : ℕ) → OnList l x k → OnList l m k ⊎ Joined t rs senders k

  pub walking_start : length rs₀ ≡ 64 → x < 2049 → Walking rs₀ m₀ x
  walking_start n h = record { long = n; event_lt = h; grown = grown_same rs₀ m₀; joined = λ k o. inl o }

  on_next : (m k : ℕ) → OnList l m k → (k ≡ m → ⊥) → OnList l (get_or l (4 * m + 3) 0) k
  on_next m k (here y h) n = absurd (n refl)
  on_next m k (later y w h o) n = o

  pub walking_next : (rs : List ℕ) (senders m p q v s' m' : ℕ) → p ≡ at_w t m → q ≡ peer_w t m → v ≡ with_in (get_or rs p 0) q → s' ≡ with_in senders p
      → m' ≡ get_or l (4 * m + 3) 0 → m' < 2049 → length (set rs p v) ≡ 64 → Walking rs senders m → Walking (set rs p v) s' m'
  walking_next rs senders m p q v s' m' ep eq ev es em lt n W = record {
    long = n;
    event_lt = lt;
    grown = grown_more rs₀ rs (set rs p v) m₀ senders s' W.grown G;
    joined = λ k o. ⊎_elim
        (λ i. by_eq k m
        (λ e. inr (rw e (end_joined t rs senders m p q W.long ep eq v s' ev es)))
        (λ d. inl (rw em (on_next m k i d))))
        (λ j. inr (joined_more t rs (set rs p v) senders s' k G j))
        (W.joined k o);
  }
    where
      G : Grown rs senders (set rs p v) s'
      G = end_grown t rs senders m p q W.long ep eq v s' ev es

  on_none : (k : ℕ) → OnList l 0 k → ⊥
  on_none k (here y h) = omega arith
  on_none k (later y w h o) = omega arith

  pub walking_end : (rs : List ℕ) (senders m : ℕ) → m ≡ 0 → Walking rs senders m → ListJoined t l x rs₀ m₀ rs senders
  walking_end rs senders m e W = record {
    grown = W.grown;
    joined = λ k o. ⊎_elim (λ i. absurd (on_none k (rw e at i))) (λ j. j) (W.joined k o);
  }

pub lesser_le : (a b r : ℕ) → r ≡ lesser a b → r ≤ b
lesser_le a b r e = by_lt a b
    (λ h. let q : r ≡ a = e ∙ rw (lt-ltb a b h) in omega arith)
    (λ h. let q : r ≡ b = e ∙ rw (le-ltb a b h) in omega arith)

-- the lists of phases from one on have been walked up to another
module _ (t l h : List ℕ) (from : ℕ) (rs₀ : List ℕ) (m₀ : ℕ) where
  pub phases_start : (to : ℕ) → to ≤ from → PhasesJoined t l h from to rs₀ m₀ rs₀ m₀
  phases_start to e = record { grown = grown_same rs₀ m₀; joined = λ f i k. absurd (omega arith) }

  pub phases_next : (rs rs' : List ℕ) (m m' f x : ℕ) → x ≡ get_or h f 0 → ListJoined t l x rs m rs' m' → PhasesJoined t l h from f rs₀ m₀ rs m → PhasesJoined t l h from (f + 1) rs₀ m₀ rs' m'
  phases_next rs rs' m m' f x ex J P = record {
    grown = grown_more rs₀ rs rs' m₀ m m' P.grown J.grown;
    joined = λ k i j top e o. by_eq k f
        (λ q. J.joined e (rw (ex, ← q) o))
        (λ q. joined_more t rs rs' m m' e J.grown (P.joined k i (omega (arith, j, q)) top e o));
  }

  pub phases_less : (rs : List ℕ) (m to f : ℕ) → to ≤ f → PhasesJoined t l h from f rs₀ m₀ rs m → PhasesJoined t l h from to rs₀ m₀ rs m
  phases_less rs m to f e P = record { grown = P.grown; joined = λ k i j. P.joined k i (omega arith) }

  -- phases above those of all messages need no walk
  pub phases_top : (rs : List ℕ) (m to top is : ℕ) → top ≡ events_w t + 2 → to ≡ lesser is top → PhasesJoined t l h from to rs₀ m₀ rs m → PhasesJoined t l h from is rs₀ m₀ rs m
  phases_top rs m to top is et eo P = record { grown = P.grown; joined = λ f i j k. P.joined f i (least f j (omega (arith, k, et))) k }
    where
      least : (f : ℕ) → f < is → f < top → f < to
      least f j k = by_lt is top
          (λ x. let e : to ≡ is = eo ∙ rw (lt-ltb is top x) in omega arith)
          (λ x. let e : to ≡ top = eo ∙ rw (le-ltb is top x) in omega arith)

-- ---- A kept message that is ready now

module _ (R : Run) (t l h g a₀ : List ℕ) (S : Started R t l g a₀) (L : KeptListed R t l h) (a : List ℕ) (s : State) (r : Rel R a s) (i : Inv R s) where
  -- the oldest kept message of a channel is an event of the trace, and kept
  module _ (p q : ℕ) (hp : p < 64) (hq : q < 64) (no : send_ok (get_or g (64 + p) 0) (put_w a (64 * p + q)) ≡ false) where
    abbrev m : ℕ
    m = put_w a (64 * p + q)

    c : Chan R s p q (take_w a (64 * p + q)) (put_w a (64 * p + q))
    c = r.chan p q hp hq

    m_some : m ≢ 0
    m_some e = clash (rw (eq-eqb m 0 e)) no

    m_in : (0 < m) × (m ≤ size R.trace) × (goes R p q m ≡ true)
    m_in = go c.F refl
      where
        go : (F : List ℕ) → c.F ≡ F → (0 < m) × (m ≤ size R.trace) × (goes R p q m ≡ true)
        go [] e = absurd (m_some (c.pt_is ∙ ap head0 e))
        go (f ∷ fs) e =
            let b = evs_head R S.laws p q c.y f fs c.y_le (sym c.rest ∙ e) in
            let w : m ≡ f = c.pt_is ∙ ap head0 e in
            rw w (omega (arith, b.0), b.1, b.2)

    p_in : p < R.trace.procs
    p_in = omega (arith, S.laws.process_lt m m_in.0 m_in.1, (sends_is R.trace p q m (goes_send R S.laws p q m m_in.2)).0)

    m_early : m ≤ R.restart p
    m_early = by_lt (R.restart p) m
        (λ k. clash (rw (S.cols.gated.places p p_in, lt-ltb (R.restart p) m k) (or-true (eqb m 0))) no)
        (λ k. k)

    on_list : (at_w t m ≡ p) × (peer_w t m ≡ q) × (phase_w t m < events_w t + 2) × OnList l (get_or h (phase_w t m) 0) m
    on_list = let k = L.kept p q m m_in.0 m_in.1 m_in.2 m_early in (k.0, k.1, L.phases m m_in.0 m_in.1, k.2)

  module _ (was is : ℕ) (lt : is ≤ no_phase) (rs rs' : List ℕ) (m m' : ℕ) (P : PhasesJoined t l h was is rs m rs' m') where
    -- a channel whose oldest kept message is ready now has joined
    rise : (p q : ℕ) → p < 64 → q < 64 → was ≤ kept_phase t g a p (64 * p + q) → kept_phase t g a p (64 * p + q) < is → (in_set (get_or rs' p 0) q ≡ true) × (in_set m' p ≡ true)
    unfolding kept_phase
    rise p q hp hq low high = by_bool (send_ok (get_or g (64 + p) 0) (put_w a (64 * p + q)))
        (λ k. absurd (let e : no_phase < is = rw k at high in omega (arith, e, lt)))
        (λ k. let o = on_list p q hp hq k in
        let e = put_w a (64 * p + q) in
        let b : was ≤ phase_w t e = rw k at low in
        let d : phase_w t e < is = rw k at high in
        rw (o.0, o.1) at (P.joined (phase_w t e) b d o.2 e o.3))

    pub rise_unready : Unready t g a was rs → Unready t g a is rs'
    unfolding Unready
    rise_unready u p hp q hq o = by_lt (kept_phase t g a p (64 * p + q)) is
        (λ k. clash (rise p q hp hq (u p hp q hq (P.grown.ready p hp q hq o)) k).0 o)
        (λ k. k)

    pub rise_waiting : Waiting t g a was m → Waiting t g a is m'
    unfolding Waiting
    rise_waiting w p hp o q hq = by_lt (kept_phase t g a p (64 * p + q)) is
        (λ k. clash (rise p q hp hq (w p hp (P.grown.sends p hp o) q hq) k).1 o)
        (λ k. k)
