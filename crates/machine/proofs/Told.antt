-- What the table and the gates of a run say where a step asks them: from the one view of the full table, and from the
-- gates.
use mathlib.Core.Path.{◌≡◌, refl, sym, ◌∙◌}
use mathlib.Core.List.{List}
use Prim.Native.Nat.{ℕ, ◌≤◌, ◌<◌}
use native.Mathlib.Omega.{arith}
use Rattle.words.specs.Halves.{half}
use Rattle.theory.specs.Events.{send, size, at, kind, sent, value}
use Rattle.theory.specs.Line.{Run}
use Rattle.theory.specs.Replay.{gate}
use Rattle.theory.proofs.Base.{by}
use Rattle.theory.proofs.Events.{sends_of}
use Rattle.columns.specs.Inner.Full.{procs_w, kind_w, peer_w, number_w, value_w, phase_w, kind_by}
use Rattle.columns.specs.Inner.Given.{Tells, Gated}
use Rattle.columns.proofs.Bounds.{phase_most}
use Rattle.columns.proofs.Full as view
use Rattle.machine.specs.Inner.Words.{no_phase}
use Rattle.machine.specs.Inner.Related.{Cols}

pub record Told (R : Run) (t g : List ℕ) : Type 0 where
  pub few : size R.trace ≤ 2048
  pub procs_is : procs_w t ≡ R.trace.procs
  pub kinds : (e : ℕ) → 0 < e → e ≤ size R.trace → kind R.trace e ≡ kind_by (kind_w t e) (peer_w t e)
  pub numbers : (e q : ℕ) → 0 < e → e ≤ size R.trace → kind R.trace e ≡ send q → number_w t e ≡ sent R.trace (at R.trace e) q e
  pub values : (b e q : ℕ) → b < 2 → 0 < e → e ≤ size R.trace → kind R.trace e ≡ send q
      → value_w b t e ≡ half b (value R.trace (at R.trace e) q (sent R.trace (at R.trace e) q e))
  pub phases : (e : ℕ) → 0 < e → e ≤ size R.trace → phase_w t e ≡ R.phase (at R.trace e) e
  pub phase_lt : (e : ℕ) → 0 < e → e ≤ size R.trace → R.phase (at R.trace e) e < no_phase
  pub gated : Gated R g
  pub gate_lt : (z : ℕ) → gate R z < no_phase

module _ (R : Run) (t g : List ℕ) (T : Tells R t) (G : Gated R g) where
  phase_few : (z x : ℕ) → x ≤ size R.trace → R.phase z x < no_phase
  phase_few z x h = omega (arith, T.phases z x, phase_most R.trace (view.fit R.trace t T.tabled) z x h, view.few R.trace t T.tabled)

  gate_few : (z : ℕ) → gate R z < no_phase
  unfolding gate
  gate_few z =
      let a = phase_few z (R.restart z) (omega (arith, T.laws.restart_le z, T.laws.cut_le)) in
      by (R.stays z) (λ u. rw u a) (λ u. rw u (omega arith))

  pub told_of : Told R t g
  told_of =
      let C = T.tabled.columns in
      record {
        few = view.few R.trace t T.tabled;
        procs_is = view.procs_is R.trace t T.tabled;
        kinds = view.kind_is R.trace t T.tabled;
        numbers = λ e q h k c. C.number_send (at R.trace e) q e (sends_of R.trace (at R.trace e) q e refl c) h k;
        values = λ b e q l h k c. view.send_value R.trace t T.tabled (at R.trace e) q e (sends_of R.trace (at R.trace e) q e refl c) h k b l;
        phases = λ e h k. C.phase e h k ∙ sym (T.phases (at R.trace e) e);
        phase_lt = λ e h k. phase_few (at R.trace e) e k;
        gated = G;
        gate_lt = gate_few;
      }

pub told : (R : Run) (t l g : List ℕ) → Cols R t l g → Told R t g
told R t l g K = told_of R t g K.tells K.gated
