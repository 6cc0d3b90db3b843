-- Each way out of `respond`: a refusal of an input that is too long, or the report of what was read.
use Prim.Native.Nat.{ℕ, ◌+◌, ◌<◌, ◌≤◌}
use mathlib.Core.Path.{◌≡◌, sym, ap, ◌∙◌}
use mathlib.Core.List.{List}
use mathlib.Core.Bool.{Bool, cond}
use native.Mathlib.Omega.{arith}
use lib.ListN.{length, take}
use lib.Seq.{take-append_seam, take_all, length-take-le}
use Rattle.writer.specs.Inner.Puts.{Puts}
use Rattle.writer.specs.Buffer.{room, written}
use Rattle.writer.proofs.Buffers.{whole, next_within}
use Rattle.printing.specs.Lines.{refusal_line}
use Rattle.report.specs.Report.{is_refusal, failure_of, recovery, reported, StepsPrinted, report_bytes}
use Rattle.report.proofs.Lengths.{refusal_few}
use Rattle.program.specs.Program.{ReadFrom, printed, status_of, StepsShown}
use Rattle.program.proofs.Claims.{too_long_printed, reported_printed}
use Rattle.program.proofs.Reading.{too_long, whole_read}

-- what is promised of an input: what stands in the buffer, how much of it, and the status
pub record Responds (input out after : List ℕ) (n status : ℕ) : Type 0 where
  pub bytes : take n after ≡ printed input
  pub told : status ≡ status_of input
  pub all : n ≡ length (printed input)
  pub buffer : after ≡ written (printed input) out
  pub exact : StepsShown input
  pub few : length (printed input) ≤ report_bytes

-- bytes for which there is room stand whole at the front
fits : (bs out : List ℕ) → length bs ≤ length out → room bs out ≡ bs
unfolding room
fits bs out h = take_all (length out) bs h

front : (bs out : List ℕ) → length bs ≤ length out → take (length bs) (written bs out) ≡ bs
unfolding written
front bs out h = rw (fits bs out h) (take-append_seam bs _)

module _ (buffer out after : List ℕ) (count n : ℕ) (longer : length buffer ≡ 65536 + 1) (big : length out ≡ report_bytes)
    (kept : length after ≡ length out) where
  -- the clauses of the contract
  abbrev pub Contract : ℕ → Type 0
  Contract status =
      ((input : List ℕ) → ReadFrom input buffer count → take n after ≡ printed input)
      × (((input : List ℕ) → ReadFrom input buffer count → status ≡ status_of input)
      × (((input : List ℕ) → ReadFrom input buffer count → n ≡ length (printed input))
      × (((input : List ℕ) → ReadFrom input buffer count → after ≡ written (printed input) out)
      × (((input : List ℕ) → ReadFrom input buffer count → StepsShown input)
      × (((input : List ℕ) → ReadFrom input buffer count → length (printed input) ≤ report_bytes)
      × ((n ≤ length after) × (n ≡ length (take n after))))))))

  contract : (bs : List ℕ) (status : ℕ) → n ≡ length (room bs out) → ((input : List ℕ) → ReadFrom input buffer count → Responds input out after n status)
      → Contract status
  contract bs status hn h =
      let within = next_within bs out after n hn kept in (
        (λ x r. (h x r).bytes),
        ((λ x r. (h x r).told), ((λ x r. (h x r).all), ((λ x r. (h x r).buffer), ((λ x r. (h x r).exact), ((λ x r. (h x r).few), (within, sym (length-take-le n after within))))))),
      )

  -- what was written is what the program prints
  holds : (input bs : List ℕ) (status : ℕ) → bs ≡ printed input → length bs ≤ report_bytes → n ≡ length (room bs out) → after ≡ written bs out
      → status ≡ status_of input → StepsShown input → Responds input out after n status
  holds input bs status e few hn ha hs exact =
      let m : n ≡ length bs = hn ∙ ap length (fits bs out (omega arith)) in
      record {
        bytes = rw (m, ha) (front bs out (omega arith)) ∙ e;
        told = hs;
        all = m ∙ ap length e;
        buffer = ha ∙ ap (λ (x : List ℕ). written x out) e;
        exact = exact;
        few = rw e at few;
      }

  -- more than 65,536 bytes were read
  pub refuses_long : (status : ℕ) → 65536 < count → Puts (refusal_line 1 0) out 0 after n → status ≡ 1 → Contract status
  refuses_long status h p hs =
      let w = whole (refusal_line 1 0) out after n p in
      contract (refusal_line 1 0) status w.1
      (λ input r.
      let more = too_long input buffer count 65536 longer r h in
      let (e, s) = too_long_printed input more in
      holds input (refusal_line 1 0) status (sym e) (refusal_few 1 0) w.1 w.0 (hs ∙ sym s) (λ f short. absurd (let z : ⊥ = omega arith in z)))

  -- the whole input was read and is reported
  pub reports : (text : List ℕ) (b : Bool) (status : ℕ) → text ≡ take count buffer → count ≤ 65536 → n ≡ length (room (reported text) out)
      → after ≡ written (reported text) out → StepsPrinted text → length (reported text) ≤ report_bytes → b ≡ is_refusal (recovery text)
      → status ≡ cond b 1 0 → Contract status
  reports text b status t h hn ha exact few hb hs =
      contract (reported text) status hn
      (λ input r.
      let e : text ≡ input = t ∙ whole_read input buffer count 65536 longer r h in
      let n = ap length (sym e ∙ t) in
      let (p, s) = reported_printed input (omega (arith, length-take-le count buffer (omega arith))) in
      holds input (reported text) status (ap reported e ∙ sym p) few hn ha (rw (s, ← e, ← hb) hs) (λ f _ q. rw (p, ← e) (exact f (ap failure_of e ∙ q))))
