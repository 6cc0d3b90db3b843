-- Places of a line past its count are not read: lines with the same numbers are one to every call.
use Prim.Native.Nat.{ℕ, ◌<◌}
use mathlib.Core.Path.{◌≡◌, ap, ◌∙◌, fun_ext}
use mathlib.Core.Bool.{true, false}
use mathlib.Core.List.{List}
use lib.ListN.{get_or}
use lib.Dec.{ltb}
use borrow.Author.Tests.{ltb-true}
use Rattle.words.proofs.Cases.{by_bool}
use Rattle.recovery_line.specs.declared.Line.{Line}
use Rattle.recovery_line.specs.Given.{line_in}
use Rattle.table.specs.Held.{held}
use Rattle.theory.specs.Line.{run_at}
use Rattle.theory.specs.Order.{lowest_order}
use Rattle.preparing.specs.Faults.{run_of, line_fault_of}
use Rattle.messages.specs.Messages.{messages_answer, messages_area}
use Rattle.recovery.specs.Answers.{replay_answer, replay_area}

pub same_lines : (l m : Line) → l.count ≡ m.count → ((z : ℕ) → z < l.count → get_or l.epochs z 0 ≡ get_or m.epochs z 0) → line_in l ≡ line_in m
same_lines l m count numbers = fun_ext (λ z. by_bool (ltb z l.count)
    (λ b. let c : ltb z m.count ≡ true = rw (← count) b in rw (b, c) (numbers z (ltb-true z l.count b)))
    (λ b. let c : ltb z m.count ≡ false = rw (← count) b in rw (b, c)))

module _ (a area : List ℕ) (step set : ℕ) (l m : Line) (count : l.count ≡ m.count) (same : line_in l ≡ line_in m) where
  pub same_messages : (messages_answer a area step set l ≡ messages_answer a area step set m) × (messages_area a area step set l ≡ messages_area a area step set m)
  unfolding messages_answer messages_area line_fault_of
  same_messages = (rw (same, count), rw (same, count))

  pub same_replays : (order : List ℕ)
      → (replay_answer a area step set l order ≡ replay_answer a area step set m order) × (replay_area a area step set l order ≡ replay_area a area step set m order)
  unfolding replay_answer replay_area line_fault_of
  same_replays order = (rw (same, count), rw (same, count))

  same_order : lowest_order (run_of a step l) ≡ lowest_order (run_of a step m)
  same_order = ap (λ (f : ℕ → ℕ). lowest_order (run_at (held a) step f)) same

  pub same_lowest : let one = lowest_order (run_of a step l) in let two = lowest_order (run_of a step m) in
      (replay_answer a area step set l one ≡ replay_answer a area step set m two) × (replay_area a area step set l one ≡ replay_area a area step set m two)
  same_lowest = (
    (same_replays (lowest_order (run_of a step l))).0 ∙ ap (replay_answer a area step set m) same_order,
    (same_replays (lowest_order (run_of a step l))).1 ∙ ap (replay_area a area step set m) same_order,
  )
