-- The lines of messages: from the words of the events that send them to the messages.
use Prim.Native.Nat.{ℕ, zero, suc}
use mathlib.Core.Path.{◌≡◌, refl, sym, ap, ◌∙◌}
use mathlib.Core.List.{List, [], ◌∷◌, ◌++◌, map, append_assoc, append-nil}
use lib.ListN.{length}
use Prim.Native.String.{String}
use Rattle.theory.specs.Answers.{gather}
use Rattle.listing.specs.Inner.Words.{message_w}
use Rattle.text.specs.Bytes.{bytes_of}
use Rattle.printing.proofs.Lines.{words_line}
use Rattle.report.specs.Report.{message_lines}
use Rattle.report.specs.Inner.Rows.{event_row, event_rows}

-- a list gathered from the first
gather_first : {A : Type 0} (f : ℕ → List A) (n : ℕ) → gather f (suc n) ≡ f 0 ++ gather (λ i. f (suc i)) n
unfolding gather
gather_first f zero = sym (append-nil (f 0))
gather_first f (suc n) = ap (λ (x : List _). x ++ f (suc n)) (gather_first f n) ∙ append_assoc (f 0) (gather (λ i. f (suc i)) n) (f (suc n))

-- the lines that the code writes are those of the messages
pub lines_are : (key : String) (full events : List ℕ) → event_rows (bytes_of key) full events ≡ message_lines key (map (message_w full) events)
unfolding event_rows gather message_lines
lines_are key full [] = refl
lines_are key full (e ∷ events) =
    gather_first _ (length events) ∙ ap (λ (x : List ℕ). event_row (bytes_of key) full e ++ x) (lines_are key full events)
    ∙ ap (λ (x : List ℕ). x ++ message_lines key (map (message_w full) events)) (words_line key _ _ _)
