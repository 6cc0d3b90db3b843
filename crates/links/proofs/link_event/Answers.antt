-- `links::link_event` meets its contract: its process's chain or the record, and what it sends.
use mathlib.Core.Path.{refl, sym, ◌∙◌, ap}
use mathlib.Core.Bool.{true, false}
use borrow.Author.Tests.{lt-ltb, le-ltb, eq-eqb, ne_eqb}
use Rattle.links.proofs.Passing.{pointed_next, linked_l_lem, linked_a_lem, chain_yes, chain_no, record_yes, record_none, early_listed, early_other}
use Rattle.trace.specs.Kind.{number_of_kind}
use Rattle.machine.proofs.Steps.{kind_receive}
use native.Mathlib.Omega.{arith}
use Rattle.links.proofs.link_event.Goals as goal

pub link_sent-requires : goal.link_sent-requires
link_sent-requires c =
    let z = c.process-z.ensures.1 in (
      record { process_lt = z; channel_lt = omega (arith, z, c.peer.ensures.1); event_lt = c.requires.readable.event_lt },
      omega (arith, c.chain.auto.links, c.requires.links_long),
      pointed_next true _ _ _ _ (omega (arith, z)) c.requires.readable.event_lt c.requires.pointed (c.chain.ensures.words ∙ chain_yes true _ _ _ refl),
    )

pub returns-then-restart-e : goal.returns-then-restart-e
returns-then-restart-e c =
    let l = c.chain.ensures.links ∙ chain_yes true _ _ _ refl in
    let a = c.chain.ensures.words ∙ chain_yes true _ _ _ refl in
    let z = c.process-z.ensures.0 in
    let q = c.peer.ensures.0 in
    let mine = lt-ltb _ _ c.if-restart-e.true in
    record {
      links = linked_l_lem c.args.full.now c.args.gates.now c.args.cut c.args.links.now c.args.area.now c.args.e _ _ _ _ _ _ _ z q refl mine l a c.class_sent-class.ensures _ c.link_sent.ensures.links;
      words = linked_a_lem c.args.full.now c.args.gates.now c.args.cut c.args.links.now c.args.area.now c.args.e _ _ _ _ _ _ _ z q refl mine l a c.class_sent-class.ensures _ _ _ (early_listed _ _ _ _ _ z refl c.if-restart-e.true) c.link_sent.ensures.words (record_none _ _ _ _);
      class = c.class_sent-class.ensures;
    }

pub returns-in-Receive : goal.returns-in-Receive
returns-in-Receive c =
    let z = c.process-z.ensures.0 in
    let q = c.peer-2.ensures.0 in
    let mine = le-ltb _ _ c.if-restart-e.false in
    let early = sym (eq-eqb _ 2 (ap number_of_kind c.in-Receive.is)) ∙ early_other _ _ _ _ _ z refl c.if-restart-e.false _ c.of.ensures in
    record {
      links = linked_l_lem c.args.full.now c.args.gates.now c.args.cut c.args.links.now c.args.area.now c.args.e _ _ _ _ _ _ _ z q refl mine (chain_no false _ _ _ refl) (chain_no false _ _ _ refl) c.class_sent-class-2.ensures _ c.link_sent-2.ensures.links;
      words = linked_a_lem c.args.full.now c.args.gates.now c.args.cut c.args.links.now c.args.area.now c.args.e _ _ _ _ _ _ _ z q refl mine (chain_no false _ _ _ refl) (chain_no false _ _ _ refl) c.class_sent-class-2.ensures _ _ _ early c.link_sent-2.ensures.words (c.note_taken.ensures ∙ record_yes _ _ _ _ _ c.matched.ensures.0);
      class = c.class_sent-class-2.ensures;
    }

pub returns-in_default : goal.returns-in_default
returns-in_default c =
    let z = c.process-z.ensures.0 in
    let q = c.peer-2.ensures.0 in
    let mine = le-ltb _ _ c.if-restart-e.false in
    let early = sym (ne_eqb _ 2 (λ k. c.in_default.not-Receive (kind_receive c.of.result k))) ∙ early_other _ _ _ _ _ z refl c.if-restart-e.false _ c.of.ensures in
    record {
      links = linked_l_lem c.args.full.now c.args.gates.now c.args.cut c.args.links.now c.args.area.now c.args.e _ _ _ _ _ _ _ z q refl mine (chain_no false _ _ _ refl) (chain_no false _ _ _ refl) c.class_sent-class-2.ensures _ c.link_sent-2.ensures.links;
      words = linked_a_lem c.args.full.now c.args.gates.now c.args.cut c.args.links.now c.args.area.now c.args.e _ _ _ _ _ _ _ z q refl mine (chain_no false _ _ _ refl) (chain_no false _ _ _ refl) c.class_sent-class-2.ensures _ _ _ early c.link_sent-2.ensures.words (record_none _ _ _ _);
      class = c.class_sent-class-2.ensures;
    }
