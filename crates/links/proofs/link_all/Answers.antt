use mathlib.Core.Path.{refl, ◌∙◌, ap}
use mathlib.Core.List.{List}
use Prim.Native.Nat.{ℕ}
use lib.ListN.{length, length-replicate}
use Rattle.links.specs.Inner.Linking.{head_words}
use Rattle.links.proofs.Passing.{paired_at, phased_at, words_turn, links_turn, heads_turn, words_none, links_none, heads_none, pointed_turn}
use native.Mathlib.Omega.{arith}
use Rattle.links.proofs.link_all.Goals as goal

pub loop-x-init : goal.loop-x-init
loop-x-init c = record {
  within = omega arith;
  links_same = refl;
  heads_long = ap (λ (l : List ℕ). length l) c.requires.1 ∙ length-replicate {A = ℕ} head_words 0;
  heads_are = heads_none _ _ _ _ _ c.requires.1;
  links_are = links_none _ _ _ _ _ _;
  words_are = words_none _ _ _ _ _;
  pointed = c.requires.0.pointed;
}

pub link_event-class-requires : goal.link_event-class-requires
link_event-class-requires c =
    let r = c.requires.0 in
    let v = c.loop-x.invariant in record {
      readable = record {
        event_lt = omega (arith, r.count_lt, v.within);
        full_long = r.full_long;
        gates_long = r.gates_long;
        paired = paired_at _ _ _ r.paired c.loop-x-test.true v.within;
      };
      links_long = omega (arith, v.links_same, r.links_long);
      pointed = v.pointed;
    }

pub list_kept-requires : goal.list_kept-requires
list_kept-requires c =
    let r = c.requires.0 in
    let v = c.loop-x.invariant in record {
      event_lt = omega (arith, r.count_lt, v.within);
      full_long = r.full_long;
      links_long = omega (arith, c.link_event-class.auto.links, v.links_same, r.links_long);
      heads_long = v.heads_long;
      phase_lt = phased_at _ _ _ r.phased c.loop-x-test.true v.within;
    }

pub loop-x-preserved : goal.loop-x-preserved
loop-x-preserved c =
    let v = c.loop-x.invariant in
    let said = c.link_event-class.ensures in
    let l = c.loop-x.links in
    let a = c.loop-x.area in
    let h = c.loop-x-test.true in record {
      within = omega (arith, v.within);
      links_same = c.list_kept.auto.links ∙ c.link_event-class.auto.links ∙ v.links_same;
      heads_long = c.list_kept.auto.heads ∙ v.heads_long;
      heads_are = heads_turn _ _ _ _ _ h v.within l a l a l a _ _ _ v.heads_are said.class c.list_kept.ensures.heads;
      links_are = links_turn _ _ _ _ _ h v.within _ _ _ _ _ a _ c.loop-x.heads _ v.heads_are said.class v.words_are v.links_are _ said.links c.list_kept.ensures.links;
      words_are = words_turn _ _ _ _ _ h v.within l _ l _ l _ v.words_are said.words;
      pointed = pointed_turn _ _ _ _ _ _ (omega (arith, c.requires.0.count_lt, v.within)) v.pointed said.words;
    }
