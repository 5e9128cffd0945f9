-- The waiting cells are lined up. A phase writes its row of words in its place; where one moves nothing, the table stays and the words behind its
-- row become 0.
use Rattle.std.proofs.Common.{refl, ◌∙◌, rules, arith}
use borrow.Rule.Slice.PartMut.{same_len_mid}
use Rattle.queues.specs.Lining.{lined_up_lem}
use Rattle.matching.specs.Ready.{orderly_lineable}
use Rattle.matching.specs.Transfers.{phases-none, phases-ready, phases_more, phases_quiet, phases_all}
use Rattle.matching.proofs.transfers.Goals as goal

pub loop-init : goal.loop-init
loop-init c =
    record {
      table = refl;
      after = phases-none _ _ _ _ _ _ (rw c.line_up.ensures (lined_up_lem (orderly_lineable c.requires.orderly))) c.requires.matches_len;
    }

pub transfer-moved-requires-clause-ready : goal.transfer-moved-requires-clause-ready
transfer-moved-requires-clause-ready c = phases-ready c.loop.invariant.after c.requires.orderly

pub returns-then-moved-eq0-clause-table_after : goal.returns-then-moved-eq0-clause-table_after
returns-then-moved-eq0-clause-table_after c =
    let i = c.loop.invariant in
    let e = c.transfer-moved.ensures in
    let same = same_len_mid _ _ c.loop.matches _ c.transfer-moved.auto.words in
    let table = e.same_table ∙ i.table in
    let after =
    (phases_quiet i.after c.loop-test.true e.transferred _ same c.requires.orderly c.if-moved-eq0.true _ _ refl (c.fill.ensures.after (λ y h. search rules))).0 in
    search rules

pub returns-then-moved-eq0-clause-matches_after : goal.returns-then-moved-eq0-clause-matches_after
returns-then-moved-eq0-clause-matches_after c =
    let i = c.loop.invariant in
    let e = c.transfer-moved.ensures in
    let same = same_len_mid _ _ c.loop.matches _ c.transfer-moved.auto.words in
    (phases_quiet i.after c.loop-test.true e.transferred _ same c.requires.orderly c.if-moved-eq0.true _ _ refl (c.fill.ensures.after (λ y h. search rules))).1

pub loop-preserved : goal.loop-preserved
loop-preserved c =
    let i = c.loop.invariant in
    let e = c.transfer-moved.ensures in
    let same = same_len_mid _ _ c.loop.matches _ c.transfer-moved.auto.words in
    record { table = e.same_table ∙ i.table; after = phases_more i.after c.loop-test.true e.transferred _ same }

pub returns-clause-matches_after : goal.returns-clause-matches_after
returns-clause-matches_after c = (phases_all c.loop.invariant.after (omega (arith, c.loop.invariant.after.few))).1
