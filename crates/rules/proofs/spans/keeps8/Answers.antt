use Rattle.std.proofs.Common.{◌≡◌, true, not, refl, ap, rules}
use Rattle.rules.proofs.PairLaws.{pairs_start, weeks_start, weeks_next, pairs_next, pair_breaks, pairs_ended}
use Rattle.rules.proofs.spans.keeps8.Goals as goal

pub apart-init : goal.apart-init
apart-init c = (refl, search rules, search rules, search rules, search pairs_start)

pub loop-t-init : goal.loop-t-init
loop-t-init c = (search rules, search rules, search rules, search rules, search weeks_start)

pub loop-t-preserved : goal.loop-t-preserved
loop-t-preserved c = (search rules, search rules, search rules, search rules, search weeks_next)

pub apart-preserved : goal.apart-preserved
apart-preserved c = (search rules, search rules, search rules, search rules, search pairs_next)

pub returns-after-apart : goal.returns-after-apart
returns-after-apart c = search pairs_ended

pub returns-then-not-pair_apart : goal.returns-then-not-pair_apart
returns-then-not-pair_apart c =
    let breach : not c.pair_apart.result ≡ true = ap not c.if-not-pair_apart.true in
    pair_breaks _ _ _ c.apart.n _ _ _ c.pairs-pairs.result _ c.args.grid.now.file.filed.weeks_are c.span_for-span.ensures.end c.loop-t-test.true (search rules) (search rules)
    breach c.pair_apart.ensures
