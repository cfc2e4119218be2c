use Rattle.std.proofs.Common.{◌≡◌, refl, sym, ◌∙◌}
use Rattle.decoder.proofs.StepLaws.{walk_start, walk_next}
use Rattle.decoder.proofs.read.Goals as goal

pub loop-r-init : goal.loop-r-init
loop-r-init c =
    let same : c.new-r.result.words ≡ c.args.words = c.new-r.ensures.0 in
    let first : c.new-r.result.at ≡ 0 = c.new-r.ensures.1 in
    rw (same, first) (refl, walk_start c.args.words.now)

pub loop-r-preserved : goal.loop-r-preserved
loop-r-preserved c =
    let same : c.step-r.result.words ≡ c.loop-r.r.words = c.step-r.ensures.0 in
    let open_here = sym c.goes_on.ensures ∙ c.loop-r-test.true in
    rw same (c.loop-r.invariant.0, c.loop-r.invariant.1 ∙ walk_next c.loop-r.r.words.now c.loop-r.r.at open_here c.step-r.result.at c.step-r.ensures.1)
