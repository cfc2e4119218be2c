use Rattle.std.proofs.Common.{rules}
use Rattle.cover.proofs.TableLaws.{cut_dear, cut_room, cut_rate, need_small, rate_small, gain_small, leaf, turn_out, turn_in}
use Rattle.cover.proofs.+walk.Goals as goal

pub returns-then-best-weight : goal.returns-then-best-weight
returns-then-best-weight t c = (cut_dear _ _ _ _ _ _ _ (search rules), search rules)

pub returns-then-cuts-k : goal.returns-then-cuts-k
returns-then-cuts-k t c = (search cut_room, search rules)

pub hopeless-requires : goal.hopeless-requires
hopeless-requires t c = (search rate_small, search gain_small, search need_small, search rules, search rules)

pub returns-then-hopeless : goal.returns-then-hopeless
returns-then-hopeless t c = (search cut_rate, search rules)

pub returns-then-k-eq0 : goal.returns-then-k-eq0
returns-then-k-eq0 t c = (search leaf, search rules)

pub returns-then-has : goal.returns-then-has
returns-then-has t c = (search turn_out, search rules)

pub returns : goal.returns
returns t c = (search turn_in, search rules)
