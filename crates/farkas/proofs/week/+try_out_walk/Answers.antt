use Rattle.std.proofs.Common.{arith}
use Rattle.farkas.proofs.NodeLaws.{node_open, try_due, falls_out, falls_stay, node_leaves, node_stays, stay_due, tried_barred, tried_free, tried_out, node_done}
use Rattle.farkas.proofs.week.+try_out_walk.Goals as goal

pub try_out-returns-then-has : goal.try_out-returns-then-has
try_out-returns-then-has t c = search tried_barred

pub try_out-returns-then-price-eq0 : goal.try_out-returns-then-price-eq0
try_out-returns-then-price-eq0 t c = search tried_free

pub try_out-walk-requires : goal.try_out-walk-requires
try_out-walk-requires t c = (omega arith, search node_leaves)

pub try_out-returns : goal.try_out-returns
try_out-returns t c = search tried_out

pub walk-look-requires : goal.walk-look-requires
walk-look-requires t c = search node_open

pub walk-try_out-less-requires : goal.walk-try_out-less-requires
walk-try_out-less-requires t c = (search (falls_out, c.in-Open.ensures), search (try_due, c.in-Open.ensures))

pub walk-stay-z-requires : goal.walk-stay-z-requires
walk-stay-z-requires t c = search (stay_due, c.in-Open.ensures)

pub walk-walk-requires : goal.walk-walk-requires
walk-walk-requires t c = (search (falls_stay, c.in-Open.ensures), search (node_stays, c.in-Open.ensures))

pub walk-returns-in-Open : goal.walk-returns-in-Open
walk-returns-in-Open t c = search (node_done, c.in-Open.ensures)
