use Rattle.report.proofs.PutLaws.{digits_none, digits_last, digits_room, digits_more}
use Rattle.report.proofs.+put_digits.Goals as goal

pub returns-then-n-eq0 : goal.returns-then-n-eq0
returns-then-n-eq0 t c = search digits_none

pub returns-then-x-lt10 : goal.returns-then-x-lt10
returns-then-x-lt10 t c = search digits_last

pub put_byte-requires-2 : goal.put_byte-requires-2
put_byte-requires-2 t c = search digits_room

pub returns : goal.returns
returns t c = search digits_more
