use Rattle.std.proofs.Common.{refl, length-set, rules}
use Rattle.decoder.proofs.BytesLaws.{load_uneven, load_short, load_all, words_start, words_next, words_ended, words_kept}
use Rattle.decoder.proofs.bytes.load.Goals as goal

pub returns-then-bytes-ne0 : goal.returns-then-bytes-ne0
returns-then-bytes-ne0 c = record { answer = rw c.at.ensures (search load_uneven); buffer = search words_kept }

pub returns-then-words-n : goal.returns-then-words-n
returns-then-words-n c = record { answer = rw c.at-then-words-n.ensures (search load_short); buffer = search words_kept }

pub loop-k-init : goal.loop-k-init
loop-k-init c = (search rules, refl, search words_start)

pub loop-k-preserved : goal.loop-k-preserved
loop-k-preserved c = (search rules, search (rules, length-set), search words_next)

pub returns : goal.returns
returns c = record { answer = search load_all; buffer = search words_ended }
