-- The answers of this crate's calls, case by case.
-- Assumes nothing.
use Rattle.std.specs.Prelude.{Option, None, Some, Result, Ok, Err}
use Rattle.decoder.specs.declared.faults.Refusal.{Refusal}
use Rattle.decoder.specs.Answers.{number_of}
use Rattle.quotes.specs.Quotes as quotes
use Rattle.quotes.specs.declared.Quote.{Quote}

-- nothing, or a number and its cost
abbrev pub quote_of : Option Quote → quotes.Quoted
quote_of None = quotes.none
quote_of (Some q) = quotes.quoted q.number q.cost

-- that, or the refusal's number and place
abbrev pub quoted_of : Result (Option Quote) Refusal → quotes.Quoted
quoted_of (Ok q) = quote_of q
quoted_of (Err r) = quotes.refused_quote (number_of r.fault) r.place
