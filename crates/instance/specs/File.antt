-- What an accepted file means.
-- Assumes nothing.
use Rattle.model.specs.Problem.{Problem}
use Rattle.model.specs.Words.{problem_of}
use Rattle.instance.specs.declared.file.File.{File}

-- the problem that its words mean
abbrev pub problem : File → Problem
problem f = problem_of f.words.now
