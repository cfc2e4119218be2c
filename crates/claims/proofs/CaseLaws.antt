-- Rows hold where the list of what is given for them is the list of what is due, which one computation shows.
-- Assumes nothing.
use mathlib.Core.Path.{◌≡◌, ap}
use mathlib.Core.List.{List, [], ◌∷◌, map}
use lib.ListN.{get_or, drop}
use Rattle.claims.specs.Cases.{Case, Each}

pub each_of : {A B : Type 0} (f : A → B) (cs : List (Case A B)) → map (λ c. f c.given) cs ≡ map (λ c. c.due) cs → Each f cs
each_of f [] e = tt
each_of f (c ∷ cs) e = (ap (λ bs. get_or bs 0 c.due) e, each_of f cs (ap (drop 1) e))
