-- What a run does outside, one thing after another.
use Rattle.std.specs.Prelude.{ℕ, Bool, true, false, List, [], ◌∷◌}
use Rattle.nv_script.specs.Arrivals.{Arrival}

pub data Said : Type 0 where
  -- this client is accepted
  Accepted : ℕ → Said
  -- bytes for this client
  Sent : ℕ → List ℕ → Said
  -- this client's descriptor is closed
  Closed : ℕ → Said
  -- bytes for the console
  Printed : List ℕ → Said

pub data Doing : Type 0 where
  Takes : Arrival → Doing
  Says : Said → Doing
  -- by an operator's word, which came before, the leader gives up the lead at this length of the log
  Hands : ℕ → Doing

-- what was taken
abbrev pub takings : List Doing → List Arrival
takings [] = []
takings (Takes a ∷ xs) = a ∷ takings xs
takings (Says s ∷ xs) = takings xs
takings (Hands n ∷ xs) = takings xs

-- what was said
abbrev pub sayings : List Doing → List Said
sayings [] = []
sayings (Takes a ∷ xs) = sayings xs
sayings (Says s ∷ xs) = s ∷ sayings xs
sayings (Hands n ∷ xs) = sayings xs

-- the lengths at which the leader gave up the lead
abbrev pub handings : List Doing → List ℕ
handings [] = []
handings (Takes a ∷ xs) = handings xs
handings (Says s ∷ xs) = handings xs
handings (Hands n ∷ xs) = n ∷ handings xs

-- all but that
abbrev pub exchanges : List Doing → List Doing
exchanges [] = []
exchanges (Takes a ∷ xs) = Takes a ∷ exchanges xs
exchanges (Says s ∷ xs) = Says s ∷ exchanges xs
exchanges (Hands n ∷ xs) = exchanges xs

-- what an answer adds to the question whether the leader hands over at this length
abbrev pub handing : Bool → ℕ → List Doing
handing true n = Hands n ∷ []
handing false n = []
