-- Lines with too many fields.
use Rattle.std.proofs.Common.{◌≡◌, ◌<◌, ℕ, List, [], ◌∷◌, None, Err, length, refl, arith}
use Rattle.nv_bytes.specs.Fields.{fields}
use Rattle.nv_bytes.proofs.Laws.{fields-some}
use Rattle.nv_script.specs.declared.fault.ScriptCause.TheVariants.{Shape}
use Rattle.nv_script.specs.Entry.{file_entry, clock_of, connection_of}

file_of-long : (name hex : List ℕ) (more : List (List ℕ)) → 0 < length more → file_entry (name ∷ hex ∷ more) ≡ None
file_of-long name hex [] some = absurd (omega arith)
file_of-long name hex (text ∷ texts) some = refl

clock_of-long : (seconds nanos step : List ℕ) (more : List (List ℕ)) → 0 < length more → clock_of (seconds ∷ nanos ∷ step ∷ more) ≡ Err Shape
clock_of-long seconds nanos step [] some = absurd (omega arith)
clock_of-long seconds nanos step (text ∷ texts) some = refl

connection_of-long : (port hex : List ℕ) (more : List (List ℕ)) → 0 < length more → connection_of (port ∷ hex ∷ more) ≡ Err Shape
connection_of-long port hex [] some = absurd (omega arith)
connection_of-long port hex (text ∷ texts) some = refl

-- three fields are no connection
pub connection_of-three : (port hex rest : List ℕ) → connection_of (port ∷ hex ∷ fields rest) ≡ Err Shape
connection_of-three port hex rest = connection_of-long port hex (fields rest) (fields-some rest)

-- three fields are no file
pub file_of-three : (name hex rest : List ℕ) → file_entry (name ∷ hex ∷ fields rest) ≡ None
file_of-three name hex rest = file_of-long name hex (fields rest) (fields-some rest)

-- four fields are no clock
pub clock_of-four : (seconds nanos step rest : List ℕ) → clock_of (seconds ∷ nanos ∷ step ∷ fields rest) ≡ Err Shape
clock_of-four seconds nanos step rest = clock_of-long seconds nanos step (fields rest) (fields-some rest)
