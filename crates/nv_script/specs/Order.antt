-- Which arrivals may come after one another.
use Rattle.std.specs.Prelude.{ℕ, Bool, true, false, not, ◌&&◌, ◌==◌, ◌+◌, ◌^◌, List, [], ◌∷◌, ◌++◌, Result, Ok, Err, if◌then◌else◌, nat_lt, filter}
use Rattle.std.specs.List.{list_all, list_any}
use Rattle.std.specs.Result.{is_ok}
use Rattle.nv_script.specs.declared.arrival.ArrivalCause.{ArrivalCause}
use Rattle.nv_script.specs.declared.arrival.ArrivalCause.TheVariants as cause
use Rattle.nv_script.specs.Arrivals.{Arrival, Input, InputEnd, ClientsEnd, Connect, Data, End, Time, is_arrival}

-- how many clients may come: 65,536, or by the fifth form of a script, whose calls wait for several things at once, as many as there are numbers of 32 bits
unfoldable pub most_clients : Bool → ℕ
most_clients true = 2 ^ 32
most_clients false = 65536

-- whether descriptor 0 and the clients are at their end, how many clients have come, the numbers of those of them that have not sent all, as they came, and how many may come
pub record Came : Type 0 where
  pub input_over : Bool
  pub clients_over : Bool
  pub clients : ℕ
  pub going : List ℕ
  pub most : ℕ

-- nothing has come, where so many clients may come
abbrev pub nothing_came : ℕ → Came
nothing_came most = record { input_over = false; clients_over = false; clients = 0; going = []; most = most }

abbrev pub input_going : Came → Result Came ArrivalCause
input_going came = if came.input_over then Err cause.Twice else Ok came

abbrev pub input_ended : Came → Result Came ArrivalCause
input_ended came = if came.input_over then Err cause.Twice else Ok (record came { input_over = true })

abbrev pub clients_ended : Came → Result Came ArrivalCause
clients_ended came = if came.clients_over then Err cause.Twice else Ok (record came { clients_over = true })

-- it takes the next number, and has not sent all; at most so many clients come
unfoldable pub with_client : Came → Result Came ArrivalCause
with_client came = if came.clients_over then Err cause.Twice
    else (if nat_lt came.clients came.most
    then Ok (record came { clients = came.clients + 1; going = came.going ++ came.clients ∷ [] })
    else Err cause.Long)

-- the client has come and has not sent all
abbrev pub is_going : ℕ → List ℕ → Bool
is_going n going = list_any (λ k. k == n) going

-- why nothing may come from a client that is not going: it has sent all, or has not come
abbrev pub not_going : ℕ → Came → ArrivalCause
not_going n came = if nat_lt n came.clients then cause.Twice else cause.Range

abbrev pub sending : ℕ → Came → Result Came ArrivalCause
sending n came = if is_going n came.going then Ok came else Err (not_going n came)

-- all but this client
abbrev pub without : ℕ → List ℕ → List ℕ
without n going = filter (λ k. not (k == n)) going

abbrev pub client_ended : ℕ → Came → Result Came ArrivalCause
client_ended n came = if is_going n came.going then Ok (record came { going = without n came.going }) else Err (not_going n came)

-- what has come with this arrival, or the first cause why it may not come
abbrev pub admitted : Arrival → Came → Result Came ArrivalCause
admitted (Input bytes) came = input_going came
admitted InputEnd came = input_ended came
admitted ClientsEnd came = clients_ended came
admitted (Connect port) came = with_client came
admitted (Data n bytes) came = sending n came
admitted (End n) came = client_ended n came
admitted (Time seconds nanos) came = Ok came

abbrev pub onward : Result Came ArrivalCause → (Came → Result Came ArrivalCause) → Result Came ArrivalCause
onward (Ok came) later = later came
onward (Err c) later = Err c

-- what has come with these
unfoldable pub after : List Arrival → Came → Result Came ArrivalCause
after [] came = Ok came
after (a ∷ rest) came = onward (admitted a came) (λ c. after rest c)

-- each may come after those before it, where so many clients may come
abbrev pub are_orderly : ℕ → List Arrival → Bool
are_orderly most arrivals = is_ok (after arrivals (nothing_came most))

-- arrivals within their limits, each of which may come after those before it
unfoldable pub are_arrivals : ℕ → List Arrival → Bool
are_arrivals most arrivals = list_all is_arrival arrivals && are_orderly most arrivals
