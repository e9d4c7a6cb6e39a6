-- The definitions, computed on two worked runs of calls.
use Rattle.std.proofs.Common.{◌≡◌, refl, false, ℕ, ℤ, pos, negsuc, List, [], ◌∷◌, Some}
use Rattle.nv_calls.specs.Answer.{Answer}
use Rattle.nv_fs.specs.States.{FileState, open_of, has_open, is_shared, is_kept, is_pipe, free_open, install}
use Rattle.nv_fs.specs.Starts.{first_state, first_descriptors}
use Rattle.nv_fs.specs.Closes.{close_of, dup_of, free_descriptor}
use Rattle.nv_fs.specs.Names.{file_of, resolved}
use Rattle.nv_fs.specs.Opened.{open_at_of, unlink_at_of, free_file}
use Rattle.nv_fs.specs.Ends.{pipe_of, free_pipe}
use Rattle.nv_fs.specs.Fetched.{read_of}
use Rattle.nv_fs.specs.Stored.{write_of}

-- what a call answers
abbrev shown : Answer FileState → ℤ × List ℕ
shown a = (a.ret, a.payload)

-- the file `f` with `abcd`
abbrev start : FileState
start = first_state false [] (record { name = Some (102 ∷ []); bytes = 97 ∷ 98 ∷ 99 ∷ 100 ∷ [] } ∷ [])

abbrev open_f : FileState → ℕ → Answer FileState
open_f s flags = open_at_of s (negsuc 99) (102 ∷ []) flags

abbrev opened : Answer FileState
opened = open_f start 0

abbrev twin : Answer FileState
twin = dup_of opened.state 3

abbrev first_part : Answer FileState
first_part = read_of twin.state 3 2

abbrev second_part : Answer FileState
second_part = read_of first_part.state 4 2

dup_shares_the_offset : shown opened ∷ shown twin ∷ shown first_part ∷ shown second_part ∷ []
    ≡ (pos 3, []) ∷ (pos 4, []) ∷ (pos 2, 97 ∷ 98 ∷ []) ∷ (pos 2, 99 ∷ 100 ∷ []) ∷ []
unfolding open_at_of dup_of read_of resolved file_of free_descriptor first_descriptors install free_open is_shared open_of
dup_shares_the_offset = refl

abbrev gone : Answer FileState
gone = unlink_at_of opened.state (negsuc 99) (102 ∷ []) 0

abbrev whole : Answer FileState
whole = read_of gone.state 3 4

abbrev missing : Answer FileState
missing = open_f whole.state 0

abbrev made : Answer FileState
made = open_f missing.state 194

abbrev there : Answer FileState
there = open_f made.state 194

unlinked_stays_open : shown gone ∷ shown whole ∷ shown missing ∷ shown made ∷ shown there ∷ []
    ≡ (pos 0, []) ∷ (pos 4, 97 ∷ 98 ∷ 99 ∷ 100 ∷ []) ∷ (negsuc 1, []) ∷ (pos 4, []) ∷ (negsuc 16, []) ∷ []
unfolding open_at_of unlink_at_of read_of resolved file_of free_descriptor first_descriptors install free_open is_shared open_of free_file is_kept has_open
unlinked_stays_open = refl

abbrev piped : Answer FileState
piped = pipe_of there.state 0

abbrev empty : Answer FileState
empty = read_of piped.state 5 1

abbrev put : Answer FileState
put = write_of empty.state 6 (120 ∷ [])

abbrev closed : Answer FileState
closed = close_of put.state 6

abbrev taken : Answer FileState
taken = read_of closed.state 5 1

abbrev at_end : Answer FileState
at_end = read_of taken.state 5 1

a_pipe_ends : shown piped ∷ shown empty ∷ shown put ∷ shown closed ∷ shown taken ∷ shown at_end ∷ []
    ≡ (pos 0, 5 ∷ 0 ∷ 0 ∷ 0 ∷ 6 ∷ 0 ∷ 0 ∷ 0 ∷ []) ∷ (negsuc 10, []) ∷ (pos 1, []) ∷ (pos 0, []) ∷ (pos 1, 120 ∷ []) ∷ (pos 0, []) ∷ []
unfolding open_at_of unlink_at_of read_of write_of close_of pipe_of resolved file_of free_descriptor first_descriptors install free_open is_shared open_of free_file free_pipe is_kept is_pipe has_open
a_pipe_ends = refl
