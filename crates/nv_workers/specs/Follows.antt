-- What a reader's turn comes to.
use Rattle.std.specs.Prelude.{◌≡◌, ◌<◌, ◌⊎◌, ℕ, Bool, true, false, List, [], ◌∷◌, ◌++◌, length, Some}
use Rattle.nv_calls.specs.declared.kernel.SyscallKernel.{Ghosts}
use Rattle.nv_room.specs.declared.view.View.{View}
use Rattle.nv_room.specs.declared.room.Room.{Room}
use Rattle.nv_room.specs.declared.room.Reader.{Reader}
use Rattle.nv_room.specs.Owner.{is_held, is_free}
use Rattle.nv_room.specs.Seats.{IsOfRoom, view, version_of_reader, hands_of, on_demand_of}
use Rattle.nv_promotion.specs.Lowers.{IsAlive}
use Rattle.nv_threads.specs.Threads.{Proc}
use Rattle.nv_replay.specs.Follow.{Judge}
use Rattle.nv_replay.specs.Version.{Running}
use Rattle.nv_workers.specs.declared.follows.Next.{Next}
use Rattle.nv_workers.specs.declared.follows.Next.TheVariants.{Moved, Ahead, Waits, Leads, Hands, Leaves, Left}
use Rattle.nv_workers.specs.declared.follows.Found.{Found}
use Rattle.nv_workers.specs.declared.follows.Found.TheVariants.{Event, Held, Free}
use Rattle.nv_words.specs.Spelling.{IsWhole}
use Rattle.nv_room.specs.Steps.{SpellLawful}
use Rattle.nv_workers.specs.Working.{FollowsOn, HasEnded}

-- head and the owner were looked at; a station leads, or none does and a lower station, which was looked at after that, has still to leave
pub record HasWaited {T : Type 0} (old new : View T) : Type 0 where
  pub head_looked : old.head_looks < new.head_looks
  pub head_last : new.head_last ≡ length new.seen
  pub owner_looked : old.owner_looks < new.owner_looks
  pub owner : (is_held new.owner_last ≡ true) ⊎ ((is_free new.owner_last ≡ true) × (new.owner_after < new.cursor_looks) × ((s : ℕ) × IsAlive old new new.station s))

module _ (judges : ℕ → Judge) {K : Type 0} {G : Ghosts K} (room : Room K) (most : ℕ) (p : Proc) (v : Running Proc) (r : Reader K G) (held : Bool) (buf : List ℕ) where
  abbrev pub AfterTurn : Next → Type 0
  AfterTurn Moved = FollowsOn judges room most p v r held buf
  AfterTurn Ahead = FollowsOn judges room most p v r held buf
  AfterTurn Waits = FollowsOn judges room most p v r held buf
  AfterTurn Leads = FollowsOn judges room most p v r false buf × ((view r).freed ≡ Some (length (view r).seen))
  AfterTurn Hands = ⊥
  AfterTurn Leaves = IsOfRoom room r × HasEnded judges most (hands_of room) (on_demand_of room) (version_of_reader r) p v (view r)
  AfterTurn Left = ⊥

-- a turn after which the version follows on has consumed the event, or has rewritten the version's call
abbrev pub HasGrown : {T : Type 0} → View T → View T → Running Proc → Running Proc → Next → Type 0
HasGrown w w2 v v2 Moved = (length w.seen < length w2.seen) ⊎ (v.at.rewrites < v2.at.rewrites)
HasGrown w w2 v v2 Ahead = Unit {0}
HasGrown w w2 v v2 Waits = Unit {0}
HasGrown w w2 v v2 Leads = Unit {0}
HasGrown w w2 v v2 Hands = Unit {0}
HasGrown w w2 v v2 Leaves = Unit {0}
HasGrown w w2 v v2 Left = Unit {0}

-- what a turn that waits shows
abbrev pub IsIdle : {T : Type 0} → View T → View T → Next → Type 0
IsIdle old new Ahead = HasWaited old new
IsIdle old new Waits = HasWaited old new
IsIdle old new next = Unit {0}

abbrev pub IsFound : {T : Type 0} → View T → View T → List ℕ → Found → Type 0
IsFound old new words Event = (new.seen ≡ old.seen) × (new.spans ≡ old.spans) × (new.read ≡ words) × IsWhole words × SpellLawful (new.seen ++ words ∷ [])
IsFound old new words Held = (new.seen ≡ old.seen) × (new.spans ≡ old.spans) × (new.read ≡ []) × HasWaited old new
IsFound old new words Free = (new.seen ≡ old.seen) × (new.spans ≡ old.spans) × (new.read ≡ []) × (new.freed ≡ Some (length new.seen))

abbrev pub IsBusy : Next → Type 0
IsBusy Moved = Unit {0}
IsBusy Leaves = Unit {0}
IsBusy Ahead = ⊥
IsBusy Waits = ⊥
IsBusy Leads = ⊥
IsBusy Hands = ⊥
IsBusy Left = ⊥

-- what a reader does that waits
abbrev pub IsWaiting : Next → Type 0
IsWaiting Moved = ⊥
IsWaiting Ahead = Unit {0}
IsWaiting Waits = Unit {0}
IsWaiting Leads = ⊥
IsWaiting Hands = ⊥
IsWaiting Leaves = ⊥
IsWaiting Left = ⊥
