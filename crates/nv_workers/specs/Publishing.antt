-- A call of a leader that is served and published.
use Rattle.std.specs.Prelude.{◌≡◌, ◌<◌, ◌++◌, ℕ, true, false, [], ◌∷◌, length, Some, Contains}
use Rattle.nv_calls.specs.Calls.{Entry}
use Rattle.nv_calls.specs.Logs.{served, live_after, IsLawful}
use Rattle.nv_calls.specs.Limits.{MOST_EVENTS}
use Rattle.nv_calls.specs.declared.kernel.SyscallKernel.{Ghosts}
use Rattle.nv_words.specs.Spelling.{spell}
use Rattle.nv_threads.specs.Threads.{Proc, threads}
use Rattle.nv_replay.specs.Version.{Running, became_event}
use Rattle.nv_room.specs.declared.room.Room.{Room}
use Rattle.nv_room.specs.declared.room.Lead.{Lead}
use Rattle.nv_room.specs.Spans.{spans_grown}
use Rattle.nv_room.specs.Seats.{IsLeadOf, SameLead, NextFits, lead_view, kernel_of, due_of}

-- the event that a call becomes which thread t of the version asks
abbrev pub event_of : {K : Type 0} {G : Ghosts K} → Running Proc → Lead K G → ℕ → Entry
event_of {K} {G} v l t = served (G.known (kernel_of l)) (G.log (kernel_of l)) (threads.call v.at.process t)

module _ {K : Type 0} {G : Ghosts K} (room : Room K) (v : Running Proc) (l : Lead K G) (t : ℕ) where
  -- thread t asks a call that the kernel is ready for, and the event has a place
  pub record CanPublish : Type 0 where
    pub of : IsLeadOf room l
    pub placed : NextFits room l
    pub none_due : due_of l ≡ false
    pub none_wrote : (lead_view l).wrote ≡ []
    pub asked : v.asked ≡ Some t
    pub pending : threads.pending v.at.process t ≡ true
    pub lives : Contains (threads.live v.at.process) t
    pub live : threads.live v.at.process ≡ live_after (G.log (kernel_of l))
    pub seen : v.at.seen ≡ length (G.log (kernel_of l))
    pub few : length (G.log (kernel_of l)) < MOST_EVENTS
    pub ready : G.is_ready (kernel_of l) (threads.call v.at.process t)

  -- the call was served, its event published, and the version answered
  pub record IsPublished (v2 : Running Proc) (l2 : Lead K G) : Type 0 where
    pub of : IsLeadOf room l2
    pub same : SameLead l l2
    pub due : due_of l2 ≡ false
    pub wrote : (lead_view l2).wrote ≡ []
    pub log : G.log (kernel_of l2) ≡ G.log (kernel_of l) ++ event_of v l t ∷ []
    pub lawful : IsLawful (G.log (kernel_of l2))
    pub seen : (lead_view l2).seen ≡ (lead_view l).seen ++ spell (event_of v l t) ∷ []
    pub spans : (lead_view l2).spans ≡ spans_grown (lead_view l).spans
    pub version : v2 ≡ became_event threads (event_of v l t) v
