-- A live run, step by step.
use Rattle.std.specs.Prelude.{◌≡◌, ◌⊎◌, ℕ, Bool, false, List, [], Option}
use Rattle.nv_script.specs.Arrivals.{Arrival}
use Rattle.nv_script.specs.Doings.{Doing}
use Rattle.nv_arriving.specs.Arriving.{start_of_arrivals}
use Rattle.nv_arriving.specs.Kernel.{Coming, begun_in}
use Rattle.nv_arriving.specs.Telling.{HasHanded}
use Rattle.nv_bpf.specs.declared.op.Op.{Op}
use Rattle.nv_driver.specs.Words.{Limits}
use Rattle.nv_kernel.specs.Logged.{Logged}
use Rattle.nv_live.specs.Lines.{held_text}
use Rattle.nv_live.specs.Run.{DidRun, input_of, output_of, notes_of, line_of, held_by, stop_of_run, told_run, IsBegun}
use Rattle.nv_live.specs.Source.{Moment}
use Rattle.nv_live.specs.Telling.{Told}
use Rattle.nv_live.specs.Writer.{sink_in, put_of, WritesOn}
use Rattle.nv_live.specs.declared.run.LiveRun.{LiveRun}
use Rattle.nv_live.specs.declared.streams.Streams.{Streams as Held}
use Rattle.nv_live.specs.declared.writer.Writer.{Writer}
use Rattle.nv_machine.specs.Guest.{Machine}
use Rattle.nv_outside.specs.Sink.{Put, Puts}
use Rattle.nv_replay.specs.Follow.{judge_of}
use Rattle.nv_room.specs.Room.{Became}
use Rattle.nv_replay.specs.Sequence.{Account}
use Rattle.nv_replay.specs.Version.{Running}
use Rattle.nv_replay.specs.declared.account.Account.{Account as Ran}
use Rattle.nv_script.specs.Scripts.{Setup}
use Rattle.nv_threads.specs.Threads.{Proc}
use Rattle.nv_driver.specs.Account.{IsRunOf, run_status}
use Rattle.nv_driver.specs.Due.{Says}
use Rattle.nv_driver.specs.Live.{Lived, Streams, with_arrivals, with_hands, ending_of}
use Rattle.nv_driver.specs.declared.ending.Ending.{Ending}
use Rattle.nv_cli.specs.inner.Demands.{IsAccountOnDemand}

module _ {I O T : Type 0} (took : I → Option (List (List ℕ))) (unread : I → ℕ) (moments : I → Option (List Moment)) (said : O → Option (List ℕ)) (unsaid : O → ℕ) (noted : T → Option (List ℕ)) (unnoted : T → ℕ) where
  -- what an outside of a live run tells of itself
  abbrev pub told : LiveRun I O T → Told
  told run = told_run took unread moments said unsaid noted unnoted run

  -- a kernel that has served nothing, over these streams, of which the transcript has its head
  pub record IsBegunOver (clients : Bool) (setup : Setup) (head : List ℕ) (streams : Held I O T) (k : Logged (Coming (LiveRun I O T))) : Type 0 where
    pub empty : k.log ≡ []
    pub setup_is : k.setup ≡ setup
    pub begun : IsBegun took unread moments said unsaid noted unnoted clients head setup.hands streams (told k.answers.begun)
    pub still : k.answers.outside ≡ k.answers.begun
    pub unasked : HasHanded (DidRun took unread moments said unsaid noted unnoted) k.answers.begun k.answers.outside k.setup k.answers.came k.log []

  -- Streams that nobody was served over: they have nothing more than these, but that the transcript may have this head.
  pub record IsUnused (head : List ℕ) (streams given : Held I O T) : Type 0 where
    pub read : took given.input ≡ took streams.input
    pub unread_is : unread given.input ≡ unread streams.input
    pub moments_are : moments given.input ≡ moments streams.input
    pub said_is : said given.output ≡ said streams.output
    pub unsaid_is : unsaid given.output ≡ unsaid streams.output
    pub text : List ℕ
    pub begins : (text ≡ []) ⊎ (text ≡ head)
    pub told_so_far : Put
    pub noted_is : Puts (noted streams.transcript) (unnoted streams.transcript) text told_so_far (noted given.transcript) (unnoted given.transcript)

-- The versions ran over what came to this kernel. Their leaders handed over by operators' words just where its outside tells of it.
pub record RanOver {X T : Type 0} (told : X → T) (did : X → X → List Doing → Type 0) (clients : Bool) (kernel : Logged (Coming X)) (rules : Option (List Op)) (calls : ℕ) (hands : List ℕ) (versions : List (Running Proc)) (account : Ran (Logged (Coming X))) : Type 0 where
  pub same : begun_in told account.kernel.setup account.kernel.answers ≡ begun_in told kernel.setup kernel.answers
  pub account_is : IsAccountOnDemand (Became (λ k. begun_in told k.setup k.answers) (λ k. HasHanded did k.answers.begun k.answers.outside k.setup k.answers.came k.log) kernel account.kernel) clients (judge_of rules) (start_of_arrivals account.kernel.setup account.kernel.answers.came) calls hands versions account.versions.items account.kernel.log

-- what an outside leaves, with what no call took behind its transcript
pub record HasLeft {I O T : Type 0} (noted : T → Option (List ℕ)) (unnoted : T → ℕ) (live : LiveRun I O T) (streams : Held I O T) (ending : Ending) : Type 0 where
  pub input : streams.input ≡ input_of live
  pub output : streams.output ≡ sink_in (output_of live)
  pub notes : Writer T
  pub shows : WritesOn noted unnoted (notes_of live) notes (held_text (line_of live) (held_by live))
  pub transcript : streams.transcript ≡ sink_in notes
  pub ends : ending ≡ ending_of (stop_of_run live) (put_of (output_of live)) (put_of notes)

-- The versions ran over what came, nothing was written beside their streams, and these are left.
pub record Served (limits : Limits) (clients : Bool) (setup : Setup) (rules : Option (List Op)) (machines : List Machine) (streams : Streams) (before : Option (List ℕ)) (faults status : ℕ) (after : Option (List ℕ)) (later_faults : ℕ) (left : Streams × Ending) : Type 0 where
  pub arrivals : List Arrival
  pub asked : List ℕ
  pub account : Account
  pub only : clients ≡ false → asked ≡ []
  pub is_run : IsRunOf clients limits (with_hands (with_arrivals setup arrivals) asked) rules machines account
  pub says : Says [] (run_status account.lines) before faults status after later_faults
  pub lived : Lived clients (with_arrivals setup arrivals) asked account.log left.1 streams left.0
