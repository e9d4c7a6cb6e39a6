-- Kernels of these tests may cross threads.
use denote.Param.Send.{IsSend, sendable, recorded_send, struct_send}
use denote.RattleType.{RattleType}
use denote.Struct.Declared.{shape}
use Rattle.std.proofs.Common.{true, false}
use Rattle.std.proofs.Crossing.{crosses}
use Rattle.nv_kernel.specs.declared.answers.Answers.{Ghosts as AnswersGhosts}
use Rattle.nv_live.specs.Telling.{nothing_code}
use Rattle.nv_kernel.proofs.devices.Devices.TheSendSync.{the_send as devices_send}
use Rattle.nv_kernel.specs.contracts.devices.Devices as Devices
use Rattle.nv_kernel.specs.contracts.kernel.Kernel as Kernel
use Rattle.nv_kernel.specs.contracts.replying.DevicesAnswers.TheImpl as DevicesAnswers
use Rattle.nv_script.specs.declared.outside.Outside.{Ghosts}
use Rattle.nv_arriving.proofs.Sending.{kernel_send, guests_send}
use Rattle.nv_arriving.specs.Arriving.{start_of_arrivals}
use Rattle.nv_arriving.specs.Standing.{StandsAt}
use Rattle.nv_arriving.specs.contracts.answering.Guests as Guests
use Rattle.nv_run_tests.specs.contracts.refusing.RefusingKernel as RefusingKernel
use Rattle.nv_run_tests.specs.Keeping.{StandsKept}
use Rattle.nv_run_tests.specs.contracts.kept.Kept as Kept

pub script_kernel_send : IsSend (Kernel.the_row Devices.the_row DevicesAnswers.ghosts)
script_kernel_send = kernel_send Devices.the_row DevicesAnswers.ghosts devices_send

pub kept_send : (X : RattleType) (o : Ghosts X.Denot) → IsSend X → IsSend (Kept.the_row X o)
kept_send X o x = recorded_send _ _ _ (Kept.the_type X o).to_one (struct_send (shape (Kept.the_type X o)) (guests_send X o x, tt))

-- ---- kernels over what comes

-- what such a kernel asks of what answers; how it begins doesn't count here
abbrev kept_answers : (X : RattleType) (o : Ghosts X.Denot) → AnswersGhosts (Kept.the_row X o).Denot
kept_answers X o = record {
  Beginning = Unit {0};
  beginning_code = nothing_code;
  start = λ setup k. tt;
  known = λ setup k. start_of_arrivals setup k.guests.came;
  stands = λ k. StandsKept o.did o.is_over k.guests;
  handed = λ k setup log lengths. Unit {0};
  keeps_all = true;
  is_ready = λ k c. Unit {0};
}

pub kept_kernel_send : (X : RattleType) (o : Ghosts X.Denot) → IsSend X → IsSend (Kernel.the_row (Kept.the_row X o) (kept_answers X o))
kept_kernel_send X o x = kernel_send (Kept.the_row X o) (kept_answers X o) (kept_send X o x)

abbrev live_answers : (X : RattleType) (o : Ghosts X.Denot) → AnswersGhosts (Guests.the_row X o).Denot
live_answers X o = record {
  Beginning = Unit {0};
  beginning_code = nothing_code;
  start = λ setup g. tt;
  known = λ setup g. start_of_arrivals setup g.came;
  stands = StandsAt o.did o.is_over;
  handed = λ g setup log lengths. Unit {0};
  keeps_all = false;
  is_ready = λ g c. Unit {0};
}

pub live_kernel_send : (X : RattleType) (o : Ghosts X.Denot) → IsSend X → IsSend (Kernel.the_row (Guests.the_row X o) (live_answers X o))
live_kernel_send X o x = kernel_send (Guests.the_row X o) (live_answers X o) (guests_send X o x)

-- ---- a kernel that is refused memory

pub refusing_over : (X : RattleType) → IsSend X → IsSend (RefusingKernel.the_row X)
refusing_over X x = recorded_send _ _ _ (RefusingKernel.the_type X).to_one (struct_send (shape (RefusingKernel.the_type X)) (x, (search (sendable, crosses) depth 20, (search sendable, tt))))

pub refusing_send : IsSend (RefusingKernel.the_row (Kernel.the_row Devices.the_row DevicesAnswers.ghosts))
refusing_send = refusing_over (Kernel.the_row Devices.the_row DevicesAnswers.ghosts) script_kernel_send

pub twice_refusing_send : IsSend (RefusingKernel.the_row (RefusingKernel.the_row (Kernel.the_row Devices.the_row DevicesAnswers.ghosts)))
twice_refusing_send = refusing_over (RefusingKernel.the_row (Kernel.the_row Devices.the_row DevicesAnswers.ghosts)) refusing_send
