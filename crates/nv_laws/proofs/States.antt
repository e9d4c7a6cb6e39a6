-- The tables of files are sound in each state of a run.
use Rattle.std.proofs.Common.{Bool, true, false, cond, List, [], ◌∷◌}
use Rattle.nv_calls.specs.declared.numbers.Syscall.{Syscall}
use Rattle.nv_calls.specs.declared.numbers.Syscall.TheVariants as call
use Rattle.nv_calls.specs.Answer.{state_after, Answer}
use Rattle.nv_calls.specs.Calls.{Request}
use Rattle.nv_calls.specs.Numbers.{syscall_of}
use Rattle.nv_laws.specs.Tables.{AreSoundTables}
use Rattle.nv_laws.proofs.Sound.{first_is_sound, opened_is_sound, unlinked_is_sound, closed_is_sound, doubled_is_sound, moved_onto_is_sound, piped_is_sound, sought_is_sound, read_is_sound, written_is_sound}
use Rattle.nv_script.specs.Scripts.{Setup}
use Rattle.nv_kernel.specs.Serving as kernel
use Rattle.nv_kernel.specs.Serving.{request_arg}
use Rattle.nv_sockets.specs.Serving.{State, serve, first_state}

of_either : (b : Bool) (x y : Answer kernel.State) → AreSoundTables x.state.files → AreSoundTables y.state.files → AreSoundTables (cond {A = Answer kernel.State} b x y).state.files
of_either true x y h g = h
of_either false x y h g = g

kept : (k : Syscall) (s : kernel.State) (c : Request) → AreSoundTables s.files → AreSoundTables (kernel.answered k s c).state.files
kept call.Dup s c h = doubled_is_sound s.files _ h
kept call.Dup3 s c h = moved_onto_is_sound s.files _ _ _ h
kept call.Ioctl s c h = of_either _ _ _ h h
kept call.Unlinkat s c h = unlinked_is_sound s.files _ c.payload _ h
kept call.Openat s c h = opened_is_sound s.files _ c.payload _ h
kept call.Close s c h = closed_is_sound s.files _ h
kept call.Pipe2 s c h = piped_is_sound s.files _ h
kept call.Llseek s c h = sought_is_sound s.files _ _ _ _ h
kept call.Read s c h = read_is_sound s.files _ _ h
kept call.Write s c h = written_is_sound s.files _ c.payload h
kept call.Readv s c h = of_either _ _ _ h (read_is_sound s.files _ _ h)
kept call.Writev s c h = of_either _ _ _ h (written_is_sound s.files _ c.payload h)
kept call.ClockGettime64 s c h = of_either _ _ _ h h
kept _ s c h = h

step : (s : State) (c : Request) → AreSoundTables s.own.files → AreSoundTables (serve s c).state.own.files
unfolding serve kernel.serve
step s c h = of_either c.bad _ _ h (kept (syscall_of c.nr) s.own c h)

after : (s : State) (cs : List Request) → AreSoundTables s.own.files → AreSoundTables (state_after serve s cs).own.files
after s [] h = h
after s (c ∷ cs) h = after (serve s c).state cs (step s c h)

pub sound_after : (setup : Setup) (cs : List Request) → AreSoundTables (state_after serve (first_state setup) cs).own.files
sound_after setup cs = after (first_state setup) cs (first_is_sound _ _ _)
