-- The definitions that the theorem cites: what a reader has to believe of `nv_cli::varan`, of `varan_over`, which is the same over the streams of a live
-- run, and of `program`, which `main` calls. Each is imported here by name, so that the prover checks that it is there.
--
-- The clauses are `Answers` (`AnswersOver`), `Completes` and `Rejects` of nv_driver's Due, and `ProcessEnds` of nv_cli's Program:
-- - `answers`: the call reaches an outcome that is due (`IsDue`): for refused words the line of usage; for a command what its files result in, which is the
--   first of them that can't be read or is refused, or else what the command makes of them; or want of memory. The counts of the source show that outcome
--   (`Shows`), and its text was written with its status, or a prefix of it and 6 (`Says`).
-- - `completes`: files that are known and accepted, and no count that rose: the command's work is done, or memory is wanted.
-- - `rejects`: files that are known up to one that is refused: it is named, or memory is wanted, or a write failed.
--
-- What a command makes of its files: `run` a report of the sequential monitor's account (`IsRunOf`): one log, one fate a version, each event led by one
-- version; `record` the trace of such a log; `replay` the line of a version that follows a log; `inspect` that version at a point, and the files then;
-- `serve` such an account over what came, and over its streams what `Lived` says; `gen` the summary of the run of its number; `asm`, `rules` and `usage`
-- a text.
-- All of them, by theme. (.ci/headline.py --write makes the lines from here on.)
-- ---- What a command has to do: words and files
-- Begin with `IsDue` of nv_driver's Due, which has a case for each command; a live run's streams are `Lived` of Live.
use Rattle.nv_cli.specs.Program.{Given, IsDueOf, AreRefused, Begins, EndsWith, OverOf, ProgramAnswers, ProcessEnds}
use Rattle.nv_cli.specs.Streams.{streams_of, left_of}
use Rattle.nv_driver.specs.Account.{process_begun, IsRunOf, run_status}
use Rattle.nv_driver.specs.Causes.{cause_text}
use Rattle.nv_driver.specs.Due.{RunComesTo, made_outcome, RunOwes, JobOwes, GenOwes, lack_outcome, traced_outcome, TrailOwes, replayed, files_after, shown_of, shown, RecordComesTo, RecordOwes, ServeComesTo, ServeOwes, Owes, OwesAny, IsDue, IsUntouched, Shows, Says, Answers, ServedOver, Over, AnswersOver, IsReady, IsMade, IsTraced, IsAccepted, IsRefusedAt, IsRefusedFor, IsRefusedOn, IsRefused as nv_driver_IsRefused, IsReport, IsDone, Completes, Rejects}
use Rattle.nv_driver.specs.Found.{FILE_LIMIT, TRACE_LIMIT, TRANSCRIPT_LIMIT, script_limit, is_longer, TookMore, Found, IsReadWithin, IsLongerThan, AgreesWithin, Agrees, ScriptAgrees, AllAgree, AgreesIf, Finds, AreFound, found_whole, found_within, found_of, script_found, finds_of}
use Rattle.nv_driver.specs.Generated.{IsMadeRun}
use Rattle.nv_driver.specs.Help.{usage_line, script_help, transcript_help, start_help, rules_help, ring_help, memory_help, budget_help, no_budget_help, hang_help, usual_hang_help, calls_help, many_calls_help, threads_help, json_help, clients_help, patience_help, log_help, index_help, stamp_help, call_help, count_help, dump_help, length_help, asm_help, option_lines, example_line, more_help, help_lines, help_of}
use Rattle.nv_driver.specs.Live.{bare_text, after_first_line, whole_lines, transcript_head, unless_comes, without_arrivals, as_begun, live_script, after_live_script, live_prepared, AgreesOrBare, AreLiveFound, found_or_bare, live_finds_of, with_arrivals, with_hands, Streams, Unserved, ended_by_writes, ending_of, StoodAt, Lived}
use Rattle.nv_driver.specs.Made.{accepted_text, accepted_filter, of_rules, of_program, used, unless_refused, made_of}
use Rattle.nv_driver.specs.Outcome.{Outcome, account_text, totals_of, ending_status, refused_text, text_of as nv_driver_text_of, outcome_status, ended_with, name_at, limit_at, name_in as nv_driver_name_in, name_on, limit_on, Source, source_of}
use Rattle.nv_driver.specs.Prepared.{VersionOf, of_loaded, of_elf, version_from, Prepared, read_at, with_first_machine, version_then, versions_from, judged_by, rules_then, after_rules, after_script, prepared}
use Rattle.nv_driver.specs.Replayed.{counts_text, replay_text, replay_status}
use Rattle.nv_driver.specs.Simple.{option_rule, flag_rule, file_rule, files_rule, word_rule, simple_app, run_options, run_app, record_app, serve_app, trail_options, look_options, trail_files, replay_app, inspect_app, rules_app, asm_app, gen_app, help_app}
use Rattle.nv_driver.specs.Tasks.{fault_outcome}
use Rattle.nv_driver.specs.Traced.{TraceFinds, AreTraceFound, trace_finds_of, Lack, then_with, bytes_found, of_script, script_at, traced_rules, rules_at, unless_unsound, log_unless_faulty, trace_of_file, of_trace, log_at, trail_limits, traced_version, machine_traced, Traced, after_log, after_filter, after_setup, traced}
use Rattle.nv_driver.specs.Tracing.{trace_point}
use Rattle.nv_driver.specs.Words.{texts, unless_faulty, rows_of_line, number_between, number_within, in_pages, Limits, usual, service_usual, ring_of, memory_of, Allowance, allowed, allowance_from, allowance_of, calls_asked, threads_asked, limits_of, versions_asked, is_set, Parts as nv_driver_Parts, parts_of, ScriptFile, script_from, script_asked, Plan, plan_of, report_plan_of, patience_from, patience_of, Service, service_of, index_of, Trail, trail_of, Point, point_from, point_of, range_of, dump_from, dump_of, Look, look_of, Job, rules_job_of, asm_job_of, number_in, Name, name_spelt, topic_from, topic_of, Command, run_line, serve_line, rules_line, asm_line, gen_line, record_line, replay_line, inspect_line, help_line, asked_by, command_name, after_program, command_of}
use Rattle.nv_outside.specs.Counts.{raised, Rose}
use Rattle.nv_outside.specs.Files.{GotTold, KeepsFaults}
use Rattle.nv_outside.specs.Sink.{Writes, faults_by_write, Put, faults_by, Puts}
use Rattle.nv_outside.specs.Told.{Told, told_content, MayFail, Grows}
-- ---- The monitor: leader, followers, rules
-- Begin with `Run` of nv_replay's Monitor and `Account` of Sequence; a rule's verdict is nv_rules' `verdict_of`.
use Rattle.nv_replay.specs.Account.{IsSettled, AreSettled}
use Rattle.nv_replay.specs.Covers.{AreEnded, times, led_times, Covers}
use Rattle.nv_replay.specs.Follow.{Follower, fresh, Judge, no_rules, judge_of, consumed, judged, refusal_of, permit_by, refusal_by, met, decided, on_next, follow_next, follow, is_exited}
use Rattle.nv_replay.specs.Hands.{is_handed, unless_handed, next_or_hand, lead_to_hand}
use Rattle.nv_replay.specs.Lead.{Leader, is_cut, is_memory, cut_of, logged, led, unless_ended, next_call}
use Rattle.nv_replay.specs.LettingGo.{is_let_go, NoneLetGo, stop_of, front as nv_replay_front, left_behind, let_go}
use Rattle.nv_replay.specs.Monitor.{Part, Run, numbers, part, begun, with_span, led_line, after_lead, tracked_by, leads_on, turn_by, turn_of, turn_in, turn, told_standing, lines_of, account_of, sequence}
use Rattle.nv_replay.specs.Permits.{Permit, given, failed, passed, took, permit}
use Rattle.nv_replay.specs.Sequence.{Account, is_going as nv_replay_is_going, cuts_of}
use Rattle.nv_replay.specs.Settling.{stage}
use Rattle.nv_replay.specs.Survivors.{alone, IsSurvivor, HasNoClone, SurvivorsAgree}
use Rattle.nv_replay.specs.Taking.{is_alike, is_through, is_writing, fits, all_written, result_by, taken as nv_replay_taken}
use Rattle.nv_replay.specs.Tracks.{is_in, is_led, retraced_by, tracked, track_on, track_next, track}
use Rattle.nv_rules.specs.Pair.{argument_words, call_words, count_word, pair_words}
use Rattle.nv_rules.specs.Values.{FilterState, filter_start, held, with_register, other, operand_of, calculated, comparison_holds, Effect, goes_with, ends_without, acted, gone_on, stepped, returned_from, returned, value_of}
use Rattle.nv_rules.specs.Verdicts.{verdict_of}
use Rattle.nv_bpf.specs.Actions.{actions, action_of}
use Rattle.nv_bpf.specs.Faults.{filter_text}
use Rattle.nv_bpf.specs.Texts.{at_most, field, op_with, op_of_fields, op_of, put_first, with_line, ops_of, line_count, ops_after, ops_of_lines, ops_of_text, filter_with, filter_of, ended_number, op_text, ops_text}
use Rattle.nv_bpf.specs.Verified.{unless, constant_fault, is_word as nv_bpf_is_word, action_fault, fault_by, op_fault, is_return, or_later_fault, ops_fault, ends_in_return, list_fault, ops_or, verified}
-- ---- The kernel: calls, files, sockets, what arrives
-- Begin with `serve_next` of nv_arriving's Arriving, then `serve` of nv_sockets' and of nv_kernel's Serving.
use Rattle.nv_calls.specs.Answer.{Answer, answer, only, reply_of, state_after, start_at}
use Rattle.nv_calls.specs.Answers.{polled_count, selected_count, set_bytes, sets_bytes, most_out_by, answer_slot}
use Rattle.nv_calls.specs.Calls.{Request, Response, Entry, status_of, is_same}
use Rattle.nv_calls.specs.Constants.{result_alone, utsname_field, names, system, directory, process, parent, user, unless_bad, constant_by, constant_of}
use Rattle.nv_calls.specs.Errors.{ENOENT, EINTR, EBADF, EAGAIN, EFAULT, EEXIST, ENOTDIR, EINVAL, EMFILE, ENOTTY, EFBIG, ENOSPC, ESPIPE, EPIPE, ERANGE, ENAMETOOLONG, ENOSYS, ENOTSOCK, EADDRINUSE, ENOTCONN}
use Rattle.nv_calls.specs.Hands.{has}
use Rattle.nv_calls.specs.Held.{Held}
use Rattle.nv_calls.specs.Limits.{MOST_BYTES, MOST_VECTORS, MOST_PATH, MOST_ADDRESS, MOST_POLLED, MOST_SELECTED, TIME_BYTES, POLLED_BYTES, EVENTS_BYTES, FIRST_THREAD, MOST_THREADS, MOST_EVENTS}
use Rattle.nv_calls.specs.Logs.{made, child_of, with_child, live_next, live_from, live_after, Written, Start, call_of, calls_of, served, output_of, connections_of}
use Rattle.nv_calls.specs.Numbers.{CLONE, EXIT, EXIT_GROUP, Row, row, table, syscall_in, syscall_of, slots_by, has_range, is_of_threads, is_local, is_later}
use Rattle.nv_calls.specs.Profiles.{bare, in_profile}
use Rattle.nv_calls.specs.Shapes.{is_plain, are_plain, kept_slots, most_of_vectors, is_capacity, is_path, is_timed, is_payload, is_shaped_as, is_shaped}
use Rattle.nv_script.specs.Arrivals.{Arrival, is_sized, is_port, is_nanos, is_arrival, AreBytes, BringsBytes}
use Rattle.nv_script.specs.Doings.{Said, Doing, takings, sayings, handings}
use Rattle.nv_script.specs.Entry.{Entry as nv_script_Entry, form_of, is_fifth, is_printable, is_argument, is_file_byte, is_dots, is_file_name, entry_kinds, in_form, kind_of, shaped, argument_entry, file_with, file_entry, clock_fits, clock_entry, clock_with, clock_of, is_hand, hand_entry, hand_with, is_port as nv_script_is_port, connection_entry, connection_with, connection_of, entry_by, entry_with, is_passed_over, cause_of, arrives, begins_arrival, entry_of}
use Rattle.nv_script.specs.HandLines.{hand_line}
use Rattle.nv_script.specs.Order.{most_clients, Came, nothing_came, input_going, input_ended, clients_ended, with_client, is_going, not_going, sending, without as nv_script_without, client_ended, admitted, onward, after, are_orderly, are_arrivals}
use Rattle.nv_script.specs.Pieces.{cut_after, pieces, input_of}
use Rattle.nv_script.specs.Reading.{words as nv_script_words, word_of, is_word, is_timeless, is_timeless_word, sized, bytes_of as nv_script_bytes_of, line_arrival, input_with, connect_with, data_with, data_parts, data_in, end_with, end_of, time_with, time_parts, time_in, arrival_by, arrival_with, arrival_of}
use Rattle.nv_script.specs.Scripts.{Named, Incoming, Setup, Draft, blank, has_name, with_argument, with_input, with_named_file, with_clock, with_seed, has_hand, with_hand, with_connection, with_came, with_arrival, with_entry, with_result, with_script_line, onward as nv_script_onward, drafted, no_clock, setup_with, finished, finished_result, no_form, script_in, script_of_lines, script_of}
use Rattle.nv_script.specs.Texts.{cause_word, script_fault_text}
use Rattle.nv_script.specs.Writing.{is_printable as nv_script_is_printable, front, is_line, input_text, line_text}
use Rattle.nv_live.specs.Clients.{clients_text}
use Rattle.nv_live.specs.ComingLines.{is_plain as nv_live_is_plain, is_comment, is_hand as nv_live_is_hand, is_passed, says, text_of, Say, IsWhole, is_beyond, cause_next, cause_by, IsRefused, StopsAt, Come}
use Rattle.nv_live.specs.Lines.{parts_after, parts, line_with as nv_live_line_with, lines_with, held_text}
use Rattle.nv_live.specs.Live.{stop_with, plain_bytes, plain_text}
use Rattle.nv_live.specs.Run.{CameBy, said_text}
use Rattle.nv_live.specs.SaidLines.{head_of, said_lines}
use Rattle.nv_live.specs.Source.{Gave, Reads, faults_by_read, Moment, moment_of, Asked}
use Rattle.nv_live.specs.Taking.{faults_by_stop, is_plain_stop, Took}
use Rattle.nv_live.specs.Transcript.{hand_text, note_of, notes_on}
use Rattle.nv_fs.specs.Closes.{with_descriptor, close_open, close_of, free_descriptor, shared_at, share, dup_open, dup_of, dup_onto, dup3_of}
use Rattle.nv_fs.specs.Contents.{with_bytes}
use Rattle.nv_fs.specs.Ends.{free_pipe, with_empty, with_ends, free_above, pipe_on, pipe_from, pipe_of}
use Rattle.nv_fs.specs.Fetched.{hand_out, read_input, read_file, pipe_at, with_pipe, read_pipe, read_target, read_open, read_of}
use Rattle.nv_fs.specs.Names.{Resolved, is_cwd, is_open_at, is_absolute, name_in, is_named, file_of, component_of, name_of, resolved}
use Rattle.nv_fs.specs.Opened.{has_flag, opened, open_file, truncated, free_file, with_file, create, open_at_descriptor, exclusive_error, open_unless, open_resolved, open_at_of, unlinked, unlink_file, unlink_resolved, unlink_at_of}
use Rattle.nv_fs.specs.Polls.{READABLE, WRITABLE, FAILED, HUNG, when, input_events, reader_events, writer_events, target_events, file_events, access_of, flags_of as nv_fs_flags_of, file_flags}
use Rattle.nv_fs.specs.Seeks.{bytes_of, plus_signed, base_of, seek_to, seek_from, seek_target, seek_open, seek_of}
use Rattle.nv_fs.specs.Starts.{first_descriptors, first_opens, console_limit, first_state}
use Rattle.nv_fs.specs.States.{Inode, FileState, numbered, open_of, is_open, one_way, is_target, opens_to, has_open, is_numbered, is_shared, file_at, is_kept, is_pipe, least_free, with_at, free_open, install, moved_to}
use Rattle.nv_fs.specs.Stored.{MOST_WRITTEN, write_console, with_content, start_of, write_at, write_pipe, write_target, write_open, write_of}
use Rattle.nv_fs.specs.Told.{told_by, told_of, opened_as}
use Rattle.nv_fs.specs.Waits.{is_input, reads_input, waits_on_input}
use Rattle.nv_kernel.specs.Crew.{Crew, first_crew, may_clone, clone_as, clone_of, exit_of, with_none_live}
use Rattle.nv_kernel.specs.Serving.{State, always, of_files, of_crew, counted, request_arg, second, time_bytes, time_of, reached, next_random, high_byte, randoms, random_after, randomly, control, unless_many, clock, answered, unless_bad as nv_kernel_unless_bad, serve, named_inode, first_state as nv_kernel_first_state}
use Rattle.nv_sockets.specs.Coming.{connected, with_data, ended}
use Rattle.nv_sockets.specs.Serving.{of_open, unless_many as nv_sockets_unless_many, answered as nv_sockets_answered, unless_bad as nv_sockets_unless_bad, or_own, State as nv_sockets_State, beside, joined, serve as nv_sockets_serve, link_written, link_from, waiting_from, first_net, first_state as nv_sockets_first_state}
use Rattle.nv_sockets.specs.Sockets.{Inbox, Link, Net, socket_count, output_limit, no_sockets, socket_at, fault_of, on_socket, with_socket, free_place, socket_opened, are_flags, is_stream, is_tcp, made_at, socket_of, port_by, port_in, is_size, has_port, is_used, bind_to, bind_socket, bind_of, listen_socket, listen_of, first_at, next_at, without as nv_sockets_without, with_accepted, accept_next, accept_socket, accept_flagged, accept_of, link_at, unread_in, unread_of, over_in, has_unread, is_over, is_going as nv_sockets_is_going, link_output, with_link, with_inbox, read_link, read_socket, with_output, write_link, write_socket, closed_link, close_socket}
use Rattle.nv_sockets.specs.Texts.{connection_count_text, connection_text, connection_texts, connections_text}
use Rattle.nv_arriving.specs.Arrivals.{ends, any_ends, until, taken_for, in_vain}
use Rattle.nv_arriving.specs.Arriving.{wants_input, wants_data, read_wants, wants_client, accept_wants, wants_on, wants_as, wants, wait_of, with_input as nv_arriving_with_input, with_net, arrive, arrive_all, with_end, unless_vain, counted as nv_arriving_counted, reached_by, polled, would_wait, later_as, later, nonblocking_by, noted, note, own_answer as nv_arriving_own_answer, or_own as nv_arriving_or_own, serve_by, Stage, taken, ready_for, answer_next, serve_next, Satisfied, first_standing, first_stage, start_of_arrivals}
use Rattle.nv_arriving.specs.Doings.{of_bytes, socket_by, accepted_as, accepted, written as nv_arriving_written, sent, closed, said, doings_of, doings_from, doings}
use Rattle.nv_arriving.specs.Flags.{NONBLOCK, is_nonblocking_by, is_nonblocking, flags_by, flags, flags_set, with_flags, control_open, control_by, control_of}
use Rattle.nv_arriving.specs.Kernel.{after as nv_arriving_after}
use Rattle.nv_arriving.specs.NonBlocking.{each_waits, is_nonblocking_socket, with_socket as nv_arriving_with_socket}
use Rattle.nv_arriving.specs.Polling.{polled_at, looked_as, looked_at, listed_count, count_as, places, is_passed as nv_arriving_is_passed, asks as nv_arriving_asks, SENT_ALL, NOT_OPEN, connected_events, socket_events, events_by, events, told, told_of as nv_arriving_told_of, is_ready, ready_in, ready, comes_to, calls_at, comes_in, readies_by, readies, is_source_by, is_source, has_source, is_at_end, ends_poll, is_bad, has_bad_count, is_refused, poll_waits, poll_wants, past_answer, idle_answer, is_closed, has_closed, refuses_closed, ready_ret, poll_ret, told_in, ready_bits, ready_byte, told_as, told_bytes, with_bytes as nv_arriving_with_bytes, poll_of}
use Rattle.nv_arriving.specs.Scripted.{start_from, stage_from}
use Rattle.nv_arriving.specs.Selecting.{SPECIAL, set_events, set_bits, has_bit, PASSED, selected_at}
use Rattle.nv_arriving.specs.Standings.{Standing, is_over as nv_arriving_is_over, with_state as nv_arriving_with_state}
use Rattle.nv_arriving.specs.Telling.{taken_before, are_at_most}
use Rattle.nv_arriving.specs.Timing.{word, time_in as nv_arriving_time_in, now, at, after_time, after as nv_arriving_Timing_after, poll_until, is_clock, base, sleep_until, until_as, until_of, is_past, reaches, is_reached, sleep_wants, with_time, slept}
-- ---- The guest: instructions, memory, threads
-- Begin with `effect` of nv_machine's Guest and the table of instructions (nv_isa's Table), then nv_threads.
use Rattle.nv_threads.specs.Behaviours.{Behaviour}
use Rattle.nv_threads.specs.Threads.{TaskState, Task, task_tid, task_tids, state_at, with_state, is_running, is_asking, asks, waits_at, lesser, Proc, turn_length, renewals_of, started, count_of, renewed, greatest, machine, least_above, least, or_else, next_tid, all_unreserved, turn_passed, turn_replied, broken, brk, operation, least_waiter, woken_one, woken_by, woken, woke, waiting, futex_on, futex_by, futex, own_answer, local, asking, called, faulted, ran, ended_by, turn_stepped, one_run, instruction, wanted, moves, moves_task, can_move, unless_live, is_on, turn_step, unless_came, steps, most_passes, most_steps, advanced, no_call, call_in, exited, left_by, goes_on, with_child_task, after_call, answered_as, answered_by, waiting_calls, is_sole, threads}
use Rattle.nv_guest.specs.Answers.{with_byte, with_each_byte, targets_with, targets_at, scattered, with_sets, with_events}
use Rattle.nv_guest.specs.Block.{strings, addresses, words, all_arguments, strings_start, stack_pointer, stack_words, with_block}
use Rattle.nv_guest.specs.Calls.{argument, call_number, kept, all_kept, values, values_with, out_of, vector_count, first_bytes, written_bytes, address_in, readable, timeout_in, both, polled_bytes, set_size, set_in, set_places, sets_in, selected_bytes, path_in, vectors_in, capacity_in, Handed, refused, with_payload, with_capacity, with_out, polled_in, handed, call_by, call_at, stored_at, memory_after, past_call, with_answer}
use Rattle.nv_guest.specs.Faults.{guest_text}
use Rattle.nv_guest.specs.Guest.{one_thread}
use Rattle.nv_guest.specs.Heap.{moved}
use Rattle.nv_guest.specs.Load.{first_beyond, with_ranges, region_of, highest, heap_start, data_region, regions_of, first_bytes as nv_guest_first_bytes, first_machine, Loaded, loaded_if, loaded}
use Rattle.nv_guest.specs.Paths.{byte_at, path_with, path_at}
use Rattle.nv_guest.specs.Threads.{Threaded, regs_at, with_regs, machine_at, with_machine, answered_at, with_stack, with_pointer, child_regs, child_thread, cloned, dropped, without, unreserved, unreserved_each, released, last_region, is_break, break_after, with_break}
use Rattle.nv_guest.specs.Vectors.{vector_part, vector_at, prefix_of, usable, usable_by, usable_at, parts_with, parts_at, capacity, joined_parts}
use Rattle.nv_elf.specs.Elf.{Range, Executable, ElfOf, entry_at, table_at, table_len, has_magic, has_class, has_versions, has_table, file_fault, header_at, headers_from, headers_of, is_loadable, loadables_of, is_interpreted, table_fault, is_outside, Extent, extent_of, shares, overlap_from, holds_entry, can_be_entry, overlap_fault, loadables_fault, elf_fault, range_in, executable_in, elf_unless, elf_of}
use Rattle.nv_elf.specs.Faults.{elf_text}
use Rattle.nv_elf.specs.Written.{file_header, flags_of, program_header, padding, table_from, contents_from, contents_at, elf_bytes}
use Rattle.nv_machine.specs.Effects.{sum, difference, is_below_signed, as_number, shifted_copies, upper_half, divided, remainder, divided_unsigned, remainder_unsigned, multiplied, computed, is_taken, sign_extended, combined}
use Rattle.nv_machine.specs.Guest.{Machine, StepResult, fault, with_memory, register, immediate_word, next_address, gets, jumps, branches, gets_loaded, width_of, extended, loads, stores, with_immediate, between_registers, compares, word_at, with_word, is_word_at, is_reserved, load_reserved, store_conditional, combines, effect, executed, fetched, guest_step}
use Rattle.nv_machine.specs.Registers.{Registers, written, fresh_registers}
use Rattle.nv_memory.specs.Bytes.{bytes_at, put, little, little_bytes, byte_count}
use Rattle.nv_memory.specs.Cells.{memory_byte}
use Rattle.nv_memory.specs.Image.{Image, value_at, stored, cut}
use Rattle.nv_memory.specs.Region.{allows, covers, holds, lies_in, set_end}
use Rattle.nv_isa.specs.Spelling.{low_bits, spelled, encoded}
use Rattle.nv_isa.specs.Table.{Encoding, with_op, encoding, encodings, belongs, row_of, bits, signed_value, rd_of, rs1_of, rs2_of, immediate, rd_in, rs1_in, rs2_in, insn_of, decoded}
-- ---- The texts: reports, traces, assemblers, made runs
-- Begin with `report_text` of nv_report's Report.
use Rattle.nv_report.specs.Events.{payload_text, call_text, result_text, event_text}
use Rattle.nv_report.specs.Json.{natural, integer, list_value, hex_value, word_json, payload_value, event_value, span_value, led_value, version_members, version_value, report_object, report_value, json_text}
use Rattle.nv_report.specs.Numbers.{number_text}
use Rattle.nv_report.specs.Report.{head_text, count_text, fates_text, report_text}
use Rattle.nv_report.specs.Versions.{kind_text, fault_text, refusal_text, fate_text, end_text, prefix_text, seen_text, span_text, next_span_text, led_text, rewrites_text, rest_text, line_text as nv_report_line_text, lines_text}
use Rattle.nv_trace.specs.Checks.{is_live, is_reply, entry_fault, faults_after, check_fault}
use Rattle.nv_trace.specs.Faults.{has_head, head_fault, event_fault, events_fault, trace_fault}
use Rattle.nv_trace.specs.Held.{count_in, bad_in, sent_in, came_in, size_in, request_in, response_in, entry_in, entries_in, log_in}
use Rattle.nv_trace.specs.Limits.{MOST_TRACED}
use Rattle.nv_trace.specs.Texts.{trace_text, check_text}
use Rattle.nv_trace.specs.Trace.{number_bytes, bit, arg, fields_of, event_bytes, head_bytes, trace_of}
use Rattle.nv_inspect.specs.Firsts.{texts_below}
use Rattle.nv_inspect.specs.Points.{place_of, events_to, budget_to, renews_to, at_point}
use Rattle.nv_inspect.specs.Shown.{word_text, standing_text, place_text, heading_text, register_text, registers_text, counter_text, thread_text, live_text, threads_text, opened_text, named_text, descriptor_as, descriptor_text, descriptors_text, cell_text, byte_text, row_text, memory_line, dump_text, show_text}
use Rattle.nv_asm.specs.Assembled.{Whole, text_base, data_base, base as nv_asm_base, address, address_of, is_undefined, is_entry_place, is_entry, word_lacks, code_lacks, lacks, distance, word_value, code_words, le_words, content, is_earlier, is_twice, is_long, padding_before, padded, laid_by, laid, cause_of as nv_asm_cause_of, bytes_or_none, laid_in, section_bytes, entry_past, entry_address, text_range, data_ranges, laid_program, first_cause, meaning_by, meaning, whole_of, assembled_lines, assembled}
use Rattle.nv_asm.specs.Faults.{asm_word, asm_text}
use Rattle.nv_asm.specs.Forms.{same_form, has_form, flags as nv_asm_flags, each_order, kinds}
use Rattle.nv_asm.specs.Numbers.{registers, numbered_register, register_named, decimal, hexadecimal, magnitude, signed, literal, is_number, within, number, number_of_12_bits, number_of_32_bits, number_of_8_bits}
use Rattle.nv_asm.specs.Places.{here_by, here, filled, among_data, in_section, or_blank, code_size, size, begin, past, Placed, stated, place, after as nv_asm_after, line_parts, placed_parts, placed_line, placed, nothing_reached, ended as nv_asm_ended, marked}
use Rattle.nv_asm.specs.Statements.{Word, Code, Statement, insn, single, with_number, upper_of, lower_of, loading, ◌>>=◌, name, is_not_open, closed as nv_asm_closed, enclosed, base_register, displacement, sole_register, registers_of, immediate_of, shift_of, load_of, store_of, reserved_statement, atomic_of, branch_of, jump_and_link_of, upper_number_of, load_number_of, load_address_of, move_of, jump_of, zeros, zeros_of, entry_statement, of_none, of_one, of_two, of_three, formed, is_within, number_or_zero, is_byte, byte_of, bytes_within, bytes_of as nv_asm_bytes_of, is_item, is_word as nv_asm_is_word, word_of as nv_asm_word_of, words_within, words_of, kind_read, stated as nv_asm_stated, statement_begun, statement}
use Rattle.nv_asm.specs.Strings.{escape, at_end, escaped_mark, mark, quoted, string, next, comment_place}
use Rattle.nv_bpf_asm.specs.Assembled.{is_not_comment, line_parts as nv_bpf_asm_line_parts, word_count, count, labels, Find, is_earlier as nv_bpf_asm_is_earlier, is_twice as nv_bpf_asm_is_twice, way, near_way, jump_by, jump_op, branch_by, branch_op, op_of as nv_bpf_asm_op_of, op_after, some_op, op_of_word, op_of_parts, op_of_line, put_first as nv_bpf_asm_put_first, with_line as nv_bpf_asm_with_line, ops_of as nv_bpf_asm_ops_of, of_filter, filter_with as nv_bpf_asm_filter_with, assembled as nv_bpf_asm_assembled}
use Rattle.nv_bpf_asm.specs.Faults.{rule_word, rules_text}
use Rattle.nv_bpf_asm.specs.Statements.{Statement as nv_bpf_asm_Statement, forms, after_prefix, closed as nv_bpf_asm_closed, constant, between, of_event, plain, sum_of, return_of, load_of as nv_bpf_asm_load_of, load_index_of, jump_of as nv_bpf_asm_jump_of, choice_of, branch_of as nv_bpf_asm_branch_of, formed as nv_bpf_asm_formed, stated as nv_bpf_asm_stated, statement as nv_bpf_asm_statement}
use Rattle.nv_gen.specs.Made.{Numbers, numbers_of, Call, Ending, Course, write_text, calls_getuid, calls_at as nv_gen_calls_at, calls_to, course, courses_to, script, rules, Totals, named_number, summary}
use Rattle.nv_gen.specs.Programs.{sets, points, ecall, ebreak, write_insns, getuid_insns, exit_insns, insns_of, last_insns, insns, insn_bytes, code_of, block, segment_bytes, course_range, program, programs_to, programs}
use Rattle.nv_bytes.specs.Fields.{is_space, is_not_space, first_word, without_first, rest_of, fields}
use Rattle.nv_bytes.specs.Lines.{is_newline, lines, line_number, is_blank, is_not_blank, trim_start, trim_end, trim, is_comma, operands_of, operands, is_letter, is_digit, is_name_byte, begins_name, is_name, Parts, prefix, rest_after, line_with, after_name, parted, line_of}
use Rattle.nv_bytes.specs.LittleEndian.{field_at}
use Rattle.nv_bytes.specs.Names.{defined, defining, definitions, or_later, first_fault}
use Rattle.nv_bytes.specs.Numbers.{number_of, decimal_of, paired, unhexed, hex_pair_of, hex_of}
