use Rattle.std.proofs.Common.{◌∙◌, ◌++◌, ap, sym, refl, append-nil, subst, ℕ, List, option_map, rules}
use Rattle.nv_replay.specs.Follow.{judge_of}
use Rattle.nv_threads.specs.Threads.{threads}
use Rattle.nv_room.specs.Room.{Became}
use Rattle.nv_room.specs.Seats.{hands_of, on_demand_of, origin}
use Rattle.nv_workers.specs.Ends.{IsAccount}
use Rattle.nv_workers.proofs.NewSeats.{as_made}
use Rattle.nv_cli.proofs.Demands.{unasked}
use Rattle.nv_cli.proofs.NoVersions.{no_versions, none_let_go}
use Rattle.nv_cli.proofs.beside.run_on_demand.Goals as goal

pub returns-then-is_empty-clause-account : goal.returns-then-is_empty-clause-account
returns-then-is_empty-clause-account g c =
    unasked (Became g.K.SyscallKernel.start g.K.SyscallKernel.handed c.args.kernel c.args.kernel) c.args.on_demand (judge_of (option_map (λ f. f.now) c.args.rules)) (g.K.SyscallKernel.known c.args.kernel) c.args.limits.calls c.args.hands.now.items c.args.versions.items c.args.versions.items
    (g.K.SyscallKernel.log c.args.kernel) (refl, λ before h. subst (g.K.SyscallKernel.handed c.args.kernel) (sym (append-nil before)) h)
    (no_versions threads (judge_of (option_map (λ f. f.now) c.args.rules)) (g.K.SyscallKernel.known c.args.kernel) c.args.limits.calls c.args.hands.now.items c.args.versions.items (g.K.SyscallKernel.log c.args.kernel)
    (search rules) c.requires.empty)
    (none_let_go c.args.versions.items (search rules))

pub run_staffed-ran-requires-clause-seats : goal.run_staffed-ran-requires-clause-seats
run_staffed-ran-requires-clause-seats g c κs within =
    let m = c.in-Ok-make_with.ensures in
    let made = c.in-Ok-make_with.made in
    as_made made.0 made.1.items made.2 m.readers.1 m.lead m.log

pub run_staffed-ran-requires-clause-terms : goal.run_staffed-ran-requires-clause-terms
run_staffed-ran-requires-clause-terms g c κs within = record { most = c.args.limits.calls_fit.1; hands = search rules }

pub end-requires-after_bounds : goal.end-requires-after_bounds
end-requires-after_bounds g c κs within = (
  judge_of (option_map (λ f. f.now) c.args.rules),
  c.args.limits.calls,
  c.args.versions.items,
  c.run_staffed-ran.ensures.ran,
)

pub returns-clause-account : goal.returns-clause-account
returns-clause-account g c =
    let m = c.in-Ok-make_with.ensures in
    let judges = judge_of (option_map (λ f. f.now) c.args.rules) in
    let room = c.run_staffed-ran.ensures.room in
    let a = c.end.ensures.account judges c.args.limits.calls c.args.versions.items c.run_staffed-ran.ensures.ran in
    record {
      asked = a.0;
      asks_for = subst (λ (k : g.row.K.Denot). Became g.K.SyscallKernel.start g.K.SyscallKernel.handed k c.end.result.kernel a.0) (ap origin room ∙ m.origin) a.3;
      only = λ off. a.1 (ap on_demand_of room ∙ m.on_demand ∙ off);
      stays = λ off. c.end.ensures.stays judges c.args.limits.calls c.args.versions.items c.run_staffed-ran.ensures.ran (ap on_demand_of room ∙ m.on_demand ∙ off);
      is_account = subst (λ (hands : List ℕ). IsAccount threads judges (g.K.SyscallKernel.known c.end.result.kernel) c.args.limits.calls (hands ++ a.0) c.args.versions.items c.end.result.versions.items
          (g.K.SyscallKernel.log c.end.result.kernel)) (ap hands_of room ∙ m.hands) a.2;
    }
