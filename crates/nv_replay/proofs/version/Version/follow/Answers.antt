use Rattle.std.proofs.Common.{◌≡◌, ◌∙◌, ℕ, sym, ap, subst, None, option_map}
use Rattle.std.specs.Prelude.{Contains}
use Rattle.nv_calls.specs.Calls.{entry}
use Rattle.nv_threads.specs.Threads.{threads, Proc}
use Rattle.nv_threads.specs.Ahead.{Known}
use Rattle.nv_threads.proofs.ThreadLaws.{threads_on, threads_only}
use Rattle.nv_threads.specs.declared.turns.Want.TheVariants.{Only}
use Rattle.nv_rules.specs.declared.outcome.Verdict.{Verdict}
use Rattle.nv_rules.specs.Verdicts.{verdict_of}
use Rattle.nv_replay.specs.Follow.{Follower, IsCounted, decided, judge_of}
use Rattle.nv_replay.specs.Version.{Running}
use Rattle.nv_replay.specs.Views.{running_of}
use Rattle.nv_replay.proofs.Following.{decided_fault, decided_asked}
use Rattle.nv_replay.proofs.Obeying.{told_again}
use Rattle.nv_replay.proofs.version.Version.follow.Goals as goal

pub advance-requires : goal.advance-requires
advance-requires c = subst (λ (r : Running Proc). threads.ended r.at.process ≡ None) (sym c.self.view_is)
    (threads_on c.args.self.now.at.process c.args.event.now.call.tid c.requires.lives)

pub returns-in-Fault-clause-new : goal.returns-in-Fault-clause-new
returns-in-Fault-clause-new c =
    let old : Running Proc = running_of c.self.inside in
    let on : Running Proc → Running Proc = λ r. record r { at = decided threads (judge_of (option_map (λ f. f.now) c.args.rules) r.index) (entry c.args.event.now) r.at } in
    let i = c.in-Fault.ensures in
    c.end.ensures.new ∙ (rw i.after (ap (λ (x : Follower Proc). record old { at = x })
    (sym (decided_fault threads _ (entry c.args.event.now) old.at _ _ _ (sym i.came)))) ∙ ap on c.self.view_is)

pub returns-in-Asked-clause-new : goal.returns-in-Asked-clause-new
returns-in-Asked-clause-new c =
    let old : Running Proc = running_of c.self.inside in
    let on : Running Proc → Running Proc = λ r. record r { at = decided threads (judge_of (option_map (λ f. f.now) c.args.rules) r.index) (entry c.args.event.now) r.at } in
    let i = c.in-Asked.ensures in
    c.meet.ensures.new ∙ (rw i.after (ap (λ (x : Follower Proc). record old { at = x })
    (sym (decided_asked threads _ (entry c.args.event.now) old.at _ (sym i.came)))) ∙ ap on c.self.view_is)

pub returns-in-Asked-clause-told : goal.returns-in-Asked-clause-told
returns-in-Asked-clause-told c =
    let i = c.in-Asked.ensures in
    let at : Follower Proc = record (running_of c.self.inside).at { process = c.advance.new.self.process } in
    let by : ℕ → Proc → ℕ → Verdict = λ n p t. verdict_of
    (judge_of (option_map (λ f. f.now) c.args.rules) n (threads.call p t) (entry c.args.event.now)) in
    let wanted : ℕ = c.args.event.now.call.tid in
    let lives : Contains (threads.live c.self.inside.process.process) wanted = subst (λ (r : Running Proc). Contains (threads.live r.at.process) wanted)
    (sym c.self.view_is) c.requires.lives in
    let same : c.in-Asked.tid ≡ wanted = threads_only c.self.inside.process.process wanted c.in-Asked.tid lives (sym i.came) in
    let verdict : by c.self.inside.index c.advance.new.self.process c.in-Asked.tid ≡ by c.args.self.now.index
    (threads.after c.args.self.now.at.process (Only wanted)) wanted = ap (λ (k : Known). by c.self.inside.index k.process c.in-Asked.tid) i.after ∙ (ap
    (by c.self.inside.index (threads.after c.self.inside.process.process (Only wanted))) same ∙ ap
    (λ (r : Running Proc). by r.index (threads.after r.at.process (Only wanted)) wanted) c.self.view_is) in
    told_again _ c.meet.result at c.args.self.now.at c.meet.new.self.at (ap (λ (r : Running Proc). r.at.seen) c.self.view_is)
    (ap (λ (r : Running Proc). r.at.rewrites) c.self.view_is)
    (subst (λ (v : Verdict). IsCounted v c.meet.result at c.meet.new.self.at) verdict c.meet.ensures.told)
