use Rattle.std.proofs.Common.{◌≡◌, ◌<◌, ℕ, ap, arith, true}
use Rattle.nv_calls.specs.Calls.{Response}
use Rattle.nv_threads.specs.Threads.{threads, Proc}
use Rattle.nv_threads.specs.Ahead.{Known}
use Rattle.nv_threads.proofs.ThreadLaws.{threads_falls}
use Rattle.nv_replay.specs.Version.{Running}
use Rattle.nv_replay.proofs.Spanning.{grown_end}
use Rattle.nv_replay.proofs.version.Version.answered.Goals as goal

fewer : (p q : Proc) (t : ℕ) (r : Response) → q ≡ threads.answered p t r → threads.pending p t ≡ true → threads.calls_left q < threads.calls_left p
fewer p q t r e h = rw e (threads_falls p t r h)

pub invariant_of-self : goal.invariant_of-self
invariant_of-self c =
    let seen : c.self.inside.standing.seen ≡ c.args.self.now.at.seen = ap (λ (r : Running Proc). r.at.seen) c.self.view_is in
    let pending : threads.pending c.self.inside.process.process c.args.event.now.call.tid ≡ true = rw
    (ap (λ (r : Running Proc). r.at.process) c.self.view_is) c.requires.pending in
    let kept = c.self.invariant in
    record {
      few_seen = omega (arith, seen, c.requires.below);
      few_calls = omega (arith, kept.few_calls, fewer _ _ _ _ (ap (λ (k : Known). k.process) c.answer.ensures) pending);
      in_spans = rw (c.grow.ensures) (grown_end _ _ kept.in_spans);
      wide = kept.wide;
    }
