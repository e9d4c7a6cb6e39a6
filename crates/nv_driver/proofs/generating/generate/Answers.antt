use denote.Exit.{no}
use denote.Param.Send.{param_send, arg_send}
use Rattle.std.proofs.Common.{◌≡◌, ◌≤◌, ◌∙◌, ap, sym, subst, length, map, ℕ, List, Vec, Global, Some, arith}
use Rattle.std.specs.Prelude.{All}
use Rattle.nv_elf.specs.Elf.{Accepted}
use Rattle.nv_gen.specs.Measures.{file_read_as}
use Rattle.nv_gen.specs.Programs.{programs}
use Rattle.nv_gen.specs.Texts.{bare, asks_beside_writes}
use Rattle.nv_gen.proofs.Reading.{script_read, rules_read}
use Rattle.nv_driver.specs.Words.{usual}
use Rattle.nv_script.specs.Scripts.{Setup}
use Rattle.nv_script.specs.Views.{setup_of}
use Rattle.nv_driver.specs.Prepared.{of_elf}
use Rattle.nv_driver.specs.Generated.{IsGenerated}
use Rattle.nv_driver.specs.inner.Generated.{Runs}
use Rattle.nv_driver.proofs.Loaded.{can_run, all_made, few_made, length-made}
use Rattle.nv_driver.proofs.Planned.{planned_by}
use Rattle.nv_arriving.proofs.Sending.{listed_send}
use Rattle.nv_driver.proofs.generating.generate.Goals as goal

pub make-requires-2-send-A : goal.make-requires-2-send-A
make-requires-2-send-A c κs = param_send 0 _ (arg_send _ no _ listed_send)

pub read_versions-requires-clause-run : goal.read_versions-requires-clause-run
read_versions-requires-clause-run c =
    subst (λ (files : List (Vec ℕ Global)). All (λ file. Runs bare file.items) files) (sym c.deref-3.ensures.value)
    (can_run c.args.number c.in_ok-made.made.versions.items (λ version inside. c.versions_fit_the_default_memory.ensures c.args.number version inside) c.in_ok-made.ensures.versions)

pub read_versions-requires-clause-few : goal.read_versions-requires-clause-few
read_versions-requires-clause-few c =
    subst (λ (files : List (Vec ℕ Global)). length files ≤ 8) (sym c.deref-3.ensures.value) (few_made c.args.number c.in_ok-made.made.versions.items c.in_ok-made.ensures.versions)

pub returns-clause-ready : goal.returns-clause-ready
returns-clause-ready c =
    let n = c.args.number in
    let files = c.deref-3.result.now in
    let versions = c.in_ok-versions.versions.items in
    let from = c.in_ok-versions.ensures.versions in
    let made = all_made bare files versions from in
    let read : map file_read_as files ≡ map Accepted (programs n) = ap (map file_read_as) c.deref-3.ensures.value ∙ c.in_ok-made.ensures.versions in
    let is = c.in_ok-kernel.ensures in
    subst (λ (setup : Setup). IsGenerated n c.in_ok-kernel.kernel.log setup (Some c.in_ok-rules.rules) versions) (sym (is.1 ∙ c.in_ok-script.ensures.script))
    (record {
      empty = is.0;
      machines = made.machines;
      processes = made.processes;
      run = record {
        script_is = script_read;
        ops = asks_beside_writes;
        rules_are = rules_read;
        filter_is = ap Some c.in_ok-rules.ensures.filter;
        machines_are = ap (map (of_elf usual bare)) (sym read) ∙ made.loads;
      };
      fresh = c.in_ok-versions.ensures.fresh;
      few = (let short = few_made n files read in let count = length-made bare files versions from in omega arith);
    })

pub returns-clause-planned : goal.returns-clause-planned
returns-clause-planned c = planned_by c.in_ok-kernel.kernel.setup (setup_of c.in_ok-script.script) c.in_ok-kernel.ensures.1 c.in_ok-script.ensures.sound
