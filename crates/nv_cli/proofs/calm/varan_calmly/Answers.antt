use Rattle.std.proofs.Common.{inl, inr, ⊎_elim, ◌≡◌, ◌⊎◌, arith}
use Rattle.nv_outside.specs.Counts.{Rose}
use Rattle.nv_driver.proofs.Statuses.{five-by, six-by, usage-by}
use Rattle.nv_cli.proofs.calm.varan_calmly.Goals as goal

never : Rose 0 0 → ⊥
never r = omega arith

pub returns : goal.returns
returns g c =
    let said = c.varan.ensures in
    record {
      answers = said.answers;
      completes = λ command asked accepted. said.completes command asked accepted never never;
      rejects = λ command asked refused. ⊎_elim inl
          (λ (r : (c.varan.result ≡ 6) ⊎ (c.varan.result ≡ 3)). ⊎_elim (λ (is : c.varan.result ≡ 6). absurd (never (six-by said.answers is))) inr r)
          (said.rejects command asked refused never);
      read = λ is. never (five-by said.answers is);
      write = λ is. never (six-by said.answers is);
      no_command = λ none. usage-by said.answers none never;
    }
